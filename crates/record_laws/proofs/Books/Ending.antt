-- Calls end: a channel's use is over, or all those of an end, and the book stays right.
use Rattle.std.specs.Prelude.{◌≡◌, ℕ, ◌<◌, ◌≤◌, ◌⊎◌, true, false, List, length, slice_get, Option, Some, None}
use Rattle.std.proofs.Common.{inl, inr, refl, sym, ap, subst, ◌∙◌, arith, true≢false}
use Rattle.link_timers.specs.declared.role.Role.{Role}
use Rattle.link_timers.specs.Role.{other_of}
use Rattle.packet_laws.specs.History.{Epoch, History}
use Rattle.call_records.specs.Records.{RecordValue}
use Rattle.call_records.specs.Book.{Slot}
use Rattle.record_laws.proofs.Books.Basics.{role_is}
use Rattle.record_laws.proofs.Books.Invariant.{EndView, CallStatus, ChannelUse, Tag, BookParts, AreOpen, Stands, Fits, Tells, HasEpochs, SlotIs, PlacedIs, IsPast, IsRight, epoch_at, now, channel_use_in, sent_of, taken_of, sent_as, taken_as}
use Rattle.record_laws.proofs.Books.Invariant.CallStatus.{Idle}
use Rattle.record_laws.proofs.Books.Carrying.{SameCalls, SameHead, same_end, same_calls, stands_same, means_same, slot_same, placed_same, pair_same, past_same, channel_use_same}

-- a history stands later than another one
abbrev pub Further : History → History → Type 0
Further st st' = (st.restart < st'.restart) ⊎ ((st.restart ≡ st'.restart) × (st.use_ < st'.use_))

-- a record to which nothing was added
pub record Alike (r r' : RecordValue) : Type 0 where
  pub head : SameHead r r'
  pub sent_before : r'.sent_before ≡ r.sent_before
  pub sent : r'.sent ≡ r.sent
  pub taken_before : r'.taken_before ≡ r.taken_before
  pub taken : r'.taken ≡ r.taken

pub alike : (r : RecordValue) → Alike r r
alike r = record { head = record { number = refl; node = refl; own = refl; far = refl; caller = refl }; sent_before = refl; sent = refl; taken_before = refl; taken = refl }

pub record StandsStill (f f' : EndView) (c : ℕ) (slot slot' : Slot) : Type 0 where
  pub status : f'.status c ≡ f.status c
  pub restart : (s : ℕ) → f.session ≡ Some s → (f'.histories s c).restart ≡ (f.histories s c).restart
  pub uses : (s : ℕ) → f.session ≡ Some s → (f'.histories s c).use_ ≡ (f.histories s c).use_
  pub epoch : (s : ℕ) → f.session ≡ Some s → (f'.histories s c).epoch ≡ (f.histories s c).epoch
  pub slot_is : slot' ≡ slot

pub record IsOver (f f' : EndView) (c : ℕ) (slot slot' : Slot) : Type 0 where
  pub status : f'.status c ≡ Idle
  pub further : (s : ℕ) → f.session ≡ Some s → Further (f.histories s c) (f'.histories s c)
  pub present : slot'.present ≡ None

pub record Stays (f f' : EndView) (slots slots' : ℕ → Slot) : Type 0 where
  pub session : f'.session ≡ f.session
  pub channels : (c : ℕ) → StandsStill f f' c (slots c) (slots' c) ⊎ IsOver f f' c (slots c) (slots' c)

-- the session is over, and a new one is none in which anything was done
pub record Leaves (f f' : EndView) (slots' : ℕ → Slot) : Type 0 where
  pub fresh : (k : ChannelUse) → f'.session ≡ Some k.session → f.begun k ≡ false
  pub status : (c : ℕ) → f'.status c ≡ Idle
  pub present : (c : ℕ) → (slots' c).present ≡ None

pub record Ends (x : Role) (views views' : Role → EndView) (b : BookParts) (slots : Role → ℕ → Slot) (records : List RecordValue) : Type 0 where
  pub there : views' (other_of x) ≡ views (other_of x)
  pub epochs : (k : ChannelUse) (g : ℕ) → epoch_at (views' x) k g ≡ epoch_at (views x) k g
  pub begun : (k : ChannelUse) → (views x).begun k ≡ true → (views' x).begun k ≡ true
  pub top : (views x).top ≤ (views' x).top
  pub up : (s : ℕ) → (views' x).session ≡ Some s → s ≡ (views' x).top
  pub opened : AreOpen b.slots b.records → AreOpen slots records
  pub how : Stays (views x) (views' x) (b.slots x) (slots x) ⊎ Leaves (views x) (views' x) (slots x)
  pub placed : (c : ℕ) → (slots x c).placed ≡ (b.slots x c).placed
  pub slots_there : (c : ℕ) → slots (other_of x) c ≡ b.slots (other_of x) c
  pub count : length records ≡ length b.records
  pub kept : (n : ℕ) (r' : RecordValue) → slice_get records n ≡ Some r' → (r : RecordValue) × (slice_get b.records n ≡ Some r) × Alike r r'

-- ---- what stands at an earlier use is not the present one

pub past_further : (k : ChannelUse) (st st' : History) → IsPast k st → Further st st' → IsPast k st'
past_further k st st' p (inl h) = record { restarts = let a = p.restarts in omega arith; uses = λ e. let a = p.restarts in omega arith }
past_further k st st' p (inr h) = record { restarts = let a = p.restarts in let e = h.0 in omega arith; uses = λ e. let a = p.uses (e ∙ sym h.0) in let l = h.1 in omega arith }

pub never_now : (k : ChannelUse) (s c : ℕ) (st st' : History) → IsPast k st → Further st st' → k ≡ channel_use_in s c st' → ⊥
never_now k s c st st' p (inl h) e = let a = p.restarts in let r : k.restart ≡ st'.restart = ap (λ (z : ChannelUse). z.restart) e in omega arith
never_now k s c st st' p (inr h) e =
    let r : k.restart ≡ st'.restart = ap (λ (z : ChannelUse). z.restart) e in
    let u : k.use_ ≡ st'.use_ = ap (λ (z : ChannelUse). z.use_) e in
    let a = p.uses (r ∙ sym h.0) in let l = h.1 in omega arith

-- ---- a tag at the end itself

stays_stands : (f f' : EndView) (slots slots' : ℕ → Slot) (n : ℕ) (t : Tag) → ((k : ChannelUse) → f.begun k ≡ true → f'.begun k ≡ true) → f.top ≤ f'.top → Stays f f' slots slots' → Stands f slots n t → Stands f' slots' n t
stays_stands f f' slots slots' n t begun le st w =
    let s = t.channel_use.session in let c = t.channel_use.channel in
    elim (st.channels c) [
      | inl h ↦ record {
        begun = begun t.channel_use w.begun;
        top = let a = w.top in omega arith;
        past = λ up. let u : f.session ≡ Some s = sym st.session ∙ up in past_same t.channel_use (f.histories s c) (f'.histories s c) (h.restart s u) (h.uses s u) (w.past u);
        present = λ up is live. let u : f.session ≡ Some s = sym st.session ∙ up in
            ap (λ (z : Slot). z.present) h.slot_is ∙ w.present u (is ∙ channel_use_same s c (f.histories s c) (f'.histories s c) (h.restart s u) (h.uses s u)) live;
      }
      | inr h ↦ record {
        begun = begun t.channel_use w.begun;
        top = let a = w.top in omega arith;
        past = λ up. let u : f.session ≡ Some s = sym st.session ∙ up in past_further t.channel_use (f.histories s c) (f'.histories s c) (w.past u) (h.further s u);
        present = λ up is live. let u : f.session ≡ Some s = sym st.session ∙ up in absurd (never_now t.channel_use s c (f.histories s c) (f'.histories s c) (w.past u) (h.further s u) is);
      }
    ]

leaves_stands : (f f' : EndView) (slots slots' : ℕ → Slot) (n : ℕ) (t : Tag) → ((k : ChannelUse) → f.begun k ≡ true → f'.begun k ≡ true) → f.top ≤ f'.top → Leaves f f' slots' → Stands f slots n t → Stands f' slots' n t
leaves_stands f f' slots slots' n t begun le l w = record {
  begun = begun t.channel_use w.begun;
  top = let a = w.top in omega arith;
  past = λ up. absurd (true≢false (sym w.begun ∙ l.fresh t.channel_use up));
  present = λ up is live. absurd (true≢false (sym w.begun ∙ l.fresh t.channel_use up));
}

tells_same : (f f' : EndView) (k : ChannelUse) (r r' : RecordValue) → ((h : ChannelUse) (g : ℕ) → epoch_at f' h g ≡ epoch_at f h g) → Alike r r' → Tells f k r → Tells f' k r'
tells_same f f' k r r' same a w = record {
  sent = λ g. sent_as _ _ _ (ap sent_of (same k g)) (rw (a.sent_before, a.sent) (w.sent g));
  taken = λ g. taken_as _ _ _ (ap taken_of (same k g)) (rw (a.taken_before, a.taken) (w.taken g));
}

epochs_same : (r r' : RecordValue) (n m : ℕ) → Alike r r' → m ≡ n → HasEpochs r n → HasEpochs r' m
epochs_same r r' n m a e w = record {
  sent = ap length a.sent_before ∙ w.sent ∙ sym e;
  taken = ap length a.taken_before ∙ w.taken ∙ sym e;
}

-- the count of epochs, where the tag's use is the present one after it
abbrev CountStays : EndView → EndView → Tag → Type 0
CountStays f f' t = f'.session ≡ Some t.channel_use.session → t.channel_use ≡ now f' t.channel_use.session t.channel_use.channel
    → (f.session ≡ Some t.channel_use.session) × (t.channel_use ≡ now f t.channel_use.session t.channel_use.channel) × ((f'.histories t.channel_use.session t.channel_use.channel).epoch ≡ (f.histories t.channel_use.session t.channel_use.channel).epoch)

fits_alike : (f f' : EndView) (node n : ℕ) (t : Tag) (r r' : RecordValue) → ((h : ChannelUse) (g : ℕ) → epoch_at f' h g ≡ epoch_at f h g) → CountStays f f' t → Alike r r' → Fits f node n t r → Fits f' node n t r'
fits_alike f f' node n t r r' same count a w = record {
  number = a.head.number ∙ w.number;
  node_is = a.head.node ∙ w.node_is;
  own = a.head.own ∙ w.own;
  far = a.head.far ∙ w.far;
  caller = a.head.caller ∙ w.caller;
  tells = λ live. tells_same f f' t.channel_use r r' same a (w.tells live);
  none = λ k. record {
    sent = λ g. rw (a.sent_before, a.sent) ((w.none k).sent g);
    taken = λ g. rw (a.taken_before, a.taken) ((w.none k).taken g);
  };
  epochs = λ up is live. let h = count up is in epochs_same r r' (f.histories t.channel_use.session t.channel_use.channel).epoch (f'.histories t.channel_use.session t.channel_use.channel).epoch a h.2 (w.epochs h.0 h.1 live);
}

stays_count : (f f' : EndView) (slots slots' : ℕ → Slot) (n : ℕ) (t : Tag) → Stays f f' slots slots' → Stands f slots n t → CountStays f f' t
stays_count f f' slots slots' n t st w up is =
    let s = t.channel_use.session in let c = t.channel_use.channel in
    let u : f.session ≡ Some s = sym st.session ∙ up in
    elim (st.channels c) [
      | inl h ↦ (u, is ∙ channel_use_same s c (f.histories s c) (f'.histories s c) (h.restart s u) (h.uses s u), h.epoch s u)
      | inr h ↦ absurd (never_now t.channel_use s c (f.histories s c) (f'.histories s c) (w.past u) (h.further s u) is)
    ]

leaves_count : (f f' : EndView) (slots slots' : ℕ → Slot) (n : ℕ) (t : Tag) → Leaves f f' slots' → Stands f slots n t → CountStays f f' t
leaves_count f f' slots slots' n t l w up is = absurd (true≢false (sym w.begun ∙ l.fresh t.channel_use up))

module _ (x : Role) (views views' : Role → EndView) (b : BookParts) (slots : Role → ℕ → Slot) (records : List RecordValue) (tags : List Tag) (w : IsRight views b tags) (q : Ends x views views' b slots records) where
  stands_of : (y : Role) (n : ℕ) (t : Tag) → (y ≡ x) ⊎ (y ≡ other_of x) → Stands (views y) (b.slots y) n t → Stands (views' y) (slots y) n t
  stands_of y n t (inl e) old = subst (λ (z : Role). Stands (views z) (b.slots z) n t → Stands (views' z) (slots z) n t) (sym e)
      (λ o. elim q.how [
        | inl h ↦ stays_stands (views x) (views' x) (b.slots x) (slots x) n t q.begun q.top h o
        | inr h ↦ leaves_stands (views x) (views' x) (b.slots x) (slots x) n t q.begun q.top h o
      ]) old
  stands_of y n t (inr e) old = subst (λ (z : Role). Stands (views z) (b.slots z) n t → Stands (views' z) (slots z) n t) (sym e)
      (λ o. stands_same (views (other_of x)) (views' (other_of x)) (b.slots (other_of x)) (slots (other_of x)) n t (same_end (views (other_of x)) (views' (other_of x)) q.there) (ap (λ (z : Slot). z.present) (q.slots_there t.channel_use.channel)) o) old

  calls_of : (y : Role) → SameCalls (views y) (views' y)
  calls_of y =
      elim (role_is x y) [
        | inl e ↦ subst (λ (z : Role). SameCalls (views z) (views' z)) (sym e) (record { called = λ k. ap (λ (z : Epoch). z.called) (q.epochs k 0); answered = λ k. ap (λ (z : Epoch). z.answered) (q.epochs k 0) })
        | inr e ↦ subst (λ (z : Role). SameCalls (views z) (views' z)) (sym e) (same_calls (views (other_of x)) (views' (other_of x)) q.there)
      ]

  epochs_of : (y : Role) (k : ChannelUse) (g : ℕ) → epoch_at (views' y) k g ≡ epoch_at (views y) k g
  epochs_of y k g =
      elim (role_is x y) [
        | inl e ↦ subst (λ (z : Role). epoch_at (views' z) k g ≡ epoch_at (views z) k g) (sym e) (q.epochs k g)
        | inr e ↦ subst (λ (z : Role). epoch_at (views' z) k g ≡ epoch_at (views z) k g) (sym e) (ap (λ (f : EndView). epoch_at f k g) q.there)
      ]

  count_of : (y : Role) (n : ℕ) (t : Tag) → Stands (views y) (b.slots y) n t → CountStays (views y) (views' y) t
  count_of y n t old =
      elim (role_is x y) [
        | inl e ↦ subst (λ (z : Role). Stands (views z) (b.slots z) n t → CountStays (views z) (views' z) t) (sym e)
            (λ o. elim q.how [
              | inl h ↦ stays_count (views x) (views' x) (b.slots x) (slots x) n t h o
              | inr h ↦ leaves_count (views x) (views' x) (b.slots x) (slots x) n t h o
            ]) old
        | inr e ↦ subst (λ (z : Role). CountStays (views z) (views' z) t) (sym e) (subst (λ (f : EndView). CountStays (views (other_of x)) f t) (sym q.there) (λ up is. (up, is, refl)))
      ]

  fits_of : (n : ℕ) (t : Tag) (r' : RecordValue) → slice_get tags n ≡ Some t → slice_get records n ≡ Some r' → Fits (views' t.role) (b.nodes t.role) n t r'
  fits_of n t r' there got =
      let k = q.kept n r' got in
      fits_alike (views t.role) (views' t.role) (b.nodes t.role) n t k.0 r' (epochs_of t.role) (count_of t.role n t (w.stands n t there)) k.2 (w.fits n t k.0 there k.1)

  still_slot : (c : ℕ) → (views' x).session ≡ (views x).session → StandsStill (views x) (views' x) c (b.slots x c) (slots x c) → SlotIs ((views' x).status c) (views' x) tags x c (slots x c)
  still_slot c e h =
      subst (λ (m : CallStatus). SlotIs m (views' x) tags x c (slots x c)) (sym h.status)
      (subst (λ (z : Slot). SlotIs ((views x).status c) (views' x) tags x c z) (sym h.slot_is)
      (slot_same ((views x).status c) (views x) (views' x) tags x c (b.slots x c) e (λ s u. channel_use_same s c ((views x).histories s c) ((views' x).histories s c) (h.restart s u) (h.uses s u)) (λ k a. (calls_of x).answered k ∙ a) (w.slot x c)))

  idle_slot : (c : ℕ) → (views' x).status c ≡ Idle → (slots x c).present ≡ None → SlotIs ((views' x).status c) (views' x) tags x c (slots x c)
  idle_slot c e h = subst (λ (m : CallStatus). SlotIs m (views' x) tags x c (slots x c)) (sym e) h

  slot_here : (c : ℕ) → SlotIs ((views' x).status c) (views' x) tags x c (slots x c)
  slot_here c =
      elim q.how [
        | inl st ↦ elim (st.channels c) [
          | inl h ↦ still_slot c st.session h
          | inr h ↦ idle_slot c h.status h.present
        ]
        | inr l ↦ idle_slot c (l.status c) (l.present c)
      ]

  slot_there : (c : ℕ) → SlotIs ((views' (other_of x)).status c) (views' (other_of x)) tags (other_of x) c (slots (other_of x) c)
  slot_there c =
      subst (λ (f : EndView). SlotIs (f.status c) f tags (other_of x) c (slots (other_of x) c)) (sym q.there)
      (subst (λ (z : Slot). SlotIs ((views (other_of x)).status c) (views (other_of x)) tags (other_of x) c z) (sym (q.slots_there c)) (w.slot (other_of x) c))

  slot_of : (y : Role) (c : ℕ) → SlotIs ((views' y).status c) (views' y) tags y c (slots y c)
  slot_of y c =
      elim (role_is x y) [
        | inl e ↦ subst (λ (z : Role). SlotIs ((views' z).status c) (views' z) tags z c (slots z c)) (sym e) (slot_here c)
        | inr e ↦ subst (λ (z : Role). SlotIs ((views' z).status c) (views' z) tags z c (slots z c)) (sym e) (slot_there c)
      ]

  placed_of : (y : Role) (c : ℕ) → PlacedIs (slots y c).placed (views' y) tags y c
  placed_of y c =
      elim (role_is x y) [
        | inl e ↦ subst (λ (z : Role). PlacedIs (slots z c).placed (views' z) tags z c) (sym e)
            (subst (λ (o : Option ℕ). PlacedIs o (views' x) tags x c) (sym (q.placed c)) (placed_same (b.slots x c).placed (views x) (views' x) tags x c q.top (λ k h. (calls_of x).called k) (w.placed x c)))
        | inr e ↦ subst (λ (z : Role). PlacedIs (slots z c).placed (views' z) tags z c) (sym e)
            (subst (λ (f : EndView). PlacedIs (slots (other_of x) c).placed f tags (other_of x) c) (sym q.there)
            (subst (λ (z : Slot). PlacedIs z.placed (views (other_of x)) tags (other_of x) c) (sym (q.slots_there c)) (w.placed (other_of x) c)))
      ]

  tops_of : (y : Role) (s : ℕ) → (views' y).session ≡ Some s → s ≡ (views' y).top
  tops_of y s =
      elim (role_is x y) [
        | inl e ↦ subst (λ (z : Role). (views' z).session ≡ Some s → s ≡ (views' z).top) (sym e) (q.up s)
        | inr e ↦ subst (λ (z : Role). (views' z).session ≡ Some s → s ≡ (views' z).top) (sym e) (subst (λ (f : EndView). f.session ≡ Some s → s ≡ f.top) (sym q.there) (w.tops (other_of x) s))
      ]

  pub ended_right : IsRight views' (record b { slots = slots; records = records }) tags
  ended_right = record {
    stands = λ n t e. stands_of t.role n t (role_is x t.role) (w.stands n t e);
    means = λ n t e. means_same (views t.role) (views' t.role) (views (other_of t.role)) (views' (other_of t.role)) b.pairs tags n t (calls_of t.role) (calls_of (other_of t.role)) (w.means n t e);
    fits = fits_of;
    slot = slot_of;
    placed = placed_of;
    tops = tops_of;
    alone = w.alone;
    pairs = λ i p e. pair_same views views' tags p calls_of (w.pairs i p e);
    accepted = λ y k h. w.accepted y k (sym ((calls_of y).answered k) ∙ h);
    once = w.once;
    count = w.count ∙ sym q.count;
    opened = q.opened w.opened;
  }
