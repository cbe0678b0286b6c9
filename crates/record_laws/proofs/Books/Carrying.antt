-- A call goes on: its record grows by what its end does in the present use, and all else of the book stays right.
use Rattle.std.specs.Prelude.{◌≡◌, ◌≢◌, ℕ, ◌≤◌, ◌⊎◌, true, List, length, slice_get, Option, Some, None}
use Rattle.std.proofs.Common.{inl, inr, refl, sym, ap, subst, ◌∙◌, arith}
use Rattle.std.proofs.lemmas.Option.{same_Some}
use Rattle.link_timers.specs.declared.role.Role.{Role}
use Rattle.link_timers.specs.Role.{other_of}
use Rattle.data_transfer.specs.Packets.{CallParts}
use Rattle.packet_laws.specs.History.{History}
use Rattle.std.specs.Option.{IsSome}
use Rattle.call_records.specs.Records.{RecordValue, PairValue}
use Rattle.call_records.specs.Book.{Slot}
use Rattle.record_laws.proofs.Books.Basics.{is_role, number_is}
use Rattle.record_laws.proofs.Books.Invariant.{EndView, CallStatus, ChannelUse, Tag, BookParts, IsLive, Stands, Means, Fits, Tells, HasEpochs, Present, SlotIs, PlacedIs, IsPast, IsPair, IsRight, epoch_at, called_at, answered_at, now, channel_use_in, sent_of, taken_of, sent_as, taken_as}
use Rattle.record_laws.proofs.Books.Presence.{kept_open}
use Rattle.record_laws.proofs.Books.Invariant.CallStatus.{Idle, OwnCall, FarCall, Open}

-- ---- an end of which the book sees the same but for what is sent and taken

pub record SameCalls (f f' : EndView) : Type 0 where
  pub called : (k : ChannelUse) → called_at f' k ≡ called_at f k
  pub answered : (k : ChannelUse) → answered_at f' k ≡ answered_at f k

pub record SameEnd (f f' : EndView) : Type 0 where
  pub session : f'.session ≡ f.session
  pub top : f'.top ≡ f.top
  pub begun : (k : ChannelUse) → f.begun k ≡ true → f'.begun k ≡ true
  pub restart : (s c : ℕ) → (f'.histories s c).restart ≡ (f.histories s c).restart
  pub uses : (s c : ℕ) → (f'.histories s c).use_ ≡ (f.histories s c).use_

pub same_end : (f f' : EndView) → f' ≡ f → SameEnd f f'
same_end f f' e = subst (λ (g : EndView). SameEnd f g) (sym e) (record {
  session = refl;
  top = refl;
  begun = λ s h. h;
  restart = λ s c. refl;
  uses = λ s c. refl;
})

pub same_calls : (f f' : EndView) → f' ≡ f → SameCalls f f'
same_calls f f' e = subst (λ (g : EndView). SameCalls f g) (sym e) (record { called = λ k. refl; answered = λ k. refl })

pub channel_use_same : (s c : ℕ) (st st' : History) → st'.restart ≡ st.restart → st'.use_ ≡ st.use_ → channel_use_in s c st' ≡ channel_use_in s c st
channel_use_same s c st st' r u = rw (r, u) refl

pub now_same : (f f' : EndView) → SameEnd f f' → (s c : ℕ) → now f' s c ≡ now f s c
now_same f f' h s c = channel_use_same s c (f.histories s c) (f'.histories s c) (h.restart s c) (h.uses s c)

pub past_same : (k : ChannelUse) (st st' : History) → st'.restart ≡ st.restart → st'.use_ ≡ st.use_ → IsPast k st → IsPast k st'
past_same k st st' r u h = record {
  restarts = subst (λ (n : ℕ). k.restart ≤ n) (sym r) h.restarts;
  uses = λ e. subst (λ (n : ℕ). k.use_ ≤ n) (sym u) (h.uses (e ∙ r));
}

pub stands_same : (f f' : EndView) (slots slots' : ℕ → Slot) (n : ℕ) (t : Tag) → SameEnd f f' → (slots' t.channel_use.channel).present ≡ (slots t.channel_use.channel).present → Stands f slots n t → Stands f' slots' n t
stands_same f f' slots slots' n t h e w = record {
  begun = h.begun t.channel_use w.begun;
  top = let a = w.top in let e = h.top in omega arith;
  past = λ up. past_same t.channel_use (f.histories t.channel_use.session t.channel_use.channel) (f'.histories t.channel_use.session t.channel_use.channel) (h.restart t.channel_use.session t.channel_use.channel) (h.uses t.channel_use.session t.channel_use.channel) (w.past (sym h.session ∙ up));
  present = λ up is live. e ∙ w.present (sym h.session ∙ up) (is ∙ now_same f f' h t.channel_use.session t.channel_use.channel) live;
}

pub means_same : (f f' y y' : EndView) (pairs : List PairValue) (tags : List Tag) (n : ℕ) (t : Tag) → SameCalls f f' → SameCalls y y' → Means f y pairs tags n t → Means f' y' pairs tags n t
means_same f f' y y' pairs tags n t h g w = record {
  caller = λ e. let o = w.caller e in record {
    called = subst (λ (p : Option CallParts). IsSome p) (sym (h.called t.channel_use)) o.called;
    not_answered = h.answered t.channel_use ∙ o.not_answered;
    paired = λ a. o.paired (sym (g.answered t.channel_use) ∙ a);
  };
  callee = λ a e. let o = w.callee a e in record {
    far = o.far;
    order = o.order;
    mate = o.mate;
    there = o.there;
    calls = o.calls;
    role = o.role;
    channel_use = o.channel_use;
    address = o.address;
    free = λ d. h.called t.channel_use ∙ o.free d;
    paired = λ b. o.paired (sym (h.answered t.channel_use) ∙ b);
  };
  cancelled = λ e. let o = w.cancelled e in record {
    role = o.role;
    met = subst (λ (p : Option CallParts). IsSome p) (sym (g.called t.channel_use)) o.met;
  };
}

abbrev pub present_same : (f f' : EndView) (tags : List Tag) (x : Role) (c : ℕ) (slot : Slot) → f'.session ≡ f.session → ((s : ℕ) → f.session ≡ Some s → now f' s c ≡ now f s c) → Present f tags x c slot → Present f' tags x c slot
present_same f f' tags x c slot session at_now p = record {
  session = p.session;
  number = p.number;
  tag = p.tag;
  up = session ∙ p.up;
  is_present = p.is_present;
  there = p.there;
  role = p.role;
  channel_use = p.channel_use ∙ sym (at_now p.session p.up);
  live = p.live;
}

pub slot_same : (m : CallStatus) (f f' : EndView) (tags : List Tag) (x : Role) (c : ℕ) (slot : Slot) → f'.session ≡ f.session → ((s : ℕ) → f.session ≡ Some s → now f' s c ≡ now f s c) → ((k : ChannelUse) → answered_at f k ≡ true → answered_at f' k ≡ true) → SlotIs m f tags x c slot → SlotIs m f' tags x c slot
slot_same Idle f f' tags x c slot h a n w = w
slot_same OwnCall f f' tags x c slot h a n w = (present_same f f' tags x c slot h a w.0, w.1, w.2)
slot_same FarCall f f' tags x c slot h a n w = (present_same f f' tags x c slot h a w.0, w.1, w.2, w.3)
slot_same Open f f' tags x c slot h a n w = (present_same f f' tags x c slot h a w.0, λ b e. let v = w.1 b e in (v.0, n w.0.tag.channel_use v.1), w.2)

pub placed_same : (o : Option ℕ) (f f' : EndView) (tags : List Tag) (x : Role) (c : ℕ) → f.top ≤ f'.top → ((k : ChannelUse) → k.channel ≡ c → called_at f' k ≡ called_at f k) → PlacedIs o f tags x c → PlacedIs o f' tags x c
placed_same None f f' tags x c top called w = λ k e. called k e ∙ w k e
placed_same (Some n) f f' tags x c top called w = record {
  tag = w.tag;
  parts = w.parts;
  there = w.there;
  role = w.role;
  channel = w.channel;
  session = let h = w.session in omega arith;
  called = called w.tag.channel_use w.channel ∙ w.called;
  own = w.own;
  far = w.far;
  placed = w.placed;
  last = λ k e some. w.last k e (subst (λ (p : Option CallParts). IsSome p) (called k e) some);
}

pub pair_same : (views views' : Role → EndView) (tags : List Tag) (p : PairValue) → ((x : Role) → SameCalls (views x) (views' x)) → IsPair views tags p → IsPair views' tags p
pair_same views views' tags p same w = record {
  tag = w.tag;
  there = w.there;
  kind = w.kind;
  answered = (same w.tag.role).answered w.tag.channel_use ∙ w.answered;
}

-- ---- one call goes on

-- not the present use of channel c at x
abbrev pub IsElse : Role → EndView → (s c : ℕ) → Role → ChannelUse → Type 0
IsElse x f s c y k = (y ≡ x) × (k ≡ now f s c) → ⊥

pub record SameHead (r r' : RecordValue) : Type 0 where
  pub number : r'.number ≡ r.number
  pub node : r'.node ≡ r.node
  pub own : r'.own ≡ r.own
  pub far : r'.far ≡ r.far
  pub caller : r'.caller ≡ r.caller

-- the record of the present call grows as its end's history does
pub record Grows (f f' : EndView) (s c : ℕ) (r r' : RecordValue) : Type 0 where
  pub head : SameHead r r'
  pub closed : r'.closed ≡ r.closed
  pub tells : Tells f (now f s c) r → HasEpochs r (f.histories s c).epoch → Tells f' (now f s c) r'
  pub epochs : HasEpochs r (f.histories s c).epoch → HasEpochs r' (f'.histories s c).epoch

pub record Carries (x : Role) (c : ℕ) (views views' : Role → EndView) (b : BookParts) (records : List RecordValue) (tags : List Tag) : Type 0 where
  pub same : (y : Role) → SameEnd (views y) (views' y)
  pub calls : (y : Role) → SameCalls (views y) (views' y)
  pub status : (y : Role) (d : ℕ) → ((y ≡ x) × (d ≡ c) → ⊥) → (views' y).status d ≡ (views y).status d
  pub here : SlotIs ((views' x).status c) (views x) tags x c (b.slots x c)
  pub now_there : Present (views x) tags x c (b.slots x c)
  pub logs : (y : Role) (k : ChannelUse) (g : ℕ) → IsElse x (views x) now_there.session c y k → epoch_at (views' y) k g ≡ epoch_at (views y) k g
  pub epoch : (y : Role) (s d : ℕ) → ((y ≡ x) × (s ≡ now_there.session) × (d ≡ c) → ⊥) → ((views' y).histories s d).epoch ≡ ((views y).histories s d).epoch
  pub count : length records ≡ length b.records
  pub kept : (n : ℕ) (r' : RecordValue) → slice_get records n ≡ Some r'
      → (r : RecordValue) × (slice_get b.records n ≡ Some r) × (((n ≡ now_there.number) × Grows (views x) (views' x) now_there.session c r r') ⊎ ((n ≢ now_there.number) × (r' ≡ r)))

pub same_tag : (tags : List Tag) (n : ℕ) (t u : Tag) → slice_get tags n ≡ Some t → slice_get tags n ≡ Some u → t ≡ u
same_tag tags n t u a b = same_Some t u (sym a ∙ b)

same_number : (m n : ℕ) → Some m ≡ Some n → m ≡ n
same_number m n e = same_Some m n e

-- a live record of the present use is that of the present call
pub is_present : (f : EndView) (slots : ℕ → Slot) (tags : List Tag) (x : Role) (c : ℕ) (p : Present f tags x c (slots c)) (n : ℕ) (t : Tag) → Stands f slots n t → t.channel_use ≡ now f p.session c → IsLive t.kind → n ≡ p.number
is_present f slots tags x c p n t w e live =
    let here : t.channel_use.channel ≡ c = ap (λ (k : ChannelUse). k.channel) e in
    let when : t.channel_use.session ≡ p.session = ap (λ (k : ChannelUse). k.session) e in
    same_number n p.number
    (sym (w.present (p.up ∙ ap (λ (s : ℕ). Some s) (sym when)) (e ∙ ap (λ (s : ℕ). now f s c) (sym when) ∙ ap (λ (d : ℕ). now f t.channel_use.session d) (sym here)) live)
    ∙ ap (λ (d : ℕ). (slots d).present) here ∙ p.is_present)

slot_there : (x : Role) (y : Role) (t : Tag) → t.role ≡ x → x ≡ y → t.role ≡ y
slot_there x y t a b = a ∙ b

module _ (x : Role) (c : ℕ) (views views' : Role → EndView) (b : BookParts) (records : List RecordValue) (tags : List Tag) (w : IsRight views b tags) (q : Carries x c views views' b records tags) where
  -- the present call's record
  fits_here : (n : ℕ) (t : Tag) (r r' : RecordValue) → slice_get tags n ≡ Some t → n ≡ q.now_there.number → Grows (views x) (views' x) q.now_there.session c r r' → Fits (views t.role) (b.nodes t.role) n t r → Fits (views' t.role) (b.nodes t.role) n t r'
  fits_here n t r r' there is g old =
      let p = q.now_there in
      let e : t ≡ p.tag = same_tag tags n t p.tag there (ap (λ (m : ℕ). slice_get tags m) is ∙ p.there) in
      let role : t.role ≡ x = ap (λ (u : Tag). u.role) e ∙ p.role in
      let channel_use : t.channel_use ≡ now (views x) p.session c = ap (λ (u : Tag). u.channel_use) e ∙ p.channel_use in
      let live : IsLive t.kind = subst (λ (u : Tag). IsLive u.kind) (sym e) p.live in
      let up : (views t.role).session ≡ Some t.channel_use.session = ap (λ (y : Role). (views y).session) role ∙ p.up ∙ ap (λ (k : ChannelUse). Some k.session) (sym channel_use) in
      let at_now : t.channel_use ≡ now (views t.role) t.channel_use.session t.channel_use.channel =
      channel_use ∙ ap (λ (y : Role). now (views y) p.session c) (sym role) ∙ ap (λ (k : ChannelUse). now (views t.role) k.session k.channel) (sym channel_use) in
      let epochs : HasEpochs r ((views x).histories p.session c).epoch =
      subst (λ (y : Role). HasEpochs r ((views y).histories p.session c).epoch) role
      (subst (λ (k : ChannelUse). HasEpochs r ((views t.role).histories k.session k.channel).epoch) channel_use (old.epochs up at_now live)) in
      let tells : Tells (views x) (now (views x) p.session c) r =
      subst (λ (y : Role). Tells (views y) (now (views x) p.session c) r) role (subst (λ (k : ChannelUse). Tells (views t.role) k r) channel_use (old.tells live)) in
      record {
        number = g.head.number ∙ old.number;
        node_is = g.head.node ∙ old.node_is;
        own = g.head.own ∙ old.own;
        far = g.head.far ∙ old.far;
        caller = g.head.caller ∙ old.caller;
        tells = λ l. subst (λ (k : ChannelUse). Tells (views' t.role) k r') (sym channel_use) (subst (λ (y : Role). Tells (views' y) (now (views x) p.session c) r') (sym role) (g.tells tells epochs));
        none = λ k. absurd (live k);
        epochs = λ u a l. subst (λ (k : ChannelUse). HasEpochs r' ((views' t.role).histories k.session k.channel).epoch) (sym channel_use) (subst (λ (y : Role). HasEpochs r' ((views' y).histories p.session c).epoch) (sym role) (g.epochs epochs));
      }

  -- any other record
  fits_else : (n : ℕ) (t : Tag) (r : RecordValue) → slice_get tags n ≡ Some t → n ≢ q.now_there.number → Fits (views t.role) (b.nodes t.role) n t r → Fits (views' t.role) (b.nodes t.role) n t r
  fits_else n t r there other old =
      let p = q.now_there in
      let stands = w.stands n t there in
      let elsewhere : IsLive t.kind → IsElse x (views x) p.session c t.role t.channel_use = λ live h.
      other (is_present (views x) (b.slots x) tags x c p n t (subst (λ (y : Role). Stands (views y) (b.slots y) n t) h.0 stands) h.1 live) in
      record {
        number = old.number;
        node_is = old.node_is;
        own = old.own;
        far = old.far;
        caller = old.caller;
        tells = λ live. record {
          sent = λ g. sent_as _ _ _ (ap sent_of (q.logs t.role t.channel_use g (elsewhere live))) ((old.tells live).sent g);
          taken = λ g. taken_as _ _ _ (ap taken_of (q.logs t.role t.channel_use g (elsewhere live))) ((old.tells live).taken g);
        };
        none = old.none;
        epochs = λ up is live.
            let is_now : t.channel_use ≡ now (views t.role) t.channel_use.session t.channel_use.channel = is ∙ now_same (views t.role) (views' t.role) (q.same t.role) t.channel_use.session t.channel_use.channel in
            subst (λ (n : ℕ). HasEpochs r n)
            (sym (q.epoch t.role t.channel_use.session t.channel_use.channel (λ h. elsewhere live (h.0, is_now ∙ ap (λ (y : Role). now (views y) t.channel_use.session t.channel_use.channel) h.0 ∙ ap (λ (s : ℕ). now (views x) s t.channel_use.channel) h.1 ∙ ap (λ (d : ℕ). now (views x) p.session d) h.2))))
            (old.epochs (sym ((q.same t.role).session) ∙ up) is_now live);
      }

  fits_all : (n : ℕ) (t : Tag) (r' : RecordValue) → slice_get tags n ≡ Some t → slice_get records n ≡ Some r' → Fits (views' t.role) (b.nodes t.role) n t r'
  fits_all n t r' there got =
      let k = q.kept n r' got in
      elim k.2 [
        | inl h ↦ fits_here n t k.0 r' there h.0 h.1 (w.fits n t k.0 there k.1)
        | inr h ↦ fits_else n t r' there h.0 (subst (λ (r : RecordValue). Fits (views t.role) (b.nodes t.role) n t r) (sym h.1) (w.fits n t k.0 there k.1))
      ]

  slot_all : (y : Role) (d : ℕ) → (y ≡ x) ⊎ (y ≢ x) → (d ≡ c) ⊎ (d ≢ c) → SlotIs ((views' y).status d) (views' y) tags y d (b.slots y d)
  slot_all y d (inl e) (inl h) = subst (λ (z : Role). SlotIs ((views' z).status d) (views' z) tags z d (b.slots z d)) (sym e) (subst (λ (k : ℕ). SlotIs ((views' x).status k) (views' x) tags x k (b.slots x k)) (sym h)
      (slot_same ((views' x).status c) (views x) (views' x) tags x c (b.slots x c) (q.same x).session (λ s e. now_same (views x) (views' x) (q.same x) s c) (λ k h. (q.calls x).answered k ∙ h) q.here))
  slot_all y d (inl e) (inr h) = subst (λ (m : CallStatus). SlotIs m (views' y) tags y d (b.slots y d)) (sym (q.status y d (λ a. h a.1)))
      (slot_same ((views y).status d) (views y) (views' y) tags y d (b.slots y d) (q.same y).session (λ s e. now_same (views y) (views' y) (q.same y) s d) (λ k h. (q.calls y).answered k ∙ h) (w.slot y d))
  slot_all y d (inr e) h = subst (λ (m : CallStatus). SlotIs m (views' y) tags y d (b.slots y d)) (sym (q.status y d (λ a. e a.0)))
      (slot_same ((views y).status d) (views y) (views' y) tags y d (b.slots y d) (q.same y).session (λ s e. now_same (views y) (views' y) (q.same y) s d) (λ k h. (q.calls y).answered k ∙ h) (w.slot y d))

  pub carried_right : IsRight views' (record b { records = records }) tags
  carried_right = record {
    stands = λ n t e. stands_same (views t.role) (views' t.role) (b.slots t.role) (b.slots t.role) n t (q.same t.role) refl (w.stands n t e);
    means = λ n t e. means_same (views t.role) (views' t.role) (views (other_of t.role)) (views' (other_of t.role)) b.pairs tags n t (q.calls t.role) (q.calls (other_of t.role)) (w.means n t e);
    fits = fits_all;
    slot = λ y d. slot_all y d (is_role x y) (number_is d c);
    placed = λ y d. placed_same (b.slots y d).placed (views y) (views' y) tags y d (let h = (q.same y).top in omega arith) (λ k e. (q.calls y).called k) (w.placed y d);
    tops = λ y s e. w.tops y s (sym ((q.same y).session) ∙ e) ∙ sym (q.same y).top;
    alone = w.alone;
    pairs = λ i p e. pair_same views views' tags p q.calls (w.pairs i p e);
    accepted = λ y k h. w.accepted y k (sym ((q.calls y).answered k) ∙ h);
    once = w.once;
    count = w.count ∙ sym q.count;
    opened = kept_open b.slots b.records records (λ n r' e. let k = q.kept n r' e in (
      k.0,
      k.1,
      elim k.2 [
        | inl h ↦ h.1.closed
        | inr h ↦ ap (λ (r : RecordValue). r.closed) h.1
      ],
    )) w.opened;
  }
