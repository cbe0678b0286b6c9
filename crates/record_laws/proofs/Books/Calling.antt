-- A call is placed, and a call comes in: the record that it makes.
use Rattle.std.specs.Prelude.{◌≡◌, ◌≢◌, ℕ, zero, suc, ◌≤◌, true, false, List, [], ◌∷◌, ◌++◌, length, map, slice_get, Option, Some, None}
use Rattle.std.proofs.Common.{inl, inr, refl, sym, ap, subst, ◌∙◌, arith, true≢false}
use Rattle.std.proofs.lemmas.Option.{same_Some, slice_get_within}
use Rattle.epochs.specs.Epoch.{nothing_sent, nothing_taken}
use Rattle.link_timers.specs.declared.role.Role.{Role}
use Rattle.link_timers.specs.declared.role.Role.TheVariants.{Dte}
use Rattle.link_timers.specs.Role.{other_of}
use Rattle.data_transfer.specs.Packets.{CallParts}
use Rattle.std.specs.Option.{IsSome}
use Rattle.call_records.specs.Records.{new_record}
use Rattle.call_records.specs.Book.{Slot, address_of}
use Rattle.record_laws.proofs.Books.Basics.{twice, get_last, get_before, map_pushed}
use Rattle.record_laws.proofs.Books.Invariant.{EndView, CallStatus, ChannelUse, Kind, Tag, came_from, BookParts, Stands, Means, Fits, Tells, HasEpochs, Present, SlotIs, IsPlaced, PlacedIs, UpTo, IsPast, IsRight, IsCallee, epoch_at, called_at, answered_at, now, sent_of, taken_of, nth_sent, nth_taken, nothing_passed, own_sent, own_taken, sent_as, taken_as, nothing_sent_yet, nothing_taken_yet}
use Rattle.record_laws.proofs.Books.Invariant.CallStatus.{OwnCall, FarCall}
use Rattle.record_laws.proofs.Books.Invariant.Kind.{Caller, Callee, Cancelled}
use Rattle.record_laws.proofs.Books.Carrying.{channel_use_same, placed_same}
use Rattle.record_laws.proofs.Books.Cancelling.{caller_not_callee, caller_not_cancelled, callee_not_cancelled, none_is_not_some}
use Rattle.record_laws.proofs.Books.Adding.{Adds, Begins, added_right, placed_more}
use Rattle.record_laws.proofs.Books.Concluding.{kind_cases}

some_is : (o : Option CallParts) (parts : CallParts) → o ≡ Some parts → IsSome o
some_is o parts e = subst (λ (p : Option CallParts). IsSome p) (sym e) refl

-- a new record has one empty epoch each way
pub none_sent : (g : ℕ) → nth_sent (nothing_sent ∷ []) g ≡ nothing_passed
none_sent zero = refl
none_sent (suc g) = refl

pub none_taken : (g : ℕ) → nth_taken (nothing_taken ∷ []) g ≡ nothing_passed
none_taken zero = refl
none_taken (suc g) = refl

-- the present use before a call of the end
pub record IsNew (f : EndView) (s c : ℕ) : Type 0 where
  pub begun : f.begun (now f s c) ≡ true
  pub first : (f.histories s c).epoch ≡ 0
  pub not_answered : answered_at f (now f s c) ≡ false
  pub sent : (g : ℕ) → sent_of (epoch_at f (now f s c) g) ≡ nothing_passed
  pub taken : (g : ℕ) → taken_of (epoch_at f (now f s c) g) ≡ nothing_passed

-- what a new record of the present use stands for fits
module _ (f f' : EndView) (s c node n : ℕ) (slots : ℕ → Slot) (own far : Option (List ℕ)) (kind : Kind) (q : Adds f f' s c) (new : IsNew f s c) where
  abbrev tag : Tag → Type 0
  tag t = (t.channel_use ≡ now f s c) × (t.own ≡ own) × (t.far ≡ far)

  pub new_stands : (t : Tag) → t.channel_use ≡ now f s c → (slots c).present ≡ Some n → s ≡ f.top → Stands f' slots n t
  new_stands t e here least = record {
    top = subst (λ (k : ChannelUse). k.session ≤ f'.top) (sym e) (let h = q.top in omega arith);
    begun = subst (λ (k : ChannelUse). f'.begun k ≡ true) (sym e) (q.begun (now f s c) new.begun);
    past = λ up. subst (λ (k : ChannelUse). IsPast k (f'.histories k.session k.channel)) (sym e)
        (record { restarts = let h = q.restart s c in omega arith; uses = λ a. let h = q.uses s c in omega arith });
    present = λ up is live. ap (λ (k : ChannelUse). (slots k.channel).present) e ∙ here;
  }

  pub new_fits : (t : Tag) → t.channel_use ≡ now f s c → t.own ≡ own → t.far ≡ far → (t.kind ≡ Cancelled → ⊥) → (caller : Option ℕ) → caller ≡ came_from t → Fits f' node n t (new_record n node own far caller)
  new_fits t e o a live caller i = record {
    number = refl;
    node_is = refl;
    own = sym o;
    far = sym a;
    caller = i;
    tells = λ l. subst (λ (k : ChannelUse). Tells f' k (new_record n node own far caller)) (sym e) (record {
      sent = λ g. own_sent nothing_passed _ _ (none_sent g) (sent_as nothing_passed nothing_passed _ (q.sent (now f s c) g ∙ new.sent g) nothing_sent_yet);
      taken = λ g. own_taken nothing_passed _ _ (none_taken g) (taken_as nothing_passed nothing_passed _ (q.taken (now f s c) g ∙ new.taken g) nothing_taken_yet);
    });
    none = λ k. absurd (live k);
    epochs = λ up is l. subst (λ (k : ChannelUse). HasEpochs (new_record n node own far caller) (f'.histories k.session k.channel).epoch) (sym e)
        (record { sent = sym (q.epoch s c ∙ new.first); taken = sym (q.epoch s c ∙ new.first) });
  }

-- ---- a call is placed

pub record Places (x : Role) (s c : ℕ) (parts : CallParts) (views views' : Role → EndView) (b : BookParts) (slots : Role → ℕ → Slot) : Type 0 where
  pub there : views' (other_of x) ≡ views (other_of x)
  pub here : Adds (views x) (views' x) s c
  pub new : IsNew (views x) s c
  pub called : called_at (views' x) (now (views x) s c) ≡ Some parts
  pub not_answered : answered_at (views (other_of x)) (now (views x) s c) ≡ false
  pub earlier : (k : ChannelUse) → k.session ≡ s → k.channel ≡ c → IsSome (called_at (views x) k) → IsPast k ((views x).histories s c)
  pub status : (views' x).status c ≡ OwnCall
  pub slot : slots x c ≡ record { present = Some (length b.records); placed = Some (length b.records); caller = None }
  pub slots_else : (d : ℕ) → d ≢ c → slots x d ≡ b.slots x d
  pub slots_there : (d : ℕ) → slots (other_of x) d ≡ b.slots (other_of x) d

module _ (x : Role) (s c : ℕ) (parts : CallParts) (views views' : Role → EndView) (b : BookParts) (slots : Role → ℕ → Slot) (tags : List Tag) (w : IsRight views b tags) (q : Places x s c parts views views' b slots) where
  abbrev pub placed_tag : Tag
  placed_tag = record { role = x; channel_use = now (views x) s c; kind = Caller; own = address_of parts.calling; far = address_of parts.called }

  now_is : now (views' x) s c ≡ now (views x) s c
  now_is = channel_use_same s c ((views x).histories s c) ((views' x).histories s c) (q.here.restart s c) (q.here.uses s c)

  there_is : slice_get (tags ++ placed_tag ∷ []) (length b.records) ≡ Some placed_tag
  there_is = ap (λ (n : ℕ). slice_get (tags ++ placed_tag ∷ []) n) (sym w.count) ∙ get_last tags placed_tag

  -- all calls of the channel before
  before : (o : Option ℕ) → PlacedIs o (views x) tags x c → (k : ChannelUse) → k.channel ≡ c → IsSome (called_at (views x) k) → k.session ≤ s
  before None p k e some = absurd (none_is_not_some (called_at (views x) k) (p k e) some)
  before (Some n) p k e some =
      let l = (p.last k e some).sessions in
      let t = p.session in
      let h = w.tops x s q.here.up in
      omega arith

  last : (k : ChannelUse) → k.channel ≡ c → IsSome (called_at (views' x) k) → UpTo k (now (views x) s c)
  last k e some =
      elim (q.here.called k) [
        | inl h ↦
            let old : IsSome (called_at (views x) k) = subst (λ (p : Option CallParts). IsSome p) h some in
            record {
              sessions = before (b.slots x c).placed (w.placed x c) k e old;
              restarts = λ a. (q.earlier k a e old).restarts;
              uses = λ a r. (q.earlier k a e old).uses r;
            }
        | inr h ↦ subst (λ (z : ChannelUse). UpTo z (now (views x) s c)) (sym h.0) (record { sessions = omega arith; restarts = λ a. omega arith; uses = λ a r. omega arith })
      ]

  means : Means (views' x) (views' (other_of x)) b.pairs (tags ++ placed_tag ∷ []) (length b.records) placed_tag
  means = record {
    caller = λ e. record {
      called = some_is (called_at (views' x) (now (views x) s c)) parts q.called;
      not_answered = q.here.answered (now (views x) s c) ∙ q.new.not_answered;
      paired = λ v. absurd (true≢false (sym v ∙ ap (λ (f : EndView). answered_at f (now (views x) s c)) q.there ∙ q.not_answered));
    };
    callee = λ a e. absurd (caller_not_callee a e);
    cancelled = λ e. absurd (caller_not_cancelled e);
  }

  is_placed : IsPlaced (views' x) (tags ++ placed_tag ∷ []) x c (length b.records)
  is_placed = record {
    tag = placed_tag;
    parts = parts;
    there = there_is;
    role = refl;
    channel = refl;
    session = let h = w.tops x s q.here.up in let t = q.here.top in omega arith;
    called = q.called;
    own = refl;
    far = refl;
    placed = λ a e. caller_not_callee a e;
    last = last;
  }

  abbrev present : Present (views' x) (tags ++ placed_tag ∷ []) x c (slots x c)
  present = record {
    session = s;
    number = length b.records;
    tag = placed_tag;
    up = q.here.session ∙ q.here.up;
    is_present = ap (λ (z : Slot). z.present) q.slot;
    there = there_is;
    role = refl;
    channel_use = sym now_is;
    live = caller_not_cancelled;
  }

  begins : Begins x s c views views' b slots tags placed_tag (new_record (length b.records) (b.nodes x) (address_of parts.calling) (address_of parts.called) None)
  begins = record {
    there = q.there;
    here = q.here;
    slots_else = q.slots_else;
    slots_there = q.slots_there;
    role = refl;
    channel_use = refl;
    live = caller_not_cancelled;
    stands = new_stands (views x) (views' x) s c (b.nodes x) (length b.records) (slots x) (address_of parts.calling) (address_of parts.called) Caller q.here q.new placed_tag refl (ap (λ (z : Slot). z.present) q.slot) (w.tops x s q.here.up);
    present = ap (λ (z : Slot). z.present) q.slot;
    is_open = refl;
    means = means;
    fits = new_fits (views x) (views' x) s c (b.nodes x) (length b.records) (slots x) (address_of parts.calling) (address_of parts.called) Caller q.here q.new placed_tag refl refl refl caller_not_cancelled None refl;
    slot = subst (λ (m : CallStatus). SlotIs m (views' x) (tags ++ placed_tag ∷ []) x c (slots x c)) (sym q.status) (present, refl, ap (λ (z : Slot). z.caller) q.slot);
    placed = subst (λ (o : Option ℕ). PlacedIs o (views' x) (tags ++ placed_tag ∷ []) x c) (sym (ap (λ (z : Slot). z.placed) q.slot)) is_placed;
  }

  pub placing_right : (tags' : List Tag) × (map came_from tags' ≡ map came_from tags ++ None ∷ []) × IsRight views' (record b { slots = slots; records = b.records ++ new_record (length b.records) (b.nodes x) (address_of parts.calling) (address_of parts.called) None ∷ [] }) tags'
  placing_right = (tags ++ placed_tag ∷ [], map_pushed came_from tags placed_tag, added_right x s c views views' b slots tags placed_tag (new_record (length b.records) (b.nodes x) (address_of parts.calling) (address_of parts.called) None) w begins)

-- ---- a call comes in

pub record Comes (x : Role) (s c : ℕ) (parts : CallParts) (views views' : Role → EndView) (b : BookParts) (slots : Role → ℕ → Slot) : Type 0 where
  pub there : views' (other_of x) ≡ views (other_of x)
  pub here : Adds (views x) (views' x) s c
  pub new : IsNew (views x) s c
  pub known : called_at (views (other_of x)) (now (views x) s c) ≡ Some parts
  pub last : (k : ChannelUse) → k.session ≡ s → k.channel ≡ c → IsSome (called_at (views (other_of x)) k) → IsPast k ((views x).histories s c)
  pub order : (views (other_of x)).top ≤ s
  pub free : x ≡ Dte → called_at (views x) (now (views x) s c) ≡ None
  pub called : (k : ChannelUse) → called_at (views' x) k ≡ called_at (views x) k
  pub status : (views' x).status c ≡ FarCall
  pub slot : slots x c ≡ record { present = Some (length b.records); placed = (b.slots x c).placed; caller = (b.slots (other_of x) c).placed }
  pub slots_else : (d : ℕ) → d ≢ c → slots x d ≡ b.slots x d
  pub slots_there : (d : ℕ) → slots (other_of x) d ≡ b.slots (other_of x) d

abbrev number_in : Kind → ℕ
number_in Caller = 0
number_in (Callee k) = k
number_in Cancelled = 0

pub callee_number : (a n : ℕ) → Callee a ≡ Callee n → a ≡ n
callee_number a n e = ap number_in e

pub channel_use_is : (k h : ChannelUse) → k.session ≡ h.session → k.channel ≡ h.channel → k.restart ≡ h.restart → k.use_ ≡ h.use_ → k ≡ h
channel_use_is k h a b c d = rw (a, b, c, d) refl

module _ (x : Role) (s c : ℕ) (parts : CallParts) (views views' : Role → EndView) (b : BookParts) (slots : Role → ℕ → Slot) (tags : List Tag) (w : IsRight views b tags) (q : Comes x s c parts views views' b slots) where
  abbrev K : ChannelUse
  K = now (views x) s c

  -- the record of the call that the other end placed last
  pub record Mate : Type 0 where
    pub number : ℕ
    pub is_placed : (b.slots (other_of x) c).placed ≡ Some number
    pub tag : Tag
    pub there : slice_get tags number ≡ Some tag
    pub role : tag.role ≡ other_of x
    pub channel_use : tag.channel_use ≡ now (views x) s c
    pub kind : tag.kind ≡ Caller
    pub far : tag.far ≡ address_of parts.called
    pub own : tag.own ≡ address_of parts.calling

  mate_in : (o : Option ℕ) → (b.slots (other_of x) c).placed ≡ o → PlacedIs o (views (other_of x)) tags (other_of x) c → Mate
  mate_in None e p = absurd (none_is_not_some (called_at (views (other_of x)) K) (p K refl) (some_is (called_at (views (other_of x)) K) parts q.known))
  mate_in (Some n) e p =
      let up = p.last K refl (some_is (called_at (views (other_of x)) K) parts q.known) in
      let le = p.session in
      let top = q.order in
      let l0 = up.sessions in
      let ses : p.tag.channel_use.session ≡ s = omega arith in
      let down = q.last p.tag.channel_use ses p.channel (some_is (called_at (views (other_of x)) p.tag.channel_use) p.parts p.called) in
      let l1 = up.restarts (sym ses) in
      let l2 = down.restarts in
      let res : p.tag.channel_use.restart ≡ ((views x).histories s c).restart = omega arith in
      let l3 = up.uses (sym ses) (sym res) in
      let l4 = down.uses res in
      let use_is : p.tag.channel_use.use_ ≡ ((views x).histories s c).use_ = omega arith in
      let channel_use : p.tag.channel_use ≡ K = channel_use_is p.tag.channel_use K ses p.channel res use_is in
      let same : p.parts ≡ parts = same_Some p.parts parts (sym p.called ∙ ap (λ (k : ChannelUse). called_at (views (other_of x)) k) channel_use ∙ q.known) in
      record {
        number = n;
        is_placed = e;
        tag = p.tag;
        there = p.there;
        role = p.role;
        channel_use = channel_use;
        kind = is_caller n p channel_use;
        far = p.far ∙ ap (λ (z : CallParts). address_of z.called) same;
        own = p.own ∙ ap (λ (z : CallParts). address_of z.calling) same;
      }
    where
      is_caller : (n : ℕ) (p : IsPlaced (views (other_of x)) tags (other_of x) c n) → p.tag.channel_use ≡ K → p.tag.kind ≡ Caller
      is_caller n p channel_use =
          elim (kind_cases p.tag.kind) [
            | inl h ↦ h
            | inr (inl h) ↦ absurd (p.placed h.0 h.1)
            | inr (inr h) ↦
                let z = (w.means n p.tag p.there).cancelled h in
                let mine : other_of p.tag.role ≡ x = ap other_of p.role ∙ twice x in
                let dte : x ≡ Dte = sym mine ∙ ap other_of z.role in
                absurd (none_is_not_some (called_at (views x) K) (q.free dte)
                (subst (λ (k : ChannelUse). IsSome (called_at (views x) k)) channel_use (subst (λ (y : Role). IsSome (called_at (views y) p.tag.channel_use)) mine z.met)))
          ]

  mate : Mate
  mate = mate_in (b.slots (other_of x) c).placed refl (w.placed (other_of x) c)

  abbrev come_tag : Tag
  come_tag = record { role = x; channel_use = now (views x) s c; kind = Callee mate.number; own = address_of parts.called; far = address_of parts.calling }

  come_now_is : now (views' x) s c ≡ now (views x) s c
  come_now_is = channel_use_same s c ((views x).histories s c) ((views' x).histories s c) (q.here.restart s c) (q.here.uses s c)

  come_there_is : slice_get (tags ++ come_tag ∷ []) (length b.records) ≡ Some come_tag
  come_there_is = ap (λ (n : ℕ). slice_get (tags ++ come_tag ∷ []) n) (sym w.count) ∙ get_last tags come_tag

  callee : IsCallee (views' x) b.pairs (tags ++ come_tag ∷ []) (length b.records) mate.number come_tag
  callee = record {
    far = mate.own;
    order = let h = slice_get_within tags mate.number mate.tag mate.there in let e = w.count in omega arith;
    mate = mate.tag;
    there = get_before tags (come_tag ∷ []) mate.number mate.tag mate.there;
    calls = mate.kind;
    role = mate.role;
    channel_use = mate.channel_use;
    address = mate.far;
    free = λ d. q.called K ∙ q.free d;
    paired = λ v. absurd (true≢false (sym v ∙ q.here.answered K ∙ q.new.not_answered));
  }

  come_means : Means (views' x) (views' (other_of x)) b.pairs (tags ++ come_tag ∷ []) (length b.records) come_tag
  come_means = record {
    caller = λ e. absurd (caller_not_callee mate.number (sym e));
    callee = λ a e. subst (λ (n : ℕ). IsCallee (views' x) b.pairs (tags ++ come_tag ∷ []) (length b.records) n come_tag) (callee_number mate.number a e) callee;
    cancelled = λ e. absurd (callee_not_cancelled mate.number e);
  }

  abbrev come_present : Present (views' x) (tags ++ come_tag ∷ []) x c (slots x c)
  come_present = record {
    session = s;
    number = length b.records;
    tag = come_tag;
    up = q.here.session ∙ q.here.up;
    is_present = ap (λ (z : Slot). z.present) q.slot;
    there = come_there_is;
    role = refl;
    channel_use = sym come_now_is;
    live = callee_not_cancelled mate.number;
  }

  come_begins : Begins x s c views views' b slots tags come_tag (new_record (length b.records) (b.nodes x) (address_of parts.called) (address_of parts.calling) (b.slots (other_of x) c).placed)
  come_begins = record {
    there = q.there;
    here = q.here;
    slots_else = q.slots_else;
    slots_there = q.slots_there;
    role = refl;
    channel_use = refl;
    live = callee_not_cancelled mate.number;
    stands = new_stands (views x) (views' x) s c (b.nodes x) (length b.records) (slots x) (address_of parts.called) (address_of parts.calling) Caller q.here q.new come_tag refl (ap (λ (z : Slot). z.present) q.slot) (w.tops x s q.here.up);
    present = ap (λ (z : Slot). z.present) q.slot;
    is_open = refl;
    means = come_means;
    fits = new_fits (views x) (views' x) s c (b.nodes x) (length b.records) (slots x) (address_of parts.called) (address_of parts.calling) Caller q.here q.new come_tag refl refl refl (callee_not_cancelled mate.number) (b.slots (other_of x) c).placed mate.is_placed;
    slot = subst (λ (m : CallStatus). SlotIs m (views' x) (tags ++ come_tag ∷ []) x c (slots x c)) (sym q.status) (come_present, mate.number, refl, ap (λ (z : Slot). z.caller) q.slot ∙ mate.is_placed);
    placed = subst (λ (o : Option ℕ). PlacedIs o (views' x) (tags ++ come_tag ∷ []) x c) (sym (ap (λ (z : Slot). z.placed) q.slot))
        (placed_same (b.slots x c).placed (views x) (views' x) (tags ++ come_tag ∷ []) x c (let h = q.here.top in omega arith) (λ k e. q.called k) (placed_more (b.slots x c).placed (views x) tags (come_tag ∷ []) x c (w.placed x c)));
  }

  pub coming_right : (tags' : List Tag) × (map came_from tags' ≡ map came_from tags ++ (b.slots (other_of x) c).placed ∷ []) × IsRight views' (record b { slots = slots; records = b.records ++ new_record (length b.records) (b.nodes x) (address_of parts.called) (address_of parts.calling) (b.slots (other_of x) c).placed ∷ [] }) tags'
  coming_right = (tags ++ come_tag ∷ [], map_pushed came_from tags come_tag ∙ ap (λ (o : Option ℕ). map came_from tags ++ o ∷ []) (sym mate.is_placed), added_right x s c views views' b slots tags come_tag (new_record (length b.records) (b.nodes x) (address_of parts.called) (address_of parts.calling) (b.slots (other_of x) c).placed) w come_begins)
