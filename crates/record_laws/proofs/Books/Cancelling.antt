-- In a collision the DCE's own call is cancelled, and the book stays right.
use Rattle.std.specs.Prelude.{◌≡◌, ◌≢◌, ℕ, ◌≤◌, true, List, length, set, slice_get, Option, Some, None}
use Rattle.std.proofs.Common.{inl, inr, refl, sym, ap, subst, ◌∙◌, arith, true≢false}
use Rattle.std.proofs.lemmas.Option.{same_Some}
use Rattle.link_timers.specs.declared.role.Role.{Role}
use Rattle.link_timers.specs.declared.role.Role.TheVariants.{Dte, Dce}
use Rattle.link_timers.specs.Role.{other_of}
use Rattle.data_transfer.specs.Packets.{CallParts}
use Rattle.std.specs.Option.{IsSome}
use Rattle.call_records.specs.Records.{RecordValue, PairValue}
use Rattle.call_records.specs.Book.{Slot}
use Rattle.record_laws.proofs.Books.Basics.{is_role, number_is, twice, get_set, set_here, set_elsewhere, length_set}
use Rattle.record_laws.proofs.Books.Invariant.{EndView, CallStatus, ChannelUse, Kind, Tag, BookParts, AreOpen, IsLive, Stands, Means, Fits, Present, SlotIs, PlacedIs, UpTo, IsPair, CameIn, IsRight, epoch_at, called_at, answered_at, now, sent_of, taken_of, nothing_passed, sent_as, taken_as, came_from}
use Rattle.record_laws.proofs.Books.Invariant.CallStatus.{Idle, OwnCall, FarCall, Open}
use Rattle.record_laws.proofs.Books.Invariant.Kind.{Caller, Callee, Cancelled}
use Rattle.record_laws.proofs.Books.Carrying.{is_present, same_tag}
use Rattle.record_laws.proofs.Books.Ending.{Alike}

-- ---- kinds differ

abbrev kind_number : Kind → ℕ
kind_number Caller = 0
kind_number (Callee a) = 1
kind_number Cancelled = 2

zero_one : ◌≡◌ {A = ℕ} 0 1 → ⊥
zero_one h = omega arith

zero_two : ◌≡◌ {A = ℕ} 0 2 → ⊥
zero_two h = omega arith

one_two : ◌≡◌ {A = ℕ} 1 2 → ⊥
one_two h = omega arith

pub caller_not_callee : (a : ℕ) → Caller ≡ Callee a → ⊥
caller_not_callee a e = zero_one (ap kind_number e)

pub caller_not_cancelled : Caller ≡ Cancelled → ⊥
caller_not_cancelled e = zero_two (ap kind_number e)

pub callee_not_cancelled : (a : ℕ) → Callee a ≡ Cancelled → ⊥
callee_not_cancelled a e = one_two (ap kind_number e)

pub none_is_not_some : (o : Option CallParts) → o ≡ None → IsSome o → ⊥
none_is_not_some o e h = true≢false (sym (subst (λ (p : Option CallParts). IsSome p) e h))

-- ---- the present call of x on channel c is cancelled: nothing but its record's meaning and its place changes

abbrev pub cancelled_tag : Tag → Tag
cancelled_tag t = record t { kind = Cancelled }

pub record Cancels (x : Role) (c : ℕ) (views : Role → EndView) (status : Role → ℕ → CallStatus) (b : BookParts) (slots : Role → ℕ → Slot) (records : List RecordValue) (tags : List Tag) : Type 0 where
  pub role : x ≡ Dce
  pub own : Present (views x) tags x c (b.slots x c)
  pub kind : own.tag.kind ≡ Caller
  pub met : IsSome (called_at (views (other_of x)) (now (views x) own.session c))
  pub nothing_sent : (g : ℕ) → sent_of (epoch_at (views x) (now (views x) own.session c) g) ≡ nothing_passed
  pub nothing_taken : (g : ℕ) → taken_of (epoch_at (views x) (now (views x) own.session c) g) ≡ nothing_passed
  pub idle : status x c ≡ Idle
  pub status_else : (y : Role) (d : ℕ) → ((y ≡ x) × (d ≡ c) → ⊥) → status y d ≡ (views y).status d
  pub free : (slots x c).present ≡ None
  pub placed : (slots x c).placed ≡ (b.slots x c).placed
  pub slots_else : (y : Role) (d : ℕ) → ((y ≡ x) × (d ≡ c) → ⊥) → slots y d ≡ b.slots y d
  pub opened : AreOpen b.slots b.records → AreOpen slots records
  pub count : length records ≡ length b.records
  pub kept : (n : ℕ) (r' : RecordValue) → slice_get records n ≡ Some r' → (r : RecordValue) × (slice_get b.records n ≡ Some r) × Alike r r'

abbrev pub with_statuses : (Role → ℕ → CallStatus) → (Role → EndView) → Role → EndView
with_statuses status views y = record (views y) { status = status y }

placed_kind : (o : Option ℕ) (f : EndView) (m : ℕ → CallStatus) (tags : List Tag) (n : ℕ) (t : Tag) (x : Role) (c : ℕ) → slice_get tags n ≡ Some t → PlacedIs o f tags x c → PlacedIs o (record f { status = m }) (set tags n (cancelled_tag t)) x c
placed_kind None f m tags n t x c there w = w
placed_kind (Some k) f m tags n t x c there w =
    elim (number_is k n) [
      | inl e ↦
          let is : w.tag ≡ t = same_tag tags n w.tag t (ap (λ (i : ℕ). slice_get tags i) (sym e) ∙ w.there) there in
          let channel_use : w.tag.channel_use ≡ t.channel_use = ap (λ (u : Tag). u.channel_use) is in
          record {
            tag = cancelled_tag t;
            parts = w.parts;
            there = ap (λ (i : ℕ). slice_get (set tags n (cancelled_tag t)) i) e ∙ set_here tags n (cancelled_tag t) t there;
            role = ap (λ (u : Tag). u.role) (sym is) ∙ w.role;
            channel = ap (λ (u : ChannelUse). u.channel) (sym channel_use) ∙ w.channel;
            session = subst (λ (u : ChannelUse). u.session ≤ f.top) channel_use w.session;
            called = ap (λ (u : ChannelUse). called_at f u) (sym channel_use) ∙ w.called;
            own = ap (λ (u : Tag). u.own) (sym is) ∙ w.own;
            far = ap (λ (u : Tag). u.far) (sym is) ∙ w.far;
            placed = λ a e. callee_not_cancelled a (sym e);
            last = λ h ch some. subst (λ (u : ChannelUse). UpTo h u) channel_use (w.last h ch some);
          }
      | inr e ↦ record {
        tag = w.tag;
        parts = w.parts;
        there = set_elsewhere tags n k (cancelled_tag t) e ∙ w.there;
        role = w.role;
        channel = w.channel;
        session = w.session;
        called = w.called;
        own = w.own;
        far = w.far;
        placed = w.placed;
        last = w.last;
      }
    ]

abbrev present_else : (f : EndView) (m : ℕ → CallStatus) (tags : List Tag) (n : ℕ) (t : Tag) (x : Role) (c : ℕ) (slot : Slot) → (p : Present f tags x c slot) → p.number ≢ n → Present (record f { status = m }) (set tags n t) x c slot
present_else f m tags n t x c slot p e = record {
  session = p.session;
  number = p.number;
  tag = p.tag;
  up = p.up;
  is_present = p.is_present;
  there = set_elsewhere tags n p.number t e ∙ p.there;
  role = p.role;
  channel_use = p.channel_use;
  live = p.live;
}

slot_else : (mo : CallStatus) (f : EndView) (m : ℕ → CallStatus) (tags : List Tag) (n : ℕ) (t : Tag) (x : Role) (c : ℕ) (slot : Slot) → ((p : Present f tags x c slot) → p.number ≢ n) → SlotIs mo f tags x c slot → SlotIs mo (record f { status = m }) (set tags n t) x c slot
slot_else Idle f m tags n t x c slot e w = w
slot_else OwnCall f m tags n t x c slot e w = (present_else f m tags n t x c slot w.0 (e w.0), w.1, w.2)
slot_else FarCall f m tags n t x c slot e w = (present_else f m tags n t x c slot w.0 (e w.0), w.1, w.2, w.3)
slot_else Open f m tags n t x c slot e w = (present_else f m tags n t x c slot w.0 (e w.0), w.1, w.2)

module _ (x : Role) (c : ℕ) (views : Role → EndView) (status : Role → ℕ → CallStatus) (b : BookParts) (slots : Role → ℕ → Slot) (records : List RecordValue) (tags : List Tag) (w : IsRight views b tags) (q : Cancels x c views status b slots records tags) where
  abbrev number : ℕ
  number = q.own.number

  abbrev tag : Tag
  tag = q.own.tag

  abbrev tags' : List Tag
  tags' = set tags q.own.number (cancelled_tag q.own.tag)

  stands_else : (n : ℕ) (t : Tag) → slice_get tags n ≡ Some t → n ≢ q.own.number → Stands (with_statuses status views t.role) (slots t.role) n t
  stands_else n t there other =
      let o = w.stands n t there in
      record {
        begun = o.begun;
        top = o.top;
        past = o.past;
        present = λ up is live. elim (is_role x t.role) [
          | inl e ↦ elim (number_is t.channel_use.channel c) [
            | inl h ↦ absurd (other (is_present (views x) (b.slots x) tags x c q.own n t (subst (λ (y : Role). Stands (views y) (b.slots y) n t) e o)
                (at_now t e h up is) live))
            | inr h ↦ ap (λ (z : Slot). z.present) (q.slots_else t.role t.channel_use.channel (λ p. h p.1)) ∙ o.present up is live
          ]
          | inr e ↦ ap (λ (z : Slot). z.present) (q.slots_else t.role t.channel_use.channel (λ p. e p.0)) ∙ o.present up is live
        ];
      }
    where
      at_now : (t : Tag) → t.role ≡ x → t.channel_use.channel ≡ c → (views t.role).session ≡ Some t.channel_use.session → t.channel_use ≡ now (views t.role) t.channel_use.session t.channel_use.channel → t.channel_use ≡ now (views x) q.own.session c
      at_now t e h up is =
          let when : t.channel_use.session ≡ q.own.session = same_Some t.channel_use.session q.own.session (sym up ∙ ap (λ (y : Role). (views y).session) e ∙ q.own.up) in
          is ∙ ap (λ (y : Role). now (views y) t.channel_use.session t.channel_use.channel) e ∙ ap (λ (d : ℕ). now (views x) t.channel_use.session d) h ∙ ap (λ (s : ℕ). now (views x) s c) when

  mate_else : (n a : ℕ) (t : Tag) (mate : Tag) → slice_get tags a ≡ Some mate → mate.role ≡ other_of t.role → mate.channel_use ≡ t.channel_use → (t.role ≡ Dte → called_at (views t.role) t.channel_use ≡ None) → a ≢ q.own.number
  mate_else n a t mate there role channel_use free e =
      let is : mate ≡ q.own.tag = same_tag tags q.own.number mate q.own.tag (ap (λ (i : ℕ). slice_get tags i) (sym e) ∙ there) q.own.there in
      let at : t.channel_use ≡ now (views x) q.own.session c = sym channel_use ∙ ap (λ (u : Tag). u.channel_use) is ∙ q.own.channel_use in
      let mine : other_of t.role ≡ x = sym role ∙ ap (λ (u : Tag). u.role) is ∙ q.own.role in
      let yours : t.role ≡ other_of x = sym (twice t.role) ∙ ap other_of mine in
      let dte : t.role ≡ Dte = yours ∙ ap other_of q.role in
      none_is_not_some (called_at (views t.role) t.channel_use) (free dte)
      (subst (λ (k : ChannelUse). IsSome (called_at (views t.role) k)) (sym at) (subst (λ (y : Role). IsSome (called_at (views y) (now (views x) q.own.session c))) (sym yours) q.met))

  means_else : (n : ℕ) (t : Tag) → slice_get tags n ≡ Some t → Means (with_statuses status views t.role) (with_statuses status views (other_of t.role)) b.pairs tags' n t
  means_else n t there =
      let o = w.means n t there in
      record {
        caller = λ e. let z = o.caller e in record { called = z.called; not_answered = z.not_answered; paired = z.paired };
        callee = λ a e. let z = o.callee a e in record {
          far = z.far;
          order = z.order;
          mate = z.mate;
          there = set_elsewhere tags q.own.number a (cancelled_tag q.own.tag) (mate_else n a t z.mate z.there z.role z.channel_use z.free) ∙ z.there;
          calls = z.calls;
          role = z.role;
          channel_use = z.channel_use;
          address = z.address;
          free = z.free;
          paired = z.paired;
        };
        cancelled = λ e. let z = o.cancelled e in record { role = z.role; met = z.met };
      }

  fits_alike : (n : ℕ) (t : Tag) (r r' : RecordValue) → Alike r r' → Fits (views t.role) (b.nodes t.role) n t r → Fits (with_statuses status views t.role) (b.nodes t.role) n t r'
  fits_alike n t r r' a o = record {
    number = a.head.number ∙ o.number;
    node_is = a.head.node ∙ o.node_is;
    own = a.head.own ∙ o.own;
    far = a.head.far ∙ o.far;
    caller = a.head.caller ∙ o.caller;
    tells = λ live. record {
      sent = λ g. rw (a.sent_before, a.sent) ((o.tells live).sent g);
      taken = λ g. rw (a.taken_before, a.taken) ((o.tells live).taken g);
    };
    none = λ e. record {
      sent = λ g. rw (a.sent_before, a.sent) ((o.none e).sent g);
      taken = λ g. rw (a.taken_before, a.taken) ((o.none e).taken g);
    };
    epochs = λ up is live. let h = o.epochs up is live in record { sent = ap length a.sent_before ∙ h.sent; taken = ap length a.taken_before ∙ h.taken };
  }

  own_live : IsLive q.own.tag.kind
  own_live e = caller_not_cancelled (sym q.kind ∙ e)

  fits_own : (r r' : RecordValue) → Alike r r' → Fits (views x) (b.nodes x) q.own.number q.own.tag r → Fits (with_statuses status views x) (b.nodes x) q.own.number (cancelled_tag q.own.tag) r'
  fits_own r r' a o = record {
    number = a.head.number ∙ o.number;
    node_is = a.head.node ∙ o.node_is;
    own = a.head.own ∙ o.own;
    far = a.head.far ∙ o.far;
    caller = a.head.caller ∙ o.caller ∙ ap (λ (k : Kind). came_from (record q.own.tag { kind = k })) q.kind;
    tells = λ live. absurd (live refl);
    none = λ e. record {
      sent = λ g. sent_as _ _ _ (sym (ap (λ (k : ChannelUse). sent_of (epoch_at (views x) k g)) q.own.channel_use ∙ q.nothing_sent g)) (rw (a.sent_before, a.sent) ((o.tells own_live).sent g));
      taken = λ g. taken_as _ _ _ (sym (ap (λ (k : ChannelUse). taken_of (epoch_at (views x) k g)) q.own.channel_use ∙ q.nothing_taken g)) (rw (a.taken_before, a.taken) ((o.tells own_live).taken g));
    };
    epochs = λ up is live. absurd (live refl);
  }

  stands_own : Stands (with_statuses status views x) (slots x) q.own.number (cancelled_tag q.own.tag)
  stands_own =
      let o : Stands (views x) (b.slots x) q.own.number q.own.tag = subst (λ (y : Role). Stands (views y) (b.slots y) q.own.number q.own.tag) q.own.role (w.stands q.own.number q.own.tag q.own.there) in
      record { begun = o.begun; top = o.top; past = o.past; present = λ up is live. absurd (live refl) }

  means_own : Means (with_statuses status views x) (with_statuses status views (other_of x)) b.pairs tags' q.own.number (cancelled_tag q.own.tag)
  means_own = record {
    caller = λ e. absurd (caller_not_cancelled (sym e));
    callee = λ a e. absurd (callee_not_cancelled a (sym e));
    cancelled = λ e. record { role = q.own.role ∙ q.role; met = subst (λ (k : ChannelUse). IsSome (called_at (views (other_of x)) k)) (sym q.own.channel_use) q.met };
  }

  stands_of : (n : ℕ) (t : Tag) → slice_get tags' n ≡ Some t → Stands (with_statuses status views t.role) (slots t.role) n t
  stands_of n t e =
      elim (get_set tags q.own.number (cancelled_tag q.own.tag) n t e) [
        | inl h ↦ subst (λ (u : Tag). Stands (with_statuses status views u.role) (slots u.role) n u) (sym h.1)
            (subst (λ (y : Role). Stands (with_statuses status views y) (slots y) n (cancelled_tag q.own.tag)) (sym q.own.role) (subst (λ (i : ℕ). Stands (with_statuses status views x) (slots x) i (cancelled_tag q.own.tag)) (sym h.0) stands_own))
        | inr h ↦ stands_else n t h.1 h.0
      ]

  means_of : (n : ℕ) (t : Tag) → slice_get tags' n ≡ Some t → Means (with_statuses status views t.role) (with_statuses status views (other_of t.role)) b.pairs tags' n t
  means_of n t e =
      elim (get_set tags q.own.number (cancelled_tag q.own.tag) n t e) [
        | inl h ↦ subst (λ (u : Tag). Means (with_statuses status views u.role) (with_statuses status views (other_of u.role)) b.pairs tags' n u) (sym h.1)
            (subst (λ (y : Role). Means (with_statuses status views y) (with_statuses status views (other_of y)) b.pairs tags' n (cancelled_tag q.own.tag)) (sym q.own.role) (subst (λ (i : ℕ). Means (with_statuses status views x) (with_statuses status views (other_of x)) b.pairs tags' i (cancelled_tag q.own.tag)) (sym h.0) means_own))
        | inr h ↦ means_else n t h.1
      ]

  fits_of : (n : ℕ) (t : Tag) (r' : RecordValue) → slice_get tags' n ≡ Some t → slice_get records n ≡ Some r' → Fits (with_statuses status views t.role) (b.nodes t.role) n t r'
  fits_of n t r' e got =
      let k = q.kept n r' got in
      elim (get_set tags q.own.number (cancelled_tag q.own.tag) n t e) [
        | inl h ↦ subst (λ (u : Tag). Fits (with_statuses status views u.role) (b.nodes u.role) n u r') (sym h.1)
            (subst (λ (y : Role). Fits (with_statuses status views y) (b.nodes y) n (cancelled_tag q.own.tag) r') (sym q.own.role)
            (subst (λ (i : ℕ). Fits (with_statuses status views x) (b.nodes x) i (cancelled_tag q.own.tag) r') (sym h.0)
            (fits_own k.0 r' k.2 (subst (λ (y : Role). Fits (views y) (b.nodes y) q.own.number q.own.tag k.0) q.own.role
            (w.fits q.own.number q.own.tag k.0 q.own.there (ap (λ (i : ℕ). slice_get b.records i) (sym h.0) ∙ k.1))))))
        | inr h ↦ fits_alike n t k.0 r' k.2 (w.fits n t k.0 h.1 k.1)
      ]

  slot_own : SlotIs (status x c) (with_statuses status views x) tags' x c (slots x c)
  slot_own = subst (λ (m : CallStatus). SlotIs m (with_statuses status views x) tags' x c (slots x c)) (sym q.idle) q.free

  differs : (y : Role) (d : ℕ) → ((y ≡ x) × (d ≡ c) → ⊥) → (p : Present (views y) tags y d (b.slots y d)) → p.number ≢ q.own.number
  differs y d other p e =
      let is : p.tag ≡ q.own.tag = same_tag tags q.own.number p.tag q.own.tag (ap (λ (i : ℕ). slice_get tags i) (sym e) ∙ p.there) q.own.there in
      other (sym p.role ∙ ap (λ (u : Tag). u.role) is ∙ q.own.role, ap (λ (k : ChannelUse). k.channel) (sym p.channel_use) ∙ ap (λ (u : Tag). u.channel_use.channel) is ∙ ap (λ (k : ChannelUse). k.channel) q.own.channel_use)

  slot_other : (y : Role) (d : ℕ) → ((y ≡ x) × (d ≡ c) → ⊥) → SlotIs (status y d) (with_statuses status views y) tags' y d (slots y d)
  slot_other y d other =
      subst (λ (m : CallStatus). SlotIs m (with_statuses status views y) tags' y d (slots y d)) (sym (q.status_else y d other))
      (subst (λ (z : Slot). SlotIs ((views y).status d) (with_statuses status views y) tags' y d z) (sym (q.slots_else y d other))
      (slot_else ((views y).status d) (views y) (status y) tags q.own.number (cancelled_tag q.own.tag) y d (b.slots y d) (differs y d other) (w.slot y d)))

  slot_of : (y : Role) (d : ℕ) → SlotIs (status y d) (with_statuses status views y) tags' y d (slots y d)
  slot_of y d =
      elim (is_role x y) [
        | inl e ↦ elim (number_is d c) [
          | inl h ↦ subst (λ (z : Role). SlotIs (status z d) (with_statuses status views z) tags' z d (slots z d)) (sym e) (subst (λ (k : ℕ). SlotIs (status x k) (with_statuses status views x) tags' x k (slots x k)) (sym h) slot_own)
          | inr h ↦ slot_other y d (λ p. h p.1)
        ]
        | inr e ↦ slot_other y d (λ p. e p.0)
      ]

  same_placed : (y : Role) (d : ℕ) → (slots y d).placed ≡ (b.slots y d).placed
  same_placed y d =
      elim (is_role x y) [
        | inl e ↦ elim (number_is d c) [
          | inl h ↦ subst (λ (z : Role). (slots z d).placed ≡ (b.slots z d).placed) (sym e) (subst (λ (k : ℕ). (slots x k).placed ≡ (b.slots x k).placed) (sym h) q.placed)
          | inr h ↦ ap (λ (z : Slot). z.placed) (q.slots_else y d (λ p. h p.1))
        ]
        | inr e ↦ ap (λ (z : Slot). z.placed) (q.slots_else y d (λ p. e p.0))
      ]

  placed_of : (y : Role) (d : ℕ) → PlacedIs (slots y d).placed (with_statuses status views y) tags' y d
  placed_of y d = subst (λ (o : Option ℕ). PlacedIs o (with_statuses status views y) tags' y d) (sym (same_placed y d))
      (placed_kind (b.slots y d).placed (views y) (status y) tags q.own.number q.own.tag y d q.own.there (w.placed y d))

  old_live : (i : ℕ) (t : Tag) → slice_get tags' i ≡ Some t → IsLive t.kind → slice_get tags i ≡ Some t
  old_live i t e live =
      elim (get_set tags q.own.number (cancelled_tag q.own.tag) i t e) [
        | inl h ↦ absurd (live (ap (λ (u : Tag). u.kind) h.1))
        | inr h ↦ h.1
      ]

  pairs_of : (i : ℕ) (p : PairValue) → slice_get b.pairs i ≡ Some p → IsPair (with_statuses status views) tags' p
  pairs_of i p e =
      let o = w.pairs i p e in
      let other : p.callee ≢ q.own.number = λ h.
      caller_not_callee p.caller (sym q.kind ∙ ap (λ (u : Tag). u.kind) (same_tag tags q.own.number q.own.tag o.tag q.own.there (ap (λ (k : ℕ). slice_get tags k) (sym h) ∙ o.there)) ∙ o.kind) in
      record {
        tag = o.tag;
        there = set_elsewhere tags q.own.number p.callee (cancelled_tag q.own.tag) other ∙ o.there;
        kind = o.kind;
        answered = o.answered;
      }

  accepted_of : (y : Role) (k : ChannelUse) → answered_at (with_statuses status views y) k ≡ true → CameIn tags' y k
  accepted_of y k h =
      let c = w.accepted y k h in
      let other : c.number ≢ q.own.number = λ e.
      caller_not_callee c.caller (sym q.kind ∙ ap (λ (u : Tag). u.kind) (same_tag tags q.own.number q.own.tag c.tag q.own.there (ap (λ (i : ℕ). slice_get tags i) (sym e) ∙ c.there)) ∙ c.kind) in
      record {
        number = c.number;
        caller = c.caller;
        tag = c.tag;
        there = set_elsewhere tags q.own.number c.number (cancelled_tag q.own.tag) other ∙ c.there;
        role = c.role;
        channel_use = c.channel_use;
        kind = c.kind;
      }

  pub cancelled_right : IsRight (with_statuses status views) (record b { slots = slots; records = records }) (set tags q.own.number (cancelled_tag q.own.tag))
  cancelled_right = record {
    stands = stands_of;
    means = means_of;
    fits = fits_of;
    slot = slot_of;
    placed = placed_of;
    tops = w.tops;
    alone = λ i j t u ei ej lt lu. w.alone i j t u (old_live i t ei lt) (old_live j u ej lu) lt lu;
    pairs = pairs_of;
    accepted = accepted_of;
    once = w.once;
    count = length_set tags q.own.number (cancelled_tag q.own.tag) ∙ w.count ∙ sym q.count;
    opened = q.opened w.opened;
  }
