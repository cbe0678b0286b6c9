-- Where a switch accepted a call, the one with which it goes on was accepted: what stays over all that is written.
use Rattle.std.specs.Prelude.{◌≡◌, ℕ, ◌<◌, ◌⊎◌, true, false, List, length, slice_get, Option, Some, None}
use Rattle.std.proofs.Common.{inl, inr, refl, sym, ap, ap₂, subst, ◌∙◌, true≢false, arith}
use Rattle.std.proofs.lemmas.Option.{same_Some, slice_get_within}
use Rattle.link_timers.specs.declared.role.Role.{Role}
use Rattle.packet_channel.specs.Channel.{Refusal}
use Rattle.call_records.specs.Records.{RecordValue, PairValue}
use Rattle.call_records.specs.Book.{Book, slot_at, with_pair, answers}
use Rattle.call_records.specs.Carried.{unless_refused}
use Rattle.call_records.specs.Writes.{Write, all_written}
use Rattle.call_records.specs.Register.{Register, book_at, all_written_at}
use Rattle.record_laws.proofs.Books.Basics.{get_before, get_there}
use Rattle.switched_call_laws.proofs.SwitchRecords.Cells.{here_or_not, got_below, last_pair}
use Rattle.switched_call_laws.proofs.SwitchRecords.Notes.{TouchesOne}
use Rattle.switched_call_laws.proofs.SwitchRecords.Partner.{writes_keep}
use Rattle.record_laws.specs.CallPaths.World.{Origin, Join, World, Plan}
use Rattle.record_laws.specs.CallPaths.Seen.{IsJoined, Seen}
use Rattle.switched_call_laws.specs.SwitchPaths.Network.{GoesOnAccepted, AcceptsAccepted}
use Rattle.switched_call_laws.proofs.SwitchPaths.Listing.{IsAt, Grows, old_or_new}

-- ---- what is written at an end

-- it leaves the records that are not present there
pub record Theirs (role : Role) (a : ℕ) (r : RecordValue) (b : Book) : Type 0 where
  pub there : slice_get b.records a ≡ Some r
  pub absent : (c : ℕ) → (slot_at role c b).present ≡ Some a → ⊥

theirs_one : (role : Role) (a : ℕ) (r : RecordValue) (y z : Book) → TouchesOne role y z → Theirs role a r y → Theirs role a r z
theirs_one role a r y z t h = record {
  there = t.touches.kept a r h.there (λ e. h.absent t.channel e);
  absent = λ c e. elim (here_or_not role t.channel role c) [
    | inl is ↦ elim (t.touches.here a (ap (λ (k : ℕ). (slot_at role k z).present) (sym is.1) ∙ e)) [
      | inl f ↦ h.absent t.channel f
      | inr new ↦ (let p = new.0 in let q = got_below y.records a r h.there in absurd (omega arith))
    ]
    | inr no_ ↦ h.absent c (sym (t.touches.slots role c no_) ∙ e)
  ];
}

pub theirs_stay : (role : Role) (ws : List Write) (a : ℕ) (r : RecordValue) (b : Book) → Theirs role a r b → Theirs role a r (all_written role ws b)
theirs_stay role ws a r b i = writes_keep (λ (y : Book). Theirs role a r y) role (λ y z t h. theirs_one role a r y z t h) ws b i

-- and adds no pair of a call that came in at the other end
record StillPaired (role : Role) (a : ℕ) (r : RecordValue) (b y : Book) : Type 0 where
  pub theirs : Theirs role a r y
  pub pairs : (i : ℕ) (p : PairValue) → slice_get y.pairs i ≡ Some p → p.callee ≡ a → slice_get b.pairs i ≡ Some p

still_paired : (role : Role) (ws : List Write) (a : ℕ) (r : RecordValue) (b : Book) → Theirs role a r b → StillPaired role a r b (all_written role ws b)
still_paired role ws a r b i = writes_keep (λ (y : Book). StillPaired role a r b y) role (λ y z t h. one y z t h) ws b (record { theirs = i; pairs = λ k p e f. e })
  where
    one : (y z : Book) → TouchesOne role y z → StillPaired role a r b y → StillPaired role a r b z
    one y z t h = record {
      theirs = theirs_one role a r y z t h.theirs;
      pairs = λ k p e f. elim (t.touches.paired k p e) [
        | inl old ↦ h.pairs k p old f
        | inr new ↦ elim new [
          | inl present ↦ absurd (h.theirs.absent t.channel (present ∙ ap (λ (n : ℕ). Some n) f))
          | inr more ↦ (let q = got_below y.records a r h.theirs.there in absurd (omega arith))
        ]
      ];
    }

-- a pair stays
pub pairs_stay : (role : Role) (ws : List Write) (b : Book) (i : ℕ) (p : PairValue) → slice_get b.pairs i ≡ Some p → slice_get (all_written role ws b).pairs i ≡ Some p
pairs_stay role ws b i p e = writes_keep (λ (y : Book). slice_get y.pairs i ≡ Some p) role (λ y z t h. t.touches.pairs i p h) ws b e

-- where a call is accepted, the new pair is of the call that came in there
pub accepted_pair : (role : Role) (o : Option Refusal) (c : ℕ) (b : Book) (i : ℕ) (p : PairValue) → slice_get (unless_refused o (answers role c b) b).pairs i ≡ Some p → (slice_get b.pairs i ≡ Some p) ⊎ ((slot_at role c b).present ≡ Some p.callee)
accepted_pair role (Some r) c b i p e = inl e
accepted_pair role None c b i p e = by_slot (slot_at role c b).caller (slot_at role c b).present refl e
  where
    by_slot : (n m : Option ℕ) → (slot_at role c b).present ≡ m → slice_get (with_pair n m b).pairs i ≡ Some p → (slice_get b.pairs i ≡ Some p) ⊎ ((slot_at role c b).present ≡ Some p.callee)
    by_slot None m f g = inl g
    by_slot (Some n) None f g = inl g
    by_slot (Some n) (Some m) f g =
        elim (last_pair b.pairs (record { caller = n; callee = m }) i p g) [ inl old ↦ inl old | inr new ↦ inr (f ∙ ap (λ (q : PairValue). Some q.callee) (sym new)) ]

pub accepted_records : (role : Role) (o : Option Refusal) (c : ℕ) (b : Book) → (unless_refused o (answers role c b) b).records ≡ b.records
accepted_records role (Some r) c b = refl
accepted_records role None c b = by_slot (slot_at role c b).caller (slot_at role c b).present
  where
    by_slot : (n m : Option ℕ) → (with_pair n m b).records ≡ b.records
    by_slot None m = refl
    by_slot (Some n) None = refl
    by_slot (Some n) (Some m) = refl

-- ---- what was accepted stays so

pub goes_on_still : (w v : World) (a : ℕ) → ((i : ℕ) (p : PairValue) → slice_get w.whole.pairs i ≡ Some p → slice_get v.whole.pairs i ≡ Some p) → ((a b : ℕ) → IsJoined w.joins a b → IsJoined v.joins a b) → GoesOnAccepted w a → GoesOnAccepted v a
goes_on_still w v a pairs joins h = record { far = h.far; joined = joins a h.far h.joined; place = h.place; pair = h.pair; there = pairs h.place h.pair h.there; caller = h.caller }

pub accepts_still : (plan : Plan) (line : ℕ) (role : Role) (w v : World) → Seen plan w → Grows line role w.origins v.origins → ((i : ℕ) (p : PairValue) → slice_get w.whole.pairs i ≡ Some p → slice_get v.whole.pairs i ≡ Some p) → ((a b : ℕ) → IsJoined w.joins a b → IsJoined v.joins a b)
    → ((i : ℕ) (p : PairValue) (o : Origin) → slice_get v.whole.pairs i ≡ Some p → slice_get v.origins p.callee ≡ Some o → plan.has_user o.line o.role ≡ false → (slice_get w.whole.pairs i ≡ Some p) ⊎ GoesOnAccepted v p.callee)
    → AcceptsAccepted plan w → AcceptsAccepted plan v
accepts_still plan line role w v seen g pairs joins news s i p o there made switch =
    elim (news i p o there made switch) [
      | inr x ↦ x
      | inl old ↦
          (let c = seen.pairs.came i p old in
          let same : c.origin ≡ o = same_Some c.origin o (sym (ap (λ (os : List Origin). slice_get os p.callee) g.is ∙ get_before w.origins g.more p.callee c.origin c.there) ∙ made) in
          goes_on_still w v p.callee pairs joins (s i p o old (c.there ∙ ap (λ (x : Origin). Some x) same) switch))
    ]

-- where the pairs are the same
pub accepts_silent : (plan : Plan) (line : ℕ) (role : Role) (w v : World) → Seen plan w → Grows line role w.origins v.origins → v.whole.pairs ≡ w.whole.pairs → ((a b : ℕ) → IsJoined w.joins a b → IsJoined v.joins a b) → AcceptsAccepted plan w → AcceptsAccepted plan v
accepts_silent plan line role w v seen g same joins s =
    accepts_still plan line role w v seen g (λ i p e. ap (λ (ps : List PairValue). slice_get ps i) same ∙ e) joins
    (λ i p o there made switch. inl (ap (λ (ps : List PairValue). slice_get ps i) (sym same) ∙ there)) s

-- ---- what is written at an end with a user

-- a record of a switch's end is not present there
pub record AtSwitch (role : Role) (a : ℕ) (b : Book) : Type 0 where
  pub value : RecordValue
  pub theirs : Theirs role a value b

pub not_of_user : (plan : Plan) (line : ℕ) (role : Role) (o : Origin) → plan.has_user line role ≡ true → plan.has_user o.line o.role ≡ false → IsAt line role o → ⊥
not_of_user plan line role o user switch is = true≢false (sym user ∙ (ap₂ (λ (k : ℕ) (y : Role). plan.has_user k y) (sym is.0) (sym is.1) ∙ switch))

pub at_switch : (plan : Plan) (line : ℕ) (role : Role) (w : World) (a : ℕ) (o : Origin) → line < length w.whole.lines → plan.has_user line role ≡ true → Seen plan w → slice_get w.origins a ≡ Some o → plan.has_user o.line o.role ≡ false → AtSwitch role a (book_at line w.whole)
at_switch plan line role w a o h user seen old switch =
    let within : a < length w.whole.records = subst (λ (k : ℕ). a < k) seen.records.count (slice_get_within w.origins a o old) in
    let x = get_there w.whole.records a within in
    record {
      value = x.0;
      theirs = record {
        there = x.1;
        absent = λ c e.
            let m = ((seen.sides line role h).slot c).present_origin a e in
            not_of_user plan line role o user switch (is_at (record { line = line; role = role; placed_here = m.placed_here; caller = (slot_at role c (book_at line w.whole)).caller }) (same_Some _ o (sym m.there ∙ old)) (refl, refl));
      };
    }
  where
    is_at : (x : Origin) → x ≡ o → (x.line ≡ line) × (x.role ≡ role) → IsAt line role o
    is_at x e i = (ap (λ (y : Origin). y.line) (sym e) ∙ i.0, ap (λ (y : Origin). y.role) (sym e) ∙ i.1)

pub user_accepts : (plan : Plan) (line : ℕ) (role : Role) (ws : List Write) (w v : World) → line < length w.whole.lines → plan.has_user line role ≡ true → Seen plan w → Grows line role w.origins v.origins → v.whole ≡ all_written_at line role ws w.whole → v.joins ≡ w.joins
    → AcceptsAccepted plan w → AcceptsAccepted plan v
user_accepts plan line role ws w v h user seen g whole joins s =
    accepts_still plan line role w v seen g (λ i p e. ap (λ (y : Register). slice_get y.pairs i) whole ∙ pairs_stay role ws (book_at line w.whole) i p e)
    (λ a b x. subst (λ (js : List Join). IsJoined js a b) (sym joins) x)
    (λ i p o there made switch. elim (old_or_new line role w.origins v.origins p.callee o g made) [
      | inr here ↦ absurd (not_of_user plan line role o user switch here)
      | inl old ↦
          (let x = at_switch plan line role w p.callee o h user seen old switch in
          inl ((still_paired role ws p.callee x.value (book_at line w.whole) x.theirs).pairs i p (ap (λ (y : Register). slice_get y.pairs i) (sym whole) ∙ there) refl))
    ]) s
