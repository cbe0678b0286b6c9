-- The addresses with which calls go on stay right.
use Rattle.std.proofs.Common.{◌≡◌, ℕ, ◌<◌, inl, inr, List, [], ◌∷◌, ◌++◌, length, Option, Some, None, refl, sym, ap, ap₂, subst, ◌∙◌}
use Rattle.std.specs.Prelude.{slice_get}
use Rattle.std.proofs.lemmas.Option.{none-some, same_Some, slice_get_within}
use Rattle.link_timers.specs.declared.role.Role.{Role}
use Rattle.data_transfer.specs.Packets.{CallParts}
use Rattle.call_records.specs.Records.{RecordValue, new_record}
use Rattle.call_records.specs.Book.{side_of, slot_at, with_record, address_of, calling_from, places_from}
use Rattle.call_records.specs.Register.{Register, book_at, written_at, all_written_at, handed_on}
use Rattle.call_records.specs.Writes.{Write, all_written}
use Rattle.record_laws.proofs.Books.Basics.{get_last, get_before, get_there}
use Rattle.record_laws.specs.CallPaths.World.{Origin, placing, Join, World, Plan, ChannelEnd, after_event, MayJoin, far_end, with_join, calling_on}
use Rattle.record_laws.specs.CallPaths.World.Event.{Writes, SwitchWrites, Joins}
use Rattle.record_laws.specs.CallPaths.Seen.{Seen}
use Rattle.record_laws.specs.CallPaths.Forwards.{IsForwarded, IsHandedOn, AreHandedOn, MadeForwardLaw, ForwardLaw, RelayedLaw}
use Rattle.record_laws.proofs.CallPaths.Heading.{IsHeaded, more_headed, same_headed, slot_records, all_headed, all_origins}
use Rattle.record_laws.proofs.CallPaths.SeenAfterEvents.{book_written}
use Rattle.record_laws.proofs.CallPaths.Joining.{old_or_new}

pub made_handed_on : MadeForwardLaw
made_handed_on plan lines a b j = absurd (none-some (record { came_in = a; placed = b }) j.there)

-- ---- a join of before

heads : (r : RecordValue) (n : ℕ) (rs : List RecordValue) → slice_get rs n ≡ Some r → IsHeaded r n rs
heads r n rs e = record { it = r; there = e; node = refl; own = refl; far = refl }

handed_kept : (plan : Plan) (w v : World) (a b : ℕ) → ((n : ℕ) (r : RecordValue) → slice_get w.whole.records n ≡ Some r → IsHeaded r n v.whole.records)
    → ((i : ℕ) (o : Origin) → slice_get w.origins i ≡ Some o → slice_get v.origins i ≡ Some o) → IsHandedOn plan w a b → IsHandedOn plan v a b
handed_kept plan w v a b headed origins h =
    let p : IsHeaded h.from a v.whole.records = headed a h.from h.from_there in
    let q : IsHeaded h.to b v.whole.records = headed b h.to h.to_there in
    record {
      from = p.it;
      to = q.it;
      from_there = p.there;
      to_there = q.there;
      from_origin = h.from_origin;
      to_origin = h.to_origin;
      from_came = origins a h.from_origin h.from_came;
      to_placed = origins b h.to_origin h.to_placed;
      called = q.far ∙ (h.called ∙ sym p.own);
      calling = q.own ∙ (h.calling ∙ ap (λ (d : Option (List ℕ)). calling_on (plan.address h.from_origin.line) d) (sym p.far));
      routed = ap₂ (λ (k : ℕ) (d : Option (List ℕ)). plan.route k d) q.node q.far ∙ h.routed;
    }

-- ---- writes

written_headed : (line : ℕ) (role : Role) (writes : List Write) (g : Register) → line < length g.lines → (n : ℕ) (r : RecordValue) → slice_get g.records n ≡ Some r
    → IsHeaded r n (all_written_at line role writes g).records
written_headed line role writes g less n r e =
    same_headed n r (all_written role writes (book_at line g)).records (all_written_at line role writes g).records (book_written line g (all_written role writes (book_at line g)) less).records
    (all_headed line role writes n r (book_at line g) (heads r n (book_at line g).records e))

-- ---- a join

module _ (plan : Plan) (from to : ChannelEnd) (parts : CallParts) (w : World) (m : MayJoin plan from to w) (s : Seen plan w) where
  abbrev whole : Register
  whole = written_at to.line (places_from to.role to.channel parts.calling parts.called) w.whole

  abbrev origins : List Origin
  origins = w.origins ++ placing to.line to.role ∷ []

  abbrev after : List Join → World
  after js = record { register = handed_on (far_end from) to w.register; whole = whole; origins = origins; joins = js }

  abbrev new : RecordValue
  new =
      new_record (length w.whole.records) (side_of to.role (book_at to.line w.whole)).node
      (address_of (calling_from (side_of to.role (book_at to.line w.whole)).address parts.calling)) (address_of parts.called) None

  records_are : whole.records ≡ w.whole.records ++ new ∷ []
  records_are =
      (book_written to.line w.whole (places_from to.role to.channel parts.calling parts.called (book_at to.line w.whole)) m.to_end.there).records
      ∙ slot_records to.role to.channel _ (with_record new (book_at to.line w.whole))

  old_headed : (n : ℕ) (r : RecordValue) → slice_get w.whole.records n ≡ Some r → IsHeaded r n whole.records
  old_headed n r e = same_headed n r (w.whole.records ++ new ∷ []) whole.records records_are (more_headed n r new w.whole.records (heads r n w.whole.records e))

  old_origins : (i : ℕ) (o : Origin) → slice_get w.origins i ≡ Some o → slice_get origins i ≡ Some o
  old_origins i o e = get_before w.origins _ i o e

  new_handed : (js : List Join) → ((came : RecordValue) → slice_get w.whole.records m.came_in ≡ Some came → IsForwarded plan from to parts came) → IsHandedOn plan (after js) m.came_in (length w.whole.records)
  new_handed js forwards =
      let side = s.sides from.line from.role m.from_end.there in
      let made = (side.slot from.channel).present_origin m.came_in m.present in
      let came = get_there w.whole.records m.came_in (subst (λ (k : ℕ). m.came_in < k) s.records.count (slice_get_within w.origins m.came_in _ made.there)) in
      let f : IsForwarded plan from to parts came.0 = forwards came.0 came.1 in
      let p : IsHeaded came.0 m.came_in whole.records = old_headed m.came_in came.0 came.1 in
      let node : (side_of to.role (book_at to.line w.whole)).node ≡ plan.node to.line to.role = (s.sides to.line to.role m.to_end.there).whole_node in
      record {
        from = p.it;
        to = new;
        from_there = p.there;
        to_there = ap (λ (rs : List RecordValue). slice_get rs (length w.whole.records)) records_are ∙ get_last w.whole.records new;
        from_origin = record { line = from.line; role = from.role; placed_here = made.placed_here; caller = (slot_at from.role from.channel (book_at from.line w.whole)).caller };
        to_origin = placing to.line to.role;
        from_came = get_before w.origins _ m.came_in _ made.there;
        to_placed = ap (λ (k : ℕ). slice_get (w.origins ++ placing to.line to.role ∷ []) k) (sym s.records.count) ∙ get_last w.origins _;
        called = f.called ∙ sym p.own;
        calling =
            ap (λ (a : List ℕ). address_of (calling_from a parts.calling)) (s.sides to.line to.role m.to_end.there).whole_address
            ∙ f.calling ∙ ap (λ (d : Option (List ℕ)). calling_on (plan.address from.line) d) (sym p.far);
        routed = ap (λ (k : ℕ). plan.route k (address_of parts.called)) node ∙ f.routed;
      }

  joined_handed : ((came : RecordValue) → slice_get w.whole.records m.came_in ≡ Some came → IsForwarded plan from to parts came) → AreHandedOn plan w
      → AreHandedOn plan (after (with_join (Some m.came_in) (length w.whole.records) w.joins))
  joined_handed forwards h a b j =
      elim (old_or_new w.joins m.came_in (length w.whole.records) a b j) [
        | inl old ↦ handed_kept plan w (after (with_join (Some m.came_in) (length w.whole.records) w.joins)) a b old_headed old_origins (h a b old)
        | inr now ↦
            subst (λ (x : ℕ). IsHandedOn plan (after (with_join (Some m.came_in) (length w.whole.records) w.joins)) x b) (sym now.0)
            (subst (λ (y : ℕ). IsHandedOn plan (after (with_join (Some m.came_in) (length w.whole.records) w.joins)) m.came_in y) (sym now.1)
            (new_handed (with_join (Some m.came_in) (length w.whole.records) w.joins) forwards))
      ]

pub stays_handed_on : ForwardLaw
stays_handed_on plan (Writes line role writes) w may forwards s h =
    λ a b j. handed_kept plan w (after_event (Writes line role writes) w) a b (written_headed line role writes w.whole may.0) (all_origins line role writes (book_at line w.whole) w.origins) (h a b j)
stays_handed_on plan (SwitchWrites line role writes) w may forwards s h =
    λ a b j. handed_kept plan w (after_event (SwitchWrites line role writes) w) a b (written_headed line role writes w.whole may.0.there) (all_origins line role writes (book_at line w.whole) w.origins) (h a b j)
stays_handed_on plan (Joins from to parts) w may forwards s h =
    subst (λ (o : Option ℕ). AreHandedOn plan (record {
      register = handed_on (far_end from) to w.register;
      whole = written_at to.line (places_from to.role to.channel parts.calling parts.called) w.whole;
      origins = w.origins ++ placing to.line to.role ∷ [];
      joins = with_join o (length w.whole.records) w.joins;
    })) (sym may.present) (joined_handed plan from to parts w may s (λ came e. forwards may.came_in came may.present e) h)

-- ---- with the relay, all that a join holds

pub relayed_joins : RelayedLaw
relayed_joins plan w h relayed sent = record {
  joins = λ a b j.
      let k = h a b j in
      let r = relayed a b j in
      let from : k.from ≡ r.from = same_Some k.from r.from (sym k.from_there ∙ r.from_there) in
      let to : k.to ≡ r.to = same_Some k.to r.to (sym k.to_there ∙ r.to_there) in
      record {
        from = r.from;
        to = r.to;
        from_there = r.from_there;
        to_there = r.to_there;
        onward = r.onward;
        backward = r.backward;
        own = λ o at.
            ap (λ (x : RecordValue). x.own) (sym to)
            ∙ (k.calling ∙ ap₂ (λ (p : Origin) (x : RecordValue). calling_on (plan.address p.line) x.far) (same_Some k.from_origin o (sym k.from_came ∙ at)) from);
        far = ap (λ (x : RecordValue). x.far) (sym to) ∙ (k.called ∙ ap (λ (x : RecordValue). x.own) from);
        routed = λ o at.
            ap (λ (x : RecordValue). plan.route x.node x.far) (sym to)
            ∙ (k.routed ∙ ap (λ (p : Origin). Some p.line) (same_Some k.to_origin o (sym k.to_placed ∙ at)));
      };
  sent = sent;
}
