-- Whatever happens, the register has what the whole one has.
use Rattle.std.specs.Prelude.{slice_get, is_some, if◌then◌else◌}
use Rattle.std.proofs.Common.{◌≡◌, ◌≢◌, ℕ, ◌<◌, inl, inr, Bool, true, false, List, [], ◌∷◌, ◌++◌, length, Option, refl, sym, ap, subst, ◌∙◌}
use Rattle.link_timers.specs.declared.role.Role.{Role}
use Rattle.link_timers.specs.declared.role.Role.TheVariants.{Dte, Dce}
use Rattle.link_timers.specs.Role.{other_of}
use Rattle.data_transfer.specs.Packets.{CallParts}
use Rattle.call_records.specs.Records.{RecordValue, PairValue}
use Rattle.call_records.specs.Book.{Book, side_of, slot_at, places_from}
use Rattle.call_records.specs.Writes.{Write, all_written}
use Rattle.call_records.specs.Register.{Register, LineEnds, book_at, found_ends, with_book, written_at, goes_on}
use Rattle.record_laws.proofs.Books.Basics.{set_elsewhere, length_set, number_is, get_there}
use Rattle.record_laws.proofs.Registers.Seeing.{book_there}
use Rattle.record_laws.specs.CallPaths.World.{Origin, placing, Join, World, Plan, ChannelEnd, AllPlaceNone, MayJoin, holder_of, with_join, all_traced}
use Rattle.record_laws.specs.CallPaths.World.Event.{Writes, SwitchWrites, Joins}
use Rattle.record_laws.specs.CallPaths.Seen.{BeginsIf, IsMadeAt, SideIsSeen, RecordsAreSeen, PairsAreSeen, Seen}
use Rattle.record_laws.specs.CallPaths.PathLaws.{EventLaw}
use Rattle.record_laws.proofs.CallPaths.Growing.{Extends, more_side}
use Rattle.record_laws.proofs.CallPaths.Steps.{Beside, IsRight, Leads}
use Rattle.record_laws.proofs.CallPaths.Writing.{user_writes, switch_writes}
use Rattle.record_laws.proofs.CallPaths.Joining as joining

-- a register in which the book of a line became this one
pub record IsWritten (line : ℕ) (g : Register) (b : Book) (h : Register) : Type 0 where
  pub records : h.records ≡ b.records
  pub pairs : h.pairs ≡ b.pairs
  pub lines : length h.lines ≡ length g.lines
  pub here : (role : Role) → side_of role (book_at line h) ≡ side_of role b
  pub elsewhere : (k : ℕ) (role : Role) → k ≢ line → side_of role (book_at k h) ≡ side_of role (book_at k g)

not_written : (line : ℕ) (g : Register) → IsWritten line g (book_at line g) g
not_written line g = record { records = refl; pairs = refl; lines = refl; here = λ role. refl; elsewhere = λ k role other. refl }

abbrev ends_of : Book → LineEnds
ends_of b = record { dte = b.dte; dce = b.dce }

pub book_written : (line : ℕ) (g : Register) (b : Book) → line < length g.lines → IsWritten line g b (with_book line b g)
book_written line g b less = record {
  records = refl;
  pairs = refl;
  lines = length_set g.lines line (ends_of b);
  here = λ role. ap (λ (c : Book). side_of role c) (book_there line b g less);
  elsewhere = elsewhere;
}
  where
    elsewhere : (k : ℕ) (role : Role) → k ≢ line → side_of role (book_at k (with_book line b g)) ≡ side_of role (book_at k g)
    elsewhere k Dte other = ap (λ (o : Option LineEnds). (found_ends o).dte) (set_elsewhere g.lines line k (ends_of b) other)
    elsewhere k Dce other = ap (λ (o : Option LineEnds). (found_ends o).dce) (set_elsewhere g.lines line k (ends_of b) other)

module _ (plan : Plan) (w : World) (s : Seen plan w) where
  abbrev beside : ℕ → Beside
  beside line = record { origins = w.origins; kinds = s.kinds; seen = book_at line w.register; whole = book_at line w.whole }

  is_beside : (line : ℕ) → line < length w.whole.lines → IsRight plan w.joins line (beside line)
  is_beside line less = record { records = s.records; pairs = s.pairs; sides = λ role. s.sides line role less }

  sides_written : (line : ℕ) (b c : Book) (os : List Origin) (js : List Join) (register whole : Register) → IsWritten line w.register b register → IsWritten line w.whole c whole
      → ((role : Role) → SideIsSeen plan os js line role (side_of role b) (side_of role c)) → Extends plan w.origins w.joins os js
      → (k : ℕ) (role : Role) → k < length whole.lines → SideIsSeen plan os js k role (side_of role (book_at k register)) (side_of role (book_at k whole))
  sides_written line b c os js register whole p q here more k role less =
      elim (number_is k line) [
        | inl e ↦
            subst (λ (n : ℕ). SideIsSeen plan os js n role (side_of role (book_at n register)) (side_of role (book_at n whole))) (sym e)
            (subst (λ x. SideIsSeen plan os js line role x (side_of role (book_at line whole))) (sym (p.here role))
            (subst (λ x. SideIsSeen plan os js line role (side_of role b) x) (sym (q.here role)) (here role)))
        | inr other ↦
            let before : SideIsSeen plan os js k role (side_of role (book_at k w.register)) (side_of role (book_at k w.whole)) =
            more_side plan w.origins w.joins os js more k role (side_of role (book_at k w.register)) (side_of role (book_at k w.whole))
            (s.sides k role (subst (λ (n : ℕ). k < n) q.lines less)) in
            subst (λ x. SideIsSeen plan os js k role x (side_of role (book_at k whole))) (sym (p.elsewhere k role other))
            (subst (λ x. SideIsSeen plan os js k role (side_of role (book_at k w.register)) x) (sym (q.elsewhere k role other)) before)
      ]

  written : (line : ℕ) (b c : Book) (os : List Origin) (kinds : List ℕ) (js : List Join) (register whole : Register)
      → IsWritten line w.register b register → IsWritten line w.whole c whole
      → IsRight plan js line (record { origins = os; kinds = kinds; seen = b; whole = c }) → Extends plan w.origins w.joins os js
      → Seen plan (record { register = register; whole = whole; origins = os; joins = js })
  written line b c os kinds js register whole p q h more = record {
    kinds = kinds;
    records = subst (λ (rs : List RecordValue). RecordsAreSeen plan os js rs whole.records) (sym p.records)
        (subst (λ (rs : List RecordValue). RecordsAreSeen plan os js b.records rs) (sym q.records) h.records);
    pairs = subst (λ (ps : List PairValue). PairsAreSeen plan os js kinds ps whole.pairs) (sym p.pairs)
        (subst (λ (ps : List PairValue). PairsAreSeen plan os js kinds b.pairs ps) (sym q.pairs) h.pairs);
    lines = p.lines ∙ s.lines ∙ sym q.lines;
    sides = sides_written line b c os js register whole p q h.sides more;
  }

  register_less : (line : ℕ) → line < length w.whole.lines → line < length w.register.lines
  register_less line less = subst (λ (n : ℕ). line < n) (sym s.lines) less

  -- a call that came in at a switch
  incoming : (from to : ChannelEnd) (m : MayJoin plan from to w) → joining.Incoming plan w.joins w.origins m.came_in (holder_of from w.register) to.line to.role
  incoming from to m =
      let side : SideIsSeen plan w.origins w.joins from.line from.role (side_of from.role (book_at from.line w.register)) (side_of from.role (book_at from.line w.whole)) =
      s.sides from.line from.role m.from_end.there in
      let far : SideIsSeen plan w.origins w.joins from.line (other_of from.role) (side_of (other_of from.role) (book_at from.line w.register)) (side_of (other_of from.role) (book_at from.line w.whole)) =
      s.sides from.line (other_of from.role) m.from_end.there in
      let made : IsMadeAt w.origins from.line from.role (slot_at from.role from.channel (book_at from.line w.whole)).caller m.came_in = (side.slot from.channel).present_origin m.came_in m.present in
      record {
        caller = m.caller;
        origin = record { line = from.line; role = from.role; placed_here = made.placed_here; caller = (slot_at from.role from.channel (book_at from.line w.whole)).caller };
        there = made.there;
        came = m.came;
        switch = m.from_end.switch;
        node = m.one_switch;
        not_back = m.not_back;
        begins = subst (λ (o : Option ℕ). BeginsIf plan w.origins w.joins (holder_of from w.register) o) m.last (far.slot from.channel).placed;
        first = λ c j. m.first j.place (record { came_in = m.came_in; placed = c }) j.there refl;
      }

  -- a line of the whole register is one of the register
  pub line_found : (line : ℕ) → line < length w.whole.lines → is_some (slice_get w.register.lines line) ≡ true
  line_found line less = let e = get_there w.register.lines line (register_less line less) in ap (λ (o : Option LineEnds). is_some o) e.1

  pub joins_go : (from to : ChannelEnd) (parts : CallParts) (m : MayJoin plan from to w) → joining.Joins plan w.joins to.line (beside to.line) (joining.with_new w.joins m.came_in (length w.whole.records)) (w.origins ++ placing to.line to.role ∷ [])
      (goes_on to (holder_of from w.register) (book_at to.line w.register)) (places_from to.role to.channel parts.calling parts.called (book_at to.line w.whole))
  joins_go from to parts m =
      joining.joins plan w.joins to.line to.role m.to_end.switch (beside to.line) to.channel m.came_in parts.calling parts.called (holder_of from w.register)
      (is_beside to.line m.to_end.there) (incoming from to m)

  -- what is written at an end with a user, and at one of a switch
  pub user_goes : (line : ℕ) (role : Role) (writes : List Write) → line < length w.whole.lines → plan.has_user line role ≡ true
      → Leads plan w.joins line (beside line) (all_traced line role writes (book_at line w.whole) w.origins) (all_written role writes (book_at line w.register)) (all_written role writes (book_at line w.whole))
  user_goes line role writes less user = user_writes plan w.joins line role user writes (beside line) (is_beside line less)

  pub switch_goes : (line : ℕ) (role : Role) (writes : List Write) → line < length w.whole.lines → plan.has_user line role ≡ false → AllPlaceNone writes
      → Leads plan w.joins line (beside line) (all_traced line role writes (book_at line w.whole) w.origins) (book_at line w.register) (all_written role writes (book_at line w.whole))
  switch_goes line role writes less switch none = switch_writes plan w.joins line role switch writes none (beside line) (is_beside line less)

pub happens : EventLaw
happens plan (Writes line role writes) w may s =
    let h = user_goes plan w s line role writes may.0 may.1 in
    written plan w s line (all_written role writes (book_at line w.register)) (all_written role writes (book_at line w.whole)) _ h.kinds w.joins _ _
    (book_written line w.register (all_written role writes (book_at line w.register)) (register_less plan w s line may.0))
    (book_written line w.whole (all_written role writes (book_at line w.whole)) may.0) h.is_right h.extends
happens plan (SwitchWrites line role writes) w may s =
    let h = switch_goes plan w s line role writes may.0.there may.0.switch may.1 in
    written plan w s line (book_at line w.register) (all_written role writes (book_at line w.whole)) _ h.kinds w.joins _ _
    (not_written line w.register) (book_written line w.whole (all_written role writes (book_at line w.whole)) may.0.there) h.is_right h.extends
happens plan (Joins from to parts) w may s =
    let holder : Option ℕ = holder_of from w.register in
    let h = joins_go plan w s from to parts may in
    let register : Register = written_at to.line (goes_on to holder) w.register in
    let whole : Register = written_at to.line (places_from to.role to.channel parts.calling parts.called) w.whole in
    let os : List Origin = w.origins ++ placing to.line to.role ∷ [] in
    subst (λ (v : Bool). Seen plan (record { register = if v then register else w.register; whole = whole; origins = os; joins = with_join (slot_at from.role from.channel (book_at from.line w.whole)).present (length w.whole.records) w.joins }))
    (sym (line_found plan w s to.line may.to_end.there))
    (subst (λ (o : Option ℕ). Seen plan (record { register = register; whole = whole; origins = os; joins = with_join o (length w.whole.records) w.joins })) (sym may.present)
    (written plan w s to.line _ _ os h.kinds _ register whole
    (book_written to.line w.register _ (register_less plan w s to.line may.to_end.there))
    (book_written to.line w.whole _ may.to_end.there) h.is_right h.extends))
