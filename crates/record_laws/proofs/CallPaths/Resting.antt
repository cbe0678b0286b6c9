-- Nothing is missing over a path where nothing is on its lines and at its joins.
use Rattle.std.proofs.Common.{◌≡◌, ℕ, ◌<◌, false, length, Some, refl, sym, ap, subst, ◌∙◌}
use Rattle.std.specs.Prelude.{slice_get}
use Rattle.std.proofs.lemmas.Option.{same_Some, slice_get_within}
use Rattle.epochs.specs.Epoch.{sent_epoch, taken_epoch}
use Rattle.call_records.specs.Records.{RecordValue, PairValue}
use Rattle.record_laws.specs.Books.BookRest.{TookAll, NothingMissing}
use Rattle.record_laws.proofs.Books.Basics.{get_there}
use Rattle.record_laws.specs.Registers.Seen.{positions}
use Rattle.record_laws.specs.CallPaths.World.{Origin, World, Plan}
use Rattle.record_laws.specs.CallPaths.Seen.{CameFrom, Way, shown, RecordIsShown, PairIsSeen, PairCame, Seen}
use Rattle.record_laws.specs.CallPaths.PathRest.{HandedAll, HasHandedAll, HaveHandedAll, RestLaw}
use Rattle.record_laws.proofs.CallPaths.Ways.{along}

module _ (plan : Plan) (w : World) (s : Seen plan w) (lines : NothingMissing w.whole.records w.whole.pairs) (joins : HaveHandedAll w) where
  -- each end of the way took all that the other one sent, where the call is open at both
  abbrev HasAll : ℕ → ℕ → Type 0
  HasAll x b = (i : ℕ) (pair : PairValue) (first last : RecordValue) → slice_get w.whole.pairs i ≡ Some pair → pair.caller ≡ b
      → slice_get w.whole.records x ≡ Some first → slice_get w.whole.records pair.callee ≡ Some last → first.closed ≡ false → last.closed ≡ false
      → TookAll first last × TookAll last first

  over_join : (first from to last : RecordValue) → TookAll first from × TookAll from first → HandedAll from to → HandedAll to from
      → TookAll to last × TookAll last to → TookAll first last × TookAll last first
  over_join first from to last near onward backward far = (far.0 ∙ onward ∙ near.0, near.1 ∙ backward ∙ far.1)

  came_of : (a y i : ℕ) (pair : PairValue) → CameFrom w.origins a y → slice_get w.whole.pairs i ≡ Some pair → pair.callee ≡ a → pair.caller ≡ y
  came_of a y i pair came at callee =
      let c : PairCame plan w.origins s.kinds i pair = s.pairs.came i pair at in
      let same : c.origin ≡ came.origin = same_Some c.origin came.origin (sym c.there ∙ ap (λ (k : ℕ). slice_get w.origins k) callee ∙ came.there) in
      same_Some pair.caller y (sym c.came ∙ ap (λ (o : Origin). o.caller) same ∙ came.came)

  has_all : (x b : ℕ) → Way w.origins w.joins x b → HasAll x b
  has_all = along w.origins w.joins HasAll
      (λ x i pair first last at caller first_there last_there open_first open_last.
      lines i pair first last at (ap (λ (k : ℕ). slice_get w.whole.records k) caller ∙ first_there) last_there open_first open_last)
      (λ x y a b way before came joined i pair first last at caller first_there last_there open_first open_last.
      let j : HasHandedAll w a b = joins a b y i pair last came joined at caller last_there open_last in
      over_join first j.from j.to last
      (before j.place j.pair first j.from j.there (came_of a y j.place j.pair came j.there j.accepted) first_there
      (ap (λ (k : ℕ). slice_get w.whole.records k) j.accepted ∙ j.from_there) open_first j.from_open)
      j.onward j.backward
      (lines i pair j.to last at (ap (λ (k : ℕ). slice_get w.whole.records k) caller ∙ j.to_there) last_there j.to_open open_last))

  -- what the register has of a record was sent and taken by that of the whole one
  as_whole : (first last caller callee : RecordValue) → TookAll first last × TookAll last first
      → caller.sent ≡ first.sent → caller.taken ≡ first.taken → callee.sent ≡ last.sent → callee.taken ≡ last.taken → TookAll caller callee × TookAll callee caller
  as_whole first last caller callee h cs ct ds dt =
      (ap taken_epoch dt ∙ h.0 ∙ sym (ap sent_epoch cs), ap taken_epoch ct ∙ h.1 ∙ sym (ap sent_epoch ds))

  none_missing : NothingMissing w.register.records w.register.pairs
  none_missing q pair caller callee at caller_there callee_there open_caller open_callee =
      let less : q < length (positions 1 s.kinds) = subst (λ (k : ℕ). q < k) s.pairs.seen_count (slice_get_within w.register.pairs q pair at) in
      let place = get_there (positions 1 s.kinds) q less in
      let p : PairIsSeen plan w.origins w.joins w.register.pairs w.whole.pairs q place.0 = s.pairs.pairs q place.0 place.1 in
      let same : p.seen_pair ≡ pair = same_Some p.seen_pair pair (sym p.seen_there ∙ at) in
      let from : RecordIsShown plan w.origins w.joins w.register.records w.whole.records p.seen_pair.caller p.caller.first = s.records.records p.seen_pair.caller p.caller.first p.caller.numbered in
      let to : RecordIsShown plan w.origins w.joins w.register.records w.whole.records p.seen_pair.callee p.whole_pair.callee = s.records.records p.seen_pair.callee p.whole_pair.callee p.callee in
      let caller_is : caller ≡ shown plan from.origin p.seen_pair.caller from.caller from.path from.value =
      same_Some caller (shown plan from.origin p.seen_pair.caller from.caller from.path from.value) (sym caller_there ∙ ap (λ (z : PairValue). slice_get w.register.records z.caller) (sym same) ∙ from.seen_there) in
      let callee_is : callee ≡ shown plan to.origin p.seen_pair.callee to.caller to.path to.value =
      same_Some callee (shown plan to.origin p.seen_pair.callee to.caller to.path to.value) (sym callee_there ∙ ap (λ (z : PairValue). slice_get w.register.records z.callee) (sym same) ∙ to.seen_there) in
      as_whole from.value to.value caller callee
      (has_all p.caller.first p.whole_pair.caller p.caller.way place.0 p.whole_pair from.value to.value p.whole_there refl from.whole_there to.whole_there
      (sym (ap (λ (r : RecordValue). r.closed) caller_is) ∙ open_caller) (sym (ap (λ (r : RecordValue). r.closed) callee_is) ∙ open_callee))
      (ap (λ (r : RecordValue). r.sent) caller_is) (ap (λ (r : RecordValue). r.taken) caller_is)
      (ap (λ (r : RecordValue). r.sent) callee_is) (ap (λ (r : RecordValue). r.taken) callee_is)

pub rest_paths : RestLaw
rest_paths plan w s lines joins = none_missing plan w s lines joins
