use Rattle.std.proofs.Common.{◌≡◌, map, slice_get, Some, None}
use Rattle.std.proofs.lemmas.Bool.{both_ways}
use Rattle.call_records.specs.RecordView.{shown, pair_of}
use Rattle.call_records.proofs.Elements.{get-there, get-past, get-map, get-map-none}
use Rattle.call_records.proofs.PairsThere.{match-there, no-caller, no-callee}
use Rattle.call_records.proofs.RecordEpochs.{records-match}
use Rattle.call_records.proofs.pairs.pair_matches.Goals as goal

pub returns-then-matches : goal.returns-then-matches
returns-then-matches c =
    let records = c.args.records.now in
    let caller : slice_get records c.args.pair.now.caller ≡ Some c.in-Some-Some.caller.now =
    get-there records c.args.pair.now.caller c.in-Some-Some.caller.now c.in-Some-Some.ensures.lookup.3.0 c.in-Some-Some.ensures.lookup.1 in
    let callee : slice_get records c.args.pair.now.callee ≡ Some c.in-Some-Some.callee.now =
    get-there records c.args.pair.now.callee c.in-Some-Some.callee.now c.in-Some-Some.ensures'.lookup.3.0 c.in-Some-Some.ensures'.lookup.1 in
    let a = get-map shown records _ _ caller in
    let b = get-map shown records _ _ callee in
    let onward = records-match c.in-Some-Some.callee.now c.in-Some-Some.caller.now _ c.matches.ensures in
    let backward = records-match c.in-Some-Some.caller.now c.in-Some-Some.callee.now _ c.matches-then-matches.ensures in (
      λ t. record {
        caller = shown c.in-Some-Some.caller.now;
        callee = shown c.in-Some-Some.callee.now;
        caller_there = a;
        callee_there = b;
        onward = onward.0 c.if-matches.true;
        backward = backward.0 t;
      },
      λ m. backward.1 (match-there (map shown records) (pair_of c.args.pair.now) _ _ a b m).1,
    )

pub returns-else-matches : goal.returns-else-matches
returns-else-matches c =
    let records = c.args.records.now in
    let caller : slice_get records c.args.pair.now.caller ≡ Some c.in-Some-Some.caller.now =
    get-there records c.args.pair.now.caller c.in-Some-Some.caller.now c.in-Some-Some.ensures.lookup.3.0 c.in-Some-Some.ensures.lookup.1 in
    let callee : slice_get records c.args.pair.now.callee ≡ Some c.in-Some-Some.callee.now =
    get-there records c.args.pair.now.callee c.in-Some-Some.callee.now c.in-Some-Some.ensures'.lookup.3.0 c.in-Some-Some.ensures'.lookup.1 in
    let a = get-map shown records _ _ caller in
    let b = get-map shown records _ _ callee in
    let onward = records-match c.in-Some-Some.callee.now c.in-Some-Some.caller.now _ c.matches.ensures in (
      λ t. absurd (both_ways _ c.if-matches.false t),
      λ m. onward.1 (match-there (map shown records) (pair_of c.args.pair.now) _ _ a b m).0,
    )

pub returns-in_default : goal.returns-in_default
returns-in_default c =
    let records = c.args.records.now in
    let none : slice_get records c.args.pair.now.callee ≡ None = get-past records c.args.pair.now.callee c.in_default.ensures'.lookup.3 in
    (λ t. cc, λ m. absurd (no-callee (map shown records) (pair_of c.args.pair.now) (get-map-none shown records _ none) m))

pub returns-in_default-2 : goal.returns-in_default-2
returns-in_default-2 c =
    let records = c.args.records.now in
    let none : slice_get records c.args.pair.now.caller ≡ None = get-past records c.args.pair.now.caller c.in_default.ensures.lookup.3 in
    (λ t. cc, λ m. absurd (no-caller (map shown records) (pair_of c.args.pair.now) (get-map-none shown records _ none) m))
