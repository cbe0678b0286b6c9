-- On faithful lines each call matches, both ways.
use Rattle.std.proofs.Common.{◌≡◌, ◌<◌, ℕ, zero, suc, List, [], ◌∷◌, length, get_or, Some, refl, arith}
use Rattle.std.specs.Prelude.{slice_get}
use Rattle.call_records.specs.Records.{PairValue}
use Rattle.call_records.specs.Pairs.{AllMatch}
use Rattle.frame_lines.specs.Lines.{LineService}
use Rattle.net_events.specs.Network.{Network}
use Rattle.network_laws.specs.Switched.IsSwitched.{IsAny}
use Rattle.network_laws.specs.Switched.InnerPromise.{NetworkPromise}
use Rattle.network_laws.proofs.Switched.PromiseAny.{promise_any}

at_place : (pairs : List PairValue) (k : ℕ) (d : PairValue) → k < length pairs → slice_get pairs k ≡ Some (get_or pairs k d)
at_place [] k d within = absurd (omega arith)
at_place (p ∷ pairs) zero d within = refl
at_place (p ∷ pairs) (suc k) d within = at_place pairs k d (omega arith)

pub all_matched : (L : LineService) (s : Network) → IsAny L s → L.faithful → AllMatch s.register.records s.register.pairs
all_matched L s n f k d within =
    let promise : NetworkPromise s = promise_any L s n f in
    let holds = promise.calls.paths.pairs_hold k (get_or s.register.pairs k d) (at_place s.register.pairs k d within) in
    record {
      caller = holds.caller;
      callee = holds.callee;
      caller_there = holds.caller_there;
      callee_there = holds.callee_there;
      onward = holds.matches.onward;
      backward = holds.matches.backward;
    }
