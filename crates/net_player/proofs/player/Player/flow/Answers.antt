use Rattle.std.proofs.Common.{arith, ◌≤◌, ◌<◌}
use Rattle.std.proofs.lemmas.Result.{err_from_is_err_and}
use Rattle.net_player.specs.Playing.Flows.{last}
use Rattle.net_player.specs.Stopping.FlowStops.{at_once}
use Rattle.net_player.proofs.Deliveries.{flow_onward, flow_stops_onward}
use Rattle.octet_streams.proofs.Written.{writes_append, writes_nothing}
use Rattle.net_player.proofs.player.Player.flow.Goals as goal

pub loop-still_left-init : goal.loop-still_left-init
loop-still_left-init g c = writes_nothing _ (λ rest t flows. flows, λ fault part stops. stops)

pub returns-then-still_left-left-clause-writes : goal.returns-then-still_left-left-clause-writes
returns-then-still_left-left-clause-writes g c =
    writes_append _ _ _ (λ told text onward passed. onward.0 text _ (last passed c.if-still_left-left.true))
    c.loop-still_left.invariant c.in_ok-still_left.ensures.passes

pub returns-in_err-still_left-clause-stops : goal.returns-in_err-still_left-clause-stops
returns-in_err-still_left-clause-stops g c =
    let p = err_from_is_err_and c.from_residual.result c.from_residual.ensures.1 in
    rw (p.1, p.2) (writes_append _ _ _ (λ told part onward stops. onward.1 _ part (at_once stops))
    c.loop-still_left.invariant c.in_err-still_left.ensures.stops)

pub loop-still_left-preserved : goal.loop-still_left-preserved
loop-still_left-preserved g c =
    let at_most : c.in_ok-still_left.still_left ≤ c.loop-still_left.left = c.in_ok-still_left.ensures.at_most in
    let fewer : c.in_ok-still_left.still_left < c.loop-still_left.left = omega arith in
    writes_append _ _ _
    (λ told text onward passed.
    (flow_onward told text onward.0 passed fewer, flow_stops_onward told text onward.1 passed fewer))
    c.loop-still_left.invariant c.in_ok-still_left.ensures.passes
