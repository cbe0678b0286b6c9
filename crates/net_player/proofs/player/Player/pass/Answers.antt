use Rattle.std.proofs.Common.{arith, ◌≤◌, ◌<◌}
use Rattle.std.proofs.lemmas.Result.{err_from_is_err_and}
use Rattle.net_player.specs.InTurn.InTurn.{nothing}
use Rattle.net_player.proofs.Deliveries.{pass_more, pass_to, pass_stops_first, second_stops}
use Rattle.octet_streams.proofs.Written.{writes_append, writes_nothing}
use Rattle.net_player.proofs.player.Player.pass.Goals as goal

pub loop-left-init : goal.loop-left-init
loop-left-init g c = (writes_nothing _ nothing, omega arith, omega arith)

pub returns-then-line-self-clause-passes : goal.returns-then-line-self-clause-passes
returns-then-line-self-clause-passes g c =
    pass_to _ _ _ _ _ _ _ c.loop-left.invariant.2 (omega arith) c.next_with_frames-line.ensures.none c.loop-left.invariant.0

pub loop-left-preserved : goal.loop-left-preserved
loop-left-preserved g c =
    let first : c.in_ok-still_left.still_left ≤ c.loop-left.still_left = c.in_ok-still_left.ensures.at_most in
    let second : c.in_ok-still_left-2.still_left ≤ c.in_ok-still_left.still_left =
    c.in_ok-still_left-2.ensures.at_most in (
      pass_more _ _ _ _ _
          (pass_to _ _ _ _ _ _ _ c.next_with_frames-line.ensures.onward (omega arith) c.next_with_frames-line.ensures.none c.loop-left.invariant.0)
          c.in_ok-still_left.ensures.delivers c.in_ok-still_left-2.ensures.delivers,
      omega arith,
      omega arith,
    )

pub returns-in_err-still_left-clause-stops : goal.returns-in_err-still_left-clause-stops
returns-in_err-still_left-clause-stops g c =
    let p = err_from_is_err_and c.from_residual.result c.from_residual.ensures.1 in
    let within : c.next_with_frames-line.result < c.args.self.now.lines = omega arith in
    rw (p.1, p.2) (writes_append _ _ _ (λ first part passes stops. pass_stops_first c.next_with_frames-line.result _ first part within passes stops)
    (pass_to _ _ _ _ _ _ _ c.next_with_frames-line.ensures.onward (omega arith) c.next_with_frames-line.ensures.none c.loop-left.invariant.0)
    c.in_err-still_left.ensures.stops)

pub returns-in_err-still_left-2-clause-stops : goal.returns-in_err-still_left-2-clause-stops
returns-in_err-still_left-2-clause-stops g c =
    let p = err_from_is_err_and c.from_residual-in_err-still_left-2.result c.from_residual-in_err-still_left-2.ensures.1 in
    let within : c.next_with_frames-line.result < c.args.self.now.lines = omega arith in
    rw (p.1, p.2) (second_stops c.next_with_frames-line.result _ _ _ _ _ within
    (pass_to _ _ _ _ _ _ _ c.next_with_frames-line.ensures.onward (omega arith) c.next_with_frames-line.ensures.none c.loop-left.invariant.0)
    c.in_ok-still_left.ensures.delivers c.in_err-still_left-2.ensures.stops)
