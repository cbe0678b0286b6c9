use Rattle.net_player.specs.Playing.DoesCommand.{keys, event, flow, tick, trace, check}
use Rattle.std.proofs.lemmas.Result.{err_from_is_err_and}
use Rattle.net_player.specs.Stopping.CommandStops.{in_keys, at_event, in_flow, in_ticks, in_check}
use Rattle.octet_streams.proofs.Written.{writes_as, writes_known, writes_nothing}
use Rattle.net_player.proofs.player.Player.play_command.Goals as goal

pub returns-in_ok-play_keys-in-Keys-clause-writes : goal.returns-in_ok-play_keys-in-Keys-clause-writes
returns-in_ok-play_keys-in-Keys-clause-writes g c =
    rw c.in-Keys.is (writes_as (λ text does. keys does) c.in_ok-play_keys-in-Keys.ensures.writes)

pub returns-in_ok-play_event-in-Event-clause-writes : goal.returns-in_ok-play_event-in-Event-clause-writes
returns-in_ok-play_event-in-Event-clause-writes g c =
    rw c.in-Event.is (writes_as (λ text does. event (record { arrived = _; tells = does })) c.in_ok-play_event-in-Event.ensures.tells)

pub returns-in_ok-flow-in-Flow-clause-writes : goal.returns-in_ok-flow-in-Flow-clause-writes
returns-in_ok-flow-in-Flow-clause-writes g c = rw c.in-Flow.is (writes_as (λ text does. flow does) c.in_ok-flow-in-Flow.ensures.writes)

pub returns-in_ok-tick-in-Tick-clause-writes : goal.returns-in_ok-tick-in-Tick-clause-writes
returns-in_ok-tick-in-Tick-clause-writes g c = rw c.in-Tick.is (writes_as (λ text does. tick does) c.in_ok-tick-in-Tick.ensures.writes)

pub returns-in-Trace-clause-writes : goal.returns-in-Trace-clause-writes
returns-in-Trace-clause-writes g c = rw c.in-Trace.is (writes_nothing _ trace)

pub returns-in_err-play_keys-in-Keys-clause-stops : goal.returns-in_err-play_keys-in-Keys-clause-stops
returns-in_err-play_keys-in-Keys-clause-stops g c =
    let p = err_from_is_err_and c.from_residual.result c.from_residual.ensures.1 in
    rw (p.1, p.2, c.in-Keys.is) (writes_as (λ part stops. in_keys stops) c.in_err-play_keys-in-Keys.ensures.stops)

pub returns-in_err-play_event-in-Event-clause-stops : goal.returns-in_err-play_event-in-Event-clause-stops
returns-in_err-play_event-in-Event-clause-stops g c =
    let p = err_from_is_err_and c.from_residual-in_err-play_event-in-Event.result c.from_residual-in_err-play_event-in-Event.ensures.1 in
    rw (p.1, p.2, c.in-Event.is) (writes_as (λ part stops. at_event stops) c.in_err-play_event-in-Event.ensures.stops)

pub returns-in_err-flow-in-Flow-clause-stops : goal.returns-in_err-flow-in-Flow-clause-stops
returns-in_err-flow-in-Flow-clause-stops g c =
    let p = err_from_is_err_and c.from_residual-in_err-flow-in-Flow.result c.from_residual-in_err-flow-in-Flow.ensures.1 in
    rw (p.1, p.2, c.in-Flow.is) (writes_as (λ part stops. in_flow stops) c.in_err-flow-in-Flow.ensures.stops)

pub returns-in_err-tick-in-Tick-clause-stops : goal.returns-in_err-tick-in-Tick-clause-stops
returns-in_err-tick-in-Tick-clause-stops g c =
    let p = err_from_is_err_and c.from_residual-in_err-tick-in-Tick.result c.from_residual-in_err-tick-in-Tick.ensures.1 in
    rw (p.1, p.2, c.in-Tick.is) (writes_as (λ part stops. in_ticks stops) c.in_err-tick-in-Tick.ensures.stops)

pub returns-in_ok-write-in-Check-clause-writes : goal.returns-in_ok-write-in-Check-clause-writes
returns-in_ok-write-in-Check-clause-writes g c =
    rw c.in-Check.is (writes_known _
    (rw c.check_line.ensures (check (record { exact = c.all_match.ensures.exact; faithful = c.all_match.ensures.faithful })))
    c.in_ok-write-in-Check.ensures.writes)

pub returns-in_err-write-in-Check-clause-stops : goal.returns-in_err-write-in-Check-clause-stops
returns-in_err-write-in-Check-clause-stops g c =
    let p = err_from_is_err_and c.from_residual-in_err-write-in-Check.result c.from_residual-in_err-write-in-Check.ensures.1 in
    rw (p.1, p.2, c.in-Check.is) (writes_as (λ part told. in_check
    (record { exact = c.all_match.ensures.exact; faithful = c.all_match.ensures.faithful }) c.in_err-write-in-Check.ensures.fault told)
    (rw c.check_line.ensures at c.in_err-write-in-Check.ensures.refused))
