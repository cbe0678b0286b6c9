use Rattle.std.proofs.Common.{sym, ◌∙◌}
use Rattle.std.proofs.lemmas.Result.{err_from_is_err_and}
use Rattle.net_player.specs.Stopping.ExpiryStops.{at_once}
use Rattle.net_player.proofs.Expiries.{expires_onward, expires_all, ticks_then, stops_onward, ticks_then_stop}
use Rattle.octet_streams.proofs.Written.{writes_append, writes_as, writes_nothing}
use Rattle.net_player.proofs.player.Player.tick.Goals as goal

pub loop-expiry-init : goal.loop-expiry-init
loop-expiry-init g c = writes_nothing _ (λ rest t expires. expires, λ fault part stops. stops)

pub loop-expiry-preserved : goal.loop-expiry-preserved
loop-expiry-preserved g c =
    let due = sym c.next_due.ensures ∙ c.in-Some.is in
    writes_append _ _ _
    (λ told first onward tells. (
      expires_onward told first onward.0 due (record { arrived = _; tells = tells }),
      stops_onward told first onward.1 due (record { arrived = _; tells = tells }),
    ))
    c.loop-expiry.invariant c.in_ok-play_event.ensures.tells

pub returns-in_err-play_event-clause-stops : goal.returns-in_err-play_event-clause-stops
returns-in_err-play_event-clause-stops g c =
    let p = err_from_is_err_and c.from_residual.result c.from_residual.ensures.1 in
    let due = sym c.next_due.ensures ∙ c.in-Some.is in
    rw (p.1, p.2) (writes_append _ _ _
    (λ told part onward stops. ticks_then_stop c.args.ticks c.args.net.now c.elapse.ensures.passes (onward.1 _ part (at_once due stops)))
    c.loop-expiry.invariant c.in_err-play_event.ensures.stops)

pub returns-clause-writes : goal.returns-clause-writes
returns-clause-writes g c =
    writes_as (λ told onward. ticks_then c.args.ticks c.args.net.now c.elapse.ensures.passes (expires_all told onward.0 (sym c.next_due.ensures ∙ c.in_default.is)))
    c.loop-expiry.invariant
