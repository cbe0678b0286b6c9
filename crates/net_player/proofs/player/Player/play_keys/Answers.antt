use Rattle.std.proofs.Common.{arith, length, ◌<◌, ℕ, get_or}
use Rattle.std.proofs.lemmas.Result.{err_from_is_err_and}
use Rattle.net_player.specs.InTurn.InTurn.{nothing}
use Rattle.net_player.specs.Playing.{key_event, key_events}
use Rattle.net_player.proofs.Turns.{in_turn_next}
use Rattle.net_player.proofs.Parts.{stops_next}
use Rattle.net_player.proofs.Typing.{key_within, key_there, own_or}
use Rattle.octet_streams.proofs.Written.{writes_append, writes_nothing}
use Rattle.net_player.proofs.player.Player.play_keys.Goals as goal

pub loop-octet-init : goal.loop-octet-init
loop-octet-init g c = writes_nothing _ nothing

pub loop-octet-preserved : goal.loop-octet-preserved
loop-octet-preserved g c =
    let node = c.args.keys.node in
    let terminal = c.args.keys.terminal in
    let octets = c.args.keys.octets.now in
    let at : ℕ = c.loop-octet.octet-index in
    let octet : ℕ = get_or octets at 0 in
    let among : at < length octets = omega arith in
    let within : at < length (key_events node terminal octets) = key_within node terminal octets at among in
    let there = key_there node terminal octets at octet among (own_or octets at 0 among) in
    writes_append _ _ _ (λ a b done tells.
    in_turn_next (key_events node terminal octets) at (key_event node terminal octet) within there done (record { arrived = _; tells = tells }))
    c.loop-octet.invariant (c.in_ok-play_event.ensures.tells)

pub returns-in_err-play_event-clause-stops : goal.returns-in_err-play_event-clause-stops
returns-in_err-play_event-clause-stops g c =
    let p = err_from_is_err_and c.from_residual.result c.from_residual.ensures.1 in
    let node = c.args.keys.node in
    let terminal = c.args.keys.terminal in
    let octets = c.args.keys.octets.now in
    let at : ℕ = c.loop-octet.octet-index in
    let octet : ℕ = get_or octets at 0 in
    let among : at < length octets = omega arith in
    let within : at < length (key_events node terminal octets) = key_within node terminal octets at among in
    let there = key_there node terminal octets at octet among (own_or octets at 0 among) in
    rw (p.1, p.2) (writes_append _ _ _
    (λ told part done stops. stops_next part (key_events node terminal octets) at (key_event node terminal octet) within there done stops)
    c.loop-octet.invariant (c.in_err-play_event.ensures.stops))
