use Rattle.std.proofs.Common.{◌≡◌, ◌∙◌, ◌+◌, ◌++◌, ◌<◌, ◌≤◌, [], List, ap, sym, Some, length, drop, set, subst, arith}
use Rattle.std.specs.Prelude.{slice_get}
use Rattle.data_transfer.specs.Packets.{Note, Closed}
use Rattle.flow_window.specs.Pool.{Holds, Balances}
use Rattle.flow_window.proofs.Weights.{balances_then, holds_after}
use Rattle.packet_channel.specs.Held.{Channel as Holder}
use Rattle.packet_layer.specs.Layer.{closing_notes, had_call}
use Rattle.packet_channel.specs.NoteView.{reason_of}
use Rattle.packet_layer.specs.Held.{plain, buffers}
use Rattle.packet_layer.proofs.Places.{at_place}
use Rattle.packet_layer.proofs.Placed.{plain_at, balances_at, holds_at}
use Rattle.packet_layer.proofs.Closed.{length_more, closed_more, closed_next, none_held, all_closed, notes_with_call, notes_without_call}
use Rattle.packet_layer.proofs.layer.closing.close_channels.Goals as goal
use Rattle.packet_layer.proofs.layer.closing.close_channels.Goals.{then-has_call, else-has_call}

pub loop-place-preserved : goal.loop-place-preserved
loop-place-preserved c =
    let held = c.index-channels-place.result in
    let ch = held.channel in
    let i = c.loop-place.place in
    let all = c.args.channels.now in
    let within : i < length c.loop-place.channels = omega arith in
    let now : slice_get c.loop-place.channels i ≡ Some held = at_place c.loop-place.channels i held within c.index-channels-place.is in
    let before : slice_get all i ≡ Some held = closed_next all c.loop-place.channels i held c.loop-place.invariant.channels now in
    let old : slice_get (plain all) i ≡ Some ch = plain_at all i held before in
    let had = c.has_call.ensures.had ∙ ap had_call c.state.ensures ∙ ap (λ (x : Holder). had_call x.channel.state) (sym c.index-channels-place.is) in
    record {
      channels = ap (λ (x : Holder). set c.loop-place.channels i x) c.close.ensures.channel ∙ closed_more c.args.channels.now c.loop-place.channels i (omega arith) c.loop-place.invariant.channels;
      pool = balances_then c.args.pool.now c.loop-place.pool c.close.new.pool (buffers all) (buffers c.loop-place.channels) (buffers (set c.loop-place.channels i c.close.new.self)) c.loop-place.invariant.pool
          (balances_at c.loop-place.pool c.close.new.pool c.loop-place.channels i held c.close.new.self now
          (subst (λ (x : Holder). Balances c.loop-place.pool held.held c.close.new.pool x.held) (sym c.close.ensures.channel)
          (subst (λ (x : Holder). Balances c.loop-place.pool x.held c.close.new.pool []) (sym c.index-channels-place.is) c.close.ensures.pool)));
      notes = elim c.if-has_call.branch [
        | then-has_call w ↦ ap (λ (ns : List Note). ns ++ closing_notes (i + 1 + 1) (reason_of c.args.reason) (drop (i + 1) (plain all))) (w.notes-is ∙ w.add.ensures) ∙ notes_with_call (plain all) i ch (reason_of c.args.reason) c.loop-place.notes old (sym had ∙ w.if-has_call.true) ∙ c.loop-place.invariant.notes
        | else-has_call w ↦ ap (λ (ns : List Note). ns ++ closing_notes (i + 1 + 1) (reason_of c.args.reason) (drop (i + 1) (plain all))) w.notes-is ∙ notes_without_call (plain all) i ch (reason_of c.args.reason) c.loop-place.notes old (sym had ∙ w.if-has_call.false) ∙ c.loop-place.invariant.notes
      ];
      most = elim c.if-has_call.branch [ then-has_call w ↦ omega (arith, ap (λ (ns : List Note). length ns) (w.notes-is ∙ w.add.ensures) ∙ length_more c.loop-place.notes (Closed (i + 1) 9 0 (reason_of c.args.reason)), c.loop-place.invariant.most) | else-has_call w ↦ omega (arith, ap (λ (ns : List Note). length ns) w.notes-is, c.loop-place.invariant.most) ];
    }

pub close-requires : goal.close-requires
close-requires c =
    let held = c.index-channels-place.result in
    let i = c.loop-place.place in
    let now = at_place c.loop-place.channels i held (omega arith) c.index-channels-place.is in
    subst (λ (x : Holder). Holds c.loop-place.pool x.held) c.index-channels-place.is (holds_at c.loop-place.pool
    c.loop-place.channels i held
    (holds_after c.args.pool.now c.loop-place.pool (buffers c.args.channels.now) (buffers c.loop-place.channels)
    c.requires.holds c.loop-place.invariant.pool) now)

pub returns-clause-pool : goal.returns-clause-pool
returns-clause-pool c =
    let all = c.args.channels.now in
    let end : length all ≤ c.loop-place.place = omega (arith, c.loop-place-test.false) in
    subst (λ bs. Balances c.args.pool.now (buffers all) c.loop-place.pool bs)
    (ap buffers (c.loop-place.invariant.channels ∙ all_closed all c.loop-place.place end) ∙ none_held all)
    c.loop-place.invariant.pool
