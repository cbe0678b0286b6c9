use Rattle.std.proofs.Common.{◌≡◌, ◌+◌, ◌≤◌, ◌++◌, [], map, take, drop, length}
use Rattle.packet_channel.specs.Channel.{closed_channel}
use Rattle.flow_window.specs.Pool.{Balances}
use Rattle.packet_layer.specs.Held.{plain, buffers}
use Rattle.packet_layer.specs.Layer.{closing_notes}
use Rattle.packet_channel.specs.NoteView.{reason_of}
use Rattle.packet_layer.proofs.layer.closing.close_channels.Given as goal

abbrev pub invariant-loop-place : goal.invariant-loop-place
invariant-loop-place l = record {
  channels : l.channels ≡ map (λ ch. record { channel = closed_channel; held = [] }) (take l.place l.fn.channels) ++ drop l.place l.fn.channels;
  pool : Balances l.fn.pool (buffers l.fn.channels) l.pool (buffers l.channels);
  notes : l.notes ++ closing_notes (l.place + 1) (reason_of l.reason) (drop l.place (plain l.fn.channels)) ≡ closing_notes 1 (reason_of l.reason) (plain l.fn.channels);
  most : length l.notes ≤ l.place;
}
