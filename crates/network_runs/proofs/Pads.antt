-- The runs of a PAD and a host, by computation.
use Rattle.std.proofs.Common.{refl}
use Rattle.std.specs.Prelude.{true, false}
use Rattle.pad_editing.specs.Edited as editing
use Rattle.pad_editing.specs.Echoes.{echo_of}
use Rattle.pad_editing.specs.Shown as display
use Rattle.x3_params.specs.Forwarding.{class_of}
use Rattle.x3_params.specs.Table.{allows}
use Rattle.x28_commands.specs.Reading.{command_of}
use Rattle.x28_commands.specs.Numbers.{number_of, pair_of, entries}
use Rattle.x28_commands.specs.Words.{trimmed}
use Rattle.x28_commands.specs.Selection.{selection_of}
use Rattle.x28_commands.specs.Keywords.{spells}
use Rattle.x28_commands.specs.Signals.{signal_text, numeral, parameter_text}
use Rattle.x29_messages.specs.Reading.{pairs_of, message_of}
use Rattle.x29_messages.specs.MessageForm.{octets_of}
use Rattle.pad_terminal.specs.Settings.{after_pairs}
use Rattle.pad_terminal.specs.Commands.{after_line, request_of_line}
use Rattle.pad_terminal.specs.Messages.{after_octets}
use Rattle.packet_end.specs.PacketEnd.{finished, all_offered}
use Rattle.packet_layer.specs.LayerTimers.{brought}
use Rattle.x25_pad.specs.Pad.{all_heard}
use Rattle.network_runs.specs.Making.{network_of}
use Rattle.network_runs.specs.Pads.{plan, dialled_stages, standing_stages, PadRun}
use Rattle.network_runs.proofs.Running.{run_is, no_calls}

pub pad_run : PadRun
unfolding finished all_offered brought all_heard after_pairs after_line request_of_line after_octets echo_of editing.after_key editing.after_idle display.shown class_of command_of trimmed selection_of spells signal_text pairs_of message_of octets_of number_of pair_of entries numeral parameter_text allows
pad_run = record {
  dialled = run_is (plan false) dialled_stages refl (no_calls dialled_stages (network_of (plan false)) refl) refl;
  dialled_records = refl;
  dialled_said = record { messages = refl; told = refl; interrupts = refl };
  standing = run_is (plan true) standing_stages refl (no_calls standing_stages (network_of (plan true)) refl) refl;
  standing_records = refl;
  standing_said = record { messages = refl; told = refl; interrupts = refl };
}
