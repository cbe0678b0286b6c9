-- What a PAD does with the keys of its terminal (X.3, X.28).
use Rattle.std.specs.Prelude.{ℕ, Bool, true, false, ◌&&◌, ◌||◌, not, ◌==◌, if◌then◌else◌, List, [], ◌∷◌, Option}
use Rattle.std.specs.Prelude.{Some, None, is_some}
use Rattle.x3_params.specs.Settings.{recall_character, has_flow_control, has_device_control}
use Rattle.pad_editing.specs.Edited.{Effect, after_key, after_idle, only_adds}
use Rattle.pad_editing.specs.Echoes.{echo_of}
use Rattle.pad_terminal.specs.Output.{with_octets, with_echo}
use Rattle.pad_terminal.specs.CommandLine.{LineKey, is_echoed}
use Rattle.pad_terminal.specs.CommandLine as line
use Rattle.pad_terminal.specs.Terminal.{TerminalState, is_present, is_data_transfer, runs_idle_timer}
use Rattle.pad_terminal.specs.Calls.{prompted, go_on, stop}
use Rattle.pad_terminal.specs.Commands.{after_line, request_of_line}
use Rattle.pad_terminal.specs.declared.answers.CallCondition.{CallCondition}
use Rattle.pad_terminal.specs.declared.answers.InputAnswer.{InputAnswer}
use Rattle.pad_terminal.specs.declared.answers.InputAnswer.TheVariants.{Dropped, Edited, Taken}
use Rattle.pad_terminal.specs.declared.mode.Mode.TheVariants.{CommandState}

-- the terminal after a key or an idle time, and what became of it
pub record Input : Type 0 where
  pub terminal : TerminalState
  pub answer : InputAnswer

-- ---- the command line

abbrev pub after_ended : Option (List ℕ) → CallCondition → TerminalState → Input
after_ended None call t = record { terminal = t; answer = Taken None }
after_ended (Some line) call t =
    record { terminal = after_line line call t; answer = Taken (request_of_line line call t) }

abbrev pub with_line : LineKey → Bool → TerminalState → TerminalState
with_line key echo t = record t {
  line = key.line;
  output = if echo then with_echo key.echo t.settings.params t.output else t.output;
}

abbrev pub after_command_key : ℕ → CallCondition → TerminalState → Input
after_command_key o call t =
    let key = line.after_key t.settings.params o t.line in
    after_ended key.ended call (with_line key (is_echoed t.settings.params t.line) t)

-- ---- data transfer

-- the terminal stops its output, and lets it go on
abbrev pub is_flow_control : List ℕ → ℕ → Bool
is_flow_control params o = has_flow_control params && ((o == go_on) || (o == stop))

abbrev pub is_recall : Option ℕ → ℕ → Bool
is_recall (Some character) o = o == character
is_recall None o = false

-- the PAD tells the terminal, once, to stop
abbrev pub told_to_stop : TerminalState → TerminalState
told_to_stop t =
    if has_device_control t.settings.params && not t.device_stopped
    then record t { output = with_octets (stop ∷ []) t.output; device_stopped = true }
    else t

-- a key that is edited: it is dropped where it would end a block, which has no place in the send queue
abbrev pub after_edited : Effect → ℕ → Bool → TerminalState → Input
after_edited e o queue_full t =
    if is_some e.block && queue_full then record { terminal = told_to_stop t; answer = Dropped }
    else record {
      terminal = record t {
        held = e.held;
        output = with_echo (echo_of t.settings.params o t.held) t.settings.params t.output;
      };
      answer = Edited e.block;
    }

-- flow control, then recall, then the editing of text
abbrev pub after_data_key : ℕ → Bool → TerminalState → Input
after_data_key o queue_full t =
    if is_flow_control t.settings.params o
    then record {
      terminal = record t { settings = record t.settings { output_stopped = o == stop } };
      answer = Taken None;
    }
    else if is_recall (recall_character t.settings.params) o
    then record { terminal = prompted CommandState t; answer = Taken None }
    else after_edited (after_key t.settings.params o t.held) o queue_full t

-- the key is one of data transfer that is only added to the text
abbrev pub only_adds_key : ℕ → TerminalState → Bool
only_adds_key o t =
    is_data_transfer t.mode
    && (not (is_flow_control t.settings.params o)
    && (not (is_recall (recall_character t.settings.params) o) && only_adds t.settings.params o t.held))

-- a key of data transfer, or else of the command line; of an absent terminal it is dropped
abbrev pub after_octet : ℕ → CallCondition → TerminalState → Input
after_octet o call t =
    if is_data_transfer t.mode then after_data_key o call.queue_full t
    else if is_present t.mode then after_command_key o call t
    else record { terminal = t; answer = Dropped }

-- ---- the idle timer

-- where it runs, its end ends the block of the held text; it is dropped where the block has no place in the send queue
abbrev pub after_idle_time : Bool → TerminalState → Input
after_idle_time queue_full t =
    if runs_idle_timer t
    then if queue_full
    then record { terminal = t; answer = Dropped }
    else record {
      terminal = record t { held = (after_idle t.settings.params t.held).held };
      answer = Edited (after_idle t.settings.params t.held).block;
    }
    else record { terminal = t; answer = Taken None }
