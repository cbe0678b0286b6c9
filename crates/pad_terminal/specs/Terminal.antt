-- A terminal of a PAD (X.3, X.28).
use Rattle.std.specs.Prelude.{ℕ, Bool, true, false, not, ◌&&◌, nat_lt, if◌then◌else◌, List, [], length, Option}
use Rattle.std.specs.Prelude.{Some, None}
use Rattle.x3_params.specs.Values.{value}
use Rattle.x3_params.specs.Settings.{has_editing}
use Rattle.pad_terminal.specs.Output.{Output, no_output}
use Rattle.pad_terminal.specs.Settings.{initial}
use Rattle.pad_terminal.specs.declared.settings.Settings.{Settings}
use Rattle.pad_terminal.specs.declared.mode.Mode.{Mode}
use Rattle.pad_terminal.specs.declared.mode.Mode.TheVariants.{Absent, Free, CallSetUp, DataTransfer, CommandState}

-- its mode; the parameters, and whether the terminal stopped its output; the command line; the text that is held to be
-- forwarded; what waits to be shown; and whether the PAD told the terminal to stop
pub record TerminalState : Type 0 where
  pub mode : Mode
  pub settings : Settings
  pub line : List ℕ
  pub held : List ℕ
  pub output : Output
  pub device_stopped : Bool

-- as it is made, on a call that stands or without one
abbrev pub made : List ℕ → Bool → TerminalState
made params standing = record {
  mode = if standing then DataTransfer else Free;
  settings = initial params;
  line = [];
  held = [];
  output = no_output;
  device_stopped = false;
}

-- the terminal has not left
abbrev pub is_present : Mode → Bool
is_present Absent = false
is_present Free = true
is_present CallSetUp = true
is_present DataTransfer = true
is_present CommandState = true

-- as it is when it has left
abbrev pub left : List ℕ → TerminalState
left params = record (made params false) { mode = Absent }

-- one that has left arrives, and is then without a call
abbrev pub arrived : TerminalState → TerminalState
arrived t = if is_present t.mode then t else record t { mode = Free }

-- there is a call, or one is being set up
abbrev pub has_call : Mode → Bool
has_call Absent = false
has_call Free = false
has_call CallSetUp = true
has_call DataTransfer = true
has_call CommandState = true

-- there is a call, which is connected
abbrev pub is_connected : Mode → Bool
is_connected Absent = false
is_connected Free = false
is_connected CallSetUp = false
is_connected DataTransfer = true
is_connected CommandState = true

abbrev pub is_data_transfer : Mode → Bool
is_data_transfer Absent = false
is_data_transfer Free = false
is_data_transfer CallSetUp = false
is_data_transfer DataTransfer = true
is_data_transfer CommandState = false

-- a packet of the call may be shown: the call is in data transfer, and the terminal did not stop its output
abbrev pub may_show : TerminalState → Bool
may_show t = is_data_transfer t.mode && not t.settings.output_stopped

-- the idle timer runs in data transfer, with text that is held and not edited, for the time of parameter 4 (X.3 3.4)
abbrev pub runs_idle_timer : TerminalState → Bool
runs_idle_timer t =
    is_data_transfer t.mode && nat_lt 0 (value t.settings.params 4) && not (has_editing t.settings.params)
    && nat_lt 0 (length t.held)

abbrev pub idle_time : TerminalState → Option ℕ
idle_time t = if runs_idle_timer t then Some (value t.settings.params 4) else None
