-- What a terminal learns of its call, and what it shows then (X.28 3.5).
use Rattle.std.specs.Prelude.{ℕ, Bool, false, not, ◌&&◌, ◌||◌, if◌then◌else◌, List, [], ◌∷◌}
use Rattle.x28_commands.specs.declared.signal.Signal.{Signal}
use Rattle.x28_commands.specs.declared.signal.Signal.TheVariants.{Connected, ClearIndication, ResetIndication}
use Rattle.pad_terminal.specs.Output.{with_octets, with_signal, with_prompt, laid_out}
use Rattle.pad_terminal.specs.Terminal.{TerminalState, has_call}
use Rattle.pad_terminal.specs.declared.mode.Mode.{Mode}
use Rattle.pad_terminal.specs.declared.mode.Mode.TheVariants.{Absent, Free, CallSetUp, DataTransfer, CommandState}

-- a service signal is shown
abbrev pub signalled : Signal → TerminalState → TerminalState
signalled signal t = record t { output = with_signal signal t.settings.params t.output }

-- the terminal comes from data transfer to a mode in which it types commands
abbrev pub prompted : Mode → TerminalState → TerminalState
prompted mode t = record t { mode = mode; output = with_prompt t.settings.params t.output }

-- ---- the call

-- a call is connected: a half-typed command is dropped
abbrev pub connected : TerminalState → TerminalState
connected t = signalled Connected (record t { mode = DataTransfer; line = [] })

-- without the call no text is held, and no output is stopped
abbrev pub without_call : TerminalState → TerminalState
without_call t = record t { settings = record t.settings { output_stopped = false }; held = [] }

abbrev pub freed : Mode → TerminalState → TerminalState
freed DataTransfer t = prompted Free t
freed Absent t = record t { mode = Free }
freed Free t = record t { mode = Free }
freed CallSetUp t = record t { mode = Free }
freed CommandState t = record t { mode = Free }

-- the call is over, or was not set up
abbrev pub ended : Signal → TerminalState → TerminalState
ended signal t = freed t.mode (signalled signal (without_call t))

-- for this cause
abbrev pub cleared : ℕ → TerminalState → TerminalState
cleared cause t = ended (ClearIndication cause) t

-- a reset leaves held text, and all else of the terminal
abbrev pub reset : ℕ → TerminalState → TerminalState
reset cause t = signalled (ResetIndication cause) t

-- ---- the terminal as a device

-- DC1 and DC3
abbrev pub go_on : ℕ
go_on = 0x11

abbrev pub stop : ℕ
stop = 0x13

-- a terminal that was told to stop may go on where a block would have a place in the send queue, or there is no call
abbrev pub resumed : Bool → TerminalState → TerminalState
resumed queue_full t =
    if t.device_stopped && (not (has_call t.mode) || not queue_full)
    then record t { output = with_octets (go_on ∷ []) t.output; device_stopped = false }
    else t

-- ---- what is shown

-- the text that waits is taken
abbrev pub without_text : TerminalState → TerminalState
without_text t = record t { output = record t.output { text = [] } }

-- octets of the far end are shown, and do not wait
abbrev pub displayed : List ℕ → TerminalState → TerminalState
displayed octets t =
    record t { output = record t.output { column = (laid_out octets t.settings.params t.output.column).column } }
