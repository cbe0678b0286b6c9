-- What a PAD does with the commands of its terminal (X.28 3.2 to 3.5).
use Rattle.std.specs.Prelude.{ℕ, Bool, true, false, not, ◌&&◌, if◌then◌else◌, List, [], ◌∷◌, map, Option, Some, None}
use Rattle.std.specs.Prelude.{Result, Ok, Err}
use Rattle.std.specs.Result.{result_ok}
use Rattle.x3_params.specs.Table.{profile_numbered}
use Rattle.x3_params.specs.declared.profile.Profile.{Profile}
use Rattle.x28_commands.specs.Reading.{command_of}
use Rattle.x28_commands.specs.declared.command.Command.{Command}
use Rattle.x28_commands.specs.declared.command.Selection.{Selection}
use Rattle.x28_commands.specs.declared.command.Command.TheVariants as command
use Rattle.x28_commands.specs.declared.fault.CommandFault.{CommandFault}
use Rattle.x28_commands.specs.declared.signal.ParameterValue.{ParameterValue}
use Rattle.x28_commands.specs.declared.signal.Signal.{Signal}
use Rattle.x28_commands.specs.declared.signal.Signal.TheVariants as signal
use Rattle.pad_terminal.specs.Settings.{Change, after_pairs, refused, readings, with_profile}
use Rattle.pad_terminal.specs.Terminal.{TerminalState, has_call, is_connected}
use Rattle.pad_terminal.specs.Calls.{signalled, ended}
use Rattle.pad_terminal.specs.declared.answers.CallCondition.{CallCondition}
use Rattle.pad_terminal.specs.declared.answers.TerminalRequest.{TerminalRequest}
use Rattle.pad_terminal.specs.declared.answers.TerminalRequest.TheVariants as request
use Rattle.pad_terminal.specs.declared.mode.Mode.{Mode}
use Rattle.pad_terminal.specs.declared.mode.Mode.TheVariants.{Absent, Free, CallSetUp, DataTransfer, CommandState}
use Rattle.pad_terminal.specs.declared.settings.Setting.{Setting}
use Rattle.pad_terminal.specs.declared.terminal.commands.Outcome.{Outcome}

-- the terminal after a command, and what answers it and is asked of the PAD
pub record CommandEffect : Type 0 where
  pub terminal : TerminalState
  pub outcome : Outcome

abbrev pub answered : Signal → TerminalState → CommandEffect
answered s t = record { terminal = t; outcome = record { answer = Some s; request = None } }

abbrev pub unanswered : Option TerminalRequest → TerminalState → CommandEffect
unanswered r t = record { terminal = t; outcome = record { answer = None; request = r } }

abbrev pub in_error : TerminalState → CommandEffect
in_error t = answered signal.Error t

-- ---- parameters

abbrev pub parameter_value : Setting → ParameterValue
parameter_value s = record { number = s.number; value = result_ok s.outcome }

abbrev pub parameters : List Setting → Signal
parameters report = signal.Parameters (record { items = map parameter_value report })

-- where none is told of, the command is acknowledged
abbrev pub acknowledged : List Setting → Signal
acknowledged [] = signal.Acknowledgement
acknowledged (s ∷ ss) = parameters (s ∷ ss)

abbrev pub after_profile : Option Profile → TerminalState → CommandEffect
after_profile (Some profile) t =
    answered signal.Acknowledgement (record t { settings = with_profile profile t.settings })
after_profile None t = in_error t

-- the refused pairs alone are told, or all
abbrev pub after_set_command : Change → TerminalState → CommandEffect
after_set_command c t = answered (acknowledged (refused c.report)) (record t { settings = c.settings })

abbrev pub after_set_and_read : Change → TerminalState → CommandEffect
after_set_and_read c t = answered (parameters c.report) (record t { settings = c.settings })

-- ---- the call

abbrev pub may_reset : CallCondition → TerminalState → Bool
may_reset call t = is_connected t.mode && not call.reset_pending

abbrev pub may_interrupt : CallCondition → TerminalState → Bool
may_interrupt call t = is_connected t.mode && call.may_interrupt

-- a request, where it may be made
abbrev pub asked : Bool → TerminalRequest → Outcome
asked may r =
    if may then record { answer = Some signal.Acknowledgement; request = Some r }
    else record { answer = Some signal.Error; request = None }

abbrev pub after_clear : TerminalState → CommandEffect
after_clear t =
    if has_call t.mode
    then unanswered (Some request.Clear) (ended signal.ClearConfirmation t)
    else in_error t

abbrev pub after_selection : Selection → TerminalState → CommandEffect
after_selection selection t =
    if has_call t.mode then in_error t
    else unanswered (Some (request.Call selection)) (record t { mode = CallSetUp })

-- ---- the commands

abbrev pub effect_of : Command → CallCondition → TerminalState → CommandEffect
effect_of command.Empty call t = unanswered None t
effect_of command.Status call t = answered (if has_call t.mode then signal.Engaged else signal.Free) t
effect_of command.Clear call t = after_clear t
effect_of command.Interrupt call t = record { terminal = t; outcome = asked (may_interrupt call t) request.Interrupt }
effect_of command.Reset call t = record { terminal = t; outcome = asked (may_reset call t) request.Reset }
effect_of (command.Profile number) call t = after_profile (profile_numbered number) t
effect_of (command.Read numbers) call t = answered (parameters (readings t.settings.params numbers.items)) t
effect_of (command.Set pairs) call t = after_set_command (after_pairs pairs.items t.settings) t
effect_of (command.SetAndRead pairs) call t = after_set_and_read (after_pairs pairs.items t.settings) t
effect_of (command.Select selection) call t = after_selection selection t

-- what is no command is an error
abbrev pub effect_of_line : Result Command CommandFault → CallCondition → TerminalState → CommandEffect
effect_of_line (Ok c) call t = effect_of c call t
effect_of_line (Err fault) call t = in_error t

-- ---- its end

abbrev pub is_error : Option Signal → Bool
is_error (Some signal.Error) = true
is_error _ = false

-- a command that is done ends the command state within a call
abbrev pub mode_after : Option Signal → Mode → Mode
mode_after answer Absent = Absent
mode_after answer Free = Free
mode_after answer CallSetUp = CallSetUp
mode_after answer DataTransfer = DataTransfer
mode_after answer CommandState = if is_error answer then CommandState else DataTransfer

abbrev pub told : Option Signal → TerminalState → TerminalState
told None t = t
told (Some s) t = signalled s t

abbrev pub completed : Option Signal → TerminalState → TerminalState
completed answer t = told answer (record t { mode = mode_after answer t.mode })

-- what a line makes of the terminal, and what the PAD is asked to do
unfoldable pub after_line : List ℕ → CallCondition → TerminalState → TerminalState
after_line line call t =
    let effect = effect_of_line (command_of line) call t in
    completed effect.outcome.answer effect.terminal

unfoldable pub request_of_line : List ℕ → CallCondition → TerminalState → Option TerminalRequest
request_of_line line call t = (effect_of_line (command_of line) call t).outcome.request
