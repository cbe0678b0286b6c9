-- What a PAD does at a break (X.3 3.7).
use Rattle.std.specs.Prelude.{ℕ, Bool, not, ◌&&◌, ◌||◌, if◌then◌else◌, List, [], ◌∷◌, Option, Some, None}
use Rattle.x3_params.specs.Settings.{acts_on_break}
use Rattle.x3_params.specs.declared.settings.BreakAction.TheVariants as action
use Rattle.x29_messages.specs.declared.message.Message.{Message}
use Rattle.x29_messages.specs.declared.message.Message.TheVariants.{IndicationOfBreak}
use Rattle.pad_terminal.specs.Settings.{after_set}
use Rattle.pad_terminal.specs.Terminal.{TerminalState, is_present, is_connected, is_data_transfer}
use Rattle.pad_terminal.specs.Calls.{prompted}
use Rattle.pad_terminal.specs.declared.answers.BreakAnswer.{BreakAnswer}
use Rattle.pad_terminal.specs.declared.answers.BreakAnswer.TheVariants.{Dropped, Taken}
use Rattle.pad_terminal.specs.declared.answers.CallCondition.{CallCondition}
use Rattle.pad_terminal.specs.declared.answers.TerminalRequest.{TerminalRequest}
use Rattle.pad_terminal.specs.declared.answers.TerminalRequest.TheVariants as request
use Rattle.pad_terminal.specs.declared.mode.Mode.TheVariants.{CommandState}

-- an indication of break goes out: where the break resets the call too it would be lost
abbrev pub indicates : List ℕ → Bool
indicates params = acts_on_break params action.Indication && not (acts_on_break params action.Reset)

-- an interrupt or a reset, where it may be sent; of the two the reset
abbrev pub request_of : List ℕ → CallCondition → Option TerminalRequest
request_of params call =
    if acts_on_break params action.Reset
    then (if call.reset_pending then None else Some request.Reset)
    else if acts_on_break params action.Interrupt && call.may_interrupt
    then Some request.Interrupt
    else None

-- the indication says that output is discarded from now on, if it is
abbrev pub discard_pairs : List ℕ → List (ℕ × ℕ)
discard_pairs params = if acts_on_break params action.Discard then (8, 1) ∷ [] else []

abbrev pub indication_of : List ℕ → Option Message
indication_of params =
    if indicates params then Some (IndicationOfBreak (record { items = discard_pairs params })) else None

-- the escape to the command state, out of data transfer
abbrev pub escaped : TerminalState → TerminalState
escaped t =
    if acts_on_break t.settings.params action.Escape && is_data_transfer t.mode then prompted CommandState t else t

-- output is discarded until parameter 8 is put to 0
abbrev pub discarding : TerminalState → TerminalState
discarding t =
    if acts_on_break t.settings.params action.Discard
    then record t { settings = after_set 8 1 t.settings }
    else t

-- without a connected call nothing happens; nor does anything where the indication has no place in the send queue, or the
-- terminal is absent
abbrev pub is_dropped : CallCondition → TerminalState → Bool
is_dropped call t =
    not (is_present t.mode) || (is_connected t.mode && indicates t.settings.params && call.queue_full)

abbrev pub after_break : CallCondition → TerminalState → TerminalState
after_break call t =
    if is_connected t.mode && not (is_dropped call t) then discarding (escaped t) else t

abbrev pub answer_of : CallCondition → TerminalState → BreakAnswer
answer_of call t =
    if is_dropped call t then Dropped
    else if is_connected t.mode
    then Taken (record {
      request = request_of t.settings.params call;
      indication = indication_of t.settings.params;
    })
    else Taken (record { request = None; indication = None })
