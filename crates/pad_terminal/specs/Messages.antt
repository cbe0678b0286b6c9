-- What a PAD does with the messages of the far end (X.29 4.4).
use Rattle.std.specs.Prelude.{ℕ, ◌%◌, List, [], ◌∷◌, map, Result, Ok, Err}
use Rattle.std.specs.Prelude.{bit_or, slice_get}
use Rattle.x3_params.specs.declared.fault.ParamFault.{ParamFault}
use Rattle.x3_params.specs.declared.fault.ParamFault.TheVariants as param_fault
use Rattle.x28_commands.specs.declared.signal.Signal.TheVariants.{InvitedToClear}
use Rattle.x29_messages.specs.Reading.{message_of}
use Rattle.x29_messages.specs.declared.fault.MessageFault.{MessageFault}
use Rattle.x29_messages.specs.declared.fault.MessageFault.TheVariants as message_fault
use Rattle.x29_messages.specs.declared.message.Message.{Message}
use Rattle.x29_messages.specs.declared.message.Message.TheVariants.{ParameterIndication, InvitationToClear, Set}
use Rattle.x29_messages.specs.declared.message.Message.TheVariants.{IndicationOfBreak, Read, Error, SetAndRead}
use Rattle.pad_terminal.specs.Settings.{Change, after_pairs, refused, readings, with_initial}
use Rattle.pad_terminal.specs.Terminal.{TerminalState}
use Rattle.pad_terminal.specs.Calls.{ended}
use Rattle.pad_terminal.specs.declared.answers.Reply.{Reply}
use Rattle.pad_terminal.specs.declared.answers.Reply.TheVariants as reply
use Rattle.pad_terminal.specs.declared.settings.Setting.{Setting}
use Rattle.pad_terminal.specs.declared.settings.Settings.{Settings}

-- the terminal after a message, and what the PAD answers it
pub record Answered : Type 0 where
  pub terminal : TerminalState
  pub reply : Reply

-- ---- references and values

-- references are taken modulo 128
abbrev pub numbered : ℕ × ℕ → ℕ × ℕ
numbered pair = (pair.0 % 128, pair.1)

abbrev pub fault_number : ParamFault → ℕ
fault_number param_fault.NoSuchParameter = 1
fault_number param_fault.BadValue = 2
fault_number param_fault.ReadOnly = 3

-- a value, or the number of the fault, with bit 8 of the reference
abbrev pub indicated_by : Result ℕ ParamFault → ℕ → ℕ × ℕ
indicated_by (Ok value) number = (number, value)
indicated_by (Err fault) number = (bit_or number 128, fault_number fault)

abbrev pub indicated : Setting → ℕ × ℕ
indicated s = indicated_by s.outcome s.number

abbrev pub indication : List Setting → Message
indication report = ParameterIndication (record { items = map indicated report })

-- ---- setting and reading

-- no pairs put all parameters to their initial values
abbrev pub after_message_pairs : List (ℕ × ℕ) → Settings → Change
after_message_pairs [] s = record { settings = with_initial s; report = [] }
after_message_pairs (p ∷ ps) s = after_pairs (map numbered (p ∷ ps)) s

-- the refused pairs alone are told, if there are any
abbrev pub refusals : List Setting → Reply
refusals [] = reply.Nothing
refusals (s ∷ ss) = reply.Message (indication (s ∷ ss))

abbrev pub numbers_of : List (ℕ × ℕ) → List ℕ
numbers_of pairs = map (λ pair. pair.0 % 128) pairs

-- all pairs are told, and for none the values of all parameters
abbrev pub report_of : List (ℕ × ℕ) → Change → List Setting
report_of [] c = readings c.settings.params []
report_of (p ∷ ps) c = c.report

abbrev pub after_set : Change → TerminalState → Answered
after_set c t = record { terminal = record t { settings = c.settings }; reply = refusals (refused c.report) }

abbrev pub after_set_and_read : List (ℕ × ℕ) → Change → TerminalState → Answered
after_set_and_read pairs c t = record {
  terminal = record t { settings = c.settings };
  reply = reply.Message (indication (report_of pairs c));
}

-- ---- the messages

abbrev pub unanswered : TerminalState → Answered
unanswered t = record { terminal = t; reply = reply.Nothing }

abbrev pub after : Message → TerminalState → Answered
after (ParameterIndication pairs) t = unanswered t
after InvitationToClear t = record { terminal = ended InvitedToClear t; reply = reply.Clear }
after (Set pairs) t = after_set (after_message_pairs pairs.items t.settings) t
after (IndicationOfBreak pairs) t = unanswered t
after (Read pairs) t = record {
  terminal = t;
  reply = reply.Message (indication (readings t.settings.params (numbers_of pairs.items)));
}
after (Error kind code) t = unanswered t
after (SetAndRead pairs) t = after_set_and_read pairs.items (after_message_pairs pairs.items t.settings) t

-- octets that are no message are answered by an error: its type, and the first octet, if there is one
abbrev pub error_type : MessageFault → ℕ
error_type message_fault.Empty = 0
error_type message_fault.UnknownCode = 1
error_type message_fault.OddLength = 2

abbrev pub after_octets_of : Result Message MessageFault → List ℕ → TerminalState → Answered
after_octets_of (Ok message) octets t = after message t
after_octets_of (Err fault) octets t =
    record { terminal = t; reply = reply.Message (Error (error_type fault) (slice_get octets 0)) }

unfoldable pub after_octets : List ℕ → TerminalState → Answered
after_octets octets t = after_octets_of (message_of octets) octets t
