-- Why a PAD says something of itself on a call: its answers to messages, its indications of break, and its interrupts
-- (X.3 3.7, X.28 3.3, X.29 4.4).
use Rattle.std.specs.Prelude.{ℕ, Bool, not, ◌&&◌, if◌then◌else◌, List, [], ◌∷◌, ◌++◌}
use Rattle.x3_params.specs.Settings.{acts_on_break}
use Rattle.x3_params.specs.declared.settings.BreakAction.TheVariants as action
use Rattle.x29_messages.specs.declared.message.Message.{Message}
use Rattle.x29_messages.specs.declared.message.Message.TheVariants.{IndicationOfBreak}
use Rattle.pad_terminal.specs.Terminal.{TerminalState}
use Rattle.pad_terminal.specs.Messages.{after_octets}
use Rattle.pad_terminal.specs.declared.answers.Reply.{Reply}
use Rattle.pad_terminal.specs.declared.answers.Reply.TheVariants as reply
use Rattle.pad_ports.specs.PadLine.{interrupt_octet}

-- a terminal, as it then was, took a message of the far end; a break was taken, with the values of the parameters then
-- in force, and with an interrupt or a reset of the call pending or not; or the command INT was carried out
pub data Occasion : Type 0 where
  TookMessage : (octets : List ℕ) → TerminalState → Occasion
  HadBreak : (params : List ℕ) → (pending : Bool) → Occasion
  HadCommand : Occasion

-- ---- messages

-- the messages that were taken, in order
abbrev pub messages_taken : List Occasion → List (List ℕ)
messages_taken [] = []
messages_taken (TookMessage octets t ∷ os) = octets ∷ messages_taken os
messages_taken (HadBreak params pending ∷ os) = messages_taken os
messages_taken (HadCommand ∷ os) = messages_taken os

-- a message that asks for an answer is answered once
abbrev pub answer_in : Reply → List Message
answer_in (reply.Message m) = m ∷ []
answer_in reply.Nothing = []
answer_in reply.Clear = []

-- parameter 7 asks for an indication of break, but none goes with a reset of the call
abbrev pub asks_indication : (params : List ℕ) → Bool
asks_indication params = acts_on_break params action.Indication && not (acts_on_break params action.Reset)

-- it says that parameter 8 is 1 from now on, if the break discards output
abbrev pub indication : (params : List ℕ) → Message
indication params =
    IndicationOfBreak (record { items = if acts_on_break params action.Discard then (8, 1) ∷ [] else [] })

abbrev pub told_at : Occasion → List Message
told_at (TookMessage octets t) = answer_in (after_octets octets t).reply
told_at (HadBreak params pending) = if asks_indication params then indication params ∷ [] else []
told_at HadCommand = []

abbrev pub all_told : List Occasion → List Message
all_told [] = []
all_told (o ∷ os) = told_at o ++ all_told os

-- ---- interrupts

-- parameter 7 asks for an interrupt, but none goes with a reset of the call, nor while one or a reset is pending
abbrev pub asks_interrupt : (params : List ℕ) → (pending : Bool) → Bool
asks_interrupt params pending =
    acts_on_break params action.Interrupt && not (acts_on_break params action.Reset) && not pending

abbrev pub interrupts_at : Occasion → List (List ℕ)
interrupts_at (TookMessage octets t) = []
interrupts_at (HadBreak params pending) =
    if asks_interrupt params pending then (interrupt_octet ∷ []) ∷ [] else []
interrupts_at HadCommand = (interrupt_octet ∷ []) ∷ []

abbrev pub all_interrupts : List Occasion → List (List ℕ)
all_interrupts [] = []
all_interrupts (o ∷ os) = interrupts_at o ++ all_interrupts os
