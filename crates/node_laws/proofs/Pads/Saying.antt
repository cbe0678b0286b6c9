-- What a PAD says of itself in an event is what the event is an occasion for.
use Rattle.std.specs.Prelude.{◌≡◌, ℕ, Bool, true, false, if◌then◌else◌, List, [], ◌∷◌, ◌++◌, map}
use Rattle.std.proofs.Common.{refl, sym, ap, ◌∙◌, append_assoc}
use Rattle.std.proofs.lemmas.List.{map-append}
use Rattle.link_timers.specs.declared.timers.TimerId.{TimerId}
use Rattle.link_timers.specs.declared.timers.TimerId.TheVariants.{Idle}
use Rattle.packet_end.specs.PacketEnd.{received, after_timer, relinked, runs_at}
use Rattle.x29_messages.specs.MessageForm.{octets_of}
use Rattle.x29_messages.specs.declared.message.Message.{Message}
use Rattle.pad_ports.specs.Notes.{ChannelNote}
use Rattle.pad_ports.specs.Ports as port
use Rattle.x25_pad.specs.Pad as pad
use Rattle.x25_pad.specs.Pad.{PadState}
use Rattle.node_laws.specs.Pads.Occasions.{Occasion, TookMessage, HadBreak, HadCommand, messages_taken, told_at, all_told, interrupts_at, all_interrupts}
use Rattle.node_laws.specs.Pads.Happening.{PadEvent, HasKey, HasBreak, HasIdleTime, HasPrinting, HasLeaving, HasArrival, HasFrame, HasExpiry, HasRelink, HasRestart, HasTicks, after_event, occasions_of, by_key, by_break, by_printing}
use Rattle.node_laws.proofs.Pads.QualifiedPackets.{Octets, message_in, told_in, interrupt_in, all_in, IsKind, messages_kind, told_kind, nothing_noted, key_says, told_octets, break_messages, break_told, print_told, print_messages, line_says, event_says, silent_says}
use Rattle.node_laws.proofs.Pads.Interrupting.{interrupts_kind, key_interrupts, idle_interrupts, leaving_says, break_interrupts, print_interrupts}

-- ---- events

-- an event of which nothing at all is said
module _ (f : ChannelNote → Octets) (kind : IsKind f) where
  idle_says : (number : ℕ) (p : PadState) → p.line.notes ≡ [] → all_in f (pad.after_idle number p).line.notes ≡ []
  idle_says number p none = by (pad.runs_idle_timer number p)
    where
      by : (v : Bool) → all_in f (if v then pad.terminal_event number port.after_idle p else p).line.notes ≡ []
      by true = silent_says f kind (λ os. []) refl (λ c. false) number port.after_idle (λ a. idle_interrupts f kind a) p
      by false = nothing_noted f p.line.notes none

  leaving_silent : (number : ℕ) (p : PadState) → all_in f (pad.terminal_event number port.after_leaving p).line.notes ≡ []
  leaving_silent number p = silent_says f kind (λ os. []) refl (λ c. false) number port.after_leaving (λ a. leaving_says f kind a) p

  arrival_silent : (number : ℕ) (p : PadState) → all_in f (pad.terminal_event number port.after_arrival p).line.notes ≡ []
  arrival_silent number p = silent_says f kind (λ os. []) refl (λ c. false) number port.after_arrival (λ a. refl) p

  expiry_says : (id : TimerId) (p : PadState) → p.line.notes ≡ [] → all_in f (pad.after_expiry p id).line.notes ≡ []
  expiry_says id p none = by (runs_at p.line.end id)
    where
      by : (v : Bool) → all_in f (if v then pad.line_event (pad.with_end (after_timer (pad.begun p).line.end id) (pad.begun p)) else p).line.notes ≡ []
      by true = line_says f kind (pad.with_end (after_timer (pad.begun p).line.end id) (pad.begun p))
      by false = nothing_noted f p.line.notes none

  timer_says : (id : TimerId) (p : PadState) → p.line.notes ≡ [] → all_in f (pad.after_timer p id).line.notes ≡ []
  timer_says (Idle number) p none = idle_says number p none
  timer_says id p none = expiry_says id p none

pub event_messages : (event : PadEvent) (p : PadState) → p.line.notes ≡ [] → (test : ℕ → Bool) → all_in (message_in test) (after_event event p).line.notes ≡ messages_taken (occasions_of event p test)
event_messages (HasKey number octet) p none test =
    event_says (message_in test) (messages_kind test) messages_taken refl test number (port.after_key octet) (by_key octet)
    p (λ q. key_says (message_in test) (messages_kind test) (λ c octets. refl) messages_taken refl refl test octet (pad.with_line number q (pad.begun p)))
event_messages (HasBreak number) p none test =
    event_says (message_in test) (messages_kind test) messages_taken refl test number port.after_break by_break p (λ q. break_messages test (pad.with_line number q (pad.begun p)))
event_messages (HasPrinting number) p none test =
    event_says (message_in test) (messages_kind test) messages_taken refl test number port.after_print by_printing p (λ q. print_messages test (pad.with_line number q (pad.begun p)))
event_messages (HasLeaving number) p none test = leaving_silent (message_in test) (messages_kind test) number p
event_messages (HasArrival number) p none test = arrival_silent (message_in test) (messages_kind test) number p
event_messages (HasIdleTime number) p none test = idle_says (message_in test) (messages_kind test) number p none
event_messages (HasFrame octets) p none test = line_says (message_in test) (messages_kind test) (pad.with_end (received (pad.begun p).line.end octets) (pad.begun p))
event_messages (HasExpiry id) p none test = timer_says (message_in test) (messages_kind test) id p none
event_messages HasRelink p none test = line_says (message_in test) (messages_kind test) (pad.with_end (relinked (pad.begun p).line.end) (pad.begun p))
event_messages HasRestart p none test = refl
event_messages (HasTicks ticks) p none test = nothing_noted (message_in test) p.line.notes none

pub event_told : (event : PadEvent) (p : PadState) → p.line.notes ≡ [] → p.line.end.layer.flow.size ≡ 128 → (test : ℕ → Bool) → all_in (told_in test) (after_event event p).line.notes ≡ told_octets (occasions_of event p test)
event_told (HasKey number octet) p none size test =
    event_says (told_in test) (told_kind test) told_octets refl test number (port.after_key octet) (by_key octet)
    p (λ q. key_says (told_in test) (told_kind test) (λ c octets. refl) told_octets refl refl test octet (pad.with_line number q (pad.begun p)))
event_told (HasBreak number) p none size test =
    event_says (told_in test) (told_kind test) told_octets refl test number port.after_break by_break p (λ q. break_told test (pad.with_line number q (pad.begun p)) size)
event_told (HasPrinting number) p none size test =
    event_says (told_in test) (told_kind test) told_octets refl test number port.after_print by_printing p (λ q. print_told test (pad.with_line number q (pad.begun p)) size)
event_told (HasLeaving number) p none size test = leaving_silent (told_in test) (told_kind test) number p
event_told (HasArrival number) p none size test = arrival_silent (told_in test) (told_kind test) number p
event_told (HasIdleTime number) p none size test = idle_says (told_in test) (told_kind test) number p none
event_told (HasFrame octets) p none size test = line_says (told_in test) (told_kind test) (pad.with_end (received (pad.begun p).line.end octets) (pad.begun p))
event_told (HasExpiry id) p none size test = timer_says (told_in test) (told_kind test) id p none
event_told HasRelink p none size test = line_says (told_in test) (told_kind test) (pad.with_end (relinked (pad.begun p).line.end) (pad.begun p))
event_told HasRestart p none size test = refl
event_told (HasTicks ticks) p none size test = nothing_noted (told_in test) p.line.notes none

pub event_interrupts : (event : PadEvent) (p : PadState) → p.line.notes ≡ [] → (test : ℕ → Bool) → all_in (interrupt_in test) (after_event event p).line.notes ≡ all_interrupts (occasions_of event p test)
event_interrupts (HasKey number octet) p none test =
    event_says (interrupt_in test) (interrupts_kind test) all_interrupts refl test number (port.after_key octet) (by_key octet) p (λ q. key_interrupts test octet (pad.with_line number q (pad.begun p)))
event_interrupts (HasBreak number) p none test =
    event_says (interrupt_in test) (interrupts_kind test) all_interrupts refl test number port.after_break by_break p (λ q. break_interrupts test (pad.with_line number q (pad.begun p)))
event_interrupts (HasPrinting number) p none test =
    event_says (interrupt_in test) (interrupts_kind test) all_interrupts refl test number port.after_print by_printing p (λ q. print_interrupts test (pad.with_line number q (pad.begun p)))
event_interrupts (HasLeaving number) p none test = leaving_silent (interrupt_in test) (interrupts_kind test) number p
event_interrupts (HasArrival number) p none test = arrival_silent (interrupt_in test) (interrupts_kind test) number p
event_interrupts (HasIdleTime number) p none test = idle_says (interrupt_in test) (interrupts_kind test) number p none
event_interrupts (HasFrame octets) p none test = line_says (interrupt_in test) (interrupts_kind test) (pad.with_end (received (pad.begun p).line.end octets) (pad.begun p))
event_interrupts (HasExpiry id) p none test = timer_says (interrupt_in test) (interrupts_kind test) id p none
event_interrupts HasRelink p none test = line_says (interrupt_in test) (interrupts_kind test) (pad.with_end (relinked (pad.begun p).line.end) (pad.begun p))
event_interrupts HasRestart p none test = refl
event_interrupts (HasTicks ticks) p none test = nothing_noted (interrupt_in test) p.line.notes none

-- ---- occasions one after the other

pub messages_append : (os ps : List Occasion) → messages_taken (os ++ ps) ≡ messages_taken os ++ messages_taken ps
messages_append [] ps = refl
messages_append (TookMessage octets t ∷ os) ps = ap (λ (l : Octets). octets ∷ l) (messages_append os ps)
messages_append (HadBreak params pending ∷ os) ps = messages_append os ps
messages_append (HadCommand ∷ os) ps = messages_append os ps

pub told_append : (os ps : List Occasion) → all_told (os ++ ps) ≡ all_told os ++ all_told ps
told_append [] ps = refl
told_append (o ∷ os) ps = ap (λ (l : List Message). told_at o ++ l) (told_append os ps) ∙ sym (append_assoc (told_at o) (all_told os) (all_told ps))

pub interrupts_append : (os ps : List Occasion) → all_interrupts (os ++ ps) ≡ all_interrupts os ++ all_interrupts ps
interrupts_append [] ps = refl
interrupts_append (o ∷ os) ps = ap (λ (l : Octets). interrupts_at o ++ l) (interrupts_append os ps) ∙ sym (append_assoc (interrupts_at o) (all_interrupts os) (all_interrupts ps))

pub octets_append : (os ps : List Occasion) → told_octets (os ++ ps) ≡ told_octets os ++ told_octets ps
octets_append os ps = ap (λ (ms : List Message). map octets_of ms) (told_append os ps) ∙ map-append octets_of (all_told os) (all_told ps)
