-- What a PAD tells in an event, in packets with Q = 1, is what the occasions of the event ask for.
use Rattle.std.specs.Prelude.{◌≡◌, ℕ, Bool, true, false, not, ◌&&◌, ◌||◌, ◌==◌, if◌then◌else◌, List, [], ◌∷◌, ◌++◌, length, map, slice_get, Option, Some, None}
use Rattle.std.specs.Option.{option_map_or}
use Rattle.std.proofs.Common.{refl, sym, ap, subst, ◌∙◌, ◌≤◌, true≢false, append_assoc, append-nil, arith}
use Rattle.std.proofs.lemmas.Option.{none-some, same_Some}
use Rattle.pad_editing.specs.Edited.{Step, key}
use Rattle.data_transfer.specs.Packets.{Note, Datum}
use Rattle.data_transfer.specs.Traffic.{Taken}
use Rattle.data_transfer.specs.Traffic.Taken.{TakenInterrupt, TakenPacket}
use Rattle.packet_channel.specs.Channel.{Refusal}
use Rattle.packet_channel.specs.Channel.Request.{Interrupting, Taking, Releasing}
use Rattle.packet_layer.specs.Layer.{room, request, channel_given, front_on}
use Rattle.packet_end.specs.PacketEnd as end
use Rattle.packet_end.specs.PacketEnd.{finished}
use Rattle.packet_end.proofs.Sizes.{asked_same}
use Rattle.x3_params.specs.Settings.{acts_on_break}
use Rattle.x3_params.specs.declared.settings.BreakAction.TheVariants as action
use Rattle.x29_messages.specs.MessageForm.{octets_of, pairs_octets}
use Rattle.x29_messages.specs.declared.message.Message.{Message}
use Rattle.pad_terminal.specs.Terminal.{TerminalState, is_present, may_show, is_connected}
use Rattle.pad_terminal.specs.Breaks as breaks
use Rattle.pad_terminal.specs.Calls as calls
use Rattle.pad_terminal.specs.Messages as messages
use Rattle.pad_terminal.specs.declared.answers.BreakAnswer.{BreakAnswer}
use Rattle.pad_terminal.specs.declared.answers.BreakAnswer.TheVariants as break_answer
use Rattle.pad_terminal.specs.declared.answers.CallCondition.{CallCondition}
use Rattle.pad_terminal.specs.declared.answers.InputAnswer.{InputAnswer}
use Rattle.pad_terminal.specs.declared.answers.InputAnswer.TheVariants as input
use Rattle.pad_terminal.specs.declared.answers.Reply.{Reply}
use Rattle.pad_terminal.specs.declared.answers.Reply.TheVariants as reply
use Rattle.pad_terminal.specs.declared.answers.TerminalRequest.{TerminalRequest}
use Rattle.pad_terminal.specs.declared.answers.TerminalRequest.TheVariants as request
use Rattle.pad_ports.specs.Notes as notes
use Rattle.pad_ports.specs.Notes.{ChannelNote, unless_refused}
use Rattle.pad_ports.specs.PadLine as line
use Rattle.pad_ports.specs.PadLine.{condition, datum}
use Rattle.pad_ports.specs.Ports as port
use Rattle.pad_ports.specs.Ports.{PortState, AtLine}
use Rattle.pad_ports.specs.PadLine.{PadLine}
use Rattle.x25_pad.specs.Pad as pad
use Rattle.x25_pad.specs.Pad.{PadState, acted, at_port}
use Rattle.node_laws.specs.Pads.Occasions.{Occasion, TookMessage, HadBreak, HadCommand, messages_taken, answer_in, indication, all_told}
use Rattle.node_laws.specs.Pads.Happening.{by_key, by_line, by_break, by_taking, by_printing, at_terminal, meets, is_pending, line_ended}
use Rattle.node_laws.proofs.Pads.Lengths.{IsShort, ReplyIsShort, reply_short}
use Rattle.node_laws.proofs.Pads.Queues.{request_room, interrupting_keeps, taking_keeps, releasing_keeps, message_taken}

abbrev pub Octets : Type 0
Octets = List (List ℕ)

-- ---- what notes say of the channels that meet a test

-- the messages that were taken there
abbrev pub message_in : (test : ℕ → Bool) → ChannelNote → Octets
message_in test (notes.Took channel (TakenPacket d)) = if d.qualified && test channel then d.octets ∷ [] else []
message_in test note = []

-- the qualified packets that were sent there
abbrev pub told_in : (test : ℕ → Bool) → ChannelNote → Octets
told_in test (notes.Sent channel d) = if d.qualified && test channel then d.octets ∷ [] else []
told_in test note = []

-- the interrupts that were sent there
abbrev pub interrupt_in : (test : ℕ → Bool) → ChannelNote → Octets
interrupt_in test (notes.Interrupted channel octets) = if test channel then octets ∷ [] else []
interrupt_in test note = []

-- of all notes, in order
abbrev pub all_in : (ChannelNote → Octets) → List ChannelNote → Octets
all_in of_note [] = []
all_in of_note (note ∷ notes) = of_note note ++ all_in of_note notes

-- ---- notes that say nothing of the kind

module _ (f : ChannelNote → Octets) where
  pub all_append : (xs ys : List ChannelNote) → all_in f (xs ++ ys) ≡ all_in f xs ++ all_in f ys
  all_append [] ys = refl
  all_append (x ∷ xs) ys = ap (λ (l : Octets). f x ++ l) (all_append xs ys) ∙ sym (append_assoc (f x) (all_in f xs) (all_in f ys))

  pub one_more : (ns : List ChannelNote) (note : ChannelNote) → all_in f (ns ++ note ∷ []) ≡ all_in f ns ++ f note
  one_more ns note = all_append ns (note ∷ []) ∙ ap (λ (l : Octets). all_in f ns ++ l) (append-nil (f note))

  pub silent_more : (ns : List ChannelNote) (note : ChannelNote) → f note ≡ [] → all_in f (ns ++ note ∷ []) ≡ all_in f ns
  silent_more ns note e = one_more ns note ∙ ap (λ (l : Octets). all_in f ns ++ l) e ∙ append-nil (all_in f ns)

  silent_unless : (ns : List ChannelNote) (o : Option Refusal) (note : ChannelNote) → f note ≡ [] → all_in f (ns ++ unless_refused o note) ≡ all_in f ns
  silent_unless ns None note e = silent_more ns note e
  silent_unless ns (Some r) note e = ap (λ (l : List ChannelNote). all_in f l) (append-nil ns)

  told_silent : ((n : Note) → f (notes.Told n) ≡ []) → (ns : List ChannelNote) (told : List Note) → all_in f (ns ++ notes.all_told told) ≡ all_in f ns
  told_silent e ns told = all_append ns (notes.all_told told) ∙ ap (λ (l : Octets). all_in f ns ++ l) (none told) ∙ append-nil (all_in f ns)
    where
      none : (told : List Note) → all_in f (notes.all_told told) ≡ []
      none [] = refl
      none (n ∷ ns) = ap (λ (l : Octets). l ++ all_in f (notes.all_told ns)) (e n) ∙ none ns

-- what all that is not of a kind has: none of it
pub record IsKind (f : ChannelNote → Octets) : Type 0 where
  pub told : (n : Note) → f (notes.Told n) ≡ []
  pub placed : (c : ℕ) (address : List ℕ) → f (notes.Placed c address) ≡ []
  pub accepted : (c : ℕ) → f (notes.Accepted c) ≡ []
  pub cleared : (c : ℕ) → f (notes.Cleared c) ≡ []
  pub reset : (c : ℕ) → f (notes.WasReset c) ≡ []
  pub edited : (c : ℕ) (step : Step) → f (notes.Edited c step) ≡ []
  pub block : (c : ℕ) (octets : List ℕ) → f (notes.Sent c (datum octets false)) ≡ []

pub messages_kind : (test : ℕ → Bool) → IsKind (message_in test)
messages_kind test = record {
  told = λ n. refl;
  placed = λ c address. refl;
  accepted = λ c. refl;
  cleared = λ c. refl;
  reset = λ c. refl;
  edited = λ c step. refl;
  block = λ c octets. refl;
}

pub told_kind : (test : ℕ → Bool) → IsKind (told_in test)
told_kind test = record {
  told = λ n. refl;
  placed = λ c address. refl;
  accepted = λ c. refl;
  cleared = λ c. refl;
  reset = λ c. refl;
  edited = λ c step. refl;
  block = λ c octets. refl;
}

-- all but an interrupt
abbrev NoInterrupts : (ChannelNote → Octets) → Type 0
NoInterrupts f = (c : ℕ) (octets : List ℕ) → f (notes.Interrupted c octets) ≡ []

-- ---- what a terminal asks

module _ (f : ChannelNote → Octets) (kind : IsKind f) where
  -- of an event the notes of its terminal count
  ended_says : (p : PadState) → all_in f (pad.ended p).line.notes ≡ all_in f p.line.notes
  ended_says p = told_silent f kind.told p.line.notes (finished p.line.end).notes

  answered_says : (o : Option ℕ) (p : PadState) → all_in f (pad.answered o p).line.notes ≡ all_in f p.line.notes
  answered_says None p = refl
  answered_says (Some channel) p = by (pad.first_free p.ports)
    where
      by : (o : Option ℕ) → all_in f (pad.answered_at o channel p).line.notes ≡ all_in f p.line.notes
      by None = silent_unless f p.line.notes _ (notes.Cleared channel) (kind.cleared channel)
      by (Some number) = silent_unless f p.line.notes _ (notes.Accepted channel) (kind.accepted channel)

  pub line_says : (p : PadState) → all_in f (pad.line_event p).line.notes ≡ all_in f p.line.notes
  line_says p =
      ended_says (pad.answered (line.last_incoming None p.line.end.notes) (pad.told p))
      ∙ answered_says (line.last_incoming None p.line.end.notes) (pad.told p)
      ∙ told_silent f kind.told p.line.notes p.line.end.notes

  pub placed_says : (ns : List ChannelNote) (o : Option ℕ) (address : List ℕ) → all_in f (ns ++ line.placed_note o address) ≡ all_in f ns
  placed_says ns None address = ap (λ (l : List ChannelNote). all_in f l) (append-nil ns)
  placed_says ns (Some channel) address = silent_more f ns (notes.Placed channel address) (kind.placed channel address)

  pub clears_says : (o : Option ℕ) (a : AtLine) → all_in f (port.on_call port.clears o a).line.notes ≡ all_in f a.line.notes
  clears_says None a = refl
  clears_says (Some call) a = silent_unless f a.line.notes _ (notes.Cleared call) (kind.cleared call)

  pub resets_says : (o : Option ℕ) (a : AtLine) → all_in f (port.on_call port.resets o a).line.notes ≡ all_in f a.line.notes
  resets_says None a = refl
  resets_says (Some call) a = silent_unless f a.line.notes _ (notes.WasReset call) (kind.reset call)

  interrupts_say : NoInterrupts f → (o : Option ℕ) (a : AtLine) → all_in f (port.on_call port.interrupts o a).line.notes ≡ all_in f a.line.notes
  interrupts_say silent None a = refl
  interrupts_say silent (Some call) a =
      silent_unless f a.line.notes _ (notes.Interrupted call (line.interrupt_octet ∷ [])) (silent call (line.interrupt_octet ∷ []))

  does_says : NoInterrupts f → (o : Option TerminalRequest) (a : AtLine) → all_in f (port.does_asked o a).line.notes ≡ all_in f a.line.notes
  does_says silent None a = refl
  does_says silent (Some (request.Call s)) a = placed_says a.line.notes (channel_given a.line.end.layer a.line.end.layer.phase) s.address
  does_says silent (Some request.Clear) a = clears_says a.port.call a
  does_says silent (Some request.Interrupt) a = interrupts_say silent a.port.call a
  does_says silent (Some request.Reset) a = resets_says a.port.call a

  block_says : (block : Option (List ℕ)) (call : ℕ) (a : AtLine) → all_in f (port.block_sent block call a).line.notes ≡ all_in f a.line.notes
  block_says None call a = refl
  block_says (Some block) call a = silent_unless f a.line.notes _ (notes.Sent call (datum block false)) (kind.block call block)

  pub edits_say : (step : Step) (block : Option (List ℕ)) (o : Option ℕ) (a : AtLine) → all_in f (port.on_call (port.edits step block) o a).line.notes ≡ all_in f a.line.notes
  edits_say step block None a = refl
  edits_say step block (Some call) a =
      block_says block call (record a { line = line.noting (notes.Edited call step ∷ []) a.line })
      ∙ silent_more f a.line.notes (notes.Edited call step) (kind.edited call step)

  handles_says : NoInterrupts f → (answer : InputAnswer) (step : Step) (a : AtLine) → all_in f (port.handles answer step a).line.notes ≡ all_in f a.line.notes
  handles_says silent input.Dropped step a = refl
  handles_says silent (input.Edited block) step a = edits_say step block a.port.call a
  handles_says silent (input.Taken asked) step a = does_says silent asked a

-- ---- what is said at a terminal, on the channels that meet a test

-- by what is done there, at a terminal and a line of which nothing is noted yet
abbrev pub IsSaidBy : (f : ChannelNote → Octets) → (of_occasions : List Occasion → Octets) → (test : ℕ → Bool) → (act : AtLine → AtLine) → (why : AtLine → List Occasion) → AtLine → Type 0
IsSaidBy f of_occasions test act why a =
    a.line.notes ≡ [] → all_in f (act a).line.notes ≡ of_occasions (if meets test a.port.call then why a else [])

-- where there is no occasion to say anything
by_none : (f : ChannelNote → Octets) (g : List Occasion → Octets) (v : Bool) (ns : List ChannelNote) (why : List Occasion) → g why ≡ [] → g [] ≡ [] → all_in f ns ≡ [] → all_in f ns ≡ g (if v then why else [])
by_none f g true ns why e none h = h ∙ sym e
by_none f g false ns why e none h = h ∙ sym none

pub nothing_noted : (f : ChannelNote → Octets) (ns : List ChannelNote) → ns ≡ [] → all_in f ns ≡ []
nothing_noted f ns e = ap (λ (l : List ChannelNote). all_in f l) e

-- something happens at a terminal, and that is an event
module _ (f : ChannelNote → Octets) (kind : IsKind f) (g : List Occasion → Octets) (none : g [] ≡ []) (test : ℕ → Bool) where
  pub event_says : (number : ℕ) (act : AtLine → AtLine) (why : AtLine → List Occasion) (p : PadState)
      → ((q : PortState) → IsSaidBy f g test act why (pad.with_line number q (pad.begun p))) → all_in f (pad.terminal_event number act p).line.notes ≡ g (at_terminal number test why (pad.begun p))
  event_says number act why p said = ended_says f kind (at_port number act (pad.begun p)) ∙ by (slice_get p.ports number)
    where
      by : (o : Option PortState) → all_in f (option_map_or (λ found. acted number (pad.begun p) (act (pad.with_line number found (pad.begun p)))) o (pad.begun p)).line.notes
          ≡ g (option_map_or (λ q. if meets test q.call then why (pad.with_line number q (pad.begun p)) else []) o [])
      by None = sym none
      by (Some q) = said q refl

  -- an event without an occasion
  pub silent_says : (number : ℕ) (act : AtLine → AtLine) → ((a : AtLine) → all_in f (act a).line.notes ≡ all_in f a.line.notes) → (p : PadState) → all_in f (pad.terminal_event number act p).line.notes ≡ g []
  silent_says number act same p = ended_says f kind (at_port number act (pad.begun p)) ∙ by (slice_get p.ports number) ∙ sym none
    where
      by : (o : Option PortState) → all_in f (option_map_or (λ found. acted number (pad.begun p) (act (pad.with_line number found (pad.begun p)))) o (pad.begun p)).line.notes ≡ []
      by None = refl
      by (Some q) = same (pad.with_line number q (pad.begun p))

-- ---- keys

pub either : {A : Type 0} (P : A → Type 0) (v : Bool) (x y : A) → P x → P y → P (if v then x else y)
either P true x y f g = f
either P false x y f g = g

key_silent : (f : ChannelNote → Octets) → IsKind f → NoInterrupts f → (octet : ℕ) (a : AtLine) → all_in f (port.after_key octet a).line.notes ≡ all_in f a.line.notes
key_silent f kind silent octet a =
    handles_says f kind silent (port.key_input octet a).answer (key octet a.port.terminal.settings.params)
    (record a { port = record a.port { terminal = (port.key_input octet a).terminal; idle_left = None } })

-- a key asks for no message, and is told by none
line_nothing : (g : List Occasion → Octets) → g [] ≡ [] → g (HadCommand ∷ []) ≡ [] → (ended : Option (List ℕ)) (pending : Bool) (t : TerminalState) → g (by_line ended pending t) ≡ []
line_nothing g none command None pending t = none
line_nothing g none command (Some line) pending t = either (λ (os : List Occasion). g os ≡ []) _ (HadCommand ∷ []) [] command none

pub key_says : (f : ChannelNote → Octets) → IsKind f → NoInterrupts f → (g : List Occasion → Octets) → g [] ≡ [] → g (HadCommand ∷ []) ≡ [] → (test : ℕ → Bool) (octet : ℕ) (a : AtLine)
    → IsSaidBy f g test (port.after_key octet) (by_key octet) a
key_says f kind silent g none command test octet a nothing =
    by_none f g (meets test a.port.call) (port.after_key octet a).line.notes (by_key octet a)
    (line_nothing g none command (line_ended octet a.port.terminal) (is_pending a.port.call a.line) a.port.terminal) none
    (key_silent f kind silent octet a ∙ nothing_noted f a.line.notes nothing)

-- ---- a message that is told

abbrev pub told_octets : List Occasion → Octets
told_octets os = map octets_of (all_told os)

-- it says so where it is of another kind
abbrev NoneSent : (ChannelNote → Octets) → Type 0
NoneSent f = (c : ℕ) (octets : List ℕ) → f (notes.Sent c (datum octets true)) ≡ []

pub tells_silent : (f : ChannelNote → Octets) → NoneSent f → (o : Option Message) (a : AtLine) → all_in f (port.tells o a).line.notes ≡ all_in f a.line.notes
tells_silent f none None a = refl
tells_silent f none (Some m) a = by a.port.call
  where
    by : (o : Option ℕ) → all_in f (port.on_call (port.sends (octets_of m) true) o a).line.notes ≡ all_in f a.line.notes
    by None = refl
    by (Some call) = silent_unless f a.line.notes _ (notes.Sent call (datum (octets_of m) true)) (none call (octets_of m))

-- with room in the send queue it is sent, on a line of 128 octets
abbrev HasRoom : Option ℕ → PadLine → Type 0
HasRoom None l = Unit {0}
HasRoom (Some call) l = ((room l.end.layer call == 0) ≡ false) × (l.end.layer.flow.size ≡ 128)

sends_told : (test : ℕ → Bool) (m : Message) (o : Option ℕ) (a : AtLine) → IsShort m → HasRoom o a.line
    → all_in (told_in test) (port.on_call (port.sends (octets_of m) true) o a).line.notes
    ≡ all_in (told_in test) a.line.notes ++ (if meets test o then octets_of m ∷ [] else [])
sends_told test m None a short free = sym (append-nil (all_in (told_in test) a.line.notes))
sends_told test m (Some call) a short free =
    let note : ChannelNote = notes.Sent call (datum (octets_of m) true) in
    ap (λ (o : Option Refusal). all_in (told_in test) (a.line.notes ++ unless_refused o note)) (message_taken a.line.end.layer call (octets_of m) free.0 (omega (arith, short, free.1)))
    ∙ one_more (told_in test) a.line.notes note

-- ---- a break

pub break_messages : (test : ℕ → Bool) (a : AtLine) → IsSaidBy (message_in test) messages_taken test port.after_break by_break a
break_messages test a nothing =
    by_none (message_in test) messages_taken (meets test a.port.call) (port.after_break a).line.notes (by_break a)
    (either (λ (os : List Occasion). messages_taken os ≡ []) _ (HadBreak _ _ ∷ []) [] refl refl) refl
    (answers (port.break_answer_of a) (record a { port = port.with_terminal (breaks.after_break (condition a.port.call a.line) a.port.terminal) a.port })
    ∙ nothing_noted (message_in test) a.line.notes nothing)
  where
    answers : (answer : BreakAnswer) (x : AtLine) → all_in (message_in test) (port.answers_break answer x).line.notes ≡ all_in (message_in test) x.line.notes
    answers break_answer.Dropped x = refl
    answers (break_answer.Taken requests) x =
        tells_silent (message_in test) (λ c octets. refl) requests.indication (port.does_asked requests.request x)
        ∙ does_says (message_in test) (messages_kind test) (λ c octets. refl) requests.request x

-- of an occasion on the terminal's channel, and of none
if_told : (v : Bool) (os : List Occasion) (l : Octets) → told_octets os ≡ l → (if v then l else []) ≡ told_octets (if v then os else [])
if_told true os l e = sym e
if_told false os l e = refl

unasked : (v : Bool) (l : Octets) → l ≡ [] → l ≡ told_octets (if v then [] else [])
unasked true l e = e
unasked false l e = e

has_room : (o : Option ℕ) (l : PadLine) → l.end.layer.flow.size ≡ 128 → (condition o l).queue_full ≡ false → HasRoom o l
has_room None l size e = absurd (true≢false e)
has_room (Some call) l size e = (e, size)

-- what a break asks for beside an indication
data IsBeside : Option TerminalRequest → Type 0 where
  nothing_beside : IsBeside None
  interrupt_beside : IsBeside (Some request.Interrupt)

abbrev pub break_answer_by : (present connected asks full : Bool) → Option TerminalRequest → Message → BreakAnswer
break_answer_by present connected asks full r m =
    if not present || (connected && asks && full) then break_answer.Dropped
    else if connected then break_answer.Taken (record { request = r; indication = if asks then Some m else None })
    else break_answer.Taken (record { request = None; indication = None })

tells_beside : (test : ℕ → Bool) (r : Option TerminalRequest) (m : Message) (o : Option ℕ) (x : AtLine) → x.port.call ≡ o → IsBeside r → IsShort m → HasRoom o x.line
    → all_in (told_in test) (port.tells (Some m) (port.does_asked r x)).line.notes ≡ all_in (told_in test) x.line.notes ++ (if meets test o then octets_of m ∷ [] else [])
tells_beside test None m o x is nothing_beside short free =
    subst (λ (c : Option ℕ). all_in (told_in test) (port.on_call (port.sends (octets_of m) true) c x).line.notes ≡ all_in (told_in test) x.line.notes ++ (if meets test o then octets_of m ∷ [] else []))
    (sym is) (sends_told test m o x short free)
tells_beside test (Some (request.Call s)) m o x is beside short free = elim beside [ ]
tells_beside test (Some request.Clear) m o x is beside short free = elim beside [ ]
tells_beside test (Some request.Reset) m o x is beside short free = elim beside [ ]
tells_beside test (Some request.Interrupt) m o x is interrupt_beside short free =
    subst (λ (c : Option ℕ). all_in (told_in test) (port.tells (Some m) (port.on_call port.interrupts c x)).line.notes ≡ all_in (told_in test) x.line.notes ++ (if meets test o then octets_of m ∷ [] else []))
    (sym is) (by o free is)
  where
    by : (o : Option ℕ) → HasRoom o x.line → x.port.call ≡ o → all_in (told_in test) (port.tells (Some m) (port.on_call port.interrupts o x)).line.notes
        ≡ all_in (told_in test) x.line.notes ++ (if meets test o then octets_of m ∷ [] else [])
    by None free is =
        subst (λ (c : Option ℕ). all_in (told_in test) (port.on_call (port.sends (octets_of m) true) c x).line.notes ≡ all_in (told_in test) x.line.notes ++ (if meets test None then octets_of m ∷ [] else []))
        (sym is) (sends_told test m None x short tt)
    by (Some call) free is =
        let after : AtLine = port.interrupts call x in
        subst (λ (c : Option ℕ). all_in (told_in test) (port.on_call (port.sends (octets_of m) true) c after).line.notes ≡ all_in (told_in test) x.line.notes ++ (if meets test (Some call) then octets_of m ∷ [] else []))
        (sym is)
        (sends_told test m (Some call) after short (
          ap (λ (n : ℕ). n == 0) (request_room x.line.end.layer call (Interrupting (line.interrupt_octet ∷ [])) (interrupting_keeps (line.interrupt_octet ∷ []))) ∙ free.0,
          asked_same x.line.end call (Interrupting (line.interrupt_octet ∷ [])) ∙ free.1,
        )
        ∙ ap (λ (l : Octets). l ++ (if meets test (Some call) then octets_of m ∷ [] else []))
        (silent_unless (told_in test) x.line.notes _ (notes.Interrupted call (line.interrupt_octet ∷ [])) refl))

break_by : (test : ℕ → Bool) (present connected asks full : Bool) (r : Option TerminalRequest) (m : Message) (os : List Occasion) (x : AtLine) → x.line.notes ≡ [] → told_octets os ≡ map octets_of (if asks then m ∷ [] else [])
    → IsShort m → (asks ≡ true → IsBeside r) → (full ≡ false → HasRoom x.port.call x.line)
    → all_in (told_in test) (port.answers_break (break_answer_by present connected asks full r m) x).line.notes
    ≡ told_octets (if meets test x.port.call then (if connected && port.is_break_taken (break_answer_by present connected asks full r m) then os else []) else [])
break_by test false false asks full r m os x none e short beside free = unasked (meets test x.port.call) _ (nothing_noted (told_in test) x.line.notes none)
break_by test false true asks full r m os x none e short beside free = unasked (meets test x.port.call) _ (nothing_noted (told_in test) x.line.notes none)
break_by test true false asks full r m os x none e short beside free = unasked (meets test x.port.call) _ (nothing_noted (told_in test) x.line.notes none)
break_by test true true true true r m os x none e short beside free = unasked (meets test x.port.call) _ (nothing_noted (told_in test) x.line.notes none)
break_by test true true false full r m os x none e short beside free =
    by_none (told_in test) told_octets (meets test x.port.call) (port.does_asked r x).line.notes os e refl
    (does_says (told_in test) (told_kind test) (λ c octets. refl) r x ∙ nothing_noted (told_in test) x.line.notes none)
break_by test true true true false r m os x none e short beside free =
    tells_beside test r m x.port.call x refl (beside refl) short (free refl)
    ∙ ap (λ (l : Octets). l ++ (if meets test x.port.call then octets_of m ∷ [] else [])) (nothing_noted (told_in test) x.line.notes none)
    ∙ if_told (meets test x.port.call) os (octets_of m ∷ []) e

request_beside : (params : List ℕ) (call : CallCondition) → breaks.indicates params ≡ true → IsBeside (breaks.request_of params call)
request_beside params call asks = by (acts_on_break params action.Indication) (acts_on_break params action.Reset) asks
  where
    by : (i r : Bool) → (i && not r) ≡ true
        → IsBeside (if r then (if call.reset_pending then None else Some request.Reset) else if acts_on_break params action.Interrupt && call.may_interrupt then Some request.Interrupt else None)
    by true true h = absurd (true≢false (sym h))
    by false r h = absurd (true≢false (sym h))
    by true false h = either IsBeside _ (Some request.Interrupt) None interrupt_beside nothing_beside

indication_is_short : (params : List ℕ) → IsShort (indication params)
unfolding octets_of
indication_is_short params =
    either (λ (pairs : List (ℕ × ℕ)). length (3 ∷ pairs_octets pairs) ≤ 128) (acts_on_break params action.Discard) ((8, 1) ∷ []) [] (omega arith) (omega arith)

pub break_told : (test : ℕ → Bool) (a : AtLine) → a.line.end.layer.flow.size ≡ 128 → IsSaidBy (told_in test) told_octets test port.after_break by_break a
break_told test a size nothing =
    let t : TerminalState = a.port.terminal in
    let call : CallCondition = condition a.port.call a.line in
    break_by test (is_present t.mode) (is_connected t.mode) (breaks.indicates t.settings.params) call.queue_full (breaks.request_of t.settings.params call) (indication t.settings.params)
    (HadBreak t.settings.params (is_pending a.port.call a.line) ∷ []) (record a { port = port.with_terminal (breaks.after_break call t) a.port }) nothing
    (ap (λ (ms : List Message). map octets_of ms) (append-nil _)) (indication_is_short t.settings.params) (λ e. request_beside t.settings.params call e) (λ e. has_room a.port.call a.line size e)

-- ---- printing

room_of : (shows : Bool) (front : Option Taken) (full : Bool) (taken : Taken) → (if shows then port.takeable front full else None) ≡ Some taken → port.is_qualified taken ≡ true → full ≡ false
room_of false front full taken e q = absurd (none-some taken e)
room_of true None full taken e q = absurd (none-some taken e)
room_of true (Some x) false taken e q = refl
room_of true (Some x) true taken e q = by (port.is_qualified x) refl e
  where
    by : (v : Bool) → port.is_qualified x ≡ v → (if v && true then None else Some x) ≡ Some taken → true ≡ false
    by true is f = absurd (none-some taken f)
    by false is f = sym q ∙ ap port.is_qualified (sym (same_Some x taken f)) ∙ is

taken_room : (p : PortState) (o : Option ℕ) (l : PadLine) (taken : Taken) → l.end.layer.flow.size ≡ 128 → port.taken_of (record { port = record p { call = o }; line = l }) ≡ Some taken → port.is_qualified taken ≡ true → HasRoom o l
taken_room p None l taken size e q = tt
taken_room p (Some call) l taken size e q =
    (room_of (may_show p.terminal) (front_on l.end.layer call) (condition (Some call) l).queue_full taken e q, size)

-- a reply goes where there is room for it
replies_told : (test : ℕ → Bool) (r : Reply) (call : ℕ) (p : PortState) (l : PadLine) → ReplyIsShort r → HasRoom (Some call) l
    → all_in (told_in test) (port.replies r (record { port = record p { call = Some call }; line = l })).line.notes
    ≡ all_in (told_in test) l.notes ++ (if meets test (Some call) then map octets_of (answer_in r ++ []) else [])
replies_told test reply.Nothing call p l short free = sym (none (meets test (Some call)))
  where
    none : (v : Bool) → all_in (told_in test) l.notes ++ (if v then [] else []) ≡ all_in (told_in test) l.notes
    none true = append-nil (all_in (told_in test) l.notes)
    none false = append-nil (all_in (told_in test) l.notes)
replies_told test (reply.Message m) call p l short free = sends_told test m (Some call) (record { port = record p { call = Some call }; line = l }) short free
replies_told test reply.Clear call p l short free =
    silent_unless (told_in test) l.notes _ (notes.Cleared call) refl ∙ sym (none (meets test (Some call)))
  where
    none : (v : Bool) → all_in (told_in test) l.notes ++ (if v then [] else []) ≡ all_in (told_in test) l.notes
    none true = append-nil (all_in (told_in test) l.notes)
    none false = append-nil (all_in (told_in test) l.notes)

released_room : (l : PadLine) (c : ℕ) → HasRoom (Some c) l → HasRoom (Some c) (record l { end = end.asked (end.asked l.end c Taking) c (Releasing 1) })
released_room l c free = (
  ap (λ (n : ℕ). n == 0) (request_room (request l.end.layer c Taking) c (Releasing 1) (releasing_keeps 1) ∙ request_room l.end.layer c Taking taking_keeps) ∙ free.0,
  asked_same (end.asked l.end c Taking) c (Releasing 1) ∙ asked_same l.end c Taking ∙ free.1,
)

-- what is taken of a call that the terminal has
module _ (test : ℕ → Bool) (call : ℕ) (p : PortState) (l : PadLine) (nothing : l.notes ≡ []) where
  abbrev here : AtLine
  here = record { port = record p { call = Some call }; line = l }

  abbrev took : Taken → AtLine
  took taken = port.takes taken call here

  took_silent : (f : ChannelNote → Octets) (taken : Taken) → f (notes.Took call taken) ≡ [] → all_in f (took taken).line.notes ≡ []
  took_silent f taken e = silent_more f l.notes (notes.Took call taken) e ∙ nothing_noted f l.notes nothing

  abbrev v : Bool
  v = meets test (Some call)

  datum_told : (d : Datum) (q : Bool) (t : TerminalState) → p.terminal ≡ calls.without_text t → (q ≡ true → HasRoom (Some call) l)
      → all_in (told_in test) (port.after_datum d q (port.releases (Releasing 1) call (took (TakenPacket d)))).line.notes
      ≡ told_octets (if v then (if q then TookMessage d.octets (calls.without_text t) ∷ [] else []) else [])
  datum_told d false t is free = unasked v _ (took_silent (told_in test) (TakenPacket d) refl)
  datum_told d true t is free =
      let answered = messages.after_octets d.octets p.terminal in
      let after : PadLine = (port.releases (Releasing 1) call (took (TakenPacket d))).line in
      replies_told test answered.reply call (record p { terminal = answered.terminal }) after (reply_short d.octets p.terminal) (released_room l call (free refl))
      ∙ ap (λ (x : Octets). x ++ (if v then map octets_of (answer_in answered.reply ++ []) else [])) (took_silent (told_in test) (TakenPacket d) refl)
      ∙ if_told v (TookMessage d.octets (calls.without_text t) ∷ []) (map octets_of (answer_in answered.reply ++ []))
      (ap (λ (u : TerminalState). map octets_of (answer_in (messages.after_octets d.octets u).reply ++ [])) (sym is))

  taking_told : (taken : Taken) (t : TerminalState) → p.terminal ≡ calls.without_text t → (port.is_qualified taken ≡ true → HasRoom (Some call) l)
      → all_in (told_in test) (port.after_taking taken call (took taken)).line.notes ≡ told_octets (if v then by_taking (Some taken) t else [])
  taking_told (TakenInterrupt octets) t is free = unasked v _ (took_silent (told_in test) (TakenInterrupt octets) refl)
  taking_told (TakenPacket d) t is free = datum_told d d.qualified t is free

  -- the message itself is noted as it is taken
  replies_silent : (r : Reply) (q : PortState) (m : PadLine) → all_in (message_in test) (port.replies r (record { port = record q { call = Some call }; line = m })).line.notes ≡ all_in (message_in test) m.notes
  replies_silent reply.Nothing q m = refl
  replies_silent (reply.Message x) q m = silent_unless (message_in test) m.notes _ (notes.Sent call (datum (octets_of x) true)) refl
  replies_silent reply.Clear q m = silent_unless (message_in test) m.notes _ (notes.Cleared call) refl

  datum_silent : (d : Datum) (q : Bool) → all_in (message_in test) (port.after_datum d q (port.releases (Releasing 1) call (took (TakenPacket d)))).line.notes ≡ all_in (message_in test) (took (TakenPacket d)).line.notes
  datum_silent d false = refl
  datum_silent d true =
      let answered = messages.after_octets d.octets p.terminal in
      replies_silent answered.reply (record p { terminal = answered.terminal }) (port.releases (Releasing 1) call (took (TakenPacket d))).line

  took_message : (d : Datum) (t : TerminalState) → all_in (message_in test) (took (TakenPacket d)).line.notes ≡ messages_taken (if v then by_taking (Some (TakenPacket d)) t else [])
  took_message d t =
      one_more (message_in test) l.notes (notes.Took call (TakenPacket d))
      ∙ ap (λ (x : Octets). x ++ message_in test (notes.Took call (TakenPacket d))) (nothing_noted (message_in test) l.notes nothing)
      ∙ by d.qualified v
    where
      by : (q w : Bool) → (if q && w then d.octets ∷ [] else []) ≡ messages_taken (if w then (if q then TookMessage d.octets (calls.without_text t) ∷ [] else []) else [])
      by true true = refl
      by true false = refl
      by false true = refl
      by false false = refl

  taking_messages : (taken : Taken) (t : TerminalState) → all_in (message_in test) (port.after_taking taken call (took taken)).line.notes ≡ messages_taken (if v then by_taking (Some taken) t else [])
  taking_messages (TakenInterrupt octets) t =
      by_none (message_in test) messages_taken v (took (TakenInterrupt octets)).line.notes [] refl refl (took_silent (message_in test) (TakenInterrupt octets) refl)
  taking_messages (TakenPacket d) t = datum_silent d d.qualified ∙ took_message d t

pub print_told : (test : ℕ → Bool) (a : AtLine) → a.line.end.layer.flow.size ≡ 128 → IsSaidBy (told_in test) told_octets test port.after_print by_printing a
print_told test a size nothing = by a.port.call (port.taken_of a) refl
  where
    by : (o : Option ℕ) (x : Option Taken) → port.taken_of (record { port = record a.port { call = o }; line = a.line }) ≡ x
        → all_in (told_in test) (port.after_taken x (port.with_taken x (record { port = record (port.with_terminal (calls.without_text a.port.terminal) a.port) { call = o }; line = a.line }))).line.notes
        ≡ told_octets (if meets test o then by_taking x a.port.terminal else [])
    by o None e = unasked (meets test o) _ (nothing_noted (told_in test) a.line.notes nothing)
    by None (Some taken) e = nothing_noted (told_in test) a.line.notes nothing
    by (Some call) (Some taken) e =
        taking_told test call (port.with_terminal (calls.without_text a.port.terminal) a.port) a.line nothing taken a.port.terminal refl
        (λ q. taken_room a.port (Some call) a.line taken size e q)

pub print_messages : (test : ℕ → Bool) (a : AtLine) → IsSaidBy (message_in test) messages_taken test port.after_print by_printing a
print_messages test a nothing = by a.port.call (port.taken_of a)
  where
    by : (o : Option ℕ) (x : Option Taken)
        → all_in (message_in test) (port.after_taken x (port.with_taken x (record { port = record (port.with_terminal (calls.without_text a.port.terminal) a.port) { call = o }; line = a.line }))).line.notes
        ≡ messages_taken (if meets test o then by_taking x a.port.terminal else [])
    by o None = by_none (message_in test) messages_taken (meets test o) a.line.notes [] refl refl (nothing_noted (message_in test) a.line.notes nothing)
    by None (Some taken) = nothing_noted (message_in test) a.line.notes nothing
    by (Some call) (Some taken) = taking_messages test call (port.with_terminal (calls.without_text a.port.terminal) a.port) a.line nothing taken a.port.terminal
