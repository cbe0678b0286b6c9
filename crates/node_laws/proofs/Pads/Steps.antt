-- What an event at a PAD adds to the steps of its records: the key or the idle time that went into the text of a
-- terminal, to the record of the terminal's call.
use Rattle.std.specs.Prelude.{◌≡◌, ℕ, zero, suc, ◌⊎◌, Bool, true, false, if◌then◌else◌, List, [], ◌∷◌, ◌++◌, length, slice_get, Option, Some, None}
use Rattle.std.specs.Option.{option_map_or}
use Rattle.std.proofs.Common.{inl, inr, refl, sym, ap, subst, ◌∙◌, append_assoc, append-nil}
use Rattle.std.proofs.lemmas.Option.{none-some, same_Some}
use Rattle.link_timers.specs.declared.role.Role.{Role}
use Rattle.link_timers.specs.Role.{other_of}
use Rattle.link_timers.specs.declared.timers.TimerId.{TimerId}
use Rattle.link_timers.specs.declared.timers.TimerId.TheVariants.{Idle}
use Rattle.pad_editing.specs.Edited.{Step, key, idle}
use Rattle.data_transfer.specs.Packets.{Note, Datum}
use Rattle.data_transfer.specs.Packets.Note.{Incoming, Connected, Closed, WasReset, InterruptConfirmed, Covered}
use Rattle.data_transfer.specs.Traffic.{Taken}
use Rattle.data_transfer.specs.Traffic.Taken.{TakenInterrupt, TakenPacket}
use Rattle.packet_channel.specs.Channel.{Refusal}
use Rattle.packet_channel.specs.Channel.Request.{Releasing}
use Rattle.packet_layer.specs.Layer.{channel_given}
use Rattle.packet_end.specs.PacketEnd.{finished, runs_at}
use Rattle.packet_laws.specs.Readable.{Every}
use Rattle.call_records.specs.Records.{RecordValue, PairValue, new_record, with_step, with_sent, with_interrupt_sent, with_taken, with_interrupt_taken, with_released, with_covered, with_epoch, with_closed}
use Rattle.call_records.specs.Book.{Book, Side, Slot, side_of, slot_at, with_slot, changed, with_record, packet_of, address_of, calling_from, with_pair, closes, takes, edits, told}
use Rattle.call_records.specs.Closing.{closes_if, closes_present, closed_from}
use Rattle.call_records.specs.Writes.{let_go, written_by, all_written}
use Rattle.x29_messages.specs.MessageForm.{octets_of}
use Rattle.x29_messages.specs.declared.message.Message.{Message}
use Rattle.pad_terminal.specs.Messages as messages
use Rattle.pad_terminal.specs.Breaks as breaks
use Rattle.pad_terminal.specs.Calls as calls
use Rattle.pad_terminal.specs.declared.answers.BreakAnswer.{BreakAnswer}
use Rattle.pad_terminal.specs.declared.answers.BreakAnswer.TheVariants as break_answer
use Rattle.pad_terminal.specs.declared.answers.InputAnswer.{InputAnswer}
use Rattle.pad_terminal.specs.declared.answers.InputAnswer.TheVariants as input
use Rattle.pad_terminal.specs.declared.answers.Reply.{Reply}
use Rattle.pad_terminal.specs.declared.answers.Reply.TheVariants as reply
use Rattle.pad_terminal.specs.declared.answers.TerminalRequest.{TerminalRequest}
use Rattle.pad_terminal.specs.declared.answers.TerminalRequest.TheVariants as request
use Rattle.pad_ports.specs.Notes as notes
use Rattle.pad_ports.specs.Notes.{ChannelNote, unless_refused}
use Rattle.pad_ports.specs.PadLine as line
use Rattle.pad_ports.specs.PadLine.{condition, datum}
use Rattle.pad_ports.specs.Ports as port
use Rattle.pad_ports.specs.Ports.{PortState, AtLine}
use Rattle.pad_ports.specs.PadLine.{PadLine}
use Rattle.x25_pad.specs.Pad as pad
use Rattle.x25_pad.specs.Pad.{PadState, acted, at_port}
use Rattle.user_nodes.specs.PadWriting.{write_of, parts_to}
use Rattle.node_laws.specs.Pads.Holds.{node_at}
use Rattle.node_laws.specs.Pads.Happening.{PadEvent, HasKey, HasBreak, HasIdleTime, HasPrinting, HasLeaving, HasArrival, HasFrame, HasExpiry, HasRelink, HasRestart, HasTicks, after_event, writes_after, is_record}
use Rattle.node_laws.proofs.Pads.Asking.{noted, noted_append}
use Rattle.node_laws.proofs.Pads.Books.{side_changed, change_of, change_keeps, slot_records, slot_node, side_record, side_pairs}
use Rattle.node_laws.proofs.Pads.Lists.{get_before, still_none}
use Rattle.node_laws.proofs.Pads.Spoken.{is_true, is_false, change_split}

-- ---- notes that are no step of editing

abbrev pub IsNoEdit : ChannelNote → Type 0
IsNoEdit (notes.Edited channel step) = ⊥
IsNoEdit _ = Unit {0}

-- the notes have some of these more
pub record Adds (ns ms : List ChannelNote) : Type 0 where
  pub more : List ChannelNote
  pub no_edit : Every IsNoEdit more
  pub is : ms ≡ ns ++ more

every_more : {A : Type 0} (P : A → Type 0) (xs ys : List A) → Every P xs → Every P ys → Every P (xs ++ ys)
every_more P [] ys h k = k
every_more P (x ∷ xs) ys h k = (h.0, every_more P xs ys h.1 k)

adds_none : (ns : List ChannelNote) → Adds ns ns
adds_none ns = record { more = []; no_edit = tt; is = sym (append-nil ns) }

adds_both : (ns ms ls : List ChannelNote) → Adds ns ms → Adds ms ls → Adds ns ls
adds_both ns ms ls a b = record {
  more = a.more ++ b.more;
  no_edit = every_more IsNoEdit a.more b.more a.no_edit b.no_edit;
  is = b.is ∙ ap (λ (l : List ChannelNote). l ++ b.more) a.is ∙ append_assoc ns a.more b.more;
}

adds_one : (ns : List ChannelNote) (note : ChannelNote) → IsNoEdit note → Adds ns (ns ++ note ∷ [])
adds_one ns note h = record { more = note ∷ []; no_edit = (h, tt); is = refl }

adds_unless : (ns : List ChannelNote) (o : Option Refusal) (note : ChannelNote) → IsNoEdit note → Adds ns (ns ++ unless_refused o note)
adds_unless ns None note h = adds_one ns note h
adds_unless ns (Some r) note h = record { more = []; no_edit = tt; is = refl }

adds_told : (ns : List ChannelNote) (told : List Note) → Adds ns (ns ++ notes.all_told told)
adds_told ns told = record { more = notes.all_told told; no_edit = each told; is = refl }
  where
    each : (told : List Note) → Every IsNoEdit (notes.all_told told)
    each [] = tt
    each (n ∷ ns) = (tt, each ns)

adds_placed : (ns : List ChannelNote) (o : Option ℕ) (address : List ℕ) → Adds ns (ns ++ line.placed_note o address)
adds_placed ns None address = record { more = []; no_edit = tt; is = refl }
adds_placed ns (Some channel) address = adds_one ns (notes.Placed channel address) tt

-- ---- what a terminal asks

sends_adds : (octets : List ℕ) (q : Bool) (o : Option ℕ) (a : AtLine) → Adds a.line.notes (port.on_call (port.sends octets q) o a).line.notes
sends_adds octets q None a = adds_none a.line.notes
sends_adds octets q (Some call) a = adds_unless a.line.notes _ (notes.Sent call (datum octets q)) tt

clears_adds : (o : Option ℕ) (a : AtLine) → Adds a.line.notes (port.on_call port.clears o a).line.notes
clears_adds None a = adds_none a.line.notes
clears_adds (Some call) a = adds_unless a.line.notes _ (notes.Cleared call) tt

resets_adds : (o : Option ℕ) (a : AtLine) → Adds a.line.notes (port.on_call port.resets o a).line.notes
resets_adds None a = adds_none a.line.notes
resets_adds (Some call) a = adds_unless a.line.notes _ (notes.WasReset call) tt

interrupts_adds : (o : Option ℕ) (a : AtLine) → Adds a.line.notes (port.on_call port.interrupts o a).line.notes
interrupts_adds None a = adds_none a.line.notes
interrupts_adds (Some call) a = adds_unless a.line.notes _ (notes.Interrupted call (line.interrupt_octet ∷ [])) tt

pub does_adds : (o : Option TerminalRequest) (a : AtLine) → Adds a.line.notes (port.does_asked o a).line.notes
does_adds None a = adds_none a.line.notes
does_adds (Some (request.Call s)) a = adds_placed a.line.notes (channel_given a.line.end.layer a.line.end.layer.phase) s.address
does_adds (Some request.Clear) a = clears_adds a.port.call a
does_adds (Some request.Interrupt) a = interrupts_adds a.port.call a
does_adds (Some request.Reset) a = resets_adds a.port.call a

pub tells_adds : (o : Option Message) (a : AtLine) → Adds a.line.notes (port.tells o a).line.notes
tells_adds None a = adds_none a.line.notes
tells_adds (Some m) a = sends_adds (octets_of m) true a.port.call a

break_adds : (answer : BreakAnswer) (a : AtLine) → Adds a.line.notes (port.answers_break answer a).line.notes
break_adds break_answer.Dropped a = adds_none a.line.notes
break_adds (break_answer.Taken requests) a =
    adds_both a.line.notes (port.does_asked requests.request a).line.notes _ (does_adds requests.request a)
    (tells_adds requests.indication (port.does_asked requests.request a))

replies_adds : (r : Reply) (a : AtLine) → Adds a.line.notes (port.replies r a).line.notes
replies_adds reply.Nothing a = adds_none a.line.notes
replies_adds (reply.Message m) a = tells_adds (Some m) a
replies_adds reply.Clear a = clears_adds a.port.call a

datum_adds : (d : Datum) (q : Bool) (a : AtLine) → Adds a.line.notes (port.after_datum d q a).line.notes
datum_adds d true a =
    let answered = messages.after_octets d.octets a.port.terminal in
    replies_adds answered.reply (record a { port = port.with_terminal answered.terminal a.port })
datum_adds d false a = adds_none a.line.notes

taking_adds : (taken : Taken) (call : ℕ) (a : AtLine) → Adds a.line.notes (port.after_taking taken call (port.takes taken call a)).line.notes
taking_adds (TakenInterrupt octets) call a = adds_one a.line.notes (notes.Took call (TakenInterrupt octets)) tt
taking_adds (TakenPacket d) call a =
    adds_both a.line.notes (a.line.notes ++ notes.Took call (TakenPacket d) ∷ []) _ (adds_one a.line.notes (notes.Took call (TakenPacket d)) tt)
    (datum_adds d d.qualified (port.releases (Releasing 1) call (port.takes (TakenPacket d) call a)))

next_adds : (o : Option ℕ) (taken : Option Taken) (p : PortState) (l : PadLine)
    → Adds l.notes (port.after_taken taken (port.with_taken taken (record { port = record p { call = o }; line = l }))).line.notes
next_adds o None p l = adds_none l.notes
next_adds None (Some taken) p l = adds_none l.notes
next_adds (Some call) (Some taken) p l = taking_adds taken call (record { port = record p { call = Some call }; line = l })

print_adds : (a : AtLine) → Adds a.line.notes (port.after_print a).line.notes
print_adds a = next_adds a.port.call (port.taken_of a) (port.with_terminal (calls.without_text a.port.terminal) a.port) a.line

-- ---- keys and idle times

-- what goes into the text of a terminal on its call is noted first
abbrev pub edit_note : InputAnswer → Step → Option ℕ → List ChannelNote
edit_note (input.Edited block) step (Some call) = notes.Edited call step ∷ []
edit_note (input.Edited block) step None = []
edit_note input.Dropped step o = []
edit_note (input.Taken asked) step o = []

block_adds : (block : Option (List ℕ)) (call : ℕ) (a : AtLine) → Adds a.line.notes (port.block_sent block call a).line.notes
block_adds None call a = adds_none a.line.notes
block_adds (Some octets) call a = adds_unless a.line.notes _ (notes.Sent call (datum octets false)) tt

edits_adds : (step : Step) (block : Option (List ℕ)) (o : Option ℕ) (a : AtLine) → a.line.notes ≡ []
    → Adds (edit_note (input.Edited block) step o) (port.on_call (port.edits step block) o a).line.notes
edits_adds step block None a nothing = subst (λ (l : List ChannelNote). Adds [] l) (sym nothing) (adds_none [])
edits_adds step block (Some call) a nothing =
    let x : AtLine = record a { line = line.noting (notes.Edited call step ∷ []) a.line } in
    subst (λ (l : List ChannelNote). Adds (l ++ notes.Edited call step ∷ []) (port.block_sent block call x).line.notes) nothing (block_adds block call x)

handles_adds : (answer : InputAnswer) (step : Step) (a : AtLine) → a.line.notes ≡ [] → Adds (edit_note answer step a.port.call) (port.handles answer step a).line.notes
handles_adds input.Dropped step a nothing = subst (λ (l : List ChannelNote). Adds [] l) (sym nothing) (adds_none [])
handles_adds (input.Edited block) step a nothing = edits_adds step block a.port.call a nothing
handles_adds (input.Taken asked) step a nothing = subst (λ (l : List ChannelNote). Adds l (port.does_asked asked a).line.notes) nothing (does_adds asked a)

-- ---- events

pub ended_adds : (p : PadState) → Adds p.line.notes (pad.ended p).line.notes
ended_adds p = adds_told p.line.notes (finished p.line.end).notes

pub answered_adds : (o : Option ℕ) (p : PadState) → Adds p.line.notes (pad.answered o p).line.notes
answered_adds None p = adds_none p.line.notes
answered_adds (Some channel) p = by (pad.first_free p.ports)
  where
    by : (o : Option ℕ) → Adds p.line.notes (pad.answered_at o channel p).line.notes
    by None = adds_unless p.line.notes _ (notes.Cleared channel) tt
    by (Some number) = adds_unless p.line.notes _ (notes.Accepted channel) tt

line_adds : (p : PadState) → Adds p.line.notes (pad.line_event p).line.notes
line_adds p =
    let o : Option ℕ = line.last_incoming None p.line.end.notes in
    let q : PadState = pad.answered o (pad.told p) in
    adds_both p.line.notes (pad.told p).line.notes _ (adds_told p.line.notes p.line.end.notes)
    (adds_both (pad.told p).line.notes q.line.notes _ (answered_adds o (pad.told p)) (ended_adds q))

terminal_adds : (number : ℕ) (act : AtLine → AtLine) → ((a : AtLine) → Adds a.line.notes (act a).line.notes) → (p : PadState) → Adds [] (pad.terminal_event number act p).line.notes
terminal_adds number act f p =
    adds_both [] (at_port number act (pad.begun p)).line.notes _ (by (slice_get p.ports number)) (ended_adds (at_port number act (pad.begun p)))
  where
    by : (o : Option PortState) → Adds [] (option_map_or (λ found. acted number (pad.begun p) (act (pad.with_line number found (pad.begun p)))) o (pad.begun p)).line.notes
    by None = adds_none []
    by (Some q) = f (pad.with_line number q (pad.begun p))

-- what a terminal has as input: its number, how it is answered, the step, and the terminal's call
pub record Input : Type 0 where
  pub terminal : ℕ
  pub answer : InputAnswer
  pub step : Step
  pub call : Option ℕ

abbrev pub input_from : (number : ℕ) → (answer : AtLine → InputAnswer) → (step : AtLine → Step) → PadState → PortState → Input
input_from number answer step p q =
    record { terminal = number; answer = answer (pad.with_line number q p); step = step (pad.with_line number q p); call = q.call }

abbrev pub input_at : (number : ℕ) → (answer : AtLine → InputAnswer) → (step : AtLine → Step) → PadState → Option Input
input_at number answer step p = option_map_or (λ q. Some (input_from number answer step (pad.begun p) q)) (slice_get p.ports number) None

abbrev pub key_at : (number octet : ℕ) → PadState → Option Input
key_at number octet p = input_at number (λ a. (port.key_input octet a).answer) (λ a. key octet a.port.terminal.settings.params) p

abbrev pub idle_at : (number : ℕ) → (runs : Bool) → PadState → Option Input
idle_at number runs p = if runs then input_at number (λ a. (port.idle_input a).answer) (λ a. idle a.port.terminal.settings.params) p else None

abbrev pub input_of : PadEvent → PadState → Option Input
input_of (HasKey number octet) p = key_at number octet p
input_of (HasIdleTime number) p = idle_at number (pad.runs_idle_timer number p) p
input_of (HasExpiry (Idle number)) p = idle_at number (pad.runs_idle_timer number p) p
input_of _ p = None

abbrev pub note_of : Option Input → List ChannelNote
note_of None = []
note_of (Some i) = edit_note i.answer i.step i.call

input_adds : (number : ℕ) (act : AtLine → AtLine) (answer : AtLine → InputAnswer) (step : AtLine → Step) → ((a : AtLine) → a.line.notes ≡ [] → Adds (edit_note (answer a) (step a) a.port.call) (act a).line.notes)
    → (p : PadState) → Adds (note_of (input_at number answer step p)) (pad.terminal_event number act p).line.notes
input_adds number act answer step f p =
    adds_both (note_of (input_at number answer step p)) (at_port number act (pad.begun p)).line.notes _ (by (slice_get p.ports number)) (ended_adds (at_port number act (pad.begun p)))
  where
    by : (o : Option PortState) → Adds (note_of (option_map_or (λ q. Some (input_from number answer step (pad.begun p) q)) o None))
        (option_map_or (λ found. acted number (pad.begun p) (act (pad.with_line number found (pad.begun p)))) o (pad.begun p)).line.notes
    by None = adds_none []
    by (Some q) = f (pad.with_line number q (pad.begun p)) refl

no_note : (ns : List ChannelNote) → ns ≡ [] → Adds [] ns
no_note ns nothing = subst (λ (l : List ChannelNote). Adds [] l) (sym nothing) (adds_none [])

idle_adds : (number : ℕ) (runs : Bool) (p : PadState) → p.line.notes ≡ [] → Adds (note_of (idle_at number runs p)) (if runs then pad.terminal_event number port.after_idle p else p).line.notes
idle_adds number true p nothing =
    input_adds number port.after_idle (λ a. (port.idle_input a).answer) (λ a. idle a.port.terminal.settings.params)
    (λ a none. handles_adds (port.idle_input a).answer (idle a.port.terminal.settings.params) (record a { port = record a.port { terminal = (port.idle_input a).terminal; idle_left = None } }) none) p
idle_adds number false p nothing = no_note p.line.notes nothing

expiry_adds : (runs : Bool) (id : TimerId) (p : PadState) → p.line.notes ≡ [] → Adds [] (if runs then pad.line_event (pad.with_expiry p id) else p).line.notes
expiry_adds true id p nothing = line_adds (pad.with_expiry p id)
expiry_adds false id p nothing = no_note p.line.notes nothing

pub event_adds : (event : PadEvent) (p : PadState) → p.line.notes ≡ [] → Adds (note_of (input_of event p)) (after_event event p).line.notes
event_adds (HasKey number octet) p nothing =
    input_adds number (port.after_key octet) (λ a. (port.key_input octet a).answer) (λ a. key octet a.port.terminal.settings.params)
    (λ a none. handles_adds (port.key_input octet a).answer (key octet a.port.terminal.settings.params) (record a { port = record a.port { terminal = (port.key_input octet a).terminal; idle_left = None } }) none) p
event_adds (HasBreak number) p nothing =
    terminal_adds number port.after_break (λ a. break_adds (port.break_answer_of a) (record a { port = port.with_terminal (breaks.after_break (condition a.port.call a.line) a.port.terminal) a.port })) p
event_adds (HasPrinting number) p nothing = terminal_adds number port.after_print print_adds p
event_adds (HasLeaving number) p nothing = terminal_adds number port.after_leaving (λ a. clears_adds a.port.call a) p
event_adds (HasArrival number) p nothing = terminal_adds number port.after_arrival (λ a. adds_none a.line.notes) p
event_adds (HasIdleTime number) p nothing = idle_adds number (pad.runs_idle_timer number p) p nothing
event_adds (HasFrame octets) p nothing = line_adds (pad.with_frame p octets)
event_adds (HasExpiry (Idle number)) p nothing = idle_adds number (pad.runs_idle_timer number p) p nothing
event_adds (HasExpiry id) p nothing = expiry_adds (runs_at p.line.end id) id p nothing
event_adds HasRelink p nothing = line_adds (pad.with_relink p)
event_adds HasRestart p nothing = adds_none []
event_adds (HasTicks ticks) p nothing = no_note p.line.notes nothing

-- ---- the steps of the records

pub record HaveSteps (steps : ℕ → List Step) (role : Role) (b : Book) : Type 0 where
  pub has : (n : ℕ) (r : RecordValue) → slice_get b.records n ≡ Some r → r.node ≡ node_at role b → r.steps ≡ steps n
  pub none : (n : ℕ) → slice_get b.records n ≡ None → steps n ≡ []

pub same_steps : (xs ys : ℕ → List Step) → ((n : ℕ) → xs n ≡ ys n) → (role : Role) (b : Book) → HaveSteps xs role b → HaveSteps ys role b
same_steps xs ys same role b h = record {
  has = λ n r at own. h.has n r at own ∙ same n;
  none = λ n at. sym (same n) ∙ h.none n at;
}

module _ (steps : ℕ → List Step) (role : Role) where
  abbrev Have : Book → Type 0
  Have b = HaveSteps steps role b

  change_steps : (c : ℕ) (f : RecordValue → RecordValue) → ((r : RecordValue) → (f r).node ≡ r.node) → ((r : RecordValue) → (f r).steps ≡ r.steps) → (b : Book) → Have b → Have (changed role c f b)
  change_steps c f node same b h = record {
    has = λ n now at own.
        let r = change_of o f b n now at in
        let mine : now.node ≡ node_at role b = own ∙ ap (λ (z : Side). z.node) (side_changed role o f b) in
        elim r.2 [
          | inl q ↦ ap (λ (z : RecordValue). z.steps) q.1 ∙ same r.0 ∙ h.has n r.0 r.1 (sym (node r.0) ∙ sym (ap (λ (z : RecordValue). z.node) q.1) ∙ mine)
          | inr q ↦ ap (λ (z : RecordValue). z.steps) q ∙ h.has n r.0 r.1 (sym (ap (λ (z : RecordValue). z.node) q) ∙ mine)
        ];
    none = λ n at. h.none n (still_none b.records (changed role c f b).records n (λ r there. (let k = change_keeps o f b node n r there in (k.0, k.1))) at);
  }
    where
      o : Option ℕ
      o = (slot_at role c b).present

  slot_steps : (c : ℕ) (z : Slot) (b : Book) → Have b → Have (with_slot role c z b)
  slot_steps c z b h = record {
    has = λ n r at own. h.has n r (sym (same n) ∙ at) (own ∙ slot_node role c z b role);
    none = λ n at. h.none n (sym (same n) ∙ at);
  }
    where
      same : (n : ℕ) → slice_get (with_slot role c z b).records n ≡ slice_get b.records n
      same n = ap (λ (rs : List RecordValue). slice_get rs n) (slot_records role c z b)

  pushed : (xs : List RecordValue) (y : RecordValue) (i : ℕ) (x : RecordValue) → slice_get (xs ++ y ∷ []) i ≡ Some x → (slice_get xs i ≡ Some x) ⊎ ((x ≡ y) × (slice_get xs i ≡ None))
  pushed [] y zero x at = inr (sym (same_Some y x at), refl)
  pushed [] y (suc i) x at = absurd (none-some x at)
  pushed (z ∷ xs) y zero x at = inl at
  pushed (z ∷ xs) y (suc i) x at = pushed xs y i x at

  record_steps : (r : RecordValue) → r.steps ≡ [] → (b : Book) → Have b → Have (with_record r b)
  record_steps r new b h = record {
    has = λ n now at own. elim (pushed b.records r n now at) [
      | inl k ↦ h.has n now k (own ∙ ap (λ (z : Side). z.node) (side_record r b role))
      | inr k ↦ ap (λ (z : RecordValue). z.steps) k.0 ∙ new ∙ sym (h.none n k.1)
    ];
    none = λ n at. h.none n (still_none b.records (b.records ++ r ∷ []) n (λ q there. (q, get_before b.records (r ∷ []) n q there)) at);
  }

  closes_steps : (c : ℕ) (b : Book) → Have b → Have (closes role c b)
  closes_steps c b h = slot_steps c _ (changed role c with_closed b) (change_steps c with_closed (λ r. refl) (λ r. refl) b h)

  closes_if_steps : (o : Option ℕ) (c : ℕ) (b : Book) → Have b → Have (closes_if o role c b)
  closes_if_steps None c b h = h
  closes_if_steps (Some n) c b h = closes_steps c b h

  closed_from_steps : (count c : ℕ) (b : Book) → Have b → Have (closed_from count c role b)
  closed_from_steps zero c b h = h
  closed_from_steps (suc count) c b h = closed_from_steps count (suc c) (closes_present role c b) (closes_if_steps (slot_at role c b).present c b h)

  pair_steps : (x y : Option ℕ) (b : Book) → Have b → Have (with_pair x y b)
  pair_steps None y b h = h
  pair_steps (Some caller) None b h = h
  pair_steps (Some caller) (Some callee) b h =
      let ps : List PairValue = b.pairs ++ record { caller = caller; callee = callee } ∷ [] in
      record { has = λ n r at own. h.has n r at (own ∙ ap (λ (z : Side). z.node) (side_pairs ps b role)); none = h.none }

  told_steps : (note : Note) (b : Book) → Have b → Have (told role note b)
  told_steps (Incoming c parts) b h = slot_steps c _ (with_record _ b) (record_steps (new_record (length b.records) (side_of role b).node (address_of parts.called) (address_of parts.calling) (slot_at (other_of role) c b).placed) refl b h)
  told_steps (Connected c) b h = h
  told_steps (Closed c cause diagnostic reason) b h = closes_steps c b h
  told_steps (WasReset c cause diagnostic reason) b h = change_steps c with_epoch (λ r. refl) (λ r. refl) b h
  told_steps (InterruptConfirmed c) b h = h
  told_steps (Covered c count) b h = change_steps c (with_covered count) (λ r. refl) (λ r. refl) b h

  took_steps : (c : ℕ) (taken : Taken) (b : Book) → Have b → Have (let_go taken role c (takes role c (Some taken) b))
  took_steps c (TakenInterrupt octets) b h = change_steps c (with_interrupt_taken octets) (λ r. refl) (λ r. refl) b h
  took_steps c (TakenPacket d) b h =
      change_steps c (with_released 1) (λ r. refl) (λ r. refl) (takes role c (Some (TakenPacket d)) b) (change_steps c (with_taken (packet_of d)) (λ r. refl) (λ r. refl) b h)

  note_steps : (note : ChannelNote) → IsNoEdit note → (b : Book) → Have b → Have (written_by role (write_of note) b)
  note_steps (notes.Told note) none b h = told_steps note b h
  note_steps (notes.Placed c address) none b h =
      slot_steps c _ (with_record _ b) (record_steps (new_record (length b.records) (side_of role b).node (address_of (calling_from (side_of role b).address (parts_to address).calling)) (address_of address) None) refl b h)
  note_steps (notes.Accepted c) none b h = pair_steps (slot_at role c b).caller (slot_at role c b).present b h
  note_steps (notes.Cleared c) none b h = closes_steps c b h
  note_steps (notes.WasReset c) none b h = change_steps c with_epoch (λ r. refl) (λ r. refl) b h
  note_steps (notes.Edited c step) none b h = absurd none
  note_steps (notes.Sent c d) none b h = change_steps c (with_sent (packet_of d)) (λ r. refl) (λ r. refl) b h
  note_steps (notes.Interrupted c octets) none b h = change_steps c (with_interrupt_sent octets) (λ r. refl) (λ r. refl) b h
  note_steps (notes.Took c taken) none b h = took_steps c taken b h

  notes_steps : (ns : List ChannelNote) → Every IsNoEdit ns → (b : Book) → Have b → Have (noted role ns b)
  notes_steps [] none b h = h
  notes_steps (note ∷ ns) none b h = notes_steps ns none.1 (written_by role (write_of note) b) (note_steps note none.0 b h)

-- the channels whose present call has the record of this number
abbrev pub is_of : (n : ℕ) → Role → Book → (channel : ℕ) → Bool
is_of n role b = λ channel. is_record n (slot_at role channel b).present

abbrev pub step_on : Option ℕ → (test : ℕ → Bool) → InputAnswer → Step → List Step
step_on (Some call) test (input.Edited block) step = if test call then step ∷ [] else []
step_on (Some call) test input.Dropped step = []
step_on (Some call) test (input.Taken asked) step = []
step_on None test answer step = []

abbrev pub step_of : Option Input → (test : ℕ → Bool) → List Step
step_of None test = []
step_of (Some i) test = step_on i.call test i.answer i.step

module _ (steps : ℕ → List Step) (role : Role) (b : Book) (unheld : (n : ℕ) → slice_get b.records n ≡ None → (channel : ℕ) → is_of n role b channel ≡ false) (h : HaveSteps steps role b) where
  edit_steps : (call : ℕ) (step : Step) → HaveSteps (λ n. steps n ++ (if is_of n role b call then step ∷ [] else [])) role (edits role call step b)
  edit_steps call step = record {
    has = λ n now at own.
        let r = change_split o (with_step step) b n now at in
        let mine : now.node ≡ node_at role b = own ∙ ap (λ (z : Side). z.node) (side_changed role o (with_step step) b) in
        elim r.2 [
          | inl q ↦
              ap (λ (z : RecordValue). z.steps) q.1
              ∙ ap (λ (l : List Step). l ++ step ∷ []) (h.has n r.0 r.1 (sym (ap (λ (z : RecordValue). z.node) q.1) ∙ mine))
              ∙ sym (ap (λ (v : Bool). steps n ++ (if v then step ∷ [] else [])) (is_true n o q.0))
          | inr q ↦
              ap (λ (z : RecordValue). z.steps) q.1
              ∙ h.has n r.0 r.1 (sym (ap (λ (z : RecordValue). z.node) q.1) ∙ mine)
              ∙ sym (append-nil (steps n)) ∙ sym (ap (λ (v : Bool). steps n ++ (if v then step ∷ [] else [])) (is_false n o q.0))
        ];
    none = λ n at.
        let before : slice_get b.records n ≡ None = still_none b.records (edits role call step b).records n
        (λ r there. (let k = change_keeps o (with_step step) b (λ q. refl) n r there in (k.0, k.1))) at in
        ap (λ (v : Bool). steps n ++ (if v then step ∷ [] else [])) (unheld n before call) ∙ append-nil (steps n) ∙ h.none n before;
  }
    where
      o : Option ℕ
      o = (slot_at role call b).present

  nothing_more : HaveSteps (λ n. steps n ++ []) role b
  nothing_more = same_steps steps (λ n. steps n ++ []) (λ n. sym (append-nil (steps n))) role b h

  noted_steps : (o : Option Input) → HaveSteps (λ n. steps n ++ step_of o (is_of n role b)) role (noted role (note_of o) b)
  noted_steps None = nothing_more
  noted_steps (Some i) = by i.call i.answer
    where
      by : (call : Option ℕ) (answer : InputAnswer) → HaveSteps (λ n. steps n ++ step_on call (is_of n role b) answer i.step) role (noted role (edit_note answer i.step call) b)
      by (Some call) (input.Edited block) = edit_steps call i.step
      by (Some call) input.Dropped = nothing_more
      by (Some call) (input.Taken asked) = nothing_more
      by None (input.Edited block) = nothing_more
      by None input.Dropped = nothing_more
      by None (input.Taken asked) = nothing_more

  added_steps : (event : PadEvent) (p : PadState) → p.line.notes ≡ []
      → HaveSteps (λ n. steps n ++ step_of (input_of event p) (is_of n role b)) role (noted role (after_event event p).line.notes b)
  added_steps event p nothing =
      let a : Adds (note_of (input_of event p)) (after_event event p).line.notes = event_adds event p nothing in
      let more : ℕ → List Step = λ n. steps n ++ step_of (input_of event p) (is_of n role b) in
      subst (λ (x : Book). HaveSteps more role x)
      (sym (ap (λ (ns : List ChannelNote). noted role ns b) a.is ∙ noted_append role (note_of (input_of event p)) a.more b))
      (notes_steps more role a.more a.no_edit (noted role (note_of (input_of event p)) b) (noted_steps (input_of event p)))

  pub event_steps : (event : PadEvent) (p : PadState) → p.line.notes ≡ []
      → HaveSteps (λ n. steps n ++ step_of (input_of event p) (is_of n role b)) role (all_written role (writes_after event p) b)
  event_steps (HasKey number octet) p nothing = added_steps (HasKey number octet) p nothing
  event_steps (HasBreak number) p nothing = added_steps (HasBreak number) p nothing
  event_steps (HasIdleTime number) p nothing = added_steps (HasIdleTime number) p nothing
  event_steps (HasPrinting number) p nothing = added_steps (HasPrinting number) p nothing
  event_steps (HasLeaving number) p nothing = added_steps (HasLeaving number) p nothing
  event_steps (HasArrival number) p nothing = added_steps (HasArrival number) p nothing
  event_steps (HasFrame octets) p nothing = added_steps (HasFrame octets) p nothing
  event_steps (HasExpiry id) p nothing = added_steps (HasExpiry id) p nothing
  event_steps HasRelink p nothing = added_steps HasRelink p nothing
  event_steps HasRestart p nothing =
      let more : ℕ → List Step = λ n. steps n ++ [] in
      closed_from_steps more role (length (side_of role b).slots) 1 b nothing_more
  event_steps (HasTicks ticks) p nothing = added_steps (HasTicks ticks) p nothing
