-- An event of a PAD loses no frame.
use Rattle.std.proofs.Common.{◌≡◌, ◌≤◌, ℕ, Bool, true, false, List, [], ◌++◌, length, Option, Some, None, refl, sym, subst, ap, ◌∙◌, arith}
use Rattle.std.specs.Prelude.{slice_get}
use Rattle.std.specs.Option.{option_map_or}
use Rattle.link_timers.specs.declared.timers.TimerId.{TimerId}
use Rattle.link_timers.specs.declared.timers.TimerId.TheVariants.{Idle}
use Rattle.packet_end.specs.PacketEnd.{Octets, PacketEnd, runs_at}
use Rattle.packet_end.specs.Sending.{EndsWhole, answer_frames, expiry_frames, relink_frames, ending_frames}
use Rattle.packet_end.proofs.Sending.{answered, answer_few, timed_out, expiry_few, set_up_anew, relink_few}
use Rattle.data_transfer.specs.Traffic.{Taken}
use Rattle.data_transfer.specs.Traffic.Taken.{TakenInterrupt, TakenPacket}
use Rattle.data_transfer.specs.Packets.{Datum}
use Rattle.packet_channel.specs.Channel.{Request as LayerRequest}
use Rattle.pad_editing.specs.Edited.{Step, key}
use Rattle.x29_messages.specs.declared.message.Message.{Message}
use Rattle.pad_terminal.specs.Breaks as breaks
use Rattle.pad_terminal.specs.Messages as messages
use Rattle.pad_terminal.specs.declared.answers.BreakAnswer.{BreakAnswer}
use Rattle.pad_terminal.specs.declared.answers.BreakAnswer.TheVariants as break_answer
use Rattle.pad_terminal.specs.declared.answers.InputAnswer.{InputAnswer}
use Rattle.pad_terminal.specs.declared.answers.InputAnswer.TheVariants as input
use Rattle.pad_terminal.specs.declared.answers.Reply.{Reply}
use Rattle.pad_terminal.specs.declared.answers.Reply.TheVariants as reply
use Rattle.pad_terminal.specs.declared.answers.TerminalRequest.{TerminalRequest}
use Rattle.pad_terminal.specs.declared.answers.TerminalRequest.TheVariants as request
use Rattle.pad_ports.specs.PadLine as line
use Rattle.pad_ports.specs.Ports as port
use Rattle.pad_ports.specs.Ports.{PortState, AtLine}
use Rattle.pad_ports.specs.PadLine.{PadLine}
use Rattle.x25_pad.specs.Pad as pad
use Rattle.x25_pad.specs.Pad.{PadState, acted, at_port, heeded, with_frame, with_relink, with_expiry}
use Rattle.x25_pad.specs.Sending.{frames_on_frame, frames_on_relink, frames_at_terminal, frames_on_timer}

-- ---- the frames that wait stay

abbrev SameFrames : PacketEnd → PacketEnd → Type 0
SameFrames e f = f.line.frames ≡ e.line.frames

abbrev SameAt : AtLine → AtLine → Type 0
SameAt a b = SameFrames a.line.end b.line.end

answered_same : (o : Option ℕ) (p : PadState) → SameFrames p.line.end (pad.answered o p).line.end
answered_same None p = refl
answered_same (Some channel) p = by (pad.first_free p.ports)
  where
    by : (o : Option ℕ) → SameFrames p.line.end (pad.answered_at o channel p).line.end
    by None = refl
    by (Some number) = refl

pub heeded_same : (p : PadState) → SameFrames p.line.end (heeded p).line.end
heeded_same p = answered_same (line.last_incoming None p.line.end.notes) (pad.told p)

on_call_same : (act : ℕ → AtLine → AtLine) (o : Option ℕ) (a : AtLine) → ((call : ℕ) → SameAt a (act call a)) → SameAt a (port.on_call act o a)
on_call_same act None a h = refl
on_call_same act (Some call) a h = h call

does_same : (o : Option TerminalRequest) (a : AtLine) → SameAt a (port.does_asked o a)
does_same None a = refl
does_same (Some (request.Call s)) a = refl
does_same (Some request.Clear) a = on_call_same port.clears a.port.call a (λ call. refl)
does_same (Some request.Interrupt) a = on_call_same port.interrupts a.port.call a (λ call. refl)
does_same (Some request.Reset) a = on_call_same port.resets a.port.call a (λ call. refl)

tells_same : (o : Option Message) (a : AtLine) → SameAt a (port.tells o a)
tells_same None a = refl
tells_same (Some m) a = on_call_same _ a.port.call a (λ call. refl)

edits_same : (step : Step) (block : Option (List ℕ)) (call : ℕ) (a : AtLine) → SameAt a (port.edits step block call a)
edits_same step None call a = refl
edits_same step (Some block) call a = refl

handles_same : (answer : InputAnswer) (step : Step) (a : AtLine) → SameAt a (port.handles answer step a)
handles_same input.Dropped step a = refl
handles_same (input.Edited block) step a = on_call_same (port.edits step block) a.port.call a (λ call. edits_same step block call a)
handles_same (input.Taken asked) step a = does_same asked a

pub key_same : (octet : ℕ) (a : AtLine) → SameAt a (port.after_key octet a)
key_same octet a =
    handles_same (port.key_input octet a).answer (key octet a.port.terminal.settings.params)
    (record a { port = record a.port { terminal = (port.key_input octet a).terminal; idle_left = None } })

answers_same : (answer : BreakAnswer) (a : AtLine) → SameAt a (port.answers_break answer a)
answers_same break_answer.Dropped a = refl
answers_same (break_answer.Taken requests) a = tells_same requests.indication (port.does_asked requests.request a) ∙ does_same requests.request a

pub break_same : (a : AtLine) → SameAt a (port.after_break a)
break_same a =
    answers_same (port.break_answer_of a)
    (record a { port = port.with_terminal (breaks.after_break (line.condition a.port.call a.line) a.port.terminal) a.port })

pub leaving_same : (a : AtLine) → SameAt a (port.after_leaving a)
leaving_same a = on_call_same port.clears a.port.call a (λ call. refl)

replies_same : (r : Reply) (a : AtLine) → SameAt a (port.replies r a)
replies_same reply.Nothing a = refl
replies_same (reply.Message m) a = tells_same (Some m) a
replies_same reply.Clear a = on_call_same port.clears a.port.call a (λ call. refl)

datum_same : (d : Datum) (q : Bool) (a : AtLine) → SameAt a (port.after_datum d q a)
datum_same d true a =
    let answered = messages.after_octets d.octets a.port.terminal in
    replies_same answered.reply (record a { port = port.with_terminal answered.terminal a.port })
datum_same d false a = refl

taking_same : (taken : Taken) (call : ℕ) (a : AtLine) → SameAt a (port.after_taking taken call (port.takes taken call a))
taking_same (TakenInterrupt octets) call a = refl
taking_same (TakenPacket d) call a = datum_same d d.qualified (port.releases (LayerRequest.Releasing 1) call (port.takes (TakenPacket d) call a))

next_same : (o : Option ℕ) (taken : Option Taken) (p : PortState) (l : PadLine)
    → SameAt (record { port = record p { call = o }; line = l }) (port.after_taken taken (port.with_taken taken (record { port = record p { call = o }; line = l })))
next_same o None p l = refl
next_same None (Some taken) p l = refl
next_same (Some call) (Some taken) p l = taking_same taken call (record { port = record p { call = Some call }; line = l })

at_port_same : (number : ℕ) (act : AtLine → AtLine) → ((a : AtLine) → SameAt a (act a)) → (p : PadState) → SameFrames p.line.end (at_port number act p).line.end
at_port_same number act same p = by (slice_get p.ports number)
  where
    by : (o : Option PortState) → SameFrames p.line.end (option_map_or (λ found. acted number p (act (pad.with_line number found p))) o p).line.end
    by None = refl
    by (Some q) = same (pad.with_line number q p)

-- ---- the end of an event

-- the frames that waited, and those of the end
pub ends_after : (mid new : PadState) (e : PacketEnd) → EndsWhole e mid.line.end → new ≡ pad.all_settled (pad.told mid) → EndsWhole e new.line.end
ends_after mid new e ends is = λ few. ap (λ (p : PadState). p.line.end.line.frames) is ∙ ends few

-- what came from the line has sent these frames, at most one, and then the event ends
pub line_whole : (p new : PadState) (fs : List Octets) → p.line.end.line.frames ≡ fs → length fs ≤ 1
    → (length p.line.end.line.frames ≤ 1 → new.line.end.line.frames ≡ p.line.end.line.frames ++ ending_frames (heeded p).line.end)
    → new.line.end.line.frames ≡ fs ++ ending_frames (heeded p).line.end
line_whole p new fs is few ends =
    ends (subst (λ (l : List Octets). length l ≤ 1) (sym is) few) ∙ ap (λ (l : List Octets). l ++ ending_frames (heeded p).line.end) is

-- after a frame, a relink and an expiry
pub frame_whole : (old heard new : PadState) (octets : Octets) → heard ≡ with_frame old octets
    → (length heard.line.end.line.frames ≤ 1 → new.line.end.line.frames ≡ heard.line.end.line.frames ++ ending_frames (heeded heard).line.end)
    → new.line.end.line.frames ≡ frames_on_frame old octets
frame_whole old heard new octets is ends =
    line_whole (with_frame old octets) new (answer_frames old.line.end octets) (answered old.line.end octets) (answer_few old.line.end octets)
    (subst (λ (p : PadState). length p.line.end.line.frames ≤ 1 → new.line.end.line.frames ≡ p.line.end.line.frames ++ ending_frames (heeded p).line.end) is ends)

pub relink_whole : (old heard new : PadState) → heard ≡ with_relink old
    → (length heard.line.end.line.frames ≤ 1 → new.line.end.line.frames ≡ heard.line.end.line.frames ++ ending_frames (heeded heard).line.end)
    → new.line.end.line.frames ≡ frames_on_relink old
relink_whole old heard new is ends =
    line_whole (with_relink old) new (relink_frames old.line.end) (set_up_anew old.line.end) (relink_few old.line.end)
    (subst (λ (p : PadState). length p.line.end.line.frames ≤ 1 → new.line.end.line.frames ≡ p.line.end.line.frames ++ ending_frames (heeded p).line.end) is ends)

pub expiry_whole : (old heard new : PadState) (id : TimerId) → runs_at old.line.end id ≡ true → heard ≡ with_expiry old id
    → (length heard.line.end.line.frames ≤ 1 → new.line.end.line.frames ≡ heard.line.end.line.frames ++ ending_frames (heeded heard).line.end)
    → new.line.end.line.frames ≡ expiry_frames id old.line.end ++ ending_frames (heeded (with_expiry old id)).line.end
expiry_whole old heard new id runs is ends =
    line_whole (with_expiry old id) new (expiry_frames id old.line.end) (timed_out old.line.end id runs) (expiry_few id old.line.end)
    (subst (λ (p : PadState). length p.line.end.line.frames ≤ 1 → new.line.end.line.frames ≡ p.line.end.line.frames ++ ending_frames (heeded p).line.end) is ends)

-- after what happens at a terminal
pub terminal_whole : (number : ℕ) (act : AtLine → AtLine) → ((a : AtLine) → SameAt a (act a)) → (old mid new : PadState) → mid ≡ at_port number act (pad.begun old) → EndsWhole mid.line.end new.line.end
    → new.line.end.line.frames ≡ frames_at_terminal number act old
terminal_whole number act same old mid new is ends =
    let p : PadState = at_port number act (pad.begun old) in
    let none : p.line.end.line.frames ≡ [] = at_port_same number act same (pad.begun old) in
    let whole : EndsWhole p.line.end new.line.end = subst (λ (q : PadState). EndsWhole q.line.end new.line.end) is ends in
    whole (subst (λ (l : List Octets). length l ≤ 1) (sym none) (omega arith)) ∙ ap (λ (l : List Octets). l ++ ending_frames p.line.end) none

-- a timer of the line, and of no terminal
pub is_of_line : (id : TimerId) → ((number : ℕ) → id ≡ Idle number → ⊥) → (p : PadState)
    → (runs_at p.line.end id ≡ pad.runs_at p id) × (pad.after_expiry p id ≡ pad.after_timer p id)
    × (expiry_frames id p.line.end ++ ending_frames (heeded (with_expiry p id)).line.end ≡ frames_on_timer p id)
is_of_line (Idle number) other p = absurd (other number refl)
is_of_line id other p = (refl, refl, refl)
