-- A node that is called with what a user does.
use Rattle.std.proofs.Common.{◌≡◌, ◌<◌, ℕ, Bool, true, false, Some, None, refl, sym, ap, ◌∙◌, subst, arith}
use Rattle.std.specs.Prelude.{◌==◌, ◌&&◌, not, nat_lt, if◌then◌else◌, length}
use Rattle.std.proofs.lemmas.Bool.{lt-ltb, ltb-false}
use Rattle.packet_end.specs.PacketEnd.{PacketEnd}
use Rattle.x25_pad.specs.Pad.{PadState}
use Rattle.call_records.specs.Book.{Book}
use Rattle.call_records.specs.Register as spec
use Rattle.call_records.specs.declared.register.Register.{Register}
use Rattle.user_nodes.specs.Node.{NodeState, Host}
use Rattle.user_nodes.specs.Turn.{Turn, told}
use Rattle.user_nodes.specs.declared.attachment.Attachment.{Attachment}
use Rattle.frame_lines.specs.Lines.{Flights, LineService}
use Rattle.net_events.specs.NodeEvents.{NodeEvent}
use Rattle.net_events.specs.EventView.{host_event_of}
use Rattle.net_events.specs.declared.answer.Answer.{Answer}
use Rattle.net_events.specs.declared.event.StepFault.TheVariants.{NoSuchTerminal, NoSuchCall}
use Rattle.net_events.specs.declared.node_event.HostEvent.{HostEvent}
use Rattle.net_events.specs.declared.node_event.HostEvent.TheVariants.{Calls, Asks, Takes}
use Rattle.node_events.specs.Outcomes.{event_fault, IsOutcome, text_of}
use Rattle.node_events.specs.Served.{IsCalled, Served, IsReady}
use Rattle.node_events.specs.Users.{IsNumbered, IsOpened, IsCalledBy, AtLine, HadTurn, is_on_line, refused, terminal_fault, host_fault}

-- ---- what is refused

pub terminal_there : (terminal : ℕ) (p : PadState) → terminal < length p.ports → terminal_fault terminal p ≡ None
terminal_there terminal p less = λ i. if lt-ltb terminal (length p.ports) less i then None else Some NoSuchTerminal

-- a channel of a line has a number that an octet has room for
channel_fits : (channels channel : ℕ) (zero less : Bool) → nat_lt channels channel ≡ less → channels < 256 → not zero && not less ≡ true → channel < 256
channel_fits channels channel true less is fits on = absurd (cc)
channel_fits channels channel false true is fits on = absurd (cc)
channel_fits channels channel false false is fits on = let most = ltb-false channels channel is in omega (arith, most, fits)

pub numbered : (event : HostEvent) (channels : ℕ) → channels < 256 → is_on_line event channels ≡ true → IsNumbered event
numbered (Calls address user_data) channels fits on = tt
numbered (Asks channel request) channels fits on = channel_fits channels channel (channel == 0) (nat_lt channels channel) refl fits on
numbered (Takes channel) channels fits on = channel_fits channels channel (channel == 0) (nat_lt channels channel) refl fits on

-- what a host answers, where the line has the channel
pub host_answers : (channels : ℕ) (event : HostEvent) (e : PacketEnd) → is_on_line event channels ≡ true
    → host_fault channels event e ≡ refused (event_fault (host_event_of event) (Host e))
host_answers channels event e on = λ i. if on i then refused (event_fault (host_event_of event) (Host e)) else Some NoSuchCall

-- ---- what is called

pub ready_with : (a b : Answer) → a.frames ≡ b.frames → a.notes ≡ b.notes → IsReady a → IsReady b
ready_with a b frames notes w =
    let P : Answer → Type 0 = λ x. IsReady x in
    let same : record a { text = b.text; outcome = b.outcome } ≡ b = λ i. record { frames = frames i; notes = notes i; text = b.text; outcome = b.outcome } in
    subst P same (record { frames = w.frames; notes = w.notes; frame_places = w.frame_places; note_places = w.note_places })

pub called_by : (at : Attachment) (event : NodeEvent) (old node : NodeState) (before : spec.Register) (g h : Register) (a b : Answer)
    → IsOpened at.line before g → h.open ≡ g.open → h.lines ≡ g.lines → IsCalled event at.role old g.book.book node h.book
    → IsReady a → a.frames ≡ b.frames → a.notes ≡ b.notes → IsOutcome event old b.outcome → b.text.items ≡ text_of event old
    → IsCalledBy at event old before b node h
called_by at event old node before g h a b o same_open same_lines called ready frames notes outcome text = record {
  called = subst (λ (x : Book). IsCalled event at.role old x node h.book) o.book called;
  written = λ x. (λ i. Rattle.call_records.specs.RegisterView.register_with (same_open i) x (Rattle.call_records.specs.RegisterView.lines_of (same_lines i).items)) ∙ o.written x;
  ready = ready_with a b frames notes ready;
  outcome = outcome;
  text = text;
}

-- ---- and the turn is ended

pub turn_had : (L : LineService) (at : Attachment) (event : NodeEvent) (s : AtLine) (a b : Answer) (mid node : NodeState) (flights : Flights) (g : Register) (book : Book) (register : spec.Register)
    → IsCalledBy at event s.node s.register a mid g
    → Served L at (told at.role mid g.book.book) s.flights b.frames.items b.notes.items node flights book
    → b.text ≡ a.text → b.outcome ≡ a.outcome
    → register ≡ Rattle.call_records.specs.RegisterView.register_with g.open book (Rattle.call_records.specs.RegisterView.lines_of g.lines.items)
    → HadTurn L at event s b (record { node = node; flights = flights; register = register })
turn_had L at event s a b mid node flights g book register w served text outcome is = record {
  book = book;
  served = subst (λ (x : Turn). Served L at x s.flights b.frames.items b.notes.items node flights book) w.called.reads_so served;
  register = is ∙ w.written book;
  outcome = subst (λ o. IsOutcome event s.node o) (sym outcome) w.outcome;
  text = ap (λ x. x.items) text ∙ w.text;
}
