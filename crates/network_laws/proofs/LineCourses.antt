-- The course that leads to a PAD on a line goes on by each event at the two nodes of the line.
use Rattle.std.proofs.Common.{◌≡◌, List, [], Some, refl, sym, ap, ap₂, ◌∙◌, subst}
use Rattle.std.specs.Prelude.{slice_get}
use Rattle.link_timers.specs.declared.role.Role.TheVariants.{Dte, Dce}
use Rattle.link_timers.specs.declared.timers.TimerId.{TimerId}
use Rattle.link_timers.specs.declared.timers.TimerId.TheVariants.{Idle as idle_timer}
use Rattle.pad_ports.specs.Notes.{ChannelNote}
use Rattle.pad_ports.specs.Ports as port
use Rattle.x25_pad.specs.Pad as pad
use Rattle.x25_pad.specs.Pad.{PadState}
use Rattle.x25_pad.specs.Making.{made}
use Rattle.user_nodes.specs.PadWriting.{writes_of, without_notes}
use Rattle.call_records.specs.Book.{Book}
use Rattle.call_records.specs.Writes.{Write, all_written}
use Rattle.node_laws.specs.Pads.Holds.{node_at as node_of_end}
use Rattle.node_laws.specs.Pads.Courses.{Happening, Here, There, Course, happened, begins, goes_on}
use Rattle.node_laws.specs.Quiet.{IsQuiet}
use Rattle.node_laws.proofs.Pads.Holding.{timer_drained, course_is}
use Rattle.node_laws.specs.Pads.Standing.{drained}
use Rattle.node_laws.specs.Pads.Happening.{PadEvent, HasKey, HasBreak, HasIdleTime, HasPrinting, HasLeaving, HasArrival, HasFrame, HasExpiry, HasRelink, HasRestart, HasTicks, after_event, writes_after}
use Rattle.user_nodes.specs.Node as node
use Rattle.user_nodes.specs.Node.{NodeState, Pad, Host, sent_out}
use Rattle.user_nodes.specs.Turn.{Turn, told}
use Rattle.user_nodes.specs.LineTurns.{expires}
use Rattle.user_nodes.specs.declared.terminal.TerminalEvent.TheVariants.{Key, Break, Idle, Print, Leaves, Arrives}
use Rattle.user_nodes.proofs.Noted.{expires_told}
use Rattle.frame_lines.specs.Lines.{LineService}
use Rattle.net_events.specs.OneLine.{LineState}
use Rattle.net_events.specs.NodeEvents.{NodeEvent, Hears, Expires, Relinks, Restarts, Calls, Asks, Refuses, Says, Takes, AtTerminal, IsFor, Happened, turn_of}
use Rattle.network_laws.specs.IsLine.{IsLine}
use Rattle.network_laws.specs.LineCourse.{LeadsTo, at_pad, IsIn, MadeCourse, EventCourse, LossCourse, TimeCourse, SentCourse}
use Rattle.network_laws.proofs.Uniform.{IsUniform, uniform}

-- ---- the turn of a PAD

-- the turn leaves the PAD and the book as an event of the course does
pub record IsTurn (e : PadEvent) (p : PadState) (b : Book) (turn : Turn) : Type 0 where
  pub then : PadState
  pub there : node.drained turn.node ≡ Pad then
  pub same : drained (after_event e (drained p)) ≡ drained then
  pub book : all_written Dte (writes_after e (drained p)) b ≡ turn.book

told_turn : (e : PadEvent) (p q : PadState) (b : Book) → drained (after_event e (drained p)) ≡ drained q → writes_after e (drained p) ≡ writes_of q.line.notes
    → IsTurn e p b (told Dte (Pad q) b)
told_turn e p q b same writes = record {
  then = pad.with_end (sent_out (without_notes q).line.end) (without_notes q);
  there = refl;
  same = same;
  book = ap (λ (ws : List Write). all_written Dte ws b) writes;
}

timer_turn : (e : PadEvent) (p : PadState) (id : TimerId) (b : Book) → p.line.notes ≡ [] → drained (after_event e (drained p)) ≡ drained (pad.after_timer (drained p) id)
    → writes_after e (drained p) ≡ writes_of (pad.after_timer (drained p) id).line.notes → IsTurn e p b (told Dte (Pad (pad.after_timer p id)) b)
timer_turn e p id b none same writes =
    let t = timer_drained p id none in
    told_turn e p (pad.after_timer p id) b (same ∙ t.0) (writes ∙ ap (λ (ns : List ChannelNote). writes_of ns) t.1)

expiry_turn : (p : PadState) (id : TimerId) (b : Book) → IsQuiet (Pad p) → IsTurn (HasExpiry id) p b (expires Dte (Pad p) id b)
expiry_turn p id b q =
    subst (λ (x : Turn). IsTurn (HasExpiry id) p b x) (expires_told Dte (Pad p) id b q.node.noted q.node.read)
    (timer_turn (HasExpiry id) p id b q.node.noted refl refl)

-- an event that is one of a PAD
pub record IsPadTurn (event : NodeEvent) (p : PadState) (b : Book) : Type 0 where
  pub event_is : PadEvent
  pub is : at_pad event ≡ Some event_is
  pub turn : IsTurn event_is p b (turn_of event Dte (Pad p) b)

pub pad_turn : (event : NodeEvent) (p : PadState) (b : Book) → IsFor event (Pad p) → IsQuiet (Pad p) → IsPadTurn event p b
pad_turn (Hears octets) p b is q = record { event_is = HasFrame octets; is = refl; turn = told_turn (HasFrame octets) p (pad.after_frame p octets) b refl refl }
pad_turn (Expires id) p b is q = record { event_is = HasExpiry id; is = refl; turn = expiry_turn p id b q }
pad_turn Relinks p b is q = record { event_is = HasRelink; is = refl; turn = told_turn HasRelink p (pad.after_relink p) b refl refl }
pad_turn Restarts p b is q = record {
  event_is = HasRestart;
  is = refl;
  turn = record { then = pad.with_end (sent_out (pad.restarted p).line.end) (pad.restarted p); there = refl; same = refl; book = refl };
}
pad_turn (AtTerminal number (Key octet)) p b is q =
    record { event_is = HasKey number octet; is = refl; turn = told_turn (HasKey number octet) p (pad.terminal_event number (port.after_key octet) p) b refl refl }
pad_turn (AtTerminal number Break) p b is q =
    record { event_is = HasBreak number; is = refl; turn = told_turn (HasBreak number) p (pad.terminal_event number port.after_break p) b refl refl }
pad_turn (AtTerminal number Idle) p b is q =
    record { event_is = HasIdleTime number; is = refl; turn = timer_turn (HasIdleTime number) p (idle_timer number) b q.node.noted refl refl }
pad_turn (AtTerminal number Print) p b is q =
    record { event_is = HasPrinting number; is = refl; turn = told_turn (HasPrinting number) p (pad.terminal_event number port.after_print p) b refl refl }
pad_turn (AtTerminal number Leaves) p b is q =
    record { event_is = HasLeaving number; is = refl; turn = told_turn (HasLeaving number) p (pad.terminal_event number port.after_leaving p) b refl refl }
pad_turn (AtTerminal number Arrives) p b is q =
    record { event_is = HasArrival number; is = refl; turn = told_turn (HasArrival number) p (pad.terminal_event number port.after_arrival p) b refl refl }
pad_turn (Calls address user_data) p b is q = absurd (let no = is.0 in cc)
pad_turn (Asks channel r) p b is q = absurd (cc)
pad_turn (Refuses channel) p b is q = absurd (cc)
pad_turn (Says channel octets qualified delivery) p b is q = absurd (cc)
pad_turn (Takes channel) p b is q = absurd (cc)

-- ---- the course

goes_here : (L : LineService) (event : NodeEvent) (s t : LineState) (c : Course) → IsLine L s → Happened L event Dte s t → LeadsTo c s
    → (h : Happening) × IsIn event Dte s h × LeadsTo (happened Dte h c) t
goes_here L event s t c n w h =
    let p : PadState = h.pad in
    let k : IsPadTurn event p s.book =
    pad_turn event p s.book (subst (λ (x : NodeState). IsFor event x) h.there w.is_for) (subst (λ (x : NodeState). IsQuiet x) h.there n.quiet.dte) in (
      Here k.event_is,
      k.is,
      record {
        led = goes_on h.led (Here k.event_is);
        pad = k.turn.then;
        there = ap (λ (x : LineState). x.dte) w.others ∙ ap (λ (x : NodeState). node.drained (turn_of event Dte x s.book).node) h.there ∙ k.turn.there;
        same = ap (λ (x : PadState). drained (after_event k.event_is x)) h.same ∙ k.turn.same;
        book = ap₂ (λ (x : PadState) (y : Book). all_written Dte (writes_after k.event_is x) y) h.same h.book ∙ k.turn.book
            ∙ sym (ap (λ (x : LineState). x.book) w.others ∙ ap (λ (x : NodeState). (turn_of event Dte x s.book).book) h.there);
      },
    )

goes_there : (L : LineService) (event : NodeEvent) (s t : LineState) (c : Course) → Happened L event Dce s t → LeadsTo c s
    → (h : Happening) × IsIn event Dce s h × LeadsTo (happened Dte h c) t
goes_there L event s t c w h =
    let u : IsUniform Dce (λ x. turn_of event Dce s.dce x) = uniform event Dce s.dce in (
      There u.writes,
      u.written s.book,
      record {
        led = goes_on h.led (There u.writes);
        pad = h.pad;
        there = ap (λ (x : LineState). x.dte) w.others ∙ h.there;
        same = h.same;
        book = ap (λ (x : Book). all_written Dce u.writes x) h.book ∙ sym (u.written s.book) ∙ sym (ap (λ (x : LineState). x.book) w.others);
      },
    )

pub event_course : (L : LineService) → EventCourse L
event_course L event Dte s t c n w h = goes_here L event s t c n w h
event_course L event Dce s t c n w h = goes_there L event s t c w h

pub made_course : MadeCourse
made_course dte_place dce_place c flights apart config = record {
  led = begins c dte_place dce_place c.line.channels apart config;
  pad = pad.with_end (sent_out (made c).line.end) (made c);
  there = refl;
  same = refl;
  book = refl;
}

pub loss_course : LossCourse
loss_course s flights c h = record { led = h.led; pad = h.pad; there = h.there; same = h.same; book = h.book }

pub time_course : TimeCourse
time_course s ticks c h = record {
  led = goes_on h.led (Here (HasTicks (ticks Dte)));
  pad = pad.elapsed (ticks Dte) h.pad;
  there = ap (λ (x : NodeState). node.node_elapsed (ticks Dte) x) h.there;
  same = ap (λ (x : PadState). drained (pad.elapsed (ticks Dte) x)) h.same;
  book = ap (λ (x : PadState). all_written Dte (writes_after (HasTicks (ticks Dte)) x) c.book) h.same ∙ h.book;
}

pub sent_course : SentCourse
sent_course s c h n r at own =
    course_is Dte c h.led n r (ap (λ (b : Book). slice_get b.records n) h.book ∙ at) (own ∙ sym (ap (λ (b : Book). node_of_end Dte b) h.book))
