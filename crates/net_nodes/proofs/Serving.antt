-- What serving an event does to the nodes, to the line and to the register.
use Rattle.std.proofs.Common.{◌≡◌, List, [], set, Option, Some, None, Result, Ok, Err, refl, sym, ap, ◌∙◌, subst}
use Rattle.std.specs.Prelude.{slice_get, MatchResult}
use Rattle.call_records.specs.Book.{Book}
use Rattle.call_records.specs.Register as spec
use Rattle.call_records.specs.Register.{book_at, with_book}
use Rattle.call_records.specs.RegisterView.{register_with, register_of, lines_of, IsOpen}
use Rattle.call_records.specs.declared.register.Register.{Register}
use Rattle.user_nodes.specs.Node.{NodeState}
use Rattle.user_nodes.specs.declared.attachment.Attachment.{Attachment}
use Rattle.frame_lines.specs.Lines.{Flights, LineService}
use Rattle.net_events.specs.NodeEvents.{NodeEvent, turn_of}
use Rattle.net_events.specs.EventView.{line_event_of}
use Rattle.net_events.specs.Network.{PlacedNode, NetNode, User, NetLine, place_at}
use Rattle.net_events.specs.declared.answer.Answer.{Answer}
use Rattle.net_events.specs.declared.event.StepFault.{StepFault}
use Rattle.net_events.specs.declared.node_event.LineEvent.{LineEvent}
use Rattle.net_events.specs.declared.node_event.LineEvent.TheVariants.{Hears, Expires, Relinks, Restarts}
use Rattle.node_laws.specs.Quiet.{IsQuiet}
use Rattle.node_events.specs.Outcomes.{IsOutcome, text_of}
use Rattle.node_events.specs.Served.{Served}
use Rattle.node_events.specs.Users.{IsRefusedWith, IsServed, AtLine}
use Rattle.node_events.proofs.Opening.{written_at}
use Rattle.net_events.proofs.Users.{user_is}
use Rattle.node_events.proofs.Switching.{set_there}
use Rattle.net_nodes.specs.declared.nodes.LineSide.{LineSide}
use Rattle.net_nodes.specs.Turns.{its_turn, LineServed, UserServed, HadTurn}

-- what comes at a line shows no text
pub no_text : (event : LineEvent) (n : NodeState) → text_of (line_event_of event) n ≡ []
no_text (Hears octets) n = refl
no_text (Expires timer) n = refl
no_text Relinks n = refl
no_text Restarts n = refl

-- where the node at an end of a line is attached
abbrev pub attached : LineSide → NetLine → Attachment
attached end l = record { line = end.line; role = end.role; node = place_at end.role l }

-- the turn of a node with users at an end of a line, after which the node is this, the frames in flight these, and the
-- book this one
pub turned : (L : LineService) (end : LineSide) (event : NodeEvent) (n : PlacedNode) (nodes : List NetNode) (l : NetLine) (g : spec.Register)
    (a : Answer) (m : NetNode) (node : NodeState) (flights : Flights) (b : Book) (g' : spec.Register)
    → m ≡ User (record n { node = node })
    → Served L (attached end l) (its_turn end event n g) l.flights a.frames.items a.notes.items node flights b
    → IsOutcome event n.node a.outcome → a.text.items ≡ text_of event n.node → g' ≡ with_book end.line b g
    → HadTurn L end event n nodes l g a (set nodes (place_at end.role l) m) (record l { flights = flights }) g'
turned L end event n nodes l g a m node flights b g' is w outcome text register = record {
  outcome = outcome;
  sends = w.sends;
  told = w.told_of;
  text = text;
  nodes_are = ap (set nodes (place_at end.role l)) (is ∙ ap (λ (x : NodeState). User (record n { node = x })) w.node_is);
  line_is = refl;
  register_is = register ∙ ap (λ x. with_book end.line x g) w.book_is;
}

-- what comes at the line is the turn
pub line_turned : (L : LineService) (end : LineSide) (event : LineEvent) (n : PlacedNode) (nodes : List NetNode) (l : NetLine) (g : Register)
    (r : Result Answer StepFault) (m : NetNode) (flights : Flights) (b : Book) → IsOpen end.line g → g.book.book ≡ book_at end.line (register_of g)
    → MatchResult r (λ a. LineServed L (attached end l) (line_event_of event) n l.flights g.book.book a m flights b) (λ fault. ⊥)
    → MatchResult r (λ a. HadTurn L end (line_event_of event) n nodes l (register_of g) a (set nodes (place_at end.role l) m)
    (record l { flights = flights }) (register_with g.open b (lines_of g.lines.items))) (λ fault. ⊥)
line_turned L end event n nodes l g (Ok a) m flights b opened book w =
    let P : Book → Type 0 = λ x. Served L (attached end l) (turn_of (line_event_of event) end.role n.node x) l.flights a.frames.items a.notes.items w.state flights b in
    turned L end (line_event_of event) n nodes l (register_of g) a m w.state flights b _ w.node_is (subst P book w.served) w.outcome
    (w.text ∙ sym (no_text event n.node)) (written_at g end.line (register_of g) b opened refl)
line_turned L end event n nodes l g (Err fault) m flights b opened book w = absurd w

-- and so is what a user does, or it is refused
pub user_turned : (L : LineService) (end : LineSide) (event : NodeEvent) (fault : Option StepFault) (n : PlacedNode) (nodes : List NetNode) (l : NetLine) (g : spec.Register)
    (r : Result Answer StepFault) (m : NetNode) (v : NetLine) (g' : spec.Register)
    → slice_get nodes (place_at end.role l) ≡ Some (User n) → v ≡ record l { flights = v.flights }
    → UserServed L (attached end l) event fault n l.flights g r m v.flights g'
    → MatchResult r (λ a. (fault ≡ None) × HadTurn L end event n nodes l g a (set nodes (place_at end.role l) m) v g')
    (λ f. IsRefusedWith fault f × (set nodes (place_at end.role l) m ≡ nodes) × (v ≡ l) × (g' ≡ g))
user_turned L end event fault n nodes l g (Ok a) m v g' there line w =
    let t = w.served.1 in
    let P : NetLine → Type 0 = λ x. HadTurn L end event n nodes l g a (set nodes (place_at end.role l) m) x g' in
    (w.served.0, subst P (sym line) (turned L end event n nodes l g a m w.state v.flights t.book g' w.node_is t.served t.outcome t.text t.register))
user_turned L end event fault n nodes l g (Err f) m v g' there line w =
    let same = w.served.1 in (
      w.served.0,
      ap (set nodes (place_at end.role l)) (w.node_is ∙ ap (λ (x : AtLine). User (record n { node = x.node })) same) ∙ set_there nodes (place_at end.role l) (User n) there,
      line ∙ ap (λ (x : AtLine). record l { flights = x.flights }) same,
      ap (λ (x : AtLine). x.register) same,
    )

-- ---- the node of a place, named otherwise

pub quiet_of : (a b : PlacedNode) (m : NetNode) → m ≡ User a → m ≡ User b → IsQuiet a.node → IsQuiet b.node
quiet_of a b m is_a is_b quiet = subst (λ (x : PlacedNode). IsQuiet x.node) (user_is a b (sym is_a ∙ is_b)) quiet

pub line_served : (L : LineService) (at : Attachment) (event : NodeEvent) (p n : PlacedNode) (before : Flights) (old : Book) (a : Answer) (state : NodeState) (after : Flights) (book : Book)
    → p ≡ n → IsOutcome event p.node a.outcome → a.text.items ≡ []
    → Served L at (turn_of event at.role p.node old) before a.frames.items a.notes.items state after book
    → LineServed L at event n before old a (User (record p { node = state })) after book
line_served L at event p n before old a state after book same outcome text served =
    let P : PlacedNode → Type 0 = λ x. LineServed L at event x before old a (User (record p { node = state })) after book in
    subst P same (record { state = state; node_is = refl; served = served; outcome = outcome; text = text })

pub user_served : (L : LineService) (at : Attachment) (event : NodeEvent) (fault : NodeState → Option StepFault) (p n : PlacedNode) (before : Flights) (old : spec.Register)
    (r : Result Answer StepFault) (state : NodeState) (after : Flights) (register : spec.Register) → p ≡ n
    → IsServed L at event (fault p.node) (record { node = p.node; flights = before; register = old }) r (record { node = state; flights = after; register = register })
    → UserServed L at event (fault n.node) n before old r (User (record p { node = state })) after register
user_served L at event fault p n before old r state after register same w =
    let P : PlacedNode → Type 0 = λ x. UserServed L at event (fault x.node) x before old r (User (record p { node = state })) after register in
    subst P same (record { state = state; node_is = refl; served = w })

-- ---- at the place where the end of the line is attached

pub line_served_at : (L : LineService) (end : LineSide) (event : LineEvent) (n : PlacedNode) (nodes : List NetNode) (v l : NetLine) (g : Register) (at : Attachment)
    (r : Result Answer StepFault) (m : NetNode) (flights : Flights) (b : Book) → at ≡ attached end l → v ≡ l → IsOpen end.line g → g.book.book ≡ book_at end.line (register_of g)
    → MatchResult r (λ a. LineServed L at (line_event_of event) n v.flights g.book.book a m flights b) (λ fault. ⊥)
    → MatchResult r (λ a. HadTurn L end (line_event_of event) n nodes l (register_of g) a (set nodes at.node m)
    (record v { flights = flights }) (register_with g.open b (lines_of g.lines.items))) (λ fault. ⊥)
line_served_at L end event n nodes v l g at r m flights b is_at is_line opened book =
    let R : Attachment → NetLine → Type 0 = λ x y. MatchResult r (λ a. LineServed L x (line_event_of event) n y.flights g.book.book a m flights b) (λ fault. ⊥)
    → MatchResult r (λ a. HadTurn L end (line_event_of event) n nodes l (register_of g) a (set nodes x.node m)
    (record y { flights = flights }) (register_with g.open b (lines_of g.lines.items))) (λ fault. ⊥) in
    let Q : Attachment → Type 0 = λ x. R x l in
    let S : NetLine → Type 0 = λ y. R at y in
    subst S (sym is_line) (subst Q (sym is_at) (line_turned L end event n nodes l g r m flights b opened book))

pub user_served_at : (L : LineService) (end : LineSide) (event : NodeEvent) (fault : Option StepFault) (n : PlacedNode) (nodes : List NetNode) (l : NetLine) (g : spec.Register) (at : Attachment)
    (r : Result Answer StepFault) (m : NetNode) (v : NetLine) (g' : spec.Register) → at ≡ attached end l
    → slice_get nodes (place_at end.role l) ≡ Some (User n) → v ≡ record l { flights = v.flights }
    → UserServed L at event fault n l.flights g r m v.flights g'
    → MatchResult r (λ a. (fault ≡ None) × HadTurn L end event n nodes l g a (set nodes at.node m) v g')
    (λ f. IsRefusedWith fault f × (set nodes at.node m ≡ nodes) × (v ≡ l) × (g' ≡ g))
user_served_at L end event fault n nodes l g at r m v g' is_at there line =
    let R : Attachment → Type 0 = λ x. UserServed L x event fault n l.flights g r m v.flights g'
    → MatchResult r (λ a. (fault ≡ None) × HadTurn L end event n nodes l g a (set nodes x.node m) v g')
    (λ f. IsRefusedWith fault f × (set nodes x.node m ≡ nodes) × (v ≡ l) × (g' ≡ g)) in
    subst R (sym is_at) (user_turned L end event fault n nodes l g r m v g' there line)
