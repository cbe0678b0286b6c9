-- What an event does at the node with users at an end of a line.
use Rattle.std.specs.Prelude.{◌≡◌, ◌≤◌, ◌<◌, List, [], length, set, slice_get, Option, Some, None}
use Rattle.std.specs.Prelude.{Result, Ok, Err}
use Rattle.call_records.specs.Book.{Book}
use Rattle.call_records.specs.Register as spec
use Rattle.call_records.specs.Register.{book_at, with_book}
use Rattle.call_records.specs.RegisterView.{IsOpen}
use Rattle.call_records.specs.declared.register.Register.{Register}
use Rattle.node_laws.specs.Quiet.{IsQuiet}
use Rattle.user_nodes.specs.Node.{NodeState, drained, frames_of}
use Rattle.user_nodes.specs.Turn.{Turn}
use Rattle.user_nodes.specs.Notes.{user_notes}
use Rattle.user_nodes.specs.declared.attachment.Attachment.{Attachment}
use Rattle.frame_lines.specs.Lines.{Flights, LineService}
use Rattle.net_events.specs.OneLine.{direction_of}
use Rattle.net_events.specs.NodeEvents.{NodeEvent, turn_of}
use Rattle.net_events.specs.EventView.{user_event_of}
use Rattle.net_events.specs.Network.{PlacedNode, NetNode, User, NetLine, Network, place_at, net_turn, HappenedAt}
use Rattle.net_events.specs.declared.answer.Answer.{Answer}
use Rattle.net_events.specs.declared.node_event.LineEvent.{LineEvent}
use Rattle.net_events.specs.declared.node_event.LineEvent.TheVariants.{Hears, Restarts}
use Rattle.net_events.specs.declared.node_event.UserEvent.{UserEvent}
use Rattle.node_events.specs.Outcomes.{IsOutcome, text_of}
use Rattle.node_events.specs.Sends.{ArePutsOf, Sends}
use Rattle.node_events.specs.Served.{Served, IsEmpty}
use Rattle.node_events.specs.Users.{IsServed, IsRefusedWith, user_fault}
use Rattle.net_events.specs.declared.event.StepFault.{StepFault}
use Rattle.net_events.specs.declared.event.StepFault.TheVariants.{OutOfMemory}
use Rattle.net_nodes.specs.declared.nodes.LineSide.{LineSide}

-- ---- the turn of the node

-- what comes at its line was served
pub record LineServed (L : LineService) (at : Attachment) (event : NodeEvent) (n : PlacedNode) (before : Flights)
    (old : Book) (a : Answer) (node : NetNode) (after : Flights) (book : Book) : Type 0 where
  pub state : NodeState
  pub node_is : node ≡ User (record n { node = state })
  pub served : Served L at (turn_of event at.role n.node old) before a.frames.items a.notes.items state after book
  pub outcome : IsOutcome event n.node a.outcome
  pub text : a.text.items ≡ []

-- what a user does there was served, or refused
pub record UserServed (L : LineService) (at : Attachment) (event : NodeEvent) (fault : Option StepFault)
    (n : PlacedNode) (before : Flights) (old : spec.Register) (r : Result Answer StepFault) (node : NetNode)
    (after : Flights) (register : spec.Register) : Type 0 where
  pub state : NodeState
  pub node_is : node ≡ User (record n { node = state })
  pub served : IsServed L at event fault (record { node = n.node; flights = before; register = old }) r
      (record { node = state; flights = after; register = register })

-- the node is there, and it has no frame or note that waits; the register is open at the line, with room for all that
-- may be written, and so are the lists of the answer
pub record CanServe (end : LineSide) (nodes : List NetNode) (l : NetLine) (g : Register) (answer : Answer)
    : Type 0 where
  pub node : PlacedNode
  pub there : slice_get nodes (place_at end.role l) ≡ Some (User node)
  pub quiet : IsQuiet node.node
  pub opened : IsOpen end.line g
  pub book : g.book.book ≡ book_at end.line (Rattle.call_records.specs.RegisterView.register_of g)
  pub writes : 8 ≤ g.book.room
  pub pairs : 1 ≤ g.book.pairs
  pub empty : IsEmpty answer

-- the node is there, and it has no frame or note that waits; the register has the line
pub record CanServeUser (end : LineSide) (nodes : List NetNode) (l : NetLine) (g : Register) : Type 0 where
  pub node : PlacedNode
  pub there : slice_get nodes (place_at end.role l) ≡ Some (User node)
  pub quiet : IsQuiet node.node
  pub line : end.line < length g.lines.items

abbrev pub its_turn : LineSide → NodeEvent → PlacedNode → spec.Register → Turn
its_turn end event n g = turn_of event end.role n.node (book_at end.line g)

-- the node had its turn: its frames were put and listed, its notes told, and all was written; this is the answer
pub record HadTurn (L : LineService) (end : LineSide) (event : NodeEvent) (n : PlacedNode) (nodes : List NetNode)
    (l : NetLine) (g : spec.Register) (a : Answer) (nodes' : List NetNode) (l' : NetLine)
    (g' : spec.Register) : Type 0 where
  pub outcome : IsOutcome event n.node a.outcome
  pub sends : Sends L (direction_of end.role) end.line (frames_of (its_turn end event n g).node) l.flights
      a.frames.items l'.flights
  pub told : a.notes.items ≡ user_notes (place_at end.role l) (its_turn end event n g).notes
  pub text : a.text.items ≡ text_of event n.node
  pub nodes_are : nodes'
      ≡ set nodes (place_at end.role l) (User (record n { node = drained (its_turn end event n g).node }))
  pub line_is : l' ≡ record l { flights = l'.flights }
  pub register_is : g' ≡ with_book end.line (its_turn end event n g).book g

-- ---- in the network

-- the event happened at an end of a line, and this is the answer: the frames that were put, what users are told,
-- what a terminal shows, and what the event gives
pub record AtEnd (L : LineService) (end : LineSide) (event : NodeEvent) (s : Network) (a : Answer)
    (t : Network) : Type 0 where
  pub happened : HappenedAt L event end.line end.role s t
  pub puts : ArePutsOf (direction_of end.role) end.line
      (frames_of (net_turn event end.line end.role happened.node s).node) a.frames.items
  pub told : a.notes.items ≡ user_notes (place_at end.role happened.line_is)
      (net_turn event end.line end.role happened.node s).notes
  pub text : a.text.items ≡ text_of event happened.node.node
  pub outcome : IsOutcome event happened.node.node a.outcome

-- an event can be at this end
pub record CanAct (end : LineSide) (s : Network) : Type 0 where
  pub line : NetLine
  pub line_there : slice_get s.lines end.line ≡ Some line
  pub node : PlacedNode
  pub node_there : slice_get s.nodes (place_at end.role line) ≡ Some (User node)
  pub quiet : IsQuiet node.node
  pub registered : end.line < length s.register.lines

abbrev pub ActsSo : LineService → LineSide → NodeEvent → Network → Result Answer StepFault → Network → Type 0
ActsSo L end event s (Ok answer) t = AtEnd L end event s answer t
ActsSo L end event s (Err fault) t = (fault ≡ OutOfMemory) × (t ≡ s)

-- the event leaves the frames in flight to the node's turn: no frame arrives, and the node does not restart
abbrev pub LeavesLine : LineEvent → Type 0
LeavesLine (Hears octets) = ⊥
LeavesLine Restarts = ⊥
LeavesLine _ = Unit {0}

-- what comes at the line is answered, or memory is wanting, and nothing changes
abbrev pub Acts : LineService → LineSide → NodeEvent → Network → Result Answer StepFault → Network → Type 0
Acts L end event s r t = (l : NetLine) (n : PlacedNode) → slice_get s.lines end.line ≡ Some l
    → slice_get s.nodes (place_at end.role l) ≡ Some (User n) → ActsSo L end event s r t

abbrev pub UserActsSo : LineService → LineSide → UserEvent → NetLine → PlacedNode → Network → Result Answer StepFault
    → Network → Type 0
UserActsSo L end event l n s (Ok answer) t =
    (user_fault l.channels event n.node ≡ None) × AtEnd L end (user_event_of event) s answer t
UserActsSo L end event l n s (Err fault) t = IsRefusedWith (user_fault l.channels event n.node) fault × (t ≡ s)

-- what a user does is answered, or refused and changes nothing
abbrev pub UserActs : LineService → LineSide → UserEvent → Network → Result Answer StepFault → Network → Type 0
UserActs L end event s r t = (l : NetLine) (n : PlacedNode) → slice_get s.lines end.line ≡ Some l
    → slice_get s.nodes (place_at end.role l) ≡ Some (User n) → UserActsSo L end event l n s r t
