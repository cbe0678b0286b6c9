-- What an event at an end of a line does to the network.
use Rattle.std.proofs.Common.{◌≡◌, ℕ, ◌<◌, Bool, true, false, List, length, set, Option, Some, None, Result, Ok, Err, refl, sym, ap, ◌∙◌, subst, arith}
use Rattle.std.specs.Prelude.{slice_get, MatchResult, nat_lt, if◌then◌else◌}
use Rattle.std.proofs.lemmas.Bool.{ltb-true}
use Rattle.std.proofs.lemmas.List.{length-map, length-set}
use Rattle.link_timers.specs.declared.role.Role.{Role}
use Rattle.link_timers.specs.declared.role.Role.TheVariants.{Dte, Dce}
use Rattle.packet_end.specs.PacketEnd.{PacketEnd}
use Rattle.packet_host.specs.declared.request.HostRequest.{HostRequest}
use Rattle.packet_host.specs.declared.request.HostRequest.TheVariants.{Answer as Accept, Refuse, Say, Interrupt, Reset, Clear, Stop, Go}
use Rattle.call_records.specs.Register as spec
use Rattle.call_records.specs.Register.{LineEnds, book_at}
use Rattle.call_records.specs.Book.{Book}
use Rattle.call_records.specs.RegisterView.{ends_of, lines_of, ends_in, register_with, register_of, IsOpen}
use Rattle.call_records.specs.declared.register.Register.{Register}
use Rattle.node_laws.specs.Quiet.{IsQuiet}
use Rattle.user_nodes.specs.Node.{NodeState, Pad, Host, drained}
use Rattle.user_nodes.specs.Notes.{user_notes}
use Rattle.frame_lines.specs.declared.line.Direction.{Direction}
use Rattle.frame_lines.specs.declared.line.Direction.TheVariants.{FromDte, FromDce}
use Rattle.frame_lines.specs.Lines.{Flights, LineService, flying, without_first}
use Rattle.net_nodes.specs.Steps.{hearer}
use Rattle.net_events.specs.NodeEvents.{NodeEvent, IsFor, LeftBy, Hears}
use Rattle.net_events.specs.EventView.{line_event_of, user_event_of, request_event}
use Rattle.net_events.specs.Network.{PlacedNode, NetNode, User, NetLine, Network, place_at}
use Rattle.net_events.specs.declared.answer.Answer.{Answer}
use Rattle.net_events.specs.declared.node_event.LineEvent.{LineEvent}
use Rattle.net_events.specs.declared.node_event.LineEvent.TheVariants as line_event
use Rattle.net_events.specs.declared.node_event.HostEvent.TheVariants as host_event
use Rattle.net_events.specs.declared.node_event.UserEvent.{UserEvent}
use Rattle.net_events.specs.declared.node_event.UserEvent.TheVariants as user_event
use Rattle.node_events.specs.Served.{IsEmpty}
use Rattle.node_events.specs.Users.{IsWhole, IsRefusedWith, user_fault}
use Rattle.net_events.specs.declared.event.StepFault.{StepFault}
use Rattle.net_events.specs.declared.event.StepFault.TheVariants.{NoSuchTerminal}
use Rattle.net_nodes.specs.declared.nodes.LineSide.{LineSide}
use Rattle.net_nodes.specs.Turns.{CanServe, CanServeUser, HadTurn, AtEnd, ActsSo, LeavesLine, UserActsSo, its_turn}
use Rattle.node_events.proofs.Switching.{set_there}

-- ---- before the turn

line_count : (o : Option ℕ) (b : Book) (lines : List LineEnds) → length (register_with o b lines).lines ≡ length lines
line_count None b lines = refl
line_count (Some line) b lines = length-set lines line (ends_in b)

pub count_is : (g : Register) → length (register_of g).lines ≡ length g.lines.items
count_is g = line_count g.open g.book.book (lines_of g.lines.items) ∙ length-map g.lines.items ends_of

pub same_place : (role : Role) (l : NetLine) (flights : Flights) → place_at role (record l { flights = flights }) ≡ place_at role l
same_place Dte l flights = refl
same_place Dce l flights = refl

-- the register is opened at the line with room, and the frames in flight may have changed
pub can_serve : (end : LineSide) (nodes : List NetNode) (l : NetLine) (n : PlacedNode) → slice_get nodes (place_at end.role l) ≡ Some (User n) → IsQuiet n.node
    → (g : Register) → end.line < length (register_of g).lines → (v : NetLine) (flights : Flights) (h : Register) (a : Answer)
    → v ≡ record l { flights = flights } → register_of h ≡ register_of g
    → (end.line < length g.lines.items → IsOpen end.line h) → (end.line < length g.lines.items → h.book.book ≡ book_at end.line (register_of g))
    → h.book.room ≡ 8 → h.book.pairs ≡ 8 → IsEmpty a → CanServe end nodes v h a
can_serve end nodes l n node_there quiet g registered v flights h a is_line same opens has_book has_room has_pairs empty =
    let here : end.line < length g.lines.items = (let count = count_is g in omega (arith, count, registered)) in
    let place : place_at end.role v ≡ place_at end.role l = ap (place_at end.role) is_line ∙ same_place end.role l flights in
    record {
      node = n;
      there = ap (λ i. slice_get nodes i) place ∙ node_there;
      quiet = quiet;
      opened = opens here;
      book = has_book here ∙ ap (book_at end.line) (sym same);
      writes = (let many = has_room in omega (arith, many));
      pairs = (let many = has_pairs in omega (arith, many));
      empty = empty;
    }

-- ---- after it

-- what the event did: this was in flight before the node's turn
pub at_end : (L : LineService) (end : LineSide) (event : NodeEvent) (s : Network) (l : NetLine) (n : PlacedNode) (between : Flights)
    (nodes : List NetNode) (line : NetLine) (g : spec.Register) (a : Answer)
    → slice_get s.lines end.line ≡ Some l → slice_get s.nodes (place_at end.role l) ≡ Some (User n) → IsFor event n.node
    → (L.faithful → LeftBy event end.role l.flights between)
    → HadTurn L end event n s.nodes (record l { flights = between }) s.register a nodes line g
    → AtEnd L end event s a (record { nodes = nodes; lines = set s.lines end.line line; register = g })
at_end L end event s l n between nodes line g a line_there node_there is_for left w =
    let turn = its_turn end event n s.register in
    let place = same_place end.role l between in
    record {
      happened = record {
        line_is = l;
        line_there = line_there;
        node = n;
        node_there = node_there;
        is_for = is_for;
        between = between;
        left = left;
        flights = line.flights;
        put = w.sends.put;
        others = λ i. record {
          nodes = (w.nodes_are ∙ ap (λ k. set s.nodes k (User (record n { node = drained turn.node }))) place) i;
          lines = set s.lines end.line (w.line_is i);
          register = w.register_is i;
        };
      };
      puts = w.sends.puts_are;
      told = w.told ∙ ap (λ k. user_notes k turn.notes) place;
      text = w.text;
      outcome = w.outcome;
    }

-- what comes at a line is for each node, and no node refuses it
pub line_for : (event : LineEvent) (n : NodeState) → IsFor (line_event_of event) n
line_for (line_event.Hears octets) n = tt
line_for (line_event.Expires timer) n = tt
line_for line_event.Relinks n = tt
line_for line_event.Restarts n = tt

leaves : (event : LineEvent) (role : Role) (flights : Flights) → LeavesLine event → LeftBy (line_event_of event) role flights flights
leaves (line_event.Hears octets) role flights h = absurd h
leaves line_event.Restarts role flights h = absurd h
leaves (line_event.Expires timer) role flights h = refl
leaves line_event.Relinks role flights h = refl

-- what came at the line, where it left the frames in flight
pub acts : (L : LineService) (end : LineSide) (event : LineEvent) (s : Network) (l : NetLine) (n : PlacedNode) (r : Result Answer StepFault)
    (nodes : List NetNode) (line : NetLine) (g : spec.Register)
    → slice_get s.lines end.line ≡ Some l → slice_get s.nodes (place_at end.role l) ≡ Some (User n) → LeavesLine event
    → MatchResult r (λ a. HadTurn L end (line_event_of event) n s.nodes l s.register a nodes line g) (λ fault. ⊥)
    → ActsSo L end (line_event_of event) s r (record { nodes = nodes; lines = set s.lines end.line line; register = g })
acts L end event s l n (Ok a) nodes line g line_there node_there left w =
    at_end L end (line_event_of event) s l n l.flights nodes line g a line_there node_there (line_for event n.node) (λ f. leaves event end.role l.flights left) w
acts L end event s l n (Err fault) nodes line g line_there node_there left w = absurd w

-- and where it changed them
pub acts_anew : (L : LineService) (end : LineSide) (event : LineEvent) (s : Network) (l : NetLine) (n : PlacedNode) (between : Flights) (r : Result Answer StepFault)
    (nodes : List NetNode) (line : NetLine) (g : spec.Register)
    → slice_get s.lines end.line ≡ Some l → slice_get s.nodes (place_at end.role l) ≡ Some (User n) → (L.faithful → LeftBy (line_event_of event) end.role l.flights between)
    → MatchResult r (λ a. HadTurn L end (line_event_of event) n s.nodes (record l { flights = between }) s.register a nodes line g) (λ fault. ⊥)
    → (a : Answer) × (r ≡ Ok a) × AtEnd L end (line_event_of event) s a (record { nodes = nodes; lines = set s.lines end.line line; register = g })
acts_anew L end event s l n between (Ok a) nodes line g line_there node_there left w =
    (a, refl, at_end L end (line_event_of event) s l n between nodes line g a line_there node_there (line_for event n.node) left w)
acts_anew L end event s l n between (Err fault) nodes line g line_there node_there left w = absurd w

-- a turn is told of the same line and the same register
pub turned_from : (L : LineService) (end : LineSide) (event : NodeEvent) (n : PlacedNode) (r : Result Answer StepFault) (nodes : List NetNode) (v l : NetLine) (h g : spec.Register)
    (nodes' : List NetNode) (line : NetLine) (g' : spec.Register) → v ≡ l → h ≡ g
    → MatchResult r (λ a. HadTurn L end event n nodes v h a nodes' line g') (λ fault. ⊥)
    → MatchResult r (λ a. HadTurn L end event n nodes l g a nodes' line g') (λ fault. ⊥)
turned_from L end event n r nodes v l h g nodes' line g' is_line is_register w =
    let P : NetLine → spec.Register → Type 0 = λ x y. MatchResult r (λ a. HadTurn L end event n nodes x y a nodes' line g') (λ fault. ⊥) in
    let Q : NetLine → Type 0 = λ x. P x g in
    let R : spec.Register → Type 0 = λ y. P v y in
    subst Q is_line (subst R is_register w)

-- ---- what users do

asked_for : (channel : ℕ) (r : HostRequest) (e : PacketEnd) → IsFor (request_event channel r) (Host e)
asked_for channel Accept e = refl
asked_for channel Refuse e = refl
asked_for channel (Say octets qualified delivery) e = refl
asked_for channel (Interrupt octets) e = refl
asked_for channel Reset e = refl
asked_for channel Clear e = refl
asked_for channel Stop e = refl
asked_for channel Go e = refl

terminal_less : (terminal count : ℕ) (b : Bool) → nat_lt terminal count ≡ b → (if b then None else Some NoSuchTerminal) ≡ None → terminal < count
terminal_less terminal count true is none = ltb-true terminal count is
terminal_less terminal count false is none = absurd (cc)

-- what is not refused is for the node
pub user_for : (channels : ℕ) (event : UserEvent) (n : NodeState) → IsWhole event → user_fault channels event n ≡ None → IsFor (user_event_of event) n
user_for channels (user_event.AtTerminal terminal event) (Pad p) whole none = terminal_less terminal (length p.ports) (nat_lt terminal (length p.ports)) refl none
user_for channels (user_event.AtTerminal terminal event) (Host e) whole none = absurd (cc)
user_for channels (user_event.AtHost event) (Pad p) whole none = absurd (cc)
user_for channels (user_event.AtHost (host_event.Calls address user_data)) (Host e) whole none = (refl, whole.0, whole.1)
user_for channels (user_event.AtHost (host_event.Asks channel request)) (Host e) whole none = asked_for channel request.now e
user_for channels (user_event.AtHost (host_event.Takes channel)) (Host e) whole none = refl

user_leaves : (event : UserEvent) (role : Role) (flights : Flights) → LeftBy (user_event_of event) role flights flights
user_leaves (user_event.AtTerminal terminal event) role flights = refl
user_leaves (user_event.AtHost (host_event.Calls address user_data)) role flights = refl
user_leaves (user_event.AtHost (host_event.Asks channel request)) role flights = asked_leaves channel request.now role flights
  where
    asked_leaves : (channel : ℕ) (r : HostRequest) (role : Role) (flights : Flights) → LeftBy (request_event channel r) role flights flights
    asked_leaves channel Accept role flights = refl
    asked_leaves channel Refuse role flights = refl
    asked_leaves channel (Say octets qualified delivery) role flights = refl
    asked_leaves channel (Interrupt octets) role flights = refl
    asked_leaves channel Reset role flights = refl
    asked_leaves channel Clear role flights = refl
    asked_leaves channel Stop role flights = refl
    asked_leaves channel Go role flights = refl
user_leaves (user_event.AtHost (host_event.Takes channel)) role flights = refl

pub user_acts : (L : LineService) (end : LineSide) (event : UserEvent) (s : Network) (l : NetLine) (n : PlacedNode) (r : Result Answer StepFault)
    (nodes : List NetNode) (line : NetLine) (g : spec.Register)
    → slice_get s.lines end.line ≡ Some l → slice_get s.nodes (place_at end.role l) ≡ Some (User n) → IsWhole event
    → MatchResult r (λ a. (user_fault l.channels event n.node ≡ None) × HadTurn L end (user_event_of event) n s.nodes l s.register a nodes line g)
    (λ fault. IsRefusedWith (user_fault l.channels event n.node) fault × (nodes ≡ s.nodes) × (line ≡ l) × (g ≡ s.register))
    → UserActsSo L end event l n s r (record { nodes = nodes; lines = set s.lines end.line line; register = g })
user_acts L end event s l n (Ok a) nodes line g line_there node_there whole w = (
  w.0,
  at_end L end (user_event_of event) s l n l.flights nodes line g a line_there node_there (user_for l.channels event n.node whole w.0)
      (λ f. user_leaves event end.role l.flights) w.1,
)
user_acts L end event s l n (Err fault) nodes line g line_there node_there whole w = (
  w.0,
  (λ i. record { nodes = w.1 i; lines = set s.lines end.line (w.2 i); register = w.3 i })
      ∙ (λ i. record s { lines = set_there s.lines end.line l line_there i }),
)

pub can_serve_user : (end : LineSide) (nodes : List NetNode) (l : NetLine) (n : PlacedNode) → slice_get nodes (place_at end.role l) ≡ Some (User n) → IsQuiet n.node
    → (g : Register) → end.line < length (register_of g).lines → (v : NetLine) → v ≡ l → CanServeUser end nodes v g
can_serve_user end nodes l n node_there quiet g registered v is_line = record {
  node = n;
  there = ap (λ (x : NetLine). slice_get nodes (place_at end.role x)) is_line ∙ node_there;
  quiet = quiet;
  line = (let count = count_is g in omega (arith, count, registered));
}

-- the first frame in flight was taken from the line
pub left_hears : (d : Direction) (role : Role) → role ≡ hearer d → (before between : Flights) (frame octets : List ℕ) → octets ≡ frame
    → Some frame ≡ slice_get (flying d before) 0 → between ≡ without_first d before → LeftBy (Hears octets) role before between
left_hears FromDte role is before between frame octets same taken rest =
    let P : Role → Type 0 = λ r. LeftBy (Hears octets) r before between in subst P (sym is) (sym taken ∙ ap Some (sym same), rest)
left_hears FromDce role is before between frame octets same taken rest =
    let P : Role → Type 0 = λ r. LeftBy (Hears octets) r before between in subst P (sym is) (sym taken ∙ ap Some (sym same), rest)
