-- What holds of a network of switches holds after an event at a node with users, and after a loss on a line.
use Rattle.std.proofs.Common.{◌≡◌, ℕ, List, length, set, Some, refl, sym, ap, ◌∙◌, subst, arith}
use Rattle.std.specs.Prelude.{slice_get}
use Rattle.std.proofs.lemmas.Option.{slice_get_within}
use Rattle.link_timers.specs.declared.role.Role.{Role}
use Rattle.link_timers.specs.declared.role.Role.TheVariants.{Dte, Dce}
use Rattle.link_timers.specs.Role.{other_of}
use Rattle.call_records.specs.Book.{Book, side_of}
use Rattle.call_records.specs.Writes.{Write, all_written}
use Rattle.call_records.specs.Register.{Register, book_at, with_book, all_written_at}
use Rattle.record_laws.proofs.Books.Basics.{get_there, set_here, set_elsewhere, length_set}
use Rattle.node_laws.specs.Lines.NodeLine.{Line}
use Rattle.node_laws.specs.LineRecords.Kept.{end_at}
use Rattle.node_laws.specs.Quiet.{IsQuiet}
use Rattle.user_nodes.specs.Node.{NodeState, drained}
use Rattle.frame_lines.specs.declared.line.Direction.{Direction}
use Rattle.frame_lines.specs.Lines.{Flights, LineService}
use Rattle.record_laws.specs.CallPaths.World.{all_traced, after_event}
use Rattle.record_laws.specs.CallPaths.World.Event.{Writes}
use Rattle.switched_call_laws.specs.SwitchPaths.Sight.{Standing}
use Rattle.switched_call_laws.specs.SwitchPaths.SwitchPathLaws.{StaysKept}
use Rattle.switched_call_laws.proofs.SwitchPaths.Begins.{network_holds}
use Rattle.net_events.specs.NodeEvents.{NodeEvent, turn_of}
use Rattle.net_events.specs.Network.{PlacedNode, NetNode, User, NetLine, Network, place_at, net_turn, HappenedAt, LostAt}
use Rattle.network_laws.specs.IsLine.{IsKept, IsLine}
use Rattle.network_laws.proofs.Lines.{lost_line}
use Rattle.network_laws.proofs.Leaving.{quiet-after}
use Rattle.network_laws.proofs.NodeKinds.{kind-after}
use Rattle.network_laws.proofs.Shapes.{writes_stay}
use Rattle.network_laws.proofs.Uniform.{IsUniform, uniform}
use Rattle.network_laws.specs.Switched.IsSwitched.{ends_state, line_between, LineStands, IsHeld, IsSwitched}
use Rattle.network_laws.proofs.Switched.NodesAtEnds.{ChangesAt, same_nodes, one_set, nodes_after, are_apart, UserEnd, user_end}
use Rattle.network_laws.proofs.Switched.UsersLine.{with_at, in_flight, here_stands, line_turned}
use Rattle.network_laws.proofs.Switched.UsersHeld.{net_after, LineChanges, held_after, switched_after}

-- ---- what is written at an end

-- the book of a line
pub book_of : (L : LineService) (s : Network) (held : IsHeld L s) (line : ℕ) (l : NetLine) → slice_get s.lines line ≡ Some l
    → (b : Book) × (slice_get held.books line ≡ Some b)
book_of L s held line l at = get_there held.books line (let within = slice_get_within s.lines line l at in let c = held.count in omega arith)

-- at an end with a user: the other end is as it was, and the line is kept
writes_at : (L : LineService) (s : Network) (held : IsHeld L s) (line : ℕ) (l : NetLine) (role : Role) (n : PlacedNode) (ws : List Write) (b : Book) (x : Standing)
    → slice_get s.lines line ≡ Some l → slice_get held.books line ≡ Some b → slice_get s.nodes (place_at role l) ≡ Some (User n)
    → StaysKept (other_of role) (held.lines line) x (all_written role ws b)
    → LineChanges held.plan held.own_lines held.switches held.calls held.lines held.books line x (all_written role ws b) (all_written_at line role ws s.register)
writes_at L s held line l role n ws b x at there at_n kept =
    let new = all_written role ws b in
    let within = slice_get_within held.books line b there in
    let own = get_there held.traces line (let c = held.network.seen.lines.count in omega arith) in
    record {
      books_then = set held.books line new;
      world = after_event (Writes line role ws) held.world;
      traces = set held.traces line (all_traced line role ws b own.0);
      network = network_holds.users held.plan held.own_lines held.switches held.calls held.lines held.books held.world held.traces line role ws b own.0 x
          (held.plan_is.user line l role (User n) at at_n) there own.1 (λ switch. kept) held.network;
      register_is = ap (λ (g : Register). all_written_at line role ws g) held.register;
      count = length_set held.books line new;
      here = set_here held.books line new b there;
      rest = λ k ne. set_elsewhere held.books line k new ne;
    }

-- where nothing is written
changes_at : (L : LineService) (s : Network) (held : IsHeld L s) (line : ℕ) (b : Book) (x : Standing) → slice_get held.books line ≡ Some b
    → ((role : Role) → StaysKept role (held.lines line) x b)
    → LineChanges held.plan held.own_lines held.switches held.calls held.lines held.books line x b s.register
changes_at L s held line b x there kept = record {
  books_then = held.books;
  world = held.world;
  traces = held.traces;
  network = network_holds.changes held.plan held.own_lines held.switches held.calls held.lines held.books held.world held.traces line b x there (λ role switch. kept role) held.network;
  register_is = held.register;
  count = refl;
  here = there;
  rest = λ k ne. refl;
}

channels_stay : (L : LineService) (s : Network) (held : IsHeld L s) (line : ℕ) (l : NetLine) (b : Book) (role : Role) (ws : List Write)
    → slice_get s.lines line ≡ Some l → slice_get held.books line ≡ Some b
    → (side : Role) → length (side_of side (all_written role ws b)).slots ≡ l.channels
channels_stay L s held line l b role ws at there side = ap (λ (p : ℕ × ℕ). p.1) (writes_stay role ws b side) ∙ held.channels line l b side at there

-- ---- an event at a node

abbrev made_at : NodeEvent → (line : ℕ) → Role → PlacedNode → Network → NodeState
made_at event line role p s = (net_turn event line role p s).node

abbrev nodes_then : NodeEvent → (line : ℕ) → Role → PlacedNode → NetLine → Network → List NetNode
nodes_then event line role p l s = set s.nodes (place_at role l) (User (record p { node = drained (made_at event line role p s) }))

quiet_user : (nodes : List NetNode) (line : ℕ) (l : NetLine) (h : LineStands nodes line l) (role : Role) (p : PlacedNode) → UserEnd nodes line l h role p → IsQuiet p.node
quiet_user nodes line l h role p u = subst IsQuiet u.node_is (h.quiet role)

changes_then : (L : LineService) (event : NodeEvent) (line : ℕ) (role : Role) (s t : Network) (n : IsSwitched L s) (d : HappenedAt L event line role s t)
    → ChangesAt s.nodes (nodes_then event line role d.node d.line_is s) line
changes_then L event line role s t n d =
    let u = user_end s.nodes line d.line_is (n.lines line d.line_is d.line_there) role d.node d.node_there in
    one_set s.nodes (place_at role d.line_is) line d.node (record d.node { node = drained (made_at event line role d.node s) }) d.node_there u.line_is refl

abbrev stands_then : (L : LineService) (event : NodeEvent) (line : ℕ) (role : Role) (s t : Network) (n : IsSwitched L s) (d : HappenedAt L event line role s t)
    → LineStands (nodes_then event line role d.node d.line_is s) line (record d.line_is { flights = d.flights })
stands_then L event line role s t n d =
    let h = n.lines line d.line_is d.line_there in
    let u = user_end s.nodes line d.line_is h role d.node d.node_there in
    here_stands s.nodes line d.line_is h role d.node (made_at event line role d.node s) d.flights d.node_there
    (quiet-after event role d.node.node (book_at line s.register) (quiet_user s.nodes line d.line_is h role d.node u) d.is_for)
    (kind-after event role d.node.node (book_at line s.register) d.is_for)

-- the line is as a line has to be, with what was written in its book
line_then : (L : LineService) (event : NodeEvent) (line : ℕ) (role : Role) (s t : Network) (n : IsSwitched L s) (d : HappenedAt L event line role s t) (held : IsHeld L s) (b : Book)
    → slice_get held.books line ≡ Some b → let h = n.lines line d.line_is d.line_there in
    IsLine L (ends_state (record d.line_is { flights = d.flights }) (with_at role (drained (made_at event line role d.node s)) h.at)
    (all_written role (uniform event role d.node.node).writes b))
line_then L event line role s t n d held b there =
    let l = d.line_is in
    let h = n.lines line l d.line_there in
    let u = user_end s.nodes line l h role d.node d.node_there in
    let f : IsUniform role (λ x. turn_of event role d.node.node x) = uniform event role d.node.node in
    let made : NodeState = made_at event line role d.node s in
    let was : NodeState = h.at role in
    let book : (turn_of event role was b).book ≡ all_written role f.writes b = ap (λ (x : NodeState). (turn_of event role x b).book) u.node_is ∙ f.written b in
    let node : (turn_of event role was b).node ≡ made = ap (λ (x : NodeState). (turn_of event role x b).node) u.node_is ∙ f.node b (book_at line s.register) in
    let P : Book → Type 0 = λ c. IsLine L (ends_state (record l { flights = d.flights }) (with_at role (drained made) h.at) c) in
    subst P book
    (line_turned L event l h.at b role d.between d.flights made (held.ends line l b d.line_there there h)
    (subst (Rattle.net_events.specs.NodeEvents.IsFor event) (sym u.node_is) d.is_for) d.left node d.put)

-- the other end is as it was
other_same : (role : Role) (l : NetLine) (flights : Flights) (x : NodeState) (at : Role → NodeState)
    → end_at (other_of role) (line_between (record l { flights = flights }) (with_at role x at)) ≡ end_at (other_of role) (line_between l at)
other_same Dte l flights x at = refl
other_same Dce l flights x at = refl

held_then : (L : LineService) (event : NodeEvent) (line : ℕ) (role : Role) (s t : Network) (n : IsSwitched L s) (d : HappenedAt L event line role s t) → L.faithful → IsHeld L s
    → IsHeld L (net_after (nodes_then event line role d.node d.line_is s) line d.line_is d.flights
    (all_written_at line role (uniform event role d.node.node).writes s.register) s)
held_then L event line role s t n d f held =
    let l = d.line_is in
    let h = n.lines line l d.line_there in
    let b = book_of L s held line l d.line_there in
    let ws : List Write = (uniform event role d.node.node).writes in
    let made : NodeState = made_at event line role d.node s in
    let w = changes_then L event line role s t n d in
    let l' : NetLine = record l { flights = d.flights } in
    let then : Role → NodeState = with_at role (drained made) h.at in
    let turned = line_then L event line role s t n d held b.0 b.1 in
    let k : IsKept (ends_state l' then (all_written role ws b.0)) = turned.kept f in
    held_after L s n held (nodes_then event line role d.node l s) line l d.flights (all_written_at line role ws s.register) (all_written role ws b.0) k.setting d.line_there w
    (are_apart (set s.lines line l') (nodes_then event line role d.node l s)
    (nodes_after s.lines s.nodes (nodes_then event line role d.node l s) line l l' d.line_there refl refl w n.nodes))
    (stands_then L event line role s t n d) turned
    (channels_stay L s held line l b.0 role ws d.line_there b.1)
    (writes_at L s held line l role d.node ws b.0 (record { setting = k.setting; line = line_between l' then }) d.line_there b.1 d.node_there
    (record {
      end = other_same role l d.flights (drained made) h.at ∙ ap (λ (x : Line). end_at (other_of role) x) (sym (held.lines_are line l d.line_there h));
      kept = k.kept;
    }))

pub event_switched : (L : LineService) (event : NodeEvent) (line : ℕ) (role : Role) (s t : Network) → IsSwitched L s → HappenedAt L event line role s t → IsSwitched L t
event_switched L event line role s t n d =
    let u : IsUniform role (λ x. turn_of event role d.node.node x) = uniform event role d.node.node in
    let after : Book → Network = λ b. net_after (nodes_then event line role d.node d.line_is s) line d.line_is d.flights (with_book line b s.register) s in
    subst (IsSwitched L) (sym (d.others ∙ ap after (u.written (book_at line s.register))))
    (switched_after L s n (nodes_then event line role d.node d.line_is s) line d.line_is d.flights (all_written_at line role u.writes s.register)
    d.line_there (changes_then L event line role s t n d) (stands_then L event line role s t n d)
    (λ f. held_then L event line role s t n d f (n.holds f)))

-- ---- a frame is lost

abbrev flown : (nodes : List NetNode) (line : ℕ) (l : NetLine) (flights : Flights) → LineStands nodes line l → LineStands nodes line (record l { flights = flights })
flown nodes line l flights h = record {
  at = h.at;
  there = λ role. in_flight nodes line l flights role (h.at role) (h.there role);
  quiet = h.quiet;
  apart = h.apart;
  host = h.host;
  users = h.users;
}

-- no end changes
ends_same : (role : Role) (l : NetLine) (flights : Flights) (at : Role → NodeState) → end_at role (line_between (record l { flights = flights }) at) ≡ end_at role (line_between l at)
ends_same Dte l flights at = refl
ends_same Dce l flights at = refl

held_lost : (L : LineService) (line : ℕ) (d : Direction) (s t : Network) (n : IsSwitched L s) (w : LostAt L line d s t) → L.faithful → IsHeld L s
    → IsHeld L (net_after s.nodes line w.line_is w.flights s.register s)
held_lost L line d s t n w f held =
    let l = w.line_is in
    let h = n.lines line l w.line_there in
    let b = book_of L s held line l w.line_there in
    let l' : NetLine = record l { flights = w.flights } in
    let lost : IsLine L (ends_state l' h.at b.0) =
    lost_line L d (ends_state l h.at b.0) w.flights (held.ends line l b.0 w.line_there b.1 h) w.rest in
    let k : IsKept (ends_state l' h.at b.0) = lost.kept f in
    held_after L s n held s.nodes line l w.flights s.register b.0 k.setting w.line_there (same_nodes s.nodes line) (are_apart s.lines s.nodes n.nodes)
    (flown s.nodes line l w.flights h) lost (λ side. held.channels line l b.0 side w.line_there b.1)
    (changes_at L s held line b.0 (record { setting = k.setting; line = line_between l' h.at }) b.1 (λ role. record {
      end = ends_same role l w.flights h.at ∙ ap (λ (x : Line). end_at role x) (sym (held.lines_are line l w.line_there h));
      kept = k.kept;
    }))

pub lost_switched : (L : LineService) (line : ℕ) (d : Direction) (s t : Network) → IsSwitched L s → LostAt L line d s t → IsSwitched L t
lost_switched L line d s t n w =
    subst (IsSwitched L) (sym w.others)
    (switched_after L s n s.nodes line w.line_is w.flights s.register w.line_there (same_nodes s.nodes line)
    (flown s.nodes line w.line_is w.flights (n.lines line w.line_is w.line_there)) (λ f. held_lost L line d s t n w f (n.holds f)))
