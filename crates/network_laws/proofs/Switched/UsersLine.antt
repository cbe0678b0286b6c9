-- The line at which a node with users has a turn, between any two ends.
use Rattle.std.proofs.Common.{◌≡◌, ℕ, false, List, set, Some, refl, sym, ap, ◌∙◌, subst}
use Rattle.std.specs.Prelude.{slice_get}
use Rattle.link_timers.specs.declared.role.Role.{Role}
use Rattle.link_timers.specs.declared.role.Role.TheVariants.{Dte, Dce}
use Rattle.call_records.specs.Book.{Book}
use Rattle.record_laws.proofs.Books.Basics.{set_here, set_elsewhere}
use Rattle.node_laws.specs.Quiet.{IsQuiet}
use Rattle.user_nodes.specs.Node.{NodeState, drained, frames_of, is_pad}
use Rattle.user_nodes.specs.Turn.{Turn}
use Rattle.frame_lines.specs.declared.line.Direction.TheVariants.{FromDte, FromDce}
use Rattle.frame_lines.specs.Lines.{Flights, LineService, ArePut}
use Rattle.net_events.specs.OneLine.{LineState, direction_of}
use Rattle.net_events.specs.OneLine as one
use Rattle.net_events.specs.NodeEvents.{NodeEvent, IsFor, turn_of, LeftBy}
use Rattle.net_events.specs.Network.{PlacedNode, NetNode, User, NetLine, place_at}
use Rattle.network_laws.specs.IsLine.{IsLine}
use Rattle.network_laws.proofs.Lines.{happened_line}
use Rattle.network_laws.proofs.Fitting.{pad-drained}
use Rattle.network_laws.specs.Switched.IsSwitched.{ends_state, EndStands, IsUserThere, LineStands}
use Rattle.network_laws.proofs.Switched.NodesAtEnds.{user_end}

-- what is at the two ends when this is at the end of a role
abbrev pub with_at : Role → NodeState → (Role → NodeState) → Role → NodeState
with_at Dte x at Dte = x
with_at Dte x at Dce = at Dce
with_at Dce x at Dte = at Dte
with_at Dce x at Dce = x

-- ---- the line stands after its turn

-- whatever is in flight
pub in_flight : (nodes : List NetNode) (line : ℕ) (l : NetLine) (flights : Flights) (role : Role) (x : NodeState) → EndStands nodes line (place_at role l) x → EndStands nodes line (place_at role (record l { flights = flights })) x
in_flight nodes line l flights Dte x h = h
in_flight nodes line l flights Dce x h = h

module _ (nodes : List NetNode) (line : ℕ) (l : NetLine) (h : LineStands nodes line l) (p : PlacedNode) (made : NodeState) where
  abbrev pub new : NetNode
  new = User (record p { node = drained made })

  abbrev pub nodes_then : Role → List NetNode
  nodes_then role = set nodes (place_at role l) new

  pub ends_stand : (role : Role) → slice_get nodes (place_at role l) ≡ Some (User p) → (side : Role) → EndStands (nodes_then role) line (place_at side l) (with_at role (drained made) h.at side)
  ends_stand Dte at Dte = record { node = new; there = set_here nodes l.dte new (User p) at; end = ((user_end nodes line l h Dte p at).line_is, refl) }
  ends_stand Dte at Dce = record { node = (h.there Dce).node; there = set_elsewhere nodes l.dte l.dce new (λ e. h.apart (sym e)) ∙ (h.there Dce).there; end = (h.there Dce).end }
  ends_stand Dce at Dte = record { node = (h.there Dte).node; there = set_elsewhere nodes l.dce l.dte new h.apart ∙ (h.there Dte).there; end = (h.there Dte).end }
  ends_stand Dce at Dce = record { node = new; there = set_here nodes l.dce new (User p) at; end = ((user_end nodes line l h Dce p at).line_is, refl) }

  pub both_quiet : (role : Role) → IsQuiet (drained made) → (side : Role) → IsQuiet (with_at role (drained made) h.at side)
  both_quiet Dte quiet Dte = quiet
  both_quiet Dte quiet Dce = h.quiet Dce
  both_quiet Dce quiet Dte = h.quiet Dte
  both_quiet Dce quiet Dce = quiet

  pub host_then : (role : Role) → slice_get nodes (place_at role l) ≡ Some (User p) → is_pad made ≡ is_pad p.node → is_pad (with_at role (drained made) h.at Dce) ≡ false
  host_then Dte at kind = h.host
  host_then Dce at kind = pad-drained made ∙ kind ∙ ap is_pad (sym (user_end nodes line l h Dce p at).node_is) ∙ h.host

  pub users_then : (role : Role) → slice_get nodes (place_at role l) ≡ Some (User p) → IsUserThere (nodes_then role) l.dce → IsUserThere (nodes_then role) l.dte
  users_then Dte at other = (record p { node = drained made }, set_here nodes l.dte new (User p) at)
  users_then Dce at other = let v = h.users (p, at) in (v.0, set_elsewhere nodes l.dce l.dte new h.apart ∙ v.1)

abbrev pub here_stands : (nodes : List NetNode) (line : ℕ) (l : NetLine) (h : LineStands nodes line l) (role : Role) (p : PlacedNode) (made : NodeState) (flights : Flights)
    → slice_get nodes (place_at role l) ≡ Some (User p) → IsQuiet (drained made) → is_pad made ≡ is_pad p.node
    → LineStands (set nodes (place_at role l) (User (record p { node = drained made }))) line (record l { flights = flights })
here_stands nodes line l h role p made flights at quiet kind = record {
  at = with_at role (drained made) h.at;
  there = λ side. in_flight (set nodes (place_at role l) (User (record p { node = drained made }))) line l flights side (with_at role (drained made) h.at side) (ends_stand nodes line l h p made role at side);
  quiet = both_quiet nodes line l h p made role quiet;
  apart = h.apart;
  host = host_then nodes line l h p made role at kind;
  users = users_then nodes line l h p made role at;
}

-- ---- and is as a line has to be

pub line_turned : (L : LineService) (event : NodeEvent) (l : NetLine) (at : Role → NodeState) (book : Book) (role : Role) (between flights : Flights) (made : NodeState)
    → IsLine L (ends_state l at book) → IsFor event (at role) → (L.faithful → LeftBy event role l.flights between)
    → (turn_of event role (at role) book).node ≡ made
    → (L.faithful → ArePut L (direction_of role) (frames_of made) between flights)
    → IsLine L (ends_state (record l { flights = flights }) (with_at role (drained made) at) (turn_of event role (at role) book).book)
line_turned L event l at book Dte between flights made h is_for left same put =
    let own : LineState = ends_state l at book in
    let turn : Turn = turn_of event Dte (at Dte) book in
    let P : NodeState → Type 0 = λ x. IsLine L (ends_state (record l { flights = flights }) (with_at Dte (drained x) at) turn.book) in
    let F : NodeState → Type 0 = λ x. L.faithful → ArePut L FromDte (frames_of x) between flights in
    subst P same
    (happened_line L event Dte own (one.with_turn Dte turn flights own) h
    (record { is_for = is_for; between = between; left = left; put = subst F (sym same) put; others = refl }))
line_turned L event l at book Dce between flights made h is_for left same put =
    let own : LineState = ends_state l at book in
    let turn : Turn = turn_of event Dce (at Dce) book in
    let P : NodeState → Type 0 = λ x. IsLine L (ends_state (record l { flights = flights }) (with_at Dce (drained x) at) turn.book) in
    let F : NodeState → Type 0 = λ x. L.faithful → ArePut L FromDce (frames_of x) between flights in
    subst P same
    (happened_line L event Dce own (one.with_turn Dce turn flights own) h
    (record { is_for = is_for; between = between; left = left; put = subst F (sym same) put; others = refl }))
