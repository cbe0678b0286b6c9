-- An expiry of a timer that does not run leaves the network as it was.
use Rattle.std.proofs.Common.{◌≡◌, ℕ, zero, suc, Bool, false, if◌then◌else◌, List, [], ◌∷◌, set, Some, Result, Ok, Err}
use Rattle.std.proofs.Common.{refl, sym, ap, ◌∙◌, subst, inl, inr}
use Rattle.std.specs.Prelude.{slice_get}
use Rattle.link_timers.specs.declared.role.Role.{Role}
use Rattle.link_timers.specs.declared.timers.TimerId.{TimerId}
use Rattle.packet_layer.proofs.Places.{set_same}
use Rattle.call_records.specs.Book.{Book}
use Rattle.call_records.specs.Register.{LineEnds, Register, found_ends, book_at, with_book}
use Rattle.user_nodes.specs.Node.{NodeState, Pad, Host, frames_of, drained}
use Rattle.user_nodes.specs.NodeEvents.{node_runs, expired}
use Rattle.user_nodes.specs.Turn.{Turn, unchanged, told}
use Rattle.frame_lines.specs.Lines.{Flights, LineService, ArePut}
use Rattle.net_events.specs.NodeEvents.{Expires, turn_of}
use Rattle.net_events.specs.OneLine.{direction_of}
use Rattle.net_events.specs.Network.{PlacedNode, PlacedSwitch, NetNode, User, Switching, NetLine, Network, place_at}
use Rattle.net_events.specs.Network.{net_turn, HappenedAt}
use Rattle.net_events.proofs.Users.{same_user, not_both, same_switch}
use Rattle.net_events.specs.declared.answer.Answer.{Answer}
use Rattle.net_events.specs.declared.event.Event.{Event}
use Rattle.net_events.specs.declared.event.Event.TheVariants.{Expire}
use Rattle.net_events.specs.declared.event.StepFault.{StepFault}
use Rattle.node_laws.specs.Quiet.{IsQuiet}
use Rattle.net_nodes.specs.Places.{EndStands, IsStanding}
use Rattle.net_nodes.specs.Steps.{ExpireStep}
use Rattle.net_nodes.specs.Happening.{Happens}
use Rattle.network_laws.specs.Switched.Idle.{IsAsBefore}
use Rattle.network_laws.proofs.Switched.IdleExpiry.{idle_expiry}
use Rattle.line_sim.specs.Between.{IsBetweenEvents}
use Rattle.line_sim.specs.Expiries.{DoesNotRun, IdleExpiry}
use Rattle.line_sim.proofs.CanBeServed.{standing}

-- ---- what the register has of a line, written again

ends_same : (ends : List LineEnds) (line : ℕ)
    → set ends line (record { dte = (found_ends (slice_get ends line)).dte; dce = (found_ends (slice_get ends line)).dce }) ≡ ends
ends_same [] line = refl
ends_same (e ∷ ends) zero = refl
ends_same (e ∷ ends) (suc line) = ap (λ (more : List LineEnds). e ∷ more) (ends_same ends line)

register_same : (line : ℕ) (g : Register) → with_book line (book_at line g) g ≡ g
register_same line g =
    ap (λ (x : List LineEnds). record { records = g.records; pairs = g.pairs; lines = x }) (ends_same g.lines line)

-- ---- a node with users, at which no frame waits

drained_same : (n : NodeState) → frames_of n ≡ [] → drained n ≡ n
drained_same (Pad p) none =
    ap (λ (x : List (List ℕ)).
    Pad (record p { line = record p.line { end = record p.line.end { line = record p.line.end.line { frames = x } } } })) (sym none)
drained_same (Host e) none = ap (λ (x : List (List ℕ)). Host (record e { line = record e.line { frames = x } })) (sym none)

turn_same : (timer : TimerId) (role : Role) (n : NodeState) (b : Book) → node_runs n timer ≡ false
    → turn_of (Expires timer) role n b ≡ unchanged n b
turn_same timer role n b idle = ap (λ (x : Bool). if x then told role (expired n timer) b else unchanged n b) idle

at_node : (L : LineService) (timer : TimerId) (line : ℕ) (role : Role) (s t : Network)
    → (d : HappenedAt L (Expires timer) line role s t) → IsQuiet d.node.node → node_runs d.node.node timer ≡ false
    → IsAsBefore L s t
at_node L timer line role s t d quiet idle = record {
  nodes = ap (λ (x : Network). x.nodes) d.others ∙ nodes;
  register = ap (λ (x : Network). x.register) d.others ∙ register;
  whole = λ f. d.others ∙ (λ i. record { nodes = nodes i; lines = lines f i; register = register i });
}
  where
    turn : Turn
    turn = net_turn (Expires timer) line role d.node s

    same : turn ≡ unchanged d.node.node (book_at line s.register)
    same = turn_same timer role d.node.node (book_at line s.register) idle

    node : drained turn.node ≡ d.node.node
    node = ap (λ (x : Turn). drained x.node) same ∙ drained_same d.node.node quiet.node.sent

    nodes : set s.nodes (place_at role d.line_is) (User (record d.node { node = drained turn.node })) ≡ s.nodes
    nodes =
        ap (λ (x : NodeState). set s.nodes (place_at role d.line_is) (User (record d.node { node = x }))) node
        ∙ set_same s.nodes (place_at role d.line_is) (User d.node) d.node_there

    register : with_book line turn.book s.register ≡ s.register
    register = ap (λ (x : Turn). with_book line x.book s.register) same ∙ register_same line s.register

    none : frames_of turn.node ≡ []
    none = ap (λ (x : Turn). frames_of x.node) same ∙ quiet.node.sent

    lines : L.faithful → set s.lines line (record d.line_is { flights = d.flights }) ≡ s.lines
    lines f =
        let put : d.flights ≡ d.between
        = subst (λ (x : List (List ℕ)). ArePut L (direction_of role) x d.between d.flights) none (d.put f) in
        ap (λ (x : Flights). set s.lines line (record d.line_is { flights = x })) (put ∙ d.left f)
        ∙ set_same s.lines line d.line_is d.line_there

-- it is quiet between events
quiet_there : (s : Network) → IsStanding s → (line : ℕ) (role : Role) (l : NetLine) (n : PlacedNode)
    → slice_get s.lines line ≡ Some l → slice_get s.nodes (place_at role l) ≡ Some (User n) → IsQuiet n.node
quiet_there s stands line role l n at there = by (stands.ends line l role at)
  where
    by : EndStands s line l role → IsQuiet n.node
    by (inl e) = subst (λ (x : PlacedNode). IsQuiet x.node) (same_user e.node n (sym e.node_there ∙ there)) e.quiet
    by (inr x) = absurd (not_both n x.node (sym there ∙ x.node_there))

-- ---- at any node

idle_there : (L : LineService) (place line : ℕ) (timer : TimerId) (s : Network) (a : Answer) (t : Network)
    → (n : NetNode) → IsBetweenEvents L s → slice_get s.nodes place ≡ Some n → DoesNotRun line timer n
    → ExpireStep L place line timer s a t → IsAsBefore L s t
idle_there L place line timer s a t (User n) holds there rests (inr d) =
    absurd (not_both n d.does.happened.node (sym there ∙ d.does.happened.node_there))
idle_there L place line timer s a t (User n) holds there rests (inl d) =
    let h = d.does.happened in
    let P : ℕ → Type 0 = λ i. slice_get s.nodes i ≡ Some (User h.node) in
    let at : slice_get s.nodes place ≡ Some (User h.node) = subst P d.own_place h.node_there in
    let same : h.node ≡ n = same_user h.node n (sym at ∙ there) in
    at_node L timer d.end.line d.end.role s t h
    (quiet_there s (standing L s holds) d.end.line d.end.role h.line_is h.node h.line_there h.node_there)
    (ap (λ (x : PlacedNode). node_runs x.node timer) same ∙ rests)
idle_there L place line timer s a t (Switching n) holds there rests (inl d) =
    let h = d.does.happened in
    let P : ℕ → Type 0 = λ i. slice_get s.nodes i ≡ Some (User h.node) in
    absurd (not_both h.node n (sym (subst P d.own_place h.node_there) ∙ there))
idle_there L place line timer s a t (Switching n) holds there rests (inr d) =
    let h = d.does.happened in
    let same : h.node ≡ n = same_switch h.node n (sym h.node_there ∙ there) in
    let here : DoesNotRun line timer (Switching h.node)
    = subst (λ (x : PlacedSwitch). DoesNotRun line timer (Switching x)) (sym same) rests in
    idle_expiry L d.own timer place s t holds.any h (here d.own d.own_line)

refused : (L : LineService) (s t : Network) → t ≡ s → IsAsBefore L s t
refused L s t same = record {
  nodes = ap (λ (x : Network). x.nodes) same;
  register = ap (λ (x : Network). x.register) same;
  whole = λ f. same;
}

pub idle : (L : LineService) (e : Event) (s : Network) (r : Result Answer StepFault) (t : Network)
    → IsBetweenEvents L s → Happens L e s r t → IdleExpiry L e s t
idle L e s r t holds h place line timer n is there rests =
    by r (subst (λ (x : Event). Happens L x s r t) is h)
  where
    by : (r : Result Answer StepFault) → Happens L (Expire place line timer) s r t → IsAsBefore L s t
    by (Ok a) happened = idle_there L place line timer s a t n holds there rests happened.1
    by (Err fault) happened = refused L s t happened.1
