-- An event at a node with users of a process is one at that node of the network.
use Rattle.std.proofs.Common.{◌≡◌, ◌≢◌, ℕ, Bool, true, false, cond, ◌==◌, if◌then◌else◌, List, [], ◌∷◌, drop, set, Option, Some, None, refl, sym, ap, ap₂, ◌∙◌, subst, inl, inr}
use Rattle.std.specs.Prelude.{◌⊎◌, slice_get}
use Rattle.std.proofs.lemmas.Bool.{ne_eqb}
use Rattle.record_laws.proofs.Books.Basics.{number_is, set_here, set_elsewhere, eq_true, by_true, by_false}
use Rattle.link_timers.specs.declared.role.Role.{Role}
use Rattle.lapb.specs.Machine.{Octets}
use Rattle.call_records.specs.Register.{book_at}
use Rattle.user_nodes.specs.Node.{NodeState, drained, frames_of}
use Rattle.user_nodes.specs.Turn.{Turn}
use Rattle.user_nodes.specs.Notes.{NodeNotes, user_notes}
use Rattle.frame_lines.specs.declared.line.Direction.{Direction}
use Rattle.frame_lines.specs.Lines.{Flights, no_flights, flying, without_first, LineService, lossless_service, ArePut}
use Rattle.net_events.specs.OneLine.{direction_of, direction_to}
use Rattle.net_events.specs.NodeEvents.{NodeEvent, Hears, Restarts, LeftBy}
use Rattle.net_events.specs.Network.{PlacedNode, NetNode, User, NetLine, Network, HappenedAt, place_at, net_turn, with_turn_at}
use Rattle.net_events.specs.declared.answer.Answer.{Answer}
use Rattle.node_events.specs.Outcomes.{IsOutcome, text_of}
use Rattle.node_events.specs.Sends.{ArePutsOf}
use Rattle.net_nodes.specs.Turns.{AtEnd}
use Rattle.parted_laws.specs.Processes.{Processes, PartChanges, SameWires, flights_in, flights_at, ends_of, AreOf}
use Rattle.parted_laws.specs.Events.{IsCutOff, AreLost}
use Rattle.parted_laws.specs.Events.AreLost.{none_is}
use Rattle.parted_laws.proofs.Between.{Wire}
use Rattle.parted_laws.proofs.Puts.{all_put, are_all_put}
use Rattle.parted_laws.proofs.OneLine.{AreLeft, without, HeardInOne, heard_in_one, cleared_in_one, put_in_one}
use Rattle.parted_laws.proofs.Parts.{same_place, SameLine, WithLost, with_lost, other_flights, its_flights, its_line, was_left, IsUntouched, IsTouched, ChangesAlike, are_after}
use Rattle.live_laws.specs.Writing.{AreAlike}
use Rattle.live_laws.proofs.Turns.{turns_alike}
use Rattle.parted_laws.proofs.Taking.{Kind, kind_of}
use Rattle.parted_laws.proofs.Taking.Kind.{frame, anew, plain}

-- one process has these in flight
abbrev pub with_these : (k : ℕ) → Flights → (ℕ → Flights) → ℕ → Flights
with_these k f flights j = if j == k then f else flights j

pub these_here : (k : ℕ) (f : Flights) (flights : ℕ → Flights) → with_these k f flights k ≡ f
these_here k f flights = by_true (k == k) f (flights k) (eq_true k k refl)

pub these_there : (k : ℕ) (f : Flights) (flights : ℕ → Flights) (j : ℕ) → j ≢ k → with_these k f flights j ≡ flights j
these_there k f flights j ne = by_false (j == k) f (flights j) (ne_eqb j k ne)

-- a restart alone asks that the line is cut off
abbrev pub IfRestarts : NodeEvent → Type 0 → Type 0
IfRestarts Restarts P = P
IfRestarts event P = Unit {0}

module _ (L : LineService) (f : L.faithful) (owner : ℕ → ℕ) (k : ℕ) (part : Network) (p q : Processes) (s : Network) (are : AreOf owner p s) (changes : PartChanges k part p q) (wires : SameWires p q)
    (event : NodeEvent) (line : ℕ) (role : Role) (h : HappenedAt L event line role (p.parts k) part) (own : owner (place_at role h.line_is) ≡ k)
    (may : IfRestarts event (IsCutOff owner p k line h.line_is)) where
  abbrev l : NetLine
  l = h.line_is

  abbrev place : ℕ
  place = place_at role l

  abbrev at : Role → ℕ
  at = ends_of owner l

  abbrev old : ℕ → Flights
  old j = flights_at line (p.parts j)

  abbrev between : ℕ → Flights
  between = with_these k h.between old

  abbrev new : ℕ → Flights
  new j = flights_at line (q.parts j)

  abbrev wire : Wire
  wire = p.wires line

  its : SameLine l (slice_get s.lines line)
  its = its_line owner k part p q s are changes wires line l h.line_there

  old_here : old k ≡ l.flights
  old_here = ap flights_in h.line_there

  -- ---- what the event takes from the line

  -- in the network the frames before the one that is heard are lost first
  record Leaves (e : NodeEvent) : Type 0 where
    mid : Network
    are_lost : AreLost s mid
    before : Flights
    there : slice_get mid.lines line ≡ Some (record l { flights = before })
    nodes : mid.nodes ≡ s.nodes
    others : (other : ℕ) → other ≢ line → slice_get mid.lines other ≡ slice_get s.lines other
    after : Flights
    left_by : LeftBy e role before after
    left : AreLeft at between wire after

  was : AreLeft at old wire its.flights
  was = was_left owner k part p q s are changes wires line l its.flights its.there

  left_here : between k ≡ h.between
  left_here = these_here k h.between old

  left_there : (j : ℕ) → j ≢ k → between j ≡ old j
  left_there j ne = these_there k h.between old j ne

  leaves : (e : NodeEvent) → Kind e → LeftBy e role l.flights h.between → IfRestarts e (IsCutOff owner p k line l) → Leaves e
  leaves _ (frame octets) left cut =
      let to : Direction = direction_to role in
      let heard : HeardInOne at k role own old between left_there wire octets its.flights =
      heard_in_one at k role own old between left_there wire octets its.flights (ap (λ (x : Flights). slice_get (flying to x) 0) old_here ∙ left.0)
      (left_here ∙ left.1 ∙ ap (λ (x : Flights). without_first to x) (sym old_here)) was in
      let lost : WithLost heard.lost line to l its.flights s = with_lost heard.lost line to l its.flights s its.there in
      record {
        mid = lost.mid;
        are_lost = lost.are_lost;
        before = without heard.lost to its.flights;
        there = lost.there;
        nodes = lost.nodes;
        others = lost.others;
        after = without_first to (without heard.lost to its.flights);
        left_by = (heard.first, refl);
        left = heard.left;
      }
  leaves _ anew left cut = record {
    mid = s;
    are_lost = none_is s;
    before = its.flights;
    there = its.there;
    nodes = refl;
    others = λ other ne. refl;
    after = no_flights;
    left_by = refl;
    left = cleared_in_one at k role own old between left_there wire (left_here ∙ left) cut;
  }
  leaves _ (plain e same stays) left cut = record {
    mid = s;
    are_lost = none_is s;
    before = its.flights;
    there = its.there;
    nodes = refl;
    others = λ other ne. refl;
    after = its.flights;
    left_by = stays role its.flights;
    left =
        λ d. subst (λ (b : ℕ → Flights). AreLeft at b wire its.flights) (λ i j. as_before j i) was d;
  }
    where
      as_before : (j : ℕ) → old j ≡ between j
      as_before j = elim (number_is j k) [
        | inl at_k ↦ ap old at_k ∙ old_here ∙ sym (same role l.flights h.between left) ∙ sym left_here ∙ ap between (sym at_k)
        | inr ne ↦ sym (left_there j ne)
      ]

  -- ---- the event in the network

  pub record UserInOne : Type 0 where
    pub mid : Network
    pub are_lost : AreLost s mid
    pub after : Network
    pub happened : HappenedAt lossless_service event line role mid after
    pub same_node : happened.node ≡ h.node
    pub at_place : place_at role happened.line_is ≡ place
    pub alike : AreAlike (net_turn event line role h.node (p.parts k)) (net_turn event line role happened.node mid)
    pub are_parts : AreOf owner q after

  module _ (o : Leaves event) where
    abbrev its_l : NetLine
    its_l = record l { flights = o.before }

    abbrev turn : Turn
    turn = net_turn event line role h.node o.mid

    alike : AreAlike (net_turn event line role h.node (p.parts k)) turn
    alike = turns_alike event role h.node.node (book_at line (p.parts k).register) (book_at line o.mid.register)

    abbrev frames : List Octets
    frames = frames_of (net_turn event line role h.node (p.parts k)).node

    abbrev put : Flights
    put = all_put (direction_of role) frames o.after

    abbrev later : Network
    later = with_turn_at line its_l (place_at role its_l) h.node turn put o.mid

    there_before : slice_get s.nodes place ≡ Some (User h.node)
    there_before = sym (subst (λ (j : ℕ). slice_get (p.parts j).nodes place ≡ slice_get s.nodes place) own (are.nodes place)) ∙ h.node_there

    abbrev is : NetNode
    is = User (record h.node { node = drained (net_turn event line role h.node (p.parts k)).node })

    changed : ChangesAlike owner k part p q s are changes wires later
    changed = record {
      place = place;
      own = own;
      was = User h.node;
      was_there = there_before;
      is = is;
      here = ap (λ (n : Network). n.nodes) h.others;
      there =
          ap (λ (i : ℕ). set o.mid.nodes i (User (record h.node { node = drained turn.node }))) (same_place role l o.before)
          ∙ ap (λ (ns : List NetNode). set ns place (User (record h.node { node = drained turn.node }))) o.nodes
          ∙ ap (λ (n : NodeState). set s.nodes place (User (record h.node { node = drained n }))) (sym alike.node);
    }

    line_here : slice_get part.lines line ≡ Some (record l { flights = h.flights })
    line_here =
        ap (λ (n : Network). slice_get n.lines line) h.others
        ∙ set_here (p.parts k).lines line (record l { flights = h.flights }) l h.line_there

    new_here : new k ≡ h.flights
    new_here = its_flights owner k part p q s are changes wires line (record l { flights = h.flights }) line_here

    left_then : AreLeft at new wire put
    left_then =
        put_in_one at k role own between new (λ j ne. other_flights owner k part p q s are changes wires line j ne ∙ sym (left_there j ne)) wire L frames o.after
        (subst (λ (x : Flights). ArePut L (direction_of role) frames x (new k)) (sym left_here)
        (subst (λ (x : Flights). ArePut L (direction_of role) frames h.between x) (sym new_here) (h.put f)))
        o.left

    each : (m : ℕ) → IsUntouched owner k part p q s are changes wires later m ⊎ IsTouched owner k part p q s are changes wires later m
    each m = elim (number_is m line) [
      | inl e ↦ subst (λ (i : ℕ). IsUntouched owner k part p q s are changes wires later i ⊎ IsTouched owner k part p q s are changes wires later i) (sym e) (inr (record {
        line_is = l;
        was = h.line_there;
        here_flights = h.flights;
        here = line_here;
        flights = put;
        there = set_here o.mid.lines line (record its_l { flights = put }) its_l o.there;
        left = left_then;
      }))
      | inr ne ↦ inl (record {
        here =
            ap (λ (n : Network). slice_get n.lines m) h.others
            ∙ set_elsewhere (p.parts k).lines line m (record l { flights = h.flights }) ne;
        there = set_elsewhere o.mid.lines line m (record its_l { flights = put }) ne ∙ o.others m ne;
      })
    ]

    user_by : UserInOne
    user_by = record {
      mid = o.mid;
      are_lost = o.are_lost;
      after = later;
      happened = record {
        line_is = its_l;
        line_there = o.there;
        node = h.node;
        node_there = ap (λ (ns : List NetNode). slice_get ns (place_at role its_l)) o.nodes ∙ ap (λ (i : ℕ). slice_get s.nodes i) (same_place role l o.before) ∙ there_before;
        is_for = h.is_for;
        between = o.after;
        left = λ faithful. o.left_by;
        flights = put;
        put = λ faithful. subst (λ (n : NodeState). ArePut lossless_service (direction_of role) (frames_of n) o.after put) alike.node (are_all_put (direction_of role) frames o.after);
        others = refl;
      };
      same_node = refl;
      at_place = same_place role l o.before;
      alike = alike;
      are_parts = are_after owner k part p q s are changes wires later changed each;
    }

  pub user_in_one : UserInOne
  user_in_one = user_by (leaves event (kind_of event) (h.left f) may)

-- ---- with its answer

pub record EndInOne (owner : ℕ → ℕ) (k line : ℕ) (role : Role) (event : NodeEvent) (q : Processes) (s : Network) (a : Answer) (node : PlacedNode) (place : ℕ) : Type 0 where
  pub mid : Network
  pub are_lost : AreLost s mid
  pub after : Network
  pub does : AtEnd lossless_service (record { line = line; role = role }) event mid a after
  pub same_node : does.happened.node ≡ node
  pub at_place : place_at role does.happened.line_is ≡ place
  pub are_parts : AreOf owner q after

pub end_in_one : (L : LineService) (f : L.faithful) (owner : ℕ → ℕ) (k : ℕ) (part : Network) (p q : Processes) (s : Network) (are : AreOf owner p s) (changes : PartChanges k part p q) (wires : SameWires p q)
    (event : NodeEvent) (line : ℕ) (role : Role) (a : Answer) (d : AtEnd L (record { line = line; role = role }) event (p.parts k) a part) → owner (place_at role d.happened.line_is) ≡ k
    → IfRestarts event (IsCutOff owner p k line d.happened.line_is) → EndInOne owner k line role event q s a d.happened.node (place_at role d.happened.line_is)
end_in_one L f owner k part p q s are changes wires event line role a d own may =
    let u = user_in_one L f owner k part p q s are changes wires event line role d.happened own may in
    record {
      mid = u.mid;
      are_lost = u.are_lost;
      after = u.after;
      does = record {
        happened = u.happened;
        puts = subst (λ (n : NodeState). ArePutsOf (direction_of role) line (frames_of n) a.frames.items) u.alike.node d.puts;
        told = d.told ∙ ap₂ (λ (i : ℕ) (notes : NodeNotes). user_notes i notes) (sym u.at_place) u.alike.notes;
        text = d.text ∙ ap (λ (n : PlacedNode). text_of event n.node) (sym u.same_node);
        outcome = subst (λ (n : PlacedNode). IsOutcome event n.node a.outcome) (sym u.same_node) d.outcome;
      };
      same_node = u.same_node;
      at_place = u.at_place;
      are_parts = u.are_parts;
    }
