-- Ticks that pass in one process.
use Rattle.std.proofs.Common.{◌≡◌, ◌≢◌, ℕ, ◌-◌, ◌==◌, if◌then◌else◌, List, [], ◌∷◌, map, Option, Some, None, refl, sym, ap, ap₂, ◌∙◌, subst, inl, inr, arith}
use Rattle.std.specs.Prelude.{slice_get}
use Rattle.std.specs.Option.{option_map}
use Rattle.std.proofs.lemmas.Bool.{ne_eqb}
use Rattle.std.proofs.lemmas.Option.{slice_get-map}
use Rattle.record_laws.proofs.Books.Basics.{number_is, eq_true, by_true, by_false}
use Rattle.lapb.specs.Machine.{Octets}
use Rattle.link_timers.specs.Timers.{lowered}
use Rattle.packet_layer.specs.LayerTimers.{LayerTimers, after_ticks}
use Rattle.packet_end.specs.PacketEnd.{PacketEnd}
use Rattle.packet_end.specs.PacketEnd as end
use Rattle.pad_ports.specs.Ports as port
use Rattle.pad_ports.specs.Ports.{PortState}
use Rattle.user_nodes.specs.Node.{NodeState, Pad, Host, node_elapsed}
use Rattle.frame_lines.specs.declared.line.Direction.{Direction}
use Rattle.frame_lines.specs.Lines.{flying}
use Rattle.switch_lines.specs.Lines.{SwitchLine}
use Rattle.switch_lines.specs.Switch.{with_end}
use Rattle.net_events.specs.Network.{NetNode, User, Switching, NetLine, Network, elapsed_node, all_elapsed}
use Rattle.network_laws.specs.PlacedTime.{elapsed_by}
use Rattle.network_laws.proofs.PlacedTime.{by_place_at}
use Rattle.parted_laws.specs.Processes.{Processes, PartChanges, SameWires, IsLeftOf, line_in, flights_at, ends_of, on_way, AreOf}
use Rattle.parted_laws.specs.Running.{ticks_in, TickLaw}
use Rattle.parted_laws.proofs.Between.{between_alike}

-- ---- no tick changes nothing

map_same : {A : Type 0} (change : A → A) (xs : List A) → ((x : A) → change x ≡ x) → map change xs ≡ xs
map_same change [] same = refl
map_same change (x ∷ xs) same = ap₂ (λ y ys. y ∷ ys) (same x) (map_same change xs same)

less_none : (n : ℕ) → n - 0 ≡ n
less_none n = omega arith

not_lowered : (left : Option ℕ) → lowered 0 left ≡ left
not_lowered None = refl
not_lowered (Some n) = ap Some (less_none n)

not_ticked : (left : Option ℕ) → port.ticked 0 left ≡ left
not_ticked None = refl
not_ticked (Some n) = ap Some (less_none n)

same_timers : (timers : LayerTimers) → after_ticks timers 0 ≡ timers
same_timers timers = λ i. record {
  restart = not_lowered timers.restart i;
  calls = map_same (lowered 0) timers.calls not_lowered i;
  resets = map_same (lowered 0) timers.resets not_lowered i;
  clears = map_same (lowered 0) timers.clears not_lowered i;
}

same_end : (e : PacketEnd) → end.elapsed e 0 ≡ e
same_end e = λ i. record e { line = record e.line { t1 = not_lowered e.line.t1 i }; timers = same_timers e.timers i }

same_state : (n : NodeState) → node_elapsed 0 n ≡ n
same_state (Pad p) =
    ap Pad (λ i. record p {
      line = record p.line { end = same_end p.line.end i };
      ports = map_same (port.elapsed 0) p.ports (λ x j. record x { idle_left = not_ticked x.idle_left j }) i;
    })
same_state (Host e) = ap Host (same_end e)

same_node : (n : NetNode) → elapsed_node 0 n ≡ n
same_node (User n) = ap (λ (x : NodeState). User (record n { node = x })) (same_state n.node)
same_node (Switching n) =
    ap (λ (ls : List SwitchLine). Switching (record n { switch = record n.switch { lines = ls } }))
    (map_same (with_end (λ e. end.elapsed e 0)) n.switch.lines (λ l j. record l { end = same_end l.end j }))

-- ---- in one process

pub ticks_pass : TickLaw
ticks_pass owner k ticks p q s are changes wires = record {
  nodes = nodes;
  lines = λ j line. line_same j line ∙ are.lines j line;
  flights = λ line l d at.
      subst (λ (x : List Octets). IsLeftOf x (flying d l.flights))
      (sym (between_alike (ends_of owner l) (λ j. flights_at line (p.parts j)) (λ j. flights_at line (q.parts j)) (p.wires line) (q.wires line) d
      (λ j. by_part (λ n. flying d (flights_at line n)) refl j) (wires line d)))
      (are.flights line l d at);
}
  where
    -- what ticks do not change
    by_part : {A : Type 0} (look : Network → A) → look (all_elapsed ticks (p.parts k)) ≡ look (p.parts k) → (j : ℕ) → look (q.parts j) ≡ look (p.parts j)
    by_part look same j = elim (number_is j k) [
      | inl e ↦ ap (λ (i : ℕ). look (q.parts i)) e ∙ ap look changes.here ∙ same ∙ ap (λ (i : ℕ). look (p.parts i)) (sym e)
      | inr ne ↦ ap look (changes.others j ne)
    ]

    line_same : (j line : ℕ) → line_in (slice_get (q.parts j).lines line) ≡ line_in (slice_get (p.parts j).lines line)
    line_same j line = by_part (λ n. line_in (slice_get n.lines line)) refl j

    nodes : (place : ℕ) → slice_get (q.parts (owner place)).nodes place ≡ slice_get (elapsed_by (ticks_in owner k ticks) s).nodes place
    nodes place = elim (number_is (owner place) k) [
      | inl e ↦
          ap (λ (j : ℕ). slice_get (q.parts j).nodes place) e ∙ ap (λ (n : Network). slice_get n.nodes place) changes.here
          ∙ slice_get-map (elapsed_node ticks) (p.parts k).nodes place
          ∙ ap (λ (o : Option NetNode). option_map (elapsed_node ticks) o) (subst (λ (j : ℕ). slice_get (p.parts j).nodes place ≡ slice_get s.nodes place) e (are.nodes place))
          ∙ ap (λ (m : ℕ). option_map (elapsed_node m) (slice_get s.nodes place)) (sym (by_true (owner place == k) ticks 0 (eq_true (owner place) k e)))
          ∙ sym (by_place_at (λ at n. elapsed_node (ticks_in owner k ticks at) n) s.nodes place)
      | inr ne ↦
          ap (λ (n : Network). slice_get n.nodes place) (changes.others (owner place) ne) ∙ are.nodes place ∙ sym (stays (slice_get s.nodes place))
          ∙ ap (λ (m : ℕ). option_map (elapsed_node m) (slice_get s.nodes place)) (sym (by_false (owner place == k) ticks 0 (ne_eqb (owner place) k ne)))
          ∙ sym (by_place_at (λ at n. elapsed_node (ticks_in owner k ticks at) n) s.nodes place)
    ]
      where
        stays : (o : Option NetNode) → option_map (elapsed_node 0) o ≡ o
        stays None = refl
        stays (Some n) = ap Some (same_node n)
