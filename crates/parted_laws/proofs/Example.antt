-- The run of two processes, act by act.
use Rattle.std.proofs.Common.{◌≡◌, ◌≢◌, ◌<◌, ℕ, zero, suc, true, List, [], ◌∷◌, drop, Some, refl, sym, ap, ◌∙◌, subst, inl, inr, arith}
use Rattle.std.specs.Prelude.{slice_get, ◌==◌, if◌then◌else◌, Ok}
use Rattle.std.proofs.lemmas.Option.{same_Some, none-some}
use Rattle.link_timers.specs.declared.role.Role.{Role}
use Rattle.link_timers.specs.declared.role.Role.TheVariants.{Dte, Dce}
use Rattle.lapb.specs.Machine.{Octets}
use Rattle.user_nodes.specs.Node.{frames_of}
use Rattle.frame_lines.specs.declared.line.Direction.{Direction}
use Rattle.frame_lines.specs.declared.line.Direction.TheVariants.{FromDte, FromDce}
use Rattle.frame_lines.specs.Lines.{memory_service, lossless_service}
use Rattle.net_config.specs.NetPlan.{NewHost, Planned, PlannedUser, NewLine}
use Rattle.net_events.specs.Network.{Network, LostAt, place_at, all_elapsed}
use Rattle.net_events.specs.Opening.{IsMade, new_at}
use Rattle.net_events.specs.declared.answer.Answer.{Answer}
use Rattle.net_events.specs.declared.event.Event.TheVariants.{Lose}
use Rattle.net_nodes.specs.Carrying.{blind}
use Rattle.net_nodes.specs.Places.{IsStanding}
use Rattle.network_laws.proofs.Switched.UsersAny.{loss_any}
use Rattle.line_sim.proofs.Events.{made as made_between, elapsed}
use Rattle.line_sim.proofs.Registered.{lost_registered}
use Rattle.line_sim.proofs.CanBeServed.{standing}
use Rattle.run_laws.specs.LostFrameRun.{two_hosts, parameters, host, new_line, line_with, network, first_frames}
use Rattle.run_laws.proofs.Running.{planned, made}
use Rattle.parted_laws.specs.Processes.{Processes, PartChanges, SameWires, WireChanges, IsLeftOf, line_in, sender, on_way, AreOf}
use Rattle.parted_laws.specs.Moves.{Carries, HandsOn, PutsOn}
use Rattle.parted_laws.specs.Making.{IsMadePart, planned_line, AreMade, AreMadeOne}
use Rattle.parted_laws.specs.Running.{ticks_in, HasHandled}
use Rattle.parted_laws.specs.PartedRun.{owner, line_of, part, first_down, frame, wires_with, parts_with, two, start, end, acts, SaysDone, RunExample}
use Rattle.parted_laws.proofs.Left.{all_left}
use Rattle.parted_laws.proofs.Carrying.{carried, hands_carry, puts_carry}
use Rattle.parted_laws.proofs.Made.{makes_one}
use Rattle.parted_laws.proofs.Ticks.{ticks_pass}
use Rattle.network_laws.specs.PlacedTime.{elapsed_by}

-- ---- the start

line_stays : (up down : List Octets) (line : ℕ) → line_in (slice_get (part up down).lines line) ≡ line_in (slice_get (network first_frames).lines line)
line_stays up down zero = refl
line_stays up down (suc line) = refl

part_made : (up down : List Octets) → IsMadePart memory_service two_hosts (part up down)
part_made up down = record { network = network first_frames; made = made; nodes = refl; lines = line_stays up down }

is_made : (k : ℕ) → IsMadePart memory_service two_hosts (start.parts k)
is_made zero = part_made first_frames []
is_made (suc zero) = part_made [] first_down
is_made (suc (suc k)) = part_made [] []

first_so : (d : Direction) (n : Planned) → slice_get two_hosts.nodes (place_at (sender d) (planned_line new_line)) ≡ Some n
    → IsLeftOf (on_way owner start 0 (planned_line new_line) d) (frames_of (new_at n (sender d) parameters))
first_so FromDte n there =
    subst (λ (x : Planned). IsLeftOf first_frames (frames_of (new_at x Dte parameters))) (same_Some (PlannedUser (host Dte)) n there) (all_left first_frames)
first_so FromDce n there =
    subst (λ (x : Planned). IsLeftOf first_down (frames_of (new_at x Dce parameters))) (same_Some (PlannedUser (host Dce)) n there) (all_left first_down)

first_is : (line : ℕ) (l : NewLine) (d : Direction) (n : Planned) → slice_get two_hosts.lines line ≡ Some l → slice_get two_hosts.nodes (place_at (sender d) (planned_line l)) ≡ Some n
    → IsLeftOf (on_way owner start line (planned_line l) d) (frames_of (new_at n (sender d) l.params))
first_is zero l d n at there =
    subst (λ (x : NewLine). slice_get two_hosts.nodes (place_at (sender d) (planned_line x)) ≡ Some n → IsLeftOf (on_way owner start 0 (planned_line x) d) (frames_of (new_at n (sender d) x.params)))
    (same_Some new_line l at) (first_so d n) there
first_is (suc line) l d n at there = absurd (none-some l at)

start_made : AreMade memory_service owner two_hosts start
start_made = record { parts = is_made; first = first_is }

one : AreMadeOne owner two_hosts start
one = makes_one memory_service owner two_hosts start planned start_made

-- ---- the states between

abbrev second : Network
second = all_elapsed 3 (part [] first_down)

abbrev third : Network
third = all_elapsed 3 (part (frame ∷ []) first_down)

abbrev ticked : Processes
ticked = two (part first_frames []) second []

abbrev handed : Processes
handed = two (part (drop 1 first_frames) []) second (frame ∷ [])

abbrev came : Processes
came = two (part (drop 1 first_frames) []) third []

first_changes : (a b c : Network) (up down : List Octets) → PartChanges 0 b (two a c up) (two b c down)
first_changes a b c up down = record { here = refl; others = by }
  where
    by : (k : ℕ) → k ≢ 0 → parts_with b c k ≡ parts_with a c k
    by zero ne = absurd (ne refl)
    by (suc zero) ne = refl
    by (suc (suc k)) ne = refl

second_changes : (a b c : Network) (up down : List Octets) → PartChanges 1 c (two a b up) (two a c down)
second_changes a b c up down = record { here = refl; others = by }
  where
    by : (k : ℕ) → k ≢ 1 → parts_with a c k ≡ parts_with a b k
    by zero ne = refl
    by (suc zero) ne = absurd (ne refl)
    by (suc (suc k)) ne = refl

wire_changes : (a b c d : Network) (up down : List Octets) → WireChanges 0 FromDte down (two a b up) (two c d down)
wire_changes a b c d up down = record { here = refl; others = by }
  where
    by : (line : ℕ) (e : Direction) → ((line ≡ 0) × (e ≡ FromDte) → ⊥) → wires_with down line e ≡ wires_with up line e
    by zero FromDte ne = absurd (ne (refl, refl))
    by (suc line) FromDte ne = refl
    by zero FromDce ne = refl
    by (suc line) FromDce ne = refl

-- ---- the acts

apart : ◌≢◌ {A = ℕ} 1 0
apart e = omega (arith, e)

hands : HandsOn memory_service owner 0 0 FromDte ticked handed
hands = record {
  line_is = line_of first_frames [];
  line_there = refl;
  of_sender = refl;
  elsewhere = apart;
  frame = frame;
  part = part (drop 1 first_frames) [];
  handed = record {
    first = λ f. refl;
    none = λ f. tt;
    flights = record { from_dte = drop 1 first_frames; from_dce = [] };
    rest = λ f. refl;
    others = refl;
  };
  here = first_changes (part first_frames []) (part (drop 1 first_frames) []) second [] (frame ∷ []);
  wire = wire_changes (part first_frames []) second (part (drop 1 first_frames) []) second [] (frame ∷ []);
}

few : 0 < 64
few = omega arith

puts : PutsOn memory_service owner 1 0 FromDte handed came
puts = record {
  line_is = line_of [] first_down;
  line_there = refl;
  of_hearer = refl;
  elsewhere = λ e. apart (sym e);
  frame = frame;
  lost = 0;
  rest = [];
  first = refl;
  part = third;
  put = record {
    flights = record { from_dte = frame ∷ []; from_dce = first_down };
    put = λ f. inl (few, refl);
    others = refl;
  };
  here = second_changes (part (drop 1 first_frames) []) second third (frame ∷ []) [];
  wire = wire_changes (part (drop 1 first_frames) []) second (part (drop 1 first_frames) []) third (frame ∷ []) [];
}

-- one network all the while
abbrev later : Network
later = elapsed_by (ticks_in owner 1 3) one.network

are_ticked : AreOf owner ticked later
are_ticked =
    ticks_pass owner 1 3 start ticked one.network one.are (second_changes (part first_frames []) (part [] first_down) second [] []) (λ line d. refl)

hands_carried : Carries owner ticked handed
hands_carried = hands_carry memory_service tt owner 0 0 FromDte ticked handed later are_ticked hands

puts_carried : Carries owner handed came
puts_carried = puts_carry memory_service tt owner 1 0 FromDte handed came later (carried owner ticked handed later are_ticked hands_carried) puts

-- the nodes of a process stand
blind_made : IsMade (blind memory_service) two_hosts (network first_frames)
blind_made = record {
  node_count = made.node_count;
  nodes = made.nodes;
  line_count = made.line_count;
  lines = λ line l at. let x = made.lines line l at in record { flights = x.flights; there = x.there; sent = λ none. absurd none };
  register = made.register;
}

stands : IsStanding third
stands =
    let b = elapsed (blind memory_service) (network first_frames) 3 (made_between (blind memory_service) two_hosts (network first_frames) planned blind_made) in
    let lost : LostAt (blind memory_service) 0 FromDte (all_elapsed 3 (network first_frames)) third
    = record { line_is = line_with first_frames; line_there = refl; flights = (line_of (frame ∷ []) first_down).flights; rest = λ none. absurd none; others = refl } in
    standing (blind memory_service) third (record {
      any = loss_any (blind memory_service) 0 FromDte (all_elapsed 3 (network first_frames)) third b.any lost;
      registered = lost_registered (blind memory_service) 0 FromDte (all_elapsed 3 (network first_frames)) third b.registered lost;
    })

loses : (answer : Answer) → SaysDone answer → HasHandled memory_service owner 1 (Lose 0 FromDte) (Ok answer) came end
loses answer says = record {
  stands = stands;
  here = tt;
  may = tt;
  part = second;
  happens = (
    refl,
    record {
      frames = says.frames;
      notes = says.notes;
      text = says.text;
      answered = says.outcome;
      lost = record {
        line_is = line_of (frame ∷ []) first_down;
        line_there = refl;
        flights = (line_of [] first_down).flights;
        rest = λ f. refl;
        others = refl;
      };
    },
  );
  changes = second_changes (part (drop 1 first_frames) []) third second [] [];
  wires = λ line d. refl;
}

pub run_example : RunExample
run_example = (
  start_made,
  λ answer says. (
    ticked,
    (second_changes (part first_frames []) (part [] first_down) second [] [], λ line d. refl),
    (handed, hands_carried, (came, puts_carried, (end, loses answer says, refl))),
  ),
)
