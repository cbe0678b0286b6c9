-- The runs over a trunk, by computation.
use Rattle.std.proofs.Common.{◌≡◌, ℕ, [], ◌∷◌, Option, Some, None, refl, ap, ◌∙◌}
use Rattle.std.specs.FinMap.{empty, insert, get-insert}
use Rattle.std.proofs.lemmas.Cmp.{nat_list_cmp_total}
use Rattle.packet_end.specs.PacketEnd as offers
use Rattle.address_routes.specs.Routes.{line_for, or_else}
use Rattle.switch_lines.specs.Relay as relaying
use Rattle.network_runs.specs.Making.{network_of}
use Rattle.network_runs.specs.Runs.{AllCalling}
use Rattle.network_runs.specs.Trunk.{routes_above, routes_below, plan, stages, stages_back, TrunkRun}
use Rattle.network_runs.proofs.Running.{run_is}

-- ---- the routes

above_to_two : line_for routes_above (2 ∷ []) ≡ Some 1
above_to_two = ap (λ (o : Option ℕ). or_else o None) (get-insert nat_list_cmp_total (insert empty (1 ∷ []) 0) (2 ∷ []) 1 (2 ∷ []))

below_to_two : line_for routes_below (2 ∷ []) ≡ Some 0
below_to_two = ap (λ (o : Option ℕ). or_else o None) (get-insert nat_list_cmp_total (insert empty (1 ∷ []) 1) (2 ∷ []) 0 (2 ∷ []))

below_to_one : line_for routes_below (1 ∷ []) ≡ Some 1
below_to_one = ap (λ (o : Option ℕ). or_else o None)
    (get-insert nat_list_cmp_total (insert empty (1 ∷ []) 1) (2 ∷ []) 0 (1 ∷ []) ∙ get-insert nat_list_cmp_total empty (1 ∷ []) 1 (1 ∷ []))

above_to_one : line_for routes_above (1 ∷ []) ≡ Some 0
above_to_one = ap (λ (o : Option ℕ). or_else o None)
    (get-insert nat_list_cmp_total (insert empty (1 ∷ []) 0) (2 ∷ []) 1 (1 ∷ []) ∙ get-insert nat_list_cmp_total empty (1 ∷ []) 0 (1 ∷ []))

-- ---- the calls, and the runs

calls_down : AllCalling stages (network_of plan)
unfolding offers.all_offered offers.finished relaying.most_moves
calls_down = ((record { noted = refl; bare = refl; found = above_to_two; onward = refl }, (record { noted = refl; bare = refl; found = below_to_two; onward = refl }, tt)), (tt, (tt, tt)))

calls_up : AllCalling stages_back (network_of plan)
unfolding offers.all_offered offers.finished relaying.most_moves
calls_up = ((record { noted = refl; bare = refl; found = below_to_one; onward = refl }, (record { noted = refl; bare = refl; found = above_to_one; onward = refl }, tt)), (tt, tt))

pub trunk_run : TrunkRun
unfolding offers.all_offered offers.finished relaying.most_moves
trunk_run = record { down = run_is plan stages refl calls_down refl; up = run_is plan stages_back refl calls_up refl }
