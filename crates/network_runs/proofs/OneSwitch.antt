-- The run of two hosts at a switch, by computation.
use Rattle.std.proofs.Common.{◌≡◌, ℕ, [], ◌∷◌, Option, Some, None, refl, ap}
use Rattle.std.specs.FinMap.{empty, insert, get-insert}
use Rattle.std.proofs.lemmas.Cmp.{nat_list_cmp_total}
use Rattle.packet_end.specs.PacketEnd as offers
use Rattle.data_transfer.specs.Packets.{Note}
use Rattle.data_transfer.specs.Packets.Note.{Incoming}
use Rattle.address_routes.specs.Routes.{line_for, or_else}
use Rattle.switch_lines.specs.Relay as relaying
use Rattle.network_runs.specs.Making.{network_of}
use Rattle.network_runs.specs.Runs.{AllCalling}
use Rattle.network_runs.specs.OneSwitch.{routes, plan, stages, SwitchRun}
use Rattle.network_runs.proofs.Running.{run_is}

pub has_route : line_for routes (2 ∷ []) ≡ Some 1
has_route = ap (λ (o : Option ℕ). or_else o None) (get-insert nat_list_cmp_total (insert empty (1 ∷ []) 0) (2 ∷ []) 1 (2 ∷ []))

same : {A : Type 0} (x : A) → x ≡ x
same x = refl

abbrev note : Note
note = Incoming 1 (record { called = 2 ∷ []; calling = []; facilities = []; user_part = [] })

calls : AllCalling stages (network_of plan)
unfolding offers.all_offered offers.finished relaying.most_moves
calls = (
  (record { noted = same (note ∷ []); bare = refl; found = has_route; onward = same (Some 1) }, tt),
  (tt, (tt, ((record { noted = same (note ∷ []); bare = refl; found = has_route; onward = same (Some 1) }, tt), tt))),
)

pub switch_run : SwitchRun
unfolding offers.all_offered offers.finished relaying.most_moves
switch_run = run_is plan stages refl calls refl
