-- A run to which the law applies: two hosts at one line, and a frame that is lost.
use Rattle.std.specs.Prelude.{◌≡◌, ℕ, true, false, List, [], ◌∷◌, drop}
use Rattle.link_timers.specs.declared.role.Role.{Role}
use Rattle.link_timers.specs.declared.role.Role.TheVariants.{Dte, Dce}
use Rattle.data_transfer.specs.Flow.{modulo_8}
use Rattle.packet_end.specs.declared.params.EndParams.{EndParams}
use Rattle.call_records.specs.Register.{made_register}
use Rattle.user_nodes.specs.Node.{frames_of}
use Rattle.frame_lines.specs.declared.line.Direction.TheVariants.{FromDte}
use Rattle.net_config.specs.declared.config.Config.{Config}
use Rattle.net_config.specs.Served.{is_served}
use Rattle.net_config.specs.Plan.{plan_of}
use Rattle.net_events.specs.declared.event.Event.{Event}
use Rattle.net_events.specs.declared.event.Event.TheVariants.{Lose}
use Rattle.net_events.specs.Network.{User, NetLine, Network}
use Rattle.net_config.specs.NetPlan.{NewNode, NewHost, NewLine, NetPlan, PlannedUser}
use Rattle.net_events.specs.Opening.{new_dte, new_dce, placed_new}
use Rattle.net_events.specs.Opening.{line_plan}
use Rattle.line_sim.specs.Runs.{HasRun}

abbrev pub parameters : EndParams
parameters = record { k = 7; n2 = 3; channels = 4; flow = modulo_8 2; standing = false }

abbrev pub host : Role → NewNode
host role = record { line = 0; role = role; as_dte = NewHost }

abbrev pub new_line : NewLine
new_line = record { dte = 0; dce = 1; address = []; params = parameters }

-- two hosts at one line with four channels
abbrev pub two_hosts : NetPlan
two_hosts = record { nodes = PlannedUser (host Dte) ∷ PlannedUser (host Dce) ∷ []; lines = new_line ∷ [] }

-- the line with these frames in flight from the DTE, and the first ones of the DCE
abbrev pub line_with : (up : List (List ℕ)) → NetLine
line_with up = record {
  dte = 0;
  dce = 1;
  channels = 4;
  flights = record { from_dte = up; from_dce = frames_of (new_dce parameters) };
}

abbrev pub network : (up : List (List ℕ)) → Network
network up = record {
  nodes = User (placed_new (host Dte) parameters) ∷ User (placed_new (host Dce) parameters) ∷ [];
  lines = line_with up ∷ [];
  register = made_register (line_plan new_line ∷ []);
}

abbrev pub first_frames : List (List ℕ)
first_frames = frames_of (new_dte NewHost parameters)

-- ---- the run

-- the first frame of the DTE is lost
abbrev pub events : List Event
events = Lose 0 FromDte ∷ []

-- of each configuration with this plan
abbrev pub RunExample : Type 0
RunExample = (config : Config) → is_served config ≡ true → plan_of config ≡ two_hosts
    → HasRun config events (network (drop 1 first_frames))
