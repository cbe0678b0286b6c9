-- How a process is made.
use Rattle.std.specs.Prelude.{◌≡◌, Bool, true, false, ◌==◌, List, length, replicate}
use Rattle.call_records.specs.Register.{HasNoRecords}
use Rattle.frame_lines.specs.Lines.{LineService}
use Rattle.net_config.specs.declared.config.Config.{Config}
use Rattle.net_config.specs.Plan.{plan_of}
use Rattle.net_events.specs.Network.{Network}
use Rattle.line_sim.specs.Runs.{IsMadeBy}
use Rattle.live_laws.specs.Registers.{on}
use Rattle.live_net.specs.Making.{register_made}
use Rattle.remote_lines.specs.declared.line.RemoteLine.{RemoteLine}
use Rattle.net_process.specs.Process.{ProcessState}
use Rattle.net_process.specs.Carrying.{carried}

-- it has the whole network as made, but for the first frames on its remote lines; its nodes have started if there is no
-- such line
pub record IsNew (L : LineService) (config : Config) (own : List Bool) (lines : List RemoteLine) (p : ProcessState) : Type 0 where
  pub network : Network
  pub made : IsMadeBy L config (on (register_made config) network)
  pub stored : HasNoRecords network.register
  pub process : p ≡ carried (record {
    part = network;
    plan = (plan_of config).lines;
    own = own;
    started = replicate (length own) (length lines == 0);
    lines = lines;
  })
