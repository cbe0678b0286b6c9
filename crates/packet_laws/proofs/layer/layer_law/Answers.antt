use Rattle.packet_laws.proofs.Layers.Layers.{made_agrees}
use Rattle.packet_laws.proofs.Layers.Growing.{grows}
use Rattle.packet_laws.proofs.Layers.Runs.{calls, named, always, always_named, resets, run_holds}
use Rattle.packet_laws.proofs.layer.layer_law.Goals as goal

pub returns : goal.returns
returns c = record {
  made = made_agrees;
  calls = calls;
  grows = grows;
  named = named;
  always = always;
  always_named = always_named;
  resets = resets;
  run = run_holds;
}
