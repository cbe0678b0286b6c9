use Rattle.record_laws.proofs.CallPaths.Path.{hops_bounded, hops_room}
use Rattle.record_laws.proofs.CallPaths.Hopping.{made_paths, paths_go}
use Rattle.record_laws.proofs.call_path.tree_law.Goals as goal

pub returns : goal.returns
returns c = record { hops = hops_bounded; room = hops_room; made = made_paths; events = paths_go }
