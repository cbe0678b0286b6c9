use Rattle.std.proofs.Common.{◌≡◌, position, Some, sym, ◌∙◌}
use Rattle.service.specs.AllBridges.{has_channel}
use Rattle.service.proofs.AllTerminals.{there_at}
use Rattle.service.proofs.EachBridge.{ends_none, ends_one}
use Rattle.service.proofs.Keys.{found_within}
use Rattle.service.proofs.bridges.Bridges.end_call.Goals as goal

pub returns-in_default : goal.returns-in_default
returns-in_default c = ends_none c.args.at _ (sym c.place_of.ensures ∙ c.in_default.is)

pub returns : goal.returns
returns c =
    let ports = c.args.self.now.ports.items in
    let found : position (has_channel c.args.at) ports ≡ Some c.in-Some.place = sym c.place_of.ensures ∙ c.in-Some.is in
    ends_one c.args.at ports c.in-Some.place c.index_mut.result.now _ found
    (there_at ports c.in-Some.place _ _ (found_within (has_channel c.args.at) ports _ found) c.index_mut.ensures.value)
    c.end_call.ensures.hears c.end_call.ensures.gone
