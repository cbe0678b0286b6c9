use Rattle.std.proofs.Common.{◌≡◌, position, Some, sym, ◌∙◌}
use Rattle.service.specs.AllBridges.{has_channel}
use Rattle.service.proofs.AllTerminals.{there_at}
use Rattle.service.proofs.EachBridge.{through_none, through_news}
use Rattle.service.proofs.Keys.{found_within}
use Rattle.service.proofs.bridges.Bridges.tell.Goals as goal

pub returns-in_default : goal.returns-in_default
returns-in_default c = through_none _

pub returns : goal.returns
returns c =
    let ports = c.args.self.now.ports.items in
    let found : position (has_channel c.args.at) ports ≡ Some c.in-Some.place = sym c.place_of.ensures ∙ c.in-Some.is in
    through_news c.args.news.now ports c.in-Some.place c.index_mut.result.now _
    (there_at ports c.in-Some.place _ _ (found_within (has_channel c.args.at) ports _ found) c.index_mut.ensures.value)
    c.hear.ensures
