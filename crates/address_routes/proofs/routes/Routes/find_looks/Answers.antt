use Rattle.std.proofs.Common.{◌∙◌}
use Rattle.address_routes.proofs.Beginnings.{line_found, looks_found}
use Rattle.address_routes.proofs.Growing.{linked}
use Rattle.address_routes.proofs.Longest.{found_longest}
use Rattle.address_routes.proofs.routes.Routes.find_looks.Goals as goal

pub walk-walk-requires-clause-linked : goal.walk-walk-requires-clause-linked
walk-walk-requires-clause-linked c = linked _ _ c.self.invariant.tree

pub returns-clause-line : goal.returns-clause-line
returns-clause-line c =
    let digits = c.digits.ensures in
    let walked = c.walk-walk.ensures in
    walked.line
    ∙ line_found c.self.inside.tree.nodes.items c.args.self.now c.digits.result.now c.args.address.now
    c.walk-walk.result.digits c.walk-walk.result.node.0 c.self.view_is digits.value digits.fits
    (record { reached = walked.reached; within = walked.within; last = walked.last })

pub returns-clause-longest : goal.returns-clause-longest
returns-clause-longest c =
    found_longest c.args.self.now c.args.address.now c.walk-walk.result.line (returns-clause-line c)

pub returns-clause-looks : goal.returns-clause-looks
returns-clause-looks c =
    let walked = c.walk-walk.ensures in
    looks_found c.self.inside.tree.nodes.items c.self.inside.count c.args.self.now c.digits.result.now
    c.args.address.now c.walk-walk.result.digits c.walk-walk.result.node.0 c.self.invariant c.self.view_is
    c.digits.ensures.value (record { reached = walked.reached; within = walked.within; last = walked.last })
