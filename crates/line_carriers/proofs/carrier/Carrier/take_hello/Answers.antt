use Rattle.std.proofs.Common.{length, length-append, arith, ap, ◌∙◌}
use Rattle.std.proofs.lemmas.List.{length-take-le}
use Rattle.line_carriers.proofs.carrier.Carrier.take_hello.Goals as goal

pub joined-octets-requires : goal.joined-octets-requires
joined-octets-requires c =
    omega (arith, simp length-append at (ap length c.front.ensures), length-take-le 48 c.args.self.now.input c.requires)

pub returns-clause-size : goal.returns-clause-size
returns-clause-size c =
    ap length (c.joined-octets.ensures ∙ c.front.ensures) ∙ length-take-le 48 c.args.self.now.input c.requires
