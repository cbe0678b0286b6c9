use Rattle.std.proofs.Common.{◌≡◌, min, arith}
use Rattle.xot_codec.specs.Facilities.{asked_after}
use Rattle.xot_codec.proofs.Asking.{with_other_is}
use Rattle.xot_codec.proofs.facilities.with_value.Goals as goal

pub returns-clause-same : goal.returns-clause-same
returns-clause-same c =
    let least : c.min.result ≡ min c.args.one c.in-Some.other = omega (arith, c.min.ensures) in
    with_other_is c.args.asked c.args.code c.args.one c.in-Some.other c.min.result c.args.octets.now c.in-Some.rest.now
    c.with_smaller-asked.result (asked_after c.before-2.result) c.in-Some.ensures c.requires least
    c.with_smaller-asked.ensures c.before-2.ensures.same
