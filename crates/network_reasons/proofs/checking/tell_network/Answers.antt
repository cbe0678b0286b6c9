use Rattle.network_reasons.specs.Checks.{IsRead}
use Rattle.network_reasons.proofs.checking.tell_network.Goals as goal

pub returns-in_ok-tell_counts-in-Some : goal.returns-in_ok-tell_counts-in-Some
returns-in_ok-tell_counts-in-Some c =
    let read : IsRead c.args.octets.now c.in-Some.config = rw c.in-Some.is at c.in_ok-config.ensures in
    (c.in-Some.config, read)
