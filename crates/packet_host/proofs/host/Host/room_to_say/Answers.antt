use Rattle.std.proofs.Common.{◌≡◌, arith, rules}
use Rattle.packet_host.specs.Saying.{room_to_say}
use Rattle.packet_host.proofs.Sayable.{sayable}
use Rattle.packet_host.proofs.host.Host.room_to_say.Goals as goal

pub returns-clause-taken : goal.returns-clause-taken
returns-clause-taken c =
    let exact : c.min.result ≡ room_to_say c.args.self.now.layer c.args.channel = search rules in
    λ octets some within. sayable c.args.self.now.layer c.args.channel octets some (omega (arith, exact))
