use Rattle.std.proofs.Common.{subst}
use Rattle.std.specs.Prelude.{IfOk, MatchOption}
use Rattle.network_reasons.specs.Checks.{IsRefused, IsRead}
use Rattle.network_reasons.proofs.checking.read_network.Goals as goal

pub returns-in-Some : goal.returns-in-Some
returns-in-Some c =
    subst (λ octets. IfOk c.read_text.result (λ config. MatchOption config (IsRefused octets) (IsRead octets)))
    c.in-Some.ensures c.read_text.ensures
