use Rattle.std.proofs.Common.{rules, ◌≡◌, ◌∙◌, ap, sym, subst}
use Rattle.std.specs.Prelude.{IfSome, is_none}
use Rattle.net_config.specs.Rules.{first_broken, Breaks}
use Rattle.net_config.proofs.FirstBroken.{none_broken, some_broken}
use Rattle.net_config.proofs.rules.first_broken_rule.Goals as goal

pub returns : goal.returns
returns c =
    let config = c.args.config.now in
    let first : c.or_else-4.result ≡ first_broken c.args.config.now = search rules in
    record {
      first = first;
      none = ap is_none first ∙ none_broken config;
      broken = subst (λ o. IfSome o (Breaks config)) (sym first) (some_broken config);
    }
