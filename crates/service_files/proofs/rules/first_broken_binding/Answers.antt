use Rattle.std.proofs.Common.{◌≡◌, ◌∙◌, ap, sym, subst}
use Rattle.std.specs.Prelude.{IfSome, is_none}
use Rattle.std.specs.Option.{option_or}
use Rattle.service_files.specs.Bindings.{broken_terminals, broken_service, broken_caller, first_broken, Breaks}
use Rattle.service_files.proofs.Fitting.{none_broken, some_broken}
use Rattle.service_files.proofs.rules.first_broken_binding.Goals as goal

pub returns : goal.returns
returns c =
    let config = c.args.config.now in
    let file = c.args.file.now in
    let first : c.or-3.result ≡ first_broken c.args.config.now c.args.file.now =
    c.or-3.ensures
    ∙ ap (λ o. option_or o c.broken_control.result) c.or-2.ensures
    ∙ ap (λ o. option_or (option_or o c.broken_caller.result) c.broken_control.result) c.or.ensures
    ∙ ap (λ o. option_or (option_or (option_or o c.broken_service.result) c.broken_caller.result) c.broken_control.result) c.broken_terminals.ensures
    ∙ ap (λ o. option_or (option_or (option_or (broken_terminals config file) o) c.broken_caller.result) c.broken_control.result) c.broken_service.ensures
    ∙ ap (λ o. option_or (option_or (option_or (broken_terminals config file) (broken_service config file)) o) c.broken_control.result) c.broken_caller.ensures
    ∙ ap (λ o. option_or (option_or (option_or (broken_terminals config file) (broken_service config file)) (broken_caller config file)) o) c.broken_control.ensures in
    record {
      first = first;
      none = ap is_none first ∙ none_broken config file;
      broken = subst (λ o. IfSome o (Breaks config file)) (sym first) (some_broken config file);
    }
