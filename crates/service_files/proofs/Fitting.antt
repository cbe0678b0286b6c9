-- The first rule that a service file breaks: none is found exactly of one that fits, and one that is does not hold.
use Rattle.std.proofs.Common.{◌≡◌, Bool, true, false, ◌&&◌, cond, Option, Some, None, refl, ap, ◌∙◌}
use Rattle.std.specs.Prelude.{IfSome, is_none}
use Rattle.std.specs.List.{list_all}
use Rattle.std.specs.Option.{option_or}
use Rattle.net_config.specs.declared.config.Config.{Config}
use Rattle.net_config.proofs.FirstBroken.{none_at, some_at, none_of_or, if_or}
use Rattle.service_files.specs.declared.file.ServiceFile.{ServiceFile}
use Rattle.service_files.specs.declared.rules.BrokenBinding.TheVariants as broken
use Rattle.service_files.specs.Bindings.{terminals_keep, terminals_rules, terminals_fit, service_keeps, service_rules, service_fits}
use Rattle.service_files.specs.Bindings.{caller_keeps, caller_rules, caller_fits}
use Rattle.service_files.specs.Bindings.{is_control_here, fits, broken_terminals, broken_service, broken_caller, broken_control, first_broken, Breaks}

none_of_control : (b : Bool) → is_none (cond b None (Some broken.ControlBeyond)) ≡ b
none_of_control true = refl
none_of_control false = refl

regrouped : (a b c d : Bool) → (((a && b) && c) && d) ≡ (a && b && c && d)
regrouped true true true d = refl
regrouped true true false d = refl
regrouped true false c d = refl
regrouped false b c d = refl

pub none_broken : (c : Config) (f : ServiceFile) → is_none (first_broken c f) ≡ fits c f
none_broken c f =
    none_of_or (option_or (option_or (broken_terminals c f) (broken_service c f)) (broken_caller c f)) (broken_control f)
    ∙ ap (λ b. b && is_none (broken_control f)) (none_of_or (option_or (broken_terminals c f) (broken_service c f)) (broken_caller c f))
    ∙ ap (λ b. (b && is_none (broken_caller c f)) && is_none (broken_control f)) (none_of_or (broken_terminals c f) (broken_service c f))
    ∙ ap (λ b. ((b && is_none (broken_service c f)) && is_none (broken_caller c f)) && is_none (broken_control f))
    (none_at (terminals_fit c f) (terminals_keep c f) terminals_rules broken.Terminals (λ t bad. bad) f.terminals.items)
    ∙ ap (λ b. ((list_all (terminals_fit c f) f.terminals.items && b) && is_none (broken_caller c f)) && is_none (broken_control f))
    (none_at (service_fits c f) (service_keeps c f) service_rules broken.Service (λ s bad. bad) f.services.items)
    ∙ ap (λ b. ((list_all (terminals_fit c f) f.terminals.items && list_all (service_fits c f) f.services.items) && b) && is_none (broken_control f))
    (none_at (caller_fits c f) (caller_keeps c f) caller_rules broken.Caller (λ t bad. bad) f.callers.items)
    ∙ ap (λ b. ((list_all (terminals_fit c f) f.terminals.items && list_all (service_fits c f) f.services.items) && list_all (caller_fits c f) f.callers.items) && b)
    (none_of_control (is_control_here f.control))
    ∙ regrouped (list_all (terminals_fit c f) f.terminals.items) (list_all (service_fits c f) f.services.items)
    (list_all (caller_fits c f) f.callers.items) (is_control_here f.control)

pub some_broken : (c : Config) (f : ServiceFile) → IfSome (first_broken c f) (Breaks c f)
some_broken c f =
    if_or (Breaks c f) (option_or (option_or (broken_terminals c f) (broken_service c f)) (broken_caller c f)) (broken_control f)
    (if_or (Breaks c f) (option_or (broken_terminals c f) (broken_service c f)) (broken_caller c f)
    (if_or (Breaks c f) (broken_terminals c f) (broken_service c f)
    (some_at (terminals_fit c f) (terminals_keep c f) terminals_rules broken.Terminals (Breaks c f) f.terminals.items (λ place rule t there bad. (t, there, bad)))
    (some_at (service_fits c f) (service_keeps c f) service_rules broken.Service (Breaks c f) f.services.items (λ place rule s there bad. (s, there, bad))))
    (some_at (caller_fits c f) (caller_keeps c f) caller_rules broken.Caller (Breaks c f) f.callers.items (λ place rule t there bad. (t, there, bad))))
    (control (is_control_here f.control) refl)
  where
    control : (b : Bool) → is_control_here f.control ≡ b → IfSome (cond b None (Some broken.ControlBeyond)) (Breaks c f)
    control true is = tt
    control false is = is
