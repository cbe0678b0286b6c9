use Rattle.std.proofs.Common.{subst, sym, List}
use Rattle.switch_lines.specs.Lines.{SwitchLine}
use Rattle.switch_laws.specs.Events.{SwitchHolds, new_legs}
use Rattle.switch_laws.proofs.SwitchAfterEvents.{events_hold}
use Rattle.x25_switch.proofs.Holding.{of_lines}
use Rattle.x25_switch.proofs.switch.Switch.new.Goals as goal

pub invariant_of-result : goal.invariant_of-result
invariant_of-result c =
    let lines = c.args.config.lines.now in
    record {
      legs = new_legs lines;
      holds = subst (λ (ls : List SwitchLine). SwitchHolds (of_lines c.args.config.routes ls) (new_legs lines)) (sym c.in_ok-lines.ensures) (events_hold.begins c.args.config.routes lines c.in_ok-check_lines.ensures);
    }
