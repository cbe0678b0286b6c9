use Rattle.std.proofs.Common.{rules, arith, ◌≡◌, sym, ◌∙◌, position, Some}
use Rattle.service_ports.specs.Ports.{is_break_or}
use Rattle.service.proofs.Keys.{found_within, urgent_found}
use Rattle.service.proofs.terminal.Terminal.overtake.Goals as goal

pub returns-in-Some-clause-dropped : goal.returns-in-Some-clause-dropped
returns-in-Some-clause-dropped c =
    let keys = c.args.self.now.port.keys.items in
    let place = c.in-Some.place in
    let found : position (is_break_or 16) keys ≡ Some place = sym c.find_key.ensures ∙ c.in-Some.is in
    record {
      count = place;
      within = omega (arith, found_within (is_break_or 16) keys place found);
      urgent = urgent_found keys place found;
      dropped = search rules;
    }
