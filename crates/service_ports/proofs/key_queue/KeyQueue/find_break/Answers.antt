use Rattle.std.proofs.Common.{rules, ◌≡◌, sym, ap, ◌∙◌, position}
use Rattle.service_ports.specs.Counting.{is_break}
use Rattle.service_ports.proofs.Counting.{break_absent}
use Rattle.service_ports.proofs.key_queue.KeyQueue.find_break.Goals as goal

pub returns-then-not-has_break : goal.returns-then-not-has_break
returns-then-not-has_break c =
    let same : c.args.self.now.items ≡ c.self.inside.keys.items = search rules in
    sym (ap (λ keys. position is_break keys) same
    ∙ break_absent c.self.inside.keys.items c.self.inside.counts c.has_break.result c.self.invariant.0 c.has_break.ensures
    c.if-not-has_break.true)
