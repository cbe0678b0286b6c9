use Rattle.std.proofs.Common.{rules, ◌≡◌, sym, ap, ◌∙◌, position}
use Rattle.service_ports.specs.Counting.{is_break}
use Rattle.service_ports.specs.Ports.{is_break_or}
use Rattle.service_ports.proofs.Counting.{octet_or_break}
use Rattle.service_ports.proofs.key_queue.KeyQueue.find_break_or.Goals as goal

pub returns-then-not-has_octet : goal.returns-then-not-has_octet
returns-then-not-has_octet c =
    let same : c.args.self.now.items ≡ c.self.inside.keys.items = search rules in
    c.find_break.ensures ∙ ap (λ keys. position is_break keys) same
    ∙ sym (octet_or_break c.self.inside.keys.items c.self.inside.counts c.args.octet c.has_octet.result c.self.invariant.0
    c.ranges.octet.fits c.has_octet.ensures c.if-not-has_octet.true)
    ∙ sym (ap (λ keys. position (is_break_or c.args.octet) keys) same)
