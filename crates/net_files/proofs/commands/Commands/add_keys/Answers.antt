use Rattle.std.proofs.lemmas.Grind.{common_steps}
use Rattle.std.proofs.Common.{◌≡◌, ◌-◌, length, arith}
use Rattle.net_files.specs.Texts.{octets_of}
use Rattle.net_files.proofs.Kept.{with_spelled}
use Rattle.net_files.proofs.commands.Commands.add_keys.Goals as goal

pub invariant_of-self-2 : goal.invariant_of-self-2
invariant_of-self-2 c =
    let i = c.self.inside in
    let count = c.len.result - c.len-before.result in
    let many : count ≡ length c.add_text.new.octets.items - length i.octets.items =
    omega (arith, c.len.ensures, c.len-before.ensures) in
    rw (c.push_reserved.ensures.items, c.in_ok-reserve.ensures.items)
    (with_spelled i.entries.items i.events.items i.octets.items c.args.node c.args.terminal count c.add_text.new.octets.items
    (octets_of c.args.text.now) c.self.invariant c.in_default.ensures.read many).0

pub returns : goal.returns
returns c =
    let i = c.self.inside in
    let count = c.len.result - c.len-before.result in
    let many : count ≡ length c.add_text.new.octets.items - length i.octets.items =
    omega (arith, c.len.ensures, c.len-before.ensures) in
    rw (c.push_reserved.ensures.items, c.in_ok-reserve.ensures.items, ← c.self.view_is)
    (with_spelled i.entries.items i.events.items i.octets.items c.args.node c.args.terminal count c.add_text.new.octets.items
    (octets_of c.args.text.now) c.self.invariant c.in_default.ensures.read many).1

pub invariant_of-self-in-Err : goal.invariant_of-self-in-Err
invariant_of-self-in-Err c = grind (arith, common_steps)
