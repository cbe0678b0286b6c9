use Rattle.std.proofs.Common.{◌<◌, length, refl, arith, rules, tests}
use Rattle.user_nodes.specs.Node.{Pad}
use Rattle.net_events.specs.NodeEvents.{AtTerminal}
use Rattle.node_events.proofs.Writing.{called_terminal}
use Rattle.node_events.proofs.Users.{terminal_there, called_by}
use Rattle.node_events.proofs.serving.call_pad.Goals as goal

pub returns-clause-called : goal.returns-clause-called
returns-clause-called c =
    let p = c.args.pad.now in
    let o = c.in_ok-open_turn.ensures.opened in
    let less : c.args.terminal < length p.ports = omega (arith, c.if-terminal-from.false, c.terminals.ensures.count, c.from.ensures) in (
      terminal_there c.args.terminal p less,
      rw (c.at_terminal.ensures.pad)
          (called_by c.args.at (AtTerminal c.args.terminal c.args.event) (Pad p) _ _ c.open_turn.new.register c.open_turn.new.register c.open_turn.new.answer _ o refl refl
          (called_terminal c.args.at.role p c.args.terminal c.args.event c.open_turn.new.register.book c.requires.quiet o.writes o.pairs)
          c.in_ok-open_turn.ensures.empty.ready refl refl c.at_terminal.ensures.outcome c.at_terminal.ensures.text),
    )

pub returns-then-terminal-from-clause-called : goal.returns-then-terminal-from-clause-called
returns-then-terminal-from-clause-called c = search (rules, tests)
