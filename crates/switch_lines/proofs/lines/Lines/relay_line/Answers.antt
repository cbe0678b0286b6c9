use Rattle.std.proofs.Common.{◌-◌, ◌+◌, ap, refl, subst, sym, ◌∙◌, arith, length, List, Option}
use Rattle.switch_lines.specs.Lines.{Joined, SwitchLine}
use Rattle.switch_lines.specs.Pooled.{plain}
use Rattle.switch_lines.specs.Waiting.{NothingElseMoves}
use Rattle.switch_lines.proofs.Pooled.{plain_get, plain_length}
use Rattle.switch_lines.proofs.Legs.{from_channel, this_channel, left_out, none_left_over, whole_line, no_line}
use Rattle.switch_lines.proofs.Waiting.{unmoved_join}
use Rattle.switch_lines.proofs.lines.Lines.relay_line.Goals as goal

pub loop-channel-init : goal.loop-channel-init
loop-channel-init c =
    let items = c.self.inside.lines.items in
    let long = plain_length items in
    record {
      left = whole_line (plain items) c.args.self.now c.args.line c.channels-end.result (c.channels-end.result + 1)
          c.index.result.now.line c.self.view_is (omega (arith, long, c.if-line-len.true, c.len.ensures))
          (plain_get items c.args.line c.index.result.now c.index.ensures) (c.channels-end.ensures.count ∙ ap (λ (js : List (Option Joined)). length js) c.joins.ensures.joined) refl;
      least = omega arith;
      most = omega arith;
    }

pub loop-channel-preserved : goal.loop-channel-preserved
loop-channel-preserved c =
    let s = c.self-in-loop-channel.inside.to_relay in
    let r = c.self-in-loop-channel.inside.refusing in
    let n = c.args.line in
    let next = c.loop-channel.next in
    let channel = c.in-Some.channel in
    let end = c.channels-end.result + 1 in
    let ls = c.loop-channel.self in
    let i = c.loop-channel.invariant in
    let found = c.in-Some.ensures in
    let moves = subst (λ (ks : List SwitchLine). NothingElseMoves s r ks) c.self-in-loop-channel.view_is
    c.self-in-loop-channel.invariant.moves in
    record {
      left = ap (λ (ms : List SwitchLine). from_channel n (channel + 1) end ms) c.relay_join.ensures
          ∙ this_channel n channel end ls found.1
          ∙ sym (left_out (channel - next) n next channel end ls (omega (arith, found.0)) (omega (arith, found.1))
          (λ e least less. unmoved_join s r ls (record { line = n; channel = e }) moves (found.2 e least less)))
          ∙ i.left;
      least = omega arith;
      most = omega (arith, found.1);
    }

pub returns-in_default : goal.returns-in_default
returns-in_default c =
    let s = c.self-in-loop-channel.inside.to_relay in
    let r = c.self-in-loop-channel.inside.refusing in
    let n = c.args.line in
    let next = c.loop-channel.next in
    let end = c.channels-end.result + 1 in
    let ls = c.loop-channel.self in
    let i = c.loop-channel.invariant in
    let moves = subst (λ (ks : List SwitchLine). NothingElseMoves s r ks) c.self-in-loop-channel.view_is
    c.self-in-loop-channel.invariant.moves in
    sym (left_out (end - next) n next end end ls (omega (arith, i.most)) (omega arith)
    (λ e least less. unmoved_join s r ls (record { line = n; channel = e }) moves
    (c.in_default.ensures e least less)) ∙ none_left_over n end ls) ∙ i.left

pub returns-else-line-len : goal.returns-else-line-len
returns-else-line-len c =
    let same = ap (λ (ls : List SwitchLine). length ls) c.self.view_is in
    let long = plain_length c.self.inside.lines.items in
    no_line c.args.self.now c.args.line (omega (arith, same, long, c.if-line-len.false, c.len.ensures))
