use Rattle.std.proofs.Common.{◌≡◌, ◌∙◌, ap, subst, sym, List}
use Rattle.switch_lines.specs.Lines.{SwitchLine, SwitchChannel}
use Rattle.switch_lines.specs.Relay.{relayed, most_moves}
use Rattle.switch_lines.specs.Waiting.{other_at, IsStuck, NothingElseMoves}
use Rattle.switch_lines.proofs.Legs.{to_relayed}
use Rattle.switch_lines.proofs.Waiting.{relayed_stuck, forgotten}
use Rattle.switch_lines.proofs.lines.Lines.relay_join.Goals as goal

-- what a channel is joined to after two relays
still_joined : (ls ms ks : List SwitchLine) (p q x : SwitchChannel) → ms ≡ relayed most_moves p ls →
    ks ≡ relayed most_moves q ms → other_at ks x ≡ other_at ls x
still_joined ls ms ks p q x first second =
    ap (λ (zs : List SwitchLine). other_at zs x) second ∙ to_relayed most_moves q ms x
    ∙ (ap (λ (zs : List SwitchLine). other_at zs x) first ∙ to_relayed most_moves p ls x)

pub rest_join-requires-clause-joined : goal.rest_join-requires-clause-joined
rest_join-requires-clause-joined c =
    still_joined c.args.self.now c.relay_channel-all.new.self c.relay_channel-all_back.new.self c.args.leg
    c.in-Some.other c.args.leg c.relay_channel-all.ensures.lines c.relay_channel-all_back.ensures.lines
    ∙ sym c.in-Some.ensures.other

pub rest_join-requires-clause-back : goal.rest_join-requires-clause-back
rest_join-requires-clause-back c = c.if-is_joined_to.ensures

pub rest_join-requires-clause-stuck : goal.rest_join-requires-clause-stuck
rest_join-requires-clause-stuck c =
    subst (λ (ls : List SwitchLine). IsStuck ls c.args.leg) (sym c.relay_channel-all_back.ensures.lines)
    (relayed_stuck most_moves c.in-Some.other c.args.leg c.relay_channel-all.new.self c.if-all.ensures.stuck)

pub invariant_of-self : goal.invariant_of-self
invariant_of-self c =
    let s = c.self.inside.to_relay in
    let r = c.self.inside.refusing in
    let ls = c.args.self.now in
    let moves = subst (λ (ks : List SwitchLine). NothingElseMoves s r ks) c.self.view_is c.self.invariant.moves in
    record {
      most = c.self.invariant.most;
      rest = c.self.invariant.rest;
      moves = subst (λ (ks : List SwitchLine). NothingElseMoves c.remove.new.self r ks) (sym c.self.view_is)
          (forgotten s c.remove.new.self r ls c.args.leg (sym c.in_default.ensures.other) c.remove.ensures moves);
      pooled = c.self.invariant.pooled;
    }
