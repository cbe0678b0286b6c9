use Rattle.std.proofs.Common.{◌≡◌, ◌<◌, ◌≤◌, ◌⊎◌, inl, inr, ℕ, Bool, false, true, not, ◌&&◌, ◌∙◌, ap, subst, sym, arith, Option}
use Rattle.std.proofs.lemmas.Bool.{cases_lt}
use Rattle.switch_joins.specs.ChannelSet.{has, is_small}
use Rattle.switch_lines.specs.Lines.{SwitchChannel, same_place}
use Rattle.switch_lines.specs.Pooled.{plain}
use Rattle.switch_joins.proofs.ChannelSets.{is_so_small, never_in, IsApart, not_of_join}
use Rattle.switch_lines.proofs.Waiting.{place_same}
use Rattle.switch_lines.proofs.Waiting.{looked_at}
use Rattle.switch_lines.proofs.lines.reopening.reopen_line.Goals as goal

pub loop-channel-init : goal.loop-channel-init
loop-channel-init c = record {
  moves = c.requires.moves;
  below = λ p at less. absurd (omega (arith, less));
  fewer = λ p out. out;
  most = omega arith;
}

pub loop-channel-preserved : goal.loop-channel-preserved
loop-channel-preserved c =
    let i = c.loop-channel.invariant in
    let found = c.in-Some.ensures in
    let x : SwitchChannel = record { line = c.args.line; channel = c.in-Some.channel } in
    let small : is_small x ≡ true = is_so_small x c.requires.line (omega (arith, found.1)) in
    let gone : (p : SwitchChannel) → has c.loop-channel.refusing p ≡ false → has c.remove.new.self p ≡ false =
    λ p out. c.remove.ensures p ∙ ap (λ (b : Bool). b && not (is_small x && same_place p x)) out in
    let taken : (p : SwitchChannel) → p.line ≡ c.args.line → p.channel ≡ c.in-Some.channel → has c.remove.new.self p ≡ false =
    λ p at same. c.remove.ensures p ∙ never_in (has c.loop-channel.refusing p) (is_small x) (same_place p x) small (place_same p x at same) in
    let earlier : (p : SwitchChannel) → p.line ≡ c.args.line → p.channel < c.in-Some.channel →
    (p.channel < c.loop-channel.next) ⊎ (c.loop-channel.next ≤ p.channel) → has c.loop-channel.refusing p ≡ false =
    λ p at less by. elim by [
      | inl before ↦ i.below p at before
      | inr after ↦ subst (λ (n : ℕ). has c.loop-channel.refusing (record { line = n; channel = p.channel }) ≡ false) (sym at)
          (found.2 p.channel after less)
    ] in
    record {
      moves = looked_at c.loop-channel.to_relay c.insert_join.new.self c.loop-channel.refusing c.remove.new.self
          (plain c.args.lines.now) x
          (λ p out. let a = not_of_join c.loop-channel.to_relay c.insert_join.new.self x c.other_of.result c.insert_join.ensures p out in
          (a.0, subst (λ (o : Option SwitchChannel). IsApart p x o) c.other_of.ensures a.1)) c.remove.ensures i.moves;
      below = λ p at less. elim (cases_lt p.channel c.in-Some.channel) [
        | inl before ↦ gone p (earlier p at before (cases_lt p.channel c.loop-channel.next))
        | inr here ↦ taken p at (omega (arith, less, here))
      ];
      fewer = λ p out. gone p (i.fewer p out);
      most = omega (arith, found.1);
    }

pub returns-clause-none : goal.returns-clause-none
returns-clause-none c = λ p at less. elim (cases_lt p.channel c.loop-channel.next) [
  | inl before ↦ c.loop-channel.invariant.below p at before
  | inr after ↦ subst (λ (n : ℕ). has c.loop-channel.refusing (record { line = n; channel = p.channel }) ≡ false) (sym at)
      (c.in_default.ensures p.channel after less)
]
