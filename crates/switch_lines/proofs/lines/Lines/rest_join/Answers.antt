use Rattle.std.proofs.Common.{◌≡◌, ◌∙◌, refl, subst, sym, true, List, Some}
use Rattle.data_transfer.specs.Traffic.{Taken}
use Rattle.switch_joins.specs.ChannelSet.{has, is_small}
use Rattle.switch_lines.specs.Lines.{SwitchLine, same_place, front_at}
use Rattle.switch_lines.specs.Waiting.{NothingElseMoves}
use Rattle.switch_joins.proofs.ChannelSets.{still_in, added_in, taken_out}
use Rattle.switch_lines.proofs.Moving.{shown_waits}
use Rattle.switch_lines.proofs.Waiting.{place_same, joined_there, stopped}
use Rattle.switch_lines.proofs.lines.Lines.rest_join.Goals as goal

pub front-requires : goal.front-requires
front-requires c = joined_there c.args.self.now c.args.leg c.args.other c.requires.joined

pub front-requires-2 : goal.front-requires-2
front-requires-2 c = joined_there c.args.self.now c.args.other c.args.leg c.requires.back

pub invariant_of-self : goal.invariant_of-self
invariant_of-self c =
    let s = c.self.inside.to_relay in
    let r = c.self.inside.refusing in
    let one = c.insert_if.new.self in
    let leg = c.args.leg in
    let other = c.args.other in
    let ls = c.args.self.now in
    let moves = subst (λ (ks : List SwitchLine). NothingElseMoves s r ks) c.self.view_is c.self.invariant.moves in
    let here : (v : Taken) → front_at ls leg ≡ Some v → has c.insert_if-2.new.self other ≡ true =
    λ v e. c.insert_if-2.ensures other ∙ still_in (has one other) _ (c.insert_if.ensures other
    ∙ added_in (has r other) c.is_some-waits.result (is_small other) (same_place other other)
    (c.is_some-waits.ensures ∙ shown_waits (front_at ls leg) c.front.result v c.front.ensures e)
    (moves.small other leg c.requires.back) (place_same other other refl refl)) in
    let there : (v : Taken) → front_at ls other ≡ Some v → has c.insert_if-2.new.self leg ≡ true =
    λ v e. c.insert_if-2.ensures leg
    ∙ added_in (has one leg) c.is_some-other_waits.result (is_small leg) (same_place leg leg)
    (c.is_some-other_waits.ensures ∙ shown_waits (front_at ls other) c.front-2.result v c.front-2.ensures e)
    (moves.small leg other c.requires.joined) (place_same leg leg refl refl) in
    record {
      most = c.self.invariant.most;
      rest = c.self.invariant.rest;
      moves = subst (λ (ks : List SwitchLine). NothingElseMoves c.remove-2.new.self c.insert_if-2.new.self ks)
          (sym c.self.view_is)
          (stopped s c.remove-2.new.self r c.insert_if-2.new.self ls leg other c.requires.joined c.requires.back
          c.requires.stuck c.requires.other_stuck here there
          (λ x h. c.insert_if-2.ensures x ∙ still_in (has one x) _ (c.insert_if.ensures x ∙ still_in (has r x) _ h))
          (λ x out. taken_out s c.remove.new.self c.remove-2.new.self leg other x c.remove.ensures c.remove-2.ensures
          out) moves);
      pooled = c.self.invariant.pooled;
    }
