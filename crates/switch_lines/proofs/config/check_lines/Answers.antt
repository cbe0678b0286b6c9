use Rattle.std.proofs.lemmas.Grind.{elements}
-- One line more.
use Rattle.std.proofs.Common.{◌≡◌, ◌⊎◌, inl, inr, arith, sym, subst, ap, ◌∙◌, length}
use Rattle.std.specs.Prelude.{slice_get}
use Rattle.std.proofs.lemmas.Bool.{cases_eq, eqb-false}
use Rattle.std.proofs.lemmas.Option.{same_Some, slice_get_within}
use Rattle.joined_line.specs.declared.config.SwitchLineConfig.{SwitchLineConfig}
use Rattle.switch_lines.specs.Making.{IsLineConfig}
use Rattle.switch_lines.proofs.Changing.{there}
use Rattle.switch_lines.proofs.config.check_lines.Goals as goal

pub loop-line-preserved : goal.loop-line-preserved
loop-line-preserved c n x less at = by_place (cases_eq n c.loop-line.line-index)
  where
    by_place : (n ≡ c.loop-line.line-index) ⊎ (n ≡ c.loop-line.line-index → ⊥) → IsLineConfig x
    by_place (inl same) =
        let here = there c.args.lines.now c.loop-line.line-index c.line-item.result c.loop-line-test.true c.line-item.is in
        subst (λ (y : SwitchLineConfig). IsLineConfig y) (same_Some c.line-item.result x (sym here ∙ ap (λ k. slice_get c.args.lines.now k) (sym same) ∙ at)) c.in_ok-check.ensures
    by_place (inr apart) = c.loop-line.invariant n x (omega (arith, less, apart)) at

pub returns : goal.returns
returns c = record {
  least = let some = eqb-false (length c.args.lines.now) 0 (sym c.is_empty.ensures ∙ c.if-is_empty.false) in omega (arith, some);
  most = omega (arith, c.if-lines-gt-MOST_LINES.false);
  each = λ n x at. c.loop-line.invariant n x (let within = slice_get_within c.args.lines.now n x at in omega (arith, within, c.loop-line-test.false)) at;
}

pub returns-in_err-check : goal.returns-in_err-check
returns-in_err-check c = grind (arith, elements)
