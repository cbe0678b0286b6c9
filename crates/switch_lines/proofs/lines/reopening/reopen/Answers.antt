use Rattle.std.proofs.Common.{◌≡◌, inl, inr, Bool, true, false, not, ◌&&◌, ◌∙◌, ap, refl, sym, true≢false}
use Rattle.std.proofs.lemmas.Bool.{cases_eq, ne_eqb}
use Rattle.number_set.specs.NumberSet as numbers
use Rattle.switch_lines.proofs.Moving.{small_channel}
use Rattle.switch_lines.proofs.lines.reopening.reopen.Goals as goal

pub loop-line-init : goal.loop-line-init
loop-line-init c = record { moves = c.requires; none = λ p small there out. absurd (true≢false (sym there ∙ out)) }

pub reopen_line-requires : goal.reopen_line-requires
reopen_line-requires c = record { line = c.in-Some.ensures.within; moves = c.loop-line.invariant.moves }

pub loop-line-preserved : goal.loop-line-preserved
loop-line-preserved c =
    let i = c.loop-line.invariant in
    let first = c.in-Some.ensures.first in
    record {
      moves = c.reopen_line.ensures.moves;
      none = λ p small there out. elim (cases_eq p.line c.in-Some.line) [
        | inl same ↦ c.reopen_line.ensures.none p same (small_channel p small)
        | inr apart ↦ c.reopen_line.ensures.fewer p (i.none p small there
            (sym (first.others p.line ∙ ap (λ (b : Bool). numbers.has c.loop-line.which p.line && not b)
            (ne_eqb p.line c.in-Some.line apart) ∙ and_yes (numbers.has c.loop-line.which p.line)) ∙ out))
      ];
    }
  where
    and_yes : (b : Bool) → (b && true) ≡ b
    and_yes true = refl
    and_yes false = refl

pub returns-clause-none : goal.returns-clause-none
returns-clause-none c = λ p small there. c.loop-line.invariant.none p small there (c.in_default.ensures.first p.line)
