use Rattle.std.proofs.Common.{◌≡◌, ◌++◌, ◌∷◌, ◌+◌, [], length, take, sym, ap, ◌∙◌, arith}
use Rattle.std.proofs.lemmas.List.{take_more, length-take-le}
use Rattle.net_config.specs.Plan.{lines_from}
use Rattle.net_config.proofs.Own.{lines_more, lines_same}
use Rattle.net_config.proofs.plan.lines_at.Goals as goal
use Rattle.net_config.proofs.plan.lines_at.Goals.{then-has_end+in_ok-push, else-has_end}

pub loop-number-preserved : goal.loop-number-preserved
loop-number-preserved c =
    let lines = c.args.lines.now in
    let at = c.loop-number.number in
    let item = c.index-lines-number.result in
    let name = c.args.name.now in
    let more = ap (λ xs. lines_from 0 name xs) (take_more lines at item c.loop-number-test.true
    ∙ ap (λ l. take at lines ++ l ∷ []) (sym c.index-lines-number.is)) in
    let count : length (take at lines) ≡ at = length-take-le at lines (let within = c.loop-number-test.true in omega (arith, within)) in
    let number : 0 + length (take at lines) ≡ at = omega (arith, count) in
    elim c.if-has_end.branch [
      | then-has_end+in_ok-push w ↦
          ap (λ v. v.items) w.own-is ∙ w.in_ok-push.ensures.items
          ∙ ap (λ xs. xs ++ at ∷ []) c.loop-number.invariant
          ∙ ap (λ n. lines_from 0 name (take at lines) ++ n ∷ []) (sym number)
          ∙ sym (lines_more 0 name (take at lines) item (sym c.has_end.ensures ∙ w.if-has_end.true)) ∙ sym more
      | else-has_end w ↦
          ap (λ v. v.items) w.own-is ∙ c.loop-number.invariant
          ∙ sym (lines_same 0 name (take at lines) item (sym c.has_end.ensures ∙ w.if-has_end.false)) ∙ sym more
    ]
