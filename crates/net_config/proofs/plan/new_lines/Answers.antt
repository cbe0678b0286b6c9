use Rattle.std.proofs.lemmas.Grind.{common_steps}
use Rattle.std.proofs.Common.{rules, ◌≡◌, ◌++◌, ◌∷◌, [], refl, sym, ap, ◌∙◌, arith}
use Rattle.std.specs.Prelude.{slice_get}
use Rattle.std.proofs.lemmas.Option.{slice_get_read}
use Rattle.std.proofs.lemmas.List.{map_more}
use Rattle.net_config.specs.Plan.{new_line}
use Rattle.net_config.proofs.Naming.{served_line}
use Rattle.net_config.proofs.plan.new_lines.Goals as goal

pub new_line-requires : goal.new_line-requires
new_line-requires c =
    let at = c.loop-line.line-index in
    let item = c.line-item.result in
    let there = slice_get_read c.deref-line-items.result.now _ at item refl c.loop-line-test.true c.line-item.is in
    (served_line c.args.config.now c.requires at item (sym (ap (λ xs. slice_get xs at) c.deref-line-items.ensures.value) ∙ there)).within

pub loop-line-preserved : goal.loop-line-preserved
loop-line-preserved c =
    let pushed : c.push.new.self.items ≡ c.loop-line.lines.items ++ c.new_line.result ∷ [] = search rules in
    pushed ∙ rw (
      c.new_line.ensures,
      c.deref.ensures.value,
      c.loop-line.invariant,
      map_more (new_line c.args.config.now.nodes.items) c.deref-line-items.result.now c.loop-line.line-index c.line-item.result c.loop-line-test.true,
      ← c.line-item.is,
    ) refl

pub returns-clause-ok : goal.returns-clause-ok
returns-clause-ok c = grind (arith, common_steps)
