-- What contracts see of the code's lines of a switch, and what always holds of them.
use Rattle.std.specs.Prelude.{◌≤◌, List, length}
use Rattle.switch_lines.specs.Lines.{SwitchLine}
use Rattle.switch_lines.specs.Pooled.{plain, ArePooled}
use Rattle.switch_lines.specs.Touched.{NothingElseIsLeft}
use Rattle.switch_lines.specs.Waiting.{NothingElseMoves}
use Rattle.switch_lines.specs.declared.lines.Lines.TheInside.{Inside}

abbrev pub lines_of : Inside → List SwitchLine
lines_of a = plain a.lines.items

-- there are at most 64, nothing is left to do on those on which nothing happened, nor to relay on the joins on which
-- nothing happened, and they share the pool
pub record AreLines (a : Inside) : Type 0 where
  pub most : length a.lines.items ≤ 64
  pub rest : NothingElseIsLeft a.touched a.untaken (plain a.lines.items)
  pub moves : NothingElseMoves a.to_relay a.refusing (plain a.lines.items)
  pub pooled : ArePooled a.pool a.lines.items
