-- The notes that are left make the same lines as all of them did at the beginning, and the first call was joined then
-- that has been found, or that they join.
use Rattle.std.proofs.Common.{◌≡◌, ◌+◌, ◌<◌, length}
use Rattle.std.specs.Prelude.{slice_get}
use Rattle.std.specs.Option.{option_or}
use Rattle.switch_lines.specs.NewJoins.{joins_heeded}
use Rattle.switch_lines.specs.ByPlace.{notes_on}
use Rattle.switch_lines.specs.Switch.{notes_heeded}
use Rattle.switch_lines.proofs.lines.Lines.heed_line.Given as goal

abbrev pub invariant-loop : goal.invariant-loop
invariant-loop l = record {
  left : notes_heeded l.routes l.line l.self ≡ notes_heeded l.routes l.line l.fn.self;
  first : option_or l.joined (slice_get (joins_heeded l.routes l.line l.self) 0)
      ≡ slice_get (joins_heeded l.routes l.line l.fn.self) 0;
  there : l.line < length l.self;
  count : length (notes_on l.self l.line) + l.counter ≡ l.end;
}
