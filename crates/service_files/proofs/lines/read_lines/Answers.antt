-- A value more is read.
use Rattle.service_files.specs.Reads.{IsTable}
use Rattle.service_files.specs.Reads.EachSays.{none}
use Rattle.service_files.specs.SaysLine.{SaysLine}
use Rattle.service_files.proofs.Each.{next_value}
use Rattle.service_files.proofs.lines.read_lines.Goals as goal

pub loop-value-init : goal.loop-value-init
loop-value-init c = rw c.new-tables.ensures.items none

pub loop-value-preserved : goal.loop-value-preserved
loop-value-preserved c =
    rw c.in_ok-push.ensures.items
    (next_value (IsTable SaysLine) c.args.values.now c.loop-value.value-index c.value-item.result c.loop-value.tables.items
    c.in_ok-read_line_table.field-0 c.loop-value-test.true c.value-item.is c.in_ok-read_line_table.ensures c.loop-value.invariant)
