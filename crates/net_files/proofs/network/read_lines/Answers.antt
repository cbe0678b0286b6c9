-- A table more is read, or one is none.
use Rattle.std.proofs.Common.{inr}
use Rattle.toml.specs.View.{table_view, items_view}
use Rattle.net_config.specs.declared.config.LineConfig.{LineConfig}
use Rattle.net_files.specs.Networks.{IsLine, TablesForm}
use Rattle.net_files.specs.Networks.TablesForm.{none}
use Rattle.net_files.proofs.Tables.{next_table, no_table, refused, told_on}
use Rattle.net_files.proofs.network.read_lines.Goals as goal

pub loop-value-init : goal.loop-value-init
loop-value-init c = rw c.new-lines.ensures.items none

pub loop-value-preserved : goal.loop-value-preserved
loop-value-preserved c =
    rw c.in_ok-push.ensures.items
    (next_table IsLine c.args.tables.now c.loop-value.value-index c.value-item.result (table_view c.in_ok-table.field-0.now)
    c.loop-value.lines.items c.in_ok-read_line.field-0 c.loop-value-test.true c.value-item.is c.in_ok-table.ensures
    c.in_ok-read_line.ensures c.loop-value.invariant)

pub returns-in_err-table : goal.returns-in_err-table
returns-in_err-table c =
    told_on (λ lines. TablesForm LineConfig IsLine (items_view c.args.tables.now) lines.items) c.from_residual.result
    c.in_err-table.field-0.0 c.from_residual.ensures.1
    (inr (
      c.in_err-table.ensures.0,
      λ lines. no_table IsLine c.args.tables.now c.loop-value.value-index c.value-item.result
          c.loop-value-test.true c.value-item.is c.in_err-table.ensures.1 lines.items,
    ))

pub returns-in_err-read_line : goal.returns-in_err-read_line
returns-in_err-read_line c =
    told_on (λ lines. TablesForm LineConfig IsLine (items_view c.args.tables.now) lines.items)
    c.from_residual-in_err-read_line.result c.in_err-read_line.field-0.0 c.from_residual-in_err-read_line.ensures.1
    (refused IsLine c.args.tables.now c.loop-value.value-index c.value-item.result (table_view c.in_ok-table.field-0.now)
    c.in_err-read_line.field-0.0 c.loop-value-test.true c.value-item.is c.in_ok-table.ensures c.in_err-read_line.ensures)
