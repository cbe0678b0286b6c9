-- A value more is read, or one is refused.
use Rattle.toml.specs.View.{items_view}
use Rattle.service_files.specs.declared.addresses.Prefix.{Prefix}
use Rattle.service_files.specs.Reads.{EachSays}
use Rattle.service_files.specs.Reads.EachSays.{none}
use Rattle.service_files.specs.Says.{SaysPrefix}
use Rattle.service_files.proofs.Each.{next_value, value_refused, told_on}
use Rattle.service_files.proofs.values.read_prefixes.Goals as goal

pub loop-value-init : goal.loop-value-init
loop-value-init c = rw c.new-prefixes.ensures.items none

pub loop-value-preserved : goal.loop-value-preserved
loop-value-preserved c =
    rw c.in_ok-push.ensures.items
    (next_value SaysPrefix c.args.values.now c.loop-value.value-index c.value-item.result c.loop-value.prefixes.items
    c.in_ok-read_prefix.field-0 c.loop-value-test.true c.value-item.is c.in_ok-read_prefix.ensures c.loop-value.invariant)

pub returns-in_err-read_prefix : goal.returns-in_err-read_prefix
returns-in_err-read_prefix c =
    told_on (λ xs. EachSays Prefix SaysPrefix (items_view c.args.values.now) xs.items) c.from_residual.result
    c.in_err-read_prefix.field-0.0 c.from_residual.ensures.1
    (value_refused SaysPrefix c.args.values.now c.loop-value.value-index c.value-item.result c.in_err-read_prefix.field-0.0
    c.loop-value-test.true c.value-item.is c.in_err-read_prefix.ensures)
