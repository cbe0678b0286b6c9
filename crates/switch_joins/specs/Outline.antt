-- What decides how a packet goes on to another line.
use Rattle.std.specs.Prelude.{length}
use Rattle.epochs.specs.Item.{DataPacket}
use Rattle.switch_joins.specs.declared.plan.Outline.{Outline}

abbrev pub outline_of : DataPacket → Outline
outline_of d = record { length = length d.octets; more = d.more; qualified = d.qualified; delivery = d.delivery }
