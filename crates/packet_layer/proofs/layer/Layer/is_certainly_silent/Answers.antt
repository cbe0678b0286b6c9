use Rattle.std.proofs.Common.{◌≡◌, ◌==◌, false, length, subst}
use Rattle.std.specs.Prelude.{is_some}
use Rattle.std.specs.Bool.{OnTrue}
use Rattle.packet_layer.specs.Held.{Layer as Held}
use Rattle.packet_layer.specs.Layer.{next_packet}
use Rattle.packet_layer.proofs.Round.{silent_where_empty}
use Rattle.packet_layer.proofs.layer.Layer.is_certainly_silent.Goals as goal

pub returns-then-is_empty : goal.returns-then-is_empty
returns-then-is_empty c =
    let result = c.is_empty-then-is_empty.result in
    subst (λ (x : Held). OnTrue result (is_some (next_packet x.layer).packet ≡ false)) c.self.view_is
    (silent_where_empty c.self.inside result c.self.invariant c.if-is_empty.ensures.none
    (subst (λ xs. result ≡ (length xs == 0)) c.deref.ensures c.is_empty-then-is_empty.ensures))
