use Rattle.std.proofs.Common.{ap, sym, ◌∙◌, Bool, ℕ, ◌==◌}
use Rattle.std.proofs.lemmas.List.{length-map}
use Rattle.packet_layer.specs.RestartView.{restart_body}
use Rattle.std.specs.Prelude.{◌&&◌, length}
use Rattle.std.specs.List.{list_all}
use Rattle.std.proofs.lemmas.List.Folds.{list_all-map}
use Rattle.packet_channel.specs.Channel.{channel_rests}
use Rattle.packet_channel.specs.Held.{Channel as Holder}
use Rattle.packet_layer.specs.Held.{Layer as Held, plain}
use Rattle.packet_layer.specs.Layer.{at_rest}
use Rattle.packet_layer.proofs.layer.Layer.is_at_rest.Goals as goal

pub returns-then-is_empty : goal.returns-then-is_empty
returns-then-is_empty c =
    let items = c.self.inside.channels.items in
    c.rest.ensures
    ∙ ap (list_all (λ (ch : Holder). channel_rests ch.channel)) c.as_slice.ensures.value
    ∙ sym (list_all-map channel_rests (λ (ch : Holder). ch.channel) items)
    ∙ ap (λ (b : Bool). b && list_all channel_rests (plain items)) (c.if-is_empty.ensures ∙ ap (λ (n : ℕ). n == 0) (ap length c.deref.ensures ∙ sym (length-map c.self.inside.owed restart_body)))
    ∙ ap (λ (x : Held). at_rest x.layer) c.self.view_is
