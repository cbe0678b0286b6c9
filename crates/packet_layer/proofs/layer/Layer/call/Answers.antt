use Rattle.std.proofs.lemmas.Grind.{common_steps}
use Rattle.std.proofs.Common.{◌≡◌, ◌∙◌, ◌+◌, ap, sym, subst, Some, ◌<◌, length, set, arith}
use Rattle.std.specs.Prelude.{slice_get, Bool}
use Rattle.packet_channel.specs.Held.{Channel as Holder}
use Rattle.packet_layer.specs.Layer as machine
use Rattle.packet_layer.specs.Layer.{free_channel, owing, placing, set_if}
use Rattle.packet_layer.specs.Held.{Layer as Held, plain, buffers}
use Rattle.packet_layer.specs.LayerView.{layer_of}
use Rattle.packet_layer.proofs.Placed.{placed, fits_kept, borrowed, plain_at, plain_set, buffers_same}
use Rattle.packet_codec.specs.Packet.{CallValue}
use Rattle.packet_codec.specs.View.{call_view}
use Rattle.data_transfer.specs.Octets.{parts_of}
use Rattle.packet_layer.specs.RestartView.{phase_of}
use Rattle.packet_layer.proofs.Places.{kept, call_done, free_ready}
use Rattle.std.specs.Prelude.{true}
use Rattle.packet_layer.proofs.Silence.{layer_touched}
use Rattle.packet_layer.proofs.layer.Layer.call.Goals as goal
use Rattle.packet_layer.proofs.layer.Layer.call.Goals.{then-place_call, else-place_call}

pub place_call-requires : goal.place_call-requires
place_call-requires c =
    let a = c.self.inside in
    let l = layer_of a in
    let held = c.index_mut-channel.result.now in
    let ch = held.channel in
    let within : c.in-Some.place < length l.channels = subst (λ (x : Held). c.in-Some.place < length x.layer.channels) (sym c.self.view_is) c.in-Some.ensures.1.there in
    let there = borrowed a.channels.items c.in-Some.place held within c.index_mut-channel.ensures.value in
    let found : slice_get l.channels c.in-Some.place ≡ Some ch = plain_at a.channels.items c.in-Some.place held there in
    free_ready ch (c.in-Some.ensures.1.free ch (subst (λ (x : Held). slice_get x.layer.channels c.in-Some.place ≡ Some ch) c.self.view_is found))

pub returns-clause-layer : goal.returns-clause-layer
returns-clause-layer c =
    let a = c.self.inside in
    let l = layer_of a in
    let held = c.index_mut-channel.result.now in
    let ch = held.channel in
    let within : c.in-Some.place < length l.channels = subst (λ (x : Held). c.in-Some.place < length x.layer.channels) (sym c.self.view_is) c.in-Some.ensures.1.there in
    let there = borrowed a.channels.items c.in-Some.place held within c.index_mut-channel.ensures.value in
    let found : slice_get l.channels c.in-Some.place ≡ Some ch = plain_at a.channels.items c.in-Some.place held there in
    let parts = parts_of (call_view c.args.call.now) in
    let free : free_channel l.role l.channels ≡ Some (c.in-Some.place + 1) = subst (λ (x : Held). free_channel x.layer.role x.layer.channels ≡ Some (c.in-Some.place + 1)) (sym c.self.view_is) c.in-Some.ensures.0 in
    let new = c.place_call.new.self in
    let placed : new.channel ≡ owing (placing parts ch) = ap (λ (x : Holder). x.channel) c.place_call.ensures.channel ∙ ap (λ (v : CallValue). owing (placing (parts_of v) ch)) c.new-call.ensures in
    let done : kept l c.in-Some.place new.channel c.place_call.result ≡ machine.call c.args.self.now.layer parts = rw (← c.self.view_is) (call_done l c.in-Some.place ch new.channel parts c.place_call.result (ap phase_of c.in-PacketReady.is) free found placed c.place_call.ensures.passes) in
    let same : buffers (set a.channels.items c.in-Some.place new) ≡ c.args.self.now.held = buffers_same a.channels.items c.in-Some.place held new there (ap (λ (x : Holder). x.held) c.place_call.ensures.channel) ∙ ap (λ (x : Held). x.held) c.self.view_is in
    let after : record l { channels = plain (set a.channels.items c.in-Some.place new); relink = set_if c.place_call.result l.relink } ≡ machine.call c.args.self.now.layer parts = ap (λ chs. record l { channels = chs; relink = set_if c.place_call.result l.relink }) (plain_set a.channels.items c.in-Some.place new) ∙ done in
    elim c.if-place_call.branch [
      | then-place_call w ↦ w.self-is ∙ λ i. record { layer = (ap (λ (b : Bool). record l { channels = plain (set a.channels.items c.in-Some.place new); relink = set_if b l.relink }) (sym w.if-place_call.true) ∙ after) i; held = same i }
      | else-place_call w ↦ w.self-is ∙ λ i. record { layer = (ap (λ (b : Bool). record l { channels = plain (set a.channels.items c.in-Some.place new); relink = set_if b l.relink }) (sym w.if-place_call.false) ∙ after) i; held = same i }
    ]

pub invariant_of-self : goal.invariant_of-self
invariant_of-self c =
    let a = c.self.inside in
    let held = c.index_mut-channel.result.now in
    let there = placed a c.args.self.now c.in-Some.place held c.self.view_is c.in-Some.ensures.1.there c.index_mut-channel.ensures.value in
    layer_touched a c.insert.new.self c.in-Some.place held c.place_call.new.self true c.self.invariant c.insert.ensures there (fits_kept a.flow held c.place_call.new.self _ c.place_call.ensures.channel)

pub invariant_of-self-else-place_call : goal.invariant_of-self-else-place_call
invariant_of-self-else-place_call c =
    let a = c.self.inside in
    let held = c.index_mut-channel.result.now in
    let there = placed a c.args.self.now c.in-Some.place held c.self.view_is c.in-Some.ensures.1.there c.index_mut-channel.ensures.value in
    layer_touched a c.insert.new.self c.in-Some.place held c.place_call.new.self c.self.inside.relink c.self.invariant c.insert.ensures there (fits_kept a.flow held c.place_call.new.self _ c.place_call.ensures.channel)

pub index_mut-channel-requires : goal.index_mut-channel-requires
index_mut-channel-requires c = grind (arith, common_steps)

pub insert-requires : goal.insert-requires
insert-requires c = grind (arith, common_steps)

pub returns-clause-most : goal.returns-clause-most
returns-clause-most c = grind (arith, common_steps)
