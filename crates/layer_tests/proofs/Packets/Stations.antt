-- The pool of a layer has room.
use Rattle.std.proofs.Common.{◌≡◌, ℕ, zero, suc, ◌+◌, ◌*◌, ◌≤◌, Bool, true, false, List, length, refl, ap, sym, subst, ◌∙◌, arith}
use Rattle.std.specs.Prelude.{replicate}
use Rattle.link_timers.specs.declared.role.Role.{Role}
use Rattle.flow_window.specs.Pool.{Buffer, weight}
use Rattle.flow_window.proofs.Weights.{weight_ones}
use Rattle.data_transfer.specs.declared.flow.Flow.{Flow}
use Rattle.packet_channel.specs.Channel.{Request, closed_channel}
use Rattle.packet_layer.specs.Held.{Layer as Held, most_held, HasRoom}
use Rattle.packet_layer.specs.Layer as machine
use Rattle.packet_layer.specs.Layer.{Layer, standing_channels}
use Rattle.packet_layer.proofs.Flows.{flow_request}
use Rattle.layer_tests.specs.declared.packet.station.Station.TheInside.{Inside}
use Rattle.layer_tests.specs.Packets.Station.{IsStation}

-- there is room for all that the layer may hold, and one packet more
pub has_room : (a : Inside) → IsStation a → HasRoom a.pool a.layer.held (most_held a.layer.layer + 1)
has_room a is =
    let exact = is.exact (λ _. 1) in
    let own = weight_ones a.layer.held in
    omega (arith, exact, own, is.places)

made_length : (standing : Bool) (n : ℕ) → length (standing_channels standing (replicate n closed_channel)) ≡ n
made_length true zero = refl
made_length true (suc n) = ap (λ m. suc m) (made_length false n)
made_length false zero = refl
made_length false (suc n) = ap (λ m. suc m) (made_length false n)

pub made_most : (role : Role) (channels : ℕ) (flow : Flow) (standing : Bool) →
    most_held (machine.made role channels flow standing) ≡ channels * (flow.window + 8)
made_most role channels flow standing = ap (λ n. n * (flow.window + 8)) (made_length standing channels)

pub replicated : {X : Type 0} (n : ℕ) (x : X) → length (replicate n x) ≡ n
replicated zero x = refl
replicated (suc n) x = ap (λ m. suc m) (replicated n x)

-- a call that touches no packet
pub kept : (a : Inside) (new : Held) (channel : ℕ) (r : Request) → IsStation a →
    new.layer ≡ machine.request a.layer.layer channel r → most_held new.layer ≡ most_held a.layer.layer →
    new.held ≡ a.layer.held → IsStation (record a { layer = new })
kept a new channel r is done most held = record {
  most =
      let flow = ap (λ (l : Layer). l.flow) done ∙ flow_request a.layer.layer channel r in
      subst (λ (f : Flow). f.size ≤ 1024) (sym flow) is.most;
  size = is.size;
  places = is.places ∙ ap (λ (n : ℕ). n + 1) (sym most);
  exact = λ w. is.exact w ∙ ap (λ (bs : List Buffer). weight w bs) (sym held);
}
