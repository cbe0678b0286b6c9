-- Nothing is missing if both ends of a line are at rest: the other end took all that one end sent in the present epoch
-- of a call.
use Rattle.std.specs.Prelude.{◌≡◌, ℕ, true, false, List, Some}
use Rattle.link_timers.specs.declared.role.Role.TheVariants.{Dte}
use Rattle.lapb.specs.Machine.{Octets}
use Rattle.lapb.specs.World.{World}
use Rattle.packet_channel.specs.Channel.{Channel}
use Rattle.packet_layer.specs.Layer.{channel_of}
use Rattle.packet_laws.specs.History.{Epoch}
use Rattle.packet_laws.specs.LayerLine as layers
use Rattle.packet_laws.specs.LayerLineLaw.{Holds, Together, epoch_now}
use Rattle.packet_end.specs.PacketEnd.{PacketEnd, at_rest}
use Rattle.node_laws.specs.Lines.Joint.{JointAt}

-- both ends are at rest (their links are up with nothing unacknowledged, and nothing is owed or waits to be sent or
-- taken), and neither layer asks for a relink
pub record AreAtRest (dte dce : PacketEnd) : Type 0 where
  pub at_dte : at_rest dte ≡ true
  pub at_dce : at_rest dce ≡ true
  pub no_relink_at_dte : dte.layer.relink ≡ false
  pub no_relink_at_dce : dce.layer.relink ≡ false

-- the one end took all that the other one sent, packets (with M, Q and D) and interrupts
pub record HasAll (sender taker : Epoch) : Type 0 where
  pub packets : taker.taken ≡ sender.sent
  pub interrupts : taker.interrupts_taken ≡ sender.interrupts_sent

-- on channel c both ends stand in session s and in states that belong together; in its present epoch each took all that
-- the other one sent in its own
pub record NothingIsMissing (v : layers.Line) (s c : ℕ) (a b : Channel) : Type 0 where
  pub up_at_dte : v.me.session ≡ Some s
  pub up_at_dce : v.you.session ≡ Some s
  pub together : Together a.state b.state
  pub same_restart : (v.me.histories s c).restart ≡ (v.you.histories s c).restart
  pub same_use : (v.me.histories s c).use_ ≡ (v.you.histories s c).use_
  pub same_epoch : (v.me.histories s c).epoch ≡ (v.you.histories s c).epoch
  pub forth : HasAll (epoch_now (v.me.histories s c)) (epoch_now (v.you.histories s c))
  pub back : HasAll (epoch_now (v.you.histories s c)) (epoch_now (v.me.histories s c))

-- so it is on each channel of a line on which the law of two layers holds
abbrev pub RestLaw : Type 0
RestLaw = (w : World) (v : layers.Line) (dte dce : PacketEnd) (up down : List Octets) → JointAt Dte w v dte dce up down
    → AreAtRest dte dce → (c : ℕ) → ((s : ℕ) → Holds v s c)
    → (a b : Channel) → channel_of dte.layer c ≡ Some a → channel_of dce.layer c ≡ Some b
    → NothingIsMissing v w.session c a b
