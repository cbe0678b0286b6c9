-- A leg of a join: a logical channel of a line together with what was done on it, epoch by epoch.
use Rattle.std.specs.Prelude.{◌≡◌, ℕ, Bool, true, false, List, [], ◌∷◌, Option, Some, None}
use Rattle.link_timers.specs.declared.role.Role.{Role}
use Rattle.data_transfer.specs.Flow.{IsFlow}
use Rattle.data_transfer.specs.declared.flow.Flow.{Flow}
use Rattle.data_transfer.specs.Packets.{Body}
use Rattle.data_transfer.specs.Packets.Body.{Reset, ResetConfirmation, Clear, ClearConfirmation}
use Rattle.data_transfer.specs.Traffic.{fresh, Heard, hears}
use Rattle.packet_channel.specs.Channel.{ChannelState, Channel, Step, Request, Refusal, received, unreadable, refusal}
use Rattle.packet_channel.specs.Channel.{carried_out, owing, next_of}
use Rattle.packet_channel.specs.Channel.ChannelState.{Transfer}
use Rattle.packet_laws.specs.History.{Epoch, empty_epoch, logged, logged_heard}
use Rattle.packet_laws.specs.Counts.{NamesCounts}

-- the role and the flow control of the line; the channel; the epochs of its present call: the past ones, the latest
-- first, and the present one
pub record Leg : Type 0 where
  pub role : Role
  pub flow : Flow
  pub channel : Channel
  pub before : List Epoch
  pub epoch : Epoch

-- a new epoch begins where the end owes the packet that asks for a reset or confirms one; where it owes one that asks
-- for a clear or confirms one, the call is over and so are its epochs
abbrev pub opened : Option Body → Leg → Leg
opened (Some (Reset cause diagnostic)) g = record g { before = g.epoch ∷ g.before; epoch = empty_epoch }
opened (Some ResetConfirmation) g = record g { before = g.epoch ∷ g.before; epoch = empty_epoch }
opened (Some (Clear cause diagnostic)) g = record g { before = []; epoch = empty_epoch }
opened (Some ClearConfirmation) g = record g { before = []; epoch = empty_epoch }
opened _ g = g

-- a step of the channel, in which the present epoch became this one
abbrev pub stepped : Step → Epoch → Leg → Leg
stepped st e g = opened st.owes (record g { channel = owing st; epoch = e })

-- a request; one that is refused changes nothing
abbrev pub asked_unless : Option Refusal → Request → Leg → Leg
asked_unless None q g = stepped (carried_out g.channel q) (logged g.channel.traffic q g.epoch) g
asked_unless (Some r) q g = g

abbrev pub asked : Request → Leg → Leg
asked q g = asked_unless (refusal g.role g.flow g.channel q) q g

-- requests, one after the other
abbrev pub asked_all : List Request → Leg → Leg
asked_all [] g = g
asked_all (q ∷ qs) g = asked_all qs (asked q g)

-- a packet that is heard in d1 covers what its P(R) covers
abbrev pub heard_epoch : ChannelState → Bool → Heard → Epoch → Epoch
heard_epoch Transfer false h e = logged_heard h e
heard_epoch s b h e = e

-- a packet comes from the line, on this channel
abbrev pub heard : (channel : ℕ) → Body → Leg → Leg
heard c p g = stepped (received g.role g.flow c g.channel p)
    (heard_epoch g.channel.state g.channel.resetting (hears g.flow g.channel.traffic p) g.epoch) g

-- an unreadable packet does
abbrev pub misheard : (channel : ℕ) → (unknown : Bool) → Leg → Leg
misheard c unknown g = stepped (unreadable g.role c unknown g.channel) g.epoch g

-- what the channel has next goes to the line
abbrev pub gave : Leg → Leg
gave g = record g { channel = (next_of g.flow g.channel).channel }

-- the leg of a call that was just connected
abbrev pub connected : Role → (flow : Flow) → List Body → Leg
connected role flow owed = record {
  role = role;
  flow = flow;
  channel = record { state = Transfer; resetting = false; owed = owed; traffic = fresh };
  before = [];
  epoch = empty_epoch;
}

-- what always holds of a leg that no user stops: its flow control is one of a line; its numbers name the counts of its
-- epoch; while its own reset is not confirmed nothing was sent or taken; and an interrupt waits only where none is
-- unconfirmed
pub record IsLeg (g : Leg) : Type 0 where
  pub flow : IsFlow g.flow
  pub counts : NamesCounts g.flow g.channel.traffic g.epoch
  pub traffic_anew : g.channel.resetting ≡ true → g.channel.traffic ≡ fresh
  pub epoch_anew : g.channel.resetting ≡ true → g.epoch ≡ empty_epoch
  pub one_interrupt : g.channel.traffic.interrupt_unconfirmed ≡ true → g.channel.traffic.interrupt_waiting ≡ None
