-- The legs of all channels of a switch, and how what happens at the packet layers moves them.
use Rattle.std.specs.Prelude.{◌≡◌, ℕ, Bool, true, false, if◌then◌else◌, ◌==◌, List, [], ◌∷◌, map, slice_get, Option}
use Rattle.std.specs.Prelude.{Some, None}
use Rattle.link_timers.specs.declared.role.Role.{Role}
use Rattle.packet_codec.specs.Diagnostic.{no_information}
use Rattle.data_transfer.specs.declared.flow.Flow.{Flow}
use Rattle.data_transfer.specs.Packets.{CallParts, Body, Packet, Received}
use Rattle.data_transfer.specs.Packets.Body.{Restart, RestartConfirmation}
use Rattle.data_transfer.specs.Packets.Received.{Whole, Unknown, Faulty}
use Rattle.data_transfer.specs.Traffic.{fresh}
use Rattle.packet_channel.specs.Channel.{Channel, Request, closed_channel, clear_error, in_transfer, placing}
use Rattle.packet_channel.specs.Channel.Request.{Stopping}
use Rattle.packet_layer.specs.Layer.{Layer, Phase, Timer, channel_of, channel_given, next_packet, on_received, on_timer}
use Rattle.packet_layer.specs.Layer.{unread, runs, link_up, link_down, request, call}
use Rattle.packet_layer.specs.Layer.Phase.{PacketReady}
use Rattle.packet_layer.specs.Layer.Timer.{RestartTimer, CallTimer, ResetTimer, ClearTimer}
use Rattle.packet_laws.specs.History.{empty_epoch}
use Rattle.switch_joins.specs.declared.channels.SwitchChannel.{SwitchChannel}
use Rattle.switch_lines.specs.Lines.{SwitchLine, changed}
use Rattle.switch_laws.specs.Leg.{Leg, IsLeg, asked, stepped, heard, misheard, gave}

abbrev pub World : Type 0
World = SwitchChannel → Leg

-- ---- the channels and the legs

-- what is seen of a leg at its line
pub record Shown : Type 0 where
  pub role : Role
  pub flow : Flow
  pub channel : Channel

abbrev pub shown_of : Leg → Shown
shown_of g = record { role = g.role; flow = g.flow; channel = g.channel }

abbrev pub shown_as : Layer → Option Channel → Option Shown
shown_as l None = None
shown_as l (Some ch) = Some (record { role = l.role; flow = l.flow; channel = ch })

abbrev pub shown_on : Option Layer → (channel : ℕ) → Option Shown
shown_on None c = None
shown_on (Some l) c = shown_as l (channel_of l c)

abbrev pub shown_at : List Layer → SwitchChannel → Option Shown
shown_at ys x = shown_on (slice_get ys x.line) x.channel

abbrev pub layers_of : List SwitchLine → List Layer
layers_of ls = map (λ l. l.end.layer) ls

-- outside data transfer nothing was sent or taken
pub record IsAtStart (g : Leg) : Type 0 where
  pub not_resetting : g.channel.resetting ≡ false
  pub traffic : g.channel.traffic ≡ fresh
  pub before : g.before ≡ []
  pub epoch : g.epoch ≡ empty_epoch

-- what always holds of the leg of a channel
pub record IsCallLeg (g : Leg) : Type 0 where
  pub leg : IsLeg g
  pub start : in_transfer g.channel.state ≡ false → IsAtStart g

-- what is seen at the line is the leg
pub record Agrees (s : Shown) (g : Leg) : Type 0 where
  pub shown : s ≡ shown_of g
  pub leg : IsCallLeg g

abbrev pub IsWorld : List Layer → World → Type 0
IsWorld ys w = (x : SwitchChannel) (s : Shown) → shown_at ys x ≡ Some s → Agrees s (w x)

-- ---- what happens at the packet layers: a request on a channel; a packet comes, a timer of the layer runs out, a
-- session of the link begins or ends; a call is placed; a packet goes to the link; its notes are read

pub data Act : Type 0 where
  Asks : SwitchChannel → Request → Act
  Comes : (line : ℕ) → Received → Act
  Expires : (line : ℕ) → Timer → Act
  GoesUp : (line : ℕ) → Act
  GoesDown : (line : ℕ) → Act
  Calls : (line : ℕ) → CallParts → Act
  Gives : (line : ℕ) → Act
  Reads : (line : ℕ) → Act

-- the switch stops no one
abbrev pub MayAsk : Request → Type 0
MayAsk (Stopping b) = ⊥
MayAsk q = Unit {0}

abbrev pub MayHappen : Act → Type 0
MayHappen (Asks p q) = MayAsk q
MayHappen a = Unit {0}

abbrev pub line_of : Act → ℕ
line_of (Asks p q) = p.line
line_of (Comes n r) = n
line_of (Expires n t) = n
line_of (GoesUp n) = n
line_of (GoesDown n) = n
line_of (Calls n parts) = n
line_of (Gives n) = n
line_of (Reads n) = n

-- what it makes of the layer of its line
abbrev pub layer_after : Act → Layer → Layer
layer_after (Asks p q) l = request l p.channel q
layer_after (Comes n r) l = unread (on_received (unread l) r)
layer_after (Expires n t) l = unread (on_timer l t)
layer_after (GoesUp n) l = unread (link_up l)
layer_after (GoesDown n) l = unread (link_down l)
layer_after (Calls n parts) l = call l parts
layer_after (Gives n) l = (next_packet l).layer
layer_after (Reads n) l = unread l

abbrev pub after_act : Act → List Layer → List Layer
after_act a ys = changed (line_of a) (λ l. layer_after a l) ys

abbrev pub after_acts : List Act → List Layer → List Layer
after_acts [] ys = ys
after_acts (a ∷ more) ys = after_acts more (after_act a ys)

-- ---- and what it makes of the leg of channel c of its line

-- all calls close
abbrev pub closed : Leg → Leg
closed g = record g { channel = closed_channel; before = []; epoch = empty_epoch }

abbrev pub restarted : Body → Leg → Leg
restarted (Restart cause diagnostic) g = closed g
restarted RestartConfirmation g = closed g
restarted p g = g

abbrev pub came_in : Phase → Received → (channel : ℕ) → Leg → Leg
came_in PacketReady (Whole p) c g =
    if p.channel == 0 then restarted p.body g else if c == p.channel then heard c p.body g else g
came_in PacketReady (Unknown d) c g = if c == d then misheard c true g else g
came_in PacketReady (Faulty d) c g = if c == d then misheard c false g else g
came_in phase r c g = g

abbrev pub cleared_if : Bool → (channel : ℕ) → Leg → Leg
cleared_if b c g = if b then stepped (clear_error g.role c no_information true g.channel) g.epoch g else g

abbrev pub ran_out : Timer → (channel : ℕ) → Leg → Leg
ran_out RestartTimer c g = g
ran_out (CallTimer d) c g = cleared_if (c == d) c g
ran_out (ResetTimer d) c g = cleared_if (c == d) c g
ran_out (ClearTimer d) c g = closed g

abbrev pub is_channel : Option ℕ → ℕ → Bool
is_channel None c = false
is_channel (Some d) c = c == d

abbrev pub placed_if : Bool → CallParts → Leg → Leg
placed_if b parts g = if b then stepped (placing parts g.channel) g.epoch g else g

abbrev pub gave_if : Option Packet → (channel : ℕ) → Leg → Leg
gave_if None c g = g
gave_if (Some p) c g = if c == p.channel then gave g else g

abbrev pub leg_after : Act → Option Layer → (channel : ℕ) → Leg → Leg
leg_after act None c g = g
leg_after (Asks p q) (Some l) c g = if c == p.channel then asked q g else g
leg_after (Comes n r) (Some l) c g = came_in l.phase r c g
leg_after (Expires n t) (Some l) c g = if runs l t then ran_out t c g else g
leg_after (GoesUp n) (Some l) c g = closed g
leg_after (GoesDown n) (Some l) c g = closed g
leg_after (Calls n parts) (Some l) c g = placed_if (is_channel (channel_given l l.phase) c) parts g
leg_after (Gives n) (Some l) c g = gave_if (next_packet l).packet c g
leg_after (Reads n) (Some l) c g = g

abbrev pub world_after : Act → List Layer → World → World
world_after a ys w = λ x. if x.line == line_of a then leg_after a (slice_get ys x.line) x.channel (w x) else w x

abbrev pub world_after_all : List Act → List Layer → World → World
world_after_all [] ys w = w
world_after_all (a ∷ more) ys w = world_after_all more (after_act a ys) (world_after a ys w)
