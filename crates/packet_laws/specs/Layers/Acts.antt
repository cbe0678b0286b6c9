-- The calls of a packet layer that change it, and what they make of it and of the epochs of its channels.
use Rattle.std.specs.Prelude.{ℕ, Bool, List, [], ◌∷◌, drop}
use Rattle.link_timers.specs.declared.role.Role.{Role}
use Rattle.link_timers.specs.declared.timers.TimerId.{TimerId}
use Rattle.data_transfer.specs.declared.flow.Flow.{Flow}
use Rattle.data_transfer.specs.Packets.{CallParts}
use Rattle.packet_channel.specs.Channel.{Request}
use Rattle.packet_layer.specs.Layer.{Layer, channel_of, made, link_up, link_down, call, request, next_packet}
use Rattle.packet_layer.specs.Events.{on_octets, on_named, timer_named}
use Rattle.data_transfer.specs.Octets.{heard}
use Rattle.packet_laws.specs.Layers.Epochs.{Epochs, after_request, all_begun, on_found, on_hearing, on_timer}

-- a packet layer with the present epochs of its channels
pub record World : Type 0 where
  pub layer : Layer
  pub epochs : Epochs

-- as `Layer::new` makes it
abbrev pub start : Role → (channels : ℕ) (flow : Flow) → (standing : Bool) → World
start role channels flow standing = record { layer = made role channels flow standing; epochs = all_begun }

pub data Act : Type 0 where
  -- `link_up` and `link_down`
  Up : Act
  Down : Act
  -- `call`; `ask`, `take` and what a user asks besides of a call
  Calls : CallParts → Act
  Requests : (channel : ℕ) → Request → Act
  -- `on_timer`
  Expires : TimerId → Act
  -- `on_packet`, with the octets that the link brings
  Arrives : List ℕ → Act
  -- `next_packet`
  Offers : Act
  -- `notes`
  Reads : Act

abbrev pub layer_after : Act → Layer → Layer
layer_after Up l = link_up l
layer_after Down l = link_down l
layer_after (Calls parts) l = call l parts
layer_after (Requests c r) l = request l c r
layer_after (Expires id) l = on_named l (timer_named l.role id)
layer_after (Arrives octets) l = on_octets l octets
layer_after Offers l = (next_packet l).layer
layer_after Reads l = record l { notes = drop 1 l.notes }

abbrev pub epochs_after : Act → Layer → Epochs → Epochs
epochs_after Up l es = all_begun
epochs_after Down l es = all_begun
epochs_after (Requests c r) l es = on_found (channel_of l c) c (λ ch e. after_request l.role l.flow r ch e) es
epochs_after (Expires id) l es = on_timer l (timer_named l.role id) es
epochs_after (Arrives octets) l es = on_hearing l (heard l.flow octets) es
epochs_after act l es = es

abbrev pub after : Act → World → World
after act w = record { layer = layer_after act w.layer; epochs = epochs_after act w.layer w.epochs }

abbrev pub run : List Act → World → World
run [] w = w
run (act ∷ acts) w = run acts (after act w)
