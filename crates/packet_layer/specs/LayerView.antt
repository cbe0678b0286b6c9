-- What contracts see of the code's packet layer, and what always holds of it.
use Rattle.std.specs.Prelude.{◌≤◌, length}
use Rattle.data_transfer.specs.Flow.{IsFlow}
use Rattle.packet_layer.specs.Layer.{Layer}
use Rattle.packet_layer.specs.Held as held
use Rattle.packet_layer.specs.Held.{plain, buffers, AllFit}
use Rattle.packet_layer.specs.Silence.{OthersAreSilent}
use Rattle.packet_layer.specs.RestartView.{phase_of, restart_bodies}
use Rattle.packet_layer.specs.declared.layer.Layer.TheInside.{Inside}

abbrev pub layer_of : Inside → Layer
layer_of a = record {
  role = a.role;
  flow = a.flow;
  channels = plain a.channels.items;
  phase = phase_of a.phase;
  owed = restart_bodies a.owed;
  served_last = a.served_last;
  relink = a.relink;
  notes = a.notes;
}

abbrev pub holding : Inside → held.Layer
holding a = record { layer = layer_of a; held = buffers a.channels.items }

-- the flow control parameters are ones of a line, there are at most 32 channels, those that are not to be served have nothing for the
-- link, at most so many notes are not read, and no channel holds more buffers than it has room for
pub record IsLayer (a : Inside) : Type 0 where
  pub flow : IsFlow a.flow
  pub channels : length a.channels.items ≤ 32
  pub others : OthersAreSilent a.flow a.to_serve (plain a.channels.items)
  pub notes : length a.notes ≤ 32
  pub fits : AllFit a.flow a.channels.items
