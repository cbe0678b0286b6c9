-- What contracts see of the code's end of a line in a pool, and what always holds of it.
use Rattle.std.specs.Prelude.{◌≡◌, ◌≤◌, ◌⊎◌, ◌++◌, length}
use Rattle.packet_layer.specs.Held.{most_held}
use Rattle.packet_end.specs.PacketEnd.{PacketEnd, IsFinished}
use Rattle.packet_end.specs.Params.{info_of}
use Rattle.packet_end.specs.Pooled.{PooledEnd, share_of}
use Rattle.packet_end.specs.Touched.{OthersAgree, IsTouched}
use Rattle.packet_end.specs.declared.pooled.PooledEnd.TheInside.{Inside}

abbrev pub end_of : Inside → PacketEnd
end_of a = record { line = a.line.value.end; layer = a.layer.layer; timers = a.timers; notes = a.notes }

abbrev pub pooled_of : Inside → PooledEnd
pooled_of a = record {
  end = end_of a;
  held = a.line.value.held ++ a.layer.held;
  share = share_of a.line.value.end a.layer.layer;
  info = a.line.value.end.link.info;
}

-- link and layer hold no more buffers than they may, the link carries each packet of the layer, the timers that nothing
-- concerned run as the layer wants them to, and something happened since an event ended, or to end one again changes nothing
pub record IsPooled (a : Inside) : Type 0 where
  pub line : length a.line.value.held ≤ a.line.value.end.link.k
  pub layer : length a.layer.held ≤ most_held a.layer.layer
  pub info : a.line.value.end.link.info ≡ info_of a.layer.layer.flow
  pub agree : OthersAgree a.layer.layer a.timers a.touched
  pub finished : IsTouched a.touched ⊎ IsFinished (end_of a)
