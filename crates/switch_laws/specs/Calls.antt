-- A channel that has a call is joined.
use Rattle.std.specs.Prelude.{◌≡◌, true, List, Some, is_some}
use Rattle.packet_channel.specs.Channel.{had_call}
use Rattle.switch_joins.specs.declared.channels.SwitchChannel.{SwitchChannel}
use Rattle.switch_lines.specs.Lines.{SwitchLine, joined_at}
use Rattle.switch_laws.specs.World.{Shown, shown_at, layers_of}

-- a call is set up, goes on or is in a collision there
pub record HasCall (ls : List SwitchLine) (p : SwitchChannel) : Type 0 where
  pub channel : Shown
  pub there : shown_at (layers_of ls) p ≡ Some channel
  pub call : had_call channel.channel.state ≡ true

abbrev pub CallsAreJoined : List SwitchLine → Type 0
CallsAreJoined ls = (p : SwitchChannel) → HasCall ls p → is_some (joined_at ls p) ≡ true
