-- What an event at a switch does in the network.
use Rattle.std.specs.Prelude.{◌≡◌, ℕ, List, [], set, slice_get, Some}
use Rattle.frame_lines.specs.Lines.{LineService}
use Rattle.call_records.specs.Register.{Register}
use Rattle.switch_lines.specs.Switch.{Switch}
use Rattle.net_events.specs.AtSwitch.{SwitchEvent, HasOwnLine, switched, joins_of, switch_drained, all_handed}
use Rattle.net_events.specs.Network.{PlacedSwitch, NetNode, NetLine, Switching, Network, own_role}
use Rattle.net_events.specs.declared.answer.Answer.{Answer}
use Rattle.net_events.specs.declared.answer.Put.{Put}
use Rattle.node_events.specs.Switching.{CanPut, LinesPut, SwitchServed, is_anew, all_puts}
use Rattle.net_nodes.specs.Steps.{switch_outcome}

-- the event can be at the switch of this place
pub record CanSwitch (event : SwitchEvent) (place : ℕ) (s : Network) (puts : List Put)
    (places : ℕ) : Type 0 where
  pub switch : PlacedSwitch
  pub there : slice_get s.nodes place ≡ Some (Switching switch)
  pub has_line : HasOwnLine event switch.switch
  pub can_put : CanPut switch.lines switch.switch.lines s.lines puts places

-- the event can be at this node: it is a switch
pub record CanServeSwitch (event : SwitchEvent) (node : NetNode) (lines : List NetLine) (puts : List Put)
    (places : ℕ) : Type 0 where
  pub switch : PlacedSwitch
  pub is : node ≡ Switching switch
  pub has_line : HasOwnLine event switch.switch
  pub can_put : CanPut switch.lines switch.switch.lines lines puts places

-- the node, a switch, was served
pub record NodeServed (L : LineService) (event : SwitchEvent) (n : PlacedSwitch) (lines : List NetLine) (g : Register)
    (node' : NetNode) (lines' : List NetLine) (g' : Register) (puts : List Put) : Type 0 where
  pub switch : Switch
  pub node_is : node' ≡ Switching (record n { switch = switch })
  pub served : SwitchServed L event n lines g switch lines' g' puts

-- the switch was served; what its event takes from the lines, frames that go when it restarts apart, was gone before
pub record SwitchActed (L : LineService) (event : SwitchEvent) (place : ℕ) (n : PlacedSwitch) (s : Network) (a : Answer)
    (t : Network) : Type 0 where
  pub nodes_are : t.nodes
      ≡ set s.nodes place (Switching (record n { switch = switch_drained (switched event n.switch) }))
  pub lines_put : LinesPut L (is_anew event) n.lines (switched event n.switch) s.lines t.lines
  pub register_is : t.register ≡ all_handed n.lines (own_role n.switch) (joins_of event n.switch) s.register
  pub puts : a.frames.items ≡ all_puts n.lines (switched event n.switch).lines
  pub notes : a.notes.items ≡ []
  pub text : a.text.items ≡ []
  pub outcome : a.outcome ≡ switch_outcome event
