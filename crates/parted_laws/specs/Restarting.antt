-- A node that restarted is as one that was made.
use Rattle.std.specs.Prelude.{◌≡◌, ◌≤◌, ℕ, false, List, length, slice_get, Some}
use Rattle.link_timers.specs.declared.role.Role.{Role}
use Rattle.link_timers.specs.declared.role.Role.TheVariants.{Dte, Dce}
use Rattle.lapb.specs.Machine.{params_anew}
use Rattle.lapb.specs.declared.link.LinkParams.{LinkParams}
use Rattle.address_routes.specs.Routes.{RouteMap}
use Rattle.packet_end.specs.Params.{link_params}
use Rattle.packet_end.specs.PacketEnd.{PacketEnd}
use Rattle.packet_end.specs.PacketEnd as end
use Rattle.packet_end.specs.declared.params.EndParams.{EndParams}
use Rattle.pad_ports.specs.Ports.{PortState}
use Rattle.x25_pad.specs.Pad.{PadState}
use Rattle.x25_pad.specs.declared.config.PadConfig.{PadConfig}
use Rattle.joined_line.specs.declared.config.SwitchLineConfig.{SwitchLineConfig}
use Rattle.switch_lines.specs.Lines.{SwitchLine}
use Rattle.switch_lines.specs.Making.{made}
use Rattle.switch_lines.specs.Switch.{Switch, restart}
use Rattle.user_nodes.specs.Node.{NodeState, Pad, Host}
use Rattle.user_nodes.specs.NodeEvents.{restarted}
use Rattle.net_config.specs.NetPlan.{NewDte, NewPad, NewHost}
use Rattle.net_events.specs.Opening.{new_end}

-- ---- what a node has from its making on

-- an end of a line, in this role and with these parameters
pub record HasParams (role : Role) (p : EndParams) (e : PacketEnd) : Type 0 where
  pub link_role : e.line.link.role ≡ role
  pub link : params_anew e.line.link ≡ record (link_params p) { standing = false }
  pub layer_role : e.layer.role ≡ role
  pub flow : e.layer.flow ≡ p.flow
  pub channels : length e.layer.channels ≡ p.channels

-- a PAD, with its terminals
pub record HasTerminals (c : PadConfig) (p : PadState) : Type 0 where
  pub end : HasParams Dte c.line p.line.end
  pub ports : length p.ports ≡ c.terminals
  pub initial : (terminal : ℕ) (x : PortState) → slice_get p.ports terminal ≡ Some x
      → x.terminal.settings.initial ≡ c.params

-- a node at an end of a line
abbrev pub IsOfPlan : Role → NewDte → EndParams → NodeState → Type 0
IsOfPlan Dte (NewPad params terminals) p (Pad x) =
    HasTerminals (record { line = p; params = params; terminals = terminals }) x × (1 ≤ terminals)
IsOfPlan Dte NewHost p (Host e) = HasParams Dte p e
IsOfPlan Dce dte p (Host e) = HasParams Dce p e
IsOfPlan role dte p n = ⊥

-- a line of a switch
pub record IsOfConfig (c : SwitchLineConfig) (l : SwitchLine) : Type 0 where
  pub end : HasParams c.role c.params l.end
  pub not_standing : c.params.standing ≡ false
  pub address : l.address ≡ c.address
  pub joined : length l.joined ≡ c.params.channels

-- a switch, with its routes
pub record HasConfigs (routes : RouteMap) (configs : List SwitchLineConfig) (s : Switch) : Type 0 where
  pub routes_are : s.routes ≡ routes
  pub count : length s.lines ≡ length configs
  pub each : (own : ℕ) (l : SwitchLine) (c : SwitchLineConfig) → slice_get s.lines own ≡ Some l
      → slice_get configs own ≡ Some c → IsOfConfig c l

-- ---- the laws

abbrev pub EndForgets : Type 0
EndForgets = (role : Role) (p : EndParams) (e : PacketEnd) → p.standing ≡ false → HasParams role p e
    → end.restarted e ≡ end.made role p

abbrev pub NodeForgets : Type 0
NodeForgets = (role : Role) (dte : NewDte) (p : EndParams) (n : NodeState) → p.standing ≡ false → IsOfPlan role dte p n
    → restarted n ≡ new_end role dte p

abbrev pub SwitchForgets : Type 0
SwitchForgets = (routes : RouteMap) (configs : List SwitchLineConfig) (s : Switch) → HasConfigs routes configs s
    → restart s ≡ made routes configs
