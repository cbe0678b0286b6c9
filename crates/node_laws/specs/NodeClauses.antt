-- What each event at a node keeps of the line and of the book.
use Rattle.std.specs.Prelude.{◌≡◌, ℕ, ◌≤◌, Bool, List, ◌∷◌, length}
use Rattle.link_timers.specs.declared.role.Role.{Role}
use Rattle.link_timers.specs.declared.role.Role.TheVariants.{Dte, Dce}
use Rattle.link_timers.specs.declared.timers.TimerId.{TimerId}
use Rattle.lapb.specs.Machine.{Octets}
use Rattle.lapb.specs.LinkLine.{chosen}
use Rattle.packet_codec.specs.Address.{AreDigits}
use Rattle.packet_channel.specs.Channel.{Request}
use Rattle.packet_end.specs.PacketEnd as end
use Rattle.packet_end.specs.PacketEnd.{PacketEnd}
use Rattle.node_laws.specs.Lines.NodeLine.{Line}
use Rattle.packet_host.specs.Host.{call_parts}
use Rattle.packet_host.specs.Making as host
use Rattle.packet_host.specs.declared.config.HostConfig.{HostConfig}
use Rattle.x25_pad.specs.Making as pad
use Rattle.x25_pad.specs.declared.config.PadConfig.{PadConfig}
use Rattle.call_records.specs.Book.{Book, made_book}
use Rattle.node_laws.specs.LineRecords.Kept.{Setting, IsSetting, Kept, coming_to}
use Rattle.node_laws.specs.LineRecords.Happens.{sent, with_restart}
use Rattle.user_nodes.specs.Node.{NodeState, Pad, Host, end_of, drained, node_elapsed}
use Rattle.user_nodes.specs.LineTurns.{hears, expires, relinks, restarts}
use Rattle.user_nodes.specs.HostTurns.{host_calls, host_asks, host_refuses, host_says, host_takes}
use Rattle.user_nodes.specs.Terminals.{at_terminal}
use Rattle.user_nodes.specs.declared.terminal.TerminalEvent.{TerminalEvent}
use Rattle.node_laws.specs.Nodes.{IsNode, StandsAt, Keeps, KeepsWith, KeepsBy}

-- ---- what comes from the line, to a PAD or to a host

-- the first frame on the way to the node arrives
abbrev pub HearsLaw : Type 0
HearsLaw =
    (s : Setting) (b : Book) (l : Line) (role : Role) (n : NodeState) (octets : Octets) (coming : List Octets)
    (kept : List Bool)
    → coming_to role l ≡ octets ∷ coming → StandsAt role l n → Kept s b l
    → KeepsWith s role l kept coming (hears role n octets b)

abbrev pub ExpiresLaw : Type 0
ExpiresLaw = (s : Setting) (b : Book) (l : Line) (role : Role) (n : NodeState) (id : TimerId) (kept : List Bool)
    → StandsAt role l n → Kept s b l → KeepsBy s role l kept (expires role n id b)

abbrev pub RelinksLaw : Type 0
RelinksLaw = (s : Setting) (b : Book) (l : Line) (role : Role) (n : NodeState) (kept : List Bool)
    → StandsAt role l n → Kept s b l → KeepsBy s role l kept (relinks role n b)

-- all frames on the line are lost
abbrev pub RestartsLaw : Type 0
RestartsLaw = (s : Setting) (b : Book) (l : Line) (role : Role) (n : NodeState) (kept : List Bool)
    → StandsAt role l n → Kept s b l → Keeps s role l (with_restart role kept l) (restarts role n b)

-- ---- what the user of a host asks

abbrev pub CallsLaw : Type 0
CallsLaw =
    (s : Setting) (b : Book) (l : Line) (role : Role) (e : PacketEnd) (address user_data : List ℕ) (kept : List Bool)
    → AreDigits address → length user_data ≤ 16 → StandsAt role l (Host e) → Kept s b l
    → KeepsBy s role l kept (host_calls role e (call_parts address user_data) b)

abbrev pub AsksLaw : Type 0
AsksLaw =
    (s : Setting) (b : Book) (l : Line) (role : Role) (e : PacketEnd) (channel : ℕ) (r : Request) (kept : List Bool)
    → StandsAt role l (Host e) → Kept s b l → KeepsBy s role l kept (host_asks role e channel r b)

abbrev pub RefusesLaw : Type 0
RefusesLaw = (s : Setting) (b : Book) (l : Line) (role : Role) (e : PacketEnd) (channel : ℕ) (kept : List Bool)
    → StandsAt role l (Host e) → Kept s b l → KeepsBy s role l kept (host_refuses role e channel b)

abbrev pub SaysLaw : Type 0
SaysLaw =
    (s : Setting) (b : Book) (l : Line) (role : Role) (e : PacketEnd) (channel : ℕ) (octets : List ℕ)
    (qualified delivery : Bool) (kept : List Bool)
    → StandsAt role l (Host e) → Kept s b l
    → KeepsBy s role l kept (host_says role e channel octets qualified delivery b)

abbrev pub TakesLaw : Type 0
TakesLaw = (s : Setting) (b : Book) (l : Line) (role : Role) (e : PacketEnd) (channel : ℕ) (kept : List Bool)
    → StandsAt role l (Host e) → Kept s b l → KeepsBy s role l kept (host_takes role e channel b)

-- ---- what happens at a terminal of a PAD

abbrev pub TerminalsLaw : Type 0
TerminalsLaw =
    (s : Setting) (b : Book) (l : Line) (role : Role) (n : NodeState) (terminal : ℕ) (event : TerminalEvent)
    (kept : List Bool)
    → StandsAt role l n → Kept s b l → KeepsBy s role l kept (at_terminal role n terminal event b)

-- ---- time passes at both nodes, by a number of ticks of each

abbrev pub elapsed_line : (ticks : Role → ℕ) → Line → Line
elapsed_line ticks l = record l { dte = end.elapsed l.dte (ticks Dte); dce = end.elapsed l.dce (ticks Dce) }

pub record KeepsElapsed (s : Setting) (b : Book) (ticks : Role → ℕ) (l : Line) : Type 0 where
  pub kept : Kept s b (elapsed_line ticks l)
  pub nodes : (role : Role) (n : NodeState) → StandsAt role l n
      → StandsAt role (elapsed_line ticks l) (node_elapsed (ticks role) n)

abbrev pub ElapsesLaw : Type 0
ElapsesLaw = (s : Setting) (b : Book) (l : Line) (ticks : Role → ℕ) → Kept s b l → KeepsElapsed s b ticks l

-- ---- the making

-- nothing was on the line, and the first frames of the DTE and then those of the DCE go onto it or are lost there
abbrev pub first_line : (dte dce : PacketEnd) → (kept_up kept_down : List Bool) → Line
first_line dte dce kept_up kept_down =
    record {
      dte = sent dte;
      dce = sent dce;
      up = chosen kept_up dte.line.frames;
      down = chosen kept_down dce.line.frames;
    }

-- two nodes are made for this line
abbrev pub AreMade : Setting → (dte dce : NodeState) → Type 0
AreMade s dte dce = (end_of dte ≡ end.made Dte s.dte) × (end_of dce ≡ end.made Dce s.dce)

pub record Begins (s : Setting) (l : Line) (dte dce : NodeState) : Type 0 where
  pub kept : Kept s (made_book s.dte_node s.dce_node s.dte.channels s.dte.standing) l
  pub dte_there : IsNode (drained dte) → StandsAt Dte l (drained dte)
  pub dce_there : IsNode (drained dce) → StandsAt Dce l (drained dce)

abbrev pub MakingLaw : Type 0
MakingLaw = (s : Setting) (dte dce : NodeState) (kept_up kept_down : List Bool)
    → IsSetting s → AreMade s dte dce → Begins s (first_line (end_of dte) (end_of dce) kept_up kept_down) dte dce

-- a PAD or a host that is made is such a node once its first frames went
abbrev pub NodesLaw : Type 0
NodesLaw = ((c : PadConfig) → IsNode (drained (Pad (pad.made c))))
    × ((c : HostConfig) → IsNode (drained (Host (host.made c))))
