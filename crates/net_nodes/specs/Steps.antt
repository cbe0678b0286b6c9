-- What an event without a fault does to nodes, lines and register.
use Rattle.std.specs.Prelude.{◌≡◌, ℕ, ◌⊎◌, true, false, List, [], slice_get, Some, None}
use Rattle.link_timers.specs.declared.role.Role.{Role}
use Rattle.link_timers.specs.declared.role.Role.TheVariants.{Dte, Dce}
use Rattle.link_timers.specs.declared.timers.TimerId.{TimerId}
use Rattle.frame_lines.specs.declared.line.Direction.{Direction}
use Rattle.frame_lines.specs.declared.line.Direction.TheVariants.{FromDte, FromDce}
use Rattle.frame_lines.specs.Lines.{flying, LineService}
use Rattle.net_events.specs.NodeEvents.{NodeEvent, Hears, Expires, Relinks, Restarts, Calls, Takes}
use Rattle.net_events.specs.NodeEvents as node_event
use Rattle.net_events.specs.Network.{Network, place_at, own_role, LostAt}
use Rattle.net_events.specs.AtSwitch.{SwitchEvent, SwitchHappened, switched}
use Rattle.net_events.specs.AtSwitch as switch_event
use Rattle.net_events.specs.declared.answer.Answer.{Answer}
use Rattle.net_events.specs.declared.answer.Outcome.{Outcome}
use Rattle.net_events.specs.declared.answer.Outcome.TheVariants.{Delivered, Done}
use Rattle.net_events.specs.EventView.{request_event}
use Rattle.net_events.specs.declared.event.Event.{Event}
use Rattle.net_events.specs.declared.event.Event.TheVariants.{AtTerminal, Call, Ask, Take, Deliver, Lose, Expire}
use Rattle.net_events.specs.declared.event.Event.TheVariants.{Relink, GivesUp}
use Rattle.net_events.specs.declared.event.Event.TheVariants.{Restart}
use Rattle.net_nodes.specs.declared.nodes.LineSide.{LineSide}
use Rattle.node_events.specs.Switching.{all_puts}
use Rattle.net_nodes.specs.Turns.{AtEnd}

-- the end that hears what is sent in a direction
abbrev pub hearer : Direction → Role
hearer FromDte = Dce
hearer FromDce = Dte

-- the event happened at the node with users of this place, at the end that it is of its own line
pub record AtNode (L : LineService) (place : ℕ) (event : NodeEvent) (s : Network) (a : Answer)
    (t : Network) : Type 0 where
  pub end : LineSide
  pub does : AtEnd L end event s a t
  pub own_line : does.happened.node.line ≡ end.line
  pub own_place : place_at end.role does.happened.line_is ≡ place

-- ---- at a switch

-- what an event at a switch gives besides frames
abbrev pub switch_outcome : SwitchEvent → Outcome
switch_outcome (switch_event.Hears own octets) = Delivered true
switch_outcome event = Done

-- the event happened at the switch of this place, and this is the answer: the frames that were put, line by line
pub record AtSwitch (L : LineService) (place : ℕ) (event : SwitchEvent) (s : Network) (a : Answer)
    (t : Network) : Type 0 where
  pub happened : SwitchHappened L event place s t
  pub puts : a.frames.items ≡ all_puts happened.node.lines (switched event happened.node.switch).lines
  pub notes : a.notes.items ≡ []
  pub text : a.text.items ≡ []
  pub outcome : a.outcome ≡ switch_outcome event

-- it happened on the own line that is this line of the network
pub record OnOwnLine (L : LineService) (place line : ℕ) (event : (own : ℕ) → SwitchEvent) (s : Network) (a : Answer)
    (t : Network) : Type 0 where
  pub own : ℕ
  pub does : AtSwitch L place (event own) s a t
  pub own_line : slice_get does.happened.node.lines own ≡ Some line

-- it happened at a switch, on the own line that is this one, with this role there
pub record AtSwitchEnd (L : LineService) (line : ℕ) (role : Role) (event : (own : ℕ) → SwitchEvent) (s : Network)
    (a : Answer) (t : Network) : Type 0 where
  pub place : ℕ
  pub there : OnOwnLine L place line event s a t
  pub role_is : own_role there.does.happened.node.switch there.own ≡ role

-- ---- frames in flight

-- the first frame in flight is lost, if there is one, and this is answered
pub record LoseStep (L : LineService) (line : ℕ) (d : Direction) (outcome : Outcome) (s : Network) (a : Answer)
    (t : Network) : Type 0 where
  pub frames : a.frames.items ≡ []
  pub notes : a.notes.items ≡ []
  pub text : a.text.items ≡ []
  pub answered : a.outcome ≡ outcome
  pub lost : LostAt L line d s t

-- nothing was in flight
pub record EmptyDelivery (L : LineService) (line : ℕ) (d : Direction) (s : Network) (a : Answer)
    (t : Network) : Type 0 where
  pub nothing : LoseStep L line d (Delivered false) s a t
  pub none : L.faithful → slice_get (flying d nothing.lost.line_is.flights) 0 ≡ None

-- the node at the other end hears the frame
abbrev pub IsHeard : LineService → (line : ℕ) → Direction → (octets : List ℕ) → Network → Answer → Network → Type 0
IsHeard L line d octets s a t =
    AtEnd L (record { line = line; role = hearer d }) (Hears octets) s a t
    ⊎ AtSwitchEnd L line (hearer d) (λ own. switch_event.Hears own octets) s a t

-- the first frame in flight, if there is one, is given to the node at the other end
abbrev pub DeliverStep : LineService → (line : ℕ) → Direction → Network → Answer → Network → Type 0
DeliverStep L line d s a t = EmptyDelivery L line d s a t ⊎ ((octets : List ℕ) × IsHeard L line d octets s a t)

-- ---- expiry, a link that is given up, and restart, at any node

abbrev pub ExpireStep : LineService → (place line : ℕ) → TimerId → Network → Answer → Network → Type 0
ExpireStep L place line timer s a t =
    AtNode L place (Expires timer) s a t ⊎ OnOwnLine L place line (λ own. switch_event.Expires own timer) s a t

-- the end of a role, a node with users or a switch, gives the link up
abbrev pub RelinkStep : LineService → (line : ℕ) → Role → Network → Answer → Network → Type 0
RelinkStep L line role s a t =
    AtEnd L (record { line = line; role = role }) Relinks s a t
    ⊎ AtSwitchEnd L line role (λ own. switch_event.Relinks own) s a t

-- by this event
abbrev pub relink_at : Role → (line : ℕ) → Event
relink_at Dte line = Relink line
relink_at Dce line = GivesUp line

abbrev pub RestartStep : LineService → (place : ℕ) → Network → Answer → Network → Type 0
RestartStep L place s a t = AtNode L place Restarts s a t ⊎ AtSwitch L place switch_event.Restarts s a t

-- ---- each event

abbrev pub StepOf : (L : LineService) → Event → Network → Answer → Network → Type 0
StepOf L (AtTerminal node terminal event) s a t = AtNode L node (node_event.AtTerminal terminal event) s a t
StepOf L (Call node address user_data) s a t = AtNode L node (Calls address user_data.items) s a t
StepOf L (Ask node channel request) s a t = AtNode L node (request_event channel request) s a t
StepOf L (Take node channel) s a t = AtNode L node (Takes channel) s a t
StepOf L (Deliver line direction) s a t = DeliverStep L line direction s a t
StepOf L (Lose line direction) s a t = LoseStep L line direction Done s a t
StepOf L (Expire node line timer) s a t = ExpireStep L node line timer s a t
StepOf L (Relink line) s a t = RelinkStep L line Dte s a t
StepOf L (GivesUp line) s a t = RelinkStep L line Dce s a t
StepOf L (Restart node) s a t = RestartStep L node s a t
