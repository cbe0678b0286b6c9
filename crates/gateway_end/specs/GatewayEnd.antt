-- The end of a line that a gateway has, and what each call makes of it.
use Rattle.std.specs.Prelude.{◌≡◌, ℕ, false, List, [], ◌++◌, Option, Some, None, if◌then◌else◌, ◌⊎◌}
use Rattle.link_timers.specs.declared.role.Role.TheVariants.{Dte}
use Rattle.link_timers.specs.Timers.{is_due}
use Rattle.lapb.specs.declared.note.Note.{Note}
use Rattle.lapb.specs.Machine.{Octets, Step, can_offer, on_t1}
use Rattle.line_end.specs.End as ends
use Rattle.line_end.specs.End.{End}
use Rattle.xot_gateway.specs.declared.calls.LineState.TheVariants as line_is
use Rattle.xot_gateway.specs.declared.calls.XotCalls.{XotCalls}
use Rattle.xot_gateway.specs.Packets.{read_on}
use Rattle.xot_gateway.specs.Connections as connection
use Rattle.xot_gateway.specs.Calls as calls
use Rattle.xot_gateway.specs.Calls.{AllChange, AllEnd, Hears, OthersStay}
use Rattle.gateway_end.specs.declared.params.GatewayParams.{GatewayParams}
use Rattle.gateway_end.specs.Params.{link_params}
use Rattle.gateway_end.specs.Gives.{Gives}

pub record GatewayEnd : Type 0 where
  pub line : End
  pub calls : XotCalls
  pub waiting : List Octets  -- the packet that waits for the link, if there is one

pub record IsMade (p : GatewayParams) (end : GatewayEnd) : Type 0 where
  pub line : end.line ≡ ends.made Dte (link_params p)
  pub calls : calls.IsMade p.line p.channels p.connections end.calls
  pub none_waits : end.waiting ≡ []

-- ---- what the link tells

-- a new session restarts the line, and the end of one ends its calls
abbrev pub Heeds : Note → (before after : XotCalls) → Type 0
Heeds Note.Nothing before after = after ≡ before
Heeds Note.Up before after = AllEnd line_is.ToRestart before after
Heeds Note.Down before after = AllEnd line_is.Down before after

-- what waits for the link is of a session
abbrev pub waiting_after : Note → List Octets → List Octets
waiting_after Note.Nothing waiting = waiting
waiting_after _ waiting = []

-- the next packet of the session, if there is one
abbrev pub Takes : Option Octets → (before after : XotCalls) → Type 0
Takes None before after = after ≡ before
Takes (Some packet) before after = Hears packet (read_on before.line packet) before after

-- the calls after a step of the link: they hear of it, and take the packet that the link accepted
pub record Follow (step : Step) (before after : XotCalls) : Type 0 where
  pub middle : XotCalls
  pub heeds : Heeds step.note before middle
  pub takes : Takes step.accepted middle after

-- ---- time

-- what T1 tells, if it has run out
abbrev pub expiry_note : End → Note
expiry_note e = if is_due e.t1 then (on_t1 e.link).note else Note.Nothing

abbrev pub expired : End → End
expired e = if is_due e.t1 then ends.after_t1 e else e

pub record Waits (ticks : ℕ) (before after : XotCalls) : Type 0 where
  pub connections : AllChange (connection.elapsed ticks) before.connections.items after.connections.items
  pub others : OthersStay before after

-- ticks pass, and then T1 runs out, if it has none left
pub record Elapses (ticks : ℕ) (before after : GatewayEnd) : Type 0 where
  pub middle : XotCalls
  pub waits : Waits ticks before.calls middle
  pub heeds : Heeds (expiry_note (ends.elapsed before.line ticks)) middle after.calls
  pub line : after.line ≡ expired (ends.elapsed before.line ticks)
  pub waiting : after.waiting ≡ waiting_after (expiry_note (ends.elapsed before.line ticks)) before.waiting

-- ---- the end of an event

-- the link has taken these packets too, the last ones of its queue
abbrev pub with_queued : List Octets → End → End
with_queued packets e = record e { link = record e.link { queue = e.link.queue ++ packets } }

-- Packets pass from the calls to the link. What the calls gave stands behind what waited. Of that the link took a first
-- part, in order, each packet once, and the rest waits.
pub record Pass (before after : GatewayEnd) : Type 0 where
  pub given : List Octets
  pub sent : List Octets
  pub gives : Gives before.calls given after.calls
  pub order : before.waiting ++ given ≡ sent ++ after.waiting
  pub line : after.line ≡ with_queued sent before.line

-- a packet waits only if the link takes none
abbrev pub IsHeldBack : GatewayEnd → Type 0
IsHeldBack end = (end.waiting ≡ []) ⊎ (can_offer end.line.link ≡ false)

-- packets pass, and then the link sends what it may
pub record Finishes (before after : GatewayEnd) : Type 0 where
  pub passed : GatewayEnd
  pub pass : Pass before passed
  pub held_back : IsHeldBack passed
  pub settles : after ≡ record passed { line = ends.settled passed.line }
