-- Two links on a line that loses nothing any more: what has arrived once nothing is left to send.
use Rattle.std.specs.Prelude.{◌≡◌, ℕ, ◌+◌, ◌<◌, ◌≤◌, Bool, true, false, List, [], ◌∷◌, ◌++◌, length}
use Rattle.link_timers.specs.declared.role.Role.{Role}
use Rattle.link_timers.specs.declared.role.Role.TheVariants.{Dte, Dce}
use Rattle.frame_codec.specs.Frame.{Content}
use Rattle.frame_codec.specs.Frame.Content.{Sabm, Dm}
use Rattle.lapb.specs.declared.phase.Phase.{Phase}
use Rattle.lapb.specs.Machine.{Octets, settle, at_rest}
use Rattle.lapb.specs.World.{Sent, World, Event, Offer, Deliver, Lose, Expire, Relink, Settle, Restart}
use Rattle.lapb.specs.World.{run, opening, widest, IsPrefix, AreUp, Carries}

-- ---- what happens

-- it loses nothing: each frame that is sent goes onto the line, none is lost there, and no node restarts
abbrev pub IsLossless : Event → Type 0
IsLossless (Offer at packet) = Unit {0}
IsLossless (Deliver to kept) = kept ≡ []
IsLossless (Lose to) = ⊥
IsLossless (Expire at kept) = kept ≡ []
IsLossless (Relink at kept) = kept ≡ []
IsLossless (Settle at kept) = kept ≡ []
IsLossless (Restart at) = ⊥

abbrev pub AllLossless : List Event → Type 0
AllLossless [] = Unit {0}
AllLossless (event ∷ events) = IsLossless event × AllLossless events

abbrev pub expiry : Role → Event → ℕ
expiry Dte (Expire Dte kept) = 1
expiry Dce (Expire Dce kept) = 1
expiry at event = 0

-- how often T1 is said to expire at an end: an expiry changes nothing where T1 does not run
abbrev pub expiries : Role → List Event → ℕ
expiries at [] = 0
expiries at (event ∷ events) = expiry at event + expiries at events

-- What a node does in one event, and the end of that event: it takes the frame that comes to it, or T1 expires.
pub data Turn : Type 0 where
  Comes : (to : Role) → Turn
  RunsOut : (at : Role) → Turn

abbrev pub turn : Turn → List Event
turn (Comes to) = Deliver to [] ∷ Settle to [] ∷ []
turn (RunsOut at) = Expire at [] ∷ Settle at [] ∷ []

abbrev pub turns : List Turn → List Event
turns [] = []
turns (t ∷ ts) = turn t ++ turns ts

-- ---- what is promised

-- both nodes have started their link: the DTE sets up or is up, and a DCE that is down asks to be set up
pub record AreStarted (w : World) : Type 0 where
  pub dte : w.dte.phase ≡ Phase.Down → ⊥
  pub dce : w.dce.phase ≡ Phase.Down → w.dce.repeats ≡ true

-- no frame is on the way, and no end has one to send
pub record IsCalm (w : World) : Type 0 where
  pub up : w.up ≡ []
  pub down : w.down ≡ []
  pub dte : (settle w.dte).frames ≡ []
  pub dce : (settle w.dce).frames ≡ []

-- both ends are up in the session of the last act, at rest, and each accepted all that was offered at the other in it
pub record HaveArrived (w : World) : Type 0 where
  pub are_up : AreUp w
  pub dte_rests : at_rest w.dte ≡ true
  pub dce_rests : at_rest w.dce ≡ true
  pub at_dce : w.dce_accepted w.act ≡ w.dte_offered w.act
  pub at_dte : w.dte_accepted w.act ≡ w.dce_offered w.act

-- Nothing is lost any more, and T1 expires once or more at each end, wherever among the other events. When nothing is
-- left to send, all has arrived.
abbrev pub Arrives : World → Type 0
Arrives w = AreStarted w → (events : List Event) → AllLossless events → 1 ≤ expiries Dte events →
    1 ≤ expiries Dce events → IsCalm (run events w) → HaveArrived (run events w)

-- The same of nodes that end each event: when no frame is on the way any more, all has arrived.
abbrev pub ComesToRest : World → Type 0
ComesToRest w = AreStarted w → (ts : List Turn) → 1 ≤ expiries Dte (turns ts) → 1 ≤ expiries Dce (turns ts) →
    (run (turns ts) w).up ≡ [] → (run (turns ts) w).down ≡ [] → HaveArrived (run (turns ts) w)

-- in this order of deliveries a frame is on the way to the end that takes the next, each time
abbrev pub AllWait : List Role → World → Type 0
AllWait [] w = Unit {0}
AllWait (Dte ∷ order) w = (w.down ≡ [] → ⊥) × AllWait order (run (turn (Comes Dte)) w)
AllWait (Dce ∷ order) w = (w.up ≡ [] → ⊥) × AllWait order (run (turn (Comes Dce)) w)

-- Deliveries come to an end, in whatever order: there are so many at most.
abbrev pub Ends : World → Type 0
Ends w = (most : ℕ) × ((order : List Role) → AllWait order w → length order ≤ most)

-- ---- what is not given up

-- a packet is offered, a frame comes, T1 expires, or an event ends
abbrev pub IsFlow : Event → Type 0
IsFlow (Relink at kept) = ⊥
IsFlow event = IsLossless event

abbrev pub AllFlow : List Event → Type 0
AllFlow [] = Unit {0}
AllFlow (event ∷ events) = IsFlow event × AllFlow events

-- a SABM, or a DM, which asks for one
abbrev pub begins_anew : Content → Bool
begins_anew Sabm = true
begins_anew Dm = true
begins_anew _ = false

abbrev pub NoneAnew : List Sent → Type 0
NoneAnew [] = Unit {0}
NoneAnew (s ∷ rest) = (begins_anew s.frame.content ≡ false) × NoneAnew rest

-- both ends are up, neither has sent as many polls without an answer as it may, and no frame on the way gives the
-- session up
pub record MayGoOn (w : World) : Type 0 where
  pub are_up : AreUp w
  pub dte : w.dte.polls < w.dte.n2
  pub dce : w.dce.polls < w.dce.n2
  pub up : NoneAnew w.up
  pub down : NoneAnew w.down

-- the session of w goes on in v
pub record GoesOn (w v : World) : Type 0 where
  pub act : v.act ≡ w.act
  pub are_up : AreUp v
  pub dte_offered : IsPrefix (w.dte_offered w.act) (v.dte_offered w.act)
  pub dce_offered : IsPrefix (w.dce_offered w.act) (v.dce_offered w.act)

-- Where T1 expires at most once at each end, the session is not given up.
abbrev pub Stays : World → Type 0
Stays w = MayGoOn w → (events : List Event) → AllFlow events → expiries Dte events ≤ 1 → expiries Dce events ≤ 1 →
    GoesOn w (run events w)

-- ---- a run that meets these premises

-- Some events with losses leave a line in which the session may go on, frames are missing, and each end waits; then,
-- with T1 once at each end, all comes to rest, and the packet of each end has come to the other.
pub record Recovers (to_dce to_dte : Octets) (lossy lossless : List Event) : Type 0 where
  pub started : AreStarted (run lossy (opening false widest widest))
  pub may_go_on : MayGoOn (run lossy (opening false widest widest))
  pub missing : (run lossy (opening false widest widest)).dce_accepted 1 ≡ []
  pub all_lossless : AllLossless lossless
  pub all_flow : AllFlow lossless
  pub dte_once : expiries Dte lossless ≡ 1
  pub dce_once : expiries Dce lossless ≡ 1
  pub calm : IsCalm (run lossless (run lossy (opening false widest widest)))
  pub carries : Carries to_dce to_dte (run lossless (run lossy (opening false widest widest)))

abbrev pub MayRecover : Type 0
MayRecover = (to_dce to_dte : Octets) → (lossy lossless : List Event) × Recovers to_dce to_dte lossy lossless
