-- Two links on a line that may lose frames: what happens, in whatever order, and the sessions that come of it.
use Rattle.std.specs.Prelude.{
  ◌≡◌,
  ℕ,
  ◌+◌,
  ◌≤◌,
  Bool,
  true,
  false,
  not,
  ◌&&◌,
  List,
  [],
  ◌∷◌,
  ◌++◌,
  Option,
  Some,
  None,
  if◌then◌else◌,
  ◌==◌,
}
use Rattle.link_timers.specs.declared.role.Role.{Role}
use Rattle.link_timers.specs.declared.role.Role.TheVariants.{Dte, Dce}
use Rattle.frame_codec.specs.Frame.{FrameValue, Content}
use Rattle.frame_codec.specs.Frame.Content.{Sabm, Ua, Frmr}
use Rattle.lapb.specs.declared.phase.Phase.{Phase}
use Rattle.lapb.specs.declared.note.Note.{Note}
use Rattle.lapb.specs.Machine.{Octets, Link, Step, response, on_frame, on_t1, relink, settle, offer, can_offer, new, remade}
use Rattle.lapb.specs.declared.link.LinkParams.{LinkParams}

-- a frame on the line, with the act in which its sender stood
pub record Sent : Type 0 where
  pub frame : FrameValue
  pub act : ℕ

-- Sessions have the numbers of the DTE's set-up acts, counted from the making of the line on and through restarts. An
-- end is in the session of the act that it heard of last: the DTE by a UA, the DCE by a SABM; a standing line is in
-- session 0.
pub record World : Type 0 where
  pub dte : Link
  pub dce : Link
  pub up : List Sent  -- on the way to the DCE, the oldest first
  pub down : List Sent  -- on the way to the DTE
  pub act : ℕ  -- the DTE's last set-up act
  pub own : ℕ  -- the DTE's session
  pub session : ℕ  -- the DCE's session
  pub dte_offered : ℕ → List Octets  -- in each session: what the DTE's side offered, in order
  pub dte_accepted : ℕ → List Octets  -- what the DTE accepted
  pub dce_offered : ℕ → List Octets
  pub dce_accepted : ℕ → List Octets

-- What may happen. An end is named by its role. Of the frames that a link sends, `kept` says in order which go onto
-- the line and which are dropped; those that it does not speak of go. A start is a relink.
pub data Event : Type 0 where
  Offer : (at : Role) → Octets → Event
  Deliver : (to : Role) → (kept : List Bool) → Event
  Lose : (to : Role) → Event
  Expire : (at : Role) → (kept : List Bool) → Event
  Relink : (at : Role) → (kept : List Bool) → Event
  Settle : (at : Role) → (kept : List Bool) → Event
  Restart : (at : Role) → Event

-- ---- the lists of a session

-- the lists, with a packet more in one session, if there is one
abbrev pub logged : (ℕ → List Octets) → ℕ → Option Octets → ℕ → List Octets
logged lists session None at = lists at
logged lists session (Some packet) at = if at == session then lists at ++ packet ∷ [] else lists at

-- the lists, with that of one session emptied, if it is to be
abbrev pub emptied : Bool → (ℕ → List Octets) → ℕ → ℕ → List Octets
emptied due lists session at = if due && (at == session) then [] else lists at

-- ---- frames on the line

abbrev pub kept_of : List Bool → List FrameValue → List FrameValue
kept_of [] frames = frames
kept_of _ [] = []
kept_of (true ∷ kept) (frame ∷ frames) = frame ∷ kept_of kept frames
kept_of (false ∷ kept) (frame ∷ frames) = kept_of kept frames

abbrev pub stamped : ℕ → List FrameValue → List Sent
stamped act [] = []
stamped act (frame ∷ frames) = record { frame = frame; act = act } ∷ stamped act frames

abbrev pub is_sabm : Content → Bool
is_sabm Sabm = true
is_sabm _ = false

abbrev pub is_ua : Content → Bool
is_ua Ua = true
is_ua _ = false

abbrev pub is_frmr : Content → Bool
is_frmr (Frmr report) = true
is_frmr _ = false

-- ---- what a step of one end makes of the world

abbrev pub is_setting_up : Phase → Bool
is_setting_up Phase.SettingUp = true
is_setting_up _ = false

abbrev pub is_up_note : Note → Bool
is_up_note Note.Up = true
is_up_note _ = false

-- the DTE's last act after a step: one begins where the DTE comes to be setting up
abbrev pub act_after : World → Step → ℕ
act_after w step = if is_setting_up step.link.phase && not (is_setting_up w.dte.phase) then w.act + 1 else w.act

abbrev pub dte_does : World → List Bool → Step → World
dte_does w kept step = record w {
  dte = step.link;
  act = act_after w step;
  own = if is_up_note step.note then w.act else w.own;
  up = w.up ++ stamped (act_after w step) (kept_of kept step.frames);
  dte_accepted = logged w.dte_accepted w.own step.accepted;
}

abbrev pub dce_does : World → List Bool → Step → World
dce_does w kept step = record w {
  dce = step.link;
  down = w.down ++ stamped w.session (kept_of kept step.frames);
  dce_accepted = logged w.dce_accepted w.session step.accepted;
}

-- by a SABM the DCE comes to stand in the act of that SABM, and its two lists of that session are emptied
abbrev pub dce_enters : World → Sent → World
dce_enters w s = record w {
  session = if is_sabm s.frame.content then s.act else w.session;
  dce_offered = emptied (is_sabm s.frame.content) w.dce_offered s.act;
  dce_accepted = emptied (is_sabm s.frame.content) w.dce_accepted s.act;
}

-- the frame at the front comes to the DTE, if there is one
abbrev pub to_dte : World → List Bool → List Sent → World
to_dte w kept [] = w
to_dte w kept (s ∷ rest) = dte_does (record w { down = rest }) kept (on_frame w.dte s.frame)

abbrev pub to_dce : World → List Bool → List Sent → World
to_dce w kept [] = w
to_dce w kept (s ∷ rest) = dce_does (dce_enters (record w { up = rest }) s) kept (on_frame w.dce s.frame)

abbrev pub without_first : List Sent → List Sent
without_first [] = []
without_first (s ∷ rest) = rest

abbrev pub offered : Link → Octets → Option Octets
offered l packet = if can_offer l then Some packet else None

-- what an event makes of two links and their line: a restart makes the link anew, and what is on the line is lost
abbrev pub happens : World → Event → World
happens w (Offer Dte packet) =
    record w { dte = offer w.dte packet; dte_offered = logged w.dte_offered w.own (offered w.dte packet) }
happens w (Offer Dce packet) =
    record w { dce = offer w.dce packet; dce_offered = logged w.dce_offered w.session (offered w.dce packet) }
happens w (Deliver Dte kept) = to_dte w kept w.down
happens w (Deliver Dce kept) = to_dce w kept w.up
happens w (Lose Dte) = record w { down = without_first w.down }
happens w (Lose Dce) = record w { up = without_first w.up }
happens w (Expire Dte kept) = dte_does w kept (on_t1 w.dte)
happens w (Expire Dce kept) = dce_does w kept (on_t1 w.dce)
happens w (Relink Dte kept) = dte_does w kept (relink w.dte)
happens w (Relink Dce kept) = dce_does w kept (relink w.dce)
happens w (Settle Dte kept) = dte_does w kept (settle w.dte)
happens w (Settle Dce kept) = dce_does w kept (settle w.dce)
happens w (Restart Dte) = record w { dte = remade w.dte; up = []; down = [] }
happens w (Restart Dce) = record w { dce = remade w.dce; up = []; down = [] }

abbrev pub run : List Event → World → World
run [] w = w
run (event ∷ events) w = run events (happens w event)

-- a line as it is made, which stands at both ends or at none
abbrev pub opening : (standing : Bool) → LinkParams → LinkParams → World
opening standing dte dce = record {
  dte = new Dte (record dte { standing = standing });
  dce = new Dce (record dce { standing = standing });
  up = [];
  down = [];
  act = 0;
  own = 0;
  session = 0;
  dte_offered = λ _. [];
  dte_accepted = λ _. [];
  dce_offered = λ _. [];
  dce_accepted = λ _. [];
}

-- it holds of whatever events make of two links, new or standing, each of which has a window of at most 7
abbrev pub Always : (World → Type 0) → Type 0
Always P = (standing : Bool) (dte dce : LinkParams) → dte.k ≤ 7 → dce.k ≤ 7 → (events : List Event) →
    P (run events (opening standing dte dce))

-- ---- what holds of two links

abbrev pub IsPrefix : List Octets → List Octets → Type 0
IsPrefix front whole = (rest : List Octets) × (front ++ rest ≡ whole)

abbrev pub NoFrmr : List Sent → Type 0
NoFrmr [] = Unit {0}
NoFrmr (s ∷ rest) = (is_frmr s.frame.content ≡ false) × NoFrmr rest

-- in each session the accepted packets of an end begin the list of those offered at the other one, and no FRMR is sent
pub record InOrder (w : World) : Type 0 where
  pub at_dce : (session : ℕ) → IsPrefix (w.dce_accepted session) (w.dte_offered session)
  pub at_dte : (session : ℕ) → IsPrefix (w.dte_accepted session) (w.dce_offered session)
  pub none_up : NoFrmr w.up
  pub none_down : NoFrmr w.down

-- an offer, the end of a node's event, or a loss on the line
abbrev pub IsQuiet : Event → Type 0
IsQuiet (Offer at packet) = Unit {0}
IsQuiet (Settle at kept) = Unit {0}
IsQuiet (Lose to) = Unit {0}
IsQuiet _ = ⊥

abbrev pub AllQuiet : List Event → Type 0
AllQuiet [] = Unit {0}
AllQuiet (event ∷ events) = IsQuiet event × AllQuiet events

-- both ends are up, in the session of the DTE's last act
pub record AreUp (w : World) : Type 0 where
  pub dte : w.dte.phase ≡ Phase.Up
  pub dce : w.dce.phase ≡ Phase.Up
  pub own : w.own ≡ w.act
  pub session : w.session ≡ w.act

-- the UA by which a DCE answers this SABM, in the act of the SABM
abbrev pub answer_to : Sent → Sent
answer_to s = record { frame = response Ua s.frame.pf; act = s.act }

-- A SABM of the DTE's last act that comes to the DCE is answered by its UA and nothing else; and if a UA of that act
-- is what comes to the DTE next, while packets are offered, events end and frames are lost, both ends are up in that
-- session.
pub record ComesUp (w : World) : Type 0 where
  pub answers : (s : Sent) (rest : List Sent) → w.up ≡ s ∷ rest → is_sabm s.frame.content ≡ true → s.act ≡ w.act →
      (happens w (Deliver Dce [])).down ≡ w.down ++ answer_to s ∷ []
  pub both_up : (s : Sent) (rest : List Sent) → w.up ≡ s ∷ rest → is_sabm s.frame.content ≡ true → s.act ≡ w.act →
      (sent : List Bool) (between : List Event) → AllQuiet between → (answer : Sent) (behind : List Sent) →
      (run between (happens w (Deliver Dce sent))).down ≡ answer ∷ behind → is_ua answer.frame.content ≡ true →
      answer.act ≡ w.act → (kept : List Bool) →
      AreUp (happens (run between (happens w (Deliver Dce sent))) (Deliver Dte kept))

-- Where the DCE takes a SABM, neither end has accepted anything in the session of that act. Where the DTE takes the UA
-- that brings it up, that UA is of its last act, neither end has accepted anything in that session, and the DTE has
-- offered nothing in it.
pub record BeginsFresh (w : World) : Type 0 where
  pub dce : (s : Sent) (rest : List Sent) → w.up ≡ s ∷ rest → is_sabm s.frame.content ≡ true →
      (w.dte_accepted s.act ≡ []) × (w.dce_accepted s.act ≡ [])
  pub of_act : (s : Sent) (rest : List Sent) → w.down ≡ s ∷ rest → (on_frame w.dte s.frame).note ≡ Note.Up →
      s.act ≡ w.act
  pub dte : (s : Sent) (rest : List Sent) → w.down ≡ s ∷ rest → (on_frame w.dte s.frame).note ≡ Note.Up →
      (w.dte_accepted w.act ≡ []) × (w.dce_accepted w.act ≡ []) × (w.dte_offered w.act ≡ [])

-- both ends are up, and each accepted the one packet offered at the other
pub record Carries (to_dce to_dte : Octets) (w : World) : Type 0 where
  pub are_up : AreUp w
  pub at_dce : w.dce_accepted w.act ≡ to_dce ∷ []
  pub at_dte : w.dte_accepted w.act ≡ to_dte ∷ []

-- windows of 7, and packets of 128 octets
abbrev pub widest : LinkParams
widest = record { k = 7; n2 = 3; info = 145; standing = false }

-- some events set up a line with windows of 7 and take any packet each way
abbrev pub MayCarry : Type 0
MayCarry = (to_dce to_dte : Octets) → (events : List Event) ×
    Carries to_dce to_dte (run events (opening false widest widest))
