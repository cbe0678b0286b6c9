-- Sessions come in rising order at both ends of a line, and what each call of a link tells of its session.
use Rattle.std.specs.Prelude.{◌≡◌, ◌<◌, ◌≤◌, true, false, List, [], ◌∷◌, Some, None}
use Rattle.frame_codec.specs.Frame.{FrameValue}
use Rattle.lapb.specs.declared.phase.Phase.{Phase}
use Rattle.lapb.specs.declared.note.Note.{Note}
use Rattle.lapb.specs.Machine.{Octets, Link, Step, on_frame, on_t1, relink, settle, offer, is_up}
use Rattle.lapb.specs.Octets.{on_octets}
use Rattle.lapb.specs.World.{Sent, World, Event, is_sabm, is_up_note, happens}

-- each SABM on the way was sent in an act that is not before the DCE's session
abbrev pub AsksInOrder : World → List Sent → Type 0
AsksInOrder w [] = Unit {0}
AsksInOrder w (s ∷ rest) =
    (is_sabm s.frame.content ≡ true → (1 ≤ s.act) × (w.session ≤ s.act) × (s.act ≤ w.act)) × AsksInOrder w rest

-- The DTE's session is not after the DCE's, nor that one after the DTE's last act. By no event does an end come to
-- stand in an earlier session than before; a DTE that comes up does so in a later one, and a frame brings the DCE up
-- exactly where it is a SABM.
pub record SessionsRise (w : World) : Type 0 where
  pub own : w.own ≤ w.session
  pub session : w.session ≤ w.act
  pub up : w.dte.phase ≡ Phase.Up → (w.own ≡ w.act) × (w.session ≡ w.act)
  pub setting_up : w.dte.phase ≡ Phase.SettingUp → w.own < w.act
  pub asked : AsksInOrder w w.up
  pub never_falls : (event : Event) → (w.own ≤ (happens w event).own) × (w.session ≤ (happens w event).session)
  pub at_dte : (s : Sent) (rest : List Sent) → w.down ≡ s ∷ rest → (on_frame w.dte s.frame).note ≡ Note.Up →
      w.own < w.act
  pub at_dce : (s : Sent) (rest : List Sent) → w.up ≡ s ∷ rest → is_up_note (on_frame w.dce s.frame).note
      ≡ is_sabm s.frame.content

-- what a call tells of the link's session. It ends where the link was up and is up no more, and begins where it comes
-- up; nothing is told where it stays up or stays out of a session. A packet is accepted inside a session alone.
pub record Tells (before : Link) (step : Step) : Type 0 where
  pub begins : step.note ≡ Note.Up → (step.link.phase ≡ Phase.Up) × (step.accepted ≡ None)
  pub ends : step.note ≡ Note.Down → (before.phase ≡ Phase.Up) × (step.link.phase ≡ Phase.Up → ⊥) ×
      (step.accepted ≡ None)
  pub stays : step.note ≡ Note.Nothing → is_up step.link.phase ≡ is_up before.phase
  pub comes_up : (before.phase ≡ Phase.Up → ⊥) → step.link.phase ≡ Phase.Up → step.note ≡ Note.Up
  pub leaves : before.phase ≡ Phase.Up → (step.link.phase ≡ Phase.Up → ⊥) → step.note ≡ Note.Down
  pub accepts : (packet : Octets) → step.accepted ≡ Some packet →
      (step.note ≡ Note.Nothing) × (before.phase ≡ Phase.Up) ×
      (step.link.phase ≡ Phase.Up)

-- it begins no session and accepts nothing
pub record IsPlain (step : Step) : Type 0 where
  pub begins : is_up_note step.note ≡ false
  pub accepts : step.accepted ≡ None

-- every call of a link tells so, and by a frame alone a session begins and a packet is accepted
pub record CallsTell (l : Link) : Type 0 where
  pub frame : (frame : FrameValue) → Tells l (on_frame l frame)
  pub octets : (octets : Octets) → Tells l (on_octets l octets)
  pub t1 : Tells l (on_t1 l) × IsPlain (on_t1 l)
  pub relink : Tells l (relink l) × IsPlain (relink l)
  pub settle : Tells l (settle l) × IsPlain (settle l)
  pub offer : (packet : Octets) → (offer l packet).phase ≡ l.phase
