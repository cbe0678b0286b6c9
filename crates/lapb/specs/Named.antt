-- What N(S) and N(R) name: places in the two lists of a session, which no link stores.
use Rattle.std.specs.Prelude.{
  ◌≡◌,
  ℕ,
  ◌+◌,
  ◌%◌,
  ◌<◌,
  ◌≤◌,
  List,
  [],
  ◌∷◌,
  ◌++◌,
  length,
  drop,
  Option,
  Some,
  None,
  if◌then◌else◌,
  slice_get,
}
use Rattle.frame_codec.specs.Frame.{FrameValue, Content}
use Rattle.frame_codec.specs.Frame.Content.{I, Rr, Rnr, Rej}
use Rattle.lapb.specs.declared.phase.Phase.{Phase}
use Rattle.lapb.specs.declared.note.Note.{Note}
use Rattle.lapb.specs.Machine.{Octets, Link, Step, ahead, is_valid, on_frame, can_offer}

-- one end's part of a session
pub record Session : Type 0 where
  pub offered : List Octets  -- what was offered at this end, in order
  pub accepted : List Octets  -- what this end accepted
  pub taken : ℕ  -- how many of the offered packets were acknowledged

abbrev pub begun : Session
begun = record { offered = []; accepted = []; taken = 0 }

-- the numbers of a link that is up are those of the session
pub record Counts (l : Link) (s : Session) : Type 0 where
  pub oldest : l.oldest ≡ s.taken % 8
  pub queue : l.queue ≡ drop s.taken s.offered
  pub taken : s.taken ≤ length s.offered
  pub next : l.next ≤ l.top
  pub top : l.top ≤ length l.queue
  pub window : length l.queue ≤ 7
  pub expected : l.expected ≡ length s.accepted % 8

-- the session agrees with the link, if it is up
abbrev pub Agrees : Link → Session → Type 0
Agrees l s = l.phase ≡ Phase.Up → Counts l s

-- N(S) names the place of the packet among the offered ones, the one place within eight from the oldest unacknowledged
-- packet on; N(R) names how many packets were accepted
abbrev pub IsNamed : Session → Content → Type 0
IsNamed s (I ns nr packet) =
    ((place : ℕ) × (ns ≡ place % 8) × (s.taken ≤ place) × (place < s.taken + 8) × (slice_get s.offered place ≡ Some
    packet)) ×
    (nr ≡ length s.accepted % 8)
IsNamed s (Rr nr) = nr ≡ length s.accepted % 8
IsNamed s (Rnr nr) = nr ≡ length s.accepted % 8
IsNamed s (Rej nr) = nr ≡ length s.accepted % 8
IsNamed s _ = Unit {0}

abbrev pub AreNamed : Session → List FrameValue → Type 0
AreNamed s [] = Unit {0}
AreNamed s (frame ∷ frames) = IsNamed s frame.content × AreNamed s frames

-- ---- what a received frame makes of a session

abbrev pub with_packet : List Octets → Option Octets → List Octets
with_packet packets None = packets
with_packet packets (Some packet) = packets ++ packet ∷ []

-- how many offered packets a frame acknowledges
abbrev pub newly : Link → Content → ℕ
newly l (I ns nr packet) = if is_valid l nr then ahead l.oldest nr else 0
newly l (Rr nr) = if is_valid l nr then ahead l.oldest nr else 0
newly l (Rnr nr) = if is_valid l nr then ahead l.oldest nr else 0
newly l (Rej nr) = if is_valid l nr then ahead l.oldest nr else 0
newly l _ = 0

abbrev pub session_after : Note → Session → Link → Content → Option Octets → Session
session_after Note.Up s l content accepted = begun
session_after _ s l content accepted = record {
  offered = s.offered;
  accepted = with_packet s.accepted accepted;
  taken = s.taken + newly l content;
}

-- what a received frame makes of it: begun anew by a note Up, else longer
abbrev pub after_frame : Link → FrameValue → Session → Session
after_frame l frame s = session_after (on_frame l frame).note s l frame.content (on_frame l frame).accepted

-- what an offer makes of it
abbrev pub after_offer : Link → Octets → Session → Session
after_offer l packet s = record s { offered = if can_offer l then s.offered ++ packet ∷ [] else s.offered }

-- its N(R) is a number modulo 8
abbrev pub IsInRange : Content → Type 0
IsInRange (I ns nr packet) = nr < 8
IsInRange (Rr nr) = nr < 8
IsInRange (Rnr nr) = nr < 8
IsInRange (Rej nr) = nr < 8
IsInRange _ = Unit {0}

-- ---- in every frame that a link sends, the numbers name places and counts of its session, whichever agrees with it

-- after a received frame
abbrev pub NamesAfter : Link → FrameValue → Type 0
NamesAfter l frame = (s : Session) → Agrees l s →
    Agrees (on_frame l frame).link (after_frame l frame s) × AreNamed (after_frame l frame s) (on_frame l
    frame).frames

-- after any other step, which leaves the session as it was, if the link stays in it
abbrev pub Keeps : Link → Step → Type 0
Keeps l step = (s : Session) → Agrees l s → Agrees step.link s × AreNamed s step.frames
