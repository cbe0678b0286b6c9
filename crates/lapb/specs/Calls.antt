-- The calls of one link, one after the other, whatever its partner sends: the link, and its session.
use Rattle.std.specs.Prelude.{ℕ, ◌<◌, ◌≤◌, List, [], ◌∷◌, Result, Ok, Err, slice_index}
use Rattle.link_timers.specs.declared.role.Role.{Role}
use Rattle.frame_codec.specs.declared.fault.FrameFault.{FrameFault}
use Rattle.frame_codec.specs.Frame.{FrameValue}
use Rattle.frame_codec.specs.Reading.{reading}
use Rattle.lapb.specs.declared.link.LinkParams.{LinkParams}
use Rattle.lapb.specs.Machine.{Octets, Link, on_t1, relink, settle, offer, new, remade}
use Rattle.lapb.specs.Octets.{on_octets}
use Rattle.lapb.specs.Named.{Session, begun, Agrees, AreNamed, after_frame, after_offer}

-- A call: the octets of a frame are taken, a packet is offered, T1 expires, the link is set up anew, an event of the
-- node ends, the node restarts. A start is a relink.
pub data Call : Type 0 where
  Take : Octets → Call
  Offer : Octets → Call
  Expire : Call
  Relink : Call
  Settle : Call
  Restart : Call

abbrev pub link_after : Call → Link → Link
link_after (Take bytes) l = (on_octets l bytes).link
link_after (Offer packet) l = offer l packet
link_after Expire l = (on_t1 l).link
link_after Relink l = (relink l).link
link_after Settle l = (settle l).link
link_after Restart l = remade l

-- the frames that a call sends
abbrev pub frames_by : Call → Link → List FrameValue
frames_by (Take bytes) l = (on_octets l bytes).frames
frames_by (Offer packet) l = []
frames_by Expire l = (on_t1 l).frames
frames_by Relink l = (relink l).frames
frames_by Settle l = (settle l).frames
frames_by Restart l = []

-- octets that are no frame leave the session as it is
abbrev pub session_read : Link → Result FrameValue FrameFault → Session → Session
session_read l (Ok frame) s = after_frame l frame s
session_read l (Err fault) s = s

abbrev pub session_by : Call → Link → Session → Session
session_by (Take bytes) l s = session_read l (reading l.role l.info bytes) s
session_by (Offer packet) l s = after_offer l packet s
session_by _ l s = s

-- a link with its session
pub record InSession : Type 0 where
  pub link : Link
  pub session : Session

abbrev pub after_all : List Call → InSession → InSession
after_all [] x = x
after_all (call ∷ calls) x =
    after_all calls (record { link = link_after call x.link; session = session_by call x.link x.session })

-- what is taken are octets
abbrev pub HasOctets : Call → Type 0
HasOctets (Take bytes) = (i : ℕ) → slice_index bytes i < 256
HasOctets _ = Unit {0}

abbrev pub HaveOctets : List Call → Type 0
HaveOctets [] = Unit {0}
HaveOctets (call ∷ calls) = HasOctets call × HaveOctets calls

-- The session agrees with the link; and in each frame that a further call sends, N(S) names the place of its packet
-- among the offered ones, and N(R) how many were accepted.
pub record IsCounted (x : InSession) : Type 0 where
  pub agrees : Agrees x.link x.session
  pub named : (call : Call) → HasOctets call → AreNamed (session_by call x.link x.session) (frames_by call x.link)

-- So it is after any calls of a link that was made, on a standing line or not.
abbrev pub SessionLaw : Type 0
SessionLaw = (role : Role) (params : LinkParams) → params.k ≤ 7 → (calls : List Call) → HaveOctets calls →
    IsCounted (after_all calls (record { link = new role params; session = begun }))
