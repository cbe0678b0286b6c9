-- Ends of a line over a step of an event of a switch: none has a note where it had none, and no timer is due that was
-- not.
use Rattle.std.specs.Prelude.{◌≡◌, ℕ, zero, suc, cond, [], is_some}
use Rattle.std.proofs.Common.{refl, ◌∙◌, arith}
use Rattle.lapb.specs.Machine.{can_offer, timing, settle}
use Rattle.line_end.specs.End.{without_frames}
use Rattle.data_transfer.specs.Packets.{CallParts}
use Rattle.packet_channel.specs.Channel.{Request}
use Rattle.packet_layer.specs.Layer.{next_packet}
use Rattle.packet_end.specs.PacketEnd.{PacketEnd, begun, asked, called, relinked, with_next, offered, all_offered, settled}
use Rattle.node_laws.proofs.LineRecords.DueCounts.{brought-more}
use Rattle.node_laws.proofs.LineRecords.DueEnds.{NoMoreDue, same-due, then-due, begun-due, either-due, received-due, timer-due, relinked-due, asked-due, times}
use Rattle.node_laws.proofs.LineRecords.WholeEvents.{all_offered_notes}
use Rattle.node_laws.proofs.QuietEnds.{received_unread, timer_unread, asked_unread, called_unread}
use Rattle.switch_lines.specs.Switch.{quieted, without_notes}
use Rattle.joined_line.proofs.Unread.{all_offered_read}
use Rattle.switch_laws.specs.Steps.{Happening, does}
use Rattle.switch_laws.specs.Steps.Happening.{Brings, RunsOut, Relinks}

-- it has no note, and its layer has none either
pub record IsRead (e : PacketEnd) : Type 0 where
  pub notes : e.notes ≡ []
  pub unread : e.layer.notes ≡ []

-- over a change it is read if it was, and no more timers are due
pub record EndStays (old new : PacketEnd) : Type 0 where
  pub read : IsRead old → IsRead new
  pub due : NoMoreDue old new

pub end-same : (e : PacketEnd) → EndStays e e
end-same e = record { read = λ h. h; due = same-due e }

pub end-then : (a b c : PacketEnd) → EndStays a b → EndStays b c → EndStays a c
end-then a b c f g = record { read = λ h. g.read (f.read h); due = then-due f.due g.due }

pub begun-stays : (e : PacketEnd) → EndStays e (begun e)
begun-stays e = record { read = λ h. record { notes = refl; unread = h.unread }; due = begun-due e }

-- ---- what a switch asks

pub asked-stays : (e : PacketEnd) (channel : ℕ) (r : Request) → EndStays e (asked e channel r)
asked-stays e channel r = record {
  read = λ h. record { notes = h.notes; unread = asked_unread e channel r h.unread };
  due = asked-due e channel r;
}

pub called-stays : (e : PacketEnd) (parts : CallParts) → EndStays e (called e parts)
called-stays e parts = record {
  read = λ h. record { notes = h.notes; unread = called_unread e parts h.unread };
  due = record { link = omega arith; layer = omega arith };
}

-- ---- what happens at an end, whose notes are taken

pub relinked-stays : (e : PacketEnd) → EndStays e (without_notes (relinked (quieted e)))
relinked-stays e =
    let d : NoMoreDue (quieted e) (relinked (quieted e)) = relinked-due (quieted e) in
    record { read = λ h. record { notes = refl; unread = refl }; due = record { link = d.link; layer = d.layer } }

-- first in an event
pub happens-stays : (what : Happening) (e : PacketEnd) → EndStays e (without_notes (does what (quieted (begun e))))
happens-stays (Brings octets) e =
    let d = received-due (quieted e) octets in
    record {
      read = λ h. record { notes = refl; unread = received_unread (quieted e) octets refl };
      due = record { link = d.link; layer = d.layer };
    }
happens-stays (RunsOut id) e =
    let d = timer-due (quieted e) id in
    record {
      read = λ h. record { notes = refl; unread = timer_unread (quieted e) id refl };
      due = record { link = d.link; layer = d.layer };
    }
happens-stays Relinks e = end-then e (begun e) (without_notes (relinked (quieted (begun e)))) (begun-stays e) (relinked-stays (begun e))

-- ---- the end of an event

offered-due : (most : ℕ) (e : PacketEnd) → NoMoreDue e (offered most e)
offered-due zero e = same-due e
offered-due (suc most) e =
    let n : PacketEnd = with_next e (next_packet e.layer) in
    let more : NoMoreDue n (offered most n) = offered-due most n in
    either-due (can_offer e.line.link) e (cond (is_some (next_packet e.layer).packet) (offered most n) e) e
    (either-due (is_some (next_packet e.layer).packet) e (offered most n) e (record { link = more.link; layer = more.layer }) (same-due e))
    (same-due e)

pub offered-stays : (e : PacketEnd) → EndStays e (all_offered e)
unfolding all_offered
offered-stays e = record {
  read = λ h. record { notes = all_offered_notes e ∙ h.notes; unread = all_offered_read e h.unread };
  due = offered-due 7 e;
}

pub settled-stays : (e : PacketEnd) → EndStays e (settled e)
settled-stays e = record {
  read = λ h. record { notes = h.notes; unread = h.unread };
  due = record { link = times (timing e.line.link (settle e.line.link)) e.line.t1; layer = brought-more e.layer e.timers };
}

-- its frames go out
pub out-stays : (e : PacketEnd) → EndStays e (record e { line = without_frames e.line })
out-stays e = record {
  read = λ h. record { notes = h.notes; unread = h.unread };
  due = record { link = omega arith; layer = omega arith };
}
