-- An end at which an event ended stays as it is when one ends again.
use Rattle.std.proofs.Common.{◌≡◌, ◌∙◌, refl, sym, ap, subst, Bool, true, false, List, [], ◌∷◌, length, drop, inl, inr}
use Rattle.std.specs.Box.{with_value}
use Rattle.std.specs.Prelude.{ℕ, ◌⊎◌, Option, None, is_some, not, ◌&&◌, cond, if◌then◌else◌}
use Rattle.lapb.specs.declared.phase.Phase.{Phase}
use Rattle.lapb.specs.Machine.{Octets, Link, can_offer, runs, sendable, send_all, settle_in}
use Rattle.lapb.specs.Out.{timing_by}
use Rattle.line_end.specs.End.{End, did, timed}
use Rattle.line_end.specs.End as line
use Rattle.line_end.specs.Held.{LineEnd}
use Rattle.data_transfer.specs.Packets.{Packet, Note}
use Rattle.packet_layer.specs.Layer.{next_packet}
use Rattle.packet_layer.specs.LayerTimers.{LayerTimers}
use Rattle.packet_end.specs.PacketEnd.{PacketEnd, SettlesOnce, IsFinished, HasOfferedAll}
use Rattle.packet_end.specs.PacketEnd.{relinked, all_offered, settled, finished}
use Rattle.packet_end.specs.Touched.{IsTouched}
use Rattle.packet_end.specs.PooledView.{end_of, IsPooled}
use Rattle.packet_end.specs.declared.pooled.PooledEnd.TheInside.{Inside}
use Rattle.packet_end.specs.declared.touched.Touched.{Touched}
use Rattle.packet_end.specs.declared.touched.Touched.TheVariants.{Nothing}
use Rattle.packet_end.proofs.Offering.{no_room, no_packet, none_to_offer}
use Rattle.packet_end.proofs.Untouched.{none_touched}

-- ---- the link settles once

-- steps that start nothing anew, one after the other
timed_once : (ran runs_now : Bool) (t1 : Option ℕ) →
    timed (timing_by runs_now runs_now false) (timed (timing_by ran runs_now false) t1) ≡ timed (timing_by ran runs_now false) t1
timed_once ran true t1 = refl
timed_once ran false t1 = refl

drop_all : (xs : List Octets) → drop (length xs) xs ≡ []
drop_all [] = refl
drop_all (x ∷ xs) = drop_all xs

all_sent : (may : Bool) (packets : List Octets) → (if may then drop (length packets) packets else []) ≡ []
all_sent false packets = refl
all_sent true packets = drop_all packets

abbrev with_t1 : Link → List Octets → Option ℕ → End
with_t1 link frames t1 = record { link = link; t1 = t1; frames = frames }

-- an end with a link, whose T1 was timed as it is to run, is timed once
once : (l : End) (link : Link) (frames : List Octets) →
    with_t1 link frames (timed (timing_by (runs link) (runs link) false)
    (timed (timing_by (runs l.link) (runs link) false) l.t1))
    ≡ with_t1 link frames (timed (timing_by (runs l.link) (runs link) false) l.t1)
once l link frames = ap (with_t1 link frames) (timed_once (runs l.link) (runs link) l.t1)

sent_once : (l : End) (frames packets : List Octets) → sendable l.link ≡ packets →
    did (record (did l (send_all l.link packets)) { frames = frames })
    (send_all (send_all l.link packets).link (sendable (send_all l.link packets).link))
    ≡ record (did l (send_all l.link packets)) { frames = frames }
sent_once l frames [] none =
    ap (λ (more : List Octets). did (record (did l (send_all l.link [])) { frames = frames })
    (send_all (send_all l.link []).link more)) none
    ∙ once l (send_all l.link []).link frames
sent_once l frames (packet ∷ packets) some =
    ap (λ (more : List Octets). did (record (did l (send_all l.link (packet ∷ packets))) { frames = frames })
    (send_all (send_all l.link (packet ∷ packets)).link more))
    (all_sent (l.link.heard && not l.link.polling && not l.link.busy) l.link.queue)
    ∙ once l (send_all l.link (packet ∷ packets)).link frames

once_in : (phase : Phase) (l : End) (frames : List Octets) →
    did (record (did l (settle_in phase l.link)) { frames = frames }) (settle_in phase (settle_in phase l.link).link)
    ≡ record (did l (settle_in phase l.link)) { frames = frames }
once_in Phase.Down l frames = once l l.link frames
once_in Phase.SettingUp l frames = once l l.link frames
once_in Phase.Rejecting l frames = once l l.link frames
once_in Phase.Up l frames = sent_once l frames (sendable l.link) refl

sent_in_phase : (l : Link) (packets : List Octets) → (send_all l packets).link.phase ≡ l.phase
sent_in_phase l [] = refl
sent_in_phase l (packet ∷ packets) = refl

phase_stays : (phase : Phase) (l : Link) → (settle_in phase l).link.phase ≡ l.phase
phase_stays Phase.Down l = refl
phase_stays Phase.SettingUp l = refl
phase_stays Phase.Rejecting l = refl
phase_stays Phase.Up l = sent_in_phase l (sendable l)

settled_once : (l : End) → SettlesOnce (line.settled l)
settled_once l frames =
    ap (λ (phase : Phase). did (record (line.settled l) { frames = frames }) (settle_in phase (line.settled l).link))
    (phase_stays l.link.phase l.link)
    ∙ once_in l.link.phase l frames

-- ---- an event ends again

pub offers_none : (e : PacketEnd) → HasOfferedAll e → all_offered e ≡ e
unfolding all_offered
offers_none e all = by (none_to_offer e all)
  where
    by : (can_offer e.line.link ≡ false) ⊎ ((next_packet e.layer).packet ≡ None) → all_offered e ≡ e
    by (inl room) = no_room 7 e room
    by (inr silent) = no_packet 7 e (ap (λ (packet : Option Packet). is_some packet) silent)

settles_none : (e : PacketEnd) → IsFinished e → settled e ≡ e
settles_none e is =
    ap (λ (t : LayerTimers). record e { timers = t; line = line.settled e.line })
    (none_touched e.layer e.timers is.timers)
    ∙ ap (λ (l : End). record e { line = l }) (is.settled e.line.frames)

pub finished_once : (e : PacketEnd) → IsFinished e → finished e ≡ e
unfolding finished
finished_once e is =
    ap (λ (x : PacketEnd). settled (all_offered x)) (ap (λ (b : Bool). cond b (relinked e) e) is.none_due)
    ∙ ap (λ (x : PacketEnd). settled x) (offers_none e is.kept.offered)
    ∙ settles_none e is

-- the link has settled
pub settles_once : (offered now : PacketEnd) → now ≡ settled offered → SettlesOnce now.line
settles_once offered now same =
    subst (λ (e : PacketEnd). SettlesOnce e.line) (sym same) (settled_once offered.line)

-- nothing happened since an event ended
pub ended : (touched : Touched) (e : PacketEnd) → touched ≡ Nothing → IsTouched touched ⊎ IsFinished e → IsFinished e
ended touched e nothing (inl something) = absurd (subst IsTouched nothing something)
ended touched e nothing (inr is) = is

-- ---- frames and notes that are taken change nothing of it

still_finished : (e : PacketEnd) (frames : List Octets) (notes : List Note) → IsFinished e →
    IsFinished (record e { line = record e.line { frames = frames }; notes = notes })
still_finished e frames notes is = record {
  none_due = is.none_due;
  kept = record { offered = is.kept.offered; sent = is.kept.sent };
  timers = is.timers;
  settled = is.settled;
}

pub taken_from : (a : Inside) (line : LineEnd) (frames : List Octets) (notes : List Note) → IsPooled a →
    line ≡ record a.line.value { end = record a.line.value.end { frames = frames } } →
    IsPooled (record a { line = with_value a.line line; notes = notes })
taken_from a line frames notes is same =
    subst (λ (l : LineEnd). IsPooled (record a { line = with_value a.line l; notes = notes })) (sym same) (record {
      line = is.line;
      layer = is.layer;
      info = is.info;
      agree = is.agree;
      finished = by is.finished;
    })
  where
    by : IsTouched a.touched ⊎ IsFinished (end_of a) →
        IsTouched a.touched
        ⊎ IsFinished (record (end_of a) { line = record a.line.value.end { frames = frames }; notes = notes })
    by (inl touched) = inl touched
    by (inr finished) = inr (still_finished (end_of a) frames notes finished)
