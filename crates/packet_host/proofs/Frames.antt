-- An event of a host loses no frame.
use Rattle.std.proofs.Common.{◌≡◌, ◌≤◌, ◌++◌, List, length, true, sym, subst, ap, ◌∙◌}
use Rattle.link_timers.specs.declared.timers.TimerId.{TimerId}
use Rattle.packet_end.specs.PacketEnd.{Octets, PacketEnd, begun, received, runs_at, after_timer, relinked}
use Rattle.packet_end.specs.Sending.{EndsWhole, answer_frames, expiry_frames, relink_frames, ending_frames}
use Rattle.packet_end.proofs.Sending.{answered, answer_few, timed_out, expiry_few, set_up_anew, relink_few}

-- what happened has sent these, at most one; then the event ends
pub whole : (e f : PacketEnd) (fs : List Octets) → e.line.frames ≡ fs → length fs ≤ 1 → EndsWhole e f → f.line.frames ≡ fs ++ ending_frames e
whole e f fs is few ends = ends (subst (λ (x : List Octets). length x ≤ 1) (sym is) few) ∙ ap (λ (x : List Octets). x ++ ending_frames e) is

pub frame_whole : (old heard new : PacketEnd) (octets : Octets) → heard ≡ received (begun old) octets → EndsWhole heard new
    → new.line.frames ≡ answer_frames old octets ++ ending_frames (received (begun old) octets)
frame_whole old heard new octets is ends =
    whole (received (begun old) octets) new (answer_frames old octets) (answered old octets) (answer_few old octets) (subst (λ (e : PacketEnd). EndsWhole e new) is ends)

pub expiry_whole : (old heard new : PacketEnd) (id : TimerId) → runs_at old id ≡ true → heard ≡ after_timer (begun old) id → EndsWhole heard new
    → new.line.frames ≡ expiry_frames id old ++ ending_frames (after_timer (begun old) id)
expiry_whole old heard new id runs is ends =
    whole (after_timer (begun old) id) new (expiry_frames id old) (timed_out old id runs) (expiry_few id old) (subst (λ (e : PacketEnd). EndsWhole e new) is ends)

pub relink_whole : (old relinked_ new : PacketEnd) → relinked_ ≡ relinked (begun old) → EndsWhole relinked_ new
    → new.line.frames ≡ relink_frames old ++ ending_frames (relinked (begun old))
relink_whole old relinked_ new is ends =
    whole (relinked (begun old)) new (relink_frames old) (set_up_anew old) (relink_few old) (subst (λ (e : PacketEnd). EndsWhole e new) is ends)
