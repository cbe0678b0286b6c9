-- No frame of an event is lost: there is room for one of what happens, one of a relink and seven at the end.
use Rattle.std.proofs.Common.{◌≡◌, ℕ, zero, suc, ◌≤◌, arith, Bool, true, false, cond, if◌then◌else◌, List, [], ◌∷◌, ◌++◌, length, Option, Some, None, is_some, refl, sym, ap, ◌∙◌, append_assoc, append-nil, length-append}
use Rattle.std.proofs.lemmas.List.{length-map}
use Rattle.link_timers.specs.declared.timers.TimerId.{TimerId}
use Rattle.link_timers.specs.declared.timers.TimerId.TheVariants.{T1}
use Rattle.frame_codec.specs.Spelling.{spelling}
use Rattle.lapb.specs.declared.note.Note as link_note
use Rattle.lapb.specs.declared.note.Note.TheVariants.{Nothing, Up, Down}
use Rattle.lapb.specs.Machine as link
use Rattle.lapb.specs.Machine.{Octets, Link, Step}
use Rattle.lapb.specs.Octets.{on_octets}
use Rattle.lapb.specs.Out.{with_frames}
use Rattle.line_end.specs.End as line
use Rattle.line_end.specs.End.{End}
use Rattle.line_end.proofs.Frames.{with_frames-fit}
use Rattle.line_end.proofs.Steps.{sends_on_octets, sends_relink, sends_on_t1}
use Rattle.packet_layer.specs.Layer.{next_packet}
use Rattle.packet_end.specs.PacketEnd.{PacketEnd, begun, heeded, after_packet, received, runs_at, expired, after_timer, relinked, relinked_if_due, offered, all_offered, with_next, finished, SettlesOnce, IsFinished}
use Rattle.packet_end.specs.Sending.{sent_by, answer_frames, expiry_frames, timer_frames, relink_frames, last_frames, ending_frames, EndsWhole}
use Rattle.packet_end.proofs.Ended.{offers_none}

-- ---- one frame at most

few_by : (l : Link) (step : Step) → length step.frames ≤ 1 → length (sent_by l step) ≤ 1
few_by l step few = omega (arith, few, length-map step.frames (spelling l.role))

pub answer_few : (e : PacketEnd) (octets : Octets) → length (answer_frames e octets) ≤ 1
answer_few e octets = few_by e.line.link (on_octets e.line.link octets) (sends_on_octets e.line.link octets).few

pub expiry_few : (id : TimerId) (e : PacketEnd) → length (expiry_frames id e) ≤ 1
expiry_few T1 e = few_by e.line.link (link.on_t1 e.line.link) (sends_on_t1 e.line.link).few
expiry_few id e = omega arith

if_few : (b : Bool) (fs : List Octets) → length fs ≤ 1 → length (if b then fs else []) ≤ 1
if_few true fs few = few
if_few false fs few = omega arith

pub timer_few : (e : PacketEnd) (id : TimerId) → length (timer_frames e id) ≤ 1
timer_few e id = if_few (runs_at e id) (expiry_frames id e) (expiry_few id e)

pub relink_few : (e : PacketEnd) → length (relink_frames e) ≤ 1
relink_few e = few_by e.line.link (link.relink e.line.link) (sends_relink e.line.link).few

-- ---- what happens at the end, where no frame waits

brought_frames : (note : link_note.Note) (o : Option Octets) (e : PacketEnd) → (after_packet o (heeded note e)).line.frames ≡ e.line.frames
brought_frames Nothing None e = refl
brought_frames Nothing (Some octets) e = refl
brought_frames Up None e = refl
brought_frames Up (Some octets) e = refl
brought_frames Down None e = refl
brought_frames Down (Some octets) e = refl

alone : (new : List Octets) → length new ≤ 1 → with_frames [] new ≡ new
alone new few = with_frames-fit [] new (omega (arith, few))

pub answered : (e : PacketEnd) (octets : Octets) → (received (begun e) octets).line.frames ≡ answer_frames e octets
answered e octets =
    brought_frames (on_octets e.line.link octets).note (on_octets e.line.link octets).accepted (record (begun e) { line = line.received (begun e).line octets })
    ∙ alone (answer_frames e octets) (answer_few e octets)

expired_frames : (id : TimerId) (e : PacketEnd) → (expired id (begun e)).line.frames ≡ expiry_frames id e
expired_frames T1 e =
    brought_frames (link.on_t1 e.line.link).note None (record (begun e) { line = line.expired (begun e).line }) ∙ alone (expiry_frames T1 e) (expiry_few T1 e)
expired_frames id e = refl

pub timed_out : (e : PacketEnd) (id : TimerId) → runs_at e id ≡ true → (after_timer (begun e) id).line.frames ≡ expiry_frames id e
timed_out e id runs = ap (λ (b : Bool). (cond b (expired id (begun e)) (begun e)).line.frames) runs ∙ expired_frames id e

pub set_up_anew : (e : PacketEnd) → (relinked (begun e)).line.frames ≡ relink_frames e
set_up_anew e = alone (relink_frames e) (relink_few e)

-- ---- the end of an event

by_bool : {X : Type 0} (P : X → Type 0) (b : Bool) (x y : X) → P x → P y → P (cond b x y)
by_bool P true x y f g = f
by_bool P false x y f g = g

offered_frames : (most : ℕ) (e : PacketEnd) → (offered most e).line.frames ≡ e.line.frames
offered_frames zero e = refl
offered_frames (suc most) e =
    by_bool (λ (x : PacketEnd). x.line.frames ≡ e.line.frames) (link.can_offer e.line.link) _ _
    (by_bool (λ (x : PacketEnd). x.line.frames ≡ e.line.frames) (is_some (next_packet e.layer).packet) _ _ (offered_frames most (with_next e (next_packet e.layer))) refl) refl

pub all_offered_frames : (e : PacketEnd) → (all_offered e).line.frames ≡ e.line.frames
unfolding all_offered
all_offered_frames e = offered_frames 7 e

if_due : (b : Bool) (e : PacketEnd) → length e.line.frames ≤ 1 → (cond b (relinked e) e).line.frames ≡ e.line.frames ++ (if b then relink_frames e else [])
if_due true e room = with_frames-fit e.line.frames (relink_frames e) (let few = relink_few e in omega (arith, room, few))
if_due false e room = sym (append-nil e.line.frames)

pub ends_whole : (e : PacketEnd) → length (link.settle (all_offered (relinked_if_due e)).line.link).frames ≤ 7 → EndsWhole e (finished e)
unfolding finished
ends_whole e seven room =
    let r = relinked_if_due e in
    let x = all_offered r in
    let anew = if e.layer.relink then relink_frames e else [] in
    let two : r.line.frames ≡ e.line.frames ++ anew = if_due e.layer.relink e room in
    let waits : x.line.frames ≡ e.line.frames ++ anew = all_offered_frames r ∙ two in
    let few = if_few e.layer.relink (relink_frames e) (relink_few e) in
    let sum = ap (λ (fs : List Octets). length fs) waits ∙ length-append e.line.frames anew in
    let many = length-map (link.settle x.line.link).frames (spelling x.line.link.role) in
    with_frames-fit x.line.frames (last_frames x) (omega (arith, room, few, sum, many, seven))
    ∙ (ap (λ (fs : List Octets). fs ++ last_frames x) waits ∙ append_assoc {A = Octets} e.line.frames anew (last_frames x))

-- ---- an event that had ended ends again: nothing more is sent

none_by : (new : List Octets) → with_frames [] new ≡ [] → new ≡ []
none_by [] e = refl
none_by (x ∷ xs) e = absurd (cc)

settles_silent : (e : PacketEnd) → SettlesOnce e.line → last_frames e ≡ []
settles_silent e once = none_by (last_frames e) (ap (λ (x : End). x.frames) (once []))

pub ended_whole : (e : PacketEnd) → IsFinished e → EndsWhole e e
ended_whole e is room = sym (ap (λ (fs : List Octets). e.line.frames ++ fs) none ∙ append-nil e.line.frames)
  where
    same : all_offered (relinked_if_due e) ≡ e
    same = ap (λ (b : Bool). all_offered (cond b (relinked e) e)) is.none_due ∙ offers_none e is.kept.offered

    none : ending_frames e ≡ []
    none =
        ap (λ (b : Bool). (if b then relink_frames e else []) ++ last_frames (all_offered (relinked_if_due e))) is.none_due
        ∙ (ap (λ (x : PacketEnd). last_frames x) same ∙ settles_silent e is.settled)
