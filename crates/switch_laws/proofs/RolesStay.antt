-- Nothing that happens at a switch changes its role on a line.
use Rattle.std.proofs.Common.{◌≡◌, ℕ, zero, suc, Bool, true, false, cond, List, [], ◌∷◌, map, Option, Some, None, is_some, refl, ap, ◌∙◌, sym}
use Rattle.std.specs.Prelude.{slice_get}
use Rattle.link_timers.specs.declared.timers.TimerId.{TimerId}
use Rattle.link_timers.specs.declared.timers.TimerId.TheVariants.{T1}
use Rattle.lapb.specs.declared.note.Note as link_note
use Rattle.lapb.specs.declared.note.Note.TheVariants.{Nothing, Up, Down}
use Rattle.lapb.specs.Machine.{Octets, can_offer, on_t1}
use Rattle.lapb.specs.Octets as link_octets
use Rattle.line_end.specs.End as line
use Rattle.data_transfer.specs.Packets.{Received}
use Rattle.data_transfer.specs.Packets.Received.{Whole, Unknown, Faulty}
use Rattle.packet_channel.specs.Channel.{unreadable, requested}
use Rattle.packet_layer.specs.Layer.{Layer, Phase, Timer, channel_of, channel_given, next_packet, on_channel, unread}
use Rattle.packet_layer.specs.Layer.Phase.{NoSession, OwnRestart, PacketReady}
use Rattle.packet_layer.specs.Events.{after_hearing, on_named, timer_named}
use Rattle.data_transfer.specs.Octets.{heard}
use Rattle.packet_end.specs.PacketEnd.{PacketEnd, after_packet, heeded, expired, runs_at, offered, all_offered, with_next}
use Rattle.packet_laws.proofs.Line.Moves.{found_same, placed_same, timer_same}
use Rattle.packet_laws.proofs.Line.Arriving.{packet_same}
use Rattle.packet_laws.proofs.Line.Offering.{next_same}
use Rattle.switch_lines.specs.Lines.{SwitchLine, changed, role_on}
use Rattle.switch_lines.specs.Switch.{Switch, finished, acted, all_begun, with_end, quieted}
use Rattle.switch_laws.specs.Steps.{Happening, does, Step, lines_after, lines_after_all}
use Rattle.switch_laws.specs.Steps.Happening.{Brings, RunsOut, Relinks}
use Rattle.switch_laws.specs.Steps.Step.{Asks, Places, Keeps, Happens, Offers, Begins, Settles, Elapses}
use Rattle.switch_laws.specs.EventSteps.{event_steps}
use Rattle.switch_laws.proofs.Leading.{event_leads}

-- ---- an end

on_channel_role : (phase : Phase) (unknown : Bool) (l : Layer) (c : ℕ) → (on_channel phase l c (λ ch. unreadable l.role c unknown ch)).role ≡ l.role
on_channel_role PacketReady unknown l c = (found_same l 0 c (λ ch. unreadable l.role c unknown ch) (channel_of l c)).0
on_channel_role OwnRestart unknown l c = refl
on_channel_role NoSession unknown l c = refl

hears_role : (o : Option Received) (l : Layer) → (after_hearing (unread l) o).role ≡ l.role
hears_role None l = refl
hears_role (Some (Whole p)) l = (packet_same l 0 p).0
hears_role (Some (Unknown c)) l = on_channel_role l.phase true (unread l) c
hears_role (Some (Faulty c)) l = on_channel_role l.phase false (unread l) c

packet_role : (o : Option Octets) (e : PacketEnd) → (after_packet o e).layer.role ≡ e.layer.role
packet_role None e = refl
packet_role (Some octets) e = hears_role (heard e.layer.flow octets) e.layer

heeds_role : (note : link_note.Note) (e : PacketEnd) → (heeded note e).layer.role ≡ e.layer.role
heeds_role Nothing e = refl
heeds_role Up e = refl
heeds_role Down e = refl

named_role : (o : Option Timer) (l : Layer) → (on_named l o).role ≡ l.role
named_role None l = refl
named_role (Some t) l = (timer_same l 0 t).0

expires_role : (id : TimerId) (e : PacketEnd) → (expired id e).layer.role ≡ e.layer.role
expires_role T1 e = heeds_role (on_t1 e.line.link).note (record e { line = line.expired e.line })
expires_role id e = named_role (timer_named e.layer.role id) e.layer

timer_role : (ran : Bool) (id : TimerId) (e : PacketEnd) → (cond ran (expired id e) e).layer.role ≡ e.layer.role
timer_role true id e = expires_role id e
timer_role false id e = refl

does_role : (what : Happening) (e : PacketEnd) → (does what (quieted e)).layer.role ≡ e.layer.role
does_role (Brings octets) e =
    packet_role (link_octets.on_octets e.line.link octets).accepted
    (heeded (link_octets.on_octets e.line.link octets).note (record (quieted e) { line = line.received e.line octets }))
    ∙ heeds_role (link_octets.on_octets e.line.link octets).note (record (quieted e) { line = line.received e.line octets })
does_role (RunsOut id) e = timer_role (runs_at (quieted e) id) id (quieted e)
does_role Relinks e = refl

either_role : (link there : Bool) (next e : PacketEnd) → next.layer.role ≡ e.layer.role → (cond link (cond there next e) e).layer.role ≡ e.layer.role
either_role true true next e same = same
either_role true false next e same = refl
either_role false there next e same = refl

offers_role : (most : ℕ) (e : PacketEnd) → (offered most e).layer.role ≡ e.layer.role
offers_role zero e = refl
offers_role (suc most) e =
    either_role (can_offer e.line.link) (is_some (next_packet e.layer).packet) (offered most (with_next e (next_packet e.layer))) e
    (offers_role most (with_next e (next_packet e.layer)) ∙ (next_same e.layer 0).0)

all_offers_role : (e : PacketEnd) → (all_offered e).layer.role ≡ e.layer.role
unfolding all_offered
all_offers_role e = offers_role 7 e

-- ---- lines

changed_role : (n : ℕ) (f : SwitchLine → SwitchLine) → ((l : SwitchLine) → (f l).end.layer.role ≡ l.end.layer.role) → (m : ℕ) (ls : List SwitchLine)
    → role_on (slice_get (changed n f ls) m) ≡ role_on (slice_get ls m)
changed_role n f same m [] = refl
changed_role zero f same zero (l ∷ ls) = ap Some (same l)
changed_role zero f same (suc m) (l ∷ ls) = refl
changed_role (suc n) f same zero (l ∷ ls) = refl
changed_role (suc n) f same (suc m) (l ∷ ls) = changed_role n f same m ls

pub all_roles : (f : SwitchLine → SwitchLine) → ((l : SwitchLine) → (f l).end.layer.role ≡ l.end.layer.role) → (m : ℕ) (ls : List SwitchLine)
    → role_on (slice_get (map f ls) m) ≡ role_on (slice_get ls m)
all_roles f same m [] = refl
all_roles f same zero (l ∷ ls) = ap Some (same l)
all_roles f same (suc m) (l ∷ ls) = all_roles f same m ls

step_role : (s : Step) (m : ℕ) (ls : List SwitchLine) → role_on (slice_get (lines_after s ls) m) ≡ role_on (slice_get ls m)
step_role (Asks p q) m ls =
    changed_role p.line _ (λ l. (found_same l.end.layer 0 p.channel (λ ch. requested l.end.layer.role l.end.layer.flow ch q) (channel_of l.end.layer p.channel)).0) m ls
step_role (Places n parts) m ls = changed_role n _ (λ l. (placed_same l.end.layer 0 parts (channel_given l.end.layer l.end.layer.phase)).0) m ls
step_role (Keeps p o) m ls = changed_role p.line _ (λ l. refl) m ls
step_role (Happens n what) m ls =
    changed_role n _ (λ l. refl) m (changed n (with_end (λ e. does what (quieted e))) ls) ∙ changed_role n _ (λ l. does_role what l.end) m ls
step_role (Offers n) m ls = changed_role n _ (λ l. all_offers_role l.end) m ls
step_role Begins m ls = all_roles _ (λ l. refl) m ls
step_role Settles m ls = all_roles _ (λ l. refl) m ls
step_role (Elapses ticks) m ls = all_roles _ (λ l. refl) m ls

steps_role : (steps : List Step) (m : ℕ) (ls : List SwitchLine) → role_on (slice_get (lines_after_all steps ls) m) ≡ role_on (slice_get ls m)
steps_role [] m ls = refl
steps_role (s ∷ more) m ls = steps_role more m (lines_after s ls) ∙ step_role s m ls

pub event_role : (n : ℕ) (what : Happening) (m : ℕ) (s : Switch)
    → role_on (slice_get (finished s.routes n (acted s.routes n (does what) (all_begun s.lines))) m) ≡ role_on (slice_get s.lines m)
event_role n what m s =
    ap (λ (ls : List SwitchLine). role_on (slice_get ls m)) (sym (event_leads s.routes n what s.lines)) ∙ steps_role (event_steps s.routes n what s.lines) m s.lines
