-- Over each event of a switch its lines are kept, with the books that the acts of the event write.
use Rattle.std.specs.Prelude.{◌≡◌, ◌⊎◌, ℕ, zero, suc, Bool, true, false, if◌then◌else◌, ◌==◌, List, [], ◌∷◌, ◌++◌, slice_get, Option, Some, None, is_some}
use Rattle.std.proofs.Common.{inl, inr, refl, sym, ap, subst, ◌∙◌, option_map}
use Rattle.std.proofs.lemmas.Option.{none-some, same_Some}
use Rattle.std.proofs.lemmas.Bool.{eqb-true, eq-eqb}
use Rattle.link_timers.specs.declared.role.Role.{Role}
use Rattle.link_timers.specs.declared.role.Role.TheVariants.{Dte, Dce}
use Rattle.link_timers.specs.declared.timers.TimerId.{TimerId}
use Rattle.link_timers.specs.declared.timers.TimerId.TheVariants.{T1}
use Rattle.lapb.specs.declared.note.Note as link_note
use Rattle.lapb.specs.declared.note.Note.TheVariants.{Nothing, Up, Down}
use Rattle.lapb.specs.Machine.{Octets, on_t1, can_offer}
use Rattle.lapb.specs.Octets.{on_octets}
use Rattle.data_transfer.specs.declared.flow.Flow.{Flow}
use Rattle.data_transfer.specs.Packets.{Received}
use Rattle.data_transfer.specs.Octets.{heard}
use Rattle.packet_layer.specs.Layer.{Layer, Timer, next_packet, link_down}
use Rattle.packet_layer.specs.Events.{timer_named}
use Rattle.packet_laws.specs.Readable.{Every}
use Rattle.packet_end.specs.PacketEnd.{PacketEnd, restarted, runs_at, with_next}
use Rattle.node_laws.specs.Lines.NodeLine as acts
use Rattle.node_laws.specs.LineRecords.Kept.{Setting, Kept}
use Rattle.node_laws.proofs.LineRecords.LineLaw.{restart_kept}
use Rattle.call_records.specs.Book.{Book, all_told}
use Rattle.call_records.specs.Writes.{Write}
use Rattle.switch_lines.specs.Lines.{SwitchLine, changed}
use Rattle.switch_lines.specs.Switch.{Switch, with_end, quieted, notes_of, finished, acted, all_begun, without_joins}
use Rattle.switch_laws.specs.World.{Act, MayHappen, layers_of, after_acts}
use Rattle.switch_laws.proofs.Lists.{get_map}
use Rattle.switch_laws.proofs.Layers.{world_acts_all}
use Rattle.switch_laws.proofs.Frame.{acts_then, every_then}
use Rattle.switch_laws.proofs.Turning.{layer_got}
use Rattle.switched_call_laws.specs.SwitchRecords.Written.{Books, books_after_all, restart_writes, restarted_books}
use Rattle.switch_laws.specs.Steps.{Happening, does, Step, lines_after, lines_after_all, note_acts, heard_acts, packet_acts, timer_acts, expiry_acts, happening_acts, offer_acts, on_line, acts_of, acts_of_all}
use Rattle.switch_laws.specs.Steps.Happening.{Brings, RunsOut, Relinks}
use Rattle.switch_laws.specs.Steps.Step.{Asks, Places, Keeps, Happens, Offers, Begins, Settles, Elapses}
use Rattle.switch_laws.specs.EventSteps.{heed_all_steps, finished_steps, event_steps}
use Rattle.switched_call_laws.specs.SwitchRecords.Turned.{sight}
use Rattle.switched_call_laws.specs.SwitchRecords.Kept.{Partner, Partners, line_of_ends, line_with, KeptWith, AreKept, partners_after, IsFit, EventIsKept, FrameKeptLaw, TimerKeptLaw, RelinkKeptLaw, ElapseKeptLaw, restarted_partner, RestartKeptLaw, sent_on, with_sent, all_frames_out, OutLaw, LeadsLaw, HaveAddresses, ReadsOctets, LegsLaw}
use Rattle.switched_call_laws.proofs.SwitchRecords.Acts.{acts_write}
use Rattle.switched_call_laws.proofs.SwitchRecords.Turned.{written_seen}
use Rattle.switched_call_laws.proofs.SwitchRecords.Chains.{Changed, was_changed}
use Rattle.switched_call_laws.proofs.SwitchRecords.Chains.Changed.{here, apart}
use Rattle.switched_call_laws.proofs.SwitchRecords.Stepping.{silent_with, step_layers, steps_kept}
use Rattle.switch_laws.proofs.Leading.{event_leads}
use Rattle.switched_call_laws.proofs.SwitchRecords.Calming.{IsCalm, AreCalm, calm_stay, calm_fit, addressed, addressed_then, later_calm}
use Rattle.switch_joins.proofs.Apart.{decided}

-- ---- what happens on a line

later : (n : ℕ) (what : Happening) (s : Switch) → List Step
later n what s =
    heed_all_steps s.routes n (notes_of (slice_get (changed n (with_end (λ e. does what (quieted e))) (all_begun s.lines)) n)) (lines_after (Happens n what) (all_begun s.lines))
    ++ finished_steps s.routes n (acted s.routes n (does what) (all_begun s.lines))

begun_later : (n : ℕ) (what : Happening) (s : Switch) → ReadsOctets what → HaveAddresses s.lines → AreCalm (later n what s)
unfolding later
begun_later n what s reads h = later_calm s.routes n what (all_begun s.lines) reads (addressed_then (Begins ∷ []) s.lines (all_begun s.lines) refl (addressed s.lines h))

event_kept : (n : ℕ) (what : Happening) (s : Switch) (ps : Partners) (bs : Books) → ReadsOctets what → HaveAddresses s.lines → IsFit (Happens n what) ps → AreKept ps bs s.lines
    → EventIsKept n what s ps bs (finished s.routes n (acted s.routes n (does what) (all_begun s.lines)))
unfolding later
event_kept n what s ps bs reads h fits k =
    let calm = begun_later n what s reads h in
    subst (λ (ms : List SwitchLine). EventIsKept n what s ps bs ms) (event_leads s.routes n what s.lines)
    (subst (λ (qs : Partners). AreKept qs (books_after_all (acts_of_all (event_steps s.routes n what s.lines) s.lines) (layers_of s.lines) bs) (lines_after_all (event_steps s.routes n what s.lines) s.lines))
    (calm_stay (later n what s) (partners_after (Happens n what) ps) calm)
    (steps_kept (event_steps s.routes n what s.lines) ps bs s.lines (tt, (fits, calm_fit (later n what s) (partners_after (Happens n what) ps) calm)) k))

pub frame_event : FrameKeptLaw
frame_event n octets s ps bs are h fits k = event_kept n (Brings octets) s ps bs are h fits k

pub timer_event : TimerKeptLaw
timer_event n id s ps bs h k = event_kept n (RunsOut id) s ps bs tt h tt k

pub relink_event : RelinkKeptLaw
relink_event n s ps bs h k = event_kept n Relinks s ps bs tt h tt k

pub elapse_event : ElapseKeptLaw
elapse_event ticks s ps bs k = steps_kept (Elapses ticks ∷ []) ps bs s.lines (tt, tt) k

-- ---- a restart, and frames that go out

restart_own : (s : Setting) (r : Role) (b : Book) (e o : PacketEnd) (up down : List Octets) → Kept s b (line_of_ends r e o up down)
    → Kept s (all_told r (link_down e.layer).notes b) (line_of_ends r (restarted e) (acts.other_after acts.Restarts o) [] [])
restart_own s Dte b e o up down k = (restart_kept s b (line_of_ends Dte e o up down) Dte k).0
restart_own s Dce b e o up down k = (restart_kept s b (line_of_ends Dce e o up down) Dce k).0

restarted_with : (p : Partner) (b : Book) (e : PacketEnd) → KeptWith p b e → KeptWith (restarted_partner p) (all_told Dce (link_down e.layer).notes b) (restarted e)
restarted_with p b e k =
    subst (λ (y : Book). Kept p.setting y (line_with (restarted_partner p) (restarted e))) (written_seen p.role (Write.Told (link_down e.layer).notes ∷ []) b)
    (restart_own p.setting p.role (sight p.role b) e p.other p.up p.down k)

pub restart_event : RestartKeptLaw
restart_event s ps bs k n l' e = by (slice_get s.lines n) refl (sym (get_map without_joins s.lines n) ∙ e)
  where
    by : (o : Option SwitchLine) → slice_get s.lines n ≡ o → option_map without_joins o ≡ Some l' → KeptWith (restarted_partner (ps n)) (restarted_books (layers_of s.lines) bs n) l'.end
    by None f g = absurd (none-some l' g)
    by (Some l) f g =
        subst (λ (y : SwitchLine). KeptWith (restarted_partner (ps n)) (restarted_books (layers_of s.lines) bs n) y.end) (same_Some (without_joins l) l' g)
        (subst (λ (o : Option Layer). KeptWith (restarted_partner (ps n)) (restart_writes o (bs n)) (restarted l.end)) (sym (layer_got n s.lines l f)) (restarted_with (ps n) (bs n) l.end (k n l f)))

pub frames_out : OutLaw
frames_out n l kept ps bs ls got k m l' e = by (was_changed n all_frames_out ls m l' e)
  where
    by : Changed n all_frames_out ls m l' → KeptWith (with_sent n l kept ps m) (bs m) l'.end
    by (here old is there to) =
        let same : old ≡ l = same_Some old l (sym there ∙ got) in
        let partner : with_sent n l kept ps m ≡ sent_on l kept (ps n) =
        ap (λ (v : Bool). if v then sent_on l kept (ps m) else ps m) (eq-eqb m n is) ∙ ap (λ (i : ℕ). sent_on l kept (ps i)) is in
        subst (λ (p : Partner). KeptWith p (bs m) l'.end) (sym partner)
        (subst (λ (i : ℕ). KeptWith (sent_on l kept (ps n)) (bs i) l'.end) (sym is)
        (subst (λ (y : SwitchLine). KeptWith (sent_on l kept (ps n)) (bs n) y.end) (ap (λ (y : SwitchLine). all_frames_out y) (sym same) ∙ to)
        (silent_with (ps n) (bs n) (acts.Sends kept) l.end tt (k n l got))))
    by (apart ne there) =
        subst (λ (p : Partner). KeptWith p (bs m) l'.end) (sym (other (decided (m == n)))) (k m l' there)
      where
        other : ((m == n) ≡ true) ⊎ ((m == n) ≡ false) → with_sent n l kept ps m ≡ ps m
        other (inl t) = absurd (ne (eqb-true m n t))
        other (inr f) = ap (λ (v : Bool). if v then sent_on l kept (ps m) else ps m) f

-- ---- the steps, and the legs

steps_layers : (steps : List Step) (ls : List SwitchLine) → layers_of (lines_after_all steps ls) ≡ after_acts (acts_of_all steps ls) (layers_of ls)
steps_layers [] ls = refl
steps_layers (s ∷ more) ls =
    steps_layers more (lines_after s ls) ∙ (ap (λ (ys : List Layer). after_acts (acts_of_all more (lines_after s ls)) ys) (step_layers s ls) ∙ sym (acts_then (acts_of s ls) (acts_of_all more (lines_after s ls)) (layers_of ls)))

pub event_steps_lead : LeadsLaw
event_steps_lead n what s = (event_leads s.routes n what s.lines, steps_layers (event_steps s.routes n what s.lines) s.lines)

abbrev May : List Act → Type 0
May as_ = Every MayHappen as_

notes_may : (n : ℕ) (note : link_note.Note) → May (note_acts n note)
notes_may n Nothing = tt
notes_may n Up = (tt, tt)
notes_may n Down = (tt, tt)

heard_may : (n : ℕ) (o : Option Received) → May (heard_acts n o)
heard_may n None = tt
heard_may n (Some r) = (tt, tt)

packets_may : (n : ℕ) (flow : Flow) (o : Option Octets) → May (packet_acts n flow o)
packets_may n flow None = tt
packets_may n flow (Some octets) = heard_may n (heard flow octets)

timers_may : (n : ℕ) (o : Option Timer) → May (timer_acts n o)
timers_may n None = tt
timers_may n (Some t) = (tt, tt)

expiry_may : (n : ℕ) (id : TimerId) (e : PacketEnd) → May (expiry_acts n id e)
expiry_may n T1 e = notes_may n (on_t1 e.line.link).note
expiry_may n id e = timers_may n (timer_named e.layer.role id)

if_may : (v : Bool) (as_ bs : List Act) → May as_ → May bs → May (if v then as_ else bs)
if_may true as_ bs p q = p
if_may false as_ bs p q = q

happening_may : (n : ℕ) (what : Happening) (e : PacketEnd) → May (happening_acts n what e)
happening_may n (Brings octets) e =
    every_then (note_acts n (on_octets e.line.link octets).note) (packet_acts n e.layer.flow (on_octets e.line.link octets).accepted) (notes_may n (on_octets e.line.link octets).note)
    (packets_may n e.layer.flow (on_octets e.line.link octets).accepted)
happening_may n (RunsOut id) e = if_may (runs_at e id) (expiry_acts n id e) [] (expiry_may n id e) tt
happening_may n Relinks e = (tt, tt)

offers_may : (most n : ℕ) (e : PacketEnd) → May (offer_acts most n e)
offers_may zero n e = tt
offers_may (suc most) n e =
    if_may (can_offer e.line.link) _ [] (if_may (is_some (next_packet e.layer).packet) (Act.Gives n ∷ offer_acts most n (with_next e (next_packet e.layer))) [] (tt, offers_may most n (with_next e (next_packet e.layer))) tt) tt

line_may : (f : PacketEnd → List Act) (o : Option SwitchLine) → ((e : PacketEnd) → May (f e)) → May (on_line f o)
line_may f None h = tt
line_may f (Some l) h = h l.end

step_may : (s : Step) (ls : List SwitchLine) → IsCalm s → May (acts_of s ls)
step_may (Asks p q) ls c = (c, tt)
step_may (Places n parts) ls c = (tt, tt)
step_may (Keeps p o) ls c = tt
step_may (Happens n (Brings octets)) ls c = absurd c
step_may (Happens n (RunsOut id)) ls c = (tt, line_may (λ e. happening_acts n (RunsOut id) e) (slice_get ls n) (λ e. happening_may n (RunsOut id) e))
step_may (Happens n Relinks) ls c = (tt, line_may (λ e. happening_acts n Relinks e) (slice_get ls n) (λ e. happening_may n Relinks e))
step_may (Offers n) ls c = line_may (λ e. offer_acts 7 n e) (slice_get ls n) (λ e. offers_may 7 n e)
step_may Begins ls c = tt
step_may Settles ls c = tt
step_may (Elapses ticks) ls c = tt

steps_may : (steps : List Step) (ls : List SwitchLine) → AreCalm steps → May (acts_of_all steps ls)
steps_may [] ls c = tt
steps_may (s ∷ more) ls c = every_then (acts_of s ls) (acts_of_all more (lines_after s ls)) (step_may s ls c.0) (steps_may more (lines_after s ls) c.1)

event_may : (n : ℕ) (what : Happening) (s : Switch) → ReadsOctets what → HaveAddresses s.lines → May (acts_of_all (event_steps s.routes n what s.lines) s.lines)
unfolding later
event_may n what s reads h =
    every_then (acts_of (Happens n what) (all_begun s.lines)) (acts_of_all (later n what s) (lines_after (Happens n what) (all_begun s.lines)))
    (tt, line_may (λ e. happening_acts n what e) (slice_get (all_begun s.lines) n) (λ e. happening_may n what e))
    (steps_may (later n what s) (lines_after (Happens n what) (all_begun s.lines)) (begun_later n what s reads h))

pub legs_move : LegsLaw
legs_move n what s w bs reads h i r =
    let as_ = acts_of_all (event_steps s.routes n what s.lines) s.lines in
    let may = event_may n what s reads h in
    record { may = may; world = world_acts_all as_ (layers_of s.lines) w may i; records = acts_write as_ (layers_of s.lines) w bs may i r }
