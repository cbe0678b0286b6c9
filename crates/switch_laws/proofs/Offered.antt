-- At the end of an event no link takes a packet that its layer has.
use Rattle.std.proofs.Common.{◌≡◌, ℕ, zero, suc, ◌*◌, ◌≤◌, inl, Bool, true, false, cond, ◌&&◌, ◌||◌, List, [], ◌∷◌, map, length, Option, Some, None, is_some, refl, sym, ap, subst, ◌∙◌, true≢false, arith, drop, if◌then◌else◌}
use Rattle.std.specs.Prelude.{slice_get}
use Rattle.std.proofs.lemmas.Option.{none-some, same_Some}
use Rattle.link_timers.specs.declared.timers.TimerId.{TimerId}
use Rattle.link_timers.specs.declared.timers.TimerId.TheVariants.{T1}
use Rattle.lapb.specs.declared.note.Note as link_note
use Rattle.lapb.specs.declared.note.Note.TheVariants.{Nothing, Up, Down}
use Rattle.lapb.specs.Machine as link
use Rattle.lapb.specs.declared.phase.Phase.{Phase}
use Rattle.lapb.specs.declared.phase.Phase.TheVariants as phase
use Rattle.lapb.specs.Machine.{Octets, Link, can_offer, is_up, sendable, send_all, settle_in}
use Rattle.lapb.specs.Unsent.{HasSentAll}
use Rattle.lapb.proofs.Unsent.{settles_all}
use Rattle.lapb.specs.Octets as link_octets
use Rattle.line_end.specs.End as line
use Rattle.line_end.specs.End.{End}
use Rattle.data_transfer.specs.Packets.{CallParts, Note}
use Rattle.data_transfer.specs.Packets.Note.{Incoming, Connected, Closed, WasReset, InterruptConfirmed, Covered}
use Rattle.packet_channel.specs.Channel.Request.{Accept, Clearing, Resetting, Releasing, Confirming}
use Rattle.packet_layer.specs.Layer.{next_packet}
use Rattle.packet_end.specs.PacketEnd.{PacketEnd, received, heeded, after_packet, after_timer, expired, runs_at, relinked, settled, HasOfferedAll, KeepsNothingBack}
use Rattle.packet_end.proofs.Offering.{none_left, settled_all_offered}
use Rattle.address_routes.specs.Routes.{RouteMap}
use Rattle.switch_joins.specs.Direction.{Direction, releasable}
use Rattle.switch_joins.specs.declared.channels.SwitchChannel.{SwitchChannel}
use Rattle.switch_joins.specs.Joins.{Joined}
use Rattle.switch_lines.specs.Lines.{SwitchLine, changed, joined_at, with_joined}
use Rattle.switch_lines.specs.Relay.{freed, kept_anew, covered_on, told_joined, told_of}
use Rattle.switch_lines.specs.Switch.{Switch, Answer, answer, answered, forwarded, place_call, heed, heed_all, with_end, notes_of, without_notes, quieted, acted, to_relink, relinked_at, all_relinked, may_offer, all_offered_on, lines_first, finished, all_begun}
use Rattle.switch_lines.specs.Switch.Answer.{Clears, Joins}
use Rattle.switch_laws.specs.Offers.{HaveSmallLinks, EndsKeepNothingBack}
use Rattle.switch_laws.specs.Steps.{Happening, does}
use Rattle.switch_laws.specs.Steps.Happening.{Brings, RunsOut, Relinks}
use Rattle.switch_laws.proofs.Lists.{map_unchanged}
use Rattle.lapb.proofs.Links.{octets_keep_k, relink_keeps_k, t1_keeps_k}
use Rattle.switch_laws.proofs.Rounds.{lines_of, asked_lines, joined_lines, total, Small, rounds_offer, any_may}

-- ---- heeding changes no link

freed_lines : (p : SwitchChannel) (j : Joined) (v : Direction) (ls : List SwitchLine) → lines_of (freed p j v ls) ≡ lines_of ls
freed_lines p j v ls = joined_lines p _ _ ∙ asked_lines p (Releasing (releasable v.held)) ls

anew_lines : (o : Option Joined) (p : SwitchChannel) (ls : List SwitchLine) → lines_of (kept_anew o p ls) ≡ lines_of ls
anew_lines None p ls = refl
anew_lines (Some j) p ls = joined_lines p _ ls

covered_lines : (n : ℕ) (o : Option Joined) (p : SwitchChannel) (ls : List SwitchLine) → lines_of (covered_on n o p ls) ≡ lines_of ls
covered_lines n None p ls = refl
covered_lines n (Some j) p ls = freed_lines p j _ ls

told_lines : (note : Note) (p : SwitchChannel) (j : Joined) (ls : List SwitchLine) → lines_of (told_joined note p j ls) ≡ lines_of ls
told_lines (Connected c) p j ls = asked_lines j.other Accept ls
told_lines (Closed c cause diagnostic reason) p j ls =
    asked_lines j.other (Clearing _ _) (with_joined j.other None (with_joined p None ls)) ∙ (joined_lines j.other None (with_joined p None ls) ∙ joined_lines p None ls)
told_lines (WasReset c cause diagnostic reason) p j ls = anew_lines (joined_at ls j.other) j.other _ ∙ (anew_lines (Some j) p _ ∙ asked_lines j.other (Resetting _ _) ls)
told_lines (InterruptConfirmed c) p j ls = asked_lines j.other Confirming ls
told_lines (Covered c n) p j ls = covered_lines n (joined_at ls j.other) j.other ls
told_lines (Incoming c parts) p j ls = refl

told_of_lines : (o : Option Joined) (note : Note) (p : SwitchChannel) (ls : List SwitchLine) → lines_of (told_of o note p ls) ≡ lines_of ls
told_of_lines None note p ls = refl
told_of_lines (Some j) note p ls = told_lines note p j ls

answered_lines : (a : Answer) (p : SwitchChannel) (parts : CallParts) (ls : List SwitchLine) → lines_of (answered a p parts ls) ≡ lines_of ls
answered_lines (Clears cause) p parts ls = asked_lines p (Clearing cause _) ls
answered_lines (Joins q) p parts ls = joined_lines q _ _ ∙ (joined_lines p _ (place_call q.line (forwarded ls p.line parts) ls) ∙ map_unchanged (λ l. l.end.line) _ q.line ls (λ l. refl))

heed_lines : (routes : RouteMap) (n : ℕ) (note : Note) (ls : List SwitchLine) → lines_of (heed routes n note ls) ≡ lines_of ls
heed_lines routes n (Incoming c parts) ls = answered_lines (answer routes ls n parts) _ parts ls
heed_lines routes n (Connected c) ls = told_of_lines _ (Connected c) _ ls
heed_lines routes n (Closed c cause diagnostic reason) ls = told_of_lines _ (Closed c cause diagnostic reason) _ ls
heed_lines routes n (WasReset c cause diagnostic reason) ls = told_of_lines _ (WasReset c cause diagnostic reason) _ ls
heed_lines routes n (InterruptConfirmed c) ls = told_of_lines _ (InterruptConfirmed c) _ ls
heed_lines routes n (Covered c k) ls = told_of_lines _ (Covered c k) _ ls

pub heed_all_lines : (routes : RouteMap) (n : ℕ) (notes : List Note) (ls : List SwitchLine) → lines_of (heed_all routes n notes ls) ≡ lines_of ls
heed_all_lines routes n [] ls = refl
heed_all_lines routes n (x ∷ xs) ls = heed_all_lines routes n xs (heed routes n x ls) ∙ heed_lines routes n x ls

-- ---- no event changes k

abbrev pub ks : List End → List ℕ
ks es = map (λ e. e.link.k) es

pub acted_ks : (n : ℕ) (g : PacketEnd → PacketEnd) (ls : List SwitchLine) → ((e : PacketEnd) → (g e).line.link.k ≡ e.line.link.k) → ks (lines_of (changed n (with_end g) ls)) ≡ ks (lines_of ls)
acted_ks n g [] same = refl
acted_ks zero g (l ∷ ls) same = ap (λ (k : ℕ). k ∷ ks (lines_of ls)) (same l.end)
acted_ks (suc n) g (l ∷ ls) same = ap (λ (xs : List ℕ). l.end.line.link.k ∷ xs) (acted_ks n g ls same)

pub act_ks : (routes : RouteMap) (n : ℕ) (f : PacketEnd → PacketEnd) (ls : List SwitchLine) → ((e : PacketEnd) → (f (quieted e)).line.link.k ≡ e.line.link.k) → ks (lines_of (acted routes n f ls)) ≡ ks (lines_of ls)
act_ks routes n f ls same =
    let l1 = changed n (with_end (λ e. f (quieted e))) ls in
    ap (λ (es : List End). ks es) (heed_all_lines routes n (notes_of (slice_get l1 n)) (changed n (with_end without_notes) l1))
    ∙ (acted_ks n without_notes l1 (λ e. refl) ∙ acted_ks n (λ e. f (quieted e)) ls same)

brought_k : (note : link_note.Note) (o : Option Octets) (e : PacketEnd) (k : ℕ) → e.line.link.k ≡ k → (after_packet o (heeded note e)).line.link.k ≡ k
brought_k Nothing None e k is = is
brought_k Nothing (Some octets) e k is = is
brought_k Up None e k is = is
brought_k Up (Some octets) e k is = is
brought_k Down None e k is = is
brought_k Down (Some octets) e k is = is

received_k : (octets : Octets) (e : PacketEnd) → (received (quieted e) octets).line.link.k ≡ e.line.link.k
received_k octets e =
    brought_k (link_octets.on_octets e.line.link octets).note (link_octets.on_octets e.line.link octets).accepted (record (quieted e) { line = line.received e.line octets }) e.line.link.k (octets_keep_k e.line.link octets)

expired_k : (id : TimerId) (e : PacketEnd) → (expired id (quieted e)).line.link.k ≡ e.line.link.k
expired_k T1 e = brought_k (link.on_t1 e.line.link).note None (record (quieted e) { line = line.expired e.line }) e.line.link.k (t1_keeps_k e.line.link)
expired_k id e = refl

by_bool : {X : Type 0} (P : X → Type 0) (b : Bool) (x y : X) → P x → P y → P (cond b x y)
by_bool P true x y f g = f
by_bool P false x y f g = g

timer_k : (id : TimerId) (e : PacketEnd) → (after_timer (quieted e) id).line.link.k ≡ e.line.link.k
timer_k id e = by_bool (λ (f : PacketEnd). f.line.link.k ≡ e.line.link.k) (runs_at (quieted e) id) _ _ (expired_k id e) refl

relinked_k : (e : PacketEnd) → (relinked (quieted e)).line.link.k ≡ e.line.link.k
relinked_k e = relink_keeps_k e.line.link

pub does_k : (what : Happening) (e : PacketEnd) → (does what (quieted e)).line.link.k ≡ e.line.link.k
does_k (Brings octets) e = received_k octets e
does_k (RunsOut id) e = timer_k id e
does_k Relinks e = relinked_k e

relinked_at_ks : (o : Option ℕ) (routes : RouteMap) (ls : List SwitchLine) → ks (lines_of (relinked_at o routes ls)) ≡ ks (lines_of ls)
relinked_at_ks None routes ls = refl
relinked_at_ks (Some n) routes ls = act_ks routes n relinked ls relinked_k

pub all_relinked_ks : (most : ℕ) (routes : RouteMap) (ls : List SwitchLine) → ks (lines_of (all_relinked most routes ls)) ≡ ks (lines_of ls)
all_relinked_ks zero routes ls = refl
all_relinked_ks (suc most) routes ls = all_relinked_ks most routes (relinked_at (to_relink ls) routes ls) ∙ relinked_at_ks (to_relink ls) routes ls

pub begun_ks : (ls : List SwitchLine) → ks (lines_of (all_begun ls)) ≡ ks (lines_of ls)
begun_ks [] = refl
begun_ks (l ∷ ls) = ap (λ (xs : List ℕ). l.end.line.link.k ∷ xs) (begun_ks ls)

-- ---- small ones

abbrev pub AreSmall : List ℕ → Type 0
AreSmall [] = Unit {0}
AreSmall (k ∷ more) = (k ≤ 7) × AreSmall more

pub small_links : (ls : List SwitchLine) → HaveSmallLinks ls → AreSmall (ks (lines_of ls))
small_links [] h = tt
small_links (l ∷ ls) h = (h 0 l refl, small_links ls (λ n x e. h (suc n) x e))

small_ends : (ls : List SwitchLine) → AreSmall (ks (lines_of ls)) → Small (lines_of ls)
small_ends [] s = tt
small_ends (l ∷ ls) s = (s.0, small_ends ls s.1)

within : (ls : List SwitchLine) → total (lines_of ls) ≤ 7 * length ls
within [] = omega arith
within (l ∷ ls) = let rest = within ls in omega arith

-- ---- all is sent

settled_sent : (e : PacketEnd) → HasSentAll (settled e).line.link
settled_sent e = settles_all e.line.link

-- ---- all is offered

abbrev pub HaveOfferedAll : List SwitchLine → Type 0
HaveOfferedAll ls = (n : ℕ) (l : SwitchLine) → slice_get ls n ≡ Some l → HasOfferedAll l.end

or_parts : (a b : Bool) → (a || b) ≡ false → (a ≡ false) × (b ≡ false)
or_parts true b e = absurd (true≢false e)
or_parts false b e = (refl, e)

pub none_may : (ls : List SwitchLine) → any_may ls ≡ false → HaveOfferedAll ls
none_may [] e n l got = absurd (none-some l got)
none_may (x ∷ xs) e zero l got =
    subst (λ (y : SwitchLine). HasOfferedAll y.end) (same_Some x l got)
    (none_left x.end (or_parts (may_offer x) (any_may xs) e).0)
none_may (x ∷ xs) e (suc n) l got = none_may xs (or_parts (may_offer x) (any_may xs) e).1 n l got

settled_offered : (ls : List SwitchLine) → HaveOfferedAll ls → EndsKeepNothingBack (map (with_end settled) ls)
settled_offered [] h n l got = absurd (none-some l got)
settled_offered (x ∷ xs) h zero l got = subst (λ (y : SwitchLine). KeepsNothingBack y.end) (same_Some _ l got) (record { offered = settled_all_offered x.end (h 0 x refl); sent = settled_sent x.end })
settled_offered (x ∷ xs) h (suc n) l got = settled_offered xs (λ k y e. h (suc k) y e) n l got

finished_offered : (routes : RouteMap) (n : ℕ) (ls : List SwitchLine) → AreSmall (ks (lines_of ls)) → EndsKeepNothingBack (finished routes n ls)
finished_offered routes n ls small =
    let rs = all_relinked (length ls) routes ls in
    let first = lines_first n routes ls in
    let s : AreSmall (ks (lines_of rs)) = subst (λ (xs : List ℕ). AreSmall xs) (sym (all_relinked_ks (length ls) routes ls)) small in
    settled_offered (all_offered_on first rs) (none_may (all_offered_on first rs) (rounds_offer (7 * length rs) first rs (small_ends rs s) (within rs)))

pub event_offered : (n : ℕ) (what : Happening) (s : Switch) → HaveSmallLinks s.lines → EndsKeepNothingBack (finished s.routes n (acted s.routes n (does what) (all_begun s.lines)))
event_offered n what s h =
    finished_offered s.routes n (acted s.routes n (does what) (all_begun s.lines))
    (subst (λ (xs : List ℕ). AreSmall xs) (sym (act_ks s.routes n (does what) (all_begun s.lines) (λ e. does_k what e) ∙ begun_ks s.lines)) (small_links s.lines h))
