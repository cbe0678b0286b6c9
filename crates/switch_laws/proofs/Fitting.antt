-- No link of a switch keeps more packets than its k, whatever happens.
use Rattle.std.proofs.Common.{◌≡◌, ℕ, zero, suc, ◌≤◌, arith, Bool, true, false, cond, if◌then◌else◌, List, [], ◌∷◌, map, length, Option, Some, None, is_some, refl, sym, subst}
use Rattle.std.specs.Prelude.{slice_get}
use Rattle.std.specs.List.{list_any}
use Rattle.std.proofs.lemmas.Option.{none-some, same_Some}
use Rattle.link_timers.specs.declared.role.Role.{Role}
use Rattle.link_timers.specs.declared.timers.TimerId.{TimerId}
use Rattle.link_timers.specs.declared.timers.TimerId.TheVariants.{T1}
use Rattle.lapb.specs.declared.note.Note as link_note
use Rattle.lapb.specs.declared.note.Note.TheVariants.{Nothing, Up, Down}
use Rattle.lapb.specs.declared.link.LinkParams.{LinkParams}
use Rattle.lapb.specs.Machine as link
use Rattle.lapb.specs.Machine.{Octets, Link, params_anew}
use Rattle.lapb.specs.Octets as link_octets
use Rattle.line_end.proofs.Calls.{made_queue}
use Rattle.line_end.proofs.Steps.{Keeps, sends_on_octets, sends_relink, sends_on_t1, settles, offer_fits}
use Rattle.line_end.specs.End as line
use Rattle.packet_end.specs.Params.{link_params}
use Rattle.packet_layer.specs.Layer.{next_packet}
use Rattle.packet_layer.specs.Events.{written_packet}
use Rattle.packet_end.specs.PacketEnd.{PacketEnd, heeded, after_packet, expired, runs_at, offered, all_offered, with_next, begun, settled}
use Rattle.address_routes.specs.Routes.{RouteMap}
use Rattle.joined_line.specs.declared.config.SwitchLineConfig.{SwitchLineConfig}
use Rattle.switch_lines.specs.Lines.{SwitchLine, changed}
use Rattle.switch_lines.specs.Making.{made_line}
use Rattle.switch_lines.specs.Relay.{relayed_first}
use Rattle.switch_lines.specs.Switch.{with_end, without_notes, without_joins, notes_of, quieted, acted, all_begun, to_relink, relinked_at, all_relinked, may_offer, offering_from, offered_from, lines_first, rounds, finished}
use Rattle.switch_laws.specs.Offers.{HaveFittingLinks}
use Rattle.switch_laws.specs.Steps.{Happening, does}
use Rattle.switch_laws.specs.Steps.Happening.{Brings, RunsOut, Relinks}
use Rattle.switch_laws.proofs.Rounds.{first_lines}
use Rattle.switch_laws.proofs.Offered.{heed_all_lines}
use Rattle.switch_laws.proofs.Isolating.{links_of, same_links}

abbrev pub Fits : Link → Type 0
Fits l = length l.queue ≤ l.k

abbrev pub AreFit : List Link → Type 0
AreFit [] = Unit {0}
AreFit (l ∷ ls) = Fits l × AreFit ls

pub fit_list : (ls : List SwitchLine) → HaveFittingLinks ls → AreFit (links_of ls)
fit_list [] h = tt
fit_list (l ∷ ls) h = (h 0 l refl, fit_list ls (λ n x e. h (suc n) x e))

pub fit_each : (ls : List SwitchLine) → AreFit (links_of ls) → HaveFittingLinks ls
fit_each [] f n l e = absurd (none-some l e)
fit_each (x ∷ xs) f zero l e = subst (λ (y : SwitchLine). Fits y.end.line.link) (same_Some x l e) f.0
fit_each (x ∷ xs) f (suc n) l e = fit_each xs f.1 n l e

still_fits : (l m : Link) → Keeps l m → Fits l → Fits m
still_fits l m k f =
    let same = k.k in
    let fewer = k.queue in
    omega (arith, f, same, fewer)

-- ---- an end

brought_fits : (note : link_note.Note) (o : Option Octets) (e : PacketEnd) → Fits e.line.link → Fits (after_packet o (heeded note e)).line.link
brought_fits Nothing None e f = f
brought_fits Nothing (Some octets) e f = f
brought_fits Up None e f = f
brought_fits Up (Some octets) e f = f
brought_fits Down None e f = f
brought_fits Down (Some octets) e f = f

expired_fits : (id : TimerId) (e : PacketEnd) → Fits e.line.link → Fits (expired id (quieted e)).line.link
expired_fits T1 e f =
    brought_fits (link.on_t1 e.line.link).note None (record (quieted e) { line = line.expired e.line }) (still_fits e.line.link (link.on_t1 e.line.link).link (sends_on_t1 e.line.link).keeps f)
expired_fits id e f = f

by_bool : {X : Type 0} (P : X → Type 0) (b : Bool) (x y : X) → P x → P y → P (cond b x y)
by_bool P true x y f g = f
by_bool P false x y f g = g

does_fits : (what : Happening) (e : PacketEnd) → Fits e.line.link → Fits (does what (quieted e)).line.link
does_fits (Brings octets) e f =
    brought_fits (link_octets.on_octets e.line.link octets).note (link_octets.on_octets e.line.link octets).accepted (record (quieted e) { line = line.received e.line octets })
    (still_fits e.line.link (link_octets.on_octets e.line.link octets).link (sends_on_octets e.line.link octets).keeps f)
does_fits (RunsOut id) e f = by_bool (λ (x : PacketEnd). Fits x.line.link) (runs_at (quieted e) id) _ _ (expired_fits id e f) f
does_fits Relinks e f = still_fits e.line.link (link.relink e.line.link).link (sends_relink e.line.link).keeps f

offered_fits : (most : ℕ) (e : PacketEnd) → Fits e.line.link → Fits (offered most e).line.link
offered_fits zero e f = f
offered_fits (suc most) e f =
    by_bool (λ (x : PacketEnd). Fits x.line.link) (link.can_offer e.line.link) _ _
    (by_bool (λ (x : PacketEnd). Fits x.line.link) (is_some (next_packet e.layer).packet) _ _ (offered_fits most (with_next e (next_packet e.layer)) (next_fits e f)) f) f
  where
    next_fits : (x : PacketEnd) → Fits x.line.link → Fits (with_next x (next_packet x.layer)).line.link
    next_fits x g = offer_fits x.line.link (written_packet x.layer.flow (next_packet x.layer).packet []) g

all_offered_fits : (e : PacketEnd) → Fits e.line.link → Fits (all_offered e).line.link
unfolding all_offered
all_offered_fits e f = offered_fits 7 e f

-- ---- lines

changed_fits : (n : ℕ) (g : PacketEnd → PacketEnd) (ls : List SwitchLine) → ((e : PacketEnd) → Fits e.line.link → Fits (g e).line.link) → AreFit (links_of ls) → AreFit (links_of (changed n (with_end g) ls))
changed_fits n g [] keeps f = tt
changed_fits zero g (l ∷ ls) keeps f = (keeps l.end f.0, f.1)
changed_fits (suc n) g (l ∷ ls) keeps f = (f.0, changed_fits n g ls keeps f.1)

pub all_fit : (g : PacketEnd → PacketEnd) (ls : List SwitchLine) → ((e : PacketEnd) → Fits e.line.link → Fits (g e).line.link) → AreFit (links_of ls) → AreFit (links_of (map (with_end g) ls))
all_fit g [] keeps f = tt
all_fit g (l ∷ ls) keeps f = (keeps l.end f.0, all_fit g ls keeps f.1)

pub same_fit : (ls ms : List SwitchLine) → links_of ms ≡ links_of ls → AreFit (links_of ls) → AreFit (links_of ms)
same_fit ls ms e f = subst (λ (xs : List Link). AreFit xs) (sym e) f

pub acted_fits : (routes : RouteMap) (n : ℕ) (what : Happening) (ls : List SwitchLine) → AreFit (links_of ls) → AreFit (links_of (acted routes n (does what) ls))
acted_fits routes n what ls f =
    let l1 = changed n (with_end (λ e. does what (quieted e))) ls in
    let l2 = changed n (with_end without_notes) l1 in
    same_fit l2 (acted routes n (does what) ls) (same_links l2 (acted routes n (does what) ls) (heed_all_lines routes n (notes_of (slice_get l1 n)) l2))
    (changed_fits n without_notes l1 (λ e g. g) (changed_fits n (λ e. does what (quieted e)) ls (does_fits what) f))

relinked_fits : (o : Option ℕ) (routes : RouteMap) (ls : List SwitchLine) → AreFit (links_of ls) → AreFit (links_of (relinked_at o routes ls))
relinked_fits None routes ls f = f
relinked_fits (Some n) routes ls f = acted_fits routes n Relinks ls f

pub all_relinked_fits : (most : ℕ) (routes : RouteMap) (ls : List SwitchLine) → AreFit (links_of ls) → AreFit (links_of (all_relinked most routes ls))
all_relinked_fits zero routes ls f = f
all_relinked_fits (suc most) routes ls f = all_relinked_fits most routes (relinked_at (to_relink ls) routes ls) (relinked_fits (to_relink ls) routes ls f)

offers_fit : (count n : ℕ) (ls : List SwitchLine) → AreFit (links_of ls) → AreFit (links_of (offered_from count n ls))
offers_fit zero n ls f = f
offers_fit (suc count) n ls f = offers_fit count (suc n) (changed n (with_end all_offered) ls) (changed_fits n all_offered ls all_offered_fits f)

pub rounds_fit : (most : ℕ) (first : List ℕ) (ls : List SwitchLine) → AreFit (links_of ls) → AreFit (links_of (rounds most first ls))
rounds_fit zero first ls f = same_fit ls (relayed_first first ls) (same_links ls (relayed_first first ls) (first_lines first ls)) f
rounds_fit (suc most) first ls f = by_may (list_any may_offer ms) (λ xs g. rounds_fit most (offering_from 0 ms) xs g)
  where
    ms : List SwitchLine
    ms = relayed_first first ls

    relayed_fits : AreFit (links_of ms)
    relayed_fits = same_fit ls ms (same_links ls ms (first_lines first ls)) f

    by_may : (b : Bool) → ((xs : List SwitchLine) → AreFit (links_of xs) → AreFit (links_of (rounds most (offering_from 0 ms) xs)))
        → AreFit (links_of (if b then rounds most (offering_from 0 ms) (offered_from (length ls) 0 ms) else ms))
    by_may true more = more (offered_from (length ls) 0 ms) (offers_fit (length ls) 0 ms relayed_fits)
    by_may false more = relayed_fits

settled_fits : (e : PacketEnd) → Fits e.line.link → Fits (settled e).line.link
settled_fits e f = still_fits e.line.link (link.settle e.line.link).link (settles e.line.link).keeps f

pub begun_fits : (ls : List SwitchLine) → AreFit (links_of ls) → AreFit (links_of (all_begun ls))
begun_fits ls f = all_fit begun ls (λ e g. g) f

pub finished_fits : (routes : RouteMap) (n : ℕ) (ls : List SwitchLine) → AreFit (links_of ls) → AreFit (links_of (finished routes n ls))
finished_fits routes n ls f =
    let rs = all_relinked (length ls) routes ls in
    all_fit settled (rounds _ (lines_first n routes ls) rs) settled_fits (rounds_fit _ (lines_first n routes ls) rs (all_relinked_fits (length ls) routes ls f))

-- after an event
pub event_fits : (routes : RouteMap) (n : ℕ) (what : Happening) (ls : List SwitchLine) → HaveFittingLinks ls → HaveFittingLinks (finished routes n (acted routes n (does what) (all_begun ls)))
event_fits routes n what ls h =
    fit_each (finished routes n (acted routes n (does what) (all_begun ls))) (finished_fits routes n _ (acted_fits routes n what (all_begun ls) (begun_fits ls (fit_list ls h))))

-- ---- ends that are new or restart

none_kept : (k : ℕ) (xs : List Octets) → length xs ≡ 0 → length xs ≤ k
none_kept k xs e = omega (arith, e)

pub restarted_fit : (ls : List SwitchLine) → AreFit (links_of (map without_joins ls))
restarted_fit [] = tt
restarted_fit (l ∷ ls) =
    (none_kept _ (line.restarted l.end.line).link.queue (made_queue l.end.line.link.role (params_anew l.end.line.link)), restarted_fit ls)

made_fits : (role : Role) (p : LinkParams) → Fits (line.made role p).link
made_fits role p = none_kept _ (line.made role p).link.queue (made_queue role p)

pub made_fit : (lines : List SwitchLineConfig) → AreFit (links_of (map made_line lines))
made_fit [] = tt
made_fit (c ∷ cs) = (made_fits c.role (link_params c.params), made_fit cs)
