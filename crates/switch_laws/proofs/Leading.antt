-- The steps of an event lead to what the event makes of the lines.
use Rattle.std.specs.Prelude.{◌≡◌, ℕ, zero, suc, ◌*◌, Bool, true, false, if◌then◌else◌, List, [], ◌∷◌, ◌++◌, length, slice_get, Option, Some, None}
use Rattle.std.proofs.Common.{refl, sym, ap, ◌∙◌, append-nil, append_assoc}
use Rattle.switch_laws.specs.World.{Act}
use Rattle.std.specs.List.{list_any}
use Rattle.data_transfer.specs.Packets.{CallParts, Note}
use Rattle.data_transfer.specs.Packets.Note.{Incoming, Connected, Closed, WasReset, InterruptConfirmed, Covered}
use Rattle.data_transfer.specs.Traffic.{Taken}
use Rattle.packet_channel.specs.Channel.{Request}
use Rattle.packet_channel.specs.Channel.Request.{Taking, Resetting}
use Rattle.address_routes.specs.Routes.{RouteMap}
use Rattle.joined_line.specs.Causes.{reset_cause, far_diagnostic}
use Rattle.switch_joins.specs.declared.channels.SwitchChannel.{SwitchChannel}
use Rattle.switch_joins.specs.Joins.{Joined}
use Rattle.switch_lines.specs.Lines.{SwitchLine, changed, joined_at, ask, ask_all, front_at, sizes_at, takes_at}
use Rattle.switch_lines.specs.Relay.{carried_by, due_at, moved, moved_if, moved_front, moved_joined, relayed, relayed_from, places_first, relayed_first, told_joined, told_of, kept_anew, covered_on, most_moves}
use Rattle.switch_lines.specs.Switch.{Answer, answer, answered, heed, heed_all, notes_of, with_end, quieted, acted, to_relink, relinked_at, all_relinked, may_offer, offering_from, offered_from, rounds, lines_first, finished, all_begun}
use Rattle.switch_lines.specs.Switch.Answer.{Clears, Joins}
use Rattle.switch_laws.specs.Steps.{Happening, does, Step, lines_after, lines_after_all, acts_of, acts_of_all}
use Rattle.switch_laws.specs.Steps.Happening.{Relinks}
use Rattle.switch_laws.specs.Steps.Step.{Settles, Happens}
use Rattle.switch_laws.specs.EventSteps.{asks_steps, freed_steps, moved_if_steps, moved_front_steps, moved_joined_steps, relayed_steps, relayed_from_steps, relayed_first_steps, anew_steps, covered_steps, told_joined_steps, told_steps, answered_steps, on_channel, heed_steps, heed_all_steps, acted_steps, relinked_steps, all_relinked_steps, offered_steps, rounds_steps, finished_steps, event_steps}

abbrev pub Leads : List Step → List SwitchLine → List SwitchLine → Type 0
Leads steps ls ms = lines_after_all steps ls ≡ ms

lines_then : (as_ bs : List Step) (ls : List SwitchLine) → lines_after_all (as_ ++ bs) ls ≡ lines_after_all bs (lines_after_all as_ ls)
lines_then [] bs ls = refl
lines_then (a ∷ as_) bs ls = lines_then as_ bs (lines_after a ls)

leads_then : (as_ bs : List Step) (ls ms ks : List SwitchLine) → Leads as_ ls ms → Leads bs ms ks → Leads (as_ ++ bs) ls ks
leads_then as_ bs ls ms ks e f = lines_then as_ bs ls ∙ (ap (λ (x : List SwitchLine). lines_after_all bs x) e ∙ f)

pub acts_lead : (as_ bs : List Step) (ls ms : List SwitchLine) → Leads as_ ls ms → acts_of_all as_ ls ++ acts_of_all bs ms ≡ acts_of_all (as_ ++ bs) ls
acts_lead [] bs ls ms e = ap (λ (x : List SwitchLine). acts_of_all bs x) (sym e)
acts_lead (a ∷ as_) bs ls ms e =
    append_assoc (acts_of a ls) (acts_of_all as_ (lines_after a ls)) (acts_of_all bs ms)
    ∙ ap (λ (acts : List Act). acts_of a ls ++ acts) (acts_lead as_ bs (lines_after a ls) ms e)

-- ---- relay

asks_lead : (p : SwitchChannel) (qs : List Request) (ls : List SwitchLine) → Leads (asks_steps p qs) ls (ask_all p qs ls)
asks_lead p [] ls = refl
asks_lead p (q ∷ qs) ls = asks_lead p qs (ask p q ls)

moved_if_leads : (b : Bool) (t : Taken) (p : SwitchChannel) (j : Joined) (ls : List SwitchLine) → Leads (moved_if_steps b t p j ls) ls (moved_if b t p j ls)
moved_if_leads true t p j ls =
    leads_then (asks_steps j.other (due_at ls p j t)) (freed_steps p j (carried_by (sizes_at ls p j.other) t j.kept)) (ask p Taking ls)
    (ask_all j.other (due_at ls p j t) (ask p Taking ls)) _ (asks_lead j.other (due_at ls p j t) (ask p Taking ls)) refl
moved_if_leads false t p j ls = refl

moved_front_leads : (o : Option Taken) (p : SwitchChannel) (j : Joined) (ls : List SwitchLine) → Leads (moved_front_steps o p j ls) ls (moved_front o p j ls)
moved_front_leads None p j ls = refl
moved_front_leads (Some t) p j ls = moved_if_leads (takes_at ls j.other (due_at ls p j t)) t p j ls

pub moved_leads : (o : Option Joined) (p : SwitchChannel) (ls : List SwitchLine) → Leads (moved_joined_steps o p ls) ls (moved_joined o p ls)
moved_leads None p ls = refl
moved_leads (Some j) p ls = moved_front_leads (front_at ls p) p j ls

pub relayed_leads : (most : ℕ) (p : SwitchChannel) (ls : List SwitchLine) → Leads (relayed_steps most p ls) ls (relayed most p ls)
relayed_leads zero p ls = refl
relayed_leads (suc most) p ls = leads_then (moved_joined_steps (joined_at ls p) p ls) (relayed_steps most p (moved p ls)) ls (moved p ls) _ (moved_leads (joined_at ls p) p ls) (relayed_leads most p (moved p ls))

from_leads : (ps : List SwitchChannel) (ls : List SwitchLine) → Leads (relayed_from_steps ps ls) ls (relayed_from ps ls)
from_leads [] ls = refl
from_leads (p ∷ ps) ls = leads_then (relayed_steps most_moves p ls) (relayed_from_steps ps (relayed most_moves p ls)) ls (relayed most_moves p ls) _ (relayed_leads most_moves p ls) (from_leads ps (relayed most_moves p ls))

pub relayed_first_leads : (first : List ℕ) (ls : List SwitchLine) → Leads (relayed_first_steps first ls) ls (relayed_first first ls)
relayed_first_leads first ls = from_leads (places_first first ls) ls

-- ---- notes

anew_leads : (o : Option Joined) (p : SwitchChannel) (ls : List SwitchLine) → Leads (anew_steps o p) ls (kept_anew o p ls)
anew_leads None p ls = refl
anew_leads (Some j) p ls = refl

covered_leads : (n : ℕ) (o : Option Joined) (p : SwitchChannel) (ls : List SwitchLine) → Leads (covered_steps n o p) ls (covered_on n o p ls)
covered_leads n None p ls = refl
covered_leads n (Some j) p ls = refl

joined_leads : (note : Note) (p : SwitchChannel) (j : Joined) (ls : List SwitchLine) → Leads (told_joined_steps note p j ls) ls (told_joined note p j ls)
joined_leads (Incoming c parts) p j ls = refl
joined_leads (Connected c) p j ls = refl
joined_leads (Closed c cause diagnostic reason) p j ls = refl
joined_leads (WasReset c cause diagnostic reason) p j ls =
    anew_leads (joined_at ls j.other) j.other (kept_anew (Some j) p (ask j.other (Resetting (reset_cause reason cause) (far_diagnostic reason diagnostic)) ls))
joined_leads (InterruptConfirmed c) p j ls = refl
joined_leads (Covered c n) p j ls = covered_leads n (joined_at ls j.other) j.other ls

pub told_leads : (o : Option Joined) (note : Note) (p : SwitchChannel) (ls : List SwitchLine) → Leads (told_steps o note p ls) ls (told_of o note p ls)
told_leads None note p ls = refl
told_leads (Some j) note p ls = joined_leads note p j ls

answered_leads : (a : Answer) (p : SwitchChannel) (parts : CallParts) (ls : List SwitchLine) → Leads (answered_steps a p parts ls) ls (answered a p parts ls)
answered_leads (Clears cause) p parts ls = refl
answered_leads (Joins q) p parts ls = refl

channel_leads : (n c : ℕ) (note : Note) (ls : List SwitchLine) → Leads (on_channel n c note ls) ls (told_of (joined_at ls (record { line = n; channel = c })) note (record { line = n; channel = c }) ls)
channel_leads n c note ls = told_leads (joined_at ls (record { line = n; channel = c })) note (record { line = n; channel = c }) ls

pub heed_leads : (routes : RouteMap) (n : ℕ) (note : Note) (ls : List SwitchLine) → Leads (heed_steps routes n note ls) ls (heed routes n note ls)
heed_leads routes n (Incoming c parts) ls = answered_leads (answer routes ls n parts) (record { line = n; channel = c }) parts ls
heed_leads routes n (Connected c) ls = channel_leads n c (Connected c) ls
heed_leads routes n (Closed c cause diagnostic reason) ls = channel_leads n c (Closed c cause diagnostic reason) ls
heed_leads routes n (WasReset c cause diagnostic reason) ls = channel_leads n c (WasReset c cause diagnostic reason) ls
heed_leads routes n (InterruptConfirmed c) ls = channel_leads n c (InterruptConfirmed c) ls
heed_leads routes n (Covered c k) ls = channel_leads n c (Covered c k) ls

heed_all_leads : (routes : RouteMap) (n : ℕ) (notes : List Note) (ls : List SwitchLine) → Leads (heed_all_steps routes n notes ls) ls (heed_all routes n notes ls)
heed_all_leads routes n [] ls = refl
heed_all_leads routes n (x ∷ xs) ls = leads_then (heed_steps routes n x ls) (heed_all_steps routes n xs (heed routes n x ls)) ls (heed routes n x ls) _ (heed_leads routes n x ls) (heed_all_leads routes n xs (heed routes n x ls))

-- ---- what happens at an end

pub acted_leads : (routes : RouteMap) (n : ℕ) (what : Happening) (ls : List SwitchLine) → Leads (acted_steps routes n what ls) ls (acted routes n (does what) ls)
acted_leads routes n what ls = heed_all_leads routes n (notes_of (slice_get (changed n (with_end (λ e. does what (quieted e))) ls) n)) (lines_after (Happens n what) ls)

pub relinked_leads : (o : Option ℕ) (routes : RouteMap) (ls : List SwitchLine) → Leads (relinked_steps o routes ls) ls (relinked_at o routes ls)
relinked_leads None routes ls = refl
relinked_leads (Some n) routes ls = acted_leads routes n Relinks ls

pub all_relinked_leads : (most : ℕ) (routes : RouteMap) (ls : List SwitchLine) → Leads (all_relinked_steps most routes ls) ls (all_relinked most routes ls)
all_relinked_leads zero routes ls = refl
all_relinked_leads (suc most) routes ls =
    leads_then (relinked_steps (to_relink ls) routes ls) (all_relinked_steps most routes (relinked_at (to_relink ls) routes ls)) ls (relinked_at (to_relink ls) routes ls) _
    (relinked_leads (to_relink ls) routes ls) (all_relinked_leads most routes (relinked_at (to_relink ls) routes ls))

-- ---- rounds

pub offered_leads : (count n : ℕ) (ls : List SwitchLine) → Leads (offered_steps count n) ls (offered_from count n ls)
offered_leads zero n ls = refl
offered_leads (suc count) n ls = offered_leads count (suc n) _

pub rounds_leads : (most : ℕ) (first : List ℕ) (ls : List SwitchLine) → Leads (rounds_steps most first ls) ls (rounds most first ls)
rounds_leads zero first ls = relayed_first_leads first ls
rounds_leads (suc most) first ls = by (list_any may_offer ms) (rounds_leads most (offering_from 0 ms) (offered_from (length ls) 0 ms))
  where
    ms : List SwitchLine
    ms = relayed_first first ls

    onward : List Step
    onward = rounds_steps most (offering_from 0 ms) (offered_from (length ls) 0 ms)

    by : (v : Bool) → Leads onward (offered_from (length ls) 0 ms) (rounds most (offering_from 0 ms) (offered_from (length ls) 0 ms))
        → Leads (relayed_first_steps first ls ++ (if v then offered_steps (length ls) 0 ++ onward else [])) ls (if v then rounds most (offering_from 0 ms) (offered_from (length ls) 0 ms) else ms)
    by true h =
        leads_then (relayed_first_steps first ls) (offered_steps (length ls) 0 ++ onward) ls ms _ (relayed_first_leads first ls)
        (leads_then (offered_steps (length ls) 0) onward ms (offered_from (length ls) 0 ms) _ (offered_leads (length ls) 0 ms) h)
    by false h = ap (λ (steps : List Step). lines_after_all steps ls) (append-nil (relayed_first_steps first ls)) ∙ relayed_first_leads first ls

finished_leads : (routes : RouteMap) (n : ℕ) (ls : List SwitchLine) → Leads (finished_steps routes n ls) ls (finished routes n ls)
finished_leads routes n ls =
    let ks = all_relinked (length ls) routes ls in
    let first = lines_first n routes ls in
    leads_then (all_relinked_steps (length ls) routes ls) (rounds_steps (7 * length ks) first ks ++ Settles ∷ []) ls ks (finished routes n ls) (all_relinked_leads (length ls) routes ls)
    (leads_then (rounds_steps (7 * length ks) first ks) (Settles ∷ []) ks (rounds (7 * length ks) first ks) (finished routes n ls) (rounds_leads (7 * length ks) first ks) refl)

pub event_leads : (routes : RouteMap) (n : ℕ) (what : Happening) (ls : List SwitchLine) → Leads (event_steps routes n what ls) ls (finished routes n (acted routes n (does what) (all_begun ls)))
event_leads routes n what ls =
    leads_then (acted_steps routes n what (all_begun ls)) (finished_steps routes n (acted routes n (does what) (all_begun ls))) (all_begun ls) (acted routes n (does what) (all_begun ls)) _
    (acted_leads routes n what (all_begun ls)) (finished_leads routes n (acted routes n (does what) (all_begun ls)))
