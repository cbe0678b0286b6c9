-- The steps of an event of a switch behind the first two: no time passes, no frame comes and no timer runs out.
use Rattle.std.specs.Prelude.{ℕ, zero, suc, ◌*◌, Bool, true, false, if◌then◌else◌, List, [], ◌∷◌, ◌++◌, length, slice_get, Option, Some, None}
use Rattle.std.specs.List.{list_any}
use Rattle.data_transfer.specs.Packets.{CallParts, Note}
use Rattle.data_transfer.specs.Packets.Note.{Incoming, Connected, Closed, WasReset, InterruptConfirmed, Covered}
use Rattle.data_transfer.specs.Traffic.{Taken}
use Rattle.packet_channel.specs.Channel.{Request}
use Rattle.address_routes.specs.Routes.{RouteMap}
use Rattle.switch_joins.specs.declared.channels.SwitchChannel.{SwitchChannel}
use Rattle.switch_joins.specs.Joins.{Joined}
use Rattle.switch_lines.specs.Lines.{SwitchLine, changed, joined_at, front_at, sizes_at, takes_at}
use Rattle.switch_lines.specs.Relay.{carried_by, due_at, moved, relayed, places_first, relayed_first, most_moves}
use Rattle.switch_lines.specs.Switch.{Answer, answer, heed, notes_of, with_end, quieted, to_relink, relinked_at, all_relinked, may_offer, offering_from, offered_from, lines_first}
use Rattle.switch_lines.specs.Switch.Answer.{Clears, Joins}
use Rattle.switch_laws.specs.Steps.{does, Step, lines_after}
use Rattle.switch_laws.specs.Steps.Happening.{Relinks}
use Rattle.switch_laws.specs.Steps.Step.{Happens, Settles, Elapses}
use Rattle.switch_laws.specs.EventSteps.{asks_steps, freed_steps, moved_if_steps, moved_front_steps, moved_joined_steps, relayed_steps, relayed_from_steps, relayed_first_steps, anew_steps, covered_steps, told_joined_steps, told_steps, answered_steps, on_channel, heed_steps, heed_all_steps, relinked_steps, all_relinked_steps, offered_steps, rounds_steps, finished_steps}

abbrev pub IsLater : Step → Type 0
IsLater (Happens n Relinks) = Unit {0}
IsLater (Happens n what) = ⊥
IsLater (Elapses ticks) = ⊥
IsLater s = Unit {0}

abbrev pub AreLater : List Step → Type 0
AreLater [] = Unit {0}
AreLater (s ∷ more) = IsLater s × AreLater more

pub later-then : (as_ bs : List Step) → AreLater as_ → AreLater bs → AreLater (as_ ++ bs)
later-then [] bs p q = q
later-then (a ∷ as_) bs p q = (p.0, later-then as_ bs p.1 q)

-- ---- relay

asks-later : (p : SwitchChannel) (qs : List Request) (more : List Step) → AreLater more → AreLater (asks_steps p qs ++ more)
asks-later p [] more h = h
asks-later p (q ∷ qs) more h = (tt, asks-later p qs more h)

if-later : (b : Bool) (t : Taken) (p : SwitchChannel) (j : Joined) (ls : List SwitchLine) → AreLater (moved_if_steps b t p j ls)
if-later true t p j ls = (tt, asks-later j.other (due_at ls p j t) (freed_steps p j (carried_by (sizes_at ls p j.other) t j.kept)) (tt, (tt, tt)))
if-later false t p j ls = tt

front-later : (o : Option Taken) (p : SwitchChannel) (j : Joined) (ls : List SwitchLine) → AreLater (moved_front_steps o p j ls)
front-later None p j ls = tt
front-later (Some t) p j ls = if-later (takes_at ls j.other (due_at ls p j t)) t p j ls

moved-later : (o : Option Joined) (p : SwitchChannel) (ls : List SwitchLine) → AreLater (moved_joined_steps o p ls)
moved-later None p ls = tt
moved-later (Some j) p ls = front-later (front_at ls p) p j ls

relayed-later : (most : ℕ) (p : SwitchChannel) (ls : List SwitchLine) → AreLater (relayed_steps most p ls)
relayed-later zero p ls = tt
relayed-later (suc most) p ls = later-then (moved_joined_steps (joined_at ls p) p ls) (relayed_steps most p (moved p ls)) (moved-later (joined_at ls p) p ls) (relayed-later most p (moved p ls))

from-later : (ps : List SwitchChannel) (ls : List SwitchLine) → AreLater (relayed_from_steps ps ls)
from-later [] ls = tt
from-later (p ∷ ps) ls = later-then (relayed_steps most_moves p ls) (relayed_from_steps ps (relayed most_moves p ls)) (relayed-later most_moves p ls) (from-later ps (relayed most_moves p ls))

-- ---- notes

anew-later : (o : Option Joined) (p : SwitchChannel) → AreLater (anew_steps o p)
anew-later None p = tt
anew-later (Some j) p = (tt, tt)

covered-later : (n : ℕ) (o : Option Joined) (p : SwitchChannel) → AreLater (covered_steps n o p)
covered-later n None p = tt
covered-later n (Some j) p = (tt, (tt, tt))

joined-later : (note : Note) (p : SwitchChannel) (j : Joined) (ls : List SwitchLine) → AreLater (told_joined_steps note p j ls)
joined-later (Incoming c parts) p j ls = tt
joined-later (Connected c) p j ls = (tt, tt)
joined-later (Closed c cause diagnostic reason) p j ls = (tt, (tt, (tt, tt)))
joined-later (WasReset c cause diagnostic reason) p j ls = (tt, later-then (anew_steps (Some j) p) (anew_steps (joined_at ls j.other) j.other) (anew-later (Some j) p) (anew-later (joined_at ls j.other) j.other))
joined-later (InterruptConfirmed c) p j ls = (tt, tt)
joined-later (Covered c n) p j ls = covered-later n (joined_at ls j.other) j.other

told-later : (o : Option Joined) (note : Note) (p : SwitchChannel) (ls : List SwitchLine) → AreLater (told_steps o note p ls)
told-later None note p ls = tt
told-later (Some j) note p ls = joined-later note p j ls

answered-later : (a : Answer) (p : SwitchChannel) (parts : CallParts) (ls : List SwitchLine) → AreLater (answered_steps a p parts ls)
answered-later (Clears cause) p parts ls = (tt, tt)
answered-later (Joins q) p parts ls = (tt, (tt, (tt, tt)))

channel-later : (n c : ℕ) (note : Note) (ls : List SwitchLine) → AreLater (on_channel n c note ls)
channel-later n c note ls = told-later (joined_at ls (record { line = n; channel = c })) note (record { line = n; channel = c }) ls

heed-later : (routes : RouteMap) (n : ℕ) (note : Note) (ls : List SwitchLine) → AreLater (heed_steps routes n note ls)
heed-later routes n (Incoming c parts) ls = answered-later (answer routes ls n parts) (record { line = n; channel = c }) parts ls
heed-later routes n (Connected c) ls = channel-later n c (Connected c) ls
heed-later routes n (Closed c cause diagnostic reason) ls = channel-later n c (Closed c cause diagnostic reason) ls
heed-later routes n (WasReset c cause diagnostic reason) ls = channel-later n c (WasReset c cause diagnostic reason) ls
heed-later routes n (InterruptConfirmed c) ls = channel-later n c (InterruptConfirmed c) ls
heed-later routes n (Covered c k) ls = channel-later n c (Covered c k) ls

pub heeds-later : (routes : RouteMap) (n : ℕ) (notes : List Note) (ls : List SwitchLine) → AreLater (heed_all_steps routes n notes ls)
heeds-later routes n [] ls = tt
heeds-later routes n (x ∷ xs) ls = later-then (heed_steps routes n x ls) (heed_all_steps routes n xs (heed routes n x ls)) (heed-later routes n x ls) (heeds-later routes n xs (heed routes n x ls))

-- ---- the end of an event

relinked-later : (o : Option ℕ) (routes : RouteMap) (ls : List SwitchLine) → AreLater (relinked_steps o routes ls)
relinked-later None routes ls = tt
relinked-later (Some n) routes ls = (tt, heeds-later routes n (notes_of (slice_get (changed n (with_end (λ e. does Relinks (quieted e))) ls) n)) (lines_after (Happens n Relinks) ls))

all-relinked-later : (most : ℕ) (routes : RouteMap) (ls : List SwitchLine) → AreLater (all_relinked_steps most routes ls)
all-relinked-later zero routes ls = tt
all-relinked-later (suc most) routes ls =
    later-then (relinked_steps (to_relink ls) routes ls) (all_relinked_steps most routes (relinked_at (to_relink ls) routes ls)) (relinked-later (to_relink ls) routes ls)
    (all-relinked-later most routes (relinked_at (to_relink ls) routes ls))

offered-later : (count n : ℕ) → AreLater (offered_steps count n)
offered-later zero n = tt
offered-later (suc count) n = (tt, offered-later count (suc n))

rounds-later : (most : ℕ) (first : List ℕ) (ls : List SwitchLine) → AreLater (rounds_steps most first ls)
rounds-later zero first ls = from-later (places_first first ls) ls
rounds-later (suc most) first ls =
    let ms = relayed_first first ls in
    later-then (relayed_first_steps first ls) _ (from-later (places_first first ls) ls) (by (list_any may_offer ms) (rounds-later most (offering_from 0 ms) (offered_from (length ls) 0 ms)))
  where
    onward : List Step
    onward = rounds_steps most (offering_from 0 (relayed_first first ls)) (offered_from (length ls) 0 (relayed_first first ls))

    by : (v : Bool) → AreLater onward → AreLater (if v then offered_steps (length ls) 0 ++ onward else [])
    by true h = later-then (offered_steps (length ls) 0) _ (offered-later (length ls) 0) h
    by false h = tt

pub finished-later : (routes : RouteMap) (n : ℕ) (ls : List SwitchLine) → AreLater (finished_steps routes n ls)
finished-later routes n ls =
    let ks = all_relinked (length ls) routes ls in
    let first = lines_first n routes ls in
    later-then (all_relinked_steps (length ls) routes ls) (rounds_steps (7 * length ks) first ks ++ Settles ∷ []) (all-relinked-later (length ls) routes ls)
    (later-then (rounds_steps (7 * length ks) first ks) (Settles ∷ []) (rounds-later (7 * length ks) first ks) (tt, tt))
