-- Of the steps of an event, all but the first bring nothing from outside, stop no one, and the calls that they place
-- can be placed.
use Rattle.std.specs.Prelude.{◌≡◌, ℕ, zero, suc, ◌*◌, Bool, true, false, if◌then◌else◌, List, [], ◌∷◌, ◌++◌, length, map, slice_get, Option, Some, None, unwrap_or}
use Rattle.std.proofs.Common.{refl, sym, ap, subst, ◌∙◌, arith, option_map}
use Rattle.std.proofs.lemmas.Option.{none-some, same_Some}
use Rattle.std.specs.List.{list_any}
use Rattle.packet_codec.specs.Address.{MayBeDigits}
use Rattle.packet_codec.specs.Digits.{digits_or_none}
use Rattle.data_transfer.specs.Packets.{CallParts, Note}
use Rattle.data_transfer.specs.Packets.Note.{Incoming, Connected, Closed, WasReset, InterruptConfirmed, Covered}
use Rattle.data_transfer.specs.Traffic.{Taken}
use Rattle.packet_channel.specs.Channel.{Request}
use Rattle.packet_laws.specs.Readable.{CanBePlaced, Every}
use Rattle.address_routes.specs.Routes.{RouteMap}
use Rattle.packet_end.specs.PacketEnd.{PacketEnd}
use Rattle.switch_joins.specs.declared.channels.SwitchChannel.{SwitchChannel}
use Rattle.switch_joins.specs.Joins.{Joined}
use Rattle.switch_lines.specs.Lines.{SwitchLine, changed, joined_at, front_at, sizes_at, takes_at}
use Rattle.switch_lines.specs.Relay.{carried_by, due_at, moved, relayed, places_first, relayed_first, most_moves}
use Rattle.switch_lines.specs.Switch.{Answer, answer, address_of, heed, notes_of, with_end, quieted, acted, to_relink, relinked_at, all_relinked, may_offer, offering_from, offered_from, lines_first}
use Rattle.switch_lines.specs.Switch.Answer.{Clears, Joins}
use Rattle.switch_laws.specs.World.{MayAsk}
use Rattle.switch_laws.proofs.Relaying.{may_ask}
use Rattle.switch_laws.proofs.Lists.{map_unchanged, get_map, get_changed}
use Rattle.switch_laws.specs.Steps.{Happening, does, Step, lines_after, lines_after_all}
use Rattle.switch_laws.specs.Steps.Happening.{Brings, RunsOut, Relinks}
use Rattle.switch_laws.specs.Steps.Step.{Asks, Places, Keeps, Happens, Offers, Begins, Settles, Elapses}
use Rattle.switch_laws.specs.EventSteps.{asks_steps, freed_steps, moved_if_steps, moved_front_steps, moved_joined_steps, relayed_steps, relayed_from_steps, relayed_first_steps, anew_steps, covered_steps, told_joined_steps, told_steps, answered_steps, on_channel, heed_steps, heed_all_steps, acted_steps, relinked_steps, all_relinked_steps, offered_steps, rounds_steps, finished_steps}
use Rattle.switched_call_laws.specs.SwitchRecords.Kept.{ReadsOctets, Partners, partners_after, partners_after_all, IsFit, AreFit, HaveAddresses}
use Rattle.switch_laws.proofs.Leading.{Leads, heed_leads, acted_leads, relinked_leads}
use Rattle.switched_call_laws.proofs.SwitchRecords.Fitting.{NotesCarry, happening_carries}

abbrev pub IsCalm : Step → Type 0
IsCalm (Asks p q) = MayAsk q
IsCalm (Places n parts) = CanBePlaced parts
IsCalm (Happens n (Brings octets)) = ⊥
IsCalm s = Unit {0}

abbrev pub AreCalm : List Step → Type 0
AreCalm [] = Unit {0}
AreCalm (s ∷ more) = IsCalm s × AreCalm more

pub calm_then : (as_ bs : List Step) → AreCalm as_ → AreCalm bs → AreCalm (as_ ++ bs)
calm_then [] bs p q = q
calm_then (a ∷ as_) bs p q = (p.0, calm_then as_ bs p.1 q)

-- a calm step leaves the partners
calm_partners : (s : Step) (ps : Partners) → IsCalm s → partners_after s ps ≡ ps
calm_partners (Asks p q) ps c = refl
calm_partners (Places n parts) ps c = refl
calm_partners (Keeps p o) ps c = refl
calm_partners (Happens n (Brings octets)) ps c = absurd c
calm_partners (Happens n (RunsOut id)) ps c = refl
calm_partners (Happens n Relinks) ps c = refl
calm_partners (Offers n) ps c = refl
calm_partners Begins ps c = refl
calm_partners Settles ps c = refl
calm_partners (Elapses ticks) ps c = refl

pub calm_stay : (steps : List Step) (ps : Partners) → AreCalm steps → partners_after_all steps ps ≡ ps
calm_stay [] ps c = refl
calm_stay (s ∷ more) ps c = calm_stay more (partners_after s ps) c.1 ∙ calm_partners s ps c.0

calm_one : (s : Step) (ps : Partners) → IsCalm s → IsFit s ps
calm_one (Asks p q) ps c = tt
calm_one (Places n parts) ps c = c
calm_one (Keeps p o) ps c = tt
calm_one (Happens n (Brings octets)) ps c = absurd c
calm_one (Happens n (RunsOut id)) ps c = tt
calm_one (Happens n Relinks) ps c = tt
calm_one (Offers n) ps c = tt
calm_one Begins ps c = tt
calm_one Settles ps c = tt
calm_one (Elapses ticks) ps c = tt

pub calm_fit : (steps : List Step) (ps : Partners) → AreCalm steps → AreFit steps ps
calm_fit [] ps c = tt
calm_fit (s ∷ more) ps c = (calm_one s ps c.0, calm_fit more (partners_after s ps) c.1)

-- ---- addresses

abbrev pub addresses : List SwitchLine → List (Option (List ℕ))
addresses ls = map (λ l. l.address) ls

on_ends : (f : PacketEnd → PacketEnd) (ls : List SwitchLine) → addresses (map (with_end f) ls) ≡ addresses ls
on_ends f [] = refl
on_ends f (l ∷ ls) = ap (λ as_. l.address ∷ as_) (on_ends f ls)

step_addresses : (s : Step) (ls : List SwitchLine) → addresses (lines_after s ls) ≡ addresses ls
step_addresses (Asks p q) ls = map_unchanged (λ l. l.address) _ p.line ls (λ l. refl)
step_addresses (Places n parts) ls = map_unchanged (λ l. l.address) _ n ls (λ l. refl)
step_addresses (Keeps p o) ls = map_unchanged (λ l. l.address) _ p.line ls (λ l. refl)
step_addresses (Happens n what) ls = map_unchanged (λ l. l.address) _ n (changed n (with_end (λ e. does what (quieted e))) ls) (λ l. refl) ∙ map_unchanged (λ l. l.address) _ n ls (λ l. refl)
step_addresses (Offers n) ls = map_unchanged (λ l. l.address) _ n ls (λ l. refl)
step_addresses Begins ls = on_ends _ ls
step_addresses Settles ls = on_ends _ ls
step_addresses (Elapses ticks) ls = on_ends _ ls

steps_addresses : (steps : List Step) (ls : List SwitchLine) → addresses (lines_after_all steps ls) ≡ addresses ls
steps_addresses [] ls = refl
steps_addresses (s ∷ more) ls = steps_addresses more (lines_after s ls) ∙ step_addresses s ls

abbrev pub Addressed : List SwitchLine → Type 0
Addressed ls = (n : ℕ) (a : Option (List ℕ)) → slice_get (addresses ls) n ≡ Some a → MayBeDigits (digits_or_none a)

pub addressed : (ls : List SwitchLine) → HaveAddresses ls → Addressed ls
addressed ls h n a e = by (slice_get ls n) refl (sym (get_map (λ l. l.address) ls n) ∙ e)
  where
    by : (o : Option SwitchLine) → slice_get ls n ≡ o → option_map (λ l. l.address) o ≡ Some a → MayBeDigits (digits_or_none a)
    by None f g = absurd (none-some a g)
    by (Some l) f g = subst (λ (x : Option (List ℕ)). MayBeDigits (digits_or_none x)) (same_Some l.address a g) (h n l f)

pub addressed_then : (steps : List Step) (ls ms : List SwitchLine) → Leads steps ls ms → Addressed ls → Addressed ms
addressed_then steps ls ms e h n a g = h n a (ap (λ (as_ : List (Option (List ℕ))). slice_get as_ n) (sym (steps_addresses steps ls) ∙ ap (λ (ks : List SwitchLine). addresses ks) e) ∙ g)

line_address : (ls : List SwitchLine) (n : ℕ) → Addressed ls → MayBeDigits (digits_or_none (address_of (slice_get ls n)))
line_address ls n h = by (slice_get ls n) refl
  where
    by : (o : Option SwitchLine) → slice_get ls n ≡ o → MayBeDigits (digits_or_none (address_of o))
    by None e = (omega arith, refl)
    by (Some l) e = h n l.address (get_map (λ l. l.address) ls n ∙ ap (λ (o : Option SwitchLine). option_map (λ l. l.address) o) e)

-- ---- relay

asks_calm : (p : SwitchChannel) (qs : List Request) (more : List Step) → Every MayAsk qs → AreCalm more → AreCalm (asks_steps p qs ++ more)
asks_calm p [] more may h = h
asks_calm p (q ∷ qs) more may h = (may.0, asks_calm p qs more may.1 h)

if_calm : (b : Bool) (t : Taken) (p : SwitchChannel) (j : Joined) (ls : List SwitchLine) → AreCalm (moved_if_steps b t p j ls)
if_calm true t p j ls =
    let sizes = sizes_at ls p j.other in
    (tt, asks_calm j.other (due_at ls p j t) (freed_steps p j (carried_by sizes t j.kept)) (may_ask sizes j.kept.gathered t) (tt, (tt, tt)))
if_calm false t p j ls = tt

front_calm : (o : Option Taken) (p : SwitchChannel) (j : Joined) (ls : List SwitchLine) → AreCalm (moved_front_steps o p j ls)
front_calm None p j ls = tt
front_calm (Some t) p j ls = if_calm (takes_at ls j.other (due_at ls p j t)) t p j ls

moved_calm : (o : Option Joined) (p : SwitchChannel) (ls : List SwitchLine) → AreCalm (moved_joined_steps o p ls)
moved_calm None p ls = tt
moved_calm (Some j) p ls = front_calm (front_at ls p) p j ls

relayed_calm : (most : ℕ) (p : SwitchChannel) (ls : List SwitchLine) → AreCalm (relayed_steps most p ls)
relayed_calm zero p ls = tt
relayed_calm (suc most) p ls = calm_then (moved_joined_steps (joined_at ls p) p ls) (relayed_steps most p (moved p ls)) (moved_calm (joined_at ls p) p ls) (relayed_calm most p (moved p ls))

from_calm : (ps : List SwitchChannel) (ls : List SwitchLine) → AreCalm (relayed_from_steps ps ls)
from_calm [] ls = tt
from_calm (p ∷ ps) ls = calm_then (relayed_steps most_moves p ls) (relayed_from_steps ps (relayed most_moves p ls)) (relayed_calm most_moves p ls) (from_calm ps (relayed most_moves p ls))

-- ---- notes

anew_calm : (o : Option Joined) (p : SwitchChannel) → AreCalm (anew_steps o p)
anew_calm None p = tt
anew_calm (Some j) p = (tt, tt)

covered_calm : (n : ℕ) (o : Option Joined) (p : SwitchChannel) → AreCalm (covered_steps n o p)
covered_calm n None p = tt
covered_calm n (Some j) p = (tt, (tt, tt))

joined_calm : (note : Note) (p : SwitchChannel) (j : Joined) (ls : List SwitchLine) → AreCalm (told_joined_steps note p j ls)
joined_calm (Incoming c parts) p j ls = tt
joined_calm (Connected c) p j ls = (tt, tt)
joined_calm (Closed c cause diagnostic reason) p j ls = (tt, (tt, (tt, tt)))
joined_calm (WasReset c cause diagnostic reason) p j ls = (tt, calm_then (anew_steps (Some j) p) (anew_steps (joined_at ls j.other) j.other) (anew_calm (Some j) p) (anew_calm (joined_at ls j.other) j.other))
joined_calm (InterruptConfirmed c) p j ls = (tt, tt)
joined_calm (Covered c n) p j ls = covered_calm n (joined_at ls j.other) j.other

told_calm : (o : Option Joined) (note : Note) (p : SwitchChannel) (ls : List SwitchLine) → AreCalm (told_steps o note p ls)
told_calm None note p ls = tt
told_calm (Some j) note p ls = joined_calm note p j ls

-- the calling address of a call that goes on is the line's, or the one that it has
may_be_calling : (address : Option (List ℕ)) (given : List ℕ) → MayBeDigits (digits_or_none address) → MayBeDigits given → MayBeDigits (unwrap_or address given)
may_be_calling None given h g = g
may_be_calling (Some digits) given h g = h

answered_calm : (a : Answer) (p : SwitchChannel) (parts : CallParts) (ls : List SwitchLine) → Addressed ls → CanBePlaced parts → AreCalm (answered_steps a p parts ls)
answered_calm (Clears cause) p parts ls h fits = (tt, tt)
answered_calm (Joins q) p parts ls h fits = (
  record {
    called = fits.called;
    calling = may_be_calling (address_of (slice_get ls p.line)) parts.calling (line_address ls p.line h) fits.calling;
    facilities = omega arith;
    user_data = fits.user_data;
  },
  (tt, (tt, tt)),
)

channel_calm : (n c : ℕ) (note : Note) (ls : List SwitchLine) → AreCalm (on_channel n c note ls)
channel_calm n c note ls = told_calm (joined_at ls (record { line = n; channel = c })) note (record { line = n; channel = c }) ls

first_calm : (routes : RouteMap) (n : ℕ) (note : Note) (more : List Note) (ls : List SwitchLine) → Addressed ls → NotesCarry (note ∷ more) → AreCalm (heed_steps routes n note ls)
first_calm routes n (Incoming c parts) more ls h carry = answered_calm (answer routes ls n parts) (record { line = n; channel = c }) parts ls h carry.0
first_calm routes n (Connected c) more ls h carry = channel_calm n c (Connected c) ls
first_calm routes n (Closed c cause diagnostic reason) more ls h carry = channel_calm n c (Closed c cause diagnostic reason) ls
first_calm routes n (WasReset c cause diagnostic reason) more ls h carry = channel_calm n c (WasReset c cause diagnostic reason) ls
first_calm routes n (InterruptConfirmed c) more ls h carry = channel_calm n c (InterruptConfirmed c) ls
first_calm routes n (Covered c k) more ls h carry = channel_calm n c (Covered c k) ls

others_carry : (note : Note) (more : List Note) → NotesCarry (note ∷ more) → NotesCarry more
others_carry (Incoming c parts) more carry = carry.1
others_carry (Connected c) more carry = carry
others_carry (Closed c cause diagnostic reason) more carry = carry
others_carry (WasReset c cause diagnostic reason) more carry = carry
others_carry (InterruptConfirmed c) more carry = carry
others_carry (Covered c k) more carry = carry

heeds_calm : (routes : RouteMap) (n : ℕ) (notes : List Note) (ls : List SwitchLine) → Addressed ls → NotesCarry notes → AreCalm (heed_all_steps routes n notes ls)
heeds_calm routes n [] ls h carry = tt
heeds_calm routes n (x ∷ xs) ls h carry =
    calm_then (heed_steps routes n x ls) (heed_all_steps routes n xs (heed routes n x ls)) (first_calm routes n x xs ls h carry)
    (heeds_calm routes n xs (heed routes n x ls) (addressed_then (heed_steps routes n x ls) ls (heed routes n x ls) (heed_leads routes n x ls) h) (others_carry x xs carry))

-- ---- what happens at an end

line_carries : (n : ℕ) (what : Happening) (ls : List SwitchLine) → ReadsOctets what → NotesCarry (notes_of (slice_get (changed n (with_end (λ e. does what (quieted e))) ls) n))
line_carries n what ls reads = subst (λ (o : Option SwitchLine). NotesCarry (notes_of o)) (sym (get_changed n (with_end (λ e. does what (quieted e))) ls)) (by (slice_get ls n))
  where
    by : (o : Option SwitchLine) → NotesCarry (notes_of (option_map (with_end (λ e. does what (quieted e))) o))
    by None = tt
    by (Some l) = happening_carries what l.end reads

-- behind what happened
pub heeded_calm : (routes : RouteMap) (n : ℕ) (what : Happening) (ls : List SwitchLine) → ReadsOctets what → Addressed ls
    → AreCalm (heed_all_steps routes n (notes_of (slice_get (changed n (with_end (λ e. does what (quieted e))) ls) n)) (lines_after (Happens n what) ls))
heeded_calm routes n what ls reads h = heeds_calm routes n _ (lines_after (Happens n what) ls) (addressed_then (Happens n what ∷ []) ls (lines_after (Happens n what) ls) refl h) (line_carries n what ls reads)

relinked_calm : (o : Option ℕ) (routes : RouteMap) (ls : List SwitchLine) → Addressed ls → AreCalm (relinked_steps o routes ls)
relinked_calm None routes ls h = tt
relinked_calm (Some n) routes ls h = (tt, heeded_calm routes n Relinks ls tt h)

all_relinked_calm : (most : ℕ) (routes : RouteMap) (ls : List SwitchLine) → Addressed ls → AreCalm (all_relinked_steps most routes ls)
all_relinked_calm zero routes ls h = tt
all_relinked_calm (suc most) routes ls h =
    calm_then (relinked_steps (to_relink ls) routes ls) (all_relinked_steps most routes (relinked_at (to_relink ls) routes ls)) (relinked_calm (to_relink ls) routes ls h)
    (all_relinked_calm most routes (relinked_at (to_relink ls) routes ls) (addressed_then (relinked_steps (to_relink ls) routes ls) ls (relinked_at (to_relink ls) routes ls) (relinked_leads (to_relink ls) routes ls) h))

offered_calm : (count n : ℕ) → AreCalm (offered_steps count n)
offered_calm zero n = tt
offered_calm (suc count) n = (tt, offered_calm count (suc n))

rounds_calm : (most : ℕ) (first : List ℕ) (ls : List SwitchLine) → AreCalm (rounds_steps most first ls)
rounds_calm zero first ls = from_calm (places_first first ls) ls
rounds_calm (suc most) first ls =
    let ms = relayed_first first ls in
    calm_then (relayed_first_steps first ls) _ (from_calm (places_first first ls) ls) (by (list_any may_offer ms) (rounds_calm most (offering_from 0 ms) (offered_from (length ls) 0 ms)))
  where
    onward : List Step
    onward = rounds_steps most (offering_from 0 (relayed_first first ls)) (offered_from (length ls) 0 (relayed_first first ls))

    by : (v : Bool) → AreCalm onward → AreCalm (if v then offered_steps (length ls) 0 ++ onward else [])
    by true h = calm_then (offered_steps (length ls) 0) _ (offered_calm (length ls) 0) h
    by false h = tt

pub finished_calm : (routes : RouteMap) (n : ℕ) (ls : List SwitchLine) → Addressed ls → AreCalm (finished_steps routes n ls)
finished_calm routes n ls h =
    let ks = all_relinked (length ls) routes ls in
    let first = lines_first n routes ls in
    calm_then (all_relinked_steps (length ls) routes ls) (rounds_steps (7 * length ks) first ks ++ Settles ∷ []) (all_relinked_calm (length ls) routes ls h)
    (calm_then (rounds_steps (7 * length ks) first ks) (Settles ∷ []) (rounds_calm (7 * length ks) first ks) (tt, tt))

-- all but the first two steps of an event
pub later_calm : (routes : RouteMap) (n : ℕ) (what : Happening) (ls : List SwitchLine) → ReadsOctets what → Addressed ls
    → AreCalm (heed_all_steps routes n (notes_of (slice_get (changed n (with_end (λ e. does what (quieted e))) ls) n)) (lines_after (Happens n what) ls) ++ finished_steps routes n (acted routes n (does what) ls))
later_calm routes n what ls reads h =
    calm_then _ (finished_steps routes n (acted routes n (does what) ls)) (heeded_calm routes n what ls reads h)
    (finished_calm routes n (acted routes n (does what) ls) (addressed_then (acted_steps routes n what ls) ls (acted routes n (does what) ls) (acted_leads routes n what ls) h))
