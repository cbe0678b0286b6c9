-- Joins that are new after an event are those of calls that came in, on the lines of their routes.
use Rattle.std.proofs.Common.{◌≡◌, ℕ, zero, suc, ◌*◌, ◌⊎◌, inl, inr, Bool, true, false, cond, if◌then◌else◌, List, [], ◌∷◌, map, length, set, Option, Some, None, refl, sym, ap, ap₂, subst, ◌∙◌}
use Rattle.std.specs.Prelude.{slice_get}
use Rattle.std.specs.List.{list_any}
use Rattle.std.proofs.lemmas.Option.{none-some, same_Some}
use Rattle.packet_codec.specs.ClearCause as cause_of
use Rattle.packet_codec.specs.Diagnostic.{no_information}
use Rattle.data_transfer.specs.Packets.{CallParts, Note, Reason}
use Rattle.data_transfer.specs.Packets.Reason.{LinkLost}
use Rattle.data_transfer.specs.Packets.Note.{Incoming, Connected, Closed, WasReset, InterruptConfirmed, Covered}
use Rattle.data_transfer.specs.Traffic.{Taken}
use Rattle.packet_channel.specs.Channel.{Channel, Request, had_call}
use Rattle.packet_channel.specs.Channel.Request.{Accept, Clearing, Resetting, Taking, Releasing, Confirming}
use Rattle.packet_layer.specs.Layer.{closing_notes}
use Rattle.packet_end.specs.PacketEnd.{PacketEnd, relinked, all_offered, settled, begun}
use Rattle.address_routes.specs.Routes.{RouteMap}
use Rattle.switch_joins.specs.Direction.{Direction, new_direction, releasable, released, covered_by}
use Rattle.joined_line.specs.Causes.{reset_cause, clear_cause, far_diagnostic}
use Rattle.switch_joins.specs.declared.channels.SwitchChannel.{SwitchChannel}
use Rattle.switch_joins.specs.Joins.{Joined}
use Rattle.switch_lines.specs.Lines.{SwitchLine, changed, flat, nth_joined, joined_on, joined_at, with_nth_joined}
use Rattle.switch_lines.specs.Lines.{with_joined, ask, ask_all, front_at, sizes_at, takes_at, is_trunk}
use Rattle.switch_lines.specs.Relay.{carried_by, due_at, with_kept, freed, moved, moved_if, moved_front}
use Rattle.switch_lines.specs.Relay.{moved_joined, relayed, relayed_from, places_first, relayed_first, kept_anew}
use Rattle.switch_lines.specs.Relay.{covered_on, told_joined, told_of, most_moves}
use Rattle.switch_lines.specs.Switch.{Switch, Answer, answer, answered, forwarded, place_call, heed, heed_all, with_end}
use Rattle.switch_lines.specs.Switch.{notes_of, without_notes, quieted, acted, to_relink, relinked_at, all_relinked}
use Rattle.switch_lines.specs.Switch.{may_offer, offering_from, offered_from, rounds, lines_first, finished, all_begun}
use Rattle.switch_lines.specs.Switch.{relink}
use Rattle.switch_lines.specs.Switch.Answer.{Clears, Joins}
use Rattle.switch_laws.specs.Concern.{before_relay}
use Rattle.switch_laws.specs.Pairs.{caller, callee, IsNoted, WasJoined, LeadsOn, IsNewJoin, JoinsNone, JoinsByRoute, noted_in}
use Rattle.switch_laws.specs.EventSteps.{heed_steps}
use Rattle.switch_laws.proofs.SettingUp.{joins_by_route, not_back}
use Rattle.switch_laws.proofs.Leading.{heed_leads}
use Rattle.switch_laws.proofs.Addresses.{addresses, end_addresses, one_addresses, lead_addresses, same_trunk}
use Rattle.switch_laws.proofs.JoinsAtEventEnd.{joined_on_ends}
use Rattle.switch_lines.proofs.Places.{joined_kept}

from_same : (ls : List SwitchLine) → JoinsNone ls ls
from_same ls p j e = record { old = j; joined = e; other = refl; came_in = refl }

from_then : (ls ms ks : List SwitchLine) → JoinsNone ls ms → JoinsNone ms ks → JoinsNone ls ks
from_then ls ms ks f g p j e =
    let b = g p j e in
    let a = f p b.old b.joined in
    record { old = a.old; joined = a.joined; other = a.other ∙ b.other; came_in = a.came_in ∙ b.came_in }

-- ---- one place

set_cases : (js : List (Option Joined)) (i k : ℕ) (o : Option Joined) (j : Joined) → flat (slice_get (set js i o) k) ≡ Some j → ((k ≡ i) × (o ≡ Some j)) ⊎ (flat (slice_get js k) ≡ Some j)
set_cases [] i k o j e = inr e
set_cases (x ∷ xs) zero zero o j e = inl (refl, e)
set_cases (x ∷ xs) zero (suc k) o j e = inr e
set_cases (x ∷ xs) (suc i) zero o j e = inr e
set_cases (x ∷ xs) (suc i) (suc k) o j e = next (set_cases xs i k o j e)
  where
    next : ((k ≡ i) × (o ≡ Some j)) ⊎ (flat (slice_get xs k) ≡ Some j) → ((suc k ≡ suc i) × (o ≡ Some j)) ⊎ (flat (slice_get xs k) ≡ Some j)
    next (inl h) = inl (ap (λ (n : ℕ). suc n) h.0, h.1)
    next (inr h) = inr h

nth_cases : (js : List (Option Joined)) (c d : ℕ) (o : Option Joined) (j : Joined) → nth_joined (with_nth_joined js c o) d ≡ Some j → ((d ≡ c) × (o ≡ Some j)) ⊎ (nth_joined js d ≡ Some j)
nth_cases js zero d o j e = inr e
nth_cases js (suc i) zero o j e = inr e
nth_cases js (suc i) (suc k) o j e = next (set_cases js i k o j e)
  where
    next : ((k ≡ i) × (o ≡ Some j)) ⊎ (flat (slice_get js k) ≡ Some j) → ((suc k ≡ suc i) × (o ≡ Some j)) ⊎ (flat (slice_get js k) ≡ Some j)
    next (inl h) = inl (ap (λ (n : ℕ). suc n) h.0, h.1)
    next (inr h) = inr h

line_cases : (ls : List SwitchLine) (n m c d : ℕ) (o : Option Joined) (j : Joined) → joined_on (slice_get (changed n (λ l. record l { joined = with_nth_joined l.joined c o }) ls) m) d ≡ Some j
    → ((m ≡ n) × ((d ≡ c) × (o ≡ Some j))) ⊎ (joined_on (slice_get ls m) d ≡ Some j)
line_cases [] n m c d o j e = inr e
line_cases (l ∷ ls) zero zero c d o j e = next (nth_cases l.joined c d o j e)
  where
    next : ((d ≡ c) × (o ≡ Some j)) ⊎ (nth_joined l.joined d ≡ Some j) → ((zero ≡ zero) × ((d ≡ c) × (o ≡ Some j))) ⊎ (nth_joined l.joined d ≡ Some j)
    next (inl h) = inl (refl, h)
    next (inr h) = inr h
line_cases (l ∷ ls) zero (suc m) c d o j e = inr e
line_cases (l ∷ ls) (suc n) zero c d o j e = inr e
line_cases (l ∷ ls) (suc n) (suc m) c d o j e = next (line_cases ls n m c d o j e)
  where
    next : ((m ≡ n) × ((d ≡ c) × (o ≡ Some j))) ⊎ (joined_on (slice_get ls m) d ≡ Some j) → ((suc m ≡ suc n) × ((d ≡ c) × (o ≡ Some j))) ⊎ (joined_on (slice_get ls m) d ≡ Some j)
    next (inl h) = inl (ap (λ (k : ℕ). suc k) h.0, h.1)
    next (inr h) = inr h

-- a join at x after p is joined, or its join ended: it is that one, or was there
place_cases : (p x : SwitchChannel) (o : Option Joined) (ls : List SwitchLine) (j : Joined) → joined_at (with_joined p o ls) x ≡ Some j → ((x ≡ p) × (o ≡ Some j)) ⊎ (joined_at ls x ≡ Some j)
place_cases p x o ls j e = next (line_cases ls p.line x.line p.channel x.channel o j e)
  where
    next : ((x.line ≡ p.line) × ((x.channel ≡ p.channel) × (o ≡ Some j))) ⊎ (joined_at ls x ≡ Some j) → ((x ≡ p) × (o ≡ Some j)) ⊎ (joined_at ls x ≡ Some j)
    next (inl h) = inl (ap₂ (λ (n c : ℕ). record { line = n; channel = c }) h.0 h.1.0, h.1.1)
    next (inr h) = inr h

-- ---- what leaves joins between the same channels

from_ended : (p : SwitchChannel) (ls ms : List SwitchLine) → JoinsNone ls ms → JoinsNone ls (with_joined p None ms)
from_ended p ls ms f x j e = next (place_cases p x None ms j e)
  where
    next : ((x ≡ p) × (None ≡ Some j)) ⊎ (joined_at ms x ≡ Some j) → WasJoined ls x j
    next (inl h) = absurd (none-some j h.1)
    next (inr h) = f x j h

from_kept : (p : SwitchChannel) (k : Joined) (v : Direction) (ls ms : List SwitchLine) → joined_at ls p ≡ Some k → JoinsNone ls ms → JoinsNone ls (with_kept p k v ms)
from_kept p k v ls ms at f x j e = next (place_cases p x (Some (record k { kept = v })) ms j e)
  where
    next : ((x ≡ p) × (Some (record k { kept = v }) ≡ Some j)) ⊎ (joined_at ms x ≡ Some j) → WasJoined ls x j
    next (inl h) =
        let is = same_Some _ j h.1 in
        record { old = k; joined = ap (λ (y : SwitchChannel). joined_at ls y) h.0 ∙ at; other = ap (λ (y : Joined). y.other) is; came_in = ap (λ (y : Joined). y.came_in) is }
    next (inr h) = f x j h

from_changed : (n : ℕ) (g : SwitchLine → SwitchLine) (ls ms : List SwitchLine) → ((l : SwitchLine) → (g l).joined ≡ l.joined) → JoinsNone ls ms → JoinsNone ls (changed n g ms)
from_changed n g ls ms same f x j e = f x j (sym (joined_kept n x.line x.channel g ms same) ∙ e)

from_asked : (p : SwitchChannel) (q : Request) (ls ms : List SwitchLine) → JoinsNone ls ms → JoinsNone ls (ask p q ms)
from_asked p q ls ms f = from_changed p.line _ ls ms (λ l. refl) f

from_freed : (p : SwitchChannel) (k : Joined) (v : Direction) (ls ms : List SwitchLine) → joined_at ls p ≡ Some k → JoinsNone ls ms → JoinsNone ls (freed p k v ms)
from_freed p k v ls ms at f = from_kept p k (released v) ls (ask p (Releasing (releasable v.held)) ms) at (from_asked p (Releasing (releasable v.held)) ls ms f)

from_ends : (g : PacketEnd → PacketEnd) (ls ms : List SwitchLine) → JoinsNone ls ms → JoinsNone ls (map (with_end g) ms)
from_ends g ls ms f x j e = f x j (sym (joined_on_ends g ms x.line x.channel) ∙ e)

-- ---- relay and rounds

from_asks : (p : SwitchChannel) (qs : List Request) (ls ms : List SwitchLine) → JoinsNone ls ms → JoinsNone ls (ask_all p qs ms)
from_asks p [] ls ms f = f
from_asks p (q ∷ qs) ls ms f = from_asks p qs ls (ask p q ms) (from_asked p q ls ms f)

from_if : (b : Bool) (t : Taken) (p : SwitchChannel) (j : Joined) (ls : List SwitchLine) → joined_at ls p ≡ Some j → JoinsNone ls (moved_if b t p j ls)
from_if false t p j ls at = from_same ls
from_if true t p j ls at =
    from_freed p j (carried_by (sizes_at ls p j.other) t j.kept) ls (ask_all j.other (due_at ls p j t) (ask p Taking ls)) at
    (from_asks j.other (due_at ls p j t) ls (ask p Taking ls) (from_asked p Taking ls ls (from_same ls)))

from_front : (o : Option Taken) (p : SwitchChannel) (j : Joined) (ls : List SwitchLine) → joined_at ls p ≡ Some j → JoinsNone ls (moved_front o p j ls)
from_front None p j ls at = from_same ls
from_front (Some t) p j ls at = from_if (takes_at ls j.other (due_at ls p j t)) t p j ls at

from_moved : (o : Option Joined) (p : SwitchChannel) (ls : List SwitchLine) → joined_at ls p ≡ o → JoinsNone ls (moved_joined o p ls)
from_moved None p ls at = from_same ls
from_moved (Some j) p ls at = from_front (front_at ls p) p j ls at

from_relayed : (most : ℕ) (p : SwitchChannel) (ls : List SwitchLine) → JoinsNone ls (relayed most p ls)
from_relayed zero p ls = from_same ls
from_relayed (suc most) p ls = from_then ls (moved p ls) (relayed most p (moved p ls)) (from_moved (joined_at ls p) p ls refl) (from_relayed most p (moved p ls))

from_places : (ps : List SwitchChannel) (ls : List SwitchLine) → JoinsNone ls (relayed_from ps ls)
from_places [] ls = from_same ls
from_places (p ∷ ps) ls = from_then ls (relayed most_moves p ls) (relayed_from ps (relayed most_moves p ls)) (from_relayed most_moves p ls) (from_places ps (relayed most_moves p ls))

from_offered : (count n : ℕ) (ls : List SwitchLine) → JoinsNone ls (offered_from count n ls)
from_offered zero n ls = from_same ls
from_offered (suc count) n ls =
    from_then ls (changed n (with_end all_offered) ls) _ (from_changed n (with_end all_offered) ls ls (λ l. refl) (from_same ls)) (from_offered count (suc n) (changed n (with_end all_offered) ls))

either_from : (b : Bool) (ls x y : List SwitchLine) → JoinsNone ls x → JoinsNone ls y → JoinsNone ls (if b then x else y)
either_from true ls x y f g = f
either_from false ls x y f g = g

from_rounds : (most : ℕ) (first : List ℕ) (ls : List SwitchLine) → JoinsNone ls (rounds most first ls)
from_rounds zero first ls = from_places (places_first first ls) ls
from_rounds (suc most) first ls =
    let ms = relayed_first first ls in
    let next = offering_from 0 ms in
    let ks = offered_from (length ls) 0 ms in
    either_from (list_any may_offer ms) ls (rounds most next ks) ms
    (from_then ls ms _ (from_places (places_first first ls) ls) (from_then ms ks _ (from_offered (length ls) 0 ms) (from_rounds most next ks)))
    (from_places (places_first first ls) ls)

-- ---- what is told

from_anew : (o : Option Joined) (p : SwitchChannel) (ls ms : List SwitchLine) → joined_at ls p ≡ o → JoinsNone ls ms → JoinsNone ls (kept_anew o p ms)
from_anew None p ls ms at f = f
from_anew (Some j) p ls ms at f = from_kept p j new_direction ls ms at f

from_covered : (n : ℕ) (o : Option Joined) (p : SwitchChannel) (ls : List SwitchLine) → joined_at ls p ≡ o → JoinsNone ls (covered_on n o p ls)
from_covered n None p ls at = from_same ls
from_covered n (Some j) p ls at = from_freed p j (covered_by n j.kept) ls ls at (from_same ls)

from_told : (note : Note) (p : SwitchChannel) (j : Joined) (ls : List SwitchLine) → joined_at ls p ≡ Some j → JoinsNone ls (told_joined note p j ls)
from_told (Connected c) p j ls at = from_asked j.other Accept ls ls (from_same ls)
from_told (Closed c cause diagnostic reason) p j ls at =
    from_asked j.other (Clearing (clear_cause (is_trunk (slice_get ls p.line)) reason cause) (far_diagnostic reason diagnostic)) ls (with_joined j.other None (with_joined p None ls))
    (from_ended j.other ls (with_joined p None ls) (from_ended p ls ls (from_same ls)))
from_told (WasReset c cause diagnostic reason) p j ls at =
    let q = Resetting (reset_cause reason cause) (far_diagnostic reason diagnostic) in
    from_anew (joined_at ls j.other) j.other ls (kept_anew (Some j) p (ask j.other q ls)) refl (from_anew (Some j) p ls (ask j.other q ls) at (from_asked j.other q ls ls (from_same ls)))
from_told (InterruptConfirmed c) p j ls at = from_asked j.other Confirming ls ls (from_same ls)
from_told (Covered c n) p j ls at = from_covered n (joined_at ls j.other) j.other ls refl
from_told (Incoming c parts) p j ls at = from_same ls

from_told_of : (o : Option Joined) (note : Note) (p : SwitchChannel) (ls : List SwitchLine) → joined_at ls p ≡ o → JoinsNone ls (told_of o note p ls)
from_told_of None note p ls at = from_same ls
from_told_of (Some j) note p ls at = from_told note p j ls at

-- ---- a call that comes in

abbrev at : (line channel : ℕ) → SwitchChannel
at n c = record { line = n; channel = c }

leads_on : (routes : RouteMap) (ls : List SwitchLine) (n : ℕ) (parts : CallParts) (q : SwitchChannel) → answer routes ls n parts ≡ Joins q → LeadsOn n q.line ls
leads_on routes ls n parts q is same = ap (λ (m : ℕ). is_trunk (slice_get ls m)) (sym same) ∙ not_back routes ls n parts q is (sym same)

answered_joins : (a : Answer) (routes : RouteMap) (n c : ℕ) (parts : CallParts) (ls : List SwitchLine) → answer routes ls n parts ≡ a
    → JoinsByRoute routes n (Incoming c parts ∷ []) ls (answered a (at n c) parts ls)
answered_joins (Clears cause) routes n c parts ls is x j e = inl (from_asked (at n c) (Clearing cause no_information) ls ls (from_same ls) x j e)
answered_joins (Joins q) routes n c parts ls is x j e = outer (place_cases q x _ _ j e)
  where
    p : SwitchChannel
    p = at n c

    placed : List SwitchLine
    placed = place_call q.line (forwarded ls n parts) ls

    there : Option Joined
    there = Some (record { other = q; came_in = true; kept = new_direction })

    inner : ((x ≡ p) × (there ≡ Some j)) ⊎ (joined_at placed x ≡ Some j) → WasJoined ls x j ⊎ IsNewJoin routes n (Incoming c parts ∷ []) ls x j
    inner (inl h) =
        let k = same_Some _ j h.1 in
        inr (record {
          channel = c;
          parts = parts;
          noted = inl refl;
          came_on = ap (λ (y : Joined). caller x y) (sym k) ∙ h.0;
          route = joins_by_route routes ls n parts q is ∙ ap (λ (y : Joined). Some (callee x y).line) k;
          onward = subst (λ (y : Joined). LeadsOn n (callee x y).line ls) k (leads_on routes ls n parts q is);
        })
    inner (inr h) = inl (from_changed q.line _ ls ls (λ l. refl) (from_same ls) x j h)

    outer : ((x ≡ q) × (Some (record { other = p; came_in = false; kept = new_direction }) ≡ Some j)) ⊎ (joined_at (with_joined p there placed) x ≡ Some j)
        → WasJoined ls x j ⊎ IsNewJoin routes n (Incoming c parts ∷ []) ls x j
    outer (inl h) =
        let k = same_Some _ j h.1 in
        inr (record {
          channel = c;
          parts = parts;
          noted = inl refl;
          came_on = ap (λ (y : Joined). caller x y) (sym k);
          route = joins_by_route routes ls n parts q is ∙ ap (λ (y : SwitchChannel). Some y.line) (sym h.0) ∙ ap (λ (y : Joined). Some (callee x y).line) k;
          onward = subst (λ (y : Joined). LeadsOn n (callee x y).line ls) k (subst (λ (y : SwitchChannel). LeadsOn n y.line ls) (sym h.0) (leads_on routes ls n parts q is));
        })
    outer (inr h) = inner (place_cases p x there placed j h)

heed_joins : (routes : RouteMap) (n : ℕ) (note : Note) (ls : List SwitchLine) → JoinsByRoute routes n (note ∷ []) ls (heed routes n note ls)
heed_joins routes n (Incoming c parts) ls x j e = answered_joins (answer routes ls n parts) routes n c parts ls refl x j e
heed_joins routes n (Connected c) ls x j e = inl (from_told_of (joined_at ls (at n c)) (Connected c) (at n c) ls refl x j e)
heed_joins routes n (Closed c cause diagnostic reason) ls x j e = inl (from_told_of (joined_at ls (at n c)) (Closed c cause diagnostic reason) (at n c) ls refl x j e)
heed_joins routes n (WasReset c cause diagnostic reason) ls x j e = inl (from_told_of (joined_at ls (at n c)) (WasReset c cause diagnostic reason) (at n c) ls refl x j e)
heed_joins routes n (InterruptConfirmed c) ls x j e = inl (from_told_of (joined_at ls (at n c)) (InterruptConfirmed c) (at n c) ls refl x j e)
heed_joins routes n (Covered c k) ls x j e = inl (from_told_of (joined_at ls (at n c)) (Covered c k) (at n c) ls refl x j e)

-- ---- all notes

-- a new join as it is later
later : (routes : RouteMap) (n : ℕ) (notes : List Note) (ls : List SwitchLine) (p : SwitchChannel) (old j : Joined) → old.other ≡ j.other → old.came_in ≡ j.came_in → IsNewJoin routes n notes ls p old
    → IsNewJoin routes n notes ls p j
later routes n notes ls p old j other came_in h = record {
  channel = h.channel;
  parts = h.parts;
  noted = h.noted;
  came_on = ap₂ (λ (b : Bool) (q : SwitchChannel). if b then p else q) (sym came_in) (sym other) ∙ h.came_on;
  route = h.route ∙ ap₂ (λ (b : Bool) (q : SwitchChannel). Some (if b then q else p).line) came_in other;
  onward = subst (λ (m : ℕ). LeadsOn n m ls) (ap₂ (λ (b : Bool) (q : SwitchChannel). (if b then q else p).line) came_in other) h.onward;
}

first_noted : (routes : RouteMap) (n : ℕ) (note : Note) (more : List Note) (ls : List SwitchLine) (p : SwitchChannel) (j : Joined) → IsNewJoin routes n (note ∷ []) ls p j → IsNewJoin routes n (note ∷ more) ls p j
first_noted routes n note more ls p j h = record { channel = h.channel; parts = h.parts; noted = first h.noted; came_on = h.came_on; route = h.route; onward = h.onward }
  where
    first : (note ≡ Incoming h.channel h.parts) ⊎ ⊥ → IsNoted (note ∷ more) h.channel h.parts
    first (inl e) = inl e
    first (inr never) = absurd never

-- a new join of lines with the same addresses
joined_since : (routes : RouteMap) (n : ℕ) (notes : List Note) (ls ms : List SwitchLine) (p : SwitchChannel) (j : Joined) → addresses ms ≡ addresses ls → IsNewJoin routes n notes ms p j
    → IsNewJoin routes n notes ls p j
joined_since routes n notes ls ms p j same h = record {
  channel = h.channel;
  parts = h.parts;
  noted = h.noted;
  came_on = h.came_on;
  route = h.route;
  onward = λ e. sym (same_trunk ls ms (callee p j).line same) ∙ h.onward e;
}

more_noted : (routes : RouteMap) (n : ℕ) (note : Note) (more : List Note) (ls : List SwitchLine) (p : SwitchChannel) (j : Joined) → IsNewJoin routes n more ls p j → IsNewJoin routes n (note ∷ more) ls p j
more_noted routes n note more ls p j h = record { channel = h.channel; parts = h.parts; noted = inr h.noted; came_on = h.came_on; route = h.route; onward = h.onward }

joins_then : (routes : RouteMap) (n : ℕ) (note : Note) (more : List Note) (ls ms ks : List SwitchLine) → addresses ms ≡ addresses ls → JoinsByRoute routes n (note ∷ []) ls ms → JoinsByRoute routes n more ms ks
    → JoinsByRoute routes n (note ∷ more) ls ks
joins_then routes n note more ls ms ks same f g p j e = next (g p j e)
  where
    before : (b : WasJoined ms p j) → WasJoined ls p b.old ⊎ IsNewJoin routes n (note ∷ []) ls p b.old → WasJoined ls p j ⊎ IsNewJoin routes n (note ∷ more) ls p j
    before b (inl a) = inl (record { old = a.old; joined = a.joined; other = a.other ∙ b.other; came_in = a.came_in ∙ b.came_in })
    before b (inr a) = inr (first_noted routes n note more ls p j (later routes n (note ∷ []) ls p b.old j b.other b.came_in a))

    next : WasJoined ms p j ⊎ IsNewJoin routes n more ms p j → WasJoined ls p j ⊎ IsNewJoin routes n (note ∷ more) ls p j
    next (inl b) = before b (f p b.old b.joined)
    next (inr h) = inr (more_noted routes n note more ls p j (joined_since routes n more ls ms p j same h))

heed_all_joins : (routes : RouteMap) (n : ℕ) (notes : List Note) (ls : List SwitchLine) → JoinsByRoute routes n notes ls (heed_all routes n notes ls)
heed_all_joins routes n [] ls p j e = inl (from_same ls p j e)
heed_all_joins routes n (note ∷ more) ls p j e =
    joins_then routes n note more ls (heed routes n note ls) (heed_all routes n more (heed routes n note ls)) (lead_addresses (heed_steps routes n note ls) ls (heed routes n note ls) (heed_leads routes n note ls))
    (heed_joins routes n note ls) (heed_all_joins routes n more (heed routes n note ls)) p j e

joins_after : (routes : RouteMap) (n : ℕ) (notes : List Note) (ls ms ks : List SwitchLine) → addresses ms ≡ addresses ls → JoinsNone ls ms → JoinsByRoute routes n notes ms ks → JoinsByRoute routes n notes ls ks
joins_after routes n notes ls ms ks same f g p j e = next (g p j e)
  where
    next : WasJoined ms p j ⊎ IsNewJoin routes n notes ms p j → WasJoined ls p j ⊎ IsNewJoin routes n notes ls p j
    next (inl b) =
        let a = f p b.old b.joined in
        inl (record { old = a.old; joined = a.joined; other = a.other ∙ b.other; came_in = a.came_in ∙ b.came_in })
    next (inr h) = inr (joined_since routes n notes ls ms p j same h)

joins_before : (routes : RouteMap) (n : ℕ) (notes : List Note) (ls ms ks : List SwitchLine) → JoinsByRoute routes n notes ls ms → JoinsNone ms ks → JoinsByRoute routes n notes ls ks
joins_before routes n notes ls ms ks f g p j e = let b = g p j e in next b (f p b.old b.joined)
  where
    next : (b : WasJoined ms p j) → WasJoined ls p b.old ⊎ IsNewJoin routes n notes ls p b.old → WasJoined ls p j ⊎ IsNewJoin routes n notes ls p j
    next b (inl a) = inl (record { old = a.old; joined = a.joined; other = a.other ∙ b.other; came_in = a.came_in ∙ b.came_in })
    next b (inr h) = inr (later routes n notes ls p b.old j b.other b.came_in h)

acted_joins : (routes : RouteMap) (n : ℕ) (f : PacketEnd → PacketEnd) (ls : List SwitchLine)
    → JoinsByRoute routes n (notes_of (slice_get (changed n (with_end (λ e. f (quieted e))) ls) n)) ls (acted routes n f ls)
acted_joins routes n f ls =
    let ms = changed n (with_end (λ e. f (quieted e))) ls in
    joins_after routes n (notes_of (slice_get ms n)) ls (changed n (with_end without_notes) ms) _
    (one_addresses n without_notes ms ∙ one_addresses n (λ e. f (quieted e)) ls)
    (from_changed n (with_end without_notes) ls ms (λ l. refl) (from_changed n (with_end (λ e. f (quieted e))) ls ls (λ l. refl) (from_same ls)))
    (heed_all_joins routes n (notes_of (slice_get ms n)) (changed n (with_end without_notes) ms))

-- ---- a link that is set up anew brings no call

abbrev IsClosed : Note → Type 0
IsClosed (Closed c cause diagnostic reason) = Unit {0}
IsClosed note = ⊥

none_closing : (c : ℕ) (reason : Reason) (chs : List Channel) (d : ℕ) (parts : CallParts) → IsNoted (closing_notes c reason chs) d parts → ⊥
none_closing c reason [] d parts h = h
none_closing c reason (ch ∷ chs) d parts h = by_call (had_call ch.state) (λ i. none_closing (suc c) reason chs d parts i) h
  where
    by_call : (b : Bool) → (IsNoted (closing_notes (suc c) reason chs) d parts → ⊥) → IsNoted (cond b (Closed c cause_of.out_of_order no_information reason ∷ closing_notes (suc c) reason chs) (closing_notes (suc c) reason chs)) d parts → ⊥
    by_call true more (inl e) = subst (λ (x : Note). IsClosed x) e tt
    by_call true more (inr i) = more i
    by_call false more i = more i

none_from : (routes : RouteMap) (n : ℕ) (notes : List Note) (ls ms : List SwitchLine) → ((c : ℕ) (parts : CallParts) → IsNoted notes c parts → ⊥) → JoinsByRoute routes n notes ls ms → JoinsNone ls ms
none_from routes n notes ls ms none f p j e = next (f p j e)
  where
    next : WasJoined ls p j ⊎ IsNewJoin routes n notes ls p j → WasJoined ls p j
    next (inl a) = a
    next (inr h) = absurd (none h.channel h.parts h.noted)

relinked_notes : (n : ℕ) (ls : List SwitchLine) (c : ℕ) (parts : CallParts) → IsNoted (notes_of (slice_get (changed n (with_end (λ e. relinked (quieted e))) ls) n)) c parts → ⊥
relinked_notes n [] c parts h = h
relinked_notes zero (l ∷ ls) c parts h = none_closing 1 LinkLost l.end.layer.channels c parts h
relinked_notes (suc n) (l ∷ ls) c parts h = relinked_notes n ls c parts h

from_relinked : (o : Option ℕ) (routes : RouteMap) (ls : List SwitchLine) → JoinsNone ls (relinked_at o routes ls)
from_relinked None routes ls = from_same ls
from_relinked (Some n) routes ls =
    none_from routes n (notes_of (slice_get (changed n (with_end (λ e. relinked (quieted e))) ls) n)) ls (acted routes n relinked ls) (relinked_notes n ls) (acted_joins routes n relinked ls)

from_relinks : (most : ℕ) (routes : RouteMap) (ls : List SwitchLine) → JoinsNone ls (all_relinked most routes ls)
from_relinks zero routes ls = from_same ls
from_relinks (suc most) routes ls =
    from_then ls (relinked_at (to_relink ls) routes ls) _ (from_relinked (to_relink ls) routes ls) (from_relinks most routes (relinked_at (to_relink ls) routes ls))

from_finished : (routes : RouteMap) (n : ℕ) (ls : List SwitchLine) → JoinsNone ls (finished routes n ls)
from_finished routes n ls =
    let rs = all_relinked (length ls) routes ls in
    let first = lines_first n routes ls in
    from_ends settled ls (rounds (7 * length rs) first rs) (from_then ls rs _ (from_relinks (length ls) routes ls) (from_rounds (7 * length rs) first rs))

-- ---- events

-- before the relay, and after the event
pub before_joins : (n : ℕ) (f : PacketEnd → PacketEnd) (s : Switch) → JoinsByRoute s.routes n (noted_in n f s) s.lines (before_relay n f s)
before_joins n f s =
    let ls = all_begun s.lines in
    let ms = acted s.routes n f ls in
    joins_before s.routes n (noted_in n f s) s.lines ms (before_relay n f s)
    (joins_after s.routes n (noted_in n f s) s.lines ls ms (end_addresses begun s.lines) (from_ends begun s.lines s.lines (from_same s.lines)) (acted_joins s.routes n f ls))
    (from_relinks (length ms) s.routes ms)

pub event_joins : (n : ℕ) (f : PacketEnd → PacketEnd) (s : Switch) → JoinsByRoute s.routes n (noted_in n f s) s.lines (finished s.routes n (acted s.routes n f (all_begun s.lines)))
event_joins n f s =
    let ls = all_begun s.lines in
    joins_before s.routes n (noted_in n f s) s.lines (acted s.routes n f ls) _
    (joins_after s.routes n (noted_in n f s) s.lines ls _ (end_addresses begun s.lines) (from_ends begun s.lines s.lines (from_same s.lines)) (acted_joins s.routes n f ls))
    (from_finished s.routes n (acted s.routes n f ls))

pub relink_joins : (n : ℕ) (s : Switch) → JoinsNone s.lines (relink n s).lines
relink_joins n s = none_from s.routes n (noted_in n relinked s) s.lines (relink n s).lines (relinked_notes n (all_begun s.lines)) (event_joins n relinked s)
