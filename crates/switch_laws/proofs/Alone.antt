-- Where nothing waits elsewhere, the joins of the lines of an event are all that have to be relayed.
use Rattle.std.proofs.Common.{◌≡◌, ℕ, zero, suc, ◌*◌, ◌⊎◌, inl, inr, Bool, true, false, ◌||◌, ◌==◌, if◌then◌else◌, List, [], ◌∷◌, ◌++◌, map, length, Option, Some, None, refl, sym, ap, subst, ◌∙◌, true≢false}
use Rattle.std.specs.Prelude.{slice_get}
use Rattle.std.specs.List.{list_any}
use Rattle.std.proofs.lemmas.Bool.{eqb-true}
use Rattle.std.proofs.lemmas.Option.{none-some}
use Rattle.packet_end.specs.PacketEnd.{settled}
use Rattle.switch_joins.specs.declared.channels.SwitchChannel.{SwitchChannel}
use Rattle.switch_joins.specs.Joins.{Joined}
use Rattle.switch_lines.specs.Lines.{SwitchLine, joined_at, places}
use Rattle.switch_lines.specs.Relay.{relayed_from, places_of, both_legs, legs_at, legs_of, relayed_first}
use Rattle.switch_lines.specs.Switch.{Switch, with_end, acted, all_begun, may_offer, offering_from, offered_from, lines_first, rounds, finished}
use Rattle.switch_lines.specs.Alone.{relayed_alone, rounds_alone, finished_alone}
use Rattle.switch_lines.proofs.Rounds.{from_both}
use Rattle.switch_laws.specs.World.{World}
use Rattle.switch_laws.specs.Joined.{IsSwitch, HasRelayedAll, has_place_on}
use Rattle.switch_laws.specs.Steps.{Happening, does}
use Rattle.switch_laws.specs.Steps.Happening.{Brings, RunsOut, Relinks}
use Rattle.switch_laws.specs.Concern.{is_one_of, joined_to, is_concerned, HasRelayedBut, before_relay, ConcernLaw}
use Rattle.switch_laws.proofs.Places.{joined_place}
use Rattle.switch_laws.proofs.Rounds.{from_lines, offers_all}
use Rattle.switch_laws.proofs.Relaying.{StuckAt, Among, relays_from, among_here, among_left, among_right, among_nth}
use Rattle.switch_laws.proofs.Relaying.Among.{first, later}
use Rattle.switch_laws.proofs.Concerning.{stuck_stays, relays, relays_own, offers, event_but, before_right, offered_but}
use Rattle.switch_laws.proofs.Finishing.{begun_right, happens, offers_from}
use Rattle.switch_joins.proofs.Apart.{decided, place_is}

-- ---- both legs of a join of these lines are among those that are relayed

legs_both : (ps : List SwitchChannel) (ls : List SwitchLine) (q : SwitchChannel) (k : Joined) → joined_at ls q ≡ Some k → Among q ps → Among q (legs_at ps ls) × Among k.other (legs_at ps ls)
legs_both (x ∷ xs) ls q k e (first same) =
    let there : joined_at ls x ≡ Some k = ap (λ (p : SwitchChannel). joined_at ls p) (sym (place_is q x same)) ∙ e in (
      subst (λ (o : Option Joined). Among q (both_legs o x ++ legs_at xs ls)) (sym there) (first same),
      subst (λ (o : Option Joined). Among k.other (both_legs o x ++ legs_at xs ls)) (sym there) (later (among_here k.other k.other (legs_at xs ls) refl)),
    )
legs_both (x ∷ xs) ls q k e (later h) =
    let more = legs_both xs ls q k e h in
    (among_right q (both_legs (joined_at ls x) x) (legs_at xs ls) more.0, among_right k.other (both_legs (joined_at ls x) x) (legs_at xs ls) more.1)
legs_both [] ls q k e h = elim h [ ]

on_its_line : (o : Option SwitchLine) (n c : ℕ) → has_place_on o c ≡ true → Among (record { line = n; channel = c }) (places_of n o)
on_its_line None n c e = absurd (true≢false (sym e))
on_its_line (Some l) n c e = among_nth n c l.joined e

second : (b c : Bool) → b ≡ false → (b || c) ≡ true → c ≡ true
second b c f e = sym (ap (λ (x : Bool). x || c) f) ∙ e

legs_lines : (ns : List ℕ) (ls : List SwitchLine) (q : SwitchChannel) (k : Joined) → joined_at ls q ≡ Some k → is_one_of ns q.line ≡ true → Among q (legs_of ns ls) × Among k.other (legs_of ns ls)
legs_lines [] ls q k e t = absurd (true≢false (sym t))
legs_lines (n ∷ ns) ls q k e t = by_line (decided (n == q.line)) (λ h. legs_lines ns ls q k e h)
  where
    own : List SwitchChannel
    own = legs_at (places_of n (slice_get ls n)) ls

    by_line : ((n == q.line) ≡ true) ⊎ ((n == q.line) ≡ false) → (is_one_of ns q.line ≡ true → Among q (legs_of ns ls) × Among k.other (legs_of ns ls))
        → Among q (own ++ legs_of ns ls) × Among k.other (own ++ legs_of ns ls)
    by_line (inl same) more =
        let there = on_its_line (slice_get ls q.line) q.line q.channel (joined_place ls q k e) in
        let both = legs_both (places_of n (slice_get ls n)) ls q k e (subst (λ (m : ℕ). Among q (places_of m (slice_get ls m))) (sym (eqb-true n q.line same)) there) in
        (among_left q own (legs_of ns ls) both.0, among_left k.other own (legs_of ns ls) both.1)
    by_line (inr f) more =
        let both = more (second (n == q.line) (is_one_of ns q.line) f t) in
        (among_right q own (legs_of ns ls) both.0, among_right k.other own (legs_of ns ls) both.1)

among_legs : (lines : List ℕ) (ls : List SwitchLine) (w : World) (p : SwitchChannel) (j : Joined) → IsSwitch ls w → joined_at ls p ≡ Some j → is_concerned lines ls p ≡ true → Among p (legs_of lines ls)
among_legs lines ls w p j i e t = by_line (decided (is_one_of lines p.line))
  where
    by_line : (is_one_of lines p.line ≡ true) ⊎ (is_one_of lines p.line ≡ false) → Among p (legs_of lines ls)
    by_line (inl own) = (legs_lines lines ls p j e own).0
    by_line (inr f) =
        let z = i.joined p j e in
        let other : is_one_of lines j.other.line ≡ true = ap (λ (o : Option Joined). joined_to lines o) (sym e) ∙ second (is_one_of lines p.line) (joined_to lines (joined_at ls p)) f t in
        subst (λ (x : SwitchChannel). Among x (legs_of lines ls)) z.back (legs_lines lines ls j.other z.other z.joined other).1

-- ---- once they are relayed nothing is left to relay

all_stuck : (lines : List ℕ) (ls : List SwitchLine) (w : World) → IsSwitch ls w → HasRelayedBut lines ls → HasRelayedAll (relayed_alone lines ls)
all_stuck lines ls w i but p j u e f = (relays_from (legs_of lines ls) ls w i).stuck p (by_join (joined_at ls p) refl) j u e f
  where
    by_concern : (y : Joined) → joined_at ls p ≡ Some y → (is_concerned lines ls p ≡ true) ⊎ (is_concerned lines ls p ≡ false) → StuckAt ls p ⊎ Among p (legs_of lines ls)
    by_concern y g (inl t) = inr (among_legs lines ls w p y i g t)
    by_concern y g (inr away) = inl (λ z u h k. but p z u away h k)

    by_join : (o : Option Joined) → joined_at ls p ≡ o → StuckAt ls p ⊎ Among p (legs_of lines ls)
    by_join None g = inl (λ z u h k. absurd (none-some z (sym g ∙ h)))
    by_join (Some y) g = by_concern y g (decided (is_concerned lines ls p))

none_moves : (ps : List SwitchChannel) (ls : List SwitchLine) → HasRelayedAll ls → relayed_from ps ls ≡ ls
none_moves [] ls s = refl
none_moves (x ∷ ps) ls s = ap (λ (ms : List SwitchLine). relayed_from ps ms) (stuck_stays x ls (λ j t e f. s x j t e f)) ∙ none_moves ps ls s

first_alone : (lines : List ℕ) (ls : List SwitchLine) (w : World) → IsSwitch ls w → HasRelayedBut lines ls → relayed_first lines ls ≡ relayed_alone lines ls
first_alone lines ls w i but =
    from_both (legs_of lines ls) (places ls) ls ∙ none_moves (places ls) (relayed_alone lines ls) (all_stuck lines ls w i but)

-- ---- rounds

alone : (most : ℕ) (lines : List ℕ) (ls : List SwitchLine) (w : World) → IsSwitch ls w → HasRelayedBut lines ls → rounds_alone most lines ls ≡ rounds most lines ls
alone zero lines ls w i but = sym (first_alone lines ls w i but)
alone (suc most) lines ls w i but =
    let ms = relayed_alone lines ls in
    let r = relays_from (legs_of lines ls) ls w i in
    let b = offers_from (length ls) 0 ms r.world r.switch in
    let all = offers_all ls ms (from_lines (legs_of lines ls) ls) in
    let next = subst (λ (qs : List SwitchLine). HasRelayedBut (offering_from 0 ms) qs) (sym all) (offered_but ms (all_stuck lines ls w i but)) in
    ap (λ (xs : List SwitchLine). if list_any may_offer ms then xs else ms) (alone most (offering_from 0 ms) (offered_from (length ls) 0 ms) b.world b.right next)
    ∙ ap (λ (ks : List SwitchLine). if list_any may_offer ks then rounds most (offering_from 0 ks) (offered_from (length ls) 0 ks) else ks) (sym (first_alone lines ls w i but))

-- ---- events

event_alone : (n : ℕ) (what : Happening) (s : Switch) (w : World) → IsSwitch s.lines w → HasRelayedAll s.lines
    → record s { lines = finished_alone s.routes n (acted s.routes n (does what) (all_begun s.lines)) } ≡ record s { lines = finished s.routes n (acted s.routes n (does what) (all_begun s.lines)) }
event_alone n what s w i all =
    let b = begun_right s.lines w i in
    let c = happens n what s.routes s.lines w i in
    let rs = before_relay n (does what) s in
    let first = lines_first n s.routes (acted s.routes n (does what) (all_begun s.lines)) in
    let r = before_right n (does what) s c.world c.right in
    ap (λ (ms : List SwitchLine). record s { lines = map (with_end settled) ms })
    (alone (7 * length rs) first rs r.world r.right (event_but n (does what) s b.world c.world b.right c.right all))

pub concerns_hold : ConcernLaw
concerns_hold = record {
  relays = relays;
  frame = λ n octets s w i all. relays_own n (Brings octets) s w i all;
  timer = λ n id s w i all. relays_own n (RunsOut id) s w i all;
  relinks = λ n s w i all. relays_own n Relinks s w i all;
  offers = offers;
  frame_alone = λ n octets s w i all. event_alone n (Brings octets) s w i all;
  timer_alone = λ n id s w i all. event_alone n (RunsOut id) s w i all;
  relinks_alone = λ n s w i all. event_alone n Relinks s w i all;
}
