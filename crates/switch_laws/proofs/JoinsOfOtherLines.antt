-- What happens on a line leaves the joins of two other lines.
use Rattle.std.proofs.Common.{◌≡◌, ℕ, zero, suc, ◌⊎◌, inl, inr, Bool, true, false, if◌then◌else◌, List, [], ◌∷◌, length, Option, Some, None, refl, sym, ap, subst, ◌∙◌, true≢false, option_map}
use Rattle.std.specs.Prelude.{slice_get}
use Rattle.std.specs.List.{list_any}
use Rattle.std.proofs.lemmas.Option.{none-some, same_Some}
use Rattle.data_transfer.specs.Packets.{CallParts, Note}
use Rattle.data_transfer.specs.Packets.Note.{Incoming, Connected, Closed, WasReset, InterruptConfirmed, Covered}
use Rattle.data_transfer.specs.Traffic.{Taken}
use Rattle.packet_channel.specs.Channel.{Channel, Step, Request, requested, had_call, placing, is_ready}
use Rattle.packet_channel.specs.Channel.Request.{Accept, Clearing, Resetting, Taking, Releasing, Confirming}
use Rattle.packet_layer.specs.Layer.{Layer, channel_of, on_found, placed_on, call, request, channel_given}
use Rattle.packet_laws.proofs.Call.Saying.{and_parts}
use Rattle.packet_laws.proofs.Line.Lines.{nth_other}
use Rattle.packet_laws.proofs.Line.Outcomes.{free_is, given_ready}
use Rattle.packet_end.specs.PacketEnd.{PacketEnd, all_offered}
use Rattle.address_routes.specs.Routes.{RouteMap, line_for}
use Rattle.switch_joins.specs.Direction.{Direction, new_direction, releasable, released}
use Rattle.joined_line.specs.Causes.{clear_cause, reset_cause, far_diagnostic}
use Rattle.switch_joins.specs.declared.channels.SwitchChannel.{SwitchChannel}
use Rattle.switch_joins.specs.Joins.{Joined}
use Rattle.switch_lines.specs.Lines.{SwitchLine, same_place, changed, joined_at, with_joined, ask, ask_all, front_at, sizes_at, takes_at}
use Rattle.switch_lines.specs.Lines.{is_trunk}
use Rattle.switch_lines.specs.Relay.{carried_by, due_at, freed, kept_anew, covered_on, told_joined, told_of, moved}
use Rattle.switch_lines.specs.Relay.{moved_if, moved_front, moved_joined, relayed, relayed_from, places_first}
use Rattle.switch_lines.specs.Relay.{relayed_first, most_moves}
use Rattle.switch_lines.specs.Switch.{Answer, answer, answered, forwarded, place_call, has_any, heed, heed_all}
use Rattle.switch_lines.specs.Switch.{with_end, notes_of, without_notes, quieted, acted, may_offer, offering_from}
use Rattle.switch_lines.specs.Switch.{offered_from, rounds, route_from}
use Rattle.switch_lines.specs.Switch.Answer.{Clears, Joins}
use Rattle.switch_laws.specs.World.{World, Shown, shown_as, shown_on, shown_at, layers_of}
use Rattle.switch_laws.specs.Joined.{IsSwitch, has_place}
use Rattle.switch_laws.specs.Stays.{Stay}
use Rattle.switch_laws.proofs.Lists.{get_map, map_changed}
use Rattle.switch_laws.proofs.Places.{joined_here, joined_place, place_joined, layers_asked, layers_joined, some_there}
use Rattle.switch_laws.proofs.SettingUp.{IsFreePlace, IsAnswer, answer_by_is, answer_if, pair_call, layer_there, ready_no_call}
use Rattle.switch_laws.proofs.JoinsAfterNotes.{at}
use Rattle.switch_laws.proofs.Turning.{changed_twice}
use Rattle.switch_joins.proofs.Apart.{decided, place_is, apart_by}
use Rattle.switch_lines.proofs.Places.{get_unchanged, joined_kept, joined_asked, joined_asks, joined_apart}

-- ---- a channel beside those that something is asked of

found_beside : (l : Layer) (d c : ℕ) (step : Channel → Step) (o : Option Channel) → (c ≡ d → ⊥) → shown_as (on_found l d step o) (channel_of (on_found l d step o) c) ≡ shown_as l (channel_of l c)
found_beside l d c step None ne = refl
found_beside l d c step (Some ch) ne = ap (λ (o : Option Channel). shown_as l o) (nth_other l.channels c d _ ne)

pub placed_beside : (l : Layer) (parts : CallParts) (o : Option ℕ) (c : ℕ) → ((d : ℕ) → o ≡ Some d → c ≡ d → ⊥) → shown_as (placed_on l parts o) (channel_of (placed_on l parts o) c) ≡ shown_as l (channel_of l c)
placed_beside l parts None c ne = refl
placed_beside l parts (Some d) c ne = found_beside l d c (λ ch. placing parts ch) (channel_of l d) (ne d refl)

-- of the line that is changed
pub line_beside : (f : Layer → Layer) (n m c : ℕ) (ys : List Layer) → ((l : Layer) → m ≡ n → slice_get ys m ≡ Some l → shown_as (f l) (channel_of (f l) c) ≡ shown_as l (channel_of l c))
    → shown_on (slice_get (changed n f ys) m) c ≡ shown_on (slice_get ys m) c
line_beside f n m c [] same = refl
line_beside f zero zero c (y ∷ ys) same = same y refl refl
line_beside f zero (suc m) c (y ∷ ys) same = refl
line_beside f (suc n) zero c (y ∷ ys) same = refl
line_beside f (suc n) (suc m) c (y ∷ ys) same = line_beside f n m c ys (λ l e g. same l (ap (λ (k : ℕ). suc k) e) g)

pub differ : (x q : SwitchChannel) → same_place x q ≡ false → x.line ≡ q.line → x.channel ≡ q.channel → ⊥
differ x q e l c = by_place (apart_by x q e)
  where
    by_place : (x.line ≡ q.line → ⊥) ⊎ ((x.line ≡ q.line) × (x.channel ≡ q.channel → ⊥)) → ⊥
    by_place (inl ne) = ne l
    by_place (inr h) = h.1 c

pub asked_beside : (q : SwitchChannel) (r : Request) (ls : List SwitchLine) (x : SwitchChannel) → same_place x q ≡ false → shown_at (layers_of (ask q r ls)) x ≡ shown_at (layers_of ls) x
asked_beside q r ls x e =
    ap (λ (ys : List Layer). shown_at ys x) (layers_asked q r ls)
    ∙ line_beside (λ l. request l q.channel r) q.line x.line x.channel (layers_of ls)
    (λ l same got. found_beside l q.channel x.channel (λ ch. requested l.role l.flow ch r) (channel_of l q.channel) (differ x q e same))

pub joined_beside : (q : SwitchChannel) (o : Option Joined) (ls : List SwitchLine) (x : SwitchChannel) → shown_at (layers_of (with_joined q o ls)) x ≡ shown_at (layers_of ls) x
joined_beside q o ls x = ap (λ (ys : List Layer). shown_at ys x) (layers_joined q o ls)

-- ---- the joins of two other lines, while the notes of line n are heeded

-- p is a channel of such a join; as it was in the beginning
pub record IsOther (n : ℕ) (ls : List SwitchLine) (p : SwitchChannel) (j : Joined) : Type 0 where
  pub joined : joined_at ls p ≡ Some j
  pub here : p.line ≡ n → ⊥
  pub there : j.other.line ≡ n → ⊥

-- it is joined as before, its channel is as it was, and no channel of line n is joined with it
pub record Beside (n : ℕ) (ls ms : List SwitchLine) : Type 0 where
  pub stays : (p : SwitchChannel) (j : Joined) → IsOther n ls p j → joined_at ms p ≡ Some j
  pub shown : (p : SwitchChannel) (j : Joined) → IsOther n ls p j → shown_at (layers_of ms) p ≡ shown_at (layers_of ls) p
  pub apart : (p : SwitchChannel) (j : Joined) (x : SwitchChannel) (i : Joined) → IsOther n ls p j → x.line ≡ n → joined_at ms x ≡ Some i → same_place p i.other ≡ false

other_line : (n : ℕ) (p x : SwitchChannel) → (p.line ≡ n → ⊥) → x.line ≡ n → same_place p x ≡ false
other_line n p x ne e = by_same (decided (same_place p x))
  where
    by_same : (same_place p x ≡ true) ⊎ (same_place p x ≡ false) → same_place p x ≡ false
    by_same (inl t) = absurd (ne (ap (λ (y : SwitchChannel). y.line) (place_is p x t) ∙ e))
    by_same (inr f) = f

-- a request at a place that is none of theirs
beside_asked : (n : ℕ) (ls ms : List SwitchLine) (q : SwitchChannel) (r : Request) → ((p : SwitchChannel) (j : Joined) → IsOther n ls p j → same_place p q ≡ false) → Beside n ls ms → Beside n ls (ask q r ms)
beside_asked n ls ms q r none b = record {
  stays = λ p j o. joined_asked q r p ms ∙ b.stays p j o;
  shown = λ p j o. asked_beside q r ms p (none p j o) ∙ b.shown p j o;
  apart = λ p j x i o e g. b.apart p j x i o e (sym (joined_asked q r x ms) ∙ g);
}

-- a channel gets another direction, another join or none
beside_joined : (n : ℕ) (ls ms : List SwitchLine) (q : SwitchChannel) (new : Option Joined) → ((p : SwitchChannel) (j : Joined) → IsOther n ls p j → same_place p q ≡ false)
    → ((i : Joined) → new ≡ Some i → q.line ≡ n → (p : SwitchChannel) (j : Joined) → IsOther n ls p j → same_place p i.other ≡ false) → Beside n ls ms → Beside n ls (with_joined q new ms)
beside_joined n ls ms q new none other b = record {
  stays = λ p j o. joined_apart q new p ms (none p j o) ∙ b.stays p j o;
  shown = λ p j o. joined_beside q new ms p ∙ b.shown p j o;
  apart = λ p j x i o e g. by_place p j x i o e g (decided (same_place x q));
}
  where
    at_q : (i : Joined) → joined_at (with_joined q new ms) q ≡ Some i → new ≡ Some i
    at_q i g = by_there (decided (has_place ms q))
      where
        by_there : (has_place ms q ≡ true) ⊎ (has_place ms q ≡ false) → new ≡ Some i
        by_there (inl h) = sym (joined_here q new ms h) ∙ g
        by_there (inr f) = absurd (true≢false (sym (joined_place (with_joined q new ms) q i g) ∙ (place_joined q new ms q ∙ f)))

    by_place : (p : SwitchChannel) (j : Joined) (x : SwitchChannel) (i : Joined) → IsOther n ls p j → x.line ≡ n → joined_at (with_joined q new ms) x ≡ Some i → (same_place x q ≡ true) ⊎ (same_place x q ≡ false)
        → same_place p i.other ≡ false
    by_place p j x i o e g (inl t) =
        let is = place_is x q t in
        other i (at_q i (ap (λ (y : SwitchChannel). joined_at (with_joined q new ms) y) (sym is) ∙ g)) (ap (λ (y : SwitchChannel). y.line) (sym is) ∙ e) p j o
    by_place p j x i o e g (inr f) = b.apart p j x i o e (sym (joined_apart q new x ms f) ∙ g)

-- ---- a note

-- what a channel is joined with, if it is one of line n, is none of theirs
kept_other : (n : ℕ) (ls ms ks : List SwitchLine) (q : SwitchChannel) (k : Joined) (v : Direction) → joined_at ms q ≡ Some k → Beside n ls ms
    → (i : Joined) → Some (record k { kept = v }) ≡ Some i → q.line ≡ n → (p : SwitchChannel) (j : Joined) → IsOther n ls p j → same_place p i.other ≡ false
kept_other n ls ms ks q k v got b i e on p j o =
    subst (λ (y : Joined). same_place p y.other ≡ false) (same_Some (record k { kept = v }) i e) (b.apart p j q k o on got)

no_join : (n : ℕ) (ls : List SwitchLine) (q : SwitchChannel) (i : Joined) → None ≡ Some i → q.line ≡ n → (p : SwitchChannel) (j : Joined) → IsOther n ls p j → same_place p i.other ≡ false
no_join n ls q i e on p j o = absurd (none-some i e)

beside_freed : (n : ℕ) (ls ms : List SwitchLine) (q : SwitchChannel) (k : Joined) (v : Direction) → joined_at ms q ≡ Some k → ((p : SwitchChannel) (j : Joined) → IsOther n ls p j → same_place p q ≡ false) → Beside n ls ms
    → Beside n ls (freed q k v ms)
beside_freed n ls ms q k v got none b =
    let r = Releasing (releasable v.held) in
    let c = beside_asked n ls ms q r none b in
    beside_joined n ls (ask q r ms) q (Some (record k { kept = released v })) none (kept_other n ls (ask q r ms) ms q k (released v) (joined_asked q r q ms ∙ got) c) c

beside_covered : (n m : ℕ) (o : Option Joined) (ls ms : List SwitchLine) (q : SwitchChannel) → joined_at ms q ≡ o → ((p : SwitchChannel) (j : Joined) → IsOther n ls p j → same_place p q ≡ false) → Beside n ls ms
    → Beside n ls (covered_on m o q ms)
beside_covered n m None ls ms q got none b = b
beside_covered n m (Some k) ls ms q got none b = beside_freed n ls ms q k _ got none b

beside_anew : (n : ℕ) (o : Option Joined) (ls ms : List SwitchLine) (q : SwitchChannel) → joined_at ms q ≡ o → ((p : SwitchChannel) (j : Joined) → IsOther n ls p j → same_place p q ≡ false) → Beside n ls ms
    → Beside n ls (kept_anew o q ms)
beside_anew n None ls ms q got none b = b
beside_anew n (Some k) ls ms q got none b = beside_joined n ls ms q (Some (record k { kept = new_direction })) none (kept_other n ls ms ms q k new_direction got b) b

beside_told : (n c : ℕ) (note : Note) (i : Joined) (ls ms : List SwitchLine) → joined_at ms (at n c) ≡ Some i → Beside n ls ms → Beside n ls (told_joined note (at n c) i ms)
beside_told n c note i ls ms got b = by_note note
  where
    p0 : SwitchChannel
    p0 = at n c

    q : SwitchChannel
    q = i.other

    here : (p : SwitchChannel) (j : Joined) → IsOther n ls p j → same_place p p0 ≡ false
    here p j o = other_line n p p0 o.here refl

    there : (p : SwitchChannel) (j : Joined) → IsOther n ls p j → same_place p q ≡ false
    there p j o = b.apart p j p0 i o refl got

    closed_ : (r : Request) → Beside n ls (ask q r (with_joined q None (with_joined p0 None ms)))
    closed_ r =
        beside_asked n ls (with_joined q None (with_joined p0 None ms)) q r there
        (beside_joined n ls (with_joined p0 None ms) q None there (no_join n ls q) (beside_joined n ls ms p0 None here (no_join n ls p0) b))

    -- the direction to the other leg of q is as before where q is not p0
    reset_ : (r : Request) (o : Option Joined) → joined_at ms q ≡ o → Beside n ls (kept_anew o q (kept_anew (Some i) p0 (ask q r ms)))
    reset_ r None e = beside_anew n (Some i) ls (ask q r ms) p0 (joined_asked q r p0 ms ∙ got) here (beside_asked n ls ms q r there b)
    reset_ r (Some k) e =
        let a = beside_asked n ls ms q r there b in
        let c = beside_anew n (Some i) ls (ask q r ms) p0 (joined_asked q r p0 ms ∙ got) here a in
        beside_joined n ls (kept_anew (Some i) p0 (ask q r ms)) q (Some (record k { kept = new_direction })) there (kept_other n ls ms ms q k new_direction e b) c

    by_note : (x : Note) → Beside n ls (told_joined x p0 i ms)
    by_note (Incoming d parts) = b
    by_note (Connected d) = beside_asked n ls ms q Accept there b
    by_note (Closed d cause diagnostic reason) = closed_ (Clearing (clear_cause (is_trunk (slice_get ms n)) reason cause) (far_diagnostic reason diagnostic))
    by_note (WasReset d cause diagnostic reason) = reset_ (Resetting (reset_cause reason cause) (far_diagnostic reason diagnostic)) (joined_at ms q) refl
    by_note (InterruptConfirmed d) = beside_asked n ls ms q Confirming there b
    by_note (Covered d m) = beside_covered n m (joined_at ms q) ls ms q refl there b

beside_told_of : (n c : ℕ) (note : Note) (o : Option Joined) (ls ms : List SwitchLine) → joined_at ms (at n c) ≡ o → Beside n ls ms → Beside n ls (told_of o note (at n c) ms)
beside_told_of n c note None ls ms got b = b
beside_told_of n c note (Some i) ls ms got b = beside_told n c note i ls ms got b

-- ---- a call that comes in

-- the channels of these joins have calls
abbrev HaveCalls : ℕ → List SwitchLine → Type 0
HaveCalls n ls = (p : SwitchChannel) (j : Joined) → IsOther n ls p j → (s : Shown) × ((shown_at (layers_of ls) p ≡ Some s) × (had_call s.channel.state ≡ true))

pub free_shown : (ms : List SwitchLine) (q : SwitchChannel) (f : IsFreePlace ms q) → (ch : Channel) × ((shown_at (layers_of ms) q ≡ Some (record { role = f.line.end.layer.role; flow = f.line.end.layer.flow; channel = ch })) × (is_ready ch.state ≡ true))
free_shown ms q f =
    let l = f.line.end.layer in
    let free = free_is l.role l.channels q.channel (given_ready l l.phase q.channel f.given).1 in (
      free.0,
      (
        ap (λ (o : Option Layer). shown_on o q.channel) (layer_there ms q f) ∙ ap (λ (o : Option Channel). shown_as l o) free.1.0,
        (and_parts (is_ready free.0.state) _ free.1.1).0,
      ),
    )

-- a free channel is none of them
free_apart : (n : ℕ) (ls ms : List SwitchLine) (q : SwitchChannel) → HaveCalls n ls → IsFreePlace ms q → Beside n ls ms → (p : SwitchChannel) (j : Joined) → IsOther n ls p j → same_place p q ≡ false
free_apart n ls ms q calls f b p j o = by_same (decided (same_place p q))
  where
    by_same : (same_place p q ≡ true) ⊎ (same_place p q ≡ false) → same_place p q ≡ false
    by_same (inr e) = e
    by_same (inl t) =
        let s = calls p j o in
        let r = free_shown ms q f in
        let same : Some s.0 ≡ Some (record { role = f.line.end.layer.role; flow = f.line.end.layer.flow; channel = r.0 }) =
        sym s.1.0 ∙ (sym (b.shown p j o) ∙ (ap (λ (y : SwitchChannel). shown_at (layers_of ms) y) (place_is p q t) ∙ r.1.0)) in
        absurd (ready_no_call r.0.state r.1.1 (sym (ap (λ (y : Shown). had_call y.channel.state) (same_Some s.0 _ same)) ∙ s.1.1))

beside_placed : (n : ℕ) (ls ms : List SwitchLine) (q : SwitchChannel) (parts : CallParts) → IsFreePlace ms q → ((p : SwitchChannel) (j : Joined) → IsOther n ls p j → same_place p q ≡ false) → Beside n ls ms
    → Beside n ls (place_call q.line parts ms)
beside_placed n ls ms q parts f none b = record {
  stays = λ p j o. joined_kept q.line p.line p.channel _ ms (λ l. refl) ∙ b.stays p j o;
  shown = λ p j o. beside p (none p j o) ∙ b.shown p j o;
  apart = λ p j x i o e g. b.apart p j x i o e (sym (joined_kept q.line x.line x.channel _ ms (λ l. refl)) ∙ g);
}
  where
    beside : (p : SwitchChannel) → same_place p q ≡ false → shown_at (layers_of (place_call q.line parts ms)) p ≡ shown_at (layers_of ms) p
    beside p e =
        ap (λ (ys : List Layer). shown_at ys p) (map_changed (λ l. l.end.layer) _ (λ l. call l parts) q.line ms (λ l. refl))
        ∙ line_beside (λ l. call l parts) q.line p.line p.channel (layers_of ms)
        (λ l same got.
        let is : l ≡ f.line.end.layer = same_Some l f.line.end.layer (sym got ∙ (ap (λ (k : ℕ). slice_get (layers_of ms) k) same ∙ layer_there ms q f)) in
        placed_beside l parts (channel_given l l.phase) p.channel
        (λ d given c. differ p q e same (c ∙ sym (same_Some q.channel d (sym f.given ∙ (ap (λ (y : Layer). channel_given y y.phase) (sym is) ∙ given))))))

beside_answered : (n c : ℕ) (a : Answer) (parts : CallParts) (ls ms : List SwitchLine) → HaveCalls n ls → IsAnswer ms a → Beside n ls ms → Beside n ls (answered a (at n c) parts ms)
beside_answered n c (Clears cause) parts ls ms calls f b = beside_asked n ls ms (at n c) (Clearing cause _) (λ p j o. other_line n p (at n c) o.here refl) b
beside_answered n c (Joins q) parts ls ms calls f b =
    let here = λ (p : SwitchChannel) (j : Joined) (o : IsOther n ls p j). other_line n p (at n c) o.here refl in
    let there = free_apart n ls ms q calls f b in
    let k1 = place_call q.line (forwarded ms n parts) ms in
    let b1 = beside_placed n ls ms q (forwarded ms n parts) f there b in
    let b2 = beside_joined n ls k1 (at n c) (Some (record { other = q; came_in = true; kept = new_direction })) here
    (λ i e on p j o. subst (λ (y : Joined). same_place p y.other ≡ false) (same_Some _ i e) (there p j o)) b1 in
    beside_joined n ls (with_joined (at n c) (Some (record { other = q; came_in = true; kept = new_direction })) k1) q (Some (record { other = at n c; came_in = false; kept = new_direction })) there
    (λ i e on p j o. subst (λ (y : Joined). same_place p y.other ≡ false) (same_Some _ i e) (here p j o)) b2

-- ---- all notes

beside_heed : (routes : RouteMap) (n : ℕ) (note : Note) (ls ms : List SwitchLine) → HaveCalls n ls → Beside n ls ms → Beside n ls (heed routes n note ms)
beside_heed routes n (Incoming c parts) ls ms calls b =
    beside_answered n c (answer routes ms n parts) parts ls ms calls (answer_if (has_any parts.facilities) ms _ _ (answer_by_is ms (route_from n ms (line_for routes parts.called)))) b
beside_heed routes n (Connected c) ls ms calls b = beside_told_of n c (Connected c) (joined_at ms (at n c)) ls ms refl b
beside_heed routes n (Closed c cause diagnostic reason) ls ms calls b = beside_told_of n c (Closed c cause diagnostic reason) (joined_at ms (at n c)) ls ms refl b
beside_heed routes n (WasReset c cause diagnostic reason) ls ms calls b = beside_told_of n c (WasReset c cause diagnostic reason) (joined_at ms (at n c)) ls ms refl b
beside_heed routes n (InterruptConfirmed c) ls ms calls b = beside_told_of n c (InterruptConfirmed c) (joined_at ms (at n c)) ls ms refl b
beside_heed routes n (Covered c m) ls ms calls b = beside_told_of n c (Covered c m) (joined_at ms (at n c)) ls ms refl b

beside_all : (routes : RouteMap) (n : ℕ) (notes : List Note) (ls ms : List SwitchLine) → HaveCalls n ls → Beside n ls ms → Beside n ls (heed_all routes n notes ms)
beside_all routes n [] ls ms calls b = b
beside_all routes n (x ∷ xs) ls ms calls b = beside_all routes n xs ls (heed routes n x ms) calls (beside_heed routes n x ls ms calls b)

-- ---- an act on line n

have_calls : (n : ℕ) (ls : List SwitchLine) (w : World) → IsSwitch ls w → HaveCalls n ls
have_calls n ls w i p j o =
    let k = i.joined p j o.joined in
    let s = some_there (shown_at (layers_of ls) p) k.there in (
      s.0,
      (
        s.1,
        ap (λ (t : Shown). had_call t.channel.state) (i.world p s.0 s.1).shown ∙ elim k.pair [
          | inl h ↦ pair_call (w p) (w j.other) j k.other h
          | inr h ↦ elim h [ inl y ↦ absurd y | inr y ↦ absurd y ]
        ],
      ),
    )

changed_beside : (n : ℕ) (g : SwitchLine → SwitchLine) (ls : List SwitchLine) (p : SwitchChannel) → (p.line ≡ n → ⊥) → shown_at (layers_of (changed n g ls)) p ≡ shown_at (layers_of ls) p
changed_beside n g ls p ne =
    ap (λ (o : Option Layer). shown_on o p.channel)
    (get_map (λ l. l.end.layer) (changed n g ls) p.line ∙ (ap (λ (o : Option SwitchLine). option_map (λ l. l.end.layer) o) (get_unchanged n p.line g ls ne) ∙ sym (get_map (λ l. l.end.layer) ls p.line)))

begins_beside : (n : ℕ) (g : SwitchLine → SwitchLine) (ls : List SwitchLine) (w : World) → ((l : SwitchLine) → (g l).joined ≡ l.joined) → IsSwitch ls w → Beside n ls (changed n g ls)
begins_beside n g ls w same i = record {
  stays = λ p j o. joined_kept n p.line p.channel g ls same ∙ o.joined;
  shown = λ p j o. changed_beside n g ls p o.here;
  apart = λ p j x k o e got. by_same p j x k o e (sym (joined_kept n x.line x.channel g ls same) ∙ got) (decided (same_place p k.other));
}
  where
    by_same : (p : SwitchChannel) (j : Joined) (x : SwitchChannel) (k : Joined) → IsOther n ls p j → x.line ≡ n → joined_at ls x ≡ Some k → (same_place p k.other ≡ true) ⊎ (same_place p k.other ≡ false) → same_place p k.other ≡ false
    by_same p j x k o e got (inr f) = f
    by_same p j x k o e got (inl t) =
        let is = place_is p k.other t in
        let at_x = i.joined x k got in
        let same_join : j ≡ at_x.other = same_Some j at_x.other (sym o.joined ∙ (ap (λ (y : SwitchChannel). joined_at ls y) is ∙ at_x.joined)) in
        absurd (o.there (ap (λ (y : Joined). y.other.line) same_join ∙ (ap (λ (y : SwitchChannel). y.line) at_x.back ∙ e)))

pub acted_beside : (routes : RouteMap) (n : ℕ) (f : PacketEnd → PacketEnd) (ls : List SwitchLine) (w : World) → IsSwitch ls w → Beside n ls (acted routes n f ls)
acted_beside routes n f ls w i =
    let g = with_end (λ e. f (quieted e)) in
    let l1 = changed n g ls in
    let twice : changed n (with_end without_notes) l1 ≡ changed n (λ l. with_end without_notes (g l)) ls = changed_twice n (with_end without_notes) g ls in
    let b = begins_beside n (λ l. with_end without_notes (g l)) ls w (λ l. refl) i in
    beside_all routes n (notes_of (slice_get l1 n)) ls (changed n (with_end without_notes) l1) (have_calls n ls w i) (subst (λ (ms : List SwitchLine). Beside n ls ms) (sym twice) b)

pub acted_stays : (routes : RouteMap) (n : ℕ) (f : PacketEnd → PacketEnd) (ls : List SwitchLine) (w : World) → IsSwitch ls w → (p : SwitchChannel) (j : Joined) → IsOther n ls p j → joined_at (acted routes n f ls) p ≡ Some j
acted_stays routes n f ls w i p j o = (acted_beside routes n f ls w i).stays p j o

-- ---- relays and offers keep all joins

abbrev pub AllStay : List SwitchLine → List SwitchLine → Type 0
AllStay ls ms = (p : SwitchChannel) (j : Joined) → joined_at ls p ≡ Some j → Stay j p ms

stay_same : (ls ms : List SwitchLine) → ((p : SwitchChannel) → joined_at ms p ≡ joined_at ls p) → AllStay ls ms
stay_same ls ms same p j e = record { kept = j.kept; joined = same p ∙ e }

stay_then : (ls ms xs : List SwitchLine) → AllStay ls ms → AllStay ms xs → AllStay ls xs
stay_then ls ms xs a b p j e =
    let x = a p j e in
    let y = b p (record j { kept = x.kept }) x.joined in
    record { kept = y.kept; joined = y.joined }

-- a joined channel gets another direction
stay_kept : (ls : List SwitchLine) (q : SwitchChannel) (k : Joined) (v : Direction) → joined_at ls q ≡ Some k → AllStay ls (with_joined q (Some (record k { kept = v })) ls)
stay_kept ls q k v got p j e = by_place (decided (same_place p q))
  where
    by_place : (same_place p q ≡ true) ⊎ (same_place p q ≡ false) → Stay j p (with_joined q (Some (record k { kept = v })) ls)
    by_place (inl t) =
        let is = place_is p q t in
        let same : k ≡ j = same_Some k j (sym got ∙ (ap (λ (y : SwitchChannel). joined_at ls y) (sym is) ∙ e)) in
        record {
          kept = v;
          joined = ap (λ (y : SwitchChannel). joined_at (with_joined q (Some (record k { kept = v })) ls) y) is ∙ (joined_here q (Some (record k { kept = v })) ls (joined_place ls q k got) ∙ ap (λ (y : Joined). Some (record y { kept = v })) same);
        }
    by_place (inr f) = record { kept = j.kept; joined = joined_apart q (Some (record k { kept = v })) p ls f ∙ e }

stay_if : (b : Bool) (t : Taken) (q : SwitchChannel) (k : Joined) (ls : List SwitchLine) → joined_at ls q ≡ Some k → AllStay ls (moved_if b t q k ls)
stay_if false t q k ls got = stay_same ls ls (λ p. refl)
stay_if true t q k ls got =
    let qs = due_at ls q k t in
    let v = carried_by (sizes_at ls q k.other) t k.kept in
    let l1 = ask q Taking ls in
    let l2 = ask_all k.other qs l1 in
    let r = Releasing (releasable v.held) in
    let l3 = ask q r l2 in
    let same : (p : SwitchChannel) → joined_at l3 p ≡ joined_at ls p = λ p. joined_asked q r p l2 ∙ (joined_asks k.other qs p l1 ∙ joined_asked q Taking p ls) in
    stay_then ls l3 (moved_if true t q k ls) (stay_same ls l3 same) (stay_kept l3 q k (released v) (same q ∙ got))

stay_front : (o : Option Taken) (q : SwitchChannel) (k : Joined) (ls : List SwitchLine) → joined_at ls q ≡ Some k → AllStay ls (moved_front o q k ls)
stay_front None q k ls got = stay_same ls ls (λ p. refl)
stay_front (Some t) q k ls got = stay_if (takes_at ls k.other (due_at ls q k t)) t q k ls got

pub stay_moved : (o : Option Joined) (q : SwitchChannel) (ls : List SwitchLine) → joined_at ls q ≡ o → AllStay ls (moved_joined o q ls)
stay_moved None q ls got = stay_same ls ls (λ p. refl)
stay_moved (Some k) q ls got = stay_front (front_at ls q) q k ls got

stay_relayed : (most : ℕ) (q : SwitchChannel) (ls : List SwitchLine) → AllStay ls (relayed most q ls)
stay_relayed zero q ls = stay_same ls ls (λ p. refl)
stay_relayed (suc most) q ls = stay_then ls (moved q ls) (relayed most q (moved q ls)) (stay_moved (joined_at ls q) q ls refl) (stay_relayed most q (moved q ls))

stay_from : (qs : List SwitchChannel) (ls : List SwitchLine) → AllStay ls (relayed_from qs ls)
stay_from [] ls = stay_same ls ls (λ p. refl)
stay_from (q ∷ qs) ls = stay_then ls (relayed most_moves q ls) (relayed_from qs (relayed most_moves q ls)) (stay_relayed most_moves q ls) (stay_from qs (relayed most_moves q ls))

stay_offered : (count n : ℕ) (ls : List SwitchLine) → AllStay ls (offered_from count n ls)
stay_offered zero n ls = stay_same ls ls (λ p. refl)
stay_offered (suc count) n ls =
    stay_then ls (changed n (with_end all_offered) ls) (offered_from count (suc n) (changed n (with_end all_offered) ls))
    (stay_same ls (changed n (with_end all_offered) ls) (λ p. joined_kept n p.line p.channel (with_end all_offered) ls (λ l. refl))) (stay_offered count (suc n) (changed n (with_end all_offered) ls))

stay_by : (b : Bool) (most : ℕ) (first next : List ℕ) (ls : List SwitchLine) → ((ms : List SwitchLine) → AllStay ms (rounds most next ms))
    → AllStay ls (if b then rounds most next (offered_from (length ls) 0 (relayed_first first ls)) else relayed_first first ls)
stay_by true most first next ls more =
    let ms = relayed_first first ls in
    let xs = offered_from (length ls) 0 ms in
    stay_then ls ms (rounds most next xs) (stay_from (places_first first ls) ls) (stay_then ms xs (rounds most next xs) (stay_offered (length ls) 0 ms) (more xs))
stay_by false most first next ls more = stay_from (places_first first ls) ls

pub stay_rounds : (most : ℕ) (first : List ℕ) (ls : List SwitchLine) → AllStay ls (rounds most first ls)
stay_rounds zero first ls = stay_from (places_first first ls) ls
stay_rounds (suc most) first ls =
    let next = offering_from 0 (relayed_first first ls) in
    stay_by (list_any may_offer (relayed_first first ls)) most first next ls (λ ms. stay_rounds most next ms)
