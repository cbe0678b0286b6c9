-- After an event no link has to be set up anew: each line whose link is has no call, and asks for it no more.
use Rattle.std.proofs.Common.{◌≡◌, ℕ, zero, suc, ◌*◌, ◌≤◌, Bool, true, false, cond, if◌then◌else◌, List, [], ◌∷◌, map}
use Rattle.std.proofs.Common.{length, set, Option, Some, None, is_some, refl, sym, ap, subst, ◌∙◌, true≢false, arith}
use Rattle.std.specs.Prelude.{slice_get}
use Rattle.std.specs.List.{list_any}
use Rattle.std.proofs.lemmas.Option.{none-some, same_Some}
use Rattle.link_timers.specs.declared.role.Role.{Role}
use Rattle.link_timers.specs.declared.role.Role.TheVariants.{Dte, Dce}
use Rattle.data_transfer.specs.declared.flow.Flow.{Flow}
use Rattle.lapb.specs.Machine.{can_offer}
use Rattle.data_transfer.specs.Packets.{Body, CallParts, Note}
use Rattle.data_transfer.specs.Packets.Note.{Incoming, Connected, Closed, WasReset, InterruptConfirmed, Covered}
use Rattle.data_transfer.specs.Traffic.{Taken}
use Rattle.packet_channel.specs.Channel.{Channel, Step, Request, Refusal, closed_channel, refusal, requested, unless}
use Rattle.packet_channel.specs.Channel.{carried_out, quiet, passes_limit}
use Rattle.packet_channel.specs.Channel.Request.{Accept, Clearing, Resetting, Sending, Interrupting, Stopping, Taking}
use Rattle.packet_channel.specs.Channel.Request.{Releasing, Confirming}
use Rattle.packet_layer.specs.Layer.{Layer, Phase, Next, channel_of, nth_channel, with_nth, after_step, set_if}
use Rattle.packet_layer.specs.Layer.{on_found, request, call, placed_on, channel_given, next_of, next_number, serve}
use Rattle.packet_layer.specs.Layer.{serve_found, served, next_restart, next_in, next_packet}
use Rattle.packet_layer.specs.Layer.Phase.{NoSession, OwnRestart, PacketReady}
use Rattle.packet_end.specs.PacketEnd.{PacketEnd, relinked, offered, all_offered, with_next}
use Rattle.address_routes.specs.Routes.{RouteMap}
use Rattle.switch_joins.specs.Direction.{Direction, releasable}
use Rattle.joined_line.specs.Causes.{reset_cause, clear_cause, far_diagnostic}
use Rattle.switch_joins.specs.declared.channels.SwitchChannel.{SwitchChannel}
use Rattle.switch_joins.specs.Joins.{Joined}
use Rattle.switch_lines.specs.Lines.{SwitchLine, changed, joined_at, with_joined, ask, ask_all, front_at, sizes_at, takes_at, is_trunk}
use Rattle.switch_lines.specs.Switch.{Answer, answer, answered, forwarded, place_call, heed, heed_all, with_end}
use Rattle.switch_lines.specs.Switch.{notes_of, without_notes, quieted, acted, raised, to_relink, relinked_at}
use Rattle.switch_lines.specs.Switch.{all_relinked, may_offer, offering_from, offered_from}
use Rattle.switch_lines.specs.Switch.Answer.{Clears, Joins}
use Rattle.switch_lines.specs.Alone.{relayed_alone, rounds_alone, offered_alone}
use Rattle.switch_lines.specs.Relay.{carried_by, due_at, freed, kept_anew, covered_on, told_joined, told_of, moved, moved_if, most_moves, moved_front, moved_joined, relayed, relayed_from, legs_of}
use Rattle.switch_lines.proofs.Onward.{IsOnward, AreOnward, sends, interrupts, are_onward}
use Rattle.switch_lines.proofs.Ending.{relinks_no_more}
use Rattle.switch_lines.proofs.Calmer.{closed_slice}

map_unchanged : {X Y : Type 0} (g : X → Y) (f : X → X) (n : ℕ) (xs : List X) → ((x : X) → g (f x) ≡ g x) →
    map g (changed n f xs) ≡ map g xs
map_unchanged g f n [] e = refl
map_unchanged g f zero (x ∷ xs) e = ap (λ y. y ∷ map g xs) (e x)
map_unchanged g f (suc n) (x ∷ xs) e = ap (λ ys. g x ∷ ys) (map_unchanged g f n xs e)

-- ---- a layer whose link is being set up anew

-- it has no session, all its channels are without a call, and it does not ask
record IsDown (l : Layer) : Type 0 where
  asks_not : l.relink ≡ false
  phase : l.phase ≡ NoSession
  closed : (c : ℕ) (ch : Channel) → channel_of l c ≡ Some ch → ch ≡ closed_channel

abbrev AreClosed : List Channel → Type 0
AreClosed chs = (c : ℕ) (ch : Channel) → nth_channel chs c ≡ Some ch → ch ≡ closed_channel

closed_set : (chs : List Channel) (i k : ℕ) (ch : Channel) → ((m : ℕ) (y : Channel) → slice_get chs m ≡ Some y →
    y ≡ closed_channel) → slice_get (set chs i closed_channel) k ≡ Some ch → ch ≡ closed_channel
closed_set [] i k ch are e = absurd (none-some ch e)
closed_set (x ∷ xs) zero zero ch are e = sym (same_Some closed_channel ch e)
closed_set (x ∷ xs) zero (suc k) ch are e = are (suc k) ch e
closed_set (x ∷ xs) (suc i) zero ch are e = are zero ch e
closed_set (x ∷ xs) (suc i) (suc k) ch are e = closed_set xs i k ch (λ m y f. are (suc m) y f) e

closed_with : (chs : List Channel) (c : ℕ) → AreClosed chs → AreClosed (with_nth chs c closed_channel)
closed_with chs zero are d ch e = are d ch e
closed_with chs (suc i) are zero ch e = absurd (none-some ch e)
closed_with chs (suc i) are (suc k) ch e = closed_set chs i k ch (λ m y f. are (suc m) y f) e

closed_map : (chs : List Channel) → AreClosed (map (λ (x : Channel). closed_channel) chs)
closed_map chs zero ch e = absurd (none-some ch e)
closed_map chs (suc k) ch e = closed_slice chs k ch e

-- each request is refused there
refuses : (role : Role) (flow : Flow) (q : Request) → requested role flow closed_channel q ≡ quiet closed_channel
refuses Dte flow Accept = refl
refuses Dce flow Accept = refl
refuses role flow (Clearing cause diagnostic) = refl
refuses role flow (Resetting cause diagnostic) = refl
refuses role flow (Sending d) = refl
refuses role flow (Interrupting octets) = refl
refuses role flow (Stopping b) = refl
refuses role flow Taking = refl
refuses role flow (Releasing n) = refl
refuses role flow Confirming = refl

down_found : (l : Layer) (c : ℕ) (q : Request) (o : Option Channel) → ((ch : Channel) → o ≡ Some ch →
    ch ≡ closed_channel) → IsDown l → IsDown (on_found l c (λ ch. requested l.role l.flow ch q) o)
down_found l c q None is d = d
down_found l c q (Some ch) is d =
    subst (λ (x : Channel). IsDown (after_step l c (requested l.role l.flow x q))) (sym (is ch refl))
    (subst (λ (st : Step). IsDown (after_step l c st)) (sym (refuses l.role l.flow q))
    (record { asks_not = d.asks_not; phase = d.phase; closed = closed_with l.channels c d.closed }))

down_asked : (l : Layer) (c : ℕ) (q : Request) → IsDown l → IsDown (request l c q)
down_asked l c q d = down_found l c q (channel_of l c) (λ ch e. d.closed c ch e) d

down_called : (l : Layer) (parts : CallParts) → IsDown l → IsDown (call l parts)
down_called l parts d = subst (λ (p : Phase). IsDown (placed_on l parts (channel_given l p))) (sym d.phase) d

-- ---- lines, of which those that are marked are so

abbrev Marks : List Bool → List SwitchLine → Type 0
Marks [] [] = Unit {0}
Marks [] (l ∷ ls) = ⊥
Marks (b ∷ bs) [] = ⊥
Marks (b ∷ bs) (l ∷ ls) = (b ≡ true → IsDown l.end.layer) × Marks bs ls

marks_changed : (n : ℕ) (f : SwitchLine → SwitchLine) (bs : List Bool) (ls : List SwitchLine) →
    ((l : SwitchLine) → IsDown l.end.layer → IsDown (f l).end.layer) → Marks bs ls → Marks bs (changed n f ls)
marks_changed n f [] [] keeps m = m
marks_changed n f [] (l ∷ ls) keeps m = absurd m
marks_changed n f (b ∷ bs) [] keeps m = absurd m
marks_changed zero f (b ∷ bs) (l ∷ ls) keeps m = ((λ e. keeps l (m.0 e)), m.1)
marks_changed (suc n) f (b ∷ bs) (l ∷ ls) keeps m = (m.0, marks_changed n f bs ls keeps m.1)

abbrev marked : ℕ → List Bool → List Bool
marked n bs = changed n (λ (b : Bool). true) bs

marks_down : (n : ℕ) (f : SwitchLine → SwitchLine) (bs : List Bool) (ls : List SwitchLine) →
    ((l : SwitchLine) → IsDown (f l).end.layer) → Marks bs ls → Marks (marked n bs) (changed n f ls)
marks_down n f [] [] down m = m
marks_down n f [] (l ∷ ls) down m = absurd m
marks_down n f (b ∷ bs) [] down m = absurd m
marks_down zero f (b ∷ bs) (l ∷ ls) down m = ((λ e. down l), m.1)
marks_down (suc n) f (b ∷ bs) (l ∷ ls) down m = (m.0, marks_down n f bs ls down m.1)

marks_asked : (p : SwitchChannel) (q : Request) (bs : List Bool) (ls : List SwitchLine) → Marks bs ls → Marks bs (ask p q ls)
marks_asked p q bs ls m = marks_changed p.line _ bs ls (λ l d. down_asked l.end.layer p.channel q d) m

marks_joined : (p : SwitchChannel) (o : Option Joined) (bs : List Bool) (ls : List SwitchLine) → Marks bs ls →
    Marks bs (with_joined p o ls)
marks_joined p o bs ls m = marks_changed p.line _ bs ls (λ l d. d) m

marks_called : (n : ℕ) (parts : CallParts) (bs : List Bool) (ls : List SwitchLine) → Marks bs ls →
    Marks bs (place_call n parts ls)
marks_called n parts bs ls m = marks_changed n _ bs ls (λ l d. down_called l.end.layer parts d) m

marks_freed : (p : SwitchChannel) (j : Joined) (v : Direction) (bs : List Bool) (ls : List SwitchLine) → Marks bs ls →
    Marks bs (freed p j v ls)
marks_freed p j v bs ls m = marks_joined p _ bs _ (marks_asked p (Releasing (releasable v.held)) bs ls m)

marks_anew : (o : Option Joined) (p : SwitchChannel) (bs : List Bool) (ls : List SwitchLine) → Marks bs ls →
    Marks bs (kept_anew o p ls)
marks_anew None p bs ls m = m
marks_anew (Some j) p bs ls m = marks_joined p _ bs ls m

marks_covered : (n : ℕ) (o : Option Joined) (p : SwitchChannel) (bs : List Bool) (ls : List SwitchLine) → Marks bs ls →
    Marks bs (covered_on n o p ls)
marks_covered n None p bs ls m = m
marks_covered n (Some j) p bs ls m = marks_freed p j _ bs ls m

marks_told : (note : Note) (p : SwitchChannel) (j : Joined) (bs : List Bool) (ls : List SwitchLine) → Marks bs ls →
    Marks bs (told_joined note p j ls)
marks_told (Connected c) p j bs ls m = marks_asked j.other Accept bs ls m
marks_told (Closed c cause diagnostic reason) p j bs ls m =
    marks_asked j.other (Clearing (clear_cause (is_trunk (slice_get ls p.line)) reason cause) (far_diagnostic reason diagnostic)) bs _
    (marks_joined j.other None bs _ (marks_joined p None bs ls m))
marks_told (WasReset c cause diagnostic reason) p j bs ls m =
    let q = Resetting (reset_cause reason cause) (far_diagnostic reason diagnostic) in
    marks_anew (joined_at ls j.other) j.other bs (kept_anew (Some j) p (ask j.other q ls))
    (marks_anew (Some j) p bs (ask j.other q ls) (marks_asked j.other q bs ls m))
marks_told (InterruptConfirmed c) p j bs ls m = marks_asked j.other Confirming bs ls m
marks_told (Covered c n) p j bs ls m = marks_covered n (joined_at ls j.other) j.other bs ls m
marks_told (Incoming c parts) p j bs ls m = m

marks_told_of : (o : Option Joined) (note : Note) (p : SwitchChannel) (bs : List Bool) (ls : List SwitchLine) → Marks bs ls →
    Marks bs (told_of o note p ls)
marks_told_of None note p bs ls m = m
marks_told_of (Some j) note p bs ls m = marks_told note p j bs ls m

marks_answered : (a : Answer) (p : SwitchChannel) (parts : CallParts) (bs : List Bool) (ls : List SwitchLine) → Marks bs ls →
    Marks bs (answered a p parts ls)
marks_answered (Clears cause) p parts bs ls m = marks_asked p (Clearing cause _) bs ls m
marks_answered (Joins q) p parts bs ls m = marks_joined q _ bs _ (marks_joined p _ bs _
    (marks_called q.line (forwarded ls p.line parts) bs ls m))

marks_heeded : (routes : RouteMap) (n : ℕ) (note : Note) (bs : List Bool) (ls : List SwitchLine) → Marks bs ls →
    Marks bs (heed routes n note ls)
marks_heeded routes n (Incoming c parts) bs ls m = marks_answered (answer routes ls n parts) _ parts bs ls m
marks_heeded routes n (Connected c) bs ls m = marks_told_of _ (Connected c) _ bs ls m
marks_heeded routes n (Closed c cause diagnostic reason) bs ls m = marks_told_of _ (Closed c cause diagnostic reason) _
    bs ls m
marks_heeded routes n (WasReset c cause diagnostic reason) bs ls m = marks_told_of _
    (WasReset c cause diagnostic reason) _ bs ls m
marks_heeded routes n (InterruptConfirmed c) bs ls m = marks_told_of _ (InterruptConfirmed c) _ bs ls m
marks_heeded routes n (Covered c k) bs ls m = marks_told_of _ (Covered c k) _ bs ls m

marks_all_heeded : (routes : RouteMap) (n : ℕ) (notes : List Note) (bs : List Bool) (ls : List SwitchLine) → Marks bs ls
    → Marks bs (heed_all routes n notes ls)
marks_all_heeded routes n [] bs ls m = m
marks_all_heeded routes n (x ∷ xs) bs ls m = marks_all_heeded routes n xs bs (heed routes n x ls)
    (marks_heeded routes n x bs ls m)

down_relinked : (e : PacketEnd) → IsDown (relinked (quieted e)).layer
down_relinked e = record { asks_not = refl; phase = refl; closed = closed_map e.layer.channels }

marks_relinked : (routes : RouteMap) (n : ℕ) (bs : List Bool) (ls : List SwitchLine) → Marks bs ls →
    Marks (marked n bs) (acted routes n relinked ls)
marks_relinked routes n bs ls m =
    let ms = changed n (with_end (λ e. relinked (quieted e))) ls in
    marks_all_heeded routes n (notes_of (slice_get ms n)) (marked n bs) (changed n (with_end without_notes) ms)
    (marks_changed n (with_end without_notes) (marked n bs) ms (λ l d. record {
      asks_not = d.asks_not;
      phase = d.phase;
      closed = d.closed;
    })
    (marks_down n (with_end (λ e. relinked (quieted e))) bs ls (λ l. down_relinked l.end) m))

-- ---- each of them once

abbrev left : List Bool → ℕ
left [] = 0
left (b ∷ bs) = if b then left bs else suc (left bs)

none_left : (bs : List Bool) (ls : List SwitchLine) → left bs ≤ 0 → Marks bs ls → to_relink ls ≡ None
none_left [] [] h m = refl
none_left [] (l ∷ ls) h m = absurd m
none_left (b ∷ bs) [] h m = absurd m
none_left (true ∷ bs) (l ∷ ls) h m =
    ap (λ (a : Bool). if a then Some 0 else raised (to_relink ls)) (m.0 refl).asks_not
    ∙ ap (λ (o : Option ℕ). raised o) (none_left bs ls h m.1)
none_left (false ∷ bs) (l ∷ ls) h m = absurd (omega arith)

one_fewer : (n : ℕ) (bs : List Bool) (ls : List SwitchLine) → to_relink ls ≡ Some n → Marks bs ls →
    suc (left (marked n bs)) ≡ left bs
one_fewer n [] [] e m = absurd (none-some n e)
one_fewer n [] (l ∷ ls) e m = absurd m
one_fewer n (b ∷ bs) [] e m = absurd m
one_fewer n (b ∷ bs) (l ∷ ls) e m = by_ask l.end.layer.relink refl e (λ k f. one_fewer k bs ls f m.1)
  where
    here : (x : Bool) → (x ≡ true → IsDown l.end.layer) → l.end.layer.relink ≡ true → suc (left bs) ≡ left (x ∷ bs)
    here true down asks = absurd (true≢false (sym asks ∙ (down refl).asks_not))
    here false down asks = refl

    on : (x : Bool) (k : ℕ) → suc (left (marked k bs)) ≡ left bs → suc (left (x ∷ marked k bs)) ≡ left (x ∷ bs)
    on true k f = f
    on false k f = ap (λ (i : ℕ). suc i) f

    next : (o : Option ℕ) → to_relink ls ≡ o → raised o ≡ Some n → ((k : ℕ) → to_relink ls ≡ Some k →
        suc (left (marked k bs)) ≡ left bs) → suc (left (marked n (b ∷ bs))) ≡ left (b ∷ bs)
    next None f g more = absurd (none-some n g)
    next (Some k) f g more = subst (λ (i : ℕ). suc (left (marked i (b ∷ bs))) ≡ left (b ∷ bs)) (same_Some (suc k) n g)
        (on b k (more k f))

    by_ask : (a : Bool) → l.end.layer.relink ≡ a → (if a then Some 0 else raised (to_relink ls)) ≡ Some n →
        ((k : ℕ) → to_relink ls ≡ Some k → suc (left (marked k bs)) ≡ left bs)
        → suc (left (marked n (b ∷ bs))) ≡ left (b ∷ bs)
    by_ask true f g more = subst (λ (i : ℕ). suc (left (marked i (b ∷ bs))) ≡ left (b ∷ bs)) (same_Some 0 n g)
        (here b m.0 f)
    by_ask false f g more = next (to_relink ls) refl g more

relinks_end : (most : ℕ) (routes : RouteMap) (bs : List Bool) (ls : List SwitchLine) → Marks bs ls → left bs ≤ most →
    to_relink (all_relinked most routes ls) ≡ None
relinks_end zero routes bs ls m h = none_left bs ls h m
relinks_end (suc most) routes bs ls m h = by_line (to_relink ls) refl (λ cs ms k g. relinks_end most routes cs ms k g)
  where
    by_line : (o : Option ℕ) → to_relink ls ≡ o → ((cs : List Bool) (ms : List SwitchLine) → Marks cs ms →
        left cs ≤ most → to_relink (all_relinked most routes ms) ≡ None)
        → to_relink (all_relinked most routes (relinked_at (to_relink ls) routes ls)) ≡ None
    by_line None e more =
        ap (λ (x : Option ℕ). to_relink (all_relinked most routes (relinked_at x routes ls))) e
        ∙ (ap (λ (ms : List SwitchLine). to_relink ms) (sym (relinks_no_more most routes ls e)) ∙ e)
    by_line (Some n) e more =
        let fewer = one_fewer n bs ls e m in
        ap (λ (x : Option ℕ). to_relink (all_relinked most routes (relinked_at x routes ls))) e
        ∙ more (marked n bs) (acted routes n relinked ls) (marks_relinked routes n bs ls m)
        (omega (arith, fewer, h))

unmarked : List SwitchLine → List Bool
unmarked [] = []
unmarked (l ∷ ls) = false ∷ unmarked ls

marks_none : (ls : List SwitchLine) → Marks (unmarked ls) ls
unfolding unmarked
marks_none [] = tt
marks_none (l ∷ ls) = ((λ e. absurd (true≢false (sym e))), marks_none ls)

left_all : (ls : List SwitchLine) → left (unmarked ls) ≤ length ls
unfolding unmarked
left_all [] = omega arith
left_all (l ∷ ls) = let rest = left_all ls in omega (arith, rest)

pub all_relinked_end : (routes : RouteMap) (ls : List SwitchLine) → to_relink (all_relinked (length ls) routes ls) ≡
    None
all_relinked_end routes ls = relinks_end (length ls) routes (unmarked ls) ls (marks_none ls) (left_all ls)

-- ---- relay and offers ask for no link

abbrev pub asks : List SwitchLine → List Bool
asks ls = map (λ l. l.end.layer.relink) ls

abbrev first_asking : List Bool → Option ℕ
first_asking [] = None
first_asking (b ∷ bs) = if b then Some 0 else raised (first_asking bs)

first_is : (ls : List SwitchLine) → to_relink ls ≡ first_asking (asks ls)
first_is [] = refl
first_is (l ∷ ls) = ap (λ (o : Option ℕ). if l.end.layer.relink then Some 0 else raised o) (first_is ls)

pub same_asking : (ls ms : List SwitchLine) → asks ms ≡ asks ls → to_relink ms ≡ to_relink ls
same_asking ls ms e = first_is ms ∙ (ap (λ (bs : List Bool). first_asking bs) e ∙ sym (first_is ls))

unless_owes : (r : Option Refusal) (done : Step) (ch : Channel) → done.owes ≡ None → (unless r done ch).owes ≡ None
unless_owes None done ch e = e
unless_owes (Some r) done ch e = refl

abbrev OwesNothing : Request → Type 0
OwesNothing q = (ch : Channel) → (carried_out ch q).owes ≡ None

request_asks : (l : Layer) (c : ℕ) (q : Request) (o : Option Channel) → OwesNothing q →
    (on_found l c (λ ch. requested l.role l.flow ch q) o).relink ≡ l.relink
request_asks l c q None plain = refl
request_asks l c q (Some ch) plain =
    ap (λ (b : Option Body). set_if (passes_limit (requested l.role l.flow ch q).channel.owed b) l.relink)
    (unless_owes (refusal l.role l.flow ch q) (carried_out ch q) ch (plain ch))

asked_asks : (p : SwitchChannel) (q : Request) (ls : List SwitchLine) → OwesNothing q → asks (ask p q ls) ≡ asks ls
asked_asks p q ls plain = map_unchanged (λ l. l.end.layer.relink) _ p.line ls
    (λ l. request_asks l.end.layer p.channel q (channel_of l.end.layer p.channel) plain)

joined_asks : (p : SwitchChannel) (o : Option Joined) (ls : List SwitchLine) → asks (with_joined p o ls) ≡ asks ls
joined_asks p o ls = map_unchanged (λ l. l.end.layer.relink) _ p.line ls (λ l. refl)

onward_owes : (q : Request) → IsOnward q → OwesNothing q
onward_owes _ (sends d) ch = refl
onward_owes _ (interrupts octets) ch = refl

onward_asks : (p : SwitchChannel) (qs : List Request) (ls : List SwitchLine) → AreOnward qs → asks (ask_all p qs ls) ≡ asks ls
onward_asks p [] ls are = refl
onward_asks p (q ∷ qs) ls are = onward_asks p qs (ask p q ls) are.1 ∙ asked_asks p q ls (onward_owes q are.0)

if_asks : (b : Bool) (t : Taken) (p : SwitchChannel) (j : Joined) (ls : List SwitchLine) → asks (moved_if b t p j ls) ≡ asks ls
if_asks false t p j ls = refl
if_asks true t p j ls =
    let sizes = sizes_at ls p j.other in
    joined_asks p _ _ ∙ (asked_asks p (Releasing (releasable (carried_by sizes t j.kept).held))
    (ask_all j.other (due_at ls p j t) (ask p Taking ls)) (λ ch. refl)
    ∙ (onward_asks j.other (due_at ls p j t) (ask p Taking ls) (are_onward sizes j.kept.gathered t) ∙ asked_asks p Taking ls (λ ch. refl)))

front_asks : (o : Option Taken) (p : SwitchChannel) (j : Joined) (ls : List SwitchLine) → asks (moved_front o p j ls) ≡ asks ls
front_asks None p j ls = refl
front_asks (Some t) p j ls = if_asks (takes_at ls j.other (due_at ls p j t)) t p j ls

moved_asks : (o : Option Joined) (p : SwitchChannel) (ls : List SwitchLine) → asks (moved_joined o p ls) ≡ asks ls
moved_asks None p ls = refl
moved_asks (Some j) p ls = front_asks (front_at ls p) p j ls

relayed_asks : (most : ℕ) (p : SwitchChannel) (ls : List SwitchLine) → asks (relayed most p ls) ≡ asks ls
relayed_asks zero p ls = refl
relayed_asks (suc most) p ls = relayed_asks most p (moved p ls) ∙ moved_asks (joined_at ls p) p ls

pub from_asks : (ps : List SwitchChannel) (ls : List SwitchLine) → asks (relayed_from ps ls) ≡ asks ls
from_asks [] ls = refl
from_asks (p ∷ ps) ls = from_asks ps (relayed most_moves p ls) ∙ relayed_asks most_moves p ls

served_asks : (l : Layer) (c : ℕ) (ch : Channel) (b : Option Body) (others : Next) → others.layer.relink ≡ l.relink →
    (served l c (record { channel = ch; body = b }) others).layer.relink ≡ l.relink
served_asks l c ch None others same = same
served_asks l c ch (Some b) others same = refl

found_asks : (l : Layer) (c : ℕ) (o : Option Channel) (others : Next) → others.layer.relink ≡ l.relink →
    (serve_found l c o others).layer.relink ≡ l.relink
found_asks l c None others same = same
found_asks l c (Some ch) others same = served_asks l c (next_of l.flow ch).channel (next_of l.flow ch).body others
    same

serve_asks : (count : ℕ) (l : Layer) (c : ℕ) → (serve count l c).layer.relink ≡ l.relink
serve_asks zero l c = refl
serve_asks (suc count) l c = found_asks l c (channel_of l c) (serve count l (next_number l c))
    (serve_asks count l (next_number l c))

restart_asks : (owed : List Body) (l : Layer) → (next_restart owed l).layer.relink ≡ l.relink
restart_asks (b ∷ bs) l = refl
restart_asks [] l = serve_asks (length l.channels) l (next_number l l.served_last)

in_asks : (phase : Phase) (relink : Bool) (l : Layer) → (next_in phase relink l).layer.relink ≡ l.relink
in_asks NoSession relink l = refl
in_asks OwnRestart true l = refl
in_asks OwnRestart false l = restart_asks l.owed l
in_asks PacketReady true l = refl
in_asks PacketReady false l = restart_asks l.owed l

by_bool : {X : Type 0} (P : X → Type 0) (b : Bool) (x y : X) → P x → P y → P (cond b x y)
by_bool P true x y f g = f
by_bool P false x y f g = g

end_asks : (most : ℕ) (e : PacketEnd) (asking : Bool) → e.layer.relink ≡ asking → (offered most e).layer.relink ≡ asking
end_asks zero e asking same = same
end_asks (suc most) e asking same =
    by_bool (λ (f : PacketEnd). f.layer.relink ≡ asking) (can_offer e.line.link) _ _
    (by_bool (λ (f : PacketEnd). f.layer.relink ≡ asking) (is_some (next_packet e.layer).packet) _ _
    (end_asks most (with_next e (next_packet e.layer)) asking (in_asks e.layer.phase e.layer.relink e.layer ∙ same))
    same) same

offers_asks : (e : PacketEnd) → (all_offered e).layer.relink ≡ e.layer.relink
unfolding all_offered
offers_asks e = end_asks 7 e e.layer.relink refl

pub offered_asks : (count n : ℕ) (ls : List SwitchLine) → asks (offered_from count n ls) ≡ asks ls
offered_asks zero n ls = refl
offered_asks (suc count) n ls =
    offered_asks count (suc n) (changed n (with_end all_offered) ls) ∙ map_unchanged (λ l. l.end.layer.relink)
    (with_end all_offered) n ls (λ l. offers_asks l.end)

pub either_asks : (b : Bool) (x y : List SwitchLine) (bs : List Bool) → asks x ≡ bs → asks y ≡ bs →
    asks (if b then x else y) ≡ bs
either_asks true x y bs f g = f
either_asks false x y bs f g = g

alone_asks : (most : ℕ) (lines : List ℕ) (ls : List SwitchLine) → asks (rounds_alone most lines ls) ≡ asks ls
alone_asks zero lines ls = from_asks (legs_of lines ls) ls
alone_asks (suc most) lines ls =
    let ms = relayed_alone lines ls in
    let next = offering_from 0 ms in
    let ks = offered_from (length ls) 0 ms in
    let relayed_ = from_asks (legs_of lines ls) ls in
    either_asks (list_any may_offer ms) (rounds_alone most next ks) ms (asks ls) (alone_asks most next ks
    ∙ (offered_asks (length ls) 0 ms ∙ relayed_)) relayed_

pub ends_ask : (f : PacketEnd → PacketEnd) (ls : List SwitchLine) → ((e : PacketEnd) →
    (f e).layer.relink ≡ e.layer.relink) → to_relink (map (with_end f) ls) ≡ to_relink ls
ends_ask f [] same = refl
ends_ask f (l ∷ ls) same =
    ap (λ (b : Bool). if b then Some 0 else raised (to_relink (map (with_end f) ls))) (same l.end)
    ∙ ap (λ (o : Option ℕ). if l.end.layer.relink then Some 0 else raised o) (ends_ask f ls same)

-- before the lines settle
pub none_to_relink : (routes : RouteMap) (lines : List ℕ) (ls : List SwitchLine) →
    to_relink (offered_alone lines (all_relinked (length ls) routes ls)) ≡ None
none_to_relink routes lines ls =
    let rs = all_relinked (length ls) routes ls in
    same_asking rs (offered_alone lines rs) (alone_asks (7 * length rs) lines rs) ∙ all_relinked_end routes ls
