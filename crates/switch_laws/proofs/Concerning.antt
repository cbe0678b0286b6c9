-- Joins with no leg on a line of the event are left with nothing to relay, and the relay of the others is that of all.
use Rattle.std.proofs.Common.{◌≡◌, ℕ, zero, suc, ◌+◌, ◌&&◌, map, arith, option_map, ◌⊎◌, inl, inr, Bool, true, false, ◌||◌, ◌==◌, if◌then◌else◌, List, [], ◌∷◌, length, Option, Some, None, is_some, refl, sym, ap, subst, ◌∙◌, true≢false}
use Rattle.std.specs.Prelude.{slice_get}
use Rattle.std.proofs.lemmas.Bool.{eq-eqb}
use Rattle.std.proofs.lemmas.Option.{same_Some}
use Rattle.lapb.specs.Machine.{can_offer}
use Rattle.data_transfer.specs.Packets.{Note}
use Rattle.data_transfer.specs.Traffic.{Taken, front}
use Rattle.packet_channel.specs.Channel.{Channel, Request}
use Rattle.packet_layer.specs.Layer.{Layer, channel_of, next_packet, front_at as front_of_channel}
use Rattle.packet_end.specs.PacketEnd.{PacketEnd, begun, relinked}
use Rattle.packet_end.proofs.Offering.{no_room, no_packet}
use Rattle.address_routes.specs.Routes.{RouteMap}
use Rattle.switch_joins.specs.declared.channels.SwitchChannel.{SwitchChannel}
use Rattle.switch_joins.specs.Joins.{Joined}
use Rattle.switch_joins.specs.Turning.{Sizes}
use Rattle.switch_lines.specs.Lines.{SwitchLine, same_place, joined_on, joined_at, front_at, front_of_line, size_of_line, sizes_at, takes_on_channel, takes_on_line, takes_at, places}
use Rattle.switch_lines.specs.Relay.{requests_for, due_at, moved_joined, moved_front, moved_if, relayed, relayed_from, all_relayed, most_moves}
use Rattle.switch_lines.specs.Switch.{Switch, acted, all_begun, may_offer, offering_from, offered_from, to_relink, relinked_at, all_relinked, relinks_of}
use Rattle.switch_laws.specs.Steps.{Happening, does, acts_of_all}
use Rattle.switch_laws.specs.Steps.Happening.{Relinks}
use Rattle.switch_laws.specs.EventSteps.{relayed_steps, all_relinked_steps}
use Rattle.switch_laws.specs.World.{World, Shown, shown_as, shown_on, shown_at, layers_of}
use Rattle.switch_laws.specs.Joined.{IsSwitch, Becomes, HasRelayedAll}
use Rattle.switch_laws.specs.Stays.{IsNone}
use Rattle.switch_laws.specs.Pairs.{WasJoined, IsNewJoin}
use Rattle.switch_laws.specs.Concern.{is_one_of, joined_to, is_concerned, concerned, relayed_on, HasRelayedBut, lines_of_event, before_relay, RelaysItsOwn}
use Rattle.switch_laws.proofs.Lists.{not_equal, get_map}
use Rattle.switch_laws.proofs.Rounds.{offers_line, in_turn}
use Rattle.switch_lines.proofs.Relaying.{relayed_stays}
use Rattle.switch_lines.proofs.Places.{sizes_same}
use Rattle.switch_laws.proofs.Places.{some_there, takes_is, size_is}
use Rattle.switch_laws.proofs.Relaying.{StuckAt, VisitedBy, visited}
use Rattle.switch_laws.proofs.JoinsOfOtherLines.{IsOther, acted_beside}
use Rattle.switch_laws.proofs.Turning.{relinked_effect, acted_right}
use Rattle.switch_laws.proofs.JoinsAtEventEnd.{layers_on_ends, joined_on_ends}
use Rattle.switch_laws.proofs.Newness.{before_joins}
use Rattle.switch_laws.proofs.Finishing.{begun_right, happens, none_relinks, relinks_leave, all_relinks, offers_from}
use Rattle.switch_joins.proofs.Apart.{decided, place_is}

-- ---- joins that are passed over

if_stuck : (b : Bool) (t : Taken) (x : SwitchChannel) (j : Joined) (ls : List SwitchLine) → b ≡ false → moved_if b t x j ls ≡ ls
if_stuck true t x j ls e = absurd (true≢false e)
if_stuck false t x j ls e = refl

front_stuck : (o : Option Taken) (x : SwitchChannel) (j : Joined) (ls : List SwitchLine) → front_at ls x ≡ o → joined_at ls x ≡ Some j → StuckAt ls x → moved_front o x j ls ≡ ls
front_stuck None x j ls f e s = refl
front_stuck (Some t) x j ls f e s = if_stuck (takes_at ls j.other (due_at ls x j t)) t x j ls (s j t e f)

joined_stuck : (o : Option Joined) (x : SwitchChannel) (ls : List SwitchLine) → joined_at ls x ≡ o → StuckAt ls x → moved_joined o x ls ≡ ls
joined_stuck None x ls e s = refl
joined_stuck (Some j) x ls e s = front_stuck (front_at ls x) x j ls refl e s

pub stuck_stays : (x : SwitchChannel) (ls : List SwitchLine) → StuckAt ls x → relayed most_moves x ls ≡ ls
stuck_stays x ls s = relayed_stays most_moves x ls (joined_stuck (joined_at ls x) x ls refl s)

passes_over : (lines : List ℕ) (first : List SwitchLine) (ps : List SwitchChannel) (ls : List SwitchLine) (w : World) → IsSwitch ls w → ((p : SwitchChannel) → is_concerned lines first p ≡ false → StuckAt ls p)
    → relayed_from ps ls ≡ relayed_from (concerned lines first ps) ls
passes_over lines first [] ls w i stuck = refl
passes_over lines first (x ∷ ps) ls w i stuck = by_concern (decided (is_concerned lines first x)) (visited ls w x i) (λ ms v k s. passes_over lines first ps ms v k s)
  where
    apart : (p : SwitchChannel) → is_concerned lines first x ≡ true → is_concerned lines first p ≡ false → same_place p x ≡ false
    apart p t f = by_same (decided (same_place p x))
      where
        by_same : (same_place p x ≡ true) ⊎ (same_place p x ≡ false) → same_place p x ≡ false
        by_same (inl e) = absurd (true≢false (sym t ∙ (ap (λ (y : SwitchChannel). is_concerned lines first y) (sym (place_is p x e)) ∙ f)))
        by_same (inr e) = e

    by_concern : (is_concerned lines first x ≡ true) ⊎ (is_concerned lines first x ≡ false) → (a : VisitedBy (relayed_steps most_moves x ls) ls w x (relayed most_moves x ls))
        → ((ms : List SwitchLine) (v : World) → IsSwitch ms v → ((p : SwitchChannel) → is_concerned lines first p ≡ false → StuckAt ms p) → relayed_from ps ms ≡ relayed_from (concerned lines first ps) ms)
        → relayed_from ps (relayed most_moves x ls) ≡ relayed_from (if is_concerned lines first x then x ∷ concerned lines first ps else concerned lines first ps) ls
    by_concern (inl t) a more =
        more (relayed most_moves x ls) a.world a.switch (λ p f. a.stuck_elsewhere p (apart p t f) (stuck p f))
        ∙ ap (λ (b : Bool). relayed_from (if b then x ∷ concerned lines first ps else concerned lines first ps) ls) (sym t)
    by_concern (inr f) a more =
        ap (λ (ms : List SwitchLine). relayed_from ps ms) (stuck_stays x ls (stuck x f)) ∙ more ls w i stuck
        ∙ ap (λ (b : Bool). relayed_from (if b then x ∷ concerned lines first ps else concerned lines first ps) ls) (sym f)

pub relays : (lines : List ℕ) (ls : List SwitchLine) (w : World) → IsSwitch ls w → HasRelayedBut lines ls → all_relayed ls ≡ relayed_on lines ls
relays lines ls w i but = passes_over lines ls (places ls) ls w i (λ p f j t e g. but p j t f e g)

-- ---- what waits on a channel, and what it takes, as its line shows it

abbrev pub front_shown : Option Shown → Option Taken
front_shown None = None
front_shown (Some s) = front s.channel.traffic

channel_front : (l : Layer) (o : Option Channel) → front_of_channel o ≡ front_shown (shown_as l o)
channel_front l None = refl
channel_front l (Some ch) = refl

line_front : (ls : List SwitchLine) (n c : ℕ) → front_of_line (slice_get ls n) c ≡ front_shown (shown_on (slice_get (layers_of ls) n) c)
line_front [] n c = refl
line_front (l ∷ ls) zero c = channel_front l.end.layer (channel_of l.end.layer c)
line_front (l ∷ ls) (suc n) c = line_front ls n c

abbrev pub SameShown : (ls ms : List SwitchLine) → SwitchChannel → Type 0
SameShown ls ms p = shown_at (layers_of ms) p ≡ shown_at (layers_of ls) p

pub same_front : (ls ms : List SwitchLine) (p : SwitchChannel) → SameShown ls ms p → front_at ms p ≡ front_at ls p
same_front ls ms p e = line_front ms p.line p.channel ∙ (ap (λ (o : Option Shown). front_shown o) e ∙ sym (line_front ls p.line p.channel))

-- the lines of a join have the packet sizes that they had, and a channel takes what it took
abbrev pub SameSizes : (ls ms : List SwitchLine) → SwitchChannel → SwitchChannel → Type 0
SameSizes ls ms p q = sizes_at ms p q ≡ sizes_at ls p q

abbrev pub TakesSame : (ls ms : List SwitchLine) → SwitchChannel → Type 0
TakesSame ls ms p = (qs : List Request) → takes_at ms p qs ≡ takes_at ls p qs

pub same_takes : (ls ms : List SwitchLine) (p : SwitchChannel) (j : Joined) (t : Taken) → SameSizes ls ms p j.other → TakesSame ls ms j.other
    → takes_at ms j.other (due_at ms p j t) ≡ takes_at ls j.other (due_at ls p j t)
same_takes ls ms p j t sizes takes =
    ap (λ (s : Sizes). takes_at ms j.other (requests_for s j.kept.gathered t)) sizes ∙ takes (due_at ls p j t)

-- where its layers are the same
abbrev takes_on_layer : Option Layer → (channel : ℕ) → List Request → Bool
takes_on_layer None c qs = false
takes_on_layer (Some l) c qs = takes_on_channel l.role l.flow (channel_of l c) qs

layer_takes : (ls : List SwitchLine) (n c : ℕ) (qs : List Request) → takes_on_line (slice_get ls n) c qs ≡ takes_on_layer (slice_get (layers_of ls) n) c qs
layer_takes [] n c qs = refl
layer_takes (l ∷ ls) zero c qs = refl
layer_takes (l ∷ ls) (suc n) c qs = layer_takes ls n c qs

pub layers_take : (ls ms : List SwitchLine) (p : SwitchChannel) → layers_of ms ≡ layers_of ls → TakesSame ls ms p
layers_take ls ms p e qs =
    layer_takes ms p.line p.channel qs ∙ (ap (λ (ys : List Layer). takes_on_layer (slice_get ys p.line) p.channel qs) e ∙ sym (layer_takes ls p.line p.channel qs))

abbrev size_of_layer : Option Layer → ℕ
size_of_layer None = 0
size_of_layer (Some l) = l.flow.size

layer_size : (ls : List SwitchLine) (n : ℕ) → size_of_line (slice_get ls n) ≡ size_of_layer (slice_get (layers_of ls) n)
layer_size [] n = refl
layer_size (l ∷ ls) zero = refl
layer_size (l ∷ ls) (suc n) = layer_size ls n

pub layers_sizes : (ls ms : List SwitchLine) (p q : SwitchChannel) → layers_of ms ≡ layers_of ls → SameSizes ls ms p q
layers_sizes ls ms p q e = sizes_same ls ms p q (at p.line) (at q.line)
  where
    at : (n : ℕ) → size_of_line (slice_get ms n) ≡ size_of_line (slice_get ls n)
    at n = layer_size ms n ∙ (ap (λ (ys : List Layer). size_of_layer (slice_get ys n)) e ∙ sym (layer_size ls n))

-- where they show the same
pub shown_takes : (ls ms : List SwitchLine) (p : SwitchChannel) → is_some (shown_at (layers_of ls) p) ≡ true → SameShown ls ms p → TakesSame ls ms p
shown_takes ls ms p there e qs =
    let s = some_there (shown_at (layers_of ls) p) there in
    takes_is ms p.line p.channel qs s.0 (e ∙ s.1) ∙ sym (takes_is ls p.line p.channel qs s.0 s.1)

shown_size : (ls ms : List SwitchLine) (p : SwitchChannel) → is_some (shown_at (layers_of ls) p) ≡ true → SameShown ls ms p → size_of_line (slice_get ms p.line) ≡ size_of_line (slice_get ls p.line)
shown_size ls ms p there e =
    let s = some_there (shown_at (layers_of ls) p) there in
    size_is ms p.line p.channel s.0 (e ∙ s.1) ∙ sym (size_is ls p.line p.channel s.0 s.1)

pub shown_sizes : (ls ms : List SwitchLine) (p q : SwitchChannel) → is_some (shown_at (layers_of ls) p) ≡ true → is_some (shown_at (layers_of ls) q) ≡ true → SameShown ls ms p → SameShown ls ms q → SameSizes ls ms p q
shown_sizes ls ms p q p_there q_there here there = sizes_same ls ms p q (shown_size ls ms p p_there here) (shown_size ls ms q q_there there)

-- ---- links that are set up anew

pub relinks_beside : (most : ℕ) (o : Option ℕ) (routes : RouteMap) (ls : List SwitchLine) (w : World) → to_relink ls ≡ o → IsSwitch ls w → (p : SwitchChannel) (j : Joined) → joined_at ls p ≡ Some j
    → IsNone p.line (relinks_of most o routes ls) → IsNone j.other.line (relinks_of most o routes ls) → SameShown ls (all_relinked most routes ls) p
relinks_beside zero o routes ls w t i p j e a b = refl
relinks_beside (suc most) None routes ls w t i p j e a b = ap (λ (ms : List SwitchLine). shown_at (layers_of ms) p) (none_relinks (suc most) routes ls t)
relinks_beside (suc most) (Some n) routes ls w t i p j e a b =
    let ms = acted routes n relinked ls in
    let c = acted_right routes n Relinks ls w i (λ line g. relinked_effect n line.end) in
    let other : IsOther n ls p j = record { joined = e; here = a.0; there = b.0 } in
    let beside = acted_beside routes n relinked ls w i in
    ap (λ (x : Option ℕ). shown_at (layers_of (all_relinked most routes (relinked_at x routes ls))) p) t
    ∙ (relinks_beside most (to_relink ms) routes ms c.world refl c.right p j (beside.stays p j other) a.1 b.1 ∙ beside.shown p j other)

-- ---- a channel on no line of an event

pub none_of : (lines : List ℕ) (n : ℕ) → is_one_of lines n ≡ false → IsNone n lines
none_of [] n e = tt
none_of (m ∷ ms) n e = let both = neither (m == n) (is_one_of ms n) e in ((λ h. not_equal m n both.0 (sym h)), none_of ms n both.1)
  where
    neither : (a b : Bool) → (a || b) ≡ false → (a ≡ false) × (b ≡ false)
    neither true b e = absurd (true≢false e)
    neither false b e = (refl, e)

neither_one : (lines : List ℕ) (ls : List SwitchLine) (p : SwitchChannel) (j : Joined) → joined_at ls p ≡ Some j → is_concerned lines ls p ≡ false → (is_one_of lines p.line ≡ false) × (is_one_of lines j.other.line ≡ false)
neither_one lines ls p j e f =
    let both = neither (is_one_of lines p.line) (joined_to lines (joined_at ls p)) f in
    (both.0, ap (λ (o : Option Joined). joined_to lines o) (sym e) ∙ both.1)
  where
    neither : (a b : Bool) → (a || b) ≡ false → (a ≡ false) × (b ≡ false)
    neither true b e = absurd (true≢false e)
    neither false b e = (refl, e)

unconcerned : (lines : List ℕ) (ls : List SwitchLine) (p : SwitchChannel) (j : Joined) → joined_at ls p ≡ Some j → is_concerned lines ls p ≡ false → IsNone p.line lines × IsNone j.other.line lines
unconcerned lines ls p j e f =
    let both = neither_one lines ls p j e f in
    (none_of lines p.line both.0, none_of lines j.other.line both.1)

-- ---- an event

-- a join of two other lines was there before
was_joined : (n : ℕ) (routes : RouteMap) (ls : List SwitchLine) (p : SwitchChannel) (j : Joined) → (p.line ≡ n → ⊥) → (j.other.line ≡ n → ⊥) → {notes : List Note} → WasJoined ls p j ⊎ IsNewJoin routes n notes ls p j → WasJoined ls p j
was_joined n routes ls p j here there (inl a) = a
was_joined n routes ls p j here there (inr h) = absurd (by_caller j.came_in (ap (λ (x : SwitchChannel). x.line) h.came_on))
  where
    by_caller : (b : Bool) → (if b then p else j.other).line ≡ n → ⊥
    by_caller true e = here e
    by_caller false e = there e

pub event_but : (n : ℕ) (f : PacketEnd → PacketEnd) (s : Switch) (w v : World) → IsSwitch (all_begun s.lines) w → IsSwitch (acted s.routes n f (all_begun s.lines)) v → HasRelayedAll s.lines
    → HasRelayedBut (lines_of_event n f s) (before_relay n f s)
event_but n f s w v i k all p j t away e g =
    let ls = all_begun s.lines in
    let ms = acted s.routes n f ls in
    let rs = before_relay n f s in
    let off = unconcerned (lines_of_event n f s) rs p j e away in
    let was = was_joined n s.routes s.lines p j off.0.0 off.1.0 (before_joins n f s p j e) in
    let old = was.old in
    let there : IsNone old.other.line (lines_of_event n f s) = subst (λ (q : SwitchChannel). IsNone q.line (lines_of_event n f s)) (sym was.other) off.1 in
    let joined_ : joined_at ls p ≡ Some old = joined_on_ends begun s.lines p.line p.channel ∙ was.joined in
    let pair = i.joined p old joined_ in
    let back = pair.other in
    let to_p : IsNone back.other.line (lines_of_event n f s) = subst (λ (q : SwitchChannel). IsNone q.line (lines_of_event n f s)) (sym pair.back) off.0 in
    let beside = acted_beside s.routes n f ls w i in
    let one : IsOther n ls p old = record { joined = joined_; here = off.0.0; there = there.0 } in
    let two : IsOther n ls old.other back = record { joined = pair.joined; here = there.0; there = to_p.0 } in
    let begun_ = layers_on_ends begun s.lines (λ x. refl) in
    let shown_p : SameShown s.lines rs p =
    relinks_beside (length ms) (to_relink ms) s.routes ms v refl k p old (beside.stays p old one) off.0.1 there.1
    ∙ (beside.shown p old one ∙ ap (λ (ys : List Layer). shown_at ys p) begun_) in
    let shown_q : SameShown s.lines rs old.other =
    relinks_beside (length ms) (to_relink ms) s.routes ms v refl k old.other back (beside.stays old.other back two) there.1 to_p.1
    ∙ (beside.shown old.other back two ∙ ap (λ (ys : List Layer). shown_at ys old.other) begun_) in
    let p_there = ap (λ (ys : List Layer). is_some (shown_at ys p)) (sym begun_) ∙ pair.there in
    let q_there = ap (λ (ys : List Layer). is_some (shown_at ys old.other)) (sym begun_) ∙ (i.joined old.other back pair.joined).there in
    let same : j ≡ old = same_Some j old (sym e ∙ relinks_leave (length ms) (to_relink ms) s.routes ms v refl k p old (beside.stays p old one) off.0.1 there.1) in
    ap (λ (y : Joined). takes_at rs y.other (due_at rs p y t)) same
    ∙ (same_takes s.lines rs p old t (shown_sizes s.lines rs p old.other p_there q_there shown_p shown_q) (shown_takes s.lines rs old.other q_there shown_q)
    ∙ all p old t was.joined (sym (same_front s.lines rs p shown_p) ∙ g))

pub before_right : (n : ℕ) (f : PacketEnd → PacketEnd) (s : Switch) (v : World) → IsSwitch (acted s.routes n f (all_begun s.lines)) v
    → Becomes (acts_of_all (all_relinked_steps (length (acted s.routes n f (all_begun s.lines))) s.routes (acted s.routes n f (all_begun s.lines))) (acted s.routes n f (all_begun s.lines))) (acted s.routes n f (all_begun s.lines)) v (before_relay n f s)
before_right n f s v k = let ms = acted s.routes n f (all_begun s.lines) in all_relinks (length ms) s.routes ms v k

pub relays_own : (n : ℕ) (what : Happening) (s : Switch) (w : World) → IsSwitch s.lines w → HasRelayedAll s.lines → RelaysItsOwn n (does what) s
relays_own n what s w i all =
    let b = begun_right s.lines w i in
    let c = happens n what s.routes s.lines w i in
    let r = before_right n (does what) s c.world c.right in
    relays (lines_of_event n (does what) s) (before_relay n (does what) s) r.world r.right (event_but n (does what) s b.world c.world b.right c.right all)

-- ---- packets are offered

offers_nothing : (l : SwitchLine) → may_offer l ≡ false → offers_line l ≡ l
offers_nothing l e = by_room (decided (can_offer l.end.line.link))
  where
    by_room : (can_offer l.end.line.link ≡ true) ⊎ (can_offer l.end.line.link ≡ false) → offers_line l ≡ l
    by_room (inl t) = (λ k. record l { end = no_packet 7 l.end (sym (ap (λ (b : Bool). b && is_some (next_packet l.end.layer).packet) t) ∙ e) k })
    by_room (inr f) = (λ k. record l { end = no_room 7 l.end f k })

not_first : (b : Bool) (n m : ℕ) (more : List ℕ) → is_one_of (if b then n ∷ more else more) m ≡ false → is_one_of more m ≡ false
not_first true n m more e = neither (n == m) (is_one_of more m) e
  where
    neither : (a c : Bool) → (a || c) ≡ false → c ≡ false
    neither true c f = absurd (true≢false f)
    neither false c f = f
not_first false n m more e = e

itself : (b : Bool) (n : ℕ) (more : List ℕ) → is_one_of (if b then n ∷ more else more) n ≡ false → b ≡ false
itself true n more e = absurd (true≢false (ap (λ (c : Bool). c || is_one_of more n) (sym (eq-eqb n n refl)) ∙ e))
itself false n more e = refl

-- a line whose link takes none is as it was
not_offering : (m n k : ℕ) (ls : List SwitchLine) → k ≡ m + n → is_one_of (offering_from m ls) k ≡ false → slice_get (map offers_line ls) n ≡ slice_get ls n
not_offering m n k [] e f = refl
not_offering m zero k (l ∷ ls) e f =
    let same : k ≡ m = omega (arith, e) in
    ap Some (offers_nothing l (itself (may_offer l) m (offering_from (suc m) ls) (ap (λ (x : ℕ). is_one_of (offering_from m (l ∷ ls)) x) (sym same) ∙ f)))
not_offering m (suc n) k (l ∷ ls) e f = not_offering (suc m) n k ls (omega (arith, e)) (not_first (may_offer l) m k (offering_from (suc m) ls) f)

same_line : (ls ms : List SwitchLine) (p : SwitchChannel) → slice_get ms p.line ≡ slice_get ls p.line → SameShown ls ms p
same_line ls ms p e =
    ap (λ (o : Option Layer). shown_on o p.channel)
    (get_map (λ l. l.end.layer) ms p.line ∙ (ap (λ (o : Option SwitchLine). option_map (λ l. l.end.layer) o) e ∙ sym (get_map (λ l. l.end.layer) ls p.line)))

pub joined_offered : (ls : List SwitchLine) (n c : ℕ) → joined_on (slice_get (map offers_line ls) n) c ≡ joined_on (slice_get ls n) c
joined_offered [] n c = refl
joined_offered (l ∷ ls) zero c = refl
joined_offered (l ∷ ls) (suc n) c = joined_offered ls n c

pub offered_but : (ls : List SwitchLine) → HasRelayedAll ls → HasRelayedBut (offering_from 0 ls) (map offers_line ls)
offered_but ls all p j t away e g =
    let ms = map offers_line ls in
    let lines = offering_from 0 ls in
    let both = neither_one lines ms p j e away in
    let line_p = not_offering 0 p.line p.line ls (omega arith) both.0 in
    let line_q = not_offering 0 j.other.line j.other.line ls (omega arith) both.1 in
    let sizes = sizes_same ls ms p j.other (ap (λ (o : Option SwitchLine). size_of_line o) line_p) (ap (λ (o : Option SwitchLine). size_of_line o) line_q) in
    same_takes ls ms p j t sizes (λ qs. ap (λ (o : Option SwitchLine). takes_on_line o j.other.channel qs) line_q)
    ∙ all p j t (sym (joined_offered ls p.line p.channel) ∙ e) (sym (same_front ls ms p (same_line ls ms p line_p)) ∙ g)

pub offers : (ls : List SwitchLine) (w : World) → IsSwitch ls w → HasRelayedAll ls
    → all_relayed (offered_from (length ls) 0 ls) ≡ relayed_on (offering_from 0 ls) (offered_from (length ls) 0 ls)
offers ls w i all =
    let b = offers_from (length ls) 0 ls w i in
    relays (offering_from 0 ls) (offered_from (length ls) 0 ls) b.world b.right
    (subst (λ (ms : List SwitchLine). HasRelayedBut (offering_from 0 ls) ms) (sym (in_turn ls)) (offered_but ls all))
