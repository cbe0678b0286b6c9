-- A leg on which nothing can move stays as it is over all rounds of relaying and offering.
use Rattle.std.proofs.Common.{◌≡◌, ℕ, zero, suc, ◌+◌, ◌-◌, ◌<◌, ◌≤◌, arith, ◌⊎◌, inl, inr, Bool, true, false, cond, if◌then◌else◌, List, [], ◌∷◌, map, length, Option, Some, None, is_some, refl, sym, ap, subst, ◌∙◌, true≢false}
use Rattle.std.specs.Prelude.{slice_get}
use Rattle.std.specs.List.{list_any}
use Rattle.std.proofs.lemmas.Option.{none-some, same_Some}
use Rattle.lapb.specs.Machine.{Link, can_offer}
use Rattle.data_transfer.specs.Packets.{Body}
use Rattle.data_transfer.specs.Traffic.{Taken}
use Rattle.packet_channel.specs.Channel.{Channel, Request, requested}
use Rattle.packet_channel.specs.Channel.Request.{Taking, Releasing}
use Rattle.packet_layer.specs.Layer.{Layer, Phase, Next, ChannelNext, channel_of, with_nth, next_of, next_number, serve, serve_found, packet_of, next_restart, next_in, next_packet}
use Rattle.packet_layer.specs.Layer.Phase.{NoSession, OwnRestart, PacketReady}
use Rattle.packet_layer.proofs.Unsent.{each_silent}
use Rattle.packet_laws.proofs.Line.Lines.{nth_other}
use Rattle.line_end.specs.End.{End}
use Rattle.packet_end.specs.PacketEnd.{PacketEnd, offered, with_next, HasOfferedAll}
use Rattle.packet_end.proofs.Offering.{no_room, none_to_offer}
use Rattle.switch_joins.specs.Direction.{releasable, released}
use Rattle.switch_joins.specs.declared.channels.SwitchChannel.{SwitchChannel}
use Rattle.switch_joins.specs.Joins.{Joined}
use Rattle.switch_lines.specs.Lines.{SwitchLine, same_place, joined_at, with_joined, ask, ask_all, front_at, sizes_at, takes_at}
use Rattle.switch_lines.specs.Relay.{carried_by, due_at, moved, moved_if, moved_front, moved_joined, relayed, relayed_from, places_first, relayed_first, most_moves}
use Rattle.switch_lines.specs.Switch.{may_offer, to_relink, raised, offering_from, offered_from, rounds}
use Rattle.switch_laws.specs.World.{World, Shown, shown_as, shown_on, shown_at, layers_of}
use Rattle.switch_laws.specs.Joined.{IsSwitch}
use Rattle.switch_laws.proofs.Lists.{same_as, map_unchanged}
use Rattle.switch_laws.proofs.Rounds.{lines_of, first_lines, from_lines, offers_line, offers_all, any_may}
use Rattle.switch_laws.proofs.Relaying.{StuckAt, visited}
use Rattle.switch_laws.proofs.JoinsOfOtherLines.{stay_moved, asked_beside, joined_beside}
use Rattle.switch_laws.proofs.Concerning.{SameShown, SameSizes, TakesSame, same_front, same_takes, shown_sizes, shown_takes, stuck_stays, joined_offered}
use Rattle.switch_laws.proofs.Finishing.{offers_from}
use Rattle.switch_laws.proofs.Offered.{HaveOfferedAll, none_may}
use Rattle.switch_laws.proofs.Owing.{found_phase, phase_of}
use Rattle.switch_joins.proofs.Apart.{decided, place_is}
use Rattle.switch_lines.proofs.Places.{joined_asked, joined_apart}

-- ---- a channel from which no packet goes to its line: the link takes none, there is no session, or it has none

abbrev pub HasNoRoom : Option Link → Type 0
HasNoRoom None = Unit {0}
HasNoRoom (Some l) = can_offer l ≡ false

abbrev pub HasNoSession : Option Phase → Type 0
HasNoSession None = Unit {0}
HasNoSession (Some phase) = phase ≡ NoSession

abbrev pub HasNothing : Option Shown → Type 0
HasNothing None = Unit {0}
HasNothing (Some s) = is_some (next_of s.flow s.channel).body ≡ false

abbrev pub Mute : Option Link → Option Phase → Option Shown → Type 0
Mute link phase s = HasNoRoom link ⊎ (HasNoSession phase ⊎ HasNothing s)

abbrev pub links_of : List SwitchLine → List Link
links_of ls = map (λ l. l.end.line.link) ls

abbrev pub IsMute : List SwitchLine → SwitchChannel → Type 0
IsMute ls p = Mute (slice_get (links_of ls) p.line) (phase_of (slice_get (layers_of ls) p.line)) (shown_at (layers_of ls) p)

pub record SameLine (ls ms : List SwitchLine) (p : SwitchChannel) : Type 0 where
  pub link : slice_get (links_of ms) p.line ≡ slice_get (links_of ls) p.line
  pub phase : phase_of (slice_get (layers_of ms) p.line) ≡ phase_of (slice_get (layers_of ls) p.line)
  pub shown : SameShown ls ms p

pub still_mute : (ls ms : List SwitchLine) (p : SwitchChannel) → SameLine ls ms p → IsMute ls p → IsMute ms p
still_mute ls ms p same h =
    subst (λ (x : Option Link). Mute x (phase_of (slice_get (layers_of ms) p.line)) (shown_at (layers_of ms) p)) (sym same.link)
    (subst (λ (x : Option Phase). Mute (slice_get (links_of ls) p.line) x (shown_at (layers_of ms) p)) (sym same.phase)
    (subst (λ (x : Option Shown). Mute (slice_get (links_of ls) p.line) (phase_of (slice_get (layers_of ls) p.line)) x) (sym same.shown) h))

-- ---- a layer gives no packet of it

pub record LayerKept (l m : Layer) (c : ℕ) : Type 0 where
  pub shown : shown_as m (channel_of m c) ≡ shown_as l (channel_of l c)
  pub phase : m.phase ≡ l.phase

kept_here : (l : Layer) (c : ℕ) → LayerKept l l c
kept_here l c = record { shown = refl; phase = refl }

abbrev Nothing_on : Layer → ℕ → Type 0
Nothing_on l c = HasNothing (shown_as l (channel_of l c))

flag_kept : (v : Bool) (l : Layer) (d c : ℕ) (n : ChannelNext) (others : Next) → (v ≡ true → c ≡ d → ⊥) → LayerKept l others.layer c
    → LayerKept l (if v then record { layer = record l { channels = with_nth l.channels d n.channel; served_last = d }; packet = packet_of d n.body } else others).layer c
flag_kept false l d c n others ne k = k
flag_kept true l d c n others ne k = record { shown = ap (λ (o : Option Channel). shown_as l o) (nth_other l.channels c d n.channel (ne refl)); phase = refl }

found_kept : (l : Layer) (d c : ℕ) (o : Option Channel) (others : Next) → channel_of l d ≡ o → Nothing_on l c → LayerKept l others.layer c → LayerKept l (serve_found l d o others).layer c
found_kept l d c None others there none k = k
found_kept l d c (Some ch) others there none k = flag_kept (is_some (next_of l.flow ch).body) l d c (next_of l.flow ch) others differ k
  where
    differ : is_some (next_of l.flow ch).body ≡ true → c ≡ d → ⊥
    differ t same =
        let is : channel_of l c ≡ Some ch = ap (λ (k : ℕ). channel_of l k) same ∙ there in
        true≢false (sym t ∙ subst (λ (o : Option Channel). HasNothing (shown_as l o)) is none)

serve_kept : (k : ℕ) (l : Layer) (d c : ℕ) → Nothing_on l c → LayerKept l (serve k l d).layer c
serve_kept zero l d c none = kept_here l c
serve_kept (suc k) l d c none = found_kept l d c (channel_of l d) (serve k l (next_number l d)) refl none (serve_kept k l (next_number l d) c none)

restart_kept : (owed : List Body) (l : Layer) (c : ℕ) → Nothing_on l c → LayerKept l (next_restart owed l).layer c
restart_kept [] l c none = serve_kept (length l.channels) l (next_number l l.served_last) c none
restart_kept (b ∷ bs) l c none = record { shown = refl; phase = refl }

in_kept : (phase : Phase) (relink : Bool) (l : Layer) (c : ℕ) → (phase ≡ NoSession) ⊎ Nothing_on l c → LayerKept l (next_in phase relink l).layer c
in_kept NoSession relink l c h = kept_here l c
in_kept OwnRestart true l c h = kept_here l c
in_kept OwnRestart false l c (inl e) = absurd (cc)
in_kept OwnRestart false l c (inr none) = restart_kept l.owed l c none
in_kept PacketReady true l c h = kept_here l c
in_kept PacketReady false l c (inl e) = absurd (cc)
in_kept PacketReady false l c (inr none) = restart_kept l.owed l c none

-- ---- an end that offers its packets

abbrev EndMute : PacketEnd → ℕ → Type 0
EndMute e c = (can_offer e.line.link ≡ false) ⊎ ((e.layer.phase ≡ NoSession) ⊎ Nothing_on e.layer c)

record EndKept (e f : PacketEnd) (c : ℕ) : Type 0 where
  layer : LayerKept e.layer f.layer c
  mute : EndMute f c

later_mute : (l m : Layer) (c : ℕ) → LayerKept l m c → (l.phase ≡ NoSession) ⊎ Nothing_on l c → (m.phase ≡ NoSession) ⊎ Nothing_on m c
later_mute l m c k (inl e) = inl (k.phase ∙ e)
later_mute l m c k (inr none) = inr (subst HasNothing (sym k.shown) none)

end_then : (e f g : PacketEnd) (c : ℕ) → LayerKept e.layer f.layer c → EndKept f g c → EndKept e g c
end_then e f g c k h = record { layer = record { shown = h.layer.shown ∙ k.shown; phase = h.layer.phase ∙ k.phase }; mute = h.mute }

either : {X : Type 0} (P : X → Type 0) (b : Bool) (x y : X) → P x → P y → P (cond b x y)
either P true x y f g = f
either P false x y f g = g

offered_mute : (most : ℕ) (e : PacketEnd) (c : ℕ) → EndMute e c → EndKept e (offered most e) c
offered_mute zero e c m = record { layer = kept_here e.layer c; mute = m }
offered_mute (suc most) e c (inl room) =
    subst (λ (f : PacketEnd). EndKept e f c) (sym (no_room (suc most) e room)) (record { layer = kept_here e.layer c; mute = inl room })
offered_mute (suc most) e c (inr m) =
    let next = with_next e (next_packet e.layer) in
    let k = in_kept e.layer.phase e.layer.relink e.layer c m in
    let same : EndKept e e c = record { layer = kept_here e.layer c; mute = inr m } in
    either (λ (f : PacketEnd). EndKept e f c) (can_offer e.line.link) _ _
    (either (λ (f : PacketEnd). EndKept e f c) (is_some (next_packet e.layer).packet) _ _
    (end_then e next (offered most next) c k (offered_mute most next c (inr (later_mute e.layer next.layer c k m)))) same) same

-- all lines do
record LineKept (ls : List SwitchLine) (n c : ℕ) : Type 0 where
  shown : shown_on (slice_get (layers_of (map offers_line ls)) n) c ≡ shown_on (slice_get (layers_of ls) n) c
  mute : Mute (slice_get (links_of (map offers_line ls)) n) (phase_of (slice_get (layers_of (map offers_line ls)) n)) (shown_on (slice_get (layers_of (map offers_line ls)) n) c)

lines_kept : (ls : List SwitchLine) (n c : ℕ) → Mute (slice_get (links_of ls) n) (phase_of (slice_get (layers_of ls) n)) (shown_on (slice_get (layers_of ls) n) c) → LineKept ls n c
lines_kept [] n c m = record { shown = refl; mute = m }
lines_kept (l ∷ ls) zero c m = let k = offered_mute 7 l.end c m in record { shown = k.layer.shown; mute = k.mute }
lines_kept (l ∷ ls) (suc n) c m = let k = lines_kept ls n c m in record { shown = k.shown; mute = k.mute }

-- ---- the other legs while one is relayed

pub same_links : (ls ms : List SwitchLine) → lines_of ms ≡ lines_of ls → links_of ms ≡ links_of ls
same_links ls ms e = sym (fused ms) ∙ (ap (λ (es : List End). map (λ x. x.link) es) e ∙ fused ls)
  where
    fused : (ks : List SwitchLine) → map (λ x. x.link) (lines_of ks) ≡ links_of ks
    fused [] = refl
    fused (k ∷ ks) = ap (λ (xs : List Link). k.end.line.link ∷ xs) (fused ks)

abbrev pub phases_of : List SwitchLine → List Phase
phases_of ls = map (λ l. l.end.layer.phase) ls

asked_phases : (p : SwitchChannel) (q : Request) (ls : List SwitchLine) → phases_of (ask p q ls) ≡ phases_of ls
asked_phases p q ls = map_unchanged (λ l. l.end.layer.phase) _ p.line ls (λ l. found_phase l.end.layer p.channel (λ ch. requested l.end.layer.role l.end.layer.flow ch q) (channel_of l.end.layer p.channel))

joined_phases : (p : SwitchChannel) (o : Option Joined) (ls : List SwitchLine) → phases_of (with_joined p o ls) ≡ phases_of ls
joined_phases p o ls = map_unchanged (λ l. l.end.layer.phase) _ p.line ls (λ l. refl)

-- what is seen of the leg p, and its join
pub record Before (p : SwitchChannel) (ls ms : List SwitchLine) : Type 0 where
  pub shown : SameShown ls ms p
  pub phases : phases_of ms ≡ phases_of ls
  pub joined : joined_at ms p ≡ joined_at ls p

nothing_moved : (p : SwitchChannel) (ls : List SwitchLine) → Before p ls ls
nothing_moved p ls = record { shown = refl; phases = refl; joined = refl }

before_then : (p : SwitchChannel) (ls ms ks : List SwitchLine) → Before p ls ms → Before p ms ks → Before p ls ks
before_then p ls ms ks a b = record { shown = b.shown ∙ a.shown; phases = b.phases ∙ a.phases; joined = b.joined ∙ a.joined }

asked_before : (p q : SwitchChannel) (r : Request) (ls : List SwitchLine) → same_place p q ≡ false → Before p ls (ask q r ls)
asked_before p q r ls e = record { shown = asked_beside q r ls p e; phases = asked_phases q r ls; joined = joined_asked q r p ls }

joined_before : (p q : SwitchChannel) (o : Option Joined) (ls : List SwitchLine) → same_place p q ≡ false → Before p ls (with_joined q o ls)
joined_before p q o ls e = record { shown = joined_beside q o ls p; phases = joined_phases q o ls; joined = joined_apart q o p ls e }

asks_before : (p q : SwitchChannel) (rs : List Request) (ls : List SwitchLine) → same_place p q ≡ false → Before p ls (ask_all q rs ls)
asks_before p q [] ls e = nothing_moved p ls
asks_before p q (r ∷ rs) ls e = before_then p ls (ask q r ls) _ (asked_before p q r ls e) (asks_before p q rs (ask q r ls) e)

if_before : (p x : SwitchChannel) (b : Bool) (t : Taken) (i : Joined) (ls : List SwitchLine) → same_place p x ≡ false → same_place p i.other ≡ false → Before p ls (moved_if b t x i ls)
if_before p x false t i ls here there = nothing_moved p ls
if_before p x true t i ls here there =
    let qs = due_at ls x i t in
    let l1 = ask x Taking ls in
    let l2 = ask_all i.other qs l1 in
    let v = carried_by (sizes_at ls x i.other) t i.kept in
    let l3 = ask x (Releasing (releasable v.held)) l2 in
    before_then p ls l1 _ (asked_before p x Taking ls here)
    (before_then p l1 l2 _ (asks_before p i.other qs l1 there)
    (before_then p l2 l3 _ (asked_before p x (Releasing (releasable v.held)) l2 here) (joined_before p x (Some (record i { kept = released v })) l3 here)))

front_before : (p x : SwitchChannel) (o : Option Taken) (i : Joined) (ls : List SwitchLine) → same_place p x ≡ false → same_place p i.other ≡ false → Before p ls (moved_front o x i ls)
front_before p x None i ls here there = nothing_moved p ls
front_before p x (Some t) i ls here there = if_before p x (takes_at ls i.other (due_at ls x i t)) t i ls here there

-- the channel x is joined with none, or with another one than p
abbrev Apart : SwitchChannel → SwitchChannel → List SwitchLine → Type 0
Apart p x ls = (i : Joined) → joined_at ls x ≡ Some i → same_place p i.other ≡ false

record MovedBefore (p x : SwitchChannel) (ls ms : List SwitchLine) : Type 0 where
  before : Before p ls ms
  apart : Apart p x ms

moved_before : (p x : SwitchChannel) (o : Option Joined) (ls : List SwitchLine) → joined_at ls x ≡ o → same_place p x ≡ false → Apart p x ls → MovedBefore p x ls (moved_joined o x ls)
moved_before p x None ls got here apart = record { before = nothing_moved p ls; apart = apart }
moved_before p x (Some i) ls got here apart =
    let stay = stay_moved (Some i) x ls got x i got in
    record {
      before = front_before p x (front_at ls x) i ls here (apart i got);
      apart = λ k e. subst (λ (y : Joined). same_place p y.other ≡ false) (same_Some (record i { kept = stay.kept }) k (sym stay.joined ∙ e)) (apart i got);
    }

relayed_before : (most : ℕ) (p x : SwitchChannel) (ls : List SwitchLine) → same_place p x ≡ false → Apart p x ls → Before p ls (relayed most x ls)
relayed_before zero p x ls here apart = nothing_moved p ls
relayed_before (suc most) p x ls here apart =
    let m = moved_before p x (joined_at ls x) ls refl here apart in
    before_then p ls (moved x ls) (relayed most x (moved x ls)) m.before (relayed_before most p x (moved x ls) here m.apart)

-- ---- a join of which nothing can move on, over the rounds

-- as it is in the lines ls, where nothing that waits on it is taken
pub record Waits (ls : List SwitchLine) (p : SwitchChannel) (j k : Joined) : Type 0 where
  pub here : joined_at ls p ≡ Some j
  pub there : joined_at ls j.other ≡ Some k
  pub back : k.other ≡ p
  pub p_there : is_some (shown_at (layers_of ls) p) ≡ true
  pub q_there : is_some (shown_at (layers_of ls) j.other) ≡ true
  pub stuck_here : StuckAt ls p
  pub stuck_there : StuckAt ls j.other

pub record IsLeft (ls : List SwitchLine) (p : SwitchChannel) (j k : Joined) (ms : List SwitchLine) : Type 0 where
  pub here : joined_at ms p ≡ Some j
  pub there : joined_at ms j.other ≡ Some k
  pub shown_here : SameShown ls ms p
  pub shown_there : SameShown ls ms j.other
  pub mute_here : IsMute ms p
  pub mute_there : IsMute ms j.other

same_stuck : (ls ms : List SwitchLine) (p : SwitchChannel) (j : Joined) → joined_at ls p ≡ Some j → joined_at ms p ≡ Some j → SameSizes ls ms p j.other → TakesSame ls ms j.other → SameShown ls ms p → StuckAt ls p → StuckAt ms p
same_stuck ls ms p j old new sizes takes here s i t e f =
    let same : i ≡ j = same_Some i j (sym e ∙ new) in
    ap (λ (y : Joined). takes_at ms y.other (due_at ms p y t)) same
    ∙ (same_takes ls ms p j t sizes takes ∙ s j t old (sym (same_front ls ms p here) ∙ f))

stuck_first : (ls ms : List SwitchLine) (p : SwitchChannel) (j k : Joined) → Waits ls p j k → IsLeft ls p j k ms → StuckAt ms p
stuck_first ls ms p j k u h = same_stuck ls ms p j u.here h.here (shown_sizes ls ms p j.other u.p_there u.q_there h.shown_here h.shown_there) (shown_takes ls ms j.other u.q_there h.shown_there) h.shown_here u.stuck_here

stuck_second : (ls ms : List SwitchLine) (p : SwitchChannel) (j k : Joined) → Waits ls p j k → IsLeft ls p j k ms → StuckAt ms j.other
stuck_second ls ms p j k u h =
    let back : SameShown ls ms k.other = subst (λ (x : SwitchChannel). SameShown ls ms x) (sym u.back) h.shown_here in
    let p_there : is_some (shown_at (layers_of ls) k.other) ≡ true = ap (λ (x : SwitchChannel). is_some (shown_at (layers_of ls) x)) u.back ∙ u.p_there in
    same_stuck ls ms j.other k u.there h.there (shown_sizes ls ms j.other k.other u.q_there p_there h.shown_there back) (shown_takes ls ms k.other p_there back) h.shown_there u.stuck_there

-- a joined channel that is none of its two is joined with none of them
other_apart : (ls ms : List SwitchLine) (w : World) (p x : SwitchChannel) (j k : Joined) → IsSwitch ms w → joined_at ms p ≡ Some j → same_place x j.other ≡ false → Apart p x ms
other_apart ls ms w p x j k i got ne y e = by_same (decided (same_place p y.other))
  where
    by_same : (same_place p y.other ≡ true) ⊎ (same_place p y.other ≡ false) → same_place p y.other ≡ false
    by_same (inr f) = f
    by_same (inl t) =
        let at_x = i.joined x y e in
        let same : at_x.other ≡ j = same_Some at_x.other j (sym at_x.joined ∙ (ap (λ (z : SwitchChannel). joined_at ms z) (sym (place_is p y.other t)) ∙ got)) in
        absurd (true≢false (sym (same_as x j.other (sym at_x.back ∙ ap (λ (z : Joined). z.other) same)) ∙ ne))

turned : (x p : SwitchChannel) → same_place x p ≡ false → same_place p x ≡ false
turned x p f = by_same (decided (same_place p x))
  where
    by_same : (same_place p x ≡ true) ⊎ (same_place p x ≡ false) → same_place p x ≡ false
    by_same (inr e) = e
    by_same (inl t) = absurd (true≢false (sym (same_as x p (sym (place_is p x t))) ∙ f))

same_line : (ms ks : List SwitchLine) (p : SwitchChannel) → lines_of ks ≡ lines_of ms → Before p ms ks → SameLine ms ks p
same_line ms ks p lines b = record {
  link = ap (λ (xs : List Link). slice_get xs p.line) (same_links ms ks lines);
  phase = phase_is ks p.line ∙ (ap (λ (xs : List Phase). slice_get xs p.line) b.phases ∙ sym (phase_is ms p.line));
  shown = b.shown;
}
  where
    phase_is : (xs : List SwitchLine) (n : ℕ) → phase_of (slice_get (layers_of xs) n) ≡ slice_get (phases_of xs) n
    phase_is [] n = refl
    phase_is (x ∷ xs) zero = refl
    phase_is (x ∷ xs) (suc n) = phase_is xs n

-- one channel is relayed
one_left : (ls ms : List SwitchLine) (w : World) (p : SwitchChannel) (j k : Joined) (x : SwitchChannel) → Waits ls p j k → IsSwitch ms w → IsLeft ls p j k ms → IsLeft ls p j k (relayed most_moves x ms)
one_left ls ms w p j k x u i h = by_first (decided (same_place x p)) (decided (same_place x j.other))
  where
    left_same : (y : SwitchChannel) → x ≡ y → StuckAt ms y → IsLeft ls p j k (relayed most_moves x ms)
    left_same y e s = subst (λ (ks : List SwitchLine). IsLeft ls p j k ks) (sym (ap (λ (z : SwitchChannel). relayed most_moves z ms) e ∙ stuck_stays y ms s)) h

    by_first : (same_place x p ≡ true) ⊎ (same_place x p ≡ false) → (same_place x j.other ≡ true) ⊎ (same_place x j.other ≡ false) → IsLeft ls p j k (relayed most_moves x ms)
    by_first (inl t) other = left_same p (place_is x p t) (stuck_first ls ms p j k u h)
    by_first (inr f) (inl t) = left_same j.other (place_is x j.other t) (stuck_second ls ms p j k u h)
    by_first (inr f) (inr g) =
        let ks = relayed most_moves x ms in
        let lines = from_lines (x ∷ []) ms in
        let a = relayed_before most_moves p x ms (turned x p f) (other_apart ls ms w p x j k i h.here g) in
        let b = relayed_before most_moves j.other x ms (turned x j.other g)
        (other_apart ls ms w j.other x k j i h.there (subst (λ (y : SwitchChannel). same_place x y ≡ false) (sym u.back) f)) in
        record {
          here = a.joined ∙ h.here;
          there = b.joined ∙ h.there;
          shown_here = a.shown ∙ h.shown_here;
          shown_there = b.shown ∙ h.shown_there;
          mute_here = still_mute ms ks p (same_line ms ks p lines a) h.mute_here;
          mute_there = still_mute ms ks j.other (same_line ms ks j.other lines b) h.mute_there;
        }

pub record LeftSwitch (ls : List SwitchLine) (p : SwitchChannel) (j k : Joined) (ms : List SwitchLine) : Type 0 where
  pub world : World
  pub switch : IsSwitch ms world
  pub left : IsLeft ls p j k ms

from_left : (ps : List SwitchChannel) (ls ms : List SwitchLine) (w : World) (p : SwitchChannel) (j k : Joined) → Waits ls p j k → IsSwitch ms w → IsLeft ls p j k ms → LeftSwitch ls p j k (relayed_from ps ms)
from_left [] ls ms w p j k u i h = record { world = w; switch = i; left = h }
from_left (x ∷ ps) ls ms w p j k u i h =
    let v = visited ms w x i in from_left ps ls (relayed most_moves x ms) v.world p j k u v.switch (one_left ls ms w p j k x u i h)

-- packets are offered on all lines
offers_left : (ls ms : List SwitchLine) (p : SwitchChannel) (j k : Joined) → IsLeft ls p j k ms → IsLeft ls p j k (map offers_line ms)
offers_left ls ms p j k h =
    let a = lines_kept ms p.line p.channel h.mute_here in
    let b = lines_kept ms j.other.line j.other.channel h.mute_there in
    record {
      here = joined_offered ms p.line p.channel ∙ h.here;
      there = joined_offered ms j.other.line j.other.channel ∙ h.there;
      shown_here = a.shown ∙ h.shown_here;
      shown_there = b.shown ∙ h.shown_there;
      mute_here = a.mute;
      mute_there = b.mute;
    }

pub rounds_left : (most : ℕ) (first : List ℕ) (ls ms : List SwitchLine) (w : World) (p : SwitchChannel) (j k : Joined) → Waits ls p j k → IsSwitch ms w → IsLeft ls p j k ms → IsLeft ls p j k (rounds most first ms)
rounds_left zero first ls ms w p j k u i h = (from_left (places_first first ms) ls ms w p j k u i h).left
rounds_left (suc most) first ls ms w p j k u i h = by_may (any_may ks) (λ xs v s t. rounds_left most (offering_from 0 ks) ls xs v p j k u s t)
  where
    a : LeftSwitch ls p j k (relayed_first first ms)
    a = from_left (places_first first ms) ls ms w p j k u i h

    ks : List SwitchLine
    ks = relayed_first first ms

    is : offered_from (length ms) 0 ks ≡ map offers_line ks
    is = offers_all ms ks (first_lines first ms)

    by_may : (b : Bool) → ((xs : List SwitchLine) (v : World) → IsSwitch xs v → IsLeft ls p j k xs → IsLeft ls p j k (rounds most (offering_from 0 ks) xs))
        → IsLeft ls p j k (if b then rounds most (offering_from 0 ks) (offered_from (length ms) 0 ks) else ks)
    by_may false more = a.left
    by_may true more =
        let o = offers_from (length ms) 0 ks a.world a.switch in
        more (offered_from (length ms) 0 ks) o.world o.right (subst (λ (xs : List SwitchLine). IsLeft ls p j k xs) (sym is) (offers_left ls ks p j k a.left))

-- ---- between events each channel is mute, for no link takes a packet that its layer has

channel_silent : (l : Layer) (c : ℕ) → is_some (serve (length l.channels) l (next_number l l.served_last)).packet ≡ false → Nothing_on l c
channel_silent l zero e = tt
channel_silent l (suc i) e = by_found (channel_of l (suc i)) refl
  where
    by_found : (o : Option Channel) → channel_of l (suc i) ≡ o → HasNothing (shown_as l o)
    by_found None got = tt
    by_found (Some ch) got = each_silent l i ch got e

restart_silent : (owed : List Body) (l : Layer) (c : ℕ) → is_some (next_restart owed l).packet ≡ false → Nothing_on l c
restart_silent [] l c e = channel_silent l c e
restart_silent (b ∷ bs) l c e = absurd (true≢false e)

in_silent : (phase : Phase) (relink : Bool) (l : Layer) (c : ℕ) → relink ≡ false → is_some (next_in phase relink l).packet ≡ false → (phase ≡ NoSession) ⊎ Nothing_on l c
in_silent NoSession relink l c r e = inl refl
in_silent OwnRestart true l c r e = absurd (true≢false r)
in_silent OwnRestart false l c r e = inr (restart_silent l.owed l c e)
in_silent PacketReady true l c r e = absurd (true≢false r)
in_silent PacketReady false l c r e = inr (restart_silent l.owed l c e)

end_mute : (e : PacketEnd) (c : ℕ) → HasOfferedAll e → e.layer.relink ≡ false → EndMute e c
end_mute e c all r = by (none_to_offer e all)
  where
    by : (can_offer e.line.link ≡ false) ⊎ ((next_packet e.layer).packet ≡ None) → EndMute e c
    by (inl room) = inl room
    by (inr none) = inr (in_silent e.layer.phase e.layer.relink e.layer c r (ap (λ o. is_some o) none))

none_due : (b : Bool) (o : Option ℕ) → (if b then Some 0 else raised o) ≡ None → (b ≡ false) × (o ≡ None)
none_due true o e = absurd (none-some 0 (sym e))
none_due false None e = (refl, refl)
none_due false (Some k) e = absurd (none-some (suc k) (sym e))

lines_mute : (ls : List SwitchLine) (n c : ℕ) → HaveOfferedAll ls → to_relink ls ≡ None → Mute (slice_get (links_of ls) n) (phase_of (slice_get (layers_of ls) n)) (shown_on (slice_get (layers_of ls) n) c)
lines_mute [] n c all none = inl tt
lines_mute (l ∷ ls) zero c all none = end_mute l.end c (all 0 l refl) (none_due l.end.layer.relink (to_relink ls) none).0
lines_mute (l ∷ ls) (suc n) c all none = lines_mute ls n c (λ m x e. all (suc m) x e) (none_due l.end.layer.relink (to_relink ls) none).1

pub all_mute : (ls : List SwitchLine) (p : SwitchChannel) → list_any may_offer ls ≡ false → to_relink ls ≡ None → IsMute ls p
all_mute ls p offered_ none = lines_mute ls p.line p.channel (none_may ls offered_) none
