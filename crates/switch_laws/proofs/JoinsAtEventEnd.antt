-- The end of an event makes no call and keeps all joins.
use Rattle.std.proofs.Common.{◌≡◌, ℕ, zero, suc, ◌*◌, ◌⊎◌, inl, inr, Bool, true, false, cond, if◌then◌else◌, ◌==◌, List, [], ◌∷◌, map, length, Option, Some, None, is_some, refl, sym, ap, ap₂, subst, ◌∙◌}
use Rattle.std.specs.Prelude.{slice_get}
use Rattle.std.specs.List.{list_any}
use Rattle.std.proofs.lemmas.Option.{same_Some}
use Rattle.std.proofs.lemmas.Bool.{eqb-true}
use Rattle.lapb.specs.Machine.{can_offer}
use Rattle.data_transfer.specs.declared.flow.Flow.{Flow}
use Rattle.data_transfer.specs.Packets.{Body, Packet}
use Rattle.data_transfer.specs.Traffic.{Taken, says}
use Rattle.packet_channel.specs.Channel.{ChannelState, Channel, ChannelNext, Request, had_call, has_flow, next_of, next_owed, moved as with_traffic}
use Rattle.packet_channel.specs.Channel.Request.{Taking}
use Rattle.packet_layer.specs.Layer.{Layer, Phase, Next, channel_of, with_nth, nth_channel, next_packet, next_in, next_restart, next_number, serve, serve_found, packet_of}
use Rattle.packet_layer.specs.Layer.Phase.{NoSession, OwnRestart, PacketReady}
use Rattle.packet_laws.proofs.Line.Lines.{nth_same, nth_other}
use Rattle.packet_end.specs.PacketEnd.{PacketEnd, relinked, with_next, offered, all_offered, settled}
use Rattle.address_routes.specs.Routes.{RouteMap}
use Rattle.switch_joins.specs.declared.channels.SwitchChannel.{SwitchChannel}
use Rattle.switch_joins.specs.Joins.{Joined}
use Rattle.switch_lines.specs.Lines.{SwitchLine, changed, joined_on, joined_at, ask, ask_all, front_at, sizes_at, takes_at}
use Rattle.switch_lines.specs.Relay.{carried_by, due_at, moved, moved_if, moved_front, moved_joined, relayed, relayed_from, places_first, relayed_first, most_moves}
use Rattle.switch_lines.specs.Switch.{with_end, acted, to_relink, relinked_at, all_relinked, may_offer, offering_from, offered_from, rounds, all_offered_on, lines_first, finished}
use Rattle.switch_laws.specs.Steps.Happening.{Relinks}
use Rattle.switch_laws.specs.World.{World, Shown, shown_as, shown_on, shown_at, layers_of}
use Rattle.switch_laws.specs.World.Act.{Gives}
use Rattle.switch_laws.specs.Joined.{IsSwitch}
use Rattle.switch_laws.specs.Calls.{HasCall, CallsAreJoined}
use Rattle.switch_laws.proofs.Lists.{not_equal, map_changed}
use Rattle.switch_laws.proofs.Places.{place_after, there_after}
use Rattle.switch_laws.proofs.Calling.{Keeps, keeps_same, keeps_then, keeps_asked, keeps_freed, shown_in}
use Rattle.switch_laws.proofs.Turning.{changed_at, changed_none, changed_twice, changed_same, acted_right, relinked_effect}
use Rattle.switch_laws.proofs.Joining.{acted_calls}
use Rattle.switch_joins.proofs.Apart.{decided}
use Rattle.switch_lines.proofs.Places.{get_unchanged, joined_kept}

-- ---- relays

asks_keep : (q : SwitchChannel) (rs : List Request) (ls : List SwitchLine) → Keeps ls (ask_all q rs ls)
asks_keep q [] ls = keeps_same ls
asks_keep q (r ∷ rs) ls = keeps_then ls (ask q r ls) _ (keeps_asked q r ls) (asks_keep q rs (ask q r ls))

if_keeps : (b : Bool) (t : Taken) (q : SwitchChannel) (k : Joined) (ls : List SwitchLine) → Keeps ls (moved_if b t q k ls)
if_keeps false t q k ls = keeps_same ls
if_keeps true t q k ls =
    let l1 = ask q Taking ls in
    let l2 = ask_all k.other (due_at ls q k t) l1 in
    keeps_then ls l1 _ (keeps_asked q Taking ls)
    (keeps_then l1 l2 _ (asks_keep k.other (due_at ls q k t) l1) (keeps_freed q k (carried_by (sizes_at ls q k.other) t k.kept) l2))

front_keeps : (o : Option Taken) (q : SwitchChannel) (k : Joined) (ls : List SwitchLine) → Keeps ls (moved_front o q k ls)
front_keeps None q k ls = keeps_same ls
front_keeps (Some t) q k ls = if_keeps (takes_at ls k.other (due_at ls q k t)) t q k ls

moved_keeps : (o : Option Joined) (q : SwitchChannel) (ls : List SwitchLine) → Keeps ls (moved_joined o q ls)
moved_keeps None q ls = keeps_same ls
moved_keeps (Some k) q ls = front_keeps (front_at ls q) q k ls

relayed_keeps : (most : ℕ) (q : SwitchChannel) (ls : List SwitchLine) → Keeps ls (relayed most q ls)
relayed_keeps zero q ls = keeps_same ls
relayed_keeps (suc most) q ls = keeps_then ls (moved q ls) _ (moved_keeps (joined_at ls q) q ls) (relayed_keeps most q (moved q ls))

from_keeps : (qs : List SwitchChannel) (ls : List SwitchLine) → Keeps ls (relayed_from qs ls)
from_keeps [] ls = keeps_same ls
from_keeps (q ∷ qs) ls = keeps_then ls (relayed most_moves q ls) _ (relayed_keeps most_moves q ls) (from_keeps qs (relayed most_moves q ls))

-- ---- a packet that goes to the link leaves the state of each channel

next_by : (flow : Flow) (b : Bool) (ch : Channel) → (cond {A = ChannelNext} b (record { channel = with_traffic (says flow ch.traffic).traffic ch; body = (says flow ch.traffic).body }) (record { channel = ch; body = None })).channel.state ≡ ch.state
next_by flow true ch = refl
next_by flow false ch = refl

next_state : (flow : Flow) (owed : List Body) (ch : Channel) → (next_owed flow owed ch).channel.state ≡ ch.state
next_state flow (b ∷ bs) ch = refl
next_state flow [] ch = next_by flow (has_flow ch) ch

record SameState (l : Layer) (c : ℕ) (s : Shown) : Type 0 where
  old : Shown
  there : shown_as l (channel_of l c) ≡ Some old
  state : s.channel.state ≡ old.channel.state

abbrev Leaves : Layer → ℕ → Next → Type 0
Leaves l c n = (s : Shown) → shown_as n.layer (channel_of n.layer c) ≡ Some s → SameState l c s

leaves_none : (l : Layer) (c : ℕ) (p : Option Packet) → Leaves l c (record { layer = l; packet = p })
leaves_none l c p s e = record { old = s; there = e; state = refl }

leaves_found : (l : Layer) (d c : ℕ) (o : Option Channel) (others : Next) → channel_of l d ≡ o → Leaves l c others → Leaves l c (serve_found l d o others)
leaves_found l d c None others got h = h
leaves_found l d c (Some ch) others got h = by_body (next_of l.flow ch).body
  where
    by_channel : (b : Option Body) (s : Shown) → shown_as l (nth_channel (with_nth l.channels d (next_of l.flow ch).channel) c) ≡ Some s → ((c == d) ≡ true) ⊎ ((c == d) ≡ false) → SameState l c s
    by_channel b s e (inl t) =
        let same : c ≡ d = eqb-true c d t in
        let here : nth_channel (with_nth l.channels d (next_of l.flow ch).channel) c ≡ Some (next_of l.flow ch).channel =
        ap (λ (k : ℕ). nth_channel (with_nth l.channels d (next_of l.flow ch).channel) k) same ∙ nth_same l.channels d ch (next_of l.flow ch).channel got in
        record {
          old = record { role = l.role; flow = l.flow; channel = ch };
          there = ap (λ (o : Option Channel). shown_as l o) (ap (λ (k : ℕ). channel_of l k) same ∙ got);
          state = ap (λ (x : Shown). x.channel.state) (same_Some s _ (sym e ∙ ap (λ (o : Option Channel). shown_as l o) here)) ∙ next_state l.flow ch.owed ch;
        }
    by_channel b s e (inr f) = record { old = s; there = sym (ap (λ (o : Option Channel). shown_as l o) (nth_other l.channels c d (next_of l.flow ch).channel (not_equal c d f))) ∙ e; state = refl }

    by_body : (b : Option Body) → Leaves l c (cond (is_some b) (record { layer = record l { channels = with_nth l.channels d (next_of l.flow ch).channel; served_last = d }; packet = packet_of d b }) others)
    by_body None = h
    by_body (Some b) = λ s e. by_channel (Some b) s e (decided (c == d))

leaves_served : (k : ℕ) (l : Layer) (d c : ℕ) → Leaves l c (serve k l d)
leaves_served zero l d c = leaves_none l c None
leaves_served (suc k) l d c = leaves_found l d c (channel_of l d) (serve k l (next_number l d)) refl (leaves_served k l (next_number l d) c)

leaves_restart : (owed : List Body) (l : Layer) (c : ℕ) → Leaves l c (next_restart owed l)
leaves_restart [] l c = leaves_served (length l.channels) l (next_number l l.served_last) c
leaves_restart (b ∷ bs) l c = λ s e. record { old = s; there = e; state = refl }

leaves_next : (phase : Phase) (relink : Bool) (l : Layer) (c : ℕ) → Leaves l c (next_in phase relink l)
leaves_next NoSession relink l c = leaves_none l c None
leaves_next OwnRestart true l c = leaves_none l c None
leaves_next PacketReady true l c = leaves_none l c None
leaves_next OwnRestart false l c = leaves_restart l.owed l c
leaves_next PacketReady false l c = leaves_restart l.owed l c

abbrev given : SwitchLine → SwitchLine
given = with_end (λ e. with_next e (next_packet e.layer))

given_keeps : (n : ℕ) (ls : List SwitchLine) → Keeps ls (changed n given ls)
given_keeps n ls = record {
  calls = λ x h. by_line x h (decided (x.line == n));
  joins = λ x e. ap (λ (o : Option Joined). is_some o) (joined_kept n x.line x.channel given ls (λ l. refl)) ∙ e;
  places = λ x. place_after n given ls x (λ l. refl);
  there = λ x. ap (λ (ys : List Layer). is_some (shown_at ys x)) layers ∙ there_after (Gives n) (layers_of ls) x;
}
  where
    layers : layers_of (changed n given ls) ≡ changed n (λ l. (next_packet l).layer) (layers_of ls)
    layers = map_changed (λ l. l.end.layer) given (λ l. (next_packet l).layer) n ls (λ l. refl)

    by_line : (x : SwitchChannel) → HasCall (changed n given ls) x → ((x.line == n) ≡ true) ⊎ ((x.line == n) ≡ false) → HasCall ls x
    by_line x h (inr f) = record {
      channel = h.channel;
      there = sym (ap (λ (o : Option Layer). shown_on o x.channel) (get_unchanged n x.line (λ l. (next_packet l).layer) (layers_of ls) (not_equal x.line n f))) ∙ (sym (ap (λ (ys : List Layer). shown_at ys x) layers) ∙ h.there);
      call = h.call;
    }
    by_line x h (inl t) =
        let same = eqb-true x.line n t in
        let a = shown_in (λ l. (next_packet l).layer) n x.channel (layers_of ls) h.channel
        (ap (λ (k : ℕ). shown_on (slice_get (changed n (λ l. (next_packet l).layer) (layers_of ls)) k) x.channel) (sym same) ∙ (sym (ap (λ (ys : List Layer). shown_at ys x) layers) ∙ h.there)) in
        let b = leaves_next a.0.phase a.0.relink a.0 x.channel h.channel a.1.0 in
        record {
          channel = b.old;
          there = ap (λ (o : Option Layer). shown_on o x.channel) (ap (λ (k : ℕ). slice_get (layers_of ls) k) same ∙ a.1.1) ∙ b.there;
          call = ap (λ (s : ChannelState). had_call s) (sym b.state) ∙ h.call;
        }

-- ---- offers

same_keeps : (ls ms : List SwitchLine) → ms ≡ ls → Keeps ls ms
same_keeps ls ms e = subst (λ (xs : List SwitchLine). Keeps ls xs) (sym e) (keeps_same ls)

offer_keeps : (most n : ℕ) (line : SwitchLine) (ls : List SwitchLine) (a b : Bool) → slice_get ls n ≡ Some line → can_offer line.end.line.link ≡ a → is_some (next_packet line.end.layer).packet ≡ b
    → ((ms : List SwitchLine) → Keeps ms (changed n (with_end (λ e. offered most e)) ms)) → Keeps ls (changed n (with_end (λ e. offered (suc most) e)) ls)
offer_keeps most n line ls false b got may has more =
    same_keeps ls _ (changed_at n _ (λ x. line) ls line got (ap (λ (x : Bool). record line { end = cond x (cond (is_some (next_packet line.end.layer).packet) (offered most (with_next line.end (next_packet line.end.layer))) line.end) line.end }) may) ∙ changed_same n ls line got)
offer_keeps most n line ls true false got may has more =
    same_keeps ls _ (changed_at n _ (λ x. line) ls line got
    (ap (λ (x : Bool). record line { end = cond x (cond (is_some (next_packet line.end.layer).packet) (offered most (with_next line.end (next_packet line.end.layer))) line.end) line.end }) may
    ∙ ap (λ (x : Bool). record line { end = cond x (offered most (with_next line.end (next_packet line.end.layer))) line.end }) has) ∙ changed_same n ls line got)
offer_keeps most n line ls true true got may has more =
    let is : changed n (with_end (λ e. offered (suc most) e)) ls ≡ changed n (with_end (λ e. offered most e)) (changed n given ls) =
    changed_at n (with_end (λ e. offered (suc most) e)) (λ x. with_end (λ e. offered most e) (given x)) ls line got
    (ap (λ (x : Bool). record line { end = cond x (cond (is_some (next_packet line.end.layer).packet) (offered most (with_next line.end (next_packet line.end.layer))) line.end) line.end }) may
    ∙ ap (λ (x : Bool). record line { end = cond x (offered most (with_next line.end (next_packet line.end.layer))) line.end }) has)
    ∙ sym (changed_twice n (with_end (λ e. offered most e)) given ls) in
    subst (λ (ms : List SwitchLine). Keeps ls ms) (sym is) (keeps_then ls (changed n given ls) _ (given_keeps n ls) (more (changed n given ls)))

offers_by : (most n : ℕ) (o : Option SwitchLine) (ls : List SwitchLine) → slice_get ls n ≡ o → ((ms : List SwitchLine) → Keeps ms (changed n (with_end (λ e. offered most e)) ms)) → Keeps ls (changed n (with_end (λ e. offered (suc most) e)) ls)
offers_by most n None ls e more = same_keeps ls _ (changed_none n _ ls e)
offers_by most n (Some line) ls e more = offer_keeps most n line ls (can_offer line.end.line.link) (is_some (next_packet line.end.layer).packet) e refl refl more

changed_itself : (n : ℕ) (ls : List SwitchLine) → changed n (with_end (λ e. e)) ls ≡ ls
changed_itself n [] = refl
changed_itself zero (l ∷ ls) = refl
changed_itself (suc n) (l ∷ ls) = ap (λ (ms : List SwitchLine). l ∷ ms) (changed_itself n ls)

offers_keep : (most n : ℕ) (ls : List SwitchLine) → Keeps ls (changed n (with_end (λ e. offered most e)) ls)
offers_keep zero n ls = same_keeps ls _ (changed_itself n ls)
offers_keep (suc most) n ls = offers_by most n (slice_get ls n) ls refl (λ ms. offers_keep most n ms)

all_keeps : (n : ℕ) (ls : List SwitchLine) → Keeps ls (changed n (with_end all_offered) ls)
unfolding all_offered
all_keeps n ls = offers_keep 7 n ls

offered_keeps : (count n : ℕ) (ls : List SwitchLine) → Keeps ls (offered_from count n ls)
offered_keeps zero n ls = keeps_same ls
offered_keeps (suc count) n ls = keeps_then ls (changed n (with_end all_offered) ls) _ (all_keeps n ls) (offered_keeps count (suc n) (changed n (with_end all_offered) ls))

-- ---- rounds

rounds_by : (b : Bool) (most : ℕ) (first next : List ℕ) (ls : List SwitchLine) → ((ms : List SwitchLine) → Keeps ms (rounds most next ms))
    → Keeps ls (if b then rounds most next (offered_from (length ls) 0 (relayed_first first ls)) else relayed_first first ls)
rounds_by true most first next ls more =
    let ms = relayed_first first ls in
    let xs = offered_from (length ls) 0 ms in
    keeps_then ls ms _ (from_keeps (places_first first ls) ls) (keeps_then ms xs _ (offered_keeps (length ls) 0 ms) (more xs))
rounds_by false most first next ls more = from_keeps (places_first first ls) ls

rounds_keep : (most : ℕ) (first : List ℕ) (ls : List SwitchLine) → Keeps ls (rounds most first ls)
rounds_keep zero first ls = from_keeps (places_first first ls) ls
rounds_keep (suc most) first ls =
    let next = offering_from 0 (relayed_first first ls) in
    rounds_by (list_any may_offer (relayed_first first ls)) most first next ls (λ ms. rounds_keep most next ms)

pub keeps_calls : (ls ms : List SwitchLine) → Keeps ls ms → CallsAreJoined ls → CallsAreJoined ms
keeps_calls ls ms k all x h = k.joins x (all x (k.calls x h))

-- ---- ends that change nothing of it

pub layers_on_ends : (f : PacketEnd → PacketEnd) (ls : List SwitchLine) → ((e : PacketEnd) → (f e).layer ≡ e.layer) → layers_of (map (with_end f) ls) ≡ layers_of ls
layers_on_ends f [] same = refl
layers_on_ends f (l ∷ ls) same = ap₂ (λ (y : Layer) (ys : List Layer). y ∷ ys) (same l.end) (layers_on_ends f ls same)

pub joined_on_ends : (f : PacketEnd → PacketEnd) (ls : List SwitchLine) (n c : ℕ) → joined_on (slice_get (map (with_end f) ls) n) c ≡ joined_on (slice_get ls n) c
joined_on_ends f [] n c = refl
joined_on_ends f (l ∷ ls) zero c = refl
joined_on_ends f (l ∷ ls) (suc n) c = joined_on_ends f ls n c

pub ends_keep : (f : PacketEnd → PacketEnd) (ls : List SwitchLine) → ((e : PacketEnd) → (f e).layer ≡ e.layer) → CallsAreJoined ls → CallsAreJoined (map (with_end f) ls)
ends_keep f ls same all x h =
    ap (λ (o : Option Joined). is_some o) (joined_on_ends f ls x.line x.channel) ∙ all x (record { channel = h.channel; there = sym (ap (λ (ys : List Layer). shown_at ys x) (layers_on_ends f ls same)) ∙ h.there; call = h.call })

-- ---- links that are set up anew

relinks_calls : (most : ℕ) (routes : RouteMap) (ls : List SwitchLine) (w : World) → IsSwitch ls w → CallsAreJoined ls → CallsAreJoined (all_relinked most routes ls)
relinks_calls zero routes ls w i all = all
relinks_calls (suc most) routes ls w i all = by_line (to_relink ls) (λ ms v k c. relinks_calls most routes ms v k c)
  where
    by_line : (o : Option ℕ) → ((ms : List SwitchLine) (v : World) → IsSwitch ms v → CallsAreJoined ms → CallsAreJoined (all_relinked most routes ms)) → CallsAreJoined (all_relinked most routes (relinked_at o routes ls))
    by_line None more = more ls w i all
    by_line (Some n) more =
        let b = acted_right routes n Relinks ls w i (λ line g. relinked_effect n line.end) in
        more (acted routes n relinked ls) b.world b.right (acted_calls routes n Relinks ls w i (λ line g. relinked_effect n line.end) all)

pub finished_calls : (routes : RouteMap) (n : ℕ) (ls : List SwitchLine) (w : World) → IsSwitch ls w → CallsAreJoined ls → CallsAreJoined (finished routes n ls)
finished_calls routes n ls w i all =
    let rs = all_relinked (length ls) routes ls in
    let first = lines_first n routes ls in
    ends_keep settled (all_offered_on first rs) (λ e. refl) (keeps_calls rs (all_offered_on first rs) (rounds_keep (7 * length rs) first rs) (relinks_calls (length ls) routes ls w i all))
