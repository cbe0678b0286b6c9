-- The causes in their order, and the two legs of a join.
use Rattle.std.proofs.Common.{◌≡◌, ℕ, ◌⊎◌, inl, inr, Bool, true, false, if◌then◌else◌, ◌&&◌, ◌==◌, List, Option, Some, None, is_some, refl, sym, ap, ◌∙◌, true≢false}
use Rattle.std.specs.Prelude.{slice_get, is_none, unwrap_or}
use Rattle.std.proofs.lemmas.Bool.{eqb-true, eq-eqb}
use Rattle.link_timers.specs.declared.role.Role.{Role}
use Rattle.packet_codec.specs.ClearCause.{invalid_facility, not_obtainable, out_of_order}
use Rattle.data_transfer.specs.Packets.{CallParts}
use Rattle.packet_channel.specs.Channel.{ChannelState, had_call, may_accept, waits_for_call}
use Rattle.packet_channel.specs.Channel.ChannelState.{Ready, OwnWaiting, FarWaiting, Transfer, Collision, OwnClear}
use Rattle.packet_layer.specs.Layer.{Layer, Phase, free_channel, channel_given}
use Rattle.packet_layer.specs.Layer.Phase.{NoSession, OwnRestart, PacketReady}
use Rattle.packet_end.specs.PacketEnd.{received, after_timer}
use Rattle.address_routes.specs.Routes.{RouteMap, line_for}
use Rattle.switch_joins.specs.declared.channels.SwitchChannel.{SwitchChannel}
use Rattle.switch_joins.specs.Joins.{Joined}
use Rattle.switch_lines.specs.Lines.{SwitchLine, joined_at, is_trunk}
use Rattle.switch_lines.specs.Switch.{answer, answer_by, answer_on, answer_free, has_any, route_from, address_of}
use Rattle.switch_lines.specs.Switch.Answer.{Clears}
use Rattle.switch_laws.specs.Leg.{Leg}
use Rattle.switch_laws.specs.World.{World, Shown, shown_at, layers_of}
use Rattle.switch_laws.specs.Joined.{IsSwitch, IsPair, WaitsFor}
use Rattle.switch_laws.specs.Joined.IsPair.{connected, waiting}
use Rattle.switch_laws.specs.Calls.{CallsAreJoined, HasCall}
use Rattle.switch_laws.specs.Pairs.{HasPartner, LeadsOn, PairLaw}
use Rattle.switch_laws.proofs.Newness.{event_joins, relink_joins}
use Rattle.switch_joins.proofs.Apart.{decided}

-- ---- causes

by_facility : (routes : RouteMap) (ls : List SwitchLine) (m : ℕ) (parts : CallParts) (b : Bool) → has_any parts.facilities ≡ b
    → answer routes ls m parts ≡ (if b then Clears invalid_facility else answer_by ls (route_from m ls (line_for routes parts.called)))
by_facility routes ls m parts b e = ap (λ (x : Bool). if x then Clears invalid_facility else answer_by ls (route_from m ls (line_for routes parts.called))) e

routed : (routes : RouteMap) (ls : List SwitchLine) (m : ℕ) (parts : CallParts) (o : Option ℕ) → has_any parts.facilities ≡ false → line_for routes parts.called ≡ o
    → answer routes ls m parts ≡ answer_by ls (route_from m ls o)
routed routes ls m parts o e r = by_facility routes ls m parts false e ∙ ap (λ (x : Option ℕ). answer_by ls (route_from m ls x)) r

-- whether the route leads back over a trunk
leads_back : (m n : ℕ) (ls : List SwitchLine) (b : Bool) → ((n == m) && is_trunk (slice_get ls m)) ≡ b → answer_by ls (route_from m ls (Some n)) ≡ (if b then Clears not_obtainable else answer_on n (slice_get ls n))
leads_back m n ls b e = ap (λ (x : Bool). answer_by ls (if x then None else Some n)) e ∙ by b
  where
    by : (x : Bool) → answer_by ls (if x then None else Some n) ≡ (if x then Clears not_obtainable else answer_on n (slice_get ls n))
    by true = refl
    by false = refl

is_onward : (m n : ℕ) (ls : List SwitchLine) → LeadsOn m n ls → ((n == m) && is_trunk (slice_get ls m)) ≡ false
is_onward m n ls on = by (decided (n == m))
  where
    by : ((n == m) ≡ true) ⊎ ((n == m) ≡ false) → ((n == m) && is_trunk (slice_get ls m)) ≡ false
    by (inl t) =
        let same = eqb-true n m t in
        ap (λ (b : Bool). b && is_trunk (slice_get ls m)) t ∙ (ap (λ (x : ℕ). is_trunk (slice_get ls x)) (sym same) ∙ on (sym same))
    by (inr f) = ap (λ (b : Bool). b && is_trunk (slice_get ls m)) f

to_line : (routes : RouteMap) (ls : List SwitchLine) (m : ℕ) (parts : CallParts) (n : ℕ) (o : Option SwitchLine) → has_any parts.facilities ≡ false → line_for routes parts.called ≡ Some n
    → LeadsOn m n ls → slice_get ls n ≡ o → answer routes ls m parts ≡ answer_on n o
to_line routes ls m parts n o e r on got =
    routed routes ls m parts (Some n) e r ∙ (leads_back m n ls false (is_onward m n ls on) ∙ ap (λ (x : Option SwitchLine). answer_on n x) got)

not_there : (ls : List SwitchLine) (n : ℕ) → slice_get ls n ≡ None → is_trunk (slice_get ls n) ≡ false
not_there ls n e = ap (λ (o : Option SwitchLine). is_trunk o) e

back_is : (m : ℕ) (ls : List SwitchLine) → is_trunk (slice_get ls m) ≡ true → ((m == m) && is_trunk (slice_get ls m)) ≡ true
back_is m ls t = ap (λ (b : Bool). b && is_trunk (slice_get ls m)) (eq-eqb m m refl) ∙ t

-- the calling address with which a call goes on
kept_calling : (o : Option SwitchLine) (given : List ℕ) → is_trunk o ≡ true → unwrap_or (address_of o) given ≡ given
kept_calling None given e = refl
kept_calling (Some l) given e = by l.address e
  where
    by : (a : Option (List ℕ)) → is_none a ≡ true → unwrap_or a given ≡ given
    by None f = refl
    by (Some address) f = absurd (true≢false (sym f))

unready : (n : ℕ) (l : Layer) (phase : Phase) → (phase ≡ PacketReady → ⊥) → answer_free n phase (channel_given l phase) ≡ Clears out_of_order
unready n l NoSession e = refl
unready n l OwnRestart e = refl
unready n l PacketReady e = absurd (e refl)

ready : (n : ℕ) (l : Layer) (phase : Phase) (o : Option ℕ) → phase ≡ PacketReady → free_channel l.role l.channels ≡ o
    → answer_free n phase (channel_given l phase) ≡ answer_free n PacketReady o
ready n l phase o e f =
    ap (λ (x : Phase). answer_free n x (channel_given l x)) e ∙ ap (λ (x : Option ℕ). answer_free n PacketReady x) f

-- ---- calls

accepts_call : (role : Role) (s : ChannelState) → may_accept role s ≡ true → had_call s ≡ true
accepts_call role Ready e = absurd (true≢false (sym e))
accepts_call role OwnWaiting e = refl
accepts_call role FarWaiting e = refl
accepts_call role Transfer e = refl
accepts_call role Collision e = refl
accepts_call role OwnClear e = absurd (true≢false (sym e))

waits_call : (role : Role) (s : ChannelState) → waits_for_call role s ≡ true → had_call s ≡ true
waits_call role Ready e = absurd (true≢false (sym e))
waits_call role OwnWaiting e = refl
waits_call role FarWaiting e = refl
waits_call role Transfer e = refl
waits_call role Collision e = refl
waits_call role OwnClear e = absurd (true≢false (sym e))

waiting_call : (came_in : Bool) (g h : Leg) → WaitsFor came_in g h → had_call g.channel.state ≡ true
waiting_call true g h i = accepts_call g.role g.channel.state i.can_accept
waiting_call false g h i = waits_call g.role g.channel.state i.waits

pair_call : (g h : Leg) (j k : Joined) → IsPair g h j k → had_call g.channel.state ≡ true
pair_call g h j k (connected i) = ap (λ (s : ChannelState). had_call s) i.there.holds.near_call
pair_call g h j k (waiting a b i) = waiting_call j.came_in g h i

paired : (g h : Leg) (j k : Joined) (p q : SwitchChannel) → IsPair g h j k ⊎ (⊥ ⊎ ⊥) → IsPair g h j k
paired g h j k p q (inl i) = i
paired g h j k p q (inr (inl never)) = absurd never
paired g h j k p q (inr (inr never)) = absurd never

shown_there : (o : Option Shown) → is_some o ≡ true → (s : Shown) × (o ≡ Some s)
shown_there None e = absurd (true≢false (sym e))
shown_there (Some s) e = (s, refl)

has_call : (ls : List SwitchLine) (w : World) (p : SwitchChannel) (j : Joined) → IsSwitch ls w → joined_at ls p ≡ Some j → HasCall ls p
has_call ls w p j i e =
    let k = i.joined p j e in
    let s = shown_there (shown_at (layers_of ls) p) k.there in
    record {
      channel = s.0;
      there = s.1;
      call = ap (λ (x : Shown). had_call x.channel.state) (i.world p s.0 s.1).shown ∙ pair_call (w p) (w j.other) j k.other (paired (w p) (w j.other) j k.other p j.other k.pair);
    }

have_calls : (ls : List SwitchLine) (w : World) (p : SwitchChannel) (j : Joined) → IsSwitch ls w → joined_at ls p ≡ Some j → HasCall ls p × HasCall ls j.other
have_calls ls w p j i e = let k = i.joined p j e in (has_call ls w p j i e, has_call ls w j.other k.other i k.joined)

joined_there : (o : Option Joined) → is_some o ≡ true → (j : Joined) × (o ≡ Some j)
joined_there None e = absurd (true≢false (sym e))
joined_there (Some j) e = (j, refl)

have_partners : (ls : List SwitchLine) (w : World) (p : SwitchChannel) → IsSwitch ls w → CallsAreJoined ls → HasCall ls p → HasPartner ls p
have_partners ls w p i all h =
    let j = joined_there (joined_at ls p) (all p h) in
    let k = i.joined p j.0 j.1 in
    record { join = j.0; joined = j.1; other = k.other; back = k.joined; to_p = k.back; call = has_call ls w j.0.other k.other i k.joined }

pub pairs_hold : PairLaw
pairs_hold = record {
  facility = λ routes ls m parts e. by_facility routes ls m parts true e;
  no_route = λ routes ls m parts e r. routed routes ls m parts None e r;
  no_line = λ routes ls m parts n e r got. to_line routes ls m parts n None e r (λ same. not_there ls n got) got;
  back = λ routes ls m parts e r trunk. routed routes ls m parts (Some m) e r ∙ leads_back m m ls true (back_is m ls trunk);
  not_ready = λ routes ls m parts n l e r on got no. to_line routes ls m parts n (Some l) e r on got ∙ unready n l.end.layer l.end.layer.phase no;
  no_channel = λ routes ls m parts n l e r on got is none. to_line routes ls m parts n (Some l) e r on got ∙ ready n l.end.layer l.end.layer.phase None is none;
  goes_on = λ routes ls m parts n l c e r on got is free. to_line routes ls m parts n (Some l) e r on got ∙ ready n l.end.layer l.end.layer.phase (Some c) is free;
  keeps_calling = λ ls m parts trunk. kept_calling (slice_get ls m) parts.calling trunk;
  gives_calling = λ ls m parts l address got e. ap (λ (o : Option SwitchLine). unwrap_or (address_of o) parts.calling) got ∙ ap (λ (a : Option (List ℕ)). unwrap_or a parts.calling) e;
  frame_joins = λ n octets s. event_joins n (λ e. received e octets) s;
  timer_joins = λ n id s. event_joins n (λ e. after_timer e id) s;
  relink_joins_none = relink_joins;
  have_calls = have_calls;
  have_partners = have_partners;
}
