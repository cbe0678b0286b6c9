-- The end of an event, and whole events.
use Rattle.std.proofs.Common.{true≢false, ◌≡◌, ℕ, zero, suc, ◌*◌, ◌⊎◌, inl, inr, Bool, true, false, cond, if◌then◌else◌, ◌==◌, List, [], ◌∷◌, ◌++◌, map, length, append-nil, Option, Some, None, is_some, refl, sym, ap, subst, ◌∙◌, option_map}
use Rattle.std.specs.Prelude.{slice_get}
use Rattle.std.specs.List.{list_any}
use Rattle.std.proofs.lemmas.Option.{none-some, same_Some}
use Rattle.lapb.specs.Machine.{can_offer}
use Rattle.data_transfer.specs.Packets.{Packet}
use Rattle.packet_channel.specs.Channel.{Channel, ChannelState, had_call, Request, may_accept, waits_for_call}
use Rattle.packet_layer.specs.Layer.{Layer, next_packet, channel_of, unread, link_down}
use Rattle.packet_end.specs.PacketEnd.{PacketEnd, begun, relinked, with_next, offered, all_offered, settled, elapsed}
use Rattle.address_routes.specs.Routes.{RouteMap}
use Rattle.switch_joins.specs.declared.channels.SwitchChannel.{SwitchChannel}
use Rattle.switch_joins.specs.Joins.{Joined}
use Rattle.switch_joins.specs.Turning.{Sizes}
use Rattle.switch_lines.specs.Lines.{SwitchLine, changed, flat, nth_joined, joined_on, front_of_line, size_of_line, takes_on_line, takes_at}
use Rattle.switch_lines.specs.Relay.{requests_for, due_at, relayed_first}
use Rattle.switch_lines.specs.Switch.{Switch, with_end, acted, to_relink, relinked_at, all_relinked, relinks_of}
use Rattle.switch_lines.specs.Switch.{all_offered_on, may_offer, offering_from, offered_from, lines_first, rounds}
use Rattle.switch_lines.specs.Switch.{finished, all_begun, restart, without_joins}
use Rattle.switch_laws.specs.Leg.{Leg, gave}
use Rattle.switch_laws.specs.Join.{Join, gives}
use Rattle.switch_laws.specs.World.{World, Shown, Agrees, IsCallLeg, closed, shown_as, shown_on, shown_at, layers_of, world_after, gave_if}
use Rattle.switch_laws.specs.World.{Act}
use Rattle.switch_laws.specs.World.Act.{Gives, GoesDown}
use Rattle.switch_laws.specs.Steps.{Step, Happening, does, offer_acts, on_line, acts_of, acts_of_all}
use Rattle.switch_laws.specs.Steps.Happening.{Brings, RunsOut, Relinks}
use Rattle.switch_laws.specs.Steps.Step.{Settles}
use Rattle.switch_laws.specs.EventSteps.{relayed_first_steps, acted_steps, relinked_steps, all_relinked_steps, offered_steps, rounds_steps, finished_steps, event_acts}
use Rattle.switch_laws.specs.Joined.{WaitsFor, IsPair, IsSwitch, Reached, Becomes, HasRelayedAll, has_nth, has_place_on}
use Rattle.switch_laws.specs.Joined.IsPair.{connected, waiting}
use Rattle.switch_laws.specs.RelayLaws.{TurnLaw}
use Rattle.switch_laws.proofs.Layers.{all_close}
use Rattle.switch_lines.specs.Lines.{joined_at}
use Rattle.switch_laws.specs.Stays.{IsNone, OthersStay, relinked_in}
use Rattle.switch_laws.proofs.JoinsOfOtherLines.{acted_stays, stay_rounds}
use Rattle.switch_laws.specs.Calls.{CallsAreJoined, HasCall}
use Rattle.switch_laws.proofs.Joining.{acted_calls}
use Rattle.switch_laws.proofs.JoinsAtEventEnd.{layers_on_ends, joined_on_ends, ends_keep, finished_calls}
use Rattle.switch_laws.proofs.Offered.{event_offered}
use Rattle.switch_laws.proofs.Legs.{leg_gave}
use Rattle.switch_laws.proofs.Joins.{gives_right, turned_join}
use Rattle.switch_laws.proofs.Places.{place_after, some_there, line_there, shown_there}
use Rattle.switch_laws.proofs.Frame.{reached_there, reached_world}
use Rattle.switch_laws.proofs.Relaying.{relayed_first_right, relayed_first_stuck}
use Rattle.switch_laws.proofs.Leading.{acts_lead, relayed_first_leads, offered_leads, rounds_leads, relinked_leads, all_relinked_leads, acted_leads}
use Rattle.switch_laws.proofs.JoinsAfterNotes.{becomes_same, becomes_then, becomes_by}
use Rattle.switch_laws.proofs.Effects.{steady, leg_on_line, leg_elsewhere}
use Rattle.switch_laws.proofs.Turning.{changed_at, changed_none, changed_twice, changed_same, got_changed, layer_got, layers_changed, acted_right, relinked_effect, does_effect}
use Rattle.switch_joins.proofs.Apart.{decided}
use Rattle.switch_lines.proofs.Places.{joined_kept, sizes_same}

-- ---- a packet goes to a link

waits_gave : (b : Bool) (g h : Leg) → IsCallLeg g → WaitsFor b g h → WaitsFor b (gave g) h
waits_gave true g h i w = record { can_accept = ap (λ (s : ChannelState). may_accept g.role s) (leg_gave g i.leg).state ∙ w.can_accept; waits = w.waits }
waits_gave false g h i w = record { can_accept = w.can_accept; waits = ap (λ (s : ChannelState). waits_for_call g.role s) (leg_gave g i.leg).state ∙ w.waits }

waits_gave_other : (b : Bool) (g h : Leg) → IsCallLeg h → WaitsFor b g h → WaitsFor b g (gave h)
waits_gave_other true g h i w = record { can_accept = w.can_accept; waits = ap (λ (s : ChannelState). waits_for_call h.role s) (leg_gave h i.leg).state ∙ w.waits }
waits_gave_other false g h i w = record { can_accept = ap (λ (s : ChannelState). may_accept h.role s) (leg_gave h i.leg).state ∙ w.can_accept; waits = w.waits }

pair_gave : (g h : Leg) (j k : Joined) → IsCallLeg g → IsPair g h j k → IsPair (gave g) h j k
pair_gave g h j k i (connected c) =
    let at_b : Join = record { a = h; b = g; there = k.kept; back = j.kept } in
    connected (turned_join (gives at_b) (gives_right at_b (turned_join _ c)))
pair_gave g h j k i (waiting a b w) = waiting a b (waits_gave j.came_in g h i w)

pair_gave_other : (g h : Leg) (j k : Joined) → IsCallLeg h → IsPair g h j k → IsPair g (gave h) j k
pair_gave_other g h j k i (connected c) = connected (gives_right _ c)
pair_gave_other g h j k i (waiting a b w) = waiting a b (waits_gave_other j.came_in g h i w)

-- a leg that may have given something
data Gave (g : Leg) (h : Leg) : Type 0 where
  nothing_ : h ≡ g → Gave g h
  something : h ≡ gave g → Gave g h

gave_if_is : (o : Option Packet) (c : ℕ) (g : Leg) → Gave g (gave_if o c g)
gave_if_is None c g = nothing_ refl
gave_if_is (Some p) c g = by_channel (c == p.channel)
  where
    by_channel : (b : Bool) → Gave g (if b then gave g else g)
    by_channel true = something refl
    by_channel false = nothing_ refl

pair_given : (g g' h : Leg) (j k : Joined) → IsCallLeg g → Gave g g' → IsPair g h j k → IsPair g' h j k
pair_given g g' h j k i (nothing_ e) p = subst (λ (x : Leg). IsPair x h j k) (sym e) p
pair_given g g' h j k i (something e) p = subst (λ (x : Leg). IsPair x h j k) (sym e) (pair_gave g h j k i p)

pair_given_other : (g h h' : Leg) (j k : Joined) → IsCallLeg h → Gave h h' → IsPair g h j k → IsPair g h' j k
pair_given_other g h h' j k i (nothing_ e) p = subst (λ (x : Leg). IsPair g x j k) (sym e) p
pair_given_other g h h' j k i (something e) p = subst (λ (x : Leg). IsPair g x j k) (sym e) (pair_gave_other g h j k i p)

abbrev given : SwitchLine → SwitchLine
given = with_end (λ e. with_next e (next_packet e.layer))

gives_line : (n : ℕ) (line : SwitchLine) (ls : List SwitchLine) (w : World) → slice_get ls n ≡ Some line → IsSwitch ls w → Becomes (Gives n ∷ []) ls w (changed n given ls)
gives_line n line ls w got i = record {
  world = v;
  reached = reached;
  right = record {
    world = reached_world ls ms w v reached i.world;
    places = λ x e. place_after n given ls x (λ l. refl) ∙ i.places x (sym (reached_there ls ms w v reached x) ∙ e);
    joined = λ x j e.
        let k = i.joined x j (sym (joined_kept n x.line x.channel given ls (λ l. refl)) ∙ e) in
        record {
          there = reached_there ls ms w v reached x ∙ k.there;
          apart = k.apart;
          other = k.other;
          joined = joined_kept n j.other.line j.other.channel given ls (λ l. refl) ∙ k.joined;
          back = k.back;
          one_came_in = k.one_came_in;
          pair = elim k.pair [
            | inl h ↦ inl (pair_given_other (v x) (w j.other) (v j.other) j k.other (good j.other (i.joined j.other k.other k.joined).there) (gave_at j.other) (pair_given (w x) (v x) (w j.other) j k.other (good x k.there) (gave_at x) h))
            | inr h ↦ inr h
          ];
        };
  };
}
  where
    ms : List SwitchLine
    ms = changed n given ls

    v : World
    v = world_after (Gives n) (layers_of ls) w

    reached : Reached (Gives n ∷ []) ls w ms v
    reached = record {
      may = (tt, tt);
      layers = layers_changed n given ls line got ∙ sym (changed_at n (λ l. (next_packet l).layer) (λ y. (next_packet line.end.layer).layer) (layers_of ls) line.end.layer (layer_got n ls line got) refl);
      legs = refl;
    }

    good : (x : SwitchChannel) → is_some (shown_at (layers_of ls) x) ≡ true → IsCallLeg (w x)
    good x e = let s = some_there (shown_at (layers_of ls) x) e in (i.world x s.0 s.1).leg

    gave_at : (x : SwitchChannel) → Gave (w x) (v x)
    gave_at x = by_line (decided (x.line == n))
      where
        by_line : ((x.line == n) ≡ true) ⊎ ((x.line == n) ≡ false) → Gave (w x) (v x)
        by_line (inl t) =
            subst (λ (g : Leg). Gave (w x) g) (sym (leg_on_line (Gives n) (layers_of ls) w x (Some line.end.layer) t (layer_got n ls line got))) (gave_if_is (next_packet line.end.layer).packet x.channel (w x))
        by_line (inr f) = nothing_ (leg_elsewhere (Gives n) (layers_of ls) w x f)

-- ---- packets are offered

-- what may be offered by a link that takes one, and by a layer that has one
abbrev offer_if : Bool → Bool → (most line : ℕ) → PacketEnd → List Act
offer_if a b most n e = if a then (if b then Gives n ∷ offer_acts most n (with_next e (next_packet e.layer)) else []) else []

abbrev Offered : ℕ → ℕ → List SwitchLine → World → Type 0
Offered most n ls w = Becomes (on_line (λ e. offer_acts most n e) (slice_get ls n)) ls w (changed n (with_end (λ e. offered most e)) ls)

-- none is offered
keeps_line : (n : ℕ) (f : SwitchLine → SwitchLine) (line : SwitchLine) (ls : List SwitchLine) → slice_get ls n ≡ Some line → f line ≡ line → changed n f ls ≡ ls
keeps_line n f line ls got e = changed_at n f (λ x. line) ls line got e ∙ changed_same n ls line got

offers_at : (most n : ℕ) (line : SwitchLine) (ls : List SwitchLine) (w : World) (a b : Bool) → slice_get ls n ≡ Some line → can_offer line.end.line.link ≡ a
    → is_some (next_packet line.end.layer).packet ≡ b → ((ms : List SwitchLine) (v : World) → IsSwitch ms v → Offered most n ms v) → IsSwitch ls w
    → Becomes (offer_if a b most n line.end) ls w (changed n (with_end (λ e. offered (suc most) e)) ls)
offers_at most n line ls w false b got may has more i =
    becomes_same ls _ w (keeps_line n _ line ls got (ap (λ (x : Bool). record line { end = cond x (cond (is_some (next_packet line.end.layer).packet) (offered most (with_next line.end (next_packet line.end.layer))) line.end) line.end }) may)) i
offers_at most n line ls w true false got may has more i =
    becomes_same ls _ w (keeps_line n _ line ls got
    (ap (λ (x : Bool). record line { end = cond x (cond (is_some (next_packet line.end.layer).packet) (offered most (with_next line.end (next_packet line.end.layer))) line.end) line.end }) may
    ∙ ap (λ (x : Bool). record line { end = cond x (offered most (with_next line.end (next_packet line.end.layer))) line.end }) has)) i
offers_at most n line ls w true true got may has more i =
    let first = gives_line n line ls w got i in
    let then_ = more (changed n given ls) first.world first.right in
    let is : changed n (with_end (λ e. offered (suc most) e)) ls ≡ changed n (with_end (λ e. offered most e)) (changed n given ls) =
    changed_at n (with_end (λ e. offered (suc most) e)) (λ x. with_end (λ e. offered most e) (given x)) ls line got
    (ap (λ (x : Bool). record line { end = cond x (cond (is_some (next_packet line.end.layer).packet) (offered most (with_next line.end (next_packet line.end.layer))) line.end) line.end }) may
    ∙ ap (λ (x : Bool). record line { end = cond x (offered most (with_next line.end (next_packet line.end.layer))) line.end }) has)
    ∙ sym (changed_twice n (with_end (λ e. offered most e)) given ls) in
    let next : PacketEnd = with_next line.end (next_packet line.end.layer) in
    let then_acts : Becomes (offer_acts most n next) (changed n given ls) first.world (changed n (with_end (λ e. offered most e)) (changed n given ls)) =
    subst (λ (o : Option SwitchLine). Becomes (on_line (λ e. offer_acts most n e) o) (changed n given ls) first.world (changed n (with_end (λ e. offered most e)) (changed n given ls))) (got_changed n given ls line got) then_ in
    subst (λ (ms : List SwitchLine). Becomes (Gives n ∷ offer_acts most n next) ls w ms) (sym is) (becomes_then ls (changed n given ls) _ w first.world first.reached then_acts)

offers_by : (most n : ℕ) (o : Option SwitchLine) (ls : List SwitchLine) (w : World) → slice_get ls n ≡ o → ((ms : List SwitchLine) (v : World) → IsSwitch ms v → Offered most n ms v)
    → IsSwitch ls w → Becomes (on_line (λ e. offer_acts (suc most) n e) o) ls w (changed n (with_end (λ e. offered (suc most) e)) ls)
offers_by most n None ls w e more i = becomes_same ls _ w (changed_none n _ ls e) i
offers_by most n (Some line) ls w e more i = offers_at most n line ls w (can_offer line.end.line.link) (is_some (next_packet line.end.layer).packet) e refl refl more i

changed_itself : (n : ℕ) (ls : List SwitchLine) → changed n (with_end (λ e. e)) ls ≡ ls
changed_itself n [] = refl
changed_itself zero (l ∷ ls) = refl
changed_itself (suc n) (l ∷ ls) = ap (λ (ms : List SwitchLine). l ∷ ms) (changed_itself n ls)

no_acts : (n : ℕ) (o : Option SwitchLine) → on_line (λ e. offer_acts 0 n e) o ≡ []
no_acts n None = refl
no_acts n (Some l) = refl

offers : (most n : ℕ) (ls : List SwitchLine) (w : World) → IsSwitch ls w → Offered most n ls w
offers zero n ls w i =
    subst (λ (acts : List Act). Becomes acts ls w (changed n (with_end (λ e. offered 0 e)) ls)) (sym (no_acts n (slice_get ls n))) (becomes_same ls _ w (changed_itself n ls) i)
offers (suc most) n ls w i = offers_by most n (slice_get ls n) ls w refl (λ ms v h. offers most n ms v h) i

all_offers : (n : ℕ) (ls : List SwitchLine) (w : World) → IsSwitch ls w → Becomes (acts_of (Step.Offers n) ls) ls w (changed n (with_end all_offered) ls)
unfolding all_offered
all_offers n ls w i = offers 7 n ls w i

pub offers_from : (count n : ℕ) (ls : List SwitchLine) (w : World) → IsSwitch ls w → Becomes (acts_of_all (offered_steps count n) ls) ls w (offered_from count n ls)
offers_from zero n ls w i = becomes_same ls ls w refl i
offers_from (suc count) n ls w i =
    let a = all_offers n ls w i in
    becomes_then ls (changed n (with_end all_offered) ls) _ w a.world a.reached (offers_from count (suc n) (changed n (with_end all_offered) ls) a.world a.right)

-- ---- rounds

abbrev Rounds : ℕ → List ℕ → List SwitchLine → World → Type 0
Rounds most first ls w = Becomes (acts_of_all (rounds_steps most first ls) ls) ls w (rounds most first ls)

rounds_by : (b : Bool) (most : ℕ) (first next : List ℕ) (ls : List SwitchLine) (w : World) → IsSwitch ls w → ((ms : List SwitchLine) (v : World) → IsSwitch ms v → Rounds most next ms v)
    → Becomes (acts_of_all (relayed_first_steps first ls ++ (if b then offered_steps (length ls) 0 ++ rounds_steps most next (offered_from (length ls) 0 (relayed_first first ls)) else [])) ls) ls w
    (if b then rounds most next (offered_from (length ls) 0 (relayed_first first ls)) else relayed_first first ls)
rounds_by true most first next ls w i more =
    let a = relayed_first_right first ls w i in
    let b = offers_from (length ls) 0 (relayed_first first ls) a.world a.right in
    let later : List Step = rounds_steps most next (offered_from (length ls) 0 (relayed_first first ls)) in
    becomes_by (relayed_first_steps first ls) (offered_steps (length ls) 0 ++ later) ls (relayed_first first ls) _ w a.world (relayed_first_leads first ls) a.reached
    (becomes_by (offered_steps (length ls) 0) later (relayed_first first ls) _ _ a.world b.world (offered_leads (length ls) 0 (relayed_first first ls)) b.reached (more _ b.world b.right))
rounds_by false most first next ls w i more = subst (λ (ss : List Step). Becomes (acts_of_all ss ls) ls w (relayed_first first ls)) (sym (append-nil (relayed_first_steps first ls))) (relayed_first_right first ls w i)

rounds_right : (most : ℕ) (first : List ℕ) (ls : List SwitchLine) (w : World) → IsSwitch ls w → Rounds most first ls w
rounds_right zero first ls w i = relayed_first_right first ls w i
rounds_right (suc most) first ls w i =
    let next = offering_from 0 (relayed_first first ls) in
    rounds_by (list_any may_offer (relayed_first first ls)) most first next ls w i (λ ms v h. rounds_right most next ms v h)

stuck_by : (b : Bool) (most : ℕ) (first next : List ℕ) (ls : List SwitchLine) (w : World) → IsSwitch ls w → ((ms : List SwitchLine) (v : World) → IsSwitch ms v → HasRelayedAll (rounds most next ms))
    → HasRelayedAll (if b then rounds most next (offered_from (length ls) 0 (relayed_first first ls)) else relayed_first first ls)
stuck_by true most first next ls w i more =
    let a = relayed_first_right first ls w i in
    let b = offers_from (length ls) 0 (relayed_first first ls) a.world a.right in
    more _ b.world b.right
stuck_by false most first next ls w i more = relayed_first_stuck first ls w i

rounds_stuck : (most : ℕ) (first : List ℕ) (ls : List SwitchLine) (w : World) → IsSwitch ls w → HasRelayedAll (rounds most first ls)
rounds_stuck zero first ls w i = relayed_first_stuck first ls w i
rounds_stuck (suc most) first ls w i =
    let next = offering_from 0 (relayed_first first ls) in
    stuck_by (list_any may_offer (relayed_first first ls)) most first next ls w i (λ ms v h. rounds_stuck most next ms v h)

-- ---- links that are set up anew

relinks_at : (o : Option ℕ) (routes : RouteMap) (ls : List SwitchLine) (w : World) → IsSwitch ls w → Becomes (acts_of_all (relinked_steps o routes ls) ls) ls w (relinked_at o routes ls)
relinks_at None routes ls w i = becomes_same ls ls w refl i
relinks_at (Some n) routes ls w i = acted_right routes n Relinks ls w i (λ line e. relinked_effect n line.end)

pub all_relinks : (most : ℕ) (routes : RouteMap) (ls : List SwitchLine) (w : World) → IsSwitch ls w → Becomes (acts_of_all (all_relinked_steps most routes ls) ls) ls w (all_relinked most routes ls)
all_relinks zero routes ls w i = becomes_same ls ls w refl i
all_relinks (suc most) routes ls w i =
    let a = relinks_at (to_relink ls) routes ls w i in
    becomes_by (relinked_steps (to_relink ls) routes ls) (all_relinked_steps most routes (relinked_at (to_relink ls) routes ls)) ls (relinked_at (to_relink ls) routes ls) _ w a.world
    (relinked_leads (to_relink ls) routes ls) a.reached (all_relinks most routes (relinked_at (to_relink ls) routes ls) a.world a.right)

-- ---- what leaves the packet layers and the joins as they are

same_place_on : (f : PacketEnd → PacketEnd) (ls : List SwitchLine) (n c : ℕ) → has_place_on (slice_get (map (with_end f) ls) n) c ≡ has_place_on (slice_get ls n) c
same_place_on f [] n c = refl
same_place_on f (l ∷ ls) zero c = refl
same_place_on f (l ∷ ls) (suc n) c = same_place_on f ls n c

same_ends : (f : PacketEnd → PacketEnd) (ls : List SwitchLine) (w : World) → ((e : PacketEnd) → (f e).layer ≡ e.layer) → IsSwitch ls w → Becomes [] ls w (map (with_end f) ls)
same_ends f ls w same i =
    let r : Reached [] ls w (map (with_end f) ls) w = record { may = tt; layers = layers_on_ends f ls same; legs = refl } in
    record { world = w; reached = r; right = steady ls (map (with_end f) ls) w w i r (λ x. joined_on_ends f ls x.line x.channel) (λ x. same_place_on f ls x.line x.channel) (λ x. refl) }

-- ---- the end of an event

pub finished_right : (routes : RouteMap) (n : ℕ) (ls : List SwitchLine) (w : World) → IsSwitch ls w → Becomes (acts_of_all (finished_steps routes n ls) ls) ls w (finished routes n ls)
finished_right routes n ls w i =
    let first = lines_first n routes ls in
    let a = all_relinks (length ls) routes ls w i in
    let ks = all_relinked (length ls) routes ls in
    let b = rounds_right (7 * length ks) first ks a.world a.right in
    let c = same_ends settled (rounds (7 * length ks) first ks) b.world (λ e. refl) b.right in
    becomes_by (all_relinked_steps (length ls) routes ls) (rounds_steps (7 * length ks) first ks ++ Settles ∷ []) ls ks _ w a.world (all_relinked_leads (length ls) routes ls) a.reached
    (becomes_by (rounds_steps (7 * length ks) first ks) (Settles ∷ []) ks (rounds (7 * length ks) first ks) _ a.world b.world (rounds_leads (7 * length ks) first ks) b.reached c)

settled_front : (ls : List SwitchLine) (n c : ℕ) → front_of_line (slice_get (map (with_end settled) ls) n) c ≡ front_of_line (slice_get ls n) c
settled_front [] n c = refl
settled_front (l ∷ ls) zero c = refl
settled_front (l ∷ ls) (suc n) c = settled_front ls n c

settled_takes : (ls : List SwitchLine) (n c : ℕ) (qs : List Request) → takes_on_line (slice_get (map (with_end settled) ls) n) c qs ≡ takes_on_line (slice_get ls n) c qs
settled_takes [] n c qs = refl
settled_takes (l ∷ ls) zero c qs = refl
settled_takes (l ∷ ls) (suc n) c qs = settled_takes ls n c qs

settled_size : (ls : List SwitchLine) (n : ℕ) → size_of_line (slice_get (map (with_end settled) ls) n) ≡ size_of_line (slice_get ls n)
settled_size [] n = refl
settled_size (l ∷ ls) zero = refl
settled_size (l ∷ ls) (suc n) = settled_size ls n

pub finished_stuck : (routes : RouteMap) (n : ℕ) (ls : List SwitchLine) (w : World) → IsSwitch ls w → HasRelayedAll (finished routes n ls)
finished_stuck routes n ls w i p j t e f =
    let first = lines_first n routes ls in
    let a = all_relinks (length ls) routes ls w i in
    let rs = all_relinked (length ls) routes ls in
    let ks = rounds (7 * length rs) first rs in
    let stuck = rounds_stuck (7 * length rs) first rs a.world a.right in
    let ms = map (with_end settled) ks in
    let sizes = sizes_same ks ms p j.other (settled_size ks p.line) (settled_size ks j.other.line) in
    ap (λ (s : Sizes). takes_at ms j.other (requests_for s j.kept.gathered t)) sizes ∙ settled_takes ks j.other.line j.other.channel (due_at ks p j t)
    ∙ stuck p j t (sym (joined_on_ends settled ks p.line p.channel) ∙ e) (sym (settled_front ks p.line p.channel) ∙ f)

-- ---- events

pub begun_right : (ls : List SwitchLine) (w : World) → IsSwitch ls w → Becomes [] ls w (all_begun ls)
begun_right ls w i = same_ends begun ls w (λ e. refl) i

pub begun_line : (n : ℕ) (ls : List SwitchLine) (line : SwitchLine) → slice_get (all_begun ls) n ≡ Some line → (old : SwitchLine) × ((slice_get ls n ≡ Some old) × (with_end begun old ≡ line))
begun_line n [] line e = absurd (none-some line e)
begun_line zero (l ∷ ls) line e = (l, (refl, same_Some _ line e))
begun_line (suc n) (l ∷ ls) line e = begun_line n ls line e

pub happens : (n : ℕ) (what : Happening) (routes : RouteMap) (ls : List SwitchLine) (w : World) → IsSwitch ls w
    → Becomes (acts_of_all (acted_steps routes n what (all_begun ls)) (all_begun ls)) ls w (acted routes n (does what) (all_begun ls))
happens n what routes ls w i =
    let a = begun_right ls w i in
    becomes_then ls (all_begun ls) _ w a.world a.reached (acted_right routes n what (all_begun ls) a.world a.right (λ line e. does_effect n what line.end))

-- the acts at the line and those of the end of the event, one after the other
event_reached : (n : ℕ) (what : Happening) (s : Switch) (w v : World) → Reached (acts_of_all (acted_steps s.routes n what (all_begun s.lines)) (all_begun s.lines)) s.lines w (acted s.routes n (does what) (all_begun s.lines)) v
    → Becomes (acts_of_all (finished_steps s.routes n (acted s.routes n (does what) (all_begun s.lines))) (acted s.routes n (does what) (all_begun s.lines))) (acted s.routes n (does what) (all_begun s.lines)) v
    (finished s.routes n (acted s.routes n (does what) (all_begun s.lines)))
    → Becomes (event_acts s.routes n what s.lines) s.lines w (finished s.routes n (acted s.routes n (does what) (all_begun s.lines)))
event_reached n what s w v r b =
    subst (λ (acts : List Act). Becomes acts s.lines w (finished s.routes n (acted s.routes n (does what) (all_begun s.lines))))
    (acts_lead (acted_steps s.routes n what (all_begun s.lines)) (finished_steps s.routes n (acted s.routes n (does what) (all_begun s.lines))) (all_begun s.lines) (acted s.routes n (does what) (all_begun s.lines)) (acted_leads s.routes n what (all_begun s.lines)))
    (becomes_then s.lines (acted s.routes n (does what) (all_begun s.lines)) _ w v r b)

pub event_right : (n : ℕ) (what : Happening) (s : Switch) (w : World) → IsSwitch s.lines w → Becomes (event_acts s.routes n what s.lines) s.lines w (finished s.routes n (acted s.routes n (does what) (all_begun s.lines)))
event_right n what s w i =
    let a = happens n what s.routes s.lines w i in event_reached n what s w a.world a.reached (finished_right s.routes n _ a.world a.right)

pub event_stuck : (n : ℕ) (what : Happening) (s : Switch) (w : World) → IsSwitch s.lines w → HasRelayedAll (finished s.routes n (acted s.routes n (does what) (all_begun s.lines)))
event_stuck n what s w i = let a = happens n what s.routes s.lines w i in finished_stuck s.routes n _ a.world a.right

-- ---- a restart

restarted_layer : (n : ℕ) (ls : List SwitchLine) → slice_get (layers_of (map without_joins ls)) n ≡ option_map (λ l. unread (link_down l)) (slice_get (layers_of ls) n)
restarted_layer n [] = refl
restarted_layer zero (l ∷ ls) = refl
restarted_layer (suc n) (l ∷ ls) = restarted_layer n ls

abbrev no_joins : List (Option Joined) → List (Option Joined)
no_joins js = map (λ o. None) js

none_nth : (js : List (Option Joined)) (i : ℕ) → flat (slice_get (no_joins js) i) ≡ None
none_nth [] i = refl
none_nth (j ∷ js) zero = refl
none_nth (j ∷ js) (suc i) = none_nth js i

there_nth : (js : List (Option Joined)) (i : ℕ) → is_some (slice_get (no_joins js) i) ≡ is_some (slice_get js i)
there_nth [] i = refl
there_nth (j ∷ js) zero = refl
there_nth (j ∷ js) (suc i) = there_nth js i

none_on : (js : List (Option Joined)) (c : ℕ) → nth_joined (no_joins js) c ≡ None
none_on js zero = refl
none_on js (suc i) = none_nth js i

there_on : (js : List (Option Joined)) (c : ℕ) → has_nth (no_joins js) c ≡ has_nth js c
there_on js zero = refl
there_on js (suc i) = there_nth js i

pub restarted_joined : (ls : List SwitchLine) (n c : ℕ) → joined_on (slice_get (map without_joins ls) n) c ≡ None
restarted_joined [] n c = refl
restarted_joined (l ∷ ls) zero c = none_on l.joined c
restarted_joined (l ∷ ls) (suc n) c = restarted_joined ls n c

restarted_place : (ls : List SwitchLine) (n c : ℕ) → has_place_on (slice_get (map without_joins ls) n) c ≡ has_place_on (slice_get ls n) c
restarted_place [] n c = refl
restarted_place (l ∷ ls) zero c = there_on l.joined c
restarted_place (l ∷ ls) (suc n) c = restarted_place ls n c

restarted_shown : (o : Option Layer) (c : ℕ) (s : Shown) (g : Leg) → ((t : Shown) → shown_on o c ≡ Some t → Agrees t g) → shown_on (option_map (λ l. unread (link_down l)) o) c ≡ Some s → Agrees s (closed g)
restarted_shown None c s g i e = absurd (none-some s e)
restarted_shown (Some l) c s g i e = all_close l (unread (link_down l)) c g refl refl refl i s e

restarted_there : (o : Option Layer) (c : ℕ) → is_some (shown_on (option_map (λ l. unread (link_down l)) o) c) ≡ is_some (shown_on o c)
restarted_there None c = refl
restarted_there (Some l) c = there_of (unread (link_down l)) l (channel_of (unread (link_down l)) c) (channel_of l c) (line_there (GoesDown 0) l c)
  where
    there_of : (x y : Layer) (a b : Option Channel) → is_some a ≡ is_some b → is_some (shown_as x a) ≡ is_some (shown_as y b)
    there_of x y a b e = shown_there x a ∙ (e ∙ sym (shown_there y b))

pub restart_right : (s : Switch) (w : World) → IsSwitch s.lines w → IsSwitch (restart s).lines (λ x. closed (w x))
restart_right s w i = record {
  world = λ x t e. restarted_shown (slice_get (layers_of s.lines) x.line) x.channel t (w x) (λ u f. i.world x u f) (sym (ap (λ (o : Option Layer). shown_on o x.channel) (restarted_layer x.line s.lines)) ∙ e);
  places = λ x e.
      restarted_place s.lines x.line x.channel
      ∙ i.places x (sym (ap (λ (o : Option Layer). is_some (shown_on o x.channel)) (restarted_layer x.line s.lines) ∙ restarted_there (slice_get (layers_of s.lines) x.line) x.channel) ∙ e);
  joined = λ x j e. absurd (none-some j (sym (restarted_joined s.lines x.line x.channel) ∙ e));
}

-- ---- the joins of other lines

pub none_relinks : (most : ℕ) (routes : RouteMap) (ls : List SwitchLine) → to_relink ls ≡ None → all_relinked most routes ls ≡ ls
none_relinks zero routes ls e = refl
none_relinks (suc most) routes ls e =
    ap (λ (o : Option ℕ). all_relinked most routes (relinked_at o routes ls)) e ∙ none_relinks most routes ls e

pub relinks_leave : (most : ℕ) (o : Option ℕ) (routes : RouteMap) (ls : List SwitchLine) (w : World) → to_relink ls ≡ o → IsSwitch ls w → (p : SwitchChannel) (j : Joined) → joined_at ls p ≡ Some j
    → IsNone p.line (relinks_of most o routes ls) → IsNone j.other.line (relinks_of most o routes ls) → joined_at (all_relinked most routes ls) p ≡ Some j
relinks_leave zero o routes ls w t i p j e a b = e
relinks_leave (suc most) None routes ls w t i p j e a b = ap (λ (ms : List SwitchLine). joined_at ms p) (none_relinks (suc most) routes ls t) ∙ e
relinks_leave (suc most) (Some n) routes ls w t i p j e a b =
    let ms = acted routes n relinked ls in
    let c = acted_right routes n Relinks ls w i (λ line g. relinked_effect n line.end) in
    let kept : joined_at ms p ≡ Some j = acted_stays routes n relinked ls w i p j (record { joined = e; here = a.0; there = b.0 }) in
    ap (λ (x : Option ℕ). joined_at (all_relinked most routes (relinked_at x routes ls)) p) t
    ∙ relinks_leave most (to_relink ms) routes ms c.world refl c.right p j kept a.1 b.1

leaves_others : (n : ℕ) (f : PacketEnd → PacketEnd) (s : Switch) (w v : World) → IsSwitch (all_begun s.lines) w → IsSwitch (acted s.routes n f (all_begun s.lines)) v
    → OthersStay (n ∷ relinked_in n f s) s.lines (finished s.routes n (acted s.routes n f (all_begun s.lines)))
leaves_others n f s w v i k p j e a b =
    let ls = acted s.routes n f (all_begun s.lines) in
    let begun_ : joined_at (all_begun s.lines) p ≡ Some j = joined_on_ends begun s.lines p.line p.channel ∙ e in
    let here : joined_at ls p ≡ Some j = acted_stays s.routes n f (all_begun s.lines) w i p j (record { joined = begun_; here = a.0; there = b.0 }) in
    let then_ : joined_at (all_relinked (length ls) s.routes ls) p ≡ Some j = relinks_leave (length ls) (to_relink ls) s.routes ls v refl k p j here a.1 b.1 in
    let rs = all_relinked (length ls) s.routes ls in
    let first = lines_first n s.routes ls in
    let last = stay_rounds (7 * length rs) first rs p j then_ in
    record { kept = last.kept; joined = joined_on_ends settled (all_offered_on first rs) p.line p.channel ∙ last.joined }

event_leaves : (n : ℕ) (what : Happening) (s : Switch) (w : World) → IsSwitch s.lines w
    → OthersStay (n ∷ relinked_in n (does what) s) s.lines (finished s.routes n (acted s.routes n (does what) (all_begun s.lines)))
event_leaves n what s w i =
    let b = begun_right s.lines w i in
    let c = happens n what s.routes s.lines w i in
    leaves_others n (does what) s b.world c.world b.right c.right

-- ---- channels with calls are joined

pub event_calls : (n : ℕ) (what : Happening) (s : Switch) (w : World) → IsSwitch s.lines w → CallsAreJoined s.lines → CallsAreJoined (finished s.routes n (acted s.routes n (does what) (all_begun s.lines)))
event_calls n what s w i all =
    let b = begun_right s.lines w i in
    let c = happens n what s.routes s.lines w i in
    finished_calls s.routes n _ c.world c.right
    (acted_calls s.routes n what (all_begun s.lines) b.world b.right (λ line e. does_effect n what line.end) (ends_keep begun s.lines (λ e. refl) all))

restart_calls : (s : Switch) (w : World) → IsSwitch s.lines w → (p : SwitchChannel) → HasCall (restart s).lines p → ⊥
restart_calls s w i p h =
    let a = (restart_right s w i).world p h.channel h.there in
    true≢false (sym h.call ∙ ap (λ (x : Shown). had_call x.channel.state) a.shown)

same_end_layers : (ticks : ℕ) (ls : List SwitchLine) (w : World) → IsSwitch ls w → Becomes [] ls w (map (with_end (λ e. elapsed e ticks)) ls)
same_end_layers ticks ls w i = same_ends (λ e. elapsed e ticks) ls w (λ e. refl) i

pub turns : TurnLaw
turns = record {
  frame = λ n octets s w i. event_right n (Brings octets) s w i;
  frame_keeps_nothing_back = λ n octets s w i. event_stuck n (Brings octets) s w i;
  timer = λ n id s w i. event_right n (RunsOut id) s w i;
  timer_keeps_nothing_back = λ n id s w i. event_stuck n (RunsOut id) s w i;
  relinks = λ n s w i. event_right n Relinks s w i;
  relink_keeps_nothing_back = λ n s w i. event_stuck n Relinks s w i;
  frame_offers = λ n octets s h. event_offered n (Brings octets) s h;
  timer_offers = λ n id s h. event_offered n (RunsOut id) s h;
  relink_offers = λ n s h. event_offered n Relinks s h;
  frame_joins_calls = λ n octets s w i all. event_calls n (Brings octets) s w i all;
  timer_joins_calls = λ n id s w i all. event_calls n (RunsOut id) s w i all;
  relink_joins_calls = λ n s w i all. event_calls n Relinks s w i all;
  frame_leaves_others = λ n octets s w i. event_leaves n (Brings octets) s w i;
  timer_leaves_others = λ n id s w i. event_leaves n (RunsOut id) s w i;
  relink_leaves_others = λ n s w i. event_leaves n Relinks s w i;
  restarts = restart_right;
  restart_ends_calls = restart_calls;
  elapses = λ ticks s w i. same_end_layers ticks s.lines w i;
}
