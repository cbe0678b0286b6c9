-- What is made is a switch of which the laws speak, and each event leaves it one.
use Rattle.std.proofs.Common.{◌≡◌, ℕ, zero, suc, ◌*◌, ◌≤◌, ◌⊎◌, Bool, true, false, if◌then◌else◌, ◌&&◌, ◌||◌, inl, inr, List}
use Rattle.std.proofs.Common.{[], ◌∷◌, map, length, replicate, Option, Some, None, is_some, refl, sym, ap, ap₂, subst}
use Rattle.std.proofs.Common.{◌∙◌, true≢false}
use Rattle.std.specs.Prelude.{slice_get}
use Rattle.std.specs.List.{list_any}
use Rattle.std.proofs.lemmas.Option.{none-some, same_Some}
use Rattle.link_timers.specs.declared.role.Role.{Role}
use Rattle.link_timers.specs.declared.timers.TimerId.{TimerId}
use Rattle.lapb.specs.declared.phase.Phase.{Phase}
use Rattle.lapb.specs.declared.phase.Phase.TheVariants as phase
use Rattle.lapb.specs.declared.link.LinkParams.{LinkParams}
use Rattle.lapb.specs.Machine as link
use Rattle.lapb.specs.Machine.{Octets, Link, can_offer, sendable, send_all, settle_in}
use Rattle.data_transfer.specs.declared.flow.Flow.{Flow}
use Rattle.line_end.specs.End as line
use Rattle.line_end.specs.End.{End}
use Rattle.packet_end.specs.Params.{link_params}
use Rattle.data_transfer.specs.Packets.{Packet}
use Rattle.packet_channel.specs.Channel.{Channel, closed_channel, had_call}
use Rattle.packet_layer.specs.Layer.{Layer, channel_of, nth_channel, standing_channels, start_phase, next_in}
use Rattle.packet_layer.specs.Layer.{next_packet}
use Rattle.packet_laws.specs.History.{empty_epoch}
use Rattle.packet_end.specs.PacketEnd.{PacketEnd, HasOfferedAll, all_offered, settled, elapsed}
use Rattle.packet_end.proofs.Offering.{none_to_offer, silent_all_offered}
use Rattle.packet_end.specs.PacketEnd.{without_first_frame}
use Rattle.address_routes.specs.Routes.{RouteMap}
use Rattle.switch_joins.specs.declared.channels.SwitchChannel.{SwitchChannel}
use Rattle.switch_joins.specs.Joins.{Joined}
use Rattle.joined_line.specs.declared.config.SwitchLineConfig.{SwitchLineConfig}
use Rattle.switch_lines.specs.Lines.{SwitchLine, changed, flat, nth_joined, joined_on, joined_at}
use Rattle.switch_lines.specs.Relay.{relayed_first}
use Rattle.switch_lines.specs.Making.{IsConfig, IsLineConfig, made, made_line}
use Rattle.switch_lines.specs.Switch.{Switch, with_end, acted, all_begun, all_relinked, all_offered_on, finished}
use Rattle.switch_lines.specs.Switch.{may_offer, offering_from, offered_from, lines_first, rounds, timer_runs, on_expiry, on_timer}
use Rattle.switch_lines.specs.Switch.{restart, elapse, without_joins, to_relink, raised}
use Rattle.switch_laws.specs.Offers.{HaveSmallLinks, EndsKeepNothingBack}
use Rattle.switch_laws.specs.Leg.{Leg}
use Rattle.switch_laws.specs.Calls.{CallsAreJoined}
use Rattle.switch_laws.specs.World.{World, Shown, Agrees, shown_as, shown_on, shown_at, layers_of, closed}
use Rattle.switch_laws.specs.Joined.{IsSwitch, Becomes, Reached, has_nth, has_place_on, HasRelayedAll}
use Rattle.switch_laws.specs.Events.{Event, after_event, SwitchHolds, AfterEvent, AfterExpiry, HoldsOn, flow_of, role_of}
use Rattle.switch_laws.specs.Events.{new_legs, EventLaw}
use Rattle.switch_laws.specs.Steps.{Happening, does}
use Rattle.switch_laws.specs.Steps.Happening.{Brings, RunsOut, Relinks}
use Rattle.switch_laws.specs.EventSteps.{event_acts}
use Rattle.switch_laws.specs.Events.Event.{Arrives, Expires, SetsUp, Restarts, Elapses, Departs}
use Rattle.switch_laws.specs.Events.HoldsOn.{ended, goes_on}
use Rattle.switch_laws.proofs.LegsByState.{start_good}
use Rattle.lapb.proofs.Links.{relink_keeps_k}
use Rattle.switch_laws.proofs.Lists.{map_unchanged}
use Rattle.switch_laws.proofs.Places.{place_after}
use Rattle.switch_laws.proofs.Effects.{steady}
use Rattle.switch_laws.proofs.Rounds.{lines_of, first_lines, grows}
use Rattle.switch_laws.proofs.Offered.{ks, AreSmall, acted_ks, act_ks, all_relinked_ks, begun_ks, small_links}
use Rattle.switch_laws.proofs.Offered.{does_k, event_offered}
use Rattle.switch_laws.proofs.JoinsAtEventEnd.{ends_keep, layers_on_ends, joined_on_ends}
use Rattle.switch_lines.proofs.Relinking.{ends_ask, same_asking}
use Rattle.switch_laws.proofs.Relinking.{finished_end}
use Rattle.switch_laws.proofs.Concerning.{same_front, same_takes, layers_sizes, layers_take}
use Rattle.switch_laws.proofs.JoinsAfterNotes.{begins_right}
use Rattle.switch_laws.proofs.Finishing.{turns, event_right, event_stuck, event_calls, restarted_joined}
use Rattle.switch_laws.proofs.Fitting.{fit_list, fit_each, all_fit, same_fit, event_fits, restarted_fit, made_fit}
use Rattle.switch_lines.proofs.Places.{joined_kept}

-- ---- sizes of links

pub links_small : (ls : List SwitchLine) → AreSmall (ks (lines_of ls)) → HaveSmallLinks ls
links_small [] s n x e = absurd (none-some x e)
links_small (l ∷ ls) s zero x e = subst (λ (y : SwitchLine). y.end.line.link.k ≤ 7) (same_Some l x e) s.0
links_small (l ∷ ls) s (suc n) x e = links_small ls s.1 n x e

same_links : (ls ms : List SwitchLine) → ks (lines_of ms) ≡ ks (lines_of ls) → HaveSmallLinks ls → HaveSmallLinks ms
same_links ls ms e h = links_small ms (subst (λ (xs : List ℕ). AreSmall xs) (sym e) (small_links ls h))

all_ks : (f : PacketEnd → PacketEnd) (ls : List SwitchLine) → ((e : PacketEnd) → (f e).line.link.k ≡ e.line.link.k) →
    ks (lines_of (map (with_end f) ls)) ≡ ks (lines_of ls)
all_ks f [] same = refl
all_ks f (l ∷ ls) same = ap₂ (λ (k : ℕ) (more : List ℕ). k ∷ more) (same l.end) (all_ks f ls same)

sends_k : (l : Link) (packets : List Octets) → (send_all l packets).link.k ≡ l.k
sends_k l [] = refl
sends_k l (p ∷ ps) = refl

settles_k : (ph : Phase) (l : Link) → (settle_in ph l).link.k ≡ l.k
settles_k phase.Down l = refl
settles_k phase.SettingUp l = refl
settles_k phase.Up l = sends_k l (sendable l)
settles_k phase.Rejecting l = refl

offers_k : (e : PacketEnd) → (all_offered e).line.link.k ≡ e.line.link.k
unfolding all_offered
offers_k e = (grows 7 e).k

offered_ks : (count n : ℕ) (ls : List SwitchLine) → ks (lines_of (offered_from count n ls)) ≡ ks (lines_of ls)
offered_ks zero n ls = refl
offered_ks (suc count) n ls = offered_ks count (suc n) (changed n (with_end all_offered) ls)
    ∙ acted_ks n all_offered ls offers_k

either_ks : (b : Bool) (x y : List SwitchLine) (k : List ℕ) → ks (lines_of x) ≡ k → ks (lines_of y) ≡ k →
    ks (lines_of (if b then x else y)) ≡ k
either_ks true x y k f g = f
either_ks false x y k f g = g

pub rounds_ks : (most : ℕ) (first : List ℕ) (ls : List SwitchLine) → ks (lines_of (rounds most first ls)) ≡ ks (lines_of ls)
rounds_ks zero first ls = ap (λ (es : List End). ks es) (first_lines first ls)
rounds_ks (suc most) first ls =
    let ms = relayed_first first ls in
    let relayed_ = ap (λ (es : List End). ks es) (first_lines first ls) in
    either_ks (list_any may_offer ms) (rounds most (offering_from 0 ms) (offered_from (length ls) 0 ms)) ms
    (ks (lines_of ls))
    (rounds_ks most (offering_from 0 ms) (offered_from (length ls) 0 ms)
    ∙ (offered_ks (length ls) 0 ms ∙ relayed_)) relayed_

finished_ks : (routes : RouteMap) (n : ℕ) (ls : List SwitchLine) → ks (lines_of (finished routes n ls)) ≡ ks
    (lines_of ls)
finished_ks routes n ls =
    let rs = all_relinked (length ls) routes ls in
    let first = lines_first n routes ls in
    all_ks settled (all_offered_on first rs) (λ e. settles_k e.line.link.phase e.line.link)
    ∙ (rounds_ks (7 * length rs) first rs ∙ all_relinked_ks (length ls) routes ls)

restarted_ks : (ls : List SwitchLine) → ks (lines_of (map without_joins ls)) ≡ ks (lines_of ls)
restarted_ks [] = refl
restarted_ks (l ∷ ls) =
    ap₂ (λ (k : ℕ) (more : List ℕ). k ∷ more) (relink_keeps_k (link.remade l.end.line.link)) (restarted_ks ls)

-- ---- an end of which the layer and the link stay

pub record IsSteady (f : PacketEnd → PacketEnd) : Type 0 where
  pub layer : (e : PacketEnd) → (f e).layer ≡ e.layer
  pub link : (e : PacketEnd) → (f e).line.link ≡ e.line.link

steady_layers : (n : ℕ) (f : PacketEnd → PacketEnd) (ls : List SwitchLine) → IsSteady f →
    layers_of (changed n (with_end f) ls) ≡ layers_of ls
steady_layers n f ls same = map_unchanged (λ l. l.end.layer) (with_end f) n ls (λ l. same.layer l.end)

steady_right : (n : ℕ) (f : PacketEnd → PacketEnd) (s : Switch) (w : World) → IsSteady f → IsSwitch s.lines w →
    Becomes [] s.lines w (changed n (with_end f) s.lines)
steady_right n f s w same i =
    let ls = s.lines in
    let ms = changed n (with_end f) ls in
    let r : Reached [] ls w ms w = record { may = tt; layers = steady_layers n f ls same; legs = refl } in
    record {
      world = w;
      reached = r;
      right = steady ls ms w w i r (λ x. joined_kept n x.line x.channel (with_end f) ls (λ l. refl))
          (λ x. place_after n (with_end f) ls x (λ l. refl)) (λ x. refl);
    }

steady_calls : (n : ℕ) (f : PacketEnd → PacketEnd) (ls : List SwitchLine) → IsSteady f → CallsAreJoined ls →
    CallsAreJoined (changed n (with_end f) ls)
steady_calls n f ls same all x h =
    ap (λ (o : Option Joined). is_some o) (joined_kept n x.line x.channel (with_end f) ls (λ l. refl))
    ∙ all x (record {
      channel = h.channel;
      there = sym (ap (λ (ys : List Layer). shown_at ys x)
          (steady_layers n f ls same)) ∙ h.there;
      call = h.call;
    })

-- what waits and is taken is as before where the layers and the joins are
still_relayed : (ls ms : List SwitchLine) → layers_of ms ≡ layers_of ls →
    ((x : SwitchChannel) → joined_at ms x ≡ joined_at ls x) → HasRelayedAll ls → HasRelayedAll ms
still_relayed ls ms same joined_ all p j t e f =
    same_takes ls ms p j t (layers_sizes ls ms p j.other same) (layers_take ls ms j.other same)
    ∙ all p j t (sym (joined_ p) ∙ e) (sym (same_front ls ms p (ap (λ (ys : List Layer). shown_at ys p) same)) ∙ f)

-- ---- no link takes a packet

and_false : (b : Bool) → (b && false) ≡ false
and_false true = refl
and_false false = refl

keeps_none : (l : SwitchLine) → HasOfferedAll l.end → may_offer l ≡ false
keeps_none l all = by (none_to_offer l.end all)
  where
    by : (can_offer l.end.line.link ≡ false) ⊎ ((next_packet l.end.layer).packet ≡ None) → may_offer l ≡ false
    by (inl room) = ap (λ (b : Bool). b && is_some (next_packet l.end.layer).packet) room
    by (inr silent) = ap (λ (o : Option Packet). can_offer l.end.line.link && is_some o) silent
        ∙ and_false (can_offer l.end.line.link)

none_offer : (ls : List SwitchLine) → EndsKeepNothingBack ls → list_any may_offer ls ≡ false
none_offer [] h = refl
none_offer (l ∷ ls) h =
    ap (λ (b : Bool). b || list_any may_offer ls) (keeps_none l (h 0 l refl).offered)
    ∙ none_offer ls (λ n x e. h (suc n) x e)

restarted_offer : (ls : List SwitchLine) → list_any may_offer (map without_joins ls) ≡ false
restarted_offer [] = refl
restarted_offer (l ∷ ls) =
    ap (λ (b : Bool). b || list_any may_offer (map without_joins ls)) (and_false
    (can_offer (without_joins l).end.line.link)) ∙ restarted_offer ls

elapsed_offer : (ticks : ℕ) (ls : List SwitchLine) → list_any may_offer (map (with_end (λ e. elapsed e ticks)) ls) ≡
    list_any may_offer ls
elapsed_offer ticks [] = refl
elapsed_offer ticks (l ∷ ls) = ap (λ (b : Bool). may_offer l || b) (elapsed_offer ticks ls)

steady_offer : (n : ℕ) (f : PacketEnd → PacketEnd) (ls : List SwitchLine) → IsSteady f →
    list_any may_offer (changed n (with_end f) ls) ≡ list_any may_offer ls
steady_offer n f [] same = refl
steady_offer zero f (l ∷ ls) same = ap (λ (b : Bool). b || list_any may_offer ls)
    (ap₂ (λ (k : Link) (y : Layer). can_offer k && is_some (next_packet y).packet) (same.link l.end) (same.layer l.end))
steady_offer (suc n) f (l ∷ ls) same = ap (λ (b : Bool). may_offer l || b) (steady_offer n f ls same)

restarted_end : (ls : List SwitchLine) → to_relink (map without_joins ls) ≡ None
restarted_end [] = refl
restarted_end (l ∷ ls) = ap (λ (o : Option ℕ). raised o) (restarted_end ls)

pub steady_holds : (n : ℕ) (f : PacketEnd → PacketEnd) (s : Switch) (w : World) → IsSteady f → SwitchHolds s w →
    SwitchHolds (record s { lines = changed n (with_end f) s.lines }) w
unfolding steady_right
steady_holds n f s w same h =
    let ms = changed n (with_end f) s.lines in
    let b = steady_right n f s w same h.joins in
    record {
      joins = b.right;
      calls = steady_calls n f s.lines same h.calls;
      relayed = still_relayed s.lines ms (steady_layers n f s.lines same)
          (λ x. joined_kept n x.line x.channel (with_end f) s.lines (λ l. refl)) h.relayed;
      offered = steady_offer n f s.lines same ∙ h.offered;
      no_relink = same_asking s.lines ms (map_unchanged (λ l. l.end.layer.relink) (with_end f) n s.lines
          (λ l. ap (λ (y : Layer). y.relink) (same.layer l.end))) ∙ h.no_relink;
      links = same_links s.lines ms (acted_ks n f s.lines (λ e. ap (λ (k : Link). k.k) (same.link e))) h.links;
      fitting = fit_each ms (same_fit s.lines ms (map_unchanged (λ l. l.end.line.link) (with_end f) n s.lines
          (λ l. same.link l.end)) (fit_list s.lines h.fitting));
    }

first_steady : IsSteady without_first_frame
first_steady = record { layer = λ e. refl; link = λ e. refl }

-- ---- events

-- whatever happens at the end of a line
happening_holds : (n : ℕ) (what : Happening) (s : Switch) (w : World) (h : SwitchHolds s w) →
    SwitchHolds (record s { lines = finished s.routes n (acted s.routes n (does what) (all_begun s.lines)) })
    (event_right n what s w h.joins).world
happening_holds n what s w h =
    let ls = acted s.routes n (does what) (all_begun s.lines) in
    record {
      joins = (event_right n what s w h.joins).right;
      calls = event_calls n what s w h.joins h.calls;
      relayed = event_stuck n what s w h.joins;
      offered = none_offer (finished s.routes n ls) (event_offered n what s h.links);
      no_relink = finished_end s.routes n ls;
      links = same_links s.lines (finished s.routes n ls)
          (finished_ks s.routes n ls ∙ (act_ks s.routes n (does what) (all_begun s.lines) (λ e. does_k what e)
          ∙ begun_ks s.lines)) h.links;
      fitting = event_fits s.routes n what s.lines h.fitting;
    }

pub expiry_stays : (n : ℕ) (id : TimerId) (s : Switch) (w : World) → SwitchHolds s w → AfterExpiry n id s w
expiry_stays n id s w h =
    let b = event_right n (RunsOut id) s w h.joins in
    record {
      world = b.world;
      moved = b.reached;
      holds = happening_holds n (RunsOut id) s w h;
      nothing_kept_back = event_offered n (RunsOut id) s h.links;
    }

nothing_moved : (s : Switch) (w : World) → Reached [] s.lines w s.lines w
nothing_moved s w = record { may = tt; layers = refl; legs = refl }

-- an expiry, whether the timer runs or not
either_stays : (n : ℕ) (id : TimerId) (s : Switch) (w : World) → SwitchHolds s w →
    (ran : Bool) → timer_runs (slice_get s.lines n) id ≡ ran → AfterEvent (Expires n id) s w
either_stays n id s w h true ran =
    let a = expiry_stays n id s w h in
    let is : on_expiry n id s ≡ on_timer n id s =
    ap (λ (b : Bool). if b then on_expiry n id s else s) (sym ran) in
    record {
      world = a.world;
      moved = subst (λ (b : Bool). Reached (if b then event_acts s.routes n (RunsOut id) s.lines else []) s.lines w
          (if b then on_expiry n id s else s).lines a.world) (sym ran) a.moved;
      holds = subst (λ (t : Switch). SwitchHolds t a.world) is a.holds;
      nothing_kept_back = λ e. subst (λ (t : Switch). EndsKeepNothingBack t.lines) is a.nothing_kept_back;
    }
either_stays n id s w h false ran =
    let is : s ≡ on_timer n id s = ap (λ (b : Bool). if b then on_expiry n id s else s) (sym ran) in
    record {
      world = w;
      moved = subst (λ (b : Bool). Reached (if b then event_acts s.routes n (RunsOut id) s.lines else []) s.lines w
          (if b then on_expiry n id s else s).lines w) (sym ran) (nothing_moved s w);
      holds = subst (λ (t : Switch). SwitchHolds t w) is h;
      nothing_kept_back = λ e. absurd (true≢false (sym e ∙ ran));
    }

stays : (event : Event) (s : Switch) (w : World) → SwitchHolds s w → AfterEvent event s w
stays (Arrives n octets) s w h =
    let b = event_right n (Brings octets) s w h.joins in
    record {
      world = b.world;
      moved = b.reached;
      holds = happening_holds n (Brings octets) s w h;
      nothing_kept_back = event_offered n (Brings octets) s h.links;
    }
stays (Expires n id) s w h = either_stays n id s w h (timer_runs (slice_get s.lines n) id) refl
stays (SetsUp n) s w h =
    let b = event_right n Relinks s w h.joins in
    record {
      world = b.world;
      moved = b.reached;
      holds = happening_holds n Relinks s w h;
      nothing_kept_back = event_offered n Relinks s h.links;
    }
stays Restarts s w h = record {
  world = λ x. closed (w x);
  moved = refl;
  holds = record {
    joins = turns.restarts s w h.joins;
    calls = λ x c. absurd (turns.restart_ends_calls s w h.joins x c);
    relayed = λ p j t e f. absurd (none-some j (sym (restarted_joined s.lines p.line p.channel) ∙ e));
    offered = restarted_offer s.lines;
    no_relink = restarted_end s.lines;
    links = same_links s.lines (restart s).lines (restarted_ks s.lines) h.links;
    fitting = fit_each (restart s).lines (restarted_fit s.lines);
  };
  nothing_kept_back = tt;
}
stays (Elapses ticks) s w h =
    let b = turns.elapses ticks s w h.joins in
    record {
      world = b.world;
      moved = b.reached;
      holds = record {
        joins = b.right;
        calls = ends_keep (λ e. elapsed e ticks) s.lines (λ e. refl) h.calls;
        relayed = still_relayed s.lines (elapse ticks s).lines (layers_on_ends (λ e. elapsed e ticks) s.lines
            (λ e. refl)) (λ x. joined_on_ends (λ e. elapsed e ticks) s.lines x.line x.channel) h.relayed;
        offered = elapsed_offer ticks s.lines ∙ h.offered;
        no_relink = ends_ask (λ e. elapsed e ticks) s.lines (λ e. refl) ∙ h.no_relink;
        links = same_links s.lines (elapse ticks s).lines (all_ks (λ e. elapsed e ticks) s.lines (λ e. refl)) h.links;
        fitting = fit_each (elapse ticks s).lines (all_fit (λ e. elapsed e ticks) s.lines (λ e g. g)
            (fit_list s.lines h.fitting));
      };
      nothing_kept_back = tt;
    }
stays (Departs n) s w h = record {
  world = w;
  moved = record { may = tt; layers = steady_layers n without_first_frame s.lines first_steady; legs = refl };
  holds = steady_holds n without_first_frame s w first_steady h;
  nothing_kept_back = tt;
}

holds_on : (events : List Event) (s : Switch) (w : World) → SwitchHolds s w → HoldsOn events s w
holds_on [] s w h = ended
holds_on (event ∷ events) s w h =
    let a = stays event s w h in
    goes_on a (holds_on events (after_event event s) a.world a.holds)

-- ---- a switch as it is made

closed_nth : (n c : ℕ) (ch : Channel) → nth_channel (replicate n closed_channel) c ≡ Some ch → ch ≡ closed_channel
closed_nth n zero ch e = absurd (none-some ch e)
closed_nth zero (suc i) ch e = absurd (none-some ch e)
closed_nth (suc n) (suc zero) ch e = sym (same_Some closed_channel ch e)
closed_nth (suc n) (suc (suc i)) ch e = closed_nth n (suc i) ch e

abbrev new_leg : Role → (flow : Flow) → Leg
new_leg role flow = record { role = role; flow = flow; channel = closed_channel; before = []; epoch = empty_epoch }

new_channel : (standing : Bool) (n c : ℕ) (ch : Channel) → standing ≡ false →
    nth_channel (standing_channels standing (replicate n closed_channel)) c ≡ Some ch → ch ≡ closed_channel
new_channel true n c ch h e = absurd (true≢false h)
new_channel false n c ch h e = closed_nth n c ch e

new_shown : (l : Layer) (o : Option Channel) (s : Shown) → ((ch : Channel) → o ≡ Some ch → ch ≡ closed_channel) →
    shown_as l o ≡ Some s
    → s ≡ record { role = l.role; flow = l.flow; channel = closed_channel }
new_shown l None s is e = absurd (none-some s e)
new_shown l (Some ch) s is e = sym (same_Some _ s e) ∙ ap (λ (x : Channel). record {
  role = l.role;
  flow = l.flow;
  channel = x;
}) (is ch refl)

abbrev AreConfigs : List SwitchLineConfig → Type 0
AreConfigs lines = (n : ℕ) (c : SwitchLineConfig) → slice_get lines n ≡ Some c → IsLineConfig c

new_agrees : (lines : List SwitchLineConfig) (n c : ℕ) (s : Shown) → AreConfigs lines →
    shown_on (slice_get (layers_of (map made_line lines)) n) c ≡ Some s →
    Agrees s (new_leg (role_of (slice_get lines n)) (flow_of (slice_get lines n)))
new_agrees [] n c s are e = absurd (none-some s e)
new_agrees (x ∷ xs) zero c s are e =
    let is = are 0 x refl in
    record {
      shown = new_shown (made_line x).end.layer (channel_of (made_line x).end.layer c) s
          (λ ch f. new_channel x.params.standing x.params.channels c ch is.not_standing f) e;
      leg = start_good (new_leg x.role x.params.flow) is.params.layer.flow_is
          (record { not_resetting = refl; traffic = refl; before = refl; epoch = refl });
    }
new_agrees (x ∷ xs) (suc n) c s are e = new_agrees xs n c s (λ m y f. are (suc m) y f) e

abbrev new_places : ℕ → List (Option Joined)
new_places n = replicate n None

counted_nth : (n c : ℕ) → is_some (nth_channel (replicate n closed_channel) c) ≡ true → has_nth (new_places n) c ≡ true
counted_nth n zero e = e
counted_nth zero (suc i) e = e
counted_nth (suc n) (suc zero) e = refl
counted_nth (suc n) (suc (suc i)) e = counted_nth n (suc i) e

new_nth : (standing : Bool) (n c : ℕ) → standing ≡ false → is_some (nth_channel
    (standing_channels standing (replicate n closed_channel)) c) ≡ true → has_nth (new_places n) c ≡ true
new_nth true n c h e = absurd (true≢false h)
new_nth false n c h e = counted_nth n c e

shown_is_some : (l : Layer) (o : Option Channel) → is_some (shown_as l o) ≡ true → is_some o ≡ true
shown_is_some l None e = e
shown_is_some l (Some ch) e = refl

new_place : (lines : List SwitchLineConfig) (n c : ℕ) → AreConfigs lines → is_some
    (shown_on (slice_get (layers_of (map made_line lines)) n) c) ≡ true →
    has_place_on (slice_get (map made_line lines) n) c ≡ true
new_place [] n c are e = e
new_place (x ∷ xs) zero c are e =
    let is = are 0 x refl in
    new_nth x.params.standing x.params.channels c is.not_standing (shown_is_some (made_line x).end.layer
    (channel_of (made_line x).end.layer c) e)
new_place (x ∷ xs) (suc n) c are e = new_place xs n c (λ m y f. are (suc m) y f) e

none_flat : (n i : ℕ) → flat (slice_get (new_places n) i) ≡ None
none_flat zero i = refl
none_flat (suc n) zero = refl
none_flat (suc n) (suc i) = none_flat n i

none_new : (n c : ℕ) → nth_joined (new_places n) c ≡ None
none_new n zero = refl
none_new n (suc i) = none_flat n i

new_joined : (lines : List SwitchLineConfig) (n c : ℕ) → joined_on (slice_get (map made_line lines) n) c ≡ None
new_joined [] n c = refl
new_joined (x ∷ xs) zero c = none_new x.params.channels c
new_joined (x ∷ xs) (suc n) c = new_joined xs n c

new_k : (role : Role) (p : LinkParams) → (line.made role p).link.k ≡ p.k
new_k role p = by p.standing
  where
    by : (standing : Bool) → (line.started_unless standing (line.untouched role p)).link.k ≡ p.k
    by true = refl
    by false = relink_keeps_k (link.new role p)

new_links : (lines : List SwitchLineConfig) → AreConfigs lines → HaveSmallLinks (map made_line lines)
new_links [] are n l e = absurd (none-some l e)
new_links (x ∷ xs) are zero l e =
    subst (λ (y : SwitchLine). y.end.line.link.k ≤ 7) (same_Some (made_line x) l e)
    (subst (λ (k : ℕ). k ≤ 7) (sym (new_k x.role (link_params x.params))) (are 0 x refl).params.link.k_most)
new_links (x ∷ xs) are (suc n) l e = new_links xs (λ m y f. are (suc m) y f) n l e

unready : (standing : Bool) (l : Layer) → standing ≡ false → (next_in (start_phase standing) false l).packet ≡ None
unready true l e = absurd (true≢false e)
unready false l e = refl

new_offer : (lines : List SwitchLineConfig) → AreConfigs lines → list_any may_offer (map made_line lines) ≡ false
new_offer [] are = refl
new_offer (x ∷ xs) are =
    ap (λ (b : Bool). b || list_any may_offer (map made_line xs))
    (keeps_none (made_line x) (silent_all_offered (made_line x).end
    (ap (λ p. is_some p)
    (unready x.params.standing (made_line x).end.layer (are 0 x refl).not_standing))))
    ∙ new_offer xs (λ m y f. are (suc m) y f)

new_end : (lines : List SwitchLineConfig) → to_relink (map made_line lines) ≡ None
new_end [] = refl
new_end (x ∷ xs) = ap (λ (o : Option ℕ). raised o) (new_end xs)

begins : (routes : RouteMap) (lines : List SwitchLineConfig) → IsConfig lines →
    SwitchHolds (made routes lines) (new_legs lines)
begins routes lines is = record {
  joins = begins_right (map made_line lines) (new_legs lines) (λ x s e. new_agrees lines x.line x.channel s is.each e)
      (λ x e. new_place lines x.line x.channel is.each e)
      (λ x. new_joined lines x.line x.channel);
  calls = λ x h.
      absurd (true≢false (sym h.call ∙ ap (λ (s : Shown). had_call s.channel.state)
      (new_agrees lines x.line x.channel h.channel is.each h.there).shown));
  relayed = λ p j t e f. absurd (none-some j (sym (new_joined lines p.line p.channel) ∙ e));
  offered = new_offer lines is.each;
  no_relink = new_end lines;
  links = new_links lines is.each;
  fitting = fit_each (map made_line lines) (made_fit lines);
}

pub events_hold : EventLaw
events_hold = record { begins = begins; stays = stays; holds_on = holds_on }
