-- Something comes on one channel: once its notes are heeded, all joins are right again.
use Rattle.std.proofs.Common.{◌≡◌, ℕ, ◌⊎◌, inl, inr, Bool, true, false, not, List, [], ◌∷◌, ◌++◌, Option, Some, None, is_some, refl, sym, ap, ap₂, subst, ◌∙◌, true≢false, append-nil}
use Rattle.std.proofs.lemmas.Option.{none-some, same_Some}
use Rattle.link_timers.specs.declared.role.Role.{Role}
use Rattle.link_timers.specs.declared.role.Role.TheVariants.{Dte, Dce}
use Rattle.data_transfer.specs.Packets.{Note, Reason}
use Rattle.data_transfer.specs.Packets.Note.{Incoming, Connected, Closed, WasReset, InterruptConfirmed, Covered}
use Rattle.data_transfer.specs.Traffic.{Traffic, interrupt_pending}
use Rattle.packet_channel.specs.Channel.{ChannelState, Step, Refusal, refused_if, may_accept, waits_for_call, had_call, in_transfer, entered}
use Rattle.packet_channel.specs.Channel.ChannelState.{Ready, OwnWaiting, FarWaiting, Transfer, Collision, OwnClear}
use Rattle.packet_channel.specs.Channel.Request.{Accept}
use Rattle.packet_laws.specs.History.{Epoch, empty_epoch}
use Rattle.packet_laws.specs.Readable.{Every}
use Rattle.address_routes.specs.Routes.{RouteMap}
use Rattle.switch_joins.specs.Direction.{new_direction, Direction}
use Rattle.switch_joins.proofs.Turning.{nothing_is}
use Rattle.switch_joins.specs.declared.channels.SwitchChannel.{SwitchChannel}
use Rattle.switch_joins.specs.Joins.{Joined}
use Rattle.switch_lines.specs.Lines.{SwitchLine, same_place, joined_at, ask}
use Rattle.switch_lines.specs.Relay.{told, told_of}
use Rattle.switch_lines.specs.Switch.{heed, heed_all}
use Rattle.switch_laws.specs.Leg.{Leg, IsLeg, asked, asked_unless, stepped}
use Rattle.switch_laws.specs.Clause.{Passed, IsDirection, taken_part, sent_part}
use Rattle.switch_laws.specs.Way.{Way, sizes, IsRight}
use Rattle.switch_laws.specs.Join.{Join, IsJoin}
use Rattle.switch_laws.specs.Join as join
use Rattle.switch_laws.specs.Steps.{acts_of_all}
use Rattle.switch_laws.specs.Steps as steps
use Rattle.switch_laws.specs.EventSteps.{told_steps, heed_steps, heed_all_steps}
use Rattle.switch_laws.specs.World.Act.{Asks}
use Rattle.switch_laws.specs.World.{Act, World, IsWorld, IsAtStart, IsCallLeg, shown_at, layers_of}
use Rattle.switch_laws.specs.Joined.{IsWaiting, WaitsFor, IsPair, IsOver, IsJoinedAt, IsSwitchBefore, IsSwitch, Reached, Becomes, has_place}
use Rattle.switch_laws.specs.Joined.IsPair.{connected, waiting}
use Rattle.switch_laws.proofs.Directions.{direction_begins}
use Rattle.switch_laws.proofs.Legs.{asked_as}
use Rattle.switch_laws.proofs.Joins.{turned_join}
use Rattle.switch_laws.proofs.LegsByState.{accepts_before, start_good}
use Rattle.switch_laws.proofs.Relaying.{waits_before, waiting_before}
use Rattle.switch_laws.proofs.Places.{some_there}
use Rattle.switch_laws.proofs.Frame.{Touches, touches_none, touches_then, reached_none, reached_then, reached_there, frame, Pairing, pairing, pair_kept, apart_turned, not_not}
use Rattle.switch_laws.proofs.Leading.{Leads, acts_lead, told_leads, heed_leads}
use Rattle.switch_laws.proofs.NotesOfJoined.{told_acts, GoesOn, Stands, Told, tells, Asked, asks_other, Ended, closes, closes_none}
use Rattle.switch_laws.proofs.Outcomes.{AreOf, Outcome}
use Rattle.switch_laws.proofs.Outcomes.Outcome.{ends, connects, waits, goes_on}
use Rattle.switch_laws.proofs.SettingUp.{incoming_right, pair_call}

abbrev pub at : ℕ → ℕ → SwitchChannel
at n c = record { line = n; channel = c }

-- ---- notes of a channel that is not joined

pub always : (n : ℕ) (ls : List SwitchLine) (w : World) → IsSwitchBefore n [] ls w → IsSwitch ls w
always n ls w i = record {
  world = i.world;
  places = i.places;
  joined = λ x j e.
      let k = i.joined x j e in
      record { there = k.there; apart = k.apart; other = k.other; joined = k.joined; back = k.back; one_came_in = k.one_came_in; pair = elim k.pair [ inl h ↦ inl h | inr h ↦ inr (elim h [ inl y ↦ inl y | inr y ↦ inr y ]) ] };
}

-- the same with other notes of which none says that a call is over
abbrev SameOver : ℕ → List Note → List Note → Type 0
SameOver n ns ms = (x : SwitchChannel) → IsOver n ns x → IsOver n ms x

fewer : (n : ℕ) (ns ms : List Note) (ls : List SwitchLine) (w : World) → SameOver n ns ms → IsSwitchBefore n ns ls w → IsSwitchBefore n ms ls w
fewer n ns ms ls w f i = record {
  world = i.world;
  places = i.places;
  joined = λ x j e.
      let k = i.joined x j e in
      record { there = k.there; apart = k.apart; other = k.other; joined = k.joined; back = k.back; one_came_in = k.one_came_in; pair = elim k.pair [ inl h ↦ inl h | inr h ↦ inr (elim h [ inl y ↦ inl (f x y) | inr y ↦ inr (f j.other y) ]) ] };
}

-- the legs and the lines are as before
pub becomes_same : (ls ms : List SwitchLine) (w : World) → ms ≡ ls → IsSwitch ls w → Becomes [] ls w ms
becomes_same ls ms w e i = subst (λ (ks : List SwitchLine). Becomes [] ls w ks) (sym e) (record { world = w; reached = reached_none ls w; right = i })

pub becomes_then : {as_ bs : List Act} (ls ms ks : List SwitchLine) (w v : World) → Reached as_ ls w ms v → Becomes bs ms v ks → Becomes (as_ ++ bs) ls w ks
becomes_then ls ms ks w v r b = record { world = b.world; reached = reached_then ls ms ks w v b.world r b.reached; right = b.right }

-- and so it is by steps, one list after the other
pub becomes_by : (as_ bs : List steps.Step) (ls ms ks : List SwitchLine) (w v : World) → Leads as_ ls ms → Reached (acts_of_all as_ ls) ls w ms v → Becomes (acts_of_all bs ms) ms v ks → Becomes (acts_of_all (as_ ++ bs) ls) ls w ks
becomes_by as_ bs ls ms ks w v e r b = subst (λ (acts : List Act). Becomes acts ls w ks) (acts_lead as_ bs ls ms e) (becomes_then ls ms ks w v r b)

-- the lines and legs after these notes were heeded
abbrev pub Heeded : RouteMap → ℕ → List Note → List SwitchLine → World → Type 0
Heeded routes n ns ls w = Becomes (acts_of_all (heed_all_steps routes n ns ls) ls) ls w (heed_all routes n ns ls)

-- the first note is not of a joined channel
untold_first : (routes : RouteMap) (note : Note) (n c d : ℕ) (ns : List Note) (ls : List SwitchLine) (w : World) → d ≡ c → joined_at ls (at n c) ≡ None → Heeded routes n ns ls w
    → Becomes (acts_of_all (told_steps (joined_at ls (at n d)) note (at n d) ls ++ heed_all_steps routes n ns (told note (at n d) ls)) ls) ls w (heed_all routes n ns (told note (at n d) ls))
untold_first routes note n c d ns ls w e none h =
    subst (λ (o : Option Joined). Becomes (acts_of_all (told_steps o note (at n d) ls ++ heed_all_steps routes n ns (told_of o note (at n d) ls)) ls) ls w (heed_all routes n ns (told_of o note (at n d) ls)))
    (sym (ap (λ (k : ℕ). joined_at ls (at n k)) e ∙ none)) h

pub heeds_alone : (routes : RouteMap) (n c : ℕ) (s : ChannelState) (role : Role) (ns : List Note) (ls : List SwitchLine) (w : World) → AreOf c role s ns → IsSwitchBefore n ns ls w
    → joined_at ls (at n c) ≡ None → is_some (shown_at (layers_of ls) (at n c)) ≡ true → role ≡ (w (at n c)).role → s ≡ (w (at n c)).channel.state
    → Heeded routes n ns ls w
heeds_alone routes n c s role [] ls w of i none there r e = becomes_same ls ls w refl (always n ls w i)
heeds_alone routes n c s role (Incoming d parts ∷ ns) ls w of i none there r e =
    subst (λ (more : List Note). Becomes (acts_of_all (heed_steps routes n (Incoming d parts) ls ++ heed_all_steps routes n more (heed routes n (Incoming d parts) ls)) ls) ls w (heed_all routes n more (heed routes n (Incoming d parts) ls))) (sym of.1.1)
    (subst (λ (ss : List steps.Step). Becomes (acts_of_all ss ls) ls w (heed routes n (Incoming d parts) ls)) (sym (append-nil (heed_steps routes n (Incoming d parts) ls)))
    (subst (λ (k : ℕ). Becomes (acts_of_all (heed_steps routes n (Incoming k parts) ls) ls) ls w (heed routes n (Incoming k parts) ls)) (sym of.0)
    (incoming_right routes n c parts ls w (always n ls w (fewer n (Incoming d parts ∷ ns) [] ls w (λ x h. subst (λ (more : List Note). IsOver n more x) of.1.1 h) i)) none there
    (ap₂ (λ (y : Role) (z : ChannelState). may_accept y z) (sym r) (sym e) ∙ of.1.0))))
heeds_alone routes n c s role (Connected d ∷ ns) ls w of i none there r e =
    untold_first routes (Connected d) n c d ns ls w of.0 none (heeds_alone routes n c s role ns ls w of.1 (fewer n (Connected d ∷ ns) ns ls w (λ x h. h) i) none there r e)
heeds_alone routes n c s role (Closed d cause diagnostic reason ∷ ns) ls w of i none there r e =
    untold_first routes (Closed d cause diagnostic reason) n c d ns ls w of.0 none
    (heeds_alone routes n c s role ns ls w of.1 (closes_none n d cause diagnostic reason ns ls w (ap (λ (k : ℕ). joined_at ls (at n k)) of.0 ∙ none) i) none there r e)
heeds_alone routes n c s role (WasReset d cause diagnostic reason ∷ ns) ls w of i none there r e =
    untold_first routes (WasReset d cause diagnostic reason) n c d ns ls w of.0 none (heeds_alone routes n c s role ns ls w of.1 (fewer n (WasReset d cause diagnostic reason ∷ ns) ns ls w (λ x h. h) i) none there r e)
heeds_alone routes n c s role (InterruptConfirmed d ∷ ns) ls w of i none there r e =
    untold_first routes (InterruptConfirmed d) n c d ns ls w of.0 none (heeds_alone routes n c s role ns ls w of.1 (fewer n (InterruptConfirmed d ∷ ns) ns ls w (λ x h. h) i) none there r e)
heeds_alone routes n c s role (Covered d k ∷ ns) ls w of i none there r e =
    untold_first routes (Covered d k) n c d ns ls w of.0 none (heeds_alone routes n c s role ns ls w of.1 (fewer n (Covered d k ∷ ns) ns ls w (λ x h. h) i) none there r e)

-- ---- notes of a call that goes on

heeds_note : (routes : RouteMap) (n c : ℕ) (note : Note) (ls : List SwitchLine) → GoesOn c note → heed routes n note ls ≡ told note (at n c) ls
heeds_note routes n c (Incoming d parts) ls e = absurd e
heeds_note routes n c (Connected d) ls e = absurd e
heeds_note routes n c (Closed d cause diagnostic reason) ls e = absurd e
heeds_note routes n c (WasReset d cause diagnostic reason) ls e = ap (λ (k : ℕ). told (WasReset d cause diagnostic reason) (at n k) ls) e
heeds_note routes n c (InterruptConfirmed d) ls e = ap (λ (k : ℕ). told (InterruptConfirmed d) (at n k) ls) e
heeds_note routes n c (Covered d k) ls e = ap (λ (m : ℕ). told (Covered d k) (at n m) ls) e

heeds_steps : (routes : RouteMap) (n c : ℕ) (note : Note) (ls : List SwitchLine) → GoesOn c note → heed_steps routes n note ls ≡ told_steps (joined_at ls (at n c)) note (at n c) ls
heeds_steps routes n c (Incoming d parts) ls e = absurd e
heeds_steps routes n c (Connected d) ls e = absurd e
heeds_steps routes n c (Closed d cause diagnostic reason) ls e = absurd e
heeds_steps routes n c (WasReset d cause diagnostic reason) ls e = ap (λ (k : ℕ). told_steps (joined_at ls (at n k)) (WasReset d cause diagnostic reason) (at n k) ls) e
heeds_steps routes n c (InterruptConfirmed d) ls e = ap (λ (k : ℕ). told_steps (joined_at ls (at n k)) (InterruptConfirmed d) (at n k) ls) e
heeds_steps routes n c (Covered d k) ls e = ap (λ (m : ℕ). told_steps (joined_at ls (at n m)) (Covered d k) (at n m) ls) e

tells_all : (routes : RouteMap) (n c : ℕ) (ns : List Note) (ls : List SwitchLine) (w : World) (j k : Joined) (i : Join) → Every (GoesOn c) ns → Stands ls w (at n c) j k i
    → Told (acts_of_all (heed_all_steps routes n ns ls) ls) ls w (at n c) j k (heed_all routes n ns ls) (join.all_told ns i)
tells_all routes n c [] ls w j k i e s = record { world = w; touches = touches_none (at n c) j.other ls w; stands = s }
tells_all routes n c (x ∷ ns) ls w j k i e s =
    let t = tells c x ls w (at n c) j k i e.0 s in
    let u = tells_all routes n c ns (told x (at n c) ls) t.world j k (join.told x i) e.1 t.stands in
    let first : List steps.Step = told_steps (joined_at ls (at n c)) x (at n c) ls in
    let all : Told (acts_of_all (first ++ heed_all_steps routes n ns (told x (at n c) ls)) ls) ls w (at n c) j k (heed_all routes n ns (told x (at n c) ls)) (join.all_told ns (join.told x i)) = record {
      world = u.world;
      touches = subst (λ (acts : List Act). Touches acts (at n c) j.other ls w (heed_all routes n ns (told x (at n c) ls)) u.world)
          (acts_lead first (heed_all_steps routes n ns (told x (at n c) ls)) ls (told x (at n c) ls) (told_leads (joined_at ls (at n c)) x (at n c) ls))
          (touches_then (at n c) j.other ls (told x (at n c) ls) (heed_all routes n ns (told x (at n c) ls)) w t.world u.world t.touches u.touches);
      stands = u.stands;
    } in
    subst (λ (ms : List SwitchLine). Told (acts_of_all (heed_steps routes n x ls ++ heed_all_steps routes n ns ms) ls) ls w (at n c) j k (heed_all routes n ns ms) (join.all_told ns (join.told x i))) (sym (heeds_note routes n c x ls e.0))
    (subst (λ (ss : List steps.Step). Told (acts_of_all (ss ++ heed_all_steps routes n ns (told x (at n c) ls)) ls) ls w (at n c) j k (heed_all routes n ns (told x (at n c) ls)) (join.all_told ns (join.told x i))) (sym (heeds_steps routes n c x ls e.0)) all)

-- ---- a call is connected

start_there : (g h : Leg) → IsLeg g → IsLeg h → IsAtStart g → IsAtStart h → g.channel.state ≡ Transfer → h.channel.state ≡ Transfer → IsRight (record { near = g; far = h; kept = new_direction })
start_there g h ig ih a b s t =
    let w : Way = record { near = g; far = h; kept = new_direction } in
    record {
      holds = record {
        near = ig;
        far = ih;
        near_call = s;
        far_call = t;
        passed = subst (λ (ns : List Epoch). Passed (sizes w) ns h.before) (sym a.before) (subst (λ (fs : List Epoch). Passed (sizes w) [] fs) (sym b.before) Passed.none);
        direction = subst (λ (x : Epoch). IsDirection new_direction (taken_part x) (sent_part h.epoch)) (sym a.epoch) (subst (λ (x : Epoch). IsDirection new_direction (taken_part empty_epoch) (sent_part x)) (sym b.epoch) direction_begins);
        gathered = nothing_is _;
        packets = λ e. ap (λ (x : Epoch). x.sent) b.epoch ∙ sym (ap (λ (x : Epoch). x.taken) a.epoch);
        interrupted = ap (λ (u : Traffic). u.interrupt_taken) a.traffic ∙ sym (ap (λ (u : Traffic). interrupt_pending u) b.traffic);
      };
      all_released = refl;
    }

start_joined : (g h : Leg) → IsLeg g → IsLeg h → IsAtStart g → IsAtStart h → g.channel.state ≡ Transfer → h.channel.state ≡ Transfer → IsJoin (record { a = g; b = h; there = new_direction; back = new_direction })
start_joined g h ig ih a b s t = record { there = start_there g h ig ih a b s t; back = start_there h g ih ig b a t s }

accepted_leg : (g : Leg) → may_accept g.role g.channel.state ≡ true → asked Accept g ≡ asked_unless None Accept g
accepted_leg g e = asked_as Accept g (ap (λ (b : Bool). refused_if (not b) Refusal.NoCall None) e)

pub never_both : (role : Role) (s : ChannelState) → may_accept role s ≡ true → waits_for_call role s ≡ true → ⊥
never_both Dte Ready a e = true≢false (sym e)
never_both Dce Ready a e = true≢false (sym e)
never_both Dte OwnWaiting a e = true≢false (sym a)
never_both Dce OwnWaiting a e = true≢false (sym a)
never_both Dte FarWaiting a e = true≢false (sym e)
never_both Dce FarWaiting a e = true≢false (sym e)
never_both Dte Transfer a e = true≢false (sym e)
never_both Dce Transfer a e = true≢false (sym e)
never_both Dte Collision a e = true≢false (sym a)
never_both Dce Collision a e = true≢false (sym e)
never_both Dte OwnClear a e = true≢false (sym e)
never_both Dce OwnClear a e = true≢false (sym e)

-- where the one leg waits for its answer, the other one is that of the caller
caller_of : (b : Bool) (g h : Leg) → WaitsFor b g h → waits_for_call g.role g.channel.state ≡ true → IsWaiting h g
caller_of true g h i e = absurd (never_both g.role g.channel.state i.can_accept e)
caller_of false g h i e = i

waits_again : (b : Bool) (g g' h : Leg) → WaitsFor b g h → waits_for_call g.role g.channel.state ≡ true → waits_for_call g'.role g'.channel.state ≡ true → WaitsFor b g' h
waits_again true g g' h i e f = absurd (never_both g.role g.channel.state i.can_accept e)
waits_again false g g' h i e f = record { can_accept = i.can_accept; waits = f }

-- ---- a step of the channel

-- what came on the channel, before its notes are heeded
pub record Came (acts : List Act) (n c : ℕ) (ls : List SwitchLine) (w : World) (st : Step) (e : Epoch) (ms : List SwitchLine) (v : World) : Type 0 where
  pub touches : (q : SwitchChannel) → Touches acts (at n c) q ls w ms v
  pub joined : (x : SwitchChannel) → joined_at ms x ≡ joined_at ls x
  pub there : is_some (shown_at (layers_of ls) (at n c)) ≡ true
  pub leg : v (at n c) ≡ stepped st e (w (at n c))
  pub same_role : (v (at n c)).role ≡ (w (at n c)).role
  pub state : (v (at n c)).channel.state ≡ st.channel.state
  pub notes_of_it : AreOf c (w (at n c)).role st.channel.state st.notes
  pub outcome : had_call (w (at n c)).channel.state ≡ true → Outcome c (w (at n c)).role (w (at n c)).channel st
  pub goes : (h : Leg) (there back : Direction) → st.channel.state ≡ Transfer → IsJoin (record { a = h; b = w (at n c); there = there; back = back })
      → IsJoin (join.all_told st.notes (record { a = h; b = v (at n c); there = there; back = back }))

none_joined : {acts : List Act} (n c : ℕ) (ls ms : List SwitchLine) (w v : World) (st : Step) (e : Epoch) → Came acts n c ls w st e ms v → IsSwitch ls w → joined_at ls (at n c) ≡ None → IsSwitch ms v
none_joined n c ls ms w v st e k i none =
    let gone : joined_at ms (at n c) ≡ None = k.joined (at n c) ∙ none in
    frame 0 0 [] [] (at n c) (at n c) ls ms w v i (k.touches (at n c))
    (λ j f. absurd (none-some j (sym none ∙ f))) (λ j f. absurd (none-some j (sym none ∙ f))) (λ j f. absurd (none-some j (sym gone ∙ f))) (λ j f. absurd (none-some j (sym gone ∙ f)))
    (λ x a b f. f)

-- the notes of what came are heeded
abbrev pub After : List Act → RouteMap → ℕ → List Note → List SwitchLine → World → List SwitchLine → Type 0
After acts routes n ns ls w ms = Becomes (acts ++ acts_of_all (heed_all_steps routes n ns ms) ms) ls w (heed_all routes n ns ms)

comes_alone : {acts : List Act} (routes : RouteMap) (n c : ℕ) (ls ms : List SwitchLine) (w v : World) (st : Step) (e : Epoch) → Came acts n c ls w st e ms v → IsSwitch ls w → joined_at ls (at n c) ≡ None
    → After acts routes n st.notes ls w ms
comes_alone routes n c ls ms w v st e k i none =
    let right = none_joined n c ls ms w v st e k i none in
    let before : IsSwitchBefore n st.notes ms v = lift ms v right st.notes n in
    becomes_then ls ms (heed_all routes n st.notes ms) w v (k.touches (at n c)).reached
    (heeds_alone routes n c st.channel.state (w (at n c)).role st.notes ms v k.notes_of_it before (k.joined (at n c) ∙ none)
    (reached_there ls ms w v (k.touches (at n c)).reached (at n c) ∙ k.there) (sym k.same_role) (sym k.state))
  where
    lift : (ms : List SwitchLine) (v : World) → IsSwitch ms v → (ns : List Note) (m : ℕ) → IsSwitchBefore m ns ms v
    lift ms v i ns m = record {
      world = i.world;
      places = i.places;
      joined = λ x j f.
          let k = i.joined x j f in
          record { there = k.there; apart = k.apart; other = k.other; joined = k.joined; back = k.back; one_came_in = k.one_came_in; pair = elim k.pair [ inl h ↦ inl h | inr h ↦ elim h [ inl y ↦ absurd y | inr y ↦ absurd y ] ] };
    }

-- the call on it is over
comes_over : {acts : List Act} (routes : RouteMap) (n c cause diagnostic : ℕ) (reason : Reason) (rest : List Note) (ls ms : List SwitchLine) (w v : World) (st : Step) (e : Epoch) (j k : Joined)
    → Came acts n c ls w st e ms v → IsSwitch ls w → Pairing ls (at n c) j k → st.notes ≡ Closed c cause diagnostic reason ∷ rest → After acts routes n st.notes ls w ms
comes_over {acts} routes n c cause diagnostic reason rest ls ms w v st e j k came i s is =
    subst (λ (ns : List Note). After acts routes n ns ls w ms) (sym is)
    (becomes_then ls ms (heed_all routes n ns ms) w v t.reached
    (becomes_by (heed_steps routes n (Closed c cause diagnostic reason) ms) (heed_all_steps routes n rest over_) ms over_ (heed_all routes n rest over_) v ended.world
    (heed_leads routes n (Closed c cause diagnostic reason) ms) ended.reached
    (heeds_alone routes n c st.channel.state (w p).role rest over_ ended.world (subst (λ (ns : List Note). AreOf c (w p).role st.channel.state ns) is came.notes_of_it).1 ended.right ended.not_joined
    (reached_there ms over_ v ended.world ended.reached p ∙ (reached_there ls ms w v t.reached p ∙ s.p_there))
    (sym (ap (λ (g : Leg). g.role) ended.leg ∙ came.same_role)) (sym (ap (λ (g : Leg). g.channel.state) ended.leg ∙ came.state)))))
  where
    p : SwitchChannel
    p = at n c

    q : SwitchChannel
    q = j.other

    ns : List Note
    ns = Closed c cause diagnostic reason ∷ rest

    t : Touches acts p q ls w ms v
    t = came.touches q

    here : joined_at ms p ≡ Some j
    here = came.joined p ∙ s.here

    there : joined_at ms q ≡ Some k
    there = came.joined q ∙ s.there

    before : IsSwitchBefore n ns ms v
    before =
        frame 0 n [] ns p q ls ms w v i t
        (λ x f. ap (λ (y : Joined). y.other) (same_Some x j (sym f ∙ s.here)))
        (λ x f. ap (λ (y : Joined). y.other) (same_Some x k (sym f ∙ s.there)) ∙ s.back)
        (λ x f. subst (λ (y : Joined). IsJoinedAt n ns ms v p y) (same_Some j x (sym here ∙ f)) at_p)
        (λ x f. subst (λ (y : Joined). IsJoinedAt n ns ms v q y) (same_Some k x (sym there ∙ f)) at_q)
        (λ x a b f. absurd f)
      where
        at_p : IsJoinedAt n ns ms v p j
        at_p = record { there = reached_there ls ms w v t.reached p ∙ s.p_there; apart = s.apart; other = k; joined = there; back = s.back; one_came_in = s.one_came_in; pair = inr (inl (inl refl)) }

        at_q : IsJoinedAt n ns ms v q k
        at_q = record {
          there = reached_there ls ms w v t.reached q ∙ s.q_there;
          apart = subst (λ (y : SwitchChannel). same_place q y ≡ false) (sym s.back) (apart_turned p q s.apart);
          other = j;
          joined = ap (λ (y : SwitchChannel). joined_at ms y) s.back ∙ here;
          back = refl;
          one_came_in = not_not k.came_in j.came_in s.one_came_in;
          pair = inr (inr (inl s.back));
        }

    over_ : List SwitchLine
    over_ = told (Closed c cause diagnostic reason) p ms

    ended : Ended (told_acts (Closed c cause diagnostic reason) p ms) n rest ms v over_ p
    ended = closes n c cause diagnostic reason rest ms v before

-- the call on it goes on
comes_on : {acts : List Act} (routes : RouteMap) (n c : ℕ) (ls ms : List SwitchLine) (w v : World) (st : Step) (e : Epoch) (j k : Joined) → Came acts n c ls w st e ms v → IsSwitch ls w → Pairing ls (at n c) j k
    → IsJoin (record { a = w (at n c); b = w j.other; there = j.kept; back = k.kept }) → st.channel.state ≡ Transfer → Every (GoesOn c) st.notes → After acts routes n st.notes ls w ms
comes_on {acts} routes n c ls ms w v st e j k came i s right state notes = record {
  world = told_.world;
  reached = all.reached;
  right = pair_kept 0 0 [] [] ls ks w told_.world p j k after.back after.there i s all told_.stands.pair.here told_.stands.pair.there (connected joined) (λ x a b f. f);
}
  where
    p : SwitchChannel
    p = at n c

    q : SwitchChannel
    q = j.other

    ks : List SwitchLine
    ks = heed_all routes n st.notes ms

    t : Touches acts p q ls w ms v
    t = came.touches q

    before : Join
    before = record { a = w q; b = v p; there = k.kept; back = j.kept }

    after : Join
    after = join.all_told st.notes before

    stands : Stands ms v p j k before
    stands = record {
      pair = record {
        here = came.joined p ∙ s.here;
        there = came.joined q ∙ s.there;
        back = s.back;
        apart = s.apart;
        one_came_in = s.one_came_in;
        p_there = reached_there ls ms w v t.reached p ∙ s.p_there;
        q_there = reached_there ls ms w v t.reached q ∙ s.q_there;
      };
      near = refl;
      far = (came.touches p).legs q (apart_turned p q s.apart) (apart_turned p q s.apart);
    }

    told_ : Told (acts_of_all (heed_all_steps routes n st.notes ms) ms) ms v p j k ks after
    told_ = tells_all routes n c st.notes ms v j k before notes stands

    all : Touches (acts ++ acts_of_all (heed_all_steps routes n st.notes ms) ms) p q ls w ks told_.world
    all = touches_then p q ls ms ks w v told_.world t told_.touches

    is_join : IsJoin after
    is_join = came.goes (w q) k.kept j.kept state (turned_join _ right)

    joined : IsJoin (record { a = told_.world p; b = told_.world q; there = after.back; back = after.there })
    joined =
        subst (λ (g : Leg). IsJoin (record { a = g; b = told_.world q; there = after.back; back = after.there })) (sym told_.stands.near)
        (subst (λ (h : Leg). IsJoin (record { a = after.b; b = h; there = after.back; back = after.there })) (sym told_.stands.far) (turned_join after is_join))

-- the call that was placed on it is connected
comes_connected : {acts : List Act} (routes : RouteMap) (n c : ℕ) (ls ms : List SwitchLine) (w v : World) (st : Step) (e : Epoch) (j k : Joined) → Came acts n c ls w st e ms v → IsSwitch ls w → Pairing ls (at n c) j k
    → j.kept ≡ new_direction → k.kept ≡ new_direction → WaitsFor j.came_in (w (at n c)) (w j.other) → waits_for_call (w (at n c)).role (w (at n c)).channel.state ≡ true
    → e ≡ (w (at n c)).epoch → st ≡ record { channel = entered Transfer (w (at n c)).channel; owes = None; notes = Connected c ∷ [] } → After acts routes n st.notes ls w ms
comes_connected {acts} routes n c ls ms w v st e j k came i s new_here new_there waiting_ callee epoch is =
    subst (λ (ns : List Note). After acts routes n ns ls w ms) (sym (ap (λ (x : Step). x.notes) is))
    (subst (λ (o : Option Joined). Becomes (acts ++ acts_of_all (told_steps o (Connected c) p ms ++ []) ms) ls w (told_of o (Connected c) p ms)) (sym here) (record {
      world = a.world;
      reached = all.reached;
      right = pair_kept 0 0 [] [] ls ks w a.world p j k j.kept k.kept i s all a.here a.there (connected joined) (λ x b d f. f);
    }))
  where
    p : SwitchChannel
    p = at n c

    q : SwitchChannel
    q = j.other

    ks : List SwitchLine
    ks = ask q Accept ms

    t : Touches acts p q ls w ms v
    t = came.touches q

    here : joined_at ms p ≡ Some j
    here = came.joined p ∙ s.here

    pair : Pairing ms p j k
    pair = record {
      here = here;
      there = came.joined q ∙ s.there;
      back = s.back;
      apart = s.apart;
      one_came_in = s.one_came_in;
      p_there = reached_there ls ms w v t.reached p ∙ s.p_there;
      q_there = reached_there ls ms w v t.reached q ∙ s.q_there;
    }

    a : Asked Accept ms v p j k ks
    a = asks_other Accept ms v p j k tt pair

    all : Touches (acts ++ Asks q Accept ∷ []) p q ls w ks a.world
    all = touches_then p q ls ms ks w v a.world t a.touches

    caller : IsWaiting (w q) (w p)
    caller = caller_of j.came_in (w p) (w q) waiting_ callee

    good_p : IsCallLeg (w p)
    good_p = let f = some_there (shown_at (layers_of ls) p) s.p_there in (i.world p f.0 f.1).leg

    good_q : IsCallLeg (w q)
    good_q = let f = some_there (shown_at (layers_of ls) q) s.q_there in (i.world q f.0 f.1).leg

    -- the leg of p
    near : Leg
    near = stepped (record { channel = entered Transfer (w p).channel; owes = None; notes = Connected c ∷ [] }) (w p).epoch (w p)

    near_is : a.world p ≡ near
    near_is = a.near ∙ (came.leg ∙ ap₂ (λ (x : Step) (y : Epoch). stepped x y (w p)) is epoch)

    start_p : IsAtStart near
    start_p = let h = good_p.start (waits_before j.came_in (w p) (w q) waiting_).0 in record { not_resetting = h.not_resetting; traffic = h.traffic; before = h.before; epoch = h.epoch }

    far : Leg
    far = asked_unless None Accept (w q)

    far_is : a.world q ≡ far
    far_is =
        a.far ∙ (ap (λ (g : Leg). asked Accept g) ((came.touches p).legs q (apart_turned p q s.apart) (apart_turned p q s.apart)) ∙ accepted_leg (w q) caller.can_accept)

    start_q : IsAtStart far
    start_q = let h = good_q.start (accepts_before (w q).role (w q).channel.state caller.can_accept) in record { not_resetting = h.not_resetting; traffic = h.traffic; before = h.before; epoch = h.epoch }

    right : IsJoin (record { a = near; b = far; there = new_direction; back = new_direction })
    right =
        start_joined near far (start_good near good_p.leg.flow start_p).leg (start_good far good_q.leg.flow start_q).leg start_p start_q refl refl

    joined : IsJoin (record { a = a.world p; b = a.world q; there = j.kept; back = k.kept })
    joined =
        subst (λ (g : Leg). IsJoin (record { a = g; b = a.world q; there = j.kept; back = k.kept })) (sym near_is)
        (subst (λ (h : Leg). IsJoin (record { a = near; b = h; there = j.kept; back = k.kept })) (sym far_is)
        (subst (λ (d : Direction). IsJoin (record { a = near; b = far; there = d; back = k.kept })) (sym new_here)
        (subst (λ (d : Direction). IsJoin (record { a = near; b = far; there = new_direction; back = d })) (sym new_there) right)))

-- it still waits for its answer
comes_waiting : {acts : List Act} (routes : RouteMap) (n c : ℕ) (ls ms : List SwitchLine) (w v : World) (st : Step) (e : Epoch) (j k : Joined) → Came acts n c ls w st e ms v → IsSwitch ls w → Pairing ls (at n c) j k
    → j.kept ≡ new_direction → k.kept ≡ new_direction → WaitsFor j.came_in (w (at n c)) (w j.other) → waits_for_call (w (at n c)).role (w (at n c)).channel.state ≡ true
    → waits_for_call (w (at n c)).role st.channel.state ≡ true → st.notes ≡ [] → After acts routes n st.notes ls w ms
comes_waiting {acts} routes n c ls ms w v st e j k came i s new_here new_there waiting_ callee still none =
    subst (λ (ns : List Note). After acts routes n ns ls w ms) (sym none) (record {
      world = v;
      reached = reached_then ls ms ms w v v t.reached (reached_none ms v);
      right = pair_kept 0 0 [] [] ls ms w v p j k j.kept k.kept i s t (came.joined p ∙ s.here) (came.joined q ∙ s.there) (waiting new_here new_there now) (λ x b d f. f);
    })
  where
    p : SwitchChannel
    p = at n c

    q : SwitchChannel
    q = j.other

    t : Touches acts p q ls w ms v
    t = came.touches q

    now : WaitsFor j.came_in (v p) (v q)
    now =
        subst (λ (h : Leg). WaitsFor j.came_in (v p) h) (sym ((came.touches p).legs q (apart_turned p q s.apart) (apart_turned p q s.apart)))
        (waits_again j.came_in (w p) (v p) (w q) waiting_ callee (ap₂ (λ (x : Role) (y : ChannelState). waits_for_call x y) came.same_role came.state ∙ still))

comes_pair : {acts : List Act} (routes : RouteMap) (n c : ℕ) (ls ms : List SwitchLine) (w v : World) (st : Step) (e : Epoch) (j k : Joined) → e ≡ (w (at n c)).epoch ⊎ (in_transfer (w (at n c)).channel.state ≡ true)
    → Came acts n c ls w st e ms v → IsSwitch ls w → Pairing ls (at n c) j k → IsPair (w (at n c)) (w j.other) j k → Outcome c (w (at n c)).role (w (at n c)).channel st
    → After acts routes n st.notes ls w ms
comes_pair routes n c ls ms w v st e j k ep came i s pair (ends cause diagnostic reason rest is) = comes_over routes n c cause diagnostic reason rest ls ms w v st e j k came i s is
comes_pair routes n c ls ms w v st e j k ep came i s (connected h) (goes_on before after notes) = comes_on routes n c ls ms w v st e j k came i s h after notes
comes_pair routes n c ls ms w v st e j k ep came i s (connected h) (connects callee is) =
    absurd (true≢false (sym (ap (λ (x : ChannelState). in_transfer x) h.there.holds.near_call) ∙ waiting_before (w (at n c)).role (w (at n c)).channel.state callee))
comes_pair routes n c ls ms w v st e j k ep came i s (connected h) (waits callee is still) =
    absurd (true≢false (sym (ap (λ (x : ChannelState). in_transfer x) h.there.holds.near_call) ∙ waiting_before (w (at n c)).role (w (at n c)).channel.state callee))
comes_pair routes n c ls ms w v st e j k ep came i s (waiting a b h) (goes_on before after notes) =
    absurd (true≢false (sym (ap (λ (x : ChannelState). in_transfer x) before) ∙ (waits_before j.came_in (w (at n c)) (w j.other) h).0))
comes_pair routes n c ls ms w v st e j k ep came i s (waiting a b h) (connects callee is) =
    comes_connected routes n c ls ms w v st e j k came i s a b h callee (same_epoch ep) is
  where
    same_epoch : e ≡ (w (at n c)).epoch ⊎ (in_transfer (w (at n c)).channel.state ≡ true) → e ≡ (w (at n c)).epoch
    same_epoch (inl is) = is
    same_epoch (inr t) = absurd (true≢false (sym t ∙ (waits_before j.came_in (w (at n c)) (w j.other) h).0))
comes_pair routes n c ls ms w v st e j k ep came i s (waiting a b h) (waits callee is still) =
    comes_waiting routes n c ls ms w v st e j k came i s a b h callee (ap (λ (x : Step). waits_for_call (w (at n c)).role x.channel.state) is ∙ still) (ap (λ (x : Step). x.notes) is)

comes_by : {acts : List Act} (o : Option Joined) (routes : RouteMap) (n c : ℕ) (ls ms : List SwitchLine) (w v : World) (st : Step) (e : Epoch) → joined_at ls (at n c) ≡ o → e ≡ (w (at n c)).epoch ⊎ (in_transfer (w (at n c)).channel.state ≡ true)
    → Came acts n c ls w st e ms v → IsSwitch ls w → After acts routes n st.notes ls w ms
comes_by None routes n c ls ms w v st e f ep came i = comes_alone routes n c ls ms w v st e came i f
comes_by (Some j) routes n c ls ms w v st e f ep came i =
    let k = i.joined (at n c) j f in
    elim k.pair [
      | inl h ↦ comes_pair routes n c ls ms w v st e j k.other ep came i (pairing 0 [] ls w (at n c) j i f k) h (came.outcome (pair_call (w (at n c)) (w j.other) j k.other h))
      | inr h ↦ elim h [ inl y ↦ absurd y | inr y ↦ absurd y ]
    ]

pub comes : {acts : List Act} (routes : RouteMap) (n c : ℕ) (ls ms : List SwitchLine) (w v : World) (st : Step) (e : Epoch) → e ≡ (w (at n c)).epoch ⊎ (in_transfer (w (at n c)).channel.state ≡ true)
    → Came acts n c ls w st e ms v → IsSwitch ls w → After acts routes n st.notes ls w ms
comes routes n c ls ms w v st e ep came i = comes_by (joined_at ls (at n c)) routes n c ls ms w v st e refl ep came i

-- ---- no joins yet

pub begins_right : (ls : List SwitchLine) (w : World) → IsWorld (layers_of ls) w → ((x : SwitchChannel) → is_some (shown_at (layers_of ls) x) ≡ true → has_place ls x ≡ true)
    → ((x : SwitchChannel) → joined_at ls x ≡ None) → IsSwitch ls w
begins_right ls w i places none = record { world = i; places = places; joined = λ x j e. absurd (none-some j (sym (none x) ∙ e)) }
