-- What the switch relays on its lines is what the two legs of a join relay, and no other join is touched.
use Rattle.std.proofs.Common.{◌≡◌, ℕ, zero, suc, ◌+◌, arith, ◌⊎◌, inl, inr, Bool, true, false, List, [], ◌∷◌, ◌++◌, map, append-nil, Option, Some, None, is_some, refl, sym, ap, ap₂, subst, ◌∙◌, true≢false}
use Rattle.std.specs.Prelude.{slice_get}
use Rattle.std.proofs.lemmas.Option.{none-some, same_Some}
use Rattle.link_timers.specs.declared.role.Role.{Role}
use Rattle.link_timers.specs.declared.role.Role.TheVariants.{Dte, Dce}
use Rattle.data_transfer.specs.Packets.{Datum}
use Rattle.data_transfer.specs.Traffic.{Taken, Traffic, front}
use Rattle.data_transfer.specs.Traffic.Taken.{TakenInterrupt, TakenPacket}
use Rattle.packet_channel.specs.Channel.{ChannelState, Request, in_transfer, waits_for_call}
use Rattle.packet_channel.specs.Channel.ChannelState.{Ready, OwnWaiting, FarWaiting, Transfer, Collision, OwnClear}
use Rattle.packet_channel.specs.Channel.Request.{Sending, Taking, Releasing}
use Rattle.switch_joins.specs.Turning.{Sizes, Gathered, turned}
use Rattle.switch_joins.specs.Direction.{Direction, releasable, released}
use Rattle.switch_joins.specs.declared.channels.SwitchChannel.{SwitchChannel}
use Rattle.switch_joins.specs.Joins.{Joined}
use Rattle.switch_lines.specs.Lines.{SwitchLine, same_place, joined_at, ask, ask_all, front_at, size_of_line, sizes_at, takes_all, takes_at, places, places_on, places_from}
use Rattle.switch_lines.specs.Relay.{carried_by, requests_for, due_at, moved, moved_joined, moved_front, moved_if, relayed, relayed_from, all_relayed, legs_of, places_first, relayed_first, most_moves}
use Rattle.switch_lines.proofs.Relaying.{relayed_stays}
use Rattle.packet_laws.specs.Readable.{Every}
use Rattle.switch_laws.specs.Leg.{Leg, asked, asked_all}
use Rattle.switch_laws.specs.Way.{Way}
use Rattle.switch_laws.specs.Way as way
use Rattle.switch_laws.specs.Join.{IsJoin}
use Rattle.switch_laws.specs.World.{World, IsWorld, Shown, shown_at, layers_of, Act, MayAsk, world_after}
use Rattle.switch_laws.specs.World.Act.{Asks}
use Rattle.switch_laws.specs.Joined.{WaitsFor, IsPair, IsSwitch, HasRelayedAll, Reached, Becomes, has_nth, has_place_on, has_place}
use Rattle.switch_laws.specs.Joined.IsPair.{connected, waiting}
use Rattle.switch_laws.specs.Steps.{Step, acts_of_all}
use Rattle.switch_laws.specs.EventSteps.{asks_steps, freed_steps, moved_if_steps, moved_front_steps, moved_joined_steps, relayed_steps, relayed_from_steps, all_relayed_steps, relayed_first_steps}
use Rattle.switch_laws.proofs.Leading.{acts_lead, moved_leads, relayed_leads}
use Rattle.switch_laws.proofs.Joins.{there_right}
use Rattle.switch_laws.proofs.Lists.{same_as}
use Rattle.switch_laws.proofs.Ways.{Near, Open, open_of, Beside, relayed_beside, relayed_stuck, same_takes}
use Rattle.switch_laws.proofs.LegsByState.{accepts_before}
use Rattle.switch_laws.proofs.Places.{joined_here, joined_place, front_is, takes_is, size_is, some_there, leg_asked, leg_apart}
use Rattle.switch_laws.proofs.Frame.{Touches, touches_none, touches_then, touches_turned, touches_asked, touches_joined, reached_there, reached_none, reached_then, other_apart, Pairing, pairing, pair_kept, apart_turned}
use Rattle.switch_joins.proofs.Apart.{decided, place_is}
use Rattle.switch_lines.proofs.Places.{joined_asked, joined_asks, joined_apart}

-- ---- what is seen at the lines is the legs

pub front_of_leg : (ls : List SwitchLine) (w : World) (p : SwitchChannel) → IsWorld (layers_of ls) w → is_some (shown_at (layers_of ls) p) ≡ true → front_at ls p ≡ front (w p).channel.traffic
front_of_leg ls w p i e =
    let s = some_there (shown_at (layers_of ls) p) e in
    front_is ls p.line p.channel s.0 s.1 ∙ ap (λ (t : Shown). front t.channel.traffic) (i p s.0 s.1).shown

pub takes_of_leg : (ls : List SwitchLine) (w : World) (p : SwitchChannel) (qs : List Request) → IsWorld (layers_of ls) w → is_some (shown_at (layers_of ls) p) ≡ true
    → takes_at ls p qs ≡ takes_all (w p).role (w p).flow (w p).channel qs
takes_of_leg ls w p qs i e =
    let s = some_there (shown_at (layers_of ls) p) e in
    takes_is ls p.line p.channel qs s.0 s.1 ∙ ap (λ (t : Shown). takes_all t.role t.flow t.channel qs) (i p s.0 s.1).shown

size_of_leg : (ls : List SwitchLine) (w : World) (p : SwitchChannel) → IsWorld (layers_of ls) w → is_some (shown_at (layers_of ls) p) ≡ true → size_of_line (slice_get ls p.line) ≡ (w p).flow.size
size_of_leg ls w p i e =
    let s = some_there (shown_at (layers_of ls) p) e in
    size_is ls p.line p.channel s.0 s.1 ∙ ap (λ (t : Shown). t.flow.size) (i p s.0 s.1).shown

sizes_of_legs : (ls : List SwitchLine) (w : World) (p q : SwitchChannel) → IsWorld (layers_of ls) w → is_some (shown_at (layers_of ls) p) ≡ true → is_some (shown_at (layers_of ls) q) ≡ true
    → sizes_at ls p q ≡ record { near = (w p).flow.size; far = (w q).flow.size }
sizes_of_legs ls w p q i a b = ap₂ (λ (n m : ℕ). record { near = n; far = m }) (size_of_leg ls w p i a) (size_of_leg ls w q i b)

-- ---- one move

-- the way from p
abbrev pub way_at : World → SwitchChannel → SwitchChannel → Direction → Way
way_at w p q d = record { near = w p; far = w q; kept = d }

pub record Moved (acts : List Act) (ls : List SwitchLine) (w : World) (p : SwitchChannel) (j k : Joined) (ms : List SwitchLine) (to : Way) : Type 0 where
  pub world : World
  pub touches : Touches acts p j.other ls w ms world
  pub switch : IsSwitch ms world
  pub kept : Direction
  pub here : joined_at ms p ≡ Some (record j { kept = kept })
  pub there : joined_at ms j.other ≡ Some k
  pub is : way_at world p j.other kept ≡ to

may_send : (ds : List Datum) → Every MayAsk (map Sending ds)
may_send [] = tt
may_send (d ∷ ds) = (tt, may_send ds)

pub may_ask : (s : Sizes) (g : Gathered) (t : Taken) → Every MayAsk (requests_for s g t)
may_ask s g (TakenInterrupt octets) = (tt, tt)
may_ask s g (TakenPacket d) = may_send (turned s g d).made

stays : (ls : List SwitchLine) (w : World) (p : SwitchChannel) (j k : Joined) → IsSwitch ls w → Pairing ls p j k → Moved [] ls w p j k ls (way_at w p j.other j.kept)
stays ls w p j k i s = record { world = w; touches = touches_none p j.other ls w; switch = i; kept = j.kept; here = s.here; there = s.there; is = refl }

same_way : (g h : Leg) (g' h' : Leg) (d : Direction) → g ≡ g' → h ≡ h' → ◌≡◌ {A = Way} (record { near = g; far = h; kept = d }) (record { near = g'; far = h'; kept = d })
same_way g h g' h' d a b = ap₂ (λ (x y : Leg). record { near = x; far = y; kept = d }) a b

-- several requests to one leg of two
abbrev asks_acts : SwitchChannel → List Request → List Act
asks_acts q [] = []
asks_acts q (r ∷ rs) = Asks q r ∷ asks_acts q rs

record AskedOn (q p : SwitchChannel) (rs : List Request) (ls : List SwitchLine) (w : World) : Type 0 where
  world : World
  touches : Touches (asks_acts q rs) q p ls w (ask_all q rs ls) world
  asked : world q ≡ asked_all rs (w q)
  other : world p ≡ w p

asks_on : (q p : SwitchChannel) (rs : List Request) (ls : List SwitchLine) (w : World) → is_some (shown_at (layers_of ls) q) ≡ true → same_place p q ≡ false → Every MayAsk rs → AskedOn q p rs ls w
asks_on q p [] ls w there apart may = record { world = w; touches = touches_none q p ls w; asked = refl; other = refl }
asks_on q p (r ∷ rs) ls w there apart may =
    let v = world_after (Asks q r) (layers_of ls) w in
    let first = touches_asked q p r ls w may.0 in
    let rest = asks_on q p rs (ask q r ls) v (reached_there ls (ask q r ls) w v first.reached q ∙ there) apart may.1 in
    record {
      world = rest.world;
      touches = touches_then q p ls (ask q r ls) (ask_all q rs (ask q r ls)) w v rest.world first rest.touches;
      asked = rest.asked ∙ ap (λ (g : Leg). asked_all rs g) (leg_asked q r (layers_of ls) w there);
      other = rest.other ∙ leg_apart q r (layers_of ls) w p apart;
    }

-- the steps of a move are these acts
asks_then : (q : SwitchChannel) (rs : List Request) (more : List Step) (ls : List SwitchLine) → acts_of_all (asks_steps q rs ++ more) ls ≡ asks_acts q rs ++ acts_of_all more (ask_all q rs ls)
asks_then q [] more ls = refl
asks_then q (r ∷ rs) more ls = ap (λ (acts : List Act). Asks q r ∷ acts) (asks_then q rs more (ask q r ls))

-- the other leg takes all that is due
moves_on : (t : Taken) (ls : List SwitchLine) (w : World) (p : SwitchChannel) (j k : Joined) → IsSwitch ls w → Pairing ls p j k
    → IsJoin (record { a = w p; b = w j.other; there = j.kept; back = k.kept }) → way.moved (way_at w p j.other j.kept) ≡ way.moved_if true t (way_at w p j.other j.kept)
    → Moved (acts_of_all (moved_if_steps true t p j ls) ls) ls w p j k (moved_if true t p j ls) (way.moved_if true t (way_at w p j.other j.kept))
moves_on t ls w p j k i s c e = record {
  world = v;
  touches = subst (λ (acts : List Act). Touches acts p q ls w ms v) (sym steps) touches;
  switch = pair_kept 0 0 [] [] ls ms w v p j k kept k.kept i s touches here there (connected right) (λ x a b f. f);
  kept = kept;
  here = here;
  there = there;
  is = is;
}
  where
    q : SwitchChannel
    q = j.other

    sizes : Sizes
    sizes = sizes_at ls p q

    rs : List Request
    rs = due_at ls p j t

    kept : Direction
    kept = released (carried_by sizes t j.kept)

    n : ℕ
    n = releasable (carried_by sizes t j.kept).held

    l1 : List SwitchLine
    l1 = ask p Taking ls

    w1 : World
    w1 = world_after (Asks p Taking) (layers_of ls) w

    t1 : Touches (Asks p Taking ∷ []) p q ls w l1 w1
    t1 = touches_asked p q Taking ls w tt

    l2 : List SwitchLine
    l2 = ask_all q rs l1

    on : AskedOn q p rs l1 w1
    on = asks_on q p rs l1 w1 (reached_there ls l1 w w1 t1.reached q ∙ s.q_there) s.apart (may_ask sizes j.kept.gathered t)

    w2 : World
    w2 = on.world

    l3 : List SwitchLine
    l3 = ask p (Releasing n) l2

    v : World
    v = world_after (Asks p (Releasing n)) (layers_of l2) w2

    ms : List SwitchLine
    ms = moved_if true t p j ls

    t2 : Touches (Asks p Taking ∷ asks_acts q rs) p q ls w l2 w2
    t2 = touches_then p q ls l1 l2 w w1 w2 t1 (touches_turned q p l1 l2 w1 w2 on.touches)

    t3 : Touches ((Asks p Taking ∷ asks_acts q rs) ++ Asks p (Releasing n) ∷ []) p q ls w l3 v
    t3 = touches_then p q ls l2 l3 w w2 v t2 (touches_asked p q (Releasing n) l2 w2 tt)

    acts : List Act
    acts = (Asks p Taking ∷ asks_acts q rs) ++ Asks p (Releasing n) ∷ []

    touches : Touches acts p q ls w ms v
    touches = subst (λ (as_ : List Act). Touches as_ p q ls w ms v) (append-nil acts) (touches_then p q ls l3 ms w v v t3 (touches_joined p q (Some (record j { kept = kept })) l3 v))

    steps : acts_of_all (moved_if_steps true t p j ls) ls ≡ acts
    steps = ap (λ (as_ : List Act). Asks p Taking ∷ as_) (asks_then q rs (freed_steps p j (carried_by sizes t j.kept)) l1)

    here : joined_at ms p ≡ Some (record j { kept = kept })
    here = joined_here p (Some (record j { kept = kept })) l3 (t3.places p ∙ joined_place ls p j s.here)

    there : joined_at ms q ≡ Some k
    there =
        joined_apart p (Some (record j { kept = kept })) q l3 (apart_turned p q s.apart)
        ∙ (joined_asked p (Releasing n) q l2 ∙ (joined_asks q rs q l1 ∙ (joined_asked p Taking q ls ∙ s.there)))

    near : v p ≡ asked (Releasing n) (asked Taking (w p))
    near =
        leg_asked p (Releasing n) (layers_of l2) w2 (reached_there ls l2 w w2 t2.reached p ∙ s.p_there)
        ∙ ap (λ (g : Leg). asked (Releasing n) g) (on.other ∙ leg_asked p Taking (layers_of ls) w s.p_there)

    far : v q ≡ asked_all rs (w q)
    far =
        leg_apart p (Releasing n) (layers_of l2) w2 q (apart_turned p q s.apart)
        ∙ (on.asked ∙ ap (λ (g : Leg). asked_all rs g) (leg_apart p Taking (layers_of ls) w q (apart_turned p q s.apart)))

    -- what the lines say of the sizes is what the legs say
    by_sizes : Sizes → Way
    by_sizes z = record {
      near = asked (Releasing (releasable (carried_by z t j.kept).held)) (asked Taking (w p));
      far = asked_all (requests_for z j.kept.gathered t) (w q);
      kept = released (carried_by z t j.kept);
    }

    is : way_at v p q kept ≡ way.moved_if true t (way_at w p q j.kept)
    is = same_way (v p) (v q) _ _ kept near far ∙ ap by_sizes (sizes_of_legs ls w p q i.world s.p_there s.q_there)

    right : IsJoin (record { a = v p; b = v q; there = kept; back = k.kept })
    right =
        subst (λ (x : Way). IsJoin (record { a = x.near; b = x.far; there = x.kept; back = k.kept })) (e ∙ sym is)
        (there_right 1 (record { a = w p; b = w q; there = j.kept; back = k.kept }) c)

by_takes : (b : Bool) (t : Taken) (ls : List SwitchLine) (w : World) (p : SwitchChannel) (j k : Joined) → IsSwitch ls w → Pairing ls p j k
    → IsJoin (record { a = w p; b = w j.other; there = j.kept; back = k.kept }) → way.moved (way_at w p j.other j.kept) ≡ way.moved_if b t (way_at w p j.other j.kept)
    → Moved (acts_of_all (moved_if_steps b t p j ls) ls) ls w p j k (moved_if b t p j ls) (way.moved_if b t (way_at w p j.other j.kept))
by_takes false t ls w p j k i s c e = stays ls w p j k i s
by_takes true t ls w p j k i s c e = moves_on t ls w p j k i s c e

-- what is due is taken at the lines where it is on the leg
takes_due : (t : Taken) (ls : List SwitchLine) (w : World) (p : SwitchChannel) (j : Joined) → IsWorld (layers_of ls) w → is_some (shown_at (layers_of ls) p) ≡ true → is_some (shown_at (layers_of ls) j.other) ≡ true
    → takes_at ls j.other (due_at ls p j t) ≡ takes_all (w j.other).role (w j.other).flow (w j.other).channel (way.due (way_at w p j.other j.kept) t)
takes_due t ls w p j i p_there q_there =
    takes_of_leg ls w j.other (due_at ls p j t) i q_there
    ∙ ap (λ (z : Sizes). takes_all (w j.other).role (w j.other).flow (w j.other).channel (requests_for z j.kept.gathered t)) (sizes_of_legs ls w p j.other i p_there q_there)

-- legs of a join of which the far one is open as before take as before
takes_still : (t : Taken) (ls ms : List SwitchLine) (w v : World) (p : SwitchChannel) (j : Joined) → IsWorld (layers_of ls) w → IsWorld (layers_of ms) v
    → ((x : SwitchChannel) → is_some (shown_at (layers_of ms) x) ≡ is_some (shown_at (layers_of ls) x)) → is_some (shown_at (layers_of ls) p) ≡ true → is_some (shown_at (layers_of ls) j.other) ≡ true
    → (v p).flow.size ≡ (w p).flow.size → open_of (v j.other) ≡ open_of (w j.other) → takes_at ms j.other (due_at ms p j t) ≡ takes_at ls j.other (due_at ls p j t)
takes_still t ls ms w v p j i k places p_there q_there near open_ =
    let g = w j.other in
    let h = v j.other in
    let same : ◌≡◌ {A = Sizes} (record { near = (v p).flow.size; far = h.flow.size }) (record { near = (w p).flow.size; far = g.flow.size }) =
    ap₂ (λ (n m : ℕ). record { near = n; far = m }) near (ap (λ (o : Open). o.size) open_) in
    takes_due t ms v p j k (places p ∙ p_there) (places j.other ∙ q_there)
    ∙ (ap (λ (z : Sizes). takes_all h.role h.flow h.channel (requests_for z j.kept.gathered t)) same
    ∙ (same_takes (record { near = (w p).flow.size; far = g.flow.size }) j.kept.gathered t g h open_ ∙ sym (takes_due t ls w p j i p_there q_there)))

by_front : (o : Option Taken) (ls : List SwitchLine) (w : World) (p : SwitchChannel) (j k : Joined) → IsSwitch ls w → Pairing ls p j k
    → IsJoin (record { a = w p; b = w j.other; there = j.kept; back = k.kept }) → way.moved (way_at w p j.other j.kept) ≡ way.moved_front o (way_at w p j.other j.kept)
    → Moved (acts_of_all (moved_front_steps o p j ls) ls) ls w p j k (moved_front o p j ls) (way.moved_front o (way_at w p j.other j.kept))
by_front None ls w p j k i s c e = stays ls w p j k i s
by_front (Some t) ls w p j k i s c e =
    subst (λ (b : Bool). Moved (acts_of_all (moved_if_steps b t p j ls) ls) ls w p j k (moved_if b t p j ls) (way.moved_front (Some t) (way_at w p j.other j.kept)))
    (sym (takes_due t ls w p j i.world s.p_there s.q_there)) (by_takes _ t ls w p j k i s c e)

pub moves : (ls : List SwitchLine) (w : World) (p : SwitchChannel) (j k : Joined) → IsSwitch ls w → Pairing ls p j k → IsJoin (record { a = w p; b = w j.other; there = j.kept; back = k.kept })
    → Moved (acts_of_all (moved_joined_steps (joined_at ls p) p ls) ls) ls w p j k (moved p ls) (way.moved (way_at w p j.other j.kept))
moves ls w p j k i s c =
    subst (λ (o : Option Joined). Moved (acts_of_all (moved_joined_steps o p ls) ls) ls w p j k (moved_joined o p ls) (way.moved (way_at w p j.other j.kept))) (sym s.here)
    (subst (λ (o : Option Taken). Moved (acts_of_all (moved_front_steps o p j ls) ls) ls w p j k (moved_front o p j ls) (way.moved (way_at w p j.other j.kept))) (sym (front_of_leg ls w p i.world s.p_there))
    (by_front (front (w p).channel.traffic) ls w p j k i s c refl))

-- ---- several moves

moved_join : {acts : List Act} (ls ms : List SwitchLine) (w : World) (p : SwitchChannel) (j k : Joined) → IsJoin (record { a = w p; b = w j.other; there = j.kept; back = k.kept })
    → (m : Moved acts ls w p j k ms (way.moved (way_at w p j.other j.kept))) → IsJoin (record { a = m.world p; b = m.world j.other; there = m.kept; back = k.kept })
moved_join ls ms w p j k c m =
    subst (λ (x : Way). IsJoin (record { a = x.near; b = x.far; there = x.kept; back = k.kept })) (sym m.is)
    (there_right 1 (record { a = w p; b = w j.other; there = j.kept; back = k.kept }) c)

moved_pairing : {acts : List Act} (ls ms : List SwitchLine) (w : World) (p : SwitchChannel) (j k : Joined) (to : Way) → Pairing ls p j k → (m : Moved acts ls w p j k ms to) → Pairing ms p (record j { kept = m.kept }) k
moved_pairing ls ms w p j k to s m = record {
  here = m.here;
  there = m.there;
  back = s.back;
  apart = s.apart;
  one_came_in = s.one_came_in;
  p_there = reached_there ls ms w m.world m.touches.reached p ∙ s.p_there;
  q_there = reached_there ls ms w m.world m.touches.reached j.other ∙ s.q_there;
}

pub relays : (most : ℕ) (ls : List SwitchLine) (w : World) (p : SwitchChannel) (j k : Joined) → IsSwitch ls w → Pairing ls p j k → IsJoin (record { a = w p; b = w j.other; there = j.kept; back = k.kept })
    → Moved (acts_of_all (relayed_steps most p ls) ls) ls w p j k (relayed most p ls) (way.relayed most (way_at w p j.other j.kept))
relays zero ls w p j k i s c = stays ls w p j k i s
relays (suc most) ls w p j k i s c =
    let m = moves ls w p j k i s c in
    let n = relays most (moved p ls) m.world p (record j { kept = m.kept }) k m.switch (moved_pairing ls (moved p ls) w p j k _ s m) (moved_join ls (moved p ls) w p j k c m) in
    record {
      world = n.world;
      touches = subst (λ (acts : List Act). Touches acts p j.other ls w (relayed most p (moved p ls)) n.world)
          (acts_lead (moved_joined_steps (joined_at ls p) p ls) (relayed_steps most p (moved p ls)) ls (moved p ls) (moved_leads (joined_at ls p) p ls))
          (touches_then p j.other ls (moved p ls) (relayed most p (moved p ls)) w m.world n.world m.touches n.touches);
      switch = n.switch;
      kept = n.kept;
      here = n.here;
      there = n.there;
      is = n.is ∙ ap (λ (x : Way). way.relayed most x) m.is;
    }

-- ---- each channel is visited

abbrev pub StuckAt : List SwitchLine → SwitchChannel → Type 0
StuckAt ls p = (j : Joined) (t : Taken) → joined_at ls p ≡ Some j → front_at ls p ≡ Some t → takes_at ls j.other (due_at ls p j t) ≡ false

pub record Visited (acts : List Act) (ls : List SwitchLine) (w : World) (x : SwitchChannel) (ms : List SwitchLine) : Type 0 where
  pub world : World
  pub reached : Reached acts ls w ms world
  pub switch : IsSwitch ms world
  pub places : (y : SwitchChannel) → has_place ms y ≡ has_place ls y
  pub stuck_here : StuckAt ms x
  pub stuck_elsewhere : (p : SwitchChannel) → same_place p x ≡ false → StuckAt ls p → StuckAt ms p

relayed_no_steps : (most : ℕ) (p : SwitchChannel) (ls : List SwitchLine) → moved p ls ≡ ls → moved_joined_steps (joined_at ls p) p ls ≡ [] → relayed_steps most p ls ≡ []
relayed_no_steps zero p ls e f = refl
relayed_no_steps (suc most) p ls e f =
    ap (λ (ss : List Step). ss ++ relayed_steps most p (moved p ls)) f ∙ (ap (λ (ms : List SwitchLine). relayed_steps most p ms) e ∙ relayed_no_steps most p ls e f)

abbrev pub VisitedBy : List Step → List SwitchLine → World → SwitchChannel → List SwitchLine → Type 0
VisitedBy ss ls w x ms = Visited (acts_of_all ss ls) ls w x ms

visited_same : (ss : List Step) (ls ms : List SwitchLine) (w : World) (x : SwitchChannel) → ss ≡ [] → ms ≡ ls → IsSwitch ls w → StuckAt ls x → VisitedBy ss ls w x ms
visited_same ss ls ms w x f e i s = subst (λ (us : List Step). VisitedBy us ls w x ms) (sym f) (subst (λ (ks : List SwitchLine). VisitedBy [] ls w x ks) (sym e) (record {
  world = w;
  reached = reached_none ls w;
  switch = i;
  places = λ y. refl;
  stuck_here = s;
  stuck_elsewhere = λ p a h. h;
}))

pub waiting_before : (role : Role) (s : ChannelState) → waits_for_call role s ≡ true → in_transfer s ≡ false
waiting_before role Ready e = refl
waiting_before role OwnWaiting e = refl
waiting_before role FarWaiting e = refl
waiting_before Dte Transfer e = absurd (true≢false (sym e))
waiting_before Dce Transfer e = absurd (true≢false (sym e))
waiting_before role Collision e = refl
waiting_before role OwnClear e = refl

pub waits_before : (b : Bool) (g h : Leg) → WaitsFor b g h → (in_transfer g.channel.state ≡ false) × (in_transfer h.channel.state ≡ false)
waits_before true g h i = (accepts_before g.role g.channel.state i.can_accept, waiting_before h.role h.channel.state i.waits)
waits_before false g h i = (waiting_before g.role g.channel.state i.waits, accepts_before h.role h.channel.state i.can_accept)

visited_pair : (ls : List SwitchLine) (w : World) (x : SwitchChannel) (j k : Joined) → IsSwitch ls w → Pairing ls x j k → IsPair (w x) (w j.other) j k → VisitedBy (relayed_steps most_moves x ls) ls w x (relayed most_moves x ls)
visited_pair ls w x j k i s (waiting a b c) =
    visited_same (relayed_steps most_moves x ls) ls (relayed most_moves x ls) w x (relayed_no_steps most_moves x ls nothing no_steps) (relayed_stays most_moves x ls nothing) i (λ y t e f. absurd (none-some t (sym front_none ∙ f)))
  where
    front_none : front_at ls x ≡ None
    front_none =
        let f = some_there (shown_at (layers_of ls) x) s.p_there in
        let start = (i.world x f.0 f.1).leg.start (waits_before j.came_in (w x) (w j.other) c).0 in
        front_of_leg ls w x i.world s.p_there ∙ ap (λ (t : Traffic). front t) start.traffic

    no_steps : moved_joined_steps (joined_at ls x) x ls ≡ []
    no_steps = ap (λ (o : Option Joined). moved_joined_steps o x ls) s.here ∙ ap (λ (o : Option Taken). moved_front_steps o x j ls) front_none

    nothing : moved x ls ≡ ls
    nothing = ap (λ (o : Option Joined). moved_joined o x ls) s.here ∙ ap (λ (o : Option Taken). moved_front o x j ls) front_none
visited_pair ls w x j k i s (connected c) = record {
  world = v;
  reached = m.touches.reached;
  switch = m.switch;
  places = m.touches.places;
  stuck_here = stuck_here;
  stuck_elsewhere = stuck_elsewhere;
}
  where
    ms : List SwitchLine
    ms = relayed most_moves x ls

    from : Way
    from = way_at w x j.other j.kept

    m : Moved (acts_of_all (relayed_steps most_moves x ls) ls) ls w x j k ms (way.relayed most_moves from)
    m = relays most_moves ls w x j k i s c

    v : World
    v = m.world

    x_there : is_some (shown_at (layers_of ms) x) ≡ true
    x_there = reached_there ls ms w v m.touches.reached x ∙ s.p_there

    q_there : is_some (shown_at (layers_of ms) j.other) ≡ true
    q_there = reached_there ls ms w v m.touches.reached j.other ∙ s.q_there

    stuck_here : StuckAt ms x
    stuck_here y t e f =
        let stuck : way.IsStuck (way_at v x j.other m.kept) = subst (λ (u : Way). way.IsStuck u) (sym m.is) (relayed_stuck from c.there) in
        ap (λ (z : Joined). takes_at ms z.other (due_at ms x z t)) (same_Some y _ (sym e ∙ m.here))
        ∙ (takes_due t ms v x (record j { kept = m.kept }) m.switch.world x_there q_there ∙ stuck t (sym (front_of_leg ms v x m.switch.world x_there) ∙ f))

    beside : Beside from (way.relayed most_moves from)
    beside = relayed_beside most_moves from

    -- of the other leg
    stuck_other : StuckAt ls j.other → StuckAt ms j.other
    stuck_other h y t e f =
        let far : front (v j.other).channel.traffic ≡ front (w j.other).channel.traffic = ap (λ (u : Way). front u.far.channel.traffic) m.is ∙ beside.far.front in
        let old_front : front_at ls j.other ≡ Some t =
        front_of_leg ls w j.other i.world s.q_there ∙ (sym far ∙ (sym (front_of_leg ms v j.other m.switch.world q_there) ∙ f)) in
        let near : (v j.other).flow.size ≡ (w j.other).flow.size = ap (λ (u : Way). u.far.flow.size) m.is ∙ ap (λ (z : Near). z.size) beside.far.seen in
        let open_ : open_of (v k.other) ≡ open_of (w k.other) =
        ap (λ (z : SwitchChannel). open_of (v z)) s.back ∙ (ap (λ (u : Way). open_of u.near) m.is ∙ (beside.near.open_ ∙ ap (λ (z : SwitchChannel). open_of (w z)) (sym s.back))) in
        let x_was : is_some (shown_at (layers_of ls) k.other) ≡ true = ap (λ (z : SwitchChannel). is_some (shown_at (layers_of ls) z)) s.back ∙ s.p_there in
        ap (λ (z : Joined). takes_at ms z.other (due_at ms j.other z t)) (same_Some y k (sym e ∙ m.there))
        ∙ (takes_still t ls ms w v j.other k i.world m.switch.world (reached_there ls ms w v m.touches.reached) s.q_there x_was near open_ ∙ h k t s.there old_front)

    -- of another join
    stuck_apart : (p : SwitchChannel) → same_place p x ≡ false → same_place p j.other ≡ false → StuckAt ls p → StuckAt ms p
    stuck_apart p a b h y t e f =
        let e' : joined_at ls p ≡ Some y = sym (m.touches.joined p a b) ∙ e in
        let z = i.joined p y e' in
        let d = other_apart 0 [] ls w p x j.other y e' z (λ u g. ap (λ (o : Joined). o.other) (same_Some u j (sym g ∙ s.here))) b in
        let d' = other_apart 0 [] ls w p j.other x y e' z (λ u g. ap (λ (o : Joined). o.other) (same_Some u k (sym g ∙ s.there)) ∙ s.back) a in
        let p_there = reached_there ls ms w v m.touches.reached p ∙ z.there in
        let o_there : is_some (shown_at (layers_of ls) y.other) ≡ true = (i.joined y.other z.other z.joined).there in
        let front_same : front_at ls p ≡ front_at ms p =
        front_of_leg ls w p i.world z.there ∙ (ap (λ (g : Leg). front g.channel.traffic) (sym (m.touches.legs p a b)) ∙ sym (front_of_leg ms v p m.switch.world p_there)) in
        let near = ap (λ (g : Leg). g.flow.size) (m.touches.legs p a b) in
        let open_ = ap (λ (g : Leg). open_of g) (m.touches.legs y.other d d') in
        takes_still t ls ms w v p y i.world m.switch.world (reached_there ls ms w v m.touches.reached) z.there o_there near open_ ∙ h y t e' (front_same ∙ f)

    stuck_elsewhere : (p : SwitchChannel) → same_place p x ≡ false → StuckAt ls p → StuckAt ms p
    stuck_elsewhere p a h = by_other (decided (same_place p j.other))
      where
        by_other : (same_place p j.other ≡ true) ⊎ (same_place p j.other ≡ false) → StuckAt ms p
        by_other (inl t) = let is = place_is p j.other t in subst (λ (z : SwitchChannel). StuckAt ms z) (sym is) (stuck_other (subst (λ (z : SwitchChannel). StuckAt ls z) is h))
        by_other (inr f) = stuck_apart p a f h

visited_joined : (o : Option Joined) (ls : List SwitchLine) (w : World) (x : SwitchChannel) → joined_at ls x ≡ o → IsSwitch ls w → VisitedBy (relayed_steps most_moves x ls) ls w x (relayed most_moves x ls)
visited_joined None ls w x e i =
    visited_same (relayed_steps most_moves x ls) ls (relayed most_moves x ls) w x (relayed_no_steps most_moves x ls (ap (λ (o : Option Joined). moved_joined o x ls) e) (ap (λ (o : Option Joined). moved_joined_steps o x ls) e))
    (relayed_stays most_moves x ls (ap (λ (o : Option Joined). moved_joined o x ls) e)) i (λ y t f g. absurd (none-some y (sym e ∙ f)))
visited_joined (Some j) ls w x e i =
    let d = i.joined x j e in
    elim d.pair [
      | inl h ↦ visited_pair ls w x j d.other i (pairing 0 [] ls w x j i e d) h
      | inr h ↦ elim h [ inl z ↦ absurd z | inr z ↦ absurd z ]
    ]

pub visited : (ls : List SwitchLine) (w : World) (x : SwitchChannel) → IsSwitch ls w → VisitedBy (relayed_steps most_moves x ls) ls w x (relayed most_moves x ls)
visited ls w x i = visited_joined (joined_at ls x) ls w x refl i

-- ---- all channels

pub data Among (p : SwitchChannel) : List SwitchChannel → Type 0 where
  first : {x : SwitchChannel} {xs : List SwitchChannel} → same_place p x ≡ true → Among p (x ∷ xs)
  later : {x : SwitchChannel} {xs : List SwitchChannel} → Among p xs → Among p (x ∷ xs)

pub record RelayedFrom (acts : List Act) (ls : List SwitchLine) (w : World) (ps : List SwitchChannel) (ms : List SwitchLine) : Type 0 where
  pub world : World
  pub reached : Reached acts ls w ms world
  pub switch : IsSwitch ms world
  pub places : (y : SwitchChannel) → has_place ms y ≡ has_place ls y
  pub stuck : (p : SwitchChannel) → StuckAt ls p ⊎ Among p ps → StuckAt ms p

pub relays_from : (ps : List SwitchChannel) (ls : List SwitchLine) (w : World) → IsSwitch ls w → RelayedFrom (acts_of_all (relayed_from_steps ps ls) ls) ls w ps (relayed_from ps ls)
relays_from [] ls w i = record { world = w; reached = reached_none ls w; switch = i; places = λ y. refl; stuck = λ p h. none p h }
  where
    none : (p : SwitchChannel) → StuckAt ls p ⊎ Among p [] → StuckAt ls p
    none p (inl h) = h
    none p (inr h) = elim h [ ]
relays_from (x ∷ ps) ls w i = then_ (visited ls w x i) (relays_from ps (relayed most_moves x ls) (visited ls w x i).world (visited ls w x i).switch)
  where
    bs : List Step
    bs = relayed_from_steps ps (relayed most_moves x ls)

    then_ : (a : VisitedBy (relayed_steps most_moves x ls) ls w x (relayed most_moves x ls)) → RelayedFrom (acts_of_all bs (relayed most_moves x ls)) (relayed most_moves x ls) a.world ps (relayed_from ps (relayed most_moves x ls))
        → RelayedFrom (acts_of_all (relayed_steps most_moves x ls ++ bs) ls) ls w (x ∷ ps) (relayed_from ps (relayed most_moves x ls))
    then_ a b = record {
      world = b.world;
      reached = subst (λ (acts : List Act). Reached acts ls w (relayed_from ps (relayed most_moves x ls)) b.world) (acts_lead (relayed_steps most_moves x ls) bs ls (relayed most_moves x ls) (relayed_leads most_moves x ls))
          (reached_then ls (relayed most_moves x ls) (relayed_from ps (relayed most_moves x ls)) w a.world b.world a.reached b.reached);
      switch = b.switch;
      places = λ y. b.places y ∙ a.places y;
      stuck = λ p h. by_here p (decided (same_place p x)) h;
    }
      where
        onward : (p : SwitchChannel) → same_place p x ≡ false → StuckAt ls p ⊎ Among p (x ∷ ps) → StuckAt (relayed most_moves x ls) p ⊎ Among p ps
        onward p f (inl h) = inl (a.stuck_elsewhere p f h)
        onward p f (inr (first e)) = absurd (true≢false (sym e ∙ f))
        onward p f (inr (later h)) = inr h

        by_here : (p : SwitchChannel) → (same_place p x ≡ true) ⊎ (same_place p x ≡ false) → StuckAt ls p ⊎ Among p (x ∷ ps) → StuckAt (relayed_from ps (relayed most_moves x ls)) p
        by_here p (inl t) h = b.stuck p (inl (subst (λ (z : SwitchChannel). StuckAt (relayed most_moves x ls) z) (sym (place_is p x t)) a.stuck_here))
        by_here p (inr f) h = b.stuck p (onward p f h)

pub among_here : (p x : SwitchChannel) (xs : List SwitchChannel) → p ≡ x → Among p (x ∷ xs)
among_here p x xs e = first (same_as p x e)

among_on : (n c i : ℕ) (js : List (Option Joined)) → is_some (slice_get js i) ≡ true → Among (record { line = n; channel = c + i }) (places_on n c js)
among_on n c i [] e = absurd (true≢false (sym e))
among_on n c zero (j ∷ js) e = let same : c + 0 ≡ c = omega arith in among_here _ (record { line = n; channel = c }) (places_on n (suc c) js) (ap (λ (k : ℕ). record { line = n; channel = k }) same)
among_on n c (suc i) (j ∷ js) e =
    let same : suc c + i ≡ c + suc i = omega arith in
    later (subst (λ (k : ℕ). Among (record { line = n; channel = k }) (places_on n (suc c) js)) same (among_on n (suc c) i js e))

pub among_left : (p : SwitchChannel) (xs ys : List SwitchChannel) → Among p xs → Among p (xs ++ ys)
among_left p (x ∷ xs) ys (first e) = first e
among_left p (x ∷ xs) ys (later h) = later (among_left p xs ys h)
among_left p [] ys h = elim h [ ]

pub among_right : (p : SwitchChannel) (xs ys : List SwitchChannel) → Among p ys → Among p (xs ++ ys)
among_right p [] ys h = h
among_right p (x ∷ xs) ys h = later (among_right p xs ys h)

pub among_nth : (n c : ℕ) (js : List (Option Joined)) → has_nth js c ≡ true → Among (record { line = n; channel = c }) (places_on n 1 js)
among_nth n zero js e = absurd (true≢false (sym e))
among_nth n (suc i) js e = let same : 1 + i ≡ suc i = omega arith in subst (λ (k : ℕ). Among (record { line = n; channel = k }) (places_on n 1 js)) same (among_on n 1 i js e)

among_from : (n m c : ℕ) (ls : List SwitchLine) → has_place_on (slice_get ls m) c ≡ true → Among (record { line = n + m; channel = c }) (places_from n ls)
among_from n m c [] e = absurd (true≢false (sym e))
among_from n zero c (l ∷ ls) e =
    let same : n ≡ n + 0 = omega arith in
    among_left _ (places_on n 1 l.joined) (places_from (suc n) ls) (subst (λ (k : ℕ). Among (record { line = k; channel = c }) (places_on n 1 l.joined)) same (among_nth n c l.joined e))
among_from n (suc m) c (l ∷ ls) e =
    let same : suc n + m ≡ n + suc m = omega arith in
    among_right _ (places_on n 1 l.joined) (places_from (suc n) ls) (subst (λ (k : ℕ). Among (record { line = k; channel = c }) (places_from (suc n) ls)) same (among_from (suc n) m c ls e))

among_places : (p : SwitchChannel) (ls : List SwitchLine) → has_place ls p ≡ true → Among p (places ls)
among_places p ls e = let same : 0 + p.line ≡ p.line = omega arith in subst (λ (k : ℕ). Among (record { line = k; channel = p.channel }) (places ls)) same (among_from 0 p.line p.channel ls e)

pub relayed_first_right : (first_ : List ℕ) (ls : List SwitchLine) (w : World) → IsSwitch ls w → Becomes (acts_of_all (relayed_first_steps first_ ls) ls) ls w (relayed_first first_ ls)
relayed_first_right first_ ls w i = let r = relays_from (places_first first_ ls) ls w i in record { world = r.world; reached = r.reached; right = r.switch }

pub relayed_first_stuck : (first_ : List ℕ) (ls : List SwitchLine) (w : World) → IsSwitch ls w → HasRelayedAll (relayed_first first_ ls)
relayed_first_stuck first_ ls w i p j t e f =
    let r = relays_from (places_first first_ ls) ls w i in
    let here = sym (r.places p) ∙ joined_place (relayed_first first_ ls) p j e in
    r.stuck p (inr (among_right p (legs_of first_ ls) (places ls) (among_places p ls here))) j t e f

pub all_relayed_right : (ls : List SwitchLine) (w : World) → IsSwitch ls w → Becomes (acts_of_all (all_relayed_steps ls) ls) ls w (all_relayed ls)
all_relayed_right ls w i = let r = relays_from (places ls) ls w i in record { world = r.world; reached = r.reached; right = r.switch }

pub all_relayed_stuck : (ls : List SwitchLine) (w : World) → IsSwitch ls w → HasRelayedAll (all_relayed ls)
all_relayed_stuck ls w i p j t e f =
    let r = relays_from (places ls) ls w i in
    let here = sym (r.places p) ∙ joined_place (all_relayed ls) p j e in
    r.stuck p (inr (among_places p ls here)) j t e f
