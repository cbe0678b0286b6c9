-- What the switch is told of a joined channel.
use Rattle.std.proofs.Common.{◌≡◌, ℕ, ◌⊎◌, inl, inr, false, List, [], ◌∷◌, ◌++◌, Option, Some, None, refl, sym, ap, subst, ◌∙◌, true≢false}
use Rattle.std.specs.Prelude.{slice_get}
use Rattle.std.proofs.lemmas.Option.{none-some}
use Rattle.data_transfer.specs.Packets.{Note, Reason}
use Rattle.data_transfer.specs.Packets.Note.{Incoming, Connected, Closed, WasReset, InterruptConfirmed, Covered}
use Rattle.packet_channel.specs.Channel.{Request}
use Rattle.packet_channel.specs.Channel.Request.{Clearing, Resetting, Releasing, Confirming}
use Rattle.switch_joins.specs.Direction.{Direction, new_direction, releasable, released, covered_by}
use Rattle.joined_line.specs.Causes.{reset_cause, clear_cause, far_diagnostic}
use Rattle.switch_joins.specs.declared.channels.SwitchChannel.{SwitchChannel}
use Rattle.switch_joins.specs.Joins.{Joined}
use Rattle.switch_lines.specs.Lines.{SwitchLine, same_place, joined_at, with_joined, ask, is_trunk}
use Rattle.switch_lines.specs.Relay.{told, told_of, told_joined, covered_on, kept_anew}
use Rattle.switch_laws.specs.Leg.{Leg, asked}
use Rattle.switch_laws.specs.Join.{Join}
use Rattle.switch_laws.specs.Join as join
use Rattle.switch_laws.specs.World.{World, layers_of, Act, MayAsk, world_after}
use Rattle.switch_laws.specs.World.Act.{Asks}
use Rattle.switch_laws.specs.Joined.{IsOver, IsSwitchBefore, Reached}
use Rattle.switch_laws.specs.Steps.{Step, acts_of_all}
use Rattle.switch_laws.specs.EventSteps.{anew_steps, covered_steps, told_joined_steps, told_steps}
use Rattle.switch_laws.proofs.Lists.{same_as}
use Rattle.switch_laws.proofs.Places.{joined_here, joined_place, leg_asked, leg_apart}
use Rattle.switch_laws.proofs.Frame.{Touches, touches_none, touches_then, touches_turned, touches_asked, touches_joined, reached_there, Pairing, pairing, pair_ended}
use Rattle.switch_lines.proofs.Places.{joined_asked, joined_apart}

-- ---- asked at the other leg

-- a request at the other leg
pub record Asked (r : Request) (ls : List SwitchLine) (w : World) (p : SwitchChannel) (j k : Joined) (ms : List SwitchLine) : Type 0 where
  pub world : World
  pub touches : Touches (Asks j.other r ∷ []) p j.other ls w ms world
  pub here : joined_at ms p ≡ Some j
  pub there : joined_at ms j.other ≡ Some k
  pub near : world p ≡ w p
  pub far : world j.other ≡ asked r (w j.other)

pub asks_other : (r : Request) (ls : List SwitchLine) (w : World) (p : SwitchChannel) (j k : Joined) → MayAsk r → Pairing ls p j k → Asked r ls w p j k (ask j.other r ls)
asks_other r ls w p j k m s = record {
  world = world_after (Asks j.other r) (layers_of ls) w;
  touches = touches_turned j.other p ls (ask j.other r ls) w _ (touches_asked j.other p r ls w m);
  here = joined_asked j.other r p ls ∙ s.here;
  there = joined_asked j.other r j.other ls ∙ s.there;
  near = leg_apart j.other r (layers_of ls) w p s.apart;
  far = leg_asked j.other r (layers_of ls) w s.q_there;
}

-- ---- notes of a call that goes on

-- the two legs, as a join whose leg b is that of p
pub record Stands (ls : List SwitchLine) (w : World) (p : SwitchChannel) (j k : Joined) (i : Join) : Type 0 where
  pub pair : Pairing ls p (record j { kept = i.back }) (record k { kept = i.there })
  pub near : w p ≡ i.b
  pub far : w j.other ≡ i.a

pub record Told (acts : List Act) (ls : List SwitchLine) (w : World) (p : SwitchChannel) (j k : Joined) (ms : List SwitchLine) (i : Join) : Type 0 where
  pub world : World
  pub touches : Touches acts p j.other ls w ms world
  pub stands : Stands ms world p j k i

abbrev pub GoesOn : (channel : ℕ) → Note → Type 0
GoesOn c (WasReset d cause diagnostic reason) = d ≡ c
GoesOn c (InterruptConfirmed d) = d ≡ c
GoesOn c (Covered d n) = d ≡ c
GoesOn c n = ⊥

new_pairing : {acts : List Act} (ls ms : List SwitchLine) (w v : World) (p : SwitchChannel) (j k : Joined) (a b : Direction) → Pairing ls p j k → Touches acts p j.other ls w ms v
    → joined_at ms p ≡ Some (record j { kept = a }) → joined_at ms j.other ≡ Some (record k { kept = b }) → Pairing ms p (record j { kept = a }) (record k { kept = b })
new_pairing ls ms w v p j k a b s t here there = record {
  here = here;
  there = there;
  back = s.back;
  apart = s.apart;
  one_came_in = s.one_came_in;
  p_there = reached_there ls ms w v t.reached p ∙ s.p_there;
  q_there = reached_there ls ms w v t.reached j.other ∙ s.q_there;
}

-- the acts by which a note of p is told
abbrev pub told_acts : Note → SwitchChannel → List SwitchLine → List Act
told_acts n p ls = acts_of_all (told_steps (joined_at ls p) n p ls) ls

-- P(R) covered some: the other leg is released
tells_covered : (c n : ℕ) (ls : List SwitchLine) (w : World) (p : SwitchChannel) (j k : Joined) (i : Join) → Stands ls w p j k i → Told (told_acts (Covered c n) p ls) ls w p j k (told (Covered c n) p ls) (join.told (Covered c n) i)
tells_covered c n ls w p j k i s =
    subst (λ (acts : List Act). Told acts ls w p j k (told (Covered c n) p ls) (join.told (Covered c n) i)) (sym acts_are)
    (subst (λ (ms : List SwitchLine). Told (Asks q (Releasing (releasable d.held)) ∷ []) ls w p j k ms (join.told (Covered c n) i)) (sym is) done)
  where
    q : SwitchChannel
    q = j.other

    d : Direction
    d = covered_by n i.there

    j' : Joined
    j' = record j { kept = i.back }

    k' : Joined
    k' = record k { kept = i.there }

    l1 : List SwitchLine
    l1 = ask q (Releasing (releasable d.held)) ls

    ms : List SwitchLine
    ms = with_joined q (Some (record k' { kept = released d })) l1

    acts_are : told_acts (Covered c n) p ls ≡ Asks q (Releasing (releasable d.held)) ∷ []
    acts_are = ap (λ (o : Option Joined). acts_of_all (told_steps o (Covered c n) p ls) ls) s.pair.here ∙ ap (λ (o : Option Joined). acts_of_all (covered_steps n o q) ls) s.pair.there

    is : told (Covered c n) p ls ≡ ms
    is = ap (λ (o : Option Joined). told_of o (Covered c n) p ls) s.pair.here ∙ ap (λ (o : Option Joined). covered_on n o q ls) s.pair.there

    a : Asked (Releasing (releasable d.held)) ls w p j' k' l1
    a = asks_other (Releasing (releasable d.held)) ls w p j' k' tt s.pair

    t : Touches (Asks q (Releasing (releasable d.held)) ∷ []) p q ls w ms a.world
    t = touches_then p q ls l1 ms w a.world a.world a.touches (touches_turned q p l1 ms a.world a.world (touches_joined q p (Some (record k' { kept = released d })) l1 a.world))

    done : Told (Asks q (Releasing (releasable d.held)) ∷ []) ls w p j k ms (join.told (Covered c n) i)
    done = record {
      world = a.world;
      touches = t;
      stands = record {
        pair = new_pairing ls ms w a.world p j' k' i.back (released d) s.pair t (joined_apart q (Some (record k' { kept = released d })) p l1 s.pair.apart ∙ a.here)
            (joined_here q (Some (record k' { kept = released d })) l1 (a.touches.places q ∙ joined_place ls q k' s.pair.there));
        near = a.near ∙ s.near;
        far = a.far ∙ ap (λ (g : Leg). asked (Releasing (releasable d.held)) g) s.far;
      };
    }

tells_confirmed : (c : ℕ) (ls : List SwitchLine) (w : World) (p : SwitchChannel) (j k : Joined) (i : Join) → Stands ls w p j k i
    → Told (told_acts (InterruptConfirmed c) p ls) ls w p j k (told (InterruptConfirmed c) p ls) (join.told (InterruptConfirmed c) i)
tells_confirmed c ls w p j k i s =
    subst (λ (o : Option Joined). Told (acts_of_all (told_steps o (InterruptConfirmed c) p ls) ls) ls w p j k (told_of o (InterruptConfirmed c) p ls) (join.told (InterruptConfirmed c) i)) (sym s.pair.here)
    (let a = asks_other Confirming ls w p (record j { kept = i.back }) (record k { kept = i.there }) tt s.pair in
    record {
      world = a.world;
      touches = a.touches;
      stands = record {
        pair = new_pairing ls (ask j.other Confirming ls) w a.world p (record j { kept = i.back }) (record k { kept = i.there }) i.back i.there s.pair a.touches a.here a.there;
        near = a.near ∙ s.near;
        far = a.far ∙ ap (λ (g : Leg). asked Confirming g) s.far;
      };
    })

tells_reset : (c cause diagnostic : ℕ) (reason : Reason) (ls : List SwitchLine) (w : World) (p : SwitchChannel) (j k : Joined) (i : Join) → Stands ls w p j k i
    → Told (told_acts (WasReset c cause diagnostic reason) p ls) ls w p j k (told (WasReset c cause diagnostic reason) p ls) (join.told (WasReset c cause diagnostic reason) i)
tells_reset c cause diagnostic reason ls w p j k i s =
    subst (λ (acts : List Act). Told acts ls w p j k (told (WasReset c cause diagnostic reason) p ls) (join.told (WasReset c cause diagnostic reason) i)) (sym acts_are)
    (subst (λ (ms : List SwitchLine). Told (Asks q r ∷ []) ls w p j k ms (join.told (WasReset c cause diagnostic reason) i)) (sym is) done)
  where
    q : SwitchChannel
    q = j.other

    r : Request
    r = Resetting (reset_cause reason cause) (far_diagnostic reason diagnostic)

    j' : Joined
    j' = record j { kept = i.back }

    k' : Joined
    k' = record k { kept = i.there }

    l1 : List SwitchLine
    l1 = ask q r ls

    l2 : List SwitchLine
    l2 = with_joined p (Some (record j' { kept = new_direction })) l1

    ms : List SwitchLine
    ms = with_joined q (Some (record k' { kept = new_direction })) l2

    acts_are : told_acts (WasReset c cause diagnostic reason) p ls ≡ Asks q r ∷ []
    acts_are = ap (λ (o : Option Joined). acts_of_all (told_steps o (WasReset c cause diagnostic reason) p ls) ls) s.pair.here
        ∙ ap (λ (o : Option Joined). acts_of_all (Step.Asks q r ∷ (anew_steps (Some j') p ++ anew_steps o q)) ls) s.pair.there

    is : told (WasReset c cause diagnostic reason) p ls ≡ ms
    is = ap (λ (o : Option Joined). told_of o (WasReset c cause diagnostic reason) p ls) s.pair.here ∙ ap (λ (o : Option Joined). kept_anew o q l2) s.pair.there

    a : Asked r ls w p j' k' l1
    a = asks_other r ls w p j' k' tt s.pair

    t2 : Touches (Asks q r ∷ []) p q ls w l2 a.world
    t2 = touches_then p q ls l1 l2 w a.world a.world a.touches (touches_joined p q (Some (record j' { kept = new_direction })) l1 a.world)

    t : Touches (Asks q r ∷ []) p q ls w ms a.world
    t = touches_then p q ls l2 ms w a.world a.world t2 (touches_turned q p l2 ms a.world a.world (touches_joined q p (Some (record k' { kept = new_direction })) l2 a.world))

    done : Told (Asks q r ∷ []) ls w p j k ms (join.told (WasReset c cause diagnostic reason) i)
    done = record {
      world = a.world;
      touches = t;
      stands = record {
        pair = new_pairing ls ms w a.world p j' k' new_direction new_direction s.pair t
            (joined_apart q (Some (record k' { kept = new_direction })) p l2 s.pair.apart
            ∙ joined_here p (Some (record j' { kept = new_direction })) l1 (a.touches.places p ∙ joined_place ls p j' s.pair.here))
            (joined_here q (Some (record k' { kept = new_direction })) l2 (t2.places q ∙ joined_place ls q k' s.pair.there));
        near = a.near ∙ s.near;
        far = a.far ∙ ap (λ (g : Leg). asked r g) s.far;
      };
    }

pub tells : (c : ℕ) (n : Note) (ls : List SwitchLine) (w : World) (p : SwitchChannel) (j k : Joined) (i : Join) → GoesOn c n → Stands ls w p j k i → Told (told_acts n p ls) ls w p j k (told n p ls) (join.told n i)
tells c (Incoming d parts) ls w p j k i e s = absurd e
tells c (Connected d) ls w p j k i e s = absurd e
tells c (Closed d cause diagnostic reason) ls w p j k i e s = absurd e
tells c (WasReset d cause diagnostic reason) ls w p j k i e s = tells_reset d cause diagnostic reason ls w p j k i s
tells c (InterruptConfirmed d) ls w p j k i e s = tells_confirmed d ls w p j k i s
tells c (Covered d n) ls w p j k i e s = tells_covered d n ls w p j k i s

-- ---- the call is over

pub record Ended (acts : List Act) (n : ℕ) (ns : List Note) (ls : List SwitchLine) (w : World) (ms : List SwitchLine) (p : SwitchChannel) : Type 0 where
  pub world : World
  -- the channel itself is as it was, and not joined
  pub leg : world p ≡ w p
  pub not_joined : joined_at ms p ≡ None
  pub reached : Reached acts ls w ms world
  pub right : IsSwitchBefore n ns ms world

closes_joined : (n c cause diagnostic : ℕ) (reason : Reason) (ns : List Note) (ls : List SwitchLine) (w : World) (j k : Joined)
    → IsSwitchBefore n (Closed c cause diagnostic reason ∷ ns) ls w → Pairing ls (record { line = n; channel = c }) j k
    → Ended (acts_of_all (told_joined_steps (Closed c cause diagnostic reason) (record { line = n; channel = c }) j ls) ls) n ns ls w (told_joined (Closed c cause diagnostic reason) (record { line = n; channel = c }) j ls) (record { line = n; channel = c })
closes_joined n c cause diagnostic reason ns ls w j k i s = record {
  world = v;
  reached = t.reached;
  leg = leg_apart q r (layers_of l2) w p s.apart;
  not_joined = here;
  right = pair_ended n n (Closed c cause diagnostic reason ∷ ns) ns ls ms w v p j k i s t here there over;
}
  where
    p : SwitchChannel
    p = record { line = n; channel = c }

    q : SwitchChannel
    q = j.other

    r : Request
    r = Clearing (clear_cause (is_trunk (slice_get ls n)) reason cause) (far_diagnostic reason diagnostic)

    l1 : List SwitchLine
    l1 = with_joined p None ls

    l2 : List SwitchLine
    l2 = with_joined q None l1

    ms : List SwitchLine
    ms = ask q r l2

    v : World
    v = world_after (Asks q r) (layers_of l2) w

    t2 : Touches [] p q ls w l2 w
    t2 = touches_then p q ls l1 l2 w w w (touches_joined p q None ls w) (touches_turned q p l1 l2 w w (touches_joined q p None l1 w))

    t : Touches (Asks q r ∷ []) p q ls w ms v
    t = touches_then p q ls l2 ms w w v t2 (touches_turned q p l2 ms w v (touches_asked q p r l2 w tt))

    here : joined_at ms p ≡ None
    here = joined_asked q r p l2 ∙ (joined_apart q None p l1 s.apart ∙ joined_here p None ls (joined_place ls p j s.here))

    there : joined_at ms q ≡ None
    there = joined_asked q r q l2 ∙ joined_here q None l1 ((touches_joined p q None ls w).places q ∙ joined_place ls q k s.there)

    over : (x : SwitchChannel) → same_place x p ≡ false → same_place x q ≡ false → IsOver n (Closed c cause diagnostic reason ∷ ns) x → IsOver n ns x
    over x a b (inl e) = absurd (true≢false (sym (same_as x p e) ∙ a))
    over x a b (inr h) = h

pub closes_none : (n c cause diagnostic : ℕ) (reason : Reason) (ns : List Note) (ls : List SwitchLine) (w : World) → joined_at ls (record { line = n; channel = c }) ≡ None
    → IsSwitchBefore n (Closed c cause diagnostic reason ∷ ns) ls w → IsSwitchBefore n ns ls w
closes_none n c cause diagnostic reason ns ls w none i = record {
  world = i.world;
  places = i.places;
  joined = λ x j e.
      let k = i.joined x j e in
      record {
        there = k.there;
        apart = k.apart;
        other = k.other;
        joined = k.joined;
        back = k.back;
        one_came_in = k.one_came_in;
        pair = elim k.pair [
          | inl h ↦ inl h
          | inr h ↦ inr (elim h [ inl y ↦ inl (not_here x j e y) | inr y ↦ inr (not_here j.other k.other k.joined y) ])
        ];
      };
}
  where
    not_here : (x : SwitchChannel) (j : Joined) → joined_at ls x ≡ Some j → (x ≡ record { line = n; channel = c }) ⊎ IsOver n ns x → IsOver n ns x
    not_here x j e (inl is) = absurd (none-some j (sym none ∙ (ap (λ (y : SwitchChannel). joined_at ls y) (sym is) ∙ e)))
    not_here x j e (inr h) = h

closes_by : (o : Option Joined) (n c cause diagnostic : ℕ) (reason : Reason) (ns : List Note) (ls : List SwitchLine) (w : World) → joined_at ls (record { line = n; channel = c }) ≡ o
    → IsSwitchBefore n (Closed c cause diagnostic reason ∷ ns) ls w
    → Ended (acts_of_all (told_steps o (Closed c cause diagnostic reason) (record { line = n; channel = c }) ls) ls) n ns ls w (told_of o (Closed c cause diagnostic reason) (record { line = n; channel = c }) ls) (record { line = n; channel = c })
closes_by None n c cause diagnostic reason ns ls w e i = record { world = w; reached = (touches_none (record { line = n; channel = c }) (record { line = n; channel = c }) ls w).reached; leg = refl; not_joined = e; right = closes_none n c cause diagnostic reason ns ls w e i }
closes_by (Some j) n c cause diagnostic reason ns ls w e i =
    let k = i.joined (record { line = n; channel = c }) j e in
    closes_joined n c cause diagnostic reason ns ls w j k.other i (pairing n (Closed c cause diagnostic reason ∷ ns) ls w (record { line = n; channel = c }) j i e k)

pub closes : (n c cause diagnostic : ℕ) (reason : Reason) (ns : List Note) (ls : List SwitchLine) (w : World)
    → IsSwitchBefore n (Closed c cause diagnostic reason ∷ ns) ls w
    → Ended (told_acts (Closed c cause diagnostic reason) (record { line = n; channel = c }) ls) n ns ls w (told (Closed c cause diagnostic reason) (record { line = n; channel = c }) ls) (record { line = n; channel = c })
closes n c cause diagnostic reason ns ls w i = closes_by (joined_at ls (record { line = n; channel = c })) n c cause diagnostic reason ns ls w refl i
