-- What the switch does at the two legs of one join leaves all other joins as they were.
use Rattle.std.proofs.Common.{◌≡◌, ℕ, ◌⊎◌, inl, inr, Bool, true, false, not, List, [], ◌∷◌, ◌++◌, Option, Some, None, is_some, refl, sym, ap, subst, ◌∙◌, true≢false}
use Rattle.std.proofs.lemmas.Option.{none-some, same_Some}
use Rattle.data_transfer.specs.Packets.{Note}
use Rattle.packet_channel.specs.Channel.{Request}
use Rattle.packet_layer.specs.Layer.{Layer}
use Rattle.packet_laws.specs.Readable.{Every}
use Rattle.switch_joins.specs.Direction.{Direction}
use Rattle.switch_joins.specs.declared.channels.SwitchChannel.{SwitchChannel}
use Rattle.switch_joins.specs.Joins.{Joined}
use Rattle.switch_lines.specs.Lines.{SwitchLine, same_place, joined_at, with_joined, ask}
use Rattle.switch_laws.specs.Leg.{Leg}
use Rattle.switch_laws.specs.World.{World, IsWorld, shown_at, layers_of, Act, MayHappen, MayAsk, after_act, after_acts, world_after, world_after_all}
use Rattle.switch_laws.specs.World.Act.{Asks}
use Rattle.switch_laws.specs.Joined.IsPair.{connected, waiting}
use Rattle.switch_laws.specs.Joined.{WaitsFor, IsPair, IsOver, IsJoinedAt, IsSwitchBefore, has_place, Reached}
use Rattle.switch_laws.proofs.Joins.{turned_join}
use Rattle.switch_laws.proofs.Lists.{same_as}
use Rattle.switch_laws.proofs.Layers.{world_acts_all}
use Rattle.switch_laws.proofs.Places.{place_after, place_joined, layers_asked, layers_joined, leg_apart, there_after}
use Rattle.switch_joins.proofs.Apart.{decided, place_is}
use Rattle.switch_lines.proofs.Places.{joined_asked, joined_apart}

-- ---- reached by acts

pub acts_then : (as_ bs : List Act) (ys : List Layer) → after_acts (as_ ++ bs) ys ≡ after_acts bs (after_acts as_ ys)
acts_then [] bs ys = refl
acts_then (a ∷ as_) bs ys = acts_then as_ bs (after_act a ys)

pub world_then : (as_ bs : List Act) (ys : List Layer) (w : World) → world_after_all (as_ ++ bs) ys w ≡ world_after_all bs (after_acts as_ ys) (world_after_all as_ ys w)
world_then [] bs ys w = refl
world_then (a ∷ as_) bs ys w = world_then as_ bs (after_act a ys) (world_after a ys w)

pub every_then : (as_ bs : List Act) → Every MayHappen as_ → Every MayHappen bs → Every MayHappen (as_ ++ bs)
every_then [] bs m k = k
every_then (a ∷ as_) bs m k = (m.0, every_then as_ bs m.1 k)

pub reached_none : (ls : List SwitchLine) (w : World) → Reached [] ls w ls w
reached_none ls w = record { may = tt; layers = refl; legs = refl }

pub reached_then : {as_ bs : List Act} (ls ms ks : List SwitchLine) (w v u : World) → Reached as_ ls w ms v → Reached bs ms v ks u → Reached (as_ ++ bs) ls w ks u
reached_then {as_} {bs} ls ms ks w v u a b = record {
  may = every_then as_ bs a.may b.may;
  layers = b.layers ∙ (ap (λ (ys : List Layer). after_acts bs ys) a.layers ∙ sym (acts_then as_ bs (layers_of ls)));
  legs = b.legs ∙ (ap (λ (x : World). world_after_all bs (layers_of ms) x) a.legs ∙ (ap (λ (ys : List Layer). world_after_all bs ys (world_after_all as_ (layers_of ls) w)) a.layers ∙ sym (world_then as_ bs (layers_of ls) w)));
}

pub reached_world : {acts : List Act} (ls ms : List SwitchLine) (w v : World) → Reached acts ls w ms v → IsWorld (layers_of ls) w → IsWorld (layers_of ms) v
reached_world {acts} ls ms w v r i =
    subst (λ (ys : List Layer). IsWorld ys v) (sym r.layers) (subst (λ (x : World). IsWorld (after_acts acts (layers_of ls)) x) (sym r.legs) (world_acts_all acts (layers_of ls) w r.may i))

there_all : (as_ : List Act) (ys : List Layer) (x : SwitchChannel) → is_some (shown_at (after_acts as_ ys) x) ≡ is_some (shown_at ys x)
there_all [] ys x = refl
there_all (a ∷ as_) ys x = there_all as_ (after_act a ys) x ∙ there_after a ys x

pub reached_there : {acts : List Act} (ls ms : List SwitchLine) (w v : World) → Reached acts ls w ms v → (x : SwitchChannel) → is_some (shown_at (layers_of ms) x) ≡ is_some (shown_at (layers_of ls) x)
reached_there {acts} ls ms w v r x = ap (λ (ys : List Layer). is_some (shown_at ys x)) r.layers ∙ there_all acts (layers_of ls) x

-- ---- only at p and q

pub record Touches (acts : List Act) (p q : SwitchChannel) (ls : List SwitchLine) (w : World) (ms : List SwitchLine) (v : World) : Type 0 where
  pub reached : Reached acts ls w ms v
  pub joined : (x : SwitchChannel) → same_place x p ≡ false → same_place x q ≡ false → joined_at ms x ≡ joined_at ls x
  pub legs : (x : SwitchChannel) → same_place x p ≡ false → same_place x q ≡ false → v x ≡ w x
  pub places : (x : SwitchChannel) → has_place ms x ≡ has_place ls x

pub touches_none : (p q : SwitchChannel) (ls : List SwitchLine) (w : World) → Touches [] p q ls w ls w
touches_none p q ls w = record { reached = reached_none ls w; joined = λ x a b. refl; legs = λ x a b. refl; places = λ x. refl }

pub touches_then : {as_ bs : List Act} (p q : SwitchChannel) (ls ms ks : List SwitchLine) (w v u : World) → Touches as_ p q ls w ms v → Touches bs p q ms v ks u → Touches (as_ ++ bs) p q ls w ks u
touches_then p q ls ms ks w v u a b = record {
  reached = reached_then ls ms ks w v u a.reached b.reached;
  joined = λ x e f. b.joined x e f ∙ a.joined x e f;
  legs = λ x e f. b.legs x e f ∙ a.legs x e f;
  places = λ x. b.places x ∙ a.places x;
}

pub touches_turned : {acts : List Act} (p q : SwitchChannel) (ls ms : List SwitchLine) (w v : World) → Touches acts p q ls w ms v → Touches acts q p ls w ms v
touches_turned p q ls ms w v t = record { reached = t.reached; joined = λ x e f. t.joined x f e; legs = λ x e f. t.legs x f e; places = t.places }

pub touches_asked : (p q : SwitchChannel) (r : Request) (ls : List SwitchLine) (w : World) → MayAsk r → Touches (Asks p r ∷ []) p q ls w (ask p r ls) (world_after (Asks p r) (layers_of ls) w)
touches_asked p q r ls w m = record {
  reached = record { may = (m, tt); layers = layers_asked p r ls; legs = refl };
  joined = λ x a b. joined_asked p r x ls;
  legs = λ x a b. leg_apart p r (layers_of ls) w x a;
  places = λ x. place_after p.line _ ls x (λ l. refl);
}

pub touches_joined : (p q : SwitchChannel) (o : Option Joined) (ls : List SwitchLine) (w : World) → Touches [] p q ls w (with_joined p o ls) w
touches_joined p q o ls w = record {
  reached = record { may = tt; layers = layers_joined p o ls; legs = refl };
  joined = λ x a b. joined_apart p o x ls a;
  legs = λ x a b. refl;
  places = λ x. place_joined p o ls x;
}

-- ---- the other joins stay

-- a channel that is joined with one of the two is the other one of them
pub other_apart : (n : ℕ) (ns : List Note) (ls : List SwitchLine) (w : World) (x p q : SwitchChannel) (j : Joined) → joined_at ls x ≡ Some j → IsJoinedAt n ns ls w x j
    → ((i : Joined) → joined_at ls p ≡ Some i → i.other ≡ q) → same_place x q ≡ false → same_place j.other p ≡ false
other_apart n ns ls w x p q j e i only f = by_same (decided (same_place j.other p))
  where
    by_same : (same_place j.other p ≡ true) ⊎ (same_place j.other p ≡ false) → same_place j.other p ≡ false
    by_same (inl t) =
        let is = place_is j.other p t in
        let at_q : i.other.other ≡ q = only i.other (ap (λ (y : SwitchChannel). joined_at ls y) (sym is) ∙ i.joined) in
        absurd (true≢false (sym (same_as x q (sym i.back ∙ at_q)) ∙ f))
    by_same (inr f) = f

pub same_pair : (x y : SwitchChannel) (w v : World) (j k : Joined) → v x ≡ w x → v y ≡ w y → IsPair (w x) (w y) j k → IsPair (v x) (v y) j k
same_pair x y w v j k a b i = subst (λ (g : Leg). IsPair g (v y) j k) (sym a) (subst (λ (h : Leg). IsPair (w x) h j k) (sym b) i)

pub frame : {acts : List Act} (n m : ℕ) (ns more : List Note) (p q : SwitchChannel) (ls ms : List SwitchLine) (w v : World) → IsSwitchBefore n ns ls w → Touches acts p q ls w ms v
    → ((j : Joined) → joined_at ls p ≡ Some j → j.other ≡ q) → ((j : Joined) → joined_at ls q ≡ Some j → j.other ≡ p)
    → ((j : Joined) → joined_at ms p ≡ Some j → IsJoinedAt m more ms v p j) → ((j : Joined) → joined_at ms q ≡ Some j → IsJoinedAt m more ms v q j)
    → ((x : SwitchChannel) → same_place x p ≡ false → same_place x q ≡ false → IsOver n ns x → IsOver m more x)
    → IsSwitchBefore m more ms v
frame n m ns more p q ls ms w v i t only_p only_q at_p at_q over = record {
  world = reached_world ls ms w v t.reached i.world;
  places = λ x e. t.places x ∙ i.places x (sym (reached_there ls ms w v t.reached x) ∙ e);
  joined = λ x j e. by_place x j e (decided (same_place x p)) (decided (same_place x q));
}
  where
    outside : (x : SwitchChannel) (j : Joined) → joined_at ls x ≡ Some j → IsJoinedAt n ns ls w x j → same_place x p ≡ false → same_place x q ≡ false → IsJoinedAt m more ms v x j
    outside x j e k a b =
        let c = other_apart n ns ls w x p q j e k only_p b in
        let d = other_apart n ns ls w x q p j e k only_q a in
        record {
          there = reached_there ls ms w v t.reached x ∙ k.there;
          apart = k.apart;
          other = k.other;
          joined = t.joined j.other c d ∙ k.joined;
          back = k.back;
          one_came_in = k.one_came_in;
          pair = elim k.pair [
            | inl h ↦ inl (same_pair x j.other w v j k.other (t.legs x a b) (t.legs j.other c d) h)
            | inr h ↦ inr (elim h [ inl y ↦ inl (over x a b y) | inr y ↦ inr (over j.other c d y) ])
          ];
        }

    by_place : (x : SwitchChannel) (j : Joined) → joined_at ms x ≡ Some j → (same_place x p ≡ true) ⊎ (same_place x p ≡ false) → (same_place x q ≡ true) ⊎ (same_place x q ≡ false)
        → IsJoinedAt m more ms v x j
    by_place x j e (inl a) b =
        let is = place_is x p a in
        subst (λ (y : SwitchChannel). joined_at ms y ≡ Some j → IsJoinedAt m more ms v y j) (sym is) (at_p j) e
    by_place x j e (inr a) (inl b) =
        let is = place_is x q b in
        subst (λ (y : SwitchChannel). joined_at ms y ≡ Some j → IsJoinedAt m more ms v y j) (sym is) (at_q j) e
    by_place x j e (inr a) (inr b) =
        let f : joined_at ls x ≡ Some j = sym (t.joined x a b) ∙ e in
        outside x j f (i.joined x j f) a b

-- ---- the pair itself

pub apart_turned : (p q : SwitchChannel) → same_place p q ≡ false → same_place q p ≡ false
apart_turned p q f = by_same (decided (same_place q p))
  where
    by_same : (same_place q p ≡ true) ⊎ (same_place q p ≡ false) → same_place q p ≡ false
    by_same (inl t) = absurd (true≢false (sym (same_as p q (sym (place_is q p t))) ∙ f))
    by_same (inr e) = e

waits_turned : (b : Bool) (g h : Leg) → WaitsFor b g h → WaitsFor (not b) h g
waits_turned true g h i = i
waits_turned false g h i = i

pub pair_turned : (g h : Leg) (j k : Joined) → k.came_in ≡ not j.came_in → IsPair g h j k → IsPair h g k j
pair_turned g h j k e (connected i) = connected (turned_join _ i)
pair_turned g h j k e (waiting a b i) = waiting b a (subst (λ (c : Bool). WaitsFor c h g) (sym e) (waits_turned j.came_in g h i))

pub not_not : (a b : Bool) → a ≡ not b → b ≡ not a
not_not a true e = sym (ap (λ (x : Bool). not x) e)
not_not a false e = sym (ap (λ (x : Bool). not x) e)

-- a joined channel p, the other leg, and what it has
pub record Pairing (ls : List SwitchLine) (p : SwitchChannel) (j : Joined) (k : Joined) : Type 0 where
  pub here : joined_at ls p ≡ Some j
  pub there : joined_at ls j.other ≡ Some k
  pub back : k.other ≡ p
  pub apart : same_place p j.other ≡ false
  pub one_came_in : k.came_in ≡ not j.came_in
  pub p_there : is_some (shown_at (layers_of ls) p) ≡ true
  pub q_there : is_some (shown_at (layers_of ls) j.other) ≡ true

pub pairing : (n : ℕ) (ns : List Note) (ls : List SwitchLine) (w : World) (p : SwitchChannel) (j : Joined) → IsSwitchBefore n ns ls w → (e : joined_at ls p ≡ Some j) → (i : IsJoinedAt n ns ls w p j)
    → Pairing ls p j i.other
pairing n ns ls w p j s e i = record {
  here = e;
  there = i.joined;
  back = i.back;
  apart = i.apart;
  one_came_in = i.one_came_in;
  p_there = i.there;
  q_there = (s.joined j.other i.other i.joined).there;
}

-- both keep each other, with new directions
pub pair_kept : {acts : List Act} (n m : ℕ) (ns more : List Note) (ls ms : List SwitchLine) (w v : World) (p : SwitchChannel) (j k : Joined) (a b : Direction) → IsSwitchBefore n ns ls w → Pairing ls p j k
    → Touches acts p j.other ls w ms v → joined_at ms p ≡ Some (record j { kept = a }) → joined_at ms j.other ≡ Some (record k { kept = b })
    → IsPair (v p) (v j.other) (record j { kept = a }) (record k { kept = b })
    → ((x : SwitchChannel) → same_place x p ≡ false → same_place x j.other ≡ false → IsOver n ns x → IsOver m more x)
    → IsSwitchBefore m more ms v
pair_kept n m ns more ls ms w v p j k a b i s t here there pair over =
    frame n m ns more p j.other ls ms w v i t
    (λ x e. ap (λ (y : Joined). y.other) (same_Some x j (sym e ∙ s.here)))
    (λ x e. ap (λ (y : Joined). y.other) (same_Some x k (sym e ∙ s.there)) ∙ s.back)
    (λ x e. subst (λ (y : Joined). IsJoinedAt m more ms v p y) (same_Some _ x (sym here ∙ e)) at_p)
    (λ x e. subst (λ (y : Joined). IsJoinedAt m more ms v j.other y) (same_Some _ x (sym there ∙ e)) at_q)
    over
  where
    at_p : IsJoinedAt m more ms v p (record j { kept = a })
    at_p = record {
      there = reached_there ls ms w v t.reached p ∙ s.p_there;
      apart = s.apart;
      other = record k { kept = b };
      joined = there;
      back = s.back;
      one_came_in = s.one_came_in;
      pair = inl pair;
    }

    at_q : IsJoinedAt m more ms v j.other (record k { kept = b })
    at_q = record {
      there = reached_there ls ms w v t.reached j.other ∙ s.q_there;
      apart = subst (λ (y : SwitchChannel). same_place j.other y ≡ false) (sym s.back) (apart_turned p j.other s.apart);
      other = record j { kept = a };
      joined = ap (λ (y : SwitchChannel). joined_at ms y) s.back ∙ here;
      back = refl;
      one_came_in = not_not k.came_in j.came_in s.one_came_in;
      pair = inl (subst (λ (y : SwitchChannel). IsPair (v j.other) (v y) (record k { kept = b }) (record j { kept = a })) (sym s.back) (pair_turned (v p) (v j.other) (record j { kept = a }) (record k { kept = b }) s.one_came_in pair));
    }

-- neither is joined any more
pub pair_ended : {acts : List Act} (n m : ℕ) (ns more : List Note) (ls ms : List SwitchLine) (w v : World) (p : SwitchChannel) (j k : Joined) → IsSwitchBefore n ns ls w → Pairing ls p j k
    → Touches acts p j.other ls w ms v → joined_at ms p ≡ None → joined_at ms j.other ≡ None
    → ((x : SwitchChannel) → same_place x p ≡ false → same_place x j.other ≡ false → IsOver n ns x → IsOver m more x)
    → IsSwitchBefore m more ms v
pair_ended n m ns more ls ms w v p j k i s t here there over =
    frame n m ns more p j.other ls ms w v i t
    (λ x e. ap (λ (y : Joined). y.other) (same_Some x j (sym e ∙ s.here)))
    (λ x e. ap (λ (y : Joined). y.other) (same_Some x k (sym e ∙ s.there)) ∙ s.back)
    (λ x e. absurd (none-some x (sym here ∙ e)))
    (λ x e. absurd (none-some x (sym there ∙ e)))
    over
