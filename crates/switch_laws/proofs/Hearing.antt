-- What comes on one leg of a join, and leaves it in data transfer, keeps both clauses once the switch was told.
use Rattle.std.proofs.Common.{◌≡◌, ℕ, ◌+◌, Bool, true, false, cond, ◌==◌, List, [], ◌∷◌, Option, None, refl, sym, ap, subst, ◌∙◌, true≢false, is_some, ◌||◌, arith}
use Rattle.std.proofs.lemmas.Bool.{eqb-true}
use Rattle.data_transfer.proofs.Windows.{window_below}
use Rattle.data_transfer.specs.Packets.{Body}
use Rattle.data_transfer.specs.Packets.Note.{Covered}
use Rattle.data_transfer.specs.Packets.Body.{Clear, Data, Interrupt, InterruptConfirmation, ReceiveReady, ReceiveNotReady, Reset, ResetConfirmation}
use Rattle.data_transfer.specs.Traffic.{Traffic, Heard, hears as hears_in, confirming}
use Rattle.data_transfer.specs.Traffic.Heard.{Keeps, Confirms, Wrong}
use Rattle.packet_channel.specs.Channel.{ChannelState, received, unreadable, in_transfer, after_heard, moved as with_traffic}
use Rattle.packet_channel.specs.Channel.ChannelState.{Transfer}
use Rattle.packet_channel.specs.Channel.Request.{Confirming}
use Rattle.packet_laws.specs.History.{logged_heard}
use Rattle.packet_laws.specs.Counts.{NamesAfter, NamesCounts}
use Rattle.packet_laws.proofs.Naming.{counts_hold}
use Rattle.packet_laws.proofs.Numbers.{covered_within}
use Rattle.switch_joins.specs.Direction.{covered_by}
use Rattle.switch_laws.specs.Leg.{Leg, IsLeg, asked, asked_unless, stepped}
use Rattle.switch_laws.specs.Clause.{taken_part, sent_part}
use Rattle.switch_laws.specs.Way.{Way, Holds, IsRight, freed}
use Rattle.switch_laws.specs.Join.{Join, IsJoin, turned, way, all_told, hears, mishears}
use Rattle.switch_laws.proofs.Directions.{direction_covered}
use Rattle.switch_laws.proofs.Legs.{Flags, HearsFlags, hears_flags, asked_as, confirming_allowed, leg_confirmed}
use Rattle.switch_laws.proofs.Ways.{Near, near_seen, far_seen, right_beside, freed_right, asked_releasing_keeps, Linked, holds_of}
use Rattle.switch_laws.proofs.Joins.{reset_right}

-- the join with this state of the leg b
abbrev pub b_in : ChannelState → Bool → Join → Join
b_in s rs j = record j { b = record j.b { channel = record j.b.channel { state = s; resetting = rs } } }

not_transfer : (s : ChannelState) → in_transfer s ≡ false → s ≡ Transfer → {X : Type 0} → X
not_transfer s f e = absurd (true≢false (sym (ap (λ (t : ChannelState). in_transfer t) e) ∙ f))

-- ---- what is kept

-- the leg b after it
abbrev b_heard : Traffic → (covered : ℕ) → Join → Join
b_heard u k j = record j { b = record j.b { channel = with_traffic u j.b.channel; epoch = record j.b.epoch { covered = k } } }

b_leg : (n : ℕ) (u : Traffic) (j : Join) → j.b.channel.resetting ≡ false → IsLeg j.b → NamesCounts j.b.flow u (record j.b.epoch { covered = j.b.epoch.covered + n })
    → Flags j.b.channel.traffic u → IsLeg (b_heard u (j.b.epoch.covered + n) j).b
b_leg n u j clear i k f = record {
  flow = i.flow;
  counts = k;
  traffic_anew = λ r. absurd (true≢false (sym r ∙ clear));
  epoch_anew = λ r. absurd (true≢false (sym r ∙ clear));
  one_interrupt = f.one i.one_interrupt;
}

b_back : (k : ℕ) (u : Traffic) (j : Join) → IsLeg (b_heard u k j).b → Flags j.b.channel.traffic u → IsJoin j → IsRight (way (turned (b_heard u k j)))
b_back k u j leg f i =
    right_beside (b_heard u k j).b j.a (way (turned j)) leg i.there.holds.near (ap (λ (b : Bool). record (near_seen j.b) { interrupt_taken = b }) f.taken) refl i.back

-- P(R) covered some
covers_some : (n : ℕ) (u : Traffic) (j : Join) → j.b.channel.resetting ≡ false → NamesCounts j.b.flow u (record j.b.epoch { covered = j.b.epoch.covered + n })
    → Flags j.b.channel.traffic u → IsJoin j
    → IsJoin (record (b_heard u (j.b.epoch.covered + n) j) { a = (freed (record (way (b_heard u (j.b.epoch.covered + n) j)) { kept = covered_by n j.there })).near; there = (freed (record (way (b_heard u (j.b.epoch.covered + n) j)) { kept = covered_by n j.there })).kept })
covers_some n u j clear k f i =
    let h = i.there.holds in
    let g = (b_heard u (j.b.epoch.covered + n) j).b in
    let leg = b_leg n u j clear h.far k f in
    let w : Way = record { near = j.a; far = g; kept = covered_by n j.there } in
    let holds : Holds w = record {
      near = h.near;
      far = leg;
      near_call = h.near_call;
      far_call = h.far_call;
      passed = h.passed;
      direction = direction_covered n j.there (taken_part j.a.epoch) (sent_part j.b.epoch) (covered_within j.b.flow u (record j.b.epoch { covered = j.b.epoch.covered + n }) k) h.direction;
      gathered = h.gathered;
      packets = h.packets;
      interrupted = h.interrupted ∙ sym f.pending;
    } in
    let right = freed_right w holds in
    let back = b_back (j.b.epoch.covered + n) u j leg f i in
    record {
      there = right;
      back = right_beside g (freed w).near (way (turned (b_heard u (j.b.epoch.covered + n) j))) leg right.holds.near refl (asked_releasing_keeps _ j.a).seen back;
    }

-- it covered none
covers_none : (n : ℕ) (u : Traffic) (j : Join) → n ≡ 0 → j.b.channel.resetting ≡ false → NamesCounts j.b.flow u (record j.b.epoch { covered = j.b.epoch.covered + n })
    → Flags j.b.channel.traffic u → IsJoin j → IsJoin (b_heard u (j.b.epoch.covered + n) j)
covers_none n u j z clear k f i =
    let same : j.b.epoch.covered + n ≡ j.b.epoch.covered = omega arith in
    let leg : IsLeg (b_heard u j.b.epoch.covered j).b = subst (λ (c : ℕ). IsLeg (b_heard u c j).b) same (b_leg n u j clear i.there.holds.far k f) in
    subst (λ (c : ℕ). IsJoin (b_heard u c j)) (sym same) (record {
      there = right_beside j.a (b_heard u j.b.epoch.covered j).b (way j) i.there.holds.near leg refl (ap (λ (b : Bool). record (far_seen j.b) { pending = b }) f.pending) i.there;
      back = b_back j.b.epoch.covered u j leg f i;
    })

-- ---- the interrupt was confirmed

confirmed_seen : (b : Bool) (g : Leg) → b ≡ true
    → near_seen (record g { channel = with_traffic (cond b (confirming g.channel.traffic) g.channel.traffic) g.channel }) ≡ record (near_seen g) { interrupt_taken = false }
confirmed_seen true g e = refl
confirmed_seen false g e = absurd (true≢false (sym e))

confirmed_far : (b : Bool) (g : Leg) → far_seen (record g { channel = with_traffic (cond b (confirming g.channel.traffic) g.channel.traffic) g.channel }) ≡ far_seen g
confirmed_far true g = refl
confirmed_far false g = refl

abbrev b_confirmed : Join → Join
b_confirmed j = record j { b = record j.b { channel = with_traffic (record j.b.channel.traffic { interrupt_unconfirmed = false }) j.b.channel } }

confirms_interrupt : (j : Join) → j.b.channel.resetting ≡ false → NamesCounts j.b.flow (record j.b.channel.traffic { interrupt_unconfirmed = false }) j.b.epoch
    → j.b.channel.traffic.interrupt_unconfirmed ≡ true → IsJoin j → IsJoin (record (b_confirmed j) { a = asked Confirming j.a })
confirms_interrupt j clear k sent i =
    let h = i.there.holds in
    let t = j.b.channel.traffic in
    let none : t.interrupt_waiting ≡ None = h.far.one_interrupt sent in
    let taken : j.a.channel.traffic.interrupt_taken ≡ true =
    h.interrupted ∙ (ap (λ (q : Option (List ℕ)). is_some q || t.interrupt_unconfirmed) none ∙ sent) in
    let g = (b_confirmed j).b in
    let leg : IsLeg g = record {
      flow = h.far.flow;
      counts = k;
      traffic_anew = λ r. absurd (true≢false (sym r ∙ clear));
      epoch_anew = λ r. absurd (true≢false (sym r ∙ clear));
      one_interrupt = λ u. none;
    } in
    let a = asked_unless None Confirming j.a in
    let near : IsLeg a = leg_confirmed j.a h.near in
    let linked : Linked (record (near_seen j.a) { interrupt_taken = false }) (far_seen g) j.there = record {
      near_call = h.near_call;
      far_call = h.far_call;
      passed = h.passed;
      direction = h.direction;
      gathered = h.gathered;
      packets = h.packets;
      interrupted = sym (ap (λ (q : Option (List ℕ)). is_some q || false) none);
    } in
    subst (λ (x : Leg). IsJoin (record (b_confirmed j) { a = x })) (sym (asked_as Confirming j.a (confirming_allowed j.a h.near_call))) (record {
      there = record {
        holds = holds_of (record { near = a; far = g; kept = j.there }) near leg
            (subst (λ (n : Near). Linked n (far_seen g) j.there) (sym (confirmed_seen j.a.channel.traffic.interrupt_taken j.a taken)) linked);
        all_released = i.there.all_released;
      };
      back = right_beside g a (way (turned j)) leg near refl (confirmed_far j.a.channel.traffic.interrupt_taken j.a) i.back;
    })

-- ---- what is heard in d1

abbrev After : ℕ → Heard → Join → Type 0
After c h j = let st = after_heard j.b.role c j.b.channel h in IsJoin (all_told st.notes (record j { b = stepped st (logged_heard h j.b.epoch) j.b }))

after_keeps : (b : Bool) (c n : ℕ) (u : Traffic) (j : Join) → (n == 0) ≡ b → j.b.channel.resetting ≡ false
    → NamesCounts j.b.flow u (record j.b.epoch { covered = j.b.epoch.covered + n }) → Flags j.b.channel.traffic u → IsJoin j
    → IsJoin (all_told (cond b [] (Covered c n ∷ [])) (b_heard u (j.b.epoch.covered + n) j))
after_keeps true c n u j e clear k f i = covers_none n u j (eqb-true n 0 e) clear k f i
after_keeps false c n u j e clear k f i = covers_some n u j clear k f i

after_heard_right : (c : ℕ) (h : Heard) (p : Body) (j : Join) → NamesAfter j.b.flow h j.b.channel.traffic j.b.epoch p → HearsFlags j.b.channel.traffic h
    → j.b.channel.resetting ≡ false → IsJoin j → After c h j
after_heard_right c (Keeps n u) p j k f clear i = after_keeps (n == 0) c n u j refl clear k.0 f i
after_heard_right c (Confirms u) p j k f clear i =
    subst (λ (t : Traffic). NamesCounts j.b.flow t j.b.epoch → After c (Confirms t) j) (sym f.1) (λ n. confirms_interrupt j clear n f.0 i) k
after_heard_right c (Wrong d) p j k f clear i = reset_right _ _ true _ j i

hears_flow : (c : ℕ) (p : Body) (j : Join) → j.b.channel.resetting ≡ false → IsJoin j → After c (hears_in j.b.flow j.b.channel.traffic p) j
hears_flow c p j clear i =
    after_heard_right c (hears_in j.b.flow j.b.channel.traffic p) p j
    (counts_hold.heard j.b.flow (window_below _ i.there.holds.far.flow) j.b.channel.traffic j.b.epoch p i.there.holds.far.counts)
    (hears_flags j.b.flow j.b.channel.traffic p) clear i

-- ---- by the state of the leg b

abbrev Hears : ℕ → Body → Join → Type 0
Hears c p j = (received j.b.role j.b.flow c j.b.channel p).channel.state ≡ Transfer → IsJoin j → IsJoin (hears c p j)

in_d1 : (c : ℕ) (p : Body) (j : Join) → Hears c p (b_in Transfer false j)
in_d1 c (Clear cause diagnostic) j e i = not_transfer _ refl e
in_d1 c (Reset cause diagnostic) j e i = reset_right _ _ false _ (b_in Transfer false j) i
in_d1 c ResetConfirmation j e i = reset_right _ _ true _ (b_in Transfer false j) i
in_d1 c (Data send receive d) j e i = hears_flow c (Data send receive d) (b_in Transfer false j) refl i
in_d1 c (ReceiveReady receive) j e i = hears_flow c (ReceiveReady receive) (b_in Transfer false j) refl i
in_d1 c (ReceiveNotReady receive) j e i = hears_flow c (ReceiveNotReady receive) (b_in Transfer false j) refl i
in_d1 c (Interrupt octets) j e i = hears_flow c (Interrupt octets) (b_in Transfer false j) refl i
in_d1 c InterruptConfirmation j e i = hears_flow c InterruptConfirmation (b_in Transfer false j) refl i
in_d1 c _ j e i = not_transfer _ refl e

-- the own reset ends
reset_ends : (j : Join) → IsJoin (b_in Transfer true j) → IsJoin (b_in Transfer false j)
reset_ends j i =
    let h = i.there.holds in
    let leg : IsLeg (b_in Transfer false j).b = record {
      flow = h.far.flow;
      counts = h.far.counts;
      traffic_anew = λ r. absurd (true≢false (sym r));
      epoch_anew = λ r. absurd (true≢false (sym r));
      one_interrupt = h.far.one_interrupt;
    } in
    record {
      there = right_beside j.a (b_in Transfer false j).b (way (b_in Transfer true j)) h.near leg refl refl i.there;
      back = right_beside (b_in Transfer false j).b j.a (way (turned (b_in Transfer true j))) leg h.near refl refl i.back;
    }

in_own_reset_ : (c : ℕ) (p : Body) (j : Join) → Hears c p (b_in Transfer true j)
in_own_reset_ c (Clear cause diagnostic) j e i = not_transfer _ refl e
in_own_reset_ c (Reset cause diagnostic) j e i = reset_ends j i
in_own_reset_ c ResetConfirmation j e i = reset_ends j i
in_own_reset_ c (Data send receive d) j e i = i
in_own_reset_ c (ReceiveReady receive) j e i = i
in_own_reset_ c (ReceiveNotReady receive) j e i = i
in_own_reset_ c (Interrupt octets) j e i = i
in_own_reset_ c InterruptConfirmation j e i = i
in_own_reset_ c _ j e i = not_transfer _ refl e

in_transfer_ : (rs : Bool) (c : ℕ) (p : Body) (j : Join) → Hears c p (b_in Transfer rs j)
in_transfer_ true c p j = in_own_reset_ c p j
in_transfer_ false c p j = in_d1 c p j

pub hears_right : (c : ℕ) (p : Body) (j : Join) → Hears c p j
hears_right c p j e i =
    subst (λ (s : ChannelState). Hears c p (b_in s j.b.channel.resetting j)) (sym i.there.holds.far_call) (in_transfer_ j.b.channel.resetting c p j) e i

-- ---- an unreadable packet

abbrev Mishears : ℕ → Bool → Join → Type 0
Mishears c unknown j = (unreadable j.b.role c unknown j.b.channel).channel.state ≡ Transfer → IsJoin j → IsJoin (mishears c unknown j)

mishears_in : (rs : Bool) (c : ℕ) (unknown : Bool) (j : Join) → Mishears c unknown (b_in Transfer rs j)
mishears_in true c unknown j e i = not_transfer _ refl e
mishears_in false c unknown j e i = reset_right _ _ true _ (b_in Transfer false j) i

pub mishears_right : (c : ℕ) (unknown : Bool) (j : Join) → Mishears c unknown j
mishears_right c unknown j e i =
    subst (λ (s : ChannelState). Mishears c unknown (b_in s j.b.channel.resetting j)) (sym i.there.holds.far_call) (mishears_in j.b.channel.resetting c unknown j) e i
