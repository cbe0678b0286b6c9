-- Both directions of a join: what is relayed, asked and given on one leg keeps both clauses.
use Rattle.std.proofs.Common.{◌≡◌, ℕ, Bool, true, false, List, Option, None, refl, sym, ap, ap₂, subst, ◌∙◌, not}
use Rattle.link_timers.specs.declared.role.Role.{Role}
use Rattle.data_transfer.specs.declared.flow.Flow.{Flow}
use Rattle.data_transfer.specs.Flow.{IsFlow}
use Rattle.data_transfer.specs.Packets.{Body}
use Rattle.data_transfer.specs.Traffic.{Traffic, fresh, interrupt_pending}
use Rattle.packet_channel.specs.Channel.{ChannelState, Refusal, refusal, refused_if, in_transfer}
use Rattle.packet_channel.specs.Channel.Request.{Resetting}
use Rattle.packet_laws.specs.History.{Epoch, empty_epoch}
use Rattle.switch_joins.specs.Turning.{Sizes, items_gathered}
use Rattle.switch_joins.specs.Direction.{new_direction}
use Rattle.switch_joins.proofs.Turning.{nothing_is}
use Rattle.switch_laws.specs.Leg.{Leg, asked, asked_unless, connected, gave}
use Rattle.switch_laws.specs.Clause.{Carries, Passed, IsDirection, taken_part, sent_part}
use Rattle.switch_laws.specs.Way.{Way, IsRight, IsStuck, sizes, relayed}
use Rattle.switch_laws.specs.Join.{Join, IsJoin, IsAtRest, turned, way, relayed_there, relayed_both, gives}
use Rattle.switch_laws.proofs.Directions.{direction_begins, none_made}
use Rattle.switch_laws.proofs.Legs.{Gives, leg_gave, leg_anew, leg_connected, anew}
use Rattle.switch_laws.proofs.Ways.{Near, Far, near_seen, far_seen, right_beside, relayed_right, relayed_beside, relayed_stuck, same_takes, KeepsNear, KeepsFar}
use Rattle.switch_lines.specs.Lines.{takes_all}
use Rattle.switch_lines.specs.Relay.{requests_for, most_moves}

pub turned_join : (j : Join) → IsJoin j → IsJoin (turned j)
turned_join j i = record { there = i.back; back = i.there }

-- ---- relayed

pub there_right : (most : ℕ) (j : Join) → IsJoin j → IsJoin (relayed_there most j)
there_right most j i =
    let w = relayed most (way j) in
    let r = relayed_right most (way j) i.there in
    let b = relayed_beside most (way j) in
    record { there = r; back = right_beside w.far w.near (way (turned j)) r.holds.far r.holds.near b.far.seen b.near.seen i.back }

pub both_right : (most : ℕ) (j : Join) → IsJoin j → IsJoin (relayed_both most j)
both_right most j i =
    let k = turned (relayed_there most j) in
    turned_join (relayed_there most k) (there_right most k (turned_join (relayed_there most j) (there_right most j i)))

pub stuck_beside : (g h : Leg) (w : Way) → KeepsNear w.near g → KeepsFar w.far h → IsStuck w → IsStuck (record w { near = g; far = h })
stuck_beside g h w n f s = λ t e.
    let same : ◌≡◌ {A = Sizes} (record { near = g.flow.size; far = h.flow.size }) (sizes w) =
    ap₂ (λ (a b : ℕ). record { near = a; far = b }) (ap (λ (x : Near). x.size) n.seen) (ap (λ (x : Far). x.size) f.seen) in
    ap (λ (z : Sizes). takes_all h.role h.flow h.channel (requests_for z w.kept.gathered t)) same
    ∙ (same_takes (sizes w) w.kept.gathered t w.far h f.open_ ∙ s t (sym n.front ∙ e))

pub both_stuck : (j : Join) → IsJoin j → IsAtRest (relayed_both most_moves j)
both_stuck j i =
    let there = relayed most_moves (way j) in
    let k = turned (relayed_there most_moves j) in
    let ik : IsJoin k = turned_join (relayed_there most_moves j) (there_right most_moves j i) in
    let back = relayed most_moves (way k) in
    let b = relayed_beside most_moves (way k) in
    record { there = stuck_beside back.far back.near there b.far b.near (relayed_stuck (way j) i.there); back = relayed_stuck (way k) ik.there }

-- ---- connected

begins_there : (ra rb : Role) (fa fb : Flow) (oa ob : List Body) → IsFlow fa → IsFlow fb → IsRight (record { near = connected ra fa oa; far = connected rb fb ob; kept = new_direction })
begins_there ra rb fa fb oa ob la lb = record {
  holds = record { near = leg_connected ra fa oa la; far = leg_connected rb fb ob lb; near_call = refl; far_call = refl; passed = Passed.none; direction = direction_begins; gathered = nothing_is _; packets = λ e. refl; interrupted = refl };
  all_released = refl;
}

pub join_begins : (ra rb : Role) (fa fb : Flow) (oa ob : List Body) → IsFlow fa → IsFlow fb
    → IsJoin (record { a = connected ra fa oa; b = connected rb fb ob; there = new_direction; back = new_direction })
join_begins ra rb fa fb oa ob la lb = record { there = begins_there ra rb fa fb oa ob la lb; back = begins_there rb ra fb fa ob oa lb la }

-- ---- given to the line

near_gave : (g h : Leg) → Gives g h → near_seen h ≡ near_seen g
near_gave g h i =
    ap (λ (w : Flow). record (near_seen h) { size = w.size }) i.flow
    ∙ (ap (λ (s : ChannelState). record (near_seen h) { size = g.flow.size; state = s }) i.state
    ∙ (ap (λ (b : List Epoch). record (near_seen h) { size = g.flow.size; state = g.channel.state; before = b }) i.before
    ∙ (ap (λ (e : Epoch). record (near_seen g) { part = taken_part e; interrupt_taken = h.channel.traffic.interrupt_taken }) i.epoch
    ∙ ap (λ (b : Bool). record (near_seen g) { interrupt_taken = b }) i.flags.taken)))

far_gave : (g h : Leg) → Gives g h → far_seen h ≡ far_seen g
far_gave g h i =
    ap (λ (w : Flow). record (far_seen h) { size = w.size }) i.flow
    ∙ (ap (λ (s : ChannelState). record (far_seen h) { size = g.flow.size; state = s }) i.state
    ∙ (ap (λ (b : List Epoch). record (far_seen h) { size = g.flow.size; state = g.channel.state; before = b }) i.before
    ∙ (ap (λ (e : Epoch). record (far_seen g) { part = sent_part e; pending = interrupt_pending h.channel.traffic }) i.epoch
    ∙ ap (λ (b : Bool). record (far_seen g) { pending = b }) i.flags.pending)))

pub gives_right : (j : Join) → IsJoin j → IsJoin (gives j)
gives_right j i =
    let b = leg_gave j.b i.there.holds.far in
    record {
      there = right_beside j.a (gave j.b) (way j) i.there.holds.near b.leg refl (far_gave j.b (gave j.b) b) i.there;
      back = right_beside (gave j.b) j.a (way (turned j)) b.leg i.there.holds.near (near_gave j.b (gave j.b) b) refl i.back;
    }

-- ---- a reset on one leg

-- the other leg was resetting already: nothing had been sent or taken on it since
alone : (r : Bool) (owed : List Body) (j : Join) → j.a.channel.resetting ≡ true → IsJoin j → IsJoin (record { a = j.a; b = anew r owed j.b; there = new_direction; back = new_direction })
alone r owed j e i =
    let a = j.a in let ia = i.there.holds.near in
    let traffic : a.channel.traffic ≡ fresh = ia.traffic_anew e in
    let epoch : a.epoch ≡ empty_epoch = ia.epoch_anew e in
    let leg = leg_anew r owed j.b i.there.holds.far in
    let none_taken = ap (λ (x : Epoch). x.taken) epoch in
    let no_interrupts_taken = ap (λ (x : Epoch). x.interrupts_taken) epoch in
    let there = i.there.holds.direction.carries in
    let back = i.back.holds.direction.carries in
    record {
      there = record {
        holds = record {
          near = ia;
          far = leg;
          near_call = i.there.holds.near_call;
          far_call = i.there.holds.far_call;
          passed = Passed.far_alone (none_made (taken_part a.epoch) (sent_part j.b.epoch) (items_gathered j.there.gathered) there none_taken) (there.interrupts ∙ no_interrupts_taken) i.there.holds.passed;
          direction = subst (λ (x : Epoch). IsDirection new_direction (taken_part x) (sent_part empty_epoch)) (sym epoch) direction_begins;
          gathered = nothing_is _;
          packets = λ s. sym none_taken;
          interrupted = ap (λ (t : Traffic). t.interrupt_taken) traffic;
        };
        all_released = refl;
      };
      back = record {
        holds = record {
          near = leg;
          far = ia;
          near_call = i.there.holds.far_call;
          far_call = i.there.holds.near_call;
          passed = Passed.near_alone (subst (λ (x : Epoch). Carries (taken_part j.b.epoch) (sent_part x) (items_gathered j.back.gathered)) epoch back)
              (λ s. sym (i.back.holds.packets s) ∙ ap (λ (x : Epoch). x.sent) epoch) i.back.holds.passed;
          direction = subst (λ (x : Epoch). IsDirection new_direction (taken_part empty_epoch) (sent_part x)) (sym epoch) direction_begins;
          gathered = nothing_is _;
          packets = λ s. ap (λ (x : Epoch). x.sent) epoch;
          interrupted = sym (ap (λ (t : Traffic). interrupt_pending t) traffic);
        };
        all_released = refl;
      };
    }

-- both legs begin a new epoch
together : (r s : Bool) (owed due : List Body) (j : Join) → IsJoin j → IsJoin (record { a = anew s due j.a; b = anew r owed j.b; there = new_direction; back = new_direction })
together r s owed due j i =
    let a = leg_anew s due j.a i.there.holds.near in let b = leg_anew r owed j.b i.there.holds.far in
    record {
      there = record {
        holds = record { near = a; far = b; near_call = i.there.holds.near_call; far_call = i.there.holds.far_call; passed = Passed.both i.there.holds.direction.carries i.there.holds.packets i.there.holds.passed; direction = direction_begins; gathered = nothing_is _; packets = λ s. refl; interrupted = refl };
        all_released = refl;
      };
      back = record {
        holds = record { near = b; far = a; near_call = i.there.holds.far_call; far_call = i.there.holds.near_call; passed = Passed.both i.back.holds.direction.carries i.back.holds.packets i.back.holds.passed; direction = direction_begins; gathered = nothing_is _; packets = λ s. refl; interrupted = refl };
        all_released = refl;
      };
    }

pub reset_right : (cause diagnostic : ℕ) (r : Bool) (owed : List Body) (j : Join) → IsJoin j
    → IsJoin (record { a = asked (Resetting cause diagnostic) j.a; b = anew r owed j.b; there = new_direction; back = new_direction })
reset_right cause diagnostic r owed j i = by_resetting j.a.channel.resetting refl
  where
    refused_as : (b : Bool) → j.a.channel.resetting ≡ b → refusal j.a.role j.a.flow j.a.channel (Resetting cause diagnostic) ≡ refused_if b Refusal.IsResetting None
    refused_as b e =
        ap (λ (s : ChannelState). refused_if (not (in_transfer s)) Refusal.NoCall (refused_if j.a.channel.resetting Refusal.IsResetting None)) i.there.holds.near_call
        ∙ ap (λ (x : Bool). refused_if x Refusal.IsResetting None) e

    by_resetting : (b : Bool) → j.a.channel.resetting ≡ b → IsJoin (record { a = asked (Resetting cause diagnostic) j.a; b = anew r owed j.b; there = new_direction; back = new_direction })
    by_resetting true e =
        subst (λ (o : Option Refusal). IsJoin (record { a = asked_unless o (Resetting cause diagnostic) j.a; b = anew r owed j.b; there = new_direction; back = new_direction }))
        (sym (refused_as true e)) (alone r owed j e i)
    by_resetting false e =
        subst (λ (o : Option Refusal). IsJoin (record { a = asked_unless o (Resetting cause diagnostic) j.a; b = anew r owed j.b; there = new_direction; back = new_direction }))
        (sym (refused_as false e)) (together r true owed _ j i)
