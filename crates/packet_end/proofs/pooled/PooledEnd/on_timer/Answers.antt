use Rattle.std.proofs.lemmas.Grind.{common_steps}
use Rattle.std.proofs.Common.{◌≡◌, ◌≢◌, ◌++◌, ◌∙◌, ap, refl, rules, sym, true, arith}
use Rattle.std.specs.Prelude.{ℕ, ◌+◌, Bool, Option, Some, cond}
use Rattle.link_timers.specs.declared.timers.TimerId.{TimerId}
use Rattle.link_timers.specs.declared.timers.TimerId.TheVariants.{T1, T10, T20, T11, T12, T13, T21, T22, T23, Idle}
use Rattle.flow_window.proofs.Weights.{balances_then}
use Rattle.packet_layer.specs.Layer as machine
use Rattle.packet_layer.specs.Layer.{Timer}
use Rattle.packet_layer.specs.Events.{timer_named, on_named}
use Rattle.packet_layer.specs.LayerTimers.{stopped, runs_by_name, stopped_by_name}
use Rattle.packet_layer.specs.TimerView.{timer_of}
use Rattle.packet_layer.specs.Held.{Layer, most_held}
use Rattle.packet_end.specs.PacketEnd.{PacketEnd, gathered, after_timer}
use Rattle.packet_end.specs.PooledView.{end_of}
use Rattle.packet_end.specs.Pooled.{PooledEnd, share_of}
use Rattle.packet_end.proofs.Pools.{served, serves_after, within, line_holds, lent_holds, layer_holds, line_balanced, layer_balanced}
use Rattle.line_end.specs.Held.{LineEnd}
use Rattle.packet_end.proofs.pooled.PooledEnd.on_timer.Goals as goal

pub on_t1-requires : goal.on_t1-requires
on_t1-requires c =
    lent_holds c.args.pool.now c.self.inside.line.value c.deref_mut.ensures.value
    (line_holds c.args.pool.now c.self.inside.line.value c.self.inside.layer
    (served c.self.inside c.args.self.now c.args.pool.now c.self.view_is c.requires.pool))

pub heed-requires-clause-pool : goal.heed-requires-clause-pool
heed-requires-clause-pool c =
    let a = c.self.inside in
    let x = c.args.self.now in
    let new = c.on_t1.new.self in
    serves_after c.args.pool.now c.on_t1.new.pool x.held (new.held ++ a.layer.held) x.share (share_of new.end a.layer.layer)
    x.info new.end.link.info c.requires.pool (line_balanced a x c.args.pool.now c.on_t1.new.pool new c.self.view_is c.deref_mut.ensures.value c.on_t1.ensures.pool)
    (ap (λ k. k + most_held a.layer.layer + 1) (c.on_t1.ensures.k ∙ ap (λ (l : LineEnd). l.end.link.k) c.deref_mut.ensures.value) ∙ ap (λ (x : PooledEnd). x.share) c.self.view_is)
    (c.on_t1.ensures.info ∙ ap (λ (l : LineEnd). l.end.link.info) c.deref_mut.ensures.value ∙ ap (λ (x : PooledEnd). x.info) c.self.view_is)

pub on_timer-requires : goal.on_timer-requires
on_timer-requires c =
    let a = c.self-2.inside in
    record {
      holds = layer_holds c.args.pool.now a.line.value a.layer
          (served a c.args.self.now c.args.pool.now c.self-2.view_is c.requires.pool);
    }

pub returns-in-Some-clause-pool : goal.returns-in-Some-clause-pool
returns-in-Some-clause-pool c =
    let a = c.self.inside in
    let x = c.args.self.now in
    let new = c.on_t1.new.self in
    balances_then c.args.pool.now c.on_t1.new.pool c.heed.new.pool x.held (new.held ++ a.layer.held) c.heed.new.self.held
    (line_balanced a x c.args.pool.now c.on_t1.new.pool new c.self.view_is c.deref_mut.ensures.value c.on_t1.ensures.pool) c.heed.ensures.pool

pub returns-in_default-on_t1-clause-pool : goal.returns-in_default-on_t1-clause-pool
returns-in_default-on_t1-clause-pool c =
    line_balanced c.self.inside c.args.self.now c.args.pool.now c.on_t1.new.pool c.on_t1.new.self c.self.view_is c.deref_mut.ensures.value c.on_t1.ensures.pool

-- an expiry of a timer that is not T1
not_t1 : (id : TimerId) → id ≢ T1 → (e : PacketEnd) → after_timer e id
    ≡ cond (runs_by_name e.timers (timer_named e.layer.role id))
    (gathered (record e { timers = stopped_by_name e.timers (timer_named e.layer.role id); layer = on_named e.layer (timer_named e.layer.role id) })) e
not_t1 T1 apart e = absurd (apart refl)
not_t1 T10 apart e = refl
not_t1 T20 apart e = refl
not_t1 (T11 channel) apart e = refl
not_t1 (T12 channel) apart e = refl
not_t1 (T13 channel) apart e = refl
not_t1 (T21 channel) apart e = refl
not_t1 (T22 channel) apart e = refl
not_t1 (T23 channel) apart e = refl
not_t1 (Idle terminal) apart e = refl

pub returns : goal.returns
returns c =
    let a = c.self-2.inside in
    let id = c.args.id in
    let e : PacketEnd = end_of a in
    let t = timer_of c.in-Some-timer_named.timer in
    let new = c.on_timer.new.self in
    let named : timer_named e.layer.role id ≡ Some t = sym c.in-Some-timer_named.ensures in
    let ran : runs_by_name e.timers (timer_named e.layer.role id) ≡ true =
    ap (runs_by_name e.timers) named ∙ sym c.is_running.ensures ∙ c.if-not-is_running.false in
    let goes : after_timer e id ≡ gathered (record e { timers = stopped e.timers t; layer = on_named e.layer (timer_named e.layer.role id) }) =
    not_t1 id c.in_default.not-T1 e
    ∙ ap (λ (b : Bool). cond b (gathered (record e { timers = stopped_by_name e.timers (timer_named e.layer.role id); layer = on_named e.layer (timer_named e.layer.role id) })) e) ran
    ∙ ap (λ (o : Option Timer). gathered (record e { timers = stopped_by_name e.timers o; layer = on_named e.layer (timer_named e.layer.role id) })) named in
    let end =
    (λ i. record { line = a.line.value.end; layer = (c.gather.ensures.layer i).layer; timers = c.stop.ensures i; notes = c.gather.ensures.notes i })
    ∙ ap (λ (l : machine.Layer). gathered (record e { timers = stopped e.timers t; layer = l })) c.on_timer.ensures.layer
    ∙ sym goes
    ∙ ap (λ (x : PooledEnd). after_timer x.end id) c.self-2.view_is in
    let share =
    ap (λ (l : Layer). share_of a.line.value.end l.layer) c.gather.ensures.layer
    ∙ ap (λ (most : ℕ). a.line.value.end.link.k + most + 1) c.on_timer.ensures.most
    ∙ ap (λ (x : PooledEnd). x.share) c.self-2.view_is in
    let info = ap (λ (x : PooledEnd). x.info) c.self-2.view_is in
    record {
      end = λ i. record { end = end i; held = a.line.value.held ++ c.gather.new.layer.held; share = share i; info = info i };
      notes = search rules;
      pool = rw (ap (λ (l : Layer). l.held) c.gather.ensures.layer)
          (layer_balanced a c.args.self.now c.args.pool.now c.on_timer.new.pool new c.self-2.view_is c.on_timer.ensures.pool);
      within = rw c.gather.ensures.layer (within a.line.value new c.self-2.invariant.line c.on_timer.ensures.few);
    }

pub returns-in_default-on_t1-clause-within : goal.returns-in_default-on_t1-clause-within
returns-in_default-on_t1-clause-within c = grind (arith, common_steps)

pub returns-in_default-timer_named : goal.returns-in_default-timer_named
returns-in_default-timer_named c = grind (arith, common_steps)

pub returns-then-not-is_running : goal.returns-then-not-is_running
returns-then-not-is_running c = grind (arith, common_steps)
