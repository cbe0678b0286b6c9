use Rattle.std.proofs.lemmas.Grind.{common_steps}
use Rattle.std.proofs.Common.{ap, rules, tests, arith}
use Rattle.packet_layer.specs.Held.{Layer}
use Rattle.packet_end.proofs.Pools.{served, layer_holds, layer_balanced}
use Rattle.packet_end.proofs.pooled.PooledEnd.heed.Goals as goal
use Rattle.packet_end.proofs.pooled.PooledEnd.heed.Goals.{in-Up, in-Down}

pub link_up-requires : goal.link_up-requires
link_up-requires c = record {
  holds = layer_holds c.args.pool.now c.self.inside.line.value c.self.inside.layer
      (served c.self.inside c.args.self.now c.args.pool.now c.self.view_is c.requires.pool);
}

pub link_down-requires : goal.link_down-requires
link_down-requires c = record {
  holds = layer_holds c.args.pool.now c.self.inside.line.value c.self.inside.layer
      (served c.self.inside c.args.self.now c.args.pool.now c.self.view_is c.requires.pool);
}

pub returns-clause-pool : goal.returns-clause-pool
returns-clause-pool c =
    let held = ap (λ (l : Layer). l.held) c.gather.ensures.layer in
    elim c.match-note.branch [
      | in-Up w ↦
          rw (held, w.pool-is, w.self-inside-is)
          (layer_balanced c.self.inside c.args.self.now c.args.pool.now w.link_up.new.pool w.link_up.new.self c.self.view_is w.link_up.ensures.pool)
      | in-Down w ↦
          rw (held, w.pool-is, w.self-inside-is)
          (layer_balanced c.self.inside c.args.self.now c.args.pool.now w.link_down.new.pool w.link_down.new.self c.self.view_is w.link_down.ensures.pool)
    ]

pub returns-clause-end : goal.returns-clause-end
returns-clause-end c = search (rules, tests)

pub returns-clause-within : goal.returns-clause-within
returns-clause-within c = grind (arith, common_steps)

pub returns-in-Nothing-clause-within : goal.returns-in-Nothing-clause-within
returns-in-Nothing-clause-within c = grind (arith, common_steps)
