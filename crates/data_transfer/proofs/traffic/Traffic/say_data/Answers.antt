use Rattle.std.proofs.Common.{sym, subst, rules, tests}
use Rattle.flow_window.specs.Pool.{Holds}
use Rattle.flow_window.proofs.Weights.{held_in}
use Rattle.data_transfer.specs.Held.{Traffic}
use Rattle.data_transfer.proofs.Queues.{holds_first}
use Rattle.data_transfer.proofs.traffic.Traffic.say_data.Goals as goal

pub octets-requires : goal.octets-requires
octets-requires c =
    let all = subst (λ (t : Traffic). Holds c.args.pool.now t.held) (sym c.self.view_is) c.requires.holds in
    rw c.buffer.ensures.value (
    held_in c.args.pool.now c.self.inside.waiting.held 0 c.in-Some.data.now.buffer
    (holds_first c.args.pool.now c.self.inside.waiting.held c.self.inside.arrived.held all)
    c.in-Some.ensures.buffer
    )

pub drop_front-requires : goal.drop_front-requires
drop_front-requires c =
    let all = subst (λ (t : Traffic). Holds c.args.pool.now t.held) (sym c.self.view_is) c.requires.holds in
    holds_first c.args.pool.now c.self.inside.waiting.held c.self.inside.arrived.held all

pub returns-clause-octets : goal.returns-clause-octets
returns-clause-octets c = search (rules, tests)

pub returns-clause-reads_back : goal.returns-clause-reads_back
returns-clause-reads_back c = search (rules, tests)

pub returns-clause-traffic : goal.returns-clause-traffic
returns-clause-traffic c = search (rules, tests)

pub returns-clause-said : goal.returns-clause-said
returns-clause-said c = search (rules, tests)
