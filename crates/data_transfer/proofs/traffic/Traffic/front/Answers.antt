use Rattle.std.proofs.Common.{sym, subst}
use Rattle.flow_window.specs.Pool.{Holds}
use Rattle.flow_window.proofs.Weights.{held_in}
use Rattle.data_transfer.specs.Held.{Traffic}
use Rattle.data_transfer.proofs.Queues.{holds_second}
use Rattle.data_transfer.proofs.traffic.Traffic.front.Goals as goal

pub front-requires-2 : goal.front-requires-2
front-requires-2 c =
    let all = subst (λ (t : Traffic). Holds c.args.pool.now t.held) (sym c.self.view_is) c.requires in
    held_in c.args.pool.now c.self.inside.arrived.held 0 c.in_ok-data.data.now.buffer
    (holds_second c.args.pool.now c.self.inside.waiting.held c.self.inside.arrived.held all)
    c.in_ok-data.ensures.buffer
