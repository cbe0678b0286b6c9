use Rattle.std.proofs.Common.{ap, arith}
use Rattle.flow_window.specs.Pool.{weight}
use Rattle.flow_window.proofs.Weights.{weight_append}
use Rattle.data_transfer.specs.Held.{Traffic, Queue}
use Rattle.data_transfer.proofs.Queues.{first_weight}
use Rattle.data_transfer.proofs.traffic.Traffic.take_buf.Goals as goal

pub returns-clause-held : goal.returns-clause-held
returns-clause-held c w =
    let a = c.self.inside in
    let whole = ap (λ (t : Traffic). weight w t.held) c.self.view_is in
    let before = weight_append w a.waiting.held a.arrived.held in
    let after = weight_append w a.waiting.held c.pop.new.self.held in
    let rest = ap (λ (q : Queue). weight w q.held) c.in_ok-packet.ensures.rest in
    let first = first_weight w a.arrived.held c.in_ok-packet.packet.buffer c.in_ok-packet.ensures.buffer in
    omega (arith, whole, before, after, rest, first)
