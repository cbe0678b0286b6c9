use Rattle.std.proofs.Common.{refl}
use Rattle.flow_window.proofs.Weights.{held_in, holds_after, balances_same, balances_then}
use Rattle.data_transfer.proofs.Queues.{balances_first, fewer, none_first}
use Rattle.data_transfer.proofs.queue.PacketQueue.clear.Goals as goal

pub loop-packet-init : goal.loop-packet-init
loop-packet-init c = (refl, balances_same c.args.pool.now c.args.self.now.held)

pub give_back-requires : goal.give_back-requires
give_back-requires c =
    held_in c.loop-packet.pool c.loop-packet.self.held 0 c.in-Some.packet.buffer
    (holds_after c.args.pool.now c.loop-packet.pool c.args.self.now.held c.loop-packet.self.held c.requires
    c.loop-packet.invariant.1)
    c.in-Some.ensures.buffer

pub loop-packet-smaller : goal.loop-packet-smaller
loop-packet-smaller c =
    rw c.in-Some.ensures.rest (fewer c.loop-packet.self.held c.in-Some.packet.buffer c.in-Some.ensures.buffer)

pub loop-packet-preserved : goal.loop-packet-preserved
loop-packet-preserved c =
    rw c.in-Some.ensures.rest (
      c.loop-packet.invariant.0,
      balances_then c.args.pool.now c.loop-packet.pool c.give_back.new.pool c.args.self.now.held
          c.loop-packet.self.held _ c.loop-packet.invariant.1
          (balances_first c.loop-packet.pool c.give_back.new.pool c.loop-packet.self.held c.in-Some.packet.buffer
          c.in-Some.ensures.buffer c.give_back.ensures),
    )

pub returns-clause-pool : goal.returns-clause-pool
returns-clause-pool c =
    rw (← none_first c.loop-packet.self.held c.in_default.ensures.buffer) c.loop-packet.invariant.1
