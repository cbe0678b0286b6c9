use Rattle.std.proofs.Common.{◌∷◌, [], refl, subst}
use Rattle.flow_window.specs.Pool.{Holds}
use Rattle.flow_window.proofs.Weights.{held_in}
use Rattle.data_transfer.specs.TakenView.{buffers_in}
use Rattle.data_transfer.proofs.taken.TakenBuf.take_out.Goals as goal

pub take_out-requires : goal.take_out-requires
take_out-requires c =
    let b = c.in-Data.packet.buffer in
    let all = subst (λ x. Holds c.args.pool.now (buffers_in x)) c.in-Data.is c.requires in
    held_in c.args.pool.now (b ∷ []) 0 b all refl
