use Rattle.std.proofs.Common.{◌∷◌, [], refl, subst}
use Rattle.flow_window.specs.Pool.{Holds}
use Rattle.flow_window.proofs.Weights.{held_in}
use Rattle.data_transfer.specs.TakenView.{buffers_in}
use Rattle.data_transfer.proofs.taken.TakenBuf.take_into.Goals as goal

pub octets-requires-in-Data : goal.octets-requires-in-Data
octets-requires-in-Data c =
    let b = c.in-Data.packet.buffer in
    let all = subst (λ x. Holds c.args.pool.now (buffers_in x)) c.in-Data.is c.requires.held in
    rw c.buffer.ensures.value (held_in c.args.pool.now (b ∷ []) 0 b all refl)

pub front-front-requires : goal.front-front-requires
front-front-requires c =
    let b = c.in-Data.packet.buffer in
    let all = subst (λ x. Holds c.args.pool.now (buffers_in x)) c.in-Data.is c.requires.held in
    held_in c.args.pool.now (b ∷ []) 0 b all refl

pub give_back-requires : goal.give_back-requires
give_back-requires c =
    let b = c.in-Data.packet.buffer in
    let all = subst (λ x. Holds c.args.pool.now (buffers_in x)) c.in-Data.is c.requires.held in
    held_in c.args.pool.now (b ∷ []) 0 b all refl
