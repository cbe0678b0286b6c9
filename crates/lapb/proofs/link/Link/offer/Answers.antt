use Rattle.std.proofs.Common.{◌≡◌, [], ◌∷◌, ◌++◌, arith, ap}
use Rattle.flow_window.specs.Pool.{Pool}
use Rattle.flow_window.proofs.Weights.{balances_then, balances_put, room_after}
use Rattle.lapb.specs.Held.{Queue, Link}
use Rattle.lapb.proofs.link.Link.offer.Goals as goal

pub place-requires-clause-room : goal.place-requires-clause-room
place-requires-clause-room c =
    let room = room_after c.args.pool.now c.give_back_any.new.pool c.self.inside.queue.held c.give_back_any.new.self.held
    c.give_back_any.ensures.pool c.give_back_any.ensures.fewer c.requires.room in
    omega (arith, room)

pub returns-clause-pool : goal.returns-clause-pool
returns-clause-pool c =
    let before = c.give_back_any.new.self.held in
    let size = ap (λ (p : Pool). p.size) c.place.ensures.put.2 in
    let put = balances_put c.give_back_any.new.pool c.place.new.self before c.place.result size c.place.ensures.size
    c.place.ensures.weights in
    let held : c.push.new.self.held ≡ before ++ c.place.result ∷ [] = ap (λ (q : Queue). q.held) c.push.ensures in
    let old = ap (λ (l : Link). l.held) c.self.view_is in
    rw (held, ← old) (balances_then c.args.pool.now c.give_back_any.new.pool c.place.new.self c.self.inside.queue.held before
    (before ++ c.place.result ∷ []) c.give_back_any.ensures.pool put)
