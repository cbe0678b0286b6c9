use Rattle.std.proofs.Common.{◌≡◌, ◌<◌, [], length, refl, ap, arith}
use Rattle.std.proofs.lemmas.List.{length_push}
use Rattle.user_nodes.specs.Node.{frames_of}
use Rattle.user_nodes.specs.NodeView.{node_of}
use Rattle.node_events.proofs.Sending.{putting-more, putting-ends, frames-kept, frames-end, given, none-left}
use Rattle.node_events.proofs.send.put_frames.Goals as goal

pub loop-preserved : goal.loop-preserved
loop-preserved g c =
    let some : 0 < length (frames_of (node_of c.loop.node)) = omega (arith, c.loop.invariant.left, c.loop-test.true) in
    let first = given c.out.result (frames_of (node_of c.loop.node)) c.out.new.frame (frames_of (node_of c.out.new.self)) c.out.ensures.frame c.out.ensures.nothing some in
    record {
      putting =
          putting-more _ _ _ _ _ c.loop.puts.items _ _ c.out.new.frame (frames_of (node_of c.out.new.self)) _ _ (record { line = c.args.number; direction = c.args.direction; octets = c.out.new.frame }) c.loop.invariant.putting
          first refl (record { on = refl; to = refl; as_octets = refl })
          (λ f. c.put.ensures f);
      node_is = frames-kept (node_of c.args.node.now) (node_of c.loop.node) (node_of c.out.new.self) c.loop.invariant.node_is c.out.ensures.node;
      left = (let l = ap length first in omega (arith, l, c.loop.invariant.left));
      most = c.loop.invariant.most;
      put = (let more = length_push c.loop.puts.items (record { line = c.args.number; direction = c.args.direction; octets = c.out.new.frame }) in omega (arith, c.loop.invariant.put, more));
      room = c.loop.invariant.room;
      capacity = c.loop.invariant.capacity;
    }

pub returns : goal.returns
returns g c =
    let none : frames_of (node_of c.loop.node) ≡ [] = none-left _ (omega (arith, c.loop.invariant.left, c.loop-test.false)) in
    record {
      node = frames-end _ _ c.loop.invariant.node_is none;
      puts = putting-ends _ _ _ _ _ _ _ _ c.loop.invariant.putting none;
      places = c.loop.invariant.capacity;
      most = omega (arith, c.loop.invariant.put, c.loop.invariant.most, c.loop.invariant.left, c.loop.invariant.room);
    }
