use Rattle.std.proofs.Common.{true, false}
use Rattle.service.specs.Serving.{WishesKeys}
use Rattle.service.proofs.Served.{serves_more, serves_at}
use Rattle.service.proofs.rounds.type_some.Goals as goal

pub returns-then-not-type_next : goal.returns-then-not-type_next
returns-then-not-type_next g c =
    serves_at g.L.Line.service c.args.at (WishesKeys c.args.at) _ false _ _ _ _ c.if-not-type_next.true c.type_next.ensures

pub loop-init : goal.loop-init
loop-init g c =
    serves_at g.L.Line.service c.args.at (WishesKeys c.args.at) _ true _ _ _ _ c.if-not-type_next.false c.type_next.ensures

pub loop-preserved : goal.loop-preserved
loop-preserved g c =
    serves_more g.L.Line.service c.args.at (WishesKeys c.args.at) _ _ _ _ _ _ _ _ c.loop.invariant c.type_next-in-loop.ensures

pub returns-then-not-type_next-2 : goal.returns-then-not-type_next-2
returns-then-not-type_next-2 g c =
    serves_more g.L.Line.service c.args.at (WishesKeys c.args.at) _ _ _ _ _ _ _ _ c.loop.invariant c.type_next-in-loop.ensures
