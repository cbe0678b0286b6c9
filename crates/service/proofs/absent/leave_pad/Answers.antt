use Rattle.std.proofs.Common.{sym, ◌∙◌}
use Rattle.service.proofs.Seated.{free_at, leaves_one}
use Rattle.service.proofs.absent.leave_pad.Goals as goal

pub loop-number-preserved : goal.loop-number-preserved
loop-number-preserved g c =
    leaves_one g.L.Line.service c.args.pad.node c.loop-number.number c.leave.result c.args.places.now _ _ _ c.loop-number.invariant
    (free_at c.args.places.now (record { node = c.args.pad.node; number = c.loop-number.number }) (sym c.is_bound.ensures ∙ c.if-is_bound.false)) c.leave.ensures
