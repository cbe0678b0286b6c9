use Rattle.std.proofs.Common.{refl}
use Rattle.switch_lines.specs.Pooled.{plain}
use Rattle.switch_lines.proofs.Left.{both_are_there, no_frames}
use Rattle.switch_lines.proofs.lines.Lines.with_frames.Goals as goal

pub returns : goal.returns
returns c =
    let i = c.self.invariant.rest in
    rw (← c.self.view_is) (record {
      there = both_are_there c.self.inside.touched c.self.inside.untaken c.with.result (plain c.self.inside.lines.items)
          (plain c.self.inside.lines.items) refl c.with.ensures i.touched_there i.untaken_there;
      others = no_frames c.self.inside.touched c.self.inside.untaken c.with.result (plain c.self.inside.lines.items)
          c.with.ensures i;
    })
