-- A timer of the line.
use Rattle.std.specs.Prelude.{◌≡◌, List}
use Rattle.std.specs.Bool.{OnTrue}
use Rattle.std.proofs.Common.{subst, ◌∙◌}
use Rattle.packet_end.specs.PacketEnd.{Octets}
use Rattle.x25_pad.proofs.Frames.{is_of_line}
use Rattle.x25_pad.proofs.pad.Pad.on_timer.Goals as goal

pub returns-in_default : goal.returns-in_default
returns-in_default c =
    let is = is_of_line c.args.id c.in_default.not-Idle c.args.self.now in
    record {
      ran = c.on_line_timer.ensures.ran ∙ is.0;
      pad = c.on_line_timer.ensures.pad ∙ is.1;
      nothing_kept_back = c.on_line_timer.ensures.nothing_kept_back;
      frames = subst (λ (l : List Octets). OnTrue c.on_line_timer.result (c.on_line_timer.new.self.line.end.line.frames ≡ l)) is.2 c.on_line_timer.ensures.frames;
    }
