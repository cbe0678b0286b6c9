use Rattle.std.proofs.Common.{rules, arith, refl, drop}
use Rattle.trace_capture.specs.Trace.{number_end}
use Rattle.trace_capture.proofs.FrameLines.{frame_parts}
use Rattle.trace_capture.proofs.frame.read_line.Goals as goal
use Rattle.trace_capture.proofs.frame.read_line.Goals.{in_default-via-then-rest-lt2, in_default-via-in-32+else-number-le-MOST_DIGITS, in_default-via-else-rest-lt2+in_default-1}

pub returns-then-not-is_traced-clause-reads : goal.returns-then-not-is_traced-clause-reads
returns-then-not-is_traced-clause-reads c = λ is.
    let parts = frame_parts c.args.line.now (drop (number_end c.args.line.now) c.args.line.now) (number_end c.args.line.now) refl refl is in
    search (rules, parts.traced)

pub returns-in_err-read_direction-in-32-clause-reads : goal.returns-in_err-read_direction-in-32-clause-reads
returns-in_err-read_direction-in-32-clause-reads c = λ is.
    let parts = frame_parts c.args.line.now c.split_at.result.1.now c.number_end.result c.number_end.ensures.value c.split_at.ensures.back is in
    absurd (c.in_err-read_direction-in-32.ensures.fault parts.direction parts.sign)

pub returns-in_err-read_octets-in-32-clause-reads : goal.returns-in_err-read_octets-in-32-clause-reads
returns-in_err-read_octets-in-32-clause-reads c = λ is.
    let parts = frame_parts c.args.line.now c.split_at.result.1.now c.number_end.result c.number_end.ensures.value c.split_at.ensures.back is in
    absurd (c.in_err-read_octets-in-32.ensures.fault parts.octets parts.are parts.spelled)

pub returns-in_default-clause-reads : goal.returns-in_default-clause-reads
returns-in_default-clause-reads c = λ is.
    let parts = frame_parts c.args.line.now c.split_at.result.1.now c.number_end.result c.number_end.ensures.value c.split_at.ensures.back is in
    elim c.in_default.branch [
      | in_default-via-then-rest-lt2 w ↦ grind (arith, parts.long)
      | in_default-via-in-32+else-number-le-MOST_DIGITS w ↦ omega (arith, parts.few, c.split_at.ensures.front_len, c.number_end.ensures.value)
      | in_default-via-else-rest-lt2+in_default-1 w ↦ search (rules, parts.space)
    ]
