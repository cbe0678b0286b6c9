use Rattle.std.proofs.Common.{◌≡◌, ◌+◌, ◌++◌, length, sym, ap, ◌∙◌}
use Rattle.std.specs.Int.{to_le_bytes, w32}
use Rattle.trace_capture.specs.Capture.{packet, padded, comment}
use Rattle.frame_captures.specs.Capture.{frame_body}
use Rattle.frame_captures.proofs.Lengths.{body_is, in_order}
use Rattle.frame_captures.proofs.blocks.add_frame.Goals as goal

pub returns : goal.returns
returns c =
    let body = frame_body c.args.time c.args.digits.now c.args.direction c.args.frame.now in
    let size : c.body_length-length.result + 12 ≡ length body + 12
    = ap (λ n. n + 12) (c.body_length-length.ensures.value ∙ sym (body_is c.args.time c.args.digits.now c.args.direction c.args.frame.now)) in
    in_order c.args.ring.now _ _ _ _ _ _ (padded (packet c.args.direction c.args.frame.now)) (comment c.args.digits.now) _ _ _ _ _ _ _ _ _ _
    c.add_number.ensures.value c.add_number-2.ensures.value c.add_number-3.ensures.value c.add_number-4.ensures.value
    c.add_number-5.ensures.value c.add_number-6.ensures.value c.add_number-7.ensures.value c.add_packet.ensures.value
    c.add_comment.ensures.value c.add_number-8.ensures.value
    ∙ ap (λ n. c.args.ring.now ++ (to_le_bytes w32 6 ++ (to_le_bytes w32 n ++ (body ++ to_le_bytes w32 n)))) size
