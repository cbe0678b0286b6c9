use Rattle.std.proofs.Common.{◌≡◌, ◌++◌, ◌∙◌, OnOk, List, ℕ, subst}
use Rattle.trace_capture.specs.Capture.{block}
use Rattle.trace_capture.proofs.blocks.push_frame.Goals as goal

pub returns-in-Ok : goal.returns-in-Ok
returns-in-Ok c =
    subst (λ (body : List ℕ). OnOk c.push_block.result
    (c.push_block.new.capture.items ≡ c.args.capture.now.items ++ block 6 body))
    (c.as_slice.ensures.value ∙ c.in-Ok.ensures.value) c.push_block.ensures
