use Rattle.std.proofs.Common.{◌≡◌, ◌++◌, take}
use Rattle.std.specs.List.{flat_map}
use Rattle.answer_texts.specs.Answers.{frame_text}
use Rattle.answer_texts.proofs.answer.add_frames.Given as goal

-- the lines so far are added
abbrev pub invariant-loop-put : goal.invariant-loop-put
invariant-loop-put l = l.text.items ≡ l.initial.text.items ++ flat_map frame_text (take l.put-index l.puts)
