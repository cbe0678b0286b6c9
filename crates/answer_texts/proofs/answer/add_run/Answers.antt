-- Octets that stand for themselves are added at once.
use Rattle.std.proofs.Common.{rules, ◌≡◌, sym}
use Rattle.std.specs.List.{flat_map}
use Rattle.answer_texts.specs.Answers.{shown}
use Rattle.answer_texts.proofs.Runs.{plain_shown}
use Rattle.answer_texts.proofs.answer.add_run.Goals as goal

pub returns-then-are_plain : goal.returns-then-are_plain
returns-then-are_plain c =
    let same : flat_map shown c.args.octets.now ≡ c.args.octets.now = plain_shown c.args.octets.now (sym c.if-are_plain.ensures) in
    rw same (search rules)
