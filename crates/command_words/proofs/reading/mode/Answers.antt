use Rattle.std.proofs.Common.{rules, ◌≡◌, ◌∙◌, ap₂}
use Rattle.std.proofs.lemmas.Result.{IfOk-weaker}
use Rattle.clap.specs.Words.{app_of, with_rule}
use Rattle.command_words.specs.Invocations.{played}
use Rattle.command_words.proofs.reading.mode.Goals as goal

pub returns-clause-app : goal.returns-clause-app
returns-clause-app c =
    IfOk-weaker c.arg-2.result _ _
    (λ mode h. h.shape (search rules)
    ∙ ap₂ with_rule (c.in_ok-arg.ensures.shape (search rules) ∙ ap₂ with_rule c.new.ensures.app c.file_option.ensures.rule)
    c.file_option-2.ensures.rule) c.arg-2.ensures
