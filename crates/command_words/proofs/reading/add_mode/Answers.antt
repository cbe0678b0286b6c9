use Rattle.std.proofs.Common.{rules, ◌∙◌, ap}
use Rattle.std.proofs.lemmas.Result.{IfOk-weaker}
use Rattle.clap.specs.Words.{App, app_of, with_subcommand}
use Rattle.command_words.proofs.reading.add_mode.Goals as goal

pub returns : goal.returns
returns c =
    IfOk-weaker c.subcommand.result _ _
    (λ command h. h.shape (search rules)
    ∙ ap (λ (a : App). with_subcommand (app_of c.args.command) a.top) c.in_ok-mode.ensures.app) c.subcommand.ensures
