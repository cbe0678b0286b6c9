use Rattle.std.proofs.Common.{◌≡◌, ◌∙◌, ap, codes}
use Rattle.std.proofs.lemmas.Result.{IfOk-weaker}
use Rattle.clap.specs.Words.{App, app_of, new_app, with_subcommand}
use Rattle.command_words.specs.Invocations.{nameless, played}
use Rattle.command_words.proofs.reading.program.Goals as goal

pub returns : goal.returns
returns c =
    let top_is : app_of c.no_binary_name-nameless.result ≡ nameless (new_app (codes "x25net")) = rw c.no_binary_name-nameless.ensures (ap nameless c.new.ensures.app) in
    IfOk-weaker c.add_mode-2.result _ _
    (λ command h. h ∙ ap (λ (a : App). with_subcommand a (played (codes "run")).top)
    (c.in_ok-add_mode.ensures ∙ ap (λ (a : App). with_subcommand a (played (codes "sim")).top) top_is)) c.add_mode-2.ensures
