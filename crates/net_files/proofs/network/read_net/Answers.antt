use Rattle.std.proofs.Common.{◌≡◌, rules, sym, ◌∙◌}
use Rattle.toml.specs.View.{table_view}
use Rattle.net_files.specs.Marks.{begins_with_mark}
use Rattle.net_files.proofs.Documents.{of_document}
use Rattle.net_files.proofs.network.read_net.Goals as goal

pub returns-in-Ok-clause-spelled : goal.returns-in-Ok-clause-spelled
returns-in-Ok-clause-spelled c =
    let marks : c.starts_with.result ≡ begins_with_mark c.args.text.now = search rules in
    of_document c.args.text.now (table_view c.in-Ok.document) c.read_document.result
    (sym marks ∙ c.if-starts_with.false) c.in-Ok.ensures.ok c.read_document.ensures
