-- What is written reads back, since a status nests little.
use Rattle.std.proofs.Common.{◌≡◌, ◌≤◌, Some, IfOk, string_bytes, subst}
use Rattle.std.proofs.lemmas.Result.{IfOk-weaker}
use Rattle.serde_json.specs.Data.{Data, depth}
use Rattle.serde_json.specs.Read.{read}
use Rattle.status_pages.proofs.Depths.{status_depth}
use Rattle.status_pages.proofs.json.status_json.Goals as goal

pub returns : goal.returns
returns c =
    let P : Data → Type 0 = λ d. IfOk c.to_string.result (λ text. depth d ≤ 127 → read (string_bytes text) ≡ Some d) in
    IfOk-weaker c.to_string.result _ _ (λ text back. back (status_depth c.args.status.now))
    (subst P c.in_ok-status_value.ensures c.to_string.ensures.reads_back)
