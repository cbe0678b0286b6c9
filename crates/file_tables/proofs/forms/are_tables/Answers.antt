use Rattle.std.proofs.Common.{ap, ◌∙◌, is_some}
use Rattle.std.specs.List.{list_all}
use Rattle.toml.specs.Data.{as_table}
use Rattle.toml.specs.View.{view}
use Rattle.file_tables.specs.Forms.{is_array_of}
use Rattle.file_tables.proofs.Members.{all_of_items}
use Rattle.file_tables.proofs.forms.are_tables.Goals as goal

pub returns-in-Some : goal.returns-in-Some
returns-in-Some c =
    c.all_tables.ensures
    ∙ ap (list_all (λ v. is_some (as_table (view v)))) c.deref.ensures.value
    ∙ all_of_items (λ d. is_some (as_table d)) c.in-Some.values.now.items
    ∙ ap (is_array_of (λ d. is_some (as_table d))) c.in-Some.ensures
