use Rattle.std.proofs.Common.{ap, ◌∙◌, Some, option_map, string_bytes}
use Rattle.file_tables.proofs.Members.{unknown_of_keys}
use Rattle.file_tables.proofs.faults.first_unknown.Goals as goal

pub returns-in-Some : goal.returns-in-Some
returns-in-Some c =
    ap Some c.as_str.ensures.value
    ∙ ap (option_map string_bytes) c.in-Some.ensures
    ∙ unknown_of_keys c.args.keys.now c.args.table.now.entries

pub returns-in-None : goal.returns-in-None
returns-in-None c =
    ap (option_map string_bytes) c.in-None.ensures
    ∙ unknown_of_keys c.args.keys.now c.args.table.now.entries
