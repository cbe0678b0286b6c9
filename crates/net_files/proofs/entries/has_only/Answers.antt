use Rattle.std.proofs.Common.{map, ◌∙◌}
use Rattle.net_files.proofs.TableKeys.{only_of_keys}
use Rattle.net_files.proofs.entries.has_only.Goals as goal

pub returns : goal.returns
returns c = c.all_among.ensures ∙ only_of_keys (map (λ name. name.now) c.args.known.now) c.args.entry.now.entries
