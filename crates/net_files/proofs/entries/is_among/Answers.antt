use Rattle.std.proofs.Common.{◌∙◌}
use Rattle.std.specs.Prelude.{bytes_eq}
use Rattle.net_files.proofs.TableKeys.{any_of_refs}
use Rattle.net_files.proofs.entries.is_among.Goals as goal

pub returns : goal.returns
returns c = c.contains.ensures.value ∙ any_of_refs (λ name. bytes_eq name c.args.key.now) c.args.known.now
