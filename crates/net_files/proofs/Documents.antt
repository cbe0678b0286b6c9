-- The network of a text is that of its document.
use Rattle.std.proofs.Common.{◌≡◌, ℕ, false, List, Some, Ok, Err, inl, inr}
use Rattle.std.specs.Prelude.{Result}
use Rattle.toml.specs.Data.{Members}
use Rattle.toml.specs.Parse.{parse_document}
use Rattle.net_config.specs.declared.config.Config.{Config}
use Rattle.net_files.specs.declared.fault.ProgFault.{ProgFault}
use Rattle.net_files.specs.DocumentAnswers.{Makes}
use Rattle.net_files.specs.Marks.{begins_with_mark}
use Rattle.net_files.specs.Networks.{IsNetwork, Spells}

pub of_document : (text : List ℕ) (document : Members) (result : Result Config ProgFault)
    → begins_with_mark text ≡ false → parse_document text ≡ Some document
    → Makes (IsNetwork document) result → Makes (Spells text) result
of_document text document (Ok config) unmarked parsed network =
    record { unmarked = unmarked; document = document; parsed = parsed; network = network }
of_document text document (Err fault) unmarked parsed (inl memory) = inl memory
of_document text document (Err fault) unmarked parsed (inr bad) =
    inr (
      bad.0,
      λ config spelled. (
          let same : spelled.document ≡ document = (let other = spelled.parsed in cc) in
          bad.1 config (rw same at spelled.network)
          ),
    )
