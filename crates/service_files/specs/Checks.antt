-- What the octets of a service file name.
use Rattle.std.specs.Prelude.{◌≡◌, ℕ, List, codes, string_bytes, Option, Some, None, String}
use Rattle.std.specs.Global.{Global}
use Rattle.toml.specs.Data.{Members}
use Rattle.service_files.specs.Reads.{IsDocument, text_at}

-- the name at `network`, if the octets are a document that has one
abbrev pub Names : List ℕ → Option (String Global) → Type 0
Names octets (Some name) =
    (document : Members) × IsDocument octets document × (text_at (codes "network") document ≡ Some (string_bytes name))
Names octets None = (document : Members) → IsDocument octets document → text_at (codes "network") document ≡ None
