-- What the tables of lines say whose other ends are elsewhere, and that of a capture, with what stands for what is left out.
use Rattle.std.specs.Prelude.{◌≡◌, ◌≤◌, ℕ, List, [], codes, Option, Some, None, unwrap_or, if◌then◌else◌, ⊤}
use Rattle.toml.specs.Data.{Members}
use Rattle.net_config.specs.Served.{same_text}
use Rattle.service_files.specs.declared.file.End.{End}
use Rattle.service_files.specs.declared.file.End.TheVariants.{Dte, Dce}
use Rattle.service_files.specs.declared.file.LineTable.{LineTable}
use Rattle.service_files.specs.declared.file.CaptureTable.{CaptureTable}
use Rattle.service_files.specs.Reads.{text_at, number_at}
use Rattle.service_files.specs.Says.{SaysAllow}
use Rattle.service_files.specs.Ways.{SaysWay}

-- ---- `[[line]]`

abbrev pub end_of : Option (List ℕ) → End
end_of None = Dte
end_of (Some word) = if same_text word (codes "dce") then Dce else Dte

pub record SaysLine (entry : Members) (table : LineTable) : Type 0 where
  pub line : table.line ≡ unwrap_or (number_at (codes "line") entry) 0
  pub here : table.here ≡ end_of (text_at (codes "here") entry)
  pub way : SaysWay entry table.way
  pub hold : table.hold ≡ unwrap_or (number_at (codes "hold") entry) 200
  pub silence : table.silence ≡ unwrap_or (number_at (codes "silence") entry) 300
  pub allow : SaysAllow entry table.allow

-- ---- `[capture]`

pub record SaysCapture (entry : Members) (table : CaptureTable) : Type 0 where
  pub file : table.file.now ≡ unwrap_or (text_at (codes "file") entry) []
  pub size : table.size ≡ unwrap_or (number_at (codes "size") entry) 64
  pub files : table.files ≡ unwrap_or (number_at (codes "files") entry) 4
  pub some_size : 1 ≤ table.size
  pub some_files : 1 ≤ table.files

abbrev pub IsCapture : Option Members → Option CaptureTable → Type 0
IsCapture None None = ⊤
IsCapture (Some entry) (Some table) = SaysCapture entry table
IsCapture _ _ = ⊥
