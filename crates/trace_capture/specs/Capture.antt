-- Captures, as Wireshark reads them (pcapng): blocks of octets, numbers with their low octet first.
use Rattle.std.specs.Prelude.{◌≡◌, ℕ, ◌+◌, ◌-◌, ◌%◌, List, [], ◌∷◌, ◌++◌, length, replicate, codes, false, Some}
use Rattle.std.specs.Prelude.{true, Option}
use Rattle.std.specs.Int.{to_le_bytes, w16, w32}
use Rattle.frame_lines.specs.declared.line.Direction.{Direction}
use Rattle.frame_lines.specs.declared.line.Direction.TheVariants.{FromDte, FromDce}
use Rattle.trace_capture.specs.declared.fault.TraceFault.{TraceFault}
use Rattle.trace_capture.specs.declared.fault.TraceFault.TheVariants.{Line, OutOfMemory}
use Rattle.trace_capture.specs.Trace.{is_traced, frame_line, IsFrameLine}
use Rattle.trace_capture.specs.Lines.{AreLines}

-- ---- blocks

-- octets, and as many zeros as make them a multiple of four
abbrev pub padded : List ℕ → List ℕ
padded octets = octets ++ replicate ((4 - length octets % 4) % 4) 0

-- a block: its kind, its length in octets, what it has, and its length again
abbrev pub block : (kind : ℕ) → (body : List ℕ) → List ℕ
block kind body =
    to_le_bytes w32 kind ++ to_le_bytes w32 (length body + 12) ++ body ++ to_le_bytes w32 (length body + 12)

-- the head of a capture: a section of any length whose numbers have their low octet first, and one interface, of which
-- each packet says how it is to be read (link type 252)
abbrev pub section_body : List ℕ
section_body = 77 ∷ 60 ∷ 43 ∷ 26 ∷ 1 ∷ 0 ∷ 0 ∷ 0 ∷ 255 ∷ 255 ∷ 255 ∷ 255 ∷ 255 ∷ 255 ∷ 255 ∷ 255 ∷ []

abbrev pub interface_body : List ℕ
interface_body = 252 ∷ 0 ∷ 0 ∷ 0 ∷ 0 ∷ 0 ∷ 0 ∷ 0 ∷ []

abbrev pub head : List ℕ
head = block 168627466 section_body ++ block 1 interface_body

-- ---- frames

-- 0 where the DTE sent the frame and 1 where the DCE did
abbrev pub way_of : Direction → ℕ
way_of FromDte = 0
way_of FromDce = 1

-- a packet: it is to be read as `lapb`, and goes this way; these fields have their numbers' high octets first
abbrev pub packet : Direction → (octets : List ℕ) → List ℕ
packet direction octets =
    0 ∷ 12 ∷ 0 ∷ 4 ∷ codes "lapb" ++ 0 ∷ 35 ∷ 0 ∷ 4 ∷ 0 ∷ 0 ∷ 0 ∷ way_of direction ∷ 0 ∷ 0 ∷ 0 ∷ 0 ∷ octets

-- a comment, which names the line
abbrev pub comment : (digits : List ℕ) → List ℕ
comment digits =
    1 ∷ 0 ∷ to_le_bytes w16 (length digits + 5) ++ padded (codes "line " ++ digits) ++ 0 ∷ 0 ∷ 0 ∷ 0 ∷ []

-- the packet of this number, which is its time too
abbrev pub packet_body : (number : ℕ) → (digits : List ℕ) → Direction → (octets : List ℕ) → List ℕ
packet_body number digits direction octets =
    to_le_bytes w32 0 ++ to_le_bytes w32 0 ++ to_le_bytes w32 number
    ++ to_le_bytes w32 (length octets + 20) ++ to_le_bytes w32 (length octets + 20)
    ++ padded (packet direction octets) ++ comment digits

-- ---- a trace

-- lines of a trace that have so many frames, counted modulo 2^32, and the blocks of these: a line that does not begin
-- as that of a frame has none
pub data AreBlocks : (lines : List (List ℕ)) → (count : ℕ) → (blocks : List ℕ) → Type 0 where
  none : AreBlocks [] 0 []
  other : {lines : List (List ℕ)} {count : ℕ} {blocks : List ℕ} (line : List ℕ) → is_traced line ≡ false
      → AreBlocks lines count blocks → AreBlocks (lines ++ line ∷ []) count blocks
  frame : {lines : List (List ℕ)} {count : ℕ} {blocks : List ℕ} (digits : List ℕ) (direction : Direction)
      (octets : List ℕ) → AreBlocks lines count blocks
      → AreBlocks (lines ++ frame_line digits direction octets ∷ []) ((count + 1) % 4294967296)
      (blocks ++ block 6 (packet_body count digits direction octets))

-- the blocks of these lines, behind the head
pub record HasBlocks (lines : List (List ℕ)) (count : ℕ) (capture : List ℕ) : Type 0 where
  pub blocks : List ℕ
  pub are_blocks : AreBlocks lines count blocks
  pub whole : capture ≡ head ++ blocks

-- the capture of a text
pub record IsCapture (text capture : List ℕ) : Type 0 where
  pub lines : List (List ℕ)
  pub are_lines : AreLines (Some text) lines
  pub count : ℕ
  pub has_blocks : HasBlocks lines count capture

-- ---- faults

-- memory was wanted; or a line begins as that of a frame and is none, and each line before it is of something else or a
-- frame's: the fault has its number, counted from 1 modulo 2^32
pub data IsTraceFault (text : List ℕ) : TraceFault → Type 0 where
  no_memory : IsTraceFault text OutOfMemory
  no_frame : {before : List (List ℕ)} {line : List ℕ} {rest : Option (List ℕ)} {count number : ℕ} {blocks : List ℕ}
      → ((after : List (List ℕ)) → AreLines rest after → AreLines (Some text) (before ++ line ∷ after))
      → AreBlocks before count blocks → is_traced line ≡ true → ¬ IsFrameLine line
      → number ≡ (length before + 1) % 4294967296 → IsTraceFault text (Line number)
