-- A capture of frames as they pass, file by file.
use Rattle.std.specs.Prelude.{ℕ, Bool, ◌&&◌, ◌+◌, ◌-◌, ◌/◌, ◌%◌, ◌^◌, List, ◌++◌, length, decimal, min, nat_le, if◌then◌else◌}
use Rattle.std.specs.Int.{to_le_bytes, w32}
use Rattle.octet_rings.specs.Places.{most_octets}
use Rattle.frame_lines.specs.declared.line.Direction.{Direction}
use Rattle.trace_capture.specs.Capture.{block, head, packet, padded, comment}
use Rattle.frame_captures.specs.declared.capture.Capture.{Capture}

-- ---- the block of a frame

abbrev pub padded_length : (octets : ℕ) → ℕ
padded_length octets = octets + (4 - octets % 4) % 4

abbrev pub body_length : (digits frame : ℕ) → ℕ
body_length digits frame = 28 + padded_length (frame + 20) + padded_length (digits + 5)

-- a packet on the only interface, its time in two numbers, its length twice, and a comment that names the line
abbrev pub frame_body : (time : ℕ) → (digits : List ℕ) → Direction → (octets : List ℕ) → List ℕ
frame_body time digits direction octets =
    to_le_bytes w32 0 ++ to_le_bytes w32 (time / 4294967296) ++ to_le_bytes w32 (time % 4294967296)
    ++ to_le_bytes w32 (length octets + 20) ++ to_le_bytes w32 (length octets + 20)
    ++ padded (packet direction octets) ++ comment digits

-- ---- the file

abbrev pub begun : Capture → Capture
begun c = record c { octets = length head; waiting = head }

abbrev pub new_capture : (size : ℕ) → Capture
new_capture size = record { size = size; octets = length head; lost = 0; waiting = head }

abbrev pub is_full : Capture → Bool
is_full c = nat_le c.size c.octets

-- there is room for any block, and the frame is not too long
abbrev pub takes : Capture → (frame : List ℕ) → Bool
takes c frame = nat_le (length frame) 1030 && nat_le (length c.waiting + 1104) most_octets

abbrev pub saturated : ℕ → ℕ
saturated n = min n (2 ^ 64 - 1)

abbrev pub with_block : List ℕ → Capture → Capture
with_block octets c = record c { octets = saturated (c.octets + length octets); waiting = c.waiting ++ octets }

abbrev pub with_frame : (line : ℕ) → Direction → (time : ℕ) → (frame : List ℕ) → Capture → Capture
with_frame line direction time frame c =
    if takes c frame then with_block (block 6 (frame_body time (decimal line) direction frame)) c
    else record c { lost = saturated (c.lost + 1) }
