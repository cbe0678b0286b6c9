-- The flow control parameters of a line (X.25 4.4.1): window, numbering and packet size.
use Rattle.std.specs.Prelude.{◌≡◌, ℕ, ◌+◌, ◌-◌, ◌%◌, ◌≤◌, Bool, true, ◌||◌, ◌==◌}
use Rattle.packet_codec.specs.declared.packet.Numbering.{Numbering}
use Rattle.packet_codec.specs.declared.packet.Numbering.TheVariants.{Modulo8, Modulo128}
pub use Rattle.packet_codec.specs.Packet.{modulus}
use Rattle.data_transfer.specs.declared.flow.Flow.{Flow}

-- the largest window
abbrev pub most_window : Numbering → ℕ
most_window Modulo8 = 7
most_window Modulo128 = 32

-- the packet sizes that a line may have
abbrev pub is_size : ℕ → Bool
is_size size = (size == 128) || (size == 256) || (size == 512) || (size == 1024)

-- what a line may have
pub record IsFlow (flow : Flow) : Type 0 where
  pub window_least : 1 ≤ flow.window
  pub window_most : flow.window ≤ most_window flow.numbering
  pub size_is : is_size flow.size ≡ true

-- numbers modulo 8, numbers modulo 128, and packets of 128 octets
abbrev pub modulo_8 : (window : ℕ) → Flow
modulo_8 window = record { window = window; numbering = Modulo8; size = 128 }

abbrev pub modulo_128 : (window : ℕ) → Flow
modulo_128 window = record { window = window; numbering = Modulo128; size = 128 }

-- ---- numbers are kept modulo 128 on each line, and a packet shows them modulo the line's

abbrev pub shown : Numbering → ℕ → ℕ
shown numbering number = number % modulus numbering

-- how far a number that is received is ahead of one that is kept
abbrev pub ahead_shown : Numbering → (kept received : ℕ) → ℕ
ahead_shown numbering kept received = (received + modulus numbering - kept % modulus numbering) % modulus numbering
