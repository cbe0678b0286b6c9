-- Whether a terminal of a PAD has anything to show.
use Rattle.std.specs.Prelude.{ℕ, Bool, false, slice_get}
use Rattle.std.specs.Option.{option_map_or}
use Rattle.pad_ports.specs.Showing as port
use Rattle.x25_pad.specs.Pad.{PadState}

-- one that is not there has nothing
abbrev pub shows : (number : ℕ) → PadState → Bool
shows number p =
    option_map_or (λ found. port.shows (record { port = found; line = p.line })) (slice_get p.ports number) false
