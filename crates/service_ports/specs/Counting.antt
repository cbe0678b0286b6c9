-- How many keys wait of each octet, and how many breaks.
use Rattle.std.specs.Prelude.{◌≡◌, ℕ, Bool, true, false, ◌+◌, ◌-◌, ◌<◌, min, List, length, replicate, slice_index_or, slice_set, count_by}
use Rattle.service_ports.specs.declared.input.Key.{Key}
use Rattle.service_ports.specs.declared.input.Key.TheVariants.{Octet, Break}
use Rattle.service_ports.specs.declared.key_counts.KeyCounts.{KeyCounts}
use Rattle.service_ports.specs.Ports.{is_octet}

abbrev pub is_break : Key → Bool
is_break (Octet octet) = false
is_break Break = true

abbrev pub no_counts : KeyCounts
no_counts = record { octets = replicate 256 0; breaks = 0 }

-- one key more
abbrev pub one_more : Key → KeyCounts → KeyCounts
one_more (Octet octet) c = record c { octets = slice_set c.octets octet (min (slice_index_or c.octets octet 0 + 1) 65535) }
one_more Break c = record c { breaks = min (c.breaks + 1) 65535 }

-- one key fewer
abbrev pub one_fewer : Key → KeyCounts → KeyCounts
one_fewer (Octet octet) c = record c { octets = slice_set c.octets octet (slice_index_or c.octets octet 0 - 1) }
one_fewer Break c = record c { breaks = c.breaks - 1 }

-- these are the counts of these keys
pub record AreCounted (keys : List Key) (c : KeyCounts) : Type 0 where
  pub places : length c.octets ≡ 256
  pub octets : (octet : ℕ) → octet < 256 → slice_index_or c.octets octet 0 ≡ count_by (is_octet octet) keys
  pub breaks : c.breaks ≡ count_by is_break keys
