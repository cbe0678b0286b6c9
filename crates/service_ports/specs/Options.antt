-- Sets of options.
use Rattle.std.specs.Prelude.{ℕ, Bool, true, false, slice_index_or, slice_set, replicate}
use Rattle.service_ports.specs.declared.options.OptionSet.{OptionSet}

abbrev pub no_options : OptionSet
no_options = record { contains = replicate 256 false }

abbrev pub has_option : OptionSet → ℕ → Bool
has_option options option = slice_index_or options.contains option false

abbrev pub with_option : OptionSet → ℕ → OptionSet
with_option options option = record { contains = slice_set options.contains option true }
