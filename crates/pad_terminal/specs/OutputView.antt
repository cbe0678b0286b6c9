-- What contracts see of the code's output.
use Rattle.std.specs.Prelude.{◌≡◌, ◌≤◌, length}
use Rattle.pad_terminal.specs.Output.{Output, text_limit}
use Rattle.pad_terminal.specs.declared.output.Output.TheInside.{Inside}

abbrev pub output_of : Inside → Output
output_of a = record { text = a.text.items; column = a.column }

pub record IsOutput (a : Inside) : Type 0 where
  pub capacity : a.text.capacity ≡ text_limit
  pub within : length a.text.items ≤ text_limit
