-- The frames that an event put on lines.
use Rattle.std.specs.Prelude.{ℕ, List}
use Rattle.net_events.specs.declared.answer.Put.{Put}

-- those that were put, in order, and how many there is room for
pub record PutList : Type 0 where
  pub items : List Put
  pub room : ℕ
