-- Places are made behind those that were there.
use Rattle.std.proofs.Common.{◌≡◌, ◌≤◌, length, take}
use Rattle.net_events.proofs.puts.Puts.grow.Given as goal

abbrev pub invariant-loop-made : goal.invariant-loop-made
invariant-loop-made l = record {
  count : l.self-inside.len ≤ length l.self-inside.places.items;
  made : length l.self-inside.places.items ≡ l.made;
  same : take l.self-inside.len l.self-inside.places.items
      ≡ take l.initial.self-inside.len l.initial.self-inside.places.items;
}
