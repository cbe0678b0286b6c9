use Rattle.std.proofs.Common.{◌<◌, length, All}
use denote.Text.{Utf8}
use denote.Shadow.{shadow}
use Rattle.status_texts.proofs.way.way_of.Given as goal

-- the lines so far are lines
abbrev pub invariant-loop : goal.invariant-loop
invariant-loop l = record { text : shadow (Utf8 l.at); there : All (λ number. number < length l.lines) l.way.items }
