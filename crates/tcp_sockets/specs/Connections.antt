-- What is read from a connection, and written to it.
use Rattle.std.specs.Prelude.{List, ℕ, [], ◌≡◌, ◌≤◌, length}
use Rattle.tcp_sockets.specs.declared.outcome.Heard.{Heard}
use Rattle.tcp_sockets.specs.declared.outcome.Heard.TheVariants as heard
use Rattle.tcp_sockets.specs.declared.outcome.Written.{Written}
use Rattle.tcp_sockets.specs.declared.outcome.Written.TheVariants as wrote

-- after a read: octets that were read stand alone, and without any nothing has changed
abbrev pub IsRead : Heard → (before after : List ℕ) → Type 0
IsRead heard.Octets before after = (before ≡ []) × (1 ≤ length after)
IsRead heard.Nothing before after = after ≡ before
IsRead heard.End before after = after ≡ before
IsRead heard.Loss before after = after ≡ before

-- how many octets were written
abbrev pub count_of : Written → ℕ
count_of (wrote.Octets count) = count
count_of wrote.Nothing = 0
count_of wrote.Loss = 0
