-- Windows by counts that have no bound: how many were acknowledged, which is sent next, and how many were ever sent.
use Rattle.std.specs.Prelude.{◌≡◌, ℕ, ◌+◌, ◌%◌, ◌<◌, ◌≤◌}
use Rattle.flow_window.specs.Window.{Window}

-- the number stands for this count, one of those from the oldest to one past the highest used
pub record Names (modulus oldest highest number count : ℕ) : Type 0 where
  pub from_oldest : oldest ≤ count
  pub to_highest : count ≤ highest
  pub is : number ≡ count % modulus

-- the window shows these counts: the oldest unacknowledged, the next to be sent, and one past the highest sent
pub record Shows (modulus : ℕ) (w : Window) (oldest next highest : ℕ) : Type 0 where
  pub number : w.oldest ≡ oldest % modulus
  pub next_is : oldest + w.next ≡ next
  pub highest_is : oldest + w.top ≡ highest
  pub in_order : next ≤ highest
  pub fits : highest ≤ oldest + w.size

-- a number names at most one count of a window that is smaller than the modulus
abbrev pub NamesOne : (modulus : ℕ) → Type 0
NamesOne modulus =
    (oldest highest number first second : ℕ) → highest < oldest + modulus → Names modulus oldest highest number
    first → Names modulus oldest highest number second → first ≡ second
