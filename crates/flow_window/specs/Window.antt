-- What a window shows: its numbers, and what each call makes of them (X.25 2.4.5, 4.4.1.2).
use Rattle.std.specs.Prelude.{ℕ, ◌+◌, ◌-◌, ◌%◌, ◌<◌, ◌≤◌, max, ◌==◌, if◌then◌else◌}
use Rattle.flow_window.specs.declared.receive.Offer.{Offer}
use Rattle.flow_window.specs.declared.receive.Offer.TheVariants.{InOrder, OutOfOrder}

-- The numbers of a sender, modulo the window's modulus. The other two are kept as what they are ahead of the oldest.
pub record Window : Type 0 where
  pub oldest : ℕ  -- the number of the oldest unacknowledged one, V(A)
  pub next : ℕ  -- how many are sent and unacknowledged, V(S) - V(A)
  pub top : ℕ  -- one past the highest number used, less the oldest, V(M) - V(A)
  pub size : ℕ  -- how many may be unacknowledged

-- how far a number is ahead of another one
abbrev pub ahead : (modulus from to : ℕ) → ℕ
ahead modulus from to = (to + modulus - from) % modulus

-- nothing sent, nothing acknowledged
abbrev pub empty_window : (size : ℕ) → Window
empty_window size = record { oldest = 0; next = 0; top = 0; size = size }

-- one more number is used
abbrev pub taken : Window → Window
taken w = record w { next = w.next + 1; top = max w.top (w.next + 1) }

-- all are sent that bring those unacknowledged to so many
abbrev pub sent_up_to : Window → (count : ℕ) → Window
sent_up_to w count = record w { next = count; top = max w.top count }

-- the number lies in the window: from the oldest to one past the highest used
pub record IsInWindow (modulus : ℕ) (w : Window) (number : ℕ) : Type 0 where
  pub below : number < modulus
  pub within : ahead modulus w.oldest number ≤ w.top

-- all before the number are acknowledged; where the next one is passed, it becomes the number
abbrev pub acknowledged : (modulus : ℕ) → Window → (number : ℕ) → Window
acknowledged modulus w number = record w {
  oldest = number;
  next = w.next - ahead modulus w.oldest number;
  top = w.top - ahead modulus w.oldest number;
}

-- the number is sent next
abbrev pub gone_back : (modulus : ℕ) → Window → (number : ℕ) → Window
gone_back modulus w number = record w { next = ahead modulus w.oldest number }

-- whether a received number is the expected one
abbrev pub offered : (expected number : ℕ) → Offer
offered expected number = if number == expected then InOrder else OutOfOrder

-- what a receiver expects after a number: the next one where it was the expected one
abbrev pub expected_after : (modulus expected number : ℕ) → ℕ
expected_after modulus expected number = if number == expected then (expected + 1) % modulus else expected
