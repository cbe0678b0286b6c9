-- The values in force, in the order of their parameters' numbers.
use Rattle.std.specs.Prelude.{◌≡◌, ℕ, ◌+◌, ◌-◌, ◌<◌, Bool, not, List, length, slice_index, slice_set, ◌==◌, IsTrue}
use Rattle.std.specs.Prelude.{Option, Some, None, if◌then◌else◌, bit_and}
use Rattle.x3_params.specs.Table.{allows, is_number}
use Rattle.x3_params.specs.declared.fault.ParamFault.{ParamFault}
use Rattle.x3_params.specs.declared.fault.ParamFault.TheVariants.{NoSuchParameter, BadValue, ReadOnly}

-- the value of a parameter
abbrev pub value : List ℕ → ℕ → ℕ
value p n = slice_index p (n - 1)

-- a sum has the bit, a power of two, among its terms
abbrev pub has_bit : ℕ → ℕ → Bool
has_bit sum bit = not (bit_and sum bit == 0)

-- there are 18 values, and each is one that its parameter may have
pub record AreAllowed (p : List ℕ) : Type 0 where
  pub count : length p ≡ 18
  pub allowed : (i : ℕ) → i < 18 → IsTrue (allows (i + 1) (slice_index p i))

-- why a value may not be set: the first that holds
abbrev pub fault_of : ℕ → ℕ → Option ParamFault
fault_of n v =
    if not (is_number n) then Some NoSuchParameter
    else if not (allows n v) then Some BadValue
    else if n == 11 then Some ReadOnly
    else None

-- the values with one changed
abbrev pub with_value : List ℕ → ℕ → ℕ → List ℕ
with_value p n v = slice_set p (n - 1) v
