-- What was read of a reader that gave less than it might.
use Rattle.std.proofs.Common.{◌≡◌, ℕ, ◌<◌, ◌≤◌, List, length, take, take_all, Option, None, Some, IfSome, option_map, ◌∙◌, arith, length-take}

-- the front of the octets was read, which is shorter than it might be: it is the whole
pub read_whole : (known : Option (List ℕ)) (octets : List ℕ) (limit : ℕ)
    → IfSome (option_map (take limit) known) (λ front. octets ≡ front) → length octets < limit
    → IfSome known (λ all. octets ≡ all)
read_whole None octets limit read less = tt
read_whole (Some all) octets limit read less =
    let short : length all ≤ limit = grind (arith, length-take) in
    read ∙ take_all limit all short
