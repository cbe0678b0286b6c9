-- A hello is read as it was said.
use Rattle.std.proofs.Common.{◌≡◌, ℕ, not, eqb, List, [], ◌∷◌, ◌++◌, length, take, drop, get_or, Result, Ok, Err, cond, sym, ap, ◌∙◌, append_assoc, arith}
use Rattle.std.proofs.lemmas.List.{take_at, drop_at, drop-drop, get_or_at, length-append}
use Rattle.std.proofs.lemmas.Nat.{from_be_bytes-to_be_bytes_8}
use Rattle.std.specs.Int.{w16, w64, to_be_bytes, from_be_bytes}
use Rattle.link_timers.specs.Role.{other_of}
use Rattle.line_carriers.specs.declared.fault.CarrierFault.{CarrierFault}
use Rattle.line_carriers.specs.declared.fault.CarrierFault.TheVariants.{OtherNetwork, OtherLine, OtherRole}
use Rattle.line_carriers.specs.declared.hello.Hello.{Hello}
use Rattle.line_carriers.specs.Hello.{are_same, role_octet}
use Rattle.line_carriers.specs.Laws.{IsHello, HelloLaw}

-- what is made of the parts of a hello
abbrev pub judged_parts : Hello → (network line : List ℕ) (role start : ℕ) → Result ℕ CarrierFault
judged_parts own network line role start =
    cond (not (are_same network own.network)) (Err OtherNetwork)
    (cond (not (are_same line (to_be_bytes w16 own.line))) (Err OtherLine)
    (cond (not (eqb role (role_octet (other_of own.role)))) (Err OtherRole) (Ok start)))

module _ (network : List ℕ) (long : length network ≡ 32) (high low role : ℕ) (more : List ℕ) where
  network_is : take 32 (network ++ high ∷ low ∷ role ∷ more) ≡ network
  network_is = take_at network (high ∷ low ∷ role ∷ more) 32 long

  after_network : drop 32 (network ++ high ∷ low ∷ role ∷ more) ≡ high ∷ low ∷ role ∷ more
  after_network = drop_at network (high ∷ low ∷ role ∷ more) 32 long

  line_is : take 2 (drop 32 (network ++ high ∷ low ∷ role ∷ more)) ≡ high ∷ low ∷ []
  line_is = ap (take 2) after_network

  role_is : get_or (network ++ high ∷ low ∷ role ∷ more) 34 0 ≡ role
  role_is =
      ap (λ octets. get_or octets 34 0) (sym (append_assoc network (high ∷ low ∷ []) (role ∷ more)))
      ∙ get_or_at (network ++ high ∷ low ∷ []) role more 0 34 (omega (arith, length-append network (high ∷ low ∷ []), long))

  start_is : drop 35 (network ++ high ∷ low ∷ role ∷ more) ≡ more
  start_is = sym (drop-drop 3 32 (network ++ high ∷ low ∷ role ∷ more)) ∙ ap (drop 3) after_network

start_read : (hello : Hello) → IsHello hello → from_be_bytes w64 (take 8 (to_be_bytes w64 hello.start)) ≡ hello.start
start_read hello is = from_be_bytes-to_be_bytes_8 hello.start is.start

pub hello_law : HelloLaw
hello_law own other is =
    let line = to_be_bytes w16 other.line in
    let high = get_or line 0 0 in
    let low = get_or line 1 0 in
    let role = role_octet other.role in
    let start = to_be_bytes w64 other.start in
    let started : from_be_bytes w64 (take 8 (drop 35 (other.network ++ high ∷ low ∷ role ∷ start))) ≡ other.start =
    ap (λ octets. from_be_bytes w64 (take 8 octets)) (start_is other.network is.network high low role start) ∙ start_read other is in
    λ i. judged_parts own (network_is other.network is.network high low role start i)
    (line_is other.network is.network high low role start i) (role_is other.network is.network high low role start i) (started i)
