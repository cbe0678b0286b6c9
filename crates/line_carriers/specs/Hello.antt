-- The hello of an end, and how it reads that of the other end.
use Rattle.std.specs.Prelude.{ℕ, List, [], ◌∷◌, ◌++◌, ◌==◌, take, drop, slice_index, Result, Ok, Err, if◌then◌else◌, nat_eq, Bool, not}
use Rattle.std.specs.Cmp.Lexicographic.{pointwise}
use Rattle.std.specs.Int.{w16, w64, to_be_bytes, from_be_bytes}
use Rattle.sha2.specs.Sha256.{sha256}
use Rattle.link_timers.specs.declared.role.Role.{Role}
use Rattle.link_timers.specs.declared.role.Role.TheVariants.{Dte, Dce}
use Rattle.link_timers.specs.Role.{other_of}
use Rattle.line_carriers.specs.declared.fault.CarrierFault.{CarrierFault}
use Rattle.line_carriers.specs.declared.fault.CarrierFault.TheVariants.{OtherProtocol, OtherVersion, OtherNetwork, OtherLine, OtherRole}
use Rattle.line_carriers.specs.declared.hello.Hello.{Hello}

abbrev pub hello_of : (network_file : List ℕ) → (line : ℕ) → Role → (start : ℕ) → Hello
hello_of network_file line role start =
    record { network = sha256 network_file; line = line; role = role; start = start }

abbrev pub role_octet : Role → ℕ
role_octet Dte = 0
role_octet Dce = 1

-- X25L
abbrev pub protocol : List ℕ
protocol = 88 ∷ 50 ∷ 53 ∷ 76 ∷ []

abbrev pub hello_form : Hello → List ℕ
hello_form hello =
    protocol ++ 1 ∷ (hello.network ++ (to_be_bytes w16 hello.line ++ role_octet hello.role ∷ to_be_bytes w64 hello.start))

abbrev pub are_same : List ℕ → List ℕ → Bool
are_same = pointwise nat_eq

-- what an end makes of the hello of the other end: the number of its start, or the first thing that differs
abbrev pub hello_read : Hello → List ℕ → Result ℕ CarrierFault
hello_read own octets =
    if not (are_same (take 4 octets) protocol) then Err OtherProtocol
    else if not (slice_index octets 4 == 1) then Err OtherVersion
    else if not (are_same (take 32 (drop 5 octets)) own.network) then Err OtherNetwork
    else if not (are_same (take 2 (drop 37 octets)) (to_be_bytes w16 own.line)) then Err OtherLine
    else if not (slice_index octets 39 == role_octet (other_of own.role)) then Err OtherRole
    else Ok (from_be_bytes w64 (take 8 (drop 40 octets)))
