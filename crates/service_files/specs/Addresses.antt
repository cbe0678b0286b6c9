-- Addresses of this machine, and addresses that are the same.
use Rattle.std.specs.Prelude.{ℕ, Bool, false, not, ◌==◌, ◌&&◌, ◌/◌, ◌-◌, ◌^◌, nat_lt, if◌then◌else◌}
use Rattle.std.specs.declared.net.ip_addr.IpAddr.{IpAddr}
use Rattle.std.specs.declared.net.ip_addr.IpAddr.TheVariants as ip
use Rattle.std.specs.declared.net.socket_addr.SocketAddr.{SocketAddr}
use Rattle.std.specs.Prelude.{◌≡◌, ◌≤◌, List, Option, Some, None, Vec, eqb}
use Rattle.std.specs.Global.{Global}
use Rattle.std.specs.List.{list_any, before_first, after_first}
use Rattle.std.specs.Str.Parse.{IsNumeral, digits_value, without_leading_plus}
use Rattle.std.specs.Net.Grammar.{IsIpText}
use Rattle.service_files.specs.declared.addresses.Allow.{Allow}
use Rattle.service_files.specs.declared.addresses.Prefix.{Prefix}
use Rattle.std.specs.Net.Addr.{ipv4_bits, ipv6_bits}
use Rattle.std.specs.Net.Socket.{socket_ip, socket_port}

-- how many bits an address has
abbrev pub width : IpAddr → ℕ
width (ip.V4 address) = 32
width (ip.V6 address) = 128

abbrev pub bits_of : IpAddr → ℕ
bits_of (ip.V4 address) = ipv4_bits address
bits_of (ip.V6 address) = ipv6_bits address

-- the first bits of an address, none if all 128 are left out
abbrev pub first_bits : IpAddr → (length : ℕ) → ℕ
first_bits address length =
    if nat_lt (width address - length) 128 then bits_of address / 2 ^ (width address - length) else 0

-- the address is of the same kind as the prefix, and begins with its first bits
abbrev pub has_first_bits : (prefix : IpAddr) → (length : ℕ) → IpAddr → Bool
has_first_bits prefix length address =
    (width address == width prefix) && (first_bits address length == first_bits prefix length)

-- before the first `/`, and after it
abbrev pub before_slash : List ℕ → List ℕ
before_slash text = before_first (λ octet. eqb octet 47) text

abbrev pub after_slash : List ℕ → List ℕ
after_slash text = after_first (λ octet. eqb octet 47) text

-- an address, `/` and how many of its bits count, in decimal digits
pub record IsPrefixText (text : List ℕ) (prefix : Prefix) : Type 0 where
  pub address : IsIpText (before_slash text) prefix.address
  pub digits : IsNumeral 10 (without_leading_plus (after_slash text))
  pub length : digits_value 10 (without_leading_plus (after_slash text)) ≡ prefix.length
  pub within : prefix.length ≤ width prefix.address

-- an address of this machine alone: one of 127.0.0.0/8, or ::1
abbrev pub is_here : IpAddr → Bool
is_here (ip.V4 address) = (ipv4_bits address / 16777216) == 127
is_here (ip.V6 address) = ipv6_bits address == 1

abbrev pub same_address : IpAddr → IpAddr → Bool
same_address (ip.V4 one) (ip.V4 other) = ipv4_bits one == ipv4_bits other
same_address (ip.V4 one) (ip.V6 other) = false
same_address (ip.V6 one) (ip.V4 other) = false
same_address (ip.V6 one) (ip.V6 other) = ipv6_bits one == ipv6_bits other

abbrev pub is_allowed : Option (Vec Prefix Global) → IpAddr → Bool
is_allowed None address = is_here address
is_allowed (Some prefixes) address =
    list_any (λ prefix. has_first_bits prefix.address prefix.length address) prefixes.items

-- one of the prefixes is the address's; if none are given, it is one of this machine
abbrev pub allows : Allow → IpAddr → Bool
allows allow address = is_allowed allow.prefixes address

-- the same port of the same address; at port 0 the system chooses one, which is never another's
abbrev pub same_place : SocketAddr → SocketAddr → Bool
same_place one other =
    not (socket_port one == 0) && (socket_port one == socket_port other)
    && same_address (socket_ip one) (socket_ip other)
