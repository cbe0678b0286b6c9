-- What is read of the text of a prefix.
use Rattle.std.proofs.Common.{◌≡◌, ℕ, ◌<◌, ◌≤◌, List, Some, Result, Ok, Err, sym, ◌∙◌, subst, arith}
use Rattle.std.specs.Result.{result_ok}
use Rattle.std.specs.Net.Grammar.{IsIpText, Parses}
use Rattle.std.specs.Str.Parse.{ParsesUnsigned, digits_value, without_leading_plus}
use Rattle.std.specs.declared.net.ip_addr.IpAddr.{IpAddr}
use Rattle.std.proofs.NetLemmas.Theorems.{IsIpText_unique}
use Rattle.service_files.specs.declared.addresses.Prefix.{Prefix}
use Rattle.service_files.specs.Addresses.{IsPrefixText, before_slash, after_slash, width}

-- the address that a text was read as
pub read_address : {E : Type 0} (text : List ℕ) (address : IpAddr) (result : Result IpAddr E)
    → Parses IsIpText text result → Some address ≡ result_ok result → IsIpText text address
read_address text address (Ok other) is same =
    let other_is : other ≡ address = cc in subst (IsIpText text) other_is is
read_address text address (Err error) is same = absurd cc

-- and the number of eight bits
pub read_number : {E : Type 0} (text : List ℕ) (number : ℕ) (result : Result ℕ E)
    → ParsesUnsigned 8 10 text result → Some number ≡ result_ok result
    → digits_value 10 (without_leading_plus text) ≡ number
read_number text number (Ok other) is same =
    let other_is : other ≡ number = cc in sym is.1 ∙ other_is
read_number text number (Err error) is same = absurd cc

-- where the number is greater than the address has bits, the text is no prefix
pub too_long : (text : List ℕ) (prefix : Prefix) (address : IpAddr) (length : ℕ)
    → IsIpText (before_slash text) address → digits_value 10 (without_leading_plus (after_slash text)) ≡ length
    → width address < length → ¬ IsPrefixText text prefix
too_long text prefix address length is value more says =
    let same : prefix.address ≡ address = IsIpText_unique (before_slash text) prefix.address address says.address is in
    let within : prefix.length ≤ width address = rw same at says.within in
    let other = says.length in
    omega arith
