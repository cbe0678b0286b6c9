-- More bits are to count than the address has.
use Rattle.std.proofs.Common.{◌≡◌, ◌<◌, Some, subst, arith}
use Rattle.std.proofs.lemmas.Str.Pattern.{split_once_first}
use Rattle.std.specs.Net.Grammar.{IsIpText}
use Rattle.std.specs.Str.Parse.{digits_value, without_leading_plus}
use Rattle.service_files.specs.Addresses.{before_slash, after_slash, width}
use Rattle.service_files.proofs.Prefixes.{read_address, read_number, too_long}
use Rattle.service_files.proofs.addresses.Prefix.read.Goals as goal

pub returns-else-from-width : goal.returns-else-from-width
returns-else-from-width c = λ prefix.
    let text = c.args.text.now in
    let address = c.in_ok-address-2.address in
    let length = c.in_ok-length.length in
    let parts = split_once_first 47 text (Some (c.in_ok-address.address, c.in_ok-address.length)) c.in_ok-address.ensures.cases (omega arith) in
    let is : IsIpText (before_slash text) address =
    subst (λ part. IsIpText part address) parts.1
    (read_address c.in_ok-address.address.now address c.parse.result c.parse.ensures.value c.in_ok-address-2.ensures.value) in
    let value : digits_value 10 (without_leading_plus (after_slash text)) ≡ length =
    subst (λ part. digits_value 10 (without_leading_plus part) ≡ length) parts.2
    (read_number c.in_ok-address.length.now length c.parse-2.result c.parse-2.ensures.value.0 c.in_ok-length.ensures.value) in
    let more : width address < length = omega (arith, c.if-from-width.false, c.from.ensures, c.width.ensures) in
    too_long text prefix address length is value more
