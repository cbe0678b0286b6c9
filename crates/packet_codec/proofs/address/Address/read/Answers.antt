use Rattle.std.proofs.Common.{◌≤◌, ◌∙◌, length, arith, subst, sym, rules, tests}
use Rattle.std.specs.Prelude.{IsTrue}
use Rattle.packet_codec.specs.Address.{AreDigits, are_digits}
use Rattle.packet_codec.proofs.Addresses.{AreDigits-digit_values}
use Rattle.packet_codec.proofs.address.Address.read.Goals as goal

pub new-requires : goal.new-requires
new-requires c =
    let text = c.args.text.now in
    let low : 1 ≤ length text = search (rules, tests) in
    let all : IsTrue (are_digits text) = search (rules, tests) in
    subst AreDigits (sym (c.as_slice.ensures.value ∙ c.values_of-digits.ensures))
    (AreDigits-digit_values text low (omega arith) all)
