use Rattle.std.proofs.Common.{ℕ, List, ◌++◌, length, drop, replicate, subst, sym}
use Rattle.packet_codec.specs.Address.{IsAddress}
use Rattle.packet_codec.proofs.Addresses.{is_address}
use Rattle.packet_codec.proofs.address.Address.new.Goals as goal

pub invariant_of-result : goal.invariant_of-result
invariant_of-result c =
    let digits = c.args.digits.now in
    subst (λ (copied : List ℕ). IsAddress record {
      digits = copied ++ drop (length digits) (replicate 15 0);
      len =
          length digits;
    }) (sym c.copy_from_slice.ensures.after) (is_address digits c.requires)
