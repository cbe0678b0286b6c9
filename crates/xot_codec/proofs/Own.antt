-- What is put into a call for a line is taken for it.
use Rattle.std.proofs.Common.{◌≡◌, Bool, true, false, ltb, cond, min, None, Some, refl, arith}
use Rattle.std.proofs.lemmas.Bool.Decides.{nat_tests}
use Rattle.xot_codec.specs.declared.facilities.FacilityFault.TheVariants.{SmallPackets, SmallWindow}
use Rattle.xot_codec.specs.Facilities.{size_code}
use Rattle.xot_codec.specs.Laws.{OwnAreTaken}

neither : (small few : Bool) → small ≡ false → few ≡ false
    → cond small (Some SmallPackets) (cond few (Some SmallWindow) None) ≡ None
neither true few no_small no_few = absurd (cc)
neither false true no_small no_few = absurd (cc)
neither false false no_small no_few = refl

pub own_are_taken : OwnAreTaken
own_are_taken line =
    let size = size_code line.size in
    let no_small : ltb (min size size) size ≡ false = grind (arith, nat_tests) in
    let no_few : ltb (min line.window line.window) line.window ≡ false = grind (arith, nat_tests) in
    neither (ltb (min size size) size) (ltb (min line.window line.window) line.window) no_small no_few
