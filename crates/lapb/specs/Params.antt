-- The ranges of a link's parameters.
use Rattle.std.specs.Prelude.{◌≤◌}
use Rattle.frame_codec.specs.Spelling.{most_information}
use Rattle.lapb.specs.declared.link.LinkParams.{LinkParams}

-- k, n2 and info in their ranges
pub record AreParams (p : LinkParams) : Type 0 where
  pub k_least : 1 ≤ p.k
  pub k_most : p.k ≤ 7
  pub n2_least : 1 ≤ p.n2
  pub n2_most : p.n2 ≤ 20
  pub info_most : p.info ≤ most_information
