-- The values are those of the profile, each of which is allowed.
use Rattle.x3_params.proofs.Ranges.{profile_allowed}
use Rattle.x3_params.specs.declared.profile.Profile.TheVariants.{Simple, Transparent}
use Rattle.x3_params.proofs.params.Params.profile.Goals as goal
use Rattle.x3_params.proofs.params.Params.profile.Goals.{in-Simple, in-Transparent}

pub invariant_of-result : goal.invariant_of-result
invariant_of-result c =
    elim c.match-profile.branch [
      | in-Simple w ↦ rw w.values-is (profile_allowed Simple c.args.speed c.ranges.speed.fits)
      | in-Transparent w ↦ rw w.values-is (profile_allowed Transparent c.args.speed c.ranges.speed.fits)
    ]
