use Rattle.std.proofs.Common.{refl, ◌∙◌}
use Rattle.flow_window.proofs.CountSteps.{next_count}
use Rattle.flow_window.proofs.receive.RecvWindow.offer.Goals as goal

pub returns-clause-counts : goal.returns-clause-counts
returns-clause-counts g c =
    λ count expected_is _. (
      refl,
      next_count g.M.Modulus.modulus _ _ count c.next-self-inside.ensures
          (c.self.view_is ∙ expected_is),
    )
