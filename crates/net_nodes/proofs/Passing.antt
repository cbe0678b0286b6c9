-- Lines on which deliveries find no frame, one after the other.
use Rattle.std.proofs.Common.{◌≡◌, ℕ, ◌+◌, ◌≤◌, ◌<◌, inl, inr, subst, arith}
use Rattle.std.proofs.lemmas.Bool.{cases_lt}
use Rattle.frame_lines.specs.declared.line.Direction.TheVariants.{FromDte, FromDce}
use Rattle.frame_lines.specs.Lines.{LineService}
use Rattle.net_events.specs.Network.{Network}
use Rattle.net_nodes.specs.Happening.{FindsNoFrame, FindNoFrames}

pub one_more : (L : LineService) (from line : ℕ) (s : Network) → FindNoFrames L from line s
    → FindsNoFrame L line FromDte s → FindsNoFrame L line FromDce s → FindNoFrames L from (line + 1) s
one_more L from line s none from_dte from_dce n after before =
    elim (cases_lt n line) [
      | inl less ↦ none n after less
      | inr least ↦ (let same : line ≡ n = omega arith in
          subst (λ i. FindsNoFrame L i FromDte s × FindsNoFrame L i FromDce s) same (from_dte, from_dce))
    ]
