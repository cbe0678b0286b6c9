-- What is handed on from a line or put on it, by the line that is there.
use Rattle.std.proofs.Common.{◌≡◌, ℕ, Bool, List, Some, None, sym, ◌∙◌, subst}
use Rattle.std.specs.Prelude.{slice_get}
use Rattle.std.proofs.lemmas.Option.{same_Some, none-some}
use Rattle.frame_lines.specs.declared.line.Direction.{Direction}
use Rattle.frame_lines.specs.Lines.{LineService}
use Rattle.net_events.specs.Network.{NetLine, Network}
use Rattle.net_nodes.specs.Carrying.{HandedOn, PutAt}

pub handed_at : (L : LineService) (line : ℕ) (d : Direction) (m : NetLine) (s : Network) (taken : Bool) (frame : List ℕ) (t : Network) → slice_get s.lines line ≡ Some m → HandedOn L line d m s taken frame t
    → (l : NetLine) → slice_get s.lines line ≡ Some l → HandedOn L line d l s taken frame t
handed_at L line d m s taken frame t there h l at = subst (λ (x : NetLine). HandedOn L line d x s taken frame t) (same_Some m l (sym there ∙ at)) h

pub put_at : (L : LineService) (line : ℕ) (d : Direction) (frame : List ℕ) (m : NetLine) (s t : Network) → slice_get s.lines line ≡ Some m → PutAt L line d frame m s t
    → (l : NetLine) → slice_get s.lines line ≡ Some l → PutAt L line d frame l s t
put_at L line d frame m s t there h l at = subst (λ (x : NetLine). PutAt L line d frame x s t) (same_Some m l (sym there ∙ at)) h
