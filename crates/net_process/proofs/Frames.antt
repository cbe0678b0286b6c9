-- A network with other frames in flight on a line.
use Rattle.std.proofs.Common.{◌≡◌, ℕ, zero, suc, List, [], ◌∷◌, set, Option, Some, None, refl, sym, ap, ap₂, ◌∙◌}
use Rattle.std.specs.Prelude.{slice_get}
use Rattle.std.proofs.lemmas.List.{set-set}
use Rattle.record_laws.proofs.Books.Basics.{set_here}
use Rattle.frame_lines.specs.declared.line.Direction.{Direction}
use Rattle.frame_lines.specs.declared.line.Direction.TheVariants.{FromDte, FromDce}
use Rattle.frame_lines.specs.Lines.{Flights, flying, with_flying}
use Rattle.net_events.specs.Network.{NetLine, Network}
use Rattle.net_nodes.specs.Carrying.{with_flights}
use Rattle.parted_laws.specs.Processes.{flights_in}
use Rattle.net_process.specs.Carrying.{frames_at, frames_by, with_frames}

-- ---- the flights of a line

flying_own : (d : Direction) (f : Flights) → with_flying d (flying d f) f ≡ f
flying_own FromDte f = refl
flying_own FromDce f = refl

flying_twice : (d : Direction) (xs ys : List (List ℕ)) (f : Flights) → with_flying d xs (with_flying d ys f) ≡ with_flying d xs f
flying_twice FromDte xs ys f = refl
flying_twice FromDce xs ys f = refl

pub flying_with : (d : Direction) (xs : List (List ℕ)) (f : Flights) → flying d (with_flying d xs f) ≡ xs
flying_with FromDte xs f = refl
flying_with FromDce xs f = refl

set_own : {X : Type 0} (xs : List X) (n : ℕ) (x : X) → slice_get xs n ≡ Some x → set xs n x ≡ xs
set_own [] n x e = refl
set_own (y ∷ xs) zero x e =
    let same : y ≡ x = cc in ap (λ (z : _). z ∷ xs) (sym same)
set_own (y ∷ xs) (suc n) x e = ap (λ (zs : _). y ∷ zs) (set_own xs n x e)

-- ---- a network that has the line

pub with_there : (line : ℕ) (d : Direction) (xs : List (List ℕ)) (s : Network) (l : NetLine) → slice_get s.lines line ≡ Some l
    → with_frames line d xs s ≡ with_flights line l (with_flying d xs l.flights) s
with_there line d xs s l e = ap (λ (found : Option NetLine). frames_by found line d xs s) e

pub with_none : (line : ℕ) (d : Direction) (xs : List (List ℕ)) (s : Network) → slice_get s.lines line ≡ None
    → with_frames line d xs s ≡ s
with_none line d xs s e = ap (λ (found : Option NetLine). frames_by found line d xs s) e

pub frames_there : (line : ℕ) (d : Direction) (s : Network) (l : NetLine) → slice_get s.lines line ≡ Some l
    → frames_at line d s ≡ flying d l.flights
frames_there line d s l e = ap (λ (found : Option NetLine). flying d (flights_in found)) e

pub frames_none : (line : ℕ) (d : Direction) (s : Network) → slice_get s.lines line ≡ None → frames_at line d s ≡ []
frames_none line FromDte s e = ap (λ (found : Option NetLine). flying FromDte (flights_in found)) e
frames_none line FromDce s e = ap (λ (found : Option NetLine). flying FromDce (flights_in found)) e

-- the line is there still
line_with : (line : ℕ) (f : Flights) (s : Network) (l : NetLine) → slice_get s.lines line ≡ Some l
    → slice_get (with_flights line l f s).lines line ≡ Some (record l { flights = f })
line_with line f s l e = set_here s.lines line (record l { flights = f }) l e

pub frames_with : (line : ℕ) (d : Direction) (f : Flights) (s : Network) (l : NetLine) → slice_get s.lines line ≡ Some l
    → frames_at line d (with_flights line l f s) ≡ flying d f
frames_with line d f s l e = frames_there line d (with_flights line l f s) (record l { flights = f }) (line_with line f s l e)

-- ---- the same frames, and others twice

pub with_own : (line : ℕ) (d : Direction) (s : Network) → with_frames line d (frames_at line d s) s ≡ s
with_own line d s = by (slice_get s.lines line) refl
  where
    by : (found : Option NetLine) → slice_get s.lines line ≡ found → with_frames line d (frames_at line d s) s ≡ s
    by None e = with_none line d (frames_at line d s) s e
    by (Some l) e =
        with_there line d (frames_at line d s) s l e
        ∙ ap (λ (xs : List (List ℕ)). with_flights line l (with_flying d xs l.flights) s) (frames_there line d s l e)
        ∙ ap (λ (f : Flights). with_flights line l f s) (flying_own d l.flights)
        ∙ ap (λ (lines : List NetLine). record s { lines = lines }) (set_own s.lines line l e)

pub with_twice : (line : ℕ) (d : Direction) (xs ys : List (List ℕ)) (s : Network)
    → with_frames line d xs (with_frames line d ys s) ≡ with_frames line d xs s
with_twice line d xs ys s = by (slice_get s.lines line) refl
  where
    by : (found : Option NetLine) → slice_get s.lines line ≡ found
        → with_frames line d xs (with_frames line d ys s) ≡ with_frames line d xs s
    by None e = ap (λ (t : Network). with_frames line d xs t) (with_none line d ys s e)
    by (Some l) e =
        let f = with_flying d ys l.flights in
        ap (λ (t : Network). with_frames line d xs t) (with_there line d ys s l e)
        ∙ with_there line d xs (with_flights line l f s) (record l { flights = f }) (line_with line f s l e)
        ∙ ap (λ (lines : List NetLine). record s { lines = lines })
        (set-set s.lines line (record l { flights = f }) (record l { flights = with_flying d xs f }))
        ∙ ap (λ (g : Flights). with_flights line l g s) (flying_twice d xs ys l.flights)
        ∙ sym (with_there line d xs s l e)
