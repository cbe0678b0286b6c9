-- A line as a network keeps it: two links and the octets on the way, in a state that events lead to.
use Rattle.std.specs.Prelude.{◌≡◌, Bool, true, false, List, [], ◌∷◌}
use Rattle.link_timers.specs.declared.role.Role.TheVariants.{Dte, Dce}
use Rattle.lapb.specs.Machine.{Octets, Link}
use Rattle.lapb.specs.World.{World}
use Rattle.lapb.specs.Reach.{Reached}
use Rattle.lapb.specs.Fits.{AreFit, octets_of}

-- of these, the ones that go onto the line; those that `kept` does not speak of go
abbrev pub chosen : {A : Type 0} → List Bool → List A → List A
chosen [] xs = xs
chosen _ [] = []
chosen (true ∷ kept) (x ∷ xs) = x ∷ chosen kept xs
chosen (false ∷ kept) (x ∷ xs) = chosen kept xs

-- the world, which has the acts and the lists of the sessions, is one that these links and octets are of
pub record StandsIn (w : World) (dte dce : Link) (up down : List Octets) : Type 0 where
  pub reached : Reached w
  pub fit : AreFit w
  pub dte_is : w.dte ≡ dte
  pub dce_is : w.dce ≡ dce
  pub up_is : octets_of Dte w.up ≡ up
  pub down_is : octets_of Dce w.down ≡ down
