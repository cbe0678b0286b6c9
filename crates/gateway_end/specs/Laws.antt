-- The end of a gateway over any list of calls: the packets that its calls gave, and what became of each.
use Rattle.std.specs.Prelude.{◌≡◌, List, [], ◌∷◌, ◌++◌}
use Rattle.lapb.specs.declared.note.Note.{Note}
use Rattle.lapb.specs.Machine.{Octets}
use Rattle.gateway_end.specs.GatewayEnd.{GatewayEnd, Pass, waiting_after}

-- the link took the packet, or it waited while a session of the link began or ended
pub data Fate : Type 0 where
  passed : (packet : Octets) → Fate
  dropped : (packet : Octets) → Fate

abbrev pub given_in : List Fate → List Octets
given_in [] = []
given_in (passed packet ∷ fates) = packet ∷ given_in fates
given_in (dropped packet ∷ fates) = packet ∷ given_in fates

abbrev pub taken_in : List Fate → List Octets
taken_in [] = []
taken_in (passed packet ∷ fates) = packet ∷ taken_in fates
taken_in (dropped packet ∷ fates) = taken_in fates

-- From one state of the end on, by any calls, these packets were given, and the link took those: packets pass, or
-- something else happens, of which the link tells this.
pub data Runs (first : GatewayEnd) : List Octets → List Octets → GatewayEnd → Type 0 where
  begins : Runs first [] [] first
  passes : (given sent : List Octets) (before after : GatewayEnd) → Runs first given sent before → (pass : Pass before after) →
      Runs first (given ++ pass.given) (sent ++ pass.sent) after
  happens : (given sent : List Octets) (before after : GatewayEnd) (note : Note) → Runs first given sent before →
      after.waiting ≡ waiting_after note before.waiting → Runs first given sent after

-- what the link took and what waits is what was given, in order, each packet once, without those that were dropped
pub record IsPassed (given sent waiting : List Octets) : Type 0 where
  pub fates : List Fate
  pub gave : given ≡ given_in fates
  pub took : sent ++ waiting ≡ taken_in fates

abbrev pub PassLaw : Type 0
PassLaw = (first last : GatewayEnd) (given sent : List Octets) → first.waiting ≡ [] → Runs first given sent last →
    IsPassed given sent last.waiting
