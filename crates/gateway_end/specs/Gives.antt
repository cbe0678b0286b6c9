-- The packets that a gateway has for its line, in order.
use Rattle.std.specs.Prelude.{◌≡◌, ℕ, ◌+◌, Bool, true, false, List, [], ◌∷◌, ◌++◌}
use Rattle.lapb.specs.Machine.{Octets}
use Rattle.xot_gateway.specs.declared.calls.XotCalls.{XotCalls}
use Rattle.xot_gateway.specs.declared.calls.Work.{Work}
use Rattle.xot_gateway.specs.declared.calls.Work.TheVariants as work
use Rattle.xot_gateway.specs.Calls.{PaysOwed, Serves}

-- the packet that is there, if one goes to the line
abbrev pub paid : Bool → (packet : Octets) → List Octets
paid true packet = packet ∷ []
paid false packet = []

abbrev pub served : Work → (packet : Octets) → List Octets
served work.Sends packet = packet ∷ []
served _ packet = []

-- From one state of the calls on they give these packets, by being asked in turn for what they owe to the line and for
-- the next packet of a connection.
pub data Gives (before : XotCalls) : List Octets → XotCalls → Type 0 where
  nothing : Gives before [] before
  pays : (packets : List Octets) (middle after : XotCalls) (answer : Bool) (old packet : Octets) →
      Gives before packets middle → PaysOwed answer old packet middle after →
      Gives before (packets ++ paid answer packet) after
  serves : (packets : List Octets) (middle after : XotCalls) (number : ℕ) (answer : Work) (old packet : Octets) →
      Gives before packets middle → Serves number answer old packet middle after →
      Gives before (packets ++ served answer packet) after

-- the packet is that of a connection, those that were asked before it had none, and the one after it has the turn
pub record Turns (turn : ℕ) (before : XotCalls) (packet : Octets) (after : XotCalls) : Type 0 where
  pub number : ℕ
  pub next : turn ≡ number + 1
  pub middle : XotCalls
  pub asked : Gives before [] middle
  pub old : Octets
  pub serves : Serves number work.Sends old packet middle after
