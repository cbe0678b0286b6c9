-- The set-up of one call on a channel, between two clears: who calls, who accepts, and a collision of two calls. What goes on in
-- the call is left open.
use Rattle.std.proofs.Common.{◌≡◌, Bool, true, false, not, List, [], ◌∷◌, Option, Some, None, is_some}
use Rattle.link_timers.specs.declared.role.Role.{Role}
use Rattle.link_timers.specs.declared.role.Role.TheVariants.{Dte, Dce}
use Rattle.link_timers.specs.Role.{other_of}
use Rattle.data_transfer.specs.Packets.{CallParts, Body}
use Rattle.data_transfer.specs.Packets.Body.{Call, Accepted}
use Rattle.packet_laws.proofs.Handshakes.Handshake.{Two, Did}

-- in a call it is known which end placed it
pub data Stage : Type 0 where
  Free : Stage
  Placed : Stage
  Waiting : Stage
  Collided : Stage
  Open : (mine : Bool) → Stage

pub record Use (I : Type 0) : Type 0 where
  pub stage : Stage
  pub call : I
  pub placed : Option CallParts

pub data Sort : Type 0 where
  Calling : Sort
  Accepting : Sort
  Flowing : Sort

abbrev pub sort : Body → Sort
sort (Call parts) = Calling
sort Accepted = Accepting
sort _ = Flowing

abbrev pub unused : {I : Type 0} → I → Use I
unused start = record { stage = Free; call = start; placed = None }

-- ---- what an end does

abbrev pub places : {I : Type 0} → CallParts → Use I → Did (Use I)
places parts u = record { end_ = record u { stage = Placed; placed = Some parts }; says = Some (Call parts) }

abbrev pub accepts_call : {I : Type 0} → I → Use I → Did (Use I)
accepts_call start u = record { end_ = record u { stage = Open false; call = start }; says = Some Accepted }

abbrev pub in_call : {I : Type 0} → Did I → Use I → Did (Use I)
in_call d u = record { end_ = record u { call = d.end_ }; says = d.says }

abbrev pub silent : {I : Type 0} → I → Did I
silent u = record { end_ = u; says = None }

abbrev pub use_hears : {I : Type 0} → Role → I → (I → Body → Did I) → Sort → Stage → Use I → Body → Did (Use I)
use_hears role start hear Calling Free u t = silent (record u { stage = Waiting })
use_hears role start hear Calling Placed u t = silent (record u { stage = Collided })
use_hears role start hear Accepting Placed u t = silent (record u { stage = Open true; call = start })
use_hears Dte start hear Accepting Collided u t = silent (record u { stage = Open true; call = start })
use_hears role start hear Flowing (Open mine) u t = in_call (hear u.call t) u
use_hears role start hear k s u t = silent u

abbrev pub use_ok : {I : Type 0} → (I → Body → Type 0) → Role → Sort → Stage → Use I → Body → Type 0
use_ok ok role Calling Free u t = Unit {0}
use_ok ok role Calling Placed u t = Unit {0}
use_ok ok role Accepting Placed u t = Unit {0}
use_ok ok Dte Accepting Collided u t = Unit {0}
use_ok ok role Flowing (Open mine) u t = ok u.call t
use_ok ok role k s u t = ⊥

-- ---- the walk of an end of the given role through the pipe to it

abbrev pub Pair : Role → Stage → Stage → Type 0
Pair r Free Free = Unit {0}
Pair r Free Placed = Unit {0}
Pair r Waiting Placed = Unit {0}
Pair r Placed Waiting = Unit {0}
Pair r Placed Collided = Unit {0}
Pair r Placed (Open m) = m ≡ false
Pair r Collided Collided = Unit {0}
Pair r Collided (Open m) = (r ≡ Dce) × (m ≡ false)
Pair r (Open m) (Open m') = m' ≡ not m
Pair r _ _ = ⊥

abbrev pub Passes : Role → Sort → Stage → (Stage → Type 0) → Type 0
Passes r Calling Free rest = rest Waiting
Passes r Calling Placed rest = rest Collided
Passes r Accepting Placed rest = rest (Open true)
Passes Dte Accepting Collided rest = rest (Open true)
Passes r Flowing (Open m) rest = rest (Open m)
Passes r k s rest = ⊥

abbrev pub Path : Role → Stage → Stage → List Body → Type 0
Path r x z [] = Pair r x z
Path r x z (t ∷ ts) = Passes r (sort t) z (λ s. Path r x s ts)

abbrev pub Leads : Role → Stage → Stage → Type 0
Leads r Free Free = Unit {0}
Leads r Free Waiting = Unit {0}
Leads r Placed Placed = Unit {0}
Leads r Placed Collided = Unit {0}
Leads r Placed (Open m) = m ≡ true
Leads r Waiting Waiting = Unit {0}
Leads r Collided Collided = Unit {0}
Leads r Collided (Open m) = m ≡ true
Leads r (Open m) (Open m') = m ≡ m'
Leads r _ _ = ⊥

abbrev pub kept_flow : Sort → Body → List Body → List Body
kept_flow Flowing t l = t ∷ l
kept_flow _ t l = l

abbrev pub flows : List Body → List Body
flows [] = []
flows (t ∷ ts) = kept_flow (sort t) t (flows ts)

abbrev pub Idle : {I : Type 0} → I → Stage → I → Type 0
Idle start (Open m) c = Unit {0}
Idle start _ c = c ≡ start

-- each Call on the way is the one that its sender placed
abbrev pub IsCalled : Body → Option CallParts → Type 0
IsCalled (Call parts) p = p ≡ Some parts
IsCalled _ p = Unit {0}

abbrev pub AllCalled : Option CallParts → List Body → Type 0
AllCalled p [] = Unit {0}
AllCalled p (t ∷ ts) = IsCalled t p × AllCalled p ts

-- an end that has no call, or has the other end's, placed none; one that accepted a call placed none, unless it is the DCE of a
-- collision; in all other stages it placed one
abbrev pub Answerer : Role → Option CallParts → Type 0
Answerer Dte p = p ≡ None
Answerer Dce p = Unit {0}

abbrev pub Places : Role → Stage → Option CallParts → Type 0
Places r Free p = p ≡ None
Places r Waiting p = p ≡ None
Places r (Open false) p = Answerer r p
Places r s p = is_some p ≡ true

abbrev pub answers : Stage → Bool
answers (Open mine) = not mine
answers s = false

pub record UseInv (I : Type 0) (start : I) (Good : Two I → Type 0) (role : Role) (w : Two (Use I)) : Type 0 where
  pub fore : Path (other_of role) w.me.stage w.you.stage w.out
  pub aft : Path role w.you.stage w.me.stage w.back
  pub idle_me : Idle start w.me.stage w.me.call
  pub idle_you : Idle start w.you.stage w.you.call
  pub calls_me : AllCalled w.me.placed w.out
  pub calls_you : AllCalled w.you.placed w.back
  pub placed_me : Places role w.me.stage w.me.placed
  pub placed_you : Places (other_of role) w.you.stage w.you.placed
  pub call : Good (record { me = w.me.call; you = w.you.call; out = flows w.out; back = flows w.back })

abbrev pub SaysFlow : Option Body → Type 0
SaysFlow None = Unit {0}
SaysFlow (Some b) = sort b ≡ Flowing
