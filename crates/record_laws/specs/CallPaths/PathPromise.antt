-- Where nodes are, and what the register of a network with switches promises of its calls.
use Rattle.std.specs.Prelude.{◌≡◌, ◌⊎◌, ℕ, ◌<◌, Bool, true, false, List, [], ◌∷◌, ◌++◌, slice_get, Option, Some}
use Rattle.link_timers.specs.declared.role.Role.{Role}
use Rattle.link_timers.specs.declared.role.Role.TheVariants.{Dte, Dce}
use Rattle.link_timers.specs.Role.{other_of}
use Rattle.epochs.specs.Match.{Match}
use Rattle.epochs.specs.Confirmed.{Confirms}
use Rattle.call_records.specs.Records.{RecordValue, HopValue, PairValue, sent_epochs, taken_epochs}
use Rattle.call_records.specs.Register.{Register, LineEnds}
use Rattle.record_laws.specs.Words.{IsTakenFrom, sent_by, all_taken_by, ArePaired}

-- ---- where nodes are

-- the node at each end of each line, and whether it is one with users; the address of each line, of no digits where it
-- has none; and, for each switch, the line to which it sends calls to an address, if it sends them anywhere
pub record Plan : Type 0 where
  pub node : (line : ℕ) → Role → ℕ
  pub has_user : (line : ℕ) → Role → Bool
  pub address : (line : ℕ) → List ℕ
  pub route : (switch : ℕ) → (called : Option (List ℕ)) → Option ℕ

-- the calling address of a call that was placed on a line with this address: it is the line's, or on a line without an
-- address the one that the call has
abbrev pub calling_on : (address : List ℕ) → (given : Option (List ℕ)) → Option (List ℕ)
calling_on [] given = given
calling_on (digit ∷ digits) given = Some (digit ∷ digits)

-- the address that an end of a line has
abbrev pub address_at : Plan → (line : ℕ) → Role → List ℕ
address_at plan line Dte = plan.address line
address_at plan line Dce = []

-- a node is that of an end of some line
pub record IsOfEnd (g : Register) (node : ℕ) : Type 0 where
  pub line : ℕ
  pub line_ends : LineEnds
  pub line_there : slice_get g.lines line ≡ Some line_ends
  pub at_end : (node ≡ line_ends.dte.node) ⊎ (node ≡ line_ends.dce.node)

-- ---- calls

-- what one end took matches what the other sent, both ways; by one such matching what is confirmed was taken
pub record PathMatches (caller callee : RecordValue) : Type 0 where
  pub onward : Match (taken_epochs callee) (sent_epochs caller)
  pub backward : Match (taken_epochs caller) (sent_epochs callee)
  pub onward_confirmed : Confirms (all_taken_by callee) (sent_by caller)
  pub backward_confirmed : Confirms (all_taken_by caller) (sent_by callee)

-- over these hops the call was placed at this end of a line: over none by the caller itself, on the first line of its
-- way; over each more by a switch, at another of whose ends it came in, and whose route for the called address names
-- the hop's line
pub data IsPlacedAt : Plan → RecordValue → (first : ℕ) → List HopValue → (line : ℕ) → Role → Type 0 where
  by_caller : {plan : Plan} {caller : RecordValue} {line : ℕ} {role : Role} → caller.node ≡ plan.node line role
      → plan.has_user line role ≡ true → IsPlacedAt plan caller line [] line role
  by_switch : {plan : Plan} {caller : RecordValue} {first line : ℕ} {hops : List HopValue} {role : Role} (from : ℕ)
      (end : Role) (channel : ℕ) → IsPlacedAt plan caller first hops from (other_of end)
      → plan.node from end ≡ plan.node line role → plan.has_user line role ≡ false
      → plan.route (plan.node line role) caller.far ≡ Some line
      → IsPlacedAt plan caller first
      (hops ++ record { switch = plan.node line role; line = line; channel = channel } ∷ []) line role

-- the caller's record was made first; the callee's own address is the one that was called, and the far one is the
-- caller's own, which is that of its line, or on a line without an address the one that the caller gave; the callee is
-- a user at an end of a line at whose other end the call was placed, over the hops of the caller's path
pub record PathIsRight (plan : Plan) (caller callee : RecordValue) : Type 0 where
  pub order : caller.number < callee.number
  pub own : callee.own ≡ caller.far
  pub far : callee.far ≡ caller.own
  pub first : ℕ
  -- on a line without an address this says nothing, and the promise of the network says that there is none
  pub calling : caller.own ≡ calling_on (plan.address first) caller.own
  pub line : ℕ
  pub role : Role
  pub node : callee.node ≡ plan.node line role
  pub user : plan.has_user line role ≡ true
  pub placed : IsPlacedAt plan caller first caller.path line (other_of role)

pub record PathHolds (plan : Plan) (g : Register) (pair : PairValue) : Type 0 where
  pub caller : RecordValue
  pub callee : RecordValue
  pub caller_there : slice_get g.records pair.caller ≡ Some caller
  pub callee_there : slice_get g.records pair.callee ≡ Some callee
  -- the record of the end that was called names that of the caller
  pub named : callee.caller ≡ Some pair.caller
  pub matches : PathMatches caller callee
  -- without a hop it is so packet by packet
  pub direct : caller.path ≡ [] → IsTakenFrom caller callee × IsTakenFrom callee caller
  pub is_right : PathIsRight plan caller callee

pub record PathsHold (plan : Plan) (g : Register) : Type 0 where
  -- each pair holds
  pub pairs_hold : (i : ℕ) (pair : PairValue) → slice_get g.pairs i ≡ Some pair → PathHolds plan g pair
  -- the records are numbered and paired
  pub paired : ArePaired g.records g.pairs
  -- each record is of a node at an end of a line
  pub nodes : (i : ℕ) (r : RecordValue) → slice_get g.records i ≡ Some r → IsOfEnd g r.node
