-- The octets of a bridge over all its calls.
use Rattle.std.specs.Prelude.{◌≡◌, ℕ, Bool, ◌&&◌, List, [], ◌∷◌, ◌++◌, take, flat_map, if◌then◌else◌}
use Rattle.bridge_ports.specs.declared.phases.Phases.{Phases}
use Rattle.bridge_ports.specs.Bridges.{BridgeState, fits, heard, is_taking, listens, said, taken, written}

-- what is done at a bridge: octets of the peer, a message that was said, a packet that was taken, octets that were written,
-- and all else, which changes neither what waits to be said nor what waits to be written
pub data Deed : Type 0 where
  hears : (octets : List ℕ) → Deed
  says : (count : ℕ) → Deed
  takes : (octets : List ℕ) → (more : Bool) → Deed
  writes : (count : ℕ) → Deed
  turns : (phases : Phases) → Deed

abbrev pub after_deed : Deed → BridgeState → BridgeState
after_deed (hears octets) b = heard octets b
after_deed (says count) b = said count b
after_deed (takes octets more) b = taken octets more b
after_deed (writes count) b = written count b
after_deed (turns phases) b = record b { phases = phases }

abbrev pub after_deeds : List Deed → BridgeState → BridgeState
after_deeds [] b = b
after_deeds (deed ∷ deeds) b = after_deeds deeds (after_deed deed b)

-- the octets that are heard of the peer, said to the call, taken of it and written to the peer
abbrev pub heard_by : Deed → BridgeState → List ℕ
heard_by (hears octets) b = if listens b then octets else []
heard_by _ b = []

abbrev pub said_by : Deed → BridgeState → List ℕ
said_by (says count) b = take count b.input
said_by _ b = []

-- what comes after the end of the far side is not for the peer
abbrev pub taken_by : Deed → BridgeState → List ℕ
taken_by (takes octets more) b = if is_taking b && fits octets b then octets else []
taken_by _ b = []

abbrev pub written_by : Deed → BridgeState → List ℕ
written_by (writes count) b = take count b.output
written_by _ b = []

-- all of each, old to new
abbrev pub all_by : (Deed → BridgeState → List ℕ) → List Deed → BridgeState → List ℕ
all_by by [] b = []
all_by by (deed ∷ deeds) b = by deed b ++ all_by by deeds (after_deed deed b)

-- What was said and what waits to be said is what waited at first and what was heard of the peer since, in order, each
-- octet once.
abbrev pub OctetsInAreSaid : Type 0
OctetsInAreSaid = (deeds : List Deed) (b : BridgeState)
    → all_by said_by deeds b ++ (after_deeds deeds b).input ≡ b.input ++ all_by heard_by deeds b

-- So it is with what was written and what waits to be written, and what was taken of the call.
abbrev pub OctetsTakenAreWritten : Type 0
OctetsTakenAreWritten = (deeds : List Deed) (b : BridgeState)
    → all_by written_by deeds b ++ (after_deeds deeds b).output ≡ b.output ++ all_by taken_by deeds b

-- ---- two ends of a call

-- some octets are the first of others
abbrev pub IsBeginning : (octets others : List ℕ) → Type 0
IsBeginning octets others = (rest : List ℕ) × (octets ++ rest ≡ others)

-- Two bridges have the two ends of a call, and this is done at them between two resets. The network promises that what is
-- taken at one is the beginning of what is said at the other. Then what is written to the peer of the one, after what
-- waited there, is the beginning of what the other heard of its peer, after what waited there.
abbrev pub BridgesCarry : Type 0
BridgesCarry = (near far : List Deed) (b c : BridgeState)
    → IsBeginning (all_by taken_by far c) (all_by said_by near b)
    → IsBeginning (all_by written_by far c) (c.output ++ (b.input ++ all_by heard_by near b))

-- So it is with the blocks of a PAD at the other end.
abbrev pub BlocksAreWritten : Type 0
BlocksAreWritten = (far : List Deed) (c : BridgeState) (blocks : List (List ℕ))
    → IsBeginning (all_by taken_by far c) (flat_map (λ block. block) blocks)
    → IsBeginning (all_by written_by far c) (c.output ++ flat_map (λ block. block) blocks)
