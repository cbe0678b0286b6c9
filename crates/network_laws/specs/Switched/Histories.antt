-- What a network keeps of its lines and no node stores; the records and pairs of its register are what it says.
use Rattle.std.specs.Prelude.{◌≡◌, ℕ, true, List, length, slice_get, Some}
use Rattle.link_timers.specs.declared.role.Role.{Role}
use Rattle.packet_layer.specs.Layer.{unread}
use Rattle.call_records.specs.Records.{RecordValue, PairValue}
use Rattle.record_laws.specs.Books.Open.{layers_at}
use Rattle.record_laws.specs.Books.Counts.{HasEpochs, HasCounted}
use Rattle.record_laws.specs.Books.AcceptedCalls.{CallUse, epochs_at, was_accepted}
use Rattle.node_laws.specs.LineRecords.Histories.{LineHistory, led, IsPossible}
use Rattle.user_nodes.specs.Node.{end_of}
use Rattle.net_events.specs.Network.{PlacedNode, User, NetLine, Network, place_at}

-- a node with users stands at the end of a role of a line
abbrev pub HasUserAt : Network → NetLine → Role → Type 0
HasUserAt s l role = (n : PlacedNode) × (slice_get s.nodes (place_at role l) ≡ Some (User n))

-- a call that was accepted: the line, and the use of a channel at the end that accepted it
pub record LineCall : Type 0 where
  pub line : ℕ
  pub in_use : CallUse

-- a pair is of this call: a user accepted it there, the callee's record is of this user's node, and it has what this
-- end did in that use
pub record IsOfCall (s : Network) (histories : List LineHistory) (c : LineCall) (pair : PairValue) : Type 0 where
  pub history : LineHistory
  pub history_there : slice_get histories c.line ≡ Some history
  pub line_is : NetLine
  pub line_there : slice_get s.lines c.line ≡ Some line_is
  pub user : HasUserAt s line_is c.in_use.role
  pub accepted : was_accepted c.in_use (led history).line ≡ true
  pub callee : RecordValue
  pub callee_there : slice_get s.register.records pair.callee ≡ Some callee
  pub node : callee.node ≡ place_at c.in_use.role line_is
  pub epochs : HasEpochs (epochs_at c.in_use.role c.in_use (led history).line) callee

-- one history for each line
pub record HistoriesHold (s : Network) (histories : List LineHistory) : Type 0 where
  pub count : length histories ≡ length s.lines
  -- the links allow it, and it leads to the packet layer of each node with users at an end of the line, once its notes
  -- are read
  pub possible : (line : ℕ) (h : LineHistory) → slice_get histories line ≡ Some h → IsPossible h
  pub layers : (line : ℕ) (h : LineHistory) (l : NetLine) (role : Role) (n : PlacedNode)
      → slice_get histories line ≡ Some h → slice_get s.lines line ≡ Some l
      → slice_get s.nodes (place_at role l) ≡ Some (User n)
      → unread (layers_at role (led h).line).layer ≡ (end_of n.node).layer
  -- each record, open or closed, has the epochs that its end counted in it: packets, interrupts, and how many packets a
  -- P(R) covered and how many were released
  pub counts : (line : ℕ) (h : LineHistory) (l : NetLine) (role : Role) (n : PlacedNode) (i : ℕ) (r : RecordValue)
      → slice_get histories line ≡ Some h → slice_get s.lines line ≡ Some l
      → slice_get s.nodes (place_at role l) ≡ Some (User n)
      → slice_get s.register.records i ≡ Some r → r.node ≡ place_at role l
      → HasCounted (layers_at role (led h).line) r
  -- the pairs are the calls that users accepted, one for each, open or over, also if nothing was taken
  pub calls : List LineCall
  pub calls_count : length calls ≡ length s.register.pairs
  pub pairs : (i : ℕ) (c : LineCall) (pair : PairValue) → slice_get calls i ≡ Some c
      → slice_get s.register.pairs i ≡ Some pair → IsOfCall s histories c pair
  pub once : (i j : ℕ) (c : LineCall) → slice_get calls i ≡ Some c → slice_get calls j ≡ Some c → i ≡ j
  pub all : (line : ℕ) (h : LineHistory) (l : NetLine) (u : CallUse)
      → slice_get histories line ≡ Some h → slice_get s.lines line ≡ Some l → HasUserAt s l u.role
      → was_accepted u (led h).line ≡ true → (i : ℕ) × (slice_get calls i ≡ Some (record { line = line; in_use = u }))
