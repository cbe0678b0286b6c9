-- How frames go from process to process.
use Rattle.std.specs.Prelude.{◌≡◌, ◌≢◌, ℕ, true, List, [], ◌∷◌, ◌++◌, drop, slice_get, Some}
use Rattle.lapb.specs.Machine.{Octets}
use Rattle.frame_lines.specs.declared.line.Direction.{Direction}
use Rattle.frame_lines.specs.Lines.{LineService}
use Rattle.net_events.specs.Network.{NetLine, Network}
use Rattle.net_nodes.specs.Carrying.{HandedOn, PutAt}
use Rattle.net_nodes.specs.Steps.{hearer}
use Rattle.parted_laws.specs.Processes.{Processes, PartChanges, SameWires, WireChanges, IsLeftOf, line_in, sender, ends_of}
use Rattle.parted_laws.specs.Processes.{on_way, AreOf}

-- no node changes and no line, and of the frames on their way some may be lost, the others staying in their order
pub record Carries (owner : ℕ → ℕ) (p q : Processes) : Type 0 where
  pub nodes : (place : ℕ)
      → slice_get (q.parts (owner place)).nodes place ≡ slice_get (p.parts (owner place)).nodes place
  pub lines : (k line : ℕ) → line_in (slice_get (q.parts k).lines line) ≡ line_in (slice_get (p.parts k).lines line)
  pub less : (k line : ℕ) (l : NetLine) (d : Direction) → slice_get (p.parts k).lines line ≡ Some l
      → IsLeftOf (on_way owner q line l d) (on_way owner p line l d)

-- the network stays the same then
abbrev pub CarryLaw : Type 0
CarryLaw = (owner : ℕ → ℕ) (p q : Processes) (s : Network) → AreOf owner p s → Carries owner p q → AreOf owner q s

-- ---- the moves

-- the sender's process hands the first frame that waits on to the connection
pub record HandsOn (L : LineService) (owner : ℕ → ℕ) (k line : ℕ) (d : Direction) (p q : Processes) : Type 0 where
  pub line_is : NetLine
  pub line_there : slice_get (p.parts k).lines line ≡ Some line_is
  pub of_sender : ends_of owner line_is (sender d) ≡ k
  pub elsewhere : ends_of owner line_is (hearer d) ≢ k
  pub frame : Octets
  pub part : Network
  pub handed : HandedOn L line d line_is (p.parts k) true frame part
  pub here : PartChanges k part p q
  pub wire : WireChanges line d (p.wires line d ++ frame ∷ []) p q

-- the hearer's process puts a frame that came over the connection on its line; those before it there are lost
pub record PutsOn (L : LineService) (owner : ℕ → ℕ) (k line : ℕ) (d : Direction) (p q : Processes) : Type 0 where
  pub line_is : NetLine
  pub line_there : slice_get (p.parts k).lines line ≡ Some line_is
  pub of_hearer : ends_of owner line_is (hearer d) ≡ k
  pub elsewhere : ends_of owner line_is (sender d) ≢ k
  pub frame : Octets
  pub lost : ℕ
  pub rest : List Octets
  pub first : drop lost (p.wires line d) ≡ frame ∷ rest
  pub part : Network
  pub put : PutAt L line d frame line_is (p.parts k) part
  pub here : PartChanges k part p q
  pub wire : WireChanges line d rest p q

-- a connection loses frames, one of them or all, as if it is cut
pub record Breaks (line : ℕ) (d : Direction) (p q : Processes) : Type 0 where
  pub left : List Octets
  pub some : IsLeftOf left (p.wires line d)
  pub same : (k : ℕ) → q.parts k ≡ p.parts k
  pub wire : WireChanges line d left p q

abbrev pub HandLaw : LineService → Type 0
HandLaw L = L.faithful → (owner : ℕ → ℕ) (k line : ℕ) (d : Direction) (p q : Processes) (s : Network) → AreOf owner p s
    → HandsOn L owner k line d p q → Carries owner p q

abbrev pub PutLaw : LineService → Type 0
PutLaw L = L.faithful → (owner : ℕ → ℕ) (k line : ℕ) (d : Direction) (p q : Processes) (s : Network) → AreOf owner p s
    → PutsOn L owner k line d p q → Carries owner p q

abbrev pub BreakLaw : Type 0
BreakLaw = (owner : ℕ → ℕ) (line : ℕ) (d : Direction) (p q : Processes) → Breaks line d p q → Carries owner p q
