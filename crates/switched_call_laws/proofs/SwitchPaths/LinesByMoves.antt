-- The calls of a line's book hold where some moves lead to it; and a line is a switch's own or another one.
use Rattle.std.specs.Prelude.{◌≡◌, ℕ, zero, suc, ◌<◌, ◌⊎◌, List, [], ◌∷◌, length}
use Rattle.std.proofs.Common.{inl, inr, sym, subst, arith}
use Rattle.call_records.specs.Book.{Book}
use Rattle.record_laws.proofs.Books.Basics.{number_is}
use Rattle.node_laws.specs.Lines.NodeLine.{Line}
use Rattle.node_laws.specs.LineRecords.Kept.{Setting, Kept}
use Rattle.record_laws.specs.CallPaths.World.{Origin}
use Rattle.record_laws.specs.CallPaths.Lines.{AreRecorded, BookCallsHold}
use Rattle.record_laws.proofs.CallPaths.Moves.{recorded_calls}
use Rattle.switched_call_laws.specs.SwitchPaths.Sight.{network_line}
use Rattle.data_transfer.proofs.Windows.{window_below}
use Rattle.switched_call_laws.specs.SwitchPaths.Network.{IsOther}

-- this own line of a switch is the one of the network
abbrev pub IsOwn : (at : List ℕ) → (line : ℕ) → Type 0
IsOwn at line = (n : ℕ) × ((n < length at) × (network_line at n ≡ line))

-- a line of the network is the switch's, or it is none of its
pub own_or_other : (at : List ℕ) (line : ℕ) → IsOwn at line ⊎ IsOther at line
own_or_other [] line = inr (λ n less e. absurd (omega arith))
own_or_other (x ∷ xs) line = elim (number_is x line) [
  | inl e ↦
      let less : 0 < suc (length xs) = omega arith in inl (0, (less, e))
  | inr ne ↦ elim (own_or_other xs line) [
    | inl own ↦
        let before = own.1.0 in
        let less : suc own.0 < suc (length xs) = omega arith in inl (suc own.0, (less, own.1.1))
    | inr other ↦ inr (none_of ne other)
  ]
]
  where
    none_of : (x ≡ line → ⊥) → IsOther xs line → IsOther (x ∷ xs) line
    none_of ne other zero less e = ne e
    none_of ne other (suc n) less e =
        let before : n < length xs = omega arith in other n before e

-- the calls of a book hold that some moves lead to
pub kept_calls : (s : Setting) (b : Book) (l : Line) → Kept s b l → (own : List Origin) → AreRecorded own b.records → BookCallsHold b own
kept_calls s b l k own recorded =
    subst (λ (x : Book). BookCallsHold x own) k.book
    (recorded_calls s.dte_node s.dce_node s.dte.channels s.dte.flow s.dte.standing k.setting.dte.layer.channels_least (window_below _ k.setting.dte.layer.flow_is) k.moves k.allowed own
    (subst (λ (x : Book). AreRecorded own x.records) (sym k.book) recorded))
