-- An expiry at a switch of a timer that does not run leaves the network as it was.
use Rattle.std.proofs.Common.{◌≡◌, ℕ, zero, suc, Bool, false, if◌then◌else◌, List, [], ◌∷◌, map, set, Option, Some, None, refl, sym, ap, subst, ◌∙◌, inl, inr}
use Rattle.std.specs.Prelude.{slice_get}
use Rattle.std.proofs.lemmas.Option.{none-some, same_Some}
use Rattle.link_timers.specs.declared.timers.TimerId.{TimerId}
use Rattle.lapb.specs.Machine.{Octets}
use Rattle.frame_lines.specs.Lines.{Flights, LineService, ArePut}
use Rattle.net_events.specs.OneLine.{direction_of}
use Rattle.switch_lines.specs.Lines.{SwitchLine}
use Rattle.switch_lines.specs.Switch.{Switch, frames_on, timer_runs, on_expiry}
use Rattle.switched_call_laws.specs.QuietSwitches.Quiet.{IsQuietSwitch, AreQuiet}
use Rattle.net_events.specs.AtSwitch.{SwitchHappened, Expires, switched, line_drained, switch_drained, waiting_on}
use Rattle.net_events.specs.Network.{Switching, Network, own_role}
use Rattle.network_laws.specs.Switched.Idle.{IsAsBefore, IdleExpiryLaw}
use Rattle.network_laws.proofs.Switched.OwnLines.{own_or_none}
use Rattle.network_laws.proofs.Switched.SwitchStanding.{switch_quiet}

-- ---- lists

set_same : {X : Type 0} (xs : List X) (n : ℕ) (x : X) → slice_get xs n ≡ Some x → set xs n x ≡ xs
set_same [] n x e = refl
set_same (y ∷ ys) zero x e = ap (λ z. z ∷ ys) (sym (same_Some y x e))
set_same (y ∷ ys) (suc n) x e = ap (λ zs. y ∷ zs) (set_same ys n x e)

same_list : {X : Type 0} (xs ys : List X) → ((n : ℕ) → slice_get ys n ≡ slice_get xs n) → ys ≡ xs
same_list [] [] e = refl
same_list [] (y ∷ ys) e = absurd (none-some y (sym (e 0)))
same_list (x ∷ xs) [] e = absurd (none-some x (e 0))
same_list (x ∷ xs) (y ∷ ys) e = ap (λ z. z ∷ ys) (same_Some y x (e 0)) ∙ ap (λ zs. x ∷ zs) (same_list xs ys (λ n. e (suc n)))

-- ---- the switch, on which no frame waits

none_waits : (ls : List SwitchLine) (own : ℕ) → AreQuiet ls → frames_on (slice_get ls own) ≡ []
none_waits ls own q = by_line (slice_get ls own) refl
  where
    by_line : (o : Option SwitchLine) → slice_get ls own ≡ o → frames_on o ≡ []
    by_line None e = refl
    by_line (Some l) e = (q own l e).node.sent

drained_same : (ls : List SwitchLine) → AreQuiet ls → map line_drained ls ≡ ls
drained_same [] q = refl
drained_same (l ∷ ls) q =
    ap (λ (fs : List Octets). record l { end = record l.end { line = record l.end.line { frames = fs } } } ∷ map line_drained ls) (sym (q 0 l refl).node.sent)
    ∙ ap (λ (more : List SwitchLine). l ∷ more) (drained_same ls (λ n x e. q (suc n) x e))

not_switched : (own : ℕ) (id : TimerId) (s : Switch) → timer_runs (slice_get s.lines own) id ≡ false → switched (Expires own id) s ≡ s
not_switched own id s e = ap (λ (b : Bool). if b then on_expiry own id s else s) e

-- ---- the network

as_before : (L : LineService) (own : ℕ) (id : TimerId) (place : ℕ) (s t : Network) → (d : SwitchHappened L (Expires own id) place s t) → IsQuietSwitch d.node.switch
    → timer_runs (slice_get d.node.switch.lines own) id ≡ false → IsAsBefore L s t
as_before L own id place s t d q idle = record { nodes = nodes; register = d.register; whole = λ f. (λ i. record { nodes = nodes i; lines = lines f i; register = d.register i }) }
  where
    event_is : switched (Expires own id) d.node.switch ≡ d.node.switch
    event_is = not_switched own id d.node.switch idle

    switch_is : switch_drained (switched (Expires own id) d.node.switch) ≡ d.node.switch
    switch_is = ap (λ (x : Switch). switch_drained x) event_is ∙ (λ i. record d.node.switch { lines = drained_same d.node.switch.lines q i })

    nodes : t.nodes ≡ s.nodes
    nodes =
        d.nodes
        ∙ (ap (λ (x : Switch). set s.nodes place (Switching (record d.node { switch = x }))) switch_is ∙ set_same s.nodes place (Switching d.node) d.node_there)

    none : (m : ℕ) → waiting_on m (switched (Expires own id) d.node.switch) ≡ []
    none m = ap (λ (x : Switch). waiting_on m x) event_is ∙ none_waits d.node.switch.lines m q

    line_is : L.faithful → (line : ℕ) → slice_get t.lines line ≡ slice_get s.lines line
    line_is f line = elim (own_or_none d.node.lines line) [
      | inl at ↦
          let v = d.lines.own_lines at.0 line at.1 in
          let put : v.flights ≡ v.between = subst (λ (fs : List Octets). ArePut L (direction_of (own_role d.node.switch at.0)) fs v.between v.flights) (none at.0) (v.put f) in
          v.after_there ∙ (ap (λ (x : Flights). Some (record v.line_is { flights = x })) (put ∙ v.left f) ∙ sym v.line_there)
      | inr other ↦ d.lines.others line other
    ]

    lines : L.faithful → t.lines ≡ s.lines
    lines f = same_list s.lines t.lines (line_is f)

pub idle_expiry : (L : LineService) → IdleExpiryLaw L
idle_expiry L own id place s t n d idle =
    as_before L own id place s t d (switch_quiet s.lines s.nodes place d.node d.node_there (n.network.nodes place (Switching d.node) d.node_there) n.network.lines) idle
