-- The expiry that is due first is that of the first node at which one is due.
use Rattle.std.proofs.Common.{◌≡◌, ◌+◌, ◌<◌, ℕ, zero, suc, List, [], ◌∷◌, Option, Some, None, refl, sym, ap, ◌∙◌, subst, arith}
use Rattle.std.specs.Prelude.{slice_get, MatchOption}
use Rattle.link_timers.specs.declared.timers.TimerId.{TimerId}
use Rattle.net_events.specs.declared.event.Event.{Event}
use Rattle.net_events.specs.Network.{NetNode, Network}
use Rattle.net_events.specs.NextDue.{due_at, due_of, due_from}
use Rattle.net_nodes.specs.Due.{expiry_of, due_in, expiry_at, net_due, net_due_at}
use Rattle.parted_laws.specs.FirstDue.{IsDueFirst, FirstDueLaw}

-- in a list of nodes of which the first has this place
record IsFirstIn (first : ℕ) (nodes : List NetNode) (e : Event) : Type 0 where
  at : ℕ
  here : expiry_at (first + at) (due_in (slice_get nodes at)) ≡ Some e
  before : (other : ℕ) → other < at → due_in (slice_get nodes other) ≡ None

abbrev FirstIn : ℕ → List NetNode → Option Event → Type 0
FirstIn first nodes found = MatchOption found ((at : ℕ) → due_in (slice_get nodes at) ≡ None) (λ e. IsFirstIn first nodes e)

due_first : (first : ℕ) (nodes : List NetNode) → FirstIn first nodes (expiry_of (due_from first nodes))
due_first first [] = λ at. refl
due_first first (n ∷ nodes) = by (due_at n) refl (due_first (suc first) nodes)
  where
    later : due_at n ≡ None → (found : Option Event) → FirstIn (suc first) nodes found → FirstIn first (n ∷ nodes) found
    later none None h = λ at. at_place at
      where
        at_place : (at : ℕ) → due_in (slice_get (n ∷ nodes) at) ≡ None
        at_place zero = none
        at_place (suc at) = h at
    later none (Some e) h = record {
      at = suc h.at;
      here = subst (λ (i : ℕ). expiry_at i (due_in (slice_get nodes h.at)) ≡ Some e) (omega arith) h.here;
      before = before;
    }
      where
        before : (other : ℕ) → other < suc h.at → due_in (slice_get (n ∷ nodes) other) ≡ None
        before zero less = none
        before (suc other) less = h.before other (omega (arith, less))

    by : (found : Option (ℕ × TimerId)) → due_at n ≡ found → FirstIn (suc first) nodes (expiry_of (due_from (suc first) nodes)) → FirstIn first (n ∷ nodes) (expiry_of (due_of first found (due_from (suc first) nodes)))
    by None is others = later is (expiry_of (due_from (suc first) nodes)) others
    by (Some d) is others = record {
      at = 0;
      here =
          subst (λ (i : ℕ). expiry_at i (due_at n) ≡ expiry_at first (Some d)) (omega arith) (ap (λ (o : Option (ℕ × TimerId)). expiry_at first o) is);
      before = λ other less. absurd (omega (arith, less));
    }

pub first_is_due : FirstDueLaw
first_is_due s = by (net_due s) (due_first 0 s.nodes)
  where
    by : (found : Option Event) → FirstIn 0 s.nodes found → MatchOption found ((place : ℕ) → net_due_at place s ≡ None) (λ e. IsDueFirst e s)
    by None h = λ place. ap (λ (o : Option (ℕ × TimerId)). expiry_at place o) (h place)
    by (Some e) h = record {
      place = h.at;
      here = subst (λ (i : ℕ). expiry_at i (due_in (slice_get s.nodes h.at)) ≡ Some e) (omega arith) h.here;
      before = λ other less. ap (λ (o : Option (ℕ × TimerId)). expiry_at other o) (h.before other less);
    }
