-- An event that may not be in a process, and a link that is given up.
use Rattle.std.proofs.Common.{◌≡◌, ℕ, Bool, false, set, length, get_or, ◌<◌, Option, Some, None, Err, refl, sym, ap, ◌∙◌, subst}
use Rattle.std.specs.Prelude.{slice_get}
use Rattle.std.specs.List.{position}
use Rattle.std.proofs.lemmas.Option.{slice_get_read}
use Rattle.frame_lines.specs.Lines.{LineService}
use Rattle.net_events.specs.declared.event.Event.{Event}
use Rattle.net_events.specs.declared.event.StepFault.TheVariants as step_fault_is
use Rattle.remote_lines.specs.declared.line.RemoteLine.{RemoteLine}
use Rattle.net_process.specs.Process.{ProcessState, may_be}
use Rattle.net_process.specs.Remote.{changed, changed_by, given_up, given_up_at, given_up_on, given_up_once, event_at, after_given_up, is_given_up}
use Rattle.net_process.specs.Stepping.{HasStepped, HappensIf}

pub not_here : (L : LineService) (e : Event) (p q : ProcessState) → may_be p e ≡ false → q ≡ p
    → HasStepped L e p (Err step_fault_is.NoSuchNode) q
not_here L e p q is same = record {
  part = p.part;
  happens = subst (λ (b : Bool). HappensIf L b e p.part (Err step_fault_is.NoSuchNode) p.part) (sym is) refl;
  process = same;
}

-- ---- links that are given up

pub none_given_up : (p : ProcessState) → position is_given_up p.lines ≡ None → given_up p ≡ None
none_given_up p is = ap (λ (place : Option ℕ). event_at place p) is

pub none_after : (p : ProcessState) → position is_given_up p.lines ≡ None → after_given_up p ≡ p
none_after p is = ap (λ (place : Option ℕ). given_up_once place p) is

module _ (p : ProcessState) (place : ℕ) (r : RemoteLine) (is : position is_given_up p.lines ≡ Some place)
    (there : slice_get p.lines place ≡ Some r) where
  pub some_given_up : given_up p ≡ Some (given_up_at r.end)
  some_given_up =
      ap (λ (found : Option ℕ). event_at found p) is
      ∙ ap (λ (found : Option RemoteLine). given_up_on found) there

  pub some_after : after_given_up p ≡ record p { lines = set p.lines place (record r { gives_up = false }) }
  some_after =
      ap (λ (found : Option ℕ). given_up_once found p) is
      ∙ ap (λ (found : Option RemoteLine). changed_by found place (λ r. record r { gives_up = false }) p) there

module _ (p v : ProcessState) (is : v ≡ p) (place : ℕ) (r : RemoteLine) (found : position is_given_up v.lines ≡ Some place)
    (within : place < length v.lines) (at : r ≡ get_or v.lines place r) where
  pub event_given_up : (event : Event) → event ≡ given_up_at r.end → Some event ≡ given_up p
  event_given_up event same =
      ap (λ (e : Event). Some e) same
      ∙ sym (some_given_up v place r found (slice_get_read v.lines (length v.lines) place r refl within at))
      ∙ ap given_up is

  pub once_given_up : (q : RemoteLine) → q ≡ record r { gives_up = false }
      → record v { lines = set v.lines place q } ≡ after_given_up p
  once_given_up q same =
      ap (λ (x : RemoteLine). record v { lines = set v.lines place x }) same
      ∙ sym (some_after v place r found (slice_get_read v.lines (length v.lines) place r refl within at))
      ∙ ap after_given_up is
