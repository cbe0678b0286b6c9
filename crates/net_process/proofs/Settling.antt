-- What is in flight on remote lines goes out, line by line.
use Rattle.std.proofs.Common.{◌≡◌, ℕ, suc, ◌+◌, Bool, true, false, [], List, set, length, Option, Some, None, refl, sym, ap, ◌∙◌, add-one}
use Rattle.std.specs.Prelude.{slice_get, if◌then◌else◌}
use Rattle.std.proofs.lemmas.List.{length-set}
use Rattle.line_carriers.specs.Carrier.{is_open}
use Rattle.net_events.specs.Network.{Network}
use Rattle.net_events.specs.OneLine.{direction_of, direction_to}
use Rattle.remote_lines.specs.declared.line.RemoteLine.{RemoteLine}
use Rattle.net_process.specs.Process.{ProcessState}
use Rattle.net_process.specs.Carrying.{frames_at, with_frames, sends, settled, settled_by, settled_line, settled_part, settled_below}

as_many : (found : Option RemoteLine) (place : ℕ) (p : ProcessState) → length (settled_by found place p).lines ≡ length p.lines
as_many None place p = refl
as_many (Some r) place p = length-set p.lines place (settled_line r p.part)

pub lines_settled : (place : ℕ) (p : ProcessState) → length (settled place p).lines ≡ length p.lines
lines_settled place p = as_many (slice_get p.lines place) place p

-- ---- one line

module _ (place : ℕ) (p : ProcessState) (r : RemoteLine) (there : slice_get p.lines place ≡ Some r) where
  settled_there : settled place p ≡ record p { part = settled_part r p.part; lines = set p.lines place (settled_line r p.part) }
  settled_there = ap (λ (found : Option RemoteLine). settled_by found place p) there

  abbrev sent : Network
  sent = with_frames r.end.line (direction_of r.end.role) [] p.part

  abbrev part_if : Bool → Network
  part_if is_on = if is_on then sent else with_frames r.end.line (direction_to r.end.role) [] sent

  -- a process whose part and line are as settling leaves them
  pub settled_as : (is_on : Bool) (part : Network) (q : RemoteLine) → is_open r.carrier ≡ is_on → part ≡ part_if is_on
      → q ≡ sends r (frames_at r.end.line (direction_of r.end.role) p.part)
      → record p { part = part; lines = set p.lines place q } ≡ settled place p
  settled_as is_on part q is part_is line_is =
      (λ i. record p { part = (part_is ∙ sym (ap part_if is)) i; lines = set p.lines place (line_is i) }) ∙ sym settled_there

-- ---- all lines

pub below_more : (count : ℕ) (p q r : ProcessState) → q ≡ settled_below count p → r ≡ settled count q
    → r ≡ settled_below (count + 1) p
below_more count p q r so_far is =
    is ∙ ap (λ (x : ProcessState). settled count x) so_far
    ∙ ap (λ (n : ℕ). settled_below n p) (sym (add-one count))

pub as_many_more : (count : ℕ) (p q r : ProcessState) → length q.lines ≡ length p.lines → r ≡ settled count q
    → length r.lines ≡ length p.lines
as_many_more count p q r so_far is =
    ap (λ (x : ProcessState). length x.lines) is ∙ lines_settled count q ∙ so_far
