-- Where a test of each line says that nothing is gathered there, nothing is gathered on any channel.
use Rattle.std.proofs.Common.{◌≡◌, ℕ, zero, suc, Bool, true, List, [], ◌∷◌, length, Option, Some, sym, ap, ◌∙◌}
use Rattle.std.specs.Prelude.{slice_get}
use Rattle.std.specs.List.{list_all}
use Rattle.std.proofs.lemmas.Option.{none-some}
use Rattle.std.proofs.lemmas.Bool.{eqb-true, and_parts}
use Rattle.switch_joins.specs.Joins.{Joined, flat, nth_joined, gathers_nothing}
use Rattle.switch_lines.specs.Lines.{SwitchLine, joined_on}
use Rattle.switched_call_laws.specs.SwitchPaths.SwitchPathLaws.{GathersNothing}

slot_none : (js : List (Option Joined)) (i : ℕ) (j : Joined) → list_all gathers_nothing js ≡ true → flat (slice_get js i) ≡ Some j → length j.kept.gathered.octets ≡ 0
slot_none [] i j all e = absurd (none-some j e)
slot_none (o ∷ js) zero j all e = eqb-true _ 0 (ap gathers_nothing (sym e) ∙ (and_parts (gathers_nothing o) (list_all gathers_nothing js) all).0)
slot_none (o ∷ js) (suc i) j all e = slot_none js i j (and_parts (gathers_nothing o) (list_all gathers_nothing js) all).1 e

channel_none : (js : List (Option Joined)) (c : ℕ) (j : Joined) → list_all gathers_nothing js ≡ true → nth_joined js c ≡ Some j → length j.kept.gathered.octets ≡ 0
channel_none js zero j all e = absurd (none-some j e)
channel_none js (suc i) j all e = slot_none js i j all e

line_none : (test : SwitchLine → Bool) → ((l : SwitchLine) → test l ≡ true → list_all gathers_nothing l.joined ≡ true) → (ls : List SwitchLine) (n c : ℕ) (j : Joined)
    → list_all test ls ≡ true → joined_on (slice_get ls n) c ≡ Some j → length j.kept.gathered.octets ≡ 0
line_none test says [] n c j all e = absurd (none-some j e)
line_none test says (l ∷ ls) zero c j all e = channel_none l.joined c j (says l (and_parts (test l) (list_all test ls) all).0) e
line_none test says (l ∷ ls) (suc n) c j all e = line_none test says ls n c j (and_parts (test l) (list_all test ls) all).1 e

pub none_gathered : (test : SwitchLine → Bool) → ((l : SwitchLine) → test l ≡ true → list_all gathers_nothing l.joined ≡ true) → (ls : List SwitchLine) → list_all test ls ≡ true → GathersNothing ls
none_gathered test says ls all p j e = line_none test says ls p.line p.channel j all e
