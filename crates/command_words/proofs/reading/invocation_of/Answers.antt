use Rattle.std.proofs.Common.{◌≡◌, ◌∙◌, List, Option, Some, None, option_map, ap, ap₂, sym, codes}
use Rattle.std.proofs.lemmas.Option.{same_Some}
use Rattle.clap.specs.Words.{Row, Text, first_of, found_of, rows_of, subcommand_rows_of}
use Rattle.clap.proofs.WalkLemmas.{first_value-rows}
use Rattle.command_words.proofs.reading.invocation_of.Goals as goal
use Rattle.command_words.proofs.reading.invocation_of.Goals.{in-sim, in-run}

abbrev paired : {X : Type 0} → (X → Text) → (X → List Row) → X → Text × List Row
paired f g x = (f x, g x)

-- what is found of a subcommand, by the equations of its name and its rows
both : {X : Type 0} (f : X → Text) (g : X → List Row) (o : Option X) (name : Text) (rows : List Row) → Some name ≡ option_map f o
    → Some rows ≡ option_map (λ (p : Text × List Row). p.1) (option_map (paired f g) o) → option_map (paired f g) o ≡ Some (name, rows)
both f g None name rows named rowed = cc
both f g (Some x) name rows named rowed = ap Some (ap₂ pair (sym (same_Some _ _ named)) (sym (same_Some _ _ rowed)))
  where
    pair : Text → List Row → Text × List Row
    pair a b = (a, b)

-- a subcommand that lacks an option is none that was asked for
lacks : (key word name file : Text) (rows options : List Row) (found : Option (Text × List Row))
    → found ≡ Some (name, rows) → None ≡ first_of key rows → found ≡ Some (word, options)
    → first_of key options ≡ Some file → ⊥
lacks key word name file rows options found here none asked given =
    let same : rows ≡ options = ap (λ (p : Text × List Row). p.1) (same_Some _ _ (sym here ∙ asked)) in
    let there : None ≡ Some file = none ∙ ap (first_of key) same ∙ given in cc

pub returns-in_err-get_str : goal.returns-in_err-get_str
returns-in_err-get_str c =
    let found = c.in_ok-word.ensures in
    let rows = rows_of (found_of c.in_ok-word.found.now) in
    let here : subcommand_rows_of c.args.matches.now ≡ Some (c.in_ok-word.word.now, rows) = both _ _ _ _ _ found.name found.rows in
    let none = c.in_err-get_str.ensures ∙ first_value-rows (found_of c.in_ok-word.found.now) (codes "net") in
    rw c.from_residual-in_err-get_str.ensures (λ invocation asked. lacks (codes "net") _ _ _ _ _ _ here none asked.mode asked.net)

pub returns-in_err-get_str-2 : goal.returns-in_err-get_str-2
returns-in_err-get_str-2 c =
    let found = c.in_ok-word.ensures in
    let rows = rows_of (found_of c.in_ok-word.found.now) in
    let here : subcommand_rows_of c.args.matches.now ≡ Some (c.in_ok-word.word.now, rows) = both _ _ _ _ _ found.name found.rows in
    let none = c.in_err-get_str-2.ensures ∙ first_value-rows (found_of c.in_ok-word.found.now) (codes "script") in
    rw c.from_residual-in_err-get_str-2.ensures (λ invocation asked. lacks (codes "script") _ _ _ _ _ _ here none asked.mode asked.script)

pub returns : goal.returns
returns c =
    let found = c.in_ok-word.ensures in
    let rows = rows_of (found_of c.in_ok-word.found.now) in
    let here : subcommand_rows_of c.args.matches.now ≡ Some (c.in_ok-word.word.now, rows) = both _ _ _ _ _ found.name found.rows in
    let net = sym (c.in_ok-get_str.ensures ∙ first_value-rows (found_of c.in_ok-word.found.now) (codes "net")) in
    let script = sym (c.in_ok-get_str-2.ensures ∙ first_value-rows (found_of c.in_ok-word.found.now) (codes "script")) in
    elim c.match-word.branch [
      | in-sim w ↦ record { options = rows; mode = rw (w.mode-is, ← w.in-sim.is) here; net = net; script = script }
      | in-run w ↦ record { options = rows; mode = rw (w.mode-is, ← w.in-run.is) here; net = net; script = script }
    ]
