use Rattle.std.proofs.Common.{◌≡◌, ◌≢◌, inl, inr, ◌∙◌, sym, refl, subst, map, None, Some, Option, string_bytes, List, [], ◌∷◌, true, false, length, nat_eq}
use Rattle.std.proofs.lemmas.Result.{err_from_is_err_and}
use Rattle.clap.specs.Words.{App, HasKind, IsAmong, Row, Text, fault_of, is_simple, is_simple_and_free, kind_of, subcommand_of}
use Rattle.clap.specs.declared.error.Error.{Error}
use Rattle.clap.specs.declared.error.kind.ErrorKind.TheVariants.{OutOfMemory}
use Rattle.command_words.specs.Invocations.{Asks, AsksFor, Found, program}
use Rattle.command_words.specs.declared.invocation.Invocation.{Invocation}
use Rattle.command_words.proofs.reading.read_words.Goals as goal

-- what is found in words without a fault is what they ask for
asked_for : {X : Type 0} (app : App) (words : List Text) (found : Option (Text × List Row)) (invocation : Invocation)
    → app ≡ program → (is_simple_and_free app ≡ true → fault_of app words ≡ [])
    → (is_simple app ≡ true → X × (found ≡ subcommand_of app words)) → Found found invocation → AsksFor words invocation
asked_for {X} app words found invocation is_program faults matches holds =
    let Faultless : App → Type 0 = λ a. is_simple_and_free a ≡ true → fault_of a words ≡ [] in
    let Matches : App → Type 0 = λ a. is_simple a ≡ true → X × (found ≡ subcommand_of a words) in
    let Holds : Option (Text × List Row) → Type 0 = λ f. Found f invocation in
    record {
      faultless = subst Faultless is_program faults refl;
      found = subst Holds (subst Matches is_program matches refl).1 holds;
    }

-- words that name no mode with its files ask for nothing
names_none : {X : Type 0} (app : App) (words : List Text) (found : Option (Text × List Row)) (invocation : Invocation)
    → app ≡ program → (is_simple app ≡ true → X × (found ≡ subcommand_of app words))
    → ((i : Invocation) → Found found i → ⊥) → AsksFor words invocation → ⊥
names_none {X} app words found invocation is_program matches none asks =
    let Matches : App → Type 0 = λ a. is_simple a ≡ true → X × (found ≡ subcommand_of a words) in
    let Holds : Option (Text × List Row) → Type 0 = λ f. Found f invocation in
    none invocation (subst Holds (sym (subst Matches is_program matches refl).1) asks.found)

-- words with a fault that is no want of memory ask for nothing
has_fault : (app : App) (words : List Text) (e : Error) (invocation : Invocation)
    → app ≡ program → (is_simple_and_free app ≡ true → HasKind (fault_of app words) e) → kind_of e ≢ OutOfMemory
    → AsksFor words invocation → ⊥
has_fault app words e invocation is_program kinds memory asks =
    let Faults : App → Type 0 = λ a. is_simple_and_free a ≡ true → HasKind (fault_of a words) e in
    elim (subst Faults is_program kinds refl) [
      | inl none_left ↦ memory none_left
      | inr among ↦
          let P : List _ → Type 0 = λ faults. IsAmong (kind_of e) faults in
          subst P asks.faultless among
    ]

-- words that are there are not no words
some_words : {X : Type 0} (f : X → Text) (xs : List X) → nat_eq (length xs) 0 ≡ false → map f xs ≡ [] → ⊥
some_words f [] there none = cc
some_words f (x ∷ xs) there none = cc

pub returns-in_err-matches-clause-bad : goal.returns-in_err-matches-clause-bad
returns-in_err-matches-clause-bad c =
    let p = err_from_is_err_and c.from_residual-in_err-matches.result c.from_residual-in_err-matches.ensures.1 in
    λ is_bad asked. elim asked as (λ a. Asks (map (λ word. string_bytes word) c.args.words.now) a → ⊥) [
      | None ↦ some_words _ _ (sym c.is_empty.ensures ∙ c.if-is_empty.false)
      | Some invocation ↦
          let memory : kind_of c.in_err-matches.field-0.0 ≢ OutOfMemory = p.2.0 cc in
          has_fault _ _ c.in_err-matches.field-0.0 invocation c.in_ok-program.ensures c.in_err-matches.ensures.kinds memory
    ]

pub returns-in-Some-clause-asks : goal.returns-in-Some-clause-asks
returns-in-Some-clause-asks c =
    asked_for _ _ _ c.in-Some.invocation c.in_ok-program.ensures c.in_ok-matches.ensures.kinds c.in_ok-matches.ensures.matches c.in-Some.ensures

pub returns-clause-bad : goal.returns-clause-bad
returns-clause-bad c = λ is_bad asked. elim asked as (λ a. Asks (map (λ word. string_bytes word) c.args.words.now) a → ⊥) [
  | None ↦ some_words _ _ (sym c.is_empty.ensures ∙ c.if-is_empty.false)
  | Some invocation ↦ names_none _ _ _ invocation c.in_ok-program.ensures c.in_ok-matches.ensures.matches c.in-None.ensures
]
