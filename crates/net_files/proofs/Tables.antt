-- The tables of an array, read one after the other.
use Rattle.std.proofs.Common.{◌≡◌, ℕ, suc, zero, ◌+◌, ◌<◌, List, [], ◌∷◌, ◌++◌, length, take, get_or, refl, sym, ◌∙◌, ap}
use Rattle.std.proofs.Common.{Some, None, Vec, Global, inl, inr}
use Rattle.std.specs.Prelude.{Result, Ok, Err, IsErrAnd}
use Rattle.std.proofs.lemmas.List.{take_more}
use Rattle.toml.specs.Data.{Data, Items, string, integer, float, boolean, datetime, array, table}
use Rattle.toml.specs.Data.{Members, as_table, get_item, push_item}
use Rattle.toml.specs.View.{view, items_view}
use Rattle.toml.specs.declared.value.Value.{Value}
use Rattle.toml.proofs.Views.{items_view-push, get_item_within}
use Rattle.net_files.specs.declared.fault.ProgFault.{ProgFault}
use Rattle.net_files.specs.DocumentAnswers.{Makes}
use Rattle.net_files.specs.Networks.{TablesForm}
use Rattle.net_files.specs.Networks.TablesForm.{none, more}

is_table : (d : Data) (entry : Members) → as_table d ≡ Some entry → d ≡ table entry
is_table (string s) entry h = cc
is_table (integer z) entry h = cc
is_table (float x) entry h = cc
is_table (boolean b) entry h = cc
is_table (datetime t) entry h = cc
is_table (array items) entry h = cc
is_table (table ms) entry h = let same : ms ≡ entry = cc in ap table same

-- one table more at the end
pushed : {A : Type 0} {Form : Members → A → Type 0} {values : Items} {xs : List A} (entry : Members) (x : A)
    → Form entry x → TablesForm A Form values xs
    → TablesForm A Form (push_item values (table entry)) (xs ++ x ∷ [])
pushed entry x form none = more form none
pushed entry x form (more first rest) = more first (pushed entry x form rest)

pub next_table : {A : Type 0} (Form : Members → A → Type 0) (values : List Value) (i : ℕ) (value : Value)
    (entry : Members) (xs : List A) (x : A)
    → i < length values → value ≡ get_or values i value → as_table (view value) ≡ Some entry → Form entry x
    → TablesForm A Form (items_view (take i values)) xs
    → TablesForm A Form (items_view (take (i + 1) values)) (xs ++ x ∷ [])
next_table {A} Form values i value entry xs x within here is form so_far =
    let more_taken : take (i + 1) values ≡ take i values ++ value ∷ [] =
    take_more values i value within ∙ ap (λ v. take i values ++ v ∷ []) (sym here) in
    rw (more_taken, items_view-push (take i values) value, is_table (view value) entry is)
    (pushed entry x form so_far)

-- each value is a table of the form
each : {A : Type 0} {Form : Members → A → Type 0} {values : Items} {xs : List A} → TablesForm A Form values xs
    → (i : ℕ) (value : Data) → get_item i values ≡ Some value
    → (entry : Members) × (x : A) × (as_table value ≡ Some entry) × Form entry x
each none i value there = cc
each (more {entry = entry} {x = x} form rest) zero value there =
    (entry, x, (let same : table entry ≡ value = cc in rw (← same) refl), form)
each (more form rest) (suc i) value there = each rest i value there

-- no such tables stand there where a value is none, or has not the form
pub no_table : {A : Type 0} (Form : Members → A → Type 0) (values : List Value) (i : ℕ) (value : Value)
    → i < length values → value ≡ get_or values i value → as_table (view value) ≡ None
    → (xs : List A) → ¬ TablesForm A Form (items_view values) xs
no_table Form values i value within here is xs form =
    let there : get_item i (items_view values) ≡ Some (view value) =
    sym (get_item_within values i value within) ∙ ap (λ v. Some (view v)) (sym here) in
    let found = each form i (view value) there in
    let is_one = found.2 in
    cc

pub not_formed : {A : Type 0} (Form : Members → A → Type 0) (values : List Value) (i : ℕ) (value : Value)
    (entry : Members)
    → i < length values → value ≡ get_or values i value → as_table (view value) ≡ Some entry
    → ((x : A) → ¬ Form entry x)
    → (xs : List A) → ¬ TablesForm A Form (items_view values) xs
not_formed Form values i value entry within here is bad xs form =
    let there : get_item i (items_view values) ≡ Some (view value) =
    sym (get_item_within values i value within) ∙ ap (λ v. Some (view v)) (sym here) in
    let found = each form i (view value) there in
    let same : found.0 ≡ entry = (let is_one = found.2 in cc) in
    bad found.1 (rw same at found.3)

-- a fault is passed on by `?`
pub told_on : {A : Type 0} (Form : A → Type 0) (result : Result A ProgFault) (fault : ProgFault)
    → IsErrAnd result (λ e. e ≡ fault) → Makes Form (Err fault) → Makes Form result
told_on Form (Ok x) fault told makes = absurd told
told_on Form (Err e) fault told makes = rw told makes

pub refused : {A : Type 0} (Form : Members → A → Type 0) (values : List Value) (i : ℕ) (value : Value)
    (entry : Members) (fault : ProgFault)
    → i < length values → value ≡ get_or values i value → as_table (view value) ≡ Some entry
    → Makes (Form entry) (Err fault)
    → Makes (λ (xs : Vec A Global). TablesForm A Form (items_view values) xs.items) (Err fault)
refused Form values i value entry fault within here is (inl memory) = inl memory
refused Form values i value entry fault within here is (inr bad) =
    inr (bad.0, λ xs. not_formed Form values i value entry within here is bad.1 xs.items)
