-- What the values of an array say, read one after the other, and refusals that are passed on.
use Rattle.std.proofs.Common.{◌≡◌, ℕ, suc, zero, ◌+◌, ◌<◌, List, [], ◌∷◌, ◌++◌, length, take, get_or, sym, ◌∙◌, ap}
use Rattle.std.proofs.Common.{Some, Vec, Global, inl, inr}
use Rattle.std.specs.Prelude.{Result, Ok, Err, IsErrAnd, IfOk}
use Rattle.std.proofs.lemmas.List.{take_more}
use Rattle.toml.specs.Data.{Data, Items, Members, as_table, get_item, push_item}
use Rattle.toml.specs.View.{view, items_view}
use Rattle.toml.specs.declared.value.Value.{Value}
use Rattle.toml.proofs.Views.{items_view-push, get_item_within}
use Rattle.service_files.specs.declared.refusal.Refusal.{Refusal}
use Rattle.service_files.specs.Reads.{Reads, EachSays, IsTable}
use Rattle.service_files.specs.Reads.EachSays.{none, more}

-- one value more at the end
pushed : {A : Type 0} {Says : Data → A → Type 0} {values : Items} {xs : List A} (value : Data) (x : A)
    → Says value x → EachSays A Says values xs → EachSays A Says (push_item values value) (xs ++ x ∷ [])
pushed value x says none = more says none
pushed value x says (more first rest) = more first (pushed value x says rest)

pub next_value : {A : Type 0} (Says : Data → A → Type 0) (values : List Value) (i : ℕ) (value : Value)
    (xs : List A) (x : A)
    → i < length values → value ≡ get_or values i value → Says (view value) x
    → EachSays A Says (items_view (take i values)) xs
    → EachSays A Says (items_view (take (i + 1) values)) (xs ++ x ∷ [])
next_value {A} Says values i value xs x within here says so_far =
    let more_taken : take (i + 1) values ≡ take i values ++ value ∷ [] =
    take_more values i value within ∙ ap (λ v. take i values ++ v ∷ []) (sym here) in
    rw (more_taken, items_view-push (take i values) value) (pushed (view value) x says so_far)

-- each value says something
each : {A : Type 0} {Says : Data → A → Type 0} {values : Items} {xs : List A} → EachSays A Says values xs
    → (i : ℕ) (value : Data) → get_item i values ≡ Some value → (x : A) × Says value x
each none i value there = cc
each (more {value = first} {x = x} says rest) zero value there =
    (x, (let same : first ≡ value = cc in rw (← same) says))
each (more says rest) (suc i) value there = each rest i value there

-- where one value says nothing, they do not
not_said : {A : Type 0} (Says : Data → A → Type 0) (values : List Value) (i : ℕ) (value : Value)
    → i < length values → value ≡ get_or values i value → ((x : A) → ¬ Says (view value) x)
    → (xs : List A) → ¬ EachSays A Says (items_view values) xs
not_said Says values i value within here bad xs says =
    let there : get_item i (items_view values) ≡ Some (view value) =
    sym (get_item_within values i value within) ∙ ap (λ v. Some (view v)) (sym here) in
    let found = each says i (view value) there in
    bad found.0 found.1

pub value_refused : {A : Type 0} (Says : Data → A → Type 0) (values : List Value) (i : ℕ) (value : Value)
    (refusal : Refusal)
    → i < length values → value ≡ get_or values i value → Reads (Says (view value)) (Err refusal)
    → Reads (λ (xs : Vec A Global). EachSays A Says (items_view values) xs.items) (Err refusal)
value_refused Says values i value refusal within here (inl memory) = inl memory
value_refused Says values i value refusal within here (inr bad) =
    inr (bad.0, λ xs. not_said Says values i value within here bad.1 xs.items)

-- a refusal is passed on by `?`
pub told_on : {A : Type 0} (Says : A → Type 0) (result : Result A Refusal) (refusal : Refusal)
    → IsErrAnd result (λ e. e ≡ refusal) → Reads Says (Err refusal) → Reads Says result
told_on Says (Ok x) refusal told reads = absurd told
told_on Says (Err e) refusal told reads = rw told reads

-- nothing is read where a refusal is passed on by `?`
pub nothing_read : {A : Type 0} (Says : A → Type 0) (result : Result A Refusal) (refusal : Refusal)
    → IsErrAnd result (λ e. e ≡ refusal) → IfOk result Says
nothing_read Says (Ok x) refusal told = absurd told
nothing_read Says (Err e) refusal told = tt

-- a table is read as its members are
pub table_read : {A : Type 0} (Says : Members → A → Type 0) (value : Data) (entry : Members) (result : Result A Refusal)
    → as_table value ≡ Some entry → IfOk result (Says entry) → IfOk result (IsTable Says value)
table_read Says value entry (Ok x) is says = record { entry = entry; is = is; says = says }
table_read Says value entry (Err refusal) is says = tt
