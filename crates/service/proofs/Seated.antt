-- Terminals of tables, and terminals of none.
use Rattle.std.proofs.Common.{◌≡◌, ◌≢◌, ◌⊎◌, ℕ, zero, suc, Bool, List, [], ◌∷◌, ◌++◌, ◌<◌, ◌+◌, ◌&&◌, ◌||◌, true, false, eqb, eq-eqb, ◌==◌, length, position, set, slice_get, Some, refl, sym, ap, ◌∙◌, arith, inl, inr, subst, length-append}
use Rattle.std.proofs.lemmas.Bool.{cases_eq}
use Rattle.std.proofs.lemmas.Option.{slice_get_within}
use Rattle.frame_lines.specs.Lines.{LineService}
use Rattle.user_nodes.specs.declared.terminal.TerminalEvent.TheVariants as what
use Rattle.net_events.specs.declared.event.Event.TheVariants.{AtTerminal}
use Rattle.net_process.specs.Process.{ProcessState}
use Rattle.service.specs.declared.absent.PadBinding.{PadBinding}
use Rattle.service.specs.declared.place.Place.{Place}
use Rattle.service.specs.declared.seats.TerminalsBinding.{TerminalsBinding}
use Rattle.service.specs.declared.terminal.Presence.TheVariants.{Gone}
use Rattle.service.specs.declared.terminal.Terminal.{Terminal}
use Rattle.service.specs.Places.{is_place, is_bound, AreApart}
use Rattle.service.specs.Seats.{AreSeated, IsOfSomeTable}
use Rattle.service.specs.Absent.{PassesPlaces, IsTold, LeavesBelow, LeavesPads}
use Rattle.service.specs.Terminals.{HasCome, attached, is_free, is_free_in}
use Rattle.service.specs.Steps.{Step, Does}
use Rattle.service.proofs.Stepping.{steps-append, silent-none, silent-append, tried-left, tried-right, tried_step}
use Rattle.service.proofs.Keys.{first_found}
use Rattle.service.proofs.Served.{presence_is_silent}

-- ---- lists that get longer

got-left : {X : Type 0} (xs ys : List X) (place : ℕ) (x : X) → slice_get xs place ≡ Some x → slice_get (xs ++ ys) place ≡ Some x
got-left [] ys place x is = cc
got-left (y ∷ xs) ys zero x is = is
got-left (y ∷ xs) ys (suc place) x is = got-left xs ys place x is

got-last : {X : Type 0} (xs : List X) (x : X) → slice_get (xs ++ x ∷ []) (length xs) ≡ Some x
got-last [] x = refl
got-last (y ∷ xs) x = got-last xs x

-- what is got of a list with one element more is that one, or was there before
got_push : {X : Type 0} (xs : List X) (x y : X) (place : ℕ) → slice_get (xs ++ x ∷ []) place ≡ Some y
    → ((place ≡ length xs) × (y ≡ x)) ⊎ (slice_get xs place ≡ Some y)
got_push [] x y zero is = inl (refl, let same : y ≡ x = cc in same)
got_push [] x y (suc place) is = cc
got_push (z ∷ xs) x y zero is = inr is
got_push (z ∷ xs) x y (suc place) is = elim (got_push xs x y place is) [
  | inl last ↦ inl (ap suc last.0, last.1)
  | inr before ↦ inr before
]

-- ---- a place among others

-- a place that is not bound is none of these
abbrev pub IsFree : List Place → Place → Type 0
IsFree places at = (port : ℕ) (other : Place) → slice_get places port ≡ Some other → other ≢ at

same_number : (n : ℕ) → eqb n n ≡ true
same_number n = eq-eqb n n refl

is_place_self : (at : Place) → is_place at at ≡ true
is_place_self at = λ i. same_number at.node i && same_number at.number i

no_test : (a b : Bool) → a ≡ true → (a || b) ≡ false → ⊥
no_test true b is isnt = cc
no_test false b is isnt = cc

rest_test : (a b : Bool) → (a || b) ≡ false → b ≡ false
rest_test true b isnt = cc
rest_test false b isnt = isnt

pub free_at : (places : List Place) (at : Place) → is_bound at places ≡ false → IsFree places at
free_at [] at free port other there = cc
free_at (place ∷ places) at free zero other there = λ is.
    let first : place ≡ other = cc in
    no_test (is_place at place) (is_bound at places) (ap (λ (p : Place). is_place at p) (first ∙ is) ∙ is_place_self at) free
free_at (place ∷ places) at free (suc port) other there =
    free_at places at (rest_test (is_place at place) (is_bound at places) free) port other there

-- a place that is free may come beside the others
apart_push : (places : List Place) (at : Place) → AreApart places → IsFree places at → AreApart (places ++ at ∷ [])
apart_push places at apart free one other place first second =
    elim (got_push places at place one first) [
      | inl last ↦ elim (got_push places at place other second) [
        | inl also ↦ last.0 ∙ sym also.0
        | inr before ↦ absurd (free other place before last.1)
      ]
      | inr before ↦ elim (got_push places at place other second) [
        | inl also ↦ absurd (free one place before also.1)
        | inr too ↦ apart one other place before too
      ]
    ]

-- ---- terminals of tables

pub seated_none : (tables : List TerminalsBinding) → AreSeated tables [] []
seated_none tables = record {
  count = refl;
  apart = λ one other at first second. cc;
  each = λ port at p seat there. cc;
}

seated_each : (tables : List TerminalsBinding) (places : List Place) (terminals : List Terminal) (at : Place) (p : Terminal)
    → AreSeated tables places terminals → IsOfSomeTable tables at p → (port : ℕ) (place : Place) (q : Terminal)
    → slice_get (places ++ at ∷ []) port ≡ Some place → slice_get (terminals ++ p ∷ []) port ≡ Some q → IsOfSomeTable tables place q
seated_each tables places terminals at p seated of port place q seat there =
    elim (got_push places at place port seat) [
      | inl last ↦ elim (got_push terminals p q port there) [
        | inl also ↦ subst (λ (n : Place). IsOfSomeTable tables n q) (sym last.1) (subst (λ (r : Terminal). IsOfSomeTable tables at r) (sym also.1) of)
        | inr before ↦
            let within = slice_get_within terminals port q before in
            absurd (omega (arith, seated.count, last.0, within))
      ]
      | inr before ↦ elim (got_push terminals p q port there) [
        | inl also ↦
            let within = slice_get_within places port place before in
            absurd (omega (arith, seated.count, also.0, within))
        | inr too ↦ seated.each port place q before too
      ]
    ]

pub seated_more : (tables : List TerminalsBinding) (places : List Place) (terminals : List Terminal) (at : Place) (p : Terminal)
    → AreSeated tables places terminals → IsFree places at → IsOfSomeTable tables at p → AreSeated tables (places ++ at ∷ []) (terminals ++ p ∷ [])
seated_more tables places terminals at p seated free of = record {
  count = length-append terminals (p ∷ []) ∙ ap (λ n. n + 1) seated.count ∙ sym (length-append places (at ∷ []));
  apart = apart_push places at seated.apart free;
  each = seated_each tables places terminals at p seated of;
}

-- ---- terminals of none

pub passes_none_at : (L : LineService) (places : List Place) (s : ProcessState) → PassesPlaces L places [] s s
passes_none_at L places s = record { made = refl; silent = λ port at seat. silent-none at }

passes_then_at : (L : LineService) (places : List Place) (xs ys : List Step) (s m t : ProcessState) → PassesPlaces L places xs s m → PassesPlaces L places ys m t
    → PassesPlaces L places (xs ++ ys) s t
passes_then_at L places xs ys s m t one two = record {
  made = steps-append L s m t xs ys one.made two.made;
  silent = λ port at seat. silent-append at xs ys (one.silent port at seat) (two.silent port at seat);
}

told-left : (places : List Place) (xs ys : List Step) (at : Place) → IsTold places xs at → IsTold places (xs ++ ys) at
told-left places xs ys at (inl bound) = inl bound
told-left places xs ys at (inr tried) = inr (tried-left (AtTerminal at.node at.number what.Leaves) xs ys tried)

told-right : (places : List Place) (xs ys : List Step) (at : Place) → IsTold places ys at → IsTold places (xs ++ ys) at
told-right places xs ys at (inl bound) = inl bound
told-right places xs ys at (inr tried) = inr (tried-right (AtTerminal at.node at.number what.Leaves) xs ys tried)

pub leaves_none : (L : LineService) (node : ℕ) (places : List Place) (s : ProcessState) → LeavesBelow L node 0 places s s
leaves_none L node places s = record {
  steps = [];
  passes = passes_none_at L places s;
  told = λ number below. absurd (omega arith);
}

abbrev place_at : (node number : ℕ) → Place
place_at node number = record { node = node; number = number }

told_next : (places : List Place) (node number : ℕ) (xs ys : List Step) → ((n : ℕ) → n < number → IsTold places xs (place_at node n))
    → IsTold places ys (place_at node number) → (n : ℕ) → n < number + 1 → IsTold places (xs ++ ys) (place_at node n)
told_next places node number xs ys before now n below = elim (cases_eq n number) [
  | inl e ↦ subst (λ m. IsTold places (xs ++ ys) (place_at node m)) (sym e) (told-right places xs ys (place_at node number) now)
  | inr apart ↦ let lower : n < number = omega arith in told-left places xs ys (place_at node n) (before n lower)
]

pub leaves_one : (L : LineService) (node number : ℕ) (done : Bool) (places : List Place) (s m t : ProcessState) → LeavesBelow L node number places s m
    → IsFree places (place_at node number) → Does L (AtTerminal node number what.Leaves) done m t → LeavesBelow L node (number + 1) places s t
leaves_one L node number done places s m t before free does =
    let leaves = AtTerminal node number what.Leaves in
    let ys : List Step = record { event = leaves; answer = does.answer } ∷ [] in
    record {
      steps = before.steps ++ ys;
      passes = passes_then_at L places before.steps ys s m t before.passes (record {
        made = (t, does.stepped, refl);
        silent = λ port at seat. presence_is_silent (place_at node number) at Gone does.answer (free port at seat);
      });
      told = told_next places node number before.steps ys before.told (inr (tried_step leaves leaves does.answer refl));
    }

pub leaves_bound : (L : LineService) (node number : ℕ) (places : List Place) (s t : ProcessState) → LeavesBelow L node number places s t
    → is_bound (place_at node number) places ≡ true → LeavesBelow L node (number + 1) places s t
leaves_bound L node number places s t before bound = record {
  steps = before.steps ++ [];
  passes = passes_then_at L places before.steps [] s t t before.passes (passes_none_at L places t);
  told = told_next places node number before.steps [] before.told (inl bound);
}

pub pads_none : (L : LineService) (pads : List PadBinding) (places : List Place) (s : ProcessState) → LeavesPads L 0 pads places s s
pads_none L pads places s = record {
  steps = [];
  passes = passes_none_at L places s;
  told = λ index pad number below there within. absurd (omega arith);
}

told_pad : (places : List Place) (pads : List PadBinding) (index : ℕ) (pad : PadBinding) (xs ys : List Step)
    → ((i : ℕ) (p : PadBinding) (number : ℕ) → i < index → slice_get pads i ≡ Some p → number < p.terminals → IsTold places xs (place_at p.node number))
    → ((number : ℕ) → number < pad.terminals → IsTold places ys (place_at pad.node number)) → slice_get pads index ≡ Some pad
    → (i : ℕ) (p : PadBinding) (number : ℕ) → i < index + 1 → slice_get pads i ≡ Some p → number < p.terminals → IsTold places (xs ++ ys) (place_at p.node number)
told_pad places pads index pad xs ys before now there i p number below is within = elim (cases_eq i index) [
  | inl e ↦
      let found : slice_get pads index ≡ Some p = ap (λ n. slice_get pads n) (sym e) ∙ is in
      let same_pad : pad ≡ p = cc in
      told-right places xs ys (place_at p.node number)
      (subst (λ (b : PadBinding). (n : ℕ) → n < b.terminals → IsTold places ys (place_at b.node n)) same_pad now number within)
  | inr apart ↦ let lower : i < index = omega arith in told-left places xs ys (place_at p.node number) (before i p number lower is within)
]

pub pads_more : (L : LineService) (index : ℕ) (pads : List PadBinding) (pad : PadBinding) (places : List Place) (s m t : ProcessState)
    → LeavesPads L index pads places s m → slice_get pads index ≡ Some pad → LeavesBelow L pad.node pad.terminals places m t
    → LeavesPads L (index + 1) pads places s t
pads_more L index pads pad places s m t before there now = record {
  steps = before.steps ++ now.steps;
  passes = passes_then_at L places before.steps now.steps s m t before.passes now.passes;
  told = told_pad places pads index pad before.steps now.steps before.told now.told there;
}

-- ---- a client comes

second_holds : (a b : Bool) → (a && b) ≡ true → b ≡ true
second_holds true b is = is
second_holds false b is = cc

pub has_come : (table port : ℕ) (terminals after : List Terminal) (p q : Terminal) → position (is_free_in table) terminals ≡ Some port
    → slice_get terminals port ≡ Some p → q ≡ attached p → after ≡ set terminals port q → HasCome terminals after port
has_come table port terminals after p q found there came is =
    let first = first_found (is_free_in table) terminals port found in
    let same_terminal : first.0 ≡ p = let both : Some first.0 ≡ Some p = sym first.2 ∙ there in cc in
    record {
      was = p;
      there = there;
      free = second_holds (p.terms.table == table) (is_free p) (subst (λ (x : Terminal). is_free_in table x ≡ true) same_terminal first.1);
      came = is ∙ ap (λ (x : Terminal). set terminals port x) came;
    }
