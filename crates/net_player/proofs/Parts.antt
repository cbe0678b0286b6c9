-- Things of which one stops, and parts of texts.
use Rattle.std.proofs.Common.{◌≡◌, ◌≢◌, ℕ, suc, ◌<◌, List, [], ◌∷◌, ◌++◌, length, take, drop, get_or, Option, sym, ap, ◌∙◌, subst, append_assoc, take-append-drop, drop-cons, refl}
use Rattle.std.proofs.Common.{Result, Ok, Err, IfErr, IfOk, OnOk}
use Rattle.std.specs.Io.KnownBytes.{Appends}
use Rattle.net_files.specs.declared.fault.ProgFault.{ProgFault}
use Rattle.net_files.specs.declared.fault.ProgFault.TheVariants as fault_is
use Rattle.octet_streams.specs.Written.{IsFrontOf, IsShortFrontOf, Writes}
use Rattle.octet_streams.proofs.Written.{whole_is_front, writes_as, writes_known}
use Rattle.net_player.specs.InTurn.{InTurn, StopsInTurn}
use Rattle.net_player.specs.InTurn.InTurn.{nothing, then}
use Rattle.net_player.specs.InTurn.StopsInTurn.{here, later}
use Rattle.net_player.specs.Stopping.{IsPartOf}

-- some are done, and then one stops
pub stops_behind : {X S : Type 0} {Does : X → S → List ℕ → S → Type 0} {Stops : X → S → List ℕ → Type 0}
    {xs : List X} {s mid : S} {first : List ℕ}
    → InTurn X S Does xs s first mid → (ys : List X) (part : List ℕ) → StopsInTurn X S Does Stops ys mid part
    → StopsInTurn X S Does Stops (xs ++ ys) s (first ++ part)
stops_behind nothing ys part stops = stops
stops_behind (then {first = a} {rest = b} does more) ys part stops =
    rw (append_assoc a b part) (later does (stops_behind more ys part stops))

-- a list up to an element, and from it on
pub split_at : {X : Type 0} (xs : List X) (i : ℕ) (x : X) → i < length xs → x ≡ get_or xs i x
    → xs ≡ take i xs ++ (x ∷ drop (suc i) xs)
split_at xs i x within there =
    sym (take-append-drop i xs)
    ∙ ap (λ ys. take i xs ++ ys) (drop-cons xs i x within ∙ ap (λ y. y ∷ drop (suc i) xs) (sym there))

-- the next of a list stops
pub stops_next : {X S : Type 0} {Does : X → S → List ℕ → S → Type 0} {Stops : X → S → List ℕ → Type 0}
    {s mid : S} {first : List ℕ} (part : List ℕ) (xs : List X) (i : ℕ) (x : X) → i < length xs → x ≡ get_or xs i x
    → InTurn X S Does (take i xs) s first mid → Stops x mid part
    → StopsInTurn X S Does Stops xs s (first ++ part)
stops_next {X} {S} {Does} {Stops} {s} {mid} {first} part xs i x within there done stops =
    let P : List X → Type 0 = λ ys. StopsInTurn X S Does Stops ys s (first ++ part) in
    subst P (sym (split_at xs i x within there)) (stops_behind done _ part (here stops))

-- a text was written, and a part of another one
pub told_behind : {fault : ProgFault} {part whole : List ℕ} (first : List ℕ) → IsPartOf whole fault part
    → IsPartOf (first ++ whole) fault (first ++ part)
told_behind {fault} {part} {whole} first told = record {
  rest = told.rest;
  front = ap (λ w. first ++ w) told.front ∙ sym (append_assoc first part told.rest);
  refused = told.refused;
}

front_empty : (xs ys : List ℕ) → xs ++ ys ≡ [] → xs ≡ []
front_empty [] ys none = refl
front_empty (x ∷ xs) ys none = absurd (cc none)

-- a part of a text was written, of which others follow
pub told_before : {fault : ProgFault} {part whole : List ℕ} (more : List ℕ) → IsPartOf whole fault part
    → IsPartOf (whole ++ more) fault part
told_before {fault} {part} {whole} more told = record {
  rest = told.rest ++ more;
  front = ap (λ w. w ++ more) told.front ∙ append_assoc part told.rest more;
  refused = λ is empty. told.refused is (front_empty told.rest more empty);
}

-- a front of a text was written, and the rest was refused
pub told_short : {fault : ProgFault} {part whole : List ℕ} → IsShortFrontOf whole part → IsPartOf whole fault part
told_short short = record { rest = short.rest; front = short.front; refused = λ is. short.short }

-- a line was written, or a part of it
pub told_line : {T : Type 0} {a b : Option (List ℕ)} (line : List ℕ) (result : Result T ProgFault)
    → OnOk result (Appends a b line) → IfErr result (λ fault. Writes a b (IsPartOf line fault))
    → Writes a b (IsFrontOf line)
told_line line (Ok x) written part = writes_known line (whole_is_front line) written
told_line line (Err e) written part = writes_as (λ text told. record { rest = told.rest; front = told.front }) part

not_write : fault_is.OutOfMemory ≢ fault_is.Write
not_write same = cc same

-- the front of a text was written, and then memory was wanted
pub told_front : (part rest : List ℕ) → IsPartOf (part ++ rest) fault_is.OutOfMemory part
told_front part rest = record { rest = rest; front = refl; refused = λ is empty. not_write is }

-- what is said of an error, or where there is none, says this too
pub if_err_as : {T E : Type 0} (result : Result T E) {P Q : E → Type 0} → ((e : E) → P e → Q e) → IfErr result P → IfErr result Q
if_err_as (Ok x) is said = tt
if_err_as (Err e) is said = is e said

-- two things that are said of an error say a third
pub if_err_and : {T E : Type 0} (result : Result T E) {P Q R : E → Type 0} → ((e : E) → P e → Q e → R e)
    → IfErr result P → IfErr result Q → IfErr result R
if_err_and (Ok x) is one other = tt
if_err_and (Err e) is one other = is e one other

pub if_ok_as : {T E : Type 0} (result : Result T E) {P Q : T → Type 0} → ((x : T) → P x → Q x) → IfOk result P → IfOk result Q
if_ok_as (Ok x) is said = is x said
if_ok_as (Err e) is said = tt
