-- Texts that are written one behind the other, and fronts of them.
use Rattle.std.proofs.Common.{◌≡◌, ℕ, List, [], ◌++◌, Option, None, Some, ap, sym, ◌∙◌, append_assoc, append-nil}
use Rattle.std.proofs.Common.{Result, Ok, Err, OnOk, OnErr}
use Rattle.std.specs.Io.KnownBytes.{Appends, Keeps}
use Rattle.std.proofs.KnownBytes.{Appends-nil, Appends-trans}
use Rattle.octet_streams.specs.Written.{Writes, IsFrontOf, IsShortFrontOf}

-- what is written stays so where a writer keeps what it has
pub appends_kept : (a b c : Option (List ℕ)) (text : List ℕ) → Appends a b text → Keeps b c → Appends a c text
appends_kept None b c text appended kept = tt
appends_kept (Some x) None c text appended kept = absurd appended
appends_kept (Some x) (Some y) None text appended kept = absurd kept
appends_kept (Some x) (Some y) (Some z) text appended kept = kept ∙ appended

-- a text is known to be written, and it is of this kind
pub writes_known : {Whole : List ℕ → Type 0} {a b : Option (List ℕ)} (text : List ℕ)
    → Whole text → Appends a b text → Writes a b Whole
writes_known text kind appended = record { text = text; appended = appended; kind = kind }

-- a text was written behind a known one
pub writes_behind : {Rest Whole : List ℕ → Type 0} {a b c : Option (List ℕ)} (first : List ℕ)
    → ((rest : List ℕ) → Rest rest → Whole (first ++ rest))
    → Appends a b first → Writes b c Rest → Writes a c Whole
writes_behind {Rest} {Whole} {a} {b} {c} first whole appended rest = record {
  text = first ++ rest.text;
  appended = Appends-trans a b c first rest.text appended rest.appended;
  kind = whole rest.text rest.kind;
}

-- nothing was written
pub writes_nothing : {Kind : List ℕ → Type 0} (known : Option (List ℕ)) → Kind [] → Writes known known Kind
writes_nothing known kind = record { text = []; appended = Appends-nil known; kind = kind }

-- a text was written behind another one
pub writes_append : {First Rest Whole : List ℕ → Type 0} (a b c : Option (List ℕ))
    → ((first rest : List ℕ) → First first → Rest rest → Whole (first ++ rest))
    → Writes a b First → Writes b c Rest → Writes a c Whole
writes_append a b c joined first rest = record {
  text = first.text ++ rest.text;
  appended = Appends-trans a b c first.text rest.text first.appended rest.appended;
  kind = joined first.text rest.text first.kind rest.kind;
}

-- a text of one kind is a text of another
pub writes_as : {First Whole : List ℕ → Type 0} {a b : Option (List ℕ)}
    → ((text : List ℕ) → First text → Whole text) → Writes a b First → Writes a b Whole
writes_as is written =
    record { text = written.text; appended = written.appended; kind = is written.text written.kind }

-- a known text was written behind another one
pub writes_then : {First Whole : List ℕ → Type 0} {a b c : Option (List ℕ)} (text : List ℕ)
    → ((first : List ℕ) → First first → Whole (first ++ text))
    → Writes a b First → Appends b c text → Writes a c Whole
writes_then {First} {Whole} {a} {b} {c} text whole first appended = record {
  text = first.text ++ text;
  appended = Appends-trans a b c first.text text first.appended appended;
  kind = whole first.text first.kind;
}

-- ---- fronts

pub whole_is_front : (whole : List ℕ) → IsFrontOf whole whole
whole_is_front whole = record { rest = []; front = sym (append-nil whole) }

pub short_is_front : {whole part : List ℕ} → IsShortFrontOf whole part → IsFrontOf whole part
short_is_front short = record { rest = short.rest; front = short.front }

-- a text was written, and a front of another one
pub front_behind : {part whole : List ℕ} (first : List ℕ) → IsFrontOf whole part → IsFrontOf (first ++ whole) (first ++ part)
front_behind {part} {whole} first told = record {
  rest = told.rest;
  front = ap (λ w. first ++ w) told.front ∙ sym (append_assoc first part told.rest);
}

-- a front of a text was written, of which others follow
pub front_before : {part whole : List ℕ} (more : List ℕ) → IsFrontOf whole part → IsFrontOf (whole ++ more) part
front_before {part} {whole} more told = record {
  rest = told.rest ++ more;
  front = ap (λ w. w ++ more) told.front ∙ append_assoc part told.rest more;
}

-- ---- what is said of an outcome, or where it is another one, says this too

pub on_ok_as : {T E : Type 0} (result : Result T E) {P Q : Type 0} → (P → Q) → OnOk result P → OnOk result Q
on_ok_as (Ok x) is said = is said
on_ok_as (Err e) is said = tt

pub on_err_as : {T E : Type 0} (result : Result T E) {P Q : Type 0} → (P → Q) → OnErr result P → OnErr result Q
on_err_as (Ok x) is said = tt
on_err_as (Err e) is said = is said
