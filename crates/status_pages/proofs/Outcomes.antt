-- From what the parser of heads says to what octets ask for.
use Rattle.std.proofs.Common.{◌≡◌, ◌≢◌, ℕ, List, Some, Result, Ok, refl, subst}
use Rattle.httparse.specs.declared.Error.{Error}
use Rattle.httparse.specs.declared.Error.TheVariants.{HeaderName, HeaderValue, NewLine, Status as BadStatus, Token, TooManyHeaders, Version}
use Rattle.httparse.specs.declared.Status.{Status}
use Rattle.httparse.specs.declared.Status.TheVariants.{Complete, Partial}
use Rattle.httparse.specs.Outcome.{IfComplete, OnPartial}
use Rattle.httparse.specs.Grammar.{NeverHasRequest}
use Rattle.httparse.specs.Spans.{RequestExceeds}
use Rattle.status_pages.specs.Requests.{IsRequestIn, refused, refusal_of, most_fields, malformed, too_many}

pub of_complete : {A E : Type 0} (P : A → Type 0) (r : Result (Status A) E) (s : Status A) (a : A)
    → r ≡ Ok s → s ≡ Complete a → IfComplete r P → P a
of_complete {A} {E} P r s a is done holds =
    let Q : Status A → Type 0 = λ s. IfComplete {A = A} {E = E} (Ok s) P in
    let R : Result (Status A) E → Type 0 = λ r. IfComplete r P in
    subst Q done (subst R is holds)

pub of_partial : {A E : Type 0} (P : Type 0) (r : Result (Status A) E) (s : Status A)
    → r ≡ Ok s → s ≡ Partial → OnPartial r P → P
of_partial {A} {E} P r s is done holds =
    let Q : Status A → Type 0 = λ s. OnPartial {A = A} {E = E} (Ok s) P in
    let R : Result (Status A) E → Type 0 = λ r. OnPartial r P in
    subst Q done (subst R is holds)

pub of_error : (octets : List ℕ) (e : Error) → (e ≢ TooManyHeaders → NeverHasRequest octets)
    → (e ≡ TooManyHeaders → RequestExceeds most_fields octets) → IsRequestIn octets (Some (refused (refusal_of e)))
of_error octets TooManyHeaders never exceeds = too_many (exceeds refl)
of_error octets HeaderName never exceeds = malformed (never (λ same. absurd (cc same)))
of_error octets HeaderValue never exceeds = malformed (never (λ same. absurd (cc same)))
of_error octets NewLine never exceeds = malformed (never (λ same. absurd (cc same)))
of_error octets BadStatus never exceeds = malformed (never (λ same. absurd (cc same)))
of_error octets Token never exceeds = malformed (never (λ same. absurd (cc same)))
of_error octets Version never exceeds = malformed (never (λ same. absurd (cc same)))
