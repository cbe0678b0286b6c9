-- What the parser says of a head is what octets ask for.
use Rattle.std.proofs.Common.{◌≢◌, Some, IfErr, Result, Err, ap, subst, sym, ◌∙◌}
use Rattle.httparse.specs.declared.Error.{Error}
use Rattle.httparse.specs.declared.Error.TheVariants.{TooManyHeaders}
use Rattle.httparse.specs.declared.Status.{Status}
use Rattle.httparse.specs.declared.spans.RequestSpans.{RequestSpans}
use Rattle.httparse.specs.Grammar.{HasNoRequest, NeverHasRequest, MayBecomeRequest}
use Rattle.httparse.specs.Spans.{IsRequestOf}
use Rattle.status_pages.specs.Requests.{IsRequestIn, refused, whole, unfinished, too_long}
use Rattle.status_pages.specs.declared.requests.Request.{Request}
use Rattle.status_pages.proofs.Outcomes.{of_complete, of_partial, of_error}
use Rattle.status_pages.proofs.requests.request_in.Goals as goal

pub returns-in-Ok-Complete : goal.returns-in-Ok-Complete
returns-in-Ok-Complete c =
    let octets = c.args.octets.now in
    let found = of_complete (IsRequestOf octets c.parse_request.new.headers) c.parse_request.result c.in-Ok-Complete.field-0
    c.in-Ok-Complete.head c.in-Ok-Complete.is c.in-Ok-Complete.field-0-is c.parse_request.ensures.complete in
    let P : Request → Type 0 = λ request. IsRequestIn octets (Some request) in
    subst P (sym (c.asked_by.ensures found.0 found.1)) (whole found.0 _ found.1.reads)

pub returns-in-Ok-Partial : goal.returns-in-Ok-Partial
returns-in-Ok-Partial c = unfinished
    (of_partial (HasNoRequest c.args.octets.now) c.parse_request.result c.in-Ok-Partial.field-0 c.in-Ok-Partial.is c.in-Ok-Partial.field-0-is c.parse_request.ensures.partial)
    (of_partial (MayBecomeRequest c.args.octets.now) c.parse_request.result c.in-Ok-Partial.field-0 c.in-Ok-Partial.is c.in-Ok-Partial.field-0-is c.parse_request.ensures.unfinished)
    c.if-octets-lt-MOST_OCTETS.true

pub returns-in-Ok-Partial-2 : goal.returns-in-Ok-Partial-2
returns-in-Ok-Partial-2 c =
    let octets = c.args.octets.now in
    let P : Request → Type 0 = λ request. IsRequestIn octets (Some request) in
    let none = of_partial (HasNoRequest octets) c.parse_request.result c.in-Ok-Partial.field-0 c.in-Ok-Partial.is
    c.in-Ok-Partial.field-0-is c.parse_request.ensures.partial in
    subst P (sym c.refused.ensures) (too_long none c.if-octets-lt-MOST_OCTETS.false)

pub returns-in-Err : goal.returns-in-Err
returns-in-Err c =
    let octets = c.args.octets.now in
    let P : Request → Type 0 = λ request. IsRequestIn octets (Some request) in
    let R : Result (Status RequestSpans) Error → Type 0 = λ r. IfErr r (λ e. e ≢ TooManyHeaders → NeverHasRequest octets) in
    subst P (sym (c.refused-in-Err.ensures ∙ ap refused c.refusal_of.ensures))
    (of_error octets c.in-Err.error (subst R c.in-Err.is c.parse_request.ensures.invalid)
    (λ same. c.parse_request.ensures.too_many (c.in-Err.is ∙ ap Err same)))
