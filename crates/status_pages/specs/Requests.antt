-- Which octets are which request: a request line, its fields and an empty line, in the grammar of HTTP/1.1.
use Rattle.std.specs.Prelude.{ℕ, ◌<◌, ◌≤◌, ◌==◌, ◌&&◌, ◌||◌, Bool, true, false, List, length, codes, bytes_eq, Option, Some, None, if◌then◌else◌}
use Rattle.httparse.specs.Grammar.{RequestHead, ReadsRequest, HasNoRequest, NeverHasRequest, MayBecomeRequest}
use Rattle.httparse.specs.Spans.{RequestExceeds}
use Rattle.httparse.specs.declared.Error.{Error}
use Rattle.httparse.specs.declared.Error.TheVariants.{TooManyHeaders}
use Rattle.http1.specs.Message.{known_of}
use Rattle.status_pages.specs.declared.requests.Refusal.{Refusal}
use Rattle.status_pages.specs.declared.requests.Refusal.TheVariants.{Malformed, NotFound, NotAllowed, TooLong}
use Rattle.status_pages.specs.declared.requests.Wanted.{Wanted}
use Rattle.status_pages.specs.declared.requests.Wanted.TheVariants.{Picture, Status, Nothing}
use Rattle.status_pages.specs.declared.requests.Request.{Request}

-- how many octets and how many fields a head has at most
abbrev pub most_octets : ℕ
most_octets = 8192

abbrev pub most_fields : ℕ
most_fields = 64

abbrev pub refused : Refusal → Request
refused refusal = record { wanted = Nothing refusal; with_body = true }

-- why octets are refused of which the parser of heads says that
abbrev pub refusal_of : Error → Refusal
refusal_of TooManyHeaders = TooLong
refusal_of _ = Malformed

abbrev pub page_at : (target : List ℕ) → Wanted
page_at target =
    if bytes_eq target (codes "/") then Picture
    else (if bytes_eq target (codes "/status.json") then Status else Nothing NotFound)

-- GET wants the body too, HEAD the head alone, and no other method is allowed
abbrev pub asked : (method target : List ℕ) → Request
asked method target =
    if bytes_eq method (codes "GET") then record { wanted = page_at target; with_body = true }
    else (if bytes_eq method (codes "HEAD") then record { wanted = page_at target; with_body = false }
    else refused NotAllowed)

-- one field names the host, which HTTP/1.0 may leave out
abbrev pub has_host : (minor hosts : ℕ) → Bool
has_host minor hosts = (hosts == 1) || ((hosts == 0) && (minor == 0))

-- what a head asks for
abbrev pub asked_by : RequestHead → Request
asked_by head =
    if has_host head.minor (known_of head.fields).hosts then asked head.method head.target else refused Malformed

-- What octets ask for, if that is certain. A head that is whole asks for one thing, whatever follows it.
pub data IsRequestIn (octets : List ℕ) : Option Request → Type 0 where
  whole : (head : RequestHead) (rest : List ℕ) → ReadsRequest octets head rest → IsRequestIn octets (Some (asked_by head))
  unfinished : HasNoRequest octets → MayBecomeRequest octets → length octets < most_octets → IsRequestIn octets None
  malformed : NeverHasRequest octets → IsRequestIn octets (Some (refused Malformed))
  too_long : HasNoRequest octets → most_octets ≤ length octets → IsRequestIn octets (Some (refused TooLong))
  too_many : RequestExceeds most_fields octets → IsRequestIn octets (Some (refused TooLong))
