-- Which octets answer a request.
use Rattle.std.specs.Prelude.{ℕ, List, [], ◌++◌, length, codes, decimal, if◌then◌else◌}
use Rattle.status_pages.specs.declared.requests.Refusal.{Refusal}
use Rattle.status_pages.specs.declared.requests.Refusal.TheVariants.{Malformed, NotFound, NotAllowed, Late, TooLong}
use Rattle.status_pages.specs.declared.requests.Wanted.{Wanted}
use Rattle.status_pages.specs.declared.requests.Wanted.TheVariants.{Picture, Status, Nothing}
use Rattle.status_pages.specs.declared.requests.Request.{Request}
use Rattle.status_pages.specs.declared.page.TheConstants.{PAGE}
use Rattle.status_pages.specs.declared.answers.TheConstants.{FIELDS}

abbrev pub refusal_line : Refusal → List ℕ
refusal_line Malformed = codes "HTTP/1.1 400 Bad Request\r\nContent-Type: text/plain\r\n"
refusal_line NotFound = codes "HTTP/1.1 404 Not Found\r\nContent-Type: text/plain\r\n"
refusal_line NotAllowed = codes "HTTP/1.1 405 Method Not Allowed\r\nAllow: GET, HEAD\r\nContent-Type: text/plain\r\n"
refusal_line Late = codes "HTTP/1.1 408 Request Timeout\r\nContent-Type: text/plain\r\n"
refusal_line TooLong = codes "HTTP/1.1 431 Request Header Fields Too Large\r\nContent-Type: text/plain\r\n"

abbrev pub words_of : Refusal → List ℕ
words_of Malformed = codes "This is no request.\n"
words_of NotFound = codes "There are two pages: / and /status.json.\n"
words_of NotAllowed = codes "GET and HEAD are served.\n"
words_of Late = codes "The request did not come in time.\n"
words_of TooLong = codes "The request is too long.\n"

abbrev pub first_lines : Wanted → List ℕ
first_lines Picture = codes "HTTP/1.1 200 OK\r\nContent-Type: text/html; charset=utf-8\r\n"
first_lines Status = codes "HTTP/1.1 200 OK\r\nContent-Type: application/json\r\n"
first_lines (Nothing refusal) = refusal_line refusal

abbrev pub body_of : Wanted → (status : List ℕ) → List ℕ
body_of Picture status = PAGE.now
body_of Status status = status
body_of (Nothing refusal) status = words_of refusal

-- the head of an answer with a body of so many octets
abbrev pub head_text : Wanted → (size : ℕ) → List ℕ
head_text wanted size = first_lines wanted ++ FIELDS.now ++ decimal size ++ codes "\r\n\r\n"

-- the head, and the body if it is wanted
abbrev pub answer_text : Request → (body : List ℕ) → List ℕ
answer_text request body = head_text request.wanted (length body) ++ (if request.with_body then body else [])
