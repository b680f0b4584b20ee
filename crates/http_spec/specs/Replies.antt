-- The bytes of a reply.
use Rattle.std.specs.Prelude.{ℕ, Bool, List, [], ◌++◌, length, codes, decimal, if◌then◌else◌}
use Rattle.page_spec.specs.declared.Outcome.{Outcome}
use Rattle.page_spec.specs.declared.Outcome.TheVariants.{Page, Missing, Cyclic, TooLong}
use Rattle.page_spec.specs.Show.{show}
use Rattle.http_spec.specs.declared.RequestKind.{RequestKind}
use Rattle.http_spec.specs.declared.RequestKind.TheVariants.{Get, Head, BadRequest, Misdirected, WrongMethod}
use Rattle.http_spec.specs.declared.ParsedRequest.{ParsedRequest}

-- the status of a page's outcome
abbrev pub page_status : Outcome → List ℕ
page_status (Page text) = codes "200 OK"
page_status Missing = codes "404 Not Found"
page_status (Cyclic value) = codes "500 Internal Server Error"
page_status TooLong = codes "500 Internal Server Error"

-- the status of a reply
abbrev pub status : RequestKind → Outcome → List ℕ
status Get outcome = page_status outcome
status Head outcome = page_status outcome
status BadRequest outcome = codes "400 Bad Request"
status Misdirected outcome = codes "421 Misdirected Request"
status WrongMethod outcome = codes "405 Method Not Allowed"

-- the type of the body by a page's outcome
abbrev pub page_type : Outcome → List ℕ
page_type (Page text) = codes "text/html; charset=utf-8"
page_type Missing = codes "text/plain; charset=utf-8"
page_type (Cyclic value) = codes "text/plain; charset=utf-8"
page_type TooLong = codes "text/plain; charset=utf-8"

-- the type of the body
abbrev pub content_type : RequestKind → Outcome → List ℕ
content_type Get outcome = page_type outcome
content_type Head outcome = page_type outcome
content_type BadRequest outcome = codes "text/plain; charset=utf-8"
content_type Misdirected outcome = codes "text/plain; charset=utf-8"
content_type WrongMethod outcome = codes "text/plain; charset=utf-8"

-- the line that names the methods, in the reply to another method
abbrev pub allow_line : RequestKind → List ℕ
allow_line Get = []
allow_line Head = []
allow_line BadRequest = []
allow_line Misdirected = []
allow_line WrongMethod = codes "Allow: GET, HEAD\r\n"

-- the body by a page's outcome
abbrev pub page_body : Outcome → List ℕ
page_body (Page text) = text
page_body Missing = codes "not found\n"
page_body (Cyclic value) = codes "cyclic embedding at " ++ show value ++ codes "\n"
page_body TooLong = codes "page too long\n"

-- the body, whose length a reply to HEAD reports and whose bytes it lacks
abbrev pub reply_body : RequestKind → Outcome → List ℕ
reply_body Get outcome = page_body outcome
reply_body Head outcome = page_body outcome
reply_body BadRequest outcome = codes "bad request\n"
reply_body Misdirected outcome = codes "misdirected request\n"
reply_body WrongMethod outcome = codes "method not allowed\n"

-- what the Connection line says
abbrev pub connection : Bool → List ℕ
connection close = if close then codes "close" else codes "keep-alive"

-- the lines of a reply whose body has this length, and the empty line after them
unfoldable pub head_bytes : List ℕ → List ℕ → List ℕ → ℕ → Bool → List ℕ
head_bytes status kind allow length close =
    codes "HTTP/1.1 " ++ status ++ codes "\r\nContent-Type: " ++ kind ++ codes "\r\n" ++ allow
    ++ codes "Content-Length: " ++ decimal length
    ++ codes "\r\nConnection: " ++ connection close ++ codes "\r\n\r\n"

-- a reply of these parts
abbrev pub response : List ℕ → List ℕ → List ℕ → List ℕ → Bool → Bool → List ℕ
response status kind allow body no_body close =
    head_bytes status kind allow (length body) close ++ (if no_body then [] else body)

-- the bytes of the reply to a request whose page has this outcome
abbrev pub reply_bytes : ParsedRequest → Outcome → Bool → List ℕ
reply_bytes ask outcome close =
    response (status ask.kind outcome) (content_type ask.kind outcome) (allow_line ask.kind)
    (reply_body ask.kind outcome) ask.no_body close

-- the bytes that are sent where memory is missing for a reply
abbrev pub no_memory_bytes : List ℕ
no_memory_bytes =
    codes "HTTP/1.1 503 Service Unavailable\r\nContent-Length: 0\r\nConnection: close\r\n\r\n"
