-- The text of a reply.
use Rattle.std.specs.Prelude.{ℕ, Bool, ◌==◌, List, [], ◌++◌, length, codes, decimal, Option, Some, None, if◌then◌else◌}
use Rattle.ml_http.specs.declared.kind.Kind.{Kind}
use Rattle.ml_http.specs.declared.kind.Kind.TheVariants.{Json, Svg, GeoJson, Text}
use Rattle.ml_http.specs.declared.kind.Allow.{Allow}
use Rattle.ml_http.specs.declared.kind.Allow.TheVariants.{Get, Put, Edits}

-- the project's own phrase for a status
unfoldable pub phrase_of : ℕ → List ℕ
phrase_of code =
    if code == 200 then codes "OK"
    else (if code == 400 then codes "Bad Request"
    else (if code == 404 then codes "Not Found"
    else (if code == 405 then codes "Method Not Allowed"
    else (if code == 409 then codes "Conflict"
    else (if code == 413 then codes "Content Too Large"
    else (if code == 422 then codes "Unprocessable Content"
    else (if code == 431 then codes "Request Header Fields Too Large"
    else (if code == 501 then codes "Not Implemented"
    else codes "Service Unavailable"))))))))

-- the media type of a body
abbrev pub type_of : Kind → List ℕ
type_of Json = codes "application/json"
type_of Svg = codes "image/svg+xml"
type_of GeoJson = codes "application/geo+json"
type_of Text = codes "text/plain"

-- the line on the methods of the path, where the reply has one
abbrev pub allow_line : Option Allow → List ℕ
allow_line None = []
allow_line (Some Get) = codes "Allow: GET\r\n"
allow_line (Some Put) = codes "Allow: PUT\r\n"
allow_line (Some Edits) = codes "Allow: POST, PUT, DELETE\r\n"

-- the line that says that the connection closes, where it does
abbrev pub close_line : Bool → List ℕ
close_line closes = if closes then codes "Connection: close\r\n" else []

-- the first two lines of a reply
abbrev pub first_lines : ℕ → Kind → List ℕ
first_lines code kind =
    codes "HTTP/1.1 " ++ (decimal code ++ (codes " " ++ (phrase_of code
    ++ (codes "\r\nContent-Type: " ++ (type_of kind ++ codes "\r\n")))))

-- the other lines of a reply before its body
abbrev pub last_lines : ℕ → Option Allow → Bool → List ℕ
last_lines size allow closes =
    codes "Content-Length: " ++ (decimal size ++ (codes "\r\n" ++ (allow_line allow ++ (close_line closes ++ codes "\r\n"))))

-- the bytes of a reply
abbrev pub reply_text : ℕ → Kind → Option Allow → Bool → List ℕ → List ℕ
reply_text code kind allow closes body = first_lines code kind ++ last_lines (length body) allow closes ++ body
