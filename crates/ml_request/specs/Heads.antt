-- How a request head is judged.
use Rattle.std.specs.Prelude.{◌≡◌, ℕ, ◌≤◌, nat_lt, ◌==◌, Bool, false, ◌&&◌, ◌||◌, List, [], ◌∷◌, length, map, filter, codes, Option, Some, None, Result, Ok, Err, if◌then◌else◌}
use Rattle.std.specs.List.{list_any, slice_split}
use Rattle.std.specs.Str.{str_eq_ignore_ascii_case}
use Rattle.httparse.specs.Grammar.{RequestHead, ReadsRequest, trim_ows}
use Rattle.httparse.specs.Spans.{name_and_value}
use Rattle.ml_ratio.specs.Number.{numeral}
use Rattle.ml_request.specs.declared.request.Refusal.{Refusal}
use Rattle.ml_request.specs.declared.request.Refusal.TheVariants.{Request, Coding, Size}
use Rattle.ml_request.specs.declared.request.Framing.{Framing}
use Rattle.ml_request.specs.Request.{HeadParts}

-- all the bytes are this head, which has at most room fields
pub record IsWholeHead (room : ℕ) (bytes : List ℕ) (head : RequestHead) : Type 0 where
  pub reads : ReadsRequest bytes head []
  pub few : length head.fields ≤ room

-- no head is all of the bytes
abbrev pub HasNoWholeHead : ℕ → List ℕ → Type 0
HasNoWholeHead room bytes = (head : RequestHead) → ¬ (IsWholeHead room bytes head)

-- the head of at most 64 fields that the bytes are, where they are one
abbrev pub IsReading : List ℕ → Option RequestHead → Type 0
IsReading bytes None = HasNoWholeHead 64 bytes
IsReading bytes (Some head) = IsWholeHead 64 bytes head

-- the two names are the same but for the case of ASCII letters
abbrev pub is_named : List ℕ → List ℕ → Bool
is_named a b = str_eq_ignore_ascii_case b a

-- the values of the fields of this name, in order
abbrev pub values_of : List ℕ → List (List ℕ × List ℕ) → List (List ℕ)
values_of name fields = map (λ field. field.1) (filter (λ field. is_named name field.0) fields)

-- a length of at most 1,048,576, as one field gives it
abbrev pub length_of : Option ℕ → Result ℕ Refusal
length_of None = Err Request
length_of (Some n) = if nat_lt 1048576 n then Err Size else Ok n

-- the length of the body: none without the field
abbrev pub body_length : List (List ℕ) → Result ℕ Refusal
body_length [] = Ok 0
body_length (value ∷ []) = length_of (numeral value)
body_length (value ∷ other ∷ rest) = Err Request

-- the target begins with a slash
abbrev pub begins_with_slash : List ℕ → Bool
begins_with_slash [] = false
begins_with_slash (byte ∷ rest) = byte == 47

-- how many Host fields a head of this minor version may have
abbrev pub is_host_count : ℕ → ℕ → Bool
is_host_count minor count = count == 1 || (minor == 0 && count == 0)

-- the parts of a value between commas
abbrev pub items_of : List ℕ → List (List ℕ)
items_of value = slice_split (λ byte. byte == 44) value

-- some item of the value, between commas and stripped of spaces and tabs, is `close`
abbrev pub lists_close : List ℕ → Bool
lists_close value = list_any (λ item. is_named (codes "close") (trim_ows item)) (items_of value)

-- the version is 1.0, or a Connection field lists `close`
abbrev pub asks_to_close : ℕ → List (List ℕ × List ℕ) → Bool
asks_to_close minor fields = minor == 0 || list_any lists_close (values_of (codes "connection") fields)

-- how the request goes on, where the length of its body is good
abbrev pub framed : Bool → Result ℕ Refusal → Result Framing Refusal
framed closes (Err refusal) = Err refusal
framed closes (Ok n) = Ok (record { length = n; closes = closes })

-- the rules on the target and the fields, in their order
abbrev pub framing_of : List ℕ → ℕ → List (List ℕ × List ℕ) → Result Framing Refusal
framing_of target minor fields =
    if begins_with_slash target && is_host_count minor (length (values_of (codes "host") fields))
    then (if length (values_of (codes "transfer-encoding") fields) == 0
    then framed (asks_to_close minor fields) (body_length (values_of (codes "content-length") fields))
    else Err Coding)
    else Err Request

-- what a head says of its request, where its rules hold
abbrev pub parts_of : List ℕ → List ℕ → Result Framing Refusal → Result HeadParts Refusal
parts_of method target (Err refusal) = Err refusal
parts_of method target (Ok framing) =
    Ok (record { method = method; target = target; length = framing.length; closes = framing.closes })

-- what is said of a head: it is refused, or says this of its request
abbrev pub judgement : Option RequestHead → Result HeadParts Refusal
judgement None = Err Request
judgement (Some head) = parts_of head.method head.target (framing_of head.target head.minor (map name_and_value head.fields))

-- the head of these bytes is judged so
abbrev pub IsJudged : List ℕ → Result HeadParts Refusal → Type 0
IsJudged bytes result = (reading : Option RequestHead) × IsReading bytes reading × (result ≡ judgement reading)
