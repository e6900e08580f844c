-- Which requests a stream of bytes holds.
use Rattle.std.specs.Prelude.{◌≡◌, ℕ, ◌+◌, ◌-◌, ◌<◌, ◌≤◌, ◌⊎◌, Bool, true, false, ◌||◌, List, [], ◌∷◌, length, take, drop, codes, Result, Ok, Err, MatchBool, ◌==◌}
use Rattle.ml_request.specs.declared.request.Refusal.{Refusal}
use Rattle.ml_request.specs.declared.request.Refusal.TheVariants.{Head}
use Rattle.ml_request.specs.declared.request.Event.{Event}
use Rattle.ml_request.specs.declared.request.Event.TheVariants.{Whole, Refused}
use Rattle.ml_request.specs.Request.{RequestParts, HeadParts}
use Rattle.ml_request.specs.Heads.{IsJudged}

-- CR LF CR LF stands at this place
abbrev pub IsMarkAt : List ℕ → ℕ → Type 0
IsMarkAt bytes at = take 4 (drop at bytes) ≡ codes "\r\n\r\n"

-- CR LF CR LF stands nowhere
abbrev pub HasNoMark : List ℕ → Type 0
HasNoMark bytes = (at : ℕ) → ¬ (IsMarkAt bytes at)

-- the first CR LF CR LF of the bytes ends behind `size` of them
pub record IsHeadSize (bytes : List ℕ) (size : ℕ) : Type 0 where
  pub at : ℕ
  pub behind : size ≡ at + 4
  pub mark : IsMarkAt bytes at
  pub first : (k : ℕ) → k < at → ¬ (IsMarkAt bytes k)

-- the bytes begin with a head of this size, which is judged so
pub record BeginsWithHead (bytes : List ℕ) (size : ℕ) (result : Result HeadParts Refusal) : Type 0 where
  pub ends : IsHeadSize bytes size
  pub short : size ≤ 16384
  pub judged : IsJudged (take size bytes) result

-- the first 16,384 bytes hold no end of a head
abbrev pub IsHeadTooLong : List ℕ → Type 0
IsHeadTooLong bytes = (16384 ≤ length bytes) × HasNoMark (take 16384 bytes)

-- the bytes end within a head that may still end within its limit
abbrev pub EndsInHead : List ℕ → Type 0
EndsInHead bytes = (length bytes < 16384) × HasNoMark bytes

-- the bytes end within the body of a request whose head is good
abbrev pub EndsInBody : List ℕ → Type 0
EndsInBody bytes = (size : ℕ) × (parts : HeadParts) × BeginsWithHead bytes size (Ok parts) × (length bytes < size + parts.length)

-- the bytes hold no whole request, and nothing of them is refused
abbrev pub HasNoEvent : List ℕ → Type 0
HasNoEvent bytes = EndsInHead bytes ⊎ EndsInBody bytes

-- the request that a head and a body make; the last one of a connection closes it
abbrev pub request_of : Bool → HeadParts → List ℕ → RequestParts
request_of last parts body =
    record { method = parts.method; target = parts.target; body = body; closes = parts.closes || last }

-- the bytes begin with this request, and the rest stands behind it
pub record BeginsWithRequest (last : Bool) (bytes : List ℕ) (request : RequestParts) (rest : List ℕ) : Type 0 where
  pub size : ℕ
  pub parts : HeadParts
  pub head : BeginsWithHead bytes size (Ok parts)
  pub whole : size + parts.length ≤ length bytes
  pub is : request ≡ request_of last parts (take parts.length (drop size bytes))
  pub behind : rest ≡ drop (size + parts.length) bytes

-- the bytes begin with what is refused so
abbrev pub BeginsRefused : List ℕ → Refusal → Type 0
BeginsRefused bytes refusal =
    (IsHeadTooLong bytes × (refusal ≡ Head)) ⊎ ((size : ℕ) × BeginsWithHead bytes size (Err refusal))

-- what comes next on the stream, and what stands behind it; nothing is said of what stands behind a refusal
abbrev pub BeginsWith : Bool → List ℕ → Event → List ℕ → Type 0
BeginsWith last bytes (Whole request) rest = BeginsWithRequest last bytes request rest
BeginsWith last bytes (Refused refusal) rest = BeginsRefused bytes refusal

-- the reply to it closes the connection
abbrev pub closes : Event → Bool
closes (Whole request) = request.closes
closes (Refused refusal) = true

-- the stream brings these events, none behind one that closes, and then has a rest of which `Rest` holds;
-- `left` of them may still come, and the last of these closes
abbrev pub Reads : (List ℕ → Type 0) → ℕ → List ℕ → List Event → Type 0
Reads Rest left bytes [] = Rest bytes
Reads Rest left bytes (event ∷ events) =
    (rest : List ℕ) × BeginsWith (left == 1) bytes event rest
    × MatchBool (closes event) (events ≡ []) (Reads Rest (left - 1) rest events)

-- these are all events of the bytes, of at most so many, up to the first that closes
abbrev pub AreEvents : ℕ → List ℕ → List Event → Type 0
AreEvents left bytes events = Reads HasNoEvent left bytes events

-- these are the first events of the bytes
abbrev pub AreFirstEvents : ℕ → List ℕ → List Event → Type 0
AreFirstEvents left bytes events = Reads (λ rest. Unit {0}) left bytes events

-- no event closes
abbrev pub AreOpen : List Event → Type 0
AreOpen [] = Unit {0}
AreOpen (event ∷ events) = (closes event ≡ false) × AreOpen events
