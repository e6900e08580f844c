-- What a request asks for: its path, its method and its query.
use Rattle.std.specs.Prelude.{ℕ, ◌+◌, take, drop, position, ◌==◌, List, [], ◌∷◌, length, map, filter, codes, bytes_eq, Option, Some, None, unwrap_or, Result, Ok, Err, MatchResult, if◌then◌else◌}
use Rattle.std.specs.declared.alloc.Global.{Global}
use Rattle.std.specs.Cow.{cow_str_bytes}
use Rattle.std.specs.declared.borrow.CowStr.{CowStr}
use Rattle.std.specs.Option.{option_map}
use Rattle.std.specs.Str.Lossy.{utf8_lossy}
use Rattle.ml_ratio.specs.Number.{number_up_to}
use Rattle.form_urlencoded.specs.Form.{raw_pairs, decode}
use Rattle.ml_cone.specs.declared.view.View.{View}
use Rattle.ml_tile.specs.Words.{WritesTile, IsFirstBadWord}
use Rattle.ml_tile.specs.declared.key.TileKey.{TileKey}
use Rattle.ml_view.specs.Words.{WritesView, IsFirstBad}
use Rattle.ml_http.specs.declared.route.Route.{Route}
use Rattle.ml_http.specs.declared.route.Route.TheVariants.{Read, Tile, Edit}
use Rattle.ml_http.specs.declared.route.ReadRoute.TheVariants as reads
use Rattle.ml_http.specs.declared.route.EditRoute.TheVariants as edits
use Rattle.ml_http.specs.declared.route.NoRoute.{NoRoute}
use Rattle.ml_http.specs.declared.route.NoRoute.TheVariants.{Path, Method}
use Rattle.ml_http.specs.declared.kind.Allow.TheVariants.{Get, Put, Edits}

-- the bytes before a place and behind it, all and none where there is no place
abbrev pub before : Option ℕ → List ℕ → List ℕ
before None bytes = bytes
before (Some at) bytes = take at bytes

abbrev pub behind : Option ℕ → List ℕ → List ℕ
behind None bytes = []
behind (Some at) bytes = drop (at + 1) bytes

-- the path is the target up to the first question mark, the query what follows it
abbrev pub path_of : List ℕ → List ℕ
path_of target = before (position (λ byte. byte == 63) target) target

abbrev pub query_of : List ℕ → List ℕ
query_of target = behind (position (λ byte. byte == 63) target) target

-- a path that has GET alone
abbrev pub by_get : List ℕ → Route → Result Route NoRoute
by_get method route = if bytes_eq method (codes "GET") then Ok route else Err (Method Get)

-- the path of edits
abbrev pub by_edit : List ℕ → Result Route NoRoute
by_edit method =
    if bytes_eq method (codes "POST") then Ok (Edit edits.Add)
    else (if bytes_eq method (codes "PUT") then Ok (Edit edits.Replace)
    else (if bytes_eq method (codes "DELETE") then Ok (Edit edits.Remove) else Err (Method Edits)))

-- the path of the style, which has PUT alone
abbrev pub by_style : List ℕ → Result Route NoRoute
by_style method = if bytes_eq method (codes "PUT") then Ok (Edit edits.Restyle) else Err (Method Put)

-- what a method and a path ask for
abbrev pub route_of : List ℕ → List ℕ → Result Route NoRoute
route_of method path =
    if bytes_eq path (codes "/view") then by_get method (Read reads.View)
    else (if bytes_eq path (codes "/svg") then by_get method (Read reads.Svg)
    else (if bytes_eq path (codes "/why") then by_get method (Read reads.Why)
    else (if bytes_eq path (codes "/map") then by_get method (Read reads.Map)
    else (if bytes_eq path (codes "/rev") then by_get method (Read reads.Rev)
    else (if bytes_eq path (codes "/state") then by_get method (Read reads.State)
    else (if bytes_eq path (codes "/tile") then by_get method Tile
    else (if bytes_eq path (codes "/feature") then by_edit method
    else (if bytes_eq path (codes "/style") then by_style method
    else Err Path))))))))

-- the text of a name or a value: `+` is a space, escapes are decoded, and what is not UTF-8 becomes U+FFFD
abbrev pub text_of : List ℕ → List ℕ
text_of bytes = utf8_lossy (decode bytes)

abbrev pub text_pair : List ℕ × List ℕ → List ℕ × List ℕ
text_pair p = (text_of p.0, text_of p.1)

-- the names and values of the query, in order
abbrev pub query_pairs : List ℕ → List (List ℕ × List ℕ)
query_pairs query = map text_pair (raw_pairs query)

-- what a pair of texts is
abbrev pub pair_bytes : CowStr Global × CowStr Global → List ℕ × List ℕ
pair_bytes p = (cow_str_bytes p.0, cow_str_bytes p.1)

-- the values of this name, in order
abbrev pub named : List ℕ → List (List ℕ × List ℕ) → List (List ℕ)
named name pairs = map (λ p. p.1) (filter (λ p. bytes_eq p.0 name) pairs)

abbrev pub first : List (List ℕ) → Option (List ℕ)
first [] = None
first (value ∷ rest) = Some value

-- the value of a name that stands once; none where it is missing or stands twice
abbrev pub sole : List (List ℕ) → Option (List ℕ)
sole values = if length values == 1 then first values else None

-- the same as a word, where an empty word is never a good one
abbrev pub word_of : List ℕ → List (List ℕ × List ℕ) → List ℕ
word_of name pairs = unwrap_or (sole (named name pairs)) []

-- the view that a query asks for, or the place of the first name that is missing, stands twice or is wrong
abbrev pub IsViewAsked : List (List ℕ × List ℕ) → Result View ℕ → Type 0
IsViewAsked pairs result =
    MatchResult result
    (WritesView (word_of (codes "cx") pairs) (word_of (codes "cy") pairs) (word_of (codes "w") pairs) (word_of (codes "h") pairs) (word_of (codes "s") pairs))
    (IsFirstBad (word_of (codes "cx") pairs) (word_of (codes "cy") pairs) (word_of (codes "w") pairs) (word_of (codes "h") pairs) (word_of (codes "s") pairs))

-- the tile that a query asks for, or the place of the first name that is missing, stands twice or is wrong
abbrev pub IsTileAsked : List (List ℕ × List ℕ) → Result TileKey ℕ → Type 0
IsTileAsked pairs result =
    MatchResult result
    (WritesTile (word_of (codes "z") pairs) (word_of (codes "i") pairs) (word_of (codes "j") pairs))
    (IsFirstBadWord (word_of (codes "z") pairs) (word_of (codes "i") pairs) (word_of (codes "j") pairs))

-- the revision that one to sixteen digits write; no other text is one
abbrev pub revision : List ℕ → Option ℕ
revision text = number_up_to 16 text

-- the revision that a query gives: none without the name, and none that stands twice or is no number
abbrev pub revision_in : List (List ℕ) → Option (Option ℕ)
revision_in [] = Some None
revision_in (value ∷ []) = option_map Some (revision value)
revision_in (value ∷ other ∷ rest) = None

-- the id that a query gives: none where it is missing or stands twice
abbrev pub id_in : List (List ℕ × List ℕ) → Option (List ℕ)
id_in pairs = sole (named (codes "id") pairs)
