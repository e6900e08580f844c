-- Members of a JSON map by their keys.
use Rattle.std.specs.Prelude.{ℕ, List, Bool, false, Option, Some, None, if◌then◌else◌}
use Rattle.std.specs.Str.{bytes_eq}
use Rattle.ml_json.specs.Tree.{Tree, str, Pairs, no_pairs, pair}

-- the value of a member
abbrev pub member : List ℕ → Pairs → Option Tree
member key no_pairs = None
member key (pair k v ps) = if bytes_eq k key then Some v else member key ps

-- whether the value is this text
abbrev pub is_text : List ℕ → Option Tree → Bool
is_text text (Some (str s)) = bytes_eq s text
is_text text value = false
