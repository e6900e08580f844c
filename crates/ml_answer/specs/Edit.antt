-- The data of an edit and of a revision, and their texts.
use Rattle.std.specs.Prelude.{ℕ, List, [], ◌∷◌, Option, None, Some, codes, map}
use Rattle.serde_json.specs.Data.{Data, unsigned, null, number, string, array, object, member, no_members}
use Rattle.serde_json.specs.View.{items_of}
use Rattle.serde_json.specs.Written.{compact_text}
use Rattle.ml_ratio.specs.Ratio.{ratio_text}
use Rattle.ml_cone.specs.declared.slot.Span.{Span}
use Rattle.ml_watch.specs.declared.change.Change.{Change}

-- a span of scales: where it begins and where it ends, and null where there is none
abbrev pub span_data : Option Span → Data
span_data None = null
span_data (Some span) = array (items_of (string (ratio_text span.min) ∷ string (ratio_text span.until) ∷ []))

-- a change: the span after the edit, the span before it, and the id
abbrev pub change_data : Change → Data
change_data change =
    object (member (codes "after") (span_data change.after)
    (member (codes "before") (span_data change.before)
    (member (codes "id") (string change.id) no_members)))

-- an edit: its changes, and the number of the revision that it made
abbrev pub edit_data : ℕ → List Change → Data
edit_data rev changes =
    object (member (codes "changes") (array (items_of (map change_data changes)))
    (member (codes "rev") (number (unsigned rev)) no_members))

-- the text of an edit, with no space
abbrev pub edit_text : ℕ → List Change → List ℕ
edit_text rev changes = compact_text (edit_data rev changes)

-- a revision: how many features and labels it has, and its number
abbrev pub rev_data : ℕ → ℕ → ℕ → Data
rev_data rev features labels =
    object (member (codes "features") (number (unsigned features))
    (member (codes "labels") (number (unsigned labels))
    (member (codes "rev") (number (unsigned rev)) no_members)))

-- the text of a revision, with no space
abbrev pub rev_text : ℕ → ℕ → ℕ → List ℕ
rev_text rev features labels = compact_text (rev_data rev features labels)
