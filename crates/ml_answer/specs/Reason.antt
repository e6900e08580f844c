-- The data of a reason why a feature has no label, and its text.
use Rattle.std.specs.Prelude.{ℕ, List, codes}
use Rattle.serde_json.specs.Data.{Data, string, object, member, no_members}
use Rattle.serde_json.specs.Written.{compact_text}
use Rattle.ml_label.specs.declared.reason.Reason.{Reason}
use Rattle.ml_label.specs.declared.reason.Reason.TheVariants.{NoGeometry, NoClass, NoName, TooWide}

-- the name of a reason
abbrev pub reason_word : Reason → List ℕ
reason_word NoGeometry = codes "NoGeometry"
reason_word NoClass = codes "NoClass"
reason_word NoName = codes "NoName"
reason_word TooWide = codes "TooWide"

-- why a feature has no label: its id, and the reason
abbrev pub reason_data : List ℕ → Reason → Data
reason_data id reason =
    object (member (codes "id") (string id)
    (member (codes "reason") (string (reason_word reason)) no_members))

-- the text of a reason, with no space
abbrev pub reason_text : List ℕ → Reason → List ℕ
reason_text id reason = compact_text (reason_data id reason)
