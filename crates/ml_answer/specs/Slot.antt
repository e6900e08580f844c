-- The data of a label's slot, and its text.
use Rattle.std.specs.Prelude.{ℕ, List, Option, None, Some, codes}
use Rattle.serde_json.specs.Data.{Data, null, string, object, member, no_members}
use Rattle.serde_json.specs.Written.{compact_text}
use Rattle.ml_ratio.specs.Ratio.{ratio_text}
use Rattle.ml_ratio.specs.declared.ratio.Ratio.{Ratio}
use Rattle.ml_cone.specs.declared.label.Label.{Label}

-- an id, and null where there is none
abbrev pub id_data : Option (List ℕ) → Data
id_data None = null
id_data (Some id) = string id

-- a label's slot: the id of its blocker, its own id, its range of scales, and where its active range ends
abbrev pub slot_data : Label → Ratio → Option (List ℕ) → Data
slot_data label until blocker =
    object (member (codes "blocker") (id_data blocker)
    (member (codes "id") (string label.order.id)
    (member (codes "max") (string (ratio_text label.max))
    (member (codes "min") (string (ratio_text label.min))
    (member (codes "until") (string (ratio_text until)) no_members)))))

-- the text of a slot, with no space
abbrev pub slot_text : Label → Ratio → Option (List ℕ) → List ℕ
slot_text label until blocker = compact_text (slot_data label until blocker)
