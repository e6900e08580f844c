-- A view drawn as SVG.
use Rattle.std.specs.Prelude.{ℕ, ℤ, pos, ◌/◌, ◌+ℤ◌, ◌-ℤ◌, ◌*ℤ◌, ◌==◌, if◌then◌else◌, List, [], ◌∷◌, ◌++◌, codes}
use Rattle.std.specs.Int.{int_div_euclid}
use Rattle.std.specs.List.{flat_map}
use Rattle.std.specs.Fmt.{decimal, signed_decimal}
use Rattle.ml_ratio.specs.declared.ratio.Ratio.{Ratio}
use Rattle.ml_cone.specs.declared.label.BoxPx.{BoxPx}
use Rattle.ml_cone.specs.declared.label.Label.{Label}
use Rattle.ml_cone.specs.declared.view.View.{View}
use Rattle.ml_answer.specs.Px.{px_text}

-- hundredths of a pixel that so many world units take at a scale in world units a pixel, rounded down
unfoldable pub hundredths : ℤ → Ratio → ℤ
hundredths units scale = int_div_euclid (pos 100 *ℤ units *ℤ pos scale.den) (pos scale.num)

-- hundredths from the view's left edge to the left edge of a label's box
abbrev pub left_px : View → Label → BoxPx → ℤ
left_px view label p = pos 100 *ℤ (pos (view.w / 2) +ℤ p.l) +ℤ hundredths (label.x -ℤ view.cx) view.scale

-- hundredths from the view's top edge down to the bottom edge of a label's box
abbrev pub bottom_px : View → Label → BoxPx → ℤ
bottom_px view label p = pos 100 *ℤ (pos (view.h / 2) -ℤ p.b) +ℤ hundredths (view.cy -ℤ label.y) view.scale

-- a byte of a text as XML has it: `&`, `<` and `>` by their names
abbrev pub escaped_byte : ℕ → List ℕ
escaped_byte byte =
    if byte == 38 then codes "&amp;" else
    if byte == 60 then codes "&lt;" else
    if byte == 62 then codes "&gt;" else byte ∷ []

-- the tag of a piece of text: the texts of where it begins, and how high and wide it is
unfoldable pub text_tag : List ℕ → List ℕ → ℤ → ℤ → List ℕ
text_tag x y height width =
    codes "<text x=\"" ++ (x ++ (codes "\" y=\"" ++ (y ++ (codes "\" font-size=\"" ++ (signed_decimal height
    ++ (codes "\" textLength=\"" ++ (signed_decimal width ++ codes "\">")))))))

-- the tag of a box of a label
abbrev pub box_tag : View → Label → BoxPx → List ℕ
box_tag view label p =
    text_tag (px_text (left_px view label p)) (px_text (bottom_px view label p)) (p.t -ℤ p.b) (p.r -ℤ p.l)

-- the line of a box and its piece of text
abbrev pub box_line : View → Label → BoxPx → List ℕ → List ℕ
box_line view label p piece = box_tag view label p ++ (flat_map escaped_byte piece ++ codes "</text>\n")

-- a line for each box with its piece of text
abbrev pub box_lines : View → Label → List BoxPx → List (List ℕ) → List ℕ
box_lines view label [] pieces = []
box_lines view label (p ∷ boxes) [] = []
box_lines view label (p ∷ boxes) (piece ∷ pieces) = box_line view label p piece ++ box_lines view label boxes pieces

-- the lines of a label
abbrev pub label_lines : View → Label → List ℕ
label_lines view label = box_lines view label label.boxes label.pieces

-- the first line: a window's width and height
unfoldable pub head_line : ℕ → ℕ → List ℕ
head_line w h =
    codes "<svg xmlns=\"http://www.w3.org/2000/svg\" width=\"" ++ (decimal w ++ (codes "\" height=\"" ++ (decimal h
    ++ (codes "\" viewBox=\"0 0 " ++ (decimal w ++ (codes " " ++ (decimal h ++ codes "\">\n")))))))

-- the last line
abbrev pub last_line : List ℕ
last_line = codes "</svg>\n"

-- a view with labels drawn as SVG
abbrev pub svg_text : View → List Label → List ℕ
svg_text view labels = (head_line view.w view.h ++ flat_map (label_lines view) labels) ++ last_line

-- a drawing to which labels are still being added: its view, and its text so far
pub record SvgViewState : Type 0 where
  pub view : View
  pub text : List ℕ
