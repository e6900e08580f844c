-- What is put down part by part is the text of a label, of an edit, and of a revision.
use Rattle.std.proofs.Common.{◌≡◌, ℕ, ◌+◌, ◌/◌, ◌%◌, ◌^◌, ◌<◌, ◌≤◌, ℤ, pos, negsuc, unsigned_abs}
use Rattle.std.proofs.Common.{sym, Bool, true, false, List, [], ◌∷◌, ◌++◌, map, refl, ap, ◌∙◌, append_assoc, arith}
use Rattle.std.proofs.lemmas.Fmt.{decimal_digit, decimal_is_IsNumeral, decimal_step}
use Rattle.std.proofs.lemmas.Grind.{flat_map-append}
use Rattle.std.proofs.lemmas.Str.Parse.{digit_from_value}
use Rattle.std.specs.Fmt.{decimal}
use Rattle.std.specs.Str.Parse.{AllDigits}
use Rattle.json.proofs.Printed.Strings.{escape_byte_plain}
use Rattle.json.specs.Print.{escape_byte, escape}
use Rattle.serde_json.proofs.OnLiterals.{serde_json_on_literals}
use Rattle.serde_json.specs.Data.{number}
use Rattle.serde_json.specs.Find.{of_integer}
use Rattle.serde_json.specs.View.{items_of}
use Rattle.serde_json.specs.Written.{comma_if, compact_text, items_text}
use Rattle.ml_ratio.specs.Ratio.{ratio_text}
use Rattle.ml_ratio.specs.declared.ratio.Ratio.{Ratio}
use Rattle.ml_cone.specs.declared.label.BoxPx.{BoxPx}
use Rattle.ml_cone.specs.declared.label.Label.{Label}
use Rattle.ml_watch.specs.declared.change.Change.{Change}
use Rattle.ml_answer.specs.Edit.{change_data, edit_text, rev_text}
use Rattle.ml_answer.specs.Layout.{box_text, boxes_text, anchor_text, names_text, until_text, label_text, change_text, edit_layout, rev_layout}
use Rattle.ml_answer.specs.Px.{sign_text}
use Rattle.ml_answer.specs.Values.{box_data}
use Rattle.ml_answer.specs.View.{shown_text}

-- digits need no escape
escape_digits : (ds : List ℕ) → AllDigits 10 ds → escape ds ≡ ds
escape_digits [] are = refl
escape_digits (d ∷ ds) are =
    let is = digit_from_value d are.0 in
    λ i. escape_byte_plain d (λ e. omega (arith, is)) (λ e. omega (arith, is)) (omega (arith, is)) i ++ escape_digits ds are.1 i

escape_decimal : (n : ℕ) → n < 2 ^ 64 → escape (decimal n) ≡ decimal n
escape_decimal n low = escape_digits (decimal n) (decimal_is_IsNumeral n low).0.1

-- nor does a fraction
pub escape_ratio : (r : Ratio) → escape (ratio_text r) ≡ ratio_text r
escape_ratio r =
    let slash : escape_byte 47 ≡ 47 ∷ [] = escape_byte_plain 47 (λ e. omega arith) (λ e. omega arith) (omega arith) in
    flat_map-append escape_byte (decimal r.num) (47 ∷ decimal r.den)
    ∙ (λ i. escape_decimal r.num (omega (arith, r.low_num)) i ++ (slash i ++ escape_decimal r.den (omega (arith, r.low_den)) i))

-- a whole number is a sign and digits
pub number_is : (z : ℤ) → sign_text z ++ decimal (unsigned_abs z) ≡ compact_text (number (of_integer z))
number_is (pos n) = refl
number_is (negsuc n) = refl

-- the digits of a number that has two
pub two_digits_are : (n : ℕ) → 10 ≤ n → n < 100 → decimal (n / 10) ++ decimal (n % 10) ≡ decimal n
two_digits_are n least most =
    let step : decimal n ≡ decimal (n / 10) ++ (48 + n % 10) ∷ [] = decimal_step n least (omega (arith, most)) in
    ap (λ t. decimal (n / 10) ++ t) (decimal_digit (n % 10) (omega arith)) ∙ sym step

-- boxes are the items of a list
box_is : (p : BoxPx) → box_text p ≡ compact_text (box_data p)
box_is p = simp append_assoc

boxes_are : (later : Bool) (boxes : List BoxPx) → boxes_text later boxes ≡ items_text later (items_of (map box_data boxes))
boxes_are later [] = refl
boxes_are later (p ∷ boxes) = λ i. comma_if later ++ (box_is p i ++ boxes_are true boxes i)

-- the parts of a label are its members
members_are : (label : Label) (until : Ratio) → anchor_text label ++ (items_text false (items_of (map box_data label.boxes)) ++ (names_text label ++ until_text until)) ≡ shown_text label until
unfolding serde_json_on_literals
members_are label until = simp append_assoc

-- so what is put down for a label is its text
pub label_is : (label : Label) (until : Ratio) → label_text label until ≡ shown_text label until
label_is label until =
    ap (λ t. anchor_text label ++ (t ++ (names_text label ++ until_text until))) (boxes_are false label.boxes)
    ∙ members_are label until

-- the parts of a change are its members
pub change_is : (change : Change) → change_text change ≡ compact_text (change_data change)
unfolding serde_json_on_literals
change_is change = simp append_assoc

-- the parts of an edit are its members
pub edit_is : (rev : ℕ) (changes : List Change) → edit_layout rev changes ≡ edit_text rev changes
unfolding serde_json_on_literals
edit_is rev changes = simp append_assoc

-- the parts of a revision are its members
pub rev_is : (rev features labels : ℕ) → rev_layout rev features labels ≡ rev_text rev features labels
unfolding serde_json_on_literals
rev_is rev features labels = simp append_assoc
