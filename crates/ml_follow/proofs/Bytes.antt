-- Which bytes the words of a state's text have, and how they part it.
use Rattle.std.proofs.Common.{◌≡◌, ℕ, zero, suc, ◌+◌, ◌%◌, ◌^◌, ◌<◌, ◌≤◌, eqb, true, false, ℤ, pos, negsuc, List, [], ◌∷◌, ◌++◌}
use Rattle.std.proofs.Common.{length, get_or, flat_map, Option, Some, None, IsUtf8, refl, ap, ◌∙◌, arith, append_assoc, append-nil}
use Rattle.std.specs.Prelude.{All, ◌==◌}
use Rattle.std.specs.Fmt.{decimal, signed_decimal}
use Rattle.std.proofs.lemmas.Bool.Decides.{nat_tests}
use Rattle.std.proofs.lemmas.Fmt.{decimal_by_steps}
use Rattle.std.proofs.lemmas.List.Splits.{slice_split_at, slice_split_none}
use Rattle.std.proofs.lemmas.Str.{IsUtf8-from_ascii}
use Rattle.std.proofs.lemmas.Str.Ascii.{IsAscii-from_all}
use Rattle.ml_ratio.specs.Lines.{parts}
use Rattle.ml_ratio.specs.Ratio.{ratio_text}
use Rattle.ml_ratio.specs.declared.ratio.Ratio.{Ratio}
use Rattle.ml_cone.specs.declared.label.BoxPx.{BoxPx}
use Rattle.ml_follow.specs.StateText.{joined, box_text, blocker_text}

-- each byte lies between two numbers
abbrev pub Within : ℕ → ℕ → List ℕ → Type 0
Within low high [] = Unit {0}
Within low high (b ∷ bs) = (low ≤ b) × (b ≤ high) × Within low high bs

-- where the bytes of two texts lie between two numbers, so do those of one behind the other
pub within_append : (low high : ℕ) (xs ys : List ℕ) → Within low high xs → Within low high ys → Within low high (xs ++ ys)
within_append low high [] ys a b = b
within_append low high (x ∷ xs) ys a b = (a.0, a.1, within_append low high xs ys a.2 b)

-- bytes that lie between two numbers lie in any wider range too
pub within_wider : (low high l h : ℕ) (xs : List ℕ) → l ≤ low → high ≤ h → Within low high xs → Within l h xs
within_wider low high l h [] e f a = tt
within_wider low high l h (x ∷ xs) e f a = (omega (arith, a.0), omega (arith, a.1), within_wider low high l h xs e f a.2)

-- the byte at any place of such a text lies between the two numbers
pub within_at : (low high : ℕ) (xs : List ℕ) (k d : ℕ) → k < length xs → Within low high xs → (low ≤ get_or xs k d) × (get_or xs k d ≤ high)
within_at low high [] k d lt a = absurd (omega (arith, lt))
within_at low high (x ∷ xs) zero d lt a = (a.0, a.1)
within_at low high (x ∷ xs) (suc k) d lt a = within_at low high xs k d (omega (arith, lt)) a.2

-- none of the bytes is one below
pub none_below : (low high c : ℕ) (xs : List ℕ) → c < low → Within low high xs → All (λ x. (x == c) ≡ false) xs
none_below low high c xs less a k d lt =
    let at = within_at low high xs k d lt a in
    let differ : c < get_or xs k d = omega (arith, at.0) in
    above c (get_or xs k d) differ
  where
    above : (c x : ℕ) → c < x → eqb x c ≡ false
    above c x h = grind (arith, nat_tests)

-- bytes that are all ASCII make a text
pub within_utf8 : (low high : ℕ) (xs : List ℕ) → high ≤ 127 → Within low high xs → IsUtf8 xs
within_utf8 low high xs h a = IsUtf8-from_ascii xs (IsAscii-from_all xs (λ k d lt. let at = within_at low high xs k d lt a in omega (arith, at.1)))

-- ---- the bytes of words

-- the decimal text of a number has digits alone
pub decimal_within : (n : ℕ) → n < 2 ^ 64 → Within 48 57 (decimal n)
decimal_within n h = decimal_by_steps (λ n ds. Within 48 57 ds) (λ n low. (omega arith, omega arith, tt))
    (λ n ds low at. within_append 48 57 ds ((48 + n % 10) ∷ []) at (omega arith, omega arith, tt)) n h

-- the number, without its sign, has a decimal text of at most ten digits
abbrev pub IsSmall : ℤ → Type 0
IsSmall (pos n) = n < 10 ^ 10
IsSmall (negsuc n) = n + 1 < 10 ^ 10

-- a number with its sign is written with bytes from `-` to `9`
pub signed_within : (z : ℤ) → IsSmall z → Within 45 57 (signed_decimal z)
signed_within (pos n) h = within_wider 48 57 45 57 (decimal n) (omega arith) (omega arith) (decimal_within n (omega arith))
signed_within (negsuc n) h = (omega arith, omega arith, within_wider 48 57 45 57 (decimal (suc n)) (omega arith) (omega arith) (decimal_within (suc n) (omega arith)))

-- a fraction is written with bytes from `/` to `9`
pub ratio_within : (r : Ratio) → Within 47 57 (ratio_text r)
ratio_within r =
    within_append 47 57 (decimal r.num) (47 ∷ decimal r.den)
    (within_wider 48 57 47 57 (decimal r.num) (omega arith) (omega arith) (decimal_within r.num (let h = r.low_num in omega arith)))
    (omega arith, omega arith, within_wider 48 57 47 57 (decimal r.den) (omega arith) (omega arith) (decimal_within r.den (let h = r.low_den in omega arith)))

-- a blocker that is the place of one of 32,768 labels at most, or none, is written with visible bytes alone
pub blocker_within : (blocker : Option ℕ) (count : ℕ) → count ≤ 32768 → ((place : ℕ) → blocker ≡ Some place → place < count) → Within 35 126 (blocker_text blocker)
blocker_within None count low h = (omega arith, omega arith, tt)
blocker_within (Some place) count low h =
    let lt : place < count = h place refl in
    within_wider 48 57 35 126 (decimal place) (omega arith) (omega arith) (decimal_within place (omega arith))

-- a box is written with bytes from `,` to `9`, so no blank and no LF is among them
pub box_within : (p : BoxPx) → IsSmall p.l → IsSmall p.b → IsSmall p.r → IsSmall p.t → Within 44 57 (box_text p)
box_within p l b r t =
    within_append 44 57 (signed_decimal p.l) _ (side p.l l) (
      omega arith,
      omega arith,
      within_append 44 57 (signed_decimal p.b) _ (side p.b b)
          (omega arith, omega arith, within_append 44 57 (signed_decimal p.r) _ (side p.r r) (omega arith, omega arith, side p.t t)),
    )
  where
    side : (z : ℤ) → IsSmall z → Within 44 57 (signed_decimal z)
    side z h = within_wider 45 57 44 57 (signed_decimal z) (omega arith) (omega arith) (signed_within z h)

-- ---- the parts of a text

same_byte : (c : ℕ) → (c == c) ≡ true
same_byte c = grind (arith, nat_tests)

-- each word has none of the byte
abbrev pub NoneIn : ℕ → List (List ℕ) → Type 0
NoneIn c [] = Unit {0}
NoneIn c (word ∷ words) = All (λ x. (x == c) ≡ false) word × NoneIn c words

-- words that have none of the separator, joined by it, are parted into the same words
pub parts_joined : (c : ℕ) (word : List ℕ) (words : List (List ℕ)) → NoneIn c (word ∷ words) → parts c (joined c (word ∷ words)) ≡ word ∷ words
parts_joined c word [] h = rw (append-nil word) (slice_split_none (λ x. x == c) word h.0)
parts_joined c word (next ∷ words) h =
    slice_split_at (λ x. x == c) word c (next ++ flat_map (λ (w : List ℕ). c ∷ w) words) h.0 (same_byte c)
    ∙ ap (λ (ws : List (List ℕ)). word ∷ ws) (parts_joined c next words h.1)

-- a line without an LF inside, and LF behind it, is the first part of a text; the rest is parted as it is alone
pub parts_line : (line rest : List ℕ) → All (λ x. (x == 10) ≡ false) line → parts 10 ((line ++ 10 ∷ []) ++ rest) ≡ line ∷ parts 10 rest
parts_line line rest h = ap (parts 10) (append_assoc line (10 ∷ []) rest) ∙ slice_split_at (λ x. x == 10) line 10 rest h refl
