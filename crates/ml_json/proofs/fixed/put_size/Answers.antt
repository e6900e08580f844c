use Rattle.std.proofs.Common.{◌≡◌, ℕ, ◌+◌, ◌/◌, ◌%◌, List, [], ◌∷◌, ◌++◌, ◌∙◌, refl, ap, arith, Result, Ok, Err, OnOk, if◌then◌else◌}
use Rattle.std.specs.Fmt.{decimal}
use Rattle.std.specs.Result.{is_ok}
use Rattle.ml_json.specs.Fixed.{last_digits}
use Rattle.ml_json.proofs.FixedLemmas.{joined_text}
use Rattle.ml_json.proofs.fixed.put_size.Goals as goal

-- what is put down in one go is there where that went well
on_ok : {T E : Type 0} (r : Result T E) (after whole before : List ℕ) (Q : Type 0) → after ≡ (if is_ok r then whole else before) →
    (after ≡ whole → Q) → OnOk r Q
on_ok (Ok x) after whole before Q e f = f e
on_ok (Err x) after whole before Q e f = tt

-- the seven digits, from the first on
seven : (n : ℕ) → last_digits 7 n ≡
    (48 + n / 1000000 % 10) ∷ (48 + n / 100000 % 10) ∷ (48 + n / 10000 % 10) ∷ (48 + n / 1000 % 10)
    ∷ (48 + n / 100 % 10) ∷ (48 + n / 10 % 10) ∷ (48 + n % 10) ∷ []
unfolding last_digits
seven n = let one : n / 1 ≡ n = omega arith in rw one refl

pub returns : goal.returns
returns c =
    let out = c.args.out.now.items in
    let size = c.args.size in
    let d =
    (c.last_digit.result ∷ c.last_digit-2.result ∷ c.last_digit-3.result ∷ c.last_digit-4.result
    ∷ c.last_digit-5.result ∷ c.last_digit-6.result ∷ c.last_digit-7.result ∷ []) in
    let digits : d ≡ last_digits 7 size = rw (
      c.last_digit.ensures,
      c.last_digit-2.ensures,
      c.last_digit-3.ensures,
      c.last_digit-4.ensures,
      c.last_digit-5.ensures,
      c.last_digit-6.ensures,
      c.last_digit-7.ensures,
      seven size,
    ) refl in
    let whole : c.as_bytes.result.now ≡ decimal (size / 10000000) = c.as_bytes.ensures.value ∙ c.format.ensures.text in
    let front : c.extend_from_slice.new.self.items ≡ out ++ decimal (size / 10000000) =
    c.in_ok-extend_from_slice.ensures.items ∙ ap (λ s. out ++ s) whole in
    on_ok c.extend_from_slice-2.result _ _ _ _ c.extend_from_slice-2.ensures.items
    (λ h. h ∙ ap (λ s. s ++ 46 ∷ d) front ∙ joined_text out size d digits)
