-- The first greatest value, as a loop finds it.
use Rattle.std.proofs.Common.{◌≡◌, ℕ, ◌+◌, ◌<◌, ℤ, ◌≤ℤ◌, ◌<ℤ◌, inl, inr, subst, sym, ap, ◌∙◌, arith, true, false, FitsSigned, to_z, of_z}
use Rattle.std.specs.Prelude.{int_lt}
use Rattle.std.proofs.lemmas.Bool.{cases_order}
use Rattle.std.proofs.lemmas.Int.{ints, to_z-of_z}
use mir.Syntax.{Width}
use Rattle.ml_anchor.specs.Best.{IsFirstGreatest}

less_after : (a b c : ℤ) → a ≤ℤ b → b <ℤ c → a <ℤ c
less_after a b c h k = omega (arith, ints)

weaker : (a b : ℤ) → a <ℤ b → a ≤ℤ b
weaker a b h = omega (arith, ints)

itself : (a : ℤ) → a ≤ℤ a
itself a = omega (arith, ints)

-- the first place alone
pub best_first : (f : ℕ → ℤ) → IsFirstGreatest f 1 0
best_first f =
    record {
      there = omega arith;
      greatest = λ k h. let e : k ≡ 0 = omega arith in subst (λ (m : ℕ). f m ≤ℤ f 0) (sym e) (itself (f 0));
      first = λ k h. absurd (omega arith);
    }

-- one place more, which is no greater
pub best_keeps : (f : ℕ → ℤ) (n i : ℕ) → IsFirstGreatest f n i → f n ≤ℤ f i → IsFirstGreatest f (n + 1) i
best_keeps f n i b h =
    record {
      there = (let k = b.there in omega arith);
      greatest = λ m k. elim (cases_order m n) [
        | inl e ↦ subst (λ (j : ℕ). f j ≤ℤ f i) (sym e) h
        | inr o ↦ b.greatest m (omega (arith, o))
      ];
      first = b.first;
    }

-- one place more, which is greater
pub best_takes : (f : ℕ → ℤ) (n i : ℕ) → IsFirstGreatest f n i → f i <ℤ f n → IsFirstGreatest f (n + 1) n
best_takes f n i b h =
    let before : (k : ℕ) → k < n → f k <ℤ f n = λ k m. less_after _ _ _ (b.greatest k m) h in
    record {
      there = omega arith;
      greatest = λ m k. elim (cases_order m n) [
        | inl e ↦ subst (λ (j : ℕ). f j ≤ℤ f n) (sym e) (itself (f n))
        | inr o ↦ weaker _ _ (before m (omega (arith, o)))
      ];
      first = before;
    }

-- what the loop's test says of the two pairs
pub wider : (w : Width) (a b x y : ℤ) → FitsSigned w a → FitsSigned w b → a ≡ x → b ≡ y → int_lt (to_z w (of_z w b)) (to_z w (of_z w a)) ≡ true → y <ℤ x
wider w a b x y fa fb ea eb h = let k : int_lt b a ≡ true = simp to_z-of_z at h in grind (arith, ints)

-- where the loop's test fails, the first pair is no wider than the second
pub no_wider : (w : Width) (a b x y : ℤ) → FitsSigned w a → FitsSigned w b → a ≡ x → b ≡ y → int_lt (to_z w (of_z w b)) (to_z w (of_z w a)) ≡ false → x ≤ℤ y
no_wider w a b x y fa fb ea eb h = let k : int_lt b a ≡ false = simp to_z-of_z at h in grind (arith, ints)

-- the loop takes place n, whose value it keeps beside it
pub value_takes : (w : Width) (f : ℕ → ℤ) (n i b : ℕ) (best a r : ℤ) → FitsSigned w a → IsFirstGreatest f n i → best ≡ f i →
    a ≡ f n → int_lt best (to_z w (of_z w a)) ≡ true → b ≡ n → r ≡ to_z w (of_z w a) → IsFirstGreatest f (n + 1) b × (r ≡ f b)
value_takes w f n i b best a r fits first e k t bn rn =
    let lt : int_lt best a ≡ true = simp to_z-of_z at t in
    let less : f i <ℤ f n = grind (arith, ints) in
    (rw bn (best_takes f n i first less), rn ∙ (to_z-of_z w a fits ∙ (k ∙ ap f (sym bn))))

-- the loop keeps the place that it has
pub value_keeps : (w : Width) (f : ℕ → ℤ) (n i b : ℕ) (best a r : ℤ) → FitsSigned w a → IsFirstGreatest f n i → best ≡ f i →
    a ≡ f n → int_lt best (to_z w (of_z w a)) ≡ false → b ≡ i → r ≡ best → IsFirstGreatest f (n + 1) b × (r ≡ f b)
value_keeps w f n i b best a r fits first e k t bi rb =
    let lt : int_lt best a ≡ false = simp to_z-of_z at t in
    let less : f n ≤ℤ f i = grind (arith, ints) in
    (rw bi (best_keeps f n i first less), rb ∙ (e ∙ ap f (sym bi)))
