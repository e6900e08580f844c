-- How many places have a property.
use Rattle.std.proofs.Common.{◌≡◌, ◌≢◌, ℕ, ◌+◌, ◌<◌, ◌↔◌, ◌⊎◌, inl, inr, arith, refl, sym, subst, [], ◌∷◌, ◌++◌, Contains}
use Rattle.std.proofs.lemmas.List.{length_push}
use Rattle.std.proofs.lemmas.List.Elements.{Contains-append_left, Contains-push, Contains-push_cases, Contains-get_or}
use Rattle.std.proofs.lemmas.List.Quantifiers.{all_pairs_push}
use Rattle.ml_repair.specs.Size.{IsSize}
use Rattle.ml_repair.proofs.Pigeons.{as_many}

-- where no place has a property, 0 places have it
pub size_none : (P : ℕ → Type 0) → ((k : ℕ) → ¬ (P k)) → IsSize P 0
size_none P none = record {
  places = [];
  apart = λ i j d less lt. absurd (omega arith);
  just_them = λ i. (λ h. absurd (let lt : h.0 < 0 = h.1 in omega arith), λ p. absurd (none i p));
  many = refl;
}

-- where two properties hold of the same places, as many places have the one as the other
pub size_same : (P Q : ℕ → Type 0) (n : ℕ) → ((k : ℕ) → P k ↔ Q k) → IsSize P n → IsSize Q n
size_same P Q n same size = record {
  places = size.places;
  apart = size.apart;
  just_them = λ i. (λ h. (same i).0 ((size.just_them i).0 h), λ q. (size.just_them i).1 ((same i).1 q));
  many = size.many;
}

-- where a place that does not have a property joins those that do, there is one more of them
pub size_more : (P : ℕ → Type 0) (x n : ℕ) → ¬ (P x) → IsSize P n → IsSize (λ k. P k ⊎ (k ≡ x)) (n + 1)
size_more P x n new size = record {
  places = size.places ++ x ∷ [];
  apart = all_pairs_push (λ (a : ℕ) (b : ℕ). a ≢ b) size.places x size.apart (λ k d lt e. new ((size.just_them x).0 (subst (Contains size.places) e (Contains-get_or size.places k d lt))));
  just_them = λ i. (
    λ h. elim (Contains-push_cases size.places x i h) [
      | inl old ↦ inl ((size.just_them i).0 old)
      | inr same ↦ inr (sym same)
    ],
    λ h. elim h [
      | inl p ↦ Contains-append_left size.places (x ∷ []) i ((size.just_them i).1 p)
      | inr same ↦ subst (Contains (size.places ++ x ∷ [])) (sym same) (Contains-push size.places x)
    ],
  );
  many = (let m = size.many in let l = length_push size.places x in omega arith);
}

-- a property has one size
pub size_once : (P : ℕ → Type 0) (n m : ℕ) → IsSize P n → IsSize P m → n ≡ m
size_once P n m a b =
    let e = as_many a.places b.places a.apart b.apart (λ x h. (b.just_them x).1 ((a.just_them x).0 h)) (λ x h. (a.just_them x).1 ((b.just_them x).0 h)) in
    let p = a.many in let q = b.many in
    omega arith
