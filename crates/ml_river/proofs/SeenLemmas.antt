-- The best run so far, as the walk goes on.
use Rattle.std.proofs.Common.{◌≡◌, ℕ, ◌+◌, ◌<◌, ◌≤◌, ◌⊎◌, List, length, cond, Option, Some, None, MatchOption, ltb, inl, inr, sym, ap, ◌∙◌, subst, arith}
use Rattle.std.proofs.lemmas.Bool.{cases_lt, ltb-true, ltb-false, cases_Bool}
use Rattle.ml_ratio.specs.declared.geometry.Pos.{Pos}
use Rattle.ml_river.specs.declared.runs.Run.{Run}
use Rattle.ml_river.specs.Run.{IsRun, IsEndOfSteps, span, line_at, IsRunOf, IsBefore, IsWidestRun, HasNoRun}
use Rattle.ml_river.specs.Seen.{extent_of, IsBestBefore}
use Rattle.ml_river.proofs.RunLemmas.{AtTurn, IsWhole, run_here, run_only, run_span, level_span}

-- what begins before b begins before a or is the stretch from a to b
seen : (lines : List (List Pos)) (i a b k m n : ℕ) → IsEndOfSteps (line_at lines i) a b → IsRunOf lines k m n → IsBefore k m i b → IsBefore k m i a ⊎ ((k ≡ i) × IsWhole (line_at lines i) a b m n)
seen lines i a b k m n end run (inl before) = inl (inl before)
seen lines i a b k m n end run (inr (same, mb)) =
    elim (cases_lt m a) [
      | inl ma ↦ inl (inr (same, ma))
      | inr am ↦ inr (same, run_only (line_at lines i) a b m n end (subst (λ (j : ℕ). IsRun (line_at lines j) m n) same run.1) am mb)
    ]

whole_span : (lines : List (List Pos)) (i a b k m n : ℕ) → k ≡ i → IsWhole (line_at lines i) a b m n → span (line_at lines k) m n ≡ span (line_at lines i) a b
whole_span lines i a b k m n e w =
    ap (λ (j : ℕ). span (line_at lines j) m n) e ∙ (ap (λ (j : ℕ). span (line_at lines i) j n) w.from_is ∙ ap (λ (j : ℕ). span (line_at lines i) a j) w.to_is)

-- a run that is the stretch is wider than nothing
whole_some : (lines : List (List Pos)) (i a b k m n : ℕ) → k ≡ i → IsWhole (line_at lines i) a b m n → IsRunOf lines k m n → 0 < span (line_at lines i) a b
whole_some lines i a b k m n e w run = subst (λ (s : ℕ). 0 < s) (whole_span lines i a b k m n e w) (run_span (line_at lines k) m n run.1)

-- the walk goes on past a stretch that is no wider than the best
pub best_keeps : (lines : List (List Pos)) (i a b : ℕ) (best : Option Run) → IsEndOfSteps (line_at lines i) a b →
    IsBestBefore lines i a best → span (line_at lines i) a b ≤ extent_of best → IsBestBefore lines i b best
best_keeps lines i a b None end none h = λ k m n run before.
    elim (seen lines i a b k m n end run before) [
      | inl earlier ↦ none k m n run earlier
      | inr w ↦ absurd (let p = whole_some lines i a b k m n w.0 w.1 run in omega arith)
    ]
best_keeps lines i a b (Some r) end best h =
    record {
      is_run = best.is_run;
      span_is = best.span_is;
      widest = λ k m n run before.
          elim (seen lines i a b k m n end run before) [
            | inl earlier ↦ best.widest k m n run earlier
            | inr w ↦ (let e = whole_span lines i a b k m n w.0 w.1 in omega arith)
          ];
      first = best.first;
    }

bound_before : (lines : List (List Pos)) (i a : ℕ) (best : Option Run) (s k m n : ℕ) → IsBestBefore lines i a best →
    extent_of best < s → IsRunOf lines k m n → IsBefore k m i a → span (line_at lines k) m n < s
bound_before lines i a None s k m n none h run before = absurd (none k m n run before)
bound_before lines i a (Some r) s k m n best h run before = let w = best.widest k m n run before in omega arith

-- it takes one that is wider
pub best_takes : (lines : List (List Pos)) (i a b s : ℕ) (best : Option Run) → i < length lines → AtTurn (line_at lines i) a →
    IsEndOfSteps (line_at lines i) a b → s ≡ span (line_at lines i) a b → IsBestBefore lines i a best →
    extent_of best < s → IsBestBefore lines i b (Some (record { line = i; from = a; to = b; span = s }))
best_takes lines i a b s best there turn end is before h =
    record {
      is_run = (there, run_here (line_at lines i) a b turn end (λ level. let z = level_span (line_at lines i) a b end level in omega arith));
      span_is = is;
      widest = λ k m n run earlier.
          elim (seen lines i a b k m n end run earlier) [
            | inl e ↦ (let w = bound_before lines i a best s k m n before h run e in omega arith)
            | inr w ↦ (let e = whole_span lines i a b k m n w.0 w.1 in omega arith)
          ];
      first = λ k m n run earlier. bound_before lines i a best s k m n before h run earlier;
    }

-- the better of the best and the stretch
pub best_more : (lines : List (List Pos)) (i a b s : ℕ) (best new : Option Run) → i < length lines → AtTurn (line_at lines i) a →
    IsEndOfSteps (line_at lines i) a b → s ≡ span (line_at lines i) a b → IsBestBefore lines i a best →
    new ≡ cond (ltb (extent_of best) s) (Some (record { line = i; from = a; to = b; span = s })) best → IsBestBefore lines i b new
best_more lines i a b s best new there turn end is before e =
    elim (cases_Bool (ltb (extent_of best) s)) [
      | inl t ↦
          let h = ltb-true (extent_of best) s t in
          let f : new ≡ Some (record { line = i; from = a; to = b; span = s }) = rw t at e in
          subst (λ (o : Option Run). IsBestBefore lines i b o) (sym f) (best_takes lines i a b s best there turn end is before h)
      | inr t ↦
          let h = ltb-false (extent_of best) s t in
          let f : new ≡ best = rw t at e in
          subst (λ (o : Option Run). IsBestBefore lines i b o) (sym f) (best_keeps lines i a b best end before (rw (← is) h))
    ]

-- at the end of a line all its runs were seen
earlier : (lines : List (List Pos)) (i a k m n : ℕ) → length (line_at lines i) ≤ a + 1 → IsRunOf lines k m n → IsBefore k m (i + 1) 0 → IsBefore k m i a
earlier lines i a k m n h run (inr b) = absurd (omega (arith, b.1))
earlier lines i a k m n h run (inl b) =
    elim (cases_lt k i) [
      | inl l ↦ inl l
      | inr g ↦
          let same : k ≡ i = omega arith in
          let r = run.1 in
          let nt : n < length (line_at lines i) = subst (λ (j : ℕ). n < length (line_at lines j)) same r.there in
          let mn = r.some in
          inr (same, omega arith)
    ]

-- at the end of a line, the best run so far is the best before the next line
pub best_line : (lines : List (List Pos)) (i a : ℕ) (best : Option Run) → length (line_at lines i) ≤ a + 1 → IsBestBefore lines i a best → IsBestBefore lines (i + 1) 0 best
best_line lines i a None h none = λ k m n run before. none k m n run (earlier lines i a k m n h run before)
best_line lines i a (Some r) h best =
    record {
      is_run = best.is_run;
      span_is = best.span_is;
      widest = λ k m n run before. best.widest k m n run (earlier lines i a k m n h run before);
      first = best.first;
    }

-- at the beginning nothing was seen
pub best_start : (lines : List (List Pos)) → IsBestBefore lines 0 0 None
best_start lines k m n run (inl b) = absurd (omega arith)
best_start lines k m n run (inr b) = absurd (omega (arith, b.1))

-- at the end all runs were seen
pub best_end : (lines : List (List Pos)) (i : ℕ) (best : Option Run) → length lines ≤ i → IsBestBefore lines i 0 best → MatchOption best (HasNoRun lines) (λ r. IsWidestRun lines r.line r.from r.to)
best_end lines i None h none = λ k m n run. none k m n run (inl (let t = run.0 in omega arith))
best_end lines i (Some r) h best =
    record {
      run = best.is_run;
      widest = λ k m n run. rw best.span_is at (best.widest k m n run (inl (let t = run.0 in omega arith)));
      first = λ k m n run before. rw best.span_is at (best.first k m n run before);
    }
