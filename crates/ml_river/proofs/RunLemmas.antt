-- Runs, as a walk along a line finds them.
use Rattle.std.proofs.Common.{◌≡◌, ℕ, ◌+◌, ◌-◌, ◌<◌, ◌≤◌, List, length, inl, inr, refl, sym, ◌∙◌, subst, arith}
use Rattle.std.specs.declared.cmp.Ordering.{Ordering}
use Rattle.std.specs.declared.cmp.Ordering.TheVariants.{Less, Equal, Greater}
use Rattle.std.proofs.lemmas.Bool.{cases_order, cases_lt}
use Rattle.ml_ratio.specs.declared.geometry.Pos.{Pos}
use Rattle.ml_river.specs.Run.{step, Goes, IsStrict, IsRun, IsEndOfSteps, span}
use Rattle.ml_river.proofs.StepLemmas.{equal_span, strict_span}

-- the walk is at a place where the way turns
abbrev pub AtTurn : List Pos → ℕ → Type 0
AtTurn line a = 0 < a → a + 1 < length line → ¬ (step line (a - 1) ≡ step line a)

-- at the end of a stretch the way turns
pub turn_at_end : (line : List Pos) (a b : ℕ) → IsEndOfSteps line a b → AtTurn line b
turn_at_end line a b end some there same =
    end.stops there (sym same ∙ end.alike (b - 1) (let h = end.after in omega arith) (omega arith))

-- a strict stretch goes one way
record OneWay (line : List Pos) (a b : ℕ) : Type 0 where
  way : Ordering
  not_level : way ≡ Equal → ⊥
  goes : Goes line way a b
  back : (c d : ℕ) → Goes line way c d → IsStrict line c d

one_way : (line : List Pos) (a b : ℕ) → IsStrict line a b → OneWay line a b
one_way line a b (inl g) = record { way = Less; not_level = λ e. absurd (cc); goes = g; back = λ c d h. inl h }
one_way line a b (inr g) = record { way = Greater; not_level = λ e. absurd (cc); goes = g; back = λ c d h. inr h }

strict_from : (line : List Pos) (o : Ordering) (a b : ℕ) → (o ≡ Equal → ⊥) → Goes line o a b → IsStrict line a b
strict_from line Less a b n g = inl g
strict_from line Equal a b n g = absurd (n refl)
strict_from line Greater a b n g = inr g

-- a stretch that is not level is a run
pub run_here : (line : List Pos) (a b : ℕ) → AtTurn line a → IsEndOfSteps line a b → (step line a ≡ Equal → ⊥) → IsRun line a b
run_here line a b turn end level =
    record {
      some = end.after;
      there = end.there;
      strict = strict_from line (step line a) a b level end.alike;
      first = λ some s.
          let w = one_way line (a - 1) b s in
          let h = end.after in
          let t = end.there in
          turn some (omega arith) (w.goes (a - 1) (omega arith) (omega arith) ∙ sym (w.goes a (omega arith) (omega arith)));
      last = λ there s.
          let w = one_way line a (b + 1) s in
          let h = end.after in
          end.stops there (w.goes b (omega arith) (omega arith) ∙ sym (w.goes a (omega arith) (omega arith)));
    }

-- a run that begins in the stretch is the whole stretch
pub record IsWhole (line : List Pos) (a b m n : ℕ) : Type 0 where
  pub from_is : m ≡ a
  pub to_is : n ≡ b
  pub not_level : step line a ≡ Equal → ⊥

-- a run that begins in a stretch whose steps all go one way is that stretch
pub run_only : (line : List Pos) (a b m n : ℕ) → IsEndOfSteps line a b → IsRun line m n → a ≤ m → m < b → IsWhole line a b m n
run_only line a b m n end run am mb =
    let w = one_way line m n run.strict in
    let mn = run.some in
    let nt = run.there in
    let bt = end.there in
    let here : step line a ≡ w.way = sym (end.alike m am mb) ∙ w.goes m (omega arith) mn in
    record {
      from_is = elim (cases_order m a) [
        | inl e ↦ e
        | inr (inl l) ↦ absurd (omega arith)
        | inr (inr g) ↦ absurd (run.first (omega arith) (w.back (m - 1) n (λ k h l.
            elim (cases_lt k m) [
              | inl k' ↦ end.alike k (omega arith) (omega arith) ∙ here
              | inr k' ↦ w.goes k k' l
            ])))
      ];
      to_is = elim (cases_order n b) [
        | inl e ↦ e
        | inr (inl l) ↦ absurd (run.last (omega arith) (w.back m (n + 1) (λ k h l'.
            elim (cases_lt k n) [
              | inl k' ↦ w.goes k h k'
              | inr k' ↦ end.alike k (omega arith) (omega arith) ∙ here
            ])))
        | inr (inr g) ↦ absurd (end.stops (omega arith) (w.goes b (omega arith) g ∙ sym here))
      ];
      not_level = λ e. w.not_level (sym here ∙ e);
    }

-- the ends of a level stretch do not lie apart
pub level_span : (line : List Pos) (a b : ℕ) → IsEndOfSteps line a b → step line a ≡ Equal → span line a b ≡ 0
level_span line a b end e = equal_span line a b end.after (subst (λ (o : Ordering). Goes line o a b) e end.alike)

-- those of a run do
pub run_span : (line : List Pos) (a b : ℕ) → IsRun line a b → 0 < span line a b
run_span line a b run = strict_span line a b run.some run.strict
