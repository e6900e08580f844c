-- Where the stack plays no part, the depth does not grow.
use Rattle.std.proofs.Common.{◌≡◌, ℕ, ◌≤◌, List, false, ◌==◌, ◌||◌, Option, Some, None, Result, Ok, Err, refl, sym, ◌∙◌, subst, arith, inl, inr}
use Rattle.std.proofs.lemmas.Bool.Decides.{eqb_tells}
use Rattle.ml_json.specs.Machine.{Mode, Frame, State, step, open_of}
use Rattle.ml_json.specs.Depth.{outside, inside, behind_backslash, Seen, see}
use Rattle.ml_json.specs.State.{Goes, Steps, mode_of, frames_of}
use Rattle.ml_json.specs.declared.state.Mode.{Mode as CodeMode}
use Rattle.ml_json.specs.declared.state.Frame.{Frame as CodeFrame}
use Rattle.ml_json.specs.declared.state.Stop.{Stop}
use Rattle.ml_json.specs.declared.state.Stop.TheVariants as stops
use Rattle.ml_json.proofs.RunsRead.{by_cases}
use Rattle.ml_json.proofs.DepthRuns.{Sees, place_of, step_sees}

inside_le : (d b : ℕ) → (see inside d b).1 ≤ d
inside_le d b = by_cases (λ (x : Seen). x.1 ≤ d) (b == 34) _ _ (λ _. omega arith) (λ _. by_cases (λ (x : Seen). x.1 ≤ d) (b == 92) _ _ (λ _. omega arith) (λ _. omega arith))

outside_le : (d b : ℕ) → ((b == 91) || (b == 123)) ≡ false → (see outside d b).1 ≤ d
outside_le d b h =
    by_cases (λ (x : Seen). x.1 ≤ d) (b == 34) _ _ (λ _. omega arith)
    (λ _. rw h (by_cases (λ (x : Seen). x.1 ≤ d) ((b == 93) || (b == 125)) _ _ (λ _. omega arith) (λ _. omega arith)))

-- behind a step by the byte no more lists and maps are open than before it
abbrev pub Quiet : Mode → List Frame → ℕ → Type 0
Quiet m st b = (x : State) → step m st b ≡ Some x → open_of x.0 x.1 ≤ open_of m st

saw : (m : Mode) (st : List Frame) (b : ℕ) (x : State) → step m st b ≡ Some x → see (place_of m) (open_of m st) b ≡ (place_of x.0, open_of x.0 x.1)
saw m st b x h = subst (Sees (place_of m) (open_of m st) b) h (step_sees m st b)

-- so it is with each byte inside a string
pub inside_quiet : (m : Mode) (st : List Frame) (b : ℕ) → place_of m ≡ inside → Quiet m st b
inside_quiet m st b e x h =
    let s : see inside (open_of m st) b ≡ (place_of x.0, open_of x.0 x.1) = subst (λ w. see w (open_of m st) b ≡ (place_of x.0, open_of x.0 x.1)) e (saw m st b x h) in
    subst (λ (y : Seen). y.1 ≤ open_of m st) s (inside_le (open_of m st) b)

-- so it is with each byte behind a backslash
pub behind_quiet : (m : Mode) (st : List Frame) (b : ℕ) → place_of m ≡ behind_backslash → Quiet m st b
behind_quiet m st b e x h =
    let s : see behind_backslash (open_of m st) b ≡ (place_of x.0, open_of x.0 x.1) = subst (λ w. see w (open_of m st) b ≡ (place_of x.0, open_of x.0 x.1)) e (saw m st b x h) in
    let le : open_of m st ≤ open_of m st = omega arith in
    subst (λ (y : Seen). y.1 ≤ open_of m st) s le

bracket : (b : ℕ) (P : ℕ → Type 0) → P 91 → P 123 → (((b == 91) || (b == 123)) ≡ false → P b) → P b
bracket b P h k f = elim (eqb_tells b 91) [
  | inl x ↦ subst P (sym x.1) h
  | inr x ↦ elim (eqb_tells b 123) [ inl y ↦ subst P (sym y.1) k | inr y ↦ f (rw (x.0, y.0) refl) ]
]

-- so it is outside strings, where neither an opening bracket nor an opening brace makes a step
pub outside_quiet : (m : Mode) (st : List Frame) (b : ℕ) → place_of m ≡ outside → step m st 91 ≡ None → step m st 123 ≡ None → Quiet m st b
outside_quiet m st b e h k =
    bracket b (Quiet m st) (λ x f. absurd (cc)) (λ x f. absurd (cc))
    (λ other x f.
    let s : see outside (open_of m st) b ≡ (place_of x.0, open_of x.0 x.1) = subst (λ w. see w (open_of m st) b ≡ (place_of x.0, open_of x.0 x.1)) e (saw m st b x f) in
    subst (λ (y : Seen). y.1 ≤ open_of m st) s (outside_le (open_of m st) b other))

-- the reader's step by such a byte, in which the stack plays no part, is the machine's at this stack
pub goes_steps : (r : Result CodeMode Stop) (m : Mode) (xs : List CodeFrame) (b : ℕ) (f : List Frame → Option State) → Goes r f → f (frames_of xs) ≡ step m (frames_of xs) b → Quiet m (frames_of xs) b
    → open_of m (frames_of xs) ≤ 64 → Steps r xs (step m (frames_of xs) b)
goes_steps (Ok n) m xs b f g e q le = let h = sym e ∙ g (frames_of xs) in (h, let k = q (mode_of n, frames_of xs) h in omega arith)
goes_steps (Err stops.Memory) m xs b f g e q le = tt
goes_steps (Err stops.NotJson) m xs b f g e q le = sym e ∙ g (frames_of xs)
goes_steps (Err stops.Deep) m xs b f g e q le = absurd g
