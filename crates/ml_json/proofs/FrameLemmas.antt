-- The reader's stack.
use Rattle.std.proofs.Common.{◌≡◌, ◌≤◌, ◌+◌, ◌-◌, ℕ, suc, List, [], ◌∷◌, ◌++◌, length, Some, None, refl, sym, ap, subst, inl, inr, arith}
use Rattle.std.specs.Prelude.{slice_get}
use Rattle.ml_json.specs.Machine as m
use Rattle.ml_json.specs.State.{frames_of, frames_on, frame_of}
use Rattle.ml_json.specs.Machine.{open_of}
use Rattle.ml_json.specs.Tree.{Tree, list, map, put}
use Rattle.ml_json.specs.Leaps.{TakesByte}
use Rattle.ml_json.specs.declared.state.Frame.{Frame}

on_length : (below : List m.Frame) (xs : List Frame) → length (frames_on below xs) ≡ length xs + length below
on_length below [] = omega arith
on_length below (x ∷ xs) = let h = on_length (frame_of x ∷ below) xs in omega arith

-- the machine's stack is as high as the reader's
pub frames_length : (xs : List Frame) → length (frames_of xs) ≡ length xs
unfolding frames_of
frames_length xs = let h = on_length [] xs in omega arith

on_push : (below : List m.Frame) (xs : List Frame) (x : Frame) → frames_on below (xs ++ x ∷ []) ≡ frame_of x ∷ frames_on below xs
on_push below [] x = refl
on_push below (y ∷ xs) x = on_push (frame_of y ∷ below) xs x

-- a frame that is pushed at the end becomes the innermost
pub frames_push : (xs : List Frame) (x : Frame) → frames_of (xs ++ x ∷ []) ≡ frame_of x ∷ frames_of xs
unfolding frames_of
frames_push xs x = on_push [] xs x

top_on : (below : List m.Frame) (xs : List Frame) (x : Frame) → slice_get xs (length xs - 1) ≡ Some x → (under : List m.Frame) × (frames_on below xs ≡ frame_of x ∷ under)
top_on below [] x e = cc
top_on below (y ∷ []) x e = let same : y ≡ x = cc (e) in (below, ap (λ (f : Frame). frame_of f ∷ below) same)
top_on below (y ∷ z ∷ zs) x e =
    let k : length (y ∷ z ∷ zs) - 1 ≡ suc (length (z ∷ zs) - 1) = omega arith in
    top_on (frame_of y ∷ below) (z ∷ zs) x (subst (λ (i : ℕ). slice_get (y ∷ z ∷ zs) i ≡ Some x) k e)

-- the last frame is the innermost
pub frames_top : (xs : List Frame) (x : Frame) → slice_get xs (length xs - 1) ≡ Some x → (under : List m.Frame) × (frames_of xs ≡ frame_of x ∷ under)
unfolding frames_of
frames_top xs x e = top_on [] xs x e

has_top : (x : Frame) (xs : List Frame) → ¬ (slice_get (x ∷ xs) (length (x ∷ xs) - 1) ≡ None)
has_top x [] e = cc (e)
has_top x (y ∷ ys) e =
    let k : length (x ∷ y ∷ ys) - 1 ≡ suc (length (y ∷ ys) - 1) = omega arith in
    has_top y ys (subst (λ (i : ℕ). slice_get (x ∷ y ∷ ys) i ≡ None) k e)

-- without a last frame there is none
pub frames_none : (xs : List Frame) → slice_get xs (length xs - 1) ≡ None → frames_of xs ≡ []
unfolding frames_of
frames_none [] e = refl
frames_none (x ∷ xs) e = absurd (has_top x xs e)

-- a byte that the innermost list or map takes leads on, and no more lists and maps are open then
pub taken_step : (v : Tree) (st : List m.Frame) (b : ℕ) → TakesByte st b → length st ≤ 64 → (y : m.State) × (m.after_step v st b ≡ Some y) × (open_of y.0 y.1 ≤ 64)
unfolding open_of
taken_step v [] b taken le = absurd taken
taken_step v (m.in_list ws ∷ st) b (inl e) le =
    ((m.value, m.in_list (m.snoc ws v) ∷ st), subst (λ (n : ℕ). m.after_step v (m.in_list ws ∷ st) n ≡ Some (m.value, m.in_list (m.snoc ws v) ∷ st)) (sym e) refl, omega (arith, le))
taken_step v (m.in_list ws ∷ st) b (inr e) le =
    ((m.after (list (m.snoc ws v)), st), subst (λ (n : ℕ). m.after_step v (m.in_list ws ∷ st) n ≡ Some (m.after (list (m.snoc ws v)), st)) (sym e) refl, omega (arith, le))
taken_step v (m.at_key ps k ∷ st) b (inl e) le =
    ((m.key (put k v ps), st), subst (λ (n : ℕ). m.after_step v (m.at_key ps k ∷ st) n ≡ Some (m.key (put k v ps), st)) (sym e) refl, omega (arith, le))
taken_step v (m.at_key ps k ∷ st) b (inr e) le =
    ((m.after (map (put k v ps)), st), subst (λ (n : ℕ). m.after_step v (m.at_key ps k ∷ st) n ≡ Some (m.after (map (put k v ps)), st)) (sym e) refl, omega (arith, le))
