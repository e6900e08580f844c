-- What the reader knows behind each byte.
use Rattle.std.proofs.Common.{◌≡◌, ℕ, ◌+◌, ◌<◌, ◌≤◌, inl, inr, List, [], ◌∷◌, length, take, get_or, Option, Some, None, refl, sym, ◌∙◌, ap, subst, arith, append-nil, drop, suc, ◌-◌, length-drop}
use Rattle.std.proofs.lemmas.List.{take_more, drop_more}
use Rattle.std.proofs.Math.Seq.{take-length}
use Rattle.std.proofs.lemmas.Bool.{cases_lt}
use Rattle.ml_json.specs.Tree.{Tree}
use Rattle.ml_json.specs.Grammar.{IsGood}
use Rattle.ml_json.specs.Machine as m
use Rattle.ml_json.specs.Machine.{Mode, Frame, State, step, finish, open_of}
use Rattle.ml_json.specs.Leaps.{Passes, here, on}
use Rattle.ml_json.proofs.Runs.{reach, reaches, run, goes}
use Rattle.ml_json.specs.Depth.{depth, seen, IsShallow}
use Rattle.ml_json.specs.Answer.{IsDeep, IsNotJson, IsText}
use Rattle.ml_json.proofs.ValueRuns.{reads_runs}
use Rattle.ml_json.proofs.RunsRead.{runs_reads}
use Rattle.ml_json.proofs.Completions.{run_append, reach_append, reach_prefix, dead_prefix}
use Rattle.ml_json.proofs.DepthRuns.{reach_depth}

-- the bytes before the place lead to the state, and no 65th bracket was opened
pub record Reached (bytes : List ℕ) (at : ℕ) (x : State) : Type 0 where
  pub within : at ≤ length bytes
  pub leads : reach (take at bytes) m.begin [] ≡ Some x
  pub shallow : IsShallow bytes at

then_none : (o : Option State) → reaches (λ n st. Some (n, st)) o ≡ o
then_none None = refl
then_none (Some x) = refl

one_step : (b : ℕ) (o : Option State) → reaches (reach (b ∷ [])) o ≡ reaches (λ n st. step n st b) o
unfolding reach
one_step b None = refl
one_step b (Some x) = then_none (step x.0 x.1 b)

next_leads : (bytes : List ℕ) (at : ℕ) (x : State) → at < length bytes → reach (take at bytes) m.begin [] ≡ Some x → reach (take (at + 1) bytes) m.begin [] ≡ step x.0 x.1 (get_or bytes at 0)
next_leads bytes at x h e =
    ap (λ p. reach p m.begin []) (take_more bytes at 0 h) ∙ reach_append (take at bytes) (get_or bytes at 0 ∷ []) m.begin []
    ∙ ap (reaches (reach (get_or bytes at 0 ∷ []))) e ∙ one_step (get_or bytes at 0) (Some x)

shallow_more : (bytes : List ℕ) (at : ℕ) → IsShallow bytes at → depth (take (at + 1) bytes) ≤ 64 → IsShallow bytes (at + 1)
shallow_more bytes at h d k le = elim (cases_lt k (at + 1)) [ inl less ↦ h k (omega arith) | inr more ↦ (let e : at + 1 ≡ k = omega arith in subst (λ n. depth (take n bytes) ≤ 64) e d) ]

-- before the first byte, the machine's first state is reached
pub reached_start : (bytes : List ℕ) → Reached bytes 0 (m.begin, [])
unfolding reach seen
reached_start bytes = record { within = omega arith; leads = refl; shallow = λ k le. (let e : 0 ≡ k = omega arith in subst (λ n. depth (take n bytes) ≤ 64) e (omega arith)) }

-- a step behind which at most 64 lists and maps are open reaches the next place
pub reached_more : (bytes : List ℕ) (at : ℕ) (x y : State) → at < length bytes → Reached bytes at x → step x.0 x.1 (get_or bytes at 0) ≡ Some y → open_of y.0 y.1 ≤ 64 → Reached bytes (at + 1) y
reached_more bytes at x y h r s d =
    let leads : reach (take (at + 1) bytes) m.begin [] ≡ Some y = next_leads bytes at x h r.leads ∙ s in
    record { within = omega arith; leads = leads; shallow = shallow_more bytes at r.shallow (subst (λ n. n ≤ 64) (sym (reach_depth (take (at + 1) bytes) y leads)) d) }

-- where there is no step by the byte at the place, the bytes are no JSON there
pub stops_here : (bytes : List ℕ) (at : ℕ) (x : State) → at < length bytes → Reached bytes at x → step x.0 x.1 (get_or bytes at 0) ≡ None → IsNotJson bytes at
stops_here bytes at x h r s = record {
  within = omega arith;
  shallow = r.shallow;
  begins = reach_prefix (take at bytes) x r.leads;
  stops = inl (h, dead_prefix (take (at + 1) bytes) (next_leads bytes at x h r.leads ∙ s));
}

-- where the byte at the place opens a 65th list or map, the bytes are too deep there
pub too_deep : (bytes : List ℕ) (at : ℕ) (x y : State) → at < length bytes → Reached bytes at x → step x.0 x.1 (get_or bytes at 0) ≡ Some y → open_of y.0 y.1 ≡ 65 → IsDeep bytes at
too_deep bytes at x y h r s d =
    let leads : reach (take (at + 1) bytes) m.begin [] ≡ Some y = next_leads bytes at x h r.leads ∙ s in
    record { within = h; shallow = r.shallow; begins = reach_prefix (take (at + 1) bytes) y leads; opens = reach_depth (take (at + 1) bytes) y leads ∙ d }

whole_run : (bytes : List ℕ) (x : State) → Reached bytes (length bytes) x → run bytes m.begin [] ≡ finish x.0 x.1
unfolding run
whole_run bytes x r =
    let leads : reach bytes m.begin [] ≡ Some x = ap (λ p. reach p m.begin []) (sym (take-length bytes)) ∙ r.leads in
    ap (λ p. run p m.begin []) (sym (append-nil bytes)) ∙ run_append bytes [] m.begin [] ∙ ap (goes (run [])) leads

-- where all bytes are read and they may end, they are a text of the tree that they lead to
pub is_text : (bytes : List ℕ) (x : State) (t : Tree) → Reached bytes (length bytes) x → finish x.0 x.1 ≡ Some t → IsText bytes t
is_text bytes x t r f = record { reads = runs_reads bytes t (whole_run bytes x r ∙ f); shallow = r.shallow }

no_tree : (bytes : List ℕ) (x : State) → Reached bytes (length bytes) x → finish x.0 x.1 ≡ None → IsGood bytes → ⊥
no_tree bytes x r f (v, reads) = let e = sym (reads_runs reads) ∙ whole_run bytes x r ∙ f in absurd (cc)

-- where all bytes are read and they may not end, they are no JSON at their end
pub ends_early : (bytes : List ℕ) (x : State) → Reached bytes (length bytes) x → finish x.0 x.1 ≡ None → IsNotJson bytes (length bytes)
ends_early bytes x r f = record {
  within = omega arith;
  shallow = r.shallow;
  begins = reach_prefix (take (length bytes) bytes) x r.leads;
  stops = inr (refl, no_tree bytes x r f);
}

-- a state that is reached at a place not before the end is reached at the end
pub all_read : (bytes : List ℕ) (at : ℕ) (x : State) → Reached bytes at x → length bytes ≤ at → Reached bytes (length bytes) x
all_read bytes at x r h = let within = r.within in let e : at ≡ length bytes = omega arith in subst (λ n. Reached bytes n x) e r

-- the bytes before the rest lead to the state
pub record Stands (bytes rest : List ℕ) (x : State) : Type 0 where
  pub at : ℕ
  pub left : drop at bytes ≡ rest
  pub reached : Reached bytes at x

-- the first state stands before all the bytes
pub stands_start : (bytes : List ℕ) (x : State) → (m.begin, []) ≡ x → Stands bytes bytes x
stands_start bytes x e = record { at = 0; left = refl; reached = subst (Reached bytes 0) e (reached_start bytes) }

-- the byte at the front of the rest, and what follows it
pub record Ahead (bytes : List ℕ) (at b : ℕ) (next : List ℕ) : Type 0 where
  pub within : at < length bytes
  pub byte : get_or bytes at 0 ≡ b
  pub left : drop (at + 1) bytes ≡ next

ahead : (bytes : List ℕ) (at b : ℕ) (next : List ℕ) → drop at bytes ≡ b ∷ next → Ahead bytes at b next
ahead bytes at b next e =
    let n : length bytes - at ≡ suc (length next) = sym (length-drop at bytes) ∙ ap length e in
    let within : at < length bytes = omega arith in
    let both : get_or bytes at 0 ∷ drop (at + 1) bytes ≡ b ∷ next = sym (drop_more bytes at 0 within) ∙ e in
    record { within = within; byte = cc; left = cc }

-- how far the rest is
pub stands_at : (bytes rest : List ℕ) (x : State) (s : Stands bytes rest x) → (length rest ≤ length bytes) × (s.at ≡ length bytes - length rest)
stands_at bytes rest x s =
    let n : length bytes - s.at ≡ length rest = sym (length-drop s.at bytes) ∙ ap length s.left in
    let within = s.reached.within in
    (omega arith, omega arith)

-- one step more
pub stands_more : (bytes : List ℕ) (b : ℕ) (next : List ℕ) (x y : State) → Stands bytes (b ∷ next) x → step x.0 x.1 b ≡ Some y → open_of y.0 y.1 ≤ 64 → Stands bytes next y
stands_more bytes b next x y s h le =
    let a = ahead bytes s.at b next s.left in
    record { at = s.at + 1; left = a.left; reached = reached_more bytes s.at x y a.within s.reached (ap (step x.0 x.1) a.byte ∙ h) le }

-- many steps
pub stands_passed : (bytes : List ℕ) {x z : State} {s r : List ℕ} → Passes x s z r → Stands bytes s x → Stands bytes r z
stands_passed bytes here h = h
stands_passed bytes {x} (on {y = y} {b} {s} e le p) h = stands_passed bytes p (stands_more bytes b s x y h e le)

-- a way leaves no more bytes than there were before it
pub stands_still : {x z : State} {s r : List ℕ} → Passes x s z r → length r ≤ length s
stands_still here = omega arith
stands_still (on e le p) = let h = stands_still p in omega arith

-- where no step was made
pub not_passed : {x z : State} {s r : List ℕ} → Passes x s z r → length s ≤ length r → (x ≡ z) × (s ≡ r)
not_passed here h = (refl, refl)
not_passed (on e le p) h = let k = stands_still p in absurd (omega arith)

-- one step more, by the byte that the rest is known to begin with
pub stands_after : (bytes rest : List ℕ) (b : ℕ) (next : List ℕ) (x y : State) → rest ≡ b ∷ next → Stands bytes rest x → step x.0 x.1 b ≡ Some y → open_of y.0 y.1 ≤ 64 → Stands bytes next y
stands_after bytes rest b next x y e s h le = stands_more bytes b next x y (subst (λ r. Stands bytes r x) e s) h le

-- where there is no step by the first byte of the rest, the bytes are no JSON at the place where the rest begins
pub stops_ahead : (bytes rest : List ℕ) (b : ℕ) (next : List ℕ) (x : State) → rest ≡ b ∷ next → Stands bytes rest x → step x.0 x.1 b ≡ None → IsNotJson bytes (length bytes - length rest)
stops_ahead bytes rest b next x e s h =
    let a = ahead bytes s.at b next (s.left ∙ e) in
    subst (IsNotJson bytes) (stands_at bytes rest x s).1 (stops_here bytes s.at x a.within s.reached (ap (step x.0 x.1) a.byte ∙ h))

-- where the first byte of the rest opens a 65th list or map, the bytes are too deep at that place
pub deep_ahead : (bytes rest : List ℕ) (b : ℕ) (next : List ℕ) (x y : State) → rest ≡ b ∷ next →
    Stands bytes rest x → step x.0 x.1 b ≡ Some y → open_of y.0 y.1 ≡ 65 → IsDeep bytes (length bytes - length rest)
deep_ahead bytes rest b next x y e s h d =
    let a = ahead bytes s.at b next (s.left ∙ e) in
    subst (IsDeep bytes) (stands_at bytes rest x s).1 (too_deep bytes s.at x y a.within s.reached (ap (step x.0 x.1) a.byte ∙ h) d)

-- where nothing is left of the bytes, the state is reached at their end
pub all_stood : (bytes : List ℕ) (rest : List ℕ) (x : State) → Stands bytes rest x → length rest < 1 → Reached bytes (length bytes) x
all_stood bytes rest x s h =
    let k = stands_at bytes rest x s in
    let within = s.reached.within in
    all_read bytes s.at x s.reached (let e = k.1 in omega arith)
