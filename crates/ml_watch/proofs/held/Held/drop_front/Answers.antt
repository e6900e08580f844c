use Rattle.std.proofs.Common.{◌≡◌, ℕ, ◌-◌, ◌+◌, ◌<◌, ◌≤◌, List, length, take, drop, get_or, sym, ap, ◌∙◌, arith}
use Rattle.std.specs.List.{CopiedTo}
use Rattle.std.proofs.lemmas.List.{same_lists, length-take-le, length-drop, get_or-take, get_or-drop}
use Rattle.ml_watch.proofs.held.Held.drop_front.Goals as goal

-- what stood behind the first n elements stands in front
moved_down : (old new : List ℕ) (n len : ℕ) → n ≤ len → len ≤ length old → length new ≡ length old → CopiedTo old new n 0 (len - n) → take (len - n) new ≡ drop n (take len old)
moved_down old new n len le within same copied =
    let a = length-take-le (len - n) new (omega arith) in
    let b = length-take-le len old within in
    let c = length-drop n (take len old) in
    same_lists (take (len - n) new) (drop n (take len old)) (omega arith) (λ k d lt.
    let low : k < len - n = omega arith in
    get_or-take (len - n) new k d low ∙ copied k d (omega arith) (omega arith) ∙ ap (λ (i : ℕ). get_or old i d) (omega arith)
    ∙ sym (get_or-take len old (n + k) d (omega arith)) ∙ sym (get_or-drop n (take len old) k d))

pub returns : goal.returns
returns c =
    let whole = length-take-le c.self.inside.len c.self.inside.bytes (omega arith) in
    let few : c.args.n ≤ c.self.inside.len = (let n : c.args.n ≤ length c.args.self.now = c.requires in let m = ap length c.self.view_is in omega arith) in
    moved_down c.self.inside.bytes c.copy_within.new.self c.args.n c.self.inside.len few (omega arith) c.copy_within.ensures.len c.copy_within.ensures.by_index.0 ∙ ap (drop c.args.n) c.self.view_is
