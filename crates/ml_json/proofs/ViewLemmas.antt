-- What a `Lent` of each kind stands for.
use Rattle.std.proofs.Common.{◌≡◌, ℕ, List, [], ◌∷◌, ◌++◌, refl, sym, ◌∙◌, ap, Vec}
use Rattle.std.specs.declared.alloc.Global.{Global}
use Rattle.ml_json.specs.Tree.{Tree, none, more, list, map, num, str}
use Rattle.ml_json.specs.Machine.{snoc}
use Rattle.ml_json.specs.Lent.{lent_of, lents_view, lent_pairs_view, lent_step, lent_pair_step}
use Rattle.ml_json.specs.declared.lent.Lent.{Lent, fold-roll-Lent, List as json_list, Map as json_map}
use Rattle.ml_json.specs.declared.lent.Lent.TheVariants as v
use Rattle.ml_json.specs.declared.lent.LentPair.{LentPair}

-- a lent list stands for the list of what its items stand for
pub tree_list : (x : Vec Lent Global) → lent_of (json_list x) ≡ list (lents_view x.items)
tree_list x = ap lent_of (sym (v.rolls-List x)) ∙ fold-roll-Lent Tree (List ℕ × Tree) lent_step lent_pair_step _

-- a lent map stands for the map of what its pairs stand for
pub tree_map : (x : Vec LentPair Global) → lent_of (json_map x) ≡ map (lent_pairs_view x.items)
tree_map x = ap lent_of (sym (v.rolls-Map x)) ∙ fold-roll-Lent Tree (List ℕ × Tree) lent_step lent_pair_step _

-- a lent value that is pushed stands for one more item at the end
pub trees_push : (vs : List Lent) (w : Lent) → lents_view (vs ++ w ∷ []) ≡ snoc (lents_view vs) (lent_of w)
trees_push [] w = refl
trees_push (v ∷ vs) w = ap (more (lent_of v)) (trees_push vs w)

-- a lent list without items stands for the empty list
pub empty_list : (x : Vec Lent Global) → x.items ≡ [] → lent_of (json_list x) ≡ list none
empty_list x e = tree_list x ∙ ap (λ vs. list (lents_view vs)) e

-- a lent number stands for the number with its text
pub tree_num : (s : List ℕ) → lent_of (v.Num s) ≡ num s
tree_num s = ap lent_of (sym (v.rolls-Num s)) ∙ fold-roll-Lent Tree (List ℕ × Tree) lent_step lent_pair_step _

-- a lent string stands for the string with its bytes
pub tree_str : (s : List ℕ) → lent_of (v.Str s) ≡ str s
tree_str s = ap lent_of (sym (v.rolls-Str s)) ∙ fold-roll-Lent Tree (List ℕ × Tree) lent_step lent_pair_step _
