-- What is known of a tree once it is a fork.
use Rattle.std.proofs.Common.{◌≡◌, ℕ, ◌<◌, arith, List, ◌∷◌, ◌++◌, Option, Some, None, Box, refl, subst, sym, ap, ◌∙◌}
use Rattle.std.specs.Option.{IsSome}
use Rattle.std.specs.declared.alloc.Global.{Global}
use Rattle.std.specs.declared.cmp.Ordering.{Ordering}
use Rattle.ml_spans.specs.Sound.{entries, entries_in, entries_of, depth, IsSound, IsSoundNode, HoldsGreatest, IsGreatest, IsOpened}
use Rattle.ml_spans.specs.declared.entry.Entry.{Entry}
use Rattle.ml_spans.specs.declared.shape.Content.{Content}
use Rattle.ml_spans.specs.declared.shape.Node.{Node}
use Rattle.ml_spans.specs.declared.shape.Tree.{Tree}
use Rattle.ml_spans.specs.declared.shape.Tree.TheVariants.{Fork}

-- the parts of a sound tree whose top node holds `content` over these sides
pub record IsTopOf {K E V : Type 0} (order : E → E → Ordering) (tree : Tree K E V) (content : Content K E V) (left right : Tree K E V) : Type 0 where
  pub parts : entries tree ≡ entries left ++ (content.entry ∷ entries right)
  pub left_lower : depth left < depth tree
  pub right_lower : depth right < depth tree
  pub left_sound : IsSound order left
  pub right_sound : IsSound order right
  pub greatest : IsGreatest order (entries tree) content.greatest

holds_some : {K E V : Type 0} (order : E → E → Ordering) (all : List (Entry K E V)) (content : Option (Content K E V)) → HoldsGreatest order all content → IsSome content
holds_some order all None h = absurd h
holds_some order all (Some content) h = refl

module _ {K E V : Type 0} {order : E → E → Ordering} where
  -- the content that the top node, seen as `node`, holds
  pub fork_greatest : {tree : Tree K E V} {height : ℕ} {box : Box (Node K E V) Global} {node : Node K E V} {content : Content K E V} →
      tree ≡ Fork height box → node ≡ box.value → node.content ≡ Some content → IsSound order tree → IsGreatest order (entries tree) content.greatest
  fork_greatest {tree} {height} {box} {node} {content} is seen holds s =
      let held : box.value.content ≡ Some content = cc in
      rw is (subst (HoldsGreatest order (entries (Fork height box))) held (subst (IsSound order) is s).0.1.1)

  -- a sound tree that is a fork has its top entry between those of two lower, sound sides, and its node holds the greatest end of all
  pub top_of : {tree : Tree K E V} {height : ℕ} {box : Box (Node K E V) Global} {node : Node K E V} {content : Content K E V} →
      tree ≡ Fork height box → node ≡ box.value → node.content ≡ Some content → IsSound order tree → IsTopOf order tree content node.left node.right
  top_of {tree} {height} {box} {node} {content} is seen holds s =
      let held : box.value.content ≡ Some content = cc in
      let sound = subst (IsSound order) is s in
      record {
        parts = ap entries is ∙ ap (λ (c : Option (Content K E V)). entries box.value.left ++ (entries_in c ++ entries box.value.right)) held
            ∙ ap (λ (n : Node K E V). entries n.left ++ (content.entry ∷ entries n.right)) (sym seen);
        left_lower = (let e = ap depth is in let f = ap (λ (n : Node K E V). depth n.left) seen in omega arith);
        right_lower = (let e = ap depth is in let f = ap (λ (n : Node K E V). depth n.right) seen in omega arith);
        left_sound = subst (λ (n : Node K E V). IsSound order n.left) (sym seen) sound.0.0.0;
        right_sound = subst (λ (n : Node K E V). IsSound order n.right) (sym seen) sound.0.0.1;
        greatest = fork_greatest is seen holds s;
      }

  in_place : (node : Node K E V) → IsSoundNode order node → IsOpened order node node node.left node.right
  in_place node s = record { held = holds_some order (entries_of node) node.content s.1.1; parts = refl; deep = refl; near = s.1.0; greatest = s.1.1; left_sound = s.0.0; right_sound = s.0.1 }

  -- the top node of a sound tree, seen as `node`, with its sides left in their places
  pub opened_in_place : {tree : Tree K E V} {height : ℕ} {box : Box (Node K E V) Global} {node : Node K E V} →
      tree ≡ Fork height box → node ≡ box.value → IsSound order tree → IsOpened order box.value node node.left node.right
  opened_in_place {tree} {height} {box} is seen s = subst (λ (n : Node K E V). IsOpened order box.value n n.left n.right) (sym seen) (in_place box.value (subst (IsSound order) is s).0)
