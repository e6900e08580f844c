use Rattle.std.proofs.Common.{◌≡◌, ◌++◌, ◌∷◌, ℕ, List, drop}
use Rattle.ml_json.specs.View.{trees_view, pairs_view}
use Rattle.ml_json.specs.Canonical.{items_on, rest_on, members_on, more_on, AllHaveUtf8, AllPairsHaveUtf8}
use Rattle.ml_json.proofs.writer.+writing.Given as goal

abbrev pub invariant-put_items-loop-item : goal.invariant-put_items-loop-item
invariant-put_items-loop-item l = record {
  text : (r : List ℕ) → l.out.items ++ rest_on (trees_view (drop l.item-index l.others)) r ≡ l.fn.out.items ++ 91 ∷ items_on (trees_view l.items) r;
  utf8 : AllHaveUtf8 (trees_view (drop l.item-index l.others)) → AllHaveUtf8 (trees_view l.items);
}

abbrev pub invariant-put_members-loop-pair : goal.invariant-put_members-loop-pair
invariant-put_members-loop-pair l = record {
  text : (r : List ℕ) → l.out.items ++ more_on (pairs_view (drop l.pair-index l.others)) r ≡ l.fn.out.items ++ 123 ∷ members_on (pairs_view l.pairs) r;
  utf8 : AllPairsHaveUtf8 (pairs_view (drop l.pair-index l.others)) → AllPairsHaveUtf8 (pairs_view l.pairs);
}
