use Rattle.std.proofs.Common.{◌≡◌, ◌++◌, ◌∷◌, ℕ, List, drop, map as mapped}
use Rattle.ml_json.specs.View.{trees_of}
use Rattle.ml_json.specs.Canonical.{items_on, rest_on, AllHaveUtf8}
use Rattle.ml_geojson.proofs.text.put_list.Given as goal

abbrev pub invariant-loop-item : goal.invariant-loop-item
invariant-loop-item g l =
    let tree = g.T.PutText.tree in
    record {
      text : (r : List ℕ) →
          l.out.items ++ rest_on (trees_of (mapped tree (drop l.item-index l.others))) r
          ≡ l.fn.out.items ++ 91 ∷ items_on (trees_of (mapped tree l.items)) r;
      utf8 : AllHaveUtf8 (trees_of (mapped tree (drop l.item-index l.others))) → AllHaveUtf8 (trees_of (mapped tree l.items));
    }
