-- The canonical text of a tree with numbers and of little depth is a text of it, once its maps are in order.
use Rattle.std.proofs.Common.{[], length, arith, subst}
use Rattle.ml_json.specs.Tree.{Tree}
use Rattle.ml_json.specs.Answer.{IsText}
use Rattle.ml_json.specs.Canonical.{canonical, settled, IsPrintable, IsWritable, HasUtf8}
use Rattle.ml_json.proofs.CanonicalReads.{good, orderly_numbers, orderly_settled, reads_back}
use Rattle.ml_json.proofs.CanonicalDepth.{spell_stays, shallow_if_stays}

-- the canonical text of a tree with numbers and of depth at most 64 is a good text of the settled tree
pub printed_text : (v : Tree) → IsPrintable v → HasUtf8 v → IsText (canonical v) (settled v)
printed_text v w u =
    let g = good v w.numbers u in
    record {
      reads = reads_back v g;
      shallow = shallow_if_stays (canonical v) (length (canonical v)) (spell_stays v 0 [] g (let s = w.shallow in omega arith) (omega arith));
    }

-- where the keys of all maps ascend, too, it is one of the tree itself
pub canonical_text : (v : Tree) → IsWritable v → HasUtf8 v → IsText (canonical v) v
canonical_text v w u =
    subst (IsText (canonical v)) (orderly_settled v w.orderly) (printed_text v (record { numbers = orderly_numbers v w.orderly; shallow = w.shallow }) u)
