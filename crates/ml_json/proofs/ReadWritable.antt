-- What is read can be written: its numbers are numbers, its keys are in order, and it is no deeper than its text.
use Rattle.std.proofs.Common.{◌≡◌, ℕ, suc, ◌+◌, ◌-◌, ◌≤◌, List, [], ◌∷◌, ◌++◌, length, take, max, true, Option, Some, sym, subst, arith}
use Rattle.std.proofs.lemmas.Bool.Decides.{nat_tests}
use Rattle.std.specs.declared.cmp.Ordering.{Ordering}
use Rattle.std.specs.declared.cmp.Ordering.TheVariants.{Less, Equal, Greater}
use Rattle.std.specs.Ordering.{nat_cmp, match_ordering}
use Rattle.std.specs.Cmp.Lexicographic.{slice_cmp}
use Rattle.ml_json.specs.Tree.{Tree, Trees, Pairs, no_pairs, pair, put, put_all}
use Rattle.ml_json.specs.Characters.{Tail, lead, low, high, Follows, end, next}
use Rattle.ml_json.specs.Strings.{Piece, Written, quote, plain, longer, short, code, is_plain, hex_digit, Hex, no_hex, hex}
use Rattle.ml_json.specs.Grammar.{Blank, no_blank, blank, Value, a_null, a_true, a_false, a_number, a_string, empty_list, a_list, empty_map, a_map, Items, items}
use Rattle.ml_json.specs.Grammar.{Rest, close, comma, Members, members, MoreMembers, close_map, comma_map, Document, document, Reads, unmarked, marked}
use Rattle.ml_json.specs.Depth.{outside, inside, Seen, see, seen}
use Rattle.ml_json.specs.Answer.{IsText}
use Rattle.ml_json.specs.Canonical.{nesting, items_nesting, pairs_nesting, IsOrderly, AllOrderly, AllPairsOrderly, IsWritable}
use Rattle.ml_json.proofs.Ascending.{ascending_all}
use Rattle.ml_json.proofs.DepthRuns.{calm_space, still, large_still, low_large}
use Rattle.ml_json.proofs.StringRuns.{lead_large}
use Rattle.ml_json.proofs.CanonicalDepth.{Stays, AllCalm, number_calm, closed}

-- Orderly values

orderly_placed : (k : List ℕ) (v : Tree) (l : List ℕ) (w : Tree) (ps : Pairs) (o : Ordering) → IsOrderly v → IsOrderly w → AllPairsOrderly ps → AllPairsOrderly (put k v ps)
    → AllPairsOrderly (match_ordering o (pair k v (pair l w ps)) (pair k v ps) (pair l w (put k v ps)))
orderly_placed k v l w ps Less a b h g = (a, (b, h))
orderly_placed k v l w ps Equal a b h g = (a, h)
orderly_placed k v l w ps Greater a b h g = (b, g)

orderly_put : (k : List ℕ) (v : Tree) (ps : Pairs) → IsOrderly v → AllPairsOrderly ps → AllPairsOrderly (put k v ps)
orderly_put k v no_pairs a h = (a, tt)
orderly_put k v (pair l w ps) a h = orderly_placed k v l w ps (slice_cmp nat_cmp k l) a h.0 h.1 (orderly_put k v ps a h.1)

orderly_all : (ps ms : Pairs) → AllPairsOrderly ps → AllPairsOrderly ms → AllPairsOrderly (put_all ps ms)
orderly_all ps no_pairs h g = h
orderly_all ps (pair k v ms) h g = orderly_all (put k v ps) ms (orderly_put k v ps g.0 h) g.1

mutual
  value_orderly : {v : Tree} {s r : List ℕ} → Value v s r → IsOrderly v
  value_orderly a_null = tt
  value_orderly a_true = tt
  value_orderly a_false = tt
  value_orderly (a_number h e) = h
  value_orderly (a_string w) = tt
  value_orderly (empty_list bl) = tt
  value_orderly (a_list i) = items_orderly i
  value_orderly (empty_map bl) = (tt, tt)
  value_orderly (a_map {ms} m) = (ascending_all no_pairs ms tt, orderly_all no_pairs ms tt (members_orderly m))

  items_orderly : {vs : Trees} {s r : List ℕ} → Items vs s r → AllOrderly vs
  items_orderly (items bl val rest) = (value_orderly val, rest_orderly rest)

  rest_orderly : {vs : Trees} {s r : List ℕ} → Rest vs s r → AllOrderly vs
  rest_orderly (close bl) = tt
  rest_orderly (comma bl i) = items_orderly i

  members_orderly : {ms : Pairs} {s r : List ℕ} → Members ms s r → AllPairsOrderly ms
  members_orderly (members bl w before behind val rest) = (value_orderly val, more_orderly rest)

  more_orderly : {ms : Pairs} {s r : List ℕ} → MoreMembers ms s r → AllPairsOrderly ms
  more_orderly (close_map bl) = tt
  more_orderly (comma_map bl m) = members_orderly m

-- Depth: where no byte goes beyond the limit, neither does the tree

stays_if : (limit : ℕ) (x : Seen) (bs : List ℕ) → ((k : ℕ) → k ≤ length bs → (seen x (take k bs)).1 ≤ limit) → Stays limit x bs
unfolding seen
stays_if limit x [] h = h 0 (omega arith)
stays_if limit x (b ∷ bs) h = (h 0 (omega arith), stays_if limit (see x.0 x.1 b) bs (λ k le. h (suc k) (omega arith)))

calm_passes : (limit d : ℕ) (s r : List ℕ) → AllCalm s → Stays limit (outside, d) (s ++ r) → Stays limit (outside, d) r
calm_passes limit d [] r h g = g
calm_passes limit d (b ∷ s) r h g = calm_passes limit d s r h.1 (subst (λ x. Stays limit x (s ++ r)) (h.0 d) g.1)

blank_passes : (limit d : ℕ) {s r : List ℕ} → Blank s r → Stays limit (outside, d) s → Stays limit (outside, d) r
blank_passes limit d no_blank g = g
blank_passes limit d (blank {b} {s} h bl) g = blank_passes limit d bl (subst (λ x. Stays limit x s) (calm_space d b h) g.1)

follow_passes : (limit d : ℕ) {o : Option Tail} {bs : List ℕ} (s : List ℕ) → Follows o bs → Stays limit (inside, d) (bs ++ s) → Stays limit (inside, d) s
follow_passes limit d s end g = g
follow_passes limit d s (next {t} {b} {bs} h f) g = follow_passes limit d s f (subst (λ x. Stays limit x (bs ++ s)) (large_still d b (low t) (high t) (low_large t) h) g.1)

plain_still : (d b : ℕ) → is_plain b ≡ true → see inside d b ≡ (inside, d)
plain_still d b h = still d b (grind (arith, nat_tests)) (grind (arith, nat_tests))

lead_still : (d a : ℕ) (t : Tail) → lead a ≡ Some t → see inside d a ≡ (inside, d)
lead_still d a t h = let l = lead_large a t h in still d a (grind (arith, nat_tests)) (grind (arith, nat_tests))

digit_still : (d b n : ℕ) → hex_digit b ≡ Some n → see inside d b ≡ (inside, d)
digit_still d b n h = still d b (grind (arith, nat_tests)) (grind (arith, nat_tests))

hex_passes : (limit d : ℕ) {n a u : ℕ} {s r : List ℕ} → Hex n a u s r → Stays limit (inside, d) s → Stays limit (inside, d) r
hex_passes limit d no_hex g = g
hex_passes limit d (hex {b = b} {d = x} {s = s} h more_digits) g = hex_passes limit d more_digits (subst (λ y. Stays limit y s) (digit_still d b x h) g.1)

written_passes : (limit d : ℕ) {us : List Piece} {s r : List ℕ} → Written us s r → Stays limit (inside, d) s → Stays limit (outside, d) r
written_passes limit d quote g = g.1
written_passes limit d (plain {b} {s = s} h w) g = written_passes limit d w (subst (λ y. Stays limit y s) (plain_still d b h) g.1)
written_passes limit d (longer {a} {t} {bs} {s = s} {x = x} l f e w) g =
    written_passes limit d w (follow_passes limit d s f (subst (λ y. Stays limit (inside, d) y) e (subst (λ y. Stays limit y x) (lead_still d a t l) g.1)))
written_passes limit d (short h w) g = written_passes limit d w g.1.1
written_passes limit d (code h w) g = written_passes limit d w (hex_passes limit d h g.1.1)

-- putting members in makes nothing deeper
deep_placed : (k : List ℕ) (v : Tree) (l : List ℕ) (w : Tree) (ps : Pairs) (o : Ordering) → pairs_nesting (put k v ps) ≤ max (nesting v) (pairs_nesting ps)
    → pairs_nesting (match_ordering o (pair k v (pair l w ps)) (pair k v ps) (pair l w (put k v ps))) ≤ max (nesting v) (max (nesting w) (pairs_nesting ps))
deep_placed k v l w ps Less h = omega arith
deep_placed k v l w ps Equal h = omega arith
deep_placed k v l w ps Greater h = omega arith

deep_put : (k : List ℕ) (v : Tree) (ps : Pairs) → pairs_nesting (put k v ps) ≤ max (nesting v) (pairs_nesting ps)
deep_put k v no_pairs = omega arith
deep_put k v (pair l w ps) = deep_placed k v l w ps (slice_cmp nat_cmp k l) (deep_put k v ps)

deep_all : (ps ms : Pairs) → pairs_nesting (put_all ps ms) ≤ max (pairs_nesting ps) (pairs_nesting ms)
deep_all ps no_pairs = omega arith
deep_all ps (pair k v ms) = omega (arith, deep_all (put k v ps) ms, deep_put k v ps)

at_end : (limit d : ℕ) (r : List ℕ) → Stays limit (outside, d + 1 - 1) r → Stays limit (outside, d) r
at_end limit d r g = subst (λ n. Stays limit (outside, n) r) (sym (closed d)) g

here : (limit : ℕ) (x : Seen) (bs : List ℕ) → Stays limit x bs → x.1 ≤ limit
here limit x [] h = h
here limit x (b ∷ bs) h = h.0

word_passes : (limit d : ℕ) (r : List ℕ) → Stays limit (outside, d) r → (d + 0 ≤ limit) × Stays limit (outside, d) r
word_passes limit d r g = (let h = here limit (outside, d) r g in omega arith, g)

mutual
  value_passes : (limit d : ℕ) {v : Tree} {s r : List ℕ} → Value v s r → Stays limit (outside, d) s → (d + nesting v ≤ limit) × Stays limit (outside, d) r
  value_passes limit d {r = r} a_null g = word_passes limit d r g.1.1.1.1
  value_passes limit d {r = r} a_true g = word_passes limit d r g.1.1.1.1
  value_passes limit d {r = r} a_false g = word_passes limit d r g.1.1.1.1.1
  value_passes limit d {r = r} (a_number {s} h e) g = word_passes limit d r (calm_passes limit d s r (number_calm h) (subst (λ y. Stays limit (outside, d) y) e g))
  value_passes limit d {r = r} (a_string w) g = word_passes limit d r (written_passes limit d w g.1)
  value_passes limit d {r = r} (empty_list bl) g = let h = blank_passes limit (d + 1) bl g.1 in (h.0, at_end limit d r h.1)
  value_passes limit d (a_list {vs} i) g = let h = items_passes limit d i g.1 in (omega (arith, h.0), h.1)
  value_passes limit d {r = r} (empty_map bl) g = let h = blank_passes limit (d + 1) bl g.1 in (h.0, at_end limit d r h.1)
  value_passes limit d (a_map {ms} m) g = let h = members_passes limit d m g.1 in (omega (arith, h.0, deep_all no_pairs ms), h.1)

  items_passes : (limit d : ℕ) {vs : Trees} {s r : List ℕ} → Items vs s r → Stays limit (outside, d + 1) s → (d + 1 + items_nesting vs ≤ limit) × Stays limit (outside, d) r
  items_passes limit d (items {v} {vs} bl val rest) g =
      let a = value_passes limit (d + 1) val (blank_passes limit (d + 1) bl g) in
      let b = rest_passes limit d rest a.1 in
      (omega (arith, a.0, b.0), b.1)

  rest_passes : (limit d : ℕ) {vs : Trees} {s r : List ℕ} → Rest vs s r → Stays limit (outside, d + 1) s → (d + 1 + items_nesting vs ≤ limit) × Stays limit (outside, d) r
  rest_passes limit d {r = r} (close bl) g = let h = blank_passes limit (d + 1) bl g in (omega (arith, h.0), at_end limit d r h.1)
  rest_passes limit d (comma bl i) g = let h = blank_passes limit (d + 1) bl g in items_passes limit d i h.1

  members_passes : (limit d : ℕ) {ms : Pairs} {s r : List ℕ} → Members ms s r → Stays limit (outside, d + 1) s → (d + 1 + pairs_nesting ms ≤ limit) × Stays limit (outside, d) r
  members_passes limit d (members {v = v} {ms = ms} bl w before behind val rest) g =
      let key = written_passes limit (d + 1) w (blank_passes limit (d + 1) bl g).1 in
      let colon = (blank_passes limit (d + 1) before key).1 in
      let a = value_passes limit (d + 1) val (blank_passes limit (d + 1) behind colon) in
      let b = more_passes limit d rest a.1 in
      (omega (arith, a.0, b.0), b.1)

  more_passes : (limit d : ℕ) {ms : Pairs} {s r : List ℕ} → MoreMembers ms s r → Stays limit (outside, d + 1) s → (d + 1 + pairs_nesting ms ≤ limit) × Stays limit (outside, d) r
  more_passes limit d {r = r} (close_map bl) g = let h = blank_passes limit (d + 1) bl g in (omega (arith, h.0), at_end limit d r h.1)
  more_passes limit d (comma_map bl m) g = let h = blank_passes limit (d + 1) bl g in members_passes limit d m h.1

document_orderly : {v : Tree} {s : List ℕ} → Document v s → IsOrderly v
document_orderly (document bl val after) = value_orderly val

document_passes : {v : Tree} {s : List ℕ} → Document v s → Stays 64 (outside, 0) s → nesting v ≤ 64
document_passes (document {v} bl val after) g = let h = value_passes 64 0 val (blank_passes 64 0 bl g) in omega (arith, h.0)

reads_orderly : {v : Tree} {s : List ℕ} → Reads s v → IsOrderly v
reads_orderly (unmarked d) = document_orderly d
reads_orderly (marked d) = document_orderly d

reads_passes : {v : Tree} {s : List ℕ} → Reads s v → Stays 64 (outside, 0) s → nesting v ≤ 64
reads_passes (unmarked d) g = document_passes d g
reads_passes (marked d) g = document_passes d g.1.1.1

-- what was read can be written
pub text_writable : (bytes : List ℕ) (tree : Tree) → IsText bytes tree → IsWritable tree
text_writable bytes tree t = record { orderly = reads_orderly t.reads; shallow = reads_passes t.reads (stays_if 64 (outside, 0) bytes (λ k le. t.shallow k le)) }
