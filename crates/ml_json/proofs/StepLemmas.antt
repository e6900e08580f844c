-- How the reader's stack answers to the machine's.
use Rattle.std.proofs.Common.{◌≡◌, ℕ, ◌+◌, ◌≤◌, List, [], ◌∷◌, ◌++◌, length, false, ◌==◌, Some, None, refl, sym, ◌∙◌, ap, arith, ◌≢◌, length-append, Vec}
use Rattle.std.specs.declared.alloc.Global.{Global}
use Rattle.std.proofs.lemmas.Bool.Decides.{nat_tests}
use Rattle.ml_json.specs.Tree.{Tree, list, map, put}
use Rattle.ml_json.specs.Machine.{snoc, State, open_of}
use Rattle.ml_json.specs.Grammar.{is_space}
use Rattle.ml_json.specs.Machine as m
use Rattle.ml_json.specs.Lent.{lent_of, lents_view, lent_pairs_view}
use Rattle.ml_json.specs.State.{members_view, frames_of, frame_of}
use Rattle.ml_json.specs.declared.lent.Lent.{Lent, List as json_list, Map as json_map}
use Rattle.ml_json.specs.declared.lent.LentPair.{LentPair}
use Rattle.ml_json.specs.declared.state.Frame.{Frame}
use Rattle.ml_json.specs.declared.state.Frame.TheVariants as frames
use Rattle.ml_json.specs.declared.state.Members.{Members}
use Rattle.ml_json.proofs.FrameLemmas.{frames_push, frames_length}
use Rattle.ml_json.proofs.ViewLemmas.{tree_list, tree_map, trees_push}

-- a byte behind a value that is no white space meets the last frame of the reader's stack
pub after_frame : (w : Tree) (old new : List Frame) (x : Frame) (b : ℕ) → old ≡ new ++ x ∷ [] → is_space b ≡ false → m.after_step w (frames_of old) b ≡ m.close_step w (frame_of x ∷ frames_of new) b
after_frame w old new x b e h = rw h (ap (λ st. m.close_step w st b) (ap frames_of e ∙ frames_push new x))

frame_list : (x : Vec Lent Global) (xs : List Lent) (v : Lent) (ys : Vec Lent Global) → ys.items ≡ x.items ++ v ∷ [] →
    m.in_list (lents_view ys.items) ≡ m.in_list (snoc (lents_view x.items) (lent_of v))
frame_list x xs v ys e = ap m.in_list (ap lents_view e ∙ trees_push x.items v)

-- a stack is higher by one than what is below its last frame
pub length_last : (old popped : List Frame) (x : Frame) → old ≡ popped ++ x ∷ [] → length old ≡ length popped + 1
length_last old popped x e = ap length e ∙ length-append popped (x ∷ [])

-- a comma behind an item takes the item into the list, and a value is awaited
pub list_comma : (old popped new : List Frame) (items pushed : Vec Lent Global) (v : Lent) (b : ℕ) → old ≡ popped ++ frames.List items ∷ [] →
    pushed.items ≡ items.items ++ v ∷ [] → new ≡ popped ++ frames.List pushed ∷ [] → is_space b ≡ false → b ≡ 44 → length old ≤ 64 →
    (m.after_step (lent_of v) (frames_of old) b ≡ Some (m.value, frames_of new)) × (open_of m.value (frames_of new) ≤ 64)
unfolding open_of
list_comma old popped new items pushed v b e f g sp is le =
    let h = after_frame (lent_of v) old popped (frames.List items) b e sp in
    let k : frames_of new ≡ m.in_list (snoc (lents_view items.items) (lent_of v)) ∷ frames_of popped =
    ap frames_of g ∙ frames_push popped (frames.List pushed) ∙ ap (λ x. x ∷ frames_of popped) (frame_list items [] v pushed f) in
    (h ∙ rw is (ap (λ st. m.to m.value st) (sym k)), omega (arith, frames_length new, length_last old popped _ e, length_last new popped _ g))

-- a closing bracket behind an item takes the item into the list and ends the list
pub list_end : (old popped : List Frame) (items pushed : Vec Lent Global) (v : Lent) (b : ℕ) →
    old ≡ popped ++ frames.List items ∷ [] → pushed.items ≡ items.items ++ v ∷ [] → is_space b ≡ false → b ≡ 93 → length old ≤ 64 →
    (m.after_step (lent_of v) (frames_of old) b ≡ Some (m.after (lent_of (json_list pushed)), frames_of popped)) × (open_of (m.after (lent_of (json_list pushed))) (frames_of popped) ≤ 64)
unfolding open_of
list_end old popped items pushed v b e f sp is le =
    let h = after_frame (lent_of v) old popped (frames.List items) b e sp in
    let k : lent_of (json_list pushed) ≡ list (snoc (lents_view items.items) (lent_of v)) = tree_list pushed ∙ ap (λ vs. list vs) (ap lents_view f ∙ trees_push items.items v) in
    (h ∙ rw is (ap (λ t. m.to (m.after t) (frames_of popped)) (sym k)), omega (arith, frames_length popped, length_last old popped _ e))

-- any other byte behind an item makes no step
pub list_other : (old popped : List Frame) (items : Vec Lent Global) (v : Lent) (b : ℕ) → old ≡ popped ++ frames.List items ∷ [] →
    is_space b ≡ false → b ≢ 44 → b ≢ 93 → m.after_step (lent_of v) (frames_of old) b ≡ None
list_other old popped items v b e sp n k =
    let a : (b == 44) ≡ false = grind (arith, nat_tests) in
    let c : (b == 93) ≡ false = grind (arith, nat_tests) in
    after_frame (lent_of v) old popped (frames.List items) b e sp ∙ rw (a, c) refl

-- a comma behind a member puts the member into the map, and a key is awaited
pub map_comma : (old popped : List Frame) (before after : Members) (k : List ℕ) (v : Lent) (b : ℕ) → old ≡ popped ++ frames.Map before k ∷ [] →
    members_view after ≡ put k (lent_of v) (members_view before) → is_space b ≡ false → b ≡ 44 → length old ≤ 64 →
    (m.after_step (lent_of v) (frames_of old) b ≡ Some (m.key (members_view after), frames_of popped)) × (open_of (m.key (members_view after)) (frames_of popped) ≤ 64)
unfolding open_of
map_comma old popped before after k v b e f sp is le =
    let h = after_frame (lent_of v) old popped (frames.Map before k) b e sp in
    (h ∙ rw is (ap (λ x. m.to (m.key x) (frames_of popped)) (sym f)), omega (arith, frames_length popped, length_last old popped _ e))

-- a closing brace behind a member puts the member into the map and ends the map
pub map_end : (old popped : List Frame) (before after : Members) (pairs : Vec LentPair Global) (k : List ℕ) (v : Lent) (b : ℕ) →
    old ≡ popped ++ frames.Map before k ∷ [] → members_view after ≡ put k (lent_of v) (members_view before) →
    lent_pairs_view pairs.items ≡ members_view after → is_space b ≡ false → b ≡ 125 → length old ≤ 64 →
    (m.after_step (lent_of v) (frames_of old) b ≡ Some (m.after (lent_of (json_map pairs)), frames_of popped)) × (open_of (m.after (lent_of (json_map pairs))) (frames_of popped) ≤ 64)
unfolding open_of
map_end old popped before after pairs k v b e f g sp is le =
    let h = after_frame (lent_of v) old popped (frames.Map before k) b e sp in
    let q : lent_of (json_map pairs) ≡ map (put k (lent_of v) (members_view before)) = tree_map pairs ∙ ap (λ x. map x) (g ∙ f) in
    (h ∙ rw is (ap (λ t. m.to (m.after t) (frames_of popped)) (sym q)), omega (arith, frames_length popped, length_last old popped _ e))

-- any other byte behind a member makes no step
pub map_other : (old popped : List Frame) (before : Members) (k : List ℕ) (v : Lent) (b : ℕ) →
    old ≡ popped ++ frames.Map before k ∷ [] → is_space b ≡ false → b ≢ 44 → b ≢ 125 → m.after_step (lent_of v) (frames_of old) b ≡ None
map_other old popped before k v b e sp n q =
    let a : (b == 44) ≡ false = grind (arith, nat_tests) in
    let c : (b == 125) ≡ false = grind (arith, nat_tests) in
    after_frame (lent_of v) old popped (frames.Map before k) b e sp ∙ rw (a, c) refl
