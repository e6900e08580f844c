-- Words one by one, and the view or the window that they write.
use Rattle.std.proofs.Common.{◌≡◌, ℕ, zero, suc, ◌-◌, ◌<◌, ◌≤◌, List, [], ◌∷◌, length, get_or, map, take, drop, Option, Some, None, arith, refl, sym}
use Rattle.std.specs.Prelude.{codes, MatchOption}
use Rattle.std.proofs.lemmas.List.{take_rest}
use Rattle.ml_cone.specs.declared.view.View.{View}
use Rattle.ml_flight.specs.Window.{IsWindowOf}
use Rattle.ml_flight.specs.declared.window.Window.{Window}
use Rattle.ml_view.specs.Words.{WritesView, IsFirstBad}
use Rattle.ml_command.specs.Words.{AreViewWords, AreWindowWords}

-- a list of four, each of which is known
pub four_items : {A B : Type 0} (f : A → B) (items : List A) (a b c d : A) → 4 ≤ length items → length items < 5 →
    a ≡ get_or items 0 a → b ≡ get_or items 1 b → c ≡ get_or items 2 c → d ≡ get_or items 3 d → map f items ≡ f a ∷ f b ∷ f c ∷ f d ∷ []
four_items f (p ∷ q ∷ r ∷ s ∷ []) a b c d at_least below ea eb ec ed = rw (sym ea, sym eb, sym ec, sym ed) refl
four_items f [] a b c d at_least below ea eb ec ed = absurd (omega arith)
four_items f (p ∷ []) a b c d at_least below ea eb ec ed = absurd (omega arith)
four_items f (p ∷ q ∷ []) a b c d at_least below ea eb ec ed = absurd (omega arith)
four_items f (p ∷ q ∷ r ∷ []) a b c d at_least below ea eb ec ed = absurd (omega arith)
four_items f (p ∷ q ∷ r ∷ s ∷ t ∷ items) a b c d at_least below ea eb ec ed = absurd (omega arith)

-- a list of five, each of which is known
pub five_items : {A B : Type 0} (f : A → B) (items : List A) (a b c d e : A) → 5 ≤ length items → length items < 6 → a ≡ get_or items 0 a →
    b ≡ get_or items 1 b → c ≡ get_or items 2 c → d ≡ get_or items 3 d → e ≡ get_or items 4 e → map f items ≡ f a ∷ f b ∷ f c ∷ f d ∷ f e ∷ []
five_items f [] a b c d e at_least below ea eb ec ed ee = absurd (omega arith)
five_items f (p ∷ items) a b c d e at_least below ea eb ec ed ee =
    let rest = four_items f items b c d e (omega arith) (omega arith) eb ec ed ee in
    rw (rest, sym ea) refl

-- a list whose first element is known
pub first_item : {A B : Type 0} (f : A → B) (items : List A) (a : A) → 1 ≤ length items → a ≡ get_or items 0 a → map f items ≡ f a ∷ map f (take (length items - 1) (drop 1 items))
first_item f [] a at_least ea = absurd (omega arith)
first_item f (p ∷ items) a at_least ea =
    let rest : take (length (p ∷ items) - 1) (drop 1 (p ∷ items)) ≡ items = take_rest (p ∷ items) 1 in
    rw (rest, sym ea) refl

-- a list whose first two elements are known
pub two_items : {A B : Type 0} (f : A → B) (items : List A) (a b : A) → 2 ≤ length items → a ≡ get_or items 0 a →
    b ≡ get_or items 1 b → map f items ≡ f a ∷ f b ∷ map f (take (length items - 2) (drop 2 items))
two_items f [] a b at_least ea eb = absurd (omega arith)
two_items f (p ∷ []) a b at_least ea eb = absurd (omega arith)
two_items f (p ∷ q ∷ items) a b at_least ea eb =
    let rest : take (length (p ∷ q ∷ items) - 2) (drop 2 (p ∷ q ∷ items)) ≡ items = take_rest (p ∷ q ∷ items) 2 in
    rw (rest, sym ea, sym eb) refl

-- five words of which one is at fault write no view
pub no_view : (p : ℕ) (cx cy w h scale : List ℕ) (view : View) → IsFirstBad cx cy w h scale p → ¬ (WritesView cx cy w h scale view)
no_view zero cx cy w h scale view bad is = bad (view.cx, is.cx_is)
no_view (suc zero) cx cy w h scale view bad is = bad.1 (view.cy, is.cy_is)
no_view (suc (suc zero)) cx cy w h scale view bad is = bad.2 (view.w, is.w_is)
no_view (suc (suc (suc zero))) cx cy w h scale view bad is = bad.3 (view.h, is.h_is)
no_view (suc (suc (suc (suc zero)))) cx cy w h scale view bad is = bad.4 (view.scale, is.scale_is)
no_view (suc (suc (suc (suc (suc p))))) cx cy w h scale view bad is = bad

-- what five words write they write as a list
pub view_listed : (cx cy w h scale : List ℕ) (answer : Option View) → MatchOption answer ((view : View) → ¬ (WritesView cx cy w h scale view)) (WritesView cx cy w h scale) →
    MatchOption answer ((view : View) → ¬ (AreViewWords (cx ∷ cy ∷ w ∷ h ∷ scale ∷ []) view)) (AreViewWords (cx ∷ cy ∷ w ∷ h ∷ scale ∷ []))
view_listed cx cy w h scale None none = λ view is.
    let same = is.are in
    let ex : cx ≡ is.cx = cc in
    let ey : cy ≡ is.cy = cc in
    let ew : w ≡ is.w = cc in
    let eh : h ≡ is.h = cc in
    let es : scale ≡ is.scale = cc in
    none view (rw (ex, ey, ew, eh, es) is.writes)
view_listed cx cy w h scale (Some view) writes = record { cx = cx; cy = cy; w = w; h = h; scale = scale; are = refl; writes = writes }

-- the window of a view that four words write
pub window_listed : (cx cy w h : List ℕ) (view : View) (answer : Option Window) → WritesView cx cy w h (codes "1") view → IsWindowOf view.cx view.cy view.w view.h answer →
    MatchOption answer ((window : Window) → ¬ (AreWindowWords (cx ∷ cy ∷ w ∷ h ∷ []) window)) (AreWindowWords (cx ∷ cy ∷ w ∷ h ∷ []))
window_listed cx cy w h view None writes none =
    absurd (none (record {
      world_x = view.world_x;
      world_y = view.world_y;
      width = record { some = view.some_w; low = view.low_w; even = view.even_w };
      height = record { some = view.some_h; low = view.low_h; even = view.even_h };
    }))
window_listed cx cy w h view (Some window) writes is = record { cx = cx; cy = cy; w = w; h = h; are = refl; view = view; writes = writes; through = is.1 }
