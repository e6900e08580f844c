-- Words ask for one command.
use Rattle.std.proofs.Common.{◌≡◌, ℕ, ◌≤◌, ◌%◌, List, [], ◌∷◌, refl, sym, ap, subst, ◌∙◌, Bor}
use Rattle.std.specs.Prelude.{codes, if◌then◌else◌}
use Rattle.std.specs.Str.{bytes_eq}
use Rattle.std.proofs.Props.{props}
use mathlib.Core.HLevel.{is_prop→PathP}
use Rattle.ml_ratio.specs.Number.{whole_number}
use Rattle.ml_ratio.specs.World.{IsInWorld}
use Rattle.ml_cone.specs.declared.view.View.{View}
use Rattle.ml_flight.specs.declared.window.Window.{Window}
use Rattle.ml_view.proofs.lemmas.OneView.{one_view, one_side}
use Rattle.ml_command.specs.Commands.{name_of, AreRest, Ask}
use Rattle.ml_command.specs.Once.{plain, plain_name}
use Rattle.ml_command.specs.Words.{AreViewWords, AreWindowWords, IsNumberFrom}
use Rattle.ml_command.specs.declared.command.Command.{Command}
use Rattle.ml_command.specs.declared.command.Command.TheVariants.{OnTable, Check, OnMap, Live, Gen, Follow}
use Rattle.ml_command.specs.declared.command.TableTask.TheVariants.{Show, Slots, Gaps, GapView}
use Rattle.ml_command.specs.declared.command.MapTask.TheVariants.{ViewMap, Zoom}
use Rattle.ml_command.specs.declared.command.LiveTask.TheVariants.{Pipe, Serve}

-- ---- the words behind the name

-- windows with the same parts are the same: each fact of theirs has one proof at most
same_window : (v u : Window) → v.cx ≡ u.cx → v.cy ≡ u.cy → v.w ≡ u.w → v.h ≡ u.h → v ≡ u
same_window v u cx cy w h i = record {
  cx = cx i;
  cy = cy i;
  w = w i;
  h = h i;
  world_x = is_prop→PathP (λ j. IsInWorld (cx j)) (λ j. hlevel props) v.world_x u.world_x i;
  world_y = is_prop→PathP (λ j. IsInWorld (cy j)) (λ j. hlevel props) v.world_y u.world_y i;
  some_w = is_prop→PathP (λ j. 2 ≤ w j) (λ j. hlevel props) v.some_w u.some_w i;
  some_h = is_prop→PathP (λ j. 2 ≤ h j) (λ j. hlevel props) v.some_h u.some_h i;
  low_w = is_prop→PathP (λ j. w j ≤ 4096) (λ j. hlevel props) v.low_w u.low_w i;
  low_h = is_prop→PathP (λ j. h j ≤ 4096) (λ j. hlevel props) v.low_h u.low_h i;
  even_w = is_prop→PathP (λ j. w j % 2 ≡ 0) (λ j. hlevel props) v.even_w u.even_w i;
  even_h = is_prop→PathP (λ j. h j % 2 ≡ 0) (λ j. hlevel props) v.even_h u.even_h i;
}

-- words write one view, one window and one number
view_once : (words others : List (List ℕ)) (v u : View) → words ≡ others → AreViewWords words v → AreViewWords others u → v ≡ u
view_once words others v u same first second =
    let e : first.cx ∷ first.cy ∷ first.w ∷ first.h ∷ first.scale ∷ [] ≡ second.cx ∷ second.cy ∷ second.w ∷ second.h ∷ second.scale ∷ [] = sym first.are ∙ same ∙ second.are in
    let cx : second.cx ≡ first.cx = cc (e) in
    let cy : second.cy ≡ first.cy = cc (e) in
    let w : second.w ≡ first.w = cc (e) in
    let h : second.h ≡ first.h = cc (e) in
    let scale : second.scale ≡ first.scale = cc (e) in
    one_view first.cx first.cy first.w first.h first.scale v u first.writes (rw (cx, cy, w, h, scale) at second.writes)

window_once : (words others : List (List ℕ)) (v u : Window) → words ≡ others → AreWindowWords words v → AreWindowWords others u → v ≡ u
window_once words others v u same first second =
    let e : first.cx ∷ first.cy ∷ first.w ∷ first.h ∷ [] ≡ second.cx ∷ second.cy ∷ second.w ∷ second.h ∷ [] = sym first.are ∙ same ∙ second.are in
    let cx : second.cx ≡ first.cx = cc (e) in
    let cy : second.cy ≡ first.cy = cc (e) in
    let w : second.w ≡ first.w = cc (e) in
    let h : second.h ≡ first.h = cc (e) in
    let views = one_view first.cx first.cy first.w first.h (codes "1") first.view second.view first.writes (rw (cx, cy, w, h) at second.writes) in
    same_window v u
    (first.through.cx_is ∙ ap (λ (view : View). view.cx) views ∙ sym second.through.cx_is)
    (first.through.cy_is ∙ ap (λ (view : View). view.cy) views ∙ sym second.through.cy_is)
    (first.through.w_is ∙ ap (λ (view : View). view.w) views ∙ sym second.through.w_is)
    (first.through.h_is ∙ ap (λ (view : View). view.h) views ∙ sym second.through.h_is)

number_once : (least most : ℕ) (word another : List ℕ) (m n : ℕ) → word ≡ another → IsNumberFrom least most word m → IsNumberFrom least most another n → m ≡ n
number_once least most word another m n same first second = one_side (whole_number another) m n (rw same at first.writes) second.writes

same_name : (one other : Bor (List ℕ)) → one.now ≡ other.now → plain_name one ≡ plain_name other
same_name one other same i = record { ref_ptr = (0, 0); now = same i }

-- ---- the name

-- the eleven names
data Kind : Type 0 where
  of_show : Kind
  of_slots : Kind
  of_gaps : Kind
  of_gapview : Kind
  of_check : Kind
  of_view : Kind
  of_zoom : Kind
  of_pipe : Kind
  of_serve : Kind
  of_gen : Kind
  of_follow : Kind

abbrev kind_of : Command → Kind
kind_of (OnTable table (Show view)) = of_show
kind_of (OnTable table Slots) = of_slots
kind_of (OnTable table Gaps) = of_gaps
kind_of (OnTable table (GapView view)) = of_gapview
kind_of (Check table slots) = of_check
kind_of (OnMap style map (ViewMap view)) = of_view
kind_of (OnMap style map (Zoom window)) = of_zoom
kind_of (Live style map Pipe) = of_pipe
kind_of (Live style map (Serve port count)) = of_serve
kind_of (Gen groups seed) = of_gen
kind_of (Follow states) = of_follow

-- the kind of a name
abbrev kind_named : List ℕ → Kind
kind_named name =
    if bytes_eq name (codes "show") then of_show
    else (if bytes_eq name (codes "slots") then of_slots else (if bytes_eq name (codes "gaps") then of_gaps else (if bytes_eq name (codes "gapview") then of_gapview else
    (if bytes_eq name (codes "check") then of_check else (if bytes_eq name (codes "view") then of_view else (if bytes_eq name (codes "zoom") then of_zoom else
    (if bytes_eq name (codes "pipe") then of_pipe else (if bytes_eq name (codes "serve") then of_serve else (if bytes_eq name (codes "gen") then of_gen else of_follow)))))))))

kind_is : (command : Command) → kind_named (name_of command) ≡ kind_of command
kind_is (OnTable table (Show view)) = refl
kind_is (OnTable table Slots) = refl
kind_is (OnTable table Gaps) = refl
kind_is (OnTable table (GapView view)) = refl
kind_is (Check table slots) = refl
kind_is (OnMap style map (ViewMap view)) = refl
kind_is (OnMap style map (Zoom window)) = refl
kind_is (Live style map Pipe) = refl
kind_is (Live style map (Serve port count)) = refl
kind_is (Gen groups seed) = refl
kind_is (Follow states) = refl

-- what a command of a kind is, as far as these words behind the name tell
abbrev Is : Kind → List (List ℕ) → Command → Type 0
Is of_show rest command = (table : Bor (List ℕ)) × (view : View) × (command ≡ OnTable table (Show view)) × AreRest (OnTable table (Show view)) rest
Is of_slots rest command = (table : Bor (List ℕ)) × (command ≡ OnTable table Slots) × AreRest (OnTable table Slots) rest
Is of_gaps rest command = (table : Bor (List ℕ)) × (command ≡ OnTable table Gaps) × AreRest (OnTable table Gaps) rest
Is of_gapview rest command = (table : Bor (List ℕ)) × (view : View) × (command ≡ OnTable table (GapView view)) × AreRest (OnTable table (GapView view)) rest
Is of_check rest command = (table : Bor (List ℕ)) × (slots : Bor (List ℕ)) × (command ≡ Check table slots) × AreRest (Check table slots) rest
Is of_view rest command = (style : Bor (List ℕ)) × (map : Bor (List ℕ)) × (view : View) × (command ≡ OnMap style map (ViewMap view)) × AreRest (OnMap style map (ViewMap view)) rest
Is of_zoom rest command = (style : Bor (List ℕ)) × (map : Bor (List ℕ)) × (window : Window) × (command ≡ OnMap style map (Zoom window)) × AreRest (OnMap style map (Zoom window)) rest
Is of_pipe rest command = (style : Bor (List ℕ)) × (map : Bor (List ℕ)) × (command ≡ Live style map Pipe) × AreRest (Live style map Pipe) rest
Is of_serve rest command = (style : Bor (List ℕ)) × (map : Bor (List ℕ)) × (port : ℕ) × (count : ℕ) × (command ≡ Live style map (Serve port count)) × AreRest (Live style map (Serve port count)) rest
Is of_gen rest command = (groups : ℕ) × (seed : ℕ) × (command ≡ Gen groups seed) × AreRest (Gen groups seed) rest
Is of_follow rest command = (states : Bor (List ℕ)) × (command ≡ Follow states) × AreRest (Follow states) rest

it_is : (rest : List (List ℕ)) (command : Command) → AreRest command rest → Is (kind_of command) rest command
it_is rest (OnTable table (Show view)) takes = (table, view, refl, takes)
it_is rest (OnTable table Slots) takes = (table, refl, takes)
it_is rest (OnTable table Gaps) takes = (table, refl, takes)
it_is rest (OnTable table (GapView view)) takes = (table, view, refl, takes)
it_is rest (Check table slots) takes = (table, slots, refl, takes)
it_is rest (OnMap style map (ViewMap view)) takes = (style, map, view, refl, takes)
it_is rest (OnMap style map (Zoom window)) takes = (style, map, window, refl, takes)
it_is rest (Live style map Pipe) takes = (style, map, refl, takes)
it_is rest (Live style map (Serve port count)) takes = (style, map, port, count, refl, takes)
it_is rest (Gen groups seed) takes = (groups, seed, refl, takes)
it_is rest (Follow states) takes = (states, refl, takes)

-- ---- the command

same_parts : (rest : List (List ℕ)) (one other : Command) → AreRest one rest → Is (kind_of one) rest other → plain one ≡ plain other
same_parts rest (OnTable table (Show view)) other x (named, seen, is, y) =
    let e : table.now ∷ x.0 ≡ named.now ∷ y.0 = sym x.1 ∙ y.1 in
    ap (λ (t : Bor (List ℕ)). OnTable t (Show view)) (same_name table named (cc (e)))
    ∙ ap (λ (v : View). OnTable (plain_name named) (Show v)) (view_once x.0 y.0 view seen (cc (e)) x.2 y.2) ∙ ap plain (sym is)
same_parts rest (OnTable table Slots) other x (named, is, y) =
    let e : table.now ∷ [] ≡ named.now ∷ [] = sym x ∙ y in
    ap (λ (t : Bor (List ℕ)). OnTable t Slots) (same_name table named (cc (e))) ∙ ap plain (sym is)
same_parts rest (OnTable table Gaps) other x (named, is, y) =
    let e : table.now ∷ [] ≡ named.now ∷ [] = sym x ∙ y in
    ap (λ (t : Bor (List ℕ)). OnTable t Gaps) (same_name table named (cc (e))) ∙ ap plain (sym is)
same_parts rest (OnTable table (GapView view)) other x (named, seen, is, y) =
    let e : table.now ∷ x.0 ≡ named.now ∷ y.0 = sym x.1 ∙ y.1 in
    ap (λ (t : Bor (List ℕ)). OnTable t (GapView view)) (same_name table named (cc (e)))
    ∙ ap (λ (v : View). OnTable (plain_name named) (GapView v)) (view_once x.0 y.0 view seen (cc (e)) x.2 y.2) ∙ ap plain (sym is)
same_parts rest (Check table slots) other x (named, given, is, y) =
    let e : table.now ∷ slots.now ∷ [] ≡ named.now ∷ given.now ∷ [] = sym x ∙ y in
    ap (λ (t : Bor (List ℕ)). Check t (plain_name slots)) (same_name table named (cc (e))) ∙ ap (Check (plain_name named)) (same_name slots given (cc (e))) ∙ ap plain (sym is)
same_parts rest (OnMap style map (ViewMap view)) other x (classes, features, seen, is, y) =
    let e : style.now ∷ map.now ∷ x.0 ≡ classes.now ∷ features.now ∷ y.0 = sym x.1 ∙ y.1 in
    ap (λ (t : Bor (List ℕ)). OnMap t (plain_name map) (ViewMap view)) (same_name style classes (cc (e)))
    ∙ ap (λ (t : Bor (List ℕ)). OnMap (plain_name classes) t (ViewMap view)) (same_name map features (cc (e)))
    ∙ ap (λ (v : View). OnMap (plain_name classes) (plain_name features) (ViewMap v)) (view_once x.0 y.0 view seen (cc (e)) x.2 y.2) ∙ ap plain (sym is)
same_parts rest (OnMap style map (Zoom window)) other x (classes, features, seen, is, y) =
    let e : style.now ∷ map.now ∷ x.0 ≡ classes.now ∷ features.now ∷ y.0 = sym x.1 ∙ y.1 in
    ap (λ (t : Bor (List ℕ)). OnMap t (plain_name map) (Zoom window)) (same_name style classes (cc (e)))
    ∙ ap (λ (t : Bor (List ℕ)). OnMap (plain_name classes) t (Zoom window)) (same_name map features (cc (e)))
    ∙ ap (λ (w : Window). OnMap (plain_name classes) (plain_name features) (Zoom w)) (window_once x.0 y.0 window seen (cc (e)) x.2 y.2) ∙ ap plain (sym is)
same_parts rest (Live style map Pipe) other x (classes, features, is, y) =
    let e : style.now ∷ map.now ∷ [] ≡ classes.now ∷ features.now ∷ [] = sym x ∙ y in
    ap (λ (t : Bor (List ℕ)). Live t (plain_name map) Pipe) (same_name style classes (cc (e)))
    ∙ ap (λ (t : Bor (List ℕ)). Live (plain_name classes) t Pipe) (same_name map features (cc (e))) ∙ ap plain (sym is)
same_parts rest (Live style map (Serve port count)) other x (classes, features, door, most, is, y) =
    let e : style.now ∷ map.now ∷ x.0 ∷ x.1 ∷ [] ≡ classes.now ∷ features.now ∷ y.0 ∷ y.1 ∷ [] = sym x.2 ∙ y.2 in
    ap (λ (t : Bor (List ℕ)). Live t (plain_name map) (Serve port count)) (same_name style classes (cc (e)))
    ∙ ap (λ (t : Bor (List ℕ)). Live (plain_name classes) t (Serve port count)) (same_name map features (cc (e)))
    ∙ ap (λ (n : ℕ). Live (plain_name classes) (plain_name features) (Serve n count)) (number_once 1 65535 x.0 y.0 port door (cc (e)) x.3 y.3)
    ∙ ap (λ (n : ℕ). Live (plain_name classes) (plain_name features) (Serve door n)) (number_once 1 1000000 x.1 y.1 count most (cc (e)) x.4 y.4) ∙ ap plain (sym is)
same_parts rest (Gen groups seed) other x (number, begun, is, y) =
    let e : x.0 ∷ x.1 ∷ [] ≡ y.0 ∷ y.1 ∷ [] = sym x.2 ∙ y.2 in
    ap (λ (n : ℕ). Gen n seed) (number_once 1 6000 x.0 y.0 groups number (cc (e)) x.3 y.3) ∙ ap (Gen number) (number_once 0 4294967295 x.1 y.1 seed begun (cc (e)) x.4 y.4) ∙ ap plain (sym is)
same_parts rest (Follow states) other x (named, is, y) =
    let e : states.now ∷ [] ≡ named.now ∷ [] = sym x ∙ y in
    ap Follow (same_name states named (cc (e))) ∙ ap plain (sym is)

-- words ask for one command
pub one_command : (words : List (List ℕ)) (one other : Command) → Ask words one → Ask words other → plain one ≡ plain other
one_command words one other x y =
    let e : name_of one ∷ x.rest ≡ name_of other ∷ y.rest = sym x.are ∙ y.are in
    let name : name_of one ≡ name_of other = cc (e) in
    let rest : y.rest ≡ x.rest = cc (e) in
    let kinds : kind_of other ≡ kind_of one = sym (kind_is other) ∙ ap kind_named (sym name) ∙ kind_is one in
    same_parts x.rest one other x.takes (subst (λ (k : Kind). Is k x.rest other) kinds (it_is x.rest other (rw rest at y.takes)))
