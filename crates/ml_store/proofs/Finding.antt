-- What the grid finds, said of rows.
use Rattle.std.proofs.Common.{◌≡◌, ℕ, ◌<◌, ◌≤◌, List, [], get_or, Contains, inl, inr, refl, sym, ◌∙◌, subst, arith, Result, Ok, Err}
use Rattle.std.specs.Prelude.{◌↔◌, All, OnOk, IfOk}
use Rattle.std.proofs.lemmas.List.Kept.{AllPairs-from_increasing}
use Rattle.std.proofs.lemmas.List.Elements.{All-contains}
use Rattle.ml_ratio.specs.Fraction.{value_of}
use Rattle.ml_ratio.specs.declared.ratio.Ratio.{Ratio}
use Rattle.ml_spans.specs.Spans.{entry_of}
use Rattle.ml_cone.specs.Choice.{IsEnd, ActiveUntil}
use Rattle.ml_cone.specs.Cell.{IsInCell}
use Rattle.ml_cone.specs.Shown.{IsInView}
use Rattle.ml_cone.specs.Outline.{OverlapIn, IsWithin, IsKeptAmong, HoldOverlapped}
use Rattle.ml_cone.specs.declared.cells.Cells.{Cells}
use Rattle.ml_cone.specs.declared.label.Label.{Label}
use Rattle.ml_cone.specs.declared.outline.Outline.{Outline}
use Rattle.ml_cone.specs.declared.view.View.{View}
use Rattle.ml_grid.specs.Cell.{cell_of}
use Rattle.ml_grid.specs.Entry.{Entry, AreEntriesOf}
use Rattle.ml_grid.specs.Found.{IsAmong, IsNumberOf, HasEntry, IsInHull, IsSeen, AppendsNumbers, Finds}
use Rattle.ml_grid.specs.Column.{IsAmongFrom}
use Rattle.ml_grid.specs.Near.{IsNear}
use Rattle.ml_store.specs.Rows.{HaveOwnNumbers, IsLive}
use Rattle.ml_store.specs.Search.{IsFoundIn, IsNumberWith, Gathers, AreOverlapping, AreAcross, NoneOverlaps, AreNearNumbers}
use Rattle.ml_store.specs.Store.{IsIndex, IsEntryIn, AreWithin}
use Rattle.ml_store.specs.declared.row.Row.{Row}
use Rattle.ml_store.proofs.Fresh.{fresh_removed}
use Rattle.ml_store.proofs.Index.{index_its, entry_number}
use Rattle.ml_ratio.proofs.lemmas.Lists.{added_remove}

-- what is true where there is a result may be said in weaker words
pub on_ok : {A E : Type 0} (r : Result A E) (P Q : Type 0) → (P → Q) → OnOk r P → OnOk r Q
on_ok (Ok a) P Q f h = f h
on_ok (Err e) P Q f h = h

-- what is true of a result where there is one may be said in weaker words
pub if_ok : {A E : Type 0} (r : Result A E) (P Q : A → Type 0) → ((x : A) → P x → Q x) → IfOk r P → IfOk r Q
if_ok (Ok x) P Q f h = f x h
if_ok (Err e) P Q f h = h

-- where there is an error, whatever is said for the case of a result is true
pub on_err : {A E : Type 0} (r : Result A E) (e : E) (P : Type 0) → r ≡ Err e → OnOk r P
on_err r e P is = rw is tt

-- an entry in a label's hull is of a row that a search for the label finds
found_here : (a : Label) (k : ℕ) (e : Entry) (r : Row) → IsInHull a k e → IsEntryIn r e → IsFoundIn a r.label k
found_here a k e r in' its = record {
  x = e.key.x;
  y = e.key.y;
  among = in'.1;
  kept = subst (λ (b : ℕ). IsInCell r.label b e.key.x e.key.y) in'.0 its.in_cell;
}

module _ (rows : List Row) (entries : List Entry) (kept : IsIndex IsEntryIn rows entries) where
  -- the numbers found in a label's hull are those of rows kept there
  hull_row : (a : Label) (k n : ℕ) → IsNumberOf (IsInHull a k) entries n → IsNumberWith (λ r. IsFoundIn a r.label k) rows n
  hull_row a k n h =
      let e = h.0 in
      let some = (kept e).0 h.1 in
      let r : Row = some.0 in (
        r,
        some.1,
        sym some.2.its_number ∙ h.2,
        found_here a k e r h.3 some.2,
      )

  row_hull : (a : Label) (k n : ℕ) → IsNumberWith (λ r. IsFoundIn a r.label k) rows n → IsNumberOf (IsInHull a k) entries n
  row_hull a k n h =
      let r : Row = h.0 in
      let f = h.3 in
      let e = entry_of (cell_of k f.x f.y) r.slot.until r.number in
      (e, (kept e).1 (r, h.1, record { in_cell = f.kept; its_end = refl; its_number = refl }), h.2, (refl, f.among))

  -- where labels within an outline are kept that a label overlaps, their numbers are found
  pub found_overlapping : (o : Outline) → AreWithin o rows → (a : Label) (k : ℕ) (scale : Ratio) (cells : Cells) → ((b : Label) → IsWithin o b → OverlapIn a b k → IsKeptAmong cells b) →
      (numbers : List ℕ) → ((n : ℕ) → Contains numbers n ↔ IsNumberOf (IsAmongFrom cells scale) entries n) → AreOverlapping rows a k scale numbers
  found_overlapping o within a k scale cells whole numbers found r there over lasts =
      let f = whole r.label (All-contains (λ (s : Row). IsWithin o s.label) rows r within there) over in
      let e = entry_of (cell_of cells.band f.x f.y) r.slot.until r.number in
      (found r.number).1 (e, (kept e).1 (r, there, record { in_cell = f.kept; its_end = refl; its_number = refl }), refl, ((refl, f.among), lasts))

  -- and where that holds in several bands, those of all that it overlaps there
  pub found_across : (o : Outline) → AreWithin o rows → (a : Label) (k m : ℕ) (cells : Cells) → ((b : Label) (n : ℕ) → IsWithin o b → k ≤ n → n < m → OverlapIn a b n → IsKeptAmong cells b) →
      (numbers : List ℕ) → ((n : ℕ) → Contains numbers n ↔ IsNumberOf (IsAmong cells) entries n) → AreAcross rows a k m numbers
  found_across o within a k m cells whole numbers found r n there from upto over =
      let f = whole r.label n (All-contains (λ (s : Row). IsWithin o s.label) rows r within there) from upto over in
      let e = entry_of (cell_of cells.band f.x f.y) r.slot.until r.number in
      (found r.number).1 (e, (kept e).1 (r, there, record { in_cell = f.kept; its_end = refl; its_number = refl }), refl, (refl, f.among))

  -- where no entry of such a cell lasts long enough, none of these labels does
  pub clear_of : (o : Outline) → AreWithin o rows → (a : Label) (k m : ℕ) (scale : Ratio) (cells : Cells) →
      HoldOverlapped o a k m cells → ¬ (HasEntry (IsAmongFrom cells scale) entries) → NoneOverlaps rows a k m scale
  clear_of o within a k m scale cells whole none r n there from upto over lasts =
      let f = whole r.label n (All-contains (λ (s : Row). IsWithin o s.label) rows r within there) from upto over in
      let e = entry_of (cell_of cells.band f.x f.y) r.slot.until r.number in
      none (e, (kept e).1 (r, there, record { in_cell = f.kept; its_end = refl; its_number = refl }), ((refl, f.among), lasts))

  -- each number that is found in cells is a row's
  pub found_live : (cells : Cells) (scale : Ratio) (numbers : List ℕ) → ((n : ℕ) → Contains numbers n ↔ IsNumberOf (IsAmongFrom cells scale) entries n) → (n : ℕ) → Contains numbers n → IsLive rows n
  found_live cells scale numbers found n there =
      let h = (found n).0 there in
      let some = (kept h.0).0 h.1 in
      (some.0, some.1, sym some.2.its_number ∙ h.2)

  -- the numbers that come in from a label's hull are those of the rows that a search for the label finds
  pub found_near : (a : Label) (k : ℕ) (before after : List ℕ) → Finds (IsInHull a k) entries before after → Gathers (IsNumberWith (λ r. IsFoundIn a r.label k) rows) before after
  found_near a k before after found n = (
    λ c. elim ((found n).0 c) [ inl old ↦ inl old | inr new ↦ inr (hull_row a k n new) ],
    λ h. (found n).1 (elim h [ inl old ↦ inl old | inr new ↦ inr (row_hull a k n new) ]),
  )

  -- a row's entries are those with its number
  pub entries_of_row : HaveOwnNumbers rows → (r : Row) → Contains rows r → AreEntriesOf r.number r.label r.slot.until entries
  entries_of_row differ r there =
      let read : r ≡ get_or rows there.0 r = sym there.2 in
      index_its (λ (e : Entry). e.value) IsEntryIn entry_number entries (added_remove rows there.0 r there.1 read) (fresh_removed rows there.0 r differ there.1 read) kept

  -- the numbers of the entries that a view sees are those of the rows near it, each once
  pub found_seen : HaveOwnNumbers rows → All (λ r. IsEnd r.label (value_of r.slot.until)) rows → (v : View) →
      ((a : Label) (n : ℕ) (u : Ratio) (es : List Entry) (w : View) → IsEnd a (value_of u) → AreEntriesOf n a u es → IsNumberOf (IsSeen w) es n ↔ IsNear a u w) →
      (numbers : List ℕ) → AppendsNumbers (IsSeen v) entries [] numbers → AreNearNumbers rows v numbers
  found_seen differ ends v law numbers app =
      let is : numbers ≡ app.0 = app.1 in
      let the = app.2 in
      record {
        differ = rw is (λ i j d less lt e. (let below = AllPairs-from_increasing app.0 the.ascending i j d less lt in omega arith));
        near = λ n. (
          λ c.
              let seen = the.sound n (subst (λ (l : List ℕ). Contains l n) is c) in
              let some = (kept seen.0).0 seen.1 in
              let r : Row = some.0 in
              let e : r.number ≡ n = sym some.2.its_number ∙ seen.2 in (
                r,
                some.1,
                e,
                (law r.label r.number r.slot.until entries v (All-contains (λ (s : Row). IsEnd s.label (value_of s.slot.until)) rows r ends some.1) (entries_of_row differ r some.1)).0
                    (subst (IsNumberOf (IsSeen v) entries) (sym e) (seen.0, seen.1, seen.2, seen.3)),
              ),
          λ h.
              let r : Row = h.0 in
              subst (λ (l : List ℕ). Contains l n) (sym is) (the.whole n (subst (IsNumberOf (IsSeen v) entries) h.2
              ((law r.label r.number r.slot.until entries v (All-contains (λ (s : Row). IsEnd s.label (value_of s.slot.until)) rows r ends h.1) (entries_of_row differ r h.1)).1 h.3))),
        );
      }

  -- and among them are those of all rows that are active at the view's scale and in the view
  pub found_shown : HaveOwnNumbers rows → All (λ r. IsEnd r.label (value_of r.slot.until)) rows → (v : View) →
      ((a : Label) (n : ℕ) (u : Ratio) (es : List Entry) (w : View) → IsEnd a (value_of u) → AreEntriesOf n a u es → ActiveUntil a (value_of u) (value_of w.scale) →
      IsInView a w → IsNumberOf (IsSeen w) es n) → (numbers : List ℕ) → AppendsNumbers (IsSeen v) entries [] numbers → (r : Row) →
      Contains rows r → ActiveUntil r.label (value_of r.slot.until) (value_of v.scale) → IsInView r.label v → Contains numbers r.number
  found_shown differ ends v law numbers app r there active meets =
      subst (λ (l : List ℕ). Contains l r.number) (sym app.1) (app.2.whole r.number
      (law r.label r.number r.slot.until entries v (All-contains (λ (s : Row). IsEnd s.label (value_of s.slot.until)) rows r ends there) (entries_of_row differ r there) active meets))
