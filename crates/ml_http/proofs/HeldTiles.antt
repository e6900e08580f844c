-- The bodies of tiles that are held stay right while a map is edited.
use Rattle.std.proofs.Common.{◌≡◌, ℕ, ◌<◌, List, [], ◌∷◌, length, map, get_or, Contains, All, ◌⊎◌, inl, inr, refl, sym, ap, subst, ◌∙◌, arith}
use Rattle.std.specs.declared.cmp.Ordering.TheVariants.{Less}
use Rattle.std.proofs.lemmas.List.{get_or_default, get_or-map, length-map}
use Rattle.std.proofs.lemmas.List.Elements.{All-contains, All-cons, All-nil}
use Rattle.ml_ratio.specs.Fraction.{value_of}
use Rattle.ml_cone.specs.Range.{ActiveBetween}
use Rattle.ml_cone.specs.Shown.{IsInView}
use Rattle.ml_cone.specs.Order.{order_cmp}
use Rattle.ml_cone.specs.Slots.{no_slot}
use Rattle.ml_cone.specs.declared.view.View.{View}
use Rattle.ml_watch.specs.declared.change.Change.{Change}
use Rattle.ml_store.specs.Rows.{labels_in, slots_in}
use Rattle.ml_store.specs.declared.row.Row.{Row}
use Rattle.ml_ratio.proofs.lemmas.Lists.{contains_map, map_contains}
use Rattle.ml_repair.specs.Changes.{AreChanges, IsChanged, StandsAmong, span_of}
use Rattle.ml_repair.specs.Settled.{IsSettled}
use Rattle.ml_answer.specs.View.{view_text}
use Rattle.ml_editor.specs.State.{State}
use Rattle.ml_tile.specs.Cache.{ShowsIn}
use Rattle.ml_tile.specs.Tile.{IsTileView}
use Rattle.ml_tile.specs.declared.key.TileKey.{TileKey}
use Rattle.ml_answer.specs.MapView.{AreRowsOf, AreShownRows, shown_of}
use Rattle.ml_http.specs.Step.{IsTileText}
use Rattle.ml_http.specs.TileWork.{ShowsId, ShowsChanges}
use Rattle.ml_label.proofs.lemmas.SameLabels.{same_labels}
use Rattle.ml_label.proofs.lemmas.SameLists.{here, later}
use Rattle.ml_http.proofs.SameReplies.{OneLabel}
use Rattle.ml_http.proofs.SameViews.{OneLongest, same_untils}
use Rattle.ml_http.proofs.ShownRows.{ShowsRow, AreJustShown, just_shown, rows_shown}

-- what stays where no change has the id
abbrev pub StaysAfter : Type 0
StaysAfter = (before after : List Row) (changes : List Change) (row : Row) → AreChanges (labels_in before) (slots_in before)
    (labels_in after) (slots_in after) changes → Contains before row → ¬ (IsChanged changes row.label.order.id) → StandsAmong after row

-- the other way round: what stands after an edit and whose id no change has stood there before
abbrev pub StaysBefore : Type 0
StaysBefore = (before after : List Row) (changes : List Change) (row : Row) → AreChanges (labels_in before) (slots_in before)
    (labels_in after) (slots_in after) changes → Contains after row → ¬ (IsChanged changes row.label.order.id) → StandsAmong before row

-- no two rows have one id
abbrev pub OneAnId : Type 0
OneAnId = (rows : List Row) (one other : Row) → IsSettled rows → Contains rows one → Contains rows other → one.label.order.id ≡ other.label.order.id → one ≡ other

-- a row that is shown in the view of a tile is shown in the tile
shows_in : (key : TileKey) (view : View) (row : Row) → IsTileView key.z key.i key.j view → ShowsRow view row → ShowsIn row.label (span_of row) key
shows_in key view row is shows = (view, is, shows.0, shows.1)

-- rows for others of the same labels and ends
partners : (rows shown : List Row) → ((r : Row) → Contains shown r → StandsAmong rows r) → (found : List Row) × All (Contains rows) found × (map shown_of found ≡ map shown_of shown)
partners rows [] among = ([], All-nil (Contains rows), refl)
partners rows (r ∷ shown) among =
    let one = among r (here r shown) in
    let rest = partners rows shown (λ x there. among x (later r x shown there)) in
    let same : shown_of one.0 ≡ shown_of r = λ i. record { label = one.2 i; until = one.3 i } in (
      one.0 ∷ rest.0,
      All-cons (Contains rows) one.0 rest.0 one.1 rest.1,
      ap (λ s. s ∷ map shown_of rest.0) same ∙ ap (λ ss. shown_of r ∷ ss) rest.2,
    )

shows_same : (view : View) (a b : Row) → a.label ≡ b.label → a.slot.until ≡ b.slot.until → ShowsRow view a → ShowsRow view b
shows_same view a b label until shows =
    subst (λ u. ActiveBetween (value_of b.label.min) (value_of u) (value_of view.scale) × IsInView b.label view) until
    (subst (λ l. ActiveBetween (value_of l.min) (value_of a.slot.until) (value_of view.scale) × IsInView l view) label shows)

-- rows that show the same and of which those that are shown stand in both
module _ (one_an_id : OneAnId) (rows others : List Row) (settled : IsSettled rows) (settled_others : IsSettled others) (view : View)
    (over : (r : Row) → Contains rows r → ShowsRow view r → StandsAmong others r) (back : (r : Row) → Contains others r → ShowsRow view r → StandsAmong rows r)
    (shown : List Row) (are : AreShownRows rows view shown) where
  just : AreJustShown rows view shown
  just = just_shown rows view shown settled are

  found : (found : List Row) × All (Contains others) found × (map shown_of found ≡ map shown_of shown)
  found = partners others shown (λ r there. over r (just.among r there) (just.sound r there))

  sizes : length found.0 ≡ length shown
  sizes = sym (length-map found.0 shown_of) ∙ ap length found.2 ∙ length-map shown shown_of

  label_of : (k : ℕ) (d e : Row) → k < length found.0 → (get_or found.0 k d).label ≡ (get_or shown k e).label
  label_of k d e lt =
      let k_in : k < length shown = omega (arith, lt, sizes) in
      ap (λ s. s.label)
      (sym (get_or-map shown_of found.0 k d (shown_of d) lt) ∙ ap (λ ss. get_or ss k (shown_of d)) found.2 ∙ get_or-map shown_of shown k e (shown_of d) k_in)

  -- the partner of a row that is shown
  its_partner : (r : Row) → Contains shown r → (q : Row) × Contains found.0 q × (q.label ≡ r.label)
  its_partner r there =
      let lt : there.0 < length found.0 = omega (arith, there.1, sizes) in
      let q : Row = get_or found.0 there.0 r in
      (q, (there.0, lt, get_or_default found.0 there.0 q r lt), label_of there.0 r r lt ∙ ap (λ x. x.label) there.2)

  its_source : (q : Row) → Contains found.0 q → (r : Row) × Contains shown r × (shown_of q ≡ shown_of r)
  its_source q there =
      let in_map = contains_map shown_of found.0 q there in
      let source = map_contains shown_of shown (shown_of q) (subst (λ ss. Contains ss (shown_of q)) found.2 in_map) in
      (source.0, source.1, sym source.2)

  just_found : AreJustShown others view found.0
  just_found = record {
    among = λ q there. All-contains (Contains others) found.0 q found.1 there;
    ascend = λ j i d lt within.
        let j_in : j < length found.0 = omega (arith, lt, within) in
        let up = just.ascend j i d lt (omega (arith, within, sizes)) in
        subst (λ l. order_cmp (get_or found.0 j d).label.order l.order ≡ Less) (sym (label_of i d d within))
        (subst (λ l. order_cmp l.order (get_or shown i d).label.order ≡ Less) (sym (label_of j d d j_in)) up);
    sound = λ q there.
        let source = its_source q there in
        shows_same view source.0 q (sym (ap (λ s. s.label) source.2)) (sym (ap (λ s. s.until) source.2)) (just.sound source.0 source.1);
    whole = λ q there shows.
        let r = back q there shows in
        let in_shown = just.whole r.0 r.1 (shows_same view q r.0 (sym r.2) (sym r.3) shows) in
        let partner = its_partner r.0 in_shown in
        let same : partner.0 ≡ q = one_an_id others partner.0 q settled_others (All-contains (Contains others) found.0 partner.0 found.1 partner.1) there (ap (λ l. l.order.id) (partner.2 ∙ r.2)) in
        subst (Contains found.0) same partner.1;
  }

  -- the view shows as many of the other rows, with the same labels and ends, one for one
  pub shown_there : (found : List Row) × AreShownRows others view found × (map shown_of found ≡ map shown_of shown)
  shown_there = (found.0, rows_shown others settled_others view found.0 found.1 just_found, found.2)

-- rows of one list of labels with its longest choice
module _ (longest : OneLongest) (rows others : List Row) (settled : IsSettled rows) (settled_others : IsSettled others) (labels : labels_in rows ≡ labels_in others) where
  stands_too : (r : Row) → Contains rows r → StandsAmong others r
  stands_too r there =
      let p : ℕ = there.0 in
      let many : length (labels_in rows) ≡ length rows = length-map rows (λ x. x.label) in
      let many_others : length (labels_in others) ≡ length others = length-map others (λ x. x.label) in
      let p_in : p < length others = omega (arith, there.1, many, many_others, ap length labels) in
      let q : Row = get_or others p r in
      let at_q : get_or others p q ≡ q = get_or_default others p q r p_in in
      let until = same_untils longest rows others settled settled_others labels p (omega (arith, there.1, many)) in (
        q,
        (p, p_in, at_q),
        sym (get_or-map (λ x. x.label) others p r r.label p_in) ∙ ap (λ ls. get_or ls p r.label) (sym labels) ∙ get_or-map (λ x. x.label) rows p r r.label there.1 ∙ ap (λ x. x.label) there.2,
        ap (λ s. s.until) (sym (get_or-map (λ x. x.slot) others p r no_slot p_in)) ∙ sym until ∙ ap (λ s. s.until) (get_or-map (λ x. x.slot) rows p r no_slot there.1 ∙ ap (λ x. x.slot) there.2),
      )

among_again : (rows : List Row) (a b : Row) → a.label ≡ b.label → a.slot.until ≡ b.slot.until → StandsAmong rows a → StandsAmong rows b
among_again rows a b label until there = (there.0, there.1, there.2 ∙ label, there.3 ∙ until)

module _ (one : OneLabel) (longest : OneLongest) (stays_after : StaysAfter) (stays_before : StaysBefore) (one_an_id : OneAnId)
    (s t : State) (before after : List Row) (changes : List Change) (of_s : AreRowsOf s before) (of_t : AreRowsOf t after)
    (are : AreChanges (labels_in before) (slots_in before) (labels_in after) (slots_in after) changes) where
  -- the id of a label that is shown in a tile that shows no change is in no change
  no_change : (key : TileKey) (row : Row) → ¬ (ShowsChanges before after changes key) →
      ShowsId before row.label.order.id key ⊎ ShowsId after row.label.order.id key → ¬ (IsChanged changes row.label.order.id)
  no_change key row none shows (change, there, same) =
      none (
        change,
        there,
        elim shows [
          | inl old ↦ inl (subst (λ id. ShowsId before id key) (sym same) old)
          | inr new ↦ inr (subst (λ id. ShowsId after id key) (sym same) new)
        ],
      )

  -- the body of a tile that shows no change stays right
  pub text_stays : (key : TileKey) (text : List ℕ) → ¬ (ShowsChanges before after changes key) → IsTileText s key text → IsTileText t key text
  text_stays key text none right =
      let view : View = right.0 in
      let is = right.1 in
      let rows : List Row = right.2.0 in
      let of_rows = right.2.1 in
      let shown : List Row = right.2.2.0 in
      let are_shown = right.2.2.1 in
      let made = right.2.2.2 in
      let labels : labels_in rows ≡ labels_in before = same_labels one s.style s.features s.features (labels_in rows) (labels_in before) of_rows.labels of_s.labels (λ f. (λ x. x, λ x. x)) in
      let over : (r : Row) → Contains rows r → ShowsRow view r → StandsAmong after r = λ r there shows.
      let b = stands_too longest rows before of_rows.settled of_s.settled labels r there in
      let b_shows = shows_same view r b.0 (sym b.2) (sym b.3) shows in
      let unchanged = no_change key b.0 none (inl (b.0, b.1, refl, shows_in key view b.0 is b_shows)) in
      among_again after b.0 r b.2 b.3 (stays_after before after changes b.0 are b.1 unchanged) in
      let back : (r : Row) → Contains after r → ShowsRow view r → StandsAmong rows r = λ r there shows.
      let unchanged = no_change key r none (inr (r, there, refl, shows_in key view r is shows)) in
      let b = stays_before before after changes r are there unchanged in
      among_again rows b.0 r b.2 b.3 (stands_too longest before rows of_s.settled of_rows.settled (sym labels) b.0 b.1) in
      let found = shown_there one_an_id rows after of_rows.settled of_t.settled view over back shown are_shown in
      (view, is, (after, of_t, (found.0, found.1, made ∙ ap (view_text view.scale) (sym found.2))))
