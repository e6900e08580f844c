use Rattle.std.proofs.Common.{◌≡◌, ◌≤◌, ◌↔◌, length, rules, sym, subst, List, is_lt}
use Rattle.std.specs.Prelude.{AllPairs}
use Rattle.std.specs.List.Sorted.{IsSortedBy}
use Rattle.std.proofs.lemmas.List.Sorted.{answers_always, IsPermutation-sym}
use Rattle.std.proofs.lemmas.Result.{IfOk-weaker}
use Rattle.ml_ratio.specs.Fraction.{Fraction, value_of}
use Rattle.ml_cone.specs.declared.view.View.{View}
use Rattle.ml_flight.specs.Shown.{IsShownAt, IsShownBy}
use Rattle.ml_flight.specs.Window.{IsViewThrough}
use Rattle.ml_flight.specs.Stay.{HoldsScale, HaveScale, BeginsBy, AreApart, begin_of}
use Rattle.ml_flight.specs.Stays.{AreMaximal}
use Rattle.ml_flight.specs.declared.stay.Stay.{Stay}
use Rattle.ml_ratio.proofs.lemmas.Anys.{any_permutation}
use Rattle.ml_flight.proofs.Convex.{one_stay}
use Rattle.ml_flight.proofs.Maximal.{apart_maximal}
use Rattle.ml_flight.proofs.Results.{ok_both}
use Rattle.ml_flight.proofs.Places.{place_cmp}
use Rattle.ml_flight.proofs.Sorting.{sorted_begin_by}
use Rattle.ml_flight.proofs.Viewing.{shown_by_view}
use Rattle.ml_flight.proofs.timeline.stays.Goals as goal

pub joined-requires : goal.joined-requires
joined-requires c =
    let sorted : IsSortedBy (λ x y. is_lt (place_cmp (begin_of x) (begin_of y))) c.sort_unstable_by_key.new.self.items =
    c.sort_unstable_by_key.ensures.sorted begin_of (answers_always _ (λ a r. r ≡ begin_of a.0.now) _ (λ f a r f' k. search rules)) in
    subst (λ (l : List Stay). AllPairs BeginsBy l) (sym c.as_slice.ensures.value) (sorted_begin_by c.sort_unstable_by_key.new.self.items sorted)

pub returns-clause-scales : goal.returns-clause-scales
returns-clause-scales c =
    let before = c.in_ok-pieces.pieces.items in
    let after = c.sort_unstable_by_key.new.self.items in
    let pieces : (s : Fraction) → IsShownAt c.args.label.now c.args.span.now c.args.at.now s ↔ HaveScale c.as_slice.result.now s =
    λ s. rw c.as_slice.ensures.value (
      λ h. any_permutation (λ a. HoldsScale a s) before after c.sort_unstable_by_key.ensures.permutation ((c.in_ok-pieces.ensures s).0 h),
      λ h. (c.in_ok-pieces.ensures s).1 (any_permutation (λ a. HoldsScale a s) after before (IsPermutation-sym before after c.sort_unstable_by_key.ensures.permutation) h),
    ) in
    IfOk-weaker c.joined.result (λ l. (s : Fraction) → HaveScale l s ↔ HaveScale c.as_slice.result.now s)
    (λ l. (s : Fraction) → IsShownAt c.args.label.now c.args.span.now c.args.at.now s ↔ HaveScale l s)
    (λ l same s. (λ h. (same s).1 ((pieces s).0 h), λ h. (pieces s).1 ((same s).0 h))) c.joined.ensures.same

pub returns-clause-stays : goal.returns-clause-stays
returns-clause-stays c =
    ok_both c.joined.result (λ l. (s : Fraction) → IsShownAt c.args.label.now c.args.span.now c.args.at.now s ↔ HaveScale l s) AreApart
    (AreMaximal (IsShownAt c.args.label.now c.args.span.now c.args.at.now))
    (λ l scales apart. apart_maximal l apart (IsShownAt c.args.label.now c.args.span.now c.args.at.now) scales) (returns-clause-scales c) c.joined.ensures.apart

pub returns-clause-views : goal.returns-clause-views
returns-clause-views c =
    IfOk-weaker c.joined.result (λ l. (s : Fraction) → IsShownAt c.args.label.now c.args.span.now c.args.at.now s ↔ HaveScale l s)
    (λ l. (view : View) → IsViewThrough c.args.at.now view → IsShownBy c.args.label.now c.args.span.now view ↔ HaveScale l (value_of view.scale))
    (λ l scales view same.
    let by_view = shown_by_view c.args.label.now c.args.span.now c.args.at.now view same in
    let here = scales (value_of view.scale) in
    (λ h. here.0 (by_view.0 h), λ h. by_view.1 (here.1 h)))
    (returns-clause-scales c)

pub returns-clause-single : goal.returns-clause-single
returns-clause-single c one =
    IfOk-weaker c.joined.result (AreMaximal (IsShownAt c.args.label.now c.args.span.now c.args.at.now)) (λ l. length l ≤ 1)
    (λ l are. one_stay c.args.label.now c.args.span.now c.args.at.now l one are) (returns-clause-stays c)
