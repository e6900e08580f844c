use Rattle.std.proofs.Common.{◌∙◌, sym, ap, refl}
use Rattle.std.proofs.lemmas.Bool.{false≢true}
use Rattle.ml_cone.specs.Order.{order_cmp}
use Rattle.ml_cone.specs.declared.label.Label.{Label}
use Rattle.ml_repair.proofs.place.is_before.Goals as goal

pub returns-in-Less : goal.returns-in-Less
returns-in-Less c d =
    let r = c.row.result.now in
    let e = c.row.ensures.label d in
    ((λ t. ap (λ (a : Label). order_cmp a.order c.args.order.now) e ∙ ap (λ o. order_cmp o c.args.order.now) (sym c.order.ensures) ∙ sym c.cmp.ensures ∙ c.in-Less.is), λ h. refl)

pub returns-in_default : goal.returns-in_default
returns-in_default c d =
    let r = c.row.result.now in
    let e = c.row.ensures.label d in (
      (λ t. absurd (false≢true t)),
      λ h. absurd (c.in_default.not-Less (c.cmp.ensures ∙ ap (λ o. order_cmp o c.args.order.now) c.order.ensures ∙ sym (ap (λ (a : Label). order_cmp a.order c.args.order.now) e) ∙ h)),
    )
