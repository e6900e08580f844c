use Rattle.std.proofs.Common.{◌≡◌, ℕ, List, [], ◌∷◌, ◌++◌, length, map, sym, ap, subst, ◌∙◌, arith}
use Rattle.std.specs.List.{range_with_len}
use Rattle.std.proofs.lemmas.List.Elements.{All-push}
use Rattle.std.proofs.lemmas.List.FromFn.{map-range_with_len_more}
use Rattle.ml_gen.specs.Group.{group_in_turn, IsGroupPlace, HaveOwnNumbers}
use Rattle.ml_gen.specs.declared.group.Group.{Group}
use Rattle.ml_gen.proofs.Orders.{order_own}
use Rattle.ml_gen.proofs.group.order_of.Goals as goal

pub loop-e-preserved : goal.loop-e-preserved
loop-e-preserved c =
    let f : ℕ → Group = group_in_turn (length c.args.groups.now) c.args.seed in
    let items : c.push.new.self.items ≡ c.loop-e.found.items ++ c.group_at.result ∷ [] = c.in_ok-push.ensures.items in
    record {
      found =
          items ∙ ap (λ (gs : List Group). gs ++ c.group_at.result ∷ []) c.loop-e.invariant.found
          ∙ ap (λ (last : Group). map f (range_with_len 0 c.loop-e.e) ++ last ∷ []) c.group_at.ensures.is
          ∙ sym (map-range_with_len_more f 0 c.loop-e.e c.loop-e.e (omega arith));
      placed = rw items (All-push IsGroupPlace c.loop-e.found.items c.group_at.result c.loop-e.invariant.placed c.group_at.ensures.placed);
    }

pub returns-clause-own : goal.returns-clause-own
returns-clause-own c = subst HaveOwnNumbers (sym c.loop-e.invariant.found) (order_own (length c.args.groups.now) c.args.seed c.loop-e.e (omega arith))
