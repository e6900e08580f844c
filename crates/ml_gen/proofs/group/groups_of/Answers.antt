use Rattle.std.proofs.Common.{◌≡◌, suc, List, [], ◌∷◌, ◌++◌, map, sym, ap, subst, ◌∙◌, add-one, arith}
use Rattle.std.specs.List.{range_with_len}
use Rattle.std.proofs.lemmas.List.Elements.{All-push}
use Rattle.std.proofs.lemmas.List.FromFn.{map-range_with_len_more}
use Rattle.ml_gen.specs.Group.{next_number, number, placed, group_of, IsGroupPlace, HaveOwnNumbers}
use Rattle.ml_gen.specs.declared.group.Group.{Group}
use Rattle.ml_gen.proofs.Orders.{groups_own}
use Rattle.ml_gen.proofs.group.groups_of.Goals as goal

pub loop-number-preserved : goal.loop-number-preserved
loop-number-preserved c =
    let z : c.next_number-z.result ≡ number c.args.seed (suc c.loop-number.number) = c.next_number-z.ensures ∙ ap next_number c.loop-number.invariant.follower in
    let group : c.placed_group.result ≡ group_of c.args.seed c.loop-number.number = c.placed_group.ensures.group ∙ ap (placed c.loop-number.number) z in
    let items : c.push.new.self.items ≡ c.loop-number.groups.items ++ c.placed_group.result ∷ [] = c.in_ok-push.ensures.items in
    record {
      follower = z ∙ ap (number c.args.seed) (sym (add-one c.loop-number.number));
      groups =
          items ∙ ap (λ (gs : List Group). gs ++ c.placed_group.result ∷ []) c.loop-number.invariant.groups
          ∙ ap (λ (last : Group). map (group_of c.args.seed) (range_with_len 0 c.loop-number.number) ++ last ∷ []) group
          ∙ sym (map-range_with_len_more (group_of c.args.seed) 0 c.loop-number.number c.loop-number.number (omega arith));
      near = rw items (All-push IsGroupPlace c.loop-number.groups.items c.placed_group.result c.loop-number.invariant.near c.placed_group.ensures.near);
    }

pub returns-clause-own : goal.returns-clause-own
returns-clause-own c = subst HaveOwnNumbers (sym c.loop-number.invariant.groups) (groups_own c.loop-number.number c.args.seed)
