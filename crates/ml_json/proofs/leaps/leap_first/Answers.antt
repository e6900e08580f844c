use Rattle.std.proofs.Common.{◌≡◌, ◌∷◌, ◌∙◌, ◌++◌, [], List, ap, sym, subst}
use Rattle.ml_json.specs.Machine as m
use Rattle.ml_json.specs.Tree.{Tree, num, none, more}
use Rattle.ml_json.specs.State.{mode_of, frames_of}
use Rattle.ml_json.specs.Lent.{lent_of, lents_view}
use Rattle.ml_json.specs.Leaps.{PlainNumber, PlainScalar, a_number, here}
use Rattle.ml_json.specs.declared.lent.Lent.{Lent}
use Rattle.ml_json.proofs.FrameLemmas.{frames_push}
use Rattle.ml_json.proofs.ViewLemmas.{tree_num}
use Rattle.ml_json.proofs.LeapLemmas.{first_leaps}
use Rattle.ml_json.proofs.leaps.leap_first.Goals as goal

-- a list of one item
one_item : (items before : List Lent) (x : Lent) → items ≡ before ++ x ∷ [] → before ≡ [] → lents_view items ≡ more (lent_of x) none
one_item items before x e f = ap lents_view (e ∙ ap (λ (vs : List Lent). vs ++ x ∷ []) f)

pub returns-in_default : goal.returns-in_default
returns-in_default c = here

pub returns-in_default-behind : goal.returns-in_default-behind
returns-in_default-behind c = here

pub returns : goal.returns
returns c =
    let st = frames_of c.args.frames.now.items in
    let rest = c.in-Some-behind.rest.now in
    let number : PlainScalar (num c.in-Some.text) c.args.bytes.now (44 ∷ rest) = a_number (subst (PlainNumber c.in-Some.text c.args.bytes.now) c.in-Some-behind.ensures c.in-Some.ensures) in
    let items = one_item _ _ _ c.in_ok-push.ensures.items c.new-items.ensures.items in
    let pushed : frames_of c.push-2.new.self.items ≡ m.in_list (more (lent_of _) none) ∷ st =
    ap frames_of c.in_ok-push-2.ensures.items ∙ frames_push c.args.frames.now.items _ ∙ ap (λ ts. m.in_list ts ∷ st) items in
    first_leaps (mode_of c.args.mode.now) st (frames_of c.push-2.new.self.items) c.requires.first c.requires.shallow rest
    (subst (λ (v : Tree). PlainScalar v c.args.bytes.now (44 ∷ rest)) (sym (tree_num c.in-Some.text)) number) pushed
