-- How what a watcher was told grows.
use Rattle.std.proofs.Common.{◌≡◌, ℕ, List, [], ◌∷◌, ◌++◌, flat_map, Option, Some, None, refl, sym, ap, ◌∙◌, append_assoc, append-nil}
use Rattle.std.proofs.lemmas.Grind.{flat_map-append}
use Rattle.ml_ratio.specs.Count.{one_more}
use Rattle.ml_io.specs.Causes.{Appends}
use Rattle.ml_watch.specs.declared.change.Change.{Change}
use Rattle.ml_watch.specs.Hearing.{Hearing, Grew, heard_after}
use Rattle.ml_watch.specs.Line.{change_line}

-- a piece at the end and then another are the two together
pub appends_twice : {X : Type 0} (a b c : Option (List X)) (p q : List X) → Appends a b p → Appends b c q → Appends a c (p ++ q)
appends_twice None b c p q first second = rw first at second
appends_twice (Some xs) b c p q first second = (rw first at second) ∙ ap Some (append_assoc xs p q)

-- what stays as it is has got nothing at its end
pub appends_nothing : {X : Type 0} (a : Option (List X)) → Appends a a []
appends_nothing None = refl
appends_nothing (Some xs) = ap Some (sym (append-nil xs))

heard_twice : (heard : ℕ) (xs ys : List Change) → heard_after (heard_after heard xs) ys ≡ heard_after heard (xs ++ ys)
heard_twice heard [] ys = refl
heard_twice heard (x ∷ xs) ys = heard_twice (one_more heard) xs ys

lines_twice : (xs ys : List Change) (part : List ℕ) → flat_map change_line (xs ++ ys) ++ part ≡ (flat_map change_line xs ++ []) ++ (flat_map change_line ys ++ part)
lines_twice xs ys part =
    ap (λ t. t ++ part) (flat_map-append change_line xs ys)
    ∙ append_assoc (flat_map change_line xs) (flat_map change_line ys) part
    ∙ ap (λ t. t ++ (flat_map change_line ys ++ part)) (sym (append-nil (flat_map change_line xs)))

-- a watcher that tells the same as before was told nothing
pub grew_nothing : (a : Hearing) → Grew a a [] []
grew_nothing a = record { told = appends_nothing a.told; text = appends_nothing a.text; heard = refl }

-- a watcher that was told changes, and then others and a part of a line, was told them all and that part
pub grew_twice : (a b c : Hearing) (xs ys : List Change) (part : List ℕ) → Grew a b xs [] → Grew b c ys part → Grew a c (xs ++ ys) part
grew_twice a b c xs ys part first second = record {
  told = appends_twice a.told b.told c.told xs ys first.told second.told;
  text = rw (lines_twice xs ys part) (appends_twice a.text b.text c.text (flat_map change_line xs ++ []) (flat_map change_line ys ++ part) first.text second.text);
  heard = second.heard ∙ ap (λ h. heard_after h ys) first.heard ∙ heard_twice a.heard xs ys;
}

-- the same of equal lists
pub grew_so : (a b : Hearing) (xs ys : List Change) (p q : List ℕ) → xs ≡ ys → p ≡ q → Grew a b xs p → Grew a b ys q
grew_so a b xs ys p q same cut grew = rw (sym same, sym cut) grew
