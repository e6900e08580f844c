use Rattle.std.proofs.Common.{◌≡◌, ◌≢◌, false, ◌++◌, ◌∷◌, [], ◌∙◌, ap, arith}
use Rattle.ml_json.specs.Grammar.{is_space}
use Rattle.ml_json.proofs.StepLemmas.{list_comma, list_end, list_other, map_comma, map_end, map_other}
use Rattle.ml_json.proofs.brackets.after_next.Goals as goal

pub returns-in-44 : goal.returns-in-44
returns-in-44 c =
    let sp : is_space c.args.byte ≡ false = cc in
    list_comma c.args.frames.now.items c.pop.new.self.items c.push-in-44.new.self.items c.in-Some-List.items c.push.new.self c.args.value c.args.byte
    (c.in-Some-List.ensures.items ∙ ap (λ x. c.pop.new.self.items ++ x ∷ []) c.in-Some-List.field-0-is) c.in_ok-push-in-Some-List.ensures.items
    c.in_ok-push-in-44.ensures.items sp c.in-44.is c.requires

pub returns-in-93 : goal.returns-in-93
returns-in-93 c =
    let sp : is_space c.args.byte ≡ false = cc in
    list_end c.args.frames.now.items c.pop.new.self.items c.in-Some-List.items c.push.new.self c.args.value c.args.byte
    (c.in-Some-List.ensures.items ∙ ap (λ x. c.pop.new.self.items ++ x ∷ []) c.in-Some-List.field-0-is) c.in_ok-push-in-Some-List.ensures.items sp c.in-93.is c.requires

pub returns-in-Some-List : goal.returns-in-Some-List
returns-in-Some-List c =
    let sp : is_space c.args.byte ≡ false = cc in
    let n : c.args.byte ≢ 44 = omega arith in
    let k : c.args.byte ≢ 93 = omega arith in
    list_other c.args.frames.now.items c.pop.new.self.items c.in-Some-List.items c.args.value c.args.byte
    (c.in-Some-List.ensures.items ∙ ap (λ x. c.pop.new.self.items ++ x ∷ []) c.in-Some-List.field-0-is) sp n k

pub returns-in-44-byte : goal.returns-in-44-byte
returns-in-44-byte c =
    let sp : is_space c.args.byte ≡ false = cc in
    map_comma c.args.frames.now.items c.pop.new.self.items c.in-Some-Map.members c.in_ok-members-in-Some-Map.members c.in-Some-Map.key c.args.value c.args.byte
    (c.in-Some-Map.ensures.items ∙ ap (λ x. c.pop.new.self.items ++ x ∷ []) c.in-Some-Map.field-0-is) c.in_ok-members-in-Some-Map.ensures sp c.in-44-byte.is c.requires

pub returns-in-125 : goal.returns-in-125
returns-in-125 c =
    let sp : is_space c.args.byte ≡ false = cc in
    map_end c.args.frames.now.items c.pop.new.self.items c.in-Some-Map.members c.in_ok-members-in-Some-Map.members c.in_ok-list_of_members-in-125.field-0 c.in-Some-Map.key c.args.value c.args.byte
    (c.in-Some-Map.ensures.items ∙ ap (λ x. c.pop.new.self.items ++ x ∷ []) c.in-Some-Map.field-0-is) c.in_ok-members-in-Some-Map.ensures
    c.in_ok-list_of_members-in-125.ensures sp c.in-125.is c.requires

pub returns : goal.returns
returns c =
    let sp : is_space c.args.byte ≡ false = cc in
    let n : c.args.byte ≢ 44 = omega arith in
    let k : c.args.byte ≢ 125 = omega arith in
    map_other c.args.frames.now.items c.pop.new.self.items c.in-Some-Map.members c.in-Some-Map.key c.args.value c.args.byte
    (c.in-Some-Map.ensures.items ∙ ap (λ x. c.pop.new.self.items ++ x ∷ []) c.in-Some-Map.field-0-is) sp n k
