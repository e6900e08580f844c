use Rattle.std.proofs.Common.{rules, string_bytes, FitsSigned, w64}
use Rattle.std.proofs.lemmas.Int.{to_z-of_z}
use Rattle.ml_command.proofs.WordLemmas.{four_items, window_listed}
use Rattle.ml_command.proofs.words.window_words.Goals as goal

pub returns-in-Some : goal.returns-in-Some
returns-in-Some c =
    let view = c.in-Some.view in
    let fx : FitsSigned w64 view.cx = search rules in
    let fy : FitsSigned w64 view.cy = search rules in
    let words = four_items string_bytes c.args.words.now c.cx-item.result c.cy-item.result c.w-item.result
    c.h-item.result c.in-len4.len_at_least c.in-len4.len_below c.cx-item.is c.cy-item.is c.w-item.is c.h-item.is in
    rw words (window_listed (string_bytes c.cx-item.result) (string_bytes c.cy-item.result) (string_bytes c.w-item.result) (string_bytes c.h-item.result) view c.of.result
    (rw (c.as_str.ensures.value, c.as_str-in-len4.ensures.value, c.as_str-in-len4-2.ensures.value, c.as_str-in-len4-3.ensures.value) at c.in-Some.ensures)
    (rw (to_z-of_z w64 view.cx fx, to_z-of_z w64 view.cy fy) at c.of.ensures))
