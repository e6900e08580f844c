use Rattle.std.proofs.Common.{string_bytes}
use Rattle.ml_command.proofs.WordLemmas.{five_items, view_listed}
use Rattle.ml_command.proofs.words.view_words.Goals as goal

pub returns-in-len5 : goal.returns-in-len5
returns-in-len5 c =
    let words = five_items string_bytes c.args.words.now c.cx-item.result c.cy-item.result c.w-item.result c.h-item.result
    c.scale-item.result c.in-len5.len_at_least c.in-len5.len_below c.cx-item.is c.cy-item.is c.w-item.is c.h-item.is c.scale-item.is in
    rw words (view_listed (string_bytes c.cx-item.result) (string_bytes c.cy-item.result) (string_bytes c.w-item.result)
    (string_bytes c.h-item.result) (string_bytes c.scale-item.result) c.view_of.result
    (rw (c.as_str.ensures.value, c.as_str-in-len5.ensures.value, c.as_str-in-len5-2.ensures.value, c.as_str-in-len5-3.ensures.value, c.as_str-in-len5-4.ensures.value) at c.view_of.ensures))
