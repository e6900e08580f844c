use Rattle.std.proofs.Common.{◌≡◌}
use Rattle.std.specs.Prelude.{All, vec_len}
use Rattle.ml_watch.specs.Blank.{IsBlank}
use Rattle.ml_watch.proofs.mem_watcher.blank_texts.Given as goal

abbrev pub invariant-loop-text : goal.invariant-loop-text
invariant-loop-text l = (vec_len l.texts ≡ l._text) × All IsBlank l.texts.items
