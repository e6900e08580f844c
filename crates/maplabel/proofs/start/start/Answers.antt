use Rattle.std.proofs.Common.{◌≡◌, ◌∙◌, List, ℕ, ap, subst, sym, map, drop, inl}
use Rattle.std.specs.Prelude.{string_bytes}
use Rattle.maplabel.specs.Program.{words_given, AreWatchers, IsMissing}
use Rattle.maplabel.proofs.start.start.Goals.{in-Ok, in-Err+in_default}
use Rattle.maplabel.proofs.start.start.Goals as goal

pub returns : goal.returns
returns g c =
    let words : map string_bytes c.words_of-words.result.now ≡ words_given c.args.values = elim c.match-values.branch [
      | in-Ok w ↦ ap (λ vs. map string_bytes vs) (c.words_of-words.ensures ∙ ap (λ vs. drop 1 vs) (c.deref.ensures.value ∙ ap (λ v. v.items) w.given-is)) ∙ ap words_given (sym w.in-Ok.is)
      | in-Err+in_default w ↦ ap (λ vs. map string_bytes vs) (c.words_of-words.ensures
          ∙ ap (λ vs. drop 1 vs) (c.deref.ensures.value ∙ ap (λ v. v.items) w.given-is ∙ w.new.ensures.items)) ∙ ap words_given (sym w.in-Err.is)
    ] in
    let given : ¬ (IsMissing c.args.values) = elim c.match-values.branch [
      | in-Ok w ↦ λ missing. (let none = rw w.in-Ok.is at missing in none)
      | in-Err+in_default w ↦ λ missing. (let wanting = rw w.in-Err.is at missing in w.in_default.not-OutOfMemory (w.kind.ensures ∙ wanting))
    ] in
    let watchers = subst (λ (ws : List (List ℕ)). AreWatchers ws c.args.errors c.in-Ok-watchers_of.crowd) words c.in-Ok-watchers_of.ensures.ok in
    record {
      end = inl (c.in-Ok-watchers_of.crowd, c.program.new.crowd, (given, watchers, rw words at c.program.ensures.end));
      same = c.program.ensures.same;
      later = c.program.ensures.later;
      out = c.program.ensures.out;
    }
