-- How following ends, from what was offered and what was printed of it.
use Rattle.std.proofs.Common.{◌≡◌, ℕ, Bool, true, false, List, [], Option, None, Ok, Err, refl, sym, ap, ◌∙◌, inl, inr}
use Rattle.std.specs.Prelude.{MatchBool}
use Rattle.std.proofs.lemmas.List.{append-nil}
use Rattle.ml_ratio.specs.Count.{one_more}
use Rattle.ml_io.specs.Causes.{Appends}
use Rattle.ml_follow.specs.declared.state.State.{State}
use Rattle.ml_watch.specs.Hearing.{Hearing}
use Rattle.ml_command.specs.FollowLines.{held_line}
use Rattle.ml_command.specs.Following.{IsFollowed, lines_of, joined}
use Rattle.ml_command.specs.Offering.{halted, AreOffered, IsHeldPrinted}
use Rattle.ml_command.specs.declared.following.FollowEnd.{FollowEnd}
use Rattle.ml_command.specs.declared.following.FollowEnd.TheVariants as ends
use Rattle.ml_command.specs.declared.following.Halt.{Halt}
use Rattle.ml_command.specs.declared.following.Halt.TheVariants as halt
use Rattle.ml_command.proofs.FollowLemmas.{put_between, cut_after_all, printed_on}

-- output or memory failed while states were offered to a follower that held nothing
pub halted_early : {W : Type 0} (hearing : W → Hearing) (states : List State) (first held : Option State)
    (crowd crowd_after : List W) (written written_after : Option (List ℕ)) (writes writes_after : ℕ) (why : Halt) → first ≡ None →
    AreOffered hearing first states held crowd crowd_after (put_between written written_after writes writes_after) (Err why) →
    IsFollowed hearing states crowd crowd_after (put_between written written_after writes writes_after) (halted why)
halted_early hearing states first held crowd crowd_after written written_after writes writes_after halt.WriteFault none (offered, failed) = record {
  following = record { offered = offered.front; rest = offered.rest; are = offered.are; answers = offered.answers; held = held; offers = rw none at offered.answered.offers };
  ended = record { wrote = inl offered.printed; failed = failed };
  hears = offered.answered.hears;
}
halted_early hearing states first held crowd crowd_after written written_after writes writes_after halt.Memory none (offered, calm) = record {
  following = record { offered = offered.front; rest = offered.rest; are = offered.are; answers = offered.answers; held = held; offers = rw none at offered.answered.offers };
  ended = (offered.printed, calm);
  hears = offered.answered.hears;
}

-- all states were offered, and what is held was printed
pub done : {W : Type 0} (hearing : W → Hearing) (states : List State) (held : Option State) (crowd crowd_after : List W)
    (written written_after written_last : Option (List ℕ)) (writes writes_after writes_last : ℕ) (all : Bool) (result : FollowEnd) →
    AreOffered hearing None states held crowd crowd_after (put_between written written_after writes writes_after) (Ok all) →
    Appends written_after written_last (held_line held) × (writes_last ≡ writes_after) → MatchBool all (result ≡ ends.Adopted) (result ≡ ends.NotAdopted) →
    IsFollowed hearing states crowd crowd_after (put_between written written_last writes writes_last) result
done hearing states held crowd crowd_after written written_after written_last writes writes_after writes_last true result (answers, answered, wrote, told, calm) printed is = rw is (record {
  following = record { offered = states; rest = []; are = sym (append-nil states); answers = answers; held = held; offers = answered.offers };
  ended = (record { all = refl; wrote = printed_on written written_after written_last (joined (lines_of answers)) (held_line held) wrote printed.0; calm = printed.1 ∙ calm }, told);
  hears = answered.hears;
})
done hearing states held crowd crowd_after written written_after written_last writes writes_after writes_last false result (answers, answered, wrote, told, calm) printed is = rw is (record {
  following = record { offered = states; rest = []; are = sym (append-nil states); answers = answers; held = held; offers = answered.offers };
  ended = (record { all = refl; wrote = printed_on written written_after written_last (joined (lines_of answers)) (held_line held) wrote printed.0; calm = printed.1 ∙ calm }, told);
  hears = answered.hears;
})

-- all states were offered, and output or memory failed for what is held
pub halted_late : {W : Type 0} (hearing : W → Hearing) (states : List State) (held : Option State) (crowd crowd_after : List W)
    (written written_after written_last : Option (List ℕ)) (writes writes_after writes_last : ℕ) (all : Bool) (why : Halt) →
    AreOffered hearing None states held crowd crowd_after (put_between written written_after writes writes_after) (Ok all) →
    IsHeldPrinted held (put_between written_after written_last writes_after writes_last) (Err why) →
    IsFollowed hearing states crowd crowd_after (put_between written written_last writes writes_last) (halted why)
halted_late hearing states held crowd crowd_after written written_after written_last writes writes_after writes_last all halt.WriteFault
    (answers, answered, wrote, told, calm) (part, failed) = record {
      following = record { offered = states; rest = []; are = sym (append-nil states); answers = answers; held = held; offers = answered.offers };
      ended = record { wrote = inr (refl, cut_after_all written written_after written_last (lines_of answers) (held_line held) wrote part); failed = failed ∙ ap one_more calm };
      hears = answered.hears;
    }
halted_late hearing states held crowd crowd_after written written_after written_last writes writes_after writes_last all halt.Memory (answers, answered, wrote, told, calm) same = record {
  following = record { offered = states; rest = []; are = sym (append-nil states); answers = answers; held = held; offers = answered.offers };
  ended = (rw same.0 wrote, same.1 ∙ calm);
  hears = answered.hears;
}
