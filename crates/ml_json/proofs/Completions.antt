-- Each state can be completed, so that the bytes which lead to one are those that begin a good text.
use Rattle.std.proofs.Common.{◌≡◌, ℕ, zero, suc, ◌+◌, ◌*◌, List, [], ◌∷◌, ◌++◌, Bool, true, false, cond, Option, Some, None, refl, sym, ◌∙◌, ap}
use Rattle.ml_json.specs.Tree.{Tree, null, num, list, map, Pairs, put}
use Rattle.ml_json.specs.Machine.{snoc, Mode, Frame, State, Part, Purpose, step, finish, may_end, go_on}
use Rattle.ml_json.specs.Strings.{is_high, is_low}
use Rattle.ml_json.specs.Characters.{Tail, one, two, three, after_e0, after_ed, after_f0, after_f4}
use Rattle.ml_json.specs.Grammar.{IsPrefix}
use Rattle.ml_json.specs.Machine as m
use Rattle.ml_json.proofs.Runs.{reach, reaches, run, goes}
use Rattle.ml_json.proofs.TokenRuns.{Ends, ends, may_nought, may_whole, may_digits, number_ends, ends_digit}
use Rattle.ml_json.proofs.ValueRuns.{reads_runs}
use Rattle.ml_json.proofs.RunsRead.{runs_reads}

pub record Completable (mode : Mode) (st : List Frame) : Type 0 where
  pub rest : List ℕ
  pub tree : Tree
  pub runs : run rest mode st ≡ Some tree

by : (b : ℕ) {m n : Mode} {st su : List Frame} → step m st b ≡ Some (n, su) → Completable n su → Completable m st
unfolding run
by b e c = record { rest = b ∷ c.rest; tree = c.tree; runs = ap (goes (run c.rest)) e ∙ c.runs }

-- the closing brackets, which may also stand behind a number
closers : (v : Tree) (st : List Frame) → (bs : List ℕ) × (t : Tree) × (run bs (m.after v) st ≡ Some t) × Ends bs
unfolding run step
closers v [] = ([], v, refl, tt)
closers v (m.in_list ws ∷ st) = let c = closers (list (snoc ws v)) st in (93 ∷ c.0, c.1, c.2, refl)
closers v (m.at_key ps k ∷ st) = let c = closers (map (put k v ps)) st in (125 ∷ c.0, c.1, c.2, refl)

alive_after : (v : Tree) (st : List Frame) → Completable (m.after v) st
alive_after v st = let c = closers v st in record { rest = c.0; tree = c.1; runs = c.2 }

alive_value : (st : List Frame) → Completable m.value st
unfolding step
alive_value st = by 110 refl (by 117 refl (by 108 refl (by 108 refl (alive_after null st))))

alive_colon : (ps : Pairs) (k : List ℕ) (st : List Frame) → Completable (m.colon ps k) st
unfolding step
alive_colon ps k st = by 58 refl (alive_value (m.at_key ps k ∷ st))

alive_ended : (purpose : Purpose) (s : List ℕ) (st : List Frame) → Completable (m.ended purpose s) st
alive_ended m.as_value s st = alive_after _ st
alive_ended (m.as_key ps) s st = alive_colon ps s st

alive_text : (purpose : Purpose) (p : Option ℕ) (c : List ℕ) (st : List Frame) → Completable (m.text purpose p c) st
unfolding step
alive_text purpose p c st = by 34 refl (alive_ended purpose _ st)

alive_one_of : (b : Bool) {M N : Mode} (st : List Frame) → Completable M st → Completable N st → Completable (cond b M N) st
alive_one_of true st x y = x
alive_one_of false st x y = y

alive_unit : (purpose : Purpose) (p : Option ℕ) (c : List ℕ) (u : ℕ) (st : List Frame) → Completable (m.add_unit purpose p c u) st
alive_unit purpose None c u st = alive_one_of (is_high u) st (alive_text purpose _ _ st) (alive_text purpose _ _ st)
alive_unit purpose (Some h) c u st = alive_one_of (is_high u) st (alive_text purpose _ _ st) (alive_one_of (is_low u) st (alive_text purpose _ _ st) (alive_text purpose _ _ st))

alive_hex : (purpose : Purpose) (p : Option ℕ) (c : List ℕ) (n a : ℕ) (st : List Frame) → Completable (m.hex purpose p c n a) st
unfolding step
alive_hex purpose p c zero a st = by 48 refl (alive_unit purpose p c (16 * a + 0) st)
alive_hex purpose p c (suc n) a st = by 48 refl (alive_hex purpose p c n (16 * a + 0) st)

alive_bytes : (purpose : Purpose) (p : Option ℕ) (c : List ℕ) (tl : Tail) (got : List ℕ) (st : List Frame) → Completable (m.bytes purpose p c tl got) st
unfolding step
alive_bytes purpose p c one got st = by 128 refl (alive_text purpose _ _ st)
alive_bytes purpose p c two got st = by 128 refl (by 128 refl (alive_text purpose _ _ st))
alive_bytes purpose p c three got st = by 128 refl (by 128 refl (by 128 refl (alive_text purpose _ _ st)))
alive_bytes purpose p c after_e0 got st = by 160 refl (by 128 refl (alive_text purpose _ _ st))
alive_bytes purpose p c after_ed got st = by 128 refl (by 128 refl (alive_text purpose _ _ st))
alive_bytes purpose p c after_f0 got st = by 144 refl (by 128 refl (by 128 refl (alive_text purpose _ _ st)))
alive_bytes purpose p c after_f4 got st = by 128 refl (by 128 refl (by 128 refl (alive_text purpose _ _ st)))

may_stop : (part : Part) (acc : List ℕ) (st : List Frame) → may_end part ≡ true → ((b : ℕ) → ends b ≡ true → go_on part b ≡ None) → Completable (m.number part acc) st
may_stop part acc st e h = let c = closers (num acc) st in record { rest = c.0; tree = c.1; runs = number_ends part acc st c.0 e h c.3 ∙ c.2 }

alive_power : (acc : List ℕ) (st : List Frame) → Completable (m.number m.power acc) st
alive_power acc st = may_stop m.power acc st refl (λ b h. rw (ends_digit b h) refl)

alive_number : (part : Part) (acc : List ℕ) (st : List Frame) → Completable (m.number part acc) st
unfolding step
alive_number m.minus acc st = by 48 refl (may_stop m.nought _ st refl may_nought.none)
alive_number m.nought acc st = may_stop m.nought acc st refl may_nought.none
alive_number m.whole acc st = may_stop m.whole acc st refl may_whole.none
alive_number m.dot acc st = by 48 refl (may_stop m.digits _ st refl may_digits.none)
alive_number m.digits acc st = may_stop m.digits acc st refl may_digits.none
alive_number m.letter acc st = by 48 refl (alive_power _ st)
alive_number m.sign acc st = by 48 refl (alive_power _ st)
alive_number m.power acc st = alive_power acc st

alive_word : (w : m.Word) (st : List Frame) → Completable (m.word w) st
unfolding step
alive_word m.so_n st = by 117 refl (by 108 refl (by 108 refl (alive_after _ st)))
alive_word m.so_nu st = by 108 refl (by 108 refl (alive_after _ st))
alive_word m.so_nul st = by 108 refl (alive_after _ st)
alive_word m.so_t st = by 114 refl (by 117 refl (by 101 refl (alive_after _ st)))
alive_word m.so_tr st = by 117 refl (by 101 refl (alive_after _ st))
alive_word m.so_tru st = by 101 refl (alive_after _ st)
alive_word m.so_f st = by 97 refl (by 108 refl (by 115 refl (by 101 refl (alive_after _ st))))
alive_word m.so_fa st = by 108 refl (by 115 refl (by 101 refl (alive_after _ st)))
alive_word m.so_fal st = by 115 refl (by 101 refl (alive_after _ st))
alive_word m.so_fals st = by 101 refl (alive_after _ st)

-- from every state some bytes lead to the end of a text
pub alive : (m : Mode) (st : List Frame) → Completable m st
unfolding step
alive m.begin st = by 110 refl (by 117 refl (by 108 refl (by 108 refl (alive_after null st))))
alive m.mark_two st = by 0xBB refl (by 0xBF refl (alive_value st))
alive m.mark_one st = by 0xBF refl (alive_value st)
alive m.value st = alive_value st
alive m.first st = by 93 refl (alive_after _ st)
alive m.first_key st = by 125 refl (alive_after _ st)
alive (m.key ps) st = by 34 refl (alive_text _ _ _ st)
alive (m.colon ps k) st = alive_colon ps k st
alive (m.after v) st = alive_after v st
alive (m.text purpose p c) st = alive_text purpose p c st
alive (m.escape purpose p c) st = by 110 refl (alive_text purpose _ _ st)
alive (m.hex purpose p c n a) st = alive_hex purpose p c n a st
alive (m.bytes purpose p c tl got) st = alive_bytes purpose p c tl got st
alive (m.number part acc) st = alive_number part acc st
alive (m.word w) st = alive_word w st

-- a run in two parts
goes_reaches : (p q : List ℕ) (o : Option State) → ((m : Mode) (st : List Frame) → run (p ++ q) m st ≡ goes (run q) (reach p m st)) → goes (run (p ++ q)) o ≡ goes (run q) (reaches (reach p) o)
goes_reaches p q None h = refl
goes_reaches p q (Some x) h = h x.0 x.1

-- the tree of bytes in two parts is that of the second part from the state that the first leads to
pub run_append : (p q : List ℕ) (m : Mode) (st : List Frame) → run (p ++ q) m st ≡ goes (run q) (reach p m st)
unfolding run reach
run_append [] q m st = refl
run_append (b ∷ p) q m st = goes_reaches p q (step m st b) (run_append p q)

reaches_append : (p q : List ℕ) (o : Option State) → ((m : Mode) (st : List Frame) → reach (p ++ q) m st ≡ reaches (reach q) (reach p m st)) →
    reaches (reach (p ++ q)) o ≡ reaches (reach q) (reaches (reach p) o)
reaches_append p q None h = refl
reaches_append p q (Some x) h = h x.0 x.1

-- the same of the state that they lead to
pub reach_append : (p q : List ℕ) (m : Mode) (st : List Frame) → reach (p ++ q) m st ≡ reaches (reach q) (reach p m st)
unfolding reach
reach_append [] q m st = refl
reach_append (b ∷ p) q m st = reaches_append p q (step m st b) (reach_append p q)

-- what leads to a state begins a good text
pub reach_prefix : (p : List ℕ) (x : State) → reach p m.begin [] ≡ Some x → IsPrefix p
reach_prefix p x h =
    let a = alive x.0 x.1 in
    (a.rest, (a.tree, runs_reads (p ++ a.rest) a.tree (run_append p a.rest m.begin [] ∙ ap (goes (run a.rest)) h ∙ a.runs)))

-- what leads to none begins none
pub dead_prefix : (p : List ℕ) → reach p m.begin [] ≡ None → IsPrefix p → ⊥
dead_prefix p h (rest, (v, r)) = let e = sym (reads_runs r) ∙ run_append p rest m.begin [] ∙ ap (goes (run rest)) h in absurd (cc)
