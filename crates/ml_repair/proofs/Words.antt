-- Labels that wait, as bits of words.
use Rattle.std.proofs.Common.{◌≡◌, ◌≢◌, ◌∙◌, ℕ, ◌+◌, ◌-◌, ◌*◌, ◌/◌, ◌%◌, ◌^◌, ◌<◌, ◌≤◌, Bool, true, false, eqb, List, length, get_or, set, replicate}
use Rattle.std.proofs.Common.{inl, inr, sym, ap, subst, arith, w64, ext_get_or, length-set, get_or-set_same, get_or-set_other, eq-eqb, ne_eqb, true≢false}
use Rattle.std.specs.Prelude.{IsTrue, bit_or}
use Rattle.std.specs.Int.{bit_at, bit_not, trailing_zeros}
use Rattle.std.proofs.lemmas.Bool.{cases_eq, cases_lt}
use Rattle.std.proofs.lemmas.List.{length-replicate, get_or-replicate, get_or_past}
use Rattle.std.proofs.lemmas.List.FromFn.{length-map-range_with_len, get_or-map-range_with_len}
use Rattle.std.proofs.lemmas.Nat.{shr-shr, shr_le}
use Rattle.std.proofs.lemmas.Nat.Bits.{bit_at-zero, bit_at-lt, bit_at_not, bit_at_above, bit_at_set_same, bit_at_set_other, bit_at-trailing_zeros}
use Rattle.ml_repair.specs.Waiting.{NoneWaits, bit_of, waiting_in}

-- ---- each label's bit

-- whether a bit is 1
abbrev is_one : ℕ → Bool
is_one b = eqb b 1

-- there is one answer for each label
pub length-waiting_in : (words : List ℕ) (many : ℕ) → length (waiting_in words many) ≡ many
unfolding waiting_in
length-waiting_in words many = length-map-range_with_len (λ k. is_one (bit_of words k)) 0 many

-- the label at a place waits where its bit is 1
pub waiting_at : (words : List ℕ) (many k : ℕ) → k < many → get_or (waiting_in words many) k false ≡ is_one (bit_of words k)
unfolding waiting_in
waiting_at words many k within = get_or-map-range_with_len (λ j. is_one (bit_of words j)) 0 many k k false within (omega arith)

-- a label whose bit is 1 waits
pub waits_at : (words : List ℕ) (many k : ℕ) → k < many → bit_of words k ≡ 1 → IsTrue (get_or (waiting_in words many) k false)
waits_at words many k within on = waiting_at words many k within ∙ eq-eqb (bit_of words k) 1 on

-- a label whose bit is 0 does not wait, nor does one beyond the last
pub idle_at : (words : List ℕ) (many k : ℕ) → bit_of words k ≡ 0 → ¬ (IsTrue (get_or (waiting_in words many) k false))
idle_at words many k off waits = elim (cases_lt k many) [
  | inl within ↦ true≢false (sym waits ∙ waiting_at words many k within ∙ ne_eqb (bit_of words k) 1 (omega arith))
  | inr past ↦ true≢false (sym waits ∙ get_or_past (waiting_in words many) k false (let e = length-waiting_in words many in omega arith))
]

-- ---- none waits

-- where all words are 0 none waits
pub waiting_none : (n many : ℕ) → many ≤ 64 * n → waiting_in (replicate n 0) many ≡ replicate many false
waiting_none n many room =
    let clear : List ℕ = replicate n 0 in
    ext_get_or false (waiting_in clear many) (replicate many false) (length-waiting_in clear many ∙ sym (length-replicate many false))
    (λ k lt.
    let within : k < many = (let e = length-waiting_in clear many in omega arith) in
    waiting_at clear many k within
    ∙ ap (λ (word : ℕ). is_one (bit_at word (k % 64))) (get_or-replicate n (k / 64) 0 0 (omega arith))
    ∙ ap is_one (bit_at-zero (k % 64))
    ∙ sym (get_or-replicate many k false false within))

-- ---- one more waits

module _ (words : List ℕ) (many at word : ℕ) (within : at < many) (room : many ≤ 64 * length words) (read : word ≡ get_or words (at / 64) 0) where
  -- the word with the bit of the label at `at`
  abbrev woken_word : ℕ
  woken_word = bit_or word (1 * 2 ^ (at % 64) % 2 ^ 64)

  abbrev woken_words : List ℕ
  woken_words = set words (at / 64) woken_word

  -- the bit of that label is 1
  bit_here : bit_of woken_words at ≡ 1
  bit_here =
      ap (λ (v : ℕ). bit_at v (at % 64)) (get_or-set_same words (at / 64) woken_word 0 (omega arith))
      ∙ bit_at_set_same w64 word (at % 64) (omega arith)

  -- the bit of each other label is as it was
  bit_there : (k : ℕ) → k ≢ at → bit_of woken_words k ≡ bit_of words k
  bit_there k apart = elim (cases_eq (k / 64) (at / 64)) [
    | inl same ↦
        ap (λ (p : ℕ). bit_at (get_or woken_words p 0) (k % 64)) same
        ∙ ap (λ (v : ℕ). bit_at v (k % 64)) (get_or-set_same words (at / 64) woken_word 0 (omega arith))
        ∙ bit_at_set_other w64 word (at % 64) (omega arith) (k % 64) (omega arith)
        ∙ ap (λ (v : ℕ). bit_at v (k % 64)) (read ∙ ap (λ (p : ℕ). get_or words p 0) (sym same))
    | inr other ↦ ap (λ (v : ℕ). bit_at v (k % 64)) (get_or-set_other words (at / 64) (k / 64) woken_word 0 other)
  ]

  -- once its bit is set, the label at `at` waits besides
  pub waiting_woken : waiting_in woken_words many ≡ set (waiting_in words many) at true
  waiting_woken =
      let old = length-waiting_in words many in
      let new = length-waiting_in woken_words many in
      ext_get_or false (waiting_in woken_words many) (set (waiting_in words many) at true)
      (new ∙ sym (length-set (waiting_in words many) at true ∙ old))
      (λ k lt.
      let k_in : k < many = omega arith in
      waiting_at woken_words many k k_in
      ∙ elim (cases_eq k at) as (λ _. is_one (bit_of woken_words k) ≡ get_or (set (waiting_in words many) at true) k false) [
        | inl same ↦
            rw same (ap is_one bit_here ∙ sym (get_or-set_same (waiting_in words many) at true false (omega arith)))
        | inr apart ↦
            ap is_one (bit_there k apart) ∙ sym (waiting_at words many k k_in)
            ∙ sym (get_or-set_other (waiting_in words many) at k true false apart)
      ])

-- ---- what is left of a word from a label on

-- a bit of a word, as one of what is left of it
bit_left : (word s i : ℕ) → bit_at word (s + i) ≡ bit_at (word / 2 ^ s) i
bit_left word s i = ap (λ (v : ℕ). v % 2) (sym (shr-shr word s i))

-- t is the place of the lowest 1 of what is left of a word from s on
record IsLowest (word s t : ℕ) : Type 0 where
  in_word : s + t < 64
  one : bit_at word (s + t) ≡ 1
  zeros : (i : ℕ) → i < t → bit_at word (s + i) ≡ 0

lowest : (word s : ℕ) → word < 2 ^ 64 → 0 < word / 2 ^ s → IsLowest word s (trailing_zeros w64 (word / 2 ^ s))
lowest word s fits some =
    let t : ℕ = trailing_zeros w64 (word / 2 ^ s) in
    let small = shr_le word s in
    let l = bit_at-trailing_zeros w64 (word / 2 ^ s) some (omega arith) in
    let set : bit_at word (s + t) ≡ 1 = bit_left word s t ∙ l.1 in
    record {
      in_word = elim (cases_lt (s + t) 64) [
        | inl low ↦ low
        | inr high ↦ let none = bit_at_above word 64 (s + t) fits high in absurd (omega arith)
      ];
      one = set;
      zeros = λ i less. bit_left word s i ∙ l.2 i less;
    }

-- where nothing is left, all its bits are 0
nothing_left : (word s i : ℕ) → word / 2 ^ s ≡ 0 → bit_at word (s + i) ≡ 0
nothing_left word s i none = bit_left word s i ∙ ap (λ (v : ℕ). bit_at v i) none ∙ bit_at-zero i

module _ (words : List ℕ) (many from at word : ℕ) (read : word ≡ get_or words (at / 64) 0) where
  -- the bit of a label from `at` on that shares its word
  bit_shared : (k : ℕ) → at ≤ k → at % 64 + (k - at) < 64 → bit_of words k ≡ bit_at word (at % 64 + (k - at))
  bit_shared k here low =
      let same : k / 64 ≡ at / 64 = omega arith in
      let place : k % 64 ≡ at % 64 + (k - at) = omega arith in
      ap (λ (p : ℕ). bit_at (get_or words p 0) (k % 64)) same ∙ ap (bit_at (get_or words (at / 64) 0)) place
      ∙ ap (λ (v : ℕ). bit_at v (at % 64 + (k - at))) (sym read)

  -- the bit of a label that shares the word of that at `at`, t places behind it
  bit_behind : (t : ℕ) → at % 64 + t < 64 → bit_of words (at + t) ≡ bit_at word (at % 64 + t)
  bit_behind t low =
      let e : at + t - at ≡ t = omega arith in
      subst (λ (i : ℕ). bit_of words (at + t) ≡ bit_at word (at % 64 + i)) e (bit_shared (at + t) (omega arith) (omega arith))

  -- ---- the next that waits

  -- where nothing is left of a word, none of the rest of its labels waits
  pub idle_passed : NoneWaits (waiting_in words many) from at → word / 2 ^ (at % 64) ≡ 0 → NoneWaits (waiting_in words many) from (at + (64 - at % 64))
  idle_passed before none k behind until = elim (cases_lt k at) [
    | inl less ↦ before k behind less
    | inr here ↦ idle_at words many k (bit_shared k here (omega arith) ∙ nothing_left word (at % 64) (k - at) none)
  ]

  module _ (fits : word < 2 ^ 64) (some : 0 < word / 2 ^ (at % 64)) where
    -- no label before that of the lowest bit that is left waits
    pub idle_before : NoneWaits (waiting_in words many) from at → NoneWaits (waiting_in words many) from (at + trailing_zeros w64 (word / 2 ^ (at % 64)))
    idle_before before k behind until =
        let l = lowest word (at % 64) fits some in
        let in_word = l.in_word in
        elim (cases_lt k at) [
          | inl less ↦ before k behind less
          | inr here ↦ idle_at words many k (bit_shared k here (omega arith) ∙ l.zeros (k - at) (omega arith))
        ]

    -- the label of that bit waits
    pub found_waiting : (k : ℕ) → k ≡ at + trailing_zeros w64 (word / 2 ^ (at % 64)) → k < many → IsTrue (get_or (waiting_in words many) k false)
    found_waiting k is within =
        let l = lowest word (at % 64) fits some in
        waits_at words many k within (ap (bit_of words) is ∙ bit_behind (trailing_zeros w64 (word / 2 ^ (at % 64))) l.in_word ∙ l.one)

  -- ---- the next that does not wait

  module _ (fits : word < 2 ^ 64) where
    -- the word with its bits turned
    abbrev turned : ℕ
    turned = bit_not w64 word

    turned_fits : turned < 2 ^ 64
    turned_fits = omega arith

    -- a bit of the word is 1 where that of the turned one is 0
    turned_one : (i : ℕ) → i < 64 → bit_at turned i ≡ 0 → bit_at word i ≡ 1
    turned_one i low off = omega (arith, bit_at_not w64 word i fits low, bit_at-lt word i)

    -- where nothing is left of the turned word, each of the rest of its labels waits
    pub waiting_passed : ((k : ℕ) → from ≤ k → k < at → k < many → IsTrue (get_or (waiting_in words many) k false)) → turned / 2 ^ (at % 64) ≡ 0 →
        (k : ℕ) → from ≤ k → k < at + (64 - at % 64) → k < many → IsTrue (get_or (waiting_in words many) k false)
    waiting_passed before none k behind until within = elim (cases_lt k at) [
      | inl less ↦ before k behind less within
      | inr here ↦
          waits_at words many k within
          (bit_shared k here (omega arith) ∙ turned_one (at % 64 + (k - at)) (omega arith) (nothing_left turned (at % 64) (k - at) none))
    ]

    module _ (some : 0 < turned / 2 ^ (at % 64)) where
      -- each label before that of the lowest bit that is left of the turned word waits
      pub waiting_before : ((k : ℕ) → from ≤ k → k < at → k < many → IsTrue (get_or (waiting_in words many) k false)) →
          (k : ℕ) → from ≤ k → k < at + trailing_zeros w64 (turned / 2 ^ (at % 64)) → k < many → IsTrue (get_or (waiting_in words many) k false)
      waiting_before before k behind until within =
          let l = lowest turned (at % 64) turned_fits some in
          let in_word = l.in_word in
          elim (cases_lt k at) [
            | inl less ↦ before k behind less within
            | inr here ↦
                waits_at words many k within
                (bit_shared k here (omega arith) ∙ turned_one (at % 64 + (k - at)) (omega arith) (l.zeros (k - at) (omega arith)))
          ]

      -- the label of that bit does not wait
      pub found_idle : (k : ℕ) → k ≡ at + trailing_zeros w64 (turned / 2 ^ (at % 64)) → ¬ (IsTrue (get_or (waiting_in words many) k false))
      found_idle k is =
          let t : ℕ = trailing_zeros w64 (turned / 2 ^ (at % 64)) in
          let l = lowest turned (at % 64) turned_fits some in
          let off : bit_at word (at % 64 + t) ≡ 0 = omega (arith, bit_at_not w64 word (at % 64 + t) fits l.in_word, l.one) in
          idle_at words many k (ap (bit_of words) is ∙ bit_behind t l.in_word ∙ off)
