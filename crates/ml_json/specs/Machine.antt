-- The reader as a machine with a stack, one byte at a time: what its private functions compute. No public clause speaks of it.
use Rattle.std.specs.Prelude.{ℕ, zero, suc, ◌+◌, ◌*◌, List, [], ◌∷◌, ◌++◌, length, Bool, true, false, nat_lt, ◌==◌, ◌||◌, Option, Some, None, if◌then◌else◌}
use Rattle.ml_json.specs.Tree.{Tree, null, flag, num, str, list, map, Trees, none, more, Pairs, no_pairs, put}
use Rattle.ml_json.specs.Characters.{Tail, lead, low, high, later}
use Rattle.ml_ratio.specs.JsonNumber.{is_between, is_digit}
use Rattle.ml_json.specs.Strings.{escaped, hex_digit, is_high, is_low, replacement, single, both, lone}
use Rattle.ml_json.specs.Grammar.{is_space}

-- the trees with one more at the end
abbrev pub snoc : Trees → Tree → Trees
snoc none w = more w none
snoc (more v vs) w = more v (snoc vs w)

-- a list or map that is open, with what has come of it
pub data Frame : Type 0 where
  in_list : Trees → Frame
  at_key : Pairs → List ℕ → Frame

-- what a string is for: a value, or the key of a further member
pub data Purpose : Type 0 where
  as_value : Purpose
  as_key : Pairs → Purpose

-- what has come of a number
pub data Part : Type 0 where
  minus : Part
  nought : Part
  whole : Part
  dot : Part
  digits : Part
  letter : Part
  sign : Part
  power : Part

-- what has come of a word
pub data Word : Type 0 where
  so_n : Word
  so_nu : Word
  so_nul : Word
  so_t : Word
  so_tr : Word
  so_tru : Word
  so_f : Word
  so_fa : Word
  so_fal : Word
  so_fals : Word

-- what the next byte may be, with what has been read and is in no frame
pub data Mode : Type 0 where
  begin : Mode
  mark_two : Mode
  mark_one : Mode
  value : Mode
  first : Mode
  first_key : Mode
  key : Pairs → Mode
  colon : Pairs → List ℕ → Mode
  after : Tree → Mode
  text : Purpose → Option ℕ → List ℕ → Mode
  escape : Purpose → Option ℕ → List ℕ → Mode
  hex : Purpose → Option ℕ → List ℕ → ℕ → ℕ → Mode
  bytes : Purpose → Option ℕ → List ℕ → Tail → List ℕ → Mode
  number : Part → List ℕ → Mode
  word : Word → Mode

-- a mode, and the frames from the innermost on
abbrev pub State : Type 0
State = Mode × List Frame

-- a state
abbrev pub to : Mode → List Frame → Option State
to m st = Some (m, st)

-- the first byte of a value
abbrev pub open_step : List Frame → ℕ → Option State
open_step st b =
    if b == 34 then to (text as_value None []) st
    else (if b == 91 then to first st
    else (if b == 123 then to first_key st
    else (if b == 45 then to (number minus (45 ∷ [])) st
    else (if b == 48 then to (number nought (48 ∷ [])) st
    else (if is_between 49 57 b then to (number whole (b ∷ [])) st
    else (if b == 110 then to (word so_n) st
    else (if b == 116 then to (word so_t) st
    else (if b == 102 then to (word so_f) st else None))))))))

-- a byte where a value is awaited
abbrev pub value_step : List Frame → ℕ → Option State
value_step st b = if is_space b then to value st else open_step st b

-- the first byte of all
abbrev pub begin_step : List Frame → ℕ → Option State
begin_step st b = if b == 0xEF then to mark_two st else value_step st b

-- a byte behind an opening bracket
abbrev pub first_step : List Frame → ℕ → Option State
first_step st b =
    if is_space b then to first st
    else (if b == 93 then to (after (list none)) st else open_step (in_list none ∷ st) b)

-- a byte behind an opening brace
abbrev pub first_key_step : List Frame → ℕ → Option State
first_key_step st b =
    if is_space b then to first_key st
    else (if b == 125 then to (after (map no_pairs)) st
    else (if b == 34 then to (text (as_key no_pairs) None []) st else None))

-- a byte behind a comma in a map
abbrev pub key_step : Pairs → List Frame → ℕ → Option State
key_step ps st b =
    if is_space b then to (key ps) st
    else (if b == 34 then to (text (as_key ps) None []) st else None)

-- a byte behind a key
abbrev pub colon_step : Pairs → List ℕ → List Frame → ℕ → Option State
colon_step ps k st b =
    if is_space b then to (colon ps k) st
    else (if b == 58 then to value (at_key ps k ∷ st) else None)

-- a byte behind a value that is no white space
abbrev pub close_step : Tree → List Frame → ℕ → Option State
close_step v [] b = None
close_step v (in_list ws ∷ st) b =
    if b == 44 then to value (in_list (snoc ws v) ∷ st)
    else (if b == 93 then to (after (list (snoc ws v))) st else None)
close_step v (at_key ps k ∷ st) b =
    if b == 44 then to (key (put k v ps)) st
    else (if b == 125 then to (after (map (put k v ps))) st else None)

-- a byte behind a value
abbrev pub after_step : Tree → List Frame → ℕ → Option State
after_step v st b = if is_space b then to (after v) st else close_step v st b

-- what follows a string
abbrev pub ended : Purpose → List ℕ → Mode
ended as_value s = after (str s)
ended (as_key ps) s = colon ps s

-- a text with a character more, where the first half of a pair was held or not
abbrev pub add_char : Option ℕ → List ℕ → List ℕ → List ℕ
add_char p c bs = c ++ (lone p ++ bs)

-- a byte that begins a character, or none
abbrev pub lead_step : Purpose → Option ℕ → List ℕ → List Frame → ℕ → Option Tail → Option State
lead_step purpose p c st b None = None
lead_step purpose p c st b (Some t) = to (bytes purpose p c t (b ∷ [])) st

-- a byte within a string
abbrev pub text_step : Purpose → Option ℕ → List ℕ → List Frame → ℕ → Option State
text_step purpose p c st b =
    if b == 34 then to (ended purpose (c ++ lone p)) st
    else (if b == 92 then to (escape purpose p c) st
    else (if nat_lt b 32 then None
    else (if nat_lt b 128 then to (text purpose None (add_char p c (b ∷ []))) st else lead_step purpose p c st b (lead b))))

-- a byte behind a backslash that stands for a character, or for none
abbrev pub short_step : Purpose → Option ℕ → List ℕ → List Frame → Option ℕ → Option State
short_step purpose p c st None = None
short_step purpose p c st (Some x) = to (text purpose None (add_char p c (x ∷ []))) st

-- a byte behind a backslash
abbrev pub escape_step : Purpose → Option ℕ → List ℕ → List Frame → ℕ → Option State
escape_step purpose p c st b = if b == 117 then to (hex purpose p c 3 0) st else short_step purpose p c st (escaped b)

-- a unit after what has come
abbrev pub add_unit : Purpose → Option ℕ → List ℕ → ℕ → Mode
add_unit purpose None c u = if is_high u then text purpose (Some u) c else text purpose None (c ++ single u)
add_unit purpose (Some h) c u =
    if is_high u then text purpose (Some u) (c ++ replacement)
    else (if is_low u then text purpose None (c ++ both h u) else text purpose None (c ++ (replacement ++ single u)))

-- what follows a digit of an escape
abbrev pub hex_to : Purpose → Option ℕ → List ℕ → ℕ → ℕ → Mode
hex_to purpose p c zero u = add_unit purpose p c u
hex_to purpose p c (suc n) u = hex purpose p c n u

-- a byte within the four digits of an escape
abbrev pub hex_step : Purpose → Option ℕ → List ℕ → ℕ → ℕ → List Frame → Option ℕ → Option State
hex_step purpose p c n a st None = None
hex_step purpose p c n a st (Some d) = to (hex_to purpose p c n (16 * a + d)) st

-- what follows a byte of a character
abbrev pub bytes_to : Purpose → Option ℕ → List ℕ → Option Tail → List ℕ → Mode
bytes_to purpose p c None got = text purpose None (add_char p c got)
bytes_to purpose p c (Some t) got = bytes purpose p c t got

-- a byte within a character
abbrev pub bytes_step : Purpose → Option ℕ → List ℕ → Tail → List ℕ → List Frame → ℕ → Option State
bytes_step purpose p c t got st b = if is_between (low t) (high t) b then to (bytes_to purpose p c (later t) (got ++ b ∷ [])) st else None

-- the letter of an exponent
abbrev pub is_letter : ℕ → Bool
is_letter b = (b == 101) || (b == 69)

-- the sign of an exponent
abbrev pub is_sign : ℕ → Bool
is_sign b = (b == 43) || (b == 45)

-- what has come of a number with one byte more
abbrev pub go_on : Part → ℕ → Option Part
go_on minus b = if b == 48 then Some nought else (if is_between 49 57 b then Some whole else None)
go_on nought b = if b == 46 then Some dot else (if is_letter b then Some letter else None)
go_on whole b =
    if is_digit b then Some whole
    else (if b == 46 then Some dot
    else (if is_letter b then Some letter else None))
go_on dot b = if is_digit b then Some digits else None
go_on digits b = if is_digit b then Some digits else (if is_letter b then Some letter else None)
go_on letter b = if is_digit b then Some power else (if is_sign b then Some sign else None)
go_on sign b = if is_digit b then Some power else None
go_on power b = if is_digit b then Some power else None

-- whether a number may end there
abbrev pub may_end : Part → Bool
may_end minus = false
may_end nought = true
may_end whole = true
may_end dot = false
may_end digits = true
may_end letter = false
may_end sign = false
may_end power = true

-- a byte within a number or just behind it
abbrev pub number_step : Part → List ℕ → List Frame → ℕ → Option Part → Option State
number_step part s st b (Some q) = to (number q (s ++ b ∷ [])) st
number_step part s st b None = if may_end part then after_step (num s) st b else None

-- the byte that a word goes on with
abbrev pub wanted : Word → ℕ
wanted so_n = 117
wanted so_nu = 108
wanted so_nul = 108
wanted so_t = 114
wanted so_tr = 117
wanted so_tru = 101
wanted so_f = 97
wanted so_fa = 108
wanted so_fal = 115
wanted so_fals = 101

-- what it becomes by that byte
abbrev pub grown : Word → Mode
grown so_n = word so_nu
grown so_nu = word so_nul
grown so_nul = after null
grown so_t = word so_tr
grown so_tr = word so_tru
grown so_tru = after (flag true)
grown so_f = word so_fa
grown so_fa = word so_fal
grown so_fal = word so_fals
grown so_fals = after (flag false)

-- a byte within a word
abbrev pub word_step : Word → List Frame → ℕ → Option State
word_step w st b = if b == wanted w then to (grown w) st else None

-- any byte
unfoldable pub step : Mode → List Frame → ℕ → Option State
step begin st b = begin_step st b
step mark_two st b = if b == 0xBB then to mark_one st else None
step mark_one st b = if b == 0xBF then to value st else None
step value st b = value_step st b
step first st b = first_step st b
step first_key st b = first_key_step st b
step (key ps) st b = key_step ps st b
step (colon ps k) st b = colon_step ps k st b
step (after v) st b = after_step v st b
step (text purpose p c) st b = text_step purpose p c st b
step (escape purpose p c) st b = escape_step purpose p c st b
step (hex purpose p c n a) st b = hex_step purpose p c n a st (hex_digit b)
step (bytes purpose p c t got) st b = bytes_step purpose p c t got st b
step (number part s) st b = number_step part s st b (go_on part b)
step (word w) st b = word_step w st b

-- the tree, where the bytes may end here
abbrev pub finish : Mode → List Frame → Option Tree
finish (after v) [] = Some v
finish (number part s) [] = if may_end part then Some (num s) else None
finish _ _ = None

-- the same with the map whose key a string is
abbrev pub with_key : Purpose → ℕ → ℕ
with_key as_value n = n
with_key (as_key ps) n = n + 1

-- the lists and maps that are open
unfoldable pub open_of : Mode → List Frame → ℕ
open_of begin st = length st
open_of mark_two st = length st
open_of mark_one st = length st
open_of value st = length st
open_of first st = length st + 1
open_of first_key st = length st + 1
open_of (key ps) st = length st + 1
open_of (colon ps k) st = length st + 1
open_of (after v) st = length st
open_of (text purpose p c) st = with_key purpose (length st)
open_of (escape purpose p c) st = with_key purpose (length st)
open_of (hex purpose p c n a) st = with_key purpose (length st)
open_of (bytes purpose p c t got) st = with_key purpose (length st)
open_of (number part s) st = length st
open_of (word w) st = length st
