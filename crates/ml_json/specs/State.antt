-- The machine's state that the reader's stands for, and what a step of the reader says of the machine's. No public clause speaks of it.
use Rattle.std.specs.Prelude.{◌≡◌, ℕ, ◌≤◌, List, [], ◌∷◌, Bool, true, false, Option, Some, None, Result, Ok, Err, string_bytes}
use Rattle.ml_json.specs.Tree.{Pairs}
use Rattle.ml_json.specs.Machine as m
use Rattle.ml_json.specs.Machine.{State, step, open_of}
use Rattle.ml_json.specs.Partial.{tail_of, HoldsHigh}
use Rattle.ml_json.specs.Lent.{lent_of, lents_view, lent_pairs_view}
use Rattle.ml_json.specs.Sorted.{entries_view}
use Rattle.ml_json.specs.declared.state.Frame.{Frame}
use Rattle.ml_json.specs.declared.state.Frame.TheVariants as frames
use Rattle.ml_json.specs.declared.state.Members.{Members}
use Rattle.ml_json.specs.declared.state.Members.TheVariants as kept
use Rattle.ml_json.specs.declared.state.Part.{Part}
use Rattle.ml_json.specs.declared.state.Part.TheVariants as parts
use Rattle.ml_json.specs.declared.state.Word.{Word}
use Rattle.ml_json.specs.declared.state.Word.TheVariants as words
use Rattle.ml_json.specs.declared.state.Owner.{Owner}
use Rattle.ml_json.specs.declared.state.Owner.TheVariants as owners
use Rattle.ml_json.specs.declared.state.Mode.{Mode}
use Rattle.ml_json.specs.declared.state.Mode.TheVariants as modes
use Rattle.ml_json.specs.declared.state.Stop.{Stop}
use Rattle.ml_json.specs.declared.state.Stop.TheVariants as stops

-- the members of a map so far
abbrev pub members_view : Members → Pairs
members_view (kept.Few list) = lent_pairs_view list.pairs.items
members_view (kept.Many tree) = entries_view tree.entries

-- what an open list or map stands for
abbrev pub frame_of : Frame → m.Frame
frame_of (frames.List vs) = m.in_list (lents_view vs.items)
frame_of (frames.Map ps k) = m.at_key (members_view ps) k

-- frames on top of others; the last one is the innermost
abbrev pub frames_on : List m.Frame → List Frame → List m.Frame
frames_on below [] = below
frames_on below (x ∷ xs) = frames_on (frame_of x ∷ below) xs

-- the frames from the innermost on
unfoldable pub frames_of : List Frame → List m.Frame
frames_of xs = frames_on [] xs

-- what has come of a number
abbrev pub part_of : Part → m.Part
part_of parts.Minus = m.minus
part_of parts.Nought = m.nought
part_of parts.Whole = m.whole
part_of parts.Dot = m.dot
part_of parts.Digits = m.digits
part_of parts.Letter = m.letter
part_of parts.Sign = m.sign
part_of parts.Power = m.power

-- what has come of a word
abbrev pub word_of : Word → m.Word
word_of words.N = m.so_n
word_of words.Nu = m.so_nu
word_of words.Nul = m.so_nul
word_of words.T = m.so_t
word_of words.Tr = m.so_tr
word_of words.Tru = m.so_tru
word_of words.F = m.so_f
word_of words.Fa = m.so_fa
word_of words.Fal = m.so_fal
word_of words.Fals = m.so_fals

-- what a string is for
abbrev pub owner_of : Owner → m.Purpose
owner_of owners.Value = m.as_value
owner_of (owners.Key ps) = m.as_key (members_view ps)

-- what the next byte may be
abbrev pub mode_of : Mode → m.Mode
mode_of modes.Begin = m.begin
mode_of modes.MarkTwo = m.mark_two
mode_of modes.MarkOne = m.mark_one
mode_of modes.Value = m.value
mode_of modes.First = m.first
mode_of modes.FirstKey = m.first_key
mode_of (modes.Key ps) = m.key (members_view ps)
mode_of (modes.Colon ps k) = m.colon (members_view ps) k
mode_of (modes.After v) = m.after (lent_of v)
mode_of (modes.Text x) = m.text (owner_of x.owner) x.half (string_bytes x.text)
mode_of (modes.Escape x) = m.escape (owner_of x.owner) x.half (string_bytes x.text)
mode_of (modes.Hex x y) = m.hex (owner_of x.owner) x.half (string_bytes x.text) y.left y.sum
mode_of (modes.Bytes x y) = m.bytes (owner_of x.owner) x.half (string_bytes x.text) (tail_of y.tail) y.got.items
mode_of (modes.Number part s) = m.number (part_of part) (string_bytes s)
mode_of (modes.Word w) = m.word (word_of w)

-- what a stop says of the machine's step
abbrev pub Stops : Stop → Option State → Type 0
Stops stops.Memory o = Unit {0}
Stops stops.NotJson o = o ≡ None
Stops stops.Deep o = (x : State) × (o ≡ Some x) × (open_of x.0 x.1 ≡ 65)

-- the machine's step leads to this mode and these frames, and at most 64 lists and maps are open then
abbrev pub GoesTo : Mode → List Frame → Option State → Type 0
GoesTo n after o = (o ≡ Some (mode_of n, frames_of after)) × (open_of (mode_of n) (frames_of after) ≤ 64)

-- what a step of the reader says of it
abbrev pub Steps : Result Mode Stop → List Frame → Option State → Type 0
Steps (Ok n) after o = GoesTo n after o
Steps (Err e) after o = Stops e o

-- what a step of the reader in place says of it, of the mode behind it
abbrev pub Advances : Result (Unit {0}) Stop → Mode → List Frame → Option State → Type 0
Advances (Ok _) n after o = Steps (Ok n) after o
Advances (Err e) n after o = Stops e o

-- what a stop says where the frames play no part
abbrev pub Turns : Stop → (List m.Frame → Option State) → Type 0
Turns stops.Memory f = Unit {0}
Turns stops.NotJson f = (st : List m.Frame) → f st ≡ None
Turns stops.Deep f = ⊥

-- what a step says there
abbrev pub Goes : Result Mode Stop → (List m.Frame → Option State) → Type 0
Goes (Ok n) f = (st : List m.Frame) → f st ≡ Some (mode_of n, st)
Goes (Err e) f = Turns e f

-- what a push in place says of the mode before and behind it: the machine's step, by which as many lists and maps stay open, or nothing was done
abbrev pub Pushes : Result Bool Stop → Mode → Mode → ℕ → Type 0
Pushes (Ok true) before after b = (st : List m.Frame) → (step (mode_of before) st b ≡ Some (mode_of after, st)) × (open_of (mode_of after) st ≡ open_of (mode_of before) st)
Pushes (Ok false) before after b = after ≡ before
Pushes (Err e) before after b = e ≡ stops.Memory

-- what a unit makes of the text, and of the half that was held
abbrev pub UnitGives : Option ℕ → List ℕ → ℕ → Option ℕ → List ℕ → Type 0
UnitGives half text unit half' text' = HoldsHigh half' × ((purpose : m.Purpose) → m.add_unit purpose half text unit ≡ m.text purpose half' text')
