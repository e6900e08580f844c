-- The end of the bytes.
use Rattle.std.proofs.Common.{◌≡◌, ◌<◌, List, [], ◌∷◌, length, None, refl, arith}
use Rattle.ml_json.specs.Machine as m
use Rattle.ml_json.specs.Machine.{Mode, Frame, finish}
use Rattle.ml_json.specs.State.{frames_of}
use Rattle.ml_json.specs.declared.state.Frame.{Frame as CodeFrame}
use Rattle.ml_json.proofs.FrameLemmas.{frames_length}

open_end : (m : Mode) (f : Frame) (st : List Frame) → finish m (f ∷ st) ≡ None
open_end m.begin f st = refl
open_end m.mark_two f st = refl
open_end m.mark_one f st = refl
open_end m.value f st = refl
open_end m.first f st = refl
open_end m.first_key f st = refl
open_end (m.key ps) f st = refl
open_end (m.colon ps k) f st = refl
open_end (m.after v) f st = refl
open_end (m.text purpose p c) f st = refl
open_end (m.escape purpose p c) f st = refl
open_end (m.hex purpose p c n a) f st = refl
open_end (m.bytes purpose p c t got) f st = refl
open_end (m.number part s) f st = refl
open_end (m.word w) f st = refl

open_none : (m : Mode) (st : List Frame) → 0 < length st → finish m st ≡ None
open_none m [] h = absurd (omega arith)
open_none m (f ∷ st) h = open_end m f st

-- the bytes may not end while a list or map is open
pub unfinished : (m : Mode) (xs : List CodeFrame) → 0 < length xs → finish m (frames_of xs) ≡ None
unfinished m xs h = open_none m (frames_of xs) (omega (arith, frames_length xs))

empty : (st : List Frame) → length st ≡ 0 → st ≡ []
empty [] h = refl
empty (f ∷ st) h = absurd (omega arith)

-- where the reader's stack is empty, so is the machine's
pub no_frames : (xs : List CodeFrame) → length xs ≡ 0 → frames_of xs ≡ []
no_frames xs h = empty (frames_of xs) (omega (arith, frames_length xs))
