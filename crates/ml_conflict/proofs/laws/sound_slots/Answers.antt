use Rattle.ml_conflict.proofs.SoundSlots.{slots_of_sound, sound_of_slots}
use Rattle.ml_conflict.proofs.laws.sound_slots.Goals as goal

pub returns : goal.returns
returns c labels slots e = (slots_of_sound labels slots e, sound_of_slots labels slots)
