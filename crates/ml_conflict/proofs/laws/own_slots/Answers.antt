use Rattle.ml_conflict.proofs.OwnSlots.{slots_of_own, own_of_slots}
use Rattle.ml_conflict.proofs.laws.own_slots.Goals as goal

pub returns : goal.returns
returns c number labels slots = (slots_of_own number labels slots, own_of_slots number labels slots)
