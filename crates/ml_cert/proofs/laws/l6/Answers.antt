use Rattle.ml_cert.proofs.laws.l6.Goals as goal

pub returns : goal.returns
returns c = c.sound_slots.ensures
