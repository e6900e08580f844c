use Rattle.ml_cert.proofs.known.known_limits.Goals as goal

pub returns : goal.returns
returns c = record {
  smaller = c.smaller_ends.ensures;
  same = c.same_limits.ensures;
  allowed = c.allowed_up_to.ensures;
  limits = c.blocking.ensures.limits;
  blocks = c.blocking.ensures.blocks;
}
