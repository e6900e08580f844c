use Rattle.std.proofs.Common.{sym, ◌∙◌}
use Rattle.ml_label.proofs.Classes.{kind_fits}
use Rattle.ml_label.proofs.label.label_of.Goals as goal

pub returns-in_default-2 : goal.returns-in_default-2
returns-in_default-2 c = record { class = c.in-Some-class_for.class.now; class_is = c.in-Some-class_for.ensures.class; unnamed = sym c.in_ok-text.ensures.name ∙ c.in_default-2.is }

pub place-requires-clause-kind : goal.place-requires-clause-kind
place-requires-clause-kind c = kind_fits c.args.style.now c.args.feature.now c.in-Some.shape c.in-Some-class_for.class.now c.in-Some.is c.in-Some-class_for.ensures.class

pub returns-in_ok-label_at-in-Some-3 : goal.returns-in_ok-label_at-in-Some-3
returns-in_ok-label_at-in-Some-3 c = record {
  shape = c.in-Some.shape;
  class = c.in-Some-class_for.class.now;
  font = c.font.result.now;
  text = c.in-Some-2.text;
  named = record { shape_is = c.in-Some.is; class_is = c.in-Some-class_for.ensures.class; font_is = sym c.font.ensures; text_is = sym c.in_ok-text.ensures.name ∙ c.in-Some-2.is };
  ordered = c.in_ok-label_at-in-Some-3.ensures.ordered;
  placing = _;
  placed = rw c.in-Some-3.is at c.in_ok-placed.ensures;
  put = c.in_ok-label_at-in-Some-3.ensures.put;
}

pub returns-in-None : goal.returns-in-None
returns-in-None c = record {
  shape = c.in-Some.shape;
  class = c.in-Some-class_for.class.now;
  font = c.font.result.now;
  text = c.in-Some-2.text;
  named = record { shape_is = c.in-Some.is; class_is = c.in-Some-class_for.ensures.class; font_is = sym c.font.ensures; text_is = sym c.in_ok-text.ensures.name ∙ c.in-Some-2.is };
  unplaced = rw c.in-None.is at c.in_ok-placed.ensures;
}
