use Rattle.ml_view.proofs.words.read_view.Goals as goal

pub returns-in_default : goal.returns-in_default
returns-in_default c bad = c.in_default.ensures bad.0 bad.1

pub returns-in_default-read_coordinate : goal.returns-in_default-read_coordinate
returns-in_default-read_coordinate c = ((c.in-Some.cx, c.in-Some.ensures), λ bad. c.in_default-read_coordinate.ensures bad.0 bad.1)

pub returns-in_default-read_side : goal.returns-in_default-read_side
returns-in_default-read_side c =
    ((c.in-Some.cx, c.in-Some.ensures), (c.in-Some-read_coordinate.cy, c.in-Some-read_coordinate.ensures), λ bad. c.in_default-read_side.ensures bad.0 bad.1)

pub returns-in_default-read_side-2 : goal.returns-in_default-read_side-2
returns-in_default-read_side-2 c = (
  (c.in-Some.cx, c.in-Some.ensures),
  (c.in-Some-read_coordinate.cy, c.in-Some-read_coordinate.ensures),
  (c.in-Some-read_side.w, c.in-Some-read_side.ensures),
  λ bad. c.in_default-read_side-2.ensures bad.0 bad.1,
)

pub returns-in_default-read_scale : goal.returns-in_default-read_scale
returns-in_default-read_scale c = (
  (c.in-Some.cx, c.in-Some.ensures),
  (c.in-Some-read_coordinate.cy, c.in-Some-read_coordinate.ensures),
  (c.in-Some-read_side.w, c.in-Some-read_side.ensures),
  (c.in-Some-read_side-2.h, c.in-Some-read_side-2.ensures),
  λ bad. c.in_default-read_scale.ensures bad.0 bad.1,
)
