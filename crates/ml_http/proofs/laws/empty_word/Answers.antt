use Rattle.ml_http.proofs.EmptyWord.{no_coordinate, no_side, no_scale, no_depth, no_column}
use Rattle.ml_http.proofs.laws.empty_word.Goals as goal

pub returns-clause-coordinate : goal.returns-clause-coordinate
returns-clause-coordinate c = no_coordinate

pub returns-clause-side : goal.returns-clause-side
returns-clause-side c = no_side

pub returns-clause-scale : goal.returns-clause-scale
returns-clause-scale c = no_scale

pub returns-clause-depth : goal.returns-clause-depth
returns-clause-depth c = no_depth

pub returns-clause-column : goal.returns-clause-column
returns-clause-column c = no_column
