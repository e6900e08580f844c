use Rattle.ml_store.specs.Names.{Name}
use Rattle.ml_store.specs.declared.sorted.Named.{Named}

-- the name of a label as a number with a borrowed id
abbrev pub name_of : Named → Name
name_of n = record { number = n.number; id = n.id.now }
