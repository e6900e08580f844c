use Rattle.ml_grid.proofs.grid.Grid.add.Goals as goal

pub add_all-requires-clause-free : goal.add_all-requires-clause-free
add_all-requires-clause-free c = rw (← c.self.view_is) at c.requires.free

pub returns-clause-entries : goal.returns-clause-entries
returns-clause-entries c = rw (← c.self.view_is) c.add_all.ensures.entries
