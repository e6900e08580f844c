use Rattle.ml_grid.proofs.grid.Grid.drop_label.Goals as goal

pub drop_all-requires : goal.drop_all-requires
drop_all-requires c = record { its = rw (← c.self.view_is) at c.requires.its }

pub returns-clause-entries : goal.returns-clause-entries
returns-clause-entries c = rw (← c.self.view_is) c.drop_all.ensures.entries
