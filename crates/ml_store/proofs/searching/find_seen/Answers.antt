use Rattle.ml_store.proofs.Finding.{found_seen, found_shown}
use Rattle.ml_store.proofs.searching.find_seen.Goals as goal

pub returns-clause-near : goal.returns-clause-near
returns-clause-near g c = found_seen c.args.table.now.rows c.args.grid.now.entries c.requires.kept c.requires.differ c.requires.ends
    c.args.view.now c.seen_are_near.ensures c.in_window.new.out (rw c.new-numbers.ensures at c.in_ok-in_window.ensures.ok)

pub returns-clause-shown : goal.returns-clause-shown
returns-clause-shown g c = found_shown c.args.table.now.rows c.args.grid.now.entries c.requires.kept c.requires.differ c.requires.ends
    c.args.view.now c.shown_seen.ensures c.in_window.new.out (rw c.new-numbers.ensures at c.in_ok-in_window.ensures.ok)
