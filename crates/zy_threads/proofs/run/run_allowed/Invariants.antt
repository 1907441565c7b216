use Rattle.std.proofs.Common.{length}
use Rattle.zy_isa.specs.declared.node.Actor.TheVariants.{C, A, B}
use Rattle.zy_threads.specs.Turns.{sub}
use Rattle.zy_threads.proofs.run.run_allowed.Given as goal

abbrev pub ghosts-run_named-S-Of : goal.ghosts-run_named-S-Of
ghosts-run_named-S-Of g a = record { plan = a.board.machine.scenario }

abbrev pub ghosts-run_named-C-Ledger : goal.ghosts-run_named-C-Ledger
ghosts-run_named-C-Ledger g a = record { name = a.blanks.c.name; parts = a.blanks.c.parts }

abbrev pub ghosts-run_named-C-Side : goal.ghosts-run_named-C-Side
ghosts-run_named-C-Side g a = record { turns = length (sub C a.board.machine.scenario.choices) }

abbrev pub ghosts-run_named-A-Ledger : goal.ghosts-run_named-A-Ledger
ghosts-run_named-A-Ledger g a = record { name = a.blanks.a.name; parts = a.blanks.a.parts }

abbrev pub ghosts-run_named-A-Side : goal.ghosts-run_named-A-Side
ghosts-run_named-A-Side g a = record { turns = length (sub A a.board.machine.scenario.choices) }

abbrev pub ghosts-run_named-B-Ledger : goal.ghosts-run_named-B-Ledger
ghosts-run_named-B-Ledger g a = record { name = a.blanks.b.name; parts = a.blanks.b.parts }

abbrev pub ghosts-run_named-B-Side : goal.ghosts-run_named-B-Side
ghosts-run_named-B-Side g a = record { turns = length (sub B a.board.machine.scenario.choices) }
