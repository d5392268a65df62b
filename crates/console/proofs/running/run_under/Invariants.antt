use Rattle.console.proofs.running.run_under.Given as goal

-- the ledgers of the steps, the faults and the failures, which are not kept
abbrev pub ghosts-run_in-L-Ledger : goal.ghosts-run_in-L-Ledger
ghosts-run_in-L-Ledger g a = record { name = a.blanks.steps.name; parts = a.blanks.steps.parts }

abbrev pub ghosts-run_in-F-Ledger : goal.ghosts-run_in-F-Ledger
ghosts-run_in-F-Ledger g a = record { name = a.blanks.faults.name; parts = a.blanks.faults.parts }

abbrev pub ghosts-run_in-G-Ledger : goal.ghosts-run_in-G-Ledger
ghosts-run_in-G-Ledger g a = record { name = a.blanks.failures.name; parts = a.blanks.failures.parts }
