use Rattle.pool.proofs.running.run.Given as goal

abbrev pub ghosts-run_named-K-OfProgram : goal.ghosts-run_named-K-OfProgram
ghosts-run_named-K-OfProgram g a = record { program = a.run.now.program.now }

abbrev pub ghosts-run_named-K-Bounds : goal.ghosts-run_named-K-Bounds
ghosts-run_named-K-Bounds g a = record { counts = a.counts; config = a.run.now.config.now }

abbrev pub ghosts-run_named-K-Ring : goal.ghosts-run_named-K-Ring
ghosts-run_named-K-Ring g a = record { ring = a.run.now.config.now.ring }
