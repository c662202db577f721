use Rattle.proved_tests.proofs.woken.a_load_wakes_its_consumer.Given as goal

abbrev pub ghosts-woken_by_a_load : goal.ghosts-woken_by_a_load
ghosts-woken_by_a_load g a = record { program = a.setup.now.program }
