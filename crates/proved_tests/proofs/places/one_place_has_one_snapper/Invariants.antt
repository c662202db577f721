use Rattle.proved_tests.proofs.places.one_place_has_one_snapper.Given as goal

abbrev pub ghosts-has_one_snapper : goal.ghosts-has_one_snapper
ghosts-has_one_snapper g a = record { program = a.setup.now.program }
