use Rattle.proved_tests.proofs.hinted.hints_are_taken_in_order_and_dropped_where_the_queue_is_full.Given as goal

abbrev pub ghosts-filled : goal.ghosts-filled
ghosts-filled a a' = record { ring = 2 }
