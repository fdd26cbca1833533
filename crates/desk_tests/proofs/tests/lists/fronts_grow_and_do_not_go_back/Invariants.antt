use Rattle.desk_tests.proofs.tests.lists.fronts_grow_and_do_not_go_back.Given as goal

-- the list that was just made
abbrev pub ghosts-grow : goal.ghosts-grow
ghosts-grow g a = record { book = a.new; found = 0 }
