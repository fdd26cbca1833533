use Rattle.desk_tests.proofs.tests.visitors.a_front_that_is_not_shown_is_not_seen.Given as goal

-- the list that was just made
abbrev pub ghosts-learn_unshown : goal.ghosts-learn_unshown
ghosts-learn_unshown g a = record { book = a.new; found = 0 }
