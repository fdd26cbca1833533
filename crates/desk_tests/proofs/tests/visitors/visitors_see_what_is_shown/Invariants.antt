use Rattle.desk_tests.proofs.tests.visitors.visitors_see_what_is_shown.Given as goal

-- the list that was just made
abbrev pub ghosts-open : goal.ghosts-open
ghosts-open g a = record { book = a.new; found = 0 }
