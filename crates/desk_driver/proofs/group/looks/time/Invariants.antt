use Rattle.desk_driver.proofs.group.looks.time.Given as goal

-- the list that was just made
abbrev pub ghosts-time_named : goal.ghosts-time_named
ghosts-time_named g a = record { book = a.new; found = 0 }
