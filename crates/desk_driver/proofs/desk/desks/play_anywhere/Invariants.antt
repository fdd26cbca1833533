use Rattle.desk_driver.proofs.desk.desks.play_anywhere.Given as goal

-- the ledger that was just made
abbrev pub ghosts-play_at-J-Ledger : goal.ghosts-play_at-J-Ledger
ghosts-play_at-J-Ledger g a = record { name = a.new.ledger; parts = a.new.seats }

-- the list of entries that was just made, which begins with those that were found
abbrev pub ghosts-play_at-J-ListName : goal.ghosts-play_at-J-ListName
ghosts-play_at-J-ListName g a = record { book = a.new.entries; found = a.found.journal.entries }

-- the list of files that was just made, which begins with those that were found
abbrev pub ghosts-play_at-K-ListName : goal.ghosts-play_at-K-ListName
ghosts-play_at-K-ListName g a = record { book = a.new.uploads; found = a.found.store.known }
