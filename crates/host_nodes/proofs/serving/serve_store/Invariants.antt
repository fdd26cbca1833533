use Rattle.host_nodes.proofs.serving.serve_store.Given as goal

-- the ledger that was just made
abbrev pub ghosts-serve_found-J-Ledger : goal.ghosts-serve_found-J-Ledger
ghosts-serve_found-J-Ledger g a = record { name = a.new.ledger; parts = a.new.seats }

-- the list of entries that was just made, which begins with those that were found
abbrev pub ghosts-serve_found-J-ListName : goal.ghosts-serve_found-J-ListName
ghosts-serve_found-J-ListName g a = record { book = a.new.entries; found = a.found.journal.entries }

-- the list of files that was just made, which begins with those that were found
abbrev pub ghosts-serve_found-K-ListName : goal.ghosts-serve_found-K-ListName
ghosts-serve_found-K-ListName g a = record { book = a.new.uploads; found = a.found.store.known }
