use Rattle.desk_tests.proofs.tests.lists.threads_push_to_one_list.Given as goal

-- the list that was just made
abbrev pub ghosts-push_both : goal.ghosts-push_both
ghosts-push_both g a = record { book = a.new; found = 0 }
