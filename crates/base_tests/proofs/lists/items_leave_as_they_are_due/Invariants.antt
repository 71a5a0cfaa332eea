use Rattle.base_tests.proofs.lists.items_leave_as_they_are_due.Given as goal

abbrev pub ghosts-three_items : goal.ghosts-three_items
ghosts-three_items g a = record { name = a.blank.name; parts = a.blank.parts }
