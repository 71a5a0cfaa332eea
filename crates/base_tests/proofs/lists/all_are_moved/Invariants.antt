use Rattle.base_tests.proofs.lists.all_are_moved.Given as goal

abbrev pub ghosts-moves_among : goal.ghosts-moves_among
ghosts-moves_among a = record { name = a.blank.name; parts = a.blank.parts }
