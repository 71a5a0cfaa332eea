use Rattle.timers.proofs.slots.timers.Timers.add.Given as goal

abbrev pub ghosts-put_new : goal.ghosts-put_new
ghosts-put_new a = record { name = a.blank.name; parts = a.blank.parts }
