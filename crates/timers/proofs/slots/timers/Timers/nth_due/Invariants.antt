use Rattle.timers.proofs.slots.timers.Timers.nth_due.Given as goal

abbrev pub ghosts-find_due : goal.ghosts-find_due
ghosts-find_due a = record { name = a.blank.name; parts = a.blank.parts }
