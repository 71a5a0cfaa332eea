use Rattle.timers.proofs.slots.timers.Timers.take_due.Given as goal

abbrev pub ghosts-shift_due : goal.ghosts-shift_due
ghosts-shift_due a = record { name = a.blank.name; parts = a.blank.parts }
