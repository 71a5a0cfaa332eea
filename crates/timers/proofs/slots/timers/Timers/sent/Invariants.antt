use Rattle.timers.proofs.slots.timers.Timers.sent.Given as goal

abbrev pub ghosts-shift : goal.ghosts-shift
ghosts-shift a = record { name = a.blank.name; parts = a.blank.parts }
