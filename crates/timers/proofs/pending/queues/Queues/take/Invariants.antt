use Rattle.timers.proofs.pending.queues.Queues.take.Given as goal

abbrev pub ghosts-take_first : goal.ghosts-take_first
ghosts-take_first g a = record { name = a.blank.name; parts = a.blank.parts }
