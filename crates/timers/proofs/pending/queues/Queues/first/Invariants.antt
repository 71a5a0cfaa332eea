use Rattle.timers.proofs.pending.queues.Queues.first.Given as goal

abbrev pub ghosts-nth : goal.ghosts-nth
ghosts-nth g a = record { name = a.blank.name; parts = a.blank.parts }
