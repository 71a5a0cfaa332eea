use Rattle.timers.proofs.pending.queues.Queues.put.Given as goal

abbrev pub ghosts-add : goal.ghosts-add
ghosts-add g a = record { name = a.blank.name; parts = a.blank.parts }
