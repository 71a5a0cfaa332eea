use Rattle.timers.proofs.links.links.Links.with_slots.Given as goal

abbrev pub ghosts-free_all : goal.ghosts-free_all
ghosts-free_all a = record { name = a.blank.name; parts = a.blank.parts }
