use Rattle.std.proofs.Common.{◌≡◌, drop}
use Rattle.rm_base.specs.NumberSet.{has_number}
use Rattle.rm_sides.specs.Destination.Messages.{numbers_of}
use Rattle.node_tables.proofs.copies.place_of.Given as goal

-- the number is among those that are left, where it is there
abbrev pub invariant-loop-place : goal.invariant-loop-place
invariant-loop-place l =
    has_number (numbers_of (drop l.place l.messages)) l.number ≡ has_number (numbers_of l.messages) l.number
