-- The limits of what waits until it is asked for, each of them a number that stands here once.
use Rattle.std.specs.Prelude.{ℕ}

-- the most packets that wait for one address
abbrev pub most_waiting : ℕ
most_waiting = 64

-- the most addresses for which one waits, and how many queues there are
abbrev pub most_addresses : ℕ
most_addresses = 256

-- the most packets that wait for all of them
abbrev pub most_packets : ℕ
most_packets = 16384
