-- The limits of a node, of its journal and of what it reads, each of them a number that stands here once; definitions
-- cite it from here. That of an address and that of an identifier stand in `IsText 2048` and `IsText 512`, the greatest
-- message number in `Message`, and how many elements may be open at a place of a document in its grammar.
use Rattle.std.specs.Prelude.{ℕ}

-- how far past the front of a sequence a number is taken, and how many of its messages may be unacknowledged
abbrev pub window : ℕ
window = 1024

-- the most sequences of a node, in its whole life
abbrev pub most_sequences : ℕ
most_sequences = 256

-- the most messages of a node that are unacknowledged
abbrev pub most_unacked : ℕ
most_unacked = 4096

-- the most keys that wait to be emitted: messages that are unacknowledged, and a request of each sequence
abbrev pub most_keys : ℕ
most_keys = 4352

-- the most bytes of a journal
abbrev pub journal_bytes : ℕ
journal_bytes = 268435456

-- of an entry of it
abbrev pub entry_bytes : ℕ
entry_bytes = 4194304

-- of an envelope, and of any document
abbrev pub envelope_bytes : ℕ
envelope_bytes = 2097152

-- of a payload
abbrev pub payload_bytes : ℕ
payload_bytes = 1048576

-- of a script
abbrev pub script_bytes : ℕ
script_bytes = 16777216

-- of all reference parameters of an endpoint together
abbrev pub parameter_bytes : ℕ
parameter_bytes = 65536

-- how many elements of a payload, or of a reference parameter, may stand in one another
abbrev pub content_depth : ℕ
content_depth = 90

-- the most packets of a network in memory
abbrev pub most_packets : ℕ
most_packets = 65536

-- the greatest moment that a program speaks of, in milliseconds since 1970 UTC
abbrev pub now_max : ℕ
now_max = 200000000000000
