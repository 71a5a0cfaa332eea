-- How a line is read from left to right, for the reader's inner contracts. That it reads what the grammar says, and
-- nothing else, is a law.
use Rattle.std.specs.Prelude.{ℕ, ◌==◌, if◌then◌else◌, List, [], ◌∷◌, codes, Option, Some, None, option_map}
use Rattle.std.specs.Prelude.{option_and_then}
use Rattle.rm_base.specs.Limits as limits
use Rattle.rm_script.specs.Reading.{behind, choose, is_blank, is_same, number_in, text_behind, word_of}
use Rattle.rm_script.specs.declared.event.Side.TheVariants as side
use Rattle.rm_relay.specs.declared.event.Event.{Event}
use Rattle.rm_relay.specs.declared.event.Event.TheVariants.{Nothing, Create, Send, Forward, Trim, Tick, Deliver, Close}
use Rattle.rm_relay.specs.declared.event.Event.TheVariants.{End, Compact, Arm, Crash}
use Rattle.rm_relay.specs.declared.word.station.Station.{Station}
use Rattle.rm_relay.specs.declared.word.station.Station.TheVariants.{One, Two, Three}

-- a node's number at the front, and what stands behind it
abbrev pub station_in : List ℕ → Option (Station × List ℕ)
station_in [] = None
station_in (b ∷ bytes) =
    if b == 49 then Some (One, bytes) else if b == 50 then Some (Two, bytes)
    else if b == 51 then Some (Three, bytes) else None

-- a node's number at the front, and a number from low to high behind a space
abbrev pub numbered_in : ℕ → ℕ → List ℕ → Option (Station × ℕ)
numbered_in low high bytes =
    option_and_then (λ n. option_and_then (λ digits. option_map (λ number. (n.0, number)) (number_in low high digits))
    (behind (codes " ") n.1)) (station_in bytes)

-- create N
abbrev pub create_in : List ℕ → Option Event
create_in bytes =
    if is_same bytes (codes "1") then Some (Create side.One)
    else if is_same bytes (codes "2") then Some (Create side.Two)
    else None

-- send 1 K TEXT
abbrev pub send_in : List ℕ → Option Event
send_in bytes =
    option_and_then (λ seq. option_map (λ text. Send seq text) (text_behind bytes))
    (number_in 1 limits.most_sequences (word_of bytes))

-- tick N MS
abbrev pub tick_in : List ℕ → Option Event
tick_in bytes = option_map (λ n. Tick n.0 n.1) (numbered_in 0 limits.now_max bytes)

-- deliver P
abbrev pub deliver_in : List ℕ → Option Event
deliver_in bytes = option_map (λ packet. Deliver packet) (number_in 1 limits.most_packets bytes)

-- close N K
abbrev pub close_in : List ℕ → Option Event
close_in bytes = option_map (λ n. Close n.0 n.1) (numbered_in 1 limits.most_sequences bytes)

-- end N K
abbrev pub end_in : List ℕ → Option Event
end_in bytes = option_map (λ n. End n.0 n.1) (numbered_in 1 limits.most_sequences bytes)

-- nothing stands behind the node's number
abbrev pub with_none : Station → List ℕ → Option Event
with_none at [] = Some (Compact at)
with_none at (b ∷ bytes) = None

-- compact N
abbrev pub compact_in : List ℕ → Option Event
compact_in bytes = option_and_then (λ n. with_none n.0 n.1) (station_in bytes)

-- arm N C
abbrev pub arm_in : List ℕ → Option Event
arm_in bytes = option_map (λ n. Arm n.0 n.1) (numbered_in 1 1000 bytes)

-- crash N X
abbrev pub crash_in : List ℕ → Option Event
crash_in bytes = option_map (λ n. Crash n.0 n.1) (numbered_in 0 3 bytes)

-- the lines of one word
abbrev pub word_in : List ℕ → Option Event
word_in line =
    if is_same line (codes "forward") then Some Forward
    else if is_same line (codes "trim") then Some Trim
    else None

-- what becomes of the disks
abbrev pub mishap_in : List ℕ → Option Event
mishap_in line =
    choose (behind (codes "compact ") line) compact_in (choose (behind (codes "arm ") line) arm_in
    (choose (behind (codes "crash ") line) crash_in (word_in line)))

-- what the nodes do
abbrev pub request_in : List ℕ → Option Event
request_in line =
    choose (behind (codes "create ") line) create_in (choose (behind (codes "tick ") line) tick_in
    (choose (behind (codes "deliver ") line) deliver_in (choose (behind (codes "close ") line) close_in
    (choose (behind (codes "end ") line) end_in (mishap_in line)))))

-- what a line says
abbrev pub event_in : List ℕ → Option Event
event_in line =
    if is_blank line then Some Nothing
    else choose (behind (codes "send 1 ") line) send_in (request_in line)
