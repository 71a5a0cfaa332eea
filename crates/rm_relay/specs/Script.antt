-- Scripts of a relay: lines of bytes, each of which says what a node is asked for or what befalls it.
use Rattle.std.specs.Prelude.{◌≡◌, ◌≢◌, ◌⊎◌, ℕ, List, [], ◌++◌, codes}
use Rattle.rm_base.specs.Limits as limits
use Rattle.rm_script.specs.Said.{AreSaid, IsFirstUnsaid}
use Rattle.rm_script.specs.Script.{IsNumber, side_text, spaced}
use Rattle.rm_relay.specs.declared.event.Event.{Event}
use Rattle.rm_relay.specs.declared.event.Event.TheVariants.{Nothing, Create, Send, Forward, Trim, Tick, Deliver, Close}
use Rattle.rm_relay.specs.declared.event.Event.TheVariants.{End, Compact, Arm, Crash}
use Rattle.rm_relay.specs.declared.word.station.Station.{Station}
use Rattle.rm_relay.specs.declared.word.station.Station.TheVariants.{One, Two, Three}

-- a node's number
abbrev pub station_text : Station → List ℕ
station_text One = codes "1"
station_text Two = codes "2"
station_text Three = codes "3"

-- a verb, the number of a node, and arguments
abbrev pub call_text : List ℕ → Station → List ℕ → List ℕ
call_text verb station arguments = spaced verb (spaced (station_text station) arguments)

-- what a line says. An empty line and one that begins with # say nothing
abbrev pub Says : List ℕ → Event → Type 0
Says line Nothing = (line ≡ []) ⊎ ((rest : List ℕ) × (line ≡ codes "#" ++ rest))
Says line (Create node) = line ≡ spaced (codes "create") (side_text node)
Says line (Send seq text) =
    (k : List ℕ) × IsNumber 1 limits.most_sequences k seq × (text ≢ [])
    × (line ≡ call_text (codes "send") One (spaced k text))
Says line Forward = line ≡ codes "forward"
Says line Trim = line ≡ codes "trim"
Says line (Tick node now) =
    (ms : List ℕ) × IsNumber 0 limits.now_max ms now × (line ≡ call_text (codes "tick") node ms)
Says line (Deliver packet) =
    (p : List ℕ) × IsNumber 1 limits.most_packets p packet × (line ≡ spaced (codes "deliver") p)
Says line (Close node seq) =
    (k : List ℕ) × IsNumber 1 limits.most_sequences k seq × (line ≡ call_text (codes "close") node k)
Says line (End node seq) =
    (k : List ℕ) × IsNumber 1 limits.most_sequences k seq × (line ≡ call_text (codes "end") node k)
Says line (Compact node) = line ≡ spaced (codes "compact") (station_text node)
Says line (Arm node calls) = (c : List ℕ) × IsNumber 1 1000 c calls × (line ≡ call_text (codes "arm") node c)
Says line (Crash node choice) = (x : List ℕ) × IsNumber 0 3 x choice × (line ≡ call_text (codes "crash") node x)

-- each line says its event
abbrev pub IsScript : List (List ℕ) → List Event → Type 0
IsScript lines events = AreSaid Says lines events

-- line k, counted from 1, says nothing that a script may say, and those before it are a script
abbrev pub IsFirstBad : List (List ℕ) → ℕ → Type 0
IsFirstBad lines k = IsFirstUnsaid Says lines k
