-- What the bytes of an application's request ask for.
use Rattle.std.specs.Prelude.{◌≡◌, ℕ, ◌==◌, if◌then◌else◌, List, [], ◌∷◌, codes, Option, None, Some, Result, Ok, Err}
use Rattle.std.specs.Prelude.{option_map, option_and_then}
use Rattle.std.specs.List.{after_first, before_first}
use Rattle.rm_host.specs.Words.{IsAddress, IsReachable}
use Rattle.rm_script.specs.Reading.{behind, behind_word, choose, is_same, number_in, word_of}
use Rattle.rm_host.specs.declared.end.End.{End}
use Rattle.rm_host.specs.declared.end.End.TheVariants.{BadAddress, Memory, Usage}
use Rattle.rm_station.specs.declared.ask.Ask.{Ask}
use Rattle.rm_station.specs.declared.ask.Ask.TheVariants.{Closes, Consumes, Counts, Ends, Fetches, FetchesNext, Health}
use Rattle.rm_station.specs.declared.ask.Ask.TheVariants.{Lists, Offers, Polls, Shows, Stops}
use Rattle.rm_station.specs.declared.ask.Next.{Next}

-- the first line
abbrev pub line_in : List ℕ → List ℕ
line_in bytes = before_first (λ byte. byte == 10) bytes

-- what stands behind it
abbrev pub behind_line : List ℕ → List ℕ
behind_line bytes = after_first (λ byte. byte == 10) bytes

-- ---- numbers

-- the greatest number of a sequence that can be asked for
abbrev pub most_seq : ℕ
most_seq = 4294967295

-- and the greatest of an item
abbrev pub most_number : ℕ
most_number = 18446744073709551615

-- the number of a sequence whose digits these are
abbrev pub seq_in : List ℕ → Option ℕ
seq_in digits = number_in 0 most_seq digits

-- a number behind a space
abbrev pub number_behind : List ℕ → Option ℕ
number_behind bytes = option_and_then (number_in 0 most_number) (behind (codes " ") bytes)

-- the number of a sequence, a space, and another number
abbrev pub pair_in : List ℕ → Option Next
pair_in words =
    option_and_then (λ seq. option_map (λ number. record { seq = seq; number = number })
    (number_behind (behind_word words))) (seq_in (word_of words))

-- ---- requests that have no payload and no address

-- consume K M
abbrev pub consume_in : List ℕ → Option Ask
consume_in words = option_map (λ pair. Consumes pair.seq pair.number) (pair_in words)

-- close K
abbrev pub close_in : List ℕ → Option Ask
close_in words = option_map Closes (seq_in words)

-- end K
abbrev pub end_in : List ℕ → Option Ask
end_in words = option_map Ends (seq_in words)

-- from which item on the inbox of a sequence is listed, and how many items at most
abbrev pub inbox_behind : List ℕ → ℕ → Option Ask
inbox_behind words seq =
    option_and_then (λ rest. option_and_then (λ from. option_map (λ most. Lists seq from most)
    (number_behind (behind_word rest))) (number_in 0 most_number (word_of rest))) (behind (codes " ") words)

-- inbox K FROM MOST
abbrev pub inbox_in : List ℕ → Option Ask
inbox_in words = option_and_then (inbox_behind (behind_word words)) (seq_in (word_of words))

-- item K M
abbrev pub item_in : List ℕ → Option Ask
item_in words = option_map (λ pair. Fetches pair.seq pair.number) (pair_in words)

-- next K
abbrev pub next_in : List ℕ → Option Ask
next_in words = option_map FetchesNext (seq_in words)

-- a line that is one word
abbrev pub bare_in : List ℕ → Option Ask
bare_in line =
    if is_same line (codes "stop") then Some Stops
    else if is_same line (codes "show") then Some Shows
    else if is_same line (codes "metrics") then Some Counts
    else if is_same line (codes "health") then Some Health else None

-- a line that asks for what is in an inbox
abbrev pub read_in : List ℕ → Option Ask
read_in line =
    choose (behind (codes "inbox ") line) inbox_in (choose (behind (codes "item ") line) item_in
    (choose (behind (codes "next ") line) next_in (bare_in line)))

-- a line with neither an address nor a payload
abbrev pub plain_in : List ℕ → Option Ask
plain_in line =
    choose (behind (codes "consume ") line) consume_in (choose (behind (codes "close ") line) close_in
    (choose (behind (codes "end ") line) end_in (read_in line)))

-- what is asked for, or the line isn't understood
abbrev pub understood : Option Ask → Result Ask End
understood None = Err Usage
understood (Some ask) = Ok ask

-- ---- requests with an address

-- what stands behind the address of a payload: nothing, or a space, and the sequence and the number that must come next
abbrev pub wanted_in : List ℕ → Option (Option Next)
wanted_in [] = Some None
wanted_in (byte ∷ bytes) = option_map Some (option_and_then pair_in (behind (codes " ") (byte ∷ bytes)))

-- a payload for the address that a word is, under these numbers; memory is wanted for it
abbrev pub Offered : (word payload : List ℕ) → Option Next → Result Ask End → Type 0
Offered word payload wanted (Ok (Offers to next more)) =
    (to ≡ word) × IsAddress word × IsReachable word × (next ≡ wanted) × (more ≡ payload)
Offered word payload wanted (Err Usage) = ¬ (IsAddress word)
Offered word payload wanted (Err BadAddress) = IsAddress word × ¬ (IsReachable word)
Offered word payload wanted (Err Memory) = Unit {0}
Offered word payload wanted _ = ⊥

-- where the numbers are understood
abbrev pub OfferedBy : (word payload : List ℕ) → Option (Option Next) → Result Ask End → Type 0
OfferedBy word payload None result = result ≡ Err Usage
OfferedBy word payload (Some wanted) result = Offered word payload wanted result

-- a poll of the address that a word is; memory is wanted for it
abbrev pub Polled : (word : List ℕ) → Result Ask End → Type 0
Polled word (Ok (Polls to)) = (to ≡ word) × IsAddress word × IsReachable word
Polled word (Err Usage) = ¬ (IsAddress word)
Polled word (Err BadAddress) = IsAddress word × ¬ (IsReachable word)
Polled word (Err Memory) = Unit {0}
Polled word _ = ⊥

-- by what stands behind the word poll, where the line begins so
abbrev pub PolledBy : (line : List ℕ) → Option (List ℕ) → Result Ask End → Type 0
PolledBy line None result = result ≡ understood (plain_in line)
PolledBy line (Some word) result = Polled word result

-- by what stands behind the word send, where the line begins so
abbrev pub AskedBy : (line payload : List ℕ) → Option (List ℕ) → Result Ask End → Type 0
AskedBy line payload None result = PolledBy line (behind (codes "poll ") line) result
AskedBy line payload (Some words) result =
    OfferedBy (word_of words) payload (wanted_in (behind_word words)) result

-- What a request asks for, by its first line: send and an address, with the sequence and the number that must come next
-- or without, where what stands behind the line is a payload; poll and an address; or another word and its numbers.
abbrev pub AsksFor : List ℕ → Result Ask End → Type 0
AsksFor bytes result = AskedBy (line_in bytes) (behind_line bytes) (behind (codes "send ") (line_in bytes)) result
