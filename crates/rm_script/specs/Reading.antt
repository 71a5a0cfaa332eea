-- How a line is read from left to right, for the reader's inner contracts. That it reads what the grammar says, and
-- nothing else, is a law.
use Rattle.std.specs.Prelude.{ℕ, ◌==◌, ◌&&◌, if◌then◌else◌, nat_le, Bool, List, [], ◌∷◌, Option, Some, None}
use Rattle.std.specs.Prelude.{Result, Ok, Err, option_map, option_and_then, true, false, codes, decimal}
use Rattle.std.specs.Str.Parse.{digits_value}
use Rattle.rm_base.specs.Limits as limits
use Rattle.rm_base.specs.Message.{max_number}
use Rattle.hex.specs.Hex.{decode_of}
use Rattle.hex.specs.declared.error.FromHexError.{FromHexError}
use Rattle.rm_base.specs.declared.message.Behaviour.{Behaviour}
use Rattle.rm_base.specs.declared.message.Behaviour.TheVariants.{EntireSequence, FollowingFirstGap, NoDiscard}
use Rattle.rm_base.specs.declared.lapse.Lapse.{Lapse}
use Rattle.rm_message.specs.Elements.Duration.{duration_in}
use Rattle.rm_script.specs.Bytes.{space_byte, number_sign, digit_one, digit_two}
use Rattle.rm_script.specs.declared.event.Side.{Side}
use Rattle.rm_script.specs.declared.event.Side.TheVariants.{One, Two}
use Rattle.rm_script.specs.declared.event.Event.{Event}
use Rattle.rm_script.specs.declared.event.Event.TheVariants.{Nothing, Create, Grant, Send, Tick, Deliver, Close, End}
use Rattle.rm_script.specs.declared.event.Event.TheVariants.{Ask, Nack, Poll, Compact, Consume}
use Rattle.rm_script.specs.declared.event.Event.TheVariants.{Arm, Crash, Noise}

-- what stands behind a word at the front of bytes
abbrev pub behind : List ℕ → List ℕ → Option (List ℕ)
behind [] bytes = Some bytes
behind (c ∷ word) [] = None
behind (c ∷ word) (b ∷ bytes) = if b == c then behind word bytes else None

-- the bytes up to the first space
abbrev pub word_of : List ℕ → List ℕ
word_of [] = []
word_of (b ∷ bytes) = if b == space_byte then [] else b ∷ word_of bytes

-- and those from it on
abbrev pub behind_word : List ℕ → List ℕ
behind_word [] = []
behind_word (b ∷ bytes) = if b == space_byte then b ∷ bytes else behind_word bytes

-- whether two texts are one
abbrev pub is_same : List ℕ → List ℕ → Bool
is_same [] [] = true
is_same [] (b ∷ ys) = false
is_same (a ∷ xs) [] = false
is_same (a ∷ xs) (b ∷ ys) = (a == b) && is_same xs ys

-- the number from low to high whose digits these are
abbrev pub number_in : ℕ → ℕ → List ℕ → Option ℕ
number_in low high digits =
    let number = digits_value 10 digits in
    if is_same digits (decimal number) && nat_le low number && nat_le number high then Some number else None

-- the behaviour that a word names
abbrev pub behaviour_in : List ℕ → Option Behaviour
behaviour_in word =
    if is_same word (codes "dfg") then Some FollowingFirstGap
    else if is_same word (codes "des") then Some EntireSequence
    else if is_same word (codes "loose") then Some NoDiscard else None

-- a node's number at the front, and what stands behind it
abbrev pub node_in : List ℕ → Option (Side × List ℕ)
node_in [] = None
node_in (b ∷ bytes) = if b == digit_one then Some (One, bytes) else if b == digit_two then Some (Two, bytes) else None

-- what stands behind a node's number and a space
abbrev pub behind_space : Side × List ℕ → Option (Side × List ℕ)
behind_space n = option_map (λ arguments. (n.0, arguments)) (behind (codes " ") n.1)

-- a node's number at the front, and the arguments behind it
abbrev pub call_in : List ℕ → Option (Side × List ℕ)
call_in bytes = option_and_then behind_space (node_in bytes)

-- a node's number at the front, and a number from low to high behind it
abbrev pub numbered_in : ℕ → ℕ → List ℕ → Option (Side × ℕ)
numbered_in low high bytes =
    option_and_then (λ n. option_map (λ number. (n.0, number)) (number_in low high n.1)) (call_in bytes)

-- ---- the arguments of each verb

-- [ offer dfg|des|loose]
abbrev pub offer_in : List ℕ → Option (Option Behaviour)
offer_in [] = Some None
offer_in (b ∷ bytes) = option_map Some (option_and_then behaviour_in (behind (codes " offer ") (b ∷ bytes)))

-- whether the word polled stands at the front of these words, and what stands behind it
abbrev pub polled_by : List ℕ → Option (List ℕ) → Bool × List ℕ
polled_by words None = (false, words)
polled_by words (Some rest) = (true, rest)

-- [ polled]
abbrev pub polled_in : List ℕ → Bool × List ℕ
polled_in words = polled_by words (behind (codes " polled") words)

-- with the words behind the duration
abbrev pub create_with : Side → List ℕ → Lapse → Option Event
create_with side words expires =
    option_map (λ offer. Create side expires (polled_in words).0 offer) (offer_in (polled_in words).1)

-- where no duration is written it is zero
abbrev pub create_behind : Side → List ℕ → Option (List ℕ) → Option Event
create_behind side words None = create_with side words (record { months = 0; ms = 0 })
create_behind side words (Some rest) =
    option_and_then (λ expires. create_with side (behind_word rest) expires) (duration_in (word_of rest))

-- create N [expires D] [polled] [offer dfg|des|loose]
abbrev pub create_in : List ℕ → Option Event
create_in bytes = option_and_then (λ n. create_behind n.0 n.1 (behind (codes " expires ") n.1)) (node_in bytes)

-- grant N dfg|des|loose
abbrev pub grant_in : List ℕ → Option Event
grant_in bytes = option_and_then (λ n. option_map (λ b. Grant n.0 b) (behaviour_in n.1)) (call_in bytes)

-- a text is not empty
abbrev pub text_in : List ℕ → Option (List ℕ)
text_in [] = None
text_in (b ∷ bytes) = Some (b ∷ bytes)

-- the text behind the number of a sequence
abbrev pub text_behind : List ℕ → Option (List ℕ)
text_behind arguments = option_and_then text_in (behind (codes " ") (behind_word arguments))

-- send N K TEXT
abbrev pub send_in : List ℕ → Option Event
send_in bytes =
    option_and_then (λ n. option_and_then (λ seq. option_map (λ text. Send n.0 seq text) (text_behind n.1))
    (number_in 1 limits.most_sequences (word_of n.1))) (call_in bytes)

-- tick N MS
abbrev pub tick_in : List ℕ → Option Event
tick_in bytes = option_map (λ n. Tick n.0 n.1) (numbered_in 0 limits.now_max bytes)

-- deliver P
abbrev pub deliver_in : List ℕ → Option Event
deliver_in bytes = option_map (λ packet. Deliver packet) (number_in 1 limits.most_packets bytes)

-- close N K
abbrev pub close_in : List ℕ → Option Event
close_in bytes = option_map (λ n. Close n.0 n.1) (numbered_in 1 limits.most_sequences bytes)

-- end N K
abbrev pub end_in : List ℕ → Option Event
end_in bytes = option_map (λ n. End n.0 n.1) (numbered_in 1 limits.most_sequences bytes)

-- ask N K
abbrev pub ask_in : List ℕ → Option Event
ask_in bytes = option_map (λ n. Ask n.0 n.1) (numbered_in 1 limits.most_sequences bytes)

-- nack N K
abbrev pub nack_in : List ℕ → Option Event
nack_in bytes = option_map (λ n. Nack n.0 n.1) (numbered_in 1 limits.most_sequences bytes)

-- nothing stands behind the node's number
abbrev pub with_none : Side → List ℕ → Option Side
with_none side [] = Some side
with_none side (b ∷ bytes) = None

-- a node's number alone
abbrev pub alone_in : List ℕ → Option Side
alone_in bytes = option_and_then (λ n. with_none n.0 n.1) (node_in bytes)

-- poll N
abbrev pub poll_in : List ℕ → Option Event
poll_in bytes = option_map (λ side. Poll side) (alone_in bytes)

-- compact N
abbrev pub compact_in : List ℕ → Option Event
compact_in bytes = option_map (λ side. Compact side) (alone_in bytes)

-- the number of a message, behind a space
abbrev pub number_behind : List ℕ → Option ℕ
number_behind bytes = option_and_then (number_in 1 max_number) (behind (codes " ") bytes)

-- consume N K M
abbrev pub consume_in : List ℕ → Option Event
consume_in bytes =
    option_and_then (λ n. option_and_then (λ seq. option_map (λ upto. Consume n.0 seq upto)
    (number_behind (behind_word n.1))) (number_in 1 limits.most_sequences (word_of n.1))) (call_in bytes)

-- arm N C
abbrev pub arm_in : List ℕ → Option Event
arm_in bytes = option_map (λ n. Arm n.0 n.1) (numbered_in 1 1000 bytes)

-- crash N X
abbrev pub crash_in : List ℕ → Option Event
crash_in bytes = option_map (λ n. Crash n.0 n.1) (numbered_in 0 3 bytes)

-- the bytes of pairs of digits, where there are any
abbrev pub some_bytes : Result (List ℕ) FromHexError → Option (List ℕ)
some_bytes (Ok bytes) = text_in bytes
some_bytes (Err _) = None

-- noise N HEX
abbrev pub noise_in : List ℕ → Option Event
noise_in bytes =
    option_and_then (λ n. option_map (λ noise. Noise n.0 noise) (some_bytes (decode_of n.1))) (call_in bytes)

-- ---- lines

-- what a verb's reader says where the verb stands there, and else another reader
abbrev pub choose : {E : Type 0} → Option (List ℕ) → (List ℕ → Option E) → Option E → Option E
choose None read other = other
choose (Some rest) read other = read rest

-- what befalls the nodes and the packets between them
abbrev pub mishap_in : List ℕ → Option Event
mishap_in line =
    choose (behind (codes "deliver ") line) deliver_in (choose (behind (codes "arm ") line) arm_in
    (choose (behind (codes "crash ") line) crash_in (choose (behind (codes "noise ") line) noise_in None)))

-- what a node is asked for
abbrev pub request_in : List ℕ → Option Event
request_in line =
    choose (behind (codes "create ") line) create_in (choose (behind (codes "grant ") line) grant_in
    (choose (behind (codes "send ") line) send_in (choose (behind (codes "tick ") line) tick_in
    (choose (behind (codes "close ") line) close_in (choose (behind (codes "end ") line) end_in
    (choose (behind (codes "ask ") line) ask_in (choose (behind (codes "nack ") line) nack_in
    (choose (behind (codes "poll ") line) poll_in (choose (behind (codes "compact ") line) compact_in
    (choose (behind (codes "consume ") line) consume_in (mishap_in line)))))))))))

-- whether a line is empty, or a comment
abbrev pub is_blank : List ℕ → Bool
is_blank [] = true
is_blank (b ∷ line) = b == number_sign

-- what a line says
abbrev pub event_in : List ℕ → Option Event
event_in line = if is_blank line then Some Nothing else request_in line
