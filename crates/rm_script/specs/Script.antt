-- Scripts: lines of bytes, each of which says what a node is asked for or what befalls it.
use Rattle.std.specs.Prelude.{◌≡◌, ◌≢◌, ℕ, ◌≤◌, ◌==◌, if◌then◌else◌, ◌⊎◌, List, [], ◌∷◌, ◌++◌, Bool, true, false}
use Rattle.std.specs.Prelude.{Option, Some, None, Ok, codes, decimal}
use Rattle.std.specs.List.{AllByRecursion}
use Rattle.rm_base.specs.Limits as limits
use Rattle.rm_base.specs.Message.{max_number}
use Rattle.hex.specs.Hex.{decode_of}
use Rattle.rm_base.specs.declared.message.Behaviour.{Behaviour}
use Rattle.rm_base.specs.declared.message.Behaviour.TheVariants.{NoDiscard, EntireSequence, FollowingFirstGap}
use Rattle.rm_base.specs.declared.lapse.Lapse.{Lapse}
use Rattle.rm_message.specs.Elements.Duration.{duration_in}
use Rattle.rm_script.specs.Bytes.{line_feed, space_byte}
use Rattle.rm_script.specs.Said.{AreSaid, IsFirstUnsaid}
use Rattle.rm_script.specs.declared.event.Side.{Side}
use Rattle.rm_script.specs.declared.event.Side.TheVariants.{One, Two}
use Rattle.rm_script.specs.declared.event.Event.{Event}
use Rattle.rm_script.specs.declared.event.Event.TheVariants.{Nothing, Create, Grant, Send, Tick, Deliver, Close, End}
use Rattle.rm_script.specs.declared.event.Event.TheVariants.{Ask, Nack, Poll, Compact, Consume}
use Rattle.rm_script.specs.declared.event.Event.TheVariants.{Arm, Crash, Noise}

-- the byte stands before the first of the lines
abbrev pub onto_first : ℕ → List (List ℕ) → List (List ℕ)
onto_first byte [] = (byte ∷ []) ∷ []
onto_first byte (line ∷ lines) = (byte ∷ line) ∷ lines

-- the lines of the bytes: each ends with LF, which the last may lack
abbrev pub lines_of : List ℕ → List (List ℕ)
lines_of [] = []
lines_of (byte ∷ bytes) = if byte == line_feed then [] ∷ lines_of bytes else onto_first byte (lines_of bytes)

-- a node's number
abbrev pub side_text : Side → List ℕ
side_text One = codes "1"
side_text Two = codes "2"

-- a word has no space
abbrev pub IsWord : List ℕ → Type 0
IsWord word = AllByRecursion (λ byte. byte ≢ space_byte) word

-- the word of a behaviour that a script may name
abbrev pub IsBehaviour : List ℕ → Behaviour → Type 0
IsBehaviour word NoDiscard = word ≡ codes "loose"
IsBehaviour word EntireSequence = word ≡ codes "des"
IsBehaviour word FollowingFirstGap = word ≡ codes "dfg"

-- [ expires D], where D is a duration; without it the duration is zero
abbrev pub IsExpiry : List ℕ → Lapse → Type 0
IsExpiry words expires =
    ((words ≡ []) × (expires ≡ record { months = 0; ms = 0 }))
    ⊎ ((d : List ℕ) × IsWord d × (duration_in d ≡ Some expires) × (words ≡ codes " expires " ++ d))

-- [ polled]
abbrev pub IsPolled : List ℕ → Bool → Type 0
IsPolled words true = words ≡ codes " polled"
IsPolled words false = words ≡ []

-- [ offer dfg|des|loose]
abbrev pub IsOffer : List ℕ → Option Behaviour → Type 0
IsOffer words None = words ≡ []
IsOffer words (Some behaviour) = (word : List ℕ) × IsBehaviour word behaviour × (words ≡ codes " offer " ++ word)

-- the words behind create N
pub record IsWish (words : List ℕ) (expires : Lapse) (polled : Bool) (offer : Option Behaviour) : Type 0 where
  pub expiry : List ℕ
  pub marked : List ℕ
  pub offered : List ℕ
  pub whole : words ≡ expiry ++ (marked ++ offered)
  pub expires_ : IsExpiry expiry expires
  pub polled_ : IsPolled marked polled
  pub offers_ : IsOffer offered offer

-- a number from low to high, in decimal digits without a leading zero
abbrev pub IsNumber : ℕ → ℕ → List ℕ → ℕ → Type 0
IsNumber low high word number = (low ≤ number) × (number ≤ high) × (word ≡ decimal number)

-- two texts with a space between them
abbrev pub spaced : List ℕ → List ℕ → List ℕ
spaced front back = front ++ space_byte ∷ back

-- a verb, the number of a node, and arguments
abbrev pub call_text : List ℕ → Side → List ℕ → List ℕ
call_text verb side arguments = spaced verb (spaced (side_text side) arguments)

-- what a line says. An empty line and one that begins with # say nothing
abbrev pub Says : List ℕ → Event → Type 0
Says line Nothing = (line ≡ []) ⊎ ((rest : List ℕ) × (line ≡ codes "#" ++ rest))
Says line (Create side expires polled offer) =
    (words : List ℕ) × IsWish words expires polled offer × (line ≡ spaced (codes "create") (side_text side ++ words))
Says line (Grant side behaviour) =
    (word : List ℕ) × IsBehaviour word behaviour × (line ≡ call_text (codes "grant") side word)
Says line (Send side seq text) =
    (k : List ℕ) × IsNumber 1 limits.most_sequences k seq × (text ≢ [])
    × (line ≡ call_text (codes "send") side (spaced k text))
Says line (Tick side now) =
    (ms : List ℕ) × IsNumber 0 limits.now_max ms now × (line ≡ call_text (codes "tick") side ms)
Says line (Deliver packet) =
    (p : List ℕ) × IsNumber 1 limits.most_packets p packet × (line ≡ spaced (codes "deliver") p)
Says line (Close side seq) =
    (k : List ℕ) × IsNumber 1 limits.most_sequences k seq × (line ≡ call_text (codes "close") side k)
Says line (End side seq) =
    (k : List ℕ) × IsNumber 1 limits.most_sequences k seq × (line ≡ call_text (codes "end") side k)
Says line (Ask side seq) =
    (k : List ℕ) × IsNumber 1 limits.most_sequences k seq × (line ≡ call_text (codes "ask") side k)
Says line (Nack side seq) =
    (k : List ℕ) × IsNumber 1 limits.most_sequences k seq × (line ≡ call_text (codes "nack") side k)
Says line (Poll side) = line ≡ spaced (codes "poll") (side_text side)
Says line (Compact side) = line ≡ spaced (codes "compact") (side_text side)
Says line (Consume side seq upto) =
    (k : List ℕ) × (m : List ℕ) × IsNumber 1 limits.most_sequences k seq × IsNumber 1 max_number m upto
    × (line ≡ call_text (codes "consume") side (spaced k m))
Says line (Arm side calls) = (c : List ℕ) × IsNumber 1 1000 c calls × (line ≡ call_text (codes "arm") side c)
Says line (Crash side choice) = (x : List ℕ) × IsNumber 0 3 x choice × (line ≡ call_text (codes "crash") side x)
Says line (Noise side bytes) =
    (digits : List ℕ) × (bytes ≢ []) × (decode_of digits ≡ Ok bytes) × (line ≡ call_text (codes "noise") side digits)

-- each line says its event
abbrev pub IsScript : List (List ℕ) → List Event → Type 0
IsScript lines events = AreSaid Says lines events

-- line k, counted from 1, says nothing that a script may say, and those before it are a script
abbrev pub IsFirstBad : List (List ℕ) → ℕ → Type 0
IsFirstBad lines k = IsFirstUnsaid Says lines k
