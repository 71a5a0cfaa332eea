-- Two nodes of any different numbers, among others: what befalls one of them, and what holds of both and of all that
-- each of them said.
use Rattle.std.specs.Prelude.{◌≡◌, ◌≢◌, ◌⊎◌, ℕ, ◌^◌, ◌<◌, ◌≤◌, Bool, true, false, List, [], ◌++◌}
use Rattle.std.specs.Prelude.{◌∷◌, Option, Some, None}
use Rattle.std.specs.Prelude.{Result, Ok, Err}
use Rattle.std.specs.List.{AllByRecursion}
use Rattle.rm_sides.specs.Ranges.Ranges.{in_ranges}
use Rattle.rm_base.specs.Message.{max_number}
use Rattle.rm_base.specs.Numbered.{numbered}
use Rattle.rm_base.specs.declared.message.Behaviour.{Behaviour}
use Rattle.rm_message.specs.declared.elements.header.AckBlock.{AckBlock}
use Rattle.rm_message.specs.declared.elements.header.SeqHeader.{SeqHeader}
use Rattle.rm_message.specs.declared.elements.lifecycle.Lifecycle.TheVariants as life
use Rattle.rm_message.specs.declared.message.Body.{Body}
use Rattle.rm_message.specs.declared.message.Body.TheVariants as body
use Rattle.rm_message.specs.declared.message.Message.{Message}
use Rattle.rm_message.specs.declared.refusal.Refusal.{Refusal}
use Rattle.record_batch.specs.Fact.{Fact, Made, Creating, Created, Granted, Accepted, Received, Consumed}
use Rattle.rm_sides.specs.Destination.Incoming.{is_loose}
use Rattle.record_batch.specs.Sequences.Fits.{all_fit}
use Rattle.record_batch.specs.Sequences.Find.{IsIncoming, IsOutgoing}
use Rattle.record_batch.specs.Sequences.Makers.{Maker, maker, number}
use Rattle.record_batch.specs.Sequences.Sources.{accepted}
use Rattle.record_batch.specs.Sequences.Destinations.{behaviour, released, texts}
use Rattle.record_batch.specs.Sequences.Words.{Text}
use Rattle.rm_protocol.specs.Calls.{Answer, Wish, ask_ack, close, consume, create, end, nack_missing, send, tick}
use Rattle.rm_protocol.specs.Compact.{compacted}
use Rattle.rm_protocol.specs.Consumed.{GoesOn}
use Rattle.rm_protocol.specs.Heard.{Heard}
use Rattle.rm_protocol.specs.Next.{HasNumbers}
use Rattle.rm_protocol.specs.Node.{Node, State, Up, Writing, Compacting, after, armed, fetched_after, mounted}
use Rattle.rm_protocol.specs.Node.{node_end, records, said_after}
use Rattle.rm_protocol.specs.Addresses.{place_of}
use Rattle.rm_protocol.specs.PollLemmas.{AllWaiting}
use Rattle.rm_protocol.specs.Polls.{poll, waits_there}
use Rattle.rm_protocol.specs.Rows.{ranges_of}
use Rattle.rm_protocol.specs.Said.{sent_of}
use Rattle.rm_protocol.specs.Sound.{Agree, Allows, AreSaid, HasPlace, HasRoom, IsAsked, IsBounded, IsIssuedBy, IsWith}
use Rattle.rm_protocol.specs.Sound.{Says, StandFor}
use Rattle.rm_protocol.specs.Terms.{AreTerms, Terms}
use Rattle.rm_protocol.specs.Verdict.{has_room}
use Rattle.rm_protocol.specs.Word.{IsPrefixOf, Matches}
use Rattle.rm_protocol.specs.World.{made, received_by, with_clock}

-- what befalls a node: what it is asked for, what comes to it, and what becomes of its disk
pub data Act : Type 0 where
  Creates : (wish : Wish) → Act
  Grants : Behaviour → Act
  Sends : (seq : ℕ) → Text → Act
  Ticks : (now : ℕ) → Act
  Closes : (seq : ℕ) → Act
  Ends : (seq : ℕ) → Act
  AsksAck : (seq : ℕ) → Act
  NacksMissing : (seq : ℕ) → Act
  Polls : (to : Text) → Act
  Consumes : (seq upto : ℕ) → Act
  Receives : Result Message Refusal → Act
  Compacts : Act
  Arms : (calls : ℕ) → Act
  Crashes : (kept : Bool) → Act

-- what the node becomes, the message that waited there and goes back on the connection, and what else leaves it
pub record Acted : Type 0 where
  pub node : Node
  pub fetched : List Message
  pub said : List Message

-- all that leaves it
abbrev pub left : Acted → List Message
left made = made.fetched ++ made.said

-- nothing leaves it
abbrev pub becomes : Node → Acted
becomes x = record { node = x; fetched = []; said = [] }

-- by an answer, where there is a connection or not
abbrev pub answers : Node → Bool → Answer → Acted
answers x connected answer = record {
  node = after x answer;
  fetched = fetched_after x answer;
  said = sent_of connected (said_after x answer);
}

-- what comes of it
abbrev pub acted : Terms → Node → Act → Acted
acted terms x (Creates wish) = answers x false (create terms (records x) (node_end terms x) wish)
acted terms x (Grants behaviour) = becomes (record x { granted = behaviour })
acted terms x (Sends seq text) = answers x false (send terms (records x) (node_end terms x) seq text)
acted terms x (Ticks now) =
    answers (with_clock x now) false (tick terms (records x) (node_end terms x) now x.time x.waits)
acted terms x (Closes seq) = answers x false (close terms (records x) (node_end terms x) seq x.clock)
acted terms x (Ends seq) = answers x false (end terms (records x) (node_end terms x) seq)
acted terms x (AsksAck seq) = answers x false (ask_ack (records x) seq)
acted terms x (NacksMissing seq) = answers x false (nack_missing (records x) seq x.clock)
acted terms x (Polls to) = answers x false (poll (records x) to)
acted terms x (Consumes seq upto) = answers x false (consume terms (records x) (node_end terms x) seq upto)
acted terms x (Receives content) = answers x true (received_by terms x content)
acted terms x Compacts = becomes (compacted terms x)
acted terms x (Arms calls) = becomes (record x { fuse = armed calls x.fuse })
acted terms x (Crashes kept) = becomes (mounted x kept)

-- the batch of a call that failed may be added, or the list be written anew
abbrev pub MayGoOn : Terms → Node → List Fact → State → Type 0
MayGoOn terms x theirs (Writing delta) =
    Allows x.whole theirs delta × HasRoom terms x delta × (all_fit (records x) delta ≡ true)
MayGoOn terms x theirs (Compacting start) = HasPlace terms x start
MayGoOn terms x theirs Up = Unit {0}

-- a message that was received has a message number: WS-ReliableMessaging 1.2, section 3.7
abbrev pub HasNumber : Fact → Type 0
HasNumber (Received s i p) = (1 ≤ i) × (i ≤ max_number)
HasNumber _ = Unit {0}

-- the message goes to an address that nobody can reach: WS-MakeConnection 1.1, section 3.1
abbrev pub IsParked : Message → Type 0
IsParked m = waits_there (place_of m.addressing.to) ≡ true

-- of one of the two, which said these messages, beside the other one with these records
pub record IsPairNode (terms : Terms) (x : Node) (theirs : List Fact) (said : List Message) : Type 0 where
  pub goes_on : MayGoOn terms x theirs x.state
  pub stands : StandFor (records x) x.whole
  pub bounded : IsBounded terms x
  pub numbered : AllByRecursion HasNumber x.whole
  pub waits : AreSaid x.whole x.polled
  pub parked : AllWaiting IsParked x.polled
  pub says : AllByRecursion (Says x.whole) said

-- of two nodes with the numbers n and m, each of which said these messages, to whomever
pub record IsPair (terms : Terms) (n m : ℕ) (x y : Node) (x_said y_said : List Message) : Type 0 where
  pub numbers : (n < 2 ^ 60) × (m < 2 ^ 60) × (n ≢ m)
  pub agree : Agree n m x.whole y.whole
  pub one : IsPairNode terms x y.whole x_said
  pub two : IsPairNode terms y x.whole y_said

-- the node with records a receives on no sequence with this identifier from the other one
abbrev pub ReceivesNone : List Fact → List Fact → Text → Type 0
ReceivesNone a b q =
    (s : ℕ) (m : Maker) (t : Text) → maker a s ≡ Some m → IsWith b m → IsIncoming a s q t → ⊥

-- it sends on no sequence with this identifier to the other one
abbrev pub SendsNone : List Fact → List Fact → Text → Type 0
SendsNone a b q = (s : ℕ) (m : Maker) → maker a s ≡ Some m → IsWith b m → IsOutgoing a s q → ⊥

-- it asked the other one for no sequence with this message
abbrev pub AsksNone : List Fact → List Fact → Text → Type 0
AsksNone a b t = (s : ℕ) (m : Maker) → maker a s ≡ Some m → IsWith b m → IsAsked a s t → ⊥

-- part by part of a message
abbrev pub IsForeignData : List Fact → List Fact → Option SeqHeader → Body → Type 0
IsForeignData a b (Some h) (body.Payload p) = ReceivesNone a b h.ident
IsForeignData a b _ _ = Unit {0}

-- of each number that a block acknowledges
abbrev pub IsForeignBlock : List Fact → List Fact → AckBlock → Type 0
IsForeignBlock a b k = (n : ℕ) → in_ranges (ranges_of k.kind) n ≡ true → SendsNone a b k.ident

-- a CreateSequence is none of the other node's
abbrev pub IsForeignCreate : List Fact → Option Text → Body → Type 0
IsForeignCreate b (Some t) (body.Lifecycle (life.Create c)) = IsIssuedBy (number b) t → ⊥
IsForeignCreate b _ _ = Unit {0}

-- a CreateSequenceResponse answers none that the other node was asked with
abbrev pub IsForeignResponse : List Fact → List Fact → Option Text → Body → Type 0
IsForeignResponse a b (Some t) (body.Lifecycle (life.CreateResponse c)) = AsksNone a b t
IsForeignResponse a b _ _ = Unit {0}

-- a CloseSequence or a TerminateSequence
abbrev pub IsForeignEnd : List Fact → List Fact → Body → Type 0
IsForeignEnd a b (body.Lifecycle (life.Close f)) = ReceivesNone a b f.ident
IsForeignEnd a b (body.Lifecycle (life.Terminate f)) = ReceivesNone a b f.ident
IsForeignEnd a b _ = Unit {0}

-- The message of a stranger, at the node with records a beside the one with records b: it names no sequence of the two,
-- where it has data, acknowledges some or ends one; it is no CreateSequence with a MessageID that the other one issues,
-- and answers none between them. Its numbers are those of messages: WS-ReliableMessaging 1.2, sections 3.7 and 3.9
pub record IsStranger (a b : List Fact) (m : Message) : Type 0 where
  pub data_ : IsForeignData a b m.sequence m.body
  pub acks : AllByRecursion (IsForeignBlock a b) m.acks
  pub create : IsForeignCreate b m.addressing.message_id m.body
  pub response : IsForeignResponse a b m.addressing.relates m.body
  pub final : IsForeignEnd a b m.body
  pub numbers : HasNumbers m

-- one of these
abbrev pub IsAmong : List Message → Message → Type 0
IsAmong said m = (k : ℕ) × (numbered said k ≡ Some m)

-- what comes to the node: bytes that are no message, what the other one said, or what a stranger did
abbrev pub MayCome : List Fact → List Fact → List Message → Result Message Refusal → Type 0
MayCome a b said (Err refusal) = Unit {0}
MayCome a b said (Ok m) = IsAmong said m ⊎ IsStranger a b m

-- what may befall the node
abbrev pub MayBefall : List Fact → List Fact → List Message → Act → Type 0
MayBefall a b said (Receives content) = MayCome a b said content
MayBefall a b said _ = Unit {0}

-- a record makes no sequence and gives it no identifier, and no payload was accepted or consumed with it
abbrev pub IsQuiet : Fact → Type 0
IsQuiet (Made n a) = ⊥
IsQuiet (Creating ticket to via lapse offer) = ⊥
IsQuiet (Granted drawn message_id acks_to behaviour deadline lapse offer) = ⊥
IsQuiet (Created s q accept) = ⊥
IsQuiet (Accepted s p) = ⊥
IsQuiet (Consumed s upto) = ⊥
IsQuiet _ = Unit {0}

-- the record of a sequence that was asked for
abbrev pub IsWished : Wish → Fact → Type 0
IsWished wish (Creating ticket to via lapse offer) = (to ≡ wish.to) × (wish.offer ≡ None → offer ≡ None)
IsWished wish _ = ⊥

-- what the records are that this adds
abbrev pub Brings : Act → Fact → Type 0
Brings (Creates wish) rec = IsWished wish rec
Brings (Sends seq text) rec = rec ≡ Accepted seq text
Brings (Consumes seq upto) rec = rec ≡ Consumed seq upto
Brings (Receives (Ok m)) rec = Heard m rec
Brings _ rec = IsQuiet rec

-- and what a batch is: an item is accepted with one record
abbrev pub AreBrought : Act → List Fact → Type 0
AreBrought (Sends seq text) d = (d ≡ []) ⊎ (d ≡ Accepted seq text ∷ [])
AreBrought act d = AllByRecursion (Brings act) d

-- What was added to all that the node ever had: what this brings, or what a call that failed was writing. What it is
-- writing then, this brings, or it was writing it before
pub record Gained (act : Act) (x z : Node) : Type 0 where
  pub delta : List Fact
  pub is : z.whole ≡ x.whole ++ delta
  pub from : AreBrought act delta ⊎ (x.state ≡ Writing delta)
  pub next : (d : List Fact) → z.state ≡ Writing d
      → (z.whole ≡ x.whole) × (AreBrought act d ⊎ (x.state ≡ Writing d))

-- this befell one of the two: both are a pair, what applications were given and consumed goes on, this was added, and
-- what was fetched had waited
pub record PairStep (terms : Terms) (n m : ℕ) (x y : Node) (x_said y_said : List Message) (act : Act) : Type 0 where
  pub pair : IsPair terms n m (acted terms x act).node y (x_said ++ left (acted terms x act)) y_said
  pub goes_on : (t : ℕ) → GoesOn x.whole (acted terms x act).node.whole t
  pub gained : Gained act x (acted terms x act).node
  pub back : AllByRecursion IsParked (acted terms x act).fetched

-- whatever befalls one of the two keeps them so
abbrev pub StaysAPair : Type 0
StaysAPair =
    (terms : Terms) (n m : ℕ) (x y : Node) (x_said y_said : List Message) (act : Act)
    → AreTerms terms → IsPair terms n m x y x_said y_said → MayBefall x.whole y.whole y_said act
    → PairStep terms n m x y x_said y_said act

-- the sequence of the node with records a is one with the other node
pub record IsBetweenThem (a b : List Fact) (s : ℕ) : Type 0 where
  pub maker_ : Maker
  pub there : maker a s ≡ Some maker_
  pub with_ : IsWith b maker_

-- What a pair of nodes tells, of the records a and b of one and the other: what the other one released on a sequence
-- with it, where it isn't loose, is a prefix of what it accepted; the other one issued the identifiers of what it sends
-- on to it; and it issued the messages that it asked with, and the identifiers of what it receives on. What it says has
-- message numbers.
pub record TellsOf (a b : List Fact) : Type 0 where
  pub prefix : (s t : ℕ) → Matches a b s t → IsBetweenThem b a t → is_loose (behaviour b t) ≡ false
      → IsPrefixOf (texts (released b t)) (accepted a s)
  pub granted : (s : ℕ) (q : Text) → IsOutgoing a s q → IsBetweenThem a b s → IsIssuedBy (number b) q
  pub asked : (s : ℕ) (t : Text) → IsAsked a s t → IsIssuedBy (number a) t
  pub numbers : (m : Message) → Says a m → HasNumbers m
  pub received_ : (s : ℕ) (q t : Text) → IsIncoming a s q t → IsIssuedBy (number a) q

-- so each pair does, both ways
abbrev pub APairTells : Type 0
APairTells =
    (terms : Terms) (n m : ℕ) (x y : Node) (x_said y_said : List Message) → IsPair terms n m x y x_said y_said
    → TellsOf x.whole y.whole × TellsOf y.whole x.whole

-- a pair is one the other way round
abbrev pub PairsTurn : Type 0
PairsTurn =
    (terms : Terms) (n m : ℕ) (x y : Node) (x_said y_said : List Message) → IsPair terms n m x y x_said y_said
    → IsPair terms m n y x y_said x_said

-- two nodes of different numbers issue no text both
abbrev pub IssuedByOne : Type 0
IssuedByOne =
    (n m : ℕ) (t : Text) → n < 2 ^ 60 → m < 2 ^ 60 → IsIssuedBy n t → IsIssuedBy m t → n ≡ m

-- a node that was just made with this number: its record fits and is no longer than a journal has room for
pub record IsMade (terms : Terms) (n : ℕ) (at : Text) : Type 0 where
  pub number_ : n < 2 ^ 60
  pub fit : all_fit [] (Made n at ∷ []) ≡ true
  pub room : has_room terms 25 (Made n at ∷ []) ≡ true

-- two of them are a pair, before they said anything
abbrev pub MadeAreAPair : Type 0
MadeAreAPair =
    (terms : Terms) (n m : ℕ) (one two : Text) → n ≢ m → IsMade terms n one → IsMade terms m two
    → IsPair terms n m (made n one) (made m two) [] []
