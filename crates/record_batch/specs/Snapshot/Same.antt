-- When a list of records says the same as another one, but that more items are gone.
use Rattle.std.specs.Prelude.{◌≡◌, ℕ, ◌+◌, ◌-◌, ◌<◌, ◌≤◌, Bool, true, false, not, cond, List, [], ◌∷◌, ◌++◌, drop}
use Rattle.std.specs.Prelude.{length, map, Option, None, Some}
use Rattle.std.specs.List.{flat_map, AllByRecursion}
use Rattle.rm_sides.specs.Ranges.Changes.{united}
use Rattle.rm_sides.specs.Ranges.Ranges.{IsCanonical, count_of, in_ranges}
use Rattle.rm_sides.specs.declared.ranges.range.Range.{Range}
use Rattle.rm_base.specs.Message.{max_number}
use Rattle.rm_base.specs.NumberSet.{has_number}
use Rattle.rm_sides.specs.Destination.Incoming.{is_loose}
use Rattle.rm_sides.specs.Destination.Messages.{AreOnce, Item, without}
use Rattle.record_batch.specs.Fact.{Fact, Acked, Dropped, Purged, Received}
use Rattle.record_batch.specs.Sequences.Words.{Text}
use Rattle.record_batch.specs.Sequences.Destinations.{behaviour, behaviour_of, close_of, cursor, discarded, front, held}
use Rattle.record_batch.specs.Sequences.Destinations.{inbox}
use Rattle.record_batch.specs.Sequences.Destinations.{is_complete, is_ended, is_over, is_stopped, messages, purged}
use Rattle.record_batch.specs.Sequences.Destinations.{received}
use Rattle.record_batch.specs.Sequences.Destinations.{released, told_of}
use Rattle.record_batch.specs.Sequences.Find.{accept_of, acks_to, find_creating, find_grant, find_incoming}
use Rattle.record_batch.specs.Sequences.Find.{find_outgoing, peer}
use Rattle.record_batch.specs.Sequences.Fits.{all_fit}
use Rattle.record_batch.specs.Sequences.Makers.{Maker, address, addresses_of, counter, created, draws_of, maker, makers}
use Rattle.record_batch.specs.Sequences.Makers.{nodes_of, number}
use Rattle.record_batch.specs.Sequences.Sources.{accepted, accepted_count, acked, all_unacked, dropped, mark_of}
use Rattle.record_batch.specs.Sequences.Sources.{out_ident}
use Rattle.record_batch.specs.Sequences.Sources.{payload_at, phase, ticket_of, unacked}
use Rattle.record_batch.specs.Snapshot.Snapshot.{left_acked, passed, settled, snapshot}

-- Of the node and of how its sequences came to be, and how far they are, both lists have the same records.
pub record SameFrame (q r : List Fact) : Type 0 where
  pub makers_ : makers q ≡ makers r
  pub draws : flat_map draws_of q ≡ flat_map draws_of r
  pub nodes : flat_map nodes_of q ≡ flat_map nodes_of r
  pub addresses : flat_map addresses_of q ≡ flat_map addresses_of r
  pub created_ : created q ≡ created r
  pub marks_ : flat_map mark_of q ≡ flat_map mark_of r
  pub tickets_ : flat_map ticket_of q ≡ flat_map ticket_of r
  pub closes_ : flat_map close_of q ≡ flat_map close_of r
  pub told_ : flat_map told_of q ≡ flat_map told_of r
  pub accepts : flat_map accept_of q ≡ flat_map accept_of r

-- the message, gone where its number is in one of the ranges
abbrev pub marked : List Range → ℕ × Item → ℕ × Item
marked ps m = (m.0, cond (in_ranges ps m.0) None m.1)

-- each, gone where its number is in one of the ranges
abbrev pub all_marked : List Range → List (ℕ × Item) → List (ℕ × Item)
all_marked ps ms = map (λ (m : ℕ × Item). marked ps m) ms

-- Of what sequence s sends, q says the same as r, but that more of the first payloads are gone.
pub record SameSent (q r : List Fact) (s : ℕ) : Type 0 where
  pub more : dropped r s ≤ dropped q s
  pub accepted_ : accepted q s ≡ drop (dropped q s - dropped r s) (accepted r s)
  pub count : accepted_count q s ≡ accepted_count r s
  pub acked_ : (n : ℕ) → in_ranges (acked q s) n ≡ in_ranges (acked r s) n

-- the sequence was made, and releases in order
abbrev pub is_ordered : Option Maker → Bool
is_ordered None = false
is_ordered (Some m) = not (is_loose (behaviour_of (Some m)))

-- how many messages are gone
abbrev pub gone_count : List Fact → ℕ → ℕ
gone_count r s = count_of (purged r s)

-- of a loose sequence it is the payloads of the messages that came first
pub record SameEarliest (q r : List Fact) (s : ℕ) : Type 0 where
  pub less : gone_count r s ≤ gone_count q s
  pub reach : gone_count q s ≤ cursor q s
  pub left : received q s ≡ drop (gone_count q s - gone_count r s) (received r s)
  pub count : gone_count q s + length (received q s) ≡ gone_count r s + length (received r s)

-- Of what sequence s receives, q says the same as r, but that more payloads up to the cursor are gone.
pub record SameReceived (q r : List Fact) (s : ℕ) : Type 0 where
  pub more : (n : ℕ) → in_ranges (purged r s) n ≡ true → in_ranges (purged q s) n ≡ true
  pub received_ : received q s ≡ without (purged q s) (received r s)
  pub held_ : (n : ℕ) → has_number (held q s) n ≡ has_number (held r s) n
  pub cursor_ : cursor q s ≡ cursor r s
  pub below : is_loose (behaviour r s) ≡ false → (n : ℕ) → cursor q s < n → in_ranges (purged q s) n ≡ false
  pub earliest : is_ordered (maker r s) ≡ false → SameEarliest q r s
  pub once : AreOnce (received r s)

-- q says the same as r, but for items that are gone
pub record SaysTheSame (q r : List Fact) : Type 0 where
  pub frame : SameFrame q r
  pub sent : (s : ℕ) → SameSent q r s
  pub got : (s : ℕ) → SameReceived q r s

-- what was received has numbers from 1 on
abbrev pub AreNumbers : {A : Type 0} → List (ℕ × A) → Type 0
AreNumbers {A} ms = AllByRecursion (λ (m : ℕ × A). 0 < m.0) ms

-- what is known then of one sequence
pub record FactsOf (q r : List Fact) (s : ℕ) : Type 0 where
  pub message : (i : ℕ) → dropped q s < i → payload_at q s i ≡ payload_at r s i
  pub messages_ : messages q s ≡ all_marked (purged q s) (messages r s)
  pub front_ : front q s ≡ front r s
  pub complete : is_complete q s ≡ is_complete r s
  pub inbox_len : length (inbox q s) ≡ length (inbox r s)
  pub discarded_len : length (discarded q s) ≡ length (discarded r s)

-- what the frame alone decides of the node and of its sequences
pub record FrameFacts (q r : List Fact) : Type 0 where
  pub counter_ : counter q ≡ counter r
  pub number_ : number q ≡ number r
  pub address_ : address q ≡ address r
  pub phase_ : (s : ℕ) → phase q s ≡ phase r s
  pub out_ident_ : (s : ℕ) → out_ident q s ≡ out_ident r s
  pub stopped : (s : ℕ) → is_stopped q s ≡ is_stopped r s
  pub ended : (s now : ℕ) → is_ended q s now ≡ is_ended r s now
  pub over : (s now : ℕ) → is_over q s now ≡ is_over r s now
  pub peer_ : (s : ℕ) → peer q s ≡ peer r s
  pub acks_to_ : (s : ℕ) → acks_to q s ≡ acks_to r s
  pub find_incoming_ : (t : Text) → find_incoming q t ≡ find_incoming r t
  pub find_outgoing_ : (t : Text) → find_outgoing q t ≡ find_outgoing r t
  pub find_grant_ : (t : Text) → find_grant q t ≡ find_grant r t
  pub find_creating_ : (t : Text) → find_creating q t ≡ find_creating r t

-- how many messages wait for their acknowledgement
pub record SameUnacked (q r : List Fact) : Type 0 where
  pub united_ : (s : ℕ) → united [] (acked q s) ≡ united [] (acked r s)
  pub unacked_ : (s : ℕ) → unacked q s ≡ unacked r s
  pub all_unacked_ : all_unacked q ≡ all_unacked r

-- all of it: what is known at q is what is known at r, but for payloads that are gone
pub record SameFacts (q r : List Fact) : Type 0 where
  pub says : SaysTheSame q r
  pub frame : FrameFacts q r
  pub each : (s : ℕ) → FactsOf q r s
  pub unacked_ : SameUnacked q r

-- each range has a number
abbrev pub AreProper : List Range → Type 0
AreProper xs = AllByRecursion (λ (x : Range). x.lower ≤ x.upper) xs

-- so have those of an Acked record
abbrev pub HasProper : Fact → Type 0
HasProper (Acked seq ranges) = AreProper ranges
HasProper _ = Unit {0}

-- of each
abbrev pub HaveProper : List Fact → Type 0
HaveProper r = AllByRecursion HasProper r

-- the acknowledged numbers of each sequence are a set
abbrev pub UnionsAreSets : List Fact → Type 0
UnionsAreSets r = (s : ℕ) → IsCanonical (united [] (acked r s))

-- nothing that was received is gone
abbrev pub NothingIsGone : List Fact → Type 0
NothingIsGone whole = (s : ℕ) → purged whole s ≡ []

-- a record of a call, which a snapshot alone doesn't write
abbrev pub IsLive : Fact → Type 0
IsLive (Dropped seq upto) = ⊥
IsLive (Purged seq ranges) = ⊥
IsLive _ = Unit {0}

-- the numbers of what was received, and of what is gone, are from 1 on
pub record HasNumbers (r : List Fact) (s : ℕ) : Type 0 where
  pub received_ : AreNumbers (received r s)
  pub purged_ : (n : ℕ) → in_ranges (purged r s) n ≡ true → 0 < n

-- no message that came already: so it is with a record that fits
abbrev pub IsNewIn : List Fact → Fact → Type 0
IsNewIn q (Received seq n payload) = has_number (held q seq) n ≡ false
IsNewIn q _ = Unit {0}

-- what a snapshot writes of a sequence are message numbers, as sets
pub record WritesSets (r : List Fact) (s : ℕ) : Type 0 where
  pub settled_ : settled r s ≤ max_number
  pub left : IsCanonical (left_acked r s)
  pub passed_ : IsCanonical (passed r s)

-- ---- the laws, each the contract of a function in src/laws.rt

-- the acknowledged numbers of a sequence are a set where each range of an Acked record has a number
abbrev pub SetsUnite : Type 0
SetsUnite = (r : List Fact) → all_fit [] r ≡ true → HaveProper r → UnionsAreSets r

-- lists with the same frame know the same of the node and of how far its sequences are
abbrev pub FrameDecides : Type 0
FrameDecides = (q r : List Fact) → SameFrame q r → FrameFacts q r

-- of two that say the same, as many messages are not acknowledged
abbrev pub UnackedIsEqual : Type 0
UnackedIsEqual =
    (q r : List Fact) → all_fit [] q ≡ true → HaveProper q → all_fit [] r ≡ true → HaveProper r → SaysTheSame q r
    → SameUnacked q r

-- so it is where the records fit
abbrev pub NumbersAreFromOne : Type 0
NumbersAreFromOne = (r : List Fact) → all_fit [] r ≡ true → (s : ℕ) → HasNumbers r s

-- of two that say the same, the facts are equal, but for payloads that are gone
abbrev pub FactsAreEqual : Type 0
FactsAreEqual =
    (q r : List Fact) → SaysTheSame q r → (s : ℕ) → AreNumbers (received r s)
    → ((n : ℕ) → in_ranges (purged q s) n ≡ true → 0 < n) → FactsOf q r s

-- past the cursor the inbox has what all records release that a node ever had, among which nothing is gone
abbrev pub InboxPastIsThere : Type 0
InboxPastIsThere =
    (r whole : List Fact) → SaysTheSame r whole → NothingIsGone whole → (s : ℕ) → AreNumbers (received whole s)
    → drop (cursor r s) (inbox r s) ≡ map Some (drop (cursor r s) (released whole s))

-- a snapshot says the same, but for items that are gone
abbrev pub SnapshotSaysTheSame : Type 0
SnapshotSaysTheSame = (r : List Fact) → all_fit [] r ≡ true → HaveProper r → SaysTheSame (snapshot r) r

-- so all facts are equal at a snapshot
abbrev pub SnapshotKnowsAll : Type 0
SnapshotKnowsAll = (r : List Fact) → all_fit [] r ≡ true → HaveProper r → SameFacts (snapshot r) r

-- a node's records say what all that it ever had say, but for items that are gone: so does a snapshot of them
abbrev pub SnapshotKeepsAll : Type 0
SnapshotKeepsAll =
    (r whole : List Fact) → all_fit [] r ≡ true → HaveProper r → SaysTheSame r whole → SaysTheSame (snapshot r) whole

-- and so do both with one more record of a call
abbrev pub KeptByOneMore : Type 0
KeptByOneMore =
    (q r : List Fact) (f : Fact) → IsLive f → IsNewIn q f → SaysTheSame q r → SaysTheSame (q ++ f ∷ []) (r ++ f ∷ [])

-- a snapshot is a list of records that a node may have
abbrev pub SnapshotFits : Type 0
SnapshotFits = (r : List Fact) → all_fit [] r ≡ true → HaveProper r → all_fit [] (snapshot r) ≡ true

-- each range of its Acked records has a number
abbrev pub SnapshotIsProper : Type 0
SnapshotIsProper = (r : List Fact) → all_fit [] r ≡ true → HaveProper r → HaveProper (snapshot r)

-- what its Dropped, Acked and Purged records have are message numbers, as sets
abbrev pub SnapshotWritesSets : Type 0
SnapshotWritesSets = (r : List Fact) → all_fit [] r ≡ true → HaveProper r → (s : ℕ) → WritesSets r s

-- a snapshot of a snapshot is the snapshot
abbrev pub SnapshotTwice : Type 0
SnapshotTwice = (r : List Fact) → all_fit [] r ≡ true → HaveProper r → snapshot (snapshot r) ≡ snapshot r
