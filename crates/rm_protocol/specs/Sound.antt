-- What holds of two lists of records and of all packets, in every world that a run can reach.
use Rattle.std.specs.Prelude.{◌≡◌, ◌⊎◌, ℕ, ◌+◌, ◌^◌, ◌<◌, ◌≤◌, true, false, length, List, [], ◌∷◌, ◌++◌, map}
use Rattle.std.specs.Prelude.{Option, Some, None, IfSome}
use Rattle.std.specs.List.{AllByRecursion, flat_map}
use Rattle.rm_base.specs.Limits as limits
use Rattle.rm_sides.specs.declared.ranges.range.Range.{Range}
use Rattle.rm_sides.specs.Ranges.Ranges.{in_ranges}
use Rattle.rm_base.specs.Numbered.{numbered}
use Rattle.rm_base.specs.NumberSet.{has_number}
use Rattle.rm_base.specs.declared.message.Cause.TheVariants.{Peer}
use Rattle.rm_message.specs.declared.elements.header.AckBlock.{AckBlock}
use Rattle.rm_message.specs.declared.elements.header.SeqHeader.{SeqHeader}
use Rattle.rm_message.specs.declared.elements.lifecycle.Lifecycle.TheVariants as life
use Rattle.rm_message.specs.declared.elements.lifecycle.Offer.{Offer}
use Rattle.rm_message.specs.declared.message.Body.{Body}
use Rattle.rm_message.specs.declared.message.Body.TheVariants as body
use Rattle.rm_message.specs.declared.message.Message.{Message}
use Rattle.rm_base.specs.declared.lapse.Lapse.{Lapse}
use Rattle.record_batch.specs.declared.record.OwnOffer.{OwnOffer}
use Rattle.record_batch.specs.declared.record.Via.{Via}
use Rattle.record_batch.specs.declared.record.PeerOffer.{PeerOffer}
use Rattle.record_batch.specs.Fact.{Fact, Made, Creating, Created, Granted, Accepted, Acked, Received, Closed}
use Rattle.record_batch.specs.Fact.{Ended, Dropped, Purged}
use Rattle.record_batch.specs.Snapshot.Same.{AreProper, HaveProper, IsLive, SaysTheSame}
use Rattle.rm_sides.specs.Destination.Messages.{is_empty, numbers_of}
use Rattle.record_batch.specs.Sequences.Words.{Text}
use Rattle.record_batch.specs.Sequences.Idents.{issue}
use Rattle.record_batch.specs.Sequences.Makers.{Maker, Outgoing, Offered, Incoming, Taken, makers, maker, counter}
use Rattle.record_batch.specs.Sequences.Makers.{number, address, created, draws_of, seq_in}
use Rattle.record_batch.specs.Sequences.Sources.{accepted, marks, out_ident}
use Rattle.record_batch.specs.Sequences.Destinations.{held, received}
use Rattle.record_batch.specs.Sequences.Fits.{all_fit}
use Rattle.record_batch.specs.Sequences.Find.{IsOutgoing, IsIncoming}
use Rattle.timers.specs.Pending.Waiting.{Waiting}
use Rattle.rm_protocol.specs.PollLemmas.{AllWaiting}
use Rattle.rm_protocol.specs.Node.{Node, State, Up, Writing, Compacting, records, end_of, fresh_entries, node_end}
use Rattle.rm_protocol.specs.Rows.{ranges_of, last_of}
use Rattle.rm_protocol.specs.Terms.{Terms}
use Rattle.rm_protocol.specs.World.{World, Packet, node}

-- what a node says is so by its own records

-- the ticket of the CreateSequence that asked for a sequence
abbrev pub asked_with : Maker → Option ℕ
asked_with (Outgoing ticket to via lapse) = Some ticket
asked_with _ = None

-- the node asked for outgoing sequence s with this message
pub record IsAsked (r : List Fact) (s : ℕ) (message_id : Text) : Type 0 where
  pub ticket : ℕ
  pub maker_ : Maker
  pub there : maker r s ≡ Some maker_
  pub asked : asked_with maker_ ≡ Some ticket
  pub is : message_id ≡ issue (number r) ticket

-- the node accepted this payload as this message of the sequence
pub record IsAccepted (r : List Fact) (q : Text) (i : ℕ) (p : Text) : Type 0 where
  pub seq : ℕ
  pub outgoing : IsOutgoing r seq q
  pub item : numbered (accepted r seq) i ≡ Some p

-- the node received this message of the sequence
pub record IsHeld (r : List Fact) (q : Text) (i : ℕ) : Type 0 where
  pub seq : ℕ
  pub message_id : Text
  pub incoming : IsIncoming r seq q message_id
  pub has : has_number (numbers_of (received r seq)) i ≡ true

-- the node granted the sequence for this message
pub record IsGranted (r : List Fact) (t q : Text) : Type 0 where
  pub seq : ℕ
  pub incoming : IsIncoming r seq q t

-- the node asked for a sequence with this message
pub record HasAsked (r : List Fact) (t : Text) : Type 0 where
  pub seq : ℕ
  pub asked : IsAsked r seq t

-- the node received all numbers of these ranges
abbrev pub AreHeld : List Fact → Text → List Range → Type 0
AreHeld r q ranges = (n : ℕ) → in_ranges ranges n ≡ true → IsHeld r q n

-- the node goes on with the sequence no more, and accepted n payloads
pub record IsFinal (r : List Fact) (q : Text) (n : ℕ) : Type 0 where
  pub seq : ℕ
  pub outgoing : IsOutgoing r seq q
  pub stopped : is_empty (marks r seq) ≡ false
  pub count : length (accepted r seq) ≡ n

-- part by part of a message: only a payload has a Sequence header
abbrev pub SaysData : List Fact → Option SeqHeader → Body → Type 0
SaysData r None content = Unit {0}
SaysData r (Some h) (body.Payload p) = IsAccepted r h.ident h.number p.bytes
SaysData r (Some h) _ = ⊥

-- an acknowledgement block has numbers that its sender holds, and each of its ranges has one
abbrev pub SaysBlock : List Fact → AckBlock → Type 0
SaysBlock r block = AreHeld r block.ident (ranges_of block.kind) × AreProper (ranges_of block.kind)

-- a CreateSequence has a ticket of its sender's, and its Offer names a sequence that was offered for it
abbrev pub SaysCreate : List Fact → Option Text → Body → Type 0
SaysCreate r (Some t) (body.Lifecycle (life.Create c)) =
    HasAsked r t × IfSome c.offer (λ (offer : Offer). IsGranted r t offer.ident)
SaysCreate r _ _ = Unit {0}

-- a CreateSequenceResponse names the sequence that its sender granted for the message
abbrev pub SaysResponse : List Fact → Option Text → Body → Type 0
SaysResponse r (Some t) (body.Lifecycle (life.CreateResponse c)) = IsGranted r t c.ident
SaysResponse r _ _ = Unit {0}

-- a CloseSequence or a TerminateSequence has the count of a source that goes on no more
abbrev pub SaysFinal : List Fact → Body → Type 0
SaysFinal r (body.Lifecycle (life.Close f)) = IsFinal r f.ident (last_of f.last_number)
SaysFinal r (body.Lifecycle (life.Terminate f)) = IsFinal r f.ident (last_of f.last_number)
SaysFinal r _ = Unit {0}

-- the node asked the one at this address for an outgoing sequence
pub record IsAskedAt (r : List Fact) (to : Text) : Type 0 where
  pub seq : ℕ
  pub ticket : ℕ
  pub via : Via
  pub lapse : Lapse
  pub there : maker r seq ≡ Some (Outgoing ticket to via lapse)

-- a CreateSequence goes to the node that was asked for a sequence
abbrev pub SaysPlace : List Fact → Text → Body → Type 0
SaysPlace r to (body.Lifecycle (life.Create c)) = IsAskedAt r to
SaysPlace r to _ = Unit {0}

-- the text is the MessageID of a request that the node drew a number for; 0 stands where it drew none
pub record IsRequest (r : List Fact) (t : Text) : Type 0 where
  pub ticket : ℕ
  pub drawn : (ticket ≡ 0) ⊎ (has_number (flat_map draws_of r) ticket ≡ true)
  pub is : t ≡ issue (number r) ticket

-- a MessageID of data, of a CloseSequence or of a TerminateSequence is one that its sender issued
abbrev pub SaysName : List Fact → Body → Option Text → Type 0
SaysName r (body.Payload p) t = IfSome t (IsRequest r)
SaysName r (body.Lifecycle (life.Close f)) t = IfSome t (IsRequest r)
SaysName r (body.Lifecycle (life.Terminate f)) t = IfSome t (IsRequest r)
SaysName r _ t = Unit {0}

-- all that a message says is so by the records of its sender
pub record Says (r : List Fact) (m : Message) : Type 0 where
  pub data_ : SaysData r m.sequence m.body
  pub acks : AllByRecursion (SaysBlock r) m.acks
  pub create : SaysCreate r m.addressing.message_id m.body
  pub place : SaysPlace r m.addressing.to m.body
  pub name : SaysName r m.body m.addressing.message_id
  pub response : SaysResponse r m.addressing.relates m.body
  pub final : SaysFinal r m.body

-- what the records of one node say is so by those of both

-- the node created the sequence as the other granted it
pub record IsAgreed (mine theirs : List Fact) (s : ℕ) (q : Text) : Type 0 where
  pub message_id : Text
  pub asked : IsAsked mine s message_id
  pub granted : IsGranted theirs message_id q

-- what was received on the sequence, the other accepted
pub record IsSourced (mine theirs : List Fact) (s i : ℕ) (p : Text) : Type 0 where
  pub ident : Text
  pub message_id : Text
  pub incoming : IsIncoming mine s ident message_id
  pub sent : IsAccepted theirs ident i p

-- what was acknowledged on the sequence, the other holds
pub record AreKept (mine theirs : List Fact) (s : ℕ) (ranges : List Range) : Type 0 where
  pub ident : Text
  pub outgoing : IsOutgoing mine s ident
  pub each : AreHeld theirs ident ranges

-- the other said that its sequence has n payloads
pub record IsTold (mine theirs : List Fact) (s n : ℕ) : Type 0 where
  pub ident : Text
  pub message_id : Text
  pub incoming : IsIncoming mine s ident message_id
  pub final : IsFinal theirs ident n

-- the node with this number issues the text for a number that it draws, of 62 bits: RFC 9562, section 5.8
pub record IsIssuedBy (node : ℕ) (t : Text) : Type 0 where
  pub drawn : ℕ
  pub bits : drawn < 2 ^ 62
  pub is : t ≡ issue node drawn

-- the sequence is one between the two nodes: asked for there, or for a message of theirs
abbrev pub IsWith : List Fact → Maker → Type 0
IsWith theirs (Outgoing ticket to via lapse) = to ≡ address theirs
IsWith theirs (Offered ticket counter to behaviour) = to ≡ address theirs
IsWith theirs (Incoming counter message_id acks_to behaviour deadline lapse) = IsIssuedBy (number theirs) message_id
IsWith theirs (Taken message_id ident endpoint) = IsIssuedBy (number theirs) message_id

-- where it is, P
pub record IfWith (mine theirs : List Fact) (s : ℕ) (P : Type 0) : Type 0 where
  pub maker_ : Maker
  pub there : maker mine s ≡ Some maker_
  pub holds : IsWith theirs maker_ → P

-- what one record of mine says of both
abbrev pub Justified : List Fact → List Fact → Fact → Type 0
Justified mine theirs (Created s q accept) = IfWith mine theirs s (IsAgreed mine theirs s q)
Justified mine theirs (Closed s Peer n) = IfWith mine theirs s (IsTold mine theirs s n)
Justified mine theirs (Ended s Peer n) = IfWith mine theirs s (IsTold mine theirs s n)
Justified mine theirs (Granted c t acks_to behaviour deadline lapse offer) =
    IsIssuedBy (number theirs) t
    → HasAsked theirs t × IfSome offer (λ (taken : PeerOffer). IsGranted theirs t taken.ident)
Justified mine theirs (Acked s ranges) = IfWith mine theirs s (AreKept mine theirs s ranges)
Justified mine theirs (Received s i p) = IfWith mine theirs s (IsSourced mine theirs s i p.bytes)
Justified mine theirs _ = Unit {0}

-- each number is above low and above those before it
abbrev pub Rises : ℕ → List (Option ℕ) → Type 0
Rises low [] = Unit {0}
Rises low (None ∷ xs) = Rises low xs
Rises low (Some x ∷ xs) = (low < x) × Rises x xs

-- the last of the numbers, where they rise
abbrev pub highest : ℕ → List (Option ℕ) → ℕ
highest n [] = n
highest n (None ∷ xs) = highest n xs
highest n (Some x ∷ xs) = highest x xs

-- the number that was drawn for a sequence
abbrev pub drawn : Maker → Option ℕ
drawn (Outgoing ticket to via lapse) = Some ticket
drawn (Incoming counter message_id acks_to behaviour deadline lapse) = Some counter
drawn (Offered ticket counter to behaviour) = Some counter
drawn (Taken message_id ident endpoint) = None

-- of one node alone: its numbers, and its identifiers
pub record Owns (n : ℕ) (r : List Fact) : Type 0 where
  pub number : number r ≡ n
  pub rising : Rises 0 (map drawn (makers r))
  pub below : highest 0 (map drawn (makers r)) ≤ counter r
  pub made : (s : ℕ) (q : Text) → IsOutgoing r s q → (m : Maker) × (maker r s ≡ Some m)
  pub unique : (s t : ℕ) (q : Text) → IsOutgoing r s q → IsOutgoing r t q → s ≡ t
  pub found : (s : ℕ) (q : Text) → seq_in (created r) q ≡ Some s → IsOutgoing r s q

-- two nodes agree
pub record Agree (n m : ℕ) (mine theirs : List Fact) : Type 0 where
  pub owns : Owns n mine
  pub others : Owns m theirs
  pub justified : AllByRecursion (Justified mine theirs) mine
  pub others_justified : AllByRecursion (Justified theirs mine) theirs

-- a record may be added: none that only a list that is written anew has, and no message that came already
abbrev pub Fresh : List Fact → Fact → Type 0
Fresh r (Made n a) = ⊥
Fresh r (Dropped s upto) = ⊥
Fresh r (Purged s ranges) = ⊥
Fresh r (Received s i p) = has_number (held r s) i ≡ false
Fresh r (Creating ticket to via lapse offer) =
    (ticket ≡ counter r + 1) × IfSome offer (λ (own : OwnOffer). own.counter ≡ counter r + 2)
Fresh r (Granted c t acks_to behaviour deadline lapse offer) =
    (c ≡ counter r + 1) × IfSome offer (λ (taken : PeerOffer). seq_in (created r) taken.ident ≡ None)
Fresh r (Accepted s p) = is_empty (marks r s) ≡ true
Fresh r (Acked s ranges) = AreProper ranges
Fresh r (Created s q accept) =
    ((m : Maker) × (maker r s ≡ Some m)) × (seq_in (created r) q ≡ None) × (out_ident r s ≡ None)
Fresh r _ = Unit {0}

-- a batch may be added, record by record
abbrev pub Allows : List Fact → List Fact → List Fact → Type 0
Allows mine theirs [] = Unit {0}
Allows mine theirs (rec ∷ delta) = Fresh mine rec × Justified mine theirs rec × Allows (mine ++ rec ∷ []) theirs delta

-- nothing is gone: no record says that an item is
abbrev pub NothingIsGone : List Fact → Type 0
NothingIsGone whole = AllByRecursion IsLive whole

-- the records that a node has say what all that it ever had say, but for items that are gone; in these nothing is gone
pub record Keeps (r whole : List Fact) : Type 0 where
  pub same : SaysTheSame r whole
  pub live : NothingIsGone whole

-- the records on a node's disk: they keep all that it ever had, each range of an Acked record has a number, and each
-- record may come after those before it
pub record StandFor (r whole : List Fact) : Type 0 where
  pub kept : Keeps r whole
  pub proper : HaveProper r
  pub fit : all_fit [] r ≡ true

-- the sequences that these records make are between the two nodes
abbrev pub AreWith : List Fact → List Fact → Type 0
AreWith theirs r = AllByRecursion (IsWith theirs) (makers r)

-- the store has room for the batch
abbrev pub HasRoom : Terms → Node → List Fact → Type 0
HasRoom terms x delta = node_end terms x + 6 + terms.size delta ≤ limits.journal_bytes

-- the store has room for the list that is written anew
abbrev pub HasPlace : Terms → Node → ℕ → Type 0
HasPlace terms x start = end_of terms start (fresh_entries x.entries) ≤ limits.journal_bytes

-- the batch of a call that failed may be added, or the list be written anew
abbrev pub AllowsState : Terms → Node → List Fact → State → Type 0
AllowsState terms x theirs (Writing delta) =
    Allows x.whole theirs delta × AreWith theirs delta × HasRoom terms x delta
    × (all_fit (records x) delta ≡ true)
AllowsState terms x theirs (Compacting start) = HasPlace terms x start
AllowsState terms x theirs Up = Unit {0}

-- each number that the node drew takes room on its disk, which is bounded
pub record IsBounded (terms : Terms) (x : Node) : Type 0 where
  pub below : counter x.whole ≤ node_end terms x
  pub store : node_end terms x ≤ limits.journal_bytes

-- a packet says what is so by the records of the node that sent it
abbrev pub SaysPacket : World → Packet → Type 0
SaysPacket w packet = Says (node w packet.from).whole packet.message

-- each message that waits at a node says what is so by these records
abbrev pub AreSaid : List Fact → Waiting Message → Type 0
AreSaid r polled = AllWaiting (Says r) polled

-- of one node of a world, beside another one with these records
pub record IsSoundNode (terms : Terms) (at : Text) (x : Node) (theirs : List Fact) : Type 0 where
  pub failed : AllowsState terms x theirs x.state
  pub with_ : AreWith theirs x.whole
  pub at_ : address x.whole ≡ at
  pub stands : StandFor (records x) x.whole
  pub bounded : IsBounded terms x
  pub said : AreSaid x.whole x.polled

-- what holds in every world that a run can reach
pub record IsSound (terms : Terms) (w : World) : Type 0 where
  pub agree : Agree 1 2 w.one.whole w.two.whole
  pub packets : AllByRecursion (SaysPacket w) w.packets
  pub one : IsSoundNode terms w.at_one w.one w.two.whole
  pub two : IsSoundNode terms w.at_two w.two w.one.whole
