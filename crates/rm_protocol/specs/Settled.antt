-- Two nodes of any different numbers name nothing that one of them has yet to issue.
use Rattle.std.specs.Prelude.{◌≡◌, ◌⊎◌, ℕ, ◌^◌, ◌<◌, List, [], ◌++◌, Option, IfSome, Ok}
use Rattle.std.specs.List.{AllByRecursion}
use Rattle.rm_message.specs.declared.elements.header.SeqHeader.{SeqHeader}
use Rattle.rm_message.specs.declared.elements.lifecycle.Lifecycle.TheVariants as life
use Rattle.rm_message.specs.declared.elements.lifecycle.Offer.{Offer}
use Rattle.rm_message.specs.declared.message.Body.{Body}
use Rattle.rm_message.specs.declared.message.Body.TheVariants as body
use Rattle.rm_message.specs.declared.message.Message.{Message}
use Rattle.record_batch.specs.declared.record.PeerOffer.{PeerOffer}
use Rattle.record_batch.specs.Fact.{Fact, Created, Granted}
use Rattle.record_batch.specs.Sequences.Idents.{issue}
use Rattle.record_batch.specs.Sequences.Makers.{counter, number}
use Rattle.record_batch.specs.Sequences.Words.{Text}
use Rattle.rm_protocol.specs.Node.{Node, State, Writing}
use Rattle.rm_protocol.specs.Pair.{Act, Receives, IsAmong, IsPair, MayBefall, acted, left}
use Rattle.rm_protocol.specs.PollLemmas.{AllWaiting}
use Rattle.rm_protocol.specs.Terms.{AreTerms, Terms}
use Rattle.rm_protocol.specs.World.{made}

-- the node has yet to issue the text: it issues one for each number that it draws, and draws them in order
pub record IsToCome (r : List Fact) (t : Text) : Type 0 where
  pub drawn : ℕ
  pub later : counter r < drawn
  pub bits : drawn < 2 ^ 62
  pub is : t ≡ issue (number r) drawn

-- neither of two nodes has yet to issue it
pub record IsSettled (a b : List Fact) (t : Text) : Type 0 where
  pub one : IsToCome a t → ⊥
  pub two : IsToCome b t → ⊥

-- what a record has of the message that brought it: the identifier of a Created record; the MessageID and the offered
-- identifier of a Granted one
abbrev pub HeardSettled : List Fact → List Fact → Fact → Type 0
HeardSettled a b (Created s q accept) = IsSettled a b q
HeardSettled a b (Granted c t acks_to behaviour deadline lapse offer) =
    IsSettled a b t × IfSome offer (λ (taken : PeerOffer). IsSettled a b taken.ident)
HeardSettled a b _ = Unit {0}

-- the identifier of a Granted record, which the node itself issued
abbrev pub OwnSettled : List Fact → List Fact → Fact → Type 0
OwnSettled a b (Granted c t acks_to behaviour deadline lapse offer) = IsSettled a b (issue (number a) c)
OwnSettled a b _ = Unit {0}

-- no identifier and no message id of a record is one to come
abbrev pub HasSettled : List Fact → List Fact → Fact → Type 0
HasSettled a b rec = OwnSettled a b rec × HeardSettled a b rec

-- nor is one of a message with data, of a CloseSequence or of a TerminateSequence
abbrev pub SaysSettled : List Fact → List Fact → Option SeqHeader → Option Text → Body → Type 0
SaysSettled a b header t (body.Payload p) =
    IfSome header (λ (h : SeqHeader). IsSettled a b h.ident) × IfSome t (IsSettled a b)
SaysSettled a b header t (body.Lifecycle (life.Close f)) = IsSettled a b f.ident × IfSome t (IsSettled a b)
SaysSettled a b header t (body.Lifecycle (life.Terminate f)) = IsSettled a b f.ident × IfSome t (IsSettled a b)
SaysSettled a b header t _ = Unit {0}

-- of a message
abbrev pub NamesSettled : List Fact → List Fact → Message → Type 0
NamesSettled a b m = SaysSettled a b m.sequence m.addressing.message_id m.body

-- of the batch of a call that failed
abbrev pub WritesSettled : List Fact → List Fact → State → Type 0
WritesSettled a b (Writing delta) = AllByRecursion (HeardSettled a b) delta
WritesSettled a b _ = Unit {0}

-- of one of the two, which said these messages, beside the other one with these records
pub record IsSettledNode (x : Node) (theirs : List Fact) (said : List Message) : Type 0 where
  pub records_ : AllByRecursion (HasSettled x.whole theirs) x.whole
  pub writes : WritesSettled x.whole theirs x.state
  pub says : AllByRecursion (NamesSettled x.whole theirs) said
  pub waits : AllWaiting (NamesSettled x.whole theirs) x.polled

-- of both
pub record AreSettled (x y : Node) (x_said y_said : List Message) : Type 0 where
  pub one : IsSettledNode x y.whole x_said
  pub two : IsSettledNode y x.whole y_said

-- what a CreateSequence or its response brings, where it is a stranger's: nothing that one of the two has yet to issue
abbrev pub BringsSettled : List Fact → List Fact → Option Text → Body → Type 0
BringsSettled a b t (body.Lifecycle (life.Create c)) =
    IfSome t (IsSettled a b) × IfSome c.offer (λ (offer : Offer). IsSettled a b offer.ident)
BringsSettled a b t (body.Lifecycle (life.CreateResponse c)) = IsSettled a b c.ident
BringsSettled a b t _ = Unit {0}

-- what comes is among what the other one said, or brings nothing that is to come
abbrev pub ComesSettled : List Fact → List Fact → List Message → Act → Type 0
ComesSettled a b said (Receives (Ok m)) =
    IsAmong said m ⊎ BringsSettled a b m.addressing.message_id m.body
ComesSettled a b said _ = Unit {0}

-- whatever befalls one of a pair keeps them so
abbrev pub StaysSettled : Type 0
StaysSettled =
    (terms : Terms) (n m : ℕ) (x y : Node) (x_said y_said : List Message) (act : Act)
    → AreTerms terms → IsPair terms n m x y x_said y_said → AreSettled x y x_said y_said
    → MayBefall x.whole y.whole y_said act → ComesSettled x.whole y.whole y_said act
    → AreSettled (acted terms x act).node y (x_said ++ left (acted terms x act)) y_said

-- two nodes that were just made are so
abbrev pub MadeAreSettled : Type 0
MadeAreSettled = (n m : ℕ) (one two : Text) → AreSettled (made n one) (made m two) [] []
