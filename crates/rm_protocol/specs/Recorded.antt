-- A message that is new is recorded by the call that brings it, and released where it closes the gap, or on a loose
-- sequence:
-- WS-ReliableMessaging 1.2, section 2.4.
use Rattle.std.specs.Prelude.{◌≡◌, ℕ, ◌+◌, ◌≤◌, true, false, List, [], ◌∷◌, ◌++◌, Some}
use Rattle.std.specs.List.{AllByRecursion}
use Rattle.rm_base.specs.Limits as limits
use Rattle.rm_base.specs.Numbered.{numbered}
use Rattle.rm_base.specs.NumberSet.{has_number}
use Rattle.rm_base.specs.declared.message.Behaviour.{Behaviour}
use Rattle.rm_base.specs.declared.message.Behaviour.TheVariants.{FollowingFirstGap}
use Rattle.rm_base.specs.declared.message.Payload.{Payload}
use Rattle.rm_message.specs.declared.elements.header.AckBlock.{AckBlock}
use Rattle.rm_sides.specs.declared.source.phase.OutPhase.TheVariants as out
use Rattle.rm_message.specs.declared.message.Body.TheVariants as body
use Rattle.rm_message.specs.declared.message.Message.{Message}
use Rattle.record_batch.specs.Fact.{Fact, Received}
use Rattle.record_batch.specs.Snapshot.Same.{AreNumbers}
use Rattle.rm_sides.specs.Destination.Incoming.{is_loose}
use Rattle.record_batch.specs.Sequences.Words.{Text}
use Rattle.record_batch.specs.Sequences.Destinations.{behaviour, front, held, inbox, is_over, items}
use Rattle.record_batch.specs.Sequences.Sources.{is_sending, phase}
use Rattle.record_batch.specs.Sequences.Find.{find_incoming, find_outgoing}
use Rattle.rm_protocol.specs.Heard.{Heard}
use Rattle.rm_protocol.specs.Rows.{final_row, rows}
use Rattle.rm_protocol.specs.Terms.{Terms}

-- the message has payload p as message i of incoming sequence s, new, at most 1024 past the front, and for an open
-- sequence
pub record IsNew (r : List Fact) (now : ℕ) (m : Message) (s i : ℕ) (p : Payload) : Type 0 where
  pub ident : Text
  pub header : m.sequence ≡ Some (record { ident = ident; number = i })
  pub payload : m.body ≡ body.Payload p
  pub incoming : find_incoming r ident ≡ Some s
  pub new : has_number (held r s) i ≡ false
  pub open_ : is_over r s now ≡ false
  pub near : i ≤ front r s + limits.window

-- the rows of a message that is new: those of its acknowledgements, and then its record
abbrev pub NewIsRecorded : Type 0
NewIsRecorded =
    (terms : Terms) (r : List Fact) (now : ℕ) (y : Behaviour) (m : Message) (s i : ℕ) (p : Payload)
    → IsNew r now m s i p
    → (before : List Fact) × (rows terms now y m r ≡ before ++ Received s i p ∷ [])

-- where the message closes the gap, it is released as item i of the inbox, at the records after its rows
abbrev pub GapIsClosed : Type 0
GapIsClosed =
    (terms : Terms) (r : List Fact) (now : ℕ) (y : Behaviour) (m : Message) (s i : ℕ) (p : Payload)
    → IsNew r now m s i p
    → AreNumbers (items r s) → behaviour r s ≡ FollowingFirstGap → i ≡ front r s + 1
    → numbered (inbox (r ++ rows terms now y m r) s) i ≡ Some (Some p)

-- on a loose sequence it is the next item of the inbox, at the records after its rows
abbrev pub LooseIsReleased : Type 0
LooseIsReleased =
    (terms : Terms) (r : List Fact) (now : ℕ) (y : Behaviour) (m : Message) (s i : ℕ) (p : Payload)
    → IsNew r now m s i p → is_loose (behaviour r s) ≡ true
    → inbox (r ++ rows terms now y m r) s ≡ inbox r s ++ Some p ∷ []

-- a message brings no other records than those of the receiving table
abbrev pub OnlyHeardIsRecorded : Type 0
OnlyHeardIsRecorded =
    (terms : Terms) (r : List Fact) (now : ℕ) (y : Behaviour) (m : Message)
    → AllByRecursion (Heard m) (rows terms now y m r)

-- an acknowledgement with Final closes its source, where that is open or closing: section 3.9
abbrev pub FinalCloses : Type 0
FinalCloses =
    (r : List Fact) (block : AckBlock) (s : ℕ) → find_outgoing r block.ident ≡ Some s → block.last ≡ true
    → is_sending (phase r s) ≡ true → phase (r ++ final_row block r) s ≡ out.Closed
