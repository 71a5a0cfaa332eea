-- The nodes of a relay in their order, and whom each has sequences with.
use Rattle.std.specs.Prelude.{◌≡◌, ℕ, List, Option, Some, None}
use Rattle.std.specs.List.{AllByRecursion}
use Rattle.record_batch.specs.Fact.{Fact}
use Rattle.rm_message.specs.declared.message.Message.{Message}
use Rattle.record_batch.specs.Sequences.Find.{IsIncoming, IsOutgoing}
use Rattle.record_batch.specs.Sequences.Makers.{Maker, Outgoing, Offered, Incoming, Taken, address, makers, number}
use Rattle.record_batch.specs.Sequences.Words.{Text}
use Rattle.rm_protocol.specs.Next.{HasNumbers}
use Rattle.rm_protocol.specs.Pair.{IsStranger, TellsOf}
use Rattle.rm_protocol.specs.Sound.{IsAsked, IsIssuedBy, Says}
use Rattle.rm_relay.specs.Word.World.{number_of}
use Rattle.rm_relay.specs.Word.World.{address_of}
use Rattle.rm_relay.specs.declared.word.station.Station.{Station}
use Rattle.rm_relay.specs.declared.word.station.Station.TheVariants.{One, Two, Three}

-- the node before one
abbrev pub before : Station → Option Station
before One = None
before Two = Some One
before Three = Some Two

-- and the one behind it
abbrev pub behind : Station → Option Station
behind One = Some Two
behind Two = Some Three
behind Three = None

-- a sequence of a node was granted for a message of the node before it, or asked of the one behind it
abbrev pub IsOfRole : Station → Maker → Type 0
IsOfRole at (Outgoing ticket to via lapse) =
    (next : Station) × (behind at ≡ Some next) × (to ≡ address_of next)
IsOfRole at (Incoming counter message_id acks_to behaviour deadline lapse) =
    (prior : Station) × (before at ≡ Some prior) × IsIssuedBy (number_of prior) message_id
IsOfRole at (Offered ticket counter to behaviour) = ⊥
IsOfRole at (Taken message_id ident endpoint) = ⊥

-- so is each
abbrev pub HasRole : Station → List Fact → Type 0
HasRole at r = AllByRecursion (IsOfRole at) (makers r)

-- what is known of a node by its records: its number and its address; its sequences; that it issued the messages that
-- it asked with and the identifiers of what it receives on; and that the node behind it issued those of what it
-- sends on
pub record Known (at : Station) (r : List Fact) : Type 0 where
  pub number_ : number r ≡ number_of at
  pub address_ : address r ≡ address_of at
  pub roles : HasRole at r
  pub asked : (s : ℕ) (t : Text) → IsAsked r s t → IsIssuedBy (number_of at) t
  pub received_ : (s : ℕ) (q t : Text) → IsIncoming r s q t → IsIssuedBy (number_of at) q
  pub sends : (s : ℕ) (q : Text) → IsOutgoing r s q
      → (next : Station) × (behind at ≡ Some next) × IsIssuedBy (number_of next) q

-- what node p says is the message of a stranger at node q beside node z, which isn't p
abbrev pub IsStrangeToTheOthers : Type 0
IsStrangeToTheOthers =
    (p q z : Station) (a b c : List Fact) (m : Message) → Known p a → Known q b → Known z c → TellsOf b c
    → (p ≡ z → ⊥) → Says a m → HasNumbers m → IsStranger b c m
