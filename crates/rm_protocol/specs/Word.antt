-- The headline of two nodes, by their records.
use Rattle.std.specs.Prelude.{◌≡◌, ◌⊎◌, ℕ, true, false, List, [], ◌∷◌, ◌++◌, map, take, drop, Option, Some}
use Rattle.std.specs.List.{AllByRecursion}
use Rattle.rm_sides.specs.Ranges.Ranges.{in_ranges}
use Rattle.rm_base.specs.NumberSet.{has_number}
use Rattle.rm_base.specs.declared.message.Behaviour.TheVariants.{EntireSequence}
use Rattle.rm_base.specs.declared.message.Payload.{Payload}
use Rattle.record_batch.specs.Fact.{Fact}
use Rattle.rm_base.specs.Numbered.{numbered}
use Rattle.rm_sides.specs.Destination.Incoming.{is_loose}
use Rattle.rm_sides.specs.Destination.Messages.{is_empty, numbers_of}
use Rattle.record_batch.specs.Sequences.Words.{Text}
use Rattle.record_batch.specs.Sequences.Sources.{accepted, acked, marks}
use Rattle.record_batch.specs.Sequences.Destinations.{held, inbox, behaviour, cursor, received, released, texts}
use Rattle.record_batch.specs.Sequences.Find.{IsOutgoing, IsIncoming}

-- ys begins with xs
abbrev pub IsPrefixOf : {A : Type 0} → List A → List A → Type 0
IsPrefixOf {A} xs ys = (rest : List A) × (ys ≡ xs ++ rest)

-- the message has the payload that was accepted with its number
abbrev pub IsItemOf : List Text → ℕ × Payload → Type 0
IsItemOf given m = numbered given m.0 ≡ Some m.1.bytes

-- no number stands twice
abbrev pub AreApart : List ℕ → Type 0
AreApart [] = Unit {0}
AreApart (n ∷ ns) = (has_number ns n ≡ false) × AreApart ns

-- an incoming sequence t of the node with records b matches an outgoing one s of the node with records a: they have one
-- identifier
pub record Matches (a b : List Fact) (s t : ℕ) : Type 0 where
  pub ident : Text
  pub message_id : Text
  pub outgoing : IsOutgoing a s ident
  pub incoming : IsIncoming b t ident message_id

-- the sequence has no matching source
abbrev pub HasNoSource : List Fact → List Fact → ℕ → Type 0
HasNoSource a b t = (s : ℕ) → Matches a b s t → ⊥

-- incoming sequence t was made
pub record IsThere (b : List Fact) (t : ℕ) : Type 0 where
  pub ident : Text
  pub message_id : Text
  pub incoming : IsIncoming b t ident message_id

-- Of all records that two nodes ever had, among which nothing is gone, from the source with records a to the
-- destination with records b. What is released of a sequence that isn't loose is a prefix of what was accepted; under
-- DiscardEntireSequence it is none or all of it, and then the source is no longer Creating or Open; each message that
-- was received is an item of what was accepted, by its number; what is acknowledged is held; without a matching source
-- nothing is released; and an outgoing sequence with an identifier has its match
pub record KeepsWholeWord (a b : List Fact) : Type 0 where
  pub prefix : (s t : ℕ) → Matches a b s t → is_loose (behaviour b t) ≡ false
      → IsPrefixOf (texts (released b t)) (accepted a s)
  pub whole : (s t : ℕ) → Matches a b s t → behaviour b t ≡ EntireSequence
      → (released b t ≡ []) ⊎ ((texts (released b t) ≡ accepted a s) × (is_empty (marks a s) ≡ false))
  pub items_ : (s t : ℕ) → Matches a b s t → AllByRecursion (IsItemOf (accepted a s)) (received b t)
  pub held : (s t : ℕ) → Matches a b s t → (n : ℕ) → in_ranges (acked a s) n ≡ true
      → has_number (numbers_of (received b t)) n ≡ true
  pub none : (t : ℕ) → IsThere b t → HasNoSource a b t → released b t ≡ []
  pub matched : (s : ℕ) (q : Text) → IsOutgoing a s q → (t : ℕ) × Matches a b s t

-- all payloads that the Accepted records of an outgoing sequence ever had
abbrev pub history : List Fact → ℕ → List Text
history whole s = accepted whole s

-- the items of an incoming sequence's inbox that its Consumed records passed
abbrev pub consumed : List Fact → ℕ → List Payload
consumed whole t = take (cursor whole t) (released whole t)

-- what the application of sequence t consumed, and then the items of its inbox past the cursor
pub record Has (b b_whole : List Fact) (t : ℕ) (all : List Payload) : Type 0 where
  pub rest : List Payload
  -- none of them is gone
  pub left : drop (cursor b t) (inbox b t) ≡ map Some rest
  pub all_ : all ≡ consumed b_whole t ++ rest

-- The headline, from the source with records a, a_whole being all that it ever had, to the destination with records b,
-- and b_whole. Of a sequence that isn't loose, what the application consumed followed by the inbox past the cursor is a
-- prefix of what was accepted; under DiscardEntireSequence it is none or all of it, and then the source is no longer
-- Creating or Open; what is acknowledged was received; without a matching source there is nothing; and an outgoing
-- sequence with an identifier has its match
pub record KeepsWord (a a_whole b b_whole : List Fact) : Type 0 where
  pub has : (t : ℕ) → (all : List Payload) × Has b b_whole t all
  pub prefix : (s t : ℕ) → Matches a b s t → is_loose (behaviour b t) ≡ false
      → IsPrefixOf (texts (has t).0) (history a_whole s)
  pub whole : (s t : ℕ) → Matches a b s t → behaviour b t ≡ EntireSequence
      → ((has t).0 ≡ []) ⊎ ((texts (has t).0 ≡ history a_whole s) × (is_empty (marks a s) ≡ false))
  pub held : (s t : ℕ) → Matches a b s t → (n : ℕ) → in_ranges (acked a s) n ≡ true → has_number (held b t) n ≡ true
  pub none : (t : ℕ) → IsThere b t → HasNoSource a b t → (has t).0 ≡ []
  pub matched : (s : ℕ) (q : Text) → IsOutgoing a s q → (t : ℕ) × Matches a b s t

-- the payloads with these numbers, of those that were accepted
abbrev pub accepted_at : List Text → List ℕ → List (Option Text)
accepted_at given ns = map (λ (n : ℕ). numbered given n) ns

-- What a loose sequence's application consumed followed by the inbox past the cursor: the payloads that its source
-- accepted at distinct numbers, which are exactly the received ones, with those of the messages that are there last, in
-- the order in which they came
pub record IsAsItCame (given : List Text) (b : List Fact) (t : ℕ) (all : List Payload) : Type 0 where
  pub numbers : List ℕ
  pub once : AreApart numbers
  pub exactly : (n : ℕ) → has_number numbers n ≡ has_number (held b t) n
  pub payloads : map Some (texts all) ≡ accepted_at given numbers
  pub first : List ℕ
  pub last : numbers ≡ first ++ numbers_of (received b t)

-- From the source with records a to the destination with records b: so it is of each loose sequence, and what is
-- acknowledged was received
pub record KeepsLoose (a a_whole b b_whole : List Fact) : Type 0 where
  pub has : (t : ℕ) → (all : List Payload) × Has b b_whole t all
  pub comes : (s t : ℕ) → Matches a b s t → is_loose (behaviour b t) ≡ true
      → IsAsItCame (history a_whole s) b t (has t).0
  pub held : (s t : ℕ) → Matches a b s t → is_loose (behaviour b t) ≡ true → (n : ℕ) → in_ranges (acked a s) n ≡ true
      → has_number (held b t) n ≡ true

-- where nothing was consumed, all that the headline speaks of is the inbox
abbrev pub InboxIsAll : Type 0
InboxIsAll =
    (a a_whole b b_whole : List Fact) (word : KeepsWord a a_whole b b_whole) (t : ℕ) → cursor b t ≡ 0
    → cursor b_whole t ≡ 0 → inbox b t ≡ map Some (word.has t).0
