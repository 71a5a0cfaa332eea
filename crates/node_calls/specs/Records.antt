-- What the records of a node give to its calls.
use Rattle.std.specs.Prelude.{◌≡◌, ℕ, ◌<◌, ◌^◌, Bool, true, false, List, []}
use Rattle.rm_sides.specs.declared.source.phase.OutPhase.{OutPhase}
use Rattle.rm_sides.specs.declared.source.phase.OutPhase.TheVariants as out
use Rattle.record_batch.specs.Fact.{Fact, Ended}
use Rattle.record_batch.specs.Sequences.Fits.{all_fit}
use Rattle.record_batch.specs.Sequences.Makers.{counter}
use Rattle.node_laws.specs.OwnTerms.{AreOwn}
use Rattle.node_laws.specs.Records.{BeginsWithMade}
use Rattle.rm_protocol.specs.Next.{AddsNext}
use Rattle.rm_protocol.specs.Terms.{Terms}

-- the first record is Made, each could come next, and fewer numbers were drawn than memory can hold bytes
pub record IsServing (r : List Fact) : Type 0 where
  pub begins : BeginsWithMade r
  pub fit : all_fit [] r ≡ true
  pub drawn : counter r < 2 ^ 61

-- at some terms of a node's own, the records that each call adds may come next
pub record CallsFit (r : List Fact) (place : ℕ) : Type 0 where
  pub terms : Terms
  pub own : AreOwn terms
  pub next : AddsNext terms r place

-- the phases in which a sequence waits for the answer to its CloseSequence or TerminateSequence
abbrev pub is_finishing : OutPhase → Bool
is_finishing out.Closing = true
is_finishing out.Ending = true
is_finishing _ = false

-- the record ends an incoming sequence
abbrev pub IsEnding : Fact → Type 0
IsEnding (Ended seq cause last) = Unit {0}
IsEnding _ = ⊥
