-- The code's answers as those of the protocol.
use Rattle.std.specs.Prelude.{◌≡◌, ℕ, true, List, map, None}
use Rattle.std.specs.List.{AllByRecursion}
use Rattle.node_laws.specs.Sizes.Room.{HasRoom}
use Rattle.node_laws.specs.Sizes.Typed.{IsTyped}
use Rattle.record_batch.specs.Fact.{Fact, fact_of}
use Rattle.record_batch.specs.Sequences.Fits.{all_fit}
use Rattle.rm_protocol.specs.Waiting.{Moves}
use Rattle.rm_protocol.specs.Calls.{Answer, Cause, Outcome, Wish, NoSequence, WrongSide, PayloadTooLong, BadPayload}
use Rattle.rm_protocol.specs.Calls.{NotOpen, WindowFull, NodeFull, Rollover, TooManySequences, StoreFull, Done}
use Rattle.rm_protocol.specs.Calls.{PastInbox, Refused, Judged}
use Rattle.node_laws.specs.declared.answers.answer.Answer.{Answer as CodeAnswer}
use Rattle.node_laws.specs.declared.answers.answer.Cause.{Cause as CodeCause}
use Rattle.node_laws.specs.declared.answers.answer.Cause.TheVariants as cause
use Rattle.node_laws.specs.declared.answers.answer.Outcome.{Outcome as CodeOutcome}
use Rattle.node_laws.specs.declared.answers.answer.Outcome.TheVariants as code
use Rattle.node_laws.specs.declared.answers.answer.Moves.{Moves as CodeMoves}
use Rattle.node_laws.specs.declared.answers.answer.Wish.{Wish as CodeWish}

-- why a call is refused
abbrev pub cause_seen : CodeCause → Cause
cause_seen cause.NoSequence = NoSequence
cause_seen cause.WrongSide = WrongSide
cause_seen (cause.PayloadTooLong length) = PayloadTooLong length
cause_seen cause.BadPayload = BadPayload
cause_seen cause.NotOpen = NotOpen
cause_seen (cause.WindowFull unacked) = WindowFull unacked
cause_seen (cause.NodeFull unacked) = NodeFull unacked
cause_seen cause.Rollover = Rollover
cause_seen (cause.TooManySequences count) = TooManySequences count
cause_seen (cause.StoreFull end needed) = StoreFull end needed
cause_seen (cause.PastInbox have) = PastInbox have

-- how a call comes out
abbrev pub outcome_seen : CodeOutcome → Outcome
outcome_seen code.Done = Done
outcome_seen (code.Refused cause) = Refused (cause_seen cause)
outcome_seen (code.Judged fault) = Judged fault

-- how keys move
abbrev pub moves_seen : CodeMoves → Moves
moves_seen m = record { urged = m.urged.items; emitted = m.emitted.items; time = m.time }

-- what a call comes to
abbrev pub seen : CodeAnswer → Answer
seen a = record {
  outcome = outcome_seen a.outcome;
  delta = map fact_of a.batch.items;
  fetched = None;
  outs = a.outs.items;
  moves = moves_seen a.moves;
}

-- what is asked for
abbrev pub wish_seen : CodeWish → Wish
wish_seen w = record { to = w.to; via = w.via; expires = w.expires; offer = w.offer }

-- the batch may be written behind r in a journal that ends at this place: each record may come next, there is room, and
-- the values are as their types keep them
pub record MayBeStored (r : List Fact) (end : ℕ) (delta : List Fact) : Type 0 where
  pub fit : all_fit r delta ≡ true
  pub room : HasRoom end delta
  pub typed : AllByRecursion IsTyped delta
