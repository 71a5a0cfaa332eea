-- What a call comes to where it isn't refused, before its batch is measured.
use Rattle.std.specs.Prelude.{ℕ, ◌+◌, Bool, if◌then◌else◌, List, [], ◌∷◌, length, None}
use Rattle.std.specs.Option.{option_to_list}
use Rattle.rm_base.specs.declared.message.Cause.TheVariants.{Operator, Expired}
use Rattle.rm_message.specs.declared.message.Message.{Message}
use Rattle.record_batch.specs.Fact.{Fact, Creating, Accepted, Closing, Closed, Ending, Ended}
use Rattle.record_batch.specs.Sequences.Words.{Text}
use Rattle.record_batch.specs.Sequences.Makers.{counter, maker, makers}
use Rattle.record_batch.specs.Sequences.Sources.{accepted_count}
use Rattle.rm_protocol.specs.Calls.{Answer, Done, Wish, adds, cursor_to, final_ack, made_by, offer_of}
use Rattle.rm_protocol.specs.Messages.{data_at, request_at}
use Rattle.rm_protocol.specs.Terms.{Terms}
use Rattle.rm_protocol.specs.Waiting.{no_moves}
use Rattle.rm_protocol.specs.Verdict.{has_room}

-- these records are added, and these messages are said
abbrev pub done : List Fact → List Message → Answer
done delta outs = record { outcome = Done; delta = delta; fetched = None; outs = outs; moves = no_moves }

-- a sequence is asked for
abbrev pub asked : List Fact → Wish → Answer
asked r wish =
    adds r (Creating (counter r + 1) wish.to wish.via wish.expires (offer_of (counter r) wish.offer) ∷ [])
    (λ now. option_to_list (request_at now (length (makers r) + 1)))

-- a payload is accepted
abbrev pub sent : List Fact → ℕ → Text → Answer
sent r s payload =
    adds r (Accepted s payload ∷ []) (λ now. option_to_list (data_at now s (accepted_count r s + 1)))

-- an outgoing sequence is being closed
abbrev pub closing : List Fact → ℕ → Answer
closing r s = adds r (Closing s (counter r + 1) ∷ []) (λ now. option_to_list (request_at now s))

-- an incoming sequence is closed at a moment
abbrev pub closed : List Fact → ℕ → ℕ → Answer
closed r s now =
    adds r (Closed s Operator 0 ∷ []) (λ after. final_ack after s now (made_by after (maker after s)))

-- the items of an inbox up to one are consumed
abbrev pub consumed : List Fact → ℕ → ℕ → Answer
consumed r s upto = adds r (cursor_to r s upto) (λ after. [])

-- an outgoing sequence is being ended
abbrev pub ending : List Fact → ℕ → Answer
ending r s = adds r (Ending s (counter r + 1) ∷ []) (λ now. option_to_list (request_at now s))

-- a batch, where it fits the store, and else none
abbrev pub fitting : Terms → ℕ → List Fact → List Fact
fitting terms place batch = if has_room terms place batch then batch else []

-- the record that ends a sequence whose time has run out
abbrev pub ending_if : Bool → ℕ → List Fact
ending_if due s = if due then Ended s Expired 0 ∷ [] else []
