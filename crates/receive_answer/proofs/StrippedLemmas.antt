-- What is said to a message doesn't depend on what its payload has.
use Rattle.std.proofs.Common.{◌≡◌, ℕ, List, ◌++◌, [], refl, ap, ◌∙◌, Option, Some, None}
use Rattle.rm_message.specs.declared.elements.header.SeqHeader.{SeqHeader}
use Rattle.rm_message.specs.declared.message.Body.{Body}
use Rattle.rm_message.specs.declared.message.Body.TheVariants.{Empty, Payload, Lifecycle, Fault}
use Rattle.rm_message.specs.declared.message.Message.{Message}
use Rattle.rm_message.specs.declared.refusal.FaultKind.TheVariants.{StoreFull}
use Rattle.message_writer.specs.Faults.{fault_of}
use Rattle.wsa_headers.specs.declared.addressing.Addressing.{Addressing}
use Rattle.record_batch.specs.Fact.{Fact}
use Rattle.record_batch.specs.Sequences.Words.{Text}
use Rattle.rm_protocol.specs.Calls.{Answer, Done, refusal_of}
use Rattle.rm_protocol.specs.Said.{acks_said, answered, ask_acks, data_acks, data_ident, found_in, given_with}
use Rattle.rm_protocol.specs.Said.{responses, said}
use Rattle.receive_answer.specs.Records.Stripped.{emptied, stripped}
use Rattle.receive_answer.specs.Untold.{done_of, full_of, judged_as, urging}

responses-emptied : (r : List Fact) (now : ℕ) (a : Addressing) (content : Body)
    → responses r now a (emptied content) ≡ responses r now a content
responses-emptied r now a Empty = refl
responses-emptied r now a (Payload p) = refl
responses-emptied r now a (Lifecycle x) = refl
responses-emptied r now a (Fault f) = refl

data_ident-emptied : (h : Option SeqHeader) (content : Body) → data_ident h (emptied content) ≡ data_ident h content
data_ident-emptied None (Payload p) = refl
data_ident-emptied (Some h) (Payload p) = refl
data_ident-emptied h Empty = refl
data_ident-emptied h (Lifecycle x) = refl
data_ident-emptied h (Fault f) = refl

pub said-stripped : (r : List Fact) (now : ℕ) (m : Message) → said r now (stripped m) ≡ said r now m
said-stripped r now m =
    ap (λ ms. answered ms (acks_said r now (stripped m))) (responses-emptied r now m.addressing m.body)
    ∙ ap (λ (q : Option Text). answered (responses r now m.addressing m.body)
    (data_acks r now q ++ ask_acks r now (given_with (found_in r q) []) m.asks)) (data_ident-emptied m.sequence m.body)

-- nor does the answer with it
pub done-stripped : (r d : List Fact) (now : ℕ) (m : Message) → done_of r d now (stripped m) ≡ done_of r d now m
unfolding done_of
done-stripped r d now m =
    ap (λ (ms : List Message).
    let a : Answer = record { outcome = Done; delta = d; fetched = None; outs = ms; moves = urging r m } in a)
    (said-stripped (r ++ d) now m)

-- nor the fault of a message whose records don't fit the store
pub full-stripped : (m : Message) → full_of (stripped m) ≡ full_of m
unfolding full_of
full-stripped m = refl

-- the fault of a message whose records don't fit the store, as one word
pub full-is : (m : Message) → judged_as StoreFull (fault_of (refusal_of m StoreFull) None) ≡ full_of m
unfolding full_of
full-is m = refl
