-- What a MakeConnection gets.
use Rattle.std.proofs.Common.{◌≡◌, ℕ, not, cond, Bool, true, false, List, [], ◌∷◌, ◌++◌, refl, sym, ap, ◌∙◌, subst}
use Rattle.std.proofs.Common.{append-nil}
use Rattle.std.specs.Prelude.{Some, Ok}
use Rattle.std.specs.List.{filter, flat_map}
use Rattle.rm_message.specs.declared.elements.lifecycle.Lifecycle.TheVariants as life
use Rattle.rm_message.specs.declared.message.Body.{Body}
use Rattle.rm_message.specs.declared.message.Body.TheVariants as body
use Rattle.rm_message.specs.declared.message.Message.{Message}
use Rattle.wsa_headers.specs.declared.addressing.Addressing.{Addressing}
use Rattle.record_batch.specs.Fact.{Fact}
use Rattle.record_batch.specs.Sequences.Words.{Text}
use Rattle.rm_protocol.specs.Addresses.{is_anonymous}
use Rattle.rm_protocol.specs.Calls.{judged}
use Rattle.rm_protocol.specs.Messages.{ack_message}
use Rattle.rm_protocol.specs.Replied.{TheReplyHasTheBlocks}
use Rattle.rm_protocol.specs.Rows.{rows}
use Rattle.rm_protocol.specs.Said.{Ack, acks_said, answered, back_blocks, back_message, own_messages, responses, said}
use Rattle.rm_protocol.specs.Said.{with_blocks}
use Rattle.rm_protocol.specs.Polls.{awaited, blocks_back, fetched_with, goes_back, polls}
use Rattle.rm_protocol.specs.Polls.{said_beside, selected_by}

abbrev stays : Message → Bool
stays m = not (goes_back m)

-- messages of their own don't go back
own-back : (acks : List Ack) → filter goes_back (own_messages acks) ≡ []
own-back [] = refl
own-back (ack ∷ acks) =
    elim (is_anonymous ack.0.address) as (λ b. is_anonymous ack.0.address ≡ b
    → filter goes_back (cond b (own_messages acks) (ack_message ack.0 (ack.1 ∷ []) ∷ own_messages acks)) ≡ []) [
      | true ↦ λ e. own-back acks
      | false ↦ λ e.
          ap (λ b. cond b (ack_message ack.0 (ack.1 ∷ []) ∷ filter goes_back (own_messages acks))
          (filter goes_back (own_messages acks))) e ∙ own-back acks
    ] refl

own-stay : (acks : List Ack) → filter stays (own_messages acks) ≡ own_messages acks
own-stay [] = refl
own-stay (ack ∷ acks) =
    elim (is_anonymous ack.0.address) as (λ b. is_anonymous ack.0.address ≡ b
    → filter stays (cond b (own_messages acks) (ack_message ack.0 (ack.1 ∷ []) ∷ own_messages acks))
    ≡ cond b (own_messages acks) (ack_message ack.0 (ack.1 ∷ []) ∷ own_messages acks)) [
      | true ↦ λ e. own-stay acks
      | false ↦ λ e.
          ap (λ b. cond (not b) (ack_message ack.0 (ack.1 ∷ []) ∷ filter stays (own_messages acks))
          (filter stays (own_messages acks))) e
          ∙ ap (λ z. ack_message ack.0 (ack.1 ∷ []) ∷ z) (own-stay acks)
    ] refl

-- of acknowledgements alone, the blocks that go back
back-blocks : (acks more : List Ack) → blocks_back (back_message acks ++ own_messages more) ≡ back_blocks acks
back-blocks [] more = ap (flat_map (λ (m : Message). m.acks)) (own-back more)
back-blocks (ack ∷ acks) more =
    elim (is_anonymous ack.0.address) as (λ b. is_anonymous ack.0.address ≡ b
    → blocks_back (cond b (ack_message ack.0 (ack.1 ∷ back_blocks acks) ∷ []) (back_message acks) ++ own_messages more)
    ≡ cond b (ack.1 ∷ back_blocks acks) (back_blocks acks)) [
      | true ↦ λ e.
          ap (λ b. flat_map (λ (m : Message). m.acks)
          (cond b (ack_message ack.0 (ack.1 ∷ back_blocks acks) ∷ filter goes_back (own_messages more))
          (filter goes_back (own_messages more)))) e
          ∙ ap (λ z. (ack.1 ∷ back_blocks acks) ++ flat_map (λ (m : Message). m.acks) z) (own-back more)
          ∙ append-nil (ack.1 ∷ back_blocks acks)
      | false ↦ λ e. back-blocks acks more
    ] refl

back-stay : (acks more : List Ack) → filter stays (back_message acks ++ own_messages more) ≡ own_messages more
back-stay [] more = own-stay more
back-stay (ack ∷ acks) more =
    elim (is_anonymous ack.0.address) as (λ b. is_anonymous ack.0.address ≡ b
    → filter stays (cond b (ack_message ack.0 (ack.1 ∷ back_blocks acks) ∷ []) (back_message acks) ++ own_messages more)
    ≡ own_messages more) [
      | true ↦ λ e.
          ap (λ b. cond (not b) (ack_message ack.0 (ack.1 ∷ back_blocks acks) ∷ filter stays (own_messages more))
          (filter stays (own_messages more))) e ∙ own-stay more
      | false ↦ λ e. back-stay acks more
    ] refl

-- there is no response to a message that selects an address
no-responses : (r : List Fact) (now : ℕ) (a : Addressing) (content : Body) (at : Text) → selected_by content ≡ Some at
    → responses r now a content ≡ []
no-responses r now a (body.Lifecycle (life.Make s)) at e = refl
no-responses r now a (body.Lifecycle (life.Create s)) at e = absurd (cc)
no-responses r now a (body.Lifecycle (life.Close s)) at e = absurd (cc)
no-responses r now a (body.Lifecycle (life.Terminate s)) at e = absurd (cc)
no-responses r now a _ at e = refl

pub reply-blocks : TheReplyHasTheBlocks
reply-blocks terms r place now y waits m at t v e f =
    subst (λ z.
    let answer = judged terms r now y m z in
    let acks = acks_said (r ++ answer.delta) now m in
    ((polls waits (Ok m) answer).fetched
    ≡ Some (record { address = t.address; message = with_blocks t.message (back_blocks acks) }))
    × ((polls waits (Ok m) answer).outs ≡ own_messages acks))
    (sym v) (
      ap (λ z. fetched_with z outs) which
          ∙ ap (λ z. Some (record { address = t.address; message = with_blocks t.message z }))
          (ap blocks_back plain ∙ back-blocks acks acks),
      ap (λ z. said_beside z outs) which ∙ ap (filter stays) plain ∙ back-stay acks acks,
    )
  where
    acks : List Ack
    acks = acks_said (r ++ rows terms now y m r) now m

    outs : List Message
    outs = said (r ++ rows terms now y m r) now m

    which : awaited waits (selected_by m.body) ≡ Some t
    which = ap (awaited waits) e ∙ f

    plain : outs ≡ back_message acks ++ own_messages acks
    plain = ap (λ z. answered z acks) (no-responses (r ++ rows terms now y m r) now m.addressing m.body at e)
