-- An answer is its parts.
use Rattle.std.proofs.Common.{◌≡◌, Bool, true, false, List, [], ◌∷◌, ◌++◌, cond, refl, ap, ◌∙◌}
use Rattle.rm_message.specs.declared.elements.header.AckBlock.{AckBlock}
use Rattle.rm_message.specs.declared.message.Message.{Message}
use Rattle.wsa_headers.specs.declared.endpoint.Epr.{Epr}
use Rattle.std.specs.Option.{option_or}
use Rattle.std.specs.Prelude.{Option, Some}
use Rattle.rm_protocol.specs.Addresses.{is_anonymous}
use Rattle.rm_protocol.specs.Messages.{ack_message}
use Rattle.rm_protocol.specs.Said.{Ack, answered, back_blocks, back_message, own_messages, with_blocks}
use Rattle.node_messages.specs.Split.{back_by, back_to, goes_back, with_back}

back-one : (b : Bool) (to : Epr) (block : AckBlock) (blocks : List AckBlock) (more : List Message) (other : Option Epr)
    → more ≡ back_by other blocks
    → cond b (ack_message to (block ∷ blocks) ∷ []) more
    ≡ back_by (cond b (Some to) other) (cond b (block ∷ blocks) blocks)
back-one true to block blocks more other e = refl
back-one false to block blocks more other e = e

-- the message that goes back is that to the first endpoint on the connection
pub back_message-parts : (acks : List Ack) → back_message acks ≡ back_by (back_to acks) (back_blocks acks)
back_message-parts [] = refl
back_message-parts (ack ∷ acks) =
    back-one (is_anonymous ack.0.address) ack.0 ack.1 (back_blocks acks) (back_message acks) (back_to acks)
    (back_message-parts acks)

with-one : (b : Bool) (m : Message) (ms own back : List Message) (blocks : List AckBlock) → b ≡ true
    → cond b (with_blocks m blocks ∷ ms ++ own) (back ++ (m ∷ ms ++ own)) ≡ with_blocks m blocks ∷ ms ++ own
with-one true m ms own back blocks e = refl
with-one false m ms own back blocks e = cc

without-one : (b : Bool) (m : Message) (ms own back : List Message) (blocks : List AckBlock) → b ≡ false
    → cond b (with_blocks m blocks ∷ ms ++ own) (back ++ (m ∷ ms ++ own)) ≡ back ++ (m ∷ ms ++ own)
without-one true m ms own back blocks e = cc
without-one false m ms own back blocks e = refl

-- where the first response goes back, it has the blocks
pub answered_back : (ms : List Message) (acks : List Ack) → goes_back ms ≡ true
    → answered ms acks ≡ with_back ms (back_blocks acks) ++ own_messages acks
answered_back [] acks e = cc
answered_back (m ∷ ms) acks e =
    with-one (is_anonymous m.addressing.to) m ms (own_messages acks) (back_message acks) (back_blocks acks) e

-- where it doesn't, they are a message of their own
pub answered_apart : (ms : List Message) (acks : List Ack) → goes_back ms ≡ false
    → answered ms acks ≡ back_by (back_to acks) (back_blocks acks) ++ (ms ++ own_messages acks)
answered_apart [] acks e = ap (λ back. back ++ own_messages acks) (back_message-parts acks)
answered_apart (m ∷ ms) acks e =
    without-one (is_anonymous m.addressing.to) m ms (own_messages acks) (back_message acks) (back_blocks acks) e
    ∙ ap (λ back. back ++ (m ∷ ms ++ own_messages acks)) (back_message-parts acks)

-- the parts of some acknowledgements, with those of what is left
pub record IsSplit (to : Option Epr) (back : List AckBlock) (own : List Message) (left all : List Ack) : Type 0 where
  pub to_ : option_or to (back_to left) ≡ back_to all
  pub back_ : back ++ back_blocks left ≡ back_blocks all
  pub own_ : own ++ own_messages left ≡ own_messages all
