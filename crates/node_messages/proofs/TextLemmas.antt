-- The polled address by what an identifier has, and actions as texts.
use Rattle.std.proofs.Common.{◌≡◌, ℕ, ◌+◌, ◌*◌, ◌^◌, List, ◌++◌, length, drop, refl, arith}
use Rattle.std.specs.Int.{w128, to_be_bytes}
use Rattle.uuid.specs.Text.{lower, hyphenated_text}
use Rattle.uuid.proofs.TextLemmas.{by_index_length}
use Rattle.rm_base.specs.Text.{IsText}
use Rattle.record_batch.specs.Sequences.IdentTexts.{marks-text}
use Rattle.record_batch.specs.Sequences.Idents.{issue, polled_address, polled_prefix, upper_half, lower_half}
use Rattle.rm_protocol.specs.Addresses.{rm_action}
use Rattle.node_messages.specs.declared.name.Name.{Name}
use Rattle.node_messages.specs.declared.name.Name.TheVariants as named
use Rattle.node_messages.specs.Names.{name_text}

-- what stands behind the front of an identifier stands behind the front of the polled address
pub polled-is : (n : ℕ) → polled_address n ≡ polled_prefix ++ drop 9 (issue n 0)
unfolding polled_address issue polled_prefix
polled-is n = refl

pub polled-length : (n : ℕ) → length (issue n 0) ≡ 45
unfolding issue
polled-length n =
    let long : length (hyphenated_text lower (to_be_bytes w128 (upper_half n * 2 ^ 64 + lower_half 0))) ≡ 36 =
    by_index_length 36 _ in
    omega (arith, long)

-- an identifier is short enough for an address
pub ident_text : (bs : List ℕ) → IsText 512 bs → IsText 2048 bs
ident_text bs is = record {
  some = is.some;
  within = omega (arith, is.within);
  characters = is.characters;
  trimmed = is.trimmed;
}

-- each action is a text
pub action_text : (n : Name) → IsText 2048 (rm_action (name_text n))
unfolding rm_action
action_text named.CreateSequence = marks-text 2048 _ (omega arith) (omega arith) refl
action_text named.CreateSequenceResponse = marks-text 2048 _ (omega arith) (omega arith) refl
action_text named.CloseSequence = marks-text 2048 _ (omega arith) (omega arith) refl
action_text named.CloseSequenceResponse = marks-text 2048 _ (omega arith) (omega arith) refl
action_text named.TerminateSequence = marks-text 2048 _ (omega arith) (omega arith) refl
action_text named.TerminateSequenceResponse = marks-text 2048 _ (omega arith) (omega arith) refl
action_text named.SequenceAcknowledgement = marks-text 2048 _ (omega arith) (omega arith) refl
action_text named.AckRequested = marks-text 2048 _ (omega arith) (omega arith) refl
