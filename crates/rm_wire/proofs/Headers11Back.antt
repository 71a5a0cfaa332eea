-- The block that goes ahead of a fault in SOAP 1.1 is read back, and stands last as others may.
use Rattle.std.proofs.Common.{◌≡◌, ℕ, Bool, true, false, not, if◌then◌else◌, List, [], ◌∷◌, ◌++◌, Option, Some, None}
use Rattle.std.proofs.Common.{codes, map, refl, ◌∙◌}
use Rattle.std.specs.List.{AllByRecursion, filter}
use Rattle.soap_document.specs.Profile.Tree.{Element}
use Rattle.soap_document.specs.declared.profile.name.Expanded.{Expanded}
use Rattle.soap_writer.specs.Nodes.Node.{node_tree}
use Rattle.wsa_headers.specs.Writable.{IsAddressingBlock, IsForeign}
use Rattle.rm_message.specs.Elements.Outcome.{rm, mc}
use Rattle.rm_message.specs.declared.message.Body.{Body}
use Rattle.rm_message.specs.declared.message.Body.TheVariants as body
use Rattle.rm_message.specs.declared.message.Message.{Message}
use Rattle.message_reader.specs.Blocks.{is_block, blocks, is_understood, is_own, is_not_understood}
use Rattle.message_reader.specs.Blocks.{sequence_fault_name}
use Rattle.message_reader.specs.Headers.{sequence_name}
use Rattle.message_writer.specs.Faults11.{ahead_nodes, goes_ahead, sequence_fault_node}
use Rattle.message_writer.specs.Text11.{ahead_of}
use Rattle.rm_wire.proofs.Blocks.{others, addressing_passed, third_not}
use Rattle.rm_wire.proofs.HeadersBack.{MayBeLast, lasts}

-- its tree, if there is one
abbrev pub ahead_trees : List ℕ → Body → List Element
ahead_trees soap b = map (node_tree soap) (ahead_of b)

-- what holds of none and of each SequenceFault holds of it
ahead_at : (P : List Element → Type 0) (soap : List ℕ) → P []
    → ((local : List ℕ) (detail : List Element) → P (node_tree soap (sequence_fault_node local detail) ∷ []))
    → (name : Expanded) (detail : List Element) (t : Bool)
    → P (map (node_tree soap) (if t then sequence_fault_node name.local detail ∷ [] else []))
ahead_at P soap none one name detail true = one name.local detail
ahead_at P soap none one name detail false = none

ahead_by : (P : List Element → Type 0) (soap : List ℕ) → P []
    → ((local : List ℕ) (detail : List Element) → P (node_tree soap (sequence_fault_node local detail) ∷ []))
    → (subcode : Option Expanded) (detail : List Element) → P (map (node_tree soap) (ahead_nodes subcode detail))
ahead_by P soap none one None detail = none
ahead_by P soap none one (Some name) detail = ahead_at P soap none one name detail (goes_ahead name)

ahead_so : (P : List Element → Type 0) (soap : List ℕ) → P []
    → ((local : List ℕ) (detail : List Element) → P (node_tree soap (sequence_fault_node local detail) ∷ []))
    → (b : Body) → P (ahead_trees soap b)
ahead_so P soap none one body.Empty = none
ahead_so P soap none one (body.Payload x) = none
ahead_so P soap none one (body.Lifecycle x) = none
ahead_so P soap none one (body.Fault f) = ahead_by P soap none one f.subcode f.detail

-- a SequenceFault is understood
fault_understood : (soap local : List ℕ) (detail : List Element)
    → filter (is_not_understood soap) (node_tree soap (sequence_fault_node local detail) ∷ []) ≡ []
fault_understood soap local detail =
    let fails : is_not_understood soap (node_tree soap (sequence_fault_node local detail)) ≡ false =
    third_not true (not (is_understood soap sequence_fault_name)) (is_own soap None) in
    rw fails refl

pub ahead_last : (soap : List ℕ) (b : Body) → MayBeLast soap (ahead_trees soap b)
ahead_last soap b = record {
  sequence = ahead_so (λ es. blocks sequence_name es ≡ []) soap refl (λ l d. refl) b;
  acks = ahead_so (λ es. blocks (rm (codes "SequenceAcknowledgement")) es ≡ []) soap refl (λ l d. refl) b;
  asks = ahead_so (λ es. blocks (rm (codes "AckRequested")) es ≡ []) soap refl (λ l d. refl) b;
  pending = ahead_so (λ es. blocks (mc (codes "MessagePending")) es ≡ []) soap refl (λ l d. refl) b;
  understood = ahead_so (λ es. filter (is_not_understood soap) es ≡ []) soap refl (fault_understood soap) b;
  foreign = ahead_so (λ es. AllByRecursion IsForeign es) soap tt (λ l d. (record { unmarked = refl; space = refl }, tt))
      b;
}

-- the SequenceFault
pub faults : (soap mark : List ℕ) (m : Message) (bs : List Element) → AllByRecursion IsAddressingBlock bs
    → blocks sequence_fault_name (bs ++ others soap mark m (ahead_trees soap m.body)) ≡ ahead_trees soap m.body
faults soap mark m bs own =
    lasts soap mark m (ahead_trees soap m.body) (is_block sequence_fault_name) bs
    (addressing_passed sequence_fault_name refl bs own) (λ x. refl) (λ x. refl) (λ x. refl) (λ x. refl)
    ∙ ahead_so (λ es. blocks sequence_fault_name es ≡ es) soap refl (λ l d. refl) m.body
