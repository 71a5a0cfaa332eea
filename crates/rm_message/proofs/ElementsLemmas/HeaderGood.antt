-- Header blocks are nodes that may stand in a frame.
use Rattle.std.proofs.Common.{ℕ, Bool, true, false, List, [], ◌∷◌, refl, arith, codes}
use Rattle.std.specs.List.{AllByRecursion}
use Rattle.rm_base.specs.Text.{IsText}
use Rattle.rm_base.specs.declared.message.Binding.{Binding}
use Rattle.soap_writer.specs.Frame.{frame_scope}
use Rattle.soap_writer.specs.Plain.{chars_from}
use Rattle.soap_writer.specs.Nodes.Good.{IsTagGood, IsGood, AreGood}
use Rattle.soap_writer.specs.Nodes.Node.{tag_name, Node, Nodes, each_node}
use Rattle.wsa_headers.specs.TextLaws.{text_writable}
use Rattle.rm_sides.specs.declared.ranges.range.Range.{Range}
use Rattle.rm_message.specs.Elements.Texts.{tag_of, identifier_node, sequence_node, range_node, nack_node, final_nodes}
use Rattle.rm_message.specs.Elements.Texts.{kind_nodes, header_node}
use Rattle.rm_message.specs.Elements.Writable.{IsNumber, IsRange, IsSequenceWritable, IsKindWritable, IsHeaderWritable}
use Rattle.rm_message.specs.declared.elements.header.AckKind.{AckKind}
use Rattle.rm_message.specs.declared.elements.header.AckKind.TheVariants.{Ranges, Nothing, Nack}
use Rattle.rm_message.specs.declared.elements.header.Header.{Header}
use Rattle.rm_message.specs.declared.elements.header.Header.TheVariants as headers
use Rattle.rm_message.specs.declared.elements.header.SeqHeader.{SeqHeader}
use Rattle.rm_message.specs.declared.elements.tag.Tag.{Tag}
use Rattle.rm_message.specs.declared.elements.tag.Tag.TheVariants as tags
use Rattle.rm_message.proofs.ElementsLemmas.PlainTexts.{number_writable}

pub plain_tag : (soap : List ℕ) (t : Tag) → IsTagGood soap (frame_scope soap) (tag_of t) []
unfolding tag_name
plain_tag soap tags.Sequence = record { named = refl; each = tt; resolved = refl }
plain_tag soap tags.Identifier = record { named = refl; each = tt; resolved = refl }
plain_tag soap tags.MessageNumber = record { named = refl; each = tt; resolved = refl }
plain_tag soap tags.SequenceAcknowledgement = record { named = refl; each = tt; resolved = refl }
plain_tag soap tags.AcknowledgementRange = record { named = refl; each = tt; resolved = refl }
plain_tag soap tags.NoRange = record { named = refl; each = tt; resolved = refl }
plain_tag soap tags.Nack = record { named = refl; each = tt; resolved = refl }
plain_tag soap tags.Final = record { named = refl; each = tt; resolved = refl }
plain_tag soap tags.AckRequested = record { named = refl; each = tt; resolved = refl }
plain_tag soap tags.MessagePending = record { named = refl; each = tt; resolved = refl }
plain_tag soap tags.CreateSequence = record { named = refl; each = tt; resolved = refl }
plain_tag soap tags.CreateSequenceResponse = record { named = refl; each = tt; resolved = refl }
plain_tag soap tags.CloseSequence = record { named = refl; each = tt; resolved = refl }
plain_tag soap tags.CloseSequenceResponse = record { named = refl; each = tt; resolved = refl }
plain_tag soap tags.TerminateSequence = record { named = refl; each = tt; resolved = refl }
plain_tag soap tags.TerminateSequenceResponse = record { named = refl; each = tt; resolved = refl }
plain_tag soap tags.LastMsgNumber = record { named = refl; each = tt; resolved = refl }
plain_tag soap tags.AcksTo = record { named = refl; each = tt; resolved = refl }
plain_tag soap tags.Expires = record { named = refl; each = tt; resolved = refl }
plain_tag soap tags.Offer = record { named = refl; each = tt; resolved = refl }
plain_tag soap tags.Endpoint = record { named = refl; each = tt; resolved = refl }
plain_tag soap tags.IncompleteSequenceBehavior = record { named = refl; each = tt; resolved = refl }
plain_tag soap tags.Accept = record { named = refl; each = tt; resolved = refl }
plain_tag soap tags.MakeConnection = record { named = refl; each = tt; resolved = refl }
plain_tag soap tags.Address = record { named = refl; each = tt; resolved = refl }
plain_tag soap tags.Other = record { named = refl; each = tt; resolved = refl }

-- ---- header blocks

ident_good : (soap ident : List ℕ) → IsText 512 ident → IsGood soap 3 (frame_scope soap) (identifier_node ident)
ident_good soap ident is = (plain_tag soap tags.Identifier, omega arith, text_writable 512 ident is)

sequence_good : (soap : List ℕ) (x : SeqHeader) → IsSequenceWritable x
    → IsGood soap 2 (frame_scope soap) (sequence_node x)
unfolding tag_name
sequence_good soap x is = (
  record { named = refl; each = ((refl, chars_from (codes "true") refl), tt); resolved = refl },
  omega arith,
  (
    ident_good soap x.ident is.ident,
    ((plain_tag soap tags.MessageNumber, omega arith, number_writable x.number is.number), tt),
  ),
)

each_good : {A : Type 0} (soap : List ℕ) (depth : ℕ) (scope : List Binding) (f : A → Node) (xs : List A)
    (others : Nodes)
    → AllByRecursion (λ x. IsGood soap depth scope (f x)) xs → AreGood soap depth scope others
    → AreGood soap depth scope (each_node f xs others)
each_good soap depth scope f [] others all good = good
each_good soap depth scope f (x ∷ xs) others all good = (all.0, each_good soap depth scope f xs others all.1 good)

range_good : (soap : List ℕ) (x : Range) → IsRange x → IsGood soap 3 (frame_scope soap) (range_node x)
unfolding tag_name
range_good soap x is = (
  record {
    named = refl;
    each = ((refl, (number_writable x.lower is.lower).chars), ((refl, (number_writable x.upper is.upper).chars), tt));
    resolved = refl;
  },
  omega arith,
)

ranges_good : (soap : List ℕ) (xs : List Range) → AllByRecursion IsRange xs
    → AllByRecursion (λ x. IsGood soap 3 (frame_scope soap) (range_node x)) xs
ranges_good soap [] all = tt
ranges_good soap (x ∷ xs) all = (range_good soap x all.0, ranges_good soap xs all.1)

nacks_good : (soap : List ℕ) (xs : List ℕ) → AllByRecursion IsNumber xs
    → AllByRecursion (λ n. IsGood soap 3 (frame_scope soap) (nack_node n)) xs
nacks_good soap [] all = tt
nacks_good soap (n ∷ xs) all =
    ((plain_tag soap tags.Nack, omega arith, number_writable n all.0), nacks_good soap xs all.1)

final_good : (soap : List ℕ) (last : Bool) → AreGood soap 3 (frame_scope soap) (final_nodes last)
final_good soap true = ((plain_tag soap tags.Final, omega arith), tt)
final_good soap false = tt

kind_good : (soap : List ℕ) (kind : AckKind) (last : Bool) → IsKindWritable kind last
    → AreGood soap 3 (frame_scope soap) (kind_nodes kind (final_nodes last))
kind_good soap (Ranges xs) last is =
    each_good soap 3 (frame_scope soap) range_node xs (final_nodes last) (ranges_good soap xs is.1)
    (final_good soap last)
kind_good soap Nothing last is = ((plain_tag soap tags.NoRange, omega arith), final_good soap last)
kind_good soap (Nack xs) last is =
    each_good soap 3 (frame_scope soap) nack_node xs (final_nodes last) (nacks_good soap xs is.1) (final_good soap last)

pending_good : (soap : List ℕ) (pending : Bool)
    → IsGood soap 2 (frame_scope soap) (header_node (headers.Pending pending))
unfolding tag_name
pending_good soap true =
    (record { named = refl; each = ((refl, chars_from (codes "true") refl), tt); resolved = refl }, omega arith)
pending_good soap false =
    (record { named = refl; each = ((refl, chars_from (codes "false") refl), tt); resolved = refl }, omega arith)

pub header_good : (soap : List ℕ) (h : Header) → IsHeaderWritable h → IsGood soap 2 (frame_scope soap) (header_node h)
header_good soap (headers.Sequence x) is = sequence_good soap x is
header_good soap (headers.Ack x) is = (
  plain_tag soap tags.SequenceAcknowledgement,
  omega arith,
  (ident_good soap x.ident is.ident, kind_good soap x.kind x.last is.kind),
)
header_good soap (headers.Ask ident) is =
    (plain_tag soap tags.AckRequested, omega arith, (ident_good soap ident is, tt))
header_good soap (headers.Pending pending) is = pending_good soap pending
