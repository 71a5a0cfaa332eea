-- The fault of a refusal keeps the rules of what is written.
use Rattle.std.proofs.Common.{◌≡◌, ◌≢◌, ◌≤◌, ℕ, Bool, true, false, List, [], ◌∷◌, ◌++◌, Option}
use Rattle.std.proofs.Common.{Some, None, IfSome, codes, refl, sym, ◌∙◌, arith}
use Rattle.std.specs.Prelude.{IsSome, option_map, decimal}
use Rattle.std.specs.List.{AllByRecursion}
use Rattle.std.specs.Option.{option_to_list}
use Rattle.std.specs.Str.{bytes_eq}
use Rattle.std.proofs.lemmas.Bool.{true≢false}
use Rattle.rm_base.specs.Text.{IsText}
use Rattle.soap_lex.specs.Characters.{IsChars}
use Rattle.soap_lex.specs.Facts.{equal}
use Rattle.soap_document.specs.Profile.Namespaces.{xmlns_space}
use Rattle.soap_document.specs.Profile.Payload.{depth}
use Rattle.soap_envelope.specs.Soap.{soap_space}
use Rattle.soap_document.specs.Profile.Tree.{Element, Parts}
use Rattle.soap_document.specs.declared.profile.name.Expanded.{Expanded}
use Rattle.soap_writer.specs.Frame.{frame_scope}
use Rattle.soap_writer.specs.Plain.{is_plain_name, is_plain_text, name_from, chars_from}
use Rattle.soap_writer.specs.Writable.{IsNameWritable, IsAttrWritable, IsTagWritable, IsWritable}
use Rattle.soap_writer.specs.Writable.{ArePartsWritable}
use Rattle.soap_writer.specs.Nodes.Good.{IsGood, AreGood}
use Rattle.soap_writer.specs.Nodes.Node.{Nodes, each_node, node_tree, nodes_tree}
use Rattle.soap_writer.specs.Values.TextLaws.{literal_is_text}
use Rattle.soap_writer.specs.Values.Values.{trimmed}
use Rattle.wsa_headers.specs.TextLaws.{text_writable}
use Rattle.wsa_headers.specs.Writable.{IsParamWritable}
use Rattle.rm_sides.specs.declared.ranges.range.Range.{Range}
use Rattle.rm_message.specs.Elements.Outcome.{rm}
use Rattle.rm_message.specs.Elements.Texts.{range_node, nack_node, final_nodes, kind_nodes}
use Rattle.rm_message.specs.Elements.Texts.{header_node}
use Rattle.rm_message.specs.Elements.Writable.{IsAckWritable, IsHeaderWritable}
use Rattle.rm_message.specs.declared.elements.header.AckBlock.{AckBlock}
use Rattle.rm_message.specs.declared.elements.header.AckKind.{AckKind}
use Rattle.rm_message.specs.declared.elements.header.AckKind.TheVariants.{Ranges, Nothing, Nack}
use Rattle.rm_message.specs.declared.elements.header.Header.{Header}
use Rattle.rm_message.specs.declared.elements.header.Header.TheVariants as headers
use Rattle.rm_message.specs.declared.message.FaultCode.{FaultCode}
use Rattle.rm_message.specs.declared.refusal.FaultKind.{FaultKind}
use Rattle.rm_message.specs.declared.refusal.FaultKind.TheVariants as kinds
use Rattle.rm_message.specs.declared.refusal.Refusal.{Refusal}
use Rattle.message_writer.specs.Faults.{Row, plain, with_subcode, with_inner, table, fault_action, space_of, named}
use Rattle.message_writer.specs.Faults.{ident_element, max_element, ack_element, detail_of, acks_of, names_of}
use Rattle.message_writer.specs.Faults.{fault_of}
use Rattle.message_writer.specs.Rules.{IsSubcodeWritable, IsDetailWritable, KeepsRules}
use Rattle.message_writer.specs.declared.table.Vocabulary.{Vocabulary}
use Rattle.message_writer.specs.declared.table.Vocabulary.TheVariants.{OfSoap, OfAddressing, OfMessaging, OfConnection}
use Rattle.rm_wire.specs.Writable.{IsRefusalWritable}

-- what is known of header blocks
abbrev pub KnowsHeaders : Type 0
KnowsHeaders = (soap : List ℕ) (h : Header) → IsHeaderWritable h → IsGood soap 2 (frame_scope soap) (header_node h)

-- ---- names

no_xmlns : (whose : Vocabulary) → space_of whose ≢ xmlns_space
no_xmlns OfSoap e = true≢false (sym (equal (space_of OfSoap) xmlns_space e))
no_xmlns OfAddressing e = true≢false (sym (equal (space_of OfAddressing) xmlns_space e))
no_xmlns OfMessaging e = true≢false (sym (equal (space_of OfMessaging) xmlns_space e))
no_xmlns OfConnection e = true≢false (sym (equal (space_of OfConnection) xmlns_space e))

space_chars : (whose : Vocabulary) → IsChars (space_of whose)
space_chars OfSoap = chars_from (space_of OfSoap) refl
space_chars OfAddressing = chars_from (space_of OfAddressing) refl
space_chars OfMessaging = chars_from (space_of OfMessaging) refl
space_chars OfConnection = chars_from (space_of OfConnection) refl

space_some : (whose : Vocabulary) → space_of whose ≢ []
space_some OfSoap e = cc
space_some OfAddressing e = cc
space_some OfMessaging e = cc
space_some OfConnection e = cc

name_writable : (whose : Vocabulary) (local : List ℕ) → is_plain_name local ≡ true → IsNameWritable (named whose local)
name_writable whose local is =
    record { local = name_from local is; space = space_chars whose; no_xmlns = no_xmlns whose }

subcode_writable : (whose : Vocabulary) (local : List ℕ) → is_plain_name local ≡ true
    → IsSubcodeWritable (named whose local)
subcode_writable whose local is = record { writable = name_writable whose local is; spaced = space_some whose }

-- ---- the table

-- what a row gives to a fault
record IsRowWritable (x : Row) : Type 0 where
  subcode : IfSome (option_map (named x.whose) x.subcode) IsSubcodeWritable
  inner : IfSome (option_map (named x.whose) x.inner) IsSubcodeWritable
  within : IsSome (option_map (named x.whose) x.inner) → IsSome (option_map (named x.whose) x.subcode)
  reason : IsChars x.reason
  ends : trimmed x.reason ≡ x.reason

plain_row : (reason : List ℕ) (code : FaultCode) → is_plain_text reason ≡ true → trimmed reason ≡ reason
    → IsRowWritable (plain reason code)
plain_row reason code is ends =
    record { subcode = tt; inner = tt; within = λ e. e; reason = chars_from reason is; ends = ends }

row_with : (reason : List ℕ) (code : FaultCode) (whose : Vocabulary) (local : List ℕ) → is_plain_text reason ≡ true
    → trimmed reason ≡ reason → is_plain_name local ≡ true → IsRowWritable (with_subcode reason code whose local)
row_with reason code whose local is ends name = record {
  subcode = subcode_writable whose local name;
  inner = tt;
  within = λ e. refl;
  reason = chars_from reason is;
  ends = ends;
}

row_within : (reason : List ℕ) (code : FaultCode) (whose : Vocabulary) (local inner : List ℕ)
    → is_plain_text reason ≡ true → trimmed reason ≡ reason → is_plain_name local ≡ true → is_plain_name inner ≡ true
    → IsRowWritable (with_inner reason code whose local inner)
row_within reason code whose local inner is ends name within = record {
  subcode = subcode_writable whose local name;
  inner = subcode_writable whose inner within;
  within = λ e. refl;
  reason = chars_from reason is;
  ends = ends;
}

row_writable : (kind : FaultKind) → IsRowWritable (table kind)
row_writable kinds.TooLong = plain_row (codes "TooLong") (table kinds.TooLong).code refl refl
row_writable kinds.NotUtf8 = plain_row (codes "NotUtf8") (table kinds.NotUtf8).code refl refl
row_writable kinds.NotProfile = plain_row (codes "NotProfile") (table kinds.NotProfile).code refl refl
row_writable kinds.WrongVersion = plain_row (codes "WrongVersion") (table kinds.WrongVersion).code refl refl
row_writable kinds.NotEnvelope = plain_row (codes "NotEnvelope") (table kinds.NotEnvelope).code refl refl
row_writable kinds.NotUnderstood = plain_row (codes "NotUnderstood") (table kinds.NotUnderstood).code refl refl
row_writable kinds.Cardinality =
    row_within (codes "Cardinality") (table kinds.Cardinality).code OfAddressing (codes "InvalidAddressingHeader")
    (codes "InvalidCardinality") refl refl refl refl
row_writable kinds.HeaderMissing =
    row_with (codes "HeaderMissing") (table kinds.HeaderMissing).code OfAddressing
    (codes "MessageAddressingHeaderRequired") refl refl refl
row_writable kinds.BadHeader =
    row_with (codes "BadHeader") (table kinds.BadHeader).code OfAddressing
    (codes "InvalidAddressingHeader") refl refl refl
row_writable kinds.Malformed = plain_row (codes "Malformed") (table kinds.Malformed).code refl refl
row_writable kinds.Rollover =
    row_with (codes "Rollover") (table kinds.Rollover).code OfMessaging
    (codes "MessageNumberRollover") refl refl refl
row_writable kinds.WsrmRequired =
    row_with (codes "WsrmRequired") (table kinds.WsrmRequired).code OfMessaging
    (codes "WSRMRequired") refl refl refl
row_writable kinds.UnknownSequence =
    row_with (codes "UnknownSequence") (table kinds.UnknownSequence).code OfMessaging
    (codes "UnknownSequence") refl refl refl
row_writable kinds.SequenceTerminated =
    row_with (codes "SequenceTerminated") (table kinds.SequenceTerminated).code OfMessaging
    (codes "SequenceTerminated") refl refl refl
row_writable kinds.SequenceClosed =
    row_with (codes "SequenceClosed") (table kinds.SequenceClosed).code OfMessaging
    (codes "SequenceClosed") refl refl refl
row_writable kinds.InvalidAcknowledgement =
    row_with (codes "InvalidAcknowledgement") (table kinds.InvalidAcknowledgement).code OfMessaging
    (codes "InvalidAcknowledgement") refl refl refl
row_writable kinds.CreateSequenceRefused =
    row_with (codes "CreateSequenceRefused") (table kinds.CreateSequenceRefused).code OfMessaging
    (codes "CreateSequenceRefused") refl refl refl
row_writable kinds.MissingSelection =
    row_with (codes "MissingSelection") (table kinds.MissingSelection).code OfConnection
    (codes "MissingSelection") refl refl refl
row_writable kinds.UnsupportedSelection =
    row_with (codes "UnsupportedSelection") (table kinds.UnsupportedSelection).code OfConnection
    (codes "UnsupportedSelection") refl refl refl
row_writable kinds.StoreFull = plain_row (codes "StoreFull") (table kinds.StoreFull).code refl refl

-- ---- what goes with a fault

-- a tag without attributes
tag_writable : (local : List ℕ) → is_plain_name local ≡ true → IsTagWritable (rm local) [] []
tag_writable local is = record {
  named = name_writable OfMessaging local is;
  no_decls = refl;
  each = tt;
  distinct = refl;
  counted = omega arith;
}

-- an attribute in no namespace
attr_writable : (local value : List ℕ) → is_plain_name local ≡ true → bytes_eq local (codes "xmlns") ≡ false
    → IsChars value
    → IsAttrWritable (record { name = record { space = []; local = local }; value = value })
attr_writable local value is other chars = record {
  name = record {
    local = name_from local is;
    space = chars_from [] refl;
    no_xmlns = λ e. true≢false (sym (equal [] xmlns_space e));
  };
  value = chars;
  no_declaration = λ e same. true≢false (sym (equal local (codes "xmlns") same) ∙ other);
}

ident_writable : (ident : List ℕ) → IsText 512 ident → IsWritable (ident_element ident)
ident_writable ident is = (tag_writable (codes "Identifier") refl, (text_writable 512 ident is, tt, tt))

ident_detail : (ident : List ℕ) → IsText 512 ident → IsDetailWritable (ident_element ident)
ident_detail ident is = record { writable = ident_writable ident is; shallow = omega arith }

max_detail : IsDetailWritable max_element
max_detail = record {
  writable = (
    tag_writable (codes "MaxMessageNumber") refl,
    (record { some = λ e. cc; chars = chars_from (codes "9223372036854775807") refl }, tt, tt),
  );
  shallow = omega arith;
}

-- bounds of a range, and numbers that are missing
range_writable : (x : Range) → IsChars (decimal x.lower) → IsChars (decimal x.upper)
    → IsWritable (node_tree soap_space (range_node x))
range_writable x lower upper = (
  record {
    named = name_writable OfMessaging (codes "AcknowledgementRange") refl;
    no_decls = refl;
    each = (
      attr_writable (codes "Lower") (decimal x.lower) refl refl lower,
      (attr_writable (codes "Upper") (decimal x.upper) refl refl upper, tt),
    );
    distinct = refl;
    counted = omega arith;
  },
  tt,
)

-- parts that may stand in a SequenceAcknowledgement
record IsInner (parts : Parts) : Type 0 where
  writable : ArePartsWritable parts
  low : depth parts ≤ 1

final_inner : (last : Bool) → IsInner (nodes_tree soap_space (final_nodes last))
final_inner true = record { writable = ((tag_writable (codes "Final") refl, tt), tt); low = omega arith }
final_inner false = record { writable = tt; low = omega arith }

ranges_inner : (xs : List Range) (others : Nodes) → IsInner (nodes_tree soap_space others)
    → AreGood soap_space 3 (frame_scope soap_space) (each_node range_node xs others)
    → IsInner (nodes_tree soap_space (each_node range_node xs others))
ranges_inner [] others is good = is
ranges_inner (x ∷ xs) others is good =
    let more_of = ranges_inner xs others is good.1 in
    let notes = good.0.0.each in
    record {
      writable = (range_writable x notes.0.1 notes.1.0.1, more_of.writable);
      low = omega (arith, more_of.low);
    }

nacks_inner : (xs : List ℕ) (others : Nodes) → IsInner (nodes_tree soap_space others)
    → AreGood soap_space 3 (frame_scope soap_space) (each_node nack_node xs others)
    → IsInner (nodes_tree soap_space (each_node nack_node xs others))
nacks_inner [] others is good = is
nacks_inner (x ∷ xs) others is good =
    let more_of = nacks_inner xs others is good.1 in
    record {
      writable = ((tag_writable (codes "Nack") refl, (good.0.2, tt, tt)), more_of.writable);
      low = omega (arith, more_of.low);
    }

kind_inner : (kind : AckKind) (last : Bool)
    → AreGood soap_space 3 (frame_scope soap_space) (kind_nodes kind (final_nodes last))
    → IsInner (nodes_tree soap_space (kind_nodes kind (final_nodes last)))
kind_inner (Ranges xs) last good = ranges_inner xs (final_nodes last) (final_inner last) good
kind_inner (Nack xs) last good = nacks_inner xs (final_nodes last) (final_inner last) good
kind_inner Nothing last good =
    let final = final_inner last in
    record { writable = ((tag_writable (codes "None") refl, tt), final.writable); low = omega (arith, final.low) }

ack_detail : KnowsHeaders → (x : AckBlock) → IsAckWritable x → IsDetailWritable (ack_element x)
ack_detail known x is =
    let good = known soap_space (headers.Ack x) is in
    let inner = kind_inner x.kind x.last good.2.1 in
    record {
      writable = (
        tag_writable (codes "SequenceAcknowledgement") refl,
        (ident_writable x.ident is.ident, inner.writable),
      );
      shallow = omega (arith, inner.low);
    }

-- ---- Detail, acknowledgements and names, by kind

ident_details : (ident : Option (List ℕ)) → IfSome ident (IsText 512)
    → AllByRecursion IsDetailWritable (option_to_list (option_map ident_element ident))
ident_details None is = tt
ident_details (Some ident) is = (ident_detail ident is, tt)

rollover_details : (ident : Option (List ℕ)) → IfSome ident (IsText 512)
    → AllByRecursion IsDetailWritable (option_to_list (option_map ident_element ident) ++ max_element ∷ [])
rollover_details None is = (max_detail, tt)
rollover_details (Some ident) is = (ident_detail ident is, (max_detail, tt))

ack_details : KnowsHeaders → (block : Option AckBlock) → IfSome block IsAckWritable
    → AllByRecursion IsDetailWritable (option_to_list (option_map ack_element block))
ack_details known None is = tt
ack_details known (Some block) is = (ack_detail known block is, tt)

one_ack : (block : Option AckBlock) → IfSome block IsAckWritable → AllByRecursion IsAckWritable (option_to_list block)
one_ack None is = tt
one_ack (Some block) is = (is, tt)

details_writable : KnowsHeaders → (kind : FaultKind) (ident : Option (List ℕ)) (block : Option AckBlock)
    → IfSome ident (IsText 512) → IfSome block IsAckWritable
    → AllByRecursion IsDetailWritable (detail_of kind ident block)
details_writable known kinds.TooLong ident block is ack = tt
details_writable known kinds.NotUtf8 ident block is ack = tt
details_writable known kinds.NotProfile ident block is ack = tt
details_writable known kinds.WrongVersion ident block is ack = tt
details_writable known kinds.NotEnvelope ident block is ack = tt
details_writable known kinds.NotUnderstood ident block is ack = tt
details_writable known kinds.Cardinality ident block is ack = tt
details_writable known kinds.HeaderMissing ident block is ack = tt
details_writable known kinds.BadHeader ident block is ack = tt
details_writable known kinds.Malformed ident block is ack = tt
details_writable known kinds.Rollover ident block is ack = rollover_details ident is
details_writable known kinds.WsrmRequired ident block is ack = tt
details_writable known kinds.UnknownSequence ident block is ack = ident_details ident is
details_writable known kinds.SequenceTerminated ident block is ack = ident_details ident is
details_writable known kinds.SequenceClosed ident block is ack = ident_details ident is
details_writable known kinds.InvalidAcknowledgement ident block is ack = ack_details known block ack
details_writable known kinds.CreateSequenceRefused ident block is ack = tt
details_writable known kinds.MissingSelection ident block is ack = tt
details_writable known kinds.UnsupportedSelection ident block is ack = tt
details_writable known kinds.StoreFull ident block is ack = tt

acks_writable : (kind : FaultKind) (block : Option AckBlock) → IfSome block IsAckWritable
    → AllByRecursion IsAckWritable (acks_of kind block)
acks_writable kinds.TooLong block ack = tt
acks_writable kinds.NotUtf8 block ack = tt
acks_writable kinds.NotProfile block ack = tt
acks_writable kinds.WrongVersion block ack = tt
acks_writable kinds.NotEnvelope block ack = tt
acks_writable kinds.NotUnderstood block ack = tt
acks_writable kinds.Cardinality block ack = tt
acks_writable kinds.HeaderMissing block ack = tt
acks_writable kinds.BadHeader block ack = tt
acks_writable kinds.Malformed block ack = tt
acks_writable kinds.Rollover block ack = tt
acks_writable kinds.WsrmRequired block ack = tt
acks_writable kinds.UnknownSequence block ack = tt
acks_writable kinds.SequenceTerminated block ack = tt
acks_writable kinds.SequenceClosed block ack = one_ack block ack
acks_writable kinds.InvalidAcknowledgement block ack = tt
acks_writable kinds.CreateSequenceRefused block ack = tt
acks_writable kinds.MissingSelection block ack = tt
acks_writable kinds.UnsupportedSelection block ack = tt
acks_writable kinds.StoreFull block ack = tt

names_writable : (kind : FaultKind) (names : List Expanded) → AllByRecursion IsNameWritable names
    → AllByRecursion IsNameWritable (names_of kind names)
names_writable kinds.TooLong names all = tt
names_writable kinds.NotUtf8 names all = tt
names_writable kinds.NotProfile names all = tt
names_writable kinds.WrongVersion names all = tt
names_writable kinds.NotEnvelope names all = tt
names_writable kinds.NotUnderstood names all = all
names_writable kinds.Cardinality names all = tt
names_writable kinds.HeaderMissing names all = tt
names_writable kinds.BadHeader names all = tt
names_writable kinds.Malformed names all = tt
names_writable kinds.Rollover names all = tt
names_writable kinds.WsrmRequired names all = tt
names_writable kinds.UnknownSequence names all = tt
names_writable kinds.SequenceTerminated names all = tt
names_writable kinds.SequenceClosed names all = tt
names_writable kinds.InvalidAcknowledgement names all = tt
names_writable kinds.CreateSequenceRefused names all = tt
names_writable kinds.MissingSelection names all = tt
names_writable kinds.UnsupportedSelection names all = tt
names_writable kinds.StoreFull names all = tt

-- ---- the message

action_text : (whose : Vocabulary) → IsText 2048 (fault_action whose)
action_text OfSoap = literal_is_text 2048 (fault_action OfSoap) refl refl refl refl refl refl
action_text OfAddressing = literal_is_text 2048 (fault_action OfAddressing) refl refl refl refl refl refl
action_text OfMessaging = literal_is_text 2048 (fault_action OfMessaging) refl refl refl refl refl refl
action_text OfConnection = literal_is_text 2048 (fault_action OfConnection) refl refl refl refl refl refl

params_higher : (es : List Element) → AllByRecursion (IsParamWritable 90) es → AllByRecursion (IsParamWritable 98) es
params_higher [] all = tt
params_higher (e ∷ es) all = (
  record { writable = all.0.writable; unmarked = all.0.unmarked; shallow = omega (arith, all.0.shallow) },
  params_higher es all.1,
)

pub fault_keeps : KnowsHeaders → (soap : List ℕ) (refusal : Refusal) (block : Option AckBlock)
    → IsRefusalWritable refusal block → KeepsRules soap (fault_of refusal block)
fault_keeps known soap refusal block is =
    let row = row_writable refusal.kind in
    record {
      addressing = record {
        to = is.endpoint.address;
        action = action_text (table refusal.kind).whose;
        message_id = tt;
        relates = is.relates;
        reply_to = tt;
        fault_to = tt;
        each = params_higher refusal.endpoint.params is.endpoint.each;
      };
      sequence = tt;
      acks = acks_writable refusal.kind block is.block;
      asks = tt;
      not_understood = names_writable refusal.kind refusal.names is.names;
      body = record {
        subcode = row.subcode;
        inner = row.inner;
        within = row.within;
        reason = row.reason;
        ends = row.ends;
        detail = details_writable known refusal.kind refusal.ident block is.ident is.block;
      };
      together = refl;
    }
