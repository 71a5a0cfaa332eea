-- The text of a message is an envelope, by the laws of what stands in it.
use Rattle.std.proofs.Common.{◌≡◌, ◌≤◌, ◌+◌, ℕ, Bool, List, [], ◌∷◌, ◌++◌, Option, Some, None, IfSome, map, refl, ap}
use Rattle.std.proofs.Common.{codes, subst, arith}
use Rattle.std.specs.Prelude.{option_map}
use Rattle.std.specs.List.{AllByRecursion}
use Rattle.std.specs.Option.{option_to_list}
use Rattle.std.proofs.lemmas.List.{append-nil}
use Rattle.std.proofs.lemmas.List.Folds.{flat_map-map}
use Rattle.rm_base.specs.Text.{IsText}
use Rattle.rm_base.specs.declared.message.Binding.{Binding}
use Rattle.soap_document.specs.Grammar.{max_depth}
use Rattle.soap_document.specs.Profile.Namespaces.{bound}
use Rattle.soap_document.specs.Profile.Payload.{IsClosedContent}
use Rattle.soap_document.specs.Profile.Tree.{Element, Parts, none, child}
use Rattle.soap_document.specs.declared.profile.name.Expanded.{Expanded}
use Rattle.soap_envelope.specs.Envelope.{IsEnvelope}
use Rattle.soap_writer.specs.Frame.{frame_scope}
use Rattle.soap_writer.specs.ReadBack.{ReadsAs, ContentReadsAs}
use Rattle.soap_writer.specs.Writable.{IsNameWritable}
use Rattle.soap_envelope.specs.Frame.Framed.{Block, IsBlock, MayBeSoap, bytes_of, trees_of, framed_text}
use Rattle.soap_envelope.specs.Frame.Framed.{framed_envelope}
use Rattle.soap_writer.specs.Nodes.Good.{IsGood, AreGood}
use Rattle.soap_writer.specs.Nodes.Node.{Node, Nodes, nothing, words, more, node_text, node_tree}
use Rattle.wsa_headers.specs.Texts.{addressing_nodes}
use Rattle.wsa_headers.specs.Writable.{IsAddressingWritable}
use Rattle.wsa_headers.specs.declared.addressing.Addressing.{Addressing}
use Rattle.rm_message.specs.Elements.Texts.{header_node, sequence_node, ack_node, ask_node, pending_node}
use Rattle.rm_message.specs.Elements.Texts.{lifecycle_node}
use Rattle.rm_message.specs.Elements.Writable.{IsHeaderWritable, IsSequenceWritable, IsAckWritable, IsLifecycleWritable}
use Rattle.rm_message.specs.declared.elements.header.AckBlock.{AckBlock}
use Rattle.rm_message.specs.declared.elements.header.Header.{Header}
use Rattle.rm_message.specs.declared.elements.header.Header.TheVariants as headers
use Rattle.rm_message.specs.declared.elements.header.SeqHeader.{SeqHeader}
use Rattle.rm_message.specs.declared.elements.lifecycle.Lifecycle.{Lifecycle}
use Rattle.rm_message.specs.declared.message.Body.{Body}
use Rattle.rm_message.specs.declared.message.Body.TheVariants as body
use Rattle.rm_message.specs.declared.message.Message.{Message}
use Rattle.message_writer.specs.Rules.{IsBodyWritable, body_parts, KeepsRules, message_envelope}
use Rattle.message_writer.specs.Rules.{HeaderKeepsRules, header_rules, block_of, written_blocks, header_trees}
use Rattle.message_writer.specs.Text.{node_list, not_understood_node, header_blocks, blocks_text, body_text}
use Rattle.message_writer.specs.Text.{message_text, fault_node}
use Rattle.message_writer.specs.Text11.{sequence_marked, blocks_with}
use Rattle.message_writer.proofs.GoodNodes.{not_understood_good, fault_good}

-- what is known of blocks, bodies and frames
pub record Known : Type 0 where
  pub addressing : (soap : List ℕ) (a : Addressing) → IsAddressingWritable a
      → AreGood soap 2 (frame_scope soap) (addressing_nodes a)
  pub header : (soap : List ℕ) (h : Header) → IsHeaderWritable h → IsGood soap 2 (frame_scope soap) (header_node h)
  pub lifecycle : (soap : List ℕ) (x : Lifecycle) → IsLifecycleWritable x
      → IsGood soap 2 (frame_scope soap) (lifecycle_node x)
  pub node : (soap : List ℕ) (node : Node) (depth at : ℕ) (scope : List Binding) → IsGood soap depth scope node
      → ReadsAs depth at scope (node_text node) (node_tree soap node)
  pub nothing : (depth at : ℕ) (scope : List Binding) → ContentReadsAs depth at scope [] none
  pub more : (depth at : ℕ) (scope : List Binding) (inner rest : List ℕ) (first : Element) (parts : Parts)
      → ((at : ℕ) → ReadsAs depth at scope inner first) → ((at : ℕ) → ContentReadsAs depth at scope rest parts)
      → ContentReadsAs depth at scope (inner ++ rest) (child first parts)
  pub closed : (bytes : List ℕ) (closed : IsClosedContent bytes) (depth at : ℕ) (scope : List Binding)
      → depth + 90 ≤ max_depth → bound [] scope ≡ None → ContentReadsAs depth at scope bytes closed.parts
  pub frame : (soap : List ℕ) (header : List Block) (payload : List ℕ) (body : Parts) → MayBeSoap soap
      → AllByRecursion (IsBlock soap) header → ((at : ℕ) → ContentReadsAs 2 at (frame_scope soap) payload body)
      → IsEnvelope soap (framed_text soap (bytes_of header) payload)
      (framed_envelope soap (trees_of header) payload body)

-- ---- nodes that are good in the header of a frame

abbrev pub Fit : List ℕ → List Node → Type 0
Fit soap nodes = AllByRecursion (IsGood soap 2 (frame_scope soap)) nodes

listed_fit : (soap : List ℕ) (nodes : Nodes) → AreGood soap 2 (frame_scope soap) nodes → Fit soap (node_list nodes)
listed_fit soap nothing good = tt
listed_fit soap (words bytes) good = tt
listed_fit soap (more node nodes) good = (good.0, listed_fit soap nodes good.1)

append_fit : (soap : List ℕ) (nodes others : List Node) → Fit soap nodes → Fit soap others → Fit soap (nodes ++ others)
append_fit soap [] others a b = b
append_fit soap (node ∷ nodes) others a b = (a.0, append_fit soap nodes others a.1 b)

sequence_fit : Known → (soap : List ℕ) (x : Option SeqHeader) → IfSome x IsSequenceWritable
    → Fit soap (option_to_list (option_map sequence_node x))
sequence_fit known soap None is = tt
sequence_fit known soap (Some x) is = (known.header soap (headers.Sequence x) is, tt)

acks_fit : Known → (soap : List ℕ) (xs : List AckBlock) → AllByRecursion IsAckWritable xs
    → Fit soap (map ack_node xs)
acks_fit known soap [] all = tt
acks_fit known soap (x ∷ xs) all = (known.header soap (headers.Ack x) all.0, acks_fit known soap xs all.1)

asks_fit : Known → (soap : List ℕ) (xs : List (List ℕ)) → AllByRecursion (IsText 512) xs
    → Fit soap (map ask_node xs)
asks_fit known soap [] all = tt
asks_fit known soap (x ∷ xs) all = (known.header soap (headers.Ask x) all.0, asks_fit known soap xs all.1)

pending_fit : Known → (soap : List ℕ) (x : Option Bool) → Fit soap (option_to_list (option_map pending_node x))
pending_fit known soap None = tt
pending_fit known soap (Some x) = (known.header soap (headers.Pending x) tt, tt)

names_fit : (soap : List ℕ) (xs : List Expanded) → AllByRecursion IsNameWritable xs
    → Fit soap (map not_understood_node xs)
names_fit soap [] all = tt
names_fit soap (x ∷ xs) all = (not_understood_good soap x all.0, names_fit soap xs all.1)

-- the header blocks of either version
pub with_fit : Known → (soap mark : List ℕ) (m : Message) (names : List Node) → HeaderKeepsRules m
    → Fit soap (option_to_list (option_map (sequence_marked mark) m.sequence)) → Fit soap names
    → Fit soap (blocks_with mark m names)
with_fit known soap mark m names rules first end =
    let addressing = node_list (addressing_nodes m.addressing) in
    let sequence = option_to_list (option_map (sequence_marked mark) m.sequence) in
    let acks = map ack_node m.acks in
    let asks = map ask_node m.asks in
    let pending = option_to_list (option_map pending_node m.pending) in
    let last : Fit soap (pending ++ names) = append_fit soap pending names (pending_fit known soap m.pending) end in
    let later : Fit soap (asks ++ (pending ++ names)) =
    append_fit soap asks (pending ++ names) (asks_fit known soap m.asks rules.asks) last in
    let more_of : Fit soap (acks ++ (asks ++ (pending ++ names))) =
    append_fit soap acks (asks ++ (pending ++ names)) (acks_fit known soap m.acks rules.acks) later in
    let behind : Fit soap (sequence ++ (acks ++ (asks ++ (pending ++ names)))) =
    append_fit soap sequence (acks ++ (asks ++ (pending ++ names))) first more_of in
    append_fit soap addressing (sequence ++ (acks ++ (asks ++ (pending ++ names))))
    (listed_fit soap (addressing_nodes m.addressing) (known.addressing soap m.addressing rules.addressing)) behind

header_fit : Known → (soap : List ℕ) (m : Message) → HeaderKeepsRules m → Fit soap (header_blocks m)
header_fit known soap m rules =
    with_fit known soap (codes "true") m (map not_understood_node m.not_understood) rules
    (sequence_fit known soap m.sequence rules.sequence) (names_fit soap m.not_understood rules.not_understood)

-- ---- as blocks of a frame

blocks_fit : Known → (soap : List ℕ) (nodes : List Node) → Fit soap nodes
    → AllByRecursion (IsBlock soap) (map (block_of soap) nodes)
blocks_fit known soap [] fit = tt
blocks_fit known soap (node ∷ nodes) fit =
    (λ at. known.node soap node 2 at (frame_scope soap) fit.0, blocks_fit known soap nodes fit.1)

trees_same : (soap : List ℕ) (nodes : List Node)
    → trees_of (map (block_of soap) nodes) ≡ map (node_tree soap) nodes
trees_same soap [] = refl
trees_same soap (node ∷ nodes) = ap (λ l. node_tree soap node ∷ l) (trees_same soap nodes)

bytes_same : (soap : List ℕ) (nodes : List Node) → bytes_of (map (block_of soap) nodes) ≡ blocks_text nodes
bytes_same soap nodes = flat_map-map (λ block. block.bytes) (block_of soap) nodes

-- ---- the Body

pub alone : Known → (soap : List ℕ) (node : Node) → IsGood soap 2 (frame_scope soap) node → (at : ℕ)
    → ContentReadsAs 2 at (frame_scope soap) (node_text node) (child (node_tree soap node) none)
alone known soap node good at =
    subst (λ l. ContentReadsAs 2 at (frame_scope soap) l (child (node_tree soap node) none))
    (append-nil (node_text node))
    (known.more 2 at (frame_scope soap) (node_text node) [] (node_tree soap node) none
    (λ from. known.node soap node 2 from (frame_scope soap) good) (λ from. known.nothing 2 from (frame_scope soap)))

pub body_reads : Known → (soap : List ℕ) (b : Body) (rules : IsBodyWritable soap b) (at : ℕ)
    → ContentReadsAs 2 at (frame_scope soap) (body_text b) (body_parts soap b rules)
body_reads known soap body.Empty rules at = known.nothing 2 at (frame_scope soap)
body_reads known soap (body.Payload p) rules at =
    known.closed p.bytes rules.closed 2 at (frame_scope soap) (omega arith) refl
body_reads known soap (body.Lifecycle x) rules at =
    alone known soap (lifecycle_node x) (known.lifecycle soap x rules) at
body_reads known soap (body.Fault f) rules at = alone known soap (fault_node f) (fault_good soap f rules) at

-- ---- the message

pub blocks_written : Known → (soap : List ℕ) (m : Message) → HeaderKeepsRules m
    → AllByRecursion (IsBlock soap) (written_blocks soap m)
blocks_written known soap m rules = blocks_fit known soap (header_blocks m) (header_fit known soap m rules)

pub blocks_bytes : (soap : List ℕ) (m : Message) → bytes_of (written_blocks soap m) ≡ blocks_text (header_blocks m)
blocks_bytes soap m = bytes_same soap (header_blocks m)

pub blocks_trees : (soap : List ℕ) (m : Message) → trees_of (written_blocks soap m) ≡ header_trees soap m
blocks_trees soap m = trees_same soap (header_blocks m)

-- a frame around blocks that are fit, and a body
pub around : Known → (soap : List ℕ) → MayBeSoap soap → (nodes : List Node) → Fit soap nodes → (text : List ℕ)
    (parts : Parts) → ((at : ℕ) → ContentReadsAs 2 at (frame_scope soap) text parts)
    → IsEnvelope soap (framed_text soap (blocks_text nodes) text)
    (framed_envelope soap (map (node_tree soap) nodes) text parts)
around known soap may nodes fit text parts reads =
    let blocks = map (block_of soap) nodes in
    subst (λ (l : List ℕ). IsEnvelope soap (framed_text soap l text)
    (framed_envelope soap (map (node_tree soap) nodes) text parts)) (bytes_same soap nodes)
    (subst (λ (l : List Element). IsEnvelope soap (framed_text soap (bytes_of blocks) text)
    (framed_envelope soap l text parts)) (trees_same soap nodes)
    (known.frame soap blocks text parts may (blocks_fit known soap nodes fit) reads))

pub text_envelope : Known → (soap : List ℕ) (m : Message) (rules : KeepsRules soap m) → MayBeSoap soap
    → IsEnvelope soap (message_text soap m) (message_envelope soap m rules)
text_envelope known soap m rules may =
    around known soap may (header_blocks m) (header_fit known soap m (header_rules soap m rules)) (body_text m.body)
    (body_parts soap m.body rules.body) (body_reads known soap m.body rules.body)
