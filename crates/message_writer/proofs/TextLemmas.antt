-- The texts of header blocks and of reasons.
use Rattle.std.proofs.Common.{◌≡◌, ◌++◌, Bool, ℕ, List, [], ◌∷◌, Option, Some, None, codes, refl, ap, ◌∙◌}
use Rattle.std.proofs.Common.{append_assoc}
use Rattle.std.proofs.lemmas.List.{append-nil}
use Rattle.std.proofs.lemmas.Grind.{flat_map-append}
use Rattle.std.specs.Prelude.{true}
use Rattle.soap_lex.specs.Escapes.{escaped_text}
use Rattle.soap_document.specs.Profile.Tree.{Element}
use Rattle.soap_writer.specs.Nodes.Node.{Nodes, full, whole, leaf, node_text, nodes_text}
use Rattle.wsa_headers.specs.Texts.{tag_of, params_nodes, epr_nodes, uri_before, epr_before, addressing_nodes}
use Rattle.wsa_headers.specs.declared.addressing.Addressing.{Addressing}
use Rattle.wsa_headers.specs.declared.endpoint.Epr.{Epr}
use Rattle.wsa_headers.specs.declared.tag.Tag.{Tag}
use Rattle.wsa_headers.specs.declared.tag.Tag.TheVariants as tags
use Rattle.rm_message.specs.declared.message.Message.{Message}
use Rattle.message_writer.specs.Text.{node_list, header_blocks, blocks_text, words_of}
use Rattle.message_writer.specs.Text11.{header11_blocks}
use Rattle.message_writer.specs.Steps.{other_text, other11_text}

-- the nodes, one behind the other, are the text of their list
abbrev Lists : Nodes → Type 0
Lists nodes = blocks_text (node_list nodes) ≡ nodes_text nodes

params_list : (marked : Bool) (params : List Element) → Lists (params_nodes marked params)
params_list marked [] = refl
params_list marked (p ∷ params) = ap (λ l. node_text (whole marked p) ++ l) (params_list marked params)

uri_list : (tag : Tag) (uri : Option (List ℕ)) (others : Nodes) → Lists others → Lists (uri_before tag uri others)
uri_list tag None others lists = lists
uri_list tag (Some uri) others lists = ap (λ l. node_text (leaf (tag_of tag) uri) ++ l) lists

epr_list : (tag : Tag) (x : Option Epr) (others : Nodes) → Lists others → Lists (epr_before tag x others)
epr_list tag None others lists = lists
epr_list tag (Some x) others lists = ap (λ l. node_text (full (tag_of tag) [] (epr_nodes x)) ++ l) lists

pub addressing_list : (a : Addressing) → Lists (addressing_nodes a)
addressing_list a =
    ap (λ l. node_text (leaf (tag_of tags.To) a.to) ++ (node_text (leaf (tag_of tags.Action) a.action) ++ l))
    (uri_list tags.MessageID a.message_id _ (uri_list tags.RelatesTo a.relates _ (epr_list tags.ReplyTo a.reply_to _
    (epr_list tags.FaultTo a.fault_to _ (params_list true a.params)))))

pub header_text : (m : Message)
    → blocks_text (header_blocks m) ≡ nodes_text (addressing_nodes m.addressing) ++ other_text m
header_text m = simp flat_map-append (ap (λ l. l ++ other_text m) (addressing_list m.addressing))

pub header11_text : (m : Message)
    → blocks_text (header11_blocks m) ≡ nodes_text (addressing_nodes m.addressing) ++ other11_text m
header11_text m = simp flat_map-append (ap (λ l. l ++ other11_text m) (addressing_list m.addressing))

pub words_text : (text : List ℕ) → nodes_text (words_of text) ≡ escaped_text text
words_text [] = refl
words_text (byte ∷ bytes) = refl

-- ---- what was appended piece by piece

-- a start tag, two pieces, an end tag
pub around_two : (o p q r s begin a b close : List ℕ) → p ≡ o ++ (begin ++ codes ">") → q ≡ p ++ a → r ≡ q ++ b
    → s ≡ r ++ close → s ≡ o ++ (begin ++ (codes ">" ++ ((a ++ b) ++ close)))
around_two o p q r s begin a b close e f g h =
    h ∙ ap (λ l. l ++ close) (g ∙ ap (λ l. l ++ b) (f ∙ ap (λ l. l ++ a) e)) ∙ simp append_assoc

-- three
pub around_three : (o p q r s t begin a b c close : List ℕ) → p ≡ o ++ (begin ++ codes ">") → q ≡ p ++ a → r ≡ q ++ b
    → s ≡ r ++ c → t ≡ s ++ close → t ≡ o ++ (begin ++ (codes ">" ++ ((a ++ (b ++ c)) ++ close)))
around_three o p q r s t begin a b c close e f g h i =
    i ∙ ap (λ l. l ++ close) (h ∙ ap (λ l. l ++ c) (g ∙ ap (λ l. l ++ b) (f ∙ ap (λ l. l ++ a) e)))
    ∙ simp append_assoc

-- a start tag with a note, two pieces, an end tag
pub noted_two : (o p q r s t u begin note a b close : List ℕ) → p ≡ o ++ begin → q ≡ p ++ note → r ≡ q ++ codes ">"
    → s ≡ r ++ a → t ≡ s ++ b → u ≡ t ++ close
    → u ≡ o ++ (begin ++ ((note ++ []) ++ (codes ">" ++ ((a ++ (b ++ [])) ++ close))))
noted_two o p q r s t u begin note a b close e f g h i j =
    j ∙ ap (λ l. l ++ close) (i ∙ ap (λ l. l ++ b) (h ∙ ap (λ l. l ++ a) (g ∙ ap (λ l. l ++ codes ">")
    (f ∙ ap (λ l. l ++ note) e)))) ∙ simp (append_assoc, append-nil)

-- a frame
pub framed_by : (o p q r s t front blocks middle inner end : List ℕ) → o ≡ [] → p ≡ o ++ front → q ≡ p ++ blocks
    → r ≡ q ++ middle → s ≡ r ++ inner → t ≡ s ++ end → t ≡ front ++ (blocks ++ (middle ++ (inner ++ end)))
framed_by o p q r s t front blocks middle inner end none e f g h i =
    i ∙ ap (λ l. l ++ end) (h ∙ ap (λ l. l ++ inner) (g ∙ ap (λ l. l ++ middle) (f ∙ ap (λ l. l ++ blocks)
    (e ∙ ap (λ l. l ++ front) none)))) ∙ simp append_assoc
