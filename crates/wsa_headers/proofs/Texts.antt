-- One header before others.
use Rattle.std.proofs.Common.{◌≡◌, ◌++◌, ℕ, List, [], Option, Some, None, refl, sym, ap, ◌∙◌, append_assoc}
use Rattle.std.proofs.lemmas.List.{append-nil}
use Rattle.soap_writer.specs.Nodes.Node.{Node, Nodes, full, nothing, more, leaf, node_text, nodes_text}
use Rattle.wsa_headers.specs.Texts.{tag_of, epr_nodes, uri_before, epr_before}
use Rattle.wsa_headers.specs.declared.endpoint.Epr.{Epr}
use Rattle.wsa_headers.specs.declared.tag.Tag.{Tag}

pub uri_first : (tag : Tag) (uri : Option (List ℕ)) (others : Nodes)
    → nodes_text (uri_before tag uri others) ≡ nodes_text (uri_before tag uri nothing) ++ nodes_text others
uri_first tag None others = refl
uri_first tag (Some uri) others =
    ap (λ l. l ++ nodes_text others) (sym (append-nil (node_text (leaf (tag_of tag) uri))))

pub epr_first : (tag : Tag) (x : Option Epr) (others : Nodes)
    → nodes_text (epr_before tag x others) ≡ nodes_text (epr_before tag x nothing) ++ nodes_text others
epr_first tag None others = refl
epr_first tag (Some x) others =
    ap (λ l. l ++ nodes_text others) (sym (append-nil (node_text (full (tag_of tag) [] (epr_nodes x)))))

-- those of replies and faults, behind other bytes
pub replies_text : (out : List ℕ) (first second : Tag) (x y : Option Epr) (others : Nodes)
    → ((out ++ nodes_text (epr_before first x nothing)) ++ nodes_text (epr_before second y nothing))
    ++ nodes_text others
    ≡ out ++ nodes_text (epr_before first x (epr_before second y others))
replies_text out first second x y others =
    let a = nodes_text (epr_before first x nothing) in
    let b = nodes_text (epr_before second y nothing) in
    let c = nodes_text others in
    append_assoc (out ++ a) b c ∙ append_assoc out a (b ++ c)
    ∙ ap (λ l. out ++ l) (ap (λ l. a ++ l) (sym (epr_first second y others))
    ∙ sym (epr_first first x (epr_before second y others)))

-- two nodes and two addresses before others, behind other bytes
pub addresses_text : (out : List ℕ) (n m : Node) (first second : Tag) (x y : Option (List ℕ)) (others : Nodes)
    → ((((out ++ node_text n) ++ node_text m) ++ nodes_text (uri_before first x nothing))
    ++ nodes_text (uri_before second y nothing)) ++ nodes_text others
    ≡ out ++ nodes_text (more n (more m (uri_before first x (uri_before second y others))))
addresses_text out n m first second x y others =
    let p = node_text n in
    let q = node_text m in
    let a = nodes_text (uri_before first x nothing) in
    let b = nodes_text (uri_before second y nothing) in
    let c = nodes_text others in
    append_assoc (((out ++ p) ++ q) ++ a) b c ∙ append_assoc ((out ++ p) ++ q) a (b ++ c)
    ∙ append_assoc (out ++ p) q (a ++ (b ++ c)) ∙ append_assoc out p (q ++ (a ++ (b ++ c)))
    ∙ ap (λ l. out ++ (p ++ (q ++ l))) (ap (λ l. a ++ l) (sym (uri_first second y others))
    ∙ sym (uri_first first x (uri_before second y others)))
