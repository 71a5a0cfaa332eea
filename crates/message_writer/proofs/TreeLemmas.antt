-- Trees that are built from their items.
use Rattle.std.proofs.Common.{◌≡◌, ◌++◌, ℕ, List, [], ◌∷◌, refl, ap}
use Rattle.soap_document.specs.Profile.Items.{Item, a_child, decls_among, attrs_among, parts_among, listed}
use Rattle.soap_document.specs.Profile.Tree.{element, Parts, none, text, child}
use Rattle.soap_document.specs.declared.profile.name.Expanded.{Expanded}
use Rattle.soap_writer.specs.Nodes.Node.{Node, Nodes, nothing, each_node, node_tree, nodes_tree}
use Rattle.rm_message.specs.Elements.Texts.{range_node, nack_node, kind_nodes}
use Rattle.rm_message.specs.declared.elements.header.AckKind.{AckKind}
use Rattle.rm_message.specs.declared.elements.header.AckKind.TheVariants.{Ranges, Nothing, Nack}

-- parts are nothing but parts
decls_none : (ps : Parts) → decls_among (listed ps) ≡ []
decls_none none = refl
decls_none (text bytes ps) = decls_none ps
decls_none (child e ps) = decls_none ps

attrs_none : (ps : Parts) → attrs_among (listed ps) ≡ []
attrs_none none = refl
attrs_none (text bytes ps) = attrs_none ps
attrs_none (child e ps) = attrs_none ps

parts_same : (ps : Parts) → parts_among (listed ps) ≡ ps
parts_same none = refl
parts_same (text bytes ps) = ap (text bytes) (parts_same ps)
parts_same (child e ps) = ap (child e) (parts_same ps)

-- an element of such items has these parts, and nothing else
pub only_parts : (name : Expanded) (items : List Item) (ps : Parts) → items ≡ listed ps
    → element name (decls_among items) (attrs_among items) (parts_among items) ≡ element name [] [] ps
only_parts name items ps e = rw (e, decls_none ps, attrs_none ps, parts_same ps) refl

each_listed : {A : Type 0} (soap : List ℕ) (f : A → Node) (xs : List A) (others : Nodes)
    → listed (nodes_tree soap (each_node f xs others))
    ≡ listed (nodes_tree soap (each_node f xs nothing)) ++ listed (nodes_tree soap others)
each_listed soap f [] others = refl
each_listed soap f (x ∷ xs) others = ap (λ l. a_child (node_tree soap (f x)) ∷ l) (each_listed soap f xs others)

-- what an acknowledgement says stands before the rest
pub kind_listed : (soap : List ℕ) (kind : AckKind) (others : Nodes)
    → listed (nodes_tree soap (kind_nodes kind others))
    ≡ listed (nodes_tree soap (kind_nodes kind nothing)) ++ listed (nodes_tree soap others)
kind_listed soap (Ranges ranges) others = each_listed soap range_node ranges others
kind_listed soap Nothing others = refl
kind_listed soap (Nack numbers) others = each_listed soap nack_node numbers others
