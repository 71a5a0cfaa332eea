-- One attribute before those behind it, whatever those are, and parts before others.
use Rattle.std.specs.Prelude.{◌≡◌, List, ◌∷◌, ◌++◌, Bool, if◌then◌else◌, None, map, option_map}
use Rattle.soap_document.specs.declared.attribute.WrittenAttribute.{WrittenAttribute}
use Rattle.soap_document.specs.Profile.Items.{Item, a_declaration, an_attribute}
use Rattle.soap_document.specs.Profile.Namespaces.{declarations, expanded}
use Rattle.soap_document.specs.Profile.Tree.{Parts, none, text, child}
use Rattle.rm_base.specs.declared.message.Binding.{Binding}

-- one attribute before others: whether its declaration may stand
abbrev pub Declares : WrittenAttribute → List Item → List Item → Bool → Type 0
Declares a old new taken =
    (later : List WrittenAttribute) → option_map (λ decls. old ++ map a_declaration decls) (declarations (a ∷ later))
    ≡ (if taken then option_map (λ decls. new ++ map a_declaration decls) (declarations later) else None)

-- whether its prefix is bound, if it is no declaration
abbrev pub Expands : List Binding → WrittenAttribute → List Item → List Item → Bool → Type 0
Expands scope a old new taken =
    (later : List WrittenAttribute) → option_map (λ attrs. old ++ map an_attribute attrs) (expanded scope (a ∷ later))
    ≡ (if taken then option_map (λ attrs. new ++ map an_attribute attrs) (expanded scope later) else None)

-- parts before others
abbrev pub join : Parts → Parts → Parts
join none parts = parts
join (text bytes more) parts = text bytes (join more parts)
join (child first more) parts = child first (join more parts)
