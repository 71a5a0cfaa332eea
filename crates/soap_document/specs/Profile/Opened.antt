-- The elements that are open, with their names resolved.
use Rattle.std.specs.Prelude.{ℕ, List, [], ◌∷◌, ◌++◌, Option, Some, None, option_map}
use Rattle.soap_document.specs.Machine.{Frame}
use Rattle.soap_document.specs.Tree as written
use Rattle.soap_document.specs.Profile.Document.{place_of}
use Rattle.soap_document.specs.Profile.Namespaces.{Resolved, tag_of, resolve, resolve_parts}
use Rattle.soap_document.specs.Profile.Tree.{Element, element, Parts, none, text, child}
use Rattle.rm_base.specs.declared.message.Binding.{Binding}
use Rattle.soap_document.specs.declared.profile.place.Place.{Place}

-- an open element: its tag, where its content begins, its parts so far, the place of the last element among these, and
-- of the last within that
pub record Opened : Type 0 where
  pub tag : Resolved
  pub start : ℕ
  pub parts : Parts
  pub last : Option Place
  pub inner : Option Place

-- the open elements, the innermost first, and the bindings in force in the innermost
pub record Nest : Type 0 where
  pub scope : List Binding
  pub top : Opened
  pub below : List Opened

-- an element without parts
abbrev pub start_tag : Resolved → Element
start_tag tag = element tag.name tag.decls tag.attrs none

-- the document itself has no tag
abbrev pub no_tag : Resolved
no_tag = record { name = record { space = []; local = [] }; decls = []; attrs = [] }

-- the place of the last element among the parts
abbrev pub last_place : Option written.Element → Option Place
last_place last = option_map place_of last

-- the place of the last element within that
abbrev pub inner_place : Option written.Element → Option Place
inner_place None = None
inner_place (Some last) = option_map place_of (written.last_within last)

-- an open element with this tag and these parts
abbrev pub opened : Frame → Resolved → Parts → Opened
opened frame tag parts = record {
  tag = tag;
  start = frame.start;
  parts = parts;
  last = last_place (written.last_child frame.parts);
  inner = inner_place (written.last_child frame.parts);
}

-- an element with this tag within others
abbrev pub within : Frame → Nest → Option Resolved → Option Nest
within frame nest None = None
within frame nest (Some tag) = option_map (λ parts. record {
  scope = tag.decls ++ nest.scope;
  top = opened frame tag parts;
  below = nest.top ∷ nest.below;
}) (resolve_parts (tag.decls ++ nest.scope) frame.parts)

-- an open element within others, where those are
abbrev pub within_all : Frame → Option Nest → Option Nest
within_all frame None = None
within_all frame (Some nest) = within frame nest (tag_of nest.scope frame.name frame.attributes)

-- what open elements are, the innermost first; none where a rule of namespaces is broken
abbrev pub nest : Frame → List Frame → Option Nest
nest frame [] = option_map (λ parts. record { scope = []; top = opened frame no_tag parts; below = [] })
    (resolve_parts [] frame.parts)
nest frame (outer ∷ frames) = within_all frame (nest outer frames)

-- the element that content is, where it is one element and nothing else
abbrev pub lone : Parts → Option Element
lone none = None
lone (text bytes parts) = None
lone (child tree none) = Some tree
lone (child tree (text bytes parts)) = None
lone (child tree (child second parts)) = None

-- a root with its names resolved, its place, and that of the last element within it
pub record Root : Type 0 where
  pub tree : Element
  pub place : Place
  pub last : Option Place

-- a root with its names resolved; none where a rule is broken
abbrev pub root_of : written.Element → Option Root
root_of raw = option_map (λ tree. record {
  tree = tree;
  place = place_of raw;
  last = last_place
      (written.last_within raw);
})
    (resolve [] raw)

-- the same of the bytes, where they have a root
abbrev pub rooted : Option written.Element → Option Root
rooted None = None
rooted (Some raw) = root_of raw
