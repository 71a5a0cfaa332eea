-- The open elements that a resolver stands for.
use Rattle.std.specs.Prelude.{◌≡◌, ℕ, List, map, reverse, true, false, Some, None, vec_len}
use Rattle.soap_document.specs.Machine.{Frame}
use Rattle.soap_document.specs.Profile.Opened as abstract
use Rattle.soap_document.specs.Profile.Scope.{InForce}
use Rattle.rm_base.specs.declared.message.Binding.{Binding}
use Rattle.soap_document.specs.Profile.View.{element_view, parts_view, tag_view}
use Rattle.soap_document.specs.declared.profile.resolver.Opened.{Opened}
use Rattle.soap_document.specs.declared.profile.resolver.Resolver.{Resolver}
use Rattle.soap_document.specs.declared.profile.resolver.Root.{Root}

-- the open element that one of the code is
abbrev pub opened_view : Opened → abstract.Opened
opened_view o = record {
  tag = tag_view o.element;
  start = o.start;
  parts = parts_view o.element.items.items;
  last = o.last;
  inner = o.inner;
}

-- within these bindings
abbrev pub nest_view : Resolver → List Binding → abstract.Nest
nest_view r bindings = record {
  scope = bindings;
  top = opened_view r.top;
  below = reverse (map opened_view r.below.items);
}

-- the root that one of the code is
abbrev pub root_view : Root → abstract.Root
root_view r = record { tree = element_view r.tree; place = r.place; last = r.last }

-- how many elements are open in it
abbrev pub open_count : Resolver → ℕ
open_count r = vec_len r.below

-- it has the open elements, or a rule was broken
pub data Stands (r : Resolver) (top : Frame) (below : List Frame) : Type 0 where
  sound : (bindings : List Binding) → r.broken ≡ false → InForce r.scope bindings
      → abstract.nest top below ≡ Some (nest_view r bindings) → Stands r top below
  broken : r.broken ≡ true → abstract.nest top below ≡ None → Stands r top below
