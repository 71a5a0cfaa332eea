-- What each prefix is bound to, and the bindings that this stands for, the innermost first.
use Rattle.std.specs.Prelude.{◌≡◌, ℕ, ◌-◌, List, [], ◌∷◌, ◌++◌, length, slice_get, if◌then◌else◌, Option}
use Rattle.std.specs.Str.{bytes_eq}
use Rattle.std.specs.Option.{option_map_or}
use Rattle.std.specs.Ordering.{nat_cmp}
use Rattle.std.specs.Cmp.Lexicographic.{slice_cmp}
use Rattle.std.specs.BTreeMap.{BTreeMap, get_by}
use Rattle.std.specs.declared.vec.Vec.{Vec}
use Rattle.std.specs.declared.alloc.Global.{Global}
use Rattle.soap_document.specs.Profile.Namespaces.{element_name, attribute_name}
use Rattle.soap_document.specs.Profile.Pool.{Knows}
use Rattle.rm_base.specs.declared.message.Binding.{Binding}
use Rattle.soap_document.specs.declared.profile.scope.Scope.{Scope}

-- of each prefix, what it was bound to
abbrev pub Stacks : Type 0
Stacks = BTreeMap (Vec ℕ Global) (Vec (List ℕ) Global)

-- what a prefix was bound to, the innermost last
abbrev pub stack_at : Stacks → List ℕ → List (List ℕ)
stack_at stacks prefix =
    option_map_or (λ stack. stack.items) (get_by (λ key. slice_cmp nat_cmp prefix key.items) stacks) []

-- the last of them
abbrev pub last_of : List (List ℕ) → Option (List ℕ)
last_of spaces = slice_get spaces (length spaces - 1)

-- the spaces of the bindings of a prefix, the innermost last
abbrev pub stacked : List ℕ → List Binding → List (List ℕ)
stacked prefix [] = []
stacked prefix (b ∷ bindings) =
    if bytes_eq b.prefix prefix then stacked prefix bindings ++ b.space ∷ [] else stacked prefix bindings

-- the bindings are those that the stacks have
pub record IsStacked (stacks : Stacks) (bindings : List Binding) : Type 0 where
  pub each : (prefix : List ℕ) → stack_at stacks prefix ≡ stacked prefix bindings

-- names are resolved by these bindings, those that are known too
pub record InForce (scope : Scope) (bindings : List Binding) : Type 0 where
  pub stacks : IsStacked scope.stacks bindings
  pub elements : Knows (element_name bindings) scope.elements
  pub attributes : Knows (attribute_name bindings) scope.attributes
