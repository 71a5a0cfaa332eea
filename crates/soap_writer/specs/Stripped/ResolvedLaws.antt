-- Laws: bindings around others, and what stands in an element of a document.
use Rattle.std.proofs.Common.{◌≡◌, ◌≤◌, ℕ, suc, ◌+◌, Bool, true, false, if◌then◌else◌, List, [], ◌∷◌, ◌++◌, Option}
use Rattle.std.proofs.Common.{Some, refl, subst, arith}
use Rattle.std.specs.List.{AllByRecursion}
use Rattle.std.specs.Str.{bytes_eq}
use Rattle.soap_document.specs.Grammar.{max_depth}
use Rattle.soap_lex.specs.Facts.{same}
use Rattle.soap_document.specs.Profile.Namespaces.{bound}
use Rattle.soap_document.specs.Profile.Payload.{depth as nested}
use Rattle.soap_document.specs.Profile.Tree.{Element, element, Parts, none, text, child, parts_without, parts_of}
use Rattle.rm_base.specs.declared.message.Binding.{Binding}
use Rattle.soap_document.specs.Profile.Tree.{children_of}
use Rattle.soap_writer.specs.Writable.{ArePartsWritable}
use Rattle.soap_writer.specs.Stripped.Resolved.{IsBindable, IsBinding, AreInForce, PartsDeclare, IsResolved}

-- ---- bindings in force

-- nothing is in force outside of the root
pub none_in_force : AreInForce []
none_in_force prefix space e = cc

bound_at : (b : Binding) (prefix space : List ℕ) (later : Option (List ℕ)) (t : Bool) → bytes_eq b.prefix prefix ≡ t
    → (if t then Some b.space else later) ≡ Some space → IsBinding b
    → (later ≡ Some space → IsBindable prefix space) → IsBindable prefix space
bound_at b prefix space later false d e is more = more e
bound_at b prefix space later true d e is more =
    let found : b.space ≡ space = cc in
    subst (λ (p : List ℕ). IsBindable p space) (same b.prefix prefix d) (subst (IsBindable b.prefix) found is)

-- declarations, within bindings that are in force
pub more_in_force : (decls scope : List Binding) → AllByRecursion IsBinding decls → AreInForce scope
    → AreInForce (decls ++ scope)
more_in_force [] scope all outer prefix space e = outer prefix space e
more_in_force (b ∷ decls) scope all outer prefix space e =
    bound_at b prefix space (bound prefix (decls ++ scope)) (bytes_eq b.prefix prefix) refl e all.0
    (more_in_force decls scope all.1 outer prefix space)

-- ---- elements

parts_resolved : (depth : ℕ) (parts : Parts) → ArePartsWritable (parts_without parts) → PartsDeclare parts
    → depth + nested parts ≤ max_depth → AllByRecursion (IsResolved depth) (children_of parts)
parts_resolved depth none writable declares shallow = tt
parts_resolved depth (text bytes parts) writable declares shallow =
    parts_resolved depth parts writable.2 declares shallow
parts_resolved depth (child first parts) writable declares shallow = (
  record { writable = writable.0; declares = declares.0; shallow = omega (arith, shallow) },
  parts_resolved depth parts writable.1 declares.1 (omega (arith, shallow)),
)

-- each child of an element stands in one more
pub children_resolved : (depth : ℕ) (e : Element) → IsResolved depth e
    → AllByRecursion (IsResolved (suc depth)) (children_of (parts_of e))
children_resolved depth (element name decls attrs parts) is =
    parts_resolved (suc depth) parts is.writable.1 is.declares.1 (omega (arith, is.shallow))
