-- What stands in a Body that was read: Namespaces in XML 1.0, section 6.
use Rattle.std.specs.Prelude.{◌≡◌, ◌≤◌, ℕ, ◌+◌, List, Some}
use Rattle.rm_base.specs.declared.message.Binding.{Binding}
use Rattle.soap_document.specs.Grammar.{IsContent, max_depth}
use Rattle.soap_document.specs.Tree as written
use Rattle.soap_document.specs.Profile.Namespaces.{resolve_parts}
use Rattle.soap_document.specs.Profile.Payload.{depth as nested}
use Rattle.soap_document.specs.Profile.Tree.{Parts}
use Rattle.soap_envelope.specs.Scope.{IsScope}
use Rattle.soap_writer.specs.Stripped.Resolved.{AreInForce}

-- a payload is content, which is these parts where this scope is in force around it: what is bound there may be
-- declared, and two elements more may stand around it
pub record Stands (payload : List ℕ) (scope : List Binding) (parts : Parts) : Type 0 where
  pub depth : ℕ
  pub start : ℕ
  pub raw : written.Parts
  pub content : IsContent depth start payload raw
  pub bindings : List Binding
  pub in_force : AreInForce bindings
  pub scoped : IsScope bindings scope
  pub around : AreInForce scope
  pub resolved : resolve_parts bindings raw ≡ Some parts
  pub shallow : 2 + nested parts ≤ max_depth
