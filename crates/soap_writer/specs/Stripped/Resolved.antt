-- What the elements of a document are once their names are resolved, so that they may be written without their
-- declarations: Namespaces in XML 1.0, sections 2 to 6.
use Rattle.std.specs.Prelude.{◌≡◌, ◌≢◌, ◌≤◌, ℕ, ◌+◌, List, [], Some, true, false}
use Rattle.std.specs.List.{AllByRecursion}
use Rattle.soap_document.specs.Grammar.{max_depth}
use Rattle.soap_lex.specs.Characters.{IsChars, IsName}
use Rattle.soap_lex.specs.Tests.{is_nil}
use Rattle.soap_document.specs.Profile.Namespaces.{xmlns_space, bound, may_bind}
use Rattle.soap_document.specs.Profile.Payload.{height}
use Rattle.soap_document.specs.Profile.Tree.{Element, element, Parts, none, text, child, without_declarations}
use Rattle.rm_base.specs.declared.message.Binding.{Binding}
use Rattle.soap_writer.specs.Writable.{IsWritable}

-- a prefix may be bound so: a name, or the default, to characters, not to the namespace of declarations, and to nothing
-- only if it is the default (3, 5, 6.2)
pub record IsBindable (prefix space : List ℕ) : Type 0 where
  pub chars : IsChars space
  pub no_xmlns : space ≢ xmlns_space
  pub some : space ≡ [] → prefix ≡ []
  pub named : is_nil prefix ≡ false → IsName prefix
  pub may : may_bind prefix space ≡ true

-- a declaration binds its prefix so
abbrev pub IsBinding : Binding → Type 0
IsBinding b = IsBindable b.prefix b.space

-- each prefix that is bound is bound so
abbrev pub AreInForce : List Binding → Type 0
AreInForce scope = (prefix space : List ℕ) → bound prefix scope ≡ Some space → IsBindable prefix space

-- so do all declarations of an element and of those within it
abbrev mutual
  pub Declares : Element → Type 0
  Declares (element name decls attrs parts) = AllByRecursion IsBinding decls × PartsDeclare parts

  pub PartsDeclare : Parts → Type 0
  PartsDeclare none = Unit {0}
  PartsDeclare (text bytes parts) = PartsDeclare parts
  PartsDeclare (child first parts) = Declares first × PartsDeclare parts

-- an element of a document that stands in so many others: without its declarations it may be written, they bind
-- prefixes as they may be bound, and no more elements are in one another than may be in a document
pub record IsResolved (depth : ℕ) (e : Element) : Type 0 where
  pub writable : IsWritable (without_declarations e)
  pub declares : Declares e
  pub shallow : depth + height e ≤ max_depth
