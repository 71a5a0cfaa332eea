-- Why a document is no envelope, where SOAP has a namespace: SOAP 1.2 Part 1, sections 2.8 and 5.1.
use Rattle.std.specs.Prelude.{◌≡◌, ◌≢◌, ℕ, List, Option, codes}
use Rattle.soap_document.specs.Profile.Document.{Document}
use Rattle.soap_document.specs.Profile.Tree.{Element, name_of, parts_of}
use Rattle.soap_envelope.specs.Envelope.{name_in, IsOutline}

-- the root is called Envelope in another namespace
pub record IsOtherVersion (soap : List ℕ) (root : Element) : Type 0 where
  pub local : (name_of root).local ≡ codes "Envelope"
  pub space : (name_of root).space ≢ soap

-- another root, or an envelope in which there is not an optional Header and then a Body
pub record IsNoEnvelope (soap : List ℕ) (root : Element) : Type 0 where
  pub version : ¬ (IsOtherVersion soap root)
  pub outline : (header : Option Element) (body : Element) → name_of root ≡ name_in soap (codes "Envelope")
      → IsOutline soap (parts_of root) header body → ⊥

-- the bytes are a document of another version
pub record WrongVersion (soap bytes : List ℕ) : Type 0 where
  pub root : Element
  pub document : Document bytes root
  pub version : IsOtherVersion soap root

-- the bytes are a document that is no envelope
pub record NotEnvelope (soap bytes : List ℕ) : Type 0 where
  pub root : Element
  pub document : Document bytes root
  pub other : IsNoEnvelope soap root
