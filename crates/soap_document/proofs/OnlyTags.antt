-- The reader takes tags as the grammar has them.
use Rattle.std.proofs.Common.{◌≡◌, ◌⊎◌, inl, inr, ℕ, ◌+◌, List, [], ◌∷◌, ◌++◌, Bool, true, false, refl}
use Rattle.std.proofs.Common.{append_assoc, append-nil}
use Rattle.xml_chars.specs.Classes.{is_space}
use Rattle.soap_lex.specs.Value.{IsValue, double, single, IsInner}
use Rattle.soap_lex.specs.ValueMachine.{begun}
use Rattle.soap_document.specs.Tree.{Attribute}
use Rattle.soap_document.specs.Grammar.{IsWhite, IsSpace, IsQName, IsAttributes, end, more}
use Rattle.soap_document.specs.Machine.{naming, named, valuing, no_value, step}
use Rattle.soap_document.proofs.Moves.{At, Reads, no_byte, and_then, next_byte, kept, Tag, tag_at}
use Rattle.soap_document.proofs.Moves.{between_at}
use Rattle.soap_document.proofs.TokenLaws.{qname_passes, qname_some, qname_less}
use Rattle.soap_document.proofs.Values.{value_at, added, tag_moves}
use Rattle.soap_document.proofs.Lexing.{Lexes}

-- where white space changes nothing
white_moves : {s : At} → ((c at : ℕ) → is_space c ≡ true → step (s at) c ≡ s (at + 1))
    → (space : List ℕ) {at : ℕ} → IsWhite space → Reads at space s s
white_moves h [] w = no_byte
white_moves h (c ∷ space) {at} w = next_byte (h c at w.0) (white_moves h space w.1)

module _ (tag : Tag) (attributes : List Attribute) where
  naming_space : (spaced : Bool) (c at : ℕ) → is_space c ≡ true → step (between_at spaced tag attributes at) c
      ≡ between_at true tag attributes (at + 1)
  naming_space true c at e = rw e
  naming_space false c at e = rw e

  -- white space between attributes
  space_moves : (spaced : Bool) (space : List ℕ) {at : ℕ} → IsSpace space
      → Reads at space (between_at spaced tag attributes) (between_at true tag attributes)
  space_moves spaced [] h = absurd (h.some refl)
  space_moves spaced (c ∷ space) {at} h =
      next_byte (naming_space spaced c at h.white.0) (white_moves (naming_space true) space h.white.1)

  module _ (name : List ℕ) where
    abbrev in_name : At
    in_name = tag_at naming tag attributes [] no_value name

    abbrev named_at : At
    named_at = tag_at named tag attributes name no_value []

    abbrev valuing_at : At
    valuing_at = tag_at valuing tag attributes name no_value []

    -- behind an attribute's name, up to the = and what follows it
    equals_moves : (left : List ℕ) {at : ℕ} {bytes : List ℕ} {to : At} → IsQName name → IsWhite left
        → ((p : ℕ) → Reads p bytes valuing_at to) → Reads at (left ++ 61 ∷ bytes) in_name to
    equals_moves [] q w m = next_byte (rw (qname_some name q, qname_passes name q)) (m _)
    equals_moves (c ∷ left) q w m =
        next_byte {t = named_at} (rw (w.0, qname_some name q, qname_passes name q))
        (and_then (white_moves {s = named_at} (λ c at e. rw e) left w.1) (next_byte refl (m _)))

    inner_moves : (lex : Lexes) → (quote : ℕ) {inner value : List ℕ} {at : ℕ} → (quote ≡ 34) ⊎ (quote ≡ 39)
        → IsInner quote inner value
        → Reads at (inner ++ quote ∷ []) (value_at tag attributes name (begun quote []))
        (between_at false tag (added tag attributes name value))
    inner_moves lex quote {inner} {value} {at} f h =
        record { moves = tag_moves tag attributes name (lex.value_taken quote inner value [] f h) refl refl at }

    quoted_only : (lex : Lexes) → {quoted value : List ℕ} → IsValue quoted value → {at : ℕ}
        → Reads at quoted valuing_at (between_at false tag (added tag attributes name value))
    quoted_only lex (double inner value h) = next_byte refl (inner_moves lex 34 (inl refl) h)
    quoted_only lex (single inner value h) = next_byte refl (inner_moves lex 39 (inr refl) h)

-- the attributes of a tag, up to what ends it
pub record AttributesEnd (tag : Tag) (spaced : Bool) (before : List Attribute) (bytes : List ℕ) (attributes : List
    Attribute) : Type 0 where
  pub ends_spaced : Bool
  pub moves : (at : ℕ) → Reads at bytes (between_at spaced tag before) (between_at ends_spaced tag (before ++
      attributes))

pub attributes_only : (lex : Lexes) → {bytes : List ℕ} {attributes : List Attribute} → IsAttributes bytes attributes
    → (tag : Tag) (spaced : Bool) (before : List Attribute) → AttributesEnd tag spaced before bytes attributes
attributes_only lex (end [] h) tag spaced before = record { ends_spaced = spaced; moves = λ at. rw append-nil no_byte }
attributes_only lex (end (c ∷ space) h) tag spaced before = record {
  ends_spaced = true;
  moves = λ at. rw append-nil (space_moves tag before spaced (c ∷ space) (record { white = h; some = λ e. cc }));
}
attributes_only lex (more space name left right quoted value rest attributes s q l r v h) tag spaced before =
    let mine : Attribute = record { name = name; value = value } in
    let after = attributes_only lex h tag false (before ++ mine ∷ []) in
    record {
      ends_spaced = after.ends_spaced;
      moves = λ at. and_then (space_moves tag before spaced space s)
          (and_then (kept (between_at true tag before 0) name (qname_less name q))
          (equals_moves tag before name left q l
          (λ p. and_then (white_moves {s = valuing_at tag before name} (λ c at e. rw e) right r)
          (and_then (quoted_only tag before name lex v) (rw (← append_assoc before (mine ∷ []) attributes)
          (after.moves _))))));
    }
