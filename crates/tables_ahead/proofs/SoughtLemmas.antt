-- What was sought of the tables.
use Rattle.std.proofs.Common.{◌≡◌, ℕ, ◌<◌, ◌^◌, List, Option, Some, refl, sym, ap, ◌∙◌}
use Rattle.record_batch.specs.Fact.{Fact}
use Rattle.record_batch.specs.Sequences.Find.{find_incoming}
use Rattle.record_batch.specs.Sequences.Idents.{IsIssuedFor}
use Rattle.record_batch.specs.Sequences.Makers.{number}
use Rattle.record_batch.specs.Sequences.Words.{Text}
use Rattle.tables_ahead.specs.Known.{IsSought}

-- a node issues one text for a number
one-text : (node : ℕ) (p q : Text) (c : ℕ) → c < 2 ^ 64 → IsIssuedFor node p (Some c) → IsIssuedFor node q (Some c)
    → p ≡ q
one-text node p q c lt first second = sym ((first.exactly c lt).1 refl) ∙ (second.exactly c lt).1 refl

-- the sequence with the identifier that was issued for a number
pub sought-at : (r : List Fact) (q : Text) (c : ℕ) (seq : Option ℕ) → c < 2 ^ 64 → IsIssuedFor (number r) q (Some c)
    → seq ≡ find_incoming r q → IsSought r (Some c) seq
sought-at r q c seq lt issued found = record {
  is = λ p d same other.
      let also : IsIssuedFor (number r) p (Some c) = rw same other in
      ap (find_incoming r) (one-text (number r) p q c lt also issued) ∙ sym found;
}
