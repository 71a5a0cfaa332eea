use Rattle.std.proofs.Common.{rules, ℕ, List, sym, subst, arith}
use Rattle.std.specs.Prelude.{codes}
use Rattle.std.proofs.lemmas.Slice.Eq.{text_from_reads}
use Rattle.soap_lex.specs.References.{IsReference, ampersand, less, greater, apostrophe, quote}
use Rattle.soap_lex.proofs.references.named.Goals as goal

pub returns-in-38-clause-found : goal.returns-in-38-clause-found
returns-in-38-clause-found c =
    let P : List ℕ → Type 0 = λ bytes. IsReference bytes 38 in
    subst P (sym (text_from_reads c.args.bytes.now (codes "&amp;") (omega arith) (search rules))) ampersand

pub returns-in-38-2-clause-found : goal.returns-in-38-2-clause-found
returns-in-38-2-clause-found c =
    let P : List ℕ → Type 0 = λ bytes. IsReference bytes 60 in
    subst P (sym (text_from_reads c.args.bytes.now (codes "&lt;") (omega arith) (search rules))) less

pub returns-in-38-3-clause-found : goal.returns-in-38-3-clause-found
returns-in-38-3-clause-found c =
    let P : List ℕ → Type 0 = λ bytes. IsReference bytes 62 in
    subst P (sym (text_from_reads c.args.bytes.now (codes "&gt;") (omega arith) (search rules))) greater

pub returns-in-38-4-clause-found : goal.returns-in-38-4-clause-found
returns-in-38-4-clause-found c =
    let P : List ℕ → Type 0 = λ bytes. IsReference bytes 39 in
    subst P (sym (text_from_reads c.args.bytes.now (codes "&apos;") (omega arith) (search rules))) apostrophe

pub returns-in-38-5-clause-found : goal.returns-in-38-5-clause-found
returns-in-38-5-clause-found c =
    let P : List ℕ → Type 0 = λ bytes. IsReference bytes 34 in
    subst P (sym (text_from_reads c.args.bytes.now (codes "&quot;") (omega arith) (search rules))) quote
