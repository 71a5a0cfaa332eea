use Rattle.std.proofs.Common.{◌≡◌, ℕ, ◌<◌, true, eqb, get_or, List, [], ◌∷◌, length, Some, map, refl, sym, arith}
use Rattle.std.proofs.lemmas.Bool.{eqb-true}
use Rattle.record_batch.specs.Batch.{batch_at}
use Rattle.record_batch.specs.Fact.{fact_of}
use Rattle.record_batch.specs.Format.{AreBytes}
use Rattle.record_batch.proofs.LoopOfRecords.{whole-batch, no-batch}
use Rattle.record_batch.proofs.read.read_batch.Goals as goal

pub returns-then-count-eq0-clause-err : goal.returns-then-count-eq0-clause-err
returns-then-count-eq0-clause-err c =
    let number = rw c.if-count-eq0.true at c.in-Some.ensures in
    no-batch c.args.bytes.now c.in-Some.behind.now (sym number)

nil-from : (xs : List ℕ) → true ≡ eqb (length xs) 0 → xs ≡ []
nil-from [] e = refl
nil-from (b ∷ bs) e = let none = eqb-true (length (b ∷ bs)) 0 (sym e) in absurd (omega (arith, none))

batch-is : (c : goal.Else-not-is_empty) → batch_at c.args.bytes.now ≡ Some (map fact_of c.in_ok-batch.batch)
batch-is c =
    let some : 0 < c.in-Some.count = omega (arith, c.if-count-eq0.false) in
    whole-batch c.args.bytes.now c.in-Some.behind.now c.in_ok-batch.rest.now c.in-Some.count
    (map fact_of c.in_ok-batch.batch) (sym c.in-Some.ensures) some c.in_ok-batch.ensures.ok.read
    (nil-from c.in_ok-batch.rest.now c.if-not-is_empty.ensures)

are-bytes : (c : goal.Else-not-is_empty) → AreBytes c.args.bytes.now
are-bytes c = record {
  each = λ i. let small : get_or c.args.bytes.now i 0 < 256 = omega (arith, c.type_inv.bytes i) in small;
}

pub returns-clause-ok : goal.returns-clause-ok
returns-clause-ok c = batch-is c

pub returns-clause-written : goal.returns-clause-written
returns-clause-written c =
    c.only_what_is_written_is_read.ensures.text c.args.bytes.now (map fact_of c.in_ok-batch.batch) (are-bytes c)
    (batch-is c)

pub returns-clause-rules : goal.returns-clause-rules
returns-clause-rules c =
    c.only_what_is_written_is_read.ensures.rules c.args.bytes.now (map fact_of c.in_ok-batch.batch) (are-bytes c)
    (batch-is c)
