-- Records are read one by one, up to the one that can't be read.
use Rattle.std.proofs.Common.{◌≡◌, ℕ, suc, ◌+◌, ◌-◌, ◌<◌, ◌≤◌, List, [], ◌∷◌, length, Some, None, refl, sym, ap, ◌∙◌}
use Rattle.std.proofs.Common.{arith}
use Prim.Native.Nat.{zero}
use Rattle.soap_writer.specs.Values.Outcome.{◌>>=◌}
use Rattle.record_batch.specs.Batch.{fact, fact_at, all_of, batch_at}
use Rattle.record_batch.specs.Fact.{Fact}
use Rattle.record_batch.specs.Format.{Format, number32, read_items}
use Rattle.record_batch.specs.Refused.{unread, refused_place}
use Rattle.record_batch.proofs.FormatLaws.{bound_is}
use Rattle.record_batch.proofs.Loops.{with_front}

-- what is left to be read tells what all of it is
pub record IsReadSoFar (count i : ℕ) (behind : List ℕ) (facts : List Fact) (rest : List ℕ) : Type 0 where
  pub read : with_front facts (read_items fact (count - i) rest) ≡ read_items fact count behind
  pub place : unread (count - i) rest ≡ unread count behind

one-more : (n : ℕ) (bytes : List ℕ) (x : Fact) (after : List ℕ) → fact_at bytes ≡ Some (x, after)
    → unread (suc n) bytes ≡ unread n after
unfolding unread
one-more n bytes x after e = rw e refl

none-there : (n : ℕ) (bytes : List ℕ) → fact_at bytes ≡ None → unread (suc n) bytes ≡ bytes
unfolding unread
none-there n bytes e = rw e refl

none-left : (bytes : List ℕ) → unread 0 bytes ≡ bytes
unfolding unread
none-left bytes = refl

pub place-goes_on : (count i : ℕ) (bytes : List ℕ) (x : Fact) (after total : List ℕ) → i < count
    → fact_at bytes ≡ Some (x, after) → unread (count - i) bytes ≡ total → unread (count - (i + 1)) after ≡ total
place-goes_on count i bytes x after total lt e so_far =
    let k : count - i ≡ suc (count - (i + 1)) = omega arith in
    let here = rw k at so_far in
    sym (one-more (count - (i + 1)) bytes x after e) ∙ here

pub place-stops : (count i : ℕ) (bytes total : List ℕ) → i < count → fact_at bytes ≡ None
    → unread (count - i) bytes ≡ total → bytes ≡ total
place-stops count i bytes total lt e so_far =
    let k : count - i ≡ suc (count - (i + 1)) = omega arith in
    let here = rw k at so_far in
    sym (none-there (count - (i + 1)) bytes e) ∙ here

pub place-ends : (count i : ℕ) (bytes total : List ℕ) → count ≤ i → unread (count - i) bytes ≡ total → bytes ≡ total
place-ends count i bytes total le so_far =
    let k : count - i ≡ 0 = omega arith in
    let here = rw k at so_far in
    sym (none-left bytes) ∙ here

-- ---- the whole batch

count-is : {A : Type 0} (f : Format A) (n : ℕ) (bytes : List ℕ) (xs : List A) (rest : List ℕ)
    → read_items f n bytes ≡ Some (xs, rest) → length xs ≡ n
unfolding read_items
count-is {A} f zero bytes xs rest e =
    let front : List A × List ℕ = ([], bytes) in
    let whole : front ≡ (xs, rest) = cc in
    ap (λ (z : List A × List ℕ). length z.0) (sym whole)
count-is {A} f (suc n) bytes xs rest e =
    let a = bound_is (f.read bytes) (λ x. read_items f n x.1 >>= λ xs. Some (x.0 ∷ xs.0, xs.1)) (xs, rest) e in
    let b = bound_is (read_items f n a.0.1) (λ xs. Some (a.0.0 ∷ xs.0, xs.1)) (xs, rest) a.2 in
    let front : List A × List ℕ = (a.0.0 ∷ b.0.0, b.0.1) in
    let whole : front ≡ (xs, rest) = cc (b.2) in
    ap (λ (z : List A × List ℕ). length z.0) (sym whole) ∙ ap suc (count-is f n a.0.1 b.0.0 b.0.1 b.1)

all-of : (facts : List Fact) (n : ℕ) → length facts ≡ n → 0 < n → all_of (facts, []) ≡ Some facts
all-of [] n e some = absurd (omega (arith, e, some))
all-of (f ∷ facts) n e some = refl

none-of : (rest : List ℕ) → all_of ([], rest) ≡ None
none-of [] = refl
none-of (b ∷ rest) = refl

-- all were read, and nothing stands behind them
pub whole-batch : (bytes behind rest : List ℕ) (count : ℕ) (facts : List Fact)
    → number32.read bytes ≡ Some (count, behind) → 0 < count → read_items fact count behind ≡ Some (facts, rest)
    → rest ≡ [] → batch_at bytes ≡ Some facts
unfolding batch_at
whole-batch bytes behind rest count facts number some read none =
    let long = count-is fact count behind facts rest read in
    rw (number, read, none) (all-of facts count long some)

-- there are none
pub no-batch : (bytes behind : List ℕ) → number32.read bytes ≡ Some (0, behind)
    → (batch_at bytes ≡ None) × (0 ≡ refused_place bytes)
unfolding batch_at refused_place read_items
no-batch bytes behind number = (rw number (none-of behind), rw number refl)
