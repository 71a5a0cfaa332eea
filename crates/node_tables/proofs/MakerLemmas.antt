-- What is read of how sequences came to be.
use Rattle.std.proofs.Common.{◌≡◌, ℕ, zero, suc, ◌+◌, ◌-◌, ◌<◌, ◌==◌, ◌^◌, Bool, true, false, cond, List, []}
use Rattle.std.proofs.Common.{◌∷◌, ◌++◌, length, get_or, drop, sym, ap, subst, ◌∙◌, arith, Some, None}
use Rattle.std.specs.Prelude.{nat_le, nat_lt, slice_get}
use Rattle.std.specs.List.{flat_map}
use Rattle.std.specs.Option.{option_map}
use Rattle.std.proofs.lemmas.Bool.{and_parts, ltb-true, ne_eqb}
use Rattle.std.proofs.lemmas.List.{at_drop_more}
use Rattle.std.proofs.lemmas.Option.{none-some, same_Some, slice_get-get_or}
use Rattle.rm_base.specs.Numbered.{numbered}
use Rattle.record_batch.specs.Fact.{Fact, Made}
use Rattle.rm_sides.specs.Destination.Messages.{is_empty}
use Rattle.record_batch.specs.Sequences.Words.{first_or}
use Rattle.record_batch.specs.Sequences.Find.{find_from}
use Rattle.record_batch.specs.Sequences.Fits.{all_fit, fits}
use Rattle.record_batch.specs.Sequences.Makers.{Maker, maker, makers_of, nodes_of}
use Rattle.node_tables.specs.declared.note.Origin.{Origin}
use Rattle.node_tables.specs.declared.note.Named.{Named}
use Rattle.node_tables.specs.Kept.{AreGiven, AreMade, Holds, IsMade, Table, gives_ident, kept_at, maker_at, no_maker}
use Rattle.node_tables.specs.Kept.{records_in}
use Rattle.node_tables.specs.Reads.{passes}
use Rattle.node_tables.proofs.RowsLemmas.{numbered-map}

made-at : (kept : List Fact) (o : Origin) → IsMade kept o
    → slice_get (makers_of (kept_at kept o.made)) (cond o.is_second 1 0) ≡ Some (maker_at kept o)
made-at kept o lt = slice_get-get_or (makers_of (kept_at kept o.made)) (cond o.is_second 1 0) no_maker lt

made-there : (kept : List Fact) (os : List Origin) (i : ℕ) (o : Origin) → AreMade kept os → slice_get os i ≡ Some o
    → IsMade kept o
made-there kept [] i o h e = absurd (none-some o e)
made-there kept (p ∷ os) zero o h e = subst (IsMade kept) (same_Some p o e) h.0
made-there kept (p ∷ os) (suc i) o h e = made-there kept os i o h.1 e

numbered-made : (kept : List Fact) (os : List Origin) (s : ℕ) (o : Origin) → AreMade kept os → numbered os s ≡ Some o
    → IsMade kept o
numbered-made kept os s o h e =
    elim (s == 0) as (λ b. cond b None (slice_get os (s - 1)) ≡ Some o → IsMade kept o) [
      | true ↦ λ is. absurd (none-some o is)
      | false ↦ λ is. made-there kept os (s - 1) o h is
    ] e

maker-by : (t : Table) (s : ℕ) → Holds t
    → maker (records_in t) s ≡ option_map (maker_at t.kept) (numbered t.origins s)
maker-by t s h = ap (λ ms. numbered ms s) h.makers_ ∙ sym (numbered-map (maker_at t.kept) t.origins s)

-- a sequence that is there
pub maker-some : (t : Table) (s : ℕ) (o : Origin) → Holds t → numbered t.origins s ≡ Some o
    → maker (records_in t) s ≡ slice_get (makers_of (kept_at t.kept o.made)) (cond o.is_second 1 0)
maker-some t s o h e =
    maker-by t s h ∙ ap (λ p. option_map (maker_at t.kept) p) e
    ∙ sym (made-at t.kept o (numbered-made t.kept t.origins s o h.origins_made e))

number_below : (r xs : List Fact) → all_fit r xs ≡ true → first_or 0 (flat_map nodes_of xs) < 2 ^ 60
number_below r [] h = omega arith
number_below r (Made node address ∷ xs) h =
    let fit = (and_parts (fits r (Made node address)) _ h).0 in
    let parts = (and_parts (is_empty r) _ fit).1 in
    ltb-true node (2 ^ 60) (and_parts (nat_le 1 node) (nat_lt node (2 ^ 60)) parts).1
number_below r (f ∷ xs) h = number_below (r ++ f ∷ []) xs (and_parts (fits r f) (all_fit (r ++ f ∷ []) xs) h).1

-- the number of a node has 60 bits
pub number-bits : (t : Table) → Holds t → t.number_ < 2 ^ 60
number-bits t h = subst (λ n. n < 2 ^ 60) (sym h.number_) (number_below [] (records_in t) h.fit)

next : (k : ℕ) → suc k ≡ k + 1
next k = omega arith

-- one more sequence is tried
pub find-step : (f : ℕ → Maker → Bool) (ms : List Maker) (k : ℕ) → k < length ms
    → find_from f k (drop k ms)
    ≡ cond (passes f (k + 1) (numbered ms (k + 1))) (Some (k + 1)) (find_from f (k + 1) (drop (k + 1) ms))
find-step f ms k lt =
    let d = get_or ms k no_maker in
    let there : numbered ms (k + 1) ≡ Some d =
    ap (λ b. cond b None (slice_get ms (k + 1 - 1))) (ne_eqb (k + 1) 0 (λ e. absurd (omega (arith, e))))
    ∙ ap (λ i. slice_get ms i) (let e : k + 1 - 1 ≡ k = omega arith in e)
    ∙ slice_get-get_or ms k no_maker lt in
    at_drop_more (λ xs. find_from f k xs) ms k no_maker lt
    ∙ ap (λ n. cond (f n d) (Some n) (find_from f n (drop (k + 1) ms))) (next k)
    ∙ ap (λ o. cond (passes f (k + 1) o) (Some (k + 1)) (find_from f (k + 1) (drop (k + 1) ms))) (sym there)

-- an identifier is given at each place
pub given-at : (kept : List Fact) (ns : List Named) (i : ℕ) (d : Named) → AreGiven kept ns → i < length ns
    → gives_ident (kept_at kept (get_or ns i d).place) ≡ true
given-at kept [] i d h lt = absurd (omega (arith, lt))
given-at kept (n ∷ ns) zero d h lt = h.0
given-at kept (n ∷ ns) (suc i) d h lt = given-at kept ns i d h.1 (omega (arith, lt))
