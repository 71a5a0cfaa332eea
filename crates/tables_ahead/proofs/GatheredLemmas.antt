-- What is gathered record by record, of two lists of records.
use Rattle.std.proofs.Common.{◌≡◌, ℕ, ◌+◌, ◌==◌, Bool, true, false, cond, List, [], ◌∷◌, ◌++◌, length}
use Rattle.std.proofs.Common.{refl, sym, ap, ◌∙◌, arith, Some}
use Rattle.std.specs.Prelude.{◌||◌, not}
use Rattle.std.specs.List.{flat_map, list_all}
use Rattle.std.proofs.lemmas.Bool.{and_parts, false≢true}
use Rattle.node_tables.specs.Room.{has_room}
use Rattle.std.specs.Option.{option_or}
use Rattle.std.specs.Str.{bytes_eq}
use Rattle.std.proofs.Math.Bool.{or_assoc}
use Rattle.std.proofs.lemmas.Grind.{flat_map-append}
use Rattle.std.proofs.lemmas.List.{append-nil, append_assoc, length-append, map-append}
use Rattle.rm_sides.specs.declared.ranges.range.Range.{Range}
use Rattle.rm_sides.specs.Ranges.Changes.{with_range, united}
use Rattle.rm_base.specs.NumberSet.{has_number}
use Rattle.rm_base.specs.declared.message.Payload.{Payload}
use Rattle.rm_sides.specs.Destination.ItemLemmas.{numbers_of-both, numbers_of-there}
use Rattle.rm_sides.specs.Destination.Messages.{items_of, numbers_in, ranges_onto}
use Rattle.record_batch.specs.Fact.{Fact, Dropped, Purged}
use Rattle.rm_sides.specs.Destination.Messages.{is_empty, numbers_of}
use Rattle.record_batch.specs.Sequences.Words.{Text, at_seq, last_or}
use Rattle.record_batch.specs.Sequences.Makers.{makers, makers_of, counter, draws_of}
use Rattle.record_batch.specs.Sequences.Makers.{created, created_of, created_from, seq_in}
use Rattle.record_batch.specs.Sequences.Sources.{accepted, accepted_count, accepted_of, acked, acked_of, dropped}
use Rattle.record_batch.specs.Sequences.Sources.{dropped_of}
use Rattle.rm_sides.specs.Destination.Messages.{any_true}
use Rattle.record_batch.specs.Sequences.Destinations.{close_of, closes, has_end, held, is_stopped, items, purged}
use Rattle.record_batch.specs.Sequences.Destinations.{purged_of}
use Rattle.record_batch.specs.Sequences.Destinations.{received, received_of}
use Rattle.record_batch.specs.Sequences.Find.{find_outgoing}
use Rattle.record_batch.specs.Sequences.GatherLemmas.{at_seq-append, united-append}

-- what is gathered for one sequence
pub gathered_at : {A : Type 0} (s : ℕ) (g : Fact → List (ℕ × A)) (r d : List Fact)
    → at_seq s (flat_map g (r ++ d)) ≡ at_seq s (flat_map g r) ++ at_seq s (flat_map g d)
gathered_at s g r d = ap (at_seq s) (flat_map-append g r d) ∙ at_seq-append s (flat_map g r) (flat_map g d)

pub makers-both : (r d : List Fact) → makers (r ++ d) ≡ makers r ++ makers d
makers-both r d = flat_map-append makers_of r d

pub makers-count : (r d : List Fact) → length (makers (r ++ d)) ≡ length (makers r) + length (makers d)
makers-count r d = ap length (makers-both r d) ∙ length-append (makers r) (makers d)

pub counter-both : (r d : List Fact) → counter (r ++ d) ≡ counter r + counter d
counter-both r d =
    ap length (flat_map-append draws_of r d) ∙ length-append (flat_map draws_of r) (flat_map draws_of d)

pub created_from-both : (k : ℕ) (r d : List Fact)
    → created_from k (r ++ d) ≡ created_from k r ++ created_from (k + length (makers r)) d
created_from-both k [] d = ap (λ n. created_from n d) (let e : k ≡ k + 0 = omega arith in e)
created_from-both k (f ∷ r) d =
    let rest = created_from-both (k + length (makers_of f)) r d in
    let count : k + length (makers_of f) + length (makers r) ≡ k + length (makers (f ∷ r)) =
    omega (arith, length-append (makers_of f) (makers r)) in
    ap (λ cs. created_of k f ++ cs) rest
    ∙ sym (append_assoc (created_of k f) (created_from (k + length (makers_of f)) r) _)
    ∙ ap (λ n. (created_of k f ++ created_from (k + length (makers_of f)) r) ++ created_from n d) count

pub created-both : (r d : List Fact) → created (r ++ d) ≡ created r ++ created_from (length (makers r)) d
created-both r d =
    let count : 0 + length (makers r) ≡ length (makers r) = omega arith in
    created_from-both 0 r d ∙ ap (λ n. created r ++ created_from n d) count

pub seq_in-append : (xs ys : List (ℕ × Text)) (q : Text) → seq_in (xs ++ ys) q ≡ option_or (seq_in xs q) (seq_in ys q)
seq_in-append [] ys q = refl
seq_in-append (x ∷ xs) ys q =
    let rest = seq_in-append xs ys q in
    elim (bytes_eq x.1 q) as (λ b. cond b (Some x.0) (seq_in (xs ++ ys) q)
    ≡ option_or (cond b (Some x.0) (seq_in xs q)) (seq_in ys q)) [
      | true ↦ refl
      | false ↦ rest
    ]

-- records for which room can be made say of no message that it is gone
live_each : {A : Type 0} (g : Fact → List A) → ((f : Fact) → has_room f ≡ true → g f ≡ []) → (d : List Fact)
    → list_all has_room d ≡ true → flat_map g d ≡ []
live_each g none [] live = refl
live_each g none (f ∷ d) live =
    let parts = and_parts (has_room f) (list_all has_room d) live in
    ap (λ xs. xs ++ flat_map g d) (none f parts.0) ∙ live_each g none d parts.1

not_dropped : (s : ℕ) (f : Fact) → has_room f ≡ true → dropped_of s f ≡ []
not_dropped s (Dropped seq upto) live = absurd (false≢true live)
not_dropped s f live = refl

not_purged : (s : ℕ) (f : Fact) → has_room f ≡ true → purged_of s f ≡ []
not_purged s (Purged seq ranges) live = absurd (false≢true live)
not_purged s f live = refl

dropped-first : (r d : List Fact) (s : ℕ) → list_all has_room d ≡ true → dropped (r ++ d) s ≡ dropped r s
dropped-first r d s live =
    ap (λ ds. last_or 0 ds) (flat_map-append (dropped_of s) r d
    ∙ ap (λ ds. flat_map (dropped_of s) r ++ ds) (live_each (dropped_of s) (not_dropped s) d live)
    ∙ append-nil (flat_map (dropped_of s) r))

purged-first : (r d : List Fact) (s : ℕ) → list_all has_room d ≡ true → purged (r ++ d) s ≡ purged r s
purged-first r d s live =
    flat_map-append (purged_of s) r d
    ∙ ap (λ ps. purged r s ++ ps) (live_each (purged_of s) (not_purged s) d live)
    ∙ append-nil (purged r s)

pub accepted-both : (r d : List Fact) (s : ℕ) → list_all has_room d ≡ true
    → accepted_count (r ++ d) s ≡ accepted_count r s + length (accepted d s)
accepted-both r d s live =
    omega (
      arith,
      dropped-first r d s live,
      ap length (flat_map-append (accepted_of s) r d),
      length-append (accepted r s) (accepted d s),
    )

pub acked-both : (r d : List Fact) (s : ℕ)
    → united [] (acked (r ++ d) s) ≡ united (united [] (acked r s)) (acked d s)
acked-both r d s = ap (united []) (flat_map-append (acked_of s) r d) ∙ united-append [] (acked r s) (acked d s)

pub held-both : (r d : List Fact) (s : ℕ) → list_all has_room d ≡ true
    → held (r ++ d) s ≡ held r s ++ numbers_of (received d s)
held-both r d s live =
    numbers_of-both (numbers_in (purged (r ++ d) s)) (received (r ++ d) s)
    ∙ ap (λ ps. numbers_in ps ++ numbers_of (received (r ++ d) s)) (purged-first r d s live)
    ∙ ap (λ ms. numbers_in (purged r s) ++ numbers_of ms) (flat_map-append (received_of s) r d)
    ∙ ap (λ ns. numbers_in (purged r s) ++ ns)
    (map-append (λ (m : ℕ × Payload). m.0) (received r s) (received d s))
    ∙ sym (append_assoc (numbers_in (purged r s)) (numbers_of (received r s)) (numbers_of (received d s)))
    ∙ ap (λ ns. ns ++ numbers_of (received d s)) (sym (numbers_of-both (numbers_in (purged r s)) (received r s)))

pub has_number-append : (xs ys : List ℕ) (n : ℕ) → has_number (xs ++ ys) n ≡ (has_number xs n || has_number ys n)
has_number-append [] ys n = refl
has_number-append (x ∷ xs) ys n =
    ap (λ b. (x == n) || b) (has_number-append xs ys n) ∙ sym (or_assoc (x == n) (has_number xs n) (has_number ys n))

pub has-both : (r d : List Fact) (s n : ℕ) → list_all has_room d ≡ true
    → has_number (held (r ++ d) s) n ≡ (has_number (held r s) n || has_number (numbers_of (received d s)) n)
has-both r d s n live =
    ap (λ ns. has_number ns n) (held-both r d s live)
    ∙ has_number-append (held r s) (numbers_of (received d s)) n

pub ranges_onto-append : (rs : List Range) (xs ys : List ℕ)
    → ranges_onto rs (xs ++ ys) ≡ ranges_onto (ranges_onto rs xs) ys
ranges_onto-append rs [] ys = refl
ranges_onto-append rs (x ∷ xs) ys = ranges_onto-append (with_range rs x x) xs ys

pub any_true-append : (xs ys : List Bool) → any_true (xs ++ ys) ≡ (any_true xs || any_true ys)
any_true-append [] ys = refl
any_true-append (x ∷ xs) ys =
    ap (λ b. x || b) (any_true-append xs ys) ∙ sym (or_assoc x (any_true xs) (any_true ys))

pub some-append : {A : Type 0} (xs ys : List A) → not (is_empty (xs ++ ys)) ≡ (not (is_empty xs) || not (is_empty ys))
some-append [] ys = refl
some-append (x ∷ xs) ys = refl

pub stopped-both : (r d : List Fact) (s : ℕ) → is_stopped (r ++ d) s ≡ (is_stopped r s || is_stopped d s)
stopped-both r d s =
    ap (λ cs. not (is_empty cs)) (gathered_at s close_of r d) ∙ some-append (closes r s) (closes d s)

pub end-both : (r d : List Fact) (s : ℕ) → has_end (r ++ d) s ≡ (has_end r s || has_end d s)
end-both r d s = ap any_true (gathered_at s close_of r d) ∙ any_true-append (closes r s) (closes d s)

pub outgoing-both : (r d : List Fact) (q : Text)
    → find_outgoing (r ++ d) q ≡ option_or (find_outgoing r q) (seq_in (created_from (length (makers r)) d) q)
outgoing-both r d q =
    ap (λ cs. seq_in cs q) (created-both r d) ∙ seq_in-append (created r) (created_from (length (makers r)) d) q

-- where no message is ahead, all that was received is the same
pub items-first : (r d : List Fact) (s : ℕ) → list_all has_room d ≡ true → received d s ≡ []
    → items (r ++ d) s ≡ items r s
items-first r d s live none =
    ap (λ ps. items_of ps (received (r ++ d) s)) (purged-first r d s live)
    ∙ ap (λ ms. items_of (purged r s) ms) (flat_map-append (received_of s) r d
    ∙ ap (λ ms. received r s ++ ms) none ∙ append-nil (received r s))
