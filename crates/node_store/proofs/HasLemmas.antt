-- Batches, and the records that they have.
use Rattle.std.proofs.Common.{◌≡◌, ◌≢◌, inl, inr, ℕ, ◌+◌, ◌≤◌, List, [], ◌∷◌, ◌++◌, length}
use Rattle.std.proofs.Common.{Some, None, refl, sym, ap, subst, ◌∙◌, arith, length-append}
use Rattle.std.specs.List.{AllByRecursion, flat_map}
use Rattle.std.proofs.lemmas.Grind.{flat_map-append}
use Rattle.std.proofs.lemmas.List.{append-nil, map-append}
use Rattle.node_laws.specs.Sizes.Room.{HasRoom}
use Rattle.node_laws.specs.Sizes.Typed.{AreKept, IsTyped}
use Rattle.record_batch.specs.Batch.{batch_at, batch_text}
use Rattle.record_batch.specs.Fact.{Fact, Made, Creating, Created, Granted, Accepted, Acked, Received, Closing}
use Rattle.record_batch.specs.Fact.{ClosedOut, Closed, Ending, EndedOut, Ended, Failed, Consumed, Dropped, Purged}
use Rattle.record_batch.specs.Writable.{IsBatch, IsWritable}
use Rattle.rm_disk.specs.Call.{Call}
use Rattle.rm_disk.specs.Journal.Entries.{Bank, block}
use Rattle.rm_disk.specs.Journal.EntryLemmas.{end_is, length-block, stands_for_one}
use Rattle.rm_disk.specs.Journal.JournalState.{end_of}
use Rattle.rm_protocol.specs.Node.{records_in, end_of as end_of_batches}
use Rattle.rm_protocol.specs.Terms.{Terms}
use Rattle.node_laws.specs.OwnTerms.{AreOwn}
use Rattle.node_laws.specs.Records.{AreValues, HasValues, IsKept, KeepsLimits}
use Rattle.node_store.specs.Has.{AreOfNode, entries_of, Has, Holds, StandsForBatches, StandsForBatchesAt}
use Rattle.node_store.specs.Stored.{Stored, with_batch}

-- what is written of a batch is read again
abbrev pub ReadsBack : Type 0
ReadsBack = (facts : List Fact) → IsBatch facts → batch_at (batch_text facts) ≡ Some facts

pub some_is : (x y : List Fact) → Some x ≡ Some y → x ≡ y
some_is x y e = cc

-- batches of the same texts are the same
pub same_batches : ReadsBack → (a b : List (List Fact)) → AllByRecursion IsBatch a → AllByRecursion IsBatch b
    → entries_of a ≡ entries_of b → a ≡ b
same_batches reads [] [] are_a are_b e = refl
same_batches reads [] (y ∷ b) are_a are_b e = absurd cc
same_batches reads (x ∷ a) [] are_a are_b e = absurd cc
same_batches reads (x ∷ a) (y ∷ b) are_a are_b e =
    let text : batch_text x ≡ batch_text y = cc in
    let rest : entries_of a ≡ entries_of b = cc in
    let first : x ≡ y = some_is x y (sym (reads x are_a.0) ∙ ap batch_at text ∙ reads y are_b.0) in
    let others = same_batches reads a b are_a.1 are_b.1 rest in
    ap (λ (l : List (List Fact)). x ∷ l) others ∙ ap (λ (z : List Fact). z ∷ b) first

-- bytes stand for one list of batches
pub one_list : ReadsBack → (a b : List (List Fact)) (bytes : List ℕ) → AllByRecursion IsBatch a
    → AllByRecursion IsBatch b → StandsForBatches a bytes → StandsForBatches b bytes → a ≡ b
one_list reads a b bytes are_a are_b for_a for_b =
    same_batches reads a b are_a are_b
    (stands_for_one for_a.bank for_b.bank (entries_of a) (entries_of b) bytes for_a.stands for_b.stands).1

-- in one bank
pub one_bank : (x y : Bank) (a b : List (List Fact)) (bytes : List ℕ) → StandsForBatchesAt x a bytes
    → StandsForBatchesAt y b bytes → x ≡ y
one_bank x y a b bytes for_a for_b = (stands_for_one x y (entries_of a) (entries_of b) bytes for_a for_b).0

-- one batch more is one entry more
pub entries_of-push : (batches : List (List Fact)) (delta : List Fact)
    → entries_of (batches ++ delta ∷ []) ≡ entries_of batches ++ batch_text delta ∷ []
entries_of-push batches delta = map-append batch_text batches (delta ∷ [])

-- and its records behind the others
pub records_in-push : (batches : List (List Fact)) (delta : List Fact)
    → records_in (batches ++ delta ∷ []) ≡ records_in batches ++ delta
records_in-push batches delta =
    flat_map-append (λ (batch : List Fact). batch) batches (delta ∷ [])
    ∙ ap (λ (l : List Fact). records_in batches ++ l) (append-nil delta)

pub length-blocks : (terms : Terms) → AreOwn terms → (start : ℕ) (batches : List (List Fact))
    → end_of_batches terms start batches ≡ start + length (flat_map block (entries_of batches))
length-blocks terms own start [] = omega arith
length-blocks terms own start (batch ∷ batches) =
    omega (
      arith,
      own.size batch,
      length-blocks terms own start batches,
      length-append (block (batch_text batch)) (flat_map block (entries_of batches)),
      length-block (batch_text batch),
    )

-- the journal ends where its batches do
pub end_of-batches : (terms : Terms) → AreOwn terms → (batches : List (List Fact)) (past : List Call) (stored : Stored)
    → Holds batches past stored → end_of_batches terms stored.journal.bank.start batches ≡ end_of stored.journal
end_of-batches terms own batches past stored holds =
    length-blocks terms own stored.journal.bank.start batches
    ∙ sym (end_is stored.journal (entries_of batches) holds.journal.gates)

values_of : (f : Fact) → IsWritable f → HasValues f
values_of (Made node to) h = h.1
values_of (Creating ticket to v l offer) h = h.1
values_of (Created seq ident accept) h = h.1
values_of (Granted counter message_id acks_to v deadline l None) h = (h.1, tt)
values_of (Granted counter message_id acks_to v deadline l (Some o)) h = (h.1, h.5.0)
values_of (Accepted seq t) h = tt
values_of (Acked seq rs) h = h.1.canonical
values_of (Received seq number p) h = tt
values_of (Closing seq ticket) h = tt
values_of (ClosedOut seq) h = tt
values_of (Closed seq v last) h = tt
values_of (Ending seq ticket) h = tt
values_of (EndedOut seq) h = tt
values_of (Ended seq v last) h = tt
values_of (Failed seq fault) h = tt
values_of (Consumed seq upto) h = tt
values_of (Dropped seq upto) h = tt
values_of (Purged seq rs) h = tt

all_values : (facts : List Fact) → AllByRecursion IsWritable facts → (more : List Fact) → AreValues more
    → AreValues (facts ++ more)
all_values [] h more values = values
all_values (f ∷ facts) h more values = (values_of f h.0, all_values facts h.1 more values)

-- the records of batches have values of their types
pub values_in : (batches : List (List Fact)) → AllByRecursion IsBatch batches → AreValues (records_in batches)
values_in [] are = tt
values_in (batch ∷ batches) are =
    all_values batch are.0.counted.each (records_in batches) (values_in batches are.1)

all_more : {A : Type 0} (P : A → Type 0) (xs : List A) (x : A) → AllByRecursion P xs → P x
    → AllByRecursion P (xs ++ x ∷ [])
all_more P [] x h p = (p, tt)
all_more P (y ∷ xs) x h p = (h.0, all_more P xs x h.1 p)

-- endpoints that keep their limits
kept_places : (f : Fact) → KeepsLimits f → AreKept f
kept_places (Made node to) h = tt
kept_places (Creating ticket to v l offer) h = tt
kept_places (Created seq ident None) h = tt
kept_places (Created seq ident (Some e)) h = (h, tt)
kept_places (Granted counter message_id acks_to v deadline l None) h = (h.0, tt)
kept_places (Granted counter message_id acks_to v deadline l (Some o)) h = (h.0, (h.2, tt))
kept_places (Accepted seq t) h = tt
kept_places (Acked seq rs) h = tt
kept_places (Received seq number p) h = tt
kept_places (Closing seq ticket) h = tt
kept_places (ClosedOut seq) h = tt
kept_places (Closed seq v last) h = tt
kept_places (Ending seq ticket) h = tt
kept_places (EndedOut seq) h = tt
kept_places (Ended seq v last) h = tt
kept_places (Failed seq fault) h = tt
kept_places (Consumed seq upto) h = tt
kept_places (Dropped seq upto) h = tt
kept_places (Purged seq rs) h = tt

pub all_places : (r delta : List Fact) → AllByRecursion KeepsLimits (r ++ delta) → AllByRecursion AreKept delta
all_places [] [] h = tt
all_places [] (f ∷ delta) h = (kept_places f h.0, all_places [] delta h.1)
all_places (f ∷ r) delta h = all_places r delta h.1

-- a batch that fits, of values as their types keep them, is read back where its endpoints may be written
abbrev pub FitsReadBack : Type 0
FitsReadBack =
    (facts : List Fact) → facts ≢ [] → length (batch_text facts) ≤ 4294967295 → AllByRecursion IsTyped facts
    → AllByRecursion AreKept facts → IsBatch facts

more_of_node : (batches : List (List Fact)) (delta : List Fact) → AreOfNode batches → IsBatch delta
    → IsKept (records_in batches ++ delta) → AreOfNode (batches ++ delta ∷ [])
more_of_node batches delta are batch kept = record {
  each = all_more IsBatch batches delta are.each batch;
  kept = subst IsKept (sym (records_in-push batches delta)) kept;
}

-- the batches of a node with one more, unless it is empty
pub one_more : FitsReadBack → (batches : List (List Fact)) (past : List Call) (old : Stored) (delta : List Fact)
    → Has batches past old → HasRoom (end_of old.journal) delta → AllByRecursion IsTyped delta
    → IsKept (old.records ++ delta) → AreOfNode (with_batch batches delta)
one_more reads batches past old [] has room typed kept = has.are
one_more reads batches past old (f ∷ delta) has (inl none) typed kept = absurd cc
one_more reads batches past old (f ∷ delta) has (inr within) typed kept =
    let batch = reads (f ∷ delta) (λ e. cc) (omega (arith, within.short)) typed
    (all_places old.records (f ∷ delta) kept.node.each) in
    more_of_node batches (f ∷ delta) has.are batch
    (subst (λ (r : List Fact). IsKept (r ++ f ∷ delta)) has.holds.records kept)
