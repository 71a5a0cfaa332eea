-- The fresh batches of a node's records are those of a node.
use Rattle.std.proofs.Common.{◌≡◌, ℕ, Bool, List, [], ◌∷◌, ◌++◌, length, refl, sym}
use Rattle.std.proofs.Common.{ap, ap₂, subst, ◌∙◌, arith, None, Some, ◌+◌, ◌-◌, ◌^◌, ◌&&◌, ◌||◌, cond, min}
use Rattle.std.proofs.Common.{length-append, true, ◌==◌}
use Rattle.std.specs.Prelude.{nat_le}
use Rattle.std.specs.List.{AllByRecursion, flat_map}
use Rattle.std.proofs.lemmas.Bool.{and_parts, leb-true}
use Rattle.node_laws.specs.Sizes.Typed.{AreKept, IsTyped}
use Rattle.record_batch.specs.Batch.{batch_text}
use Rattle.record_batch.specs.Fact.{Fact, Made, Creating, Created, Granted, Accepted, Acked, Received, Closing}
use Rattle.record_batch.specs.Fact.{ClosedOut, Closed, Ending, EndedOut, Ended, Failed, Consumed, Dropped, Purged}
use Rattle.record_batch.specs.Writable.{IsBatch, IsNumber32, IsWritable}
use Rattle.record_batch.specs.Snapshot.EachLemmas.{each-acked, each-purged, keeps}
use Rattle.record_batch.specs.Snapshot.GotLemmas.{purge-set}
use Rattle.record_batch.specs.Snapshot.Snapshot.{left_acked, passed, snapshot}
use Rattle.rm_disk.specs.Call.{Call}
use Rattle.rm_disk.specs.Journal.Entries.{AllFit, block}
use Rattle.rm_disk.specs.Journal.EntryLemmas.{fit_rest}
use Rattle.rm_disk.specs.Journal.Journal.{fits_before}
use Rattle.rm_disk.specs.Journal.JournalState.{end_of}
use Rattle.rm_protocol.specs.AloneLemmas.{records-alone}
use Rattle.rm_protocol.specs.Calls.{StoreFull}
use Rattle.rm_protocol.specs.Compact.{fit_as_entries as fit_by, fits_before as before_by, list_size}
use Rattle.rm_protocol.specs.Node.{Node, alone, end_of as end_of_batches, node_end, records_in}
use Rattle.rm_protocol.specs.Terms.{Terms}
use Rattle.record_batch.specs.Sequences.Fits.{all_fit, fits, follows_at}
use Rattle.record_batch.specs.Sequences.Sources.{accepted_count}
use Rattle.node_laws.specs.OwnTerms.{AreOwn}
use Rattle.node_laws.specs.Records.{AreValues, HasValues, IsKept}
use Rattle.node_laws.specs.Snapshots.Kept.{SnapshotIsKept}
use Rattle.node_store.specs.Has.{AreOfNode, entries_of, Has, Holds}
use Rattle.node_store.specs.Rewrites.{fit_as_entries, fresh_batches, fresh_entries, fresh_size, IsRewrittenAs}
use Rattle.node_store.specs.Rewrites.{rewrite_refusal}
use Rattle.node_store.specs.Stored.{Stored}
use Rattle.node_store.proofs.HasLemmas.{all_places, end_of-batches, FitsReadBack, length-blocks}
use Rattle.node_store.proofs.RewriteLemmas.{all_fit_of, fit_of, place_is}

-- ---- values that are as their types keep them

-- the values of a record of a snapshot that it has of the record in whose place it stands
abbrev IsTypedBut : Fact → Type 0
IsTypedBut (Acked seq ranges) = IsNumber32 seq
IsTypedBut (Dropped seq upto) = IsNumber32 seq
IsTypedBut (Purged seq ranges) = IsNumber32 seq
IsTypedBut f = IsTyped f

typed_of : (f : Fact) → IsWritable f → IsTypedBut f
typed_of (Made node to) h = h
typed_of (Creating ticket to v l offer) h = h
typed_of (Created seq ident accept) h = (h.0, h.1)
typed_of (Granted counter message_id acks_to v deadline l None) h = (h.0, h.1, h.3, h.4, tt)
typed_of (Granted counter message_id acks_to v deadline l (Some o)) h = (h.0, h.1, h.3, h.4, h.5.0)
typed_of (Accepted seq t) h = h.0
typed_of (Acked seq rs) h = h.0
typed_of (Received seq number p) h = (h.0, h.1)
typed_of (Closing seq ticket) h = h
typed_of (ClosedOut seq) h = h
typed_of (Closed seq v last) h = h
typed_of (Ending seq ticket) h = h
typed_of (EndedOut seq) h = h
typed_of (Ended seq v last) h = h
typed_of (Failed seq fault) h = h
typed_of (Consumed seq upto) h = h
typed_of (Dropped seq upto) h = h.0
typed_of (Purged seq rs) h = h.0

all_typed : (facts : List Fact) → AllByRecursion IsWritable facts → (more : List Fact)
    → AllByRecursion IsTypedBut more → AllByRecursion IsTypedBut (facts ++ more)
all_typed [] h more typed = typed
all_typed (f ∷ facts) h more typed = (typed_of f h.0, all_typed facts h.1 more typed)

typed_in : (batches : List (List Fact)) → AllByRecursion IsBatch batches
    → AllByRecursion IsTypedBut (records_in batches)
typed_in [] are = tt
typed_in (batch ∷ batches) are =
    all_typed batch are.0.counted.each (records_in batches) (typed_in batches are.1)

-- ---- the values of a snapshot

-- the other values of a record are as they have to be where it may come after others
typed_where : (r : List Fact) (f : Fact) → IsTypedBut f → HasValues f → fits r f ≡ true → IsTyped f
typed_where r (Acked seq ranges) typed values fit = (typed, values)
typed_where r (Dropped seq upto) typed values fit =
    let parts = and_parts (follows_at r seq (Dropped seq upto))
    ((accepted_count r seq == 0) && (nat_le 1 upto && nat_le upto 9223372036854775807)) fit in
    let more = and_parts (accepted_count r seq == 0) (nat_le 1 upto && nat_le upto 9223372036854775807) parts.1 in
    let ends = and_parts (nat_le 1 upto) (nat_le upto 9223372036854775807) more.1 in
    (typed, omega (arith, leb-true upto 9223372036854775807 ends.1))
typed_where r (Purged seq ranges) typed values fit = (typed, purge-set r seq ranges fit)
typed_where r f typed values fit = typed

each_typed : (r l : List Fact) → AllByRecursion IsTypedBut l → AreValues l → all_fit r l ≡ true
    → AllByRecursion IsTyped l
each_typed r [] typed values fit = tt
each_typed r (f ∷ l) typed values fit =
    let parts = and_parts (fits r f) (all_fit (r ++ f ∷ []) l) fit in
    (typed_where r f typed.0 values.0 parts.0, each_typed (r ++ f ∷ []) l typed.1 values.1 parts.1)

typed_short : (r : List Fact) → AllByRecursion IsTypedBut r → IsKept (snapshot r)
    → AllByRecursion IsTyped (snapshot r)
typed_short r typed kept =
    each_typed [] (snapshot r) (keeps IsTypedBut r [] r (record {
      acks_ = λ s ranges has. each-acked IsTypedBut s (left_acked r s) has;
      accepts = λ s p from has. has;
      drops = λ s u has. has;
      receives = λ s n p has. each-purged IsTypedBut s (passed r s) has.0;
      purges = λ s ranges has. each-purged IsTypedBut s (passed r s) has;
    }) typed) kept.values kept.node.fit

-- ---- each record as a batch

batches_alone : FitsReadBack → (r : List Fact) → AllFit (entries_of (alone r)) → AllByRecursion IsTyped r
    → AllByRecursion AreKept r → AllByRecursion IsBatch (alone r)
batches_alone reads [] fit typed kept = tt
batches_alone reads (f ∷ r) fit typed kept = (
  reads (f ∷ []) (λ e. cc) (omega (arith, fit 0 [] (omega arith))) (typed.0, tt) (kept.0, tt),
  batches_alone reads r (fit_rest (batch_text (f ∷ [])) (entries_of (alone r)) fit) typed.1 kept.1,
)

-- those of the snapshot of a node's records are batches of a node
pub fresh_of_node : FitsReadBack → SnapshotIsKept → (batches : List (List Fact)) (past : List Call) (old : Stored)
    → Has batches past old → rewrite_refusal old ≡ None → AreOfNode (fresh_batches old.records)
fresh_of_node reads short batches past old has none =
    let r = old.records in
    let is : records_in batches ≡ r = sym has.holds.records in
    let kept = short r (subst IsKept is has.are.kept) in
    let typed = subst (AllByRecursion IsTypedBut) is (typed_in batches has.are.each) in
    record {
      each = batches_alone reads (snapshot r) (all_fit_of (entries_of (alone (snapshot r))) (fit_of old none))
          (typed_short r typed kept)
          (all_places [] (snapshot r) kept.node.each);
      kept = subst IsKept (sym (records-alone (snapshot r))) kept;
    }

-- ---- as the protocol has it

fit_same : (terms : Terms) → AreOwn terms → (batches : List (List Fact))
    → fit_by terms batches ≡ fit_as_entries (entries_of batches)
fit_same terms own [] = refl
fit_same terms own (batch ∷ batches) =
    ap (λ (n : ℕ). nat_le n 4194304 && fit_by terms batches) (own.size batch)
    ∙ ap (λ (b : Bool). nat_le (length (batch_text batch)) 4194304 && b) (fit_same terms own batches)

-- the place, whether it may be, and why not
pub as_protocol : (terms : Terms) → AreOwn terms → (batches : List (List Fact)) (past : List Call) (old : Stored)
    (x : Node) → Holds batches past old → x.entries ≡ batches → x.start ≡ old.journal.bank.start
    → IsRewrittenAs terms x old
as_protocol terms own batches past old x holds are at =
    let r = records_in x.entries in
    let same : r ≡ old.records = ap records_in are ∙ sym holds.records in
    let total = fresh_size old.records in
    let size : list_size terms x ≡ total =
    omega (
      arith,
      length-blocks terms own 0 (fresh_batches r),
      length-append (flat_map block (fresh_entries r)) (0 ∷ []),
      ap fresh_size same,
    ) in
    let end : node_end terms x ≡ end_of old.journal =
    ap (λ (l : List (List Fact)). end_of_batches terms x.start l) are
    ∙ ap (λ (k : ℕ). end_of_batches terms k batches) at
    ∙ end_of-batches terms own batches past old holds in
    let before : before_by terms x ≡ fits_before old.journal total =
    ap (λ (n : ℕ). nat_le (25 + n) x.start) size ∙ ap (λ (k : ℕ). nat_le (25 + total) k) at in
    let fit : fit_by terms (fresh_batches r) ≡ fit_as_entries (fresh_entries old.records) =
    fit_same terms own (fresh_batches r) ∙ ap (λ (l : List Fact). fit_as_entries (fresh_entries l)) same in
    let within : nat_le (node_end terms x + 1 + list_size terms x) 268435456
    ≡ nat_le (end_of old.journal + 1 + total) 268435456 =
    ap₂ (λ (e n : ℕ). nat_le (e + 1 + n) 268435456) end size in
    record {
      start = ap₂ (λ (b : Bool) (e : ℕ). cond b 25 (e + 1)) before end;
      may = ap₂ (λ (f p : Bool). f && p) fit
          (ap₂ (λ (b w : Bool). b || w) before within ∙ sym (place_is old.journal total));
      cause = ap₂ (λ (e n : ℕ). StoreFull e (min (n + 1) (2 ^ 64 - 1))) end size;
    }
