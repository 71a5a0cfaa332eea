-- What a mount finds, and where it finds none.
use Rattle.std.proofs.Common.{◌≡◌, ℕ, ◌+◌, ◌<◌, ◌≤◌, ◌^◌, List, [], ◌∷◌, length}
use Rattle.std.proofs.Common.{refl, sym, ap, subst, ◌∙◌, arith, length-append, drop, Bool, Result, Err, IsTrue}
use Rattle.std.specs.List.{AllByRecursion, flat_map}
use Rattle.record_batch.specs.Batch.{batch_text}
use Rattle.record_batch.specs.Fact.{Fact}
use Rattle.record_batch.specs.Writable.{IsBatch}
use Rattle.rm_disk.specs.Call.{Call, seen_of}
use Rattle.rm_disk.specs.Journal.Entries.{block, list_of, StandsAsBefore, StandsAt}
use Rattle.rm_disk.specs.Journal.EntryLemmas.{end_is, ends_one, length-block}
use Rattle.rm_disk.specs.Journal.Journal.{AnswersImport, Fits, HasRoomFor, IsTooLong as IsLongBefore}
use Rattle.rm_disk.specs.declared.journal.error.JournalError.{JournalError}
use Rattle.rm_disk.specs.declared.journal.error.JournalError.TheVariants.{Full}
use Rattle.rm_disk.specs.Journal.JournalState.{JournalState, end_of, journal_of}
use Rattle.rm_protocol.specs.Node.{records_in}
use Rattle.record_batch.specs.Sequences.Makers.{counter}
use Rattle.node_laws.specs.Records.{AreValues, IsKept}
use Rattle.node_store.specs.Has.{AreOfNode, entries_of, Has}
use Rattle.node_store.specs.Imported.{Imports, IsTooLong, ServesAsBefore}
use Rattle.node_store.specs.declared.error.ImportError.TheVariants.{Full as FullBefore}
use Rattle.node_store.specs.Mounted.{AreReplayed, AreReplayedFrom, AreServed, Finds, KeepsWindows, Replays}
use Rattle.node_store.specs.Stored.{IsServing, stored}
use Rattle.node_store.proofs.CommitLemmas.{DrawsFew, counter-more}
use Rattle.node_store.proofs.HasLemmas.{ReadsBack, same_batches}

-- the records of batches that are read back have values of their types
abbrev pub HaveValues : Type 0
HaveValues = (batches : List (List Fact)) → AllByRecursion IsBatch batches → AreValues (records_in batches)

-- the records of batches that were read, whatever the disk tells, are those of a node
pub kept_of : HaveValues → (journal : JournalState) (r : List Fact) → AreReplayedFrom r → IsServing journal r
    → KeepsWindows r → IsKept r
kept_of values journal r from serving windows =
    let replays = from.replays in
    let kept = subst KeepsWindows replays.records windows in
    subst IsKept (sym replays.records) (record {
      node = record {
        begins = (subst (IsServing journal) replays.records serving).begins;
        fit = replays.replayed.fit;
        each = replays.replayed.kept;
        sequences = kept.sequences;
        window = λ s. (kept.each s).window;
        windows = kept.windows;
        near = λ s. (kept.each s).near;
      };
      values = values replays.batches replays.replayed.each;
    })

-- the batches that were read are those of a node
pub served : HaveValues → (entries : List (List ℕ)) (journal : JournalState) (r : List Fact) → Replays entries r
    → IsServing journal r → KeepsWindows r → AreServed entries r
served values entries journal r replays serving windows = record {
  batches = replays.batches;
  node = record {
    each = replays.replayed.each;
    kept = subst IsKept replays.records
        (kept_of values journal r (record { entries = entries; replays = replays }) serving windows);
  };
  are = replays.replayed.are;
  records = replays.records;
}

-- and the disk has them
has_served : (now : List Call) (entries : List (List ℕ)) (journal : JournalState) (r : List Fact)
    → Fits entries now journal → (are : AreServed entries r) → Has are.batches now (stored journal r)
has_served now entries journal r fits are = record {
  holds = record {
    journal = subst (λ (es : List (List ℕ)). Fits es now journal) are.are fits;
    records = are.records;
  };
  are = are.node;
}

-- as it had them when it read
pub found : (old now : List Call) (entries : List (List ℕ)) (journal : JournalState) (r : List Fact)
    → StandsAt journal.bank entries (seen_of old) → Fits entries now journal → AreServed entries r
    → Finds old now (stored journal r)
found old now entries journal r stands fits are = record {
  batches = are.batches;
  were = subst (λ (es : List (List ℕ)). StandsAt journal.bank es (seen_of old)) are.are stands;
  has = has_served now entries journal r fits are;
}

-- what was read of bytes is what a disk was made of
pub imported : (tells : Bool) (bytes : List ℕ) (now : List Call) (entries : List (List ℕ)) (journal : JournalState)
    (r : List Fact) → ServesAsBefore bytes r → StandsAsBefore entries bytes → journal ≡ journal_of entries
    → (IsTrue tells → Fits entries now journal) → Imports tells bytes now (stored journal r)
imported tells bytes now entries journal r reads stands is fits =
    let are = reads.served in
    let same = ends_one entries reads.entries (drop 8 bytes) stands.ends reads.stands.ends in
    record {
      batches = are.batches;
      were = subst (λ (es : List (List ℕ)). StandsAsBefore es bytes) are.are reads.stands;
      are = are.node;
      journal = is ∙ ap journal_of (same ∙ are.are);
      records = are.records;
      has = λ t. has_served now reads.entries journal r
          (subst (λ (es : List (List ℕ)). Fits es now journal) same (fits t)) are;
    }

-- and a node may go on from it
pub serves_on : (bytes : List ℕ) (entries : List (List ℕ)) (journal : JournalState) (r : List Fact)
    → ServesAsBefore bytes r → StandsAsBefore entries bytes → journal ≡ journal_of entries → IsServing journal r
serves_on bytes entries journal r reads stands is =
    subst (λ (j : JournalState). IsServing j r)
    (ap journal_of (ends_one reads.entries entries (drop 8 bytes) reads.stands.ends stands.ends) ∙ sym is) reads.serving

-- a journal that was made of such bytes ends within what memory can hold, and behind its start
pub ends_before : (journal : JournalState) (entries : List (List ℕ)) → journal ≡ journal_of entries
    → 25 + length (list_of entries) ≤ 268435456 → (end_of journal < 2 ^ 61) × (journal.bank.start ≤ end_of journal)
ends_before journal entries is fit =
    let end : end_of journal ≡ 25 + length (flat_map block entries) =
    ap end_of is ∙ end_is (journal_of entries) entries refl in
    let start : journal.bank.start ≡ 25 = ap (λ (j : JournalState). j.bank.start) is in
    (omega (arith, end, length-append (flat_map block entries) (0 ∷ [])), omega (arith, end, start))

-- what an import answered, where it is an error
pub answers_at : (bytes : List ℕ) (answer : Result JournalState JournalError) (error given : JournalError)
    → answer ≡ Err error → error ≡ given → AnswersImport bytes answer → AnswersImport bytes (Err given)
answers_at bytes answer error given is same answers =
    subst (AnswersImport bytes) (is ∙ ap (λ e. Err e) same) answers

-- why such a journal is not made
pub too_long : (bytes : List ℕ) (end needed : ℕ) → IsLongBefore bytes (Full end needed)
    → IsTooLong bytes (FullBefore end needed)
too_long bytes end needed long = record {
  entries = long.entries;
  stands = long.stands;
  long = long.long;
  is = same long.entries long.is;
}
  where
    same : (entries : List (List ℕ)) → Full end needed ≡ Full 25 (length (list_of entries))
        → FullBefore end needed ≡ FullBefore 25 (length (list_of entries))
    same entries e = cc

-- where a journal has room for one list that bytes of the layout before stand for, it has for each
pub has_room : (one other : List (List ℕ)) (bytes : List ℕ) → HasRoomFor one bytes → StandsAsBefore other bytes
    → 25 + length (list_of other) ≤ 268435456
has_room one other bytes room stands =
    subst (λ l. 25 + length (list_of l) ≤ 268435456)
    (ends_one one other (drop 8 bytes) room.stands.ends stands.ends) room.short

-- ---- the batches of a node

-- they are replayed
pub replayed_of : (batches : List (List Fact)) (entries : List (List ℕ)) → AreOfNode batches
    → entries ≡ entries_of batches → AreReplayed batches entries
replayed_of batches entries node are = record {
  are = are;
  each = node.each;
  fit = node.kept.node.fit;
  kept = node.kept.node.each;
}

-- they have the records that were read
pub same_records : ReadsBack → (batches : List (List Fact)) (entries : List (List ℕ)) (r : List Fact)
    → AreReplayed batches entries → Replays entries r → r ≡ records_in batches
same_records reads batches entries r are replays =
    replays.records
    ∙ ap records_in (same_batches reads replays.batches batches replays.replayed.each are.each
    (sym replays.replayed.are ∙ are.are))

pub draws_few : DrawsFew → (batches : List (List Fact))
    → counter (records_in batches) ≤ length (flat_map block (entries_of batches))
draws_few few [] = omega arith
draws_few few (b ∷ batches) =
    omega (
      arith,
      few b,
      draws_few few batches,
      counter-more b (records_in batches),
      length-append (block (batch_text b)) (flat_map block (entries_of batches)),
      length-block (batch_text b),
    )

-- a node may go on from them
pub serving_of : DrawsFew → (batches : List (List Fact)) (entries : List (List ℕ)) (past : List Call)
    (journal : JournalState) (r : List Fact) → AreOfNode batches → AreReplayed batches entries
    → Fits entries past journal → r ≡ records_in batches → end_of journal < 2 ^ 61 → IsServing journal r
serving_of few batches entries past journal r node are fits records short =
    let gates = subst (λ (es : List (List ℕ)). Fits es past journal) are.are fits in
    let end = end_is journal (entries_of batches) gates.gates in
    subst (IsServing journal) (sym records) (record {
      begins = node.kept.node.begins;
      drawn = omega (arith, draws_few few batches, end);
      short = short;
      placed = omega (arith, end);
    })

-- they keep their windows
pub windows_of : (batches : List (List Fact)) (r : List Fact) → AreOfNode batches → r ≡ records_in batches
    → KeepsWindows r
windows_of batches r node records =
    let kept = node.kept.node in
    subst KeepsWindows (sym records) (record {
      sequences = kept.sequences;
      windows = kept.windows;
      each = λ s. record { window = kept.window s; near = kept.near s };
    })
