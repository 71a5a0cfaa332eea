-- What compact answers, by what became of the node.
use Rattle.std.proofs.Common.{◌≡◌, ◌≢◌, ◌∙◌, ℕ, Bool, true, false, List, length, Option, None, Some, refl, sym, ap}
use Rattle.std.proofs.Common.{subst, inl, inr, [], ◌∷◌}
use Rattle.std.proofs.lemmas.List.{length-map}
use Rattle.std.specs.Prelude.{Ok, Err, IsTrue, MatchBool}
use Rattle.node_laws.specs.declared.answers.answer.Cause.{Cause}
use Rattle.node_laws.specs.declared.answers.answer.Cause.TheVariants as cause
use Rattle.node_store.specs.Has.{Holds}
use Rattle.node_store.specs.Mounted.{Finds}
use Rattle.node_store.specs.Rewrites.{fresh, fresh_bank, fresh_batches, fresh_entries, rewrite_refusal}
use Rattle.node_store.specs.Stored.{Stored}
use Rattle.node_store.specs.declared.error.MountError.{MountError}
use Rattle.node_store.specs.declared.error.MountError.TheVariants as mount
use Rattle.node_store.specs.declared.error.RewriteError.{RewriteError}
use Rattle.node_store.specs.declared.error.RewriteError.TheVariants as rewrite
use Rattle.record_batch.specs.Batch.{batch_text}
use Rattle.record_batch.specs.Fact.{Fact}
use Rattle.record_batch.specs.Snapshot.Snapshot.{snapshot}
use Rattle.rm_disk.specs.Told.{Told}
use Rattle.rm_disk.specs.Journal.EntryLemmas.{length-gates_from}
use Rattle.rm_node.specs.Called.{Sleeps}
use Rattle.rm_node.specs.Compacted.{Compacts, EndsWith, IsCompacted}
use Rattle.rm_node.specs.Ends.{Broke, Ended, Handed, WasDown, error_end}
use Rattle.rm_node.specs.Noded.{Noded}
use Rattle.rm_node.specs.declared.error.NodeError.{NodeError}
use Rattle.rm_node.specs.declared.error.NodeError.TheVariants as node
use Rattle.rm_protocol.specs.Calls.{Done, StoreFull}
use Rattle.rm_host.specs.Compaction.{Compaction, IsRefusal, WroteAnew, failed_end}
use Rattle.rm_host.specs.Ends.{mount_end, node_end}
use Rattle.rm_host.specs.Finding.{Looks, NotFound}
use Rattle.rm_host.specs.Texts.{compacted_line}
use Rattle.rm_host.specs.declared.end.End.{End}
use Rattle.rm_host.specs.declared.end.End.TheVariants as end

-- ---- the call of a node that is up

-- one that is up does what is said of one that is up
pub up-does : (down : Bool) (P Q : Type 0) → down ≡ false → MatchBool down P Q → Q
up-does true P Q up does = absurd cc
up-does false P Q up does = does

-- so it is written anew, or refused
pub of-up : (tells : Bool) (first now : Told) (old new : Noded) (ended : Ended) → old.stored.journal.is_down ≡ false
    → IsCompacted tells first now old new ended → Compacts tells first now old new ended
of-up tells first now old new ended up did =
    up-does old.stored.journal.is_down (Sleeps first now old new ended) (Compacts tells first now old new ended) up
    did.does

-- it has no such end
awake : (refusal : Option RewriteError) → EndsWith refusal WasDown → ⊥
awake None ends = ends
awake (Some rewrite.Memory) ends = ends
awake (Some rewrite.Disk) ends = ends
awake (Some (rewrite.Full end needed)) ends = ends

-- it doesn't answer that it is down
pub up-awake : (refusal : Option RewriteError) (e : NodeError) → EndsWith refusal (error_end e) → e ≢ node.Down
up-awake refusal e ends down = awake refusal (subst (λ (x : NodeError). EndsWith refusal (error_end x)) down ends)

-- so the command ends as the call did
pub ends-so : (e : NodeError) → e ≢ node.Down → error_end e ≡ failed_end (node_end e)
ends-so node.Memory up = refl
ends-so node.Disk up = refl
ends-so node.Down up = absurd (up refl)
ends-so (node.Refused why) up = refl

-- ---- the journal that was written

-- it has an entry for each record
pub fresh-count : (old : Stored) → length (fresh old).journal.gates ≡ length (snapshot old.records)
fresh-count old =
    length-gates_from (fresh_bank old).start (fresh_entries old.records)
    ∙ length-map (fresh_batches old.records) batch_text
    ∙ length-map (snapshot old.records) (λ (f : Fact). f ∷ [])

-- ---- what is answered

-- there is no reason against it, where it ends so
free : (refusal : Option RewriteError) → EndsWith refusal (Handed Done None []) → refusal ≡ None
free None ends = refl
free (Some rewrite.Memory) ends = absurd ends
free (Some rewrite.Disk) ends = absurd ends
free (Some (rewrite.Full end needed)) ends = absurd ends

free-broken : (refusal : Option RewriteError) → EndsWith refusal Broke → refusal ≡ None
free-broken None ends = refl
free-broken (Some rewrite.Memory) ends = absurd ends
free-broken (Some rewrite.Disk) ends = absurd ends
free-broken (Some (rewrite.Full end needed)) ends = absurd ends

-- a node was written anew on a disk that tells
wrote : (tells : Bool) (first mid now : Told) (old new : Noded) → IsTrue tells
    → (IsTrue tells → Finds first.past mid.past old.stored) → Compacts tells mid now old new (Handed Done None [])
    → WroteAnew first now old.stored
wrote tells first mid now old new t found did =
    let f = found t in
    let r = did.rewrites t in
    record {
      writes = record { mounted = mid.past; found = f; moments = r.moments f.batches f.has.holds };
      has = record {
        holds = subst (Holds (fresh_batches old.stored.records) now.past) did.stored
            (r.holds f.batches f.has.holds refl);
        are = did.next (inl refl) f.batches f.has;
      };
    }

-- and the two counts are printed
pub done : (tells : Bool) (first mid now : Told) (old new : Noded) (printed : List ℕ) (before after : ℕ)
    → (IsTrue tells → Finds first.past mid.past old.stored) → Compacts tells mid now old new (Handed Done None [])
    → before ≡ length old.stored.journal.gates → after ≡ length new.stored.journal.gates
    → printed ≡ compacted_line before after → Compaction tells first now (Ok printed)
done tells first mid now old new printed before after found did b a line = record {
  old = old.stored;
  may = free (rewrite_refusal old.stored) did.ends;
  line = line ∙ ap (λ (n : ℕ). compacted_line n after) b ∙ ap (compacted_line (length old.stored.journal.gates)) count;
  wrote = λ t. wrote tells first mid now old new t found did;
}
  where
    count : after ≡ length (snapshot old.stored.records)
    count = a ∙ ap (λ (s : Stored). length s.journal.gates) did.stored ∙ fresh-count old.stored

-- or memory is wanting for what is printed
pub unprinted : (tells : Bool) (first mid now : Told) (old new : Noded)
    → (IsTrue tells → Finds first.past mid.past old.stored) → Compacts tells mid now old new (Handed Done None [])
    → Compaction tells first now (Err end.Memory)
unprinted tells first mid now old new found did = λ t.
    inr (old.stored, free (rewrite_refusal old.stored) did.ends, wrote tells first mid now old new t found did)

-- it may not be: by why the node refused it
refused-so : (refusal : Option RewriteError) (why : Cause) → EndsWith refusal (failed_end (end.Refused why))
    → IsRefusal refusal why
refused-so None why ends = absurd ends
refused-so (Some rewrite.Memory) why ends = absurd ends
refused-so (Some rewrite.Disk) why ends = absurd ends
refused-so (Some (rewrite.Full end needed)) (cause.StoreFull e n) ends =
    let same : StoreFull e n ≡ StoreFull end needed = ends in
    let p : e ≡ end = cc (same) in
    let q : n ≡ needed = cc (same) in
    cc (p, q)
refused-so (Some (rewrite.Full end needed)) why ends = absurd (cc (ends))

-- no node was found
pub unmounted : (tells : Bool) (first now : Told) (e : MountError) → NotFound tells first now e
    → Compaction tells first now (Err (mount_end e))
unmounted tells first now mount.Memory none = λ t. inl (none.looks t)
unmounted tells first now mount.Disk none = λ t. inl (none.looks t)
unmounted tells first now mount.NotAJournal none = none

-- the call of the node that was found failed
pub fails : (tells : Bool) (first mid now : Told) (old new : Noded) (e : End)
    → (IsTrue tells → Finds first.past mid.past old.stored) → (IsTrue tells → Looks first mid)
    → Compacts tells mid now old new (failed_end e)
    → Compaction tells first now (Err e)
fails tells first mid now old new (end.Refused why) found looks did = record {
  old = old.stored;
  refusal = refused-so (rewrite_refusal old.stored) why did.ends;
  found = λ t. subst (λ (x : Told). Finds first.past x.past old.stored) (sym ((did.rewrites t).untouched refl refl))
      (found t);
}
fails tells first mid now old new end.Memory found looks did = λ t.
    inl (subst (Looks first) (sym ((did.rewrites t).untouched refl refl)) (looks t))
fails tells first mid now old new end.DiskFault found looks did = λ t.
    let f = found t in
    inr (
      old.stored,
      free-broken (rewrite_refusal old.stored) did.ends,
      record {
        mounted = mid.past;
        found = f;
        moments = (did.rewrites t).moments f.batches f.has.holds;
      },
    )
fails tells first mid now old new e found looks did = absurd (awake (rewrite_refusal old.stored) did.ends)
