-- A node whose journal is written anew keeps what it keeps, and what becomes of it.
use Rattle.std.proofs.Common.{◌≡◌, ◌⊎◌, inl, inr, ℕ, ◌&&◌, Bool, true, false, cond, List, [], Option, Some, None}
use Rattle.std.proofs.Common.{refl, sym, ap, subst, ◌∙◌}
use Rattle.std.specs.Prelude.{is_ok, IsTrue, MatchBool, Result, Ok, Err}
use Rattle.rm_disk.specs.Call.{Call}
use Rattle.rm_disk.specs.Cause.{HasCause}
use Rattle.rm_disk.specs.Told.{Told}
use Rattle.record_batch.specs.Fact.{Fact}
use Rattle.record_batch.specs.Snapshot.Snapshot.{snapshot}
use Rattle.rm_protocol.specs.Calls.{Done, StoreFull}
use Rattle.rm_protocol.specs.Exact.{StaysExactInShort}
use Rattle.node_laws.specs.Snapshots.Kept.{KeptHasProper, SnapshotIsKept}
use Rattle.node_store.specs.Has.{AreOfNode, Has}
use Rattle.node_store.specs.Rewrites.{Answers, disk_failed, fit_as_entries, fresh_batches, fresh_entries, fresh_size}
use Rattle.node_store.specs.Rewrites.{has_place, rewrite_refusal, Rewrites, rewritten}
use Rattle.node_store.specs.Stored.{Stored}
use Rattle.node_store.specs.declared.error.RewriteError.{RewriteError}
use Rattle.node_store.specs.declared.error.RewriteError.TheVariants as rewrite
use Rattle.rm_node.specs.Compacted.{Compacts, EndsWith, IsCompacted}
use Rattle.rm_node.specs.Ends.{Ended, Handed, Refused, Wanted, Broke, WasDown, is_broken, is_handed}
use Rattle.rm_node.specs.Noded.{Noded, Runs}
use Rattle.rm_node.specs.Timed.{IsKeptRight}
use Rattle.rm_node.specs.declared.kept.Kept.{Kept}
use Rattle.rm_node.proofs.TimedLemmas.{exact-cells, exact-waits}

-- ---- what the node keeps

-- the same keys wait by what the records say in short
kept_short : SnapshotIsKept → KeptHasProper → StaysExactInShort → (r : List Fact) (k : Kept) → IsKeptRight r k
    → IsKeptRight (snapshot r) k
kept_short short proper exact r k right =
    let t = right.timed in
    record {
      timed = record {
        kept = short r t.kept;
        waits = t.waits;
        stands = t.stands;
        exact = exact-cells (snapshot r) k.timers t.waits t.stands
            (exact r t.waits t.kept.node.fit (proper r t.kept) (exact-waits r k.timers t.waits t.exact t.stands));
      };
    }

kept_so : SnapshotIsKept → KeptHasProper → StaysExactInShort → (old : Stored) (k : Kept) (ok failed : Bool)
    → IsKeptRight old.records k → IsKeptRight (rewritten old ok failed).records k
kept_so short proper exact old k true failed right = kept_short short proper exact old.records k right
kept_so short proper exact old k false true right = right
kept_so short proper exact old k false false right = right

pub kept_rewritten : SnapshotIsKept → KeptHasProper → StaysExactInShort → (old new : Stored) (k : Kept)
    (ok failed : Bool) → new ≡ rewritten old ok failed → IsKeptRight old.records k → IsKeptRight new.records k
kept_rewritten short proper exact old new k ok failed e right =
    subst (λ (s : Stored). IsKeptRight s.records k) (sym e) (kept_so short proper exact old k ok failed right)

-- ---- how it ends

-- by what the store answers
abbrev pub rewrite_end : {T : Type 0} → Result T RewriteError → Ended
rewrite_end (Ok value) = Handed Done None []
rewrite_end (Err rewrite.Memory) = Wanted
rewrite_end (Err rewrite.Disk) = Broke
rewrite_end (Err (rewrite.Full end needed)) = Refused (StoreFull end needed)

-- none, or that the journal is full
abbrev refusal_if : Bool → (end needed : ℕ) → Option RewriteError
refusal_if may end needed = cond may None (Some (rewrite.Full end needed))

ends_with : {T : Type 0} (may : Bool) (end needed : ℕ) (result : Result T RewriteError)
    → Answers (refusal_if may end needed) result → EndsWith (refusal_if may end needed) (rewrite_end result)
ends_with true end needed (Ok value) h = (refl, refl, refl)
ends_with true end needed (Err rewrite.Memory) h = tt
ends_with true end needed (Err rewrite.Disk) h = tt
ends_with true end needed (Err (rewrite.Full a b)) h = absurd cc
ends_with false end needed (Ok value) h = absurd cc
ends_with false end needed (Err rewrite.Memory) h = tt
ends_with false end needed (Err rewrite.Disk) h = absurd cc
ends_with false end needed (Err (rewrite.Full a b)) h = let p : a ≡ end = cc in let q : b ≡ needed = cc in cc

none_refused : {T : Type 0} (may : Bool) (end needed : ℕ) (result : Result T RewriteError)
    → Answers (refusal_if may end needed) result → (is_ok result ≡ true) ⊎ (disk_failed result ≡ true)
    → refusal_if may end needed ≡ None
none_refused true end needed result h well = refl
none_refused false end needed (Ok value) h well = absurd cc
none_refused false end needed (Err rewrite.Memory) h well = elim well [ inl e ↦ absurd cc | inr e ↦ absurd cc ]
none_refused false end needed (Err rewrite.Disk) h well = absurd cc
none_refused false end needed (Err (rewrite.Full a b)) h well =
    elim well [ inl e ↦ absurd cc | inr e ↦ absurd cc ]

handed_is : {T : Type 0} (result : Result T RewriteError) → is_handed (rewrite_end result) ≡ is_ok result
handed_is (Ok value) = refl
handed_is (Err rewrite.Memory) = refl
handed_is (Err rewrite.Disk) = refl
handed_is (Err (rewrite.Full a b)) = refl

broken_is : {T : Type 0} (result : Result T RewriteError) → is_broken (rewrite_end result) ≡ disk_failed result
broken_is (Ok value) = refl
broken_is (Err rewrite.Memory) = refl
broken_is (Err rewrite.Disk) = refl
broken_is (Err (rewrite.Full a b)) = refl

-- the fresh batches of a node are those of a node, where its journal may be written anew
abbrev pub FreshOfNode : Type 0
FreshOfNode =
    (batches : List (List Fact)) (past : List Call) (old : Stored) → Has batches past old
    → rewrite_refusal old ≡ None → AreOfNode (fresh_batches old.records)

-- ---- the call

-- a node that is up
pub compacts : {T : Type 0} → FreshOfNode → (tells : Bool) (first now : Told) (old : Noded) (store : Stored)
    (result : Result T RewriteError) → Answers (rewrite_refusal old.stored) result
    → store ≡ rewritten old.stored (is_ok result) (disk_failed result)
    → (IsTrue tells → Rewrites first now old.stored store (is_ok result) (disk_failed result))
    → Compacts tells first now old (record { stored = store; kept = old.kept }) (rewrite_end result)
compacts law tells first now old store result answers stored rewrites =
    let s = old.stored in
    let may = fit_as_entries (fresh_entries s.records) && has_place s.journal (fresh_size s.records) in
    let handed = handed_is result in
    let broken = broken_is result in
    record {
      ends = ends_with may _ _ result answers;
      kept = refl;
      stored = stored ∙ sym (ap (λ (b : Bool). rewritten s b (disk_failed result)) handed)
          ∙ sym (ap (λ (b : Bool). rewritten s (is_handed (rewrite_end result)) b) broken);
      rewrites = λ t. subst (λ (b : Bool). Rewrites first now s store b (is_broken (rewrite_end result))) (sym handed)
          (subst (λ (b : Bool). Rewrites first now s store (is_ok result) b) (sym broken) (rewrites t));
      next = λ well batches has. law batches first.past s has (none_refused may _ _ result answers (elim well [
        | inl e ↦ inl (sym handed ∙ e)
        | inr e ↦ inr (sym broken ∙ e)
      ]));
    }

match_up : (b : Bool) (P Q : Type 0) → b ≡ false → Q → MatchBool b P Q
match_up true P Q e q = absurd cc
match_up false P Q e q = q

match_down : (b : Bool) (P Q : Type 0) → b ≡ true → P → MatchBool b P Q
match_down true P Q e p = p
match_down false P Q e p = absurd cc

pub is_compacted : {T : Type 0} → FreshOfNode → (tells : Bool) (first now : Told) (old : Noded) (store : Stored)
    (result : Result T RewriteError) → Runs old → old.stored.journal.is_down ≡ false
    → Answers (rewrite_refusal old.stored) result
    → store ≡ rewritten old.stored (is_ok result) (disk_failed result)
    → (IsTrue tells → Rewrites first now old.stored store (is_ok result) (disk_failed result))
    → HasCause first.faults now.faults (disk_failed result)
    → IsCompacted tells first now old (record { stored = store; kept = old.kept }) (rewrite_end result)
is_compacted law tells first now old store result runs up answers stored rewrites cause = record {
  does = match_up old.stored.journal.is_down _ _ up (compacts law tells first now old store result answers stored
      rewrites);
  runs = runs;
  cause = subst (λ (b : Bool). HasCause first.faults now.faults b) (sym (broken_is result)) cause;
  crashes = λ t. (rewrites t).crashes;
}

-- a node that is down
pub sleeps_on : (tells : Bool) (first : Told) (old : Noded) → Runs old → old.stored.journal.is_down ≡ true
    → HasCause first.faults first.faults false → IsCompacted tells first first old old WasDown
sleeps_on tells first old runs down cause = record {
  does = match_down old.stored.journal.is_down _ _ down (record { ends = refl; node = refl; disk = refl });
  runs = runs;
  cause = cause;
  crashes = λ t. refl;
}

-- the same, where the node is told by its parts
pub compacted_at : {T : Type 0} → FreshOfNode → (tells : Bool) (first now : Told) (parts old : Noded) (store : Stored)
    (result : Result T RewriteError) → parts ≡ old → Runs old → parts.stored.journal.is_down ≡ false
    → Answers (rewrite_refusal parts.stored) result
    → store ≡ rewritten parts.stored (is_ok result) (disk_failed result)
    → (IsTrue tells → Rewrites first now parts.stored store (is_ok result) (disk_failed result))
    → HasCause first.faults now.faults (disk_failed result)
    → IsCompacted tells first now old (record { stored = store; kept = parts.kept }) (rewrite_end result)
compacted_at law tells first now parts old store result same runs up answers stored rewrites cause =
    subst (λ (n : Noded). IsCompacted tells first now n (record { stored = store; kept = parts.kept })
    (rewrite_end result)) same
    (is_compacted law tells first now parts store result (subst Runs (sym same) runs) up answers stored rewrites cause)
