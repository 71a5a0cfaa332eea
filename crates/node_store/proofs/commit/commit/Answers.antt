use Rattle.std.proofs.Common.{◌≡◌, ◌∙◌, Err, List, ◌++◌, map, refl, ap, inl, inr}
use Rattle.node_store.specs.declared.error.StoreError.TheVariants.{Memory as WantsMemory}
use Rattle.std.proofs.lemmas.Result.{err_from_is_err_and}
use Rattle.record_batch.specs.Batch.{batch_text}
use Rattle.record_batch.specs.Fact.{Fact, fact_of}
use Rattle.record_batch.specs.declared.record.Record.{Record}
use Rattle.node_store.specs.Stored.{stored}
use Rattle.node_store.proofs.CommitLemmas.{broken_changes, grown_changes, refused_changes, still_changes}
use Rattle.node_store.proofs.commit.commit.Goals as goal

pub returns-in_err-reserve-clause-changes : goal.returns-in_err-reserve-clause-changes
returns-in_err-reserve-clause-changes g c tells =
    let p = err_from_is_err_and c.from_residual.result c.from_residual.ensures.1 in
    refused_changes _ (stored c.args.journal.now c.args.tables.now.records) _ _ c.from_residual.result p.0 p.1 p.2

pub returns-in_err-entry-clause-changes : goal.returns-in_err-entry-clause-changes
returns-in_err-entry-clause-changes g c tells =
    let r = c.from_residual-in_err-entry in
    let p = err_from_is_err_and r.result r.ensures.1 in
    refused_changes _ (stored c.args.journal.now c.args.tables.now.records) _ _ r.result p.0 p.1 p.2

pub returns-in-Err-Memory-clause-changes : goal.returns-in-Err-Memory-clause-changes
returns-in-Err-Memory-clause-changes g c tells =
    let same = c.in-Err-Memory.ensures.untouched tells (λ e. let f = c.in-Err-Memory.field-0-is in cc) in
    let cause = rw c.in-Err-Memory.field-0-is at c.in-Err-Memory.ensures.cause in
    still_changes _ _ (stored c.args.journal.now c.args.tables.now.records) _ _ same.0 same.1 cause.cause

pub returns-in-Err-Disk-clause-changes : goal.returns-in-Err-Disk-clause-changes
returns-in-Err-Disk-clause-changes g c tells =
    let text : c.as_slice.result.now ≡ batch_text (map fact_of c.args.batch.items) =
    c.as_slice.ensures ∙ c.in_ok-entry.ensures.text
    ∙ ap (λ (l : List Record). batch_text (map fact_of l)) c.deref-3.ensures.value in
    broken_changes _ _ (stored c.args.journal.now c.args.tables.now.records) _ _ c.as_slice.result.now
    c.requires.some text (c.in-Err-Disk.ensures.moments tells)
    (c.in-Err-Disk.ensures.fuse tells (inr (rw c.in-Err-Disk.field-0-is refl)))
    (c.in-Err-Disk.ensures.crashes tells)

pub returns-clause-changes : goal.returns-clause-changes
returns-clause-changes g c tells =
    let text : c.as_slice.result.now ≡ batch_text (map fact_of c.args.batch.items) =
    c.as_slice.ensures ∙ c.in_ok-entry.ensures.text
    ∙ ap (λ (l : List Record). batch_text (map fact_of l)) c.deref-3.ensures.value in
    let are = c.in-Ok-apply_all.ensures.ok
    ∙ ap (λ (r : List Fact). r ++ map fact_of c.args.batch.items) c.in_ok-reserve.ensures.records in
    grown_changes _ _ (stored c.args.journal.now c.args.tables.now.records) _ _ _ c.as_slice.result.now
    c.requires.some text (c.in-Ok.ensures.moments tells) (c.in-Ok.ensures.ok tells) are
    (c.in-Ok.ensures.fuse tells (inl refl)) (c.in-Ok.ensures.crashes tells)

pub returns-then-not-have_room-clause-changes : goal.returns-then-not-have_room-clause-changes
returns-then-not-have_room-clause-changes g c tells =
    refused_changes {T = Unit {0}} _ (stored c.args.journal.now c.args.tables.now.records) (stored c.args.journal.now
    c.args.tables.now.records) (map fact_of c.args.batch.items) (Err WantsMemory) WantsMemory refl refl
