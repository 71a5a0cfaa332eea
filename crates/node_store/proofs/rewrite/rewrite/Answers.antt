use Rattle.std.proofs.Common.{◌≡◌, ◌∙◌, ap, inl, inr, refl}
use Rattle.std.proofs.lemmas.Result.{err_from_is_err_and}
use Rattle.record_batch.specs.Snapshot.Snapshot.{snapshot}
use Rattle.node_store.specs.Rewrites.{fresh_entries}
use Rattle.node_store.specs.Stored.{stored}
use Rattle.node_store.proofs.RewriteLemmas.{broken_rewrites, done_rewrites, refused_by, still_rewrites}
use Rattle.node_store.proofs.rewrite.rewrite.Goals as goal

pub returns-in_err-entries-clause-rewrites : goal.returns-in_err-entries-clause-rewrites
returns-in_err-entries-clause-rewrites g c tells =
    let p = err_from_is_err_and c.from_residual.result c.from_residual.ensures.1 in
    refused_by _ (stored c.args.journal.now c.args.tables.now.records) _ c.from_residual.result p.0 _ p.1 p.2
    c.in_err-entries.ensures.early

pub returns-in-Err-Memory-clause-rewrites : goal.returns-in-Err-Memory-clause-rewrites
returns-in-Err-Memory-clause-rewrites g c tells =
    let same = c.in-Err-Memory.ensures.untouched tells (λ e. let f = c.in-Err-Memory.field-0-is in cc) in
    let cause = rw c.in-Err-Memory.field-0-is at c.in-Err-Memory.ensures.cause in
    still_rewrites _ _ (stored c.args.journal.now c.args.tables.now.records) _ same.0 same.1 cause.cause

pub returns-in-Err-Disk-clause-rewrites : goal.returns-in-Err-Disk-clause-rewrites
returns-in-Err-Disk-clause-rewrites g c tells =
    let are : c.deref.result.now ≡ fresh_entries c.args.tables.now.records =
    c.deref.ensures.value ∙ c.in_ok-entries.ensures.entries in
    broken_rewrites _ _ (stored c.args.journal.now c.args.tables.now.records) _ c.deref.result.now are
    (c.in-Err-Disk.ensures.moments tells) (c.in-Err-Disk.ensures.fuse tells (inr (rw c.in-Err-Disk.field-0-is refl)))
    (c.in-Err-Disk.ensures.crashes tells)

pub returns-clause-rewrites : goal.returns-clause-rewrites
returns-clause-rewrites g c tells =
    let are : c.deref.result.now ≡ fresh_entries c.args.tables.now.records =
    c.deref.ensures.value ∙ c.in_ok-entries.ensures.entries in
    done_rewrites _ _ (stored c.args.journal.now c.args.tables.now.records)
    c.compact.new.self c.compact-2.new.self.records c.deref.result.now are (c.in-Ok.ensures.moments tells)
    (c.in-Ok.ensures.ok tells) (c.compact-2.ensures.records ∙ ap snapshot c.prepare.ensures.records)
    (c.in-Ok.ensures.fuse tells (inl refl)) (c.in-Ok.ensures.crashes tells)
