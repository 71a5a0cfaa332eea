use Rattle.std.proofs.Common.{◌≡◌, ◌∙◌, ap, sym, subst}
use Rattle.std.specs.Prelude.{Err}
use Rattle.node_store.specs.declared.error.RewriteError.{RewriteError}
use Rattle.rm_node.specs.Compacted.{IsCompacted, compact_end}
use Rattle.rm_node.specs.Ends.{Ended}
use Rattle.rm_node.specs.Noded.{told}
use Rattle.rm_node.proofs.CalledLemmas.{noded}
use Rattle.rm_node.proofs.CompactLemmas.{compacted_at, kept_rewritten, rewrite_end}
use Rattle.rm_node.proofs.node.Node.compact.Goals.{in-Ok, in-Err-Memory, in-Err-Disk, in-Err-Full}
use Rattle.rm_node.proofs.node.Node.compact.Goals as goal

pub invariant_of-self : goal.invariant_of-self
invariant_of-self g c =
    kept_rewritten c.a_snapshot_is_kept.ensures c.a_node_has_proper_ranges.ensures
    c.what_waits_is_exact_in_short.ensures
    c.self.inside.store c.compact.new.self (told c.self.inside.kept) _ _ c.compact.ensures.stored c.self.invariant

pub returns : goal.returns
returns g c =
    let store = c.compact.new.self in
    let kept = c.self.inside.kept in
    let ends : compact_end c.match-compact.result ≡ rewrite_end c.compact.result = elim c.match-compact.branch [
      | in-Ok w ↦ ap compact_end w.result-is ∙ sym (ap rewrite_end w.in-Ok.is)
      | in-Err-Memory w ↦
          ap compact_end w.result-is
          ∙ sym (ap rewrite_end (w.in-Err-Memory.is ∙ ap (λ (e : RewriteError). Err e) w.in-Err-Memory.field-0-is))
      | in-Err-Disk w ↦
          ap compact_end w.result-is
          ∙ sym (ap rewrite_end (w.in-Err-Disk.is ∙ ap (λ (e : RewriteError). Err e) w.in-Err-Disk.field-0-is))
      | in-Err-Full w ↦
          ap compact_end w.result-is
          ∙ sym (ap rewrite_end (w.in-Err-Full.is ∙ ap (λ (e : RewriteError). Err e) w.in-Err-Full.field-0-is))
    ] in
    subst (λ (ended : Ended). IsCompacted g.D.Disk.tells (g.D.Disk.told c.args.disk.now)
    (g.D.Disk.told c.compact.new.disk) c.args.self.now (noded store kept) ended) (sym ends)
    (compacted_at c.fresh_batches_are_those_of_a_node.ensures g.D.Disk.tells _ _ (noded c.self.inside.store kept)
    c.args.self.now store c.compact.result c.self.view_is c.tables_and_end-place.ensures.runs
    (sym c.is_down.ensures ∙ c.if-is_down.false) c.compact.ensures.refusals c.compact.ensures.stored
    c.compact.ensures.rewrites c.compact.ensures.cause)
