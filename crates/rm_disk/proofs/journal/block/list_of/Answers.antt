use Rattle.std.proofs.Common.{◌≡◌, ◌∙◌, ℕ, ◌<◌, List, [], ◌++◌, length, get_or, ap, arith}
use Rattle.std.proofs.lemmas.List.{get_or_default}
use Rattle.rm_disk.specs.Journal.Entries.{block}
use Rattle.rm_disk.proofs.JournalLemmas.Written.{entry_ends, written_more}
use Rattle.rm_disk.proofs.journal.block.list_of.Goals as goal

-- an item of a list, whatever the default
item : (xs : List (List ℕ)) (k : ℕ) (x : List ℕ) → k < length xs → x ≡ get_or xs k x → x ≡ get_or xs k []
item xs k x low is = is ∙ get_or_default xs k x [] low

pub overflow_add-at-in-loop-k : goal.overflow_add-at-in-loop-k
overflow_add-at-in-loop-k c =
    let fresh = c.args.fresh.now in
    let size = c.len.ensures ∙ ap length (item fresh c.loop-k.k _ c.loop-k-test.true c.index-fresh-k-in-loop-k.is) in
    let ends = entry_ends c.args.start fresh c.loop-k.k c.loop-k.at _ _ c.loop-k.invariant c.loop-k-test.true
    c.len.result size in
    omega (arith, ends, c.requires.fits)

pub loop-k-preserved : goal.loop-k-preserved
loop-k-preserved c =
    let fresh = c.args.fresh.now in
    let size = c.len.ensures ∙ ap length (item fresh c.loop-k.k _ c.loop-k-test.true c.index-fresh-k-in-loop-k.is) in
    let entry = c.as_slice.ensures ∙ item fresh c.loop-k.k _ c.loop-k-test.true c.index-fresh-k.is in
    written_more c.args.start fresh c.loop-k.k c.loop-k.at _ _ c.loop-k.invariant c.loop-k-test.true c.len.result size
    _ _ (c.in_ok-push_block.ensures ∙ ap (λ (e : List ℕ). c.loop-k.bytes.items ++ block e) entry)
    c.in_ok-push.ensures.items
