use Rattle.std.proofs.Common.{◌≡◌, ◌∙◌, ℕ, ◌-◌, ◌++◌, List, cond, slice_index, length, take, drop, ap, arith}
use Rattle.std.proofs.Common.{length-append, length-take, length-drop}
use Rattle.std.proofs.lemmas.List.{take_all}
use Rattle.rm_disk.specs.Call.{is_written}
use Rattle.rm_disk.proofs.History.{patched}
use Rattle.rm_disk.proofs.mem.settle.Goals as goal

pub returns-clause-bytes : goal.returns-clause-bytes
returns-clause-bytes c =
    let low = c.args.low in
    let file = c.args.file.now in
    let synced = c.args.synced.now.items in
    let rest : take (length file - low) (drop low file) ≡ drop low file =
    take_all (length file - low) (drop low file) (omega (arith, length-drop low file)) in
    let there : c.append.new.items.items ≡ take low synced ++ drop low file =
    c.append.ensures.items
    ∙ ap (λ (l : List ℕ). l ++ take (length file - low) (drop low file)) c.truncate.ensures.items
    ∙ ap (λ (l : List ℕ). take low synced ++ l) rest in
    let size : length c.append.new.items.items ≡ length file =
    ap length there ∙ omega (
      arith,
      length-append (take low synced) (drop low file),
      length-take low synced,
      length-drop low file,
    ) in
    patched file synced c.patch.new.target.items c.args.ranges.now low c.requires.file c.requires.synced
    c.requires.alike (c.patch.ensures.length ∙ size) λ i inside.
    c.patch.ensures.each i (omega (arith, size))
    ∙ ap (λ (l : List ℕ). cond (is_written c.args.ranges.now i) (slice_index file i) (slice_index l i)) there
