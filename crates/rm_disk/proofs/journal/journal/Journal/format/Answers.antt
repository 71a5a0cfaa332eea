use Rattle.std.proofs.Common.{◌∙◌, List, ◌∷◌, ap}
use Rattle.rm_disk.specs.Call.{Call, Synced, Wrote, CutTo, state}
use Rattle.rm_disk.specs.Journal.Entries.{first_bytes}
use Rattle.rm_disk.proofs.JournalLemmas.Crash.{empty_journal}
use Rattle.rm_disk.proofs.journal.journal.Journal.format.Goals as goal

pub returns-clause-fits : goal.returns-clause-fits
returns-clause-fits g c tells =
    let old = (g.D.Disk.told c.args.disk.now).past in
    let new = (g.D.Disk.told c.sync.new.self).past in
    let cut = c.in_ok-cut.ensures.past tells
    ∙ ap (λ (l : List Call). CutTo 0 ∷ l) (c.in_ok-reserve.ensures.past tells) in
    let wrote = c.in_ok-write_at.ensures.past tells ∙ ap (λ (l : List Call). Wrote 0 first_bytes ∷ l) cut in
    let calls = c.in_ok-sync.ensures.past tells ∙ ap (λ (l : List Call). Synced ∷ l) wrote in
    record { gates = c.new.ensures.items; images = empty_journal old new calls }

pub returns-clause-bytes : goal.returns-clause-bytes
returns-clause-bytes g c tells =
    let cut = c.in_ok-cut.ensures.past tells
    ∙ ap (λ (l : List Call). CutTo 0 ∷ l) (c.in_ok-reserve.ensures.past tells) in
    let wrote = c.in_ok-write_at.ensures.past tells ∙ ap (λ (l : List Call). Wrote 0 first_bytes ∷ l) cut in
    ap state (c.in_ok-sync.ensures.past tells ∙ ap (λ (l : List Call). Synced ∷ l) wrote)
