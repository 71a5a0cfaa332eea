use Rattle.std.proofs.Common.{◌≡◌, ℕ, ◌+◌, List, ◌∷◌, ◌++◌, length, sym, ◌∙◌, ap, subst, true, refl, arith}
use Rattle.std.specs.Prelude.{not, is_ok}
use Rattle.std.specs.List.{flat_map}
use Rattle.rm_disk.specs.Call.{seen_of}
use Rattle.rm_disk.specs.Image.{MayLeave}
use Rattle.rm_disk.specs.Journal.Entries.{block, list_of, StandsAt, gates_from}
use Rattle.rm_disk.specs.Journal.EntryLemmas.{end_is}
use Rattle.rm_disk.specs.Journal.JournalState.{end_of}
use Rattle.rm_disk.proofs.JournalLemmas.Rows.{gate_inside, gates_from-row, nothing_added, row_bytes, row_calls}
use Rattle.rm_disk.proofs.JournalLemmas.Rows.{row_done, row_moments}
use Rattle.rm_disk.proofs.JournalLemmas.Rows.{row_up}
use Rattle.rm_disk.proofs.journal.journal.Journal.append_all.Goals as goal

pub returns-in-Some-clause-moments : goal.returns-in-Some-clause-moments
returns-in-Some-clause-moments g c tells entries fits =
    nothing_added _ _ c.args.self.now entries (entries ++ c.args.added.now) fits refl

pub returns-in_err-list-clause-moments : goal.returns-in_err-list-clause-moments
returns-in_err-list-clause-moments g c tells entries fits =
    nothing_added _ _ c.args.self.now entries (entries ++ c.args.added.now) fits refl

pub returns-in_err-reserve-clause-moments : goal.returns-in_err-reserve-clause-moments
returns-in_err-reserve-clause-moments g c tells entries fits =
    nothing_added _ _ c.args.self.now entries (entries ++ c.args.added.now) fits refl

pub returns-in_err-reserve-2-clause-moments : goal.returns-in_err-reserve-2-clause-moments
returns-in_err-reserve-2-clause-moments g c tells entries fits =
    nothing_added _ _ c.args.self.now entries (entries ++ c.args.added.now) fits (c.in_err-reserve-2.ensures.past tells)

pub write_block-requires-clause-within : goal.write_block-requires-clause-within
write_block-requires-clause-within g c tells =
    let up = row_up c.args.self.now (length (list_of c.args.added.now))
    (sym (c.row_refusal.ensures (length (list_of c.args.added.now)) c.size_of-size.ensures) ∙ c.in_default.is) in
    let fits = c.requires.fits tells up in
    let past = (g.D.Disk.told c.args.disk.now).past in
    rw (c.in_ok-reserve-2.ensures.past tells, c.end-end.ensures) (gate_inside past c.args.self.now fits.0 fits.1)

pub returns-then-is_err-clause-moments : goal.returns-then-is_err-clause-moments
returns-then-is_err-clause-moments g c tells entries fits =
    let past = (g.D.Disk.told c.args.disk.now).past in
    let calls = row_calls c.args.added.now c.end-end.result c.deref.result.now past
    (g.D.Disk.told c.reserve-2.new.self).past (g.D.Disk.told c.write_block.new.disk).past
    (is_ok c.write_block.result) (c.deref.ensures.value ∙ c.in_ok-list.ensures.bytes)
    (c.in_ok-reserve-2.ensures.past tells) (c.write_block.ensures.calls tells) in
    row_moments past c.args.self.now entries c.args.added.now fits c.requires.short c.requires.some c.end-end.result
    c.end-end.ensures (g.D.Disk.told c.write_block.new.disk).past (is_ok c.write_block.result) calls

pub returns-clause-moments : goal.returns-clause-moments
returns-clause-moments g c tells entries fits =
    let past = (g.D.Disk.told c.args.disk.now).past in
    let calls = row_calls c.args.added.now c.end-end.result c.deref.result.now past
    (g.D.Disk.told c.reserve-2.new.self).past (g.D.Disk.told c.write_block.new.disk).past
    (is_ok c.write_block.result) (c.deref.ensures.value ∙ c.in_ok-list.ensures.bytes)
    (c.in_ok-reserve-2.ensures.past tells) (c.write_block.ensures.calls tells) in
    row_moments past c.args.self.now entries c.args.added.now fits c.requires.short c.requires.some c.end-end.result
    c.end-end.ensures (g.D.Disk.told c.write_block.new.disk).past (is_ok c.write_block.result) calls

pub returns-clause-ok : goal.returns-clause-ok
returns-clause-ok g c tells entries fits =
    let added = c.args.added.now in
    let bank = c.args.self.now.bank in
    let past = (g.D.Disk.told c.args.disk.now).past in
    let well : is_ok c.write_block.result ≡ true = c.is_err.ensures.negation ∙ ap not c.if-is_err.false in
    let calls = row_calls added c.end-end.result c.deref.result.now past
    (g.D.Disk.told c.reserve-2.new.self).past (g.D.Disk.told c.write_block.new.disk).past
    (is_ok c.write_block.result) (c.deref.ensures.value ∙ c.in_ok-list.ensures.bytes)
    (c.in_ok-reserve-2.ensures.past tells) (c.write_block.ensures.calls tells) in
    let items = rw c.unwrap.ensures at c.extend_from_slice.ensures.items in
    let gates : c.self.inside.gates.items ≡ gates_from bank.start entries =
    ap (λ j. j.gates) c.self.view_is ∙ fits.gates in
    let place : c.end-end.result ≡ bank.start + length (flat_map block entries) = c.end-end.ensures
    ∙ end_is c.args.self.now entries fits.gates in
    record {
      gates =
          items
          ∙ ap (λ (l : List ℕ). l ++ c.deref-2.result.now) (c.in_ok-reserve.ensures.items ∙ gates)
          ∙ ap (λ (l : List ℕ). gates_from bank.start entries ++ l) (c.deref-2.ensures.value
          ∙ c.in_ok-list.ensures.gates ∙ ap (λ (n : ℕ). gates_from n added) place)
          ∙ sym (gates_from-row bank.start entries added)
          ∙ ap (λ (n : ℕ). gates_from n (entries ++ added)) (sym (ap (λ j. j.bank.start) c.self.view_is));
      images =
          subst (λ z. (bytes : List ℕ) → MayLeave (g.D.Disk.told c.write_block.new.disk).past bytes
          → StandsAt z (entries ++ added) bytes) (sym (ap (λ j. j.bank) c.self.view_is))
          (row_done past c.args.self.now entries added fits c.requires.short c.requires.some c.end-end.result
          c.end-end.ensures (g.D.Disk.told c.write_block.new.disk).past (is_ok c.write_block.result) well calls);
    }

pub returns-clause-bytes : goal.returns-clause-bytes
returns-clause-bytes g c tells =
    let added = c.args.added.now in
    let past = (g.D.Disk.told c.args.disk.now).past in
    let well : is_ok c.write_block.result ≡ true = c.is_err.ensures.negation ∙ ap not c.if-is_err.false in
    let calls = row_calls added c.end-end.result c.deref.result.now past
    (g.D.Disk.told c.reserve-2.new.self).past (g.D.Disk.told c.write_block.new.disk).past
    (is_ok c.write_block.result) (c.deref.ensures.value ∙ c.in_ok-list.ensures.bytes)
    (c.in_ok-reserve-2.ensures.past tells) (c.write_block.ensures.calls tells) in
    let up = row_up c.args.self.now (length (list_of added))
    (sym (c.row_refusal.ensures (length (list_of added)) c.size_of-size.ensures) ∙ c.in_default.is) in
    let fits = c.requires.fits tells up in
    row_bytes past c.args.self.now fits.0 added fits.1 c.requires.short c.requires.some c.end-end.result
    c.end-end.ensures (g.D.Disk.told c.write_block.new.disk).past (is_ok c.write_block.result) well calls
