use Rattle.std.proofs.Common.{◌≡◌, ℕ, ◌+◌, List, [], ◌∷◌, ◌++◌, length, sym, ◌∙◌, ap, subst, true, refl, arith}
use Rattle.std.proofs.Common.{length-append}
use Rattle.std.specs.Prelude.{not, is_ok}
use Rattle.std.specs.List.{flat_map}
use Rattle.std.specs.Int.{w32, to_be_bytes}
use Rattle.rm_disk.specs.Call.{seen_of}
use Rattle.rm_disk.specs.Image.{MayLeave}
use Rattle.rm_disk.specs.ImageLemmas.{reads_as_image}
use Rattle.rm_disk.specs.Journal.Entries.{block, StandsAt, gates_from}
use Rattle.rm_disk.specs.Journal.JournalState.{end_of}
use Rattle.rm_disk.specs.Journal.EntryLemmas.{length-number, gates_from-push, end_is}
use Rattle.rm_disk.proofs.JournalLemmas.Crash.{block_moments, block_done, block_bytes, nothing_done}
use Rattle.rm_disk.proofs.JournalLemmas.Places.{gate_within}
use Rattle.rm_disk.proofs.JournalLemmas.Refusals.{up_and_short}
use Rattle.rm_disk.proofs.journal.journal.Journal.append.Goals as goal

pub returns-in-Some-clause-moments : goal.returns-in-Some-clause-moments
returns-in-Some-clause-moments g c tells entries fits =
    nothing_done _ _ c.args.self.now.bank entries fits.images c.args.entry.now refl

pub returns-in_err-body-clause-moments : goal.returns-in_err-body-clause-moments
returns-in_err-body-clause-moments g c tells entries fits =
    nothing_done _ _ c.args.self.now.bank entries fits.images c.args.entry.now refl

pub returns-in_err-reserve-clause-moments : goal.returns-in_err-reserve-clause-moments
returns-in_err-reserve-clause-moments g c tells entries fits =
    nothing_done _ _ c.args.self.now.bank entries fits.images c.args.entry.now refl

pub returns-in_err-reserve-2-clause-moments : goal.returns-in_err-reserve-2-clause-moments
returns-in_err-reserve-2-clause-moments g c tells entries fits =
    nothing_done _ _ c.args.self.now.bank entries fits.images c.args.entry.now (c.in_err-reserve-2.ensures.past tells)

pub write_block-requires-clause-within : goal.write_block-requires-clause-within
write_block-requires-clause-within g c tells =
    let up = up_and_short c.args.self.now (length c.args.entry.now) (sym c.refusal.ensures ∙ c.in_default.is) in
    let fits = c.requires tells up.0 in
    let past = (g.D.Disk.told c.args.disk.now).past in
    let has = fits.1.images (seen_of past) (reads_as_image past) in
    let end : c.end-end.result ≡ c.args.self.now.bank.start + length (flat_map block fits.0) = c.end-end.ensures
    ∙ end_is c.args.self.now fits.0 fits.1.gates in
    rw (c.in_ok-reserve-2.ensures.past tells) (
    omega (arith, end, gate_within c.args.self.now.bank fits.0 (seen_of past) has))

pub returns-then-is_err-clause-moments : goal.returns-then-is_err-clause-moments
returns-then-is_err-clause-moments g c tells entries fits =
    let past = (g.D.Disk.told c.args.disk.now).past in
    let up = up_and_short c.args.self.now (length c.args.entry.now) (sym c.refusal.ensures ∙ c.in_default.is) in
    let bank = c.args.self.now.bank in
    let end : c.end-end.result ≡ bank.start + length (flat_map block entries) = c.end-end.ensures
    ∙ end_is c.args.self.now entries fits.gates in
    let calls = rw (
      c.deref.ensures.value,
      c.in_ok-body.ensures,
      c.in_ok-reserve-2.ensures.past tells,
    ) at c.write_block.ensures.calls tells in
    block_moments past bank entries fits.images c.args.entry.now up.1 c.end-end.result end
    (g.D.Disk.told c.write_block.new.disk).past
    (is_ok c.write_block.result) calls

pub returns-clause-moments : goal.returns-clause-moments
returns-clause-moments g c tells entries fits =
    let past = (g.D.Disk.told c.args.disk.now).past in
    let up = up_and_short c.args.self.now (length c.args.entry.now) (sym c.refusal.ensures ∙ c.in_default.is) in
    let bank = c.args.self.now.bank in
    let end : c.end-end.result ≡ bank.start + length (flat_map block entries) = c.end-end.ensures
    ∙ end_is c.args.self.now entries fits.gates in
    let calls = rw (
      c.deref.ensures.value,
      c.in_ok-body.ensures,
      c.in_ok-reserve-2.ensures.past tells,
    ) at c.write_block.ensures.calls tells in
    block_moments past bank entries fits.images c.args.entry.now up.1 c.end-end.result end
    (g.D.Disk.told c.write_block.new.disk).past
    (is_ok c.write_block.result) calls

pub returns-clause-ok : goal.returns-clause-ok
returns-clause-ok g c tells entries fits =
    let entry = c.args.entry.now in
    let up = up_and_short c.args.self.now (length entry) (sym c.refusal.ensures ∙ c.in_default.is) in
    let bank = c.args.self.now.bank in
    let end : c.end-end.result ≡ bank.start + length (flat_map block entries) = c.end-end.ensures
    ∙ end_is c.args.self.now entries fits.gates in
    let calls = rw (
      c.deref.ensures.value,
      c.in_ok-body.ensures,
      c.in_ok-reserve-2.ensures.past tells,
    ) at c.write_block.ensures.calls tells in
    let well : is_ok c.write_block.result ≡ true = c.is_err.ensures.negation ∙ ap not c.if-is_err.false in
    let items = rw c.unwrap.ensures at c.push.ensures.items in
    let gates : c.self.inside.gates.items ≡ gates_from bank.start entries =
    ap (λ j. j.gates) c.self.view_is ∙ fits.gates in
    let place : c.end-end.result + c.len-2.result ≡ bank.start + length (flat_map block entries) + (5 + length entry) =
    omega (
      arith,
      end,
      c.len-2.ensures,
      c.deref.ensures.len,
      ap length c.deref.ensures.value,
      ap length c.in_ok-body.ensures,
      length-append (to_be_bytes w32 (length entry) ++ entry) (0 ∷ []),
      length-append (to_be_bytes w32 (length entry)) entry,
      length-number (length entry),
    ) in
    record {
      gates =
          items
          ∙ ap (λ (l : List ℕ). l ++ (c.end-end.result + c.len-2.result) ∷ []) (c.in_ok-reserve.ensures.items ∙ gates)
          ∙ ap (λ (n : ℕ). gates_from bank.start entries ++ n ∷ []) place
          ∙ sym (gates_from-push bank.start entries entry)
          ∙ ap (λ (n : ℕ). gates_from n (entries ++ entry ∷ [])) (sym (ap (λ j. j.bank.start) c.self.view_is));
      images =
          subst (λ z. (bytes : List ℕ) → MayLeave (g.D.Disk.told c.write_block.new.disk).past bytes
          → StandsAt z (entries ++ entry ∷ []) bytes) (sym (ap (λ j. j.bank) c.self.view_is))
          (block_done
          (g.D.Disk.told c.args.disk.now).past
          bank
          entries
          fits.images
          entry
          up.1
          c.end-end.result
          end
          (g.D.Disk.told c.write_block.new.disk).past
          (is_ok c.write_block.result)
          well
          calls);
    }

pub returns-clause-bytes : goal.returns-clause-bytes
returns-clause-bytes g c tells =
    let calls = rw (
      c.end-end.ensures,
      c.deref.ensures.value,
      c.in_ok-body.ensures,
      c.in_ok-reserve-2.ensures.past tells,
    ) at c.write_block.ensures.calls tells in
    let well : is_ok c.write_block.result ≡ true = c.is_err.ensures.negation ∙ ap not c.if-is_err.false in
    let past = (g.D.Disk.told c.args.disk.now).past in
    let up = up_and_short c.args.self.now (length c.args.entry.now) (sym c.refusal.ensures ∙ c.in_default.is) in
    let fits = c.requires tells up.0 in
    let has = fits.1.images (seen_of past) (reads_as_image past) in
    let end = end_is c.args.self.now fits.0 fits.1.gates in
    block_bytes past (g.D.Disk.told c.write_block.new.disk).past (end_of c.args.self.now) c.args.entry.now
    (is_ok c.write_block.result) well
    (omega (arith, end, gate_within c.args.self.now.bank fits.0 (seen_of past) has)) calls
