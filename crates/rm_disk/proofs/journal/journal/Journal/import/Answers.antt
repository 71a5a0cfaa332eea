use Rattle.std.proofs.Common.{◌∙◌, ◌-◌, ℕ, List, get_or, ◌∷◌, Some, Err, false, sym, ap, subst, arith, length}
use Rattle.std.proofs.Common.{length-take}
use Rattle.std.proofs.lemmas.Bool.Decides.{Decides-eqb}
use Rattle.std.proofs.lemmas.Result.{err_from_is_err_and}
use Rattle.std.proofs.lemmas.Slice.Eq.{strip_prefix_is}
use Rattle.rm_disk.specs.Call.{Call, Synced, Wrote, CutTo, settled}
use Rattle.rm_disk.specs.Journal.Entries.{bytes_of, first_bank, gates_from, StandsAt}
use Rattle.rm_disk.proofs.JournalLemmas.Before.{answers_failed, answers_unread, has_room, head_before, is_read}
use Rattle.rm_disk.proofs.JournalLemmas.Before.{same_read, text_is}
use Rattle.rm_disk.proofs.JournalLemmas.Before.{too_long, within_rest, written_stands, written_state}
use Rattle.rm_disk.proofs.journal.journal.Journal.import.Goals as goal

pub returns-in-Err-clause-answers : goal.returns-in-Err-clause-answers
returns-in-Err-clause-answers g c =
    let head = strip_prefix_is Decides-eqb c.args.bytes.now head_before (Some c.in-Some.rest) c.in-Some.ensures.cases in
    answers_unread c.args.bytes.now c.in-Some.rest.now c.in-Err.error head c.in-Err.ensures.refusals
    (λ same. c.gates_of.ensures.none (c.in-Err.is ∙ ap (λ e. Err e) same))

pub returns-then-end-ge-JOURNAL_BYTES-clause-answers : goal.returns-then-end-ge-JOURNAL_BYTES-clause-answers
returns-then-end-ge-JOURNAL_BYTES-clause-answers g c =
    let head = strip_prefix_is Decides-eqb c.args.bytes.now head_before (Some c.in-Some.rest) c.in-Some.ensures.cases in
    let last = c.last_gate-end.ensures ∙ ap (λ (l : List ℕ). get_or l (length l - 1) 25) c.deref.ensures.value in
    let is = is_read c.args.bytes.now c.in-Some.rest.now c.in-Ok.gates.items c.last_gate-end.result head
    c.in-Ok.ensures.stands last in
    too_long c.args.bytes.now c.in-Some.rest.now c.in-Ok.gates.items c.last_gate-end.result
    c.saturating_sub.result is (omega (arith, c.if-end-ge-JOURNAL_BYTES.true)) c.saturating_sub.ensures

pub returns-clause-answers : goal.returns-clause-answers
returns-clause-answers g c =
    let head = strip_prefix_is Decides-eqb c.args.bytes.now head_before (Some c.in-Some.rest) c.in-Some.ensures.cases in
    let last = c.last_gate-end.ensures ∙ ap (λ (l : List ℕ). get_or l (length l - 1) 25) c.deref.ensures.value in
    let is = is_read c.args.bytes.now c.in-Some.rest.now c.in-Ok.gates.items c.last_gate-end.result head
    c.in-Ok.ensures.stands last in (
      is.entries,
      has_room c.args.bytes.now c.in-Some.rest.now c.in-Ok.gates.items c.last_gate-end.result is
          (omega (arith, c.if-end-ge-JOURNAL_BYTES.false)),
      ap (λ l. record { bank = first_bank; gates = l; is_down = false }) is.gates_,
    )

pub returns-in_err-cut-clause-answers : goal.returns-in_err-cut-clause-answers
returns-in_err-cut-clause-answers g c =
    let head = strip_prefix_is Decides-eqb c.args.bytes.now head_before (Some c.in-Some.rest) c.in-Some.ensures.cases in
    let last = c.last_gate-end.ensures ∙ ap (λ (l : List ℕ). get_or l (length l - 1) 25) c.deref.ensures.value in
    let is = is_read c.args.bytes.now c.in-Some.rest.now c.in-Ok.gates.items c.last_gate-end.result head
    c.in-Ok.ensures.stands last in
    let p = err_from_is_err_and c.from_residual-in_err-cut.result c.from_residual-in_err-cut.ensures.1 in
    answers_failed c.args.bytes.now c.in-Some.rest.now c.in-Ok.gates.items c.last_gate-end.result is
    (omega (arith, c.if-end-ge-JOURNAL_BYTES.false)) c.from_residual-in_err-cut.result p.0 p.1 p.2

pub returns-in_err-write_at-clause-answers : goal.returns-in_err-write_at-clause-answers
returns-in_err-write_at-clause-answers g c =
    let head = strip_prefix_is Decides-eqb c.args.bytes.now head_before (Some c.in-Some.rest) c.in-Some.ensures.cases in
    let last = c.last_gate-end.ensures ∙ ap (λ (l : List ℕ). get_or l (length l - 1) 25) c.deref.ensures.value in
    let is = is_read c.args.bytes.now c.in-Some.rest.now c.in-Ok.gates.items c.last_gate-end.result head
    c.in-Ok.ensures.stands last in
    let p = err_from_is_err_and c.from_residual-in_err-write_at.result c.from_residual-in_err-write_at.ensures.1 in
    answers_failed c.args.bytes.now c.in-Some.rest.now c.in-Ok.gates.items c.last_gate-end.result is
    (omega (arith, c.if-end-ge-JOURNAL_BYTES.false)) c.from_residual-in_err-write_at.result p.0 p.1 p.2

pub returns-in_err-sync-clause-answers : goal.returns-in_err-sync-clause-answers
returns-in_err-sync-clause-answers g c =
    let head = strip_prefix_is Decides-eqb c.args.bytes.now head_before (Some c.in-Some.rest) c.in-Some.ensures.cases in
    let last = c.last_gate-end.ensures ∙ ap (λ (l : List ℕ). get_or l (length l - 1) 25) c.deref.ensures.value in
    let is = is_read c.args.bytes.now c.in-Some.rest.now c.in-Ok.gates.items c.last_gate-end.result head
    c.in-Ok.ensures.stands last in
    let p = err_from_is_err_and c.from_residual-in_err-sync.result c.from_residual-in_err-sync.ensures.1 in
    answers_failed c.args.bytes.now c.in-Some.rest.now c.in-Ok.gates.items c.last_gate-end.result is
    (omega (arith, c.if-end-ge-JOURNAL_BYTES.false)) c.from_residual-in_err-sync.result p.0 p.1 p.2

pub slice_bounds-first_text-end : goal.slice_bounds-first_text-end
slice_bounds-first_text-end g c =
    let head = strip_prefix_is Decides-eqb c.args.bytes.now head_before (Some c.in-Some.rest) c.in-Some.ensures.cases in
    let last = c.last_gate-end.ensures ∙ ap (λ (l : List ℕ). get_or l (length l - 1) 25) c.deref.ensures.value in
    let is = is_read c.args.bytes.now c.in-Some.rest.now c.in-Ok.gates.items c.last_gate-end.result head
    c.in-Ok.ensures.stands last in
    let within = within_rest c.args.bytes.now c.in-Some.rest.now c.in-Ok.gates.items c.last_gate-end.result is in
    omega (arith, within, c.saturating_sub-2.ensures, length-take c.saturating_sub-2.result c.in-Some.rest.now)

pub returns-clause-bytes : goal.returns-clause-bytes
returns-clause-bytes g c tells entries stands =
    let head = strip_prefix_is Decides-eqb c.args.bytes.now head_before (Some c.in-Some.rest) c.in-Some.ensures.cases in
    let last = c.last_gate-end.ensures ∙ ap (λ (l : List ℕ). get_or l (length l - 1) 25) c.deref.ensures.value in
    let is = is_read c.args.bytes.now c.in-Some.rest.now c.in-Ok.gates.items c.last_gate-end.result head
    c.in-Ok.ensures.stands last in
    let text = text_is c.args.bytes.now c.in-Some.rest.now c.in-Ok.gates.items c.in_ok-text.text.items
    c.last_gate-end.result c.saturating_sub-2.result is c.saturating_sub-2.ensures c.in_ok-text.ensures in
    let past = (g.D.Disk.told c.args.disk.now).past in
    let cut = c.in_ok-cut.ensures.past tells
    ∙ ap (λ (l : List Call). CutTo 0 ∷ l) (c.in_ok-reserve.ensures.past tells) in
    let wrote = c.in_ok-write_at.ensures.past tells
    ∙ ap (λ (b : List ℕ). Wrote 0 b ∷ (g.D.Disk.told c.cut.new.self).past) c.deref-2.ensures.value
    ∙ ap (λ (l : List Call). Wrote 0 c.in_ok-text.text.items ∷ l) cut in
    let calls = c.in_ok-sync.ensures.past tells ∙ ap (λ (l : List Call). Synced ∷ l) wrote in
    let same = same_read c.args.bytes.now c.in-Some.rest.now c.in-Ok.gates.items c.last_gate-end.result is entries
    stands in
    written_state past _ is.entries c.in_ok-text.text.items text calls
    ∙ ap (λ l. settled (bytes_of l)) (sym same)

pub returns-clause-fits : goal.returns-clause-fits
returns-clause-fits g c tells entries stands =
    let head = strip_prefix_is Decides-eqb c.args.bytes.now head_before (Some c.in-Some.rest) c.in-Some.ensures.cases in
    let last = c.last_gate-end.ensures ∙ ap (λ (l : List ℕ). get_or l (length l - 1) 25) c.deref.ensures.value in
    let is = is_read c.args.bytes.now c.in-Some.rest.now c.in-Ok.gates.items c.last_gate-end.result head
    c.in-Ok.ensures.stands last in
    let text = text_is c.args.bytes.now c.in-Some.rest.now c.in-Ok.gates.items c.in_ok-text.text.items
    c.last_gate-end.result c.saturating_sub-2.result is c.saturating_sub-2.ensures c.in_ok-text.ensures in
    let past = (g.D.Disk.told c.args.disk.now).past in
    let cut = c.in_ok-cut.ensures.past tells
    ∙ ap (λ (l : List Call). CutTo 0 ∷ l) (c.in_ok-reserve.ensures.past tells) in
    let wrote = c.in_ok-write_at.ensures.past tells
    ∙ ap (λ (b : List ℕ). Wrote 0 b ∷ (g.D.Disk.told c.cut.new.self).past) c.deref-2.ensures.value
    ∙ ap (λ (l : List Call). Wrote 0 c.in_ok-text.text.items ∷ l) cut in
    let calls = c.in_ok-sync.ensures.past tells ∙ ap (λ (l : List Call). Synced ∷ l) wrote in
    let same = same_read c.args.bytes.now c.in-Some.rest.now c.in-Ok.gates.items c.last_gate-end.result is entries
    stands in
    record {
      gates = is.gates_ ∙ ap (λ l. gates_from 25 l) (sym same);
      images = λ image may. subst (λ l. StandsAt first_bank l image) (sym same)
          (written_stands past _ is.entries c.in_ok-text.text.items c.in-Some.rest.now is.ends text calls image may);
    }
