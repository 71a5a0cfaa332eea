use Rattle.std.proofs.Common.{◌∙◌, ℕ, ◌+◌, ◌<◌, ◌^◌, min, get_or, ap, refl, arith}
use Rattle.rm_disk.proofs.JournalLemmas.Places.{entry_span}
use Rattle.rm_disk.proofs.journal.place.span_of.Goals as goal

pub returns-clause-place : goal.returns-clause-place
returns-clause-place c entries are =
    let gates = c.args.gates.now in
    let start = c.saturating_add-first in
    let from = start.ensures ∙ ap (λ (n : ℕ). min (n + 5) 18446744073709551615) c.gate_before.ensures in
    let small : get_or gates c.args.k 0 < 2 ^ 64 = omega (arith, c.type_inv.gates c.args.k) in
    (entry_span c.args.start entries gates c.args.k _ start.result c.saturating_sub.result are c.requires refl small
    from
    c.saturating_sub.ensures).0

pub returns-clause-size : goal.returns-clause-size
returns-clause-size c entries are =
    let gates = c.args.gates.now in
    let start = c.saturating_add-first in
    let from = start.ensures ∙ ap (λ (n : ℕ). min (n + 5) 18446744073709551615) c.gate_before.ensures in
    let small : get_or gates c.args.k 0 < 2 ^ 64 = omega (arith, c.type_inv.gates c.args.k) in
    (entry_span c.args.start entries gates c.args.k _ start.result c.saturating_sub.result are c.requires refl small
    from
    c.saturating_sub.ensures).1
