use Rattle.std.proofs.Common.{◌≡◌, ◌∙◌, ◌⊎◌, Err, ap, false, refl, sym, subst, inl, inr, List, ℕ}
use Rattle.std.specs.Prelude.{IfSome, Result}
use Rattle.std.specs.Io.KnownBytes.{Appends}
use Rattle.std.proofs.lemmas.Result.{err_from_is_err_and}
use Rattle.node_tables.specs.Reads.{incoming_in}
use Rattle.record_batch.specs.Fact.{Fact}
use Rattle.rm_base.specs.Outside.{AppendsFront}
use Rattle.record_batch.specs.Sequences.Destinations.{cursor}
use Rattle.rm_host.specs.Consumption.{Consumption}
use Rattle.rm_host.specs.Ends.{HasReason, Prints, faults_of, is_of_input}
use Rattle.rm_host.specs.Sequences.{passed_answer}
use Rattle.rm_host.specs.declared.end.End.{End}
use Rattle.rm_host.specs.declared.end.End.TheVariants as end
use Rattle.rm_host.proofs.ConsumptionLemmas.{consumed-so, print-inner, prints-on, prints-so, refused-first, told-lines}
use Rattle.rm_host.proofs.ConsumptionLemmas.{unfound, unprinted, unrecorded, untold}
use Rattle.rm_host.proofs.EndLemmas.{ends, hands, then, wants}
use Rattle.rm_host.proofs.RunLemmas.{of-inner, silent-inner}
use Rattle.rm_host.proofs.consume.consume.Goals as goal

pub returns-in_err-node-clause-consumes : goal.returns-in_err-node-clause-consumes
returns-in_err-node-clause-consumes g c =
    let p = err_from_is_err_and c.from_residual.result c.from_residual.ensures.1 in
    let told = g.D.Disk.told in
    let shown = g.K.Sink.told c.args.out.now in
    let first = told c.args.host.now.disk in
    let now = told c.mount.new.host.disk in
    subst (λ r. Consumption g.D.Disk.tells first now shown shown c.args.seq c.args.upto r) (sym (p.1 ∙ ap Err p.2))
    (unfound g.D.Disk.tells first now shown c.args.seq c.args.upto c.in_err-node.field-0.0
    c.in_err-node.ensures.which c.in_err-node.ensures.none c.in_err-node.ensures.moments)

pub returns-in_err-items-clause-consumes : goal.returns-in_err-items-clause-consumes
returns-in_err-items-clause-consumes g c =
    let r = c.from_residual-in_err-items in
    let p = err_from_is_err_and r.result r.ensures.1 in
    let told = g.D.Disk.told in
    let shown = g.K.Sink.told c.args.out.now in
    let first = told c.args.host.now.disk in
    let now = told c.mount.new.host.disk in
    let old = c.in_ok-node.node.stored in
    let e = c.in_err-items.field-0.0 in
    let same = ap (λ records. passed_answer records c.args.seq c.args.upto) c.tables.ensures in
    let which : ◌≡◌ {A = Result (List ℕ) End} (Err e) (Err end.Memory)
    ⊎ (Err e ≡ passed_answer old.records c.args.seq c.args.upto) =
    elim c.in_err-items.ensures.is [ inl w ↦ inl w | inr is ↦ inr (is ∙ same) ] in
    subst (λ x. Consumption g.D.Disk.tells first now shown shown c.args.seq c.args.upto x) (sym (p.1 ∙ ap Err p.2))
    (refused-first g.D.Disk.tells first now old shown c.args.seq c.args.upto e c.in_ok-node.ensures.found
    c.in_ok-node.ensures.moments which)

pub returns-in_err-print-clause-consumes : goal.returns-in_err-print-clause-consumes
returns-in_err-print-clause-consumes g c =
    let r = c.from_residual-in_err-print in
    let p = err_from_is_err_and r.result r.ensures.1 in
    let told = g.D.Disk.told in
    let shown = g.K.Sink.told c.args.out.now in
    let printed = g.K.Sink.told c.print.new.out in
    let first = told c.args.host.now.disk in
    let now = told c.mount.new.host.disk in
    let old = c.in_ok-node.node.stored in
    let same = ap (λ records. passed_answer records c.args.seq c.args.upto) c.tables.ensures in
    let is = sym same ∙ told-lines c.in_ok-items.items _ c.in_ok-items.ensures.is in
    subst (λ x. Consumption g.D.Disk.tells first now shown printed c.args.seq c.args.upto x) (sym (p.1 ∙ ap Err p.2))
    (unprinted g.D.Disk.tells first now old shown printed c.args.seq c.args.upto c.in_ok-items.items
    c.in_err-print.field-0.0 c.in_ok-node.ensures.found c.in_ok-node.ensures.moments is
    (subst (λ text. AppendsFront shown.held printed.held text) c.as_slice.ensures c.in_err-print.ensures.err)
    c.in_err-print.ensures.which)

pub returns-in_err-consume_items-clause-consumes : goal.returns-in_err-consume_items-clause-consumes
returns-in_err-consume_items-clause-consumes g c =
    let r = c.from_residual-in_err-consume_items in
    let p = err_from_is_err_and r.result r.ensures.1 in
    let told = g.D.Disk.told in
    let shown = g.K.Sink.told c.args.out.now in
    let printed = g.K.Sink.told c.print.new.out in
    let first = told c.args.host.now.disk in
    let mid = told c.mount.new.host.disk in
    let now = told c.consume_items.new.host.disk in
    let old = c.in_ok-node.node in
    let same = ap (λ records. passed_answer records c.args.seq c.args.upto) c.tables.ensures in
    let is = sym same ∙ told-lines c.in_ok-items.items _ c.in_ok-items.ensures.is in
    subst (λ x. Consumption g.D.Disk.tells first now shown printed c.args.seq c.args.upto x) (sym (p.1 ∙ ap Err p.2))
    (unrecorded c.an_incoming_sequence_is_as_recorded.ensures g.D.Disk.tells first mid now old
    c.consume_items.new.node shown printed c.args.seq c.args.upto c.in_ok-items.items c.in_err-consume_items.field-0.0
    c.in_ok-node.ensures.found is
    (subst (λ text. Appends shown.held printed.held text) c.as_slice.ensures c.in_ok-print.ensures.ok)
    c.in_err-consume_items.ensures.consumes c.in_err-consume_items.ensures.end)

pub returns-in_err-cursor_text-clause-consumes : goal.returns-in_err-cursor_text-clause-consumes
returns-in_err-cursor_text-clause-consumes g c =
    let r = c.from_residual-in_err-cursor_text in
    let p = err_from_is_err_and r.result r.ensures.1 in
    let told = g.D.Disk.told in
    let shown = g.K.Sink.told c.args.out.now in
    let printed = g.K.Sink.told c.print.new.out in
    let first = told c.args.host.now.disk in
    let mid = told c.mount.new.host.disk in
    let now = told c.consume_items.new.host.disk in
    let old = c.in_ok-node.node in
    let same = ap (λ records. passed_answer records c.args.seq c.args.upto) c.tables.ensures in
    let is = sym same ∙ told-lines c.in_ok-items.items _ c.in_ok-items.ensures.is in
    subst (λ x. Consumption g.D.Disk.tells first now shown printed c.args.seq c.args.upto x) (sym (p.1 ∙ ap Err p.2))
    (untold c.an_incoming_sequence_is_as_recorded.ensures g.D.Disk.tells first mid now old c.consume_items.new.node
    shown printed c.args.seq c.args.upto c.in_ok-items.items c.in_ok-node.ensures.found is
    (subst (λ text. Appends shown.held printed.held text) c.as_slice.ensures c.in_ok-print.ensures.ok)
    c.in_ok-consume_items.ensures.consumes)

pub returns-clause-consumes : goal.returns-clause-consumes
returns-clause-consumes g c =
    let told = g.D.Disk.told in
    let shown = g.K.Sink.told c.args.out.now in
    let printed = g.K.Sink.told c.print.new.out in
    let first = told c.args.host.now.disk in
    let mid = told c.mount.new.host.disk in
    let now = told c.consume_items.new.host.disk in
    let old = c.in_ok-node.node in
    let same = ap (λ records. passed_answer records c.args.seq c.args.upto) c.tables.ensures in
    let is = sym same ∙ told-lines c.in_ok-items.items _ c.in_ok-items.ensures.is in
    consumed-so c.an_incoming_sequence_is_as_recorded.ensures g.D.Disk.tells first mid now old c.consume_items.new.node
    shown printed c.args.seq c.args.upto c.cursor.result c.in_ok-items.items _ c.in_ok-node.ensures.found is
    (subst (λ text. Appends shown.held printed.held text) c.as_slice.ensures c.in_ok-print.ensures.ok)
    c.in_ok-consume_items.ensures.consumes
    (subst (λ (r : List Fact). IfSome (incoming_in r c.args.seq) (λ receiving. c.cursor.result ≡ cursor r c.args.seq))
    c.tables-2.ensures c.cursor.ensures)
    c.in_ok-cursor_text.ensures

pub returns-in_err-node-clause-prints : goal.returns-in_err-node-clause-prints
returns-in_err-node-clause-prints g c =
    let p = err_from_is_err_and c.from_residual.result c.from_residual.ensures.1 in
    let shown = g.K.Sink.told c.args.out.now in
    subst (λ r. Prints shown shown r) (sym (p.1 ∙ ap Err p.2)) (silent-inner shown _ c.in_err-node.ensures.inner)

pub returns-in_err-items-clause-prints : goal.returns-in_err-items-clause-prints
returns-in_err-items-clause-prints g c =
    let r = c.from_residual-in_err-items in
    let p = err_from_is_err_and r.result r.ensures.1 in
    let shown = g.K.Sink.told c.args.out.now in
    subst (λ x. Prints shown shown x) (sym (p.1 ∙ ap Err p.2)) (silent-inner shown _ c.in_err-items.ensures.inner)

pub returns-in_err-print-clause-prints : goal.returns-in_err-print-clause-prints
returns-in_err-print-clause-prints g c =
    let r = c.from_residual-in_err-print in
    let p = err_from_is_err_and r.result r.ensures.1 in
    let shown = g.K.Sink.told c.args.out.now in
    let printed = g.K.Sink.told c.print.new.out in
    subst (λ x. Prints shown printed x) (sym (p.1 ∙ ap Err p.2))
    (prints-so shown printed c.in_err-print.field-0.0 c.in_err-print.ensures.prints)

pub returns-in_err-consume_items-clause-prints : goal.returns-in_err-consume_items-clause-prints
returns-in_err-consume_items-clause-prints g c =
    let r = c.from_residual-in_err-consume_items in
    let p = err_from_is_err_and r.result r.ensures.1 in
    let shown = g.K.Sink.told c.args.out.now in
    let printed = g.K.Sink.told c.print.new.out in
    subst (λ x. Prints shown printed x) (sym (p.1 ∙ ap Err p.2))
    (prints-on shown printed _ c.in_ok-print.ensures.prints c.in_err-consume_items.ensures.inner)

pub returns-in_err-cursor_text-clause-prints : goal.returns-in_err-cursor_text-clause-prints
returns-in_err-cursor_text-clause-prints g c =
    let r = c.from_residual-in_err-cursor_text in
    let p = err_from_is_err_and r.result r.ensures.1 in
    let shown = g.K.Sink.told c.args.out.now in
    let printed = g.K.Sink.told c.print.new.out in
    subst (λ x. Prints shown printed x) (sym (p.1 ∙ ap Err p.2))
    (prints-on shown printed _ c.in_ok-print.ensures.prints refl)

pub returns-clause-prints : goal.returns-clause-prints
returns-clause-prints g c =
    prints-on (g.K.Sink.told c.args.out.now) (g.K.Sink.told c.print.new.out) _ c.in_ok-print.ensures.prints refl

pub returns-in_err-items-clause-reason : goal.returns-in_err-items-clause-reason
returns-in_err-items-clause-reason g c =
    let seen = faults_of g.D.Disk.told g.L.Link.told in
    let r = c.from_residual-in_err-items in
    let p = err_from_is_err_and r.result r.ensures.1 in
    let first = seen c.args.host.now in
    let now = seen c.mount.new.host in
    subst (λ x. HasReason first now x) (sym (p.1 ∙ ap Err p.2))
    (ends {T = List ℕ} first now (Err c.in_err-items.field-0.0) c.in_ok-node.ensures.reason
    c.in_err-items.ensures.disk c.in_err-items.ensures.link)

pub returns-in_err-print-clause-reason : goal.returns-in_err-print-clause-reason
returns-in_err-print-clause-reason g c =
    let seen = faults_of g.D.Disk.told g.L.Link.told in
    let r = c.from_residual-in_err-print in
    let p = err_from_is_err_and r.result r.ensures.1 in
    let first = seen c.args.host.now in
    let now = seen c.mount.new.host in
    let e = c.in_err-print.field-0.0 in
    let which = c.in_err-print.ensures.which in
    subst (λ x. HasReason first now x) (sym (p.1 ∙ ap Err p.2))
    (ends {T = List ℕ} first now (Err e) c.in_ok-node.ensures.reason
    (print-inner e which).disk (print-inner e which).link)

pub returns-in_err-consume_items-clause-reason : goal.returns-in_err-consume_items-clause-reason
returns-in_err-consume_items-clause-reason g c =
    let seen = faults_of g.D.Disk.told g.L.Link.told in
    let r = c.from_residual-in_err-consume_items in
    let p = err_from_is_err_and r.result r.ensures.1 in
    hands (seen c.args.host.now) (seen c.mount.new.host) (seen c.consume_items.new.host)
    c.in_err-consume_items.field-0.0 r.result (p.1 ∙ ap Err p.2) c.in_ok-node.ensures.reason
    c.in_err-consume_items.ensures.reason

pub returns-in_err-cursor_text-clause-reason : goal.returns-in_err-cursor_text-clause-reason
returns-in_err-cursor_text-clause-reason g c =
    let seen = faults_of g.D.Disk.told g.L.Link.told in
    let r = c.from_residual-in_err-cursor_text in
    let p = err_from_is_err_and r.result r.ensures.1 in
    let first = seen c.args.host.now in
    let now = seen c.consume_items.new.host in
    wants first now r.result (p.1 ∙ ap Err p.2)
    (then first (seen c.mount.new.host) now _ _ _ c.in_ok-node.ensures.reason c.in_ok-consume_items.ensures.reason)

pub returns-clause-reason : goal.returns-clause-reason
returns-clause-reason g c =
    let seen = faults_of g.D.Disk.told g.L.Link.told in
    then (seen c.args.host.now) (seen c.mount.new.host) (seen c.consume_items.new.host) _ _ _
    c.in_ok-node.ensures.reason c.in_ok-consume_items.ensures.reason

pub returns-in_err-node-clause-inner : goal.returns-in_err-node-clause-inner
returns-in_err-node-clause-inner g c =
    let p = err_from_is_err_and c.from_residual.result c.from_residual.ensures.1 in
    subst (λ x. is_of_input x ≡ false) (sym (p.1 ∙ ap Err p.2))
    (of-inner {T = List ℕ} (Err c.in_err-node.field-0.0) c.in_err-node.ensures.inner)

pub returns-in_err-items-clause-inner : goal.returns-in_err-items-clause-inner
returns-in_err-items-clause-inner g c =
    let r = c.from_residual-in_err-items in
    let p = err_from_is_err_and r.result r.ensures.1 in
    subst (λ x. is_of_input x ≡ false) (sym (p.1 ∙ ap Err p.2))
    (of-inner {T = List ℕ} (Err c.in_err-items.field-0.0) c.in_err-items.ensures.inner)

pub returns-in_err-print-clause-inner : goal.returns-in_err-print-clause-inner
returns-in_err-print-clause-inner g c =
    let r = c.from_residual-in_err-print in
    let p = err_from_is_err_and r.result r.ensures.1 in
    subst (λ x. is_of_input x ≡ false) (sym (p.1 ∙ ap Err p.2))
    (print-inner c.in_err-print.field-0.0 c.in_err-print.ensures.which).inner

pub returns-in_err-consume_items-clause-inner : goal.returns-in_err-consume_items-clause-inner
returns-in_err-consume_items-clause-inner g c =
    let r = c.from_residual-in_err-consume_items in
    let p = err_from_is_err_and r.result r.ensures.1 in
    subst (λ x. is_of_input x ≡ false) (sym (p.1 ∙ ap Err p.2))
    (of-inner {T = List ℕ} (Err c.in_err-consume_items.field-0.0) c.in_err-consume_items.ensures.inner)

pub returns-in_err-cursor_text-clause-inner : goal.returns-in_err-cursor_text-clause-inner
returns-in_err-cursor_text-clause-inner g c =
    let r = c.from_residual-in_err-cursor_text in
    let p = err_from_is_err_and r.result r.ensures.1 in
    subst (λ x. is_of_input x ≡ false) (sym (p.1 ∙ ap Err p.2)) refl
