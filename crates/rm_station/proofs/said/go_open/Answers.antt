use Rattle.std.proofs.Common.{◌≡◌, ◌∙◌, ◌⊎◌, Err, Ok, [], ap, false, refl, subst, sym, true, ℕ}
use Rattle.std.specs.Prelude.{Result}
use Rattle.node_tables.specs.Reads.{outgoing_in}
use Rattle.rm_serve.specs.Steps.{place_of}
use Rattle.rm_host.specs.Sequences.{is_open}
use Rattle.rm_host.specs.declared.end.End.TheVariants.{Memory}
use Rattle.rm_station.specs.Texts.{next_line}
use Rattle.rm_station.specs.Works.{called, is_under, next_number, only, passes, sends}
use Rattle.rm_station.specs.declared.ask.Ask.TheVariants.{Offers}
use Rattle.rm_station.proofs.CallLemmas.{no-step}
use Rattle.rm_station.proofs.SaidLemmas.{of-outs, sent-said, tells-so, up-outlived}
use Rattle.rm_station.proofs.said.go_open.Goals as goal

pub next_number-number-requires : goal.next_number-number-requires
next_number-number-requires g c =
    subst (λ records. is_open (outgoing_in records c.args.seq) ≡ true) (sym c.tables.ensures) c.requires.open

pub returns-then-is_under-clause-tells : goal.returns-then-is_under-clause-tells
returns-then-is_under-clause-tells g c =
    let a = c.args in
    let s = a.node.now.stored in
    let number = c.next_number-number.ensures ∙ ap (λ records. next_number records a.seq) c.tables.ensures in
    let under = subst (λ (n : ℕ). is_under a.seq n a.next ≡ true) number
    (sym c.is_under.ensures ∙ c.if-is_under.true) in
    let sent = c.accept-sent in (
      _,
      sent.ensures.makes,
      tells-so a.now s (Ok (Offers a.to.now a.next a.payload)) _ _ c.said_sent.result
          (called (Offers a.to.now a.next a.payload) _ _ _
          (sends a.to.now a.payload a.next a.seq c.requires.first c.requires.open under)
          (of-outs (λ x. x.outs) sent.result sent.ensures.of_call))
          (sent-said a.seq (next_number s.records a.seq) sent.result c.said_sent.result sent.ensures.number
          c.said_sent.ensures.ok c.said_sent.ensures.err),
    )

pub returns-then-is_under-clause-up : goal.returns-then-is_under-clause-up
returns-then-is_under-clause-up g c =
    up-outlived _ c.accept-sent.result c.said_sent.result c.accept-sent.ensures.up c.said_sent.ensures.lasts

pub returns-clause-tells : goal.returns-clause-tells
returns-clause-tells g c =
    let a = c.args in
    let x = place_of (g.D.Disk.told a.disk.now) a.node.now in
    let r = x.node.stored.records in
    let number = c.next_number-number.ensures ∙ ap (λ records. next_number records a.seq) c.tables.ensures in
    let other = subst (λ (n : ℕ). is_under a.seq n a.next ≡ false) number
    (sym c.is_under.ensures ∙ c.if-is_under.false) in (
      [],
      no-step g.D.Disk.tells x x (record { node = refl; told = λ t. refl }),
      tells-so a.now x.node.stored (Ok (Offers a.to.now a.next a.payload)) [] _ c.pass.result
          (passes a.to.now a.payload a.next a.seq c.requires.first c.requires.open other)
          (subst (λ (n : ℕ). (c.pass.result ≡ Ok (only (next_line a.seq n))) ⊎ (c.pass.result ≡ Err Memory)) number
          c.pass.ensures),
    )
