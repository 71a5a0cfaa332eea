use Rattle.std.proofs.Common.{[], IfOk, ap, ◌∙◌, arith, length-take}
use Rattle.soap_lex.specs.Readers.{text_state}
use Rattle.soap_document.specs.Machine.{nothing_open}
use Rattle.soap_document.specs.Seen.{seen, TakenBy}
use Rattle.soap_document.proofs.Fed.{takes_none, taken_opened}
use Rattle.soap_document.proofs.Places.{after_text-at}
use Rattle.soap_document.proofs.Seeing.{seeing, sees, takes}
use Rattle.soap_document.proofs.reader.Reader.take_bang.Goals as goal

pub returns-then-opened-eq0-clause-sees : goal.returns-then-opened-eq0-clause-sees
returns-then-opened-eq0-clause-sees g c =
    let stands = g.H.Handler.stands in
    let old = c.args.self.now in
    let bytes = c.args.bytes.now in
    let same = takes_none (c.open-opened.ensures.takes old.scan.text.items) (omega (
      arith,
      c.if-opened-eq0.true,
      length-take c.open-opened.result bytes,
    )) in
    seeing stands old (λ s. IfOk c.take_text.result (TakenBy stands s c.take_text.new.self bytes)) (λ top below h.
    let s = seen old.scan top below in
    c.take_text.ensures.sees s (sees stands _ top below s h (ap (λ w. record s { words = w }) same)))

pub returns-clause-sees : goal.returns-clause-sees
returns-clause-sees g c =
    let text = c.args.self.now.scan.text.items in
    takes g.H.Handler.stands c.args.self.now c.at_text.new.self c.args.bytes.now c.open-opened.result (λ top below.
    taken_opened _ _ (text_state c.open-opened.new.self text) _ _ c.requires.inside c.open-opened.ensures.within
    c.if-opened-eq0.false (c.open-opened.ensures.takes text) (c.at_text.ensures top below))

pub returns-clause-place : goal.returns-clause-place
returns-clause-place g c = (
  omega (arith, c.if-opened-eq0.false),
  c.open-opened.ensures.within,
  ap (λ s. s.at) (c.at_text.ensures nothing_open []) ∙ after_text-at _,
)
