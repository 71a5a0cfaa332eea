use Rattle.std.proofs.Common.{[], get_or, refl, sym, ap, ◌∙◌, arith}
use Rattle.soap_lex.specs.Readers.{text_state}
use Rattle.soap_document.specs.Machine.{nothing_open, at_chars, counted}
use Rattle.soap_document.specs.Seen.{seen, TakenBy}
use Rattle.soap_document.proofs.Fed.{text_ends, taken_text, taken_end}
use Rattle.soap_document.proofs.Places.{chars-at, after_text-at}
use Rattle.soap_document.proofs.Seeing.{seeing, counts, takes}
use Rattle.soap_document.proofs.reader.Reader.take_text.Goals as goal

pub returns-then-taken-eq0-clause-sees : goal.returns-then-taken-eq0-clause-sees
returns-then-taken-eq0-clause-sees g c =
    let stands = g.H.Handler.stands in
    let bytes = c.args.bytes.now in
    let byte = get_or bytes 0 0 in
    let words = text_state c.feed.new.self c.feed.new.out.items in
    seeing stands c.args.self.now (λ s. TakenBy stands s _ bytes 1) (λ top below h.
    let s = seen c.args.self.now.scan top below in
    let told = record s { words = words } in
    let ends = text_ends s.words words bytes c.requires.some (rw c.if-taken-eq0.true at c.in-Ok.ensures.ok.1) in
    record {
      state = counted (at_chars told byte);
      sees = counts stands c.at_chars.new.self (at_chars told byte) s.at (sym (chars-at told byte))
          (c.in_ok-at_chars.ensures.sees told (record { is = refl; holds = h }) ends.0);
      taken = taken_end s words bytes c.requires.inside c.requires.some ends.1;
    })

pub returns-clause-sees : goal.returns-clause-sees
returns-clause-sees g c =
    takes g.H.Handler.stands c.args.self.now c.at_text.new.self c.args.bytes.now c.in-Ok.taken (λ top below.
    taken_text _ _ (text_state c.feed.new.self c.feed.new.out.items) _ _ c.requires.inside c.in-Ok.ensures.ok.0
    c.if-taken-eq0.false c.in-Ok.ensures.ok.1 (c.at_text.ensures top below))

pub returns-clause-place : goal.returns-clause-place
returns-clause-place g c = (
  omega (arith, c.if-taken-eq0.false),
  c.in-Ok.ensures.ok.0,
  ap (λ s. s.at) (c.at_text.ensures nothing_open []) ∙ after_text-at _,
)
