use Rattle.std.proofs.Common.{rules, ◌+◌, get_or, sym}
use Rattle.soap_document.specs.Machine.{in_less, counted}
use Rattle.soap_document.specs.Seen.{seen, TakenBy}
use Rattle.soap_document.proofs.Fed.{taken_less}
use Rattle.soap_document.proofs.Places.{in_less-at}
use Rattle.soap_document.proofs.Seeing.{seeing, sees, counts}
use Rattle.soap_document.proofs.Steps.{at_tag}
use Rattle.soap_document.proofs.reader.Reader.take_less.Goals as goal

pub returns-clause-sees : goal.returns-clause-sees
returns-clause-sees g c =
    let stands = g.H.Handler.stands in
    let bytes = c.args.bytes.now in
    let byte = get_or bytes 1 0 in
    let fresh = c.requires.fresh c.args.self.now.scan.text.items in
    seeing stands c.args.self.now (λ s. TakenBy stands s _ bytes 2) (λ top below h.
    let s = seen c.args.self.now.scan top below in
    record {
      state = counted (in_less (at_tag s) byte);
      sees = counts stands c.go_on.new.self (in_less (at_tag s) byte) (s.at + 1) (sym (in_less-at (at_tag s) byte))
          (c.in_ok-go_on.ensures.sees (at_tag s) (sees stands _ top below (at_tag s) h (search rules)));
      taken = taken_less s bytes c.requires.inside fresh c.requires.some c.requires.first c.requires.second;
    })
