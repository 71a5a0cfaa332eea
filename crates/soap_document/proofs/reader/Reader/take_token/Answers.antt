use Rattle.std.proofs.Common.{◌+◌, [], length, get_or, refl, sym, ap, ◌∙◌, arith, length-take}
use Rattle.soap_document.specs.Machine.{nothing_open, counted, after_token}
use Rattle.soap_document.specs.Seen.{seen, TakenBy}
use Rattle.soap_document.proofs.Fed.{taken_all, taken_some}
use Rattle.soap_document.proofs.Seeing.{seeing, takes}
use Rattle.soap_document.proofs.reader.Reader.take_token.Goals as goal

pub returns-in_default-clause-sees : goal.returns-in_default-clause-sees
returns-in_default-clause-sees g c =
    takes g.H.Handler.stands c.args.self.now c.keep.new.self c.args.bytes.now (length c.args.bytes.now) (λ top below.
    taken_all (rw c.in_default.is at c.first_stop.ensures) c.requires.some (c.in_ok-keep.ensures top below))

pub at_token-requires-clause-text : goal.at_token-requires-clause-text
at_token-requires-clause-text g c = λ e.
    c.requires.text (sym (ap (λ s. s.mode) (c.in_ok-keep-2.ensures nothing_open [])) ∙ e)

pub at_token-requires-clause-value : goal.at_token-requires-clause-value
at_token-requires-clause-value g c = λ e.
    c.requires.value (sym (ap (λ s. s.mode) (c.in_ok-keep-2.ensures nothing_open [])) ∙ e)

pub at_token-requires-clause-fits : goal.at_token-requires-clause-fits
at_token-requires-clause-fits g c =
    let place = ap (λ s. s.at) (c.in_ok-keep-2.ensures nothing_open []) in
    let first = rw c.in-Some.is at c.first_stop.ensures in
    omega (arith, place, first.0.high, length-take c.in-Some.end c.args.bytes.now, c.requires.fits)

pub returns-clause-sees : goal.returns-clause-sees
returns-clause-sees g c =
    let stands = g.H.Handler.stands in
    let bytes = c.args.bytes.now in
    seeing stands c.args.self.now (λ s. TakenBy stands s c.at_token.new.self bytes (c.in-Some.end + 1))
    (λ top below h.
    let s = seen c.keep-2.new.self top below in
    record {
      state = counted (after_token s.mode s (get_or bytes c.in-Some.end 0));
      sees = c.in_ok-at_token.ensures.sees s (record { is = refl; holds = h });
      taken = taken_some (rw c.in-Some.is at c.first_stop.ensures) (c.in_ok-keep-2.ensures top below);
    })

pub returns-in_default-clause-place : goal.returns-in_default-clause-place
returns-in_default-clause-place g c =
    (c.requires.some, omega arith, ap (λ s. s.at) (c.in_ok-keep.ensures nothing_open []))

pub returns-clause-place : goal.returns-clause-place
returns-clause-place g c =
    let place = ap (λ s. s.at) (c.in_ok-keep-2.ensures nothing_open []) in
    let first = rw c.in-Some.is at c.first_stop.ensures in (
      omega arith,
      omega (arith, first.0.high),
      omega (arith, place, first.0.high, length-take c.in-Some.end c.args.bytes.now, c.in_ok-at_token.ensures.place),
    )
