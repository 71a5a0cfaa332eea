use Rattle.std.proofs.Common.{List, ℕ, refl, subst}
use Rattle.std.specs.Prelude.{Err, Option}
use Rattle.rm_script.specs.Reading.{behind_word}
use Rattle.rm_host.specs.declared.end.End.TheVariants.{Usage}
use Rattle.rm_station.specs.Asks.{OfferedBy, wanted_in}
use Rattle.rm_station.specs.declared.ask.Next.{Next}
use Rattle.rm_station.proofs.ask.send_of.Goals as goal

pub returns-in-Some : goal.returns-in-Some
returns-in-Some c =
    let cut = c.cut_word.ensures in
    let word = c.cut_word.result.0.now in
    let payload = c.args.payload.now in
    subst (λ (w : List ℕ). OfferedBy w payload (wanted_in (behind_word c.args.words.now)) c.offer_of.result) cut.word
    (subst (λ (b : List ℕ). OfferedBy word payload (wanted_in b) c.offer_of.result) cut.rest
    (subst (λ (o : Option (Option Next)). OfferedBy word payload o c.offer_of.result) c.in-Some.ensures
    c.offer_of.ensures))

pub returns-in-None : goal.returns-in-None
returns-in-None c =
    let cut = c.cut_word.ensures in
    let word = c.cut_word.result.0.now in
    let payload = c.args.payload.now in
    subst (λ (w : List ℕ). OfferedBy w payload (wanted_in (behind_word c.args.words.now)) (Err Usage)) cut.word
    (subst (λ (b : List ℕ). OfferedBy word payload (wanted_in b) (Err Usage)) cut.rest
    (subst (λ (o : Option (Option Next)). OfferedBy word payload o (Err Usage)) c.in-None.ensures refl))
