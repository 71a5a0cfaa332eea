use Rattle.std.proofs.Common.{◌≡◌, ◌<◌, ◌≤◌, ◌+◌, ◌-◌, false}
use Rattle.rm_base.specs.Count.{RoseBy, raised_by}
use Rattle.rm_base.specs.Outside.{Lasts}
use Rattle.soap_pieces.specs.Fed.{IsReady, is_short, total}
use Rattle.soap_pieces.specs.Source.{HasTaken}
use Rattle.soap_pieces.proofs.source.read_source.Given as goal

abbrev pub invariant-loop-fed : goal.invariant-loop-fed
invariant-loop-fed g l =
    let told = g.S.Source.told in
    record {
      ready : IsReady l.reader;
      short : is_short l.reader ≡ false;
      total : total l.reader ≡ l.fed;
      within : l.fed ≤ 2097153;
      fed : HasTaken (told l.initial.input) (told l.input) l.reader;
      taken : (told l.input).taken ≤ (told l.initial.input).taken + l.fed;
      none : l.fed ≡ 0 → (told l.input).taken ≡ (told l.initial.input).taken;
      some : 0 < l.fed → (told l.input).taken ≡ raised_by (told l.initial.input).taken l.fed;
      rose : RoseBy (told l.initial.input).taken (told l.input).taken l.fed;
      keeps : (told l.input).held ≡ (told l.initial.input).held;
      lasts : Lasts (told l.initial.input) (told l.input);
    }

abbrev pub decreases-loop-fed : goal.decreases-loop-fed
decreases-loop-fed g l = 2097153 - l.fed
