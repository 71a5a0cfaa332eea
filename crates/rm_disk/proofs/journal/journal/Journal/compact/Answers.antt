use Rattle.std.proofs.Common.{◌≡◌, ◌∙◌, ℕ, List, true, refl, ap, subst}
use Rattle.std.specs.Prelude.{not, is_ok}
use Rattle.rm_disk.specs.Image.{MayLeave}
use Rattle.rm_disk.specs.Journal.Entries.{StandsAt}
use Rattle.rm_disk.proofs.JournalLemmas.Banks.{list_moments, list_done, list_bytes, no_list}
use Rattle.rm_disk.proofs.JournalLemmas.Granted.{is_granted, has_room, put_within, calls_so, bank_so}
use Rattle.rm_disk.proofs.journal.journal.Journal.compact.Goals as goal

pub returns-in-Some-clause-moments : goal.returns-in-Some-clause-moments
returns-in-Some-clause-moments g c tells entries fits =
    no_list _ _ c.args.self.now.bank entries c.args.fresh.now _ fits.images refl

pub returns-in_err-list-clause-moments : goal.returns-in_err-list-clause-moments
returns-in_err-list-clause-moments g c tells entries fits =
    no_list _ _ c.args.self.now.bank entries c.args.fresh.now _ fits.images refl

pub returns-in_err-reserve-clause-moments : goal.returns-in_err-reserve-clause-moments
returns-in_err-reserve-clause-moments g c tells entries fits =
    no_list _ _ c.args.self.now.bank entries c.args.fresh.now _ fits.images (c.in_err-reserve.ensures.past tells)

pub list_of-requires-clause-fits : goal.list_of-requires-clause-fits
list_of-requires-clause-fits g c =
    let is = is_granted c.args.self.now c.args.fresh.now c.place_for-start.result c.size_of-size.result
    c.size_of-size.ensures (rw c.in_default.is at c.list_refusal.ensures) c.place_for-start.ensures.place
    c.place_for-start.ensures.small in
    is.whole

pub write_list-requires-clause-within : goal.write_list-requires-clause-within
write_list-requires-clause-within g c tells =
    let is = is_granted c.args.self.now c.args.fresh.now c.place_for-start.result c.size_of-size.result
    c.size_of-size.ensures (rw c.in_default.is at c.list_refusal.ensures) c.place_for-start.ensures.place
    c.place_for-start.ensures.small in
    let fits = c.requires.fits tells is.up in
    rw (c.in_ok-reserve.ensures.past tells) (put_within _ fits.0 c.args.fresh.now c.args.self.now
    c.place_for-start.result c.size_of-size.result fits.1 c.requires.short is).0

pub write_list-requires-clause-front : goal.write_list-requires-clause-front
write_list-requires-clause-front g c tells =
    let is = is_granted c.args.self.now c.args.fresh.now c.place_for-start.result c.size_of-size.result
    c.size_of-size.ensures (rw c.in_default.is at c.list_refusal.ensures) c.place_for-start.ensures.place
    c.place_for-start.ensures.small in
    let fits = c.requires.fits tells is.up in
    rw (c.in_ok-reserve.ensures.past tells) (put_within _ fits.0 c.args.fresh.now c.args.self.now
    c.place_for-start.result c.size_of-size.result fits.1 c.requires.short is).1

pub returns-then-is_err-clause-moments : goal.returns-then-is_err-clause-moments
returns-then-is_err-clause-moments g c tells entries fits =
    let is = is_granted c.args.self.now c.args.fresh.now c.place_for-start.result c.size_of-size.result
    c.size_of-size.ensures (rw c.in_default.is at c.list_refusal.ensures) c.place_for-start.ensures.place
    c.place_for-start.ensures.small in
    let calls = calls_so c.args.self.now c.args.fresh.now c.place_for-start.result c.size_of-size.result is
    c.self.inside.second _ c.deref.result.now _ _ _ (ap (λ j. j.bank.second) c.self.view_is)
    (c.deref.ensures.value ∙ c.in_ok-list.ensures.bytes) (c.in_ok-reserve.ensures.past tells)
    (c.write_list.ensures.calls tells) in
    list_moments _ c.args.self.now.bank entries c.args.fresh.now _
    (has_room _ entries c.args.fresh.now c.args.self.now fits c.requires.short is.small is.placed) _ _ calls

pub returns-clause-moments : goal.returns-clause-moments
returns-clause-moments g c tells entries fits =
    let is = is_granted c.args.self.now c.args.fresh.now c.place_for-start.result c.size_of-size.result
    c.size_of-size.ensures (rw c.in_default.is at c.list_refusal.ensures) c.place_for-start.ensures.place
    c.place_for-start.ensures.small in
    let calls = calls_so c.args.self.now c.args.fresh.now c.place_for-start.result c.size_of-size.result is
    c.self.inside.second _ c.deref.result.now _ _ _ (ap (λ j. j.bank.second) c.self.view_is)
    (c.deref.ensures.value ∙ c.in_ok-list.ensures.bytes) (c.in_ok-reserve.ensures.past tells)
    (c.write_list.ensures.calls tells) in
    list_moments _ c.args.self.now.bank entries c.args.fresh.now _
    (has_room _ entries c.args.fresh.now c.args.self.now fits c.requires.short is.small is.placed) _ _ calls

pub returns-clause-bytes : goal.returns-clause-bytes
returns-clause-bytes g c tells =
    let is = is_granted c.args.self.now c.args.fresh.now c.place_for-start.result c.size_of-size.result
    c.size_of-size.ensures (rw c.in_default.is at c.list_refusal.ensures) c.place_for-start.ensures.place
    c.place_for-start.ensures.small in
    let calls = calls_so c.args.self.now c.args.fresh.now c.place_for-start.result c.size_of-size.result is
    c.self.inside.second _ c.deref.result.now _ _ _ (ap (λ j. j.bank.second) c.self.view_is)
    (c.deref.ensures.value ∙ c.in_ok-list.ensures.bytes) (c.in_ok-reserve.ensures.past tells)
    (c.write_list.ensures.calls tells) in
    let well : is_ok c.write_list.result ≡ true = c.is_err.ensures.negation ∙ ap not c.if-is_err.false in
    list_bytes _ _ _ c.args.fresh.now _ well calls

pub returns-clause-ok : goal.returns-clause-ok
returns-clause-ok g c tells =
    let is = is_granted c.args.self.now c.args.fresh.now c.place_for-start.result c.size_of-size.result
    c.size_of-size.ensures (rw c.in_default.is at c.list_refusal.ensures) c.place_for-start.ensures.place
    c.place_for-start.ensures.small in
    let calls = calls_so c.args.self.now c.args.fresh.now c.place_for-start.result c.size_of-size.result is
    c.self.inside.second _ c.deref.result.now _ _ _ (ap (λ j. j.bank.second) c.self.view_is)
    (c.deref.ensures.value ∙ c.in_ok-list.ensures.bytes) (c.in_ok-reserve.ensures.past tells)
    (c.write_list.ensures.calls tells) in
    let well : is_ok c.write_list.result ≡ true = c.is_err.ensures.negation ∙ ap not c.if-is_err.false in
    let fits = c.requires.fits tells is.up in
    let turns = ap (λ j. j.bank.second) c.self.view_is in
    record {
      gates = c.in_ok-list.ensures.gates;
      images = subst (λ z. (bytes : List ℕ) → MayLeave (g.D.Disk.told c.write_list.new.disk).past bytes
          → StandsAt z c.args.fresh.now bytes)
          (bank_so c.args.self.now c.args.fresh.now c.place_for-start.result c.size_of-size.result is
          c.self.inside.second turns)
          (list_done _ c.args.self.now.bank fits.0 c.args.fresh.now _
          (has_room _ fits.0 c.args.fresh.now c.args.self.now fits.1 c.requires.short is.small is.placed) _ _ well
          calls);
    }
