use Rattle.std.proofs.Common.{◌≡◌, ◌<◌, ◌≤◌, ◌∙◌, ℕ, List, false, length, take, sym, ap, subst, arith}
use Rattle.std.specs.Prelude.{nat_lt}
use Rattle.rm_base.specs.NumberSet.{has_number}
use Rattle.rm_sides.specs.Destination.Kept.{Came, GoesAt, numbers_at}
use Rattle.rm_sides.specs.Destination.Messages.{numbers_of}
use Rattle.rm_sides.specs.declared.destination.arrivals.Place.{Place}
use Rattle.rm_sides.proofs.DestinationLemmas.KeptLemmas.{early-placed, none-past, none-placed}
use Rattle.rm_sides.proofs.destination.arrivals.Arrivals.is_early.Goals as goal

pub returns-then-here-len : goal.returns-then-here-len
returns-then-here-len c =
    let came = c.self.inside.came.items in
    let places = c.self.inside.places.items in
    let place = c.place_of-here.result in
    let goes : GoesAt (numbers_at places) c.args.number place =
    subst (λ (ps : List Place). GoesAt (numbers_at ps) c.args.number place) c.deref.ensures.value
    c.place_of-here.ensures in
    let size : length places ≡ c.len.result =
    sym (ap length c.deref.ensures.value) ∙ c.deref.ensures.len ∙ sym c.len.ensures in
    none-past came places place c.args.count c.args.number c.self.invariant goes
    (omega (arith, size, c.if-here-len.true))
    ∙ ap (λ (s : Came). has_number (numbers_of (take c.args.count s.messages)) c.args.number) c.self.view_is

pub returns-then-found-number : goal.returns-then-found-number
returns-then-found-number c =
    let came = c.self.inside.came.items in
    let places = c.self.inside.places.items in
    let place = c.place_of-here.result in
    let goes : GoesAt (numbers_at places) c.args.number place =
    subst (λ (ps : List Place). GoesAt (numbers_at ps) c.args.number place) c.deref.ensures.value
    c.place_of-here.ensures in
    let size : length places ≡ c.len.result =
    sym (ap length c.deref.ensures.value) ∙ c.deref.ensures.len ∙ sym c.len.ensures in
    none-placed came places place c.args.count c.args.number c.index-found.result.now c.self.invariant goes
    (omega (arith, size, c.if-here-len.false)) c.index-found.ensures c.if-found-number.true
    ∙ ap (λ (s : Came). has_number (numbers_of (take c.args.count s.messages)) c.args.number) c.self.view_is

pub returns : goal.returns
returns c =
    let came = c.self.inside.came.items in
    let places = c.self.inside.places.items in
    let place = c.place_of-here.result in
    let size : length places ≡ c.len.result =
    sym (ap length c.deref.ensures.value) ∙ c.deref.ensures.len ∙ sym c.len.ensures in
    early-placed came places place c.args.count c.index-found.result.now c.self.invariant
    (omega (arith, size, c.if-here-len.false)) c.index-found.ensures
    ∙ ap (λ n. has_number (numbers_of (take c.args.count came)) n) c.if-found-number.false
    ∙ ap (λ (s : Came). has_number (numbers_of (take c.args.count s.messages)) c.args.number) c.self.view_is
