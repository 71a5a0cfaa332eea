use Rattle.std.proofs.Common.{◌≡◌, ℕ, length, refl, sym, ap, arith, ◌∙◌}
use Rattle.std.specs.Prelude.{Some, slice_get}
use Rattle.std.proofs.lemmas.Option.{slice_get_read, slice_get_within, get_or_from_slice_get, slice_get-map}
use Rattle.std.specs.Option.{option_map}
use Rattle.rm_base.specs.declared.message.Payload.{Payload}
use Rattle.rm_sides.specs.Destination.Kept.{Came}
use Rattle.rm_sides.specs.Destination.Messages.{by_number, contents_of}
use Rattle.rm_sides.proofs.DestinationLemmas.KeptLemmas.{looked_up-at}
use Rattle.rm_sides.proofs.destination.arrivals.Arrivals.nth.Goals as goal

pub index-requires-2 : goal.index-requires-2
index-requires-2 c =
    let came = c.self.inside.came.items in
    let places = c.self.inside.places.items in
    let place = c.index.result.now in
    let there : slice_get places c.args.i ≡ Some place
    = slice_get_read places (length places) c.args.i place refl (omega arith) c.index.ensures in
    let leads = looked_up-at came places (by_number came) c.args.i place c.self.invariant.found there in
    omega (arith, slice_get_within came place.at leads.message leads.came_so)

pub returns : goal.returns
returns c =
    let came = c.self.inside.came.items in
    let places = c.self.inside.places.items in
    let place = c.index.result.now in
    let found = c.index-2.result.now in
    let there : slice_get places c.args.i ≡ Some place
    = slice_get_read places (length places) c.args.i place refl (omega arith) c.index.ensures in
    let leads = looked_up-at came places (by_number came) c.args.i place c.self.invariant.found there in
    let same : found ≡ leads.message
    = c.index-2.ensures ∙ get_or_from_slice_get came place.at leads.message found leads.came_so in
    let content : slice_get (contents_of (by_number came)) c.args.i ≡ Some leads.message.1
    = slice_get-map (λ (m : ℕ × Payload). m.1) (by_number came) c.args.i
    ∙ ap (option_map (λ (m : ℕ × Payload). m.1)) leads.stands in
    ap (λ (m : ℕ × Payload). Some m.1) same
    ∙ sym content
    ∙ ap (λ (s : Came). slice_get (contents_of (by_number s.messages)) c.args.i) c.self.view_is
