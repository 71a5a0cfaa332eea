use Rattle.std.proofs.Common.{◌≡◌, ℕ, zero, suc, ◌<◌, List, [], ◌∷◌, ◌++◌, Some, take, drop, length, slice_get, refl}
use Rattle.std.proofs.Common.{sym, ap, subst, ◌∙◌, arith, length-set}
use Rattle.std.proofs.lemmas.Option.{slice_get_within, get_or_from_slice_get}
use Rattle.timers.specs.declared.links.links.Item.{Item}
use Rattle.timers.specs.Links.Items.{Contents, IsWhole, IsLive, list_at}
use Rattle.base_tests.proofs.lists.remove_nth.Goals as goal

-- the item at a place stands between those before it and those behind it
parts : (xs : List Item) (k : ℕ) (item : Item) → slice_get xs k ≡ Some item → xs ≡ take k xs ++ item ∷ drop (suc k) xs
parts [] k item e = absurd (cc)
parts (x ∷ xs) zero item e = let same : x ≡ item = cc in ap (λ (v : Item). v ∷ xs) same
parts (x ∷ xs) (suc k) item e = ap (λ (v : List Item). x ∷ v) (parts xs k item e)

live_nth : (old : Contents) (list k : ℕ) (item : Item) → IsWhole old → list < length old.lists →
    slice_get (list_at old.lists list) k ≡ Some item → IsLive old.lists item.slot
live_nth old list k item whole lt e =
    let xs = list_at old.lists list in
    let in_list : item.list ≡ list =
    subst (λ (v : Item). v.list ≡ list) (get_or_from_slice_get xs k item item e)
    (whole.in_list list lt k item (slice_get_within xs k item e)) in
    record {
      before = take k xs;
      item = item;
      after = drop (suc k) xs;
      has = refl;
      stands = record { within = omega arith; split = ap (list_at old.lists) in_list ∙ parts xs k item e };
    }

pub remove-requires : goal.remove-requires
remove-requires g c =
    live_nth c.args.links.now c.args.list c.args.k c.in-Some.item.now c.spare.ensures.whole c.requires
    (sym c.in-Some.ensures.item)

pub returns : goal.returns
returns g c =
    let live = live_nth c.args.links.now c.args.list c.args.k c.in-Some.item.now c.spare.ensures.whole c.requires
    (sym c.in-Some.ensures.item) in
    let out = c.remove.ensures.taken live.before live.item live.after live.has live.stands in
    ap length out.1 ∙ length-set c.args.links.now.lists live.item.list (live.before ++ live.after)
