-- What the calls make of lists and cells that are kept.
use Rattle.std.proofs.Common.{◌≡◌, ◌≢◌, ℕ, suc, ◌+◌, ◌<◌, ◌≤◌, List, [], ◌∷◌, ◌++◌, Bool, true, false, min, Option}
use Rattle.std.proofs.Common.{Some, None, option_map, map, length, drop, get_or, set, refl, sym, ap, ap₂, subst, ◌∙◌}
use Rattle.std.proofs.Common.{arith, append_assoc, length-append}
use Rattle.std.specs.Prelude.{All, AllPairs, slice_get, replicate}
use Rattle.std.proofs.lemmas.List.{get_or-map, get_or-replicate}
use Rattle.std.proofs.lemmas.List.Elements.{All-nil, All-cons}
use Rattle.rm_base.specs.Limits.{most_keys}
use Rattle.timers.specs.declared.links.links.Item.{Item}
use Rattle.timers.specs.Links.Items.{Stands, list_at, first_due}
use Rattle.timers.specs.declared.slots.table.Cell.{Cell}
use Rattle.timers.specs.declared.slots.timers.Key.{Key}
use Rattle.timers.specs.Slots.Table.{Each, IsTiedItem, cell_at, with_at, IsTied, NotOwned, class_after, left_of}
use Rattle.timers.specs.Slots.Table.{shifted}
use Rattle.timers.specs.Slots.Table.{with_new, entry_of, entries, waiting, AreFree, IsKept}
use Rattle.timers.specs.Slots.Waits.{Entry, Waiting, StandFor, IsLive, class_at, in_class, by_class, due_in, put_into}
use Rattle.timers.specs.Slots.Waits.{emitted, at_slot, without, moved_last, begun, with_emitted, due_at}
use Rattle.timers.proofs.SlotsLemmas.PlainLemmas.{moved, at_class, class_place}
use Rattle.timers.proofs.SlotsLemmas.TimedLemmas.{among, timed_none}
use Rattle.timers.proofs.SlotsLemmas.TableLemmas.{Each-drop, tied_at}
use Rattle.timers.proofs.SlotsLemmas.SeenLemmas.{entries_shifted, entries_new, item_of, owned_of, moved_seen, left_seen}
use Rattle.timers.proofs.SlotsLemmas.SeenLemmas.{not_owned}
use Rattle.timers.proofs.SlotsLemmas.StandLemmas.{Placed, placed, placed_waits, last_is, rest_is, one_is, stand_moved}
use Rattle.timers.proofs.SlotsLemmas.StandLemmas.{stand_left, stand_begun, stand_later, free_left, free_put, LastFree}
use Rattle.timers.proofs.SlotsLemmas.StandLemmas.{free_last, free_more}
use Rattle.timers.proofs.SlotsLemmas.DueLemmas.{due_seen, first_front}

pub class_low : (urged : Bool) (class : ℕ) → class_after urged class < 7
class_low true class = omega arith
class_low false class = omega arith

-- a move leaves free slots free
free_moved : (free : List ℕ) (w : List Entry) (slot time : ℕ) (class : Entry → ℕ) (p : Placed w slot)
    (timers : Waiting) →
    StandFor timers w → AreFree free w → AreFree free (moved_last (λ e. put_into (class e) time e) slot w)
free_moved free w slot time class p timers st h =
    let f = free_left free p.left p.entry p.right (subst (AreFree free) p.is h) in
    subst (AreFree free) (sym (last_is (λ e. put_into (class e) time e) w slot p st.timed.distinct))
    (free_put free (p.left ++ p.right) (put_into (class p.entry) time p.entry) f.0 f.1)

-- what a shift leaves
pub record IsShift (lists new : List (List Item)) (cells newer : List Cell) (slot at : ℕ) (urged : Bool)
    (time : ℕ) : Type 0 where
  pub lists_are : (b : List Item) (i : Item) (a : List Item) → i.key ≡ slot → Stands lists b i a →
      new ≡ shifted lists b i a (class_after urged i.list) (due_in (class_after urged i.list) time) at
  pub cells_are : newer ≡ with_at cells slot at

pub call_shifted : (lists new : List (List Item)) (cells newer : List Cell) (slot at : ℕ) (urged : Bool)
    (s t spare more : ℕ) →
    IsTied lists cells → s ≤ t → more ≡ spare → IsShift lists new cells newer slot at urged t →
    IsLive (waiting cells lists s spare) slot → (w : List Entry) → StandFor (waiting cells lists s spare) w →
    StandFor (waiting newer new t more) (moved_last (λ e. put_into (class_after urged e.class) t e) slot w)
call_shifted lists new cells newer slot at urged s t spare more tied later same is live w st =
    let old = waiting cells lists s spare in
    let p = placed old w slot st live in
    let st2 : StandFor old (p.left ++ p.entry ∷ p.right) = subst (StandFor old) p.is st in
    let class = p.entry.class in
    let shape = moved_seen lists new cells newer slot at (class_after urged) (λ k. due_in (class_after urged k) t)
    (in_class class p.left) p.entry (in_class class p.right) tied (class_low urged) is.lists_are is.cells_are p.has
    (placed_waits old p.left p.entry p.right st2) in
    subst (StandFor (waiting newer new t more))
    (sym (last_is (λ e. put_into (class_after urged e.class) t e) w slot p st.timed.distinct))
    (stand_moved old (waiting newer new t more) p.left p.entry p.right (class_after urged class) st2 shape
    (class_low urged class) later same)

pub kept_shifted : (lists new : List (List Item)) (cells newer : List Cell) (free : List ℕ) (room slot at : ℕ)
    (urged : Bool)
    (s t spare more : ℕ) → IsKept lists cells free room s spare → s ≤ t → t ≤ 200000000000000 → more ≡ spare →
    IsShift lists new cells newer slot at urged t → IsTied new newer → IsLive (waiting cells lists s spare) slot →
    IsKept new newer free room t more
kept_shifted lists new cells newer free room slot at urged s t spare more k later top same is tied live =
    let p = placed (waiting cells lists s spare) k.waits slot k.stands live in
    record {
      tied = tied;
      now = top;
      count = k.count ∙ sym same;
      has_room = k.has_room;
      waits = moved_last (λ e. put_into (class_after urged e.class) t e) slot k.waits;
      stands = call_shifted lists new cells newer slot at urged s t spare more k.tied later same is live k.waits
          k.stands;
      are_free = free_moved free k.waits slot t (λ e. class_after urged e.class) p
          (waiting cells lists s spare) k.stands
          k.are_free;
    }

-- a live slot is one of the cells
pub live_small : (lists : List (List Item)) (cells : List Cell) (time spare slot : ℕ) → IsTied lists cells →
    IsLive (waiting cells lists time spare) slot → slot < length cells
live_small lists cells time spare slot t live =
    let o = owned_of lists cells time spare slot live in
    let mine = tied_at lists cells o.before o.item o.after t o.stands in
    let lt = mine.owned in
    let has = o.has in
    omega arith

-- and its cell has its key
pub key_is : (lists : List (List Item)) (cells : List Cell) (time spare slot : ℕ) →
    IsLive (waiting cells lists time spare) slot → (w : List Entry) → StandFor (waiting cells lists time spare) w →
    map (λ e. e.key) (at_slot slot w) ≡ (cell_at cells slot).key ∷ []
key_is lists cells time spare slot live w st =
    let old = waiting cells lists time spare in
    let p = placed old w slot st live in
    let waits = placed_waits old p.left p.entry p.right (subst (StandFor old) p.is st) in
    let i = item_of lists cells (in_class p.entry.class p.left) p.entry (in_class p.entry.class p.right) waits in
    let at : i.item.key ≡ slot = ap (λ (e : Entry). e.slot) i.is_item ∙ p.has in
    let key : p.entry.key ≡ (cell_at cells slot).key =
    sym (ap (λ (e : Entry). e.key) i.is_item) ∙ ap (λ (j : ℕ). (cell_at cells j).key) at in
    ap (map (λ (e : Entry). e.key)) (one_is w slot p st.timed.distinct) ∙ ap (λ (v : Key). v ∷ []) key

-- while a key waits there is room for its slot among the free ones
pub room_left : (lists : List (List Item)) (cells : List Cell) (free : List ℕ) (room time spare slot : ℕ) →
    IsKept lists cells free room time spare → IsLive (waiting cells lists time spare) slot → length free < room
room_left lists cells free room time spare slot k live =
    let p = placed (waiting cells lists time spare) k.waits slot k.stands live in
    let long : length k.waits ≡ length p.left + suc (length p.right) =
    ap length p.is ∙ length-append p.left (p.entry ∷ p.right) in
    let all = k.stands.spare in
    let count = k.count in
    let enough = k.has_room in
    omega arith

-- what taking out leaves
abbrev pub IsOut : List (List Item) → List (List Item) → ℕ → Type 0
IsOut lists new slot =
    (b : List Item) (i : Item) (a : List Item) → i.key ≡ slot → Stands lists b i a → new ≡ left_of lists b i a

pub call_left : (lists new : List (List Item)) (cells : List Cell) (slot time spare more : ℕ) → more ≡ spare + 1 →
    IsOut lists new slot → IsLive (waiting cells lists time spare) slot → (w : List Entry) →
    StandFor (waiting cells lists time spare) w → StandFor (waiting cells new time more) (without slot w)
call_left lists new cells slot time spare more one is live w st =
    let old = waiting cells lists time spare in
    let p = placed old w slot st live in
    let st2 : StandFor old (p.left ++ p.entry ∷ p.right) = subst (StandFor old) p.is st in
    let class = p.entry.class in
    let shape = left_seen lists new cells slot (in_class class p.left) p.entry (in_class class p.right) is p.has
    (placed_waits old p.left p.entry p.right st2) in
    subst (StandFor (waiting cells new time more)) (sym (rest_is w slot p st.timed.distinct))
    (stand_left old (waiting cells new time more) p.left p.entry p.right st2 shape refl one)

pub kept_left : (lists new : List (List Item)) (cells : List Cell) (free more_free : List ℕ)
    (room more_room slot time spare more : ℕ) → IsKept lists cells free room time spare → more ≡ spare + 1 →
    IsOut lists new slot → IsTied new cells → IsLive (waiting cells lists time spare) slot →
    more_free ≡ free ++ slot ∷ [] → room ≤ more_room → IsKept new cells more_free more_room time more
kept_left lists new cells free more_free room more_room slot time spare more k one is tied live free_is wider =
    let old = waiting cells lists time spare in
    let p = placed old k.waits slot k.stands live in
    let f = free_left free p.left p.entry p.right (subst (AreFree free) p.is k.are_free) in
    let a = among time p.left p.entry p.right (subst (StandFor old) p.is k.stands).timed in
    let count = k.count in
    let enough = k.has_room in
    let long : length more_free ≡ length free + 1 = ap length free_is ∙ length-append free (slot ∷ []) in
    record {
      tied = tied;
      now = k.now;
      count = omega arith;
      has_room = omega arith;
      waits = without slot k.waits;
      stands = call_left lists new cells slot time spare more one is live k.waits k.stands;
      are_free = subst (λ (v : List Entry). AreFree more_free v) (sym (rest_is k.waits slot p k.stands.timed.distinct))
          (subst (λ (v : List ℕ). AreFree v (p.left ++ p.right)) (ap (λ (j : ℕ). free ++ j ∷ []) p.has ∙ sym free_is)
          (free_more free (p.left ++ p.right) p.entry.slot f.0 a.slot a.others f.1));
    }

-- what holds of each entry by its place holds of all
All-splits : (P : Entry → Type 0) (pre w : List Entry) →
    ((left : List Entry) (e : Entry) (right : List Entry) → pre ++ w ≡ left ++ e ∷ right → P e) → All P w
All-splits P pre [] f = All-nil P
All-splits P pre (e ∷ w) f =
    All-cons P e w (f pre e w refl)
    (All-splits P (pre ++ e ∷ []) w (λ left o right is. f left o right (sym (append_assoc pre (e ∷ []) w) ∙ is)))

-- a slot that no item has, no entry has
pub not_waiting : (lists : List (List Item)) (cells : List Cell) (time spare slot : ℕ) → IsTied lists cells →
    NotOwned lists slot →
    (w : List Entry) → StandFor (waiting cells lists time spare) w → All (λ e. e.slot ≢ slot) w
not_waiting lists cells time spare slot t none w st =
    let old = waiting cells lists time spare in
    let seven = t.seven in
    All-splits (λ e. e.slot ≢ slot) [] w
    (λ left e right is same.
    let waits = placed_waits old left e right (subst (StandFor old) is st) in
    let o = owned_of lists cells time spare slot (record {
      before = in_class e.class left;
      entry = e;
      after = in_class e.class right;
      has = same;
      waits = waits;
    }) in
    let within = o.stands.within in
    (Each-drop (λ i. i.key ≢ slot) o.before o.item o.after
    (subst (Each (λ i. i.key ≢ slot)) o.stands.split (none o.item.list (omega arith)))).0 o.has)

-- what a new key leaves
pub record IsNew (lists new : List (List Item)) (cells newer : List Cell) (slot at : ℕ) (key : Key) : Type 0 where
  pub lists_are : new ≡ with_new lists slot at
  pub cells_are : newer ≡ set cells slot (record { key = key; at = at })

pub call_begun : (lists new : List (List Item)) (cells newer : List Cell) (slot at : ℕ) (key : Key)
    (time spare more : ℕ) →
    IsTied lists cells → more + 1 ≡ spare → IsNew lists new cells newer slot at key → slot < most_keys →
    NotOwned lists slot →
    (w : List Entry) → StandFor (waiting cells lists time spare) w → StandFor (waiting newer new time more)
    (begun slot key w)
call_begun lists new cells newer slot at key time spare more tied one is low none w st =
    let shape = ap₂ (λ (c : List Cell) (v : List (List Item)). entries c v) is.cells_are is.lists_are
    ∙ entries_new lists cells (record { key = key; at = at }) slot tied low none in
    stand_begun (waiting cells lists time spare) (waiting newer new time more) w slot key st shape low
    (not_waiting lists cells time spare slot tied none w st) refl one

-- the slot that is given out next
pub next_free : (lists : List (List Item)) (cells : List Cell) (free rest : List ℕ) (room time spare slot : ℕ) →
    (k : IsKept lists cells free room time spare) → free ≡ rest ++ slot ∷ [] → LastFree rest slot k.waits
next_free lists cells free rest room time spare slot k is =
    free_last rest slot k.waits (subst (λ (v : List ℕ). AreFree v k.waits) is k.are_free)

pub next_not_owned : (lists : List (List Item)) (cells : List Cell) (free rest : List ℕ) (room time spare slot : ℕ) →
    IsKept lists cells free room time spare → free ≡ rest ++ slot ∷ [] → NotOwned lists slot
next_not_owned lists cells free rest room time spare slot k is =
    not_owned lists cells slot k.waits k.tied.seven k.stands.classes
    (next_free lists cells free rest room time spare slot k is).free

pub kept_begun : (lists new : List (List Item)) (cells newer : List Cell) (free rest : List ℕ)
    (room less_room slot at : ℕ) (key : Key) (time spare more : ℕ) → IsKept lists cells free room time spare →
    more + 1 ≡ spare → IsNew lists new cells newer slot at key → IsTied new newer → free ≡ rest ++ slot ∷ [] →
    less_room ≡ room → IsKept new newer rest less_room time more
kept_begun lists new cells newer free rest room less_room slot at key time spare more k one is tied free_is same =
    let f = next_free lists cells free rest room time spare slot k free_is in
    let none = next_not_owned lists cells free rest room time spare slot k free_is in
    let count = k.count in
    let enough = k.has_room in
    let long : length free ≡ length rest + 1 = ap length free_is ∙ length-append rest (slot ∷ []) in
    record {
      tied = tied;
      now = k.now;
      count = omega arith;
      has_room = omega arith;
      waits = begun slot key k.waits;
      stands = call_begun lists new cells newer slot at key time spare more k.tied one is f.low none k.waits k.stands;
      are_free = free_put rest k.waits (record { slot = slot; key = key; class = 0; due = 0 }) f.rest f.apart;
    }

-- what emitting the first that is due leaves
pub record IsDue (lists new : List (List Item)) (cells newer : List Cell) (time : ℕ) : Type 0 where
  pub moves : (item : Item) → first_due time lists ≡ Some item → (at : ℕ)
      × Stands lists [] item (drop 1 (list_at lists item.list))
      × (new ≡ shifted lists [] item (drop 1 (list_at lists item.list)) (class_after false item.list)
      (due_in (class_after false item.list) time) at)
      × (newer ≡ with_at cells item.key at)
  pub none : first_due time lists ≡ None → (new ≡ lists) × (newer ≡ cells)

-- the plain list goes on so, and free slots stay free
record GoesOn (old new : Waiting) (w next : List Entry) : Type 0 where
  stands : StandFor new next
  are_free : (free : List ℕ) → AreFree free w → AreFree free next

pub first_seen : (lists : List (List Item)) (cells : List Cell) (time spare now : ℕ) (w : List Entry) →
    IsTied lists cells →
    StandFor (waiting cells lists time spare) w →
    slice_get (due_at now w) 0 ≡ option_map (entry_of cells) (first_due now lists)
first_seen lists cells time spare now w t st =
    due_seen cells lists w now 0 t.seven st.classes st.timed.rising
    ∙ ap (option_map (entry_of cells)) (sym (first_front now lists))

-- the first that is due moves
emitted_one : (lists new : List (List Item)) (cells newer : List Cell) (s t spare more : ℕ) → IsTied lists cells →
    s ≤ t →
    more ≡ spare → IsDue lists new cells newer t → (w : List Entry) → StandFor (waiting cells lists s spare) w →
    (item : Item) → first_due t lists ≡ Some item →
    GoesOn (waiting cells lists s spare) (waiting newer new t more) w
    (moved_last (emitted t) (entry_of cells item).slot w)
emitted_one lists new cells newer s t spare more tied later same is w st item first =
    let old = waiting cells lists s spare in
    let e = entry_of cells item in
    let m = is.moves item first in
    let at = m.0 in
    let rest = drop 1 (list_at lists item.list) in
    let stands = m.1 in
    let within = stands.within in
    let seven = tied.seven in
    let mine = tied_at lists cells [] item rest tied stands in
    let class = class_after false item.list in
    let low = class_low false item.list in
    let behind = map (entry_of cells) rest in
    let split : in_class item.list w ≡ [] ++ e ∷ behind =
    sym (at_class w item.list (omega arith)) ∙ ap (λ (c : List (List Entry)). class_at c item.list) (sym st.classes)
    ∙ get_or-map (map (entry_of cells)) lists item.list [] [] within ∙ ap (map (entry_of cells)) stands.split in
    let q = class_place item.list w [] e behind split in
    let p : Placed w e.slot = record { left = q.left; entry = e; right = q.right; is = q.is; has = refl } in
    let shape : entries newer new ≡ moved (entries cells lists) (in_class item.list q.left) e
    (in_class item.list q.right) class
    (due_in class t) =
    ap₂ (λ (c : List Cell) (v : List (List Item)). entries c v) m.3 m.2
    ∙ entries_shifted lists cells [] item rest class (due_in class t) at mine.owned (omega arith)
    ∙ ap₂ (λ (b a : List Entry). moved (entries cells lists) b e a class (due_in class t)) (sym q.is_left)
    (sym q.is_right) in
    record {
      stands = subst (StandFor (waiting newer new t more)) (sym (last_is (emitted t) w e.slot p st.timed.distinct))
          (stand_moved old (waiting newer new t more) q.left e q.right class
          (subst (StandFor old) q.is st) shape low later same);
      are_free = λ free h. free_moved free w e.slot t (λ o. min (o.class + 1) 6) p old st h;
    }

goes_on : (lists new : List (List Item)) (cells newer : List Cell) (s t spare more : ℕ) → IsTied lists cells → s ≤ t →
    more ≡ spare → IsDue lists new cells newer t → (w : List Entry) → StandFor (waiting cells lists s spare) w →
    GoesOn (waiting cells lists s spare) (waiting newer new t more) w (with_emitted t (slice_get (due_at t w) 0) w)
goes_on lists new cells newer s t spare more tied later same is w st =
    let old = waiting cells lists s spare in
    let next = waiting newer new t more in
    subst (λ (o : Option Entry). GoesOn old next w (with_emitted t o w))
    (sym (first_seen lists cells s spare t w tied st))
    (by_first (first_due t lists) refl)
  where
    by_first : (o : Option Item) → first_due t lists ≡ o →
        GoesOn (waiting cells lists s spare) (waiting newer new t more) w
        (with_emitted t (option_map (entry_of cells) o) w)
    by_first None first =
        let still = is.none first in
        record {
          stands = stand_later (waiting cells lists s spare) (waiting newer new t more) w st
              (ap₂ (λ (c : List Cell) (v : List (List Item)). entries c v) still.1 still.0) later same;
          are_free = λ free h. h;
        }
    by_first (Some item) first = emitted_one lists new cells newer s t spare more tied later same is w st item first

pub call_emitted : (lists new : List (List Item)) (cells newer : List Cell) (s t spare more : ℕ) →
    IsTied lists cells → s ≤ t →
    more ≡ spare → IsDue lists new cells newer t → (w : List Entry) → StandFor (waiting cells lists s spare) w →
    StandFor (waiting newer new t more) (with_emitted t (slice_get (due_at t w) 0) w)
call_emitted lists new cells newer s t spare more tied later same is w st =
    (goes_on lists new cells newer s t spare more tied later same is w st).stands

pub kept_emitted : (lists new : List (List Item)) (cells newer : List Cell) (free : List ℕ) (room s t spare more : ℕ) →
    IsKept lists cells free room s spare → s ≤ t → t ≤ 200000000000000 → more ≡ spare → IsDue lists new cells newer t →
    IsTied new newer → IsKept new newer free room t more
kept_emitted lists new cells newer free room s t spare more k later top same is tied =
    let g = goes_on lists new cells newer s t spare more k.tied later same is k.waits k.stands in
    record {
      tied = tied;
      now = top;
      count = k.count ∙ sym same;
      has_room = k.has_room;
      waits = with_emitted t (slice_get (due_at t k.waits) 0) k.waits;
      stands = g.stands;
      are_free = g.are_free free k.are_free;
    }

-- all slots are free
pub record AllFree (free : List ℕ) (room : ℕ) : Type 0 where
  pub count : length free ≡ most_keys
  pub low : All (λ slot. slot < most_keys) free
  pub distinct : AllPairs ◌≢◌ free
  pub has_room : most_keys ≤ room

no_items : (cells : List Cell) (l : ℕ) → l < 7 → Each (IsTiedItem cells l) (list_at (replicate 7 []) l)
no_items cells l lt = subst (Each (IsTiedItem cells l)) (sym (get_or-replicate 7 l [] [] lt)) tt

pub kept_new : (lists : List (List Item)) (cells : List Cell) (free : List ℕ) (room spare : ℕ) →
    lists ≡ replicate 7 [] → spare ≡ most_keys → length cells ≡ most_keys → AllFree free room →
    IsKept lists cells free room 0 spare
kept_new lists cells free room spare empty all small f =
    let none : entries cells lists ≡ by_class [] = ap (entries cells) empty in
    record {
      tied = record {
        seven = ap length empty;
        each = λ l lt. subst (λ (v : List (List Item)). Each (IsTiedItem cells l) (list_at v l)) (sym empty)
            (no_items cells l lt);
        small = small;
      };
      now = omega arith;
      count = f.count ∙ sym all;
      has_room = f.has_room;
      waits = [];
      stands = record { classes = none; timed = timed_none 0; spare = omega arith };
      are_free = record {
        low = f.low;
        distinct = f.distinct;
        apart = λ k d lt. All-nil
            (λ e. e.slot ≢ get_or free k d);
      };
    }
