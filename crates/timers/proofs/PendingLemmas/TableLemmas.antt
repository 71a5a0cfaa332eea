-- The queues and the table of packets keep to one another when a packet is put or taken.
use Rattle.std.proofs.Common.{◌≡◌, ◌≢◌, ℕ, zero, suc, ◌+◌, ◌*◌, ◌<◌, ◌≤◌, inl, inr, List, [], ◌∷◌, ◌++◌, length, set}
use Rattle.std.proofs.Common.{refl, sym, ap, subst, ◌∙◌, arith, append_assoc, length-set, length-append}
use Rattle.std.specs.Prelude.{Option, Some, None, is_some, option_map, nat_lt, slice_get, drop}
use Rattle.std.specs.Prelude.{replicate}
use Rattle.std.proofs.lemmas.Bool.Decides.{nat_tests}
use Rattle.std.proofs.lemmas.List.{length-replicate}
use Rattle.std.specs.Option.{option_to_list}
use Rattle.std.specs.List.{AllByRecursion}
use Rattle.std.proofs.lemmas.Bool.{cases_eq}
use Rattle.std.proofs.lemmas.List.{get_or-set_same, get_or-set_other, map-set}
use Rattle.std.proofs.lemmas.List.Concat.{flat_map-append}
use Rattle.std.proofs.Math.ListN.{get_or-map}
use Rattle.timers.specs.declared.links.links.Item.{Item}
use Rattle.timers.specs.Links.Items.{Contents, IsWhole, IsLive, PutsLast, list_at, all_items}
use Rattle.std.proofs.lemmas.List.Elements.{recursion_from_All}
use Rattle.timers.specs.Pending.Waiting.{first_in}
use Rattle.timers.specs.Pending.Table.{queue_at, front_of, packet_at, held, contents, IsHeld, IsKept, Adds, Takes}
use Rattle.timers.proofs.PendingLemmas.EachLemmas.{each-append, each-left}

-- no item has the slot
abbrev Others : ℕ → List Item → Type 0
Others slot items = AllByRecursion (λ i. i.slot ≢ slot) items

-- items of which none has a slot that is live no more
others : {T : Type 0} (packets : List (Option T)) (lists : List (List Item)) (slot l : ℕ) → l < length lists
    → (IsLive lists slot → ⊥) → AllByRecursion (IsHeld packets l) (list_at lists l) → Others slot (list_at lists l)
others packets lists slot l lt dead h = behind [] (list_at lists l) refl h
  where
    behind : (before after : List Item) → list_at lists l ≡ before ++ after → AllByRecursion (IsHeld packets l) after
        → Others slot after
    behind before [] e k = tt
    behind before (i ∷ after) e k = (
      λ same. dead (record {
        before = before;
        item = i;
        after = after;
        has = same;
        stands = record {
          within = subst (λ z. z < length lists) (sym k.0.list) lt;
          split = ap (list_at lists) k.0.list ∙ e;
        };
      }),
      behind (before ++ i ∷ []) after (e ∙ sym (append_assoc before (i ∷ []) after)) k.1,
    )

-- a packet at another slot
held-set : {T : Type 0} (packets : List (Option T)) (slot : ℕ) (x : Option T) (items : List Item)
    → Others slot items → held (set packets slot x) items ≡ held packets items
held-set packets slot x [] h = refl
held-set packets slot x (i ∷ items) h =
    ap (λ z. option_to_list z ++ held (set packets slot x) items) (get_or-set_other packets slot i.slot x None h.0)
    ∙ ap (λ z. option_to_list (packet_at packets i.slot) ++ z) (held-set packets slot x items h.1)

contents-set : {T : Type 0} (packets : List (Option T)) (slot : ℕ) (x : Option T) (lists : List (List Item))
    → ((l : ℕ) → l < length lists → Others slot (list_at lists l))
    → contents (set packets slot x) lists ≡ contents packets lists
contents-set packets slot x [] h = refl
contents-set packets slot x (items ∷ lists) h =
    ap (λ z. z ∷ contents (set packets slot x) lists) (held-set packets slot x items (h 0 (omega arith)))
    ∙ ap (λ z. held packets items ∷ z) (contents-set packets slot x lists (λ l lt. h (suc l) (omega arith)))

-- a queue is what its list holds
pub queue_at-contents : {T : Type 0} (packets : List (Option T)) (lists : List (List Item)) (l : ℕ)
    → queue_at (contents packets lists) l ≡ held packets (list_at lists l)
queue_at-contents packets lists l = get_or-map (held packets) lists l []

held-append : {T : Type 0} (packets : List (Option T)) (xs ys : List Item)
    → held packets (xs ++ ys) ≡ held packets xs ++ held packets ys
held-append packets xs ys = flat_map-append (λ (item : Item). option_to_list (packet_at packets item.slot)) xs ys

-- a queue has as many packets as its list has items
pub length-held : {T : Type 0} (packets : List (Option T)) (l : ℕ) (items : List Item)
    → AllByRecursion (IsHeld packets l) items → length (held packets items) ≡ length items
length-held packets l [] h = refl
length-held packets l (i ∷ items) h =
    let one : packet_at packets i.slot ≡ Some h.0.packet = h.0.there in
    rw one (ap suc (length-held packets l items h.1))

-- how many items there are
total : (lists : List (List Item)) → ((l : ℕ) → l < length lists → length (list_at lists l) ≤ 64)
    → length (all_items lists) ≤ 64 * length lists
total [] h = omega arith
total (items ∷ lists) h =
    let first : length items ≤ 64 = h 0 (omega arith) in
    let rest : length (all_items lists) ≤ 64 * length lists = total lists (λ l lt. h (suc l) (omega arith)) in
    let sum : length (all_items (items ∷ lists)) ≡ length items + length (all_items lists) =
    length-append items (all_items lists) in
    omega arith

less : (lists : List (List Item)) (l : ℕ) → l < length lists → length (list_at lists l) < 64
    → ((k : ℕ) → k < length lists → length (list_at lists k) ≤ 64) → length (all_items lists) < 64 * length lists
less [] l lt few h = absurd (omega arith)
less (items ∷ lists) zero lt few h =
    let rest : length (all_items lists) ≤ 64 * length lists = total lists (λ k lk. h (suc k) (omega arith)) in
    let first : length items < 64 = few in
    let sum : length (all_items (items ∷ lists)) ≡ length items + length (all_items lists) =
    length-append items (all_items lists) in
    omega arith
less (items ∷ lists) (suc l) lt few h =
    let first : length items ≤ 64 = h 0 (omega arith) in
    let rest : length (all_items lists) < 64 * length lists =
    less lists l (omega arith) few (λ k lk. h (suc k) (omega arith)) in
    let sum : length (all_items (items ∷ lists)) ≡ length items + length (all_items lists) =
    length-append items (all_items lists) in
    omega arith

-- there is a spare slot for a queue that isn't full
pub spare-is : {T : Type 0} (packets : List (Option T)) (links : Contents) (l : ℕ) → IsKept packets links → l < 256
    → length (queue_at (contents packets links.lists) l) < 64 → 0 < links.spare
spare-is packets links l k lt few =
    let many = k.many in
    let short : length (list_at links.lists l) < 64 =
    subst (λ z. z < 64) (ap length (queue_at-contents packets links.lists l)
    ∙ length-held packets l (list_at links.lists l) (k.each l lt)) few in
    let under : length (all_items links.lists) < 64 * length links.lists =
    less links.lists l (omega arith) short (λ j lj. k.short j (omega arith)) in
    let sum = k.whole.spare_is in
    let slots = k.slots_ in
    omega arith

-- the items of the other lists stand where they stood
kept-other : {T : Type 0} (packets : List (Option T)) (slot : ℕ) (x : Option T) (l : ℕ) (items : List Item)
    → AllByRecursion (IsHeld packets l) items → Others slot items
    → AllByRecursion (IsHeld (set packets slot x) l) items
kept-other packets slot x l [] h o = tt
kept-other packets slot x l (i ∷ items) h o = (
  record {
    list = h.0.list;
    slot = h.0.slot;
    packet = h.0.packet;
    there = get_or-set_other packets slot i.slot x None o.0 ∙ h.0.there;
  },
  kept-other packets slot x l items h.1 o.1,
)

old_others : {T : Type 0} (packets : List (Option T)) (old : Contents) (slot : ℕ) → IsKept packets old
    → (IsLive old.lists slot → ⊥) → (l : ℕ) → l < length old.lists → Others slot (list_at old.lists l)
old_others packets old slot k free l lt =
    let many = k.many in
    others packets old.lists slot l lt free (k.each l (omega arith))

-- a packet is put
pub put-kept : {T : Type 0} (packets : List (Option T)) (old new : Contents) (l slot : ℕ) (p : T)
    → IsKept packets old → l < 256 → length (queue_at (contents packets old.lists) l) < 64 → Adds old new l slot
    → IsKept (set packets slot (Some p)) new
put-kept packets old new l slot p k lt few a =
    let many = k.many in
    let places = k.places in
    let item : Item = record { slot = slot; list = l; key = 0; due = 0 } in
    let last = list_at old.lists l ++ item ∷ [] in
    let len : length new.lists ≡ length old.lists = ap length a.put ∙ length-set old.lists l last in
    let short : length (list_at old.lists l) < 64 =
    subst (λ z. z < 64) (ap length (queue_at-contents packets old.lists l)
    ∙ length-held packets l (list_at old.lists l) (k.each l lt)) few in
    let same : list_at new.lists l ≡ last =
    ap (λ z. list_at z l) a.put ∙ get_or-set_same old.lists l last [] (omega arith) in
    let rest : (j : ℕ) → j ≢ l → list_at new.lists j ≡ list_at old.lists j =
    λ j ne. ap (λ z. list_at z j) a.put ∙ get_or-set_other old.lists l j last [] ne in
    let still : (j : ℕ) → j < 256 → AllByRecursion (IsHeld (set packets slot (Some p)) j) (list_at old.lists j) =
    λ j lj. kept-other packets slot (Some p) j (list_at old.lists j) (k.each j lj)
    (old_others packets old slot k a.free j (omega arith)) in
    let within = a.within in
    record {
      places = length-set packets slot (Some p) ∙ k.places;
      many = len ∙ k.many;
      whole = a.whole;
      slots_ = a.slots_ ∙ k.slots_;
      short = λ j lj. elim (cases_eq j l) [
        | inl e ↦
            let more : length last ≡ length (list_at old.lists l) + 1 =
            length-append (list_at old.lists l) (item ∷ []) in
            rw (e, same) (omega arith)
        | inr ne ↦ rw (rest j ne) (k.short j lj)
      ];
      each = λ j lj. elim (cases_eq j l) [
        | inl e ↦ rw (e, same) (each-append (IsHeld (set packets slot (Some p)) l) (list_at old.lists l) (item ∷ [])
            (still l lt) (
              record {
                list = refl;
                slot = a.within;
                packet = p;
                there = get_or-set_same packets slot (Some p) None (omega arith);
              },
              tt,
            ))
        | inr ne ↦ rw (rest j ne) (still j lj)
      ];
    }

pub put-contents : {T : Type 0} (packets : List (Option T)) (old new : Contents) (l slot : ℕ) (p : T)
    → IsKept packets old → l < 256 → Adds old new l slot
    → contents (set packets slot (Some p)) new.lists
    ≡ set (contents packets old.lists) l (queue_at (contents packets old.lists) l ++ p ∷ [])
put-contents packets old new l slot p k lt a =
    let places = k.places in
    let within = a.within in
    let many = k.many in
    let later = set packets slot (Some p) in
    let item : Item = record { slot = slot; list = l; key = 0; due = 0 } in
    let items = list_at old.lists l in
    let here : held later (item ∷ []) ≡ p ∷ [] =
    ap (λ z. option_to_list z ++ []) (get_or-set_same packets slot (Some p) None (omega arith)) in
    let there : held later (items ++ item ∷ []) ≡ queue_at (contents packets old.lists) l ++ p ∷ [] =
    held-append later items (item ∷ [])
    ∙ ap (λ z. z ++ held later (item ∷ [])) (held-set packets slot (Some p) items
    (old_others packets old slot k a.free l (omega arith)))
    ∙ ap (λ z. held packets items ++ z) here
    ∙ ap (λ z. z ++ p ∷ []) (sym (queue_at-contents packets old.lists l)) in
    ap (contents later) a.put ∙ map-set (held later) old.lists l (items ++ item ∷ [])
    ∙ ap (λ z. set z l (held later (items ++ item ∷ [])))
    (contents-set packets slot (Some p) old.lists (old_others packets old slot k a.free))
    ∙ ap (set (contents packets old.lists) l) there

-- a packet is taken
pub take-first : {T : Type 0} (packets : List (Option T)) (old new : Contents) (l slot : ℕ)
    → IsKept packets old → l < 256 → (t : Takes old new l slot) → IsHeld packets l t.first
take-first packets old new l slot k lt t = (subst (AllByRecursion (IsHeld packets l)) t.is (k.each l lt)).0

pub take-slot : {T : Type 0} (packets : List (Option T)) (old new : Contents) (l slot : ℕ)
    → IsKept packets old → l < 256 → Takes old new l slot → slot < 16384
take-slot packets old new l slot k lt t =
    subst (λ z. z < 16384) t.slot_ (take-first packets old new l slot k lt t).slot

pub take-packet : {T : Type 0} (packets : List (Option T)) (old new : Contents) (l slot : ℕ)
    → IsKept packets old → l < 256 → Takes old new l slot
    → packet_at packets slot ≡ front_of (queue_at (contents packets old.lists) l)
take-packet packets old new l slot k lt t =
    let first = take-first packets old new l slot k lt t in
    let there : packet_at packets slot ≡ Some first.packet = ap (packet_at packets) (sym t.slot_) ∙ first.there in
    there ∙ sym (ap front_of (queue_at-contents packets old.lists l ∙ ap (held packets) t.is
    ∙ ap (λ z. option_to_list z ++ held packets t.rest) first.there))

new_others : {T : Type 0} (packets : List (Option T)) (old new : Contents) (l slot : ℕ)
    → IsKept packets old → l < 256 → Takes old new l slot → (j : ℕ) → j < 256
    → AllByRecursion (IsHeld packets j) (list_at new.lists j) × Others slot (list_at new.lists j)
new_others packets old new l slot k lt t j lj =
    let many = k.many in
    let len : length new.lists ≡ length old.lists = ap length t.lists_ ∙ length-set old.lists l t.rest in
    let here : AllByRecursion (IsHeld packets j) (list_at new.lists j) =
    elim (cases_eq j l) [
      | inl e ↦ rw (e, ap (λ z. list_at z l) t.lists_ ∙ get_or-set_same old.lists l t.rest [] (omega arith))
          (subst (AllByRecursion (IsHeld packets l)) t.is (k.each l lt)).1
      | inr ne ↦ rw (ap (λ z. list_at z j) t.lists_ ∙ get_or-set_other old.lists l j t.rest [] ne) (k.each j lj)
    ] in
    (here, others packets new.lists slot j (omega arith) t.gone here)

pub take-kept : {T : Type 0} (packets : List (Option T)) (old new : Contents) (l slot : ℕ)
    → IsKept packets old → l < 256 → Takes old new l slot → IsKept (set packets slot None) new
take-kept packets old new l slot k lt t =
    let many = k.many in
    let len : length new.lists ≡ length old.lists = ap length t.lists_ ∙ length-set old.lists l t.rest in
    record {
      places = length-set packets slot None ∙ k.places;
      many = len ∙ k.many;
      whole = t.whole;
      slots_ = t.slots_ ∙ k.slots_;
      short = λ j lj. elim (cases_eq j l) [
        | inl e ↦
            let old_short : length (t.first ∷ t.rest) ≤ 64 = subst (λ z. length z ≤ 64) t.is (k.short l lt) in
            let few : length t.rest ≤ 64 = omega arith in
            rw (e, ap (λ z. list_at z l) t.lists_ ∙ get_or-set_same old.lists l t.rest [] (omega arith)) few
        | inr ne ↦ rw (ap (λ z. list_at z j) t.lists_ ∙ get_or-set_other old.lists l j t.rest [] ne) (k.short j lj)
      ];
      each = λ j lj.
          let both = new_others packets old new l slot k lt t j lj in
          kept-other packets slot None j (list_at new.lists j) both.0 both.1;
    }

pub take-contents : {T : Type 0} (packets : List (Option T)) (old new : Contents) (l slot : ℕ)
    → IsKept packets old → l < 256 → Takes old new l slot
    → contents (set packets slot None) new.lists
    ≡ set (contents packets old.lists) l (drop 1 (queue_at (contents packets old.lists) l))
take-contents packets old new l slot k lt t =
    let many = k.many in
    let len : length new.lists ≡ length old.lists = ap length t.lists_ ∙ length-set old.lists l t.rest in
    let first = take-first packets old new l slot k lt t in
    let queue : queue_at (contents packets old.lists) l ≡ first.packet ∷ held packets t.rest =
    queue_at-contents packets old.lists l ∙ ap (held packets) t.is
    ∙ ap (λ z. option_to_list z ++ held packets t.rest) first.there in
    contents-set packets slot None new.lists (λ j lj. (new_others packets old new l slot k lt t j (omega arith)).1)
    ∙ ap (contents packets) t.lists_ ∙ map-set (held packets) old.lists l t.rest
    ∙ ap (λ z. set (contents packets old.lists) l (drop 1 z)) (sym queue)

-- what is taken or shown first
pub first-front : {T : Type 0} (q : List T) (front : Option T) → front_of q ≡ front
    → first_in q ≡ option_map (λ p. (p, nat_lt 1 (length q))) front
first-front {T} q front e = both q ∙ ap (option_map (λ p. (p, nat_lt 1 (length q)))) e
  where
    both : (xs : List T) → first_in xs ≡ option_map (λ p. (p, nat_lt 1 (length xs))) (front_of xs)
    both [] = refl
    both (x ∷ xs) =
        let more : nat_lt 0 (length xs) ≡ nat_lt 1 (suc (length xs)) = grind (arith, nat_tests) in
        ap (λ b. Some (x, b)) more

-- an empty queue without its first packet
pub same-contents : {T : Type 0} (packets : List (Option T)) (lists : List (List Item)) (l : ℕ)
    → list_at lists l ≡ [] → (front_of (queue_at (contents packets lists) l) ≡ None)
    × (queue_at (contents packets lists) l ≡ [])
same-contents packets lists l e =
    let queue : queue_at (contents packets lists) l ≡ [] =
    queue_at-contents packets lists l ∙ ap (held packets) e in
    (ap front_of queue, queue)

some-get : (items : List Item) (k : ℕ)
    → is_some (option_map (λ (item : Item). item.slot) (slice_get items k)) ≡ nat_lt k (length items)
some-get [] k = grind (arith, nat_tests)
some-get (i ∷ items) zero = grind (arith, nat_tests)
some-get (i ∷ items) (suc k) =
    let rest : is_some (option_map (λ (item : Item). item.slot) (slice_get items k)) ≡ nat_lt k (length items) =
    some-get items k in
    grind (arith, nat_tests)

-- a list has an item at a place where the queue has a packet there
pub has-is : {T : Type 0} (packets : List (Option T)) (links : Contents) (l k : ℕ) → IsKept packets links → l < 256
    → is_some (option_map (λ (item : Item). item.slot) (slice_get (list_at links.lists l) k))
    ≡ nat_lt k (length (queue_at (contents packets links.lists) l))
has-is packets links l k h lt = some-get (list_at links.lists l) k
    ∙ ap (nat_lt k) (sym (ap length (queue_at-contents packets links.lists l)
    ∙ length-held packets l (list_at links.lists l) (h.each l lt)))

first-of : {T : Type 0} (packets : List (Option T)) (l slot : ℕ) (items : List Item)
    → AllByRecursion (IsHeld packets l) items
    → Some slot ≡ option_map (λ (item : Item). item.slot) (slice_get items 0)
    → (slot < 16384) × (packet_at packets slot ≡ front_of (held packets items))
first-of packets l slot [] h e = absurd (cc)
first-of packets l slot (i ∷ items) h e =
    let same : i.slot ≡ slot = cc in (
      subst (λ z. z < 16384) same h.0.slot,
      ap (packet_at packets) (sym same) ∙ h.0.there
          ∙ sym (ap (λ z. front_of (option_to_list z ++ held packets items)) h.0.there),
    )

pub first-is : {T : Type 0} (packets : List (Option T)) (links : Contents) (l slot : ℕ) → IsKept packets links
    → l < 256 → Some slot ≡ option_map (λ (item : Item). item.slot) (slice_get (list_at links.lists l) 0)
    → (slot < 16384) × (packet_at packets slot ≡ front_of (queue_at (contents packets links.lists) l))
first-is packets links l slot h lt e =
    let found = first-of packets l slot (list_at links.lists l) (h.each l lt) e in
    (found.0, found.1 ∙ ap front_of (sym (queue_at-contents packets links.lists l)))

nothing : (items : List Item) → None ≡ option_map (λ (item : Item). item.slot) (slice_get items 0) → items ≡ []
nothing [] e = refl
nothing (i ∷ items) e = absurd (cc)

pub none-is : {T : Type 0} (packets : List (Option T)) (lists : List (List Item)) (l : ℕ)
    → None ≡ option_map (λ (item : Item). item.slot) (slice_get (list_at lists l) 0)
    → front_of (queue_at (contents packets lists) l) ≡ None
none-is packets lists l e = (same-contents packets lists l (nothing (list_at lists l) e)).0

-- new queues are empty
no_lists : {T : Type 0} (packets : List (Option T)) (n : ℕ) → contents packets (replicate n []) ≡ replicate n []
no_lists packets zero = refl
no_lists packets (suc n) = ap (λ z. [] ∷ z) (no_lists packets n)

no_list : (n l : ℕ) → list_at (replicate n []) l ≡ []
no_list zero l = refl
no_list (suc n) zero = refl
no_list (suc n) (suc l) = no_list n l

pub new-contents : {T : Type 0} (packets : List (Option T)) (lists : List (List Item)) → lists ≡ replicate 256 []
    → contents packets lists ≡ replicate 256 []
new-contents packets lists e = ap (contents packets) e ∙ no_lists packets 256

pub new-kept : {T : Type 0} (packets : List (Option T)) (links : Contents) → packets ≡ replicate 16384 None
    → links.lists ≡ replicate 256 [] → links.slots ≡ 16384 → IsWhole links → IsKept packets links
new-kept {T} packets links e f s w = record {
  places = ap length e ∙ length-replicate {A = Option T} 16384 None;
  many = ap length f ∙ length-replicate {A = List Item} 256 [];
  whole = w;
  slots_ = s;
  short = λ l lt. let none : list_at links.lists l ≡ [] = ap (λ z. list_at z l) f ∙ no_list 256 l in
      rw none (omega arith);
  each = λ l lt. let none : list_at links.lists l ≡ [] = ap (λ z. list_at z l) f ∙ no_list 256 l in rw none tt;
}

in_list : (P : Item → Type 0) (lists : List (List Item)) (l : ℕ) → AllByRecursion P (all_items lists)
    → AllByRecursion P (list_at lists l)
in_list P [] l h = tt
in_list P (items ∷ lists) zero h = (each-left P items (all_items lists) h).0
in_list P (items ∷ lists) (suc l) h = in_list P lists l (each-left P items (all_items lists) h).1

-- what is put has a slot
pub within-is : (old new : Contents) (item : Item) → IsWhole new → PutsLast old.lists new.lists item
    → item.list < length old.lists → new.slots ≡ 16384 → item.slot < 16384
within-is old new item w e lt s =
    let here : list_at new.lists item.list ≡ list_at old.lists item.list ++ item ∷ [] =
    ap (λ z. list_at z item.list) e ∙ get_or-set_same old.lists item.list _ [] lt in
    let all : AllByRecursion (λ i. i.slot < new.slots) (all_items new.lists) =
    recursion_from_All (λ i. i.slot < new.slots) (all_items new.lists) w.in_slot in
    let mine = in_list (λ i. i.slot < new.slots) new.lists item.list all in
    let last = (each-left (λ i. i.slot < new.slots) (list_at old.lists item.list) (item ∷ [])
    (subst (AllByRecursion (λ i. i.slot < new.slots)) here mine)).1 in
    subst (λ z. item.slot < z) s last.0
