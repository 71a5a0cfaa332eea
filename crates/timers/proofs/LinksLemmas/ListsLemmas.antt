-- The lists stay lists when a slot is taken out of one and put last into another.
use Rattle.std.proofs.Common.{◌≡◌, ◌≢◌, ℕ, ◌+◌, ◌<◌, ◌≤◌, inl, inr, List, [], ◌∷◌, ◌++◌, length, get_or, set, sym, ap}
use Rattle.std.proofs.Common.{subst, ◌∙◌, arith, length-set}
use Rattle.std.proofs.lemmas.Bool.{cases_eq}
use Rattle.std.proofs.lemmas.List.{get_or-set_same, get_or-set_other}
use Rattle.timers.specs.declared.links.links.Item.{Item}
use Rattle.timers.specs.declared.links.nodes.Node.{Node}
use Rattle.timers.specs.Links.Nodes.{item_at, unlinked, linked, Each, Off, IsSlotOf, IsList, AreLists}
use Rattle.timers.proofs.LinksLemmas.PathLemmas.{Each-map, Each-append, Each-left, Each-right, Each-drop, Distinct-drop}
use Rattle.timers.proofs.LinksLemmas.PathLemmas.{Distinct-push, Keeps, Path-keep, Path-push, Path-drop, Path-last}
use Rattle.timers.proofs.LinksLemmas.PathLemmas.{Path-first}
use Rattle.timers.proofs.LinksLemmas.PathLemmas.{Path-right}
use Rattle.timers.proofs.LinksLemmas.NodeLemmas.{Between, Behind, length-unlinked, length-linked, item-unlinked}
use Rattle.timers.proofs.LinksLemmas.NodeLemmas.{unlinked-keeps, unlinked-skips, item-linked_same, item-linked_other}
use Rattle.timers.proofs.LinksLemmas.NodeLemmas.{linked-keeps, linked-puts}

-- the same items but for x
abbrev pub SameBut : List Node → List Node → ℕ → Type 0
SameBut n m x = (i : ℕ) → i ≢ x → item_at m i ≡ item_at n i

pub slots_keep : (n m : List Node) (slots l x : ℕ) (xs : List ℕ) → SameBut n m x → Off x xs →
    Each (IsSlotOf n slots l) xs → Each (IsSlotOf m slots l) xs
slots_keep n m slots l x [] same off h = tt
slots_keep n m slots l x (y ∷ ys) same off h =
    let is : item_at m y ≡ item_at n y = same y off.0 in (
      record {
        within = h.0.within;
        list = ap (λ (v : Item). v.list) is ∙ h.0.list;
        slot = ap (λ (v : Item). v.slot) is ∙ h.0.slot;
      },
      slots_keep n m slots l x ys same off.1 h.1,
    )

-- a slot of one list is in no other
pub off_other : (n : List Node) (slots l k x : ℕ) (xs : List ℕ) → Each (IsSlotOf n slots l) xs → IsSlotOf n slots k x →
    l ≢ k → Off x xs
off_other n slots l k x xs each is ne =
    Each-map (IsSlotOf n slots l) (λ y. y ≢ x)
    (λ y h e. ne (sym h.list ∙ ap (λ i. (item_at n i).list) e ∙ is.list)) xs each

-- an end is in none
pub off_end : (n : List Node) (slots l e : ℕ) (xs : List ℕ) → Each (IsSlotOf n slots l) xs → slots ≤ e → Off e xs
off_end n slots l e xs each le =
    Each-map (IsSlotOf n slots l) (λ y. y ≢ e) (λ y h same. let lt = h.within in absurd (omega arith)) xs each

pub all_within : (n : List Node) (slots l : ℕ) (xs : List ℕ) → Each (IsSlotOf n slots l) xs → Each (λ y. y < slots) xs
all_within n slots l xs each = Each-map (IsSlotOf n slots l) (λ y. y < slots) (λ y h. h.within) xs each

pub all_nodes : (n : List Node) (slots l : ℕ) (xs : List ℕ) → slots ≤ length n → Each (IsSlotOf n slots l) xs →
    Each (λ y. y < length n) xs
all_nodes n slots l xs le each =
    Each-map (IsSlotOf n slots l) (λ y. y < length n) (λ y h. let lt = h.within in omega arith) xs each

pub IsList-keep : (n m : List Node) (slots l x e : ℕ) (xs : List ℕ) → Keeps n m x e → SameBut n m x →
    slots + l ≢ x → slots + l ≢ e → Off x xs → Off e xs → IsList n slots l xs → IsList m slots l xs
IsList-keep n m slots l x e xs keep same lx le ox oe is = record {
  path = Path-keep n m x e (slots + l) (slots + l) xs keep lx ox oe lx le is.path;
  each = slots_keep n m slots l x xs same ox is.each;
  distinct = is.distinct;
}

-- where a slot of a list stands
pub between_of : (n : List Node) (slots l x : ℕ) (ys zs : List ℕ) → slots + l < length n →
    IsList n slots l (ys ++ x ∷ zs) → Between n x
between_of n slots l x ys zs lt is =
    let le : slots ≤ length n = omega arith in
    let parts = Path-right n (slots + l) (slots + l) x ys zs is.path in
    let left : Each (λ y. y < length n) ys = all_nodes n slots l ys le
    (Each-left (IsSlotOf n slots l) ys (x ∷ zs) is.each) in
    let right : Each (λ y. y < length n) zs = all_nodes n slots l zs le
    (Each-right (IsSlotOf n slots l) ys (x ∷ zs) is.each).1 in
    let before = Path-last (λ y. y < length n) n (slots + l) x ys lt left parts.0 in
    let after = Path-first (λ y. y < length n) n x (slots + l) zs lt right parts.1 in
    record { prev = before.0; next = after.0; from = before.1; to = after.1 }

pub slot_of : (n : List Node) (slots l x : ℕ) (ys zs : List ℕ) → IsList n slots l (ys ++ x ∷ zs) → IsSlotOf n slots l x
slot_of n slots l x ys zs is = (Each-right (IsSlotOf n slots l) ys (x ∷ zs) is.each).0

-- lists in none of which x is
pub record AreWithout (n : List Node) (slots : ℕ) (order : List (List ℕ)) (x : ℕ) : Type 0 where
  pub lists_are : AreLists n slots order
  pub off : (l : ℕ) → l < length order → Off x (get_or order l [])

pub unlinked_are : (n : List Node) (slots : ℕ) (order : List (List ℕ)) (l x : ℕ) (ys zs : List ℕ) →
    AreLists n slots order → l < length order → get_or order l [] ≡ ys ++ x ∷ zs →
    AreWithout (unlinked n x) slots (set order l (ys ++ zs)) x
unlinked_are n slots order l x ys zs are lt split =
    let was : IsList n slots l (ys ++ x ∷ zs) = subst (IsList n slots l) split (are.at l lt) in
    let long = are.long in
    let inside : slots + l < length n = omega arith in
    let b : Between n x = between_of n slots l x ys zs inside was in
    let is : IsSlotOf n slots l x = slot_of n slots l x ys zs was in
    let xs_lt = is.within in
    let same : SameBut n (unlinked n x) x = λ i _. item-unlinked n x i b in
    let keep = unlinked-keeps n x b in
    let d = Distinct-drop ys x zs was.distinct in
    let each = Each-drop (IsSlotOf n slots l) ys x zs was.each in
    let off_here : Off x (ys ++ zs) = Each-append (λ y. y ≢ x) ys zs d.1 d.2 in
    let here : IsList (unlinked n x) slots l (ys ++ zs) = record {
      path = Path-drop n (unlinked n x) x (slots + l) (slots + l) ys zs keep (unlinked-skips n x b)
          (λ e. omega arith) d.1 d.2 (λ e. omega arith) was.path;
      each = slots_keep n (unlinked n x) slots l x (ys ++ zs) same off_here each.1;
      distinct = d.0;
    } in
    let len : length (set order l (ys ++ zs)) ≡ length order = length-set order l (ys ++ zs) in
    record {
      lists_are = record {
        long = length-unlinked n x ∙ long ∙ ap (λ k. slots + k) (sym len);
        at = λ k h. elim (cases_eq k l) [
          | inl e ↦ rw e (subst (IsList (unlinked n x) slots l) (sym (get_or-set_same order l (ys ++ zs) [] lt)) here)
          | inr ne ↦
              let old = are.at k (omega arith) in
              let off : Off x (get_or order k []) = off_other n slots k l x (get_or order k []) old.each is ne in
              subst (IsList (unlinked n x) slots k) (sym (get_or-set_other order l k (ys ++ zs) [] ne))
              (IsList-keep n (unlinked n x) slots k x x (get_or order k []) keep same (λ e. omega arith)
              (λ e. omega arith) off off old)
        ];
      };
      off = λ k h. elim (cases_eq k l) [
        | inl e ↦ rw e (subst (Off x) (sym (get_or-set_same order l (ys ++ zs) [] lt)) off_here)
        | inr ne ↦
            subst (Off x) (sym (get_or-set_other order l k (ys ++ zs) [] ne))
            (off_other n slots k l x (get_or order k []) (are.at k (omega arith)).each is ne)
      ];
    }

pub behind_of : (n : List Node) (slots : ℕ) (order : List (List ℕ)) (l x : ℕ) → AreWithout n slots order x →
    l < length order → x < slots → Behind n (slots + l) x
behind_of n slots order l x w lt xlt =
    let are = w.lists_are in
    let long = are.long in
    let le : slots ≤ length n = omega arith in
    let inside : slots + l < length n = omega arith in
    let is = are.at l lt in
    let xs = get_or order l [] in
    let ne : slots + l ≢ x = λ e. omega arith in
    let last = Path-last (λ y. y < length n) n (slots + l) (slots + l) xs inside
    (all_nodes n slots l xs le is.each) is.path in
    let other = Path-last (λ y. y ≢ x) n (slots + l) (slots + l) xs ne (w.off l lt) is.path in
    record {
      end = inside;
      at = omega arith;
      last = last.0;
      tie = last.1;
      not_end = ne;
      not_last = other.0;
    }

pub linked_are : (n : List Node) (slots : ℕ) (order : List (List ℕ)) (l x : ℕ) (item : Item) →
    AreWithout n slots order x → l < length order → x < slots → item.list ≡ l → item.slot ≡ x →
    AreLists (linked n (slots + l) x item) slots (set order l (get_or order l [] ++ x ∷ []))
linked_are n slots order l x item w lt xlt in_list in_slot =
    let b : Behind n (slots + l) x = behind_of n slots order l x w lt xlt in
    let are = w.lists_are in
    let m = linked n (slots + l) x item in
    let xs = get_or order l [] in
    let is = are.at l lt in
    let same : SameBut n m x = λ i ne. item-linked_other n (slots + l) x item i b ne in
    let keep = linked-keeps n (slots + l) x item b in
    let off = w.off l lt in
    let mine = item-linked_same n (slots + l) x item b in
    let here : IsList m slots l (xs ++ x ∷ []) = record {
      path = Path-push n m x (slots + l) (slots + l) xs keep (linked-puts n (slots + l) x item b) b.not_end off
          (off_end n slots l (slots + l) xs is.each (omega arith)) is.path;
      each = Each-append (IsSlotOf m slots l) xs (x ∷ []) (slots_keep n m slots l x xs same off is.each) (
        record {
          within = xlt;
          list = ap (λ (v : Item). v.list) mine ∙ in_list;
          slot = ap (λ (v : Item). v.slot) mine ∙ in_slot;
        },
        tt,
      );
      distinct = Distinct-push xs x off is.distinct;
    } in
    let len : length (set order l (xs ++ x ∷ [])) ≡ length order = length-set order l (xs ++ x ∷ []) in
    record {
      long = length-linked n (slots + l) x item ∙ are.long ∙ ap (λ k. slots + k) (sym len);
      at = λ k h. elim (cases_eq k l) [
        | inl e ↦ rw e (subst (IsList m slots l) (sym (get_or-set_same order l (xs ++ x ∷ []) [] lt)) here)
        | inr ne ↦
            let old = are.at k (omega arith) in
            subst (IsList m slots k) (sym (get_or-set_other order l k (xs ++ x ∷ []) [] ne))
            (IsList-keep n m slots k x (slots + l) (get_or order k []) keep same (λ e. omega arith)
            (λ e. ne (omega arith)) (w.off k (omega arith))
            (off_end n slots k (slots + l) (get_or order k []) old.each (omega arith)) old)
      ];
    }
