-- The lists as they are made.
use Rattle.std.proofs.Common.{◌≡◌, ◌≢◌, ℕ, zero, suc, ◌+◌, ◌<◌, inl, inr, List, [], ◌∷◌, ◌++◌, map, length, get_or}
use Rattle.std.proofs.Common.{set, take, sum_by, replicate, refl, sym, ap, subst, ◌∙◌, arith, length-take, length-set}
use Rattle.std.proofs.Common.{length-append}
use Rattle.std.proofs.lemmas.Bool.{cases_eq}
use Rattle.std.proofs.lemmas.List.{length-replicate, get_or-replicate, length-map, get_or-set_same, get_or-set_other}
use Rattle.std.proofs.lemmas.List.{get_or_default, same_lists}
use Rattle.std.proofs.lemmas.List.Sums.{sum_by-set, sum_by-cons}
use Rattle.timers.specs.declared.links.links.Item.{Item}
use Rattle.timers.specs.declared.links.nodes.Node.{Node}
use Rattle.timers.specs.Links.Nodes.{prev_of, item_at, Each, Off, IsList, shown, linked, IsAlone, IsBuilt}
use Rattle.timers.proofs.LinksLemmas.PathLemmas.{Each-map, Each-append}
use Rattle.timers.proofs.LinksLemmas.ListsLemmas.{AreWithout, behind_of, linked_are}
use Rattle.timers.proofs.LinksLemmas.NodeLemmas.{Behind}
use Rattle.timers.proofs.LinksLemmas.ShownLemmas.{seen, seen_is, list_seen}

sum-replicate : (m : ℕ) → sum_by length (replicate {A = List ℕ} m []) ≡ 0
sum-replicate zero = refl
sum-replicate (suc m) =
    let rest = sum-replicate m in
    omega (arith, sum_by-cons (length {A = ℕ}) [] (replicate {A = List ℕ} m []))

pub built_none : (n : List Node) (slots lists : ℕ) → length n ≡ slots + lists + 1 →
    ((i : ℕ) → i < slots + lists + 1 → IsAlone n i) → IsBuilt n slots lists 0
built_none n slots lists len alone =
    let order = replicate {A = List ℕ} (lists + 1) [] in
    let many : length order ≡ lists + 1 = length-replicate (lists + 1) [] in
    let none : (l : ℕ) → l < lists + 1 → get_or order l [] ≡ [] = λ l lt. get_or-replicate (lists + 1) l [] [] lt in
    record {
      order = order;
      lists_are = record {
        long = omega arith;
        at = λ l lt.
            let a = alone (slots + l) (omega arith) in
            subst (IsList n slots l) (sym (none l (omega arith))) (record { path = a; each = tt; distinct = tt });
      };
      all = sum-replicate (lists + 1);
      many = many;
      free = ap length (none lists (omega arith));
      below = subst (Each (λ x. x < 0)) (sym (none lists (omega arith))) tt;
      empty = λ l lt. none l (omega arith);
    }

built_off : (n : List Node) (slots lists k : ℕ) (b : IsBuilt n slots lists k) → AreWithout n slots b.order k
built_off n slots lists k b =
    let many = b.many in
    record {
      lists_are = b.lists_are;
      off = λ l lt. elim (cases_eq l lists) [
        | inl e ↦ rw e (Each-map (λ x. x < k) (λ x. x ≢ k) (λ x h same. omega arith) (get_or b.order lists []) b.below)
        | inr ne ↦ subst (Off k) (sym (b.empty l (omega arith))) tt
      ];
    }

pub built_last : (n : List Node) (slots lists k : ℕ) → IsBuilt n slots lists k → k < slots →
    prev_of n (slots + lists) < length n
built_last n slots lists k b lt =
    let many = b.many in
    let be : Behind n (slots + lists) k = behind_of n slots b.order lists k (built_off n slots lists k b)
    (omega arith) lt in
    be.last

pub built_more : (n : List Node) (slots lists k : ℕ) (item : Item) → IsBuilt n slots lists k → k < slots →
    item.list ≡ lists → item.slot ≡ k → IsBuilt (linked n (slots + lists) k item) slots lists (k + 1)
built_more n slots lists k item b lt in_list in_slot =
    let many = b.many in
    let free = b.free in
    let all = b.all in
    let order = b.order in
    let xs = get_or order lists [] in
    let add = xs ++ k ∷ [] in
    let new = set order lists add in
    let len : length new ≡ length order = length-set order lists add in
    let sum = sum_by-set length order lists add [] (omega arith) in
    let long : length add ≡ length xs + 1 = length-append xs (k ∷ []) in
    let here : get_or new lists [] ≡ add = get_or-set_same order lists add [] (omega arith) in
    let still : Each (λ x. x < k + 1) xs = Each-map (λ x. x < k) (λ x. x < k + 1) (λ x h. omega arith) xs b.below in
    record {
      order = new;
      lists_are = linked_are n slots order lists k item (built_off n slots lists k b) (omega arith) lt in_list in_slot;
      all = omega arith;
      many = len ∙ many;
      free = ap length here ∙ long ∙ ap (λ v. v + 1) free;
      below = subst (Each (λ x. x < k + 1)) (sym here)
          (Each-append (λ x. x < k + 1) xs (k ∷ []) still (omega arith, tt));
      empty = λ l h. get_or-set_other order lists l add [] (λ e. omega arith) ∙ b.empty l h;
    }

pub built_seen : (n : List Node) (slots lists : ℕ) → IsBuilt n slots lists slots → seen n slots lists
    ≡ replicate lists []
built_seen n slots lists b =
    let many = b.many in
    let shorter = length-take lists (shown n b.order) in
    let long : length (shown n b.order) ≡ length b.order = length-map b.order (map (item_at n)) in
    let of : length (replicate {A = List Item} lists []) ≡ lists = length-replicate lists [] in
    seen_is n slots lists b.order b.lists_are b.all
    ∙ same_lists (take lists (shown n b.order)) (replicate lists []) (omega arith)
    (λ k d h.
    let lt : k < lists = omega arith in
    get_or_default (take lists (shown n b.order)) k d [] h
    ∙ list_seen n b.order lists k lt (omega arith)
    ∙ ap (map (item_at n)) (b.empty k lt)
    ∙ sym (get_or-replicate lists k [] d lt))
