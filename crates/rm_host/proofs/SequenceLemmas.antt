-- The items of an inbox, one by one, and the first of sequences.
use Rattle.std.proofs.Common.{◌≡◌, ℕ, ◌+◌, ◌-◌, ◌<◌, ◌≤◌, Bool, true, false, nat_le, List, [], ◌++◌, drop}
use Rattle.std.proofs.Common.{refl, sym, ap, ◌∙◌, arith, get_or, inl, inr, length, suc, take, zero}
use Rattle.std.specs.Prelude.{None, cond, slice_get}
use Rattle.std.proofs.lemmas.Bool.{leb-false, leb-true, ne_eqb}
use Rattle.std.proofs.lemmas.List.{at_drop_more, drop_all, get_or-take, length-take-le, take_all}
use Rattle.std.proofs.lemmas.Option.{slice_get-get_or}
use Rattle.rm_base.specs.Numbered.{numbered}
use Rattle.rm_base.specs.NumberSetLemmas.{lt-or-le}
use Rattle.rm_sides.specs.Destination.Messages.{Item, item_at, payload_in}
use Rattle.rm_host.specs.Sequences.{item_lines, passed_lines, there_line}

-- the item with number k + 1 stands at place k
numbered-more : {A : Type 0} (xs : List A) (k : ℕ) → numbered xs (k + 1) ≡ slice_get xs k
numbered-more xs k =
    let place : k + 1 - 1 ≡ k = omega arith in
    ap (λ b. cond b None (slice_get xs (k + 1 - 1))) (ne_eqb (k + 1) 0 (λ e. absurd (omega (arith, e))))
    ∙ ap (slice_get xs) place

item_at-more : (items : List Item) (k : ℕ) → k < length items → item_at items (k + 1) ≡ get_or items k None
item_at-more items k within = ap payload_in (numbered-more items k ∙ slice_get-get_or items k None within)

-- the next item past a place, and those behind it
pub passed_lines-next : (seq k upto : ℕ) (items : List Item) → k < upto → upto ≤ length items
    → passed_lines seq k upto items
    ≡ there_line seq (k + 1) (item_at items (k + 1)) ++ passed_lines seq (k + 1) upto items
passed_lines-next seq k upto items before within =
    let front = take upto items in
    let len : length front ≡ upto = length-take-le upto items within in
    let here : k < length front = omega (arith, len, before) in
    let same : get_or front k None ≡ get_or items k None = get_or-take upto items k None before in
    at_drop_more (item_lines seq k) front k None here
    ∙ ap (λ item. there_line seq (k + 1) item ++ item_lines seq (k + 1) (drop (k + 1) front))
    (same ∙ sym (item_at-more items k (omega (arith, before, within))))

-- from the first to the last all items are passed
pub passed_lines-all : (seq : ℕ) (items : List Item) → passed_lines seq 0 (length items) items ≡ item_lines seq 0 items
passed_lines-all seq items = ap (item_lines seq 0) (take_all (length items) items (omega arith))

-- no item stands past the last
pub passed_lines-none : (seq k upto : ℕ) (items : List Item) → upto ≤ k → upto ≤ length items
    → passed_lines seq k upto items ≡ []
passed_lines-none seq k upto items past within =
    let len : length (take upto items) ≡ upto = length-take-le upto items within in
    ap (item_lines seq k) (drop_all k (take upto items) (omega (arith, len, past)))

-- what begins with gone items, behind these
pub passed_lines-gone : (seq upto : ℕ) (items : List Item) (k : ℕ) → upto ≤ length items
    → ((i : ℕ) → i ≤ k → item_at items i ≡ None) → passed_lines seq 0 upto items ≡ passed_lines seq k upto items
passed_lines-gone seq upto items zero within gone = refl
passed_lines-gone seq upto items (suc k) within gone =
    passed_lines-gone seq upto items k within (λ i le. gone i (omega (arith, le)))
    ∙ elim (lt-or-le k upto) [
      | inl here ↦
          let none : item_at items (k + 1) ≡ None = gone (k + 1) (omega arith) in
          let same : k + 1 ≡ suc k = omega arith in
          passed_lines-next seq k upto items here within
          ∙ ap (λ item. there_line seq (k + 1) item ++ passed_lines seq (k + 1) upto items) none
          ∙ ap (λ n. passed_lines seq n upto items) same
      | inr past ↦
          passed_lines-none seq k upto items past within
          ∙ sym (passed_lines-none seq (suc k) upto items (omega (arith, past)) within)
    ]

-- none up to a number, and not the next one
pub none-yet : (f : ℕ → Bool) (k : ℕ) → ((n : ℕ) → 0 < n → n ≤ k → f n ≡ false) → f (k + 1) ≡ false → (n : ℕ) → 0 < n
    → n ≤ k + 1 → f n ≡ false
none-yet f k before next n above least = elim (nat_le n k) as (λ t. nat_le n k ≡ t → f n ≡ false) [
  | true ↦ λ e. before n above (leb-true n k e)
  | false ↦ λ e.
      let more : k < n = leb-false n k e in
      let same : n ≡ k + 1 = omega (arith, least, more) in
      ap f same ∙ next
] refl
