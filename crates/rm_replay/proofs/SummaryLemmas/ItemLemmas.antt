-- The text of an inbox, item by item.
use Rattle.std.proofs.Common.{◌≡◌, ℕ, zero, suc, ◌+◌, ◌-◌, ◌<◌, ◌≤◌, List, [], ◌∷◌, ◌++◌, drop, get_or, length}
use Rattle.std.proofs.Common.{refl, sym, ap, ◌∙◌, arith, inl, inr}
use Rattle.std.specs.Prelude.{None, cond, slice_get}
use Rattle.std.proofs.lemmas.Bool.{ne_eqb}
use Rattle.std.proofs.lemmas.List.{at_drop_more, drop_all}
use Rattle.std.proofs.lemmas.Option.{slice_get-get_or}
use Rattle.rm_base.specs.Numbered.{numbered}
use Rattle.rm_base.specs.NumberSetLemmas.{lt-or-le}
use Rattle.rm_sides.specs.Destination.Messages.{Item, item_at, payload_in}
use Rattle.rm_script.specs.declared.report.summary.Place.{Place}
use Rattle.rm_replay.specs.Summary.Summary.{items_text, there_text}

-- the item with number k + 1 stands at place k
numbered-more : {A : Type 0} (xs : List A) (k : ℕ) → numbered xs (k + 1) ≡ slice_get xs k
numbered-more xs k =
    let place_ : k + 1 - 1 ≡ k = omega arith in
    ap (λ b. cond b None (slice_get xs (k + 1 - 1))) (ne_eqb (k + 1) 0 (λ e. absurd (omega (arith, e))))
    ∙ ap (slice_get xs) place_

item_at-more : (items : List Item) (k : ℕ) → k < length items → item_at items (k + 1) ≡ get_or items k None
item_at-more items k within =
    ap payload_in (numbered-more items k ∙ slice_get-get_or items k None within)

-- the next item of an inbox, and those behind it
pub items_text-next : (at : Place) (items : List Item) (k : ℕ) → k < length items
    → items_text at k (drop k items)
    ≡ there_text at (k + 1) (item_at items (k + 1)) ++ items_text at (k + 1) (drop (k + 1) items)
items_text-next at items k within =
    at_drop_more (items_text at k) items k None within
    ∙ ap (λ item. there_text at (k + 1) item ++ items_text at (k + 1) (drop (k + 1) items))
    (sym (item_at-more items k within))

-- what begins with gone items, behind these
pub items_text-gone : (at : Place) (items : List Item) (k : ℕ) → ((i : ℕ) → i ≤ k → item_at items i ≡ None)
    → items_text at 0 items ≡ items_text at k (drop k items)
items_text-gone at items zero gone = refl
items_text-gone at items (suc k) gone =
    items_text-gone at items k (λ i le. gone i (omega (arith, le)))
    ∙ elim (lt-or-le k (length items)) [
      | inl here ↦
          let next : items_text at k (drop k items)
          ≡ there_text at (k + 1) (item_at items (k + 1)) ++ items_text at (k + 1) (drop (k + 1) items) =
          items_text-next at items k here in
          let none : item_at items (k + 1) ≡ None = gone (k + 1) (omega arith) in
          let same : k + 1 ≡ suc k = omega arith in
          next
          ∙ ap (λ item. there_text at (k + 1) item ++ items_text at (k + 1) (drop (k + 1) items)) none
          ∙ ap (λ n. items_text at n (drop n items)) same
      | inr past ↦
          let one : drop k items ≡ [] = drop_all k items past in
          let two : drop (suc k) items ≡ [] = drop_all (suc k) items (omega (arith, past)) in
          ap (items_text at k) one ∙ sym (ap (items_text at (suc k)) two)
    ]

-- behind the last item there is no text
pub items_text-none : (at : Place) (items : List Item) (k : ℕ) → length items ≤ k → items_text at k (drop k items) ≡ []
items_text-none at items k past = ap (items_text at k) (drop_all k items past)
