use Rattle.std.proofs.Common.{ℕ, ◌≡◌, ◌+◌, ◌<◌, min, List, [], ◌++◌, length, take, drop, arith, sym, ◌∙◌, ap}
use Rattle.std.proofs.Common.{length-drop}
use Rattle.std.proofs.lemmas.List.{take-append-drop, drop-drop, drop_all}
use Rattle.rm_base.specs.Outside.{Reading}
use Rattle.rm_base.proofs.mem_streams.MemSourceSource.read.Goals as goal

-- what a copy of the next n bytes leaves of what was left
moved : (left bytes rest new : List ℕ) (at n : ℕ) → left ≡ drop at bytes → rest ≡ drop at bytes
    → n ≡ min (length rest) (length new) → take n new ≡ take n rest
    → (left ≡ take n new ++ drop (at + n) bytes) × (n ≡ 0 → 0 < length new → drop (at + n) bytes ≡ [])
moved left bytes rest new at n is_left is_rest count front = (
  is_left ∙ (sym (take-append-drop n (drop at bytes)) ∙ (ap (λ r. take n (drop at bytes) ++ r) (drop-drop n at bytes)
      ∙ ap (λ f. f ++ drop (at + n) bytes) (sym (front ∙ ap (take n) is_rest)))),
  λ none room. drop_all (at + n) bytes (omega (arith, ap length is_rest, length-drop at bytes)),
)

pub returns-clause-moved : goal.returns-clause-moved
returns-clause-moved c =
    moved c.args.self.now.left c.self.inside.bytes c.split_at.result.1.now c.copy_front-count.new.to c.self.inside.at
    c.copy_front-count.result
    (ap (λ (r : Reading). r.left) (sym c.self.view_is))
    (c.split_at.ensures.back ∙ ap (drop c.self.inside.at) c.as_slice-2.ensures)
    c.copy_front-count.ensures.count c.copy_front-count.ensures.front
