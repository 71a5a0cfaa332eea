-- Moving bytes to a body, a piece at a time.
use Rattle.std.proofs.Common.{◌≡◌, ℕ, ◌≤◌, ◌<◌, ◌+◌, List, [], ◌++◌, length, take, drop, min, arith, ap, sym, ◌∙◌}
use Rattle.std.proofs.Common.{Option, Some, None, append_assoc}
use Rattle.std.proofs.Math.Seq.{take-append-add}
use Rattle.std.proofs.lemmas.List.{take-append-drop, drop-drop, length-append, length-drop}
use Rattle.std.proofs.lemmas.Grind.{common_steps}
use Rattle.std.specs.Io.KnownBytes.{IsAtEnd}
use Rattle.rm_base.specs.Limits.{envelope_bytes}
use Rattle.http_endpoint.specs.Ahead.{ahead, StillAhead}
use Rattle.http_endpoint.specs.Body.{Moved}

-- the first bytes, and then those behind them
take-add : (n k : ℕ) (all : List ℕ) → n ≤ length all → take n all ++ take k (drop n all) ≡ take (n + k) all
take-add n k all inside =
    let len : length (take n all) ≡ n = grind (arith, common_steps, inside) in
    sym (ap (λ l. take (n + k) l) (sym (take-append-drop n all))
    ∙ (ap (λ i. take (i + k) (take n all ++ drop n all)) (sym len)
    ∙ take-append-add (take n all) (drop n all) k))

-- the first k bytes of those that are held are moved too
pub moved-on : (n k n2 : ℕ) (all body mid new : List ℕ) (from old : Option (List ℕ)) (held held2 : List ℕ)
    → StillAhead old (ahead from held) → k ≤ length held → new ≡ mid ++ take k held → held2 ≡ drop k held → n2 ≡ n + k
    → length new ≤ envelope_bytes → Moved n all body mid old → Moved n2 all body new (ahead from held2)
moved-on n k n2 all body mid new None old held held2 still fits new_is held_is n_is within m =
    grind (arith, still (drop n all) m.after_is)
moved-on n k n2 all body mid new (Some l) old held held2 still fits new_is held_is n_is within m =
    let rest_is : held ++ l ≡ drop n all = grind (arith, still (drop n all) m.after_is) in
    let lens : length held + length l ≡ length (drop n all) = grind (arith, common_steps, rest_is) in
    let sized : length mid ≡ length body + n = grind (arith, common_steps, m.new_is, m.inside) in
    let piece : take k held ≡ take k (drop n all) = grind (arith, common_steps, rest_is, fits) in
    let behind : held2 ++ l ≡ drop k (drop n all) = grind (arith, common_steps, rest_is, fits, held_is) in
    record {
      inside = grind (arith, common_steps, lens, fits, n_is, m.inside);
      new_is = new_is ∙ (ap (λ x. x ++ take k held) m.new_is ∙ (append_assoc body (take n all) (take k held)
          ∙ ap (λ x. body ++ x) (ap (λ x. take n all ++ x) piece
          ∙ (take-add n k all m.inside ∙ ap (λ i. take i all) (sym n_is)))));
      within = grind (arith, common_steps, new_is, sized, fits, n_is, within);
      after_is = ap Some (behind ∙ (drop-drop k n all ∙ ap (λ i. drop i all) (sym n_is)));
    }

-- none are ahead, and fewer were moved than were to be
pub moved-short : (n left size : ℕ) (all body new held : List ℕ) (from old : Option (List ℕ))
    → StillAhead old (ahead from held)
    → n + left ≡ size → 0 < left → IsAtEnd from → held ≡ [] → Moved n all body new old
    → (length all < size) × (length body + length all ≤ envelope_bytes) × (new ≡ body ++ all)
moved-short n left size all body new held None old still sum some at_end none m =
    grind (arith, still (drop n all) m.after_is)
moved-short n left size all body new held (Some l) old still sum some at_end none m =
    let rest_is : drop n all ≡ [] = grind (arith, common_steps, still (drop n all) m.after_is, at_end, none) in
    let len : length all ≡ n = omega (arith, simp length-drop at (ap length rest_is), m.inside) in
    let whole : take n all ≡ all = grind (arith, common_steps, len) in
    (omega (arith, len, sum, some), omega (arith, len, m.within), m.new_is ∙ ap (λ x. body ++ x) whole)

-- one more byte than a body may have was moved
pub moved-long : (n k left size : ℕ) (all body mid held : List ℕ) (from old : Option (List ℕ))
    → StillAhead old (ahead from held)
    → n + left ≡ size → k ≤ left → k ≤ length held → envelope_bytes < length mid + k → Moved n all body mid old
    → envelope_bytes < length body + min size (length all)
moved-long n k left size all body mid held None old still sum few fits long m =
    grind (arith, still (drop n all) m.after_is)
moved-long n k left size all body mid held (Some l) old still sum few fits long m =
    let rest_is : held ++ l ≡ drop n all = grind (arith, still (drop n all) m.after_is) in
    let all_len : length all ≡ n + (length held + length l) =
    omega (arith, simp (length-drop, length-append) at (ap length rest_is), m.inside) in
    let mid_len : length mid ≡ length body + n = grind (arith, common_steps, m.new_is, m.inside) in
    omega (arith, all_len, mid_len, sum, few, fits, long)
