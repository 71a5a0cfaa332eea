-- What one more record changes of the node itself.
use Rattle.std.proofs.Common.{◌≡◌, ℕ, ◌+◌, Bool, true, false, List, [], ◌∷◌, ◌++◌, length, refl, sym, ap, ◌∙◌, arith}
use Rattle.std.specs.Prelude.{◌&&◌, nat_le, nat_lt, ◌^◌}
use Rattle.std.specs.List.{flat_map}
use Rattle.std.proofs.lemmas.Bool.{and_parts, false≢true}
use Rattle.std.proofs.lemmas.List.{append-nil, append_assoc, length-append}
use Rattle.record_batch.specs.Fact.{Fact, Made}
use Rattle.rm_sides.specs.Destination.Messages.{is_empty}
use Rattle.record_batch.specs.Sequences.Words.{first_or}
use Rattle.record_batch.specs.Sequences.Makers.{makers, makers_of, draws_of, counter, nodes_of, number, addresses_of}
use Rattle.record_batch.specs.Sequences.Makers.{created, created_of}
use Rattle.record_batch.specs.Sequences.Fits.{fits, all_fit}
use Rattle.record_batch.specs.Sequences.OneMore.{OneMoreOfTheNode, number_after}
use Rattle.record_batch.specs.Sequences.GatherLemmas.{flat_map-more, created_from-more}

counter-more : (r : List Fact) (f : Fact) → counter (r ++ f ∷ []) ≡ counter r + length (draws_of f)
counter-more r f = ap length (flat_map-more draws_of r f) ∙ length-append (flat_map draws_of r) (draws_of f)

made_first : (r : List Fact) (node : ℕ) → is_empty r ≡ true
    → first_or 0 (flat_map nodes_of r ++ node ∷ []) ≡ node
made_first [] node e = refl
made_first (f ∷ r) node e = absurd (false≢true e)

number_step : (r : List Fact) (f : Fact) → fits r f ≡ true
    → first_or 0 (flat_map nodes_of r ++ nodes_of f) ≡ number_after (number r) f
number_step r (Made node address) fit =
    made_first r node (and_parts (is_empty r) (nat_le 1 node && nat_lt node (2 ^ 60)) fit).0
number_step r _ fit = ap (λ ns. first_or 0 ns) (append-nil (flat_map nodes_of r))

number-more : (r : List Fact) (f : Fact) → fits r f ≡ true → number (r ++ f ∷ []) ≡ number_after (number r) f
number-more r f fit = ap (λ ns. first_or 0 ns) (flat_map-more nodes_of r f) ∙ number_step r f fit

and_assoc : (a b c : Bool) → (a && (b && c)) ≡ ((a && b) && c)
and_assoc true b c = refl
and_assoc false b c = refl

and_true : (a : Bool) → (a && true) ≡ a
and_true true = refl
and_true false = refl

fit_onto : (r xs : List Fact) (f : Fact) → all_fit r (xs ++ f ∷ []) ≡ (all_fit r xs && fits (r ++ xs) f)
fit_onto r [] f = and_true (fits r f) ∙ ap (λ rs. fits rs f) (sym (append-nil r))
fit_onto r (x ∷ xs) f =
    ap (λ b. fits r x && b) (fit_onto (r ++ x ∷ []) xs f)
    ∙ ap (λ rs. fits r x && (all_fit (r ++ x ∷ []) xs && fits rs f)) (append_assoc r (x ∷ []) xs)
    ∙ and_assoc (fits r x) (all_fit (r ++ x ∷ []) xs) (fits (r ++ x ∷ xs) f)

created-more : (r : List Fact) (f : Fact) → created (r ++ f ∷ []) ≡ created r ++ created_of (length (makers r)) f
created-more r f =
    let count : 0 + length (makers r) ≡ length (makers r) = omega arith in
    created_from-more 0 r f ∙ ap (λ n. created r ++ created_of n f) count

pub one_more : OneMoreOfTheNode
one_more = record {
  makers_ = λ r f. flat_map-more makers_of r f;
  counter_ = counter-more;
  number_ = number-more;
  addresses = λ r f. flat_map-more addresses_of r f;
  created_ = created-more;
  fit = λ r f. fit_onto [] r f;
}
