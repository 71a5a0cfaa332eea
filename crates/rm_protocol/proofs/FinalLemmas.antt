-- What an acknowledgement with Final does to its source.
use Rattle.std.proofs.Common.{◌≡◌, ◌∙◌, ℕ, cond, List, [], ◌∷◌, ◌++◌, Some, refl, ap}
use Rattle.std.proofs.lemmas.Bool.{eq-eqb}
use Rattle.rm_sides.specs.declared.source.phase.OutPhase.{OutPhase}
use Rattle.rm_sides.specs.declared.source.phase.OutPhase.TheVariants as out
use Rattle.record_batch.specs.Fact.{Fact, ClosedOut}
use Rattle.record_batch.specs.Sequences.Words.{last_or}
use Rattle.record_batch.specs.Sequences.Sources.{first_phase, mark_of, marks, out_ident, phase}
use Rattle.record_batch.specs.Sequences.GatherLemmas.{at_seq-more, last_or-append}
use Rattle.rm_protocol.specs.Recorded.{FinalCloses}
use Rattle.rm_protocol.specs.Rows.{final_at, final_row}

-- the record closes the sequence that it names
closed : (r : List Fact) (s : ℕ) → phase (r ++ ClosedOut s ∷ []) s ≡ out.Closed
closed r s =
    let after = r ++ ClosedOut s ∷ [] in
    let marks_are : marks after s ≡ marks r s ++ out.Closed ∷ [] =
    at_seq-more s mark_of r (ClosedOut s)
    ∙ ap (λ b. marks r s ++ cond b (out.Closed ∷ []) []) (eq-eqb s s refl) in
    ap (λ (ps : List OutPhase). last_or (first_phase (out_ident after s)) ps) marks_are
    ∙ last_or-append (first_phase (out_ident after s)) (marks r s) (out.Closed ∷ [])

pub final-closes : FinalCloses
final-closes r block s found last sending =
    let row : final_row block r ≡ ClosedOut s ∷ [] =
    ap (λ o. final_at o block.last r) found ∙ ap (λ b. final_at (Some s) b r) last
    ∙ ap (λ b. cond b (ClosedOut s ∷ []) []) sending in
    ap (λ (d : List Fact). phase (r ++ d) s) row ∙ closed r s
