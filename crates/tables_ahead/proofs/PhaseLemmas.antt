-- The identifier and the phase of an outgoing sequence, of two lists of records.
use Rattle.std.proofs.Common.{◌≡◌, ℕ, List, [], ◌∷◌, ◌++◌, length, refl, sym, ap, ◌∙◌}
use Rattle.std.proofs.Common.{Option, Some, None}
use Rattle.std.specs.Option.{option_or}
use Rattle.rm_sides.specs.declared.source.phase.OutPhase.{OutPhase}
use Rattle.rm_sides.specs.declared.source.phase.OutPhase.TheVariants as out
use Rattle.record_batch.specs.Fact.{Fact}
use Rattle.record_batch.specs.Sequences.Words.{Text, last_or}
use Rattle.record_batch.specs.Sequences.Makers.{makers, created, created_from, ident_in}
use Rattle.record_batch.specs.Sequences.Sources.{first_phase, mark_of, marks, out_ident, phase}
use Rattle.record_batch.specs.Sequences.GatherLemmas.{ident_in-append, last_or-append}
use Rattle.record_batch.specs.Sequences.PhaseLemmas.{creating-bare}
use Rattle.tables_ahead.specs.Known.{opened}
use Rattle.tables_ahead.proofs.GatheredLemmas.{created-both, gathered_at}

pub ident-both : (r d : List Fact) (s : ℕ)
    → out_ident (r ++ d) s ≡ option_or (out_ident r s) (ident_in (created_from (length (makers r)) d) s)
ident-both r d s =
    ap (λ cs. ident_in cs s) (created-both r d)
    ∙ ident_in-append (created r) (created_from (length (makers r)) d) s

opened_later : (p : OutPhase) (x : Option Text) → (p ≡ out.Creating → ⊥) → opened p x ≡ p
opened_later out.Creating x h = absurd (h refl)
opened_later out.Open x h = refl
opened_later out.Closing x h = refl
opened_later out.Closed x h = refl
opened_later out.Ending x h = refl
opened_later out.Ended x h = refl
opened_later out.Failed x h = refl

not_nil : (p : OutPhase) (ps : List OutPhase) → p ∷ ps ≡ [] → ⊥
not_nil p ps e = cc

opens : (i : Option Text) (ps : List OutPhase) (x : Option Text)
    → (last_or (first_phase i) ps ≡ out.Creating → (i ≡ None) × (ps ≡ []))
    → last_or (first_phase (option_or i x)) ps ≡ opened (last_or (first_phase i) ps) x
opens None [] None h = refl
opens None [] (Some q) h = refl
opens (Some q) [] x h = refl
opens i (p ∷ ps) x h = sym (opened_later (last_or p ps) x (λ e. not_nil p ps (h e).1))

pub phase-both : (r d : List Fact) (s : ℕ)
    → phase (r ++ d) s
    ≡ last_or (opened (phase r s) (ident_in (created_from (length (makers r)) d) s)) (marks d s)
phase-both r d s =
    let x = ident_in (created_from (length (makers r)) d) s in
    ap (λ o. last_or (first_phase o) (marks (r ++ d) s)) (ident-both r d s)
    ∙ ap (λ ps. last_or (first_phase (option_or (out_ident r s) x)) ps) (gathered_at s mark_of r d)
    ∙ last_or-append _ (marks r s) (marks d s)
    ∙ ap (λ p. last_or p (marks d s)) (opens (out_ident r s) (marks r s) x (creating-bare r s))
