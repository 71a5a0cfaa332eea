-- The identifier and the phase of an outgoing sequence, after one more record.
use Rattle.std.proofs.Common.{◌≡◌, ℕ, ◌+◌, ◌≤◌, ◌==◌, true, false, cond, List, [], ◌∷◌, ◌++◌, length}
use Rattle.std.proofs.Common.{refl, sym, ap, subst, ◌∙◌, arith, Option, Some, None}
use Rattle.std.specs.List.{flat_map}
use Rattle.std.specs.Option.{option_or}
use Rattle.std.proofs.lemmas.Bool.{and_parts, eqb-true, ne_eqb, false≢true}
use Rattle.rm_sides.specs.declared.source.phase.OutPhase.{OutPhase}
use Rattle.rm_sides.specs.declared.source.phase.OutPhase.TheVariants as out
use Rattle.record_batch.specs.Fact.{Fact, Created, Granted, Closing, ClosedOut, Ending, EndedOut, Failed}
use Rattle.wsa_headers.specs.declared.endpoint.Epr.{Epr}
use Rattle.record_batch.specs.Sequences.Words.{Text, at_seq, last_or}
use Rattle.record_batch.specs.Sequences.Makers.{makers, maker, created_of, created_from, ident_in}
use Rattle.record_batch.specs.Sequences.Sources.{mark_of, marks, out_ident, first_phase, phase}
use Rattle.record_batch.specs.Sequences.Fits.{fits, follows, is_outgoing_side}
use Rattle.record_batch.specs.Sequences.Told.{opened_by}
use Rattle.record_batch.specs.Sequences.GatherLemmas.{at_seq-append, at_seq-more, last_or-append, ident_in-append}
use Rattle.record_batch.specs.Sequences.GatherLemmas.{created_from-more}

or_none : {A : Type 0} (o : Option A) → option_or o None ≡ o
or_none None = refl
or_none (Some x) = refl

-- the identifier is the first that a record gave
pub out_ident-more : (r : List Fact) (f : Fact) (s : ℕ)
    → out_ident (r ++ f ∷ []) s ≡ option_or (out_ident r s) (ident_in (created_of (length (makers r)) f) s)
out_ident-more r f s =
    let count : 0 + length (makers r) ≡ length (makers r) = omega arith in
    ap (λ cs. ident_in cs s) (created_from-more 0 r f)
    ∙ ident_in-append (created_from 0 r) (created_of (0 + length (makers r)) f) s
    ∙ ap (λ n. option_or (out_ident r s) (ident_in (created_of n f) s)) count

-- a phase past the first
abbrev IsLater : OutPhase → Type 0
IsLater out.Creating = ⊥
IsLater _ = Unit {0}

-- phases past the first
abbrev AllLater : List OutPhase → Type 0
AllLater [] = Unit {0}
AllLater (p ∷ ps) = IsLater p × AllLater ps

later-append : (ps qs : List OutPhase) → AllLater ps → AllLater qs → AllLater (ps ++ qs)
later-append [] qs h g = g
later-append (p ∷ ps) qs h g = (h.0, later-append ps qs h.1 g)

later_one : (seq s : ℕ) (p : OutPhase) → IsLater p → AllLater (at_seq s ((seq, p) ∷ []))
later_one seq s p h = elim (seq == s) as (λ b. AllLater (cond b (p ∷ []) [])) [ true ↦ (h, tt) | false ↦ tt ]

later_mark : (s : ℕ) (f : Fact) → AllLater (at_seq s (mark_of f))
later_mark s (Closing seq ticket) = later_one seq s out.Closing tt
later_mark s (ClosedOut seq) = later_one seq s out.Closed tt
later_mark s (Ending seq ticket) = later_one seq s out.Ending tt
later_mark s (EndedOut seq) = later_one seq s out.Ended tt
later_mark s (Failed seq fault) = later_one seq s out.Failed tt
later_mark s _ = tt

later_marks : (r : List Fact) (s : ℕ) → AllLater (marks r s)
later_marks [] s = tt
later_marks (f ∷ r) s =
    subst AllLater (sym (at_seq-append s (mark_of f) (flat_map mark_of r)))
    (later-append (at_seq s (mark_of f)) (marks r s) (later_mark s f) (later_marks r s))

later_last : (p : OutPhase) (ps : List OutPhase) → IsLater p → AllLater ps → IsLater (last_or p ps)
later_last p [] h g = h
later_last p (q ∷ ps) h g = later_last q ps g.0 g.1

-- in phase Creating there is neither an identifier nor a record of a later phase
creating_bare : (i : Option Text) (ps : List OutPhase) → AllLater ps → last_or (first_phase i) ps ≡ out.Creating
    → (i ≡ None) × (ps ≡ [])
creating_bare None [] h e = (refl, refl)
creating_bare (Some q) [] h e = absurd (subst IsLater e tt)
creating_bare i (p ∷ ps) h e = absurd (subst IsLater e (later_last p ps h.0 h.1))

pub creating-bare : (r : List Fact) (s : ℕ) → phase r s ≡ out.Creating → (out_ident r s ≡ None) × (marks r s ≡ [])
creating-bare r s e = creating_bare (out_ident r s) (marks r s) (later_marks r s) e

follows_creating : (p : OutPhase) (seq : ℕ) (ident : Text) (accept : Option Epr)
    → follows p (Created seq ident accept) ≡ true → p ≡ out.Creating
follows_creating out.Creating seq ident accept h = refl
follows_creating _ seq ident accept h = absurd (false≢true h)

-- Created fits a sequence in phase Creating
pub created-creating : (r : List Fact) (seq : ℕ) (ident : Text) (accept : Option Epr)
    → fits r (Created seq ident accept) ≡ true → phase r seq ≡ out.Creating
created-creating r seq ident accept fit =
    follows_creating (phase r seq) seq ident accept
    (and_parts (is_outgoing_side (maker r seq)) (follows (phase r seq) (Created seq ident accept)) fit).1

named_same : (r : List Fact) (s : ℕ)
    → last_or (first_phase (option_or (out_ident r s) None)) (marks r s) ≡ phase r s
named_same r s = ap (λ o. last_or (first_phase o) (marks r s)) (or_none (out_ident r s))

named : (r : List Fact) (f : Fact) (s : ℕ) → s ≤ length (makers r) → fits r f ≡ true
    → last_or (first_phase (option_or (out_ident r s) (ident_in (created_of (length (makers r)) f) s))) (marks r s)
    ≡ opened_by (phase r s) s f
named r (Created seq ident accept) s le fit =
    elim (seq == s) as (λ b. (seq == s) ≡ b
    → last_or (first_phase (option_or (out_ident r s) (cond b (Some ident) None))) (marks r s)
    ≡ cond b out.Open (phase r s)) [
      | true ↦ λ e.
          let is : phase r s ≡ out.Creating =
          subst (λ n. phase r n ≡ out.Creating) (eqb-true seq s e) (created-creating r seq ident accept fit) in
          let bare = creating-bare r s is in
          rw (bare.0, bare.1) refl
      | false ↦ λ e. named_same r s
    ] refl
named r (Granted counter message_id acks_to behaviour deadline lapse (Some offer)) s le fit =
    let other : ((length (makers r) + 2) == s) ≡ false =
    ne_eqb (length (makers r) + 2) s (λ e. absurd (omega (arith, e, le))) in
    rw other (named_same r s)
named r _ s le fit = named_same r s

-- the phase of a sequence that is there
pub phase-more : (r : List Fact) (f : Fact) (s : ℕ) → s ≤ length (makers r) → fits r f ≡ true
    → phase (r ++ f ∷ []) s ≡ last_or (opened_by (phase r s) s f) (at_seq s (mark_of f))
phase-more r f s le fit =
    ap (λ o. last_or (first_phase o) (marks (r ++ f ∷ []) s)) (out_ident-more r f s)
    ∙ ap (λ ps. last_or (first_phase (option_or (out_ident r s) (ident_in (created_of (length (makers r)) f) s))) ps)
    (at_seq-more s mark_of r f)
    ∙ last_or-append _ (marks r s) (at_seq s (mark_of f))
    ∙ ap (λ p. last_or p (at_seq s (mark_of f))) (named r f s le fit)
