-- Phase Creating, as the records have it.
use Rattle.std.proofs.Common.{◌≡◌, ℕ, false, List, [], ◌∷◌, refl, sym, ap, Option, Some, None}
use Rattle.std.specs.Prelude.{◌&&◌, is_none}
use Rattle.std.specs.Str.{bytes_eq}
use Rattle.rm_sides.specs.declared.source.phase.OutPhase.{OutPhase}
use Rattle.rm_sides.specs.declared.source.phase.OutPhase.TheVariants as out
use Rattle.record_batch.specs.Fact.{Fact}
use Rattle.rm_sides.specs.Destination.Messages.{is_empty}
use Rattle.record_batch.specs.Sequences.Words.{Text, last_or}
use Rattle.record_batch.specs.Sequences.Find.{is_creating}
use Rattle.record_batch.specs.Sequences.Idents.{issue}
use Rattle.record_batch.specs.Sequences.Makers.{Maker, Outgoing, Offered, Incoming, Taken, number}
use Rattle.record_batch.specs.Sequences.Sources.{first_phase, marks, out_ident, phase}
use Rattle.record_batch.specs.Sequences.PhaseLemmas.{creating-bare}
use Rattle.node_tables.specs.Reads.{is_asked, is_asking}

asking_later : (p : OutPhase) → (p ≡ out.Creating → ⊥) → is_asking p ≡ false
asking_later out.Creating h = absurd (h refl)
asking_later out.Open h = refl
asking_later out.Closing h = refl
asking_later out.Closed h = refl
asking_later out.Ending h = refl
asking_later out.Ended h = refl
asking_later out.Failed h = refl

not_nil : (p : OutPhase) (ps : List OutPhase) → p ∷ ps ≡ [] → ⊥
not_nil p ps e = cc

asks : (i : Option Text) (ps : List OutPhase)
    → (last_or (first_phase i) ps ≡ out.Creating → (i ≡ None) × (ps ≡ []))
    → is_asking (last_or (first_phase i) ps) ≡ (is_none i && is_empty ps)
asks None [] h = refl
asks (Some q) [] h = refl
asks None (p ∷ ps) h = asking_later (last_or p ps) (λ e. not_nil p ps (h e).1)
asks (Some q) (p ∷ ps) h = asking_later (last_or p ps) (λ e. not_nil p ps (h e).1)

-- a sequence is in phase Creating where it has neither an identifier nor a record of a later phase
pub asking-bare : (r : List Fact) (s : ℕ)
    → is_asking (phase r s) ≡ (is_none (out_ident r s) && is_empty (marks r s))
asking-bare r s = asks (out_ident r s) (marks r s) (creating-bare r s)

-- asked for with this message, and in phase Creating
pub creating-by : (r : List Fact) (q : Text) (s : ℕ) (m : Maker)
    → is_creating r q s m ≡ (is_asked (number r) q m && is_asking (phase r s))
creating-by r q s (Outgoing ticket to via lapse) =
    ap (λ b. bytes_eq (issue (number r) ticket) q && b) (sym (asking-bare r s))
creating-by r q s (Offered ticket counter to behaviour) = refl
creating-by r q s (Incoming counter message_id acks_to behaviour deadline lapse) = refl
creating-by r q s (Taken message_id ident endpoint) = refl
