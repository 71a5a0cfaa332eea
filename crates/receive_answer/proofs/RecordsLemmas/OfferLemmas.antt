-- The offer that went out with a sequence.
use Rattle.std.proofs.Common.{◌≡◌, ℕ, ◌+◌, ◌-◌, ◌≤◌, ◌==◌, Bool, false, cond, [], ◌∷◌, ◌++◌, length, sym, ap, ◌∙◌}
use Rattle.std.proofs.Common.{append-nil, arith, None}
use Rattle.std.specs.Prelude.{◌&&◌, not, slice_get}
use Rattle.std.proofs.lemmas.Bool.{ne_eqb}
use Rattle.std.proofs.lemmas.Option.{slice_get_past}
use Rattle.rm_base.specs.declared.message.Cause.TheVariants.{NotTaken}
use Rattle.record_batch.specs.Fact.{Ended}
use Rattle.record_batch.specs.Sequences.Destinations.{has_end}
use Rattle.record_batch.specs.Sequences.Find.{is_offered}
use Rattle.record_batch.specs.Sequences.Makers.{maker, makers}
use Rattle.rm_protocol.specs.Rows.{drop_at}
use Rattle.tables_ahead.specs.Known.{all_records, KnownRecords}
use Rattle.receive_answer.specs.Records.WithRow.{with_row}

-- behind the last sequence there is none
pub drop_at-last : (s : ℕ) (k : KnownRecords) → length (makers (all_records k)) ≤ s → k.delta ≡ with_row (drop_at s) k
drop_at-last s k le =
    let r = all_records k in
    let some : ((s + 1) == 0) ≡ false = ne_eqb (s + 1) 0 (λ e. absurd (omega (arith, e))) in
    let at : s + 1 - 1 ≡ s = omega arith in
    let none : maker r (s + 1) ≡ None =
    ap (λ (b : Bool). cond b None (slice_get (makers r) (s + 1 - 1))) some
    ∙ ap (slice_get (makers r)) at ∙ slice_get_past (makers r) s le in
    sym (ap (λ o. k.delta ++ cond (is_offered o && not (has_end r (s + 1))) (Ended (s + 1) NotTaken 0 ∷ []) []) none
    ∙ append-nil k.delta)
