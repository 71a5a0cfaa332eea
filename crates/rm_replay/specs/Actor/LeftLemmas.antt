-- What one more crash of a node leaves.
use Rattle.std.proofs.Common.{◌≡◌, ◌∙◌, Bool, true, false, List, [], ◌∷◌, ◌++◌, append_assoc, append-nil, refl, sym, ap}
use Rattle.std.proofs.Common.{inl, inr}
use Rattle.record_batch.specs.Fact.{Fact}
use Rattle.rm_protocol.specs.AloneLemmas.{records-alone}
use Rattle.rm_protocol.specs.Crashes.{IsLeft, IsLeftWith}
use Rattle.rm_protocol.specs.Node.{Node, State, Up, Writing, Compacting, entries_left, mounted, records, records_in}
use Rattle.rm_protocol.specs.Node.{whole_left}

-- one batch more
pub records_push : (entries : List (List Fact)) (delta : List Fact)
    → records_in (entries ++ delta ∷ []) ≡ records_in entries ++ delta
records_push [] delta = append-nil delta
records_push (batch ∷ entries) delta =
    ap (λ (r : List Fact). batch ++ r) (records_push entries delta)
    ∙ sym (append_assoc batch (records_in entries) delta)

left_by : (st : State) (kept : Bool) (entries : List (List Fact)) (whole : List Fact)
    → IsLeftWith (records_in entries) whole st (records_in (entries_left st kept entries)) (whole_left st kept whole)
left_by Up kept entries whole = (refl, refl)
left_by (Writing delta) true entries whole = inr (records_push entries delta, refl)
left_by (Writing delta) false entries whole = inl (refl, refl)
left_by (Compacting start) true entries whole = (inr (records-alone _), refl)
left_by (Compacting start) false entries whole = (inl refl, refl)

-- what one more crash leaves is left
pub left_mounted : (x : Node) (kept : Bool) → IsLeft x (records (mounted x kept)) (mounted x kept).whole
left_mounted x kept = left_by x.state kept x.entries x.whole
