-- The sequences whose time has run out, one after the other.
use Rattle.std.proofs.Common.{◌≡◌, ℕ, ◌+◌, ◌<◌, Bool, true, false, cond, List, [], ◌∷◌, ◌++◌, length, drop, get_or}
use Rattle.std.proofs.Common.{refl, sym, ap, ◌∙◌, append-nil, Option, Some}
use Rattle.std.specs.Prelude.{◌&&◌, not}
use Rattle.std.proofs.lemmas.List.{at_drop_more}
use Rattle.std.proofs.lemmas.Option.{slice_get-get_or}
use Rattle.rm_base.specs.declared.message.Cause.TheVariants.{Expired}
use Rattle.record_batch.specs.Fact.{Fact, Ended}
use Rattle.record_batch.specs.Sequences.Makers.{Maker, makers, maker}
use Rattle.rm_sides.specs.Destination.Incoming.{is_past}
use Rattle.record_batch.specs.Sequences.Destinations.{deadline_of, has_end}
use Rattle.rm_protocol.specs.Calls.{expired_from}
use Rattle.node_calls.specs.Comes.{ending_if}
use Rattle.node_tables.specs.Kept.{no_maker}
use Rattle.node_calls.proofs.DrawnLemmas.{numbered-next}

-- nothing is ahead
pub same-count : (r d : List Fact) → d ≡ [] → length (makers (r ++ d)) ≡ length (makers r)
same-count r d none =
    ap (λ (x : List Fact). length (makers (r ++ x))) none
    ∙ ap (λ (rs : List Fact). length (makers rs)) (append-nil r)

chosen : (b : Bool) (f : Fact) (fs : List Fact) → cond b (f ∷ fs) fs ≡ cond b (f ∷ []) [] ++ fs
chosen true f fs = refl
chosen false f fs = refl

-- the next sequence
pub expired-next : (r : List Fact) (now k : ℕ) → k < length (makers r)
    → expired_from r now k (drop k (makers r))
    ≡ ending_if (is_past (deadline_of (maker r (k + 1))) now && not (has_end r (k + 1))) (k + 1)
    ++ expired_from r now (k + 1) (drop (k + 1) (makers r))
expired-next r now k lt =
    let m = get_or (makers r) k no_maker in
    let here : maker r (k + 1) ≡ Some m = numbered-next (makers r) k ∙ slice_get-get_or (makers r) k no_maker lt in
    let rest = expired_from r now (k + 1) (drop (k + 1) (makers r)) in
    at_drop_more (expired_from r now k) (makers r) k no_maker lt
    ∙ chosen (is_past (deadline_of (Some m)) now && not (has_end r (k + 1))) (Ended (k + 1) Expired 0) rest
    ∙ ap (λ (o : Option Maker). ending_if (is_past (deadline_of o) now && not (has_end r (k + 1))) (k + 1) ++ rest)
    (sym here)
