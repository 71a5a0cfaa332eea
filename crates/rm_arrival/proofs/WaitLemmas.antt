-- What an acknowledgement ends.
use Rattle.std.proofs.Common.{◌≡◌, ℕ, suc, ◌&&◌, not, nat_le, cond, Bool, true, false, List, [], ◌∷◌, ◌++◌, refl, sym}
use Rattle.std.proofs.Common.{ap, ◌∙◌, subst, append-nil}
use Rattle.std.specs.Prelude.{Option, Some}
use Rattle.std.specs.List.{flat_map}
use Rattle.std.proofs.lemmas.Bool.{eq-eqb}
use Rattle.std.proofs.lemmas.List.Concat.{flat_map-append}
use Rattle.rm_sides.specs.declared.ranges.range.Range.{Range}
use Rattle.rm_sides.specs.Ranges.Ranges.{in_ranges}
use Rattle.rm_sides.specs.Ranges.Changes.{united, covers_all}
use Rattle.rm_sides.specs.Source.Outgoing.{accepted_count as count_of}
use Rattle.record_batch.specs.Fact.{Fact, Acked}
use Rattle.rm_message.specs.declared.elements.header.AckBlock.{AckBlock}
use Rattle.record_batch.specs.Sequences.Makers.{Maker, Outgoing, Taken, maker}
use Rattle.record_batch.specs.Sequences.Sources.{acked, acked_of, is_sending}
use Rattle.record_batch.specs.Sequences.Find.{find_outgoing}
use Rattle.record_batch.specs.Sequences.Told.{sending}
use Rattle.rm_protocol.specs.Rows.{ack_at, ack_row, ranges_of}
use Rattle.rm_protocol.specs.Waiting.{is_waiting, key, waits_in, waits_of}
use Rattle.record_batch.specs.Sequences.GatherLemmas.{united-append}
use Rattle.rm_arrival.proofs.RangeLemmas.{covers_all-has, united-adds, united-keeps}

-- the number is one of the acknowledged ones, put together
abbrev pub Has : List Fact → ℕ → ℕ → Type 0
Has r s n = in_ranges (united [] (acked r s)) n ≡ true

pub has-acked : (r : List Fact) (s n : ℕ) → in_ranges (acked r s) n ≡ true → Has r s n
has-acked r s n h = united-adds [] (acked r s) n h

joined : (r d : List Fact) (s : ℕ)
    → united [] (acked (r ++ d) s) ≡ united (united [] (acked r s)) (flat_map (acked_of s) d)
joined r d s =
    ap (λ z. united [] z) (flat_map-append (acked_of s) r d)
    ∙ united-append [] (acked r s) (flat_map (acked_of s) d)

pub has-stays : (r d : List Fact) (s n : ℕ) → Has r s n → Has (r ++ d) s n
has-stays r d s n h =
    subst (λ z. in_ranges z n ≡ true) (sym (joined r d s))
    (united-keeps (united [] (acked r s)) (flat_map (acked_of s) d) n h)

none-left : (x y : Bool) → (x && (y && not true)) ≡ false
none-left true true = refl
none-left true false = refl
none-left false y = refl

silent : (r : List Fact) (s i : ℕ) → Has r s (suc i) → (m : Option Maker) → waits_of r s (suc i) m ≡ false
silent r s i h m = by_maker m
  where
    known : waits_in (sending r s) (suc i) ≡ false
    known =
        ap (λ z. is_sending (sending r s).phase && (nat_le (suc i) (count_of (sending r s)) && not z)) h
        ∙ none-left (is_sending (sending r s).phase) (nat_le (suc i) (count_of (sending r s)))

    by_maker : (x : Option Maker) → waits_of r s (suc i) x ≡ false
    by_maker (Some (Outgoing ticket to via lapse)) = known
    by_maker (Some (Taken message_id ident endpoint)) = known
    by_maker _ = refl

pub has-silent : (r : List Fact) (s i : ℕ) → Has r s (suc i) → is_waiting r (key s (suc i)) ≡ false
has-silent r s i h = silent r s i h (maker r s)

pub wait-ends : (r : List Fact) (s i : ℕ) → in_ranges (acked r s) (suc i) ≡ true
    → (d : List Fact) → is_waiting (r ++ d) (key s (suc i)) ≡ false
wait-ends r s i h d = has-silent (r ++ d) s i (has-stays r d s (suc i) (has-acked r s (suc i) h))

-- ---- an acknowledgement

own_acked : (s : ℕ) (ranges : List Range) → flat_map (acked_of s) (Acked s ranges ∷ []) ≡ ranges
own_acked s ranges = ap (λ b. cond b ranges [] ++ []) (eq-eqb s s refl) ∙ append-nil ranges

pub ack_row-has : (r : List Fact) (block : AckBlock) (s n : ℕ) → find_outgoing r block.ident ≡ Some s
    → in_ranges (ranges_of block.kind) n ≡ true → Has (r ++ ack_row block r) s n
ack_row-has r block s n found h =
    subst (λ x. Has (r ++ ack_at x (ranges_of block.kind) r) s n) (sym found)
    (by_cover (covers_all (united [] (acked r s)) (ranges_of block.kind)) refl)
  where
    ranges : List Range
    ranges = ranges_of block.kind

    by_cover : (b : Bool) → covers_all (united [] (acked r s)) ranges ≡ b
        → Has (r ++ cond b [] (Acked s (united [] ranges) ∷ [])) s n
    by_cover true e =
        subst (λ z. Has z s n) (sym (append-nil r)) (covers_all-has (united [] (acked r s)) ranges n e h)
    by_cover false e =
        let new : flat_map (acked_of s) (Acked s (united [] ranges) ∷ []) ≡ united [] ranges =
        own_acked s (united [] ranges) in
        subst (λ z. in_ranges z n ≡ true) (sym (joined r (Acked s (united [] ranges) ∷ []) s))
        (united-adds (united [] (acked r s)) (flat_map (acked_of s) (Acked s (united [] ranges) ∷ [])) n
        (subst (λ z. in_ranges z n ≡ true) (sym new) (united-adds [] ranges n h)))

pub ack-ends : (r : List Fact) (block : AckBlock) (s i : ℕ) → find_outgoing r block.ident ≡ Some s
    → in_ranges (ranges_of block.kind) (suc i) ≡ true
    → (d : List Fact) → is_waiting ((r ++ ack_row block r) ++ d) (key s (suc i)) ≡ false
ack-ends r block s i found h d =
    has-silent ((r ++ ack_row block r) ++ d) s i
    (has-stays (r ++ ack_row block r) d s (suc i) (ack_row-has r block s (suc i) found h))
