-- What an application reads.
use Rattle.std.proofs.Common.{◌≡◌, ℕ, ◌+◌, ◌-◌, ◌<◌, List, [], ◌∷◌, ◌++◌, drop, map}
use Rattle.std.proofs.Common.{refl, subst, sym, ap, ◌∙◌, arith, append_assoc, suc, zero}
use Rattle.std.specs.Prelude.{None, Option, Some, cond, slice_get}
use Rattle.std.specs.Option.{option_map}
use Rattle.std.proofs.lemmas.Bool.{lt-leb, ne_eqb}
use Rattle.std.proofs.lemmas.Option.{slice_get-map}
use Rattle.node_tables.specs.Laws.{IncomingIsAsRecorded}
use Rattle.record_batch.specs.Fact.{Fact}
use Rattle.record_batch.specs.Sequences.Destinations.{cursor}
use Rattle.rm_base.specs.Numbered.{numbered}
use Rattle.rm_base.specs.declared.message.Payload.{Payload}
use Rattle.rm_sides.specs.Destination.Incoming.{Receiving, inbox}
use Rattle.rm_sides.specs.Destination.Messages.{Item, item_at, payload_in}
use Rattle.rm_station.specs.Reads.{FetchedIsTheInbox, count_in, count_name, given_text, gone_line, item_text}
use Rattle.rm_station.specs.Reads.{there_text, value_line, value_lines}
use Rattle.rm_station.specs.declared.reads.Measure.{Measure}

-- what a piece was appended to has it behind all that was appended before
pub further : {A : Type 0} (old text more front piece : List A) → more ≡ text ++ piece → text ≡ old ++ front
    → more ≡ old ++ (front ++ piece)
further old text more front piece is before = is ∙ ap (λ l. l ++ piece) before ∙ append_assoc old front piece

-- the value of a count at one sequence more
pub value_lines-next : (count : Measure) (r : List Fact) (n : ℕ) → value_lines count r (n + 1)
    ≡ value_lines count r n ++ value_line (count_name count) (n + 1) (count_in count r (n + 1))
value_lines-next count r n =
    let next : suc n ≡ n + 1 = omega arith in
    subst (λ k. value_lines count r k
    ≡ value_lines count r n ++ value_line (count_name count) k (count_in count r k)) next refl

-- what stands at a place past some stands there behind them
slice_get-drop : {A : Type 0} (c k : ℕ) (xs : List A) → slice_get xs (c + k) ≡ slice_get (drop c xs) k
slice_get-drop zero k xs =
    let same : zero + k ≡ k = omega arith in
    ap (slice_get xs) same
slice_get-drop (suc c) k [] = refl
slice_get-drop (suc c) k (x ∷ xs) =
    let next : suc c + k ≡ suc (c + k) = omega arith in
    ap (slice_get (x ∷ xs)) next ∙ slice_get-drop c k xs

-- the item with number k + 1 stands at place k
numbered-more : {A : Type 0} (xs : List A) (k : ℕ) → numbered xs (k + 1) ≡ slice_get xs k
numbered-more xs k =
    let place : k + 1 - 1 ≡ k = omega arith in
    ap (λ b. cond b None (slice_get xs (k + 1 - 1))) (ne_eqb (k + 1) 0 (λ e. absurd (omega (arith, e))))
    ∙ ap (slice_get xs) place

there-given : (seq n : ℕ) (o : Option Payload)
    → there_text seq n (payload_in (option_map (λ (p : Payload). Some p) o)) ≡ given_text seq n o
there-given seq n None = refl
there-given seq n (Some payload) = refl

-- an item past the cursor, where none of these is gone
fetched : (seq c k : ℕ) (f : Receiving) (left : List Payload) → f.cursor ≡ c → drop c (inbox f) ≡ map Some left
    → item_text seq (c + 1 + k) f ≡ given_text seq (c + 1 + k) (slice_get left k)
fetched seq c k f left at past =
    let n = c + 1 + k in
    let items = inbox f in
    let same : c + 1 + k ≡ c + k + 1 = omega arith in
    let later : f.cursor < n = omega (arith, at) in
    ap (λ b. cond b (gone_line seq n) (there_text seq n (item_at items n))) (lt-leb n f.cursor later)
    ∙ ap (λ m. there_text seq n (item_at items m)) same
    ∙ ap (λ o. there_text seq n (payload_in o))
    (numbered-more items (c + k) ∙ slice_get-drop c k items ∙ ap (λ l. slice_get l k) past ∙ slice_get-map Some left k)
    ∙ there-given seq n (slice_get left k)

pub fetched-is-the-inbox : IncomingIsAsRecorded → FetchedIsTheInbox
fetched-is-the-inbox recorded r seq f left is past k =
    let same = recorded r seq f is in
    fetched seq (cursor r seq) k f left same.cursor_ (ap (λ l. drop (cursor r seq) l) same.inbox_ ∙ past)
