-- One row changes by one record.
use Rattle.std.proofs.Common.{◌≡◌, ℕ, zero, suc, ◌+◌, ◌<◌, ◌≤◌, Bool, true, false, List, []}
use Rattle.std.proofs.Common.{◌∷◌, length, get_or, set, refl, sym, ap, ◌∙◌, arith}
use Rattle.std.specs.Prelude.{◌&&◌, not, nat_le, nat_lt}
use Rattle.std.specs.List.{list_all}
use Rattle.std.proofs.lemmas.Bool.{and_parts, false≢true, le-leb}
use Rattle.std.proofs.lemmas.List.{get_or-map, length-map, map-set}
use Rattle.rm_sides.specs.declared.ranges.range.Range.{Range}
use Rattle.rm_sides.specs.Ranges.Ranges.{greatest_of}
use Rattle.rm_base.specs.NumberSet.{has_number}
use Rattle.rm_base.specs.declared.message.Payload.{Payload}
use Rattle.rm_sides.specs.declared.source.phase.OutPhase.{OutPhase}
use Rattle.rm_sides.specs.declared.source.phase.OutPhase.TheVariants as out
use Rattle.rm_sides.specs.Source.Outgoing.{accepted_count}
use Rattle.rm_sides.specs.Destination.Incoming.{held}
use Rattle.rm_sides.specs.Destination.Messages.{is_empty}
use Rattle.record_batch.specs.Fact.{Fact, Accepted, Acked, Received}
use Rattle.record_batch.specs.Sequences.Fits.{follows, is_up_to}
use Rattle.record_batch.specs.Sequences.Told.{Told, Side, Sends, Receives, names, after, each_after}
use Rattle.record_batch.specs.Sequences.ToldLemmas.{after-elsewhere, same_told}
use Rattle.node_tables.specs.Row.Row.{Seen, is_open, step, takes, takes_acked, takes_message}
use Rattle.node_tables.specs.Row.Row.{side_step, takes_payload, ticket_step}
use Rattle.node_tables.specs.Row.StepLemmas.{after-step}
use Rattle.node_tables.specs.Kept.{no_row, row_at, tolds}

-- no row changes by a record that names none of them
pub each_after-none : (k : ℕ) (ts : List Told) (f : Fact) → names f ≤ k → each_after k ts f ≡ ts
each_after-none k [] f le = refl
each_after-none k (t ∷ ts) f le =
    ap (λ x. x ∷ each_after (k + 1) ts f) (after-elsewhere (k + 1) t f (λ e. absurd (omega (arith, e, le))))
    ∙ ap (λ xs. t ∷ xs) (each_after-none (k + 1) ts f (omega (arith, le)))

-- one row changes by a record that names it
pub each_after-set : (k : ℕ) (ts : List Told) (f : Fact) (i : ℕ) → i < length ts → names f ≡ k + i + 1
    → each_after k ts f ≡ set ts i (after (names f) (row_at ts i) f)
each_after-set k [] f i lt e = absurd (omega (arith, lt))
each_after-set k (t ∷ ts) f zero lt e =
    ap (λ n. after n t f ∷ each_after (k + 1) ts f) (let is : k + 1 ≡ names f = omega (arith, e) in is)
    ∙ ap (λ xs. after (names f) t f ∷ xs) (each_after-none (k + 1) ts f (omega (arith, e)))
each_after-set k (t ∷ ts) f (suc i) lt e =
    ap (λ x. x ∷ each_after (k + 1) ts f) (after-elsewhere (k + 1) t f (λ is. absurd (omega (arith, e, is))))
    ∙ ap (λ xs. t ∷ xs) (each_after-set (k + 1) ts f i (omega (arith, lt)) (omega (arith, e)))

-- what is known of a row among rows
pub row-at : (rows : List Seen) (i : ℕ) (row : Seen) → i < length rows → row ≡ get_or rows i row
    → row_at (tolds rows) i ≡ row.told
row-at rows i row lt e =
    get_or-map (λ (r : Seen). r.told) rows i row no_row lt ∙ ap (λ (r : Seen). r.told) (sym e)

-- a row that made one step, among rows
pub rows-step : (rows : List Seen) (i : ℕ) (row row2 : Seen) (f : Fact) → i < length rows → row ≡ get_or rows i row
    → names f ≡ i + 1 → takes (row_at (tolds rows) i).side f ≡ true → row2.told ≡ step row.told f
    → tolds (set rows i row2) ≡ each_after 0 (tolds rows) f
rows-step rows i row row2 f lt e at is h =
    let within : i < length (tolds rows) = omega (arith, lt, length-map rows (λ (r : Seen). r.told)) in
    let known = row-at rows i row lt e in
    map-set (λ (r : Seen). r.told) rows i row2
    ∙ ap (λ t. set (tolds rows) i t)
    (h ∙ ap (λ t. step t f) (sym known) ∙ sym (after-step (row_at (tolds rows) i) f is))
    ∙ sym (each_after-set 0 (tolds rows) f i within (omega (arith, at)))

-- the same, by its ticket and its side
pub rows-stepped : (rows : List Seen) (i : ℕ) (row row2 : Seen) (f : Fact) → i < length rows → row ≡ get_or rows i row
    → names f ≡ i + 1 → takes (row_at (tolds rows) i).side f ≡ true
    → row2.told.ticket ≡ ticket_step row.told.ticket f → row2.told.side ≡ side_step row.told.side f
    → tolds (set rows i row2) ≡ each_after 0 (tolds rows) f
rows-stepped rows i row row2 f lt e at is ticket side =
    rows-step rows i row row2 f lt e at is (same_told _ _ _ _ ticket side)

opens_alone : (p : OutPhase) (s : ℕ) (payload : List ℕ) → follows p (Accepted s payload) ≡ is_open p
opens_alone out.Open s payload = refl
opens_alone _ s payload = refl

pub takes-accepted : (x : Side) (s : ℕ) (payload : List ℕ) → takes x (Accepted s payload) ≡ takes_payload x
takes-accepted (Sends t) s payload =
    ap (λ b. b && nat_lt (accepted_count t) 9223372036854775807) (opens_alone t.phase s payload)
takes-accepted (Receives t) s payload = refl

last_first : (a b c d : Bool) → (a && (b && (c && d))) ≡ (d && (a && (b && c)))
last_first true true true true = refl
last_first true true true false = refl
last_first true true false true = refl
last_first true true false false = refl
last_first true false c true = refl
last_first true false c false = refl
last_first false b c true = refl
last_first false b c false = refl

pub takes-received : (x : Side) (s n : ℕ) (payload : Payload) → takes x (Received s n payload) ≡ takes_message x n
takes-received (Sends t) s n payload = refl
takes-received (Receives t) s n payload =
    last_first (nat_le 1 n) (nat_le n 9223372036854775807) (not (has_number (held t) n))
    (is_empty t.closes)

greatest_up_to : (n : ℕ) (rs : List Range) → list_all (is_up_to n) rs ≡ true → nat_le (greatest_of rs) n ≡ true
greatest_up_to n [] h = le-leb 0 n (omega arith)
greatest_up_to n (r ∷ []) h =
    (and_parts (nat_le 1 r.lower) (nat_le r.upper n) (and_parts (is_up_to n r) true h).0).1
greatest_up_to n (r ∷ s ∷ rs) h =
    greatest_up_to n (s ∷ rs) (and_parts (is_up_to n r) (list_all (is_up_to n) (s ∷ rs)) h).1

pub takes-acked : (x : Side) (s : ℕ) (rs : List Range) → takes x (Acked s rs) ≡ true → takes_acked x rs ≡ true
takes-acked (Sends t) s rs h = greatest_up_to (accepted_count t) rs h
takes-acked (Receives t) s rs h = absurd (false≢true h)
