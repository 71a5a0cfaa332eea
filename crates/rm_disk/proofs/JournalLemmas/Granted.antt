-- What is known where a fresh list isn't refused: where it is put the bytes mean nothing to the list that stands.
use Rattle.std.proofs.Common.{◌≡◌, ◌⊎◌, ℕ, ◌+◌, ◌-◌, ◌^◌, ◌<◌, ◌≤◌, Bool, true, false, not, cond, List}
use Rattle.std.proofs.Common.{length, min, Some, None, refl, sym, ◌∙◌, ap, subst, inl, inr, arith}
use Rattle.std.specs.Prelude.{nat_lt}
use Rattle.std.proofs.lemmas.Bool.{ltb-false, leb-true}
use Rattle.rm_disk.specs.Call.{Call, seen_of}
use Rattle.rm_disk.specs.ImageLemmas.{reads_as_image}
use Rattle.rm_disk.specs.Journal.Entries.{list_of, AllFit}
use Rattle.rm_disk.specs.Journal.EntryLemmas.{end_is}
use Rattle.rm_disk.specs.Journal.Journal.{Fits, limit, fits_before, place_for, list_refusal, next_bank}
use Rattle.rm_disk.specs.Journal.JournalState.{JournalState, end_of}
use Rattle.rm_disk.specs.declared.journal.error.JournalError.{JournalError}
use Rattle.rm_disk.specs.declared.journal.error.JournalError.TheVariants as Variant
use Rattle.rm_disk.specs.Journal.Scan.{WritesList}
use Rattle.rm_disk.proofs.JournalLemmas.Banks.{HasRoom}
use Rattle.rm_disk.proofs.JournalLemmas.Parts.{last_of, IsOff, between_off, behind_off}
use Rattle.rm_disk.proofs.JournalLemmas.Places.{gate_within}

-- the two places
pub data IsPlaced (journal : JournalState) (n : ℕ) : Type 0 where
  before : place_for journal n ≡ 25 → 25 + n ≤ journal.bank.start → IsPlaced journal n
  behind : place_for journal n ≡ end_of journal + 1 → end_of journal + 1 + n ≤ limit → IsPlaced journal n

by_tests : (down fits full : Bool) (a b : JournalError)
    → cond down (Some a) (cond fits None (cond full (Some b) None)) ≡ None
    → (down ≡ false) × ((fits ≡ true) ⊎ ((fits ≡ false) × (full ≡ false)))
by_tests false true full a b e = (refl, inl refl)
by_tests false false false a b e = (refl, inr (refl, refl))
by_tests true fits full a b e = cc
by_tests false false true a b e = cc

pub granted : (journal : JournalState) (n : ℕ) → list_refusal journal n ≡ None
    → (journal.is_down ≡ false) × IsPlaced journal n
granted journal n e =
    let tests = by_tests journal.is_down (fits_before journal n) (nat_lt limit (end_of journal + 1 + n)) Variant.Down
    (Variant.Full (end_of journal) (min (n + 1) (2 ^ 64 - 1))) e in (
      tests.0,
      elim tests.1 [
        | inl fits ↦ before (ap (λ (b : Bool). cond b 25 (end_of journal + 1)) fits)
            (leb-true (25 + n) journal.bank.start fits)
        | inr none ↦ behind (ap (λ (b : Bool). cond b 25 (end_of journal + 1)) none.0)
            (ltb-false limit (end_of journal + 1 + n) none.1)
      ],
    )

-- the list ends in a number of eight bytes
pub small_place : (journal : JournalState) (n : ℕ) → journal.bank.start < 2 ^ 64 → IsPlaced journal n
    → place_for journal n + n < 2 ^ 64
small_place journal n small (before at fits) = omega (arith, at, fits, small)
small_place journal n small (behind at fits) = omega (arith, at, fits)

pub has_room : (past : List Call) (entries fresh : List (List ℕ)) (journal : JournalState) → Fits entries past journal
    → AllFit fresh → journal.bank.start < 2 ^ 64 → IsPlaced journal (length (list_of fresh))
    → HasRoom past journal.bank entries fresh (next_bank journal fresh)
has_room past entries fresh journal fits short small placed =
    let n = length (list_of fresh) in
    let bank = journal.bank in
    let has = fits.images (seen_of past) (reads_as_image past) in
    let within = gate_within bank entries (seen_of past) has in
    let end = end_is journal entries fits.gates in
    let last : last_of bank entries ≡ end_of journal + 1 = omega (arith, end) in
    elim placed [
      | before at fit ↦ record {
        images = fits.images;
        fit = short;
        turns = refl;
        behind = omega (arith, at);
        within = omega (arith, at, within, has.front.behind);
        small = omega (arith, at);
        off = subst (λ (k : ℕ). IsOff bank (last_of bank entries) k n) (sym at)
            (between_off bank (last_of bank entries) 25 n (omega arith) fit);
      }
      | behind at fit ↦ record {
        images = fits.images;
        fit = short;
        turns = refl;
        behind = omega (arith, at, end, has.front.behind);
        within = omega (arith, at, end, within);
        small = omega (arith, at, fit);
        off = subst (λ (k : ℕ). IsOff bank (last_of bank entries) k n) (sym at)
            (behind_off bank (last_of bank entries) (end_of journal + 1) n has.front.behind (omega arith)
            (omega (arith, last)));
      }
    ]

-- what the tests before the device calls make sure of
pub record IsGranted (journal : JournalState) (fresh : List (List ℕ)) (start size : ℕ) : Type 0 where
  pub up : journal.is_down ≡ false
  pub small : journal.bank.start < 2 ^ 64
  pub placed : IsPlaced journal (length (list_of fresh))
  pub at : start ≡ place_for journal (length (list_of fresh))
  pub whole : start + length (list_of fresh) < 2 ^ 64
  pub size_is : size ≡ length (list_of fresh)

pub is_granted : (journal : JournalState) (fresh : List (List ℕ)) (start size : ℕ)
    → size ≡ min (length (list_of fresh)) (2 ^ 64 - 1)
    → ((m : ℕ) → size ≡ min m (2 ^ 64 - 1) → None ≡ list_refusal journal m)
    → start ≡ place_for journal size → journal.bank.start < 2 ^ 64 → IsGranted journal fresh start size
is_granted journal fresh start size is none at small =
    let n = length (list_of fresh) in
    let whole = granted journal n (sym (none n is)) in
    let fits = small_place journal n small whole.1 in
    let same : size ≡ n = omega (arith, is, fits) in
    let place : start ≡ place_for journal n = at ∙ ap (λ (m : ℕ). place_for journal m) same in
    record {
      up = whole.0;
      small = small;
      placed = whole.1;
      at = place;
      whole = omega (arith, place, fits);
      size_is = same;
    }

-- the list is put within the bytes, which have a front
pub put_within : (past : List Call) (entries fresh : List (List ℕ)) (journal : JournalState) (start size : ℕ)
    → Fits entries past journal → AllFit fresh → IsGranted journal fresh start size
    → (start ≤ length (seen_of past)) × (25 ≤ length (seen_of past))
put_within past entries fresh journal start size fits short is =
    let room = has_room past entries fresh journal fits short is.small is.placed in
    let has = fits.images (seen_of past) (reads_as_image past) in (
      omega (arith, is.at, room.within),
      omega (arith, gate_within journal.bank entries (seen_of past) has, has.front.behind),
    )

-- the calls as they are told
pub calls_so : (journal : JournalState) (fresh : List (List ℕ)) (start size : ℕ) → IsGranted journal fresh start size
    → (second ok : Bool) (list : List ℕ) (past past2 new : List Call) → second ≡ journal.bank.second
    → list ≡ list_of fresh → past2 ≡ past
    → WritesList (record { second = not second; start = start }) list past2 new ok
    → WritesList (next_bank journal fresh) (list_of fresh) past new ok
calls_so journal fresh start size is second ok list past past2 new turns are same calls =
    subst (λ (k : ℕ). WritesList (record { second = not journal.bank.second; start = k }) (list_of fresh) past new ok)
    is.at
    (subst (λ (b : Bool). WritesList (record { second = not b; start = start }) (list_of fresh) past new ok) turns
    (subst (λ (l : List ℕ). WritesList (record { second = not second; start = start }) l past new ok) are
    (subst (λ (p : List Call). WritesList (record { second = not second; start = start }) list p new ok) same calls)))

-- the journal that is made of what was written
pub bank_so : (journal : JournalState) (fresh : List (List ℕ)) (start size : ℕ) → IsGranted journal fresh start size
    → (second : Bool) → second ≡ journal.bank.second
    → next_bank journal fresh ≡ record { second = not second; start = start }
bank_so journal fresh start size is second turns =
    ap (λ (k : ℕ). record { second = not journal.bank.second; start = k }) (sym is.at)
    ∙ ap (λ (b : Bool). record { second = not b; start = start }) (sym turns)
