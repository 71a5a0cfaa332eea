-- Entries that are added in one row, with one pair of syncs.
use Rattle.std.proofs.Common.{◌≡◌, ◌≢◌, ℕ, suc, ◌+◌, ◌-◌, ◌<◌, ◌^◌, Bool, true, false, cond, List, [], ◌∷◌, ◌++◌}
use Rattle.std.proofs.Common.{length}
use Rattle.std.proofs.Common.{take, drop, min, Some, None, refl, sym, ◌∙◌, ap, subst, inl, arith, length-append}
use Rattle.std.proofs.Common.{length-drop}
use Rattle.std.specs.Prelude.{nat_lt}
use Rattle.std.specs.List.{flat_map}
use Rattle.std.proofs.lemmas.List.{take_all}
use Rattle.rm_disk.specs.Call.{Call, overwritten, seen_of, state, settled}
use Rattle.rm_disk.specs.Image.{MayLeave, OnlyLeaves}
use Rattle.rm_disk.specs.ImageLemmas.{only_from, reads_as_image}
use Rattle.rm_disk.specs.Journal.Entries.{AllFit, Bank, StandsAt, StandsForOneOf, block, gates_from, list_of}
use Rattle.rm_disk.specs.Journal.EntryLemmas.{end_is, length-block}
use Rattle.rm_disk.specs.Journal.Journal.{Fits, limit, row_refusal, with_row}
use Rattle.rm_disk.specs.Journal.JournalState.{JournalState, end_of}
use Rattle.rm_disk.specs.Journal.Scan.{WritesBlock}
use Rattle.rm_disk.specs.declared.journal.error.JournalError.{JournalError}
use Rattle.rm_disk.specs.declared.journal.error.JournalError.TheVariants as Variant
use Rattle.rm_disk.proofs.JournalLemmas.Crash.{gate_bytes, gate_done, gate_moments, row_over}
use Rattle.rm_disk.proofs.JournalLemmas.Places.{gate_within}

-- what is behind the first gate of a row
abbrev pub row_body : List (List ℕ) → List ℕ
row_body added = drop 1 (list_of added)

pub row_is : (added : List (List ℕ)) → added ≢ [] → 1 ∷ row_body added ≡ list_of added
row_is [] some = absurd (some refl)
row_is (entry ∷ added) some = refl

-- the gates of more entries
pub gates_from-row : (at : ℕ) (entries added : List (List ℕ))
    → gates_from at (entries ++ added) ≡ gates_from at entries
    ++ gates_from (at + length (flat_map block entries)) added
gates_from-row at [] added = ap (λ (n : ℕ). gates_from n added) (omega arith)
gates_from-row at (first ∷ entries) added =
    let next = at + 5 + length first in
    let size = length-append (block first) (flat_map block entries) in
    ap (λ (l : List ℕ). next ∷ l) (
    gates_from-row next entries added
    ∙ ap (λ (n : ℕ). gates_from next entries ++ gates_from n added) (omega (arith, size, length-block first)))

by_tests : (down full : Bool) (a b : JournalError) → cond down (Some a) (cond full (Some b) None) ≡ None → down ≡ false
by_tests false full a b e = refl
by_tests true full a b e = cc

-- a row is refused where the journal is down
pub row_up : (journal : JournalState) (size : ℕ) → row_refusal journal size ≡ None → journal.is_down ≡ false
row_up journal size e = by_tests journal.is_down (nat_lt limit (end_of journal + size)) Variant.Down
    (Variant.Full (end_of journal) (min size (2 ^ 64 - 1))) e

-- no call was made
pub nothing_added : (past new : List Call) (journal : JournalState) (entries all : List (List ℕ))
    → Fits entries past journal → new ≡ past
    → OnlyLeaves past new (StandsForOneOf journal.bank entries journal.bank all)
nothing_added past new journal entries all fits same =
    subst (λ l. OnlyLeaves past l (StandsForOneOf journal.bank entries journal.bank all)) (sym same)
    (only_from past (StandsForOneOf journal.bank entries journal.bank all) λ bytes may. inl (fits.images bytes may))

-- the calls as they are told
pub row_calls : (added : List (List ℕ)) (end : ℕ) (list : List ℕ) (past past2 new : List Call) (ok : Bool)
    → list ≡ list_of added → past2 ≡ past
    → WritesBlock end (take (length list - 1) (drop 1 list)) past2 new ok
    → WritesBlock end (row_body added) past new ok
row_calls added end list past past2 new ok is same calls =
    let all : take (length list - 1) (drop 1 list) ≡ row_body added =
    take_all (length list - 1) (drop 1 list) (omega (arith, length-drop 1 list))
    ∙ ap (λ (l : List ℕ). drop 1 l) is in
    subst (λ (p : List Call). WritesBlock end (row_body added) p new ok) same
    (subst (λ (l : List ℕ). WritesBlock end l past2 new ok) all calls)

-- the closed gate of a journal that fits lies within the bytes
pub gate_inside : (past : List Call) (journal : JournalState) (entries : List (List ℕ)) → Fits entries past journal
    → end_of journal < length (seen_of past)
gate_inside past journal entries fits =
    omega (
      arith,
      end_is journal entries fits.gates,
      gate_within journal.bank entries (seen_of past)
          (fits.images (seen_of past) (reads_as_image past)),
    )

module _ (past : List Call) (journal : JournalState) (entries added : List (List ℕ)) (fits : Fits entries past journal)
    (short : AllFit added) (some : added ≢ []) (end : ℕ) (at : end ≡ end_of journal) where
  place : end ≡ journal.bank.start + length (flat_map block entries)
  place = at ∙ end_is journal entries fits.gates

  over : StandsAt journal.bank (entries ++ added) (overwritten (seen_of past) end (1 ∷ row_body added))
  over = row_over past journal.bank entries added fits.images (row_body added) short (row_is added some) end place

  pub row_moments : (new : List Call) (ok : Bool) → WritesBlock end (row_body added) past new ok
      → OnlyLeaves past new (StandsForOneOf journal.bank entries journal.bank (entries ++ added))
  row_moments new ok calls =
      gate_moments past journal.bank entries (entries ++ added) fits.images (row_body added) end place over new ok calls

  pub row_done : (new : List Call) (ok : Bool) → ok ≡ true → WritesBlock end (row_body added) past new ok
      → (bytes : List ℕ) → MayLeave new bytes → StandsAt journal.bank (entries ++ added) bytes
  row_done new ok well calls bytes may =
      gate_done past journal.bank entries (entries ++ added) fits.images (row_body added) end place over new ok well
      calls bytes may

  pub row_bytes : (new : List Call) (ok : Bool) → ok ≡ true → WritesBlock end (row_body added) past new ok
      → state new ≡ settled (with_row (seen_of past) (end_of journal) added)
  row_bytes new ok well calls =
      gate_bytes past new end (row_body added) ok well
      (subst (λ (k : ℕ). k < length (seen_of past)) (sym at) (gate_inside past journal entries fits)) calls
      ∙ ap (λ (l : List ℕ). settled (overwritten (seen_of past) end l)) (row_is added some)
      ∙ ap (λ (k : ℕ). settled (with_row (seen_of past) k added)) at
