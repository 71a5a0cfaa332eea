-- Bytes of the layout before this one.
use Rattle.std.proofs.Common.{◌≡◌, ◌⊎◌, inl, inr, Result, Err, ℕ, ◌+◌, ◌-◌, ◌<◌, ◌≤◌, false}
use Rattle.std.proofs.Common.{List, [], ◌∷◌, ◌++◌, length, take, drop}
use Rattle.std.proofs.Common.{get_or, refl}
use Rattle.std.proofs.Common.{sym, ◌∙◌, ap, subst, arith, length-append}
use Rattle.std.specs.Prelude.{codes}
use Rattle.std.specs.List.{flat_map}
use Rattle.std.proofs.lemmas.List.{append-nil, drop_all, take_at}
use Rattle.rm_disk.specs.Call.{Call, Synced, Wrote, CutTo, seen_of, state, settled}
use Rattle.rm_disk.specs.Image.{MayLeave}
use Rattle.rm_disk.specs.ImageLemmas.{synced_only}
use Rattle.rm_disk.specs.Journal.Entries.{block, bytes_of, list_of, first_bank, first_front, EndsBlocks, StandsAsBefore}
use Rattle.rm_disk.specs.Journal.Entries.{StandsAt}
use Rattle.rm_disk.specs.Journal.Entries.{gates_from}
use Rattle.rm_disk.specs.Journal.EntryLemmas.{end_is, ends_one, stands_at-bytes_of}
use Rattle.rm_disk.specs.Journal.JournalState.{JournalState}
use Rattle.rm_disk.specs.Journal.Journal.{AnswersImport, HasRoomFor, IsTooLong, limit}
use Rattle.rm_disk.specs.declared.journal.error.JournalError.{JournalError}
use Rattle.rm_disk.specs.declared.journal.error.JournalError.TheVariants as Variant

abbrev pub head_before : List ℕ
head_before = codes "WSRMJNL1"

pub stands_before : (bytes rest : List ℕ) → bytes ≡ head_before ++ rest → (entries : List (List ℕ))
    → EndsBlocks entries rest → StandsAsBefore entries bytes
stands_before bytes rest e entries ends = record {
  begins = ap (λ (l : List ℕ). take 8 l) e;
  ends = subst (EndsBlocks entries) (sym (ap (λ (l : List ℕ). drop 8 l) e)) ends;
}

pub ends_before : (bytes rest : List ℕ) → bytes ≡ head_before ++ rest → (entries : List (List ℕ))
    → StandsAsBefore entries bytes → EndsBlocks entries rest
ends_before bytes rest e entries stands = subst (EndsBlocks entries) (ap (λ (l : List ℕ). drop 8 l) e) stands.ends

-- what was found behind the head, with its last gate
pub record IsRead (bytes rest gates : List ℕ) (end : ℕ) : Type 0 where
  pub entries : List (List ℕ)
  pub head : bytes ≡ head_before ++ rest
  pub ends : EndsBlocks entries rest
  pub gates_ : gates ≡ gates_from 25 entries
  pub end_ : end ≡ 25 + length (flat_map block entries)

pub is_read : (bytes rest gates : List ℕ) (end : ℕ) → bytes ≡ head_before ++ rest
    → (entries : List (List ℕ)) × EndsBlocks entries rest × (gates ≡ gates_from 25 entries)
    → end ≡ get_or gates (length gates - 1) 25 → IsRead bytes rest gates end
is_read bytes rest gates end head found last = record {
  entries = found.0;
  head = head;
  ends = found.1;
  gates_ = found.2;
  end_ = last ∙ end_is (record { bank = first_bank; gates = gates; is_down = false }) found.0 found.2;
}

size-list : (entries : List (List ℕ)) → length (list_of entries) ≡ length (flat_map block entries) + 1
size-list entries = length-append (flat_map block entries) (0 ∷ [])

pub too_long : (bytes rest gates : List ℕ) (end needed : ℕ) → IsRead bytes rest gates end → limit ≤ end
    → needed ≡ end - 24 → IsTooLong bytes (Variant.Full 25 needed)
too_long bytes rest gates end needed is long size = record {
  entries = is.entries;
  stands = stands_before bytes rest is.head is.entries is.ends;
  long = omega (arith, long, is.end_, size-list is.entries);
  is = ap (λ n. Variant.Full 25 n) (let e : needed ≡ length (list_of is.entries) =
      omega (arith, size, is.end_, size-list is.entries) in e);
}

-- the entries are those that were found
pub same_read : (bytes rest gates : List ℕ) (end : ℕ) (is : IsRead bytes rest gates end) (entries : List (List ℕ))
    → StandsAsBefore entries bytes → entries ≡ is.entries
same_read bytes rest gates end is entries stands =
    ends_one entries is.entries rest (ends_before bytes rest is.head entries stands) is.ends

pub has_room : (bytes rest gates : List ℕ) (end : ℕ) (is : IsRead bytes rest gates end) → end < limit
    → HasRoomFor is.entries bytes
has_room bytes rest gates end is low = record {
  stands = stands_before bytes rest is.head is.entries is.ends;
  short = omega (arith, size-list is.entries, is.end_, low);
}

-- the disk failed under a list that has room
pub answers_failed : (bytes rest gates : List ℕ) (end : ℕ) (is : IsRead bytes rest gates end) → end < limit
    → (answer : Result JournalState JournalError) (error : JournalError) → answer ≡ Err error → error ≡ Variant.Disk
    → AnswersImport bytes answer
answers_failed bytes rest gates end is low answer error e f =
    subst (AnswersImport bytes) (sym (e ∙ ap (λ x. Err x) f)) (is.entries, has_room bytes rest gates end is low)

-- nothing was found behind the head
pub answers_unread : (bytes rest : List ℕ) (error : JournalError) → bytes ≡ head_before ++ rest
    → (error ≡ Variant.Memory) ⊎ (error ≡ Variant.NotAJournal)
    → (error ≡ Variant.NotAJournal → (entries : List (List ℕ)) → EndsBlocks entries rest → ⊥)
    → AnswersImport bytes (Err error)
answers_unread bytes rest error head (inl e) none = subst (λ x. AnswersImport bytes (Err x)) (sym e) tt
answers_unread bytes rest error head (inr e) none = subst (λ x. AnswersImport bytes (Err x)) (sym e)
    (λ entries stands. none e entries (ends_before bytes rest head entries stands))

pub within_rest : (bytes rest gates : List ℕ) (end : ℕ) → IsRead bytes rest gates end → end - 25 ≤ length rest
within_rest bytes rest gates end is =
    omega (
      arith,
      is.end_,
      ap length is.ends.is,
      length-append (flat_map block is.entries)
          (is.ends.gate ∷ is.ends.behind),
    )

-- what is written
pub text_is : (bytes rest gates text : List ℕ) (end size : ℕ) (is : IsRead bytes rest gates end) → size ≡ end - 25
    → text ≡ first_front ++ take size rest ++ 0 ∷ [] → text ≡ bytes_of is.entries
text_is bytes rest gates text end size is cut e =
    e
    ∙ ap (λ n. first_front ++ take n rest ++ 0 ∷ []) (let same : size ≡ length (flat_map block is.entries) =
    omega (arith, cut, is.end_) in same)
    ∙ ap (λ (l : List ℕ). first_front ++ l ++ 0 ∷ [])
    (ap (λ (l : List ℕ). take (length (flat_map block is.entries)) l) is.ends.is
    ∙ take_at (flat_map block is.entries) (is.ends.gate ∷ is.ends.behind) (length (flat_map block is.entries)) refl)

-- what a read gives of a disk that was cut to nothing and written
fresh_is : (past : List Call) (text : List ℕ) → seen_of (Wrote 0 text ∷ CutTo 0 ∷ past) ≡ text
fresh_is past text =
    ap (λ (l : List ℕ). text ++ l) (drop_all (0 + length text) (take 0 (seen_of past)) (omega arith))
    ∙ append-nil text

-- a disk that was cut to nothing and given these bytes
pub written_state : (past new : List Call) (entries : List (List ℕ)) (text : List ℕ) → text ≡ bytes_of entries
    → new ≡ Synced ∷ Wrote 0 text ∷ CutTo 0 ∷ past → state new ≡ settled (bytes_of entries)
written_state past new entries text is calls = ap state calls ∙ ap settled (fresh_is past text ∙ is)

pub written_stands : (past new : List Call) (entries : List (List ℕ)) (text rest : List ℕ) → EndsBlocks entries rest
    → text ≡ bytes_of entries → new ≡ Synced ∷ Wrote 0 text ∷ CutTo 0 ∷ past → (image : List ℕ) → MayLeave new image
    → StandsAt first_bank entries image
written_stands past new entries text rest ends is calls image may =
    let e = synced_only (Wrote 0 text ∷ CutTo 0 ∷ past) image (subst (λ l. MayLeave l image) calls may) in
    subst (StandsAt first_bank entries) (sym (e ∙ fresh_is past text ∙ is)) (stands_at-bytes_of entries ends.fit)
