-- What a commit does to the disk and to what is kept.
use Rattle.std.proofs.Common.{◌≡◌, ◌≢◌, inl, inr, ℕ, ◌+◌, ◌-◌, ◌≤◌, ◌<◌, ◌^◌, Bool, true, false, List, [], ◌∷◌}
use Rattle.std.proofs.Common.{◌++◌, length, map, Option, get_or, refl, sym, ap, subst, ◌∙◌, arith}
use Rattle.std.proofs.Common.{length-append}
use Rattle.std.specs.Prelude.{is_ok, Result, Err}
use Rattle.std.specs.List.{flat_map}
use Rattle.std.proofs.lemmas.Grind.{flat_map-append}
use Rattle.std.proofs.lemmas.List.{get_or-append_right}
use Rattle.node_laws.specs.Sizes.Room.{HasRoom}
use Rattle.node_laws.specs.Sizes.Size.{batch_size}
use Rattle.rm_base.specs.Text.{IsText}
use Rattle.record_batch.specs.Batch.{batch_text}
use Rattle.record_batch.specs.Fact.{Fact, Made}
use Rattle.rm_disk.specs.Call.{Call, crashes_of}
use Rattle.rm_disk.specs.Fuse.{Burns}
use Rattle.rm_disk.specs.Image.{OnlyLeaves}
use Rattle.rm_disk.specs.ImageLemmas.{only_from, only_weaker}
use Rattle.rm_disk.specs.Journal.Entries.{Bank, StandsAt, StandsForEither}
use Rattle.rm_disk.specs.Journal.Journal.{Fits, with_entry}
use Rattle.rm_disk.specs.Journal.JournalState.{JournalState, end_of, journal_of}
use Rattle.record_batch.specs.Sequences.Makers.{counter, draws_of}
use Rattle.rm_protocol.specs.Node.{records_in}
use Rattle.node_laws.specs.Records.{BeginsWithMade, IsKept}
use Rattle.rm_disk.specs.Told.{Told}
use Rattle.node_store.specs.Changes.{BurnsFor, Changes}
use Rattle.node_store.specs.Has.{entries_of, Has, Holds, IsLeftBy}
use Rattle.node_store.specs.Failed.{is_disk}
use Rattle.node_store.specs.declared.error.StoreError.{StoreError}
use Rattle.node_store.specs.declared.error.StoreError.TheVariants as Errors
use Rattle.node_store.specs.Stored.{first_stored, grown, IsServing, Stored, stored, stored_after, with_batch}
use Rattle.node_store.proofs.HasLemmas.{entries_of-push, records_in-push}

pub with_batch-some : (batches : List (List Fact)) (d : List Fact) → d ≢ [] → with_batch batches d ≡ batches ++ d ∷ []
with_batch-some batches [] some = absurd (some refl)
with_batch-some batches (f ∷ d) some = refl

pub burns-some : (d : List Fact) (old new : Option ℕ) (well : Bool) → d ≢ [] → Burns 4 old new well
    → BurnsFor d old new well
burns-some [] old new well some burns = absurd (some refl)
burns-some (f ∷ d) old new well some burns = burns

-- the old entries, or these with the batch's
pub left_by : (bank : Bank) (batches : List (List Fact)) (d : List Fact) → d ≢ [] → (bytes : List ℕ)
    → StandsForEither bank (entries_of batches) (batch_text d) bytes → IsLeftBy bank batches d bytes
left_by bank batches d some bytes (inl old) = inl old
left_by bank batches d some bytes (inr new) =
    inr (subst (λ (es : List (List ℕ)). StandsAt bank es bytes)
    (sym (ap entries_of (with_batch-some batches d some) ∙ entries_of-push batches d)) new)

pub moments_of : (old new : List Call) (bank : Bank) (batches : List (List Fact)) (d : List Fact) → d ≢ []
    → OnlyLeaves old new (StandsForEither bank (entries_of batches) (batch_text d))
    → OnlyLeaves old new (IsLeftBy bank batches d)
moments_of old new bank batches d some only =
    only_weaker old new (StandsForEither bank (entries_of batches) (batch_text d)) (IsLeftBy bank batches d)
    (left_by bank batches d some) only

-- nothing happened on the disk
pub no_moments : (past : List Call) (s : Stored) (batches : List (List Fact)) (d : List Fact)
    → Holds batches past s → OnlyLeaves past past (IsLeftBy s.journal.bank batches d)
no_moments past s batches d holds =
    only_from past (IsLeftBy s.journal.bank batches d) (λ bytes may. inl (holds.journal.images bytes may))

-- the disk and the tables have one batch more
pub holds_more : (batches : List (List Fact)) (d : List Fact) (past : List Call) (old : Stored) (journal : JournalState)
    (records : List Fact) → d ≢ [] → old.records ≡ records_in batches
    → Fits (entries_of batches ++ batch_text d ∷ []) past journal → records ≡ old.records ++ d
    → Holds (with_batch batches d) past (stored journal records)
holds_more batches d past old journal records some were fits are =
    subst (λ (bs : List (List Fact)). Holds bs past (stored journal records)) (sym (with_batch-some batches d some))
    (record {
      journal = subst (λ (es : List (List ℕ)). Fits es past journal) (sym (entries_of-push batches d)) fits;
      records = are ∙ ap (λ (r : List Fact). r ++ d) were ∙ sym (records_in-push batches d);
    })

-- the closed gate behind one entry more
pub end_of-with_entry : (journal : JournalState) (len : ℕ) → end_of (with_entry journal len) ≡ end_of journal + 5 + len
end_of-with_entry journal len =
    let x = end_of journal + 5 + len in
    let at : length (journal.gates ++ x ∷ []) - 1 ≡ length journal.gates =
    omega (arith, length-append journal.gates (x ∷ [])) in
    let start = journal.bank.start in
    ap (λ (k : ℕ). get_or (journal.gates ++ x ∷ []) k start) at
    ∙ get_or-append_right journal.gates (x ∷ []) (length journal.gates) (length journal.gates) start refl (omega arith)
    ∙ ap (λ (k : ℕ). get_or (x ∷ []) k start) {y = 0} (omega arith)

-- a batch draws no more numbers than it has bytes
abbrev pub DrawsFew : Type 0
DrawsFew = (batch : List Fact) → counter batch ≤ length (batch_text batch)

pub counter-more : (r d : List Fact) → counter (r ++ d) ≡ counter r + counter d
counter-more r d =
    ap (λ (l : List ℕ). length l) (flat_map-append draws_of r d)
    ∙ length-append (flat_map draws_of r) (flat_map draws_of d)

begins_more : (r d : List Fact) → BeginsWithMade r → BeginsWithMade (r ++ d)
begins_more [] d h = absurd h
begins_more (f ∷ r) d h = first f r d h
  where
    first : (f : Fact) (r d : List Fact) → BeginsWithMade (f ∷ r) → BeginsWithMade (f ∷ (r ++ d))
    first (Made node address) r d h = tt
    first _ r d h = absurd h

serving_grown : DrawsFew → (journal : JournalState) (r d : List Fact) → IsServing journal r
    → HasRoom (end_of journal) d
    → IsServing (grown (stored journal r) d).journal (grown (stored journal r) d).records
serving_grown few journal r [] is room = is
serving_grown few journal r (f ∷ d) is (inl none) = absurd cc
serving_grown few journal r (f ∷ d) is (inr within) =
    let size = length (batch_text (f ∷ d)) in
    record {
      begins = begins_more r (f ∷ d) is.begins;
      drawn = omega (
        arith,
        is.drawn,
        few (f ∷ d),
        counter-more r (f ∷ d),
        end_of-with_entry journal size,
      );
      short = omega (arith, within.room, end_of-with_entry journal size);
      placed = omega (arith, is.placed, end_of-with_entry journal size);
    }

serving_so : DrawsFew → (journal : JournalState) (r d : List Fact) (ok failed : Bool) → IsServing journal r
    → HasRoom (end_of journal) d
    → IsServing (stored_after (stored journal r) d ok failed).journal
    (stored_after (stored journal r) d ok failed).records
serving_so few journal r d true failed is room = serving_grown few journal r d is room
serving_so few journal r d false true is room =
    record { begins = is.begins; drawn = is.drawn; short = is.short; placed = is.placed }
serving_so few journal r d false false is room = is

-- after a call the node serves still
pub serving_after : DrawsFew → (journal journal2 : JournalState) (r r2 d : List Fact) (ok failed : Bool)
    → IsServing journal r → HasRoom (end_of journal) d
    → stored journal2 r2 ≡ stored_after (stored journal r) d ok failed → IsServing journal2 r2
serving_after few journal journal2 r r2 d ok failed is room e =
    subst (λ (s : Stored). IsServing s.journal s.records) (sym e) (serving_so few journal r d ok failed is room)

-- a call that was refused: nothing happened
pub refused_changes : {T : Type 0} (first : Told) (old new : Stored) (d : List Fact) (result : Result T StoreError)
    (error : StoreError) → result ≡ Err error → error ≡ Errors.Memory
    → Changes first first old new d (is_ok result) (is_disk result)
refused_changes {T} first old new d result error is memory =
    subst (λ (r : Result T StoreError). Changes first first old new d (is_ok r) (is_disk r))
    (sym (is ∙ ap (λ (e : StoreError). Err e) memory)) (record {
      holds = λ batches h e. absurd cc;
      moments = λ batches h. no_moments first.past old batches d h;
      untouched = λ e f. refl;
      fuse = λ h. elim h [ inl e ↦ absurd cc | inr e ↦ absurd cc ];
      crashes = refl;
    })

-- a call without records: nothing happened, and all went well
pub empty_changes : (first : Told) (s : Stored) (d : List Fact) → d ≡ [] → Changes first first s s d true false
empty_changes first s d none =
    subst (λ (x : List Fact). Changes first first s s x true false) (sym none) (record {
      holds = λ batches h e. h;
      moments = λ batches h. no_moments first.past s batches [] h;
      untouched = λ e f. absurd cc;
      fuse = λ h. (refl, refl);
      crashes = refl;
    })

pub none_of : {A B : Type 0} (f : A → B) (xs : List A) → length xs ≡ 0 → map f xs ≡ []
none_of f [] e = refl
none_of f (x ∷ xs) e = absurd (omega (arith, e))

abbrev told : List Call → Option ℕ → ℕ → Told
told past fuse faults = record { past = past; fuse = fuse; faults = faults }

-- a call that was refused after the journal was asked: nothing happened either
pub still_changes : (first now : Told) (old new : Stored) (d : List Fact) → now.past ≡ first.past
    → now.fuse ≡ first.fuse → now.faults ≡ first.faults → Changes first now old new d false false
still_changes first now old new d past fuse faults = record {
  holds = λ batches h e. absurd cc;
  moments = λ batches h.
      subst (λ (l : List Call). OnlyLeaves first.past l (IsLeftBy old.journal.bank batches d)) (sym past)
      (no_moments first.past old batches d h);
  untouched = λ e g. ap (λ (l : List Call). told l now.fuse now.faults) past
      ∙ ap (λ (o : Option ℕ). told first.past o now.faults) fuse
      ∙ ap (λ (n : ℕ). told first.past first.fuse n) faults;
  fuse = λ h. elim h [ inl e ↦ absurd cc | inr e ↦ absurd cc ];
  crashes = ap crashes_of past;
}

-- the disk failed
pub broken_changes : (first now : Told) (old new : Stored) (d : List Fact) (entry : List ℕ) → d ≢ []
    → entry ≡ batch_text d
    → ((entries : List (List ℕ)) → Fits entries first.past old.journal
    → OnlyLeaves first.past now.past (StandsForEither old.journal.bank entries entry))
    → Burns 4 first.fuse now.fuse false → crashes_of now.past ≡ crashes_of first.past
    → Changes first now old new d false true
broken_changes first now old new d entry some text moments burns crashes = record {
  holds = λ batches h e. absurd cc;
  moments = λ batches h. moments_of first.past now.past old.journal.bank batches d some
      (subst (λ (x : List ℕ). OnlyLeaves first.past now.past (StandsForEither old.journal.bank (entries_of batches) x))
      text
      (moments (entries_of batches) h.journal));
  untouched = λ e g. absurd cc;
  fuse = λ h. burns-some d first.fuse now.fuse false some burns;
  crashes = crashes;
}

-- all went well
pub grown_changes : (first now : Told) (old : Stored) (journal : JournalState) (records d : List Fact)
    (entry : List ℕ) → d ≢ [] → entry ≡ batch_text d
    → ((entries : List (List ℕ)) → Fits entries first.past old.journal
    → OnlyLeaves first.past now.past (StandsForEither old.journal.bank entries entry))
    → ((entries : List (List ℕ)) → Fits entries first.past old.journal → Fits (entries ++ entry ∷ []) now.past journal)
    → records ≡ old.records ++ d → Burns 4 first.fuse now.fuse true → crashes_of now.past ≡ crashes_of first.past
    → Changes first now old (stored journal records) d true false
grown_changes first now old journal records d entry some text moments fits are burns crashes = record {
  holds = λ batches h e. holds_more batches d now.past old journal records some h.records
      (subst (λ (x : List ℕ). Fits (entries_of batches ++ x ∷ []) now.past journal) text
      (fits (entries_of batches) h.journal))
      are;
  moments = λ batches h. moments_of first.past now.past old.journal.bank batches d some
      (subst (λ (x : List ℕ). OnlyLeaves first.past now.past (StandsForEither old.journal.bank (entries_of batches) x))
      text
      (moments (entries_of batches) h.journal));
  untouched = λ e g. absurd cc;
  fuse = λ h. burns-some d first.fuse now.fuse true some burns;
  crashes = crashes;
}

-- a batch is as long as its parts
abbrev pub IsItsParts : Type 0
IsItsParts = (facts : List Fact) → length (batch_text facts) ≡ batch_size facts

-- a node that was just made serves
pub made_serves : IsItsParts → (journal : JournalState) (records : List Fact) (number : ℕ) (address : List ℕ)
    → IsText 2048 address → stored journal records ≡ first_stored number address → IsServing journal records
made_serves size journal records number address text e =
    let len = length (batch_text (Made number address ∷ [])) in
    let long : len ≡ 17 + length address = size (Made number address ∷ []) ∙ omega arith in
    let first : IsServing (with_entry (journal_of []) len) (Made number address ∷ []) = record {
      begins = tt;
      drawn = omega arith;
      short = omega (arith, end_of-with_entry (journal_of []) len, text.within, long);
      placed = omega (arith, end_of-with_entry (journal_of []) len);
    } in
    subst (λ (s : Stored). IsServing s.journal s.records) (sym e) first

-- and its disk has the batch of its first record
pub made_has : IsItsParts → (past : List Call) (s : Stored) (number : ℕ) (address : List ℕ) → number < 2 ^ 64
    → IsText 2048 address → IsKept (Made number address ∷ [])
    → Holds ((Made number address ∷ []) ∷ []) past s → Has ((Made number address ∷ []) ∷ []) past s
made_has size past s number address few text kept holds = record {
  holds = holds;
  are = record {
    each = (
      record {
        some = omega arith;
        counted = record { few = omega arith; each = ((few, text), tt) };
      },
      tt,
    );
    kept = kept;
  };
}

-- the batch of a node that is made, on an empty journal
pub first_so : (journal journal2 : JournalState) (r r2 d : List Fact) (number : ℕ) (address : List ℕ)
    → journal ≡ journal_of [] → r ≡ [] → d ≡ Made number address ∷ []
    → stored journal2 r2 ≡ stored_after (stored journal r) d true false
    → stored journal2 r2 ≡ first_stored number address
first_so journal journal2 r r2 d number address empty none first e =
    e ∙ ap (λ (j : JournalState). stored_after (stored j r) d true false) empty
    ∙ ap (λ (x : List Fact). stored_after (stored (journal_of []) x) d true false) none
    ∙ ap (λ (x : List Fact). stored_after (stored (journal_of []) []) x true false) first

pub made_holds : (first now : Told) (old new : Stored) (d : List Fact) (number : ℕ) (address : List ℕ)
    → d ≡ Made number address ∷ [] → old.journal ≡ journal_of [] → old.records ≡ [] → Fits [] first.past old.journal
    → Changes first now old new d true false → Holds ((Made number address ∷ []) ∷ []) now.past new
made_holds first now old new d number address is empty none fits changes =
    let holds : Holds (with_batch [] d) now.past new =
    changes.holds [] (record { journal = fits; records = none }) refl in
    subst (λ (x : List Fact). Holds (with_batch [] x) now.past new) is holds
