-- What follows from how a command ended that reads its input to the end and prints a text of it.
use Rattle.std.proofs.Common.{◌≡◌, ℕ, ◌≤◌, ◌<◌, ◌⊎◌, List, length, refl, sym, subst, arith, inl, inr}
use Rattle.std.specs.Prelude.{Option, None, Some, IfSome}
use Rattle.rm_command.specs.declared.end.End.{End}
use Rattle.rm_command.specs.declared.end.End.TheVariants.{Done, Usage, BadLine, ReadFault, WriteFault, TooLong}
use Rattle.rm_command.specs.declared.end.End.TheVariants.{Refused, Memory}
use Rattle.rm_command.specs.Edge.{Edge, WasRead}
use Rattle.rm_command.specs.Filter.{EndsUnread, EndsWriting, EndsFilter, IsFilterStatus}
use Rattle.rm_command.specs.Status.{status_of}

module _ {S K : Type 0} (limit : ℕ) (Untouched : Type 0) (Prints : List ℕ → List ℕ → Type 0) (Cuts : List ℕ → Type 0)
    (Refuses : List ℕ → End → Type 0) (e : Edge S K) where
  -- an input that was not read
  pub unread_ends : (end : End) → Untouched → EndsUnread limit end e
      → EndsFilter limit Untouched Prints Cuts Refuses end e
  unread_ends Done same ends = absurd ends
  unread_ends Usage same ends = absurd ends
  unread_ends (BadLine line) same ends = absurd ends
  unread_ends ReadFault same ends = (same, ends)
  unread_ends WriteFault same ends = absurd ends
  unread_ends TooLong same ends = (same, ends)
  unread_ends (Refused fault) same ends = absurd ends
  unread_ends Memory same ends = inl (same, ends)

  -- a text that was written, or was not
  pub writing_ends : (end : End) (bytes text : List ℕ) → WasRead limit e.input.told e.input_after.told bytes
      → Prints bytes text → EndsWriting text end e.out.told e.out_after.told
      → EndsFilter limit Untouched Prints Cuts Refuses end e
  writing_ends Done bytes text read prints ends =
      record { bytes = bytes; text = text; read = read; prints = prints; written = ends }
  writing_ends Usage bytes text read prints ends = absurd ends
  writing_ends (BadLine line) bytes text read prints ends = absurd ends
  writing_ends ReadFault bytes text read prints ends = absurd ends
  writing_ends WriteFault bytes text read prints ends =
      (ends.0, record { bytes = bytes; text = text; read = read; prints = prints; begun = ends.1 })
  writing_ends TooLong bytes text read prints ends = absurd ends
  writing_ends (Refused fault) bytes text read prints ends = absurd ends
  writing_ends Memory bytes text read prints ends =
      inr (inl (record { bytes = bytes; text = text; read = read; prints = prints; begun = ends }))

-- what holds of all bytes, where they are known
if_some : (o : Option (List ℕ)) (P : List ℕ → Type 0) → ((x : List ℕ) → o ≡ Some x → P x) → IfSome o P
if_some None P h = tt
if_some (Some x) P h = h x refl

-- what is known of all bytes, where they are known
known : (o : Option (List ℕ)) (all : List ℕ) (P : List ℕ → Type 0) → o ≡ Some all → IfSome o P → P all
known o all P e h = subst (λ (x : Option (List ℕ)). IfSome x P) e h

module _ {S K : Type 0} (limit refusal : ℕ) (Untouched : Type 0) (Prints : List ℕ → List ℕ → Type 0)
    (Cuts : List ℕ → Type 0)
    (Refuses : List ℕ → End → Type 0) (Good : List ℕ → Type 0)
    (prints : (bytes text : List ℕ) → Prints bytes text → Good bytes)
    (refuses : (bytes : List ℕ) (end : End) → Refuses bytes end → (¬ (Good bytes)) × (status_of end ≡ refusal))
    (e : Edge S K) where
  -- the bytes that were read are all, where they are known
  good : (all : List ℕ) → e.input.told.left ≡ Some all → (bytes : List ℕ)
      → WasRead limit e.input.told e.input_after.told bytes → Good bytes → (status : ℕ)
      → (status ≡ 0) ⊎ ((status ≡ 5) ⊎ ((status ≡ 4) ⊎ (status ≡ 10)))
      → IsFilterStatus limit refusal (Good all) all status
  good all left bytes read is status comes =
      let same : bytes ≡ all = known e.input.told.left all (λ x. bytes ≡ x) left read.whole in
      let short : length all ≤ limit = rw same at read.short in
      record {
        good = λ _ _. comes;
        bad = λ _ none. absurd (none (subst Good same is));
        longer = λ longer. absurd (omega (arith, short, longer));
      }

  refused : (all : List ℕ) → e.input.told.left ≡ Some all → (bytes : List ℕ)
      → WasRead limit e.input.told e.input_after.told bytes → (end : End) → Refuses bytes end
      → IsFilterStatus limit refusal (Good all) all (status_of end)
  refused all left bytes read end why =
      let same : bytes ≡ all = known e.input.told.left all (λ x. bytes ≡ x) left read.whole in
      let short : length all ≤ limit = rw same at read.short in
      record {
        good = λ _ is. absurd ((refuses bytes end why).0 (subst Good (sym same) is));
        bad = λ _ _. inl (refuses bytes end why).1;
        longer = λ longer. absurd (omega (arith, short, longer));
      }

  status : (all : List ℕ) → e.input.told.left ≡ Some all → (end : End)
      → EndsFilter limit Untouched Prints Cuts Refuses end e
      → IsFilterStatus limit refusal (Good all) all (status_of end)
  status all left Done ran = good all left ran.bytes ran.read (prints ran.bytes ran.text ran.prints) 0 (inl refl)
  status all left Usage ran = absurd ran
  status all left (BadLine line) ran = refused all left ran.bytes ran.read (BadLine line) ran.refuses
  status all left ReadFault ran =
      record { good = λ _ _. inr (inr (inl refl)); bad = λ _ _. inr (inl refl); longer = λ _. inr (inl refl) }
  status all left WriteFault ran =
      good all left ran.1.bytes ran.1.read (prints ran.1.bytes ran.1.text ran.1.prints) 5 (inr (inl refl))
  status all left TooLong ran =
      let long : limit < length all = known e.input.told.left all (λ x. limit < length x) left ran.1.0.longer in
      record {
        good = λ short _. absurd (omega (arith, short, long));
        bad = λ short _. absurd (omega (arith, short, long));
        longer = λ _. inl refl;
      }
  status all left (Refused fault) ran = refused all left ran.bytes ran.read (Refused fault) ran.refuses
  status all left Memory ran =
      record { good = λ _ _. inr (inr (inr refl)); bad = λ _ _. inr (inr refl); longer = λ _. inr (inr refl) }

  -- which status comes of bytes
  pub filter_status : (end : End) → EndsFilter limit Untouched Prints Cuts Refuses end e
      → IfSome e.input.told.left (λ bytes. IsFilterStatus limit refusal (Good bytes) bytes (status_of end))
  filter_status end ran =
      if_some e.input.told.left (λ bytes. IsFilterStatus limit refusal (Good bytes) bytes (status_of end))
      (λ all left. status all left end ran)
