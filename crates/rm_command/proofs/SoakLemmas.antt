-- What follows from the words of a soak, and from how it ended.
use Rattle.std.proofs.Common.{◌≡◌, ℕ, List, [], ◌∷◌, codes, decimal, Option, None, Some}
use Rattle.std.proofs.Common.{arith, refl, sym, subst, ◌∙◌, inl, inr, append-nil}
use Rattle.std.proofs.lemmas.Fmt.{decimal_injective}
use Rattle.std.specs.Io.KnownBytes.{Appends}
use Rattle.rm_base.specs.Outside.{Lasts, Stream}
use Rattle.rm_command.specs.Edge.{Edge, KeepsOutput, Side, WasBegun}
use Rattle.rm_command.specs.Filter.{EndsWriting}
use Rattle.rm_command.specs.Replay.{EndsSoak, IsReportOf, IsSoakStatus}
use Rattle.rm_command.specs.Run.{AsksSoakOf, Runs, RunsSoak}
use Rattle.rm_command.specs.Stage.{Staged}
use Rattle.rm_command.specs.Status.{status_of}
use Rattle.rm_command.specs.declared.end.End.{End}
use Rattle.rm_command.specs.declared.end.End.TheVariants.{Done, Usage, BadLine, ReadFault, WriteFault, TooLong}
use Rattle.rm_command.specs.declared.end.End.TheVariants.{Refused, Memory}
use Rattle.rm_script.specs.Soak.Soak.{soak_script}
use Rattle.rm_script.specs.Soak.Summary.{summary_of}

-- the words of a soak name one number
pub one_number : (words : List (List ℕ)) (m n : ℕ) → AsksSoakOf words m → AsksSoakOf words n → m ≡ n
one_number words m n this that =
    let same : codes "soak" ∷ decimal m ∷ [] ≡ codes "soak" ∷ decimal n ∷ [] = sym this.1 ∙ that.1 in
    decimal_injective m n (omega (arith, this.0)) (omega (arith, that.0)) (cc same)

-- and ask for nothing else
pub soak_runs : {S K T : Type 0} (words : List (List ℕ)) (n : ℕ) (end : End) (e : Edge S K) (old new : Staged T)
    → AsksSoakOf words n → RunsSoak n end e old new → Lasts e.input.told e.input_after.told
    → KeepsOutput e.wants_memory end e.out e.out_after → Runs words end e old new
soak_runs words n end e old new asked ran input out = record {
  replay = λ one. absurd (cc (one, asked.1));
  soak = λ m other. subst (λ k. RunsSoak k end e old new) (one_number words n m asked other) ran;
  check = λ one. absurd (cc (one, asked.1));
  policy = λ one. absurd (cc (one, asked.1));
  normal = λ one. absurd (cc (one, asked.1));
  intersect = λ one. absurd (cc (one, asked.1));
  nothing = λ none. absurd (none.5 (n, asked));
  stage = λ other. absurd (other (inr (n, asked)));
  input = input;
  out = out;
}

-- which status comes of a soak
pub soak_status : {S K T : Type 0} (n : ℕ) (end : End) (e : Edge S K) (old new : Staged T) → RunsSoak n end e old new
    → IsSoakStatus (status_of end)
soak_status n Done e old new ran = inl refl
soak_status n Usage e old new ran = absurd ran.ends
soak_status n (BadLine line) e old new ran = absurd ran.ends
soak_status n ReadFault e old new ran = absurd ran.ends
soak_status n WriteFault e old new ran = inr (inl refl)
soak_status n TooLong e old new ran = absurd ran.ends
soak_status n (Refused fault) e old new ran = absurd ran.ends
soak_status n Memory e old new ran = inr (inr refl)

-- a summary that was written, or was not
pub summary_ends : {K T : Type 0} (n : ℕ) (end : End) (out out_after : Side K) (old new : Staged T) (report : List ℕ)
    → IsReportOf old.scene new.scene (soak_script n) report
    → EndsWriting (summary_of n report) end out.told out_after.told → EndsSoak n end out out_after old new
summary_ends n Done out out_after old new report played ends =
    record { report = report; played = played; written = ends }
summary_ends n Usage out out_after old new report played ends = absurd ends
summary_ends n (BadLine line) out out_after old new report played ends = absurd ends
summary_ends n ReadFault out out_after old new report played ends = absurd ends
summary_ends n WriteFault out out_after old new report played ends =
    (ends.0, record { report = report; played = played; written = ends.1 })
summary_ends n TooLong out out_after old new report played ends = absurd ends
summary_ends n (Refused fault) out out_after old new report played ends = absurd ends
summary_ends n Memory out out_after old new report played ends =
    inl (record { report = report; played = played; written = ends })

-- no byte of a text was written
pub begun_not : (told : Stream) (text : List ℕ) → WasBegun told told text
begun_not told text = (0, omega arith, kept told.held)
  where
    kept : (held : Option (List ℕ)) → Appends held held []
    kept None = tt
    kept (Some bytes) = sym (append-nil bytes)
