-- What the disks keep follows from what was done with a script.
use Rattle.std.proofs.Common.{◌≡◌, ◌≢◌, ◌+◌, ℕ, List, length, take, Option, None, Some, inl, inr, refl, subst, sym}
use Rattle.std.proofs.Math.Seq.{take-length}
use Rattle.std.specs.Prelude.{◌⊎◌, IfSome}
use Rattle.rm_base.specs.Limits as limits
use Rattle.rm_protocol.specs.Terms.{Terms}
use Rattle.rm_replay.specs.Played.{IsUnmade, KeepsPlayed, Ran, RanCut}
use Rattle.rm_replay.specs.Shows.{Scene}
use Rattle.rm_script.specs.Script.{IsScript, lines_of}
use Rattle.rm_script.specs.Soak.Soak.{soak_script}
use Rattle.rm_script.specs.declared.event.Event.{Event}
use Rattle.rm_command.specs.Edge.{Edge, Side, WasRead}
use Rattle.rm_command.specs.Replay.{EndsReplay, EndsSoak, IsCutShortOf, IsReportOf}
use Rattle.rm_command.specs.Run.{AsksReplay, AsksSoak, IsAskedFor, Runs}
use Rattle.rm_command.specs.Stage.{KeepsFront, KeepsWhole, KeepsWordAt, Staged}
use Rattle.rm_command.specs.Status.{status_of}
use Rattle.rm_command.specs.declared.end.End.{End}
use Rattle.rm_command.specs.declared.end.End.TheVariants.{Done, Usage, BadLine, ReadFault, WriteFault, TooLong}
use Rattle.rm_command.specs.declared.end.End.TheVariants.{Refused, Memory}
use Rattle.rm_command.proofs.SoakLemmas.{one_number}

-- ---- all lines were played, or some first ones

keeps_ran : (terms : Terms) (script : List Event) (first now : Scene) (text : List ℕ)
    → Ran terms script first now text → KeepsPlayed terms script now
keeps_ran terms script first now text ran =
    (ran.story, ran.played, λ x y may_x may_y. (ran.sent x y may_x may_y).pair)

keeps_cut : (terms : Terms) (script : List Event) (first now : Scene) → RanCut terms script first now
    → IsUnmade first now ⊎ ((count : ℕ) × KeepsPlayed terms (take count script) now)
keeps_cut terms script first now (inl unmade) = inl unmade
keeps_cut terms script first now (inr (short, inl keeps)) = inr (short.count, keeps)
keeps_cut terms script first now (inr (short, inr keeps)) = inr (short.count + 1, keeps)

whole_of : (Is : List Event → Type 0) (first now : Scene) (bytes text : List ℕ)
    → (report : IsReportOf first now bytes text) → Is report.events → KeepsWhole Is now
whole_of Is first now bytes text report is = (
  report.events,
  is,
  λ terms net. keeps_ran terms report.events first now text (report.ran terms net),
)

front_whole : (Is : List Event → Type 0) (first now : Scene) → KeepsWhole Is now → KeepsFront Is first now
front_whole Is first now (script, is, keeps) = (
  script,
  is,
  λ terms net. inr (
    length script,
    subst (λ (lines : List Event). KeepsPlayed terms lines now) (sym (take-length script)) (keeps terms net),
  ),
)

front_of : (Is : List Event → Type 0) (first now : Scene) (bytes : List ℕ) → (cut : IsCutShortOf first now bytes)
    → Is cut.events → KeepsFront Is first now
front_of Is first now bytes cut is =
    (cut.events, is, λ terms net. keeps_cut terms cut.events first now (cut.ran terms net))

-- ---- by the status

-- the stage is as it was
still : {T : Type 0} (Is : List Event → Type 0) (status : ℕ) (old new : Staged T) → status ≢ 0 → status ≢ 5
    → new ≡ old → KeepsWordAt Is status old new
still Is status old new no_report no_text same = record {
  done = λ e. absurd (no_report e);
  unwritten = λ e. absurd (no_text e);
  short = λ e. inl same;
  other = λ a b d. same;
}

-- a report was made
made : {T : Type 0} (Is : List Event → Type 0) (status : ℕ) (old new : Staged T)
    → (status ≡ 0) ⊎ ((status ≡ 5) ⊎ (status ≡ 10)) → KeepsWhole Is new.scene → KeepsWordAt Is status old new
made Is status old new which whole = record {
  done = λ e. whole;
  unwritten = λ e. whole;
  short = λ e. inr (front_whole Is old.scene new.scene whole);
  other = λ a b d. elim which [
    | inl zero ↦ absurd (a zero)
    | inr more ↦ elim more [
      | inl five ↦ absurd (b five)
      | inr ten ↦ absurd (d ten)
    ]
  ];
}

-- memory was wanting before
wanting : {T : Type 0} (Is : List Event → Type 0) (old new : Staged T) → KeepsFront Is old.scene new.scene
    → KeepsWordAt Is 10 old new
wanting Is old new front = record {
  done = λ e. absurd (cc e);
  unwritten = λ e. absurd (cc e);
  short = λ e. inr front;
  other = λ a b d. absurd (d refl);
}

-- ---- by how a command ended

word_replay : {S K T : Type 0} (Is : List Event → Type 0) (end : End) (e : Edge S K) (old new : Staged T)
    → ((bytes : List ℕ) (events : List Event)
    → WasRead limits.script_bytes e.input.told e.input_after.told bytes → IsScript (lines_of bytes) events → Is events)
    → EndsReplay end e old new → KeepsWordAt Is (status_of end) old new
word_replay Is Done e old new given ends =
    made Is 0 old new (inl refl) (whole_of Is old.scene new.scene ends.bytes ends.text ends.prints
    (given ends.bytes ends.prints.events ends.read ends.prints.script))
word_replay Is Usage e old new given ends = absurd ends
word_replay Is (BadLine line) e old new given ends =
    still Is 3 old new (λ e. cc e) (λ e. cc e) ends.refuses.1
word_replay Is ReadFault e old new given ends = still Is 4 old new (λ e. cc e) (λ e. cc e) ends.0
word_replay Is WriteFault e old new given ends =
    made Is 5 old new (inr (inl refl)) (whole_of Is old.scene new.scene ends.1.bytes ends.1.text ends.1.prints
    (given ends.1.bytes ends.1.prints.events ends.1.read ends.1.prints.script))
word_replay Is TooLong e old new given ends = still Is 8 old new (λ e. cc e) (λ e. cc e) ends.0
word_replay Is (Refused fault) e old new given ends = absurd ends.refuses
word_replay Is Memory e old new given (inl unread) = still Is 10 old new (λ e. cc e) (λ e. cc e) unread.0
word_replay Is Memory e old new given (inr (inl part)) =
    made Is 10 old new (inr (inr refl)) (whole_of Is old.scene new.scene part.bytes part.text part.prints
    (given part.bytes part.prints.events part.read part.prints.script))
word_replay Is Memory e old new given (inr (inr cut)) =
    wanting Is old new (front_of Is old.scene new.scene cut.bytes cut.cut
    (given cut.bytes cut.cut.events cut.read cut.cut.script))

word_soak : {K T : Type 0} (Is : List Event → Type 0) (n : ℕ) (end : End) (out out_after : Side K) (old new : Staged T)
    → ((events : List Event) → IsScript (lines_of (soak_script n)) events → Is events)
    → EndsSoak n end out out_after old new → KeepsWordAt Is (status_of end) old new
word_soak Is n Done out out_after old new given ends =
    made Is 0 old new (inl refl) (whole_of Is old.scene new.scene (soak_script n) ends.report ends.played
    (given ends.played.events ends.played.script))
word_soak Is n Usage out out_after old new given ends = absurd ends
word_soak Is n (BadLine line) out out_after old new given ends = absurd ends
word_soak Is n ReadFault out out_after old new given ends = absurd ends
word_soak Is n WriteFault out out_after old new given ends =
    made Is 5 old new (inr (inl refl)) (whole_of Is old.scene new.scene (soak_script n) ends.1.report ends.1.played
    (given ends.1.played.events ends.1.played.script))
word_soak Is n TooLong out out_after old new given ends = absurd ends
word_soak Is n (Refused fault) out out_after old new given ends = absurd ends
word_soak Is n Memory out out_after old new given (inl played) =
    made Is 10 old new (inr (inr refl)) (whole_of Is old.scene new.scene (soak_script n) played.report played.played
    (given played.played.events played.played.script))
word_soak Is n Memory out out_after old new given (inr (silent, inl same)) =
    still Is 10 old new (λ e. cc e) (λ e. cc e) same
word_soak Is n Memory out out_after old new given (inr (silent, inr cut)) =
    wanting Is old new (front_of Is old.scene new.scene (soak_script n) cut (given cut.events cut.script))

-- ---- by the words

-- the bytes that were read are those of an input that tells them
told_script : (left : Option (List ℕ)) (bytes : List ℕ) (events : List Event) → IfSome left (λ all. bytes ≡ all)
    → IsScript (lines_of bytes) events → IfSome left (λ all. IsScript (lines_of all) events)
told_script None bytes events same script = tt
told_script (Some all) bytes events same script =
    subst (λ (b : List ℕ). IsScript (lines_of b) events) same script

pub keeps_word : {S K T : Type 0} (words : List (List ℕ)) (end : End) (e : Edge S K) (old new : Staged T)
    → Runs words end e old new → AsksReplay words ⊎ AsksSoak words
    → KeepsWordAt (IsAskedFor words e.input.told.left) (status_of end) old new
keeps_word words end e old new runs (inl asked) =
    word_replay (IsAskedFor words e.input.told.left) end e old new
    (λ bytes events read script. record {
      replay = λ again. told_script e.input.told.left bytes events read.whole script;
      soak = λ n other. absurd (cc (asked, other.1));
    })
    (runs.replay asked).ends
keeps_word words end e old new runs (inr (n, asked)) =
    word_soak (IsAskedFor words e.input.told.left) n end e.out e.out_after old new
    (λ events script. record {
      replay = λ other. absurd (cc (other, asked.1));
      soak = λ m other. subst (λ k. IsScript (lines_of (soak_script k)) events)
          (one_number words n m asked other) script;
    })
    (runs.soak n asked).ends
