use Rattle.std.proofs.Common.{ℕ, List, [], ◌∷◌, ◌++◌, ◌≡◌, ◌≢◌, refl, sym, ap, ◌∙◌}
use Rattle.std.specs.List.{flat_map}
use Rattle.std.proofs.lemmas.List.{append-nil}
use Rattle.rm_script.specs.Lines.{ended, HasNoLf}
use Rattle.rm_script.specs.Script.{lines_of}
use Rattle.rm_script.proofs.LineLemmas.{lines_of-joined, lines_of-unended}
use Rattle.rm_script.proofs.laws.lines_read_back.Goals as goal

-- a last line that is not empty
last_line : (last : List ℕ) → HasNoLf last → last ≢ [] → lines_of last ≡ last ∷ []
last_line [] h other = absurd (other refl)
last_line (byte ∷ bytes) h other = lines_of-unended byte bytes h

pub returns-clause-all : goal.returns-clause-all
returns-clause-all c = λ lines whole.
    ap lines_of (sym (append-nil (flat_map ended lines))) ∙ (lines_of-joined lines [] whole ∙ append-nil lines)

pub returns-clause-last : goal.returns-clause-last
returns-clause-last c = λ lines last whole h other.
    lines_of-joined lines last whole ∙ ap (λ l. lines ++ l) (last_line last h other)
