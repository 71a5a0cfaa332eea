use Rattle.std.proofs.Common.{◌≡◌, ℕ, ◌≤◌, ◌<◌, Option, Err, IfNone, length, sym, ap, subst, ◌∙◌, arith}
use Rattle.std.proofs.lemmas.List.{take_all}
use Rattle.std.specs.Str.{IsUtf8}
use Rattle.soap_document.specs.Profile.Document.{Document, IsLongestText}
use Rattle.soap_document.specs.Profile.Tree.{Element as Tree}
use Rattle.soap_document.specs.declared.profile.error.EnvelopeError.TheVariants.{Memory as WantsMemory, NotUtf8}
use Rattle.soap_document.specs.declared.profile.error.EnvelopeError.TheVariants.{NotProfile}
use Rattle.soap_document.specs.declared.profile.read.Placed.{Placed}
use Rattle.rm_base.specs.Limits.{envelope_bytes}
use Rattle.soap_document.specs.Profile.Answer.{same_front}
use Rattle.soap_document.proofs.profile.read.read_placed.Goals.{in-Ok-None, in-Err}
use Rattle.soap_document.proofs.profile.read.read_placed.Goals as goal

pub returns-then-valid_up_to-bytes-clause-not_utf8 : goal.returns-then-valid_up_to-bytes-clause-not_utf8
returns-then-valid_up_to-bytes-clause-not_utf8 c = λ place.
    let bytes = c.args.bytes.now in
    let n = c.utf8_prefix-valid_up_to.result in
    let longest : IsLongestText bytes n = record {
      valid = c.utf8_prefix-valid_up_to.ensures.valid;
      longest =
          c.utf8_prefix-valid_up_to.ensures.longest;
    } in
    let fits : length bytes ≤ envelope_bytes = c.if-bytes-gt-ENVELOPE_BYTES.false in
    let inside : n < length bytes = c.if-valid_up_to-bytes.true in (
      λ e. let same : n ≡ place = cc in subst (λ (k : ℕ). (length bytes ≤ envelope_bytes) × (k < length bytes) ×
          IsLongestText bytes k) same (fits, inside, longest),
      λ h. ap (λ k. Err (NotUtf8 k)) (same_front bytes n place (omega arith) (omega arith) longest h.2),
    )

pub returns-clause-not_profile : goal.returns-clause-not_profile
returns-clause-not_profile c = λ e. elim c.match-read_tree.branch [
  | in-Ok-None w ↦
      let bytes = c.args.bytes.now in
      let utf8 : IsUtf8 bytes = subst IsUtf8 (take_all c.utf8_prefix-valid_up_to.result bytes
      c.if-valid_up_to-bytes.false) c.utf8_prefix-valid_up_to.ensures.valid in
      let none : (tree : Tree) → ¬ (Document bytes tree) = subst (λ (o : Option Placed). IfNone o ((tree : Tree) → ¬
      (Document bytes tree))) w.in-Ok-None.field-0-is w.in-Ok-None.ensures.none in
      (c.if-bytes-gt-ENVELOPE_BYTES.false, utf8, none)
  | in-Err w ↦
      let same : c.match-read_tree.refusal ≡ NotProfile = cc in
      let other : WantsMemory ≡ NotProfile = sym w.into-refusal.ensures ∙ sym w.refusal-is ∙ same in cc
]
