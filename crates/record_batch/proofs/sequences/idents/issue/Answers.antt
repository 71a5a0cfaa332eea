use Rattle.std.proofs.Common.{◌≡◌, ◌*◌, ◌+◌, ◌^◌, List, ℕ, sym, ◌∙◌, ap, subst, arith}
use Rattle.std.specs.Int.{w128, to_be_bytes}
use Rattle.uuid.specs.Text.{lower, urn_text}
use Rattle.rm_base.specs.Text.{IsText}
use Rattle.record_batch.specs.Sequences.IdentTexts.{issue-text}
use Rattle.record_batch.specs.Sequences.Idents.{issue, upper_half, lower_half}
use Rattle.record_batch.proofs.sequences.idents.issue.Goals as goal

issued : (node counter high low : ℕ) (urn uuid text bytes : List ℕ) → bytes ≡ text → text ≡ urn_text lower urn
    → urn ≡ uuid → uuid ≡ to_be_bytes w128 (high * 2 ^ 64 + low) → high ≡ upper_half node → low ≡ lower_half counter
    → bytes ≡ issue node counter
unfolding issue
issued node counter high low urn uuid text bytes a b d e f g =
    a ∙ b ∙ ap (urn_text lower) (d ∙ e ∙ ap (λ (h : ℕ). to_be_bytes w128 (h * 2 ^ 64 + low)) f
    ∙ ap (λ (l : ℕ). to_be_bytes w128 (upper_half node * 2 ^ 64 + l)) g)

pub unreachable-requires-in-Err-NotText : goal.unreachable-requires-in-Err-NotText
unreachable-requires-in-Err-NotText c =
    let same = issued c.args.node c.args.counter _ _ _ _ _ _ c.as_bytes.ensures.value
    c.encode_lower-text.ensures.text c.urn.ensures c.from_u64_pair-uuid.ensures c.upper_half.ensures
    c.lower_half.ensures in
    let why = rw c.in-Err-NotText.field-0-is at c.in-Err-NotText.ensures.err in
    absurd (why.2 (subst (λ (t : List ℕ). IsText 512 t) (sym same)
    (issue-text 512 c.args.node c.args.counter (omega arith))))

pub returns-in-Ok : goal.returns-in-Ok
returns-in-Ok c =
    c.in-Ok.ensures.ok ∙ issued c.args.node c.args.counter _ _ _ _ _ _ c.as_bytes.ensures.value
    c.encode_lower-text.ensures.text c.urn.ensures c.from_u64_pair-uuid.ensures c.upper_half.ensures
    c.lower_half.ensures
