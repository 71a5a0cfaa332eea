use Rattle.std.proofs.Common.{◌≡◌, ◌*◌, ◌+◌, ◌^◌, List, ℕ, ◌∙◌, ap}
use Rattle.std.specs.Int.{w128, to_be_bytes}
use Rattle.std.specs.Str.{bytes_eq}
use Rattle.uuid.specs.Text.{lower, urn_text}
use Rattle.record_batch.specs.Sequences.Idents.{issue, upper_half}
use Rattle.record_batch.proofs.sequences.idents.is_issued.Goals as goal

issued : (node counter high : ℕ) (urn uuid text bytes : List ℕ) → bytes ≡ text → text ≡ urn_text lower urn
    → urn ≡ uuid → uuid ≡ to_be_bytes w128 (high * 2 ^ 64 + (2 ^ 63 + counter)) → high ≡ upper_half node
    → bytes ≡ issue node counter
unfolding issue
issued node counter high urn uuid text bytes a b d e f =
    a ∙ b ∙ ap (urn_text lower) (d ∙ e ∙ ap (λ (h : ℕ). to_be_bytes w128 (h * 2 ^ 64 + (2 ^ 63 + counter))) f)

pub returns : goal.returns
returns c =
    c.eq.ensures
    ∙ ap (λ t. bytes_eq t c.args.text.now)
    (issued c.args.node c.args.counter _ _ _ _ _ c.as_bytes.ensures.value c.encode_lower-issued.ensures.text
    c.urn.ensures c.from_u128-uuid.ensures c.upper_half.ensures)
