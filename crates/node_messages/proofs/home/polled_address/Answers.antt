use Rattle.std.proofs.Common.{◌≡◌, ◌++◌, ◌∙◌, List, ℕ, length, drop, ap, sym, subst, arith}
use Rattle.rm_base.specs.Text.{IsText}
use Rattle.record_batch.specs.Sequences.IdentTexts.{polled-text}
use Rattle.record_batch.specs.Sequences.Idents.{issue, polled_address, polled_prefix}
use Rattle.node_messages.proofs.TextLemmas.{polled-is, polled-length}
use Rattle.node_messages.proofs.home.polled_address.Goals as goal

pub behind_prefix-requires : goal.behind_prefix-requires
behind_prefix-requires c =
    let same : c.as_slice.result.now ≡ issue c.args.number 0 = c.as_slice.ensures.bytes ∙ c.in_ok-ident.ensures in
    omega (arith, polled-length c.args.number, ap length same)

pub uri_of-requires : goal.uri_of-requires
uri_of-requires c =
    let same : c.as_slice.result.now ≡ issue c.args.number 0 = c.as_slice.ensures.bytes ∙ c.in_ok-ident.ensures in
    let whole : c.as_slice-2.result.now ≡ polled_address c.args.number =
    c.as_slice-2.ensures.value ∙ c.in_ok-extend_from_slice.ensures.items
    ∙ ap (λ t. t ++ c.behind_prefix.result.now) (c.in_ok-text.ensures.items ∙ c.polled_bytes.ensures)
    ∙ ap (λ t. polled_prefix ++ t) (c.behind_prefix.ensures ∙ ap (drop 9) same) ∙ sym (polled-is c.args.number) in
    subst (λ (t : List ℕ). IsText 2048 t) (sym whole) (polled-text c.args.number)

pub returns : goal.returns
returns c =
    let same : c.as_slice.result.now ≡ issue c.args.number 0 = c.as_slice.ensures.bytes ∙ c.in_ok-ident.ensures in
    let whole : c.as_slice-2.result.now ≡ polled_address c.args.number =
    c.as_slice-2.ensures.value ∙ c.in_ok-extend_from_slice.ensures.items
    ∙ ap (λ t. t ++ c.behind_prefix.result.now) (c.in_ok-text.ensures.items ∙ c.polled_bytes.ensures)
    ∙ ap (λ t. polled_prefix ++ t) (c.behind_prefix.ensures ∙ ap (drop 9) same) ∙ sym (polled-is c.args.number) in
    rw whole at c.uri_of.ensures
