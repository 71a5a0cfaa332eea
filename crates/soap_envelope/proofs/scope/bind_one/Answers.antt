use Rattle.std.proofs.Common.{ℕ, List, Option, Some, is_some, cond, nat_cmp, sym, ap, ◌∙◌}
use Rattle.std.proofs.lemmas.Map.Text.{btree_map_updates_str}
use Rattle.std.specs.BTreeMap.{get_by}
use Rattle.std.specs.Cmp.Lexicographic.{slice_cmp}
use Rattle.std.specs.Str.{bytes_eq}
use Rattle.soap_envelope.specs.Steps.{Lent}
use Rattle.soap_envelope.proofs.Scopes.{bound_already, bound_now}
use Rattle.soap_envelope.proofs.scope.bind_one.Goals as goal

pub returns-then-contains_key : goal.returns-then-contains_key
returns-then-contains_key c = λ before known.
    let f : List ℕ → Option Lent = λ p. get_by (λ (k : Lent). slice_cmp nat_cmp p k.now) c.args.known.now in
    bound_already c.args.binding.now before f (ap (λ p. is_some (f p)) (sym c.as_slice-prefix.ensures)
    ∙ sym c.contains_key.ensures ∙ c.if-contains_key.true) known

pub returns : goal.returns
returns c = λ before known.
    let prefix = c.as_slice-prefix.result.now in
    let f : List ℕ → Option Lent = λ p. get_by (λ (k : Lent). slice_cmp nat_cmp p k.now) c.args.known.now in
    let g : List ℕ → Option Lent = λ p. get_by (λ (k : Lent). slice_cmp nat_cmp p k.now) c.insert.new.self in
    bound_now c.args.binding.now before f g c.as_slice.result c.as_slice.ensures
    (ap (λ p. is_some (f p)) (sym c.as_slice-prefix.ensures) ∙ sym c.contains_key.ensures ∙ c.if-contains_key.false)
    (λ q. btree_map_updates_str prefix c.args.known.now c.insert.new.self _ c.in_ok-insert.ensures.updates q
    ∙ ap (λ p. cond (bytes_eq p q) (Some c.as_slice.result) (f q)) c.as_slice-prefix.ensures)
    known
