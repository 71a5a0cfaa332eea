use Rattle.std.proofs.Common.{◌≡◌, ◌∙◌, ℕ, ◌+◌, ◌*◌, length, ap, arith}
use Rattle.std.specs.Prelude.{nat_le}
use Rattle.rm_base.specs.Limits.{parameter_bytes}
use Rattle.node_laws.specs.Sizes.Size.{capped}
use Rattle.wsa_headers.specs.Endpoint.{params_length}
use Rattle.node_store.proofs.EndpointLemmas.{params_sum, short_decides}
use Rattle.node_store.proofs.endpoints.is_short.Goals as goal

pub returns : goal.returns
returns c =
    let address = c.args.endpoint.now.address in
    let params = c.args.endpoint.now.params in
    let len : c.in_ok-len.len ≡ capped (8 + length address + (4 * length params + params_length params)) =
    c.in_ok-len.ensures ∙ ap (λ (s : ℕ). capped (8 + length address + s)) (params_sum params) in
    let around : 8 + c.uri_len.result + 4 * c.len.result + parameter_bytes
    ≡ 8 + length address + 4 * length params + parameter_bytes =
    omega (arith, c.uri_len.ensures.len, c.len.ensures) in
    ap (λ (t : ℕ). nat_le c.in_ok-len.len t) around
    ∙ short_decides c.in_ok-len.len (length address) (length params) (params_length params) len
    c.uri_len.ensures.is_text.within c.requires
