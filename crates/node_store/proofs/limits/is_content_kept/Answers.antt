use Rattle.std.proofs.Common.{ℕ, Bool, List, subst}
use Rattle.std.specs.Prelude.{◌↔◌, IfOk, IsTrue}
use Rattle.soap_document.specs.Profile.Payload.{IsClosedContent}
use Rattle.node_store.proofs.limits.is_content_kept.Goals as goal

pub returns : goal.returns
returns c =
    subst (λ (bytes : List ℕ). IfOk c.check_payload.result (λ (kept : Bool). IsTrue kept ↔ IsClosedContent bytes))
    c.as_slice.ensures c.check_payload.ensures
