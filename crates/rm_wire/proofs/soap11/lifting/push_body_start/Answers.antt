use Rattle.std.proofs.Common.{map}
use Rattle.rm_base.specs.declared.message.Binding.{Binding}
use Rattle.soap_envelope.specs.Soap.{soap_space}
use Rattle.soap_envelope.specs.Frame.BodyTag.{declaration}
use Rattle.rm_wire.proofs.Soap11Lemmas.Tags.{start_by}
use Rattle.rm_wire.proofs.soap11.lifting.push_body_start.Goals as goal

pub returns : goal.returns
returns c =
    let own : Binding = record { prefix = c.args.prefix.now; space = soap_space } in
    start_by c.args.out.now.items _ _ _ _ _ _ c.args.prefix.now (declaration own) (map declaration c.args.scope.now)
    c.in_ok-push_bytes.ensures.ok c.in_ok-push_bytes-2.ensures.ok c.in_ok-push_bytes-3.ensures.ok
    c.in_ok-push_binding.ensures c.in_ok-push_bindings.ensures c.in_ok-push_bytes-4.ensures.ok
