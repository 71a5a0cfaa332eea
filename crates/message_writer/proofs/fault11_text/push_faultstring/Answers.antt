use Rattle.std.proofs.Common.{◌≡◌, ◌++◌, ℕ, List, codes, subst}
use Rattle.std.specs.Prelude.{OnOk}
use Rattle.soap_writer.specs.Nodes.Node.{node_text}
use Rattle.message_writer.specs.Faults11.{plain_leaf}
use Rattle.message_writer.proofs.fault11_text.push_faultstring.Goals as goal

pub returns : goal.returns
returns c =
    subst (λ (l : List ℕ). OnOk c.push_plain.result (c.push_plain.new.out.items
    ≡ c.args.out.now.items ++ node_text (plain_leaf (codes "faultstring") l))) c.as_slice.ensures c.push_plain.ensures
