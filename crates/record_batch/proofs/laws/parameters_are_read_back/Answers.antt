use Rattle.std.proofs.Common.{false}
use Rattle.soap_writer.specs.ReadBack.{written_tree}
use Rattle.record_batch.proofs.laws.parameters_are_read_back.Goals as goal

pub returns : goal.returns
returns c = λ p may shallow few.
    record {
      few = few;
      tree = written_tree false p;
      document = c.document_is_read_back.ensures p may shallow;
      same = c.written_tree_is_the_tree.ensures.plain p may;
    }
