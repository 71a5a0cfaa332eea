use Rattle.wsa_headers.proofs.AddressingBack.{blocks_own, marked_block}
use Rattle.wsa_headers.proofs.laws.addressing_blocks_are_told.Goals as goal

pub returns-clause-own : goal.returns-clause-own
returns-clause-own c = blocks_own

pub returns-clause-marked : goal.returns-clause-marked
returns-clause-marked c = marked_block
