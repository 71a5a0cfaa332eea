use Rattle.std.proofs.Common.{refl, arith}
use Rattle.message_writer.specs.Faults.{fault_action}
use Rattle.message_writer.specs.declared.table.Vocabulary.TheVariants.{OfSoap, OfAddressing, OfMessaging, OfConnection}
use Rattle.message_writer.proofs.PlainTexts.{plain_text}
use Rattle.message_writer.proofs.table.Vocabulary.action.Goals as goal

pub returns-in-OfSoap-clause-is_text : goal.returns-in-OfSoap-clause-is_text
returns-in-OfSoap-clause-is_text c =
    plain_text 2048 (fault_action OfSoap) refl (omega arith) (omega arith) refl refl

pub returns-in-OfAddressing-clause-is_text : goal.returns-in-OfAddressing-clause-is_text
returns-in-OfAddressing-clause-is_text c =
    plain_text 2048 (fault_action OfAddressing) refl (omega arith) (omega arith) refl refl

pub returns-in-OfMessaging-clause-is_text : goal.returns-in-OfMessaging-clause-is_text
returns-in-OfMessaging-clause-is_text c =
    plain_text 2048 (fault_action OfMessaging) refl (omega arith) (omega arith) refl refl

pub returns-in-OfConnection-clause-is_text : goal.returns-in-OfConnection-clause-is_text
returns-in-OfConnection-clause-is_text c =
    plain_text 2048 (fault_action OfConnection) refl (omega arith) (omega arith) refl refl
