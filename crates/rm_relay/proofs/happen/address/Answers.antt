use Rattle.std.proofs.Common.{sym, subst}
use Rattle.rm_base.specs.Text.{IsText}
use Rattle.rm_relay.proofs.AddressLemmas.{address_is_text}
use Rattle.rm_relay.proofs.happen.address.Goals as goal

pub unreachable-requires-in-Err-NotText : goal.unreachable-requires-in-Err-NotText
unreachable-requires-in-Err-NotText c =
    (rw c.in-Err-NotText.field-0-is at c.in-Err-NotText.ensures.err).2
    (subst (IsText 2048) (sym c.address_bytes.ensures)
    (address_is_text c.texts_are_tested.ensures c.args.station))
