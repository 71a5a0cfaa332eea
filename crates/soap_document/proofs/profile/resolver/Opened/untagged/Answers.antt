use Rattle.soap_document.proofs.profile.resolver.Opened.untagged.Goals as goal

pub returns : goal.returns
returns c = rw (c.in_ok-new.ensures, c.in_ok-from_slice.ensures, c.new-2.ensures.items)
