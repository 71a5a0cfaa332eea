-- The notes of a link in memory.
use Rattle.std.specs.Prelude.{Some}
use Rattle.http_endpoint.specs.Link.Lines.{Call, Dialled, HungUp, Listened}
use Rattle.http_endpoint.specs.declared.link.past.Note.{Note}
use Rattle.http_endpoint.specs.declared.link.past.Note.TheVariants as note

-- what a note says that a link was asked for
abbrev pub call_of : Note → Call
call_of (note.Listened port) = Listened port
call_of (note.Dialled host port) = Dialled host port
call_of (note.HungUp conn) = HungUp (Some conn.written)
