-- The envelope that a value stands for.
use Rattle.soap_envelope.specs.Envelope.{Envelope}
use Rattle.soap_envelope.specs.declared.envelope.Envelope.{Envelope as CodeEnvelope}

-- the envelope
abbrev pub envelope_view : CodeEnvelope → Envelope
envelope_view e = record {
  headers = e.headers;
  header_scope = e.header_scope;
  payload = e.payload.bytes;
  scope = e.payload.scope;
  body = e.body;
}
