-- What an error of a sink is to the caller of a writer.
use Rattle.rm_base.specs.declared.outside.SinkError.{SinkError}
use Rattle.rm_base.specs.declared.outside.SinkError.TheVariants.{Memory as TooFull, Failed as WriteFails}
use Rattle.http_endpoint.specs.declared.error.HttpError.{HttpError}
use Rattle.http_endpoint.specs.declared.error.HttpError.TheVariants.{Memory, WriteFault}

-- want of memory stays that, and any other failure is one of writing
abbrev pub error_of : SinkError → HttpError
error_of TooFull = Memory
error_of WriteFails = WriteFault
