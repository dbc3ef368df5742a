-- What replies tell.
use Rattle.std.specs.Prelude.{Option, None, Some}
use Rattle.map_types.specs.declared.refusal.Errno.{Errno}
use Rattle.map_types.specs.declared.reply.Reply.{Reply}
use Rattle.map_types.specs.declared.reply.Reply.TheVariants.{Done, Value, Refused, Batch, Count}

-- the error that a reply names: that of a refusal, or that at which a batch stopped
abbrev pub error_of : Reply → Option Errno
error_of Done = None
error_of (Value bytes) = None
error_of (Refused errno) = Some errno
error_of (Batch stop taken next) = stop
error_of (Count stop done) = stop
