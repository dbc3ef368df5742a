-- How the lines of replies are read.
use Rattle.std.specs.Prelude.{◌==◌, ℕ, List, ◌++◌, length, Option, Some, None, codes, decimal, if◌then◌else◌}
use Rattle.map_types.specs.declared.attr.Shape.{Shape}
use Rattle.map_types.specs.declared.kind.Side.{Side}
use Rattle.map_types.specs.declared.refusal.Errno.{Errno}
use Rattle.map_types.specs.declared.refusal.Errno.TheVariants.{Enoent, E2big, Enomem, Eexist, Einval, Enospc}
use Rattle.map_types.specs.declared.reply.Reply.{Reply}
use Rattle.map_types.specs.declared.reply.Reply.TheVariants.{Done, Value, Refused, Batch, Count}
use Rattle.record_reading.specs.Readers.{Reader, ◌>>=◌, or_else, behind, after, nothing, both, made, either, number, bytes, times, whole}
use Rattle.record_reading.specs.BucketReaders.{value}

unfoldable pub errno : Reader Errno
errno =
    either (made (λ _. Enoent) (after (codes "enoent") nothing)) (either (made (λ _. E2big) (after (codes "e2big") nothing))
    (either (made (λ _. Enomem) (after (codes "enomem") nothing)) (either (made (λ _. Eexist) (after (codes "eexist") nothing))
    (either (made (λ _. Einval) (after (codes "einval") nothing)) (made (λ _. Enospc) (after (codes "enospc") nothing))))))

-- `ok`, or the error at which a batch stopped
unfoldable pub stop_part : Reader (Option Errno)
stop_part = either (made (λ _. None) (after (codes "ok") nothing)) (made (λ e. Some e) errno)

-- ` KEY=VALUE`, the value of this side
unfoldable pub pair : Shape → Side → Reader (List ℕ × List ℕ)
pair shape side = after (codes " ") (both (bytes shape.key_size) (λ _. after (codes "=") (value shape side)))

-- ` taken N next N` and the pairs
abbrev pub TakenPart : Type 0
TakenPart = ℕ × (ℕ × List (List ℕ × List ℕ))

unfoldable pub batch : Shape → Side → Reader TakenPart
batch shape side =
    after (codes " taken ") (both (number 18446744073709551616) (λ count. both (after (codes " next ") (number 4294967296)) (λ _. times count (pair shape side))))

unfoldable pub count_done : Reader ℕ
count_done = after (codes " done ") (number 4294967296)

-- a refusal, or that it is done
abbrev pub plain : Option Errno → Reply
plain None = Done
plain (Some e) = Refused e

-- the value that a call answers
abbrev pub value_behind : (List ℕ → Option (List ℕ)) → Option Errno → List ℕ → Option Reply
value_behind value None text = behind (codes " ") text >>= (λ rest. value rest >>= (λ found. Some (Value found)))
value_behind value (Some e) text = None

abbrev pub told_by : Shape → Side → (List ℕ → Option (List ℕ)) → Option Errno → List ℕ → Option Reply
told_by shape side value stopped text =
    if length text == 0 then Some (plain stopped)
    else or_else (whole (made (λ (x : TakenPart). Batch stopped x.1.1 x.1.0) (batch shape side)) text)
    (or_else (whole (made (Count stopped) count_done) text) (value_behind value stopped text))

-- the reply of a call of this number, whose value is read so, and whose pairs have values of this side
unfoldable pub reply : Shape → Side → (List ℕ → Option (List ℕ)) → ℕ → List ℕ → Option Reply
reply shape side value number line =
    behind (decimal number ++ codes " ") line >>= (λ text. stop_part text >>= (λ s. told_by shape side value s.0 s.1))
