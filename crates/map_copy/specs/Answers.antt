-- What a map answers to a read of a copy, as far as a copy rests on it. Buckets are taken whole, in order, from the start on, up to
-- the first one for which there is no room, and none has more pairs than the map has elements.
use Rattle.std.specs.Prelude.{◌≡◌, ◌<◌, ◌≤◌, All, List, None, Some}
use Rattle.map_types.specs.declared.attr.Shape.{Shape}
use Rattle.map_types.specs.declared.refusal.Errno.TheVariants.{Enoent, Enospc}
use Rattle.map_types.specs.declared.reply.Reply.{Reply}
use Rattle.map_types.specs.declared.reply.Reply.TheVariants.{Batch}
use Rattle.map_copy.specs.Copied.{Read, Step}

-- With no stop `next` is a bucket behind the start: one at least was taken. With ENOSPC `next` is a bucket, and fewer pairs were
-- asked for than the map has elements: a bucket had more. With ENOENT `next` is behind the last bucket.
abbrev pub IsAnswer : Shape → Read → Reply → Type 0
IsAnswer shape read (Batch None taken next) = (read.start < next) × (next < shape.buckets)
IsAnswer shape read (Batch (Some Enospc) taken next) = (read.start ≤ next) × (next < shape.buckets) × (read.count < shape.elements)
IsAnswer shape read (Batch (Some Enoent) taken next) = next ≡ shape.buckets
IsAnswer shape read reply = ⊥

-- the page of a step is what a map answers, and so are the pages of all these steps
abbrev pub IsAnswered : Shape → Step → Type 0
IsAnswered shape step = IsAnswer shape step.read step.page

abbrev pub AreAnswered : Shape → List Step → Type 0
AreAnswered shape steps = All (IsAnswered shape) steps
