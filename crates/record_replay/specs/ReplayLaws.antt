-- The law of entries of well-shaped records: those of a bucket can be replayed.
use Rattle.std.specs.Prelude.{ℕ, All, List}
use Rattle.map_types.specs.declared.attr.Shape.{Shape}
use Rattle.map_types.specs.declared.kind.DomainId.TheVariants.{Bucket}
use Rattle.place_words.specs.declared.history.Entry.{Entry}
use Rattle.record_shape.specs.Fits.{AllFit}
use Rattle.record_shape.specs.ShapedParts.{EntryFits}
use Rattle.record_replay.specs.BucketSteps.{IsSizedEntry}

abbrev pub FittingAreSized : Type 0
FittingAreSized =
    (shape : Shape) (calls bucket : ℕ) (entries : List Entry) → AllFit (EntryFits shape calls (Bucket bucket)) entries → All (IsSizedEntry shape) entries
