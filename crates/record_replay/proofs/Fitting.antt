-- Entries of a bucket that fit give keys and values of the map's sizes.
use Rattle.std.proofs.Common.{ℕ, [], ◌∷◌}
use Rattle.std.proofs.lemmas.List.Elements.{All-cons, All-nil}
use Rattle.map_types.specs.declared.attr.Shape.{Shape}
use Rattle.map_types.specs.declared.kind.DomainId.TheVariants.{Bucket}
use Rattle.place_words.specs.declared.bucket_part.BucketPart.{BucketPart}
use Rattle.place_words.specs.declared.bucket_part.BucketPart.TheVariants.{Delete, Evict, First, Lookup, Next, Take, Update, Walk}
use Rattle.place_words.specs.declared.history.Part.{Part}
use Rattle.place_words.specs.declared.history.Part.TheVariants as parts
use Rattle.place_words.specs.Sizes.{GivesSized}
use Rattle.record_shape.specs.ShapedParts.{BucketFits, PartFits}
use Rattle.record_replay.specs.BucketSteps.{IsSizedEntry, PartIsSized}
use Rattle.record_replay.specs.ReplayLaws.{FittingAreSized}

gives : (shape : Shape) (part : BucketPart) → BucketFits shape part → GivesSized shape part
gives shape (Lookup side key got) fits = tt
gives shape (Update side flags key value offer put) fits = (fits.1.sized, fits.2.sized)
gives shape (Delete key _) fits = tt
gives shape (Take key _) fits = tt
gives shape (Next key found) fits = tt
gives shape (First key) fits = tt
gives shape (Walk remove room result) fits = tt
gives shape (Evict element probed) fits = tt

part_sized : (shape : Shape) (bucket : ℕ) (part : Part) → PartFits shape (Bucket bucket) part → PartIsSized shape part
part_sized shape bucket (parts.Bucket part) fits = gives shape part fits
part_sized shape bucket (parts.Free part) fits = tt
part_sized shape bucket (parts.Local part) fits = tt
part_sized shape bucket (parts.Global part) fits = tt
part_sized shape bucket (parts.Own part) fits = tt

pub fitting_are_sized : FittingAreSized
fitting_are_sized shape calls bucket [] fits = All-nil (IsSizedEntry shape)
fitting_are_sized shape calls bucket (entry ∷ entries) fits =
    All-cons (IsSizedEntry shape) entry entries (record { cpu = fits.0.cpu; part = part_sized shape bucket entry.part fits.0.part }) (fitting_are_sized shape calls bucket entries fits.1)
