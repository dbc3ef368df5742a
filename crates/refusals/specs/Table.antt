-- What steps on words and calls on a table do: what does otherwise is refused.
use Rattle.std.specs.Prelude.{◌≡◌, ◌≢◌, ℕ, ◌<◌, List, [], ◌∷◌, ◌++◌, length, filter, slice_index_or, Option}
use mathlib.Core.Option.{some}
use lib.ListN.{get_elem?}
use Rattle.atomic_table.specs.Table as table
use Rattle.atomic_table.specs.Table.{Allows}
use Rattle.map_types.specs.declared.attr.Shape.{Shape}
use Rattle.map_types.specs.declared.kind.DomainId.TheVariants.{Bucket}
use Rattle.map_types.specs.declared.kind.Side.TheVariants.{Sys}
use Rattle.map_types.specs.declared.reply.Reply.{Reply}
use Rattle.map_types.specs.Creation.{IsShape}
use Rattle.place_words.specs.declared.history.Part.{Part}
use Rattle.place_words.specs.declared.home.Home.{Home}
use Rattle.place_words.specs.declared.owner.Owner.{Owner}
use Rattle.place_words.specs.declared.visits.Visit.{Visit}
use Rattle.place_words.specs.Codes.{home_code}
use Rattle.place_words.specs.Histories.{bits_cleared}
use Rattle.place_table.specs.declared.content.Behind.{Behind}
use Rattle.place_table.specs.declared.content.Content.{Content}
use Rattle.place_table.specs.declared.view.Notes.{Notes}
use Rattle.place_table.specs.declared.view.Turned.{Turned}
use Rattle.place_table.specs.declared.view.View.{View}
use Rattle.place_table.specs.BucketTurns.{LooksUp}
use Rattle.place_table.specs.Calls.{IsTold}
use Rattle.place_table.specs.Closing.{ClosedView, IsClosed}
use Rattle.place_table.specs.Passes.{PassView, TableView, Gave, GaveBack, Marked, MayGiveBack, SawOwner}
use Rattle.place_table.specs.Plays.{Seated, Marks, Clears, Rehomes}
use Rattle.place_table.specs.Rules.{Rule}
use Rattle.place_table.specs.TurnNotes.{clears_noted}
use Rattle.place_table.specs.Views.{all_strands, is_recorded}
use Rattle.place_table.specs.Words.{bit_word, home_word}

-- a word has 64 bits
abbrev pub FitsWord : ℕ → Type 0
FitsWord n = n < 18446744073709551616

-- A mark leaves the bit word at 1.
abbrev pub MarkSetsTheBit : Type 0
MarkSetsTheBit =
    (shape : Shape) (slots pass e : ℕ) (f : ℕ → ℕ) (me : Seated) (s : table.State Behind View) → Rule shape s → length s.homes ≡ slots → get_elem? s.views pass ≡ some me.0 → e < shape.elements
    → FitsWord (slice_index_or s.words (bit_word shape e) 0) → f (slice_index_or s.words (bit_word shape e) 0) ≢ 1
    → ¬ Allows (Rule shape) slots pass me (bit_word shape e) f (λ _. Marks e me)

-- A clear leaves it at 0.
abbrev pub ClearTakesTheBit : Type 0
ClearTakesTheBit =
    (shape : Shape) (slots pass e : ℕ) (f : ℕ → ℕ) (me : Seated) (s : table.State Behind View) → Rule shape s → length s.homes ≡ slots → get_elem? s.views pass ≡ some me.0 → e < shape.elements
    → FitsWord (slice_index_or s.words (bit_word shape e) 0) → f (slice_index_or s.words (bit_word shape e) 0) ≢ 0
    → ¬ Allows (Rule shape) slots pass me (bit_word shape e) f (Clears e me)

-- An element that goes to a home has its home word left with this home's number.
abbrev pub RehomeStoresTheHome : Type 0
RehomeStoresTheHome =
    (shape : Shape) (slots pass e stored : ℕ) (to : Home) (me : Seated) (s : table.State Behind View) → Rule shape s → length s.homes ≡ slots → get_elem? s.views pass ≡ some me.0 → e < shape.elements
    → FitsWord (slice_index_or s.words (home_word shape e) 0) → stored ≢ home_code to
    → ¬ Allows (Rule shape) slots pass me (home_word shape e) (λ _. stored) (λ _. Rehomes e to me)

-- A lock that is given back tells the part that it is given back with.
abbrev pub TurnTellsItsPart : Type 0
TurnTellsItsPart = (before after : PassView) (part other : Part) → Gave before after other → part ≢ other → ¬ Gave before after part

-- The system call's lookup sets no bit: where one was set in its turn, no way to give the bucket back, with a part or without one,
-- leaves what such a lookup leaves.
abbrev pub SystemLookupMarksNone : Type 0
SystemLookupMarksNone =
    (t : TableView) (bucket e : ℕ) (before marked after : PassView) (key : List ℕ) (reply : Reply) (here : Content) (part : Option Part) → Marked e before marked
    → MayGiveBack t (Bucket bucket) marked here part → GaveBack t (Bucket bucket) marked after here part → ¬ LooksUp t bucket before after Sys key reply

-- The owner that is answered is the one that was read: no other leaves the same.
abbrev pub OwnerIsTheOneRead : Type 0
OwnerIsTheOneRead =
    (t : TableView) (e : ℕ) (before after : PassView) (owner other : Owner) → IsShape t.shape → SawOwner t e before after owner → other ≢ owner → ¬ SawOwner t e before after other

-- A turn isn't told with another bit than the clear in its place found, whether its record is lost or not: not where the bits before it
-- are told as the clears before found them.
abbrev pub TurnTellsItsBits : Type 0
TurnTellsItsBits =
    (shape : Shape) (lost : List ℕ) (step told : Turned) (noted : Notes) (below : List Notes) (before : List Visit) (found other : Visit) (more others : List Visit)
    → step.moment.notes ≡ noted ∷ below → clears_noted noted ≡ before ++ found ∷ more → bits_cleared told.entry.part ≡ before ++ other ∷ others → other ≢ found
    → ¬ IsTold shape lost step told

-- Where a history is handed out, and a strand has a step that is recorded, a closed table has a strand.
abbrev pub StrandsAreHandedOut : Type 0
StrandsAreHandedOut =
    (shape : Shape) (pass : PassView) (closed : ClosedView) → closed.histories ≢ [] → filter is_recorded (all_strands pass.view) ≢ [] → closed.strands ≡ []
    → ¬ IsClosed shape pass closed
