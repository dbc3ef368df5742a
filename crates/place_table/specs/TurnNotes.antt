-- What was done and read in a turn, against what its part tells.
use Rattle.std.specs.Prelude.{◌≡◌, ◌⊎◌, ℕ, Bool, true, false, All, List, Some, [], ◌∷◌, ◌++◌, reverse, option_to_list, if◌then◌else◌}
use Rattle.map_types.specs.declared.attr.Shape.{Shape}
use Rattle.map_types.specs.ElementLists.{IsIn}
use Rattle.place_words.specs.declared.bucket_part.Seen.{Seen}
use Rattle.place_words.specs.declared.bucket_part.Seen.TheVariants.{Removed, Held}
use Rattle.place_words.specs.declared.history.Part.{Part}
use Rattle.place_words.specs.declared.history.Part.TheVariants as parts
use Rattle.place_words.specs.declared.list_part.GlobalPart.{GlobalPart}
use Rattle.place_words.specs.declared.list_part.GlobalPart.TheVariants as global
use Rattle.place_words.specs.declared.list_part.LocalPart.{LocalPart}
use Rattle.place_words.specs.declared.list_part.LocalPart.TheVariants as local
use Rattle.place_words.specs.declared.list_part.OwnPart.{OwnPart}
use Rattle.place_words.specs.declared.list_part.OwnPart.TheVariants as own
use Rattle.place_words.specs.declared.owner.Owner.TheVariants.{Hand}
use Rattle.place_words.specs.declared.visits.Flush.{Flush}
use Rattle.place_words.specs.declared.visits.Try.{Try}
use Rattle.place_words.specs.declared.visits.Visit.{Visit}
use Rattle.place_words.specs.Globals.{flush_visit}
use Rattle.place_words.specs.Histories.{content, marks, bits_cleared, bits_read, also_cleared}
use Rattle.place_words.specs.Locks.{lock_named}
use Rattle.place_words.specs.SerialOrder.{probes_in}
use Rattle.place_table.specs.declared.view.View.{View}
use Rattle.place_table.specs.declared.view.Hold.{Hold}
use Rattle.place_table.specs.declared.view.Notes.{Notes}
use Rattle.place_table.specs.declared.view.OwnerSeen.{OwnerSeen}
use Rattle.place_table.specs.declared.view.BitAsked.{BitAsked}
use Rattle.place_table.specs.StoredHashes.{stored_in}
use Rattle.place_table.specs.Flushes.{flushes}
use Rattle.place_table.specs.Views.{hold_at, is_in_hand_of}

-- Bits

-- of some calls for bits the clears, with what they found
abbrev pub clears_among : List BitAsked → List Visit
clears_among [] = []
clears_among (x ∷ xs) = if x.cleared then record { element = x.element; bit = x.bit } ∷ clears_among xs else clears_among xs

-- those of a turn, in the order in which they were made
abbrev pub clears_noted : Notes → List Visit
clears_noted notes = clears_among (reverse notes.asked)

-- The clears of a turn: those that its part tells, in their order, and one of each of these elements besides, wherever it stands
-- among them.
abbrev pub AreCleared : List ℕ → List Visit → List Visit → Type 0
AreCleared [] told clears = clears ≡ told
AreCleared (e ∷ es) told clears =
    (before : List Visit) × (bit : Bool) × (behind : List Visit) × (clears ≡ before ++ (record { element = e; bit = bit }) ∷ behind) × AreCleared es told (before ++ behind)

-- the bit of an element was read so in the turn, and left as it was
abbrev pub WasRead : List BitAsked → Visit → Type 0
WasRead [] visit = ⊥
WasRead (x ∷ xs) visit = (x ≡ record { element = visit.element; bit = visit.bit; cleared = false }) ⊎ WasRead xs visit

-- Owners

-- the owner of an element was read as the hand of a CPU while the lock was the last one taken, or under a bucket's lock inside
abbrev pub WasReadInHand : ℕ → ℕ → List OwnerSeen → Type 0
WasReadInHand e cpu [] = ⊥
WasReadInHand e cpu (x ∷ xs) = ((x.element ≡ e) × (x.owner ≡ Hand cpu)) ⊎ WasReadInHand e cpu xs

-- a probe that found its element in a hand has read that in this turn
abbrev pub SeenFits : ℕ → Seen → List OwnerSeen → Type 0
SeenFits e Removed owners = Unit {0}
SeenFits e (Held holder) owners = WasReadInHand e holder owners

abbrev pub ProbeFits : List OwnerSeen → Try → Type 0
ProbeFits owners probe = SeenFits probe.element probe.probed owners

-- Flushes

-- each row that an element had under a lock that is held, when that was taken, has this hash; it may have had none
abbrev pub HasOnlyHash : Shape → View → ℕ → ℕ → Type 0
HasOnlyHash shape v e hash =
    (k h : ℕ) (hold : Hold) → hold_at k v.held ≡ Some hold → stored_in (content shape (lock_named shape k) hold.log) e ≡ Some h → h ≡ hash

-- one of these flushes tells of this element, with this bit
abbrev pub TellsFlush : List Flush → Visit → Type 0
TellsFlush [] visit = ⊥
TellsFlush (x ∷ xs) visit = (flush_visit x ≡ visit) ⊎ TellsFlush xs visit

-- A refill tells of each element that it flushed what a turn of the global lists inside it told. That turn told the hash that the
-- element had in its row when the local lists were taken.
abbrev pub FlushedFitLocal : LocalPart → List Flush → Type 0
FlushedFitLocal (local.Refill hash flushed gained got) inside = All (TellsFlush inside) flushed
FlushedFitLocal part inside = Unit {0}

abbrev pub FlushedFitGlobal : Shape → View → GlobalPart → Type 0
FlushedFitGlobal shape v (global.Turn flushed active inactive free shrink) = All (λ (flush : Flush). HasOnlyHash shape v flush.element flush.hash) flushed
FlushedFitGlobal shape v (global.Push e) = Unit {0}

abbrev pub FlushedFit : Shape → View → Part → List Flush → Type 0
FlushedFit shape v (parts.Local part) inside = FlushedFitLocal part inside
FlushedFit shape v (parts.Global part) inside = FlushedFitGlobal shape v part
FlushedFit shape v part inside = Unit {0}

-- Elements that are given out

-- the element that a turn of local lists makes pending for a new key, and that which a turn of a CPU's own set gives out
abbrev pub given_by_local : LocalPart → List ℕ
given_by_local (local.Pop hash e) = e ∷ []
given_by_local (local.Refill hash flushed gained got) = option_to_list got
given_by_local (local.Add hash e cursor) = e ∷ []
given_by_local part = []

abbrev pub given_by_own : OwnPart → List ℕ
given_by_own (own.Turn hash active inactive shrink got) = option_to_list got
given_by_own (own.Push e) = []

abbrev pub given_out_by : Part → List ℕ
given_out_by (parts.Local part) = given_by_local part
given_out_by (parts.Own part) = given_by_own part
given_out_by part = []

-- it came to the CPU in this turn, and is in the CPU's hand
abbrev pub CameToHand : View → Hold → Notes → ℕ → Type 0
CameToHand v hold notes e = IsIn e notes.came × (is_in_hand_of e hold.cpu v.hand ≡ true)

-- What was done in the turn is what the part tells: the bits that were set are those that the part sets; those that were cleared
-- are those that it tells, in their order, and those of the elements that it gives out or pushes free; the bits that a theft tells
-- were read there; what a refill flushed is told by the turns of the global lists inside, with its hash, and whatever went from local
-- lists to the global ones was flushed by a refill; what a probe found in a hand was read there; and what the turn gives out came to
-- the CPU in it.
pub record NotesFit (shape : Shape) (v : View) (hold : Hold) (part : Part) (notes : Notes) : Type 0 where
  pub marks_are : notes.marks ≡ marks shape part
  pub clears_are : AreCleared (also_cleared part) (bits_cleared part) (clears_noted notes)
  pub reads : All (WasRead notes.asked) (bits_read part)
  pub flushed : FlushedFit shape v part notes.flushed
  pub off : All (λ e. flushes e part ≡ true) notes.off
  pub held : All (ProbeFits notes.owners) (probes_in part)
  pub came : All (CameToHand v hold notes) (given_out_by part)

-- the same of the innermost turn
abbrev pub InnermostFits : Shape → View → Hold → Part → List Notes → Type 0
InnermostFits shape v hold part [] = ⊥
InnermostFits shape v hold part (notes ∷ below) = NotesFit shape v hold part notes
