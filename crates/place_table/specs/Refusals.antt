-- What a pass tells of its steps on words is so. The rule allows no step that is told otherwise than it is done.
use Rattle.std.specs.Prelude.{◌≡◌, ◌≢◌, ℕ, ◌+◌, ◌<◌, IsTrue, List, [], ◌∷◌, ◌++◌, length, slice_index_or, slice_set}
use mathlib.Core.Option.{some}
use lib.ListN.{get_elem?}
use Rattle.atomic_table.specs.Table as table
use Rattle.atomic_table.specs.Table.{Act, Allows, stepped}
use Rattle.map_types.specs.declared.attr.Shape.{Shape}
use Rattle.map_types.specs.declared.kind.DomainId.TheVariants.{Local}
use Rattle.place_words.specs.declared.history.Entry.{Entry}
use Rattle.place_words.specs.declared.history.StrandStep.{StrandStep}
use Rattle.place_words.specs.declared.home.Home.TheVariants as homes
use Rattle.place_words.specs.declared.owner.Owner.TheVariants as owners
use Rattle.place_words.specs.Locks.{is_lock, lock_number}
use Rattle.place_table.specs.declared.content.Behind.{Behind}
use Rattle.place_table.specs.declared.view.View.{View}
use Rattle.place_table.specs.declared.view.Ticket.TheVariants.{Drawn}
use Rattle.place_table.specs.declared.view.WordStep.{WordStep}
use Rattle.place_table.specs.Views.{owner_read, home_read}
use Rattle.place_table.specs.Words.{word_count, owner_word, bit_word, ticket_word}
use Rattle.place_table.specs.Rules.{Rule, IsSeen, logs_of, AreReadingsCounted}
use Rattle.place_table.specs.Plays.{Seated, GivesBack, DrawsTicket, Marks, Clears, SeesBit}

-- A step is told as it was done: what it tells that it saw in its word was there, what it tells that it left is there after it, and
-- its number is how many steps had been made.
pub record IsToldTrue (before after : List ℕ) (made : ℕ) (x : WordStep) : Type 0 where
  pub saw : IsSeen x.seen (slice_index_or before x.word 0)
  pub left : slice_index_or after x.word 0 ≡ x.left
  pub numbered : x.at ≡ made

-- Whatever the table and the pass are: where the rule holds before and after, and the pass's strand has one step more, that step is
-- told as it was done.
abbrev pub TellsTrue : Type 0
TellsTrue =
    (shape : Shape) (s : table.State Behind View) (pass i n : ℕ) (v u : View) (slots : List (ℕ × Behind)) (act : Act Behind) (x : WordStep) (r : Rule shape s)
    → get_elem? s.views pass ≡ some v → Rule shape (stepped s i n pass slots u act) → x.word < word_count shape → u.touched ≡ v.touched ++ x ∷ [] → u.ended ≡ v.ended
    → IsToldTrue s.words (slice_set s.words i n) (length r.world.touches) x

-- this holds in each state of the table in which the rule holds and the pass has this seat
abbrev pub InEachState : Shape → ℕ → ℕ → Seated → (table.State Behind View → Type 0) → Type 0
InEachState shape slots pass me P =
    (s : table.State Behind View) → Rule shape s → length s.homes ≡ slots → get_elem? s.views pass ≡ some me.0 → P s

-- what a word is
abbrev pub word_of : table.State Behind View → ℕ → ℕ
word_of s i = slice_index_or s.words i 0

-- A step on the word i, which becomes f of what it was, isn't allowed to tell this.
abbrev pub Refuses : Shape → ℕ → ℕ → Seated → ℕ → (ℕ → ℕ) → (ℕ → Seated → Type 0) → Type 0
Refuses shape slots pass me i f told = ¬ Allows (Rule shape) slots pass me i f told

-- a mark that stores nothing isn't allowed where the bit isn't set
abbrev pub MarkStores : Type 0
MarkStores =
    (shape : Shape) (slots pass e : ℕ) (me : Seated)
    → InEachState shape slots pass me (λ s. e < shape.elements → word_of s (bit_word shape e) ≡ 0
    → Refuses shape slots pass me (bit_word shape e) (λ n. n) (λ _. Marks e me))

-- a clear that only loads isn't allowed where it is set
abbrev pub ClearStores : Type 0
ClearStores =
    (shape : Shape) (slots pass e : ℕ) (me : Seated)
    → InEachState shape slots pass me (λ s. e < shape.elements → word_of s (bit_word shape e) ≡ 1
    → Refuses shape slots pass me (bit_word shape e) (λ n. n) (Clears e me))

-- the bit of another element, told as this one's, isn't allowed where the two differ
abbrev pub LooksAtItsBit : Type 0
LooksAtItsBit =
    (shape : Shape) (slots pass e d : ℕ) (me : Seated)
    → InEachState shape slots pass me (λ s. e < shape.elements → d < shape.elements → word_of s (bit_word shape d) ≡ 1 → word_of s (bit_word shape e) ≡ 0
    → Refuses shape slots pass me (bit_word shape d) (λ n. n) (SeesBit e me))

-- an owner was told as free
abbrev pub TellsFree : ℕ → Seated → ℕ → Seated → Type 0
TellsFree e me found after = (at : ℕ) × (after ≡ (owner_read at e owners.Free me.0, me.1))

-- an owner that is told as free, by a step on another word, isn't allowed where the element isn't free
abbrev pub LooksAtItsOwner : Type 0
LooksAtItsOwner =
    (shape : Shape) (slots pass e i : ℕ) (f : ℕ → ℕ) (me : Seated)
    → InEachState shape slots pass me (λ s. e < shape.elements → owner_word shape e ≢ i → word_of s i < 18446744073709551616 → 0 < word_of s (owner_word shape e)
    → Refuses shape slots pass me i f (TellsFree e me))

-- A home that is told to be local lists is told with the number of turns that their lock had then: whatever the table, the pass and the
-- element are, where the rule holds before and after.
abbrev pub TellsTurns : Type 0
TellsTurns =
    (shape : Shape) (s : table.State Behind View) (pass i n : ℕ) (v : View) (slots : List (ℕ × Behind)) (act : Act Behind) (at turns e cpu : ℕ) (r : Rule shape s)
    → get_elem? s.views pass ≡ some v → Rule shape (stepped s i n pass slots (home_read at turns e (homes.In (Local cpu)) v) act)
    → IsTrue (is_lock shape (Local cpu))
    → turns ≡ length (logs_of r.world (lock_number shape (Local cpu)))

-- And so it stays told: in every state, of each look at a home that a pass keeps, the number of turns is how often the lock of the local
-- lists that it read had been given back by the steps on words before the number that the look has.
abbrev pub KeepsTurns : Type 0
KeepsTurns =
    (shape : Shape) (s : table.State Behind View) (pass : ℕ) (v : View) (r : Rule shape s)
    → get_elem? s.views pass ≡ some v → AreReadingsCounted shape r.world.touches v.homes_read

-- a draw that adds another number than 1 isn't allowed
abbrev pub DrawsOne : Type 0
DrawsOne =
    (shape : Shape) (slots pass : ℕ) (f : ℕ → ℕ) (me : Seated)
    → InEachState shape slots pass me (λ s. word_of s (ticket_word shape) < 18446744073709551616 → f (word_of s (ticket_word shape)) ≢ 1 + word_of s (ticket_word shape)
    → Refuses shape slots pass me (ticket_word shape) f (DrawsTicket me))

-- nor is one from another word
abbrev pub DrawsFromItsWord : Type 0
DrawsFromItsWord =
    (shape : Shape) (slots pass i : ℕ) (f : ℕ → ℕ) (me : Seated)
    → InEachState shape slots pass me (λ s. ticket_word shape ≢ i → word_of s i < 18446744073709551616
    → Refuses shape slots pass me i f (DrawsTicket me))

-- A lock may not be given back with a turn that is recorded where the turn's entry has another ticket than the one drawn: none was
-- drawn yet, none was to be had, or another number is recorded in its place.
abbrev pub GivesWhatWasDrawn : Type 0
GivesWhatWasDrawn =
    (shape : Shape) (slots pass i : ℕ) (f : ℕ → ℕ) (me : Seated) (entry : Entry) (kept : List StrandStep)
    → InEachState shape slots pass me (λ s. word_of s i < 18446744073709551616 → kept ≢ me.0.kept → me.0.ticket ≢ Drawn entry.ticket
    → Refuses shape slots pass me i f (λ _. GivesBack entry kept me))
