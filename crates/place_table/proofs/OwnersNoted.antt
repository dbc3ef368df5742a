-- What is noted of owners that were changed and read, as other notes are made; and what else is noted, as an owner is changed.
use Rattle.std.proofs.Common.{◌≡◌, ℕ, cond, Bool, List, [], ◌∷◌, sym, refl, ap, ◌∙◌, Some}
use Rattle.map_types.specs.declared.attr.Shape.{Shape}
use Rattle.map_types.specs.declared.kind.DomainId.TheVariants.{Local, Global, CpuLru, Bucket, Freelist}
use Rattle.map_types.proofs.RowLemmas.{by_test}
use Rattle.place_words.specs.declared.history.Part.{Part}
use Rattle.place_words.specs.declared.history.Part.TheVariants as parts
use Rattle.place_words.specs.declared.home.Home.{Home}
use Rattle.place_words.specs.declared.home.Home.TheVariants as homes
use Rattle.place_words.specs.declared.list_part.GlobalPart.TheVariants as global
use Rattle.place_words.specs.declared.owner.Owner.{Owner}
use Rattle.place_words.specs.declared.visits.Flush.{Flush}
use Rattle.place_words.specs.Codes.{home_code}
use Rattle.place_words.specs.Locks.{lock_number}
use Rattle.place_table.specs.declared.view.Hold.{Hold}
use Rattle.place_table.specs.declared.view.Notes.{Notes}
use Rattle.place_table.specs.declared.view.OwnerSeen.{OwnerSeen}
use Rattle.place_table.specs.declared.view.WordStep.{WordStep}
use Rattle.place_table.specs.Rules.{AreNoted, marks_under}
use Rattle.place_table.specs.Views.{hold_at, came_at, no_notes, notes_below, owners_last, with_changed, with_mark, with_clear, with_bit_read, with_owner_read, with_owners_read, with_home_read, with_flushed, with_came, with_come_home, with_off, has_left, with_carried_off, left_local, with_left_home, passed_on}
use Rattle.place_table.proofs.OwnersKept.{only_changes}
use Rattle.place_table.proofs.Worlds.{by_bool, none_some}

-- Other notes

-- the same is noted of owners
abbrev pub KeepsOwners : List Notes → List Notes → Type 0
KeepsOwners notes others = (only_changes others ≡ only_changes notes) × (owners_last others ≡ owners_last notes)

pub kept_mark : (e : ℕ) (notes : List Notes) → KeepsOwners notes (with_mark e notes)
unfolding only_changes
kept_mark e [] = (refl, refl)
kept_mark e (n ∷ ns) = (refl, refl)

pub kept_clear : (e : ℕ) (bit : Bool) (notes : List Notes) → KeepsOwners notes (with_clear e bit notes)
unfolding only_changes
kept_clear e bit [] = (refl, refl)
kept_clear e bit (n ∷ ns) = (refl, refl)

pub kept_bit_read : (e : ℕ) (bit : Bool) (notes : List Notes) → KeepsOwners notes (with_bit_read e bit notes)
unfolding only_changes
kept_bit_read e bit [] = (refl, refl)
kept_bit_read e bit (n ∷ ns) = (refl, refl)

pub kept_home_read : (e : ℕ) (home : Home) (held : List Hold) (notes : List Notes) → KeepsOwners notes (with_home_read e home held notes)
unfolding only_changes
kept_home_read e home [] notes = (refl, refl)
kept_home_read e home (h ∷ hs) [] = (refl, refl)
kept_home_read e home (h ∷ hs) (n ∷ ns) = (refl, refl)

pub changes_owner_read : (e : ℕ) (owner : Owner) (notes : List Notes) → only_changes (with_owner_read e owner notes) ≡ only_changes notes
unfolding only_changes
changes_owner_read e owner [] = refl
changes_owner_read e owner (n ∷ ns) = refl

changes_owners_read : (xs : List OwnerSeen) (notes : List Notes) → only_changes (with_owners_read xs notes) ≡ only_changes notes
changes_owners_read [] notes = refl
changes_owners_read (x ∷ xs) notes = changes_owner_read x.element x.owner (with_owners_read xs notes) ∙ changes_owners_read xs notes

changes_flushed : (flushed : List Flush) (notes : List Notes) → only_changes (with_flushed flushed notes) ≡ only_changes notes
unfolding only_changes
changes_flushed flushed [] = refl
changes_flushed flushed (n ∷ ns) = refl

pub changes_passed : (part : Part) (notes : List Notes) → only_changes (passed_on part notes) ≡ only_changes (notes_below notes)
changes_passed (parts.Bucket part) notes = changes_owners_read (owners_last notes) (notes_below notes)
changes_passed (parts.Free part) notes = refl
changes_passed (parts.Local part) notes = refl
changes_passed (parts.Global (global.Turn flushed active inactive free shrink)) notes = changes_flushed flushed (notes_below notes)
changes_passed (parts.Global (global.Push e)) notes = refl
changes_passed (parts.Own part) notes = refl

pub kept_came : (k e : ℕ) (held : List Hold) (notes : List Notes) → KeepsOwners notes (with_came k e held notes)
unfolding only_changes
kept_came k e [] notes = (refl, refl)
kept_came k e (h ∷ hs) [] = (refl, refl)
kept_came k e (h ∷ hs) (n ∷ ns) =
    by_test h.lock k (λ b. KeepsOwners (n ∷ ns) (cond b (record n { came = e ∷ n.came } ∷ ns) (n ∷ with_came k e hs ns)))
    (λ _. (refl, refl)) (λ _. (ap (λ (l : List Notes). record no_notes { changed = n.changed } ∷ l) (kept_came k e hs ns).0, refl))

kept_off : (k e : ℕ) (held : List Hold) (notes : List Notes) → KeepsOwners notes (with_off k e held notes)
unfolding only_changes
kept_off k e [] notes = (refl, refl)
kept_off k e (h ∷ hs) [] = (refl, refl)
kept_off k e (h ∷ hs) (n ∷ ns) =
    by_test h.lock k (λ b. KeepsOwners (n ∷ ns) (cond b (record n { off = e ∷ n.off } ∷ ns) (n ∷ with_off k e hs ns)))
    (λ _. (refl, refl)) (λ _. (ap (λ (l : List Notes). record no_notes { changed = n.changed } ∷ l) (kept_off k e hs ns).0, refl))

kept_carried_off : (shape : Shape) (e : ℕ) (held : List Hold) (notes : List Notes) → KeepsOwners notes (with_carried_off shape e held notes)
unfolding only_changes
kept_carried_off shape e [] notes = (refl, refl)
kept_carried_off shape e (h ∷ hs) [] = (refl, refl)
kept_carried_off shape e (h ∷ hs) (n ∷ ns) =
    by_bool (has_left shape e h n.came) (λ b. KeepsOwners (n ∷ ns) ((cond b (record n { off = e ∷ n.off }) n) ∷ with_carried_off shape e hs ns))
    (λ _. (ap (λ (l : List Notes). record no_notes { changed = n.changed } ∷ l) (kept_carried_off shape e hs ns).0, refl)) (λ _. (ap (λ (l : List Notes). record no_notes { changed = n.changed } ∷ l) (kept_carried_off shape e hs ns).0, refl))

pub kept_come_home : (shape : Shape) (from to : Home) (e : ℕ) (held : List Hold) (notes : List Notes) → KeepsOwners notes (with_come_home shape from to e held notes)
kept_come_home shape from homes.Unlisted e held notes = (refl, refl)
kept_come_home shape from (homes.In lock) e held notes =
    by_test (home_code from) (home_code (homes.In lock)) (λ b. KeepsOwners notes (cond b notes (with_came (lock_number shape lock) e held notes)))
    (λ _. (refl, refl)) (λ _. kept_came (lock_number shape lock) e held notes)
kept_come_home shape from (homes.Hand c) e held notes = (refl, refl)

kept_left_local : (shape : Shape) (from : Home) (e : ℕ) (held : List Hold) (notes : List Notes) → KeepsOwners notes (left_local shape from e held notes)
kept_left_local shape homes.Unlisted e held notes = (refl, refl)
kept_left_local shape (homes.In (Local c)) e held notes = kept_off (lock_number shape (Local c)) e held notes
kept_left_local shape (homes.In Global) e held notes = (refl, refl)
kept_left_local shape (homes.In (CpuLru c)) e held notes = (refl, refl)
kept_left_local shape (homes.In (Bucket b)) e held notes = (refl, refl)
kept_left_local shape (homes.In (Freelist c)) e held notes = (refl, refl)
kept_left_local shape (homes.Hand c) e held notes = kept_carried_off shape e held notes

pub kept_left_home : (shape : Shape) (from to : Home) (e : ℕ) (held : List Hold) (notes : List Notes) → KeepsOwners notes (with_left_home shape from to e held notes)
kept_left_home shape from homes.Unlisted e held notes = (refl, refl)
kept_left_home shape from (homes.In (Local c)) e held notes = (refl, refl)
kept_left_home shape from (homes.In Global) e held notes = kept_left_local shape from e held notes
kept_left_home shape from (homes.In (CpuLru c)) e held notes = (refl, refl)
kept_left_home shape from (homes.In (Bucket b)) e held notes = (refl, refl)
kept_left_home shape from (homes.In (Freelist c)) e held notes = (refl, refl)
kept_left_home shape from (homes.Hand c) e held notes = (refl, refl)

-- An owner is changed

pub owners_last_changed : (e : ℕ) (to : Owner) (notes : List Notes) → owners_last (with_changed e to notes) ≡ owners_last notes
owners_last_changed e to [] = refl
owners_last_changed e to (n ∷ ns) = refl

only_changes_changed : (e : ℕ) (to : Owner) (notes : List Notes) → only_changes (with_changed e to notes) ≡ with_changed e to (only_changes notes)
unfolding only_changes
only_changes_changed e to [] = refl
only_changes_changed e to (n ∷ ns) = refl

-- behind other notes
pub kept_changed : (e : ℕ) (to : Owner) (notes others : List Notes) → KeepsOwners notes others → KeepsOwners (with_changed e to notes) (with_changed e to others)
kept_changed e to notes others kept = (
  only_changes_changed e to others ∙ (ap (with_changed e to) kept.0 ∙ sym (only_changes_changed e to notes)),
  owners_last_changed e to others ∙ (kept.1 ∙ sym (owners_last_changed e to notes)),
)

pub came_changed : (e : ℕ) (to : Owner) (k : ℕ) (held : List Hold) (notes : List Notes) → came_at k held (with_changed e to notes) ≡ came_at k held notes
came_changed e to k held [] = refl
came_changed e to k [] (n ∷ ns) = refl
came_changed e to k (h ∷ hs) (n ∷ ns) = refl

pub marks_changed : (e : ℕ) (to : Owner) (held : List Hold) (notes : List Notes) → marks_under held (with_changed e to notes) ≡ marks_under held notes
marks_changed e to held [] = refl
marks_changed e to [] (n ∷ ns) = refl
marks_changed e to (h ∷ hs) (n ∷ ns) = refl

pub noted_changed : (shape : Shape) (steps : List WordStep) (e : ℕ) (to : Owner) (holds : List Hold) (notes : List Notes) → AreNoted shape steps holds notes → AreNoted shape steps holds (with_changed e to notes)
noted_changed shape steps e to [] notes are = tt
noted_changed shape steps e to (h ∷ hs) [] are = absurd are
noted_changed shape steps e to (h ∷ hs) (n ∷ ns) are =
    (are.0, are.1, are.2, are.3, are.4, are.5, record { marks = are.6.marks; asked = are.6.asked; owners = are.6.owners; homes = are.6.homes }, are.7)

-- where a lock is held, something is noted of the one taken last
pub noted_first : (shape : Shape) (steps : List WordStep) (k : ℕ) (hold : Hold) (held : List Hold) (notes : List Notes) → hold_at k held ≡ Some hold → AreNoted shape steps held notes
    → (h : Hold) × (hs : List Hold) × (held ≡ h ∷ hs) × (n : Notes) × (ns : List Notes) × (notes ≡ n ∷ ns)
noted_first shape steps k hold [] notes found are = absurd (none_some found)
noted_first shape steps k hold (h ∷ hs) [] found are = absurd are
noted_first shape steps k hold (h ∷ hs) (n ∷ ns) found are = (h, hs, refl, n, ns, refl)
