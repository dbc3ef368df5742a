-- What came in the turns of locks that are held, as other notes are made, locks are taken and given back, and elements come.
use Rattle.std.proofs.Common.{◌≡◌, ◌≢◌, ℕ, suc, ◌<◌, arith, eqb, cond, Bool, true, false, List, [], ◌∷◌, sym, refl, ap, ◌∙◌, Some}
use Rattle.place_words.specs.declared.history.Part.{Part}
use Rattle.place_words.specs.declared.history.Part.TheVariants as parts
use Rattle.place_words.specs.declared.list_part.GlobalPart.TheVariants as global
use Rattle.place_words.specs.declared.visits.Flush.{Flush}
use Rattle.place_words.specs.declared.home.Home.{Home}
use Rattle.place_words.specs.declared.home.Home.TheVariants as homes
use Rattle.place_words.specs.Codes.{home_code}
use Rattle.place_words.specs.Locks.{lock_number}
use Rattle.place_words.specs.declared.owner.Owner.{Owner}
use Rattle.place_words.specs.declared.step.Lists.{Lists}
use Rattle.map_types.specs.declared.attr.Shape.{Shape}
use Rattle.map_types.specs.declared.kind.DomainId.{DomainId}
use Rattle.map_types.specs.declared.kind.DomainId.TheVariants.{Local, Global, CpuLru, Bucket, Freelist}
use Rattle.map_types.specs.ElementLists.{times, IsIn}
use Rattle.map_types.proofs.RowLemmas.{by_test}
use Rattle.place_table.specs.declared.view.Hold.{Hold}
use Rattle.place_table.specs.declared.view.Notes.{Notes}
use Rattle.place_table.specs.declared.view.OwnerSeen.{OwnerSeen}
use Rattle.place_table.specs.declared.view.WordStep.{WordStep}
use Rattle.place_table.specs.Rules.{AreNoted}
use Rattle.place_table.specs.Views.{is_among, hold_at, came_at, came_last, with_mark, with_clear, with_bit_read, with_owner_read, with_home_read, with_flushed, with_came, with_come_home, with_off, has_left, with_carried_off, left_local, with_left_home, with_now, held_without, held_with, notes_below, owners_last, with_owners_read, passed_on}
use Rattle.place_table.proofs.Worlds.{by_bool, none_some}

-- Other notes

pub came_marked : (e k : ℕ) (held : List Hold) (notes : List Notes) → came_at k held (with_mark e notes) ≡ came_at k held notes
came_marked e k held [] = refl
came_marked e k [] (n ∷ ns) = refl
came_marked e k (h ∷ hs) (n ∷ ns) = refl

pub came_cleared : (e : ℕ) (bit : Bool) (k : ℕ) (held : List Hold) (notes : List Notes) → came_at k held (with_clear e bit notes) ≡ came_at k held notes
came_cleared e bit k held [] = refl
came_cleared e bit k [] (n ∷ ns) = refl
came_cleared e bit k (h ∷ hs) (n ∷ ns) = refl

pub came_bit_read : (e : ℕ) (bit : Bool) (k : ℕ) (held : List Hold) (notes : List Notes) → came_at k held (with_bit_read e bit notes) ≡ came_at k held notes
came_bit_read e bit k held [] = refl
came_bit_read e bit k [] (n ∷ ns) = refl
came_bit_read e bit k (h ∷ hs) (n ∷ ns) = refl

pub came_owner_read : (e : ℕ) (owner : Owner) (k : ℕ) (held : List Hold) (notes : List Notes) → came_at k held (with_owner_read e owner notes) ≡ came_at k held notes
came_owner_read e owner k held [] = refl
came_owner_read e owner k [] (n ∷ ns) = refl
came_owner_read e owner k (h ∷ hs) (n ∷ ns) = refl

pub came_home_read : (e : ℕ) (home : Home) (k : ℕ) (held : List Hold) (notes : List Notes) → came_at k held (with_home_read e home held notes) ≡ came_at k held notes
came_home_read e home k [] notes = refl
came_home_read e home k (h ∷ hs) [] = refl
came_home_read e home k (h ∷ hs) (n ∷ ns) = refl

pub came_flushed : (flushed : List Flush) (k : ℕ) (held : List Hold) (notes : List Notes) → came_at k held (with_flushed flushed notes) ≡ came_at k held notes
came_flushed flushed k held [] = refl
came_flushed flushed k [] (n ∷ ns) = refl
came_flushed flushed k (h ∷ hs) (n ∷ ns) = refl

-- Locks

pub came_first : (h : Hold) (below : List Hold) (notes : List Notes) → came_at h.lock (h ∷ below) notes ≡ came_last notes
came_first h below [] = refl
came_first h below (n ∷ ns) =
    by_test h.lock h.lock (λ b. cond b n.came (came_at h.lock below ns) ≡ n.came) (λ _. refl) (λ other. absurd (other refl))

pub came_other : (k : ℕ) (h : Hold) (below : List Hold) (notes : List Notes) → k ≢ h.lock → came_at k (h ∷ below) notes ≡ came_at k below (notes_below notes)
came_other k h [] [] other = refl
came_other k h (x ∷ xs) [] other = refl
came_other k h below (n ∷ ns) other =
    by_test h.lock k (λ b. cond b n.came (came_at k below ns) ≡ came_at k below ns) (λ same. absurd (other (sym same))) (λ _. refl)

came_owners_read : (xs : List OwnerSeen) (k : ℕ) (held : List Hold) (notes : List Notes) → came_at k held (with_owners_read xs notes) ≡ came_at k held notes
came_owners_read [] k held notes = refl
came_owners_read (x ∷ xs) k held notes = came_owner_read x.element x.owner k held (with_owners_read xs notes) ∙ came_owners_read xs k held notes

pub came_passed : (part : Part) (k : ℕ) (held : List Hold) (notes : List Notes) → came_at k held (passed_on part notes) ≡ came_at k held (notes_below notes)
came_passed (parts.Bucket part) k held notes = came_owners_read (owners_last notes) k held (notes_below notes)
came_passed (parts.Free part) k held notes = refl
came_passed (parts.Local part) k held notes = refl
came_passed (parts.Global (global.Turn flushed active inactive free shrink)) k held notes = came_flushed flushed k held (notes_below notes)
came_passed (parts.Global (global.Push e)) k held notes = refl
came_passed (parts.Own part) k held notes = refl

-- Elements

pub came_now : (k m : ℕ) (now : Lists) (held : List Hold) (notes : List Notes) → came_at m (with_now k now held) notes ≡ came_at m held notes
came_now k m now [] notes = refl
came_now k m now (h ∷ hs) [] =
    by_test h.lock k (λ b. came_at m (cond b (record { lock = h.lock; cpu = h.cpu; log = h.log; now = now; lost = h.lost } ∷ hs) (h ∷ with_now k now hs)) [] ≡ []) (λ _. refl) (λ _. refl)
came_now k m now (h ∷ hs) (n ∷ ns) =
    by_test h.lock k (λ b. came_at m (cond b (record { lock = h.lock; cpu = h.cpu; log = h.log; now = now; lost = h.lost } ∷ hs) (h ∷ with_now k now hs)) (n ∷ ns) ≡ came_at m (h ∷ hs) (n ∷ ns))
    (λ _. refl) (λ _. ap (cond (eqb h.lock m) n.came) (came_now k m now hs ns))

pub came_more : (k e m x : ℕ) (held : List Hold) (notes : List Notes) → is_among x (came_at m held notes) ≡ true → is_among x (came_at m held (with_came k e held notes)) ≡ true
came_more k e m x [] notes inside = inside
came_more k e m x (h ∷ hs) [] inside = inside
came_more k e m x (h ∷ hs) (n ∷ ns) inside =
    by_test h.lock k (λ b. is_among x (came_at m (h ∷ hs) (cond b (record n { came = e ∷ n.came } ∷ ns) (n ∷ with_came k e hs ns))) ≡ true)
    (λ _. by_test h.lock m (λ b. is_among x (cond b n.came (came_at m hs ns)) ≡ true → is_among x (cond b (e ∷ n.came) (came_at m hs ns)) ≡ true)
    (λ _ f. or_later (eqb e x) f) (λ _ f. f) inside)
    (λ _. by_test h.lock m (λ b. is_among x (cond b n.came (came_at m hs ns)) ≡ true → is_among x (cond b n.came (came_at m hs (with_came k e hs ns))) ≡ true)
    (λ _ f. f) (λ _ f. came_more k e m x hs ns f) inside)
  where
    or_later : (b : Bool) → is_among x n.came ≡ true → cond b true (is_among x n.came) ≡ true
    or_later true f = refl
    or_later false f = f

pub came_without : (shape : Shape) (home : Home) (owner : Owner) (e m : ℕ) (held : List Hold) (notes : List Notes) → came_at m (held_without shape home owner e held) notes ≡ came_at m held notes
came_without shape homes.Unlisted owner e m held notes = refl
came_without shape (homes.In lock) owner e m held notes = came_now (lock_number shape lock) m _ held notes
came_without shape (homes.Hand c) owner e m held notes = refl

pub came_with : (shape : Shape) (home : Home) (owner : Owner) (e m : ℕ) (held : List Hold) (notes : List Notes) → came_at m (held_with shape home owner e held) notes ≡ came_at m held notes
came_with shape homes.Unlisted owner e m held notes = refl
came_with shape (homes.In lock) owner e m held notes = came_now (lock_number shape lock) m _ held notes
came_with shape (homes.Hand c) owner e m held notes = refl

pub came_home : (shape : Shape) (from to : Home) (e m x : ℕ) (held : List Hold) (notes : List Notes) → is_among x (came_at m held notes) ≡ true → is_among x (came_at m held (with_come_home shape from to e held notes)) ≡ true
came_home shape from homes.Unlisted e m x held notes inside = inside
came_home shape from (homes.In lock) e m x held notes inside =
    by_test (home_code from) (home_code (homes.In lock)) (λ b. is_among x (came_at m held (cond b notes (with_came (lock_number shape lock) e held notes))) ≡ true)
    (λ _. inside) (λ _. came_more (lock_number shape lock) e m x held notes inside)
came_home shape from (homes.Hand c) e m x held notes inside = inside

-- what leaves local lists for the global ones doesn't come
came_off : (k e m : ℕ) (held : List Hold) (notes : List Notes) → came_at m held (with_off k e held notes) ≡ came_at m held notes
came_off k e m [] notes = refl
came_off k e m (h ∷ hs) [] = refl
came_off k e m (h ∷ hs) (n ∷ ns) =
    by_test h.lock k (λ b. came_at m (h ∷ hs) (cond b (record n { off = e ∷ n.off } ∷ ns) (n ∷ with_off k e hs ns)) ≡ came_at m (h ∷ hs) (n ∷ ns))
    (λ _. refl) (λ _. ap (cond (eqb h.lock m) n.came) (came_off k e m hs ns))

came_carried_off : (shape : Shape) (e m : ℕ) (held : List Hold) (notes : List Notes) → came_at m held (with_carried_off shape e held notes) ≡ came_at m held notes
came_carried_off shape e m [] notes = refl
came_carried_off shape e m (h ∷ hs) [] = refl
came_carried_off shape e m (h ∷ hs) (n ∷ ns) =
    by_bool (has_left shape e h n.came) (λ b. cond (eqb h.lock m) (cond b (record n { off = e ∷ n.off }) n).came (came_at m hs (with_carried_off shape e hs ns)) ≡ cond (eqb h.lock m) n.came (came_at m hs ns))
    (λ _. ap (cond (eqb h.lock m) n.came) (came_carried_off shape e m hs ns)) (λ _. ap (cond (eqb h.lock m) n.came) (came_carried_off shape e m hs ns))

came_left_local : (shape : Shape) (from : Home) (e m : ℕ) (held : List Hold) (notes : List Notes) → came_at m held (left_local shape from e held notes) ≡ came_at m held notes
came_left_local shape homes.Unlisted e m held notes = refl
came_left_local shape (homes.In (Local c)) e m held notes = came_off (lock_number shape (Local c)) e m held notes
came_left_local shape (homes.In Global) e m held notes = refl
came_left_local shape (homes.In (CpuLru c)) e m held notes = refl
came_left_local shape (homes.In (Bucket b)) e m held notes = refl
came_left_local shape (homes.In (Freelist c)) e m held notes = refl
came_left_local shape (homes.Hand c) e m held notes = came_carried_off shape e m held notes

pub came_left_home : (shape : Shape) (from to : Home) (e m : ℕ) (held : List Hold) (notes : List Notes) → came_at m held (with_left_home shape from to e held notes) ≡ came_at m held notes
came_left_home shape from homes.Unlisted e m held notes = refl
came_left_home shape from (homes.In (Local c)) e m held notes = refl
came_left_home shape from (homes.In Global) e m held notes = came_left_local shape from e m held notes
came_left_home shape from (homes.In (CpuLru c)) e m held notes = refl
came_left_home shape from (homes.In (Bucket b)) e m held notes = refl
came_left_home shape from (homes.In (Freelist c)) e m held notes = refl
came_left_home shape from (homes.Hand c) e m held notes = refl

-- it is noted where it comes from another home
pub come_from_other : (shape : Shape) (from : Home) (lock : DomainId) (e : ℕ) (held : List Hold) (notes : List Notes) → home_code from ≢ home_code (homes.In lock) → with_come_home shape from (homes.In lock) e held notes ≡ with_came (lock_number shape lock) e held notes
come_from_other shape from lock e held notes other =
    by_test (home_code from) (home_code (homes.In lock)) (λ b. cond b notes (with_came (lock_number shape lock) e held notes) ≡ with_came (lock_number shape lock) e held notes)
    (λ same. absurd (other same)) (λ _. refl)

pub came_here : (shape : Shape) (steps : List WordStep) (k e : ℕ) (x : Hold) (held : List Hold) (notes : List Notes) → AreNoted shape steps held notes → hold_at k held ≡ Some x → is_among e (came_at k held (with_came k e held notes)) ≡ true
came_here shape steps k e x [] notes noted found = absurd (none_some found)
came_here shape steps k e x (h ∷ hs) [] noted found = absurd noted
came_here shape steps k e x (h ∷ hs) (n ∷ ns) noted found =
    by_test h.lock k (λ b. cond b (Some h) (hold_at k hs) ≡ Some x → is_among e (came_at k (h ∷ hs) (cond b (record n { came = e ∷ n.came } ∷ ns) (n ∷ with_came k e hs ns))) ≡ true)
    (λ same _. by_test h.lock k (λ b. is_among e (cond b (e ∷ n.came) (came_at k hs ns)) ≡ true)
    (λ _. by_test e e (λ b. cond b true (is_among e n.came) ≡ true) (λ _. refl) (λ other. absurd (other refl))) (λ other. absurd (other same)))
    (λ other f. by_test h.lock k (λ b. is_among e (cond b n.came (came_at k hs (with_came k e hs ns))) ≡ true)
    (λ same. absurd (other same)) (λ _. came_here shape noted.0 k e x hs ns noted.7 f)) found

pub came_among : (e : ℕ) (xs : List ℕ) → IsIn e xs → is_among e xs ≡ true
came_among e [] inside = absurd (let none : 0 < 0 = inside in omega arith)
came_among e (x ∷ xs) inside =
    by_test x e (λ b. 0 < cond b (suc (times e xs)) (times e xs) → cond b true (is_among e xs) ≡ true) (λ _ _. refl) (λ _ later. came_among e xs later) inside
