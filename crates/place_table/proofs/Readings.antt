-- Homes that were read, as locks are taken and given back and as elements go home elsewhere.
use Rattle.std.proofs.Common.{◌≡◌, ◌≢◌, ℕ, zero, suc, ◌<◌, ◌≤◌, length, ◌⊎◌, inl, inr, ⊎_elim, eqb, cond, Bool, true, false, List, [], ◌∷◌, ◌++◌, sym, refl, ap, ◌∙◌, subst, arith, Option, Some, None}
use Rattle.std.specs.Prelude.{◌&&◌, not, IsTrue, nat_lt}
use Rattle.std.proofs.lemmas.Bool.{and_parts, eqb-true}
use Rattle.map_types.specs.declared.attr.Shape.{Shape}
use Rattle.map_types.specs.declared.kind.DomainId.{DomainId}
use Rattle.map_types.specs.declared.kind.DomainId.TheVariants.{Local, Global, CpuLru, Bucket, Freelist}
use Rattle.map_types.specs.Kind.{is_lru}
use Rattle.place_words.specs.declared.history.Entry.{Entry}
use Rattle.place_words.specs.declared.home.Home.{Home}
use Rattle.place_words.specs.declared.home.Home.TheVariants as homes
use Rattle.place_words.specs.declared.owner.Owner.{Owner}
use Rattle.place_words.specs.declared.owner.Owner.TheVariants as owners
use Rattle.map_types.specs.ElementLists.{put, times, one, IsIn}
use Rattle.map_types.proofs.RowLemmas.{by_test}
use Rattle.place_words.specs.Histories.{content, content_after, opening_content, replayed}
use Rattle.place_words.specs.Histories as histories
use Rattle.place_words.specs.Locks.{is_lock, lock_named, lock_number, rank_of}
use Rattle.place_words.specs.Openings.{is_free}
use Rattle.place_words.specs.Takings.{set_of}
use Rattle.place_words.proofs.HistoryLemmas.{content_more}
use Rattle.place_words.proofs.LockLemmas.{named_by_number, number_of_named}
use Rattle.place_words.specs.declared.step.Lists.{Lists}
use Rattle.place_words.specs.State as cores
use Rattle.place_words.specs.State.{rows, is_bucket}
use Rattle.place_words.specs.Places.{Placed, PlacedAt, ElementPlace, under_lock, carried, lies_at, has_row, home_of_place, MayLieUnder, MayLie}
use Rattle.place_words.specs.Steps.{Holds, MayLeave, MayEnter, IsFreeOrInHand, CanRehome}
use Rattle.place_words.specs.Wholeness.{all_of}
use Rattle.place_words.proofs.ElementLemmas.{at_put, put_here, put_else}
use Rattle.place_words.proofs.RowLemmas.{lies_here}
use Rattle.place_table.proofs.FlushedLast.{flushed_behind}
use Rattle.place_table.specs.declared.content.Content.{Content}
use Rattle.place_table.specs.declared.view.InHand.{InHand}
use Rattle.place_table.specs.declared.view.HomeIn.{HomeIn}
use Rattle.place_table.specs.Contents.{content_told, lists_of, FitsLock}
use Rattle.place_table.specs.StoredHashes.{stored_in}
use Rattle.place_table.specs.Flushes.{flushes, flushed_then, flushed_from, flushed_since}
use Rattle.place_table.specs.Views.{is_in_hand_of, home_known, kept_readings, without_readings, with_reading, home_then, readings_then}
use Rattle.place_table.specs.Rules.{Tagged, entries, HashesRight, IsFresh, WasFlushed, StillHome, is_home_of, HasRow, IsBrought}
use Rattle.place_table.proofs.StoredHashes.{stored_listed, in_all, lies_on}
use Rattle.place_table.proofs.Worlds.{true_false, by_bool, some_is, none_some, both_true}
use Rattle.place_table.specs.declared.view.Hold.{Hold}

-- Lists of readings

pub or_there : (a b : Bool) → b ≡ true → cond a true b ≡ true
or_there true b is = refl
or_there false b is = is

pub kept_home : (e c : ℕ) (read : HomeIn) (hand : List InHand) (readings : List HomeIn) → home_known e c (kept_readings hand readings) ≡ Some read → (home_known e c readings ≡ Some read) × (is_in_hand_of e c hand ≡ true)
kept_home e c read hand [] is = absurd (none_some is)
kept_home e c read hand (x ∷ xs) is =
    by_bool (is_in_hand_of x.element x.cpu hand) (λ t. home_known e c (cond t (x ∷ kept_readings hand xs) (kept_readings hand xs)) ≡ Some read → (home_known e c (x ∷ xs) ≡ Some read) × (is_in_hand_of e c hand ≡ true))
    (λ there f. by_bool (eqb x.element e && eqb x.cpu c) (λ t. cond t (Some x) (home_known e c (kept_readings hand xs)) ≡ Some read → (cond t (Some x) (home_known e c xs) ≡ Some read) × (is_in_hand_of e c hand ≡ true))
    (λ same g. (g, same_hand true same there)) (λ _ g. kept_home e c read hand xs g) f)
    (λ gone f. by_bool (eqb x.element e && eqb x.cpu c) (λ t. (cond t (Some x) (home_known e c xs) ≡ Some read) × (is_in_hand_of e c hand ≡ true))
    (λ same. true_false (sym (kept_home e c read hand xs f).1 ∙ same_hand false same gone))
    (λ _. kept_home e c read hand xs f)) is
  where
    same_hand : (b : Bool) → (eqb x.element e && eqb x.cpu c) ≡ true → is_in_hand_of x.element x.cpu hand ≡ b → is_in_hand_of e c hand ≡ b
    same_hand b same there = let both = both_true _ _ same in ((λ i. is_in_hand_of (sym (eqb-true x.element e both.0) i) (sym (eqb-true x.cpu c both.1) i) hand)) ∙ there

pub append_home : (e c : ℕ) (read : HomeIn) (xs ys : List HomeIn) → home_known e c (xs ++ ys) ≡ Some read → (home_known e c xs ≡ Some read) ⊎ (home_known e c ys ≡ Some read)
append_home e c read [] ys found = inr found
append_home e c read (x ∷ xs) ys found =
    by_bool (eqb x.element e && eqb x.cpu c) (λ t. cond t (Some x) (home_known e c (xs ++ ys)) ≡ Some read → (cond t (Some x) (home_known e c xs) ≡ Some read) ⊎ (home_known e c ys ≡ Some read))
    (λ _ f. inl f) (λ _ f. append_home e c read xs ys f) found

pub without_home : (x c : ℕ) (read : HomeIn) (e : ℕ) (readings : List HomeIn) → home_known x c (without_readings e readings) ≡ Some read → (x ≢ e) × (home_known x c readings ≡ Some read)
without_home x c read e [] is = absurd (none_some is)
without_home x c read e (y ∷ ys) is =
    by_test y.element e (λ b. home_known x c (cond b (without_readings e ys) (y ∷ without_readings e ys)) ≡ Some read → (x ≢ e) × (home_known x c (y ∷ ys) ≡ Some read))
    (λ same f. let later = without_home x c read e ys f in (
      later.0,
      by_bool (eqb y.element x && eqb y.cpu c) (λ t. cond t (Some y) (home_known x c ys) ≡ Some read) (λ hit. absurd (later.0 (sym (eqb-true y.element x (both_true _ _ hit).0) ∙ same))) (λ _. later.1),
    ))
    (λ other f. by_bool (eqb y.element x && eqb y.cpu c) (λ t. cond t (Some y) (home_known x c (without_readings e ys)) ≡ Some read → (x ≢ e) × (cond t (Some y) (home_known x c ys) ≡ Some read))
    (λ hit g. ((λ is_e. other (eqb-true y.element x (both_true _ _ hit).0 ∙ is_e)), g))
    (λ _ g. without_home x c read e ys g) f) is

-- a reading that was made just now, or an older one
pub record IsNew (at turns x c e : ℕ) (home : Home) (read : HomeIn) (hand : List InHand) : Type 0 where
  pub same : x ≡ e
  pub in_hand : is_in_hand_of e c hand ≡ true
  pub home_is : home ≡ read.home
  pub at_is : at ≡ read.at
  pub turns_are : turns ≡ read.turns

pub read_home_known : (at turns x c e : ℕ) (home : Home) (read : HomeIn) (hand : List InHand) (readings : List HomeIn) → home_known x c (with_reading at turns e home hand readings) ≡ Some read → IsNew at turns x c e home read hand ⊎ (home_known x c readings ≡ Some read)
read_home_known at turns x c e home read [] readings found = inr found
read_home_known at turns x c e home read (y ∷ ys) readings found =
    by_test y.element e (λ b. home_known x c (cond b (record { element = e; cpu = y.cpu; home = home; at = at; turns = turns } ∷ with_reading at turns e home ys readings) (with_reading at turns e home ys readings)) ≡ Some read → (b ≡ eqb y.element e) → IsNew at turns x c e home read (y ∷ ys) ⊎ (home_known x c readings ≡ Some read))
    (λ _ f hand_is. by_bool (eqb e x && eqb y.cpu c) (λ t. cond t (Some (record { element = e; cpu = y.cpu; home = home; at = at; turns = turns })) (home_known x c (with_reading at turns e home ys readings)) ≡ Some read → IsNew at turns x c e home read (y ∷ ys) ⊎ (home_known x c readings ≡ Some read))
    (λ hit g. inl record {
      same = sym (eqb-true e x (both_true _ _ hit).0);
      in_hand = (λ i. cond (sym hand_is i && (both_true (eqb e x) (eqb y.cpu c) hit).1 i) true (is_in_hand_of e c ys));
      home_is = ap (λ (z : HomeIn). z.home) (some_is g);
      at_is = ap (λ (z : HomeIn). z.at) (some_is g);
      turns_are = ap (λ (z : HomeIn). z.turns) (some_is g);
    })
    (λ _ g. later (read_home_known at turns x c e home read ys readings g)) f)
    (λ _ f _. later (read_home_known at turns x c e home read ys readings f)) found (refl_of (eqb y.element e))
  where
    refl_of : (b : Bool) → b ≡ b
    refl_of b = refl

    later : IsNew at turns x c e home read ys ⊎ (home_known x c readings ≡ Some read) → IsNew at turns x c e home read (y ∷ ys) ⊎ (home_known x c readings ≡ Some read)
    later before = ⊎_elim
        (λ (new : IsNew at turns x c e home read ys). inl record { same = new.same; in_hand = or_there (eqb y.element e && eqb y.cpu c) (is_in_hand_of e c ys) new.in_hand; home_is = new.home_is; at_is = new.at_is; turns_are = new.turns_are })
        (λ (old : home_known x c readings ≡ Some read). inr old)
        before

-- a home that was read of what is in a CPU's hand is known of it
pub reading_known : (at turns e c : ℕ) (home : Home) (hand : List InHand) (readings : List HomeIn) → is_in_hand_of e c hand ≡ true → home_known e c (with_reading at turns e home hand readings) ≡ Some (record { element = e; cpu = c; home = home; at = at; turns = turns })
reading_known at turns e c home [] readings in_hand = true_false (sym in_hand)
reading_known at turns e c home (x ∷ xs) readings in_hand =
    by_test x.element e (λ b. cond (b && eqb x.cpu c) true (is_in_hand_of e c xs) ≡ true → home_known e c (cond b (read_by x.cpu ∷ with_reading at turns e home xs readings) (with_reading at turns e home xs readings)) ≡ Some (read_by c))
    (λ _ here. by_test e e (λ z. home_at (z && eqb x.cpu c) ≡ Some (read_by c))
    (λ _. by_test x.cpu c (λ b. cond b true (is_in_hand_of e c xs) ≡ true → home_at b ≡ Some (read_by c)) (λ same _. ap (λ (d : ℕ). Some (read_by d)) same) (λ _ later. reading_known at turns e c home xs readings later) here)
    (λ other. absurd (other refl)))
    (λ _ later. reading_known at turns e c home xs readings later) in_hand
  where
    read_by : ℕ → HomeIn
    read_by d = record { element = e; cpu = d; home = home; at = at; turns = turns }

    home_at : Bool → Option HomeIn
    home_at b = cond b (Some (read_by x.cpu)) (home_known e c (with_reading at turns e home xs readings))

pub home_is_hand : (c : ℕ) (home : Home) → is_home_of c home ≡ true → home ≡ homes.Hand c
home_is_hand c homes.Unlisted is = absurd cc
home_is_hand c (homes.In lock) is = absurd cc
home_is_hand c (homes.Hand d) is = ap homes.Hand (eqb-true d c is)

-- What a reading still says

pub still_is : (shape : Shape) (holder : ℕ → Option ℕ) (log : ℕ → List Tagged) (n e : ℕ) (now read : Home) → now ≡ read → StillHome shape holder log n e now read
still_is shape holder log n e now homes.Unlisted is = is
still_is shape holder log n e now (homes.In (Local c)) is = inl is
still_is shape holder log n e now (homes.In Global) is = is
still_is shape holder log n e now (homes.In (CpuLru c)) is = is
still_is shape holder log n e now (homes.In (Bucket b)) is = is
still_is shape holder log n e now (homes.In (Freelist c)) is = is
still_is shape holder log n e now (homes.Hand c) is = is

-- a reading is told apart: it is the home, or it is of a local lock
pub record IsGone (shape : Shape) (holder : ℕ → Option ℕ) (log : ℕ → List Tagged) (n e : ℕ) (now read : Home) : Type 0 where
  pub cpu : ℕ
  pub read_is : read ≡ homes.In (Local cpu)
  pub now_is : now ≡ homes.In Global
  pub there : IsTrue (is_lock shape (Local cpu))
  pub was : WasFlushed shape holder log (lock_number shape (Local cpu)) n e

pub still_parts : (shape : Shape) (holder : ℕ → Option ℕ) (log : ℕ → List Tagged) (n e : ℕ) (now read : Home) → StillHome shape holder log n e now read → (now ≡ read) ⊎ IsGone shape holder log n e now read
still_parts shape holder log n e now homes.Unlisted is = inl is
still_parts shape holder log n e now (homes.In (Local c)) is = ⊎_elim (λ same. inl same) (λ t. inr record { cpu = c; read_is = refl; now_is = t.0; there = t.1; was = t.2 }) is
still_parts shape holder log n e now (homes.In Global) is = inl is
still_parts shape holder log n e now (homes.In (CpuLru c)) is = inl is
still_parts shape holder log n e now (homes.In (Bucket b)) is = inl is
still_parts shape holder log n e now (homes.In (Freelist c)) is = inl is
still_parts shape holder log n e now (homes.Hand c) is = inl is

still_gone : (shape : Shape) (holder : ℕ → Option ℕ) (log : ℕ → List Tagged) (n e : ℕ) (now read : Home) → IsGone shape holder log n e now read → StillHome shape holder log n e now read
still_gone shape holder log n e now read gone = subst (StillHome shape holder log n e now) (sym gone.read_is) (inr (gone.now_is, gone.there, gone.was))

was_same : (shape : Shape) (holder holder' : ℕ → Option ℕ) (log log' : ℕ → List Tagged) (m n e : ℕ) → holder' m ≡ holder m → log' m ≡ log m → WasFlushed shape holder log m n e → WasFlushed shape holder' log' m n e
was_same shape holder holder' log log' m n e holds logs was =
    ⊎_elim
    (λ (held : (cpu : ℕ) × (h : ℕ) × (holder m ≡ Some cpu) × (stored_in (content shape (lock_named shape m) (entries (log m))) e ≡ Some h)).
    inl (held.0, held.1, holds ∙ held.2, ap (λ (l : List Tagged). stored_in (content shape (lock_named shape m) (entries l)) e) logs ∙ held.3))
    (λ (last : flushed_since shape (lock_named shape m) n e (entries (log m)) ≡ true). inr (ap (λ (l : List Tagged). flushed_since shape (lock_named shape m) n e (entries l)) logs ∙ last))
    was

-- a lock is taken
pub still_took : (shape : Shape) (holder : ℕ → Option ℕ) (log : ℕ → List Tagged) (k c n e : ℕ) (now read : Home) → StillHome shape holder log n e now read → StillHome shape (put holder k (Some c)) log n e now read
still_took shape holder log k c n e now read still =
    ⊎_elim
    (λ (same : now ≡ read). still_is shape (put holder k (Some c)) log n e now read same)
    (λ (gone : IsGone shape holder log n e now read). still_gone shape (put holder k (Some c)) log n e now read record {
      cpu = gone.cpu;
      read_is = gone.read_is;
      now_is = gone.now_is;
      there = gone.there;
      was = ⊎_elim
          (λ (held : (cpu : ℕ) × (h : ℕ) × (holder (lock_number shape (Local gone.cpu)) ≡ Some cpu) × (stored_in (content shape (lock_named shape (lock_number shape (Local gone.cpu))) (entries (log (lock_number shape (Local gone.cpu))))) e ≡ Some h)).
          inl (at_put holder k (Some c) (λ j ho. (holder j ≡ Some held.0) → (stored_in (content shape (lock_named shape j) (entries (log j))) e ≡ Some held.1) → (cpu : ℕ) × (h : ℕ) × (ho ≡ Some cpu) × (stored_in (content shape (lock_named shape j) (entries (log j))) e ≡ Some h)) (lock_number shape (Local gone.cpu))
          (λ _ st. (c, held.1, refl, st)) (λ _ at st. (held.0, held.1, at, st)) held.2 held.3))
          (λ (last : flushed_since shape (lock_named shape (lock_number shape (Local gone.cpu))) n e (entries (log (lock_number shape (Local gone.cpu)))) ≡ true). inr last)
          gone.was;
    })
    (still_parts shape holder log n e now read still)

-- the flushes of a history with one turn more
from_more : (shape : Shape) (e : ℕ) (was : Bool) (before : histories.Content) (es : List Entry) (entry : Entry)
    → flushed_from shape e was before (es ++ entry ∷ []) ≡ flushed_then (flushed_from shape e was before es) (flushes e entry.part) (stored_in (replayed shape before es) e) (stored_in (content_after shape entry.cpu entry.part (replayed shape before es)) e)
unfolding flushed_from replayed
from_more shape e was before [] entry = refl
from_more shape e was before (x ∷ xs) entry =
    from_more shape e (flushed_then was (flushes e x.part) (stored_in before e) (stored_in (content_after shape x.cpu x.part before) e)) (content_after shape x.cpu x.part before) xs entry

behind_more : (shape : Shape) (n e : ℕ) (before : histories.Content) (es : List Entry) (entry : Entry) → n ≤ length es
    → flushed_behind shape n e before (es ++ entry ∷ []) ≡ flushed_then (flushed_behind shape n e before es) (flushes e entry.part) (stored_in (replayed shape before es) e) (stored_in (content_after shape entry.cpu entry.part (replayed shape before es)) e)
unfolding flushed_from replayed
behind_more shape zero e before es entry few = from_more shape e false before es entry
behind_more shape (suc n) e before [] entry few = absurd (omega (arith, few))
behind_more shape (suc n) e before (x ∷ xs) entry few = behind_more shape n e (content_after shape x.cpu x.part before) xs entry (omega (arith, few))

since_more : (shape : Shape) (lock : DomainId) (n e : ℕ) (es : List Entry) (entry : Entry) → n ≤ length es
    → flushed_since shape lock n e (es ++ entry ∷ []) ≡ flushed_then (flushed_since shape lock n e es) (flushes e entry.part) (stored_in (content shape lock es) e) (stored_in (content_after shape entry.cpu entry.part (content shape lock es)) e)
since_more shape lock n e es entry few = behind_more shape n e (opening_content shape lock) es entry few

local_apart : (c : ℕ) → homes.In (Local c) ≡ homes.In Global → ⊥
local_apart c is = cc

hand_apart : (c : ℕ) → homes.Hand c ≡ homes.In Global → ⊥
hand_apart c is = cc

-- where an element has a home that is the global lists the map evicts
evicts_there : (shape : Shape) (place : ElementPlace) (lru : Bool) → is_lru shape.kind ≡ lru → home_of_place shape place ≡ homes.In Global → lru ≡ true
evicts_there shape (under_lock k) true same is = refl
evicts_there shape (carried c) true same is = refl
evicts_there shape (under_lock k) false same is = absurd (apart (sym (ap (λ (b : Bool). cond b (homes.In (lock_named shape k)) homes.Unlisted) same) ∙ is))
  where
    apart : homes.Unlisted ≡ homes.In Global → ⊥
    apart is = cc
evicts_there shape (carried c) false same is = absurd (apart (sym (ap (λ (b : Bool). cond b (homes.Hand c) homes.Unlisted) same) ∙ is))
  where
    apart : homes.Unlisted ≡ homes.In Global → ⊥
    apart is = cc

-- A lock that this CPU holds is given back by a turn that tells of all that was flushed.
module _ (shape : Shape) (holder : ℕ → Option ℕ) (lists : ℕ → Lists) (owner : ℕ → Owner) (home : ℕ → Home) (place : ℕ → ElementPlace) (p : PlacedAt shape lists owner home place) (log : ℕ → List Tagged)
    (k cpu : ℕ) (here : Content) (fits : FitsLock shape (lock_named shape k) here) (l' : List Tagged) (entry : Entry) (more : entries l' ≡ entries (log k) ++ entry ∷ []) (new_is : content shape (lock_named shape k) (entries l') ≡ content_told (lock_named shape k) here)
    (same_rows : (e : ℕ) → times e (rows (lists_of (content_told (lock_named shape k) here))) ≡ times e (rows (lists k)))
    (gone : IsTrue (is_lru shape.kind) → (c e h : ℕ) → lock_named shape k ≡ Local c → stored_in (content shape (lock_named shape k) (entries (log k))) e ≡ Some h → times e (all_of (lists k)) ≡ 0 → (home e ≡ homes.Hand cpu) ⊎ (flushes e entry.part ≡ true)) where
  away : (e c : ℕ) → e < shape.elements → lock_named shape k ≡ Local c → home e ≡ homes.In Global → IsIn e (all_of (lists k)) → ⊥
  away e c real named at inside =
      let lru = evicts_there shape (place e) (is_lru shape.kind) refl (sym (p.homes e real) ∙ at) in
      let lies_there = lies_on shape lists owner home place p k e (ap is_bucket named) inside in
      local_apart c (sym (p.homes e real ∙ (ap (home_of_place shape) lies_there ∙ (ap (λ (b : Bool). cond b (homes.In (lock_named shape k)) homes.Unlisted) lru ∙ ap homes.In named))) ∙ at)

  flushed_now : (n e c : ℕ) → n ≤ length (entries (log k)) → e < shape.elements → lock_named shape k ≡ Local c → home e ≡ homes.In Global → WasFlushed shape holder log k n e → flushed_since shape (lock_named shape k) n e (entries l') ≡ true
  flushed_now n e c few real named at was =
      let es : List Entry = entries (log k) in
      let after_is : stored_in (content_after shape entry.cpu entry.part (content shape (lock_named shape k) es)) e ≡ stored_in (content_told (lock_named shape k) here) e =
      ap (λ z. stored_in z e) (sym (content_more shape (lock_named shape k) es entry) ∙ (ap (content shape (lock_named shape k)) (sym more) ∙ new_is)) in
      ap (flushed_since shape (lock_named shape k) n e) more ∙ (since_more shape (lock_named shape k) n e es entry few
      ∙ (ap (flushed_then (flushed_since shape (lock_named shape k) n e es) (flushes e entry.part) (stored_in (content shape (lock_named shape k) es) e)) (after_is ∙ none_after (stored_in (content_told (lock_named shape k) here) e) refl)
      ∙ go (stored_in (content shape (lock_named shape k) es) e) refl))
    where
      none_after : (found : Option ℕ) → stored_in (content_told (lock_named shape k) here) e ≡ found → found ≡ None
      none_after None is = refl
      none_after (Some n) is =
          let inside = stored_listed (content_told (lock_named shape k) here) e n is in
          absurd (away e c real named at (in_all e (lists k) (let same = same_rows e in omega (arith, same))))

      not_there : times e (all_of (lists k)) ≡ 0
      not_there = by_test (times e (all_of (lists k))) 0 (λ _. times e (all_of (lists k)) ≡ 0) (λ none. none) (λ some_there. absurd (away e c real named at (omega arith)))

      go : (before : Option ℕ) → stored_in (content shape (lock_named shape k) (entries (log k))) e ≡ before → flushed_then (flushed_since shape (lock_named shape k) n e (entries (log k))) (flushes e entry.part) before None ≡ true
      go (Some h) is =
          let lru = evicts_there shape (place e) (is_lru shape.kind) refl (sym (p.homes e real) ∙ at) in
          ⊎_elim
          (λ (carried_off : home e ≡ homes.Hand cpu). absurd (hand_apart cpu (sym carried_off ∙ at)))
          (λ (by_it : flushes e entry.part ≡ true). by_it)
          (gone lru c e h named is not_there)
      go None is =
          ⊎_elim
          (λ (held : (cpu : ℕ) × (h : ℕ) × (holder k ≡ Some cpu) × (stored_in (content shape (lock_named shape k) (entries (log k))) e ≡ Some h)). absurd (none_some (sym is ∙ held.3)))
          (λ (last : flushed_since shape (lock_named shape k) n e (entries (log k)) ≡ true). last)
          was

  pub still_gave : (n e : ℕ) (read : Home) → ((c : ℕ) → read ≡ homes.In (Local c) → lock_number shape (Local c) ≡ k → n ≤ length (entries (log k))) → e < shape.elements → StillHome shape holder log n e (home e) read → StillHome shape (put holder k None) (put log k l') n e (home e) read
  still_gave n e read within real still =
      ⊎_elim
      (λ (same : home e ≡ read). still_is shape (put holder k None) (put log k l') n e (home e) read same)
      (λ (g : IsGone shape holder log n e (home e) read). still_gone shape (put holder k None) (put log k l') n e (home e) read record {
        cpu = g.cpu;
        read_is = g.read_is;
        now_is = g.now_is;
        there = g.there;
        was =
            let m : ℕ = lock_number shape (Local g.cpu) in
            by_test m k (λ _. WasFlushed shape (put holder k None) (put log k l') m n e)
            (λ same. subst (λ (z : ℕ). WasFlushed shape (put holder k None) (put log k l') z n e) (sym same)
            (inr (ap (λ (l : List Tagged). flushed_since shape (lock_named shape k) n e (entries l)) (put_here log k l')
            ∙ flushed_now n e g.cpu (within g.cpu g.read_is same) real (ap (lock_named shape) (sym same) ∙ named_by_number shape (Local g.cpu) g.there) g.now_is (subst (λ (z : ℕ). WasFlushed shape holder log z n e) same g.was))))
            (λ other. was_same shape holder (put holder k None) log (put log k l') m n e (put_else holder k None m other) (put_else log k l' m other) g.was);
      })
      (still_parts shape holder log n e (home e) read still)

none_lower : (lock : DomainId) → rank_of lock < 1 → ⊥
none_lower (Local c) low = omega arith
none_lower Global low = omega arith
none_lower (CpuLru c) low = omega arith
none_lower (Bucket b) low = omega arith
none_lower (Freelist c) low = omega arith

-- An element in the hand of one CPU goes home elsewhere by another: it is flushed.
module _ (shape : Shape) (core : cores.State) (placed : Placed shape core) (log : ℕ → List Tagged) (hash : ℕ → ℕ) (right : IsTrue (is_lru shape.kind) → HashesRight shape core.holder core.lists core.owner log hash) (lru : IsTrue (is_lru shape.kind))
    (by e : ℕ) (to : Home) (can : CanRehome shape core by e to) where
  -- the lock on whose lists it is
  lies_home : (lock : DomainId) → core.home e ≡ homes.In lock → placed.place e ≡ under_lock (lock_number shape lock)
  lies_home lock at = go (placed.place e) refl
    where
      is_home : home_of_place shape (placed.place e) ≡ homes.In lock
      is_home = sym (placed.placed.homes e can.real) ∙ at

      same_lock : (a b : DomainId) → homes.In a ≡ homes.In b → a ≡ b
      same_lock a b is = cc

      no_hand : (c : ℕ) → homes.Hand c ≡ homes.In lock → ⊥
      no_hand c is = cc

      go : (place : ElementPlace) → placed.place e ≡ place → placed.place e ≡ under_lock (lock_number shape lock)
      go (under_lock k) is =
          let named : lock_named shape k ≡ lock = same_lock (lock_named shape k) lock (sym (ap (home_of_place shape) is ∙ ap (λ (b : Bool). cond b (homes.In (lock_named shape k)) homes.Unlisted) lru) ∙ is_home) in
          is ∙ ap under_lock (sym (number_of_named shape k) ∙ ap (lock_number shape) named)
      go (carried c) is = absurd (no_hand c (sym (ap (home_of_place shape) is ∙ ap (λ (b : Bool). cond b (homes.Hand c) homes.Unlisted) lru) ∙ is_home))

  -- what a flush leaves of a reading of the local lock that it was flushed from
  flushed_from_it : (n c d : ℕ) → core.owner e ≡ owners.Hand c → c ≢ by → core.home e ≡ homes.In (Local d) → IsTrue (is_lock shape (Local d)) × WasFlushed shape core.holder log (lock_number shape (Local d)) n e
  flushed_from_it n c d in_hand other at =
      let k : ℕ = lock_number shape (Local d) in
      let holds : Holds shape core by (Local d) = subst (MayLeave shape core by) at can.from_there in
      let named : lock_named shape k ≡ Local d = named_by_number shape (Local d) holds.is_lock in
      let at_k : placed.place e ≡ under_lock k = lies_home (Local d) at in
      let row : has_row (is_lru shape.kind) (lock_named shape k) (core.owner e) (lies_at k (placed.place e)) ≡ true =
      ap (λ (l : DomainId). has_row (is_lru shape.kind) l (core.owner e) (lies_at k (placed.place e))) named ∙ ((λ i. lru i && (not (is_free (in_hand i)) && lies_at k (at_k i))) ∙ lies_here k) in
      let listed : IsIn e (rows (core.lists k)) = (let n = placed.placed.rows k e ∙ (λ i. one (below i && row i)) in omega arith) in (
        holds.is_lock,
        ⊎_elim
            (λ (had : HasRow shape log hash k e). inl (by, hash e, holds.held, had.stored))
            (⊎_elim
            (λ (fresh : IsFresh core.holder core.owner k e). absurd (other (same_hand c fresh.cpu (sym in_hand ∙ fresh.in_hand) ∙ some_is (sym fresh.held ∙ holds.held))))
            (λ (brought : IsBrought shape core.holder log hash k e).
            let low : rank_of (lock_named shape brought.from) < 1 = subst (λ (l : DomainId). rank_of (lock_named shape brought.from) < rank_of l) named brought.low in
            absurd (none_lower (lock_named shape brought.from) low)))
            ((right lru).have k e (ap is_bucket named) listed),
      )
    where
      below : nat_lt e shape.elements ≡ true
      below = grind (arith, can.real)

      same_hand : (a b : ℕ) → owners.Hand a ≡ owners.Hand b → a ≡ b
      same_hand a b is = cc

  pub still_flushed : (n c : ℕ) (read : Home) → core.owner e ≡ owners.Hand c → c ≢ by → StillHome shape core.holder log n e (core.home e) read → StillHome shape core.holder log n e to read
  still_flushed n c read in_hand other still = to_global to can.to_there
    where
      left : (now : Home) → core.home e ≡ now → now ≡ read → StillHome shape core.holder log n e (homes.In Global) read
      left homes.Unlisted at same = absurd (subst (MayLeave shape core by) at can.from_there)
      left (homes.In (Local d)) at same = let was = flushed_from_it n c d in_hand other at in subst (StillHome shape core.holder log n e (homes.In Global)) same (inr (refl, was.0, was.1))
      left (homes.In Global) at same = still_is shape core.holder log n e (homes.In Global) read same
      left (homes.In (CpuLru d)) at same =
          let holds : Holds shape core by (CpuLru d) = subst (MayLeave shape core by) at can.from_there in
          absurd (no_sets shape.common can.common (and_parts (is_lru shape.kind) (not shape.common) (and_parts (is_lru shape.kind && not shape.common) (nat_lt d shape.cpus) holds.is_lock).0).1)
        where
          no_sets : (common : Bool) → common ≡ true → not common ≡ true → ⊥
          no_sets true is isnt = true_false (sym isnt)
          no_sets false is isnt = true_false (sym is)
      left (homes.In (Bucket b)) at same =
          let holds : Holds shape core by (Bucket b) = subst (MayLeave shape core by) at can.from_there in
          absurd (subst (MayLieUnder shape e) (named_by_number shape (Bucket b) holds.is_lock) (subst (MayLie shape e (core.owner e)) (lies_home (Bucket b) at) (placed.placed.places e can.real)))
      left (homes.In (Freelist d)) at same =
          let holds : Holds shape core by (Freelist d) = subst (MayLeave shape core by) at can.from_there in
          absurd (no_sets (is_lru shape.kind) lru (and_parts (not (is_lru shape.kind)) (nat_lt d shape.cpus) holds.is_lock).0)
        where
          no_sets : (b : Bool) → b ≡ true → not b ≡ true → ⊥
          no_sets true is isnt = true_false (sym isnt)
          no_sets false is isnt = true_false (sym is)
      left (homes.Hand d) at same = absurd (other (sym (carrier d at) ∙ subst (MayLeave shape core by) at can.from_there))
        where
          carrier : (d : ℕ) → core.home e ≡ homes.Hand d → d ≡ c
          carrier d at = go (placed.place e) refl
            where
              is_home : home_of_place shape (placed.place e) ≡ homes.Hand d
              is_home = sym (placed.placed.homes e can.real) ∙ at

              no_lock : (l : DomainId) → homes.In l ≡ homes.Hand d → ⊥
              no_lock l is = cc

              same_home : (a b : ℕ) → homes.Hand a ≡ homes.Hand b → a ≡ b
              same_home a b is = cc

              same_owner : (a b : ℕ) → owners.Hand a ≡ owners.Hand b → a ≡ b
              same_owner a b is = cc

              go : (place : ElementPlace) → placed.place e ≡ place → d ≡ c
              go (under_lock k) is = absurd (no_lock (lock_named shape k) (sym (ap (home_of_place shape) is ∙ ap (λ (b : Bool). cond b (homes.In (lock_named shape k)) homes.Unlisted) lru) ∙ is_home))
              go (carried x) is =
                  let may : MayLie shape e (core.owner e) (carried x) = subst (MayLie shape e (core.owner e)) is (placed.placed.places e can.real) in
                  same_home d x (sym (sym (ap (home_of_place shape) is ∙ ap (λ (b : Bool). cond b (homes.Hand x) homes.Unlisted) lru) ∙ is_home)) ∙ same_owner x c (sym may.1 ∙ in_hand)

      to_global : (there : Home) → MayEnter shape core by (core.owner e) there → StillHome shape core.holder log n e there read
      to_global homes.Unlisted may = absurd may
      to_global (homes.In (Local d)) may = absurd (other (subst (IsFreeOrInHand by) in_hand may.1))
      to_global (homes.In Global) may =
          ⊎_elim
          (λ (same : core.home e ≡ read). left (core.home e) refl same)
          (λ (gone : IsGone shape core.holder log n e (core.home e) read). still_gone shape core.holder log n e (homes.In Global) read record { cpu = gone.cpu; read_is = gone.read_is; now_is = refl; there = gone.there; was = gone.was })
          (still_parts shape core.holder log n e (core.home e) read still)
      to_global (homes.In (CpuLru d)) may = absurd may
      to_global (homes.In (Bucket b)) may = absurd may
      to_global (homes.In (Freelist d)) may = absurd may
      to_global (homes.Hand d) may = absurd (other (same_hand (sym in_hand ∙ may.1)))
        where
          same_hand : owners.Hand c ≡ owners.Hand by → c ≡ by
          same_hand is = cc

-- A lock is taken

-- what was known is so still, but that its home may be known to be the global lists now
pub record IsThen (e : ℕ) (shape : Shape) (h : Hold) (old read : HomeIn) : Type 0 where
  pub home_is : home_then shape h e old.home ≡ read.home
  pub at_is : old.at ≡ read.at
  pub turns_are : old.turns ≡ read.turns

pub then_known : (e c : ℕ) (read : HomeIn) (shape : Shape) (h : Hold) (readings : List HomeIn) → home_known e c (readings_then shape h readings) ≡ Some read → (old : HomeIn) × (home_known e c readings ≡ Some old) × IsThen e shape h old read
then_known e c read shape h [] found = absurd (none_some found)
then_known e c read shape h (x ∷ xs) found =
    by_bool (eqb x.element e && eqb x.cpu c) (λ t. cond t (Some (record x { home = home_then shape h x.element x.home })) (home_known e c (readings_then shape h xs)) ≡ Some read → (old : HomeIn) × (cond t (Some x) (home_known e c xs) ≡ Some old) × IsThen e shape h old read)
    (λ hit f. (
      x,
      refl,
      record {
        home_is = ap (λ (z : ℕ). home_then shape h z x.home) (sym (eqb-true x.element e (both_true (eqb x.element e) (eqb x.cpu c) hit).0)) ∙ ap (λ (z : HomeIn). z.home) (some_is f);
        at_is = ap (λ (z : HomeIn). z.at) (some_is f);
        turns_are = ap (λ (z : HomeIn). z.turns) (some_is f);
      },
    ))
    (λ _ f. then_known e c read shape h xs f) found

-- where the lists lack an element, no reading of the local lock stays
not_then : (shape : Shape) (h : Hold) (e d : ℕ) (old : Home) → home_then shape h e old ≡ homes.In (Local d) → lock_number shape (Local d) ≡ h.lock → times e (rows h.now) ≡ 0 → ⊥
not_then shape h e d homes.Unlisted is at none = cc
not_then shape h e d (homes.In (Local c)) is at none =
    by_bool (eqb (lock_number shape (Local c)) h.lock && eqb (times e (rows h.now)) 0) (λ t. (eqb (lock_number shape (Local c)) h.lock && eqb (times e (rows h.now)) 0 ≡ t) → cond t (homes.In Global) (homes.In (Local c)) ≡ homes.In (Local d) → ⊥)
    (λ _ _ f. local_apart d (sym f))
    (λ _ miss f. true_false (sym (both_hold (lock_number shape (Local c)) h.lock (times e (rows h.now)) 0 (ap (λ (z : ℕ). lock_number shape (Local z)) (same_cpu c d f) ∙ at) none) ∙ miss)) refl is
  where
    same_cpu : (c d : ℕ) → homes.In (Local c) ≡ homes.In (Local d) → c ≡ d
    same_cpu c d is = cc

    both_hold : (a b m n : ℕ) → a ≡ b → m ≡ n → (eqb a b && eqb m n) ≡ true
    both_hold a b m n one two = by_test a b (λ t. (t && eqb m n) ≡ true) (λ _. by_test m n (λ t. t ≡ true) (λ _. refl) (λ other. absurd (other two))) (λ other. absurd (other one))
not_then shape h e d (homes.In Global) is at none = cc
not_then shape h e d (homes.In (CpuLru c)) is at none = cc
not_then shape h e d (homes.In (Bucket b)) is at none = cc
not_then shape h e d (homes.In (Freelist c)) is at none = cc
not_then shape h e d (homes.Hand c) is at none = cc

module _ (shape : Shape) (holder : ℕ → Option ℕ) (lists : ℕ → Lists) (owner : ℕ → Owner) (home : ℕ → Home) (place : ℕ → ElementPlace) (p : PlacedAt shape lists owner home place) (log : ℕ → List Tagged) where
  -- an element in hand, whose home is a lock, is listed under it
  pub listed_at_home : (e : ℕ) (lock : DomainId) → e < shape.elements → is_free (owner e) ≡ false → home e ≡ homes.In lock → IsIn e (rows (lists (lock_number shape lock)))
  listed_at_home e lock real not_free at = go (place e) refl
    where
      is_home : home_of_place shape (place e) ≡ homes.In lock
      is_home = sym (p.homes e real) ∙ at

      same_lock : (a b : DomainId) → homes.In a ≡ homes.In b → a ≡ b
      same_lock a b is = cc

      evicts : (x : ElementPlace) (lru : Bool) → is_lru shape.kind ≡ lru → home_of_place shape x ≡ homes.In lock → lru ≡ true
      evicts x true same is = refl
      evicts (under_lock k) false same is = absurd (apart (sym (ap (λ (b : Bool). cond b (homes.In (lock_named shape k)) homes.Unlisted) same) ∙ is))
        where
          apart : homes.Unlisted ≡ homes.In lock → ⊥
          apart is = cc
      evicts (carried x) false same is = absurd (apart (sym (ap (λ (b : Bool). cond b (homes.Hand x) homes.Unlisted) same) ∙ is))
        where
          apart : homes.Unlisted ≡ homes.In lock → ⊥
          apart is = cc

      no_hand : (x : ℕ) → homes.Hand x ≡ homes.In lock → ⊥
      no_hand x is = cc

      has : (l : DomainId) → MayLieUnder shape e l → has_row true l (owner e) true ≡ true
      has (Local x) may = ap (λ (b : Bool). not b && true) not_free
      has Global may = ap (λ (b : Bool). not b && true) not_free
      has (CpuLru x) may = ap (λ (b : Bool). not b && true) not_free
      has (Bucket x) may = absurd may
      has (Freelist x) may = ap (λ (b : Bool). not b && true) not_free

      below : nat_lt e shape.elements ≡ true
      below = grind (arith, real)

      go : (x : ElementPlace) → place e ≡ x → IsIn e (rows (lists (lock_number shape lock)))
      go (under_lock k) is =
          let lru : is_lru shape.kind ≡ true = evicts (place e) (is_lru shape.kind) refl is_home in
          let named : lock_named shape k ≡ lock = same_lock (lock_named shape k) lock (sym (ap (home_of_place shape) is ∙ ap (λ (b : Bool). cond b (homes.In (lock_named shape k)) homes.Unlisted) lru) ∙ is_home) in
          let may : MayLieUnder shape e (lock_named shape k) = subst (MayLie shape e (owner e)) is (p.places e real) in
          let row : has_row (is_lru shape.kind) (lock_named shape k) (owner e) (lies_at k (place e)) ≡ true =
          (λ i. has_row (lru i) (lock_named shape k) (owner e) (lies_at k (is i))) ∙ (ap (has_row true (lock_named shape k) (owner e)) (lies_here k) ∙ has (lock_named shape k) may) in
          let listed : IsIn e (rows (lists k)) = (let n = p.rows k e ∙ (λ i. one (below i && row i)) in omega arith) in
          subst (λ (z : ℕ). IsIn e (rows (lists z))) (sym (number_of_named shape k) ∙ ap (lock_number shape) named) listed
      go (carried x) is =
          let lru : is_lru shape.kind ≡ true = evicts (place e) (is_lru shape.kind) refl is_home in
          absurd (no_hand x (sym (ap (home_of_place shape) is ∙ ap (λ (b : Bool). cond b (homes.Hand x) homes.Unlisted) lru) ∙ is_home))

  -- where each CPU has a list set of its own, its home is the set where it lives
  pub home_in_set : (e : ℕ) → e < shape.elements → is_lru shape.kind ≡ true → shape.common ≡ false → home e ≡ homes.In (CpuLru (set_of shape e))
  home_in_set e real lru own = p.homes e real ∙ in_set (place e) (p.places e real)
    where
      its_lock : (lock : DomainId) → MayLieUnder shape e lock → lock ≡ CpuLru (set_of shape e)
      its_lock (Local c) may = true_false (sym (both_true shape.common (nat_lt c shape.cpus) may).0 ∙ own)
      its_lock Global may = true_false (sym may ∙ own)
      its_lock (CpuLru c) may = ap CpuLru may.1
      its_lock (Bucket b) may = absurd may
      its_lock (Freelist c) may = true_false (sym (both_true (not (is_lru shape.kind)) (nat_lt c shape.cpus) may).0 ∙ ap not lru)

      in_set : (x : ElementPlace) → MayLie shape e (owner e) x → home_of_place shape x ≡ homes.In (CpuLru (set_of shape e))
      in_set (under_lock k) may = ap (λ (b : Bool). cond b (homes.In (lock_named shape k)) homes.Unlisted) lru ∙ ap homes.In (its_lock (lock_named shape k) may)
      in_set (carried c) may = true_false (sym may.0 ∙ own)

  -- and it is listed there
  pub listed_in_set : (e : ℕ) → e < shape.elements → is_free (owner e) ≡ false → is_lru shape.kind ≡ true → shape.common ≡ false → IsIn e (rows (lists (lock_number shape (CpuLru (set_of shape e)))))
  listed_in_set e real not_free lru own = listed_at_home e (CpuLru (set_of shape e)) real not_free (home_in_set e real lru own)

  -- an element in hand whose home was read as local lists that nobody holds, and which is pending there no more, was flushed from them
  pub flushed_off : (k n e d : ℕ) → e < shape.elements → is_free (owner e) ≡ false → lock_named shape k ≡ Local d → holder k ≡ None → times e (rows (lists k)) ≡ 0 → StillHome shape holder log n e (home e) (homes.In (Local d)) → flushed_since shape (lock_named shape k) n e (entries (log k)) ≡ true
  flushed_off k n e d real not_free named free none still =
      let at : lock_number shape (Local d) ≡ k = ap (lock_number shape) (sym named) ∙ number_of_named shape k in
      ⊎_elim
      (λ (same : home e ≡ homes.In (Local d)). let inside : IsIn e (rows (lists k)) = subst (λ (z : ℕ). IsIn e (rows (lists z))) at (listed_at_home e (Local d) real not_free same) in absurd (omega (arith, none, inside)))
      (λ (gone : (home e ≡ homes.In Global) × IsTrue (is_lock shape (Local d)) × WasFlushed shape holder log (lock_number shape (Local d)) n e).
      ⊎_elim
      (λ (held : (cpu : ℕ) × (h : ℕ) × (holder k ≡ Some cpu) × (stored_in (content shape (lock_named shape k) (entries (log k))) e ≡ Some h)). absurd (none_some (sym free ∙ held.2)))
      (λ (last : flushed_since shape (lock_named shape k) n e (entries (log k)) ≡ true). last)
      (subst (λ (z : ℕ). WasFlushed shape holder log z n e) at gone.2))
      still

  module _ (h : Hold) (now : h.now ≡ lists h.lock) where
    pub then_still : (n e c : ℕ) (old : Home) → e < shape.elements → owner e ≡ owners.Hand c → StillHome shape holder log n e (home e) old → StillHome shape holder log n e (home e) (home_then shape h e old)
    then_still n e c homes.Unlisted real in_hand still = still
    then_still n e c (homes.In (Local d)) real in_hand still =
        by_bool (eqb (lock_number shape (Local d)) h.lock && eqb (times e (rows h.now)) 0) (λ t. StillHome shape holder log n e (home e) (cond t (homes.In Global) (homes.In (Local d))))
        (λ hit. let both = both_true (eqb (lock_number shape (Local d)) h.lock) (eqb (times e (rows h.now)) 0) hit in ⊎_elim
        (λ (same : home e ≡ homes.In (Local d)).
        let inside : IsIn e (rows h.now) = subst (λ (l : Lists). IsIn e (rows l)) (sym now) (subst (λ (z : ℕ). IsIn e (rows (lists z))) (eqb-true (lock_number shape (Local d)) h.lock both.0) (listed_at_home e (Local d) real (ap is_free in_hand) same)) in
        let none : times e (rows h.now) ≡ 0 = eqb-true (times e (rows h.now)) 0 both.1 in absurd (omega arith))
        (λ (gone : IsGone shape holder log n e (home e) (homes.In (Local d))). gone.now_is)
        (still_parts shape holder log n e (home e) (homes.In (Local d)) still))
        (λ _. still)
    then_still n e c (homes.In Global) real in_hand still = still
    then_still n e c (homes.In (CpuLru d)) real in_hand still = still
    then_still n e c (homes.In (Bucket b)) real in_hand still = still
    then_still n e c (homes.In (Freelist d)) real in_hand still = still
    then_still n e c (homes.Hand d) real in_hand still = still

    pub at_home_then : (n e c : ℕ) (lock : DomainId) (old : Home) → e < shape.elements → owner e ≡ owners.Hand c → StillHome shape holder log n e (home e) old → home_then shape h e old ≡ homes.In lock → lock_number shape lock ≡ h.lock → IsIn e (rows h.now)
    at_home_then n e c lock old real in_hand still is at =
        by_test (times e (rows h.now)) 0 (λ _. IsIn e (rows h.now))
        (λ none. ⊎_elim
        (λ (same : home e ≡ homes.In lock). subst (λ (l : Lists). IsIn e (rows l)) (sym now) (subst (λ (z : ℕ). IsIn e (rows (lists z))) at (listed_at_home e lock real (ap is_free in_hand) same)))
        (λ (gone : IsGone shape holder log n e (home e) (homes.In lock)). absurd (not_then shape h e gone.cpu old (is ∙ gone.read_is) (ap (lock_number shape) (sym (same_lock lock (Local gone.cpu) gone.read_is)) ∙ at) none))
        (still_parts shape holder log n e (home e) (homes.In lock) (subst (StillHome shape holder log n e (home e)) is (then_still n e c old real in_hand still))))
        (λ some_there. omega arith)
      where
        same_lock : (a b : DomainId) → homes.In a ≡ homes.In b → a ≡ b
        same_lock a b is = cc
