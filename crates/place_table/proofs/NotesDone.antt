-- What a pass has noted in its turns under way was done by steps of its strand.
use Rattle.std.proofs.Common.{◌≡◌, ℕ, ◌<◌, ◌≤◌, arith, inl, inr, ⊎_elim, cond, Bool, List, [], ◌∷◌, ◌++◌, sym, refl, ap, ◌∙◌, subst, append_assoc, true, false}
use Rattle.map_types.specs.declared.attr.Shape.{Shape}
use Rattle.map_types.specs.declared.kind.DomainId.TheVariants.{Local, Global, CpuLru, Bucket, Freelist}
use Rattle.map_types.proofs.RowLemmas.{by_test}
use Rattle.place_words.specs.declared.history.Part.{Part}
use Rattle.place_words.specs.declared.history.Part.TheVariants as parts
use Rattle.place_words.specs.declared.list_part.GlobalPart.TheVariants as global
use Rattle.place_words.specs.declared.visits.Flush.{Flush}
use Rattle.place_words.specs.Codes.{home_code}
use Rattle.place_words.specs.declared.home.Home.{Home}
use Rattle.place_words.specs.declared.home.Home.TheVariants as homes
use Rattle.place_words.specs.declared.owner.Owner.{Owner}
use Rattle.place_words.specs.Locks.{lock_number, lock_count, lock_named, rank_of}
use Rattle.place_words.specs.declared.step.Lists.{Lists}
use Rattle.place_words.specs.Steps.{left_by, joined_by}
use Rattle.place_table.specs.declared.view.Hold.{Hold}
use Rattle.place_table.specs.declared.view.Notes.{Notes}
use Rattle.place_table.specs.declared.view.OwnerSeen.{OwnerSeen}
use Rattle.place_table.specs.declared.view.WordStep.{WordStep}
use Rattle.place_table.specs.Views.{now_at, with_now, held_without, held_with, with_came, with_come_home, with_off, has_left, with_carried_off, left_local, with_left_home, with_mark, with_clear, with_bit_read, with_home_read, with_owner_read, with_owners_read, with_flushed, passed_on}
use Rattle.place_table.proofs.Worlds.{by_bool}
use Rattle.place_table.specs.Rules.{IsAboveAll, AreOff, AreOffHeld, take_step, HasStep, AreNoted, mark_step, bit_step, owner_step, home_step, AreDone, IsDone}

-- Steps among others

pub has_more : (x : ℕ → WordStep) (xs more : List WordStep) → HasStep x xs → HasStep x (xs ++ more)
has_more x [] more has = absurd has
has_more x (y ∷ ys) more has = ⊎_elim (λ (same : y ≡ x y.at). inl same) (λ (later : HasStep x ys). inr (has_more x ys more later)) has

pub has_behind : (x : ℕ → WordStep) (xs more : List WordStep) → HasStep x more → HasStep x (xs ++ more)
has_behind x [] more has = has
has_behind x (y ∷ ys) more has = inr (has_behind x ys more has)

are_more : {A : Type 0} (by : A → ℕ → WordStep) (steps more : List WordStep) (xs : List A) → AreDone by steps xs → AreDone by (steps ++ more) xs
are_more by steps more [] are = tt
are_more by steps more (x ∷ xs) are = (has_more (by x) steps more are.0, are_more by steps more xs are.1)

done_more : (shape : Shape) (steps more : List WordStep) (n : Notes) → IsDone shape steps n → IsDone shape (steps ++ more) n
done_more shape steps more n done = record {
  marks = are_more (mark_step shape) steps more n.marks done.marks;
  asked = are_more (bit_step shape) steps more n.asked done.asked;
  owners = are_more (owner_step shape) steps more n.owners done.owners;
  homes = are_more (home_step shape) steps more n.homes done.homes;
}

are_behind : {A : Type 0} (by : A → ℕ → WordStep) (steps more : List WordStep) (xs : List A) → AreDone by more xs → AreDone by (steps ++ more) xs
are_behind by steps more [] are = tt
are_behind by steps more (x ∷ xs) are = (has_behind (by x) steps more are.0, are_behind by steps more xs are.1)

are_both : {A : Type 0} (by : A → ℕ → WordStep) (steps : List WordStep) (xs ys : List A) → AreDone by steps xs → AreDone by steps ys → AreDone by steps (xs ++ ys)
are_both by steps [] ys first second = second
are_both by steps (x ∷ xs) ys first second = (first.0, are_both by steps xs ys first.1 second)

-- Steps on other words than those of locks that are held

off_both : (word : ℕ) (steps more : List WordStep) → AreOff word steps → AreOff word more → AreOff word (steps ++ more)
off_both word [] more off then = then
off_both word (x ∷ xs) more off then = (off.0, off_both word xs more off.1 then)

pub off_more : (holds : List Hold) (steps more : List WordStep) → AreOffHeld holds steps → AreOffHeld holds more → AreOffHeld holds (steps ++ more)
off_more [] steps more off then = tt
off_more (h ∷ hs) steps more off then = (off_both h.lock steps more off.0 then.0, off_more hs steps more off.1 then.1)

-- no step is on any
pub none_off : (holds : List Hold) → AreOffHeld holds []
none_off [] = tt
none_off (h ∷ hs) = (tt, none_off hs)

off_now : (k : ℕ) (now : Lists) (holds : List Hold) (steps : List WordStep) → AreOffHeld holds steps → AreOffHeld (with_now k now holds) steps
off_now k now [] steps off = tt
off_now k now (h ∷ hs) steps off =
    by_test h.lock k (λ b. AreOffHeld (cond b (record { lock = h.lock; cpu = h.cpu; log = h.log; now = now; lost = h.lost } ∷ hs) (h ∷ with_now k now hs)) steps)
    (λ _. off) (λ _. (off.0, off_now k now hs steps off.1))

-- one on the word of a lock whose rank is above theirs is on none of theirs
pub above_off : (shape : Shape) (x : WordStep) (holds : List Hold) → IsAboveAll shape (rank_of (lock_named shape x.word)) holds → AreOffHeld holds (x ∷ [])
above_off shape x [] above = tt
above_off shape x (h ∷ hs) above = (
  (
    (λ same.
        let low : rank_of (lock_named shape h.lock) < rank_of (lock_named shape h.lock) = subst (λ (z : ℕ). rank_of (lock_named shape h.lock) < rank_of (lock_named shape z)) same above.0 in
        omega arith),
    tt,
  ),
  above_off shape x hs above.1,
)

-- and so is one on a word behind those of locks
pub word_off : (shape : Shape) (steps : List WordStep) (x : WordStep) (holds : List Hold) (notes : List Notes) → AreNoted shape steps holds notes → lock_count shape ≤ x.word → AreOffHeld holds (x ∷ [])
word_off shape steps x [] notes are behind = tt
word_off shape steps x (h ∷ hs) [] are behind = absurd are
word_off shape steps x (h ∷ hs) (n ∷ ns) are behind = (((λ same. let real = are.4 in omega arith), tt), word_off shape are.0 x hs ns are.7 behind)

-- The strand has more steps

pub noted_more : (shape : Shape) (steps more : List WordStep) (holds : List Hold) (notes : List Notes) → AreNoted shape steps holds notes → AreOffHeld holds more → AreNoted shape (steps ++ more) holds notes
noted_more shape steps more [] notes are off = tt
noted_more shape steps more (h ∷ hs) [] are off = absurd are
noted_more shape steps more (h ∷ hs) (n ∷ ns) are off = (
  are.0,
  are.1 ++ more,
  are.2,
  ap (λ (l : List WordStep). l ++ more) are.3 ∙ append_assoc are.0 (take_step h are.2 ∷ are.1) more,
  are.4,
  off_more (h ∷ hs) are.1 more are.5 off,
  done_more shape are.1 more n are.6,
  are.7,
)

-- Among them is one of which a note is made.

pub noted_mark : (shape : Shape) (steps more : List WordStep) (holds : List Hold) (notes : List Notes) (e : ℕ) → AreNoted shape steps holds notes → AreOffHeld holds more → HasStep (mark_step shape e) more → AreNoted shape (steps ++ more) holds (with_mark e notes)
noted_mark shape steps more [] notes e are off has = tt
noted_mark shape steps more (h ∷ hs) [] e are off has = absurd are
noted_mark shape steps more (h ∷ hs) (n ∷ ns) e are off has =
    let done = done_more shape are.1 more n are.6 in (
      are.0,
      are.1 ++ more,
      are.2,
      ap (λ (l : List WordStep). l ++ more) are.3 ∙ append_assoc are.0 (take_step h are.2 ∷ are.1) more,
      are.4,
      off_more (h ∷ hs) are.1 more are.5 off,
      record { marks = (has_behind (mark_step shape e) are.1 more has, done.marks); asked = done.asked; owners = done.owners; homes = done.homes },
      are.7,
    )

pub noted_clear : (shape : Shape) (steps more : List WordStep) (holds : List Hold) (notes : List Notes) (e : ℕ) (bit : Bool) → AreNoted shape steps holds notes → AreOffHeld holds more → HasStep (bit_step shape record { element = e; bit = bit; cleared = true }) more → AreNoted shape (steps ++ more) holds (with_clear e bit notes)
noted_clear shape steps more [] notes e bit are off has = tt
noted_clear shape steps more (h ∷ hs) [] e bit are off has = absurd are
noted_clear shape steps more (h ∷ hs) (n ∷ ns) e bit are off has =
    let done = done_more shape are.1 more n are.6 in (
      are.0,
      are.1 ++ more,
      are.2,
      ap (λ (l : List WordStep). l ++ more) are.3 ∙ append_assoc are.0 (take_step h are.2 ∷ are.1) more,
      are.4,
      off_more (h ∷ hs) are.1 more are.5 off,
      record { marks = done.marks; asked = (has_behind (bit_step shape record { element = e; bit = bit; cleared = true }) are.1 more has, done.asked); owners = done.owners; homes = done.homes },
      are.7,
    )

pub noted_bit : (shape : Shape) (steps more : List WordStep) (holds : List Hold) (notes : List Notes) (e : ℕ) (bit : Bool) → AreNoted shape steps holds notes → AreOffHeld holds more → HasStep (bit_step shape record { element = e; bit = bit; cleared = false }) more → AreNoted shape (steps ++ more) holds (with_bit_read e bit notes)
noted_bit shape steps more [] notes e bit are off has = tt
noted_bit shape steps more (h ∷ hs) [] e bit are off has = absurd are
noted_bit shape steps more (h ∷ hs) (n ∷ ns) e bit are off has =
    let done = done_more shape are.1 more n are.6 in (
      are.0,
      are.1 ++ more,
      are.2,
      ap (λ (l : List WordStep). l ++ more) are.3 ∙ append_assoc are.0 (take_step h are.2 ∷ are.1) more,
      are.4,
      off_more (h ∷ hs) are.1 more are.5 off,
      record { marks = done.marks; asked = (has_behind (bit_step shape record { element = e; bit = bit; cleared = false }) are.1 more has, done.asked); owners = done.owners; homes = done.homes },
      are.7,
    )

pub noted_owner : (shape : Shape) (steps more : List WordStep) (holds : List Hold) (notes : List Notes) (e : ℕ) (owner : Owner) → AreNoted shape steps holds notes → AreOffHeld holds more → HasStep (owner_step shape record { element = e; owner = owner }) more → AreNoted shape (steps ++ more) holds (with_owner_read e owner notes)
noted_owner shape steps more [] notes e owner are off has = tt
noted_owner shape steps more (h ∷ hs) [] e owner are off has = absurd are
noted_owner shape steps more (h ∷ hs) (n ∷ ns) e owner are off has =
    let done = done_more shape are.1 more n are.6 in (
      are.0,
      are.1 ++ more,
      are.2,
      ap (λ (l : List WordStep). l ++ more) are.3 ∙ append_assoc are.0 (take_step h are.2 ∷ are.1) more,
      are.4,
      off_more (h ∷ hs) are.1 more are.5 off,
      record { marks = done.marks; asked = done.asked; owners = (has_behind (owner_step shape record { element = e; owner = owner }) are.1 more has, done.owners); homes = done.homes },
      are.7,
    )

pub noted_home : (shape : Shape) (steps more : List WordStep) (holds : List Hold) (notes : List Notes) (e : ℕ) (home : Home) → AreNoted shape steps holds notes → AreOffHeld holds more → HasStep (home_step shape record { element = e; home = home }) more → AreNoted shape (steps ++ more) holds (with_home_read e home holds notes)
noted_home shape steps more [] notes e home are off has = tt
noted_home shape steps more (h ∷ hs) [] e home are off has = absurd are
noted_home shape steps more (h ∷ hs) (n ∷ ns) e home are off has =
    let done = done_more shape are.1 more n are.6 in (
      are.0,
      are.1 ++ more,
      are.2,
      ap (λ (l : List WordStep). l ++ more) are.3 ∙ append_assoc are.0 (take_step h are.2 ∷ are.1) more,
      are.4,
      off_more (h ∷ hs) are.1 more are.5 off,
      record { marks = done.marks; asked = done.asked; owners = done.owners; homes = (has_behind (home_step shape record { element = e; home = home }) are.1 more has, done.homes) },
      are.7,
    )

-- An element came, of which no more is noted than that

pub noted_came : (shape : Shape) (steps : List WordStep) (k e : ℕ) (holds : List Hold) (notes : List Notes) → AreNoted shape steps holds notes → AreNoted shape steps holds (with_came k e holds notes)
noted_came shape steps k e [] notes are = tt
noted_came shape steps k e (h ∷ hs) [] are = absurd are
noted_came shape steps k e (h ∷ hs) (n ∷ ns) are =
    by_test h.lock k (λ b. AreNoted shape steps (h ∷ hs) (cond b (record n { came = e ∷ n.came } ∷ ns) (n ∷ with_came k e hs ns)))
    (λ _. (are.0, are.1, are.2, are.3, are.4, are.5, record { marks = are.6.marks; asked = are.6.asked; owners = are.6.owners; homes = are.6.homes }, are.7))
    (λ _. (are.0, are.1, are.2, are.3, are.4, are.5, are.6, noted_came shape are.0 k e hs ns are.7))

pub noted_home_come : (shape other : Shape) (steps : List WordStep) (from to : Home) (e : ℕ) (holds : List Hold) (notes : List Notes) → AreNoted shape steps holds notes → AreNoted shape steps holds (with_come_home other from to e holds notes)
noted_home_come shape other steps from homes.Unlisted e holds notes are = are
noted_home_come shape other steps from (homes.In lock) e holds notes are =
    by_test (home_code from) (home_code (homes.In lock)) (λ b. AreNoted shape steps holds (cond b notes (with_came (lock_number other lock) e holds notes)))
    (λ _. are) (λ _. noted_came shape steps (lock_number other lock) e holds notes are)
noted_home_come shape other steps from (homes.Hand c) e holds notes are = are

-- One left local lists for the global ones, of which no more is noted than that

noted_off : (shape : Shape) (steps : List WordStep) (k e : ℕ) (holds : List Hold) (notes : List Notes) → AreNoted shape steps holds notes → AreNoted shape steps holds (with_off k e holds notes)
noted_off shape steps k e [] notes are = tt
noted_off shape steps k e (h ∷ hs) [] are = absurd are
noted_off shape steps k e (h ∷ hs) (n ∷ ns) are =
    by_test h.lock k (λ b. AreNoted shape steps (h ∷ hs) (cond b (record n { off = e ∷ n.off } ∷ ns) (n ∷ with_off k e hs ns)))
    (λ _. (are.0, are.1, are.2, are.3, are.4, are.5, record { marks = are.6.marks; asked = are.6.asked; owners = are.6.owners; homes = are.6.homes }, are.7))
    (λ _. (are.0, are.1, are.2, are.3, are.4, are.5, are.6, noted_off shape are.0 k e hs ns are.7))

noted_carried_off : (shape other : Shape) (steps : List WordStep) (e : ℕ) (holds : List Hold) (notes : List Notes) → AreNoted shape steps holds notes → AreNoted shape steps holds (with_carried_off other e holds notes)
noted_carried_off shape other steps e [] notes are = tt
noted_carried_off shape other steps e (h ∷ hs) [] are = absurd are
noted_carried_off shape other steps e (h ∷ hs) (n ∷ ns) are =
    by_bool (has_left other e h n.came) (λ b. AreNoted shape steps (h ∷ hs) (cond b (record n { off = e ∷ n.off }) n ∷ with_carried_off other e hs ns))
    (λ _. (are.0, are.1, are.2, are.3, are.4, are.5, record { marks = are.6.marks; asked = are.6.asked; owners = are.6.owners; homes = are.6.homes }, noted_carried_off shape other are.0 e hs ns are.7))
    (λ _. (are.0, are.1, are.2, are.3, are.4, are.5, are.6, noted_carried_off shape other are.0 e hs ns are.7))

noted_left_local : (shape other : Shape) (steps : List WordStep) (from : Home) (e : ℕ) (holds : List Hold) (notes : List Notes) → AreNoted shape steps holds notes → AreNoted shape steps holds (left_local other from e holds notes)
noted_left_local shape other steps homes.Unlisted e holds notes are = are
noted_left_local shape other steps (homes.In (Local c)) e holds notes are = noted_off shape steps (lock_number other (Local c)) e holds notes are
noted_left_local shape other steps (homes.In Global) e holds notes are = are
noted_left_local shape other steps (homes.In (CpuLru c)) e holds notes are = are
noted_left_local shape other steps (homes.In (Bucket b)) e holds notes are = are
noted_left_local shape other steps (homes.In (Freelist c)) e holds notes are = are
noted_left_local shape other steps (homes.Hand c) e holds notes are = noted_carried_off shape other steps e holds notes are

pub noted_left_home : (shape other : Shape) (steps : List WordStep) (from to : Home) (e : ℕ) (holds : List Hold) (notes : List Notes) → AreNoted shape steps holds notes → AreNoted shape steps holds (with_left_home other from to e holds notes)
noted_left_home shape other steps from homes.Unlisted e holds notes are = are
noted_left_home shape other steps from (homes.In (Local c)) e holds notes are = are
noted_left_home shape other steps from (homes.In Global) e holds notes are = noted_left_local shape other steps from e holds notes are
noted_left_home shape other steps from (homes.In (CpuLru c)) e holds notes are = are
noted_left_home shape other steps from (homes.In (Bucket b)) e holds notes are = are
noted_left_home shape other steps from (homes.In (Freelist c)) e holds notes are = are
noted_left_home shape other steps from (homes.Hand c) e holds notes are = are

-- What was flushed is handed on, of which no more is noted than that

pub noted_flushed : (shape : Shape) (steps : List WordStep) (flushed : List Flush) (holds : List Hold) (notes : List Notes) → AreNoted shape steps holds notes → AreNoted shape steps holds (with_flushed flushed notes)
noted_flushed shape steps flushed [] notes are = tt
noted_flushed shape steps flushed (h ∷ hs) [] are = absurd are
noted_flushed shape steps flushed (h ∷ hs) (n ∷ ns) are =
    (are.0, are.1, are.2, are.3, are.4, are.5, record { marks = are.6.marks; asked = are.6.asked; owners = are.6.owners; homes = are.6.homes }, are.7)

-- Other lists lie under locks that are held

pub noted_now : (shape : Shape) (steps : List WordStep) (k : ℕ) (now : Lists) (holds : List Hold) (notes : List Notes) → AreNoted shape steps holds notes → AreNoted shape steps (with_now k now holds) notes
noted_now shape steps k now [] notes are = tt
noted_now shape steps k now (h ∷ hs) [] are = absurd are
noted_now shape steps k now (h ∷ hs) (n ∷ ns) are =
    by_test h.lock k (λ b. AreNoted shape steps (cond b (record { lock = h.lock; cpu = h.cpu; log = h.log; now = now; lost = h.lost } ∷ hs) (h ∷ with_now k now hs)) (n ∷ ns))
    (λ _. are) (λ _. (are.0, are.1, are.2, are.3, are.4, (are.5.0, off_now k now hs are.1 are.5.1), are.6, noted_now shape are.0 k now hs ns are.7))

pub noted_without : (shape : Shape) (steps : List WordStep) (home : Home) (owner : Owner) (e : ℕ) (holds : List Hold) (notes : List Notes) → AreNoted shape steps holds notes → AreNoted shape steps (held_without shape home owner e holds) notes
noted_without shape steps homes.Unlisted owner e holds notes are = are
noted_without shape steps (homes.In lock) owner e holds notes are = noted_now shape steps (lock_number shape lock) (left_by owner e (now_at (lock_number shape lock) holds)) holds notes are
noted_without shape steps (homes.Hand c) owner e holds notes are = are

pub noted_with : (shape : Shape) (steps : List WordStep) (home : Home) (owner : Owner) (e : ℕ) (holds : List Hold) (notes : List Notes) → AreNoted shape steps holds notes → AreNoted shape steps (held_with shape home owner e holds) notes
noted_with shape steps homes.Unlisted owner e holds notes are = are
noted_with shape steps (homes.In lock) owner e holds notes are = noted_now shape steps (lock_number shape lock) (joined_by lock owner e (now_at (lock_number shape lock) holds)) holds notes are
noted_with shape steps (homes.Hand c) owner e holds notes are = are

-- A lock is given back, and which owners were read under a bucket's, or what a turn flushed under the global one, is handed on.

owners_noted : (xs : List OwnerSeen) (n : Notes) (ns : List Notes) → with_owners_read xs (n ∷ ns) ≡ record n { owners = xs ++ n.owners } ∷ ns
owners_noted [] n ns = refl
owners_noted (x ∷ xs) n ns = ap (with_owner_read x.element x.owner) (owners_noted xs n ns)

noted_owners : (shape : Shape) (steps more : List WordStep) (holds : List Hold) (notes : List Notes) (xs : List OwnerSeen) → AreNoted shape steps holds notes → AreOffHeld holds more → AreDone (owner_step shape) more xs → AreNoted shape (steps ++ more) holds (with_owners_read xs notes)
noted_owners shape steps more [] notes xs are off read = tt
noted_owners shape steps more (h ∷ hs) [] xs are off read = absurd are
noted_owners shape steps more (h ∷ hs) (n ∷ ns) xs are off read =
    let done = done_more shape are.1 more n are.6 in
    subst (AreNoted shape (steps ++ more) (h ∷ hs)) (sym (owners_noted xs n ns)) (
      are.0,
      are.1 ++ more,
      are.2,
      ap (λ (l : List WordStep). l ++ more) are.3 ∙ append_assoc are.0 (take_step h are.2 ∷ are.1) more,
      are.4,
      off_more (h ∷ hs) are.1 more are.5 off,
      record { marks = done.marks; asked = done.asked; owners = are_both (owner_step shape) (are.1 ++ more) xs n.owners (are_behind (owner_step shape) are.1 more xs read) done.owners; homes = done.homes },
      are.7,
    )

pub noted_gave : (shape : Shape) (steps : List WordStep) (x : WordStep) (h : Hold) (below : List Hold) (notes : List Notes) (part : Part) → x.word ≡ h.lock → IsAboveAll shape (rank_of (lock_named shape h.lock)) below → AreNoted shape steps (h ∷ below) notes → AreNoted shape (steps ++ x ∷ []) below (passed_on part notes)
noted_gave shape steps x h below [] part at above are = absurd are
noted_gave shape steps x h below (n ∷ ns) part at above are = go part
  where
    since : List WordStep
    since = take_step h are.2 ∷ (are.1 ++ x ∷ [])

    long : are.0 ++ since ≡ steps ++ x ∷ []
    long = sym (ap (λ (l : List WordStep). l ++ x ∷ []) are.3 ∙ append_assoc are.0 (take_step h are.2 ∷ are.1) (x ∷ []))

    off : AreOffHeld below since
    off =
        off_more below (take_step h are.2 ∷ []) (are.1 ++ x ∷ []) (above_off shape (take_step h are.2) below above)
        (off_more below are.1 (x ∷ []) are.5.1 (above_off shape x below (subst (λ (z : ℕ). IsAboveAll shape (rank_of (lock_named shape z)) below) (sym at) above)))

    stays : AreNoted shape (steps ++ x ∷ []) below ns
    stays = subst (λ (l : List WordStep). AreNoted shape l below ns) long (noted_more shape are.0 since below ns are.7 off)

    read : AreDone (owner_step shape) since n.owners
    read = are_behind (owner_step shape) (take_step h are.2 ∷ []) (are.1 ++ x ∷ []) n.owners (are_more (owner_step shape) are.1 (x ∷ []) n.owners are.6.owners)

    go : (part : Part) → AreNoted shape (steps ++ x ∷ []) below (passed_on part (n ∷ ns))
    go (parts.Bucket part) = subst (λ (l : List WordStep). AreNoted shape l below (with_owners_read n.owners ns)) long (noted_owners shape are.0 since below ns n.owners are.7 off read)
    go (parts.Free part) = stays
    go (parts.Local part) = stays
    go (parts.Global (global.Turn flushed active inactive free shrink)) = noted_flushed shape (steps ++ x ∷ []) flushed below ns stays
    go (parts.Global (global.Push e)) = stays
    go (parts.Own part) = stays
