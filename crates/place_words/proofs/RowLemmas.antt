-- Lists that change by one element, and what their counts tell.
use Rattle.std.proofs.Common.{◌≡◌, ◌≢◌, ℕ, suc, ◌+◌, ◌<◌, ◌≤◌, Bool, true, false, not, ◌&&◌, cond, ltb, List, [], ◌∷◌, ◌++◌, Option, None, Some, refl, ap, ◌∙◌, sym, subst, ⊎_elim, arith}
use Rattle.std.specs.Prelude.{IsTrue, IfSome}
use Rattle.std.proofs.lemmas.Bool.{cases_Bool, and_parts, and_right, ltb-true, eqb-true, eq-eqb, ne_eqb}
use Rattle.map_types.specs.declared.attr.Shape.{Shape}
use Rattle.map_types.specs.declared.kind.DomainId.{DomainId}
use Rattle.map_types.specs.declared.kind.DomainId.TheVariants.{Local, Global, CpuLru, Bucket, Freelist}
use Rattle.map_types.specs.Kind.{is_lru}
use Rattle.map_types.specs.Shape.{HasBounds}
use Rattle.place_words.specs.declared.owner.Owner.{Owner}
use Rattle.place_words.specs.declared.owner.Owner.TheVariants as owners
use Rattle.place_words.specs.Locks.{is_lock}
use Rattle.place_words.specs.declared.step.Lists.{Lists}
use Rattle.map_types.specs.ElementLists.{one, times, IsIn, IsHead, without, neighbour}
use Rattle.map_types.proofs.RowLemmas.{times_append, by_test}
use Rattle.place_words.specs.Openings.{is_free}
use Rattle.place_words.specs.State.{rows, is_bucket, HasOnlyItsLists, HasCursorInside}
use Rattle.place_words.specs.Places.{ElementPlace, under_lock, carried, lies_at, is_in_bucket, has_row}
use Rattle.place_words.specs.Steps.{with_free, without_free, with_row, without_row, cursor_without}
use Rattle.place_words.proofs.ElementLemmas.{times_cons_same, times_cons_other, times_without_same, times_without_other, before_stays}

-- what a count of one tells
pub at_most_one : (b : Bool) → one b ≤ 1
at_most_one true = omega arith
at_most_one false = omega arith

pub one_tells : (b : Bool) (n : ℕ) → n ≡ one b → 0 < n → b ≡ true
one_tells true n is some = refl
one_tells false n is some = absurd (omega arith)

-- an element that stands in a list, and what it stands for
pub record Stands (elements e : ℕ) (t : Bool) : Type 0 where
  pub real : e < elements
  pub stands : t ≡ true

pub stands_where : (elements e n : ℕ) (t : Bool) → n ≡ one (ltb e elements && t) → 0 < n → Stands elements e t
stands_where elements e n t is some =
    let both = and_parts (ltb e elements) t (one_tells (ltb e elements && t) n is some) in
    record { real = ltb-true e elements both.0; stands = both.1 }

pub lies_is : (k : ℕ) (p : ElementPlace) → lies_at k p ≡ true → p ≡ under_lock k
lies_is k (under_lock j) is = ap under_lock (eqb-true j k is)
lies_is k (carried cpu) is = absurd cc

pub lies_here : (k : ℕ) → lies_at k (under_lock k) ≡ true
lies_here k = eq-eqb k k refl

pub lies_elsewhere : (j k : ℕ) → j ≢ k → lies_at j (under_lock k) ≡ false
lies_elsewhere j k apart = ne_eqb k j (λ is. apart (sym is))

pub free_is : (o : Owner) → is_free o ≡ true → o ≡ owners.Free
free_is owners.Free is = refl
free_is (owners.Bucket bucket) is = absurd cc
free_is (owners.Hand cpu) is = absurd cc

pub bucket_is : (bucket : ℕ) (o : Owner) → is_in_bucket bucket o ≡ true → o ≡ owners.Bucket bucket
bucket_is bucket owners.Free is = absurd cc
bucket_is bucket (owners.Bucket b) is = ap owners.Bucket (eqb-true b bucket is)
bucket_is bucket (owners.Hand cpu) is = absurd cc

pub head_is_in : (e : ℕ) (xs : List ℕ) → IsHead e xs → IsIn e xs
head_is_in e [] head = absurd head
head_is_in e (x ∷ xs) head =
    subst (λ (y : ℕ). 0 < times e (y ∷ xs)) (sym head) (let more = times_cons_same e xs in omega arith)

-- Rows

pub rows_cons_first : (x e : ℕ) (first second : List ℕ) → x ≢ e → times x ((e ∷ first) ++ second) ≡ times x (first ++ second)
rows_cons_first x e first second other = times_cons_other x e (first ++ second) other

pub rows_cons_second : (x e : ℕ) (first second : List ℕ) → x ≢ e → times x (first ++ e ∷ second) ≡ times x (first ++ second)
rows_cons_second x e first second other =
    times_append x first (e ∷ second) ∙ (ap (λ (n : ℕ). times x first + n) (times_cons_other x e second other) ∙ sym (times_append x first second))

pub rows_with_row_other : (lock : DomainId) (x e : ℕ) (l : Lists) → x ≢ e → times x (rows (with_row lock e l)) ≡ times x (rows l)
rows_with_row_other (Local cpu) x e l other = rows_cons_first x e l.first l.second other
rows_with_row_other Global x e l other = rows_cons_second x e l.first l.second other
rows_with_row_other (CpuLru cpu) x e l other = rows_cons_second x e l.first l.second other
rows_with_row_other (Bucket bucket) x e l other = rows_cons_first x e l.first l.second other
rows_with_row_other (Freelist cpu) x e l other = refl

pub rows_cons_second_same : (e : ℕ) (first second : List ℕ) → times e (first ++ e ∷ second) ≡ suc (times e (first ++ second))
rows_cons_second_same e first second =
    let whole = times_append e first (e ∷ second) in
    let parts = times_append e first second in
    let more = times_cons_same e second in
    omega arith

-- whether a lock has rows but those of a bucket
abbrev pub is_listing : DomainId → Bool
is_listing (Local cpu) = true
is_listing Global = true
is_listing (CpuLru cpu) = true
is_listing (Bucket bucket) = false
is_listing (Freelist cpu) = false

pub rows_with_row_same : (lock : DomainId) (e : ℕ) (l : Lists) → is_bucket lock ≡ false → times e (rows (with_row lock e l)) ≡ times e (rows l) + one (is_listing lock)
rows_with_row_same (Local cpu) e l is = let more = times_cons_same e (l.first ++ l.second) in omega arith
rows_with_row_same Global e l is = let more = rows_cons_second_same e l.first l.second in omega arith
rows_with_row_same (CpuLru cpu) e l is = let more = rows_cons_second_same e l.first l.second in omega arith
rows_with_row_same (Bucket bucket) e l is = absurd cc
rows_with_row_same (Freelist cpu) e l is = omega arith

pub free_with_row : (lock : DomainId) (e : ℕ) (l : Lists) → (with_row lock e l).free ≡ l.free
free_with_row (Local cpu) e l = refl
free_with_row Global e l = refl
free_with_row (CpuLru cpu) e l = refl
free_with_row (Bucket bucket) e l = refl
free_with_row (Freelist cpu) e l = refl

pub rows_without_row_other : (x e : ℕ) (l : Lists) → x ≢ e → times x (rows (without_row e l)) ≡ times x (rows l)
rows_without_row_other x e l other =
    let first = times_without_other x e l.first other in
    let second = times_without_other x e l.second other in
    let after = times_append x (without e l.first) (without e l.second) in
    let before = times_append x l.first l.second in
    omega arith

pub rows_without_row_same : (e : ℕ) (l : Lists) → times e (rows l) ≤ 1 → times e (rows (without_row e l)) ≡ 0
rows_without_row_same e l once =
    let first = times_without_same e l.first in
    let second = times_without_same e l.second in
    let after = times_append e (without e l.first) (without e l.second) in
    let before = times_append e l.first l.second in
    omega arith

-- Where an element has a row

pub no_row_free : (lru : Bool) (lock : DomainId) (here : Bool) → has_row lru lock owners.Free here ≡ false
no_row_free lru (Local cpu) here = and_right lru false refl
no_row_free lru Global here = and_right lru false refl
no_row_free lru (CpuLru cpu) here = and_right lru false refl
no_row_free lru (Bucket bucket) here = refl
no_row_free lru (Freelist cpu) here = and_right lru false refl

-- under a lock that is no bucket's, an element that lies elsewhere has no row
pub no_row_away : (lru : Bool) (lock : DomainId) (o : Owner) → is_bucket lock ≡ false → has_row lru lock o false ≡ false
no_row_away lru (Local cpu) o is = and_right lru (not (is_free o) && false) (and_right (not (is_free o)) false refl)
no_row_away lru Global o is = and_right lru (not (is_free o) && false) (and_right (not (is_free o)) false refl)
no_row_away lru (CpuLru cpu) o is = and_right lru (not (is_free o) && false) (and_right (not (is_free o)) false refl)
no_row_away lru (Bucket bucket) o is = absurd cc
no_row_away lru (Freelist cpu) o is = and_right lru (not (is_free o) && false) (and_right (not (is_free o)) false refl)

-- two owners have the same row where both or none is free, and they are alike in each bucket
pub same_row : (lru : Bool) (lock : DomainId) (o o' : Owner) (here : Bool) → is_free o ≡ is_free o' → ((bucket : ℕ) → lock ≡ Bucket bucket → is_in_bucket bucket o ≡ is_in_bucket bucket o') → has_row lru lock o here ≡ has_row lru lock o' here
same_row lru (Local cpu) o o' here free inside = ap (λ f. lru && (not f && here)) free
same_row lru Global o o' here free inside = ap (λ f. lru && (not f && here)) free
same_row lru (CpuLru cpu) o o' here free inside = ap (λ f. lru && (not f && here)) free
same_row lru (Bucket bucket) o o' here free inside = inside bucket refl
same_row lru (Freelist cpu) o o' here free inside = ap (λ f. lru && (not f && here)) free

-- a hand has no row away, and none at all on a map that doesn't evict
pub no_row_hand_away : (lru : Bool) (lock : DomainId) (cpu : ℕ) → has_row lru lock (owners.Hand cpu) false ≡ false
no_row_hand_away lru (Local c) cpu = and_right lru false refl
no_row_hand_away lru Global cpu = and_right lru false refl
no_row_hand_away lru (CpuLru c) cpu = and_right lru false refl
no_row_hand_away lru (Bucket bucket) cpu = refl
no_row_hand_away lru (Freelist c) cpu = and_right lru false refl

pub no_row_hand_plain : (lock : DomainId) (cpu : ℕ) (here : Bool) → has_row false lock (owners.Hand cpu) here ≡ false
no_row_hand_plain (Local c) cpu here = refl
no_row_hand_plain Global cpu here = refl
no_row_hand_plain (CpuLru c) cpu here = refl
no_row_hand_plain (Bucket bucket) cpu here = refl
no_row_hand_plain (Freelist c) cpu here = refl

-- what a row of an element that isn't free tells, under a lock that is no bucket's
pub row_lies : (lru : Bool) (lock : DomainId) (o : Owner) (here : Bool) → is_bucket lock ≡ false → has_row lru lock o here ≡ true → here ≡ true
row_lies lru (Local cpu) o here is row = (and_parts (not (is_free o)) here (and_parts lru (not (is_free o) && here) row).1).1
row_lies lru Global o here is row = (and_parts (not (is_free o)) here (and_parts lru (not (is_free o) && here) row).1).1
row_lies lru (CpuLru cpu) o here is row = (and_parts (not (is_free o)) here (and_parts lru (not (is_free o) && here) row).1).1
row_lies lru (Bucket bucket) o here is row = absurd cc
row_lies lru (Freelist cpu) o here is row = (and_parts (not (is_free o)) here (and_parts lru (not (is_free o) && here) row).1).1

-- the row of an element that isn't free and lies under this lock
pub row_of_lying : (lru : Bool) (lock : DomainId) (o : Owner) → is_bucket lock ≡ false → is_free o ≡ false → lru ≡ is_listing lock → has_row lru lock o true ≡ is_listing lock
row_of_lying lru (Local cpu) o is taken listing = rw (taken, listing) refl
row_of_lying lru Global o is taken listing = rw (taken, listing) refl
row_of_lying lru (CpuLru cpu) o is taken listing = rw (taken, listing) refl
row_of_lying lru (Bucket bucket) o is taken listing = absurd cc
row_of_lying lru (Freelist cpu) o is taken listing = rw listing refl

-- a map that evicts has lists, and the others freelists
pub lock_listing : (shape : Shape) (lock : DomainId) → HasBounds shape → IsTrue (is_lock shape lock) → is_bucket lock ≡ false → is_lru shape.kind ≡ is_listing lock
lock_listing shape (Local cpu) bounds is no_bucket = bounds.common_evicts (and_parts shape.common (ltb cpu shape.cpus) is).0
lock_listing shape Global bounds is no_bucket = bounds.common_evicts is
lock_listing shape (CpuLru cpu) bounds is no_bucket = (and_parts (is_lru shape.kind) (not shape.common) (and_parts _ (ltb cpu shape.cpus) is).0).0
lock_listing shape (Bucket bucket) bounds is no_bucket = absurd cc
lock_listing shape (Freelist cpu) bounds is no_bucket =
    ⊎_elim
    (λ (lru : is_lru shape.kind ≡ true). let none : not (is_lru shape.kind) ≡ true = (and_parts (not (is_lru shape.kind)) (ltb cpu shape.cpus) is).0 in let no_lru : false ≡ true = rw lru at none in absurd cc)
    (λ (plain : is_lru shape.kind ≡ false). plain)
    (cases_Bool (is_lru shape.kind))

-- What each lock has of its own stays

pub fit_with_row : (lock : DomainId) (e : ℕ) (l : Lists) → HasOnlyItsLists lock l → HasOnlyItsLists lock (with_row lock e l)
fit_with_row (Local cpu) e l fit = fit
fit_with_row Global e l fit = fit
fit_with_row (CpuLru cpu) e l fit = fit
fit_with_row (Bucket bucket) e l fit = fit
fit_with_row (Freelist cpu) e l fit = fit

pub fit_with_free : (lock : DomainId) (e : ℕ) (l : Lists) → is_bucket lock ≡ false → HasOnlyItsLists lock l → HasOnlyItsLists lock (with_free e l)
fit_with_free (Local cpu) e l is fit = fit
fit_with_free Global e l is fit = fit
fit_with_free (CpuLru cpu) e l is fit = fit
fit_with_free (Bucket bucket) e l is fit = absurd cc
fit_with_free (Freelist cpu) e l is fit = fit

pub fit_without_free : (lock : DomainId) (e : ℕ) (l : Lists) → HasOnlyItsLists lock l → HasOnlyItsLists lock (without_free e l)
fit_without_free (Local cpu) e l fit = fit
fit_without_free Global e l fit = fit
fit_without_free (CpuLru cpu) e l fit = fit
fit_without_free (Bucket bucket) e l fit = (ap (without e) fit.0, fit.1)
fit_without_free (Freelist cpu) e l fit = fit

pub fit_without_row : (lock : DomainId) (e : ℕ) (l : Lists) → HasOnlyItsLists lock l → HasOnlyItsLists lock (without_row e l)
fit_without_row (Local cpu) e l fit = ap (without e) fit
fit_without_row Global e l fit = fit
fit_without_row (CpuLru cpu) e l fit = fit
fit_without_row (Bucket bucket) e l fit = (fit.0, ap (without e) fit.1)
fit_without_row (Freelist cpu) e l fit = (ap (without e) fit.0, ap (without e) fit.1)

-- Cursors stay inside

cursor_over : (cursor : Option ℕ) (e : ℕ) (second : List ℕ) → IfSome cursor (λ x. IsIn x second) → IfSome cursor (λ x. IsIn x (e ∷ second))
cursor_over None e second inside = tt
cursor_over (Some x) e second inside = by_test e x (λ b. 0 < cond b (suc (times x second)) (times x second)) (λ _. omega arith) (λ _. inside)

pub cursor_with_row : (lock : DomainId) (e : ℕ) (l : Lists) → HasCursorInside l → HasCursorInside (with_row lock e l)
cursor_with_row (Local cpu) e l inside = inside
cursor_with_row Global e l inside = cursor_over l.cursor e l.second inside
cursor_with_row (CpuLru cpu) e l inside = cursor_over l.cursor e l.second inside
cursor_with_row (Bucket bucket) e l inside = inside
cursor_with_row (Freelist cpu) e l inside = inside

found_inside : (found : Option ℕ) (e : ℕ) (xs : List ℕ) → neighbour e xs ≡ found → IfSome found (λ x. IsIn x (without e xs))
found_inside None e xs is = tt
found_inside (Some p) e xs is = before_stays None e p xs is (λ none. cc)

cursor_off : (cursor : Option ℕ) (e : ℕ) (second : List ℕ) → IfSome cursor (λ x. IsIn x second) → IfSome (cursor_without e cursor second) (λ x. IsIn x (without e second))
cursor_off None e second inside = tt
cursor_off (Some x) e second inside =
    by_test x e (λ b. IfSome (cond b (neighbour e second) (Some x)) (λ y. IsIn y (without e second)))
    (λ _. found_inside (neighbour e second) e second refl)
    (λ other. subst (λ (n : ℕ). 0 < n) (sym (times_without_other x e second other)) inside)

pub cursor_without_row : (e : ℕ) (l : Lists) → HasCursorInside l → HasCursorInside (without_row e l)
cursor_without_row e l inside = cursor_off l.cursor e l.second inside
