-- A turn of a CPU's own list set with the evictions inside it: what it freed is settled there, and what it gave out is claimed.
use Rattle.std.proofs.Common.{◌≡◌, ℕ, suc, ◌+◌, ◌<◌, ◌≤◌, Bool, true, false, ◌&&◌, not, cond, eqb, ltb, List, [], ◌∷◌, ◌++◌, length, map, drop, reverse, Option, None, Some, refl, ap, ◌∙◌, sym, subst, inr, ⊎_elim, arith}
use Rattle.std.specs.Prelude.{IsTrue, slice_get, option_to_list}
use Rattle.std.proofs.lemmas.Bool.{cases_Bool, cases_eq, cond-true, cond-false, eq-eqb}
use Rattle.std.proofs.lemmas.List.{append_assoc, map-append, reverse-append}
use Rattle.map_types.specs.declared.attr.Shape.{Shape}
use Rattle.map_types.specs.declared.kind.DomainId.{DomainId}
use Rattle.map_types.specs.declared.kind.DomainId.TheVariants.{CpuLru, Bucket}
use Rattle.map_types.specs.Kind.{is_lru}
use Rattle.map_types.specs.Shape.{HasBounds}
use Rattle.map_types.specs.ElementLists.{one, IsIn, times, without}
use Rattle.map_types.proofs.RowLemmas.{by_test, times_append}
use Rattle.place_words.specs.declared.history.Part.TheVariants as parts
use Rattle.place_words.specs.declared.list_part.OwnPart.TheVariants as own
use Rattle.place_words.specs.declared.owner.Owner.TheVariants as owners
use Rattle.place_words.specs.declared.visits.ShrinkNote.{ShrinkNote}
use Rattle.place_words.specs.declared.visits.Visit.{Visit}
use Rattle.place_words.specs.Histories.{Content, in_own, content_after}
use Rattle.place_words.specs.Locks.{is_lock, is_same_lock, lock_number}
use Rattle.place_words.specs.Moves.{elements_in}
use Rattle.place_words.specs.Openings.{is_free}
use Rattle.place_words.specs.RowMoves.{IsOnce}
use Rattle.place_words.specs.Sets.{ListSet, AllowsOnOwn, own_after, own_scans, rotated_set, shrunk_into_free}
use Rattle.place_words.specs.Takings.{freed_by}
use Rattle.place_words.specs.Turns.{Turn, on_lock, after_turn, after_turns, AreAllowed}
use Rattle.place_words.proofs.KeepLaws.{keeps_elements}
use Rattle.place_words.proofs.LockLemmas.{same_lock}
use Rattle.place_words.proofs.Settled.{turned_here, turned_elsewhere}
use Rattle.place_words.specs.declared.step.Lists.{Lists}
use Rattle.place_words.specs.declared.step.Step.TheVariants as steps
use Rattle.place_words.specs.Places.{has_row, lies_at}
use Rattle.place_words.specs.State.{State, rows, HasCursorInside}
use Rattle.place_words.specs.Steps.{without_free, with_row}
use Rattle.place_words.proofs.ElementLemmas.{times_cons_same, times_cons_other}
use Rattle.place_words.proofs.RowLemmas.{rows_with_row_same, rows_with_row_other}
use Rattle.place_words.specs.Interleaving.{Drawn, Event, does, set_lists, claims, lists_in, interleaved, AreEnabled}
use Rattle.core_runs.proofs.Nests.{stamped, AreFrom, from_less, AreOfRank, drawn, nest, begun_first, begins, inside_one, nest_ends}
use Rattle.core_runs.proofs.Evictions.{Hands, evicting, evicting_beside, AreBuckets, onto, evicting_runs}
use Rattle.core_runs.proofs.OwnTurns.{settled_all, without_all, stacked, settled_free, CanSettleAll, settled_rows, settling_runs}
use Rattle.core_runs.proofs.PlainGoes.{Goes, stamped_both}
use Rattle.core_runs.proofs.PlainRuns.{core_lists, tied_alike, then_alike}
use Rattle.core_runs.proofs.Tied.{IsTied, with_lists, held_first, lists_here, free_real, under, take_tied, claim_tied, give_tied}

abbrev pub names : List (ℕ × ℕ) → List ℕ
names es = map (λ (e : ℕ × ℕ). e.0) es

pub evicting_ranks : (es : List (ℕ × ℕ)) → AreOfRank 3 (evicting es)
evicting_ranks [] = tt
evicting_ranks (e ∷ es) = (refl, evicting_ranks es)

pub evicting_length : (es : List (ℕ × ℕ)) → length (evicting es) ≡ length es
evicting_length [] = refl
evicting_length (e ∷ es) = ap suc (evicting_length es)

-- evictions leave the lists
pub evicting_else : (shape : Shape) (cpu : ℕ) (lock : DomainId) → ((bucket : ℕ) → is_same_lock (Bucket bucket) lock ≡ false) → (es : List (ℕ × ℕ)) (contents : DomainId → Content) → after_turns shape cpu contents (evicting es) lock ≡ contents lock
evicting_else shape cpu lock apart [] contents = refl
evicting_else shape cpu lock apart (e ∷ es) contents =
    evicting_else shape cpu lock apart es _ ∙ turned_elsewhere shape cpu contents (on_lock (Bucket e.1) (parts.Bucket (Rattle.place_words.specs.declared.bucket_part.BucketPart.TheVariants.Evict e.0 Rattle.place_words.specs.declared.bucket_part.Seen.TheVariants.Removed))) lock (apart e.1)

pub times_onto : (x : ℕ) (es : List (ℕ × ℕ)) (hand : List ℕ) → times x (onto es hand) ≡ times x (names es) + times x hand
times_onto x [] hand = omega arith
times_onto x (e ∷ es) hand =
    by_test e.0 x (λ b. times x (onto es (e.0 ∷ hand)) ≡ cond b (suc (times x (names es))) (times x (names es)) + times x hand)
    (λ same. let more : times x (e.0 ∷ hand) ≡ suc (times x hand) = subst (λ (y : ℕ). times x (y ∷ hand) ≡ suc (times x hand)) (sym same) (times_cons_same x hand) in omega (arith, times_onto x es (e.0 ∷ hand), more))
    (λ other. let stays = times_cons_other x e.0 hand (λ same. other (sym same)) in omega (arith, times_onto x es (e.0 ∷ hand), stays))

pub times_stacked : (x : ℕ) (es free : List ℕ) → times x (stacked es free) ≡ times x es + times x free
times_stacked x [] free = omega arith
times_stacked x (e ∷ es) free =
    by_test e x (λ b. times x (stacked es (e ∷ free)) ≡ cond b (suc (times x es)) (times x es) + times x free)
    (λ same. let more : times x (e ∷ free) ≡ suc (times x free) = subst (λ (y : ℕ). times x (y ∷ free) ≡ suc (times x free)) (sym same) (times_cons_same x free) in omega (arith, times_stacked x es (e ∷ free), more))
    (λ other. let stays = times_cons_other x e free (λ same. other (sym same)) in omega (arith, times_stacked x es (e ∷ free), stays))

pub stacked_turned : (es free : List ℕ) → reverse es ++ free ≡ stacked es free
stacked_turned [] free = refl
stacked_turned (e ∷ es) free = ap (λ (l : List ℕ). l ++ free) (reverse-append (e ∷ []) es) ∙ append_assoc (reverse es) (e ∷ []) free ∙ stacked_turned es (e ∷ free)

-- what is free after a shrink of the own set
pub free_then : (shrink : Option ShrinkNote) (active inactive : List Visit) (set : ListSet) → (shrunk_into_free shrink (rotated_set own_scans active inactive set)).free ≡ stacked (freed_by shrink) set.free
free_then None active inactive set = refl
free_then (Some note) active inactive set = stacked_turned (freed_by (Some note)) set.free

pub first_got : (xs : List ℕ) (g : ℕ) → slice_get xs 0 ≡ Some g → xs ≡ g ∷ drop 1 xs
first_got [] g is = absurd cc
first_got (x ∷ xs) g is = ap (λ (y : ℕ). y ∷ xs) cc

pub none_got : (xs : List ℕ) → slice_get xs 0 ≡ None → xs ≡ []
none_got [] is = refl
none_got (x ∷ xs) is = absurd cc

pub free_apart : (real free here lru : Bool) → one (real && (free && here)) + one (real && (lru && (not free && here))) ≤ 1
free_apart false free here lru = omega arith
free_apart true true true true = omega arith
free_apart true true true false = omega arith
free_apart true true false true = omega arith
free_apart true true false false = omega arith
free_apart true false true true = omega arith
free_apart true false true false = omega arith
free_apart true false false true = omega arith
free_apart true false false false = omega arith

-- each element lies in the own set once at most, free or listed
pub own_once : {shape : Shape} (bounds : HasBounds shape) {cpu : ℕ} (within : cpu < shape.cpus) {held : List DomainId} {lists : DomainId → Lists} {Known : ℕ → ℕ → Type 0} {s : State} → IsTied shape cpu held lists Known s
    → (c : ℕ) → IsTrue (is_lock shape (CpuLru c)) → (set : ListSet) → lists (CpuLru c) ≡ set_lists set → IsOnce (in_own set)
own_once {shape = shape} bounds within {s = s} tied c is set lies e =
    let number : ℕ = lock_number shape (CpuLru c) in
    let at = under bounds within tied (CpuLru c) is ∙ lies in
    let free : times e (s.lists number).free ≡ times e set.free = ap (λ (l : Lists). times e l.free) at in
    let row : times e (rows (s.lists number)) ≡ times e (rows (set_lists set)) = ap (λ (l : Lists). times e (rows l)) at in
    let sum : times e (elements_in (in_own set)) ≡ times e set.free + times e (rows (set_lists set)) = times_append e set.free (rows (set_lists set)) in
    let told : times e (rows (s.lists number)) ≡ one (ltb e shape.elements && has_row (is_lru shape.kind) (CpuLru c) (s.owner e) (lies_at number (tied.placed.place e))) =
    subst (λ (lock : DomainId). times e (rows (s.lists number)) ≡ one (ltb e shape.elements && has_row (is_lru shape.kind) lock (s.owner e) (lies_at number (tied.placed.place e)))) (Rattle.place_words.proofs.LockLemmas.named_by_number shape (CpuLru c) is) (tied.placed.placed.rows number e) in
    let most = free_apart (ltb e shape.elements) (is_free (s.owner e)) (lies_at number (tied.placed.place e)) (is_lru shape.kind) in
    omega (arith, sum, free, row, told, most, tied.placed.placed.free number e)

module _ (shape : Shape) (cpu : ℕ) (hash : ℕ) (active inactive : List Visit) (shrink : Option ShrinkNote) where
  -- the lists of the core before the turn is given back
  abbrev pub core_then : ListSet → Option ℕ → Lists
  core_then set None = settled_all (freed_by shrink) (set_lists set)
  core_then set (Some g) = with_row (CpuLru cpu) g (without_free g (settled_all (freed_by shrink) (set_lists set)))

  same_free : (set : ListSet) (got : Option ℕ) → AllowsOnOwn (own.Turn hash active inactive shrink got) set → (core_then set got).free ≡ (set_lists (own_after (own.Turn hash active inactive shrink got) set)).free
  unfolding own_after
  same_free set None allowed =
      let all : List ℕ = stacked (freed_by shrink) set.free in
      let empty : all ≡ [] = none_got all (sym (ap (λ (xs : List ℕ). slice_get xs 0) (free_then shrink active inactive set)) ∙ sym allowed.2) in
      settled_free (freed_by shrink) (set_lists set) ∙ empty ∙ sym (ap (drop 1) (free_then shrink active inactive set ∙ empty))
  same_free set (Some g) allowed =
      let all : List ℕ = stacked (freed_by shrink) set.free in
      let first : all ≡ g ∷ drop 1 all = first_got all g (sym (ap (λ (xs : List ℕ). slice_get xs 0) (free_then shrink active inactive set)) ∙ sym allowed.2) in
      ap (without g) (settled_free (freed_by shrink) (set_lists set) ∙ first) ∙ cond-true (eqb g g) (drop 1 all) (g ∷ without g (drop 1 all)) (eq-eqb g g refl) ∙ sym (ap (drop 1) (free_then shrink active inactive set))

  same_rows : (set : ListSet) (got : Option ℕ) (hand : List ℕ) → AllowsOnOwn (own.Turn hash active inactive shrink got) set → IsOnce (in_own set) → CanSettleAll hand (set_lists set) (freed_by shrink)
      → (x : ℕ) → times x (rows (set_lists (own_after (own.Turn hash active inactive shrink got) set))) ≡ times x (rows (core_then set got))
  same_rows set got hand allowed once can x =
      let after : ListSet = own_after (own.Turn hash active inactive shrink got) set in
      let kept = keeps_elements shape cpu (parts.Own (own.Turn hash active inactive shrink got)) (in_own set) allowed once x in
      let sum_before : times x (elements_in (in_own set)) ≡ times x set.free + times x (rows (set_lists set)) = times_append x set.free (rows (set_lists set)) in
      let sum_after : times x (elements_in (in_own after)) ≡ times x after.free + times x (rows (set_lists after)) = times_append x after.free (rows (set_lists after)) in
      let free = ap (times x) (same_free set got allowed) in
      let settled = settled_rows hand (freed_by shrink) (set_lists set) can x in
      let stack = times_stacked x (freed_by shrink) set.free in
      by got refl kept sum_before sum_after free settled stack allowed
    where
      by : (g : Option ℕ) → got ≡ g → times x (elements_in (in_own (own_after (own.Turn hash active inactive shrink got) set))) + 0 ≡ times x (elements_in (in_own set)) + 0
          → times x (elements_in (in_own set)) ≡ times x set.free + times x (rows (set_lists set))
          → times x (elements_in (in_own (own_after (own.Turn hash active inactive shrink got) set))) ≡ times x (own_after (own.Turn hash active inactive shrink got) set).free + times x (rows (set_lists (own_after (own.Turn hash active inactive shrink got) set)))
          → times x (core_then set got).free ≡ times x (set_lists (own_after (own.Turn hash active inactive shrink got) set)).free
          → times x (rows (settled_all (freed_by shrink) (set_lists set))) + times x (freed_by shrink) ≡ times x (rows (set_lists set))
          → times x (stacked (freed_by shrink) set.free) ≡ times x (freed_by shrink) + times x set.free
          → AllowsOnOwn (own.Turn hash active inactive shrink got) set
          → times x (rows (set_lists (own_after (own.Turn hash active inactive shrink got) set))) ≡ times x (rows (core_then set g))
      by None is kept sum_before sum_after free settled stack allowed =
          let now : times x (core_then set None).free ≡ times x (stacked (freed_by shrink) set.free) = ap (times x) (settled_free (freed_by shrink) (set_lists set)) in
          let free_now : times x (core_then set None).free ≡ times x (set_lists (own_after (own.Turn hash active inactive shrink got) set)).free = subst (λ (g : Option ℕ). times x (core_then set g).free ≡ times x (set_lists (own_after (own.Turn hash active inactive shrink got) set)).free) is free in
          omega (arith, kept, sum_before, sum_after, free_now, settled, stack, now)
      by (Some g) is kept sum_before sum_after free settled stack allowed =
          let all : List ℕ = stacked (freed_by shrink) set.free in
          let got_there : Some g ≡ slice_get (shrunk_into_free shrink (rotated_set own_scans active inactive set)).free 0 = sym is ∙ allowed.2 in
          let first : all ≡ g ∷ drop 1 all = first_got all g (sym (ap (λ (xs : List ℕ). slice_get xs 0) (free_then shrink active inactive set)) ∙ sym got_there) in
          let core_free : (core_then set (Some g)).free ≡ drop 1 all = ap (without g) (settled_free (freed_by shrink) (set_lists set) ∙ first) ∙ cond-true (eqb g g) (drop 1 all) (g ∷ without g (drop 1 all)) (eq-eqb g g refl) in
          let now : times x (core_then set (Some g)).free ≡ times x (drop 1 all) = ap (times x) core_free in
          let whole : times x all ≡ times x (g ∷ drop 1 all) = ap (times x) first in
          let free_now : times x (core_then set (Some g)).free ≡ times x (set_lists (own_after (own.Turn hash active inactive shrink got) set)).free = subst (λ (o : Option ℕ). times x (core_then set o).free ≡ times x (set_lists (own_after (own.Turn hash active inactive shrink got) set)).free) is free in
          ⊎_elim
          (λ (same : x ≡ g).
          let more : times x (g ∷ drop 1 all) ≡ suc (times x (drop 1 all)) = subst (λ (y : ℕ). times x (y ∷ drop 1 all) ≡ suc (times x (drop 1 all))) same (times_cons_same x (drop 1 all)) in
          let row : times x (rows (core_then set (Some g))) ≡ times x (rows (settled_all (freed_by shrink) (set_lists set))) + 1 =
          subst (λ (y : ℕ). times x (rows (with_row (CpuLru cpu) y (without_free y (settled_all (freed_by shrink) (set_lists set))))) ≡ times x (rows (settled_all (freed_by shrink) (set_lists set))) + 1) same
          (rows_with_row_same (CpuLru cpu) x (without_free x (settled_all (freed_by shrink) (set_lists set))) refl) in
          omega (arith, kept, sum_before, sum_after, free_now, settled, stack, now, whole, more, row))
          (λ (other : x ≡ g → ⊥).
          let stays : times x (g ∷ drop 1 all) ≡ times x (drop 1 all) = times_cons_other x g (drop 1 all) other in
          let row = rows_with_row_other (CpuLru cpu) x g (without_free g (settled_all (freed_by shrink) (set_lists set))) other in
          omega (arith, kept, sum_before, sum_after, free_now, settled, stack, now, whole, stays, row))
          (cases_eq x g)

-- less is known
pub weaker : {shape : Shape} {cpu : ℕ} {held : List DomainId} {lists : DomainId → Lists} {Known Less : ℕ → ℕ → Type 0} {s : State} → ((c x : ℕ) → Less c x → Known c x) → IsTied shape cpu held lists Known s → IsTied shape cpu held lists Less s
weaker less tied = record { holders = tied.holders; lists_are = tied.lists_are; placed = tied.placed; known = λ c x held. tied.known c x (less c x held) }

pub put_back : (lock : DomainId) (l : Lists) (lists : DomainId → Lists) → lists lock ≡ l → (other : DomainId) → with_lists lock l lists other ≡ lists other
put_back lock l lists here other =
    ⊎_elim
    (λ (same : is_same_lock lock other ≡ true). cond-true (is_same_lock lock other) l (lists other) same ∙ sym here ∙ ap lists (Rattle.place_words.proofs.LockLemmas.one_lock lock other same))
    (λ (apart : is_same_lock lock other ≡ false). cond-false (is_same_lock lock other) l (lists other) apart)
    (cases_Bool (is_same_lock lock other))

pub put_twice : (lock : DomainId) (a b : Lists) (lists : DomainId → Lists) (other : DomainId) → with_lists lock a (with_lists lock b lists) other ≡ with_lists lock a lists other
put_twice lock a b lists other = by (is_same_lock lock other)
  where
    by : (x : Bool) → cond x a (cond x b (lists other)) ≡ cond x a (lists other)
    by true = refl
    by false = refl

-- What is given out is claimed, and the lock is given back.
claimed_gives : {shape : Shape} (bounds : HasBounds shape) {cpu : ℕ} (within : cpu < shape.cpus) → IsTrue (is_lock shape (CpuLru cpu)) → {Known : ℕ → ℕ → Type 0} (hash : ℕ) (active inactive : List Visit) (shrink : Option ShrinkNote) (got : Option ℕ) (set : ListSet)
    (lists : DomainId → Lists) (rest hand : List ℕ) {u : State} → IsTied shape cpu (CpuLru cpu ∷ []) (with_lists (CpuLru cpu) (settled_all (freed_by shrink) (set_lists set)) lists) (Hands cpu rest Known) u
    → AllowsOnOwn (own.Turn hash active inactive shrink got) set → IsOnce (in_own set) → CanSettleAll hand (set_lists set) (freed_by shrink) → HasCursorInside (set_lists (own_after (own.Turn hash active inactive shrink got) set))
    → (new : Lists) (more : List Event) → new ≡ set_lists (own_after (own.Turn hash active inactive shrink got) set)
    → ((v : State) → IsTied shape cpu [] (with_lists (CpuLru cpu) new lists) (Hands cpu (option_to_list got) Known) v → AreEnabled shape v more)
    → AreEnabled shape u (map does (claims cpu (CpuLru cpu) got) ++ does (steps.Give cpu (CpuLru cpu) new) ∷ more)
unfolding AreEnabled
claimed_gives {shape = shape} bounds {cpu = cpu} within is hash active inactive shrink None set lists rest hand tied allowed once can cursor new more new_is k =
    let lock : DomainId = CpuLru cpu in
    let l : Lists = settled_all (freed_by shrink) (set_lists set) in
    let here : with_lists lock l lists lock ≡ l = lists_here lock l lists in
    let gave = give_tied bounds within lock tied new is tt tt
    (λ e. ap (λ (x : Lists). times e x.free) new_is ∙ sym (ap (times e) (same_free shape cpu hash active inactive shrink set None allowed)) ∙ ap (λ (x : Lists). times e x.free) (sym here))
    (λ e. ap (λ (x : Lists). times e (rows x)) new_is ∙ same_rows shape cpu hash active inactive shrink set None hand allowed once can e ∙ ap (λ (x : Lists). times e (rows x)) (sym here))
    (subst HasCursorInside (sym new_is) cursor) in
    (gave.enabled, k _ (weaker (λ c x held. ⊎_elim (λ (mine : IsIn x [] × (c ≡ cpu)). absurd (omega (arith, mine.0))) (λ known. inr known) held) (tied_alike (put_twice lock new l lists) gave.tied)))
claimed_gives {shape = shape} bounds {cpu = cpu} within is {Known = Known} hash active inactive shrink (Some g) set lists rest hand {u = u} tied allowed once can cursor new more new_is k =
    let lock : DomainId = CpuLru cpu in
    let l : Lists = settled_all (freed_by shrink) (set_lists set) in
    let then : Lists = with_row lock g (without_free g l) in
    let all : List ℕ = stacked (freed_by shrink) set.free in
    let here : with_lists lock l lists lock ≡ l = lists_here lock l lists in
    let first : all ≡ g ∷ drop 1 all = first_got all g (sym (ap (λ (xs : List ℕ). slice_get xs 0) (free_then shrink active inactive set)) ∙ sym allowed.2) in
    let free_is : (with_lists lock l lists lock).free ≡ g ∷ drop 1 all = ap (λ (x : Lists). x.free) here ∙ settled_free (freed_by shrink) (set_lists set) ∙ first in
    let inside : IsIn g (with_lists lock l lists lock).free = subst (λ (xs : List ℕ). IsIn g xs) (sym free_is) (let more_there = times_cons_same g (drop 1 all) in omega (arith, more_there)) in
    let free : u.owner g ≡ owners.Free = (free_real bounds within tied lock g is inside).1 in
    let claimed = claim_tied bounds within tied lock g (drop 1 all) then (Hands cpu (g ∷ []) Known) is (held_first cpu [] lock) free_is (ap (λ (x : Lists). with_row lock g (without_free g x)) here)
    (λ c x held. ⊎_elim
    (λ (mine : IsIn x (g ∷ []) × (c ≡ cpu)). ((λ same. mine.1), (λ other. absurd (let none = times_cons_other x g [] other in let some = mine.0 in omega (arith, none, some)))))
    (λ (known : Known c x). ((λ same. (let owner : owners.Free ≡ owners.Hand c = sym free ∙ ap u.owner (sym same) ∙ (tied.known c x (inr known)).1 in absurd cc)), (λ other. inr known)))
    held) in
    let now_here : with_lists lock then (with_lists lock l lists) lock ≡ then = lists_here lock then (with_lists lock l lists) in
    let gave = give_tied bounds within lock claimed.tied new is tt tt
    (λ e. ap (λ (x : Lists). times e x.free) new_is ∙ sym (ap (times e) (same_free shape cpu hash active inactive shrink set (Some g) allowed)) ∙ ap (λ (x : Lists). times e x.free) (sym now_here))
    (λ e. ap (λ (x : Lists). times e (rows x)) new_is ∙ same_rows shape cpu hash active inactive shrink set (Some g) hand allowed once can e ∙ ap (λ (x : Lists). times e (rows x)) (sym now_here))
    (subst HasCursorInside (sym new_is) cursor) in
    (claimed.enabled, (gave.enabled, k _ (tied_alike (λ other. put_twice lock new then (with_lists lock l lists) other ∙ put_twice lock new l lists other) gave.tied)))

-- The turn of an own set, with its evictions: the element that it gives out is in the CPU's hand then.
pub record IsOwnTurn (shape : Shape) (cpu : ℕ) (contents : DomainId → Content) (es : List (ℕ × ℕ)) (hash : ℕ) (active inactive : List Visit) (shrink : Option ShrinkNote) (got : Option ℕ) : Type 0 where
  pub set : ListSet
  pub lies : contents (CpuLru cpu) ≡ in_own set
  pub buckets : AreBuckets shape es
  pub evictions : AreAllowed shape cpu contents (evicting es)
  pub allowed : AllowsOnOwn (own.Turn hash active inactive shrink got) set
  pub freed : freed_by shrink ≡ names es
  pub listed : (x : ℕ) → IsIn x (names es) → IsIn x (rows (set_lists set))
  pub cursor : HasCursorInside (set_lists (own_after (own.Turn hash active inactive shrink got) set))

pub goes_own : {shape : Shape} (bounds : HasBounds shape) {cpu : ℕ} (within : cpu < shape.cpus) → IsTrue (is_lock shape (CpuLru cpu)) → (contents : DomainId → Content) (Known : ℕ → ℕ → Type 0) (es : List (ℕ × ℕ)) (hash : ℕ) (active inactive : List Visit) (shrink : Option ShrinkNote) (got : Option ℕ)
    → IsOwnTurn shape cpu contents es hash active inactive shrink got
    → Goes shape cpu contents Known (evicting es ++ on_lock (CpuLru cpu) (parts.Own (own.Turn hash active inactive shrink got)) ∷ []) (Hands cpu (option_to_list got) Known)
unfolding AreEnabled
goes_own {shape = shape} bounds {cpu = cpu} within is contents Known es hash active inactive shrink got turn = record {
  run = λ s n call later tied from more.
      let last : ℕ = n + length es in
      let lock : DomainId = CpuLru cpu in
      let here : Turn = on_lock lock (parts.Own (own.Turn hash active inactive shrink got)) in
      let between : DomainId → Content = after_turns shape cpu contents (evicting es) in
      let now : DomainId → Content = after_turn shape cpu between here in
      let fs : List ℕ = freed_by shrink in
      let lies : between lock ≡ in_own turn.set = evicting_else shape cpu lock (λ bucket. refl) es contents ∙ turn.lies in
      let long : length (evicting es) ≡ length es = evicting_length es in
      let whole : after_turns shape cpu contents (evicting es ++ here ∷ []) ≡ now = Rattle.place_words.proofs.PlacedContents.after_both shape cpu contents (evicting es) (here ∷ []) in
      let nested : stamped n cpu call (evicting es ++ here ∷ []) ++ later ≡ nest shape cpu call here refl last n (evicting es) later =
      ap (λ (l : List Drawn). l ++ later) (stamped_both n cpu call (evicting es) (here ∷ [])) ∙ append_assoc (stamped n cpu call (evicting es)) (stamped (n + length (evicting es)) cpu call (here ∷ [])) later
      ∙ ap (λ (k : ℕ). stamped n cpu call (evicting es) ++ drawn k cpu call here ∷ later) (omega (arith, long)) in
      let later_from : AreFrom (suc last) later = from_less (suc last) (n + length (evicting es ++ here ∷ [])) later (let sum = length_more (evicting es) here in omega (arith, sum, long)) from in
      let took = take_tied bounds within tied lock is tt in
      subst (λ (l : List Drawn). AreEnabled shape s (interleaved shape contents [] l)) (sym nested)
      (subst (AreEnabled shape s) (sym (begins shape cpu call here refl contents last n 3 (evicting es) later (omega (arith, long)) (evicting_beside es) (evicting_ranks es) refl later_from)) (
        took.enabled,
        evicting_runs bounds within call (omega arith, tt) last (drawn last cpu call here ∷ later) (inside_one shape cpu call here refl 3 last later refl) es [] contents
            (weaker (λ c x held. ⊎_elim (λ (mine : IsIn x [] × (c ≡ cpu)). absurd (omega (arith, mine.0))) (λ (known : Known c x). known) held) took.tied)
            (last ∷ []) n refl (begun_first shape cpu call here refl n last) turn.buckets turn.evictions (λ x. omega arith) (λ c x known. refl)
            (λ t began has once apart held.
            let hand : List ℕ = onto es [] in
            let count : (x : ℕ) → times x hand ≡ times x (names es) = λ x. let sum = times_onto x es [] in omega (arith, sum) in
            let l : Lists = set_lists turn.set in
            let own_is : core_lists between lock ≡ l = ap lists_in lies in
            let is_once : IsOnce (in_own turn.set) = own_once bounds within held cpu is turn.set own_is in
            let row_once : (x : ℕ) → times x (rows l) ≤ 1 = λ x. let sum : times x (elements_in (in_own turn.set)) ≡ times x turn.set.free + times x (rows l) = times_append x turn.set.free (rows l) in let few = is_once x in omega (arith, sum, few) in
            let can : CanSettleAll hand l fs = record {
              once = λ x. subst (λ (f : List ℕ). times x f ≤ 1) (sym turn.freed) (let same = count x in let few = once x in omega (arith, same, few));
              in_hand = λ x inside. subst (λ (k : ℕ). 0 < k) (sym (count x)) (subst (λ (f : List ℕ). IsIn x f) turn.freed inside);
              listed = λ x inside. turn.listed x (subst (λ (f : List ℕ). IsIn x f) turn.freed inside);
              rows_once = row_once;
            } in
            let gives : List Event = does (steps.Give cpu lock (lists_in (now lock))) ∷ interleaved shape now [] later in
            let after : lists_in (now lock) ≡ set_lists (own_after (own.Turn hash active inactive shrink got) turn.set) =
            ap lists_in (turned_here shape cpu between here lock (same_lock lock) ∙ ap (content_after shape cpu here.part) lies) in
            subst (AreEnabled shape t) (sym (nest_ends shape cpu call here refl between began last last later has later_from
            ∙ ap (λ (evs : List Event). evs ++ gives) (map-append does (map (λ e. steps.Settle cpu e lock) fs) (claims cpu lock got))
            ∙ append_assoc (map does (map (λ e. steps.Settle cpu e lock) fs)) (map does (claims cpu lock got)) gives))
            (settling_runs bounds within lock is refl (held_first cpu [] lock) fs hand l (core_lists between) (map does (claims cpu lock got) ++ gives)
            (tied_alike (λ other. sym (put_back lock l (core_lists between) own_is other)) held) can once apart
            (λ u settled.
            claimed_gives bounds within is hash active inactive shrink got turn.set (core_lists between) (without_all fs hand) hand settled turn.allowed is_once can turn.cursor (lists_in (now lock)) (interleaved shape now [] later) after
            (λ v free. subst (λ (c : DomainId → Content). (w : State) → IsTied shape cpu [] (core_lists c) (Hands cpu (option_to_list got) Known) w → AreEnabled shape w (interleaved shape c [] later)) whole more v
            (tied_alike (then_alike shape cpu between here (core_lists between) (λ other away. refl)) free))))),
      ));
}
  where
    length_more : (xs : List Turn) (x : Turn) → length (xs ++ x ∷ []) ≡ suc (length xs)
    length_more [] x = refl
    length_more (y ∷ xs) x = ap suc (length_more xs x)
