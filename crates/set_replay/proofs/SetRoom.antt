-- How many elements a set has, and the room of its free list.
use Rattle.std.proofs.Common.{◌≡◌, ℕ, zero, suc, cond, ◌<◌, ◌≤◌, ◌+◌, ◌^◌, List, [], ◌∷◌, ◌++◌, length, get_or, take, drop, drop-cons, refl, ap, ◌∙◌, sym, subst, arith}
use Rattle.std.proofs.lemmas.List.{length-append, take-append-drop}
use Rattle.map_types.specs.ElementLists.{times, IsIn}
use Rattle.map_types.specs.Listed.{elements_of}
use Rattle.map_types.specs.Stored.{Stored}
use Rattle.map_types.specs.declared.row.Row.{Row}
use Rattle.map_types.proofs.RowLemmas.{by_test, times_append}
use Rattle.place_words.specs.Bodies.{numbers}
use Rattle.row_list.proofs.ElementLemmas.{times_here}
use Rattle.row_list.proofs.RowLemmas.{elements_append, room_for}
use Rattle.lru_lists.specs.Sets.{SetView, IsSet, IsListed, listed, times_listed, times_on, with_free}
use Rattle.percpu_values.specs.BodyList.{pushed}
use Rattle.place_words.specs.Sets.{ListSet, new_set}
use Rattle.set_replay.specs.Pushing.{HasFreeRoom}
use Rattle.set_replay.specs.Replayed.{Opens}

rows_few : (bound : ℕ) (rows : List Row) → bound < 2 ^ 32 → ((e : ℕ) → times e (elements_of rows) ≤ 1) → ((e : ℕ) → IsIn e (elements_of rows) → e < bound) → length rows ≤ bound
rows_few bound [] countable once below = omega arith
rows_few bound (row ∷ rows) countable once below =
    let once_behind : (e : ℕ) → times e (elements_of rows) ≤ 1 = λ e. by_test row.element e (λ b. cond b (suc (times e (elements_of rows))) (times e (elements_of rows)) ≤ 1 → times e (elements_of rows) ≤ 1) (λ _ few. omega (arith, few)) (λ _ few. few) (once e) in
    let below_behind : (e : ℕ) → IsIn e (elements_of rows) → e < bound = λ e some. below e (by_test row.element e (λ b. 0 < cond b (suc (times e (elements_of rows))) (times e (elements_of rows))) (λ _. omega arith) (λ _. some)) in
    let few = rows_few bound rows countable once_behind below_behind in
    let here = times_here row.element row.element (elements_of rows) refl in
    let one = once row.element in
    let room = room_for bound row.element rows (record { once = once_behind; below = below_behind; few = few; countable = countable }) (below row.element (omega (arith, here))) (omega (arith, here, one)) in
    omega (arith, few, room)

-- the free elements as rows
abbrev free_rows : List Stored → List Row
free_rows [] = []
free_rows (body ∷ bodies) = (record { element = body.element; hash = 0 }) ∷ free_rows bodies

free_names : (bodies : List Stored) → elements_of (free_rows bodies) ≡ numbers bodies
free_names [] = refl
free_names (body ∷ bodies) = ap (λ (l : List ℕ). body.element ∷ l) (free_names bodies)

free_long : (bodies : List Stored) → length (free_rows bodies) ≡ length bodies
free_long [] = refl
free_long (body ∷ bodies) = ap suc (free_long bodies)

abbrev all_rows : SetView → List Row
all_rows set = set.active ++ (set.inactive ++ free_rows set.free.bodies)

times_all : (e : ℕ) (set : SetView) → times e (elements_of (all_rows set)) ≡ times_on e set
times_all e set =
    let one : times e (elements_of (all_rows set)) ≡ times e (elements_of set.active) + times e (elements_of (set.inactive ++ free_rows set.free.bodies)) = ap (times e) (elements_append set.active (set.inactive ++ free_rows set.free.bodies)) ∙ times_append e (elements_of set.active) (elements_of (set.inactive ++ free_rows set.free.bodies)) in
    let two : times e (elements_of (set.inactive ++ free_rows set.free.bodies)) ≡ times e (elements_of set.inactive) + times e (elements_of (free_rows set.free.bodies)) = ap (times e) (elements_append set.inactive (free_rows set.free.bodies)) ∙ times_append e (elements_of set.inactive) (elements_of (free_rows set.free.bodies)) in
    let three = ap (times e) (free_names set.free.bodies) in
    omega (arith, one, two, three)

-- a set has no more elements than its bound
pub few_on : (set : SetView) → IsSet set → length set.active + length set.inactive + length set.free.bodies ≤ set.elements
few_on set whole =
    let few = rows_few set.elements (all_rows set) whole.countable
    (λ e. let same = times_all e set in let once = whole.once e in omega (arith, same, once))
    (λ e some. let same = times_all e set in whole.below e (omega (arith, same, some))) in
    let long : length (all_rows set) ≡ length set.active + length (set.inactive ++ free_rows set.free.bodies) = length-append set.active (set.inactive ++ free_rows set.free.bodies) in
    omega (arith, few, long, length-append set.inactive (free_rows set.free.bodies), free_long set.free.bodies)

-- so what is listed finds room on the free list
pub room_listed : (set : SetView) → IsSet set → HasFreeRoom set → length set.active + length set.inactive ≤ set.free.spare
room_listed set whole room = omega (arith, few_on set whole, room)

some_long : (e : ℕ) (rows : List Row) → IsIn e (elements_of rows) → 1 ≤ length rows
some_long e [] some = absurd (omega (arith, some))
some_long e (row ∷ rows) some = omega arith

pub room_to_push : (e : ℕ) (set : SetView) → IsSet set → HasFreeRoom set → IsListed e set → 1 ≤ set.free.spare
room_to_push e set whole room some = go (times e (elements_of set.active)) refl
  where
    go : (n : ℕ) → times e (elements_of set.active) ≡ n → 1 ≤ set.free.spare
    go zero none = let one = some_long e set.inactive (omega (arith, some, none)) in omega (arith, one, room_listed set whole room)
    go (suc n) is = let one = some_long e set.active (omega (arith, is)) in omega (arith, one, room_listed set whole room)

-- an element that is on no list finds room, too
pub room_for_new : (e : ℕ) (set : SetView) → IsSet set → HasFreeRoom set → e < set.elements → times_on e set ≡ 0 → 1 ≤ set.free.spare
room_for_new e set whole room below none =
    let all : List Row = all_rows set in
    let once : (x : ℕ) → times x (elements_of all) ≤ 1 = λ x. let same = times_all x set in let few = whole.once x in omega (arith, same, few) in
    let within : (x : ℕ) → IsIn x (elements_of all) → x < set.elements = λ x some. let same = times_all x set in whole.below x (omega (arith, same, some)) in
    let few : length all ≤ set.elements = rows_few set.elements all whole.countable once within in
    let spare = room_for set.elements e all (record { once = once; below = within; few = few; countable = whole.countable }) below (times_all e set ∙ none) in
    let long : length all ≡ length set.active + length (set.inactive ++ free_rows set.free.bodies) = length-append set.active (set.inactive ++ free_rows set.free.bodies) in
    omega (arith, spare, room, long, length-append set.inactive (free_rows set.free.bodies), free_long set.free.bodies)

-- the next element of those that are to be free isn't free yet
pub not_free_yet : (elements : ℕ) (free : List ℕ) (i left e : ℕ) (set : SetView) → ((x : ℕ) → times x free ≤ 1) → left ≡ suc i → left ≤ length free → e ≡ get_or free i 0
    → Opens elements (drop left free) set → times_on e set ≡ 0
not_free_yet elements free i left e set once left_is within is opens =
    let listed : times_listed e set ≡ 0 = ap (λ (z : ListSet). times e (elements_of z.lists.active) + times e (elements_of z.lists.inactive)) opens.is in
    let names : times e (numbers set.free.bodies) ≡ times e (drop (suc i) free) = ap (λ (z : ListSet). times e z.free) opens.is ∙ ap (λ (n : ℕ). times e (drop n free)) left_is in
    let cut : times e (drop i free) ≡ times e (e ∷ drop (suc i) free) = ap (times e) (drop-cons free i 0 (omega (arith, left_is, within)) ∙ ap (λ (x : ℕ). x ∷ drop (suc i) free) (sym is)) in
    let here = times_here e e (drop (suc i) free) refl in
    let whole : times e free ≡ times e (take i free) + times e (drop i free) = ap (times e) (sym (take-append-drop i free)) ∙ times_append e (take i free) (drop i free) in
    let few = once e in
    omega (arith, listed, names, cut, here, whole, few)

pub is_real : (elements : ℕ) (free : List ℕ) (i e : ℕ) → ((x : ℕ) → IsIn x free → x < elements) → i < length free → e ≡ get_or free i 0 → e < elements
is_real elements free i e below within is =
    let cut : times e (drop i free) ≡ times e (e ∷ drop (suc i) free) = ap (times e) (drop-cons free i 0 within ∙ ap (λ (x : ℕ). x ∷ drop (suc i) free) (sym is)) in
    let here = times_here e e (drop (suc i) free) refl in
    let whole : times e free ≡ times e (take i free) + times e (drop i free) = ap (times e) (sym (take-append-drop i free)) ∙ times_append e (take i free) (drop i free) in
    below e (omega (arith, cut, here, whole))

pub one_more_opens : (elements : ℕ) (free : List ℕ) (i left e : ℕ) (set after : SetView) (body : Stored) → ((x : ℕ) → times x free ≤ 1) → ((x : ℕ) → IsIn x free → x < elements) → left ≡ suc i → left ≤ length free → e ≡ get_or free i 0 → body.element ≡ e
    → Opens elements (drop left free) set → after ≡ with_free (pushed body set.free) set → IsSet after → Opens elements (drop i free) after
one_more_opens elements free i left e set after body once below left_is within is its opens is_after whole = record {
  is = λ k. record { lists = rows_are k; free = free_is k };
  room = subst HasFreeRoom (sym is_after) (omega (arith, opens.room, spare));
  bound = ap (λ (z : SetView). z.elements) is_after ∙ opens.bound;
  whole = whole;
}
  where
    spare : 1 ≤ set.free.spare
    spare =
        room_for_new e set opens.whole opens.room (subst (λ (n : ℕ). e < n) (sym opens.bound) (is_real elements free i e below (omega (arith, left_is, within)) is))
        (not_free_yet elements free i left e set once left_is within is opens)

    rows_are : listed after ≡ (new_set (drop i free)).lists
    rows_are = ap listed is_after ∙ ap (λ (z : ListSet). z.lists) opens.is

    free_is : numbers after.free.bodies ≡ drop i free
    free_is =
        ap (λ (z : SetView). numbers z.free.bodies) is_after
        ∙ (ap (λ (l : List ℕ). body.element ∷ l) (ap (λ (z : ListSet). z.free) opens.is ∙ ap (λ (n : ℕ). drop n free) left_is)
        ∙ (ap (λ (x : ℕ). x ∷ drop (suc i) free) (its ∙ is) ∙ sym (drop-cons free i 0 (omega (arith, left_is, within)))))
