-- From the traces of calls to what their turns are: evictions of listed elements, and turns at their places.
use Rattle.std.proofs.Common.{◌≡◌, ℕ, suc, ◌<◌, Bool, true, false, ◌||◌, cond, eqb, List, [], ◌∷◌, ◌++◌, map, filter, Option, None, Some, refl, ap, ◌∙◌, sym, subst, arith}
use Rattle.std.specs.Prelude.{All, IsTrue, option_map, unwrap_or, find}
use Rattle.std.specs.List.{list_any, flat_map}
use Rattle.std.proofs.lemmas.Bool.{eqb-true}
use Rattle.std.proofs.lemmas.List.{map-append}
use Rattle.std.proofs.lemmas.List.Elements.{All-head, All-tail}
use Rattle.map_types.specs.declared.attr.Shape.{Shape}
use Rattle.map_types.specs.declared.row.Row.{Row}
use Rattle.map_types.specs.Shape.{HasBounds}
use Rattle.map_types.specs.Listed.{elements_of}
use Rattle.map_types.specs.ElementLists.{IsIn, times}
use Rattle.map_types.proofs.RowLemmas.{by_test}
use Rattle.key_hash.specs.Bucket.{bucket_number}
use Rattle.key_hash.proofs.Buckets.{bucket_number-lt}
use Rattle.place_words.specs.declared.bucket_part.Seen.{Seen}
use Rattle.place_words.specs.declared.bucket_part.Seen.TheVariants.{Removed, Held}
use Rattle.place_words.specs.declared.visits.Look.{Look}
use Rattle.place_words.specs.declared.visits.ShrinkNote.{ShrinkNote}
use Rattle.place_words.specs.declared.visits.Try.{Try}
use Rattle.place_words.specs.Logs.{State, turned, all_turned, placed}
use Rattle.place_words.specs.Sets.{has_row}
use Rattle.place_words.specs.Shrinking.{look_removed, try_removed, freed}
use Rattle.place_words.specs.Takings.{Chase, evicts, stored_hash, look_probes, walk_probes, shrink_probes, freed_by}
use Rattle.place_words.specs.Turns.{Turn, TurnAt, turns_of}
use Rattle.place_words.proofs.Splits.{find_passes}
use Rattle.place_words.proofs.Cursors.{find_inside}
use Rattle.core_runs.proofs.Evictions.{evicting, AreBuckets}
use Rattle.core_runs.proofs.OwnNest.{names}

-- each of these was removed
abbrev pub AreTaken : List Try → Type 0
AreTaken probes = All (λ (probe : Try). IsTrue (try_removed probe)) probes

seen_removed : (seen : Seen) → IsTrue (Rattle.place_words.specs.Shrinking.is_removed seen) → seen ≡ Removed
seen_removed Removed is = refl
seen_removed (Held c) is = absurd cc

hash_listed : (e hash : ℕ) (rows : List Row) → stored_hash e rows ≡ Some hash → IsIn e (elements_of rows)
hash_listed e hash rows is = go (find (λ (row : Row). eqb row.element e) rows) refl is
  where
    go : (found : Option Row) → find (λ (row : Row). eqb row.element e) rows ≡ found → option_map (λ (row : Row). row.hash) found ≡ Some hash → IsIn e (elements_of rows)
    go None found none = absurd cc
    go (Some row) found some = subst (λ (x : ℕ). IsIn x (elements_of rows)) (eqb-true row.element e (find_passes (λ (r : Row). eqb r.element e) rows row found)) (find_inside (λ (r : Row). eqb r.element e) rows row found)

-- The turns of a chase evict the probed elements, each listed among the rows, from buckets of the map.
pub record IsChaseOf (shape : Shape) (rows : List Row) (probes : List Try) (turns : List Turn) : Type 0 where
  pub es : List (ℕ × ℕ)
  pub turns_are : turns ≡ evicting es
  pub names_are : names es ≡ map (λ (probe : Try). probe.element) probes
  pub buckets : AreBuckets shape es
  pub listed : (x : ℕ) → IsIn x (names es) → IsIn x (elements_of rows)

pub chase_of : (shape : Shape) → HasBounds shape → (rows : List Row) (probes : List Try) (turns : List Turn) → AreTaken probes → Chase shape rows probes turns → IsChaseOf shape rows probes turns
chase_of shape bounds rows [] [] taken chase = record { es = []; turns_are = refl; names_are = refl; buckets = tt; listed = λ x inside. absurd (omega (arith, inside)) }
chase_of shape bounds rows [] (turn ∷ turns) taken chase = absurd chase
chase_of shape bounds rows (probe ∷ probes) [] taken chase = absurd chase
chase_of shape bounds rows (probe ∷ probes) (turn ∷ turns) taken chase =
    let rest = chase_of shape bounds rows probes turns (All-tail (λ (p : Try). IsTrue (try_removed p)) probe probes taken) chase.1 in
    first (stored_hash probe.element rows) refl chase.0 (seen_removed probe.probed (All-head (λ (p : Try). IsTrue (try_removed p)) probe probes taken)) rest
  where
    first : (found : Option ℕ) → stored_hash probe.element rows ≡ found → option_map (evicts shape probe) found ≡ Some turn → probe.probed ≡ Removed → IsChaseOf shape rows probes turns → IsChaseOf shape rows (probe ∷ probes) (turn ∷ turns)
    first None is none seen rest = absurd cc
    first (Some hash) is some seen rest = record {
      es = (probe.element, bucket_number hash shape.buckets) ∷ rest.es;
      turns_are =
          let one : evicts shape probe hash ≡ turn = Rattle.std.proofs.lemmas.Option.same_Some (evicts shape probe hash) turn some in
          ap (λ (t : Turn). t ∷ turns) (sym one)
          ∙ ap (λ (p : Seen). Rattle.place_words.specs.Turns.on_lock (Rattle.map_types.specs.declared.kind.DomainId.TheVariants.Bucket (bucket_number hash shape.buckets)) (Rattle.place_words.specs.declared.history.Part.TheVariants.Bucket (Rattle.place_words.specs.declared.bucket_part.BucketPart.TheVariants.Evict probe.element p)) ∷ turns) seen
          ∙ ap (λ (l : List Turn). evicting ((probe.element, bucket_number hash shape.buckets) ∷ []) ++ l) rest.turns_are;
      names_are = ap (λ (l : List ℕ). probe.element ∷ l) rest.names_are;
      buckets = (bucket_number-lt hash shape.buckets bounds.buckets_power, rest.buckets);
      listed = λ x. by_test probe.element x (λ b. 0 < cond b (suc (times x (names rest.es))) (times x (names rest.es)) → IsIn x (elements_of rows))
          (λ same some_there. subst (λ (y : ℕ). IsIn y (elements_of rows)) same (hash_listed probe.element hash rows is))
          (λ other inside. rest.listed x inside);
    }

-- what a shrink freed is what it probed, where all were removed
tries_names : (forced : List Try) → AreTaken forced → map (λ (try : Try). try.element) (filter try_removed forced) ≡ map (λ (probe : Try). probe.element) forced
tries_names [] taken = refl
tries_names (attempt ∷ forced) taken =
    ap (λ (b : Bool). map (λ (try : Try). try.element) (cond b (attempt ∷ filter try_removed forced) (filter try_removed forced))) (All-head (λ (p : Try). IsTrue (try_removed p)) attempt forced taken)
    ∙ ap (λ (l : List ℕ). attempt.element ∷ l) (tries_names forced (All-tail (λ (p : Try). IsTrue (try_removed p)) attempt forced taken))

look_names : (looks : List Look) (forced : List Try) → AreTaken (walk_probes looks forced) → freed looks forced ≡ map (λ (probe : Try). probe.element) (walk_probes looks forced)
look_names [] forced taken = tries_names forced taken
look_names (look ∷ looks) forced taken = step look.probed taken (λ rest. look_names looks forced rest)
  where
    step : (o : Option Seen)
        → AreTaken ((unwrap_or (option_map (λ (seen : Seen). (record { element = look.element; probed = seen }) ∷ []) o) [] ++ flat_map look_probes looks) ++ forced)
        → (AreTaken (walk_probes looks forced) → freed looks forced ≡ map (λ (probe : Try). probe.element) (walk_probes looks forced))
        → map (λ (l : Look). l.element) (cond (unwrap_or (option_map Rattle.place_words.specs.Shrinking.is_removed o) false) (look ∷ filter look_removed looks) (filter look_removed looks)) ++ map (λ (try : Try). try.element) (filter try_removed forced)
        ≡ map (λ (probe : Try). probe.element) ((unwrap_or (option_map (λ (seen : Seen). (record { element = look.element; probed = seen }) ∷ []) o) [] ++ flat_map look_probes looks) ++ forced)
    step None all rest = rest all
    step (Some Removed) all rest = ap (λ (l : List ℕ). look.element ∷ l) (rest (All-tail (λ (p : Try). IsTrue (try_removed p)) (record { element = look.element; probed = Removed }) (walk_probes looks forced) all))
    step (Some (Held c)) all rest = absurd (let held = All-head (λ (p : Try). IsTrue (try_removed p)) (record { element = look.element; probed = Held c }) (walk_probes looks forced) all in cc)

pub freed_names : (shrink : Option ShrinkNote) → AreTaken (shrink_probes shrink) → freed_by shrink ≡ map (λ (probe : Try). probe.element) (shrink_probes shrink)
freed_names None taken = refl
freed_names (Some note) taken = look_names note.looks note.forced taken

-- an element that has a row
pub row_inside : (e : ℕ) (rows : List Row) → has_row e rows ≡ true → IsIn e (elements_of rows)
row_inside e [] is = absurd cc
row_inside e (row ∷ rows) is =
    by_test row.element e (λ b. (b || has_row e rows) ≡ true → 0 < cond b (suc (times e (elements_of rows))) (times e (elements_of rows)))
    (λ same some. omega arith)
    (λ other later. row_inside e rows later) is

-- Turns at their places

pub turns_split : (xs ys : List TurnAt) → turns_of (xs ++ ys) ≡ turns_of xs ++ turns_of ys
turns_split xs ys = map-append (λ (at : TurnAt). at.turn) xs ys

-- a part of turns at their places is at its place
pub record ArePlaced (shape : Shape) (cpu number : ℕ) (state : State) (xs ys : List TurnAt) : Type 0 where
  pub first : xs ≡ placed shape cpu number (turns_of xs) state
  pub second : ys ≡ placed shape cpu number (turns_of ys) (all_turned shape cpu number (turns_of xs) state)

pub head_is : {A : Type 0} (x y : A) (xs ys : List A) → x ∷ xs ≡ y ∷ ys → x ≡ y
head_is {A = A} x y xs ys same = same_Some' (ap head same)
  where
    head : List A → Option A
    head [] = None
    head (z ∷ zs) = Some z

    same_Some' : Some x ≡ Some y → x ≡ y
    same_Some' is = Rattle.std.proofs.lemmas.Option.same_Some x y is

pub tail_is : {A : Type 0} (x y : A) (xs ys : List A) → x ∷ xs ≡ y ∷ ys → xs ≡ ys
tail_is {A = A} x y xs ys same = ap (λ (l : List A). Rattle.std.specs.Prelude.drop 1 l) same

pub placed_split : (shape : Shape) (cpu number : ℕ) (turns : List Turn) (state : State) (xs ys : List TurnAt) → placed shape cpu number turns state ≡ xs ++ ys → ArePlaced shape cpu number state xs ys
placed_split shape cpu number turns state [] ys is =
    record { first = refl; second = sym is ∙ ap (λ (l : List Turn). placed shape cpu number l state) (sym (Rattle.place_words.proofs.PlacedLaws.placed_turns shape cpu number turns state) ∙ ap turns_of is) }
placed_split shape cpu number [] state (x ∷ xs) ys is = absurd cc
placed_split shape cpu number (turn ∷ turns) state (x ∷ xs) ys is =
    let here = head_is (record { turn = turn; earlier = state.logs turn.lock }) x (placed shape cpu number turns (turned shape cpu number turn state)) (xs ++ ys) is in
    let rest = placed_split shape cpu number turns (turned shape cpu number turn state) xs ys (tail_is (record { turn = turn; earlier = state.logs turn.lock }) x (placed shape cpu number turns (turned shape cpu number turn state)) (xs ++ ys) is) in
    subst (λ (at : TurnAt). ArePlaced shape cpu number state (at ∷ xs) ys) here
    (record { first = ap (λ (l : List TurnAt). (record { turn = turn; earlier = state.logs turn.lock }) ∷ l) rest.first; second = rest.second })
