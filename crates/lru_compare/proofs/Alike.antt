-- Strict recency answers as the run in serial order where each CPU has lists of its own, there is one, and there is room for all keys.
use Rattle.std.proofs.Common.{◌≡◌, ℕ, suc, ◌+◌, ◌≤◌, ◌<◌, Bool, true, false, not, ◌||◌, nat_lt, cond, List, [], ◌∷◌, ◌++◌, length, Option, Some, None, option_map, refl, ap, sym, arith, true≢false}
use Rattle.std.specs.Prelude.{bytes_eq, position}
use Rattle.std.specs.List.{list_any, AllByRecursion, position_or_len}
use Rattle.std.proofs.lemmas.Bool.{ltb-false}
use Rattle.std.proofs.lemmas.List.Elements.{recursion_from_All}
use Rattle.std.proofs.lemmas.Slice.Eq.{bytes_eq-Decides}
use Rattle.map_types.proofs.CreationLemmas.{bounds_of_shape}
use Rattle.map_types.specs.declared.attr.Shape.{Shape}
use Rattle.map_types.specs.declared.call.Call.{Call}
use Rattle.map_types.specs.declared.call.Verb.{Verb}
use Rattle.map_types.specs.declared.call.Verb.TheVariants as verbs
use Rattle.map_types.specs.declared.kind.MapKind.{MapKind}
use Rattle.map_types.specs.declared.kind.MapKind.TheVariants.{Hash, PercpuHash, LruHash, LruPercpuHash}
use Rattle.map_script.specs.declared.script.Script.{Script}
use Rattle.map_script.specs.WellFormed.{IsCallOn}
use Rattle.map_report.specs.Runs.{serial}
use Rattle.place_words.specs.Logs.{new_state}
use Rattle.place_words.proofs.AnyStart.{new_start}
use Rattle.lru_compare.specs.declared.run.StrictRefusal.TheVariants.{Kind, Verb as Other}
use Rattle.lru_compare.specs.Strict.{is_asked, is_lru_hash, holds_none}
use Rattle.lru_compare.specs.Run.{is_other, strict}
use Rattle.lru_compare.specs.Law.{key_named, keys_named, different, AnswersAlike}
use Rattle.lru_compare.proofs.AlikeRuns.{Asks, alike_run, agree_new}

-- what a script is that isn't refused

kind_is : (kind : MapKind) → is_lru_hash kind ≡ true → kind ≡ LruHash
kind_is Hash is = absurd (true≢false (sym is))
kind_is PercpuHash is = absurd (true≢false (sym is))
kind_is LruHash is = refl
kind_is LruPercpuHash is = absurd (true≢false (sym is))

nothing_told : (o : Option ℕ) → option_map (λ place. Other (place + 1)) o ≡ None → o ≡ None
nothing_told None is = refl
nothing_told (Some place) is = cc

not_refused : (b : Bool) (o : Option ℕ) → cond b (option_map (λ place. Other (place + 1)) o) (Some Kind) ≡ None → (b ≡ true) × (o ≡ None)
not_refused true o is = (refl, nothing_told o is)
not_refused false o is = cc

past_all : (calls : List Call) → position is_other calls ≡ None → length calls ≤ position_or_len is_other calls
past_all calls is = by (nat_lt (position_or_len is_other calls) (length calls)) refl is where
  by : (b : Bool) → nat_lt (position_or_len is_other calls) (length calls) ≡ b → cond b (Some (position_or_len is_other calls)) None ≡ None → length calls ≤ position_or_len is_other calls
  by true below some = cc
  by false below none = ltb-false (position_or_len is_other calls) (length calls) below

none_other : (calls : List Call) → length calls ≤ position_or_len is_other calls → AllByRecursion (λ (call : Call). is_other call ≡ false) calls
none_other [] past = tt
none_other (call ∷ calls) past =
    (elim (is_other call) as (λ b. suc (length calls) ≤ cond (not b) (1 + position_or_len is_other calls) 0 → (b ≡ false) × AllByRecursion (λ (one : Call). is_other one ≡ false) calls) [
      | true ↦ λ here. absurd (omega (arith, here))
      | false ↦ λ here. (refl, none_other calls (omega (arith, here)))
    ]) past

-- the keys that its calls name

any_left : (test : List ℕ → Bool) (xs ys : List (List ℕ)) → list_any test xs ≡ true → list_any test (xs ++ ys) ≡ true
any_left test [] ys is = absurd (true≢false (sym is))
any_left test (x ∷ xs) ys is = (elim (test x) as (λ b. (b || list_any test xs) ≡ true → (b || list_any test (xs ++ ys)) ≡ true) [
  | true ↦ λ here. refl
  | false ↦ λ later. any_left test xs ys later
]) is

any_right : (test : List ℕ → Bool) (xs ys : List (List ℕ)) → list_any test ys ≡ true → list_any test (xs ++ ys) ≡ true
any_right test [] ys is = is
any_right test (x ∷ xs) ys is = elim (test x) as (λ b. (b || list_any test (xs ++ ys)) ≡ true) [
  | true ↦ refl
  | false ↦ any_right test xs ys is
]

itself : (key : List ℕ) → list_any (bytes_eq key) (key ∷ []) ≡ true
itself key = ap (λ b. b || false) ((bytes_eq-Decides key key).1 refl)

asks_one : (named : List (List ℕ)) (verb : Verb) → not (is_asked verb) ≡ false → ((key : List ℕ) → list_any (bytes_eq key) (key_named verb) ≡ true → list_any (bytes_eq key) named ≡ true) → Asks named verb
asks_one named (verbs.Lookup side key) asked among = among key (itself key)
asks_one named (verbs.Update side flags key value) asked among = among key (itself key)
asks_one named (verbs.Delete key) asked among = among key (itself key)
asks_one named (verbs.Take key) asked among = among key (itself key)
asks_one named (verbs.Next key) asked among = absurd (true≢false asked)
asks_one named (verbs.BatchRead remove count start flags) asked among = absurd (true≢false asked)
asks_one named (verbs.BatchUpdate flags pairs) asked among = absurd (true≢false asked)
asks_one named (verbs.BatchDelete flags keys) asked among = absurd (true≢false asked)
asks_one named (verbs.Each flags stop) asked among = absurd (true≢false asked)

asks_all : (shape : Shape) → shape.cpus ≡ 1 → (named : List (List ℕ)) (calls : List Call) → ((key : List ℕ) → list_any (bytes_eq key) (keys_named calls) ≡ true → list_any (bytes_eq key) named ≡ true)
    → AllByRecursion (λ (call : Call). is_other call ≡ false) calls → AllByRecursion (IsCallOn shape) calls → AllByRecursion (λ (call : Call). (call.cpu ≡ 0) × Asks named call.verb) calls
asks_all shape alone named [] among asked served = tt
asks_all shape alone named (call ∷ calls) among asked served =
    let on : call.cpu < shape.cpus = served.0.cpu in
    let first : call.cpu ≡ 0 = omega (arith, on, alone) in (
      (first, asks_one named call.verb asked.0 (λ key is. among key (any_left (bytes_eq key) (key_named call.verb) (keys_named calls) is))),
      asks_all shape alone named calls (λ key is. among key (any_right (bytes_eq key) (key_named call.verb) (keys_named calls) is)) asked.1 served.1,
    )

pub answers_alike : (script : Script) → AnswersAlike script
unfolding strict serial
answers_alike script formed none room =
    let shape : Shape = script.shape in
    let named : List (List ℕ) = keys_named script.calls in
    let served = not_refused (is_lru_hash script.shape.kind) (position is_other script.calls) none in
    let kind : script.shape.kind ≡ LruHash = kind_is script.shape.kind served.0 in
    let bounds = bounds_of_shape script.shape formed.shape in
    let all : script.shape.elements ≡ script.shape.capacity = bounds.spares_of_others (λ is. cc) in
    let fewer : different named < script.shape.elements = omega (arith, room.fewer, all) in
    alike_run script.shape named kind room.own_lists room.one_cpu fewer script.calls 1 (new_state script.shape) (holds_none script.shape.capacity)
    (asks_all script.shape room.one_cpu named script.calls (λ key is. is) (none_other script.calls (past_all script.calls served.1)) (recursion_from_All (IsCallOn script.shape) script.calls formed.calls))
    (new_start script.shape formed.shape) (agree_new script.shape named kind room.own_lists room.one_cpu (sym all))
