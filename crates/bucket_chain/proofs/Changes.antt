-- What each change of the cells does to a chain: keys stay distinct, and how many there are then.
use Rattle.std.proofs.Common.{◌≡◌, ℕ, zero, suc, ◌+◌, ◌<◌, List, [], ◌∷◌, length, get_or, Option, None, Some, false, refl, ap, subst, sym, ◌∙◌, arith}
use Rattle.std.specs.Prelude.{slice_get, remove, position, MatchOption, IfSome}
use Rattle.std.specs.List.{list_any}
use Rattle.std.proofs.lemmas.List.Edits.{length-remove}
use Rattle.std.proofs.lemmas.Option.{slice_get-get_or}
use Rattle.map_types.specs.Stored.{Stored}
use Rattle.place_words.specs.Bodies.{has_key, present, HasDistinctKeys}
use Rattle.bucket_chain.specs.Places.{key_at, with_values_at}
use Rattle.bucket_chain.proofs.Keys.{distinct_written, distinct_removed, gone_removed}
use Rattle.bucket_chain.proofs.Found.{none_passes, find_none, find_some, key_found}

pub distinct_as : (bodies now : List Stored) → now ≡ bodies → HasDistinctKeys bodies → HasDistinctKeys now
distinct_as bodies now is distinct =
    let keys = λ (list : List Stored). HasDistinctKeys list in
    subst keys (sym is) distinct

pub added_distinct : (bodies now : List Stored) (body : Stored) → now ≡ body ∷ bodies → HasDistinctKeys bodies → position (has_key body.key) bodies ≡ None → HasDistinctKeys now
added_distinct bodies now body is distinct absent =
    distinct_as (body ∷ bodies) now is (none_passes (has_key body.key) bodies absent, distinct)

pub removed_distinct : (bodies now : List Stored) (place : ℕ) → now ≡ remove bodies place → HasDistinctKeys bodies → HasDistinctKeys now
removed_distinct bodies now place is distinct =
    distinct_as (remove bodies place) now is (distinct_removed place bodies distinct)

pub replaced_distinct : (bodies now : List Stored) (place : ℕ) (body : Stored) → now ≡ body ∷ remove bodies place → HasDistinctKeys bodies
    → place < length bodies → key_at place bodies ≡ body.key → HasDistinctKeys now
replaced_distinct bodies now place body is distinct within same =
    let gone : list_any (has_key body.key) (remove bodies place) ≡ false =
    ap (λ key. list_any (has_key key) (remove bodies place)) (sym same) ∙ gone_removed place bodies distinct within in
    distinct_as (body ∷ remove bodies place) now is (gone, distinct_removed place bodies distinct)

pub written_distinct : (bodies now : List Stored) (place : ℕ) (values : List (List ℕ)) → now ≡ with_values_at place values bodies → HasDistinctKeys bodies → HasDistinctKeys now
written_distinct bodies now place values is distinct =
    distinct_as (with_values_at place values bodies) now is (distinct_written place values bodies distinct)

pub removed_long : (bodies now : List Stored) (place : ℕ) → now ≡ remove bodies place → place < length bodies → length now + 1 ≡ length bodies
removed_long bodies now place is within = omega (arith, ap length is, length-remove bodies place within)

pub replaced_long : (bodies now : List Stored) (place : ℕ) (body : Stored) → now ≡ body ∷ remove bodies place → place < length bodies → length now ≡ length bodies
replaced_long bodies now place body is within = omega (arith, ap length is, length-remove bodies place within)

length-written : (place : ℕ) (values : List (List ℕ)) (bodies : List Stored) → length (with_values_at place values bodies) ≡ length bodies
length-written place values [] = refl
length-written zero values (body ∷ bodies) = refl
length-written (suc place) values (body ∷ bodies) = ap suc (length-written place values bodies)

pub written_long : (bodies now : List Stored) (place : ℕ) (values : List (List ℕ)) → now ≡ with_values_at place values bodies → length now ≡ length bodies
written_long bodies now place values is = ap length is ∙ length-written place values bodies

-- something stands at a place below the length
pub never_none : (bodies : List Stored) (place : ℕ) → place < length bodies → slice_get bodies place ≡ None → ⊥
never_none bodies place within none =
    let blank : Stored = record { element = 0; key = []; values = [] } in
    let some : slice_get bodies place ≡ Some (get_or bodies place blank) = slice_get-get_or bodies place blank within in
    cc

-- what the search of a key answers
pub holder_of : (key : List ℕ) (bodies : List Stored) (place : Option ℕ) → place ≡ position (has_key key) bodies
    → MatchOption place (present key bodies ≡ None) (λ at. slice_get bodies at ≡ present key bodies)
holder_of key bodies None is = find_none (has_key key) bodies (sym is)
holder_of key bodies (Some at) is = find_some (has_key key) bodies at (sym is)

pub found_of : (key : List ℕ) (bodies : List Stored) (place : Option ℕ) → place ≡ position (has_key key) bodies → IfSome place (λ at. (at < length bodies) × (key_at at bodies ≡ key))
found_of key bodies None is = tt
found_of key bodies (Some at) is = key_found key bodies at (sym is)
