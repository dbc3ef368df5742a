-- What stands at a place, and what is changed there, is that of the key which stands there, where keys are distinct.
use Rattle.std.proofs.Common.{◌≡◌, ℕ, zero, suc, ◌+◌, ◌<◌, Bool, true, false, not, cond, List, [], ◌∷◌, length, map, refl, ap, sym, ◌∙◌, arith}
use Rattle.std.specs.Prelude.{bytes_eq, remove, slice_get, position, nat_lt, Some, None, if◌then◌else◌}
use Rattle.std.specs.List.{list_any, position_or_len}
use Rattle.std.proofs.lemmas.Bool.{or_parts, lt-ltb}
use Rattle.std.proofs.lemmas.List.{get_or-map}
use Rattle.std.proofs.lemmas.Option.{slice_get_within, get_or_from_slice_get}
use Rattle.std.proofs.lemmas.Slice.Eq.{bytes_eq-Decides}
use Rattle.map_types.specs.Stored.{Stored}
use Rattle.place_words.specs.Bodies.{has_key, HasDistinctKeys, present, without_key}
use Rattle.bucket_chain.specs.Places.{key_at, values_at, with_values_at, rewritten}
use Rattle.bucket_chain.proofs.Found.{find_some, rest_some}
use Rattle.bucket_chain.proofs.Keys.{differs_at}
use Rattle.place_words.proofs.BucketLaws.{bytes_differ}

same_bytes : (bytes : List ℕ) → bytes_eq bytes bytes ≡ true
same_bytes bytes = (bytes_eq-Decides bytes bytes).1 refl

-- the key at a place isn't that of a body before it
differs_before : (body : Stored) (bodies : List Stored) (place : ℕ) → HasDistinctKeys (body ∷ bodies) → place < length bodies → has_key (key_at place bodies) body ≡ false
differs_before body bodies place distinct within =
    bytes_differ (key_at place bodies) body.key (differs_at body.key place bodies distinct.0 within)

first_place : (place : ℕ) (bodies : List Stored) → HasDistinctKeys bodies → place < length bodies → position_or_len (has_key (key_at place bodies)) bodies ≡ place
first_place place [] distinct within = absurd (omega arith)
first_place zero (body ∷ bodies) distinct within =
    ap (λ (b : Bool). cond (not b) (1 + position_or_len (has_key body.key) bodies) 0) (same_bytes body.key)
first_place (suc place) (body ∷ bodies) distinct within =
    let other = differs_before body bodies place distinct (omega arith) in
    let rest = first_place place bodies distinct.1 (omega arith) in
    ap (λ (b : Bool). cond (not b) (1 + position_or_len (has_key (key_at place bodies)) bodies) 0) other ∙ ap (λ k. 1 + k) rest ∙ omega arith

-- a key stands at its place
pub place_of_its_key : (place : ℕ) (bodies : List Stored) → HasDistinctKeys bodies → place < length bodies → position (has_key (key_at place bodies)) bodies ≡ Some place
place_of_its_key place bodies distinct within =
    ap (λ k. cond (nat_lt k (length bodies)) (Some k) None) (first_place place bodies distinct within)
    ∙ ap (λ (b : Bool). cond b (Some place) None) (lt-ltb place (length bodies) within)

-- the body at a place holds the key there, and without it the list is that without the key
pub holds_its_key : (place : ℕ) (bodies : List Stored) → HasDistinctKeys bodies → place < length bodies → slice_get bodies place ≡ present (key_at place bodies) bodies
holds_its_key place bodies distinct within =
    find_some (has_key (key_at place bodies)) bodies place (place_of_its_key place bodies distinct within)

pub removed_its_key : (place : ℕ) (bodies : List Stored) → HasDistinctKeys bodies → place < length bodies → remove bodies place ≡ without_key (key_at place bodies) bodies
removed_its_key place bodies distinct within =
    rest_some (has_key (key_at place bodies)) bodies place (place_of_its_key place bodies distinct within)

-- the same of a body that is found at a place
pub key_there : (place : ℕ) (bodies : List Stored) (body : Stored) → slice_get bodies place ≡ Some body → key_at place bodies ≡ body.key
key_there place bodies body found =
    let within = slice_get_within bodies place body found in
    get_or-map (λ (one : Stored). one.key) bodies place body [] within ∙ ap (λ (one : Stored). one.key) (get_or_from_slice_get bodies place body body found)

pub taken_by_key : (place : ℕ) (bodies : List Stored) (body : Stored) → HasDistinctKeys bodies → slice_get bodies place ≡ Some body
    → (present body.key bodies ≡ Some body) × (remove bodies place ≡ without_key body.key bodies)
taken_by_key place bodies body distinct found =
    let within = slice_get_within bodies place body found in
    let key = key_there place bodies body found in (
      ap (λ (k : List ℕ). present k bodies) (sym key) ∙ sym (holds_its_key place bodies distinct within) ∙ found,
      removed_its_key place bodies distinct within ∙ ap (λ (k : List ℕ). without_key k bodies) key,
    )

-- a change of the values of a key changes nothing where no body has it
none_rewritten : (key : List ℕ) (change : List (List ℕ) → List (List ℕ)) (bodies : List Stored) → list_any (has_key key) bodies ≡ false → map (rewritten key change) bodies ≡ bodies
none_rewritten key change [] absent = refl
none_rewritten key change (body ∷ bodies) absent =
    let parts = or_parts (has_key key body) (list_any (has_key key) bodies) absent in
    let first : rewritten key change body ≡ body = ap (λ (b : Bool). if b then record body { values = change body.values } else body) parts.0 in
    ap (λ (now : Stored). now ∷ map (rewritten key change) bodies) first ∙ ap (λ (rest : List Stored). body ∷ rest) (none_rewritten key change bodies parts.1)

-- a change of the values at a place is one of the values of the key there
pub written_its_key : (place : ℕ) (change : List (List ℕ) → List (List ℕ)) (bodies : List Stored) → HasDistinctKeys bodies → place < length bodies
    → with_values_at place (change (values_at place bodies)) bodies ≡ map (rewritten (key_at place bodies) change) bodies
written_its_key place change [] distinct within = absurd (omega arith)
written_its_key zero change (body ∷ bodies) distinct within =
    let new : Stored = record body { values = change body.values } in
    let first : rewritten body.key change body ≡ new = ap (λ (b : Bool). if b then new else body) (same_bytes body.key) in
    sym (ap (λ (now : Stored). now ∷ map (rewritten body.key change) bodies) first ∙ ap (λ (rest : List Stored). new ∷ rest) (none_rewritten body.key change bodies distinct.0))
written_its_key (suc place) change (body ∷ bodies) distinct within =
    let key : List ℕ = key_at place bodies in
    let new : Stored = record body { values = change body.values } in
    let first : rewritten key change body ≡ body = ap (λ (b : Bool). if b then new else body) (differs_before body bodies place distinct (omega arith)) in
    ap (λ (rest : List Stored). body ∷ rest) (written_its_key place change bodies distinct.1 (omega arith))
    ∙ ap (λ (now : Stored). now ∷ map (rewritten key change) bodies) (sym first)
