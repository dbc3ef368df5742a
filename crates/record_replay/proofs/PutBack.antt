-- Bodies that are put back into a bucket from the last of them on: the key of each is absent from those that are there already.
use Rattle.std.proofs.Common.{◌≡◌, ◌∙◌, ◌-◌, ◌^◌, append_assoc, length-append, ℕ, suc, ◌+◌, ◌<◌, ◌≤◌, Bool, false, not, cond, List, [], ◌∷◌, ◌++◌, length, None, Some, ap, sym, subst, arith}
use Rattle.std.specs.List.{list_any, position_or_len}
use Rattle.std.proofs.lemmas.Bool.{le-ltb, or_parts}
use Rattle.map_types.specs.Stored.{Stored}
use Rattle.place_words.specs.Bodies.{HasDistinctKeys, has_key}
use Rattle.bucket_chain.specs.Places.{place_of_key}

past_all : {X : Type 0} (test : X → Bool) (xs : List X) → list_any test xs ≡ false → length xs ≤ position_or_len test xs
past_all test [] none = omega arith
past_all test (x ∷ xs) none =
    let parts = or_parts (test x) (list_any test xs) none in
    let rest : length xs ≤ position_or_len test xs = past_all test xs parts.1 in
    subst (λ (b : Bool). suc (length xs) ≤ cond (not b) (1 + position_or_len test xs) 0) (sym parts.0) (omega arith)

nowhere : (key : List ℕ) (bodies : List Stored) → list_any (has_key key) bodies ≡ false → place_of_key key bodies ≡ None
nowhere key bodies none =
    let place = position_or_len (has_key key) bodies in
    ap (λ (b : Bool). cond b (Some place) None) (le-ltb place (length bodies) (past_all (has_key key) bodies none))

pub absent_behind : (front back : List Stored) (body : Stored) → HasDistinctKeys (front ++ body ∷ back) → place_of_key body.key back ≡ None
absent_behind [] back body distinct = nowhere body.key back distinct.0
absent_behind (first ∷ front) back body distinct = absent_behind front back body distinct.1

-- what is left and what is there make all, and the last of what is left is on its way
pub on_its_way : (left now back all : List Stored) (body : Stored) → left ≡ now ++ body ∷ [] → left ++ back ≡ all → now ++ body ∷ back ≡ all
on_its_way left now back all body is both =
    sym (append_assoc now (body ∷ []) back) ∙ ap (λ (xs : List Stored). xs ++ back) (sym is) ∙ both

pub absent_of : (left now back all : List Stored) (body : Stored) → left ≡ now ++ body ∷ [] → left ++ back ≡ all → HasDistinctKeys all → place_of_key body.key back ≡ None
absent_of left now back all body is both distinct =
    absent_behind now back body (subst HasDistinctKeys (sym (on_its_way left now back all body is both)) distinct)

pub room_of : (left now back all : List Stored) (body : Stored) → left ≡ now ++ body ∷ [] → left ++ back ≡ all → length all < 2 ^ 32 → length back < 2 ^ 32 - 1
room_of left now back all body is both few =
    let long : length now + suc (length back) ≡ length all = sym (length-append now (body ∷ back)) ∙ ap length (on_its_way left now back all body is both) in
    omega arith
