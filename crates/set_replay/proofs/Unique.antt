-- The visits of a rotation, and the looks and tries of a shrink, are one and the same where the answers by place are.
use Rattle.std.proofs.Common.{◌≡◌, ◌⊎◌, ℕ, suc, ◌+◌, Bool, true, false, not, List, [], ◌∷◌, ◌++◌, map, reverse, length, take, refl, ap, ◌∙◌, sym, subst, arith, inl, inr}
use Rattle.std.specs.Prelude.{Option, None, Some, All, MatchBool, count_by, is_some, ◌==◌}
use Rattle.std.proofs.lemmas.Bool.{both_ways}
use Rattle.std.proofs.lemmas.List.{append-nil, length-append, take-map}
use Rattle.std.proofs.lemmas.List.Elements.{All-head, All-tail}
use Rattle.map_types.specs.Listed.{Listed, elements_of}
use Rattle.place_words.specs.Rotation.{AreRotationVisits, active_rotated, inactive_visited, visited_elements}
use Rattle.map_types.specs.declared.row.Row.{Row}
use Rattle.place_words.specs.Shrinking.{IsFirstEnd, AreLooks, AreTries, IsShrink, after_looks, forced_rows, look_removed}
use Rattle.place_words.specs.declared.bucket_part.Seen.{Seen}
use Rattle.place_words.specs.declared.bucket_part.Seen.TheVariants.{Held}
use Rattle.place_words.specs.declared.visits.Look.{Look}
use Rattle.place_words.specs.declared.visits.Try.{Try}
use Rattle.place_words.specs.declared.visits.Visit.{Visit}
use Rattle.set_replay.specs.ByPlace.{ByPlace, visit_bits, look_bits, look_seens, try_seens}

-- Visits

abbrev made_visit : ℕ → Bool → Visit
made_visit e b = record { element = e; bit = b }

same_visit : (x y : Visit) → x.element ≡ y.element → x.bit ≡ y.bit → x ≡ y
same_visit x y e b = ap (λ n. made_visit n x.bit) e ∙ ap (made_visit y.element) b

pub first_of : {A : Type 0} {x y : A} {xs ys : List A} → x ∷ xs ≡ y ∷ ys → x ≡ y
first_of {A} {x} {y} {xs} {ys} same = grind (arith, same)

pub rest_of : {A : Type 0} {x y : A} {xs ys : List A} → x ∷ xs ≡ y ∷ ys → xs ≡ ys
rest_of {A} {x} {y} {xs} {ys} same = grind (arith, same)

-- Where visits are those of the same elements and have the bits that were told, they are the visits that were told; what is
-- told of later ones is then by place, too.
pub same_visits : (told given more given_more : List Visit) → visited_elements given ≡ visited_elements told
    → ByPlace false (visit_bits (told ++ more)) (visit_bits (given ++ given_more))
    → (given ≡ told) × ByPlace false (visit_bits more) (visit_bits given_more)
same_visits [] [] more given_more elements bits = (refl, bits)
same_visits [] (y ∷ given) more given_more elements bits = grind (arith, elements)
same_visits (x ∷ told) [] more given_more elements bits = grind (arith, elements)
same_visits (x ∷ told) (y ∷ given) more given_more elements bits =
    let later = same_visits told given more given_more (rest_of elements) bits.1 in
    (ap (λ v. v ∷ given) (same_visit y x (first_of elements) bits.0) ∙ ap (λ vs. x ∷ vs) later.0, later.1)

-- A rotation of a set has one list of visits of each part by the bits that are told.
pub unique_rotation : (scans : ℕ) (set : Listed) (active inactive given_active given_inactive : List Visit)
    → AreRotationVisits scans set active inactive → AreRotationVisits scans set given_active given_inactive
    → ByPlace false (visit_bits (active ++ inactive)) (visit_bits (given_active ++ given_inactive))
    → (given_active ≡ active) × (given_inactive ≡ inactive)
unique_rotation scans set active inactive given_active given_inactive told given bits =
    let first = same_visits active given_active inactive given_inactive (given.of_active ∙ sym told.of_active) bits in
    let elements : visited_elements given_inactive ≡ visited_elements inactive =
    given.of_inactive ∙ ap (λ (visits : List Visit). elements_of (inactive_visited scans (active_rotated scans set visits))) first.0 ∙ sym told.of_inactive in
    let bits_on : ByPlace false (visit_bits (inactive ++ [])) (visit_bits (given_inactive ++ [])) =
    subst (λ (xs : List Visit). ByPlace false (visit_bits xs) (visit_bits (given_inactive ++ []))) (sym (append-nil inactive)) (subst (λ (ys : List Visit). ByPlace false (visit_bits inactive) (visit_bits ys)) (sym (append-nil given_inactive)) first.1) in
    let second = same_visits inactive given_inactive [] [] elements bits_on in
    (first.0, second.0)

-- Walks that end

-- one list begins with the other
abbrev IsOneStart : {A : Type 0} → List A → List A → Type 0
IsOneStart {A} told given = ((rest : List A) × (given ≡ told ++ rest)) ⊎ ((rest : List A) × (told ≡ given ++ rest))

one_more : {A : Type 0} (x y : A) (told given : List A) → y ≡ x → IsOneStart told given → IsOneStart (x ∷ told) (y ∷ given)
one_more x y told given same (inl (rest, is)) = inl (rest, ap (λ z. z ∷ given) same ∙ ap (λ zs. x ∷ zs) is)
one_more x y told given same (inr (rest, is)) = inr (rest, ap (λ z. z ∷ told) (sym same) ∙ ap (λ zs. y ∷ zs) is)

take_start : {A : Type 0} (xs ys : List A) → take (length xs) (xs ++ ys) ≡ xs
take_start [] ys = refl
take_start (x ∷ xs) ys = ap (λ zs. x ∷ zs) (take_start xs ys)

-- a walk that ends nowhere before its end goes on behind none that ends
not_longer : {A : Type 0} (ends : List A → Bool) (first second rest : List A) → IsFirstEnd ends first → IsFirstEnd ends second → second ≡ first ++ rest → second ≡ first
not_longer ends first second [] a b is = is ∙ append-nil first
not_longer ends first second (x ∷ rest) a b is =
    let long : length second ≡ length first + suc (length rest) = ap (λ l. length l) is ∙ length-append first (x ∷ rest) in
    let goes_on : ends (take (length first) second) ≡ false = b.not_before (length first) (omega (arith, long)) in
    let here : take (length first) second ≡ first = ap (λ l. take (length first) l) is ∙ take_start first (x ∷ rest) in
    absurd (both_ways (ends first) (ap ends (sym here) ∙ goes_on) a.here)

first_end : {A : Type 0} (ends : List A → Bool) (told given : List A) → IsFirstEnd ends told → IsFirstEnd ends given → IsOneStart told given → given ≡ told
first_end ends told given a b (inl (rest, is)) = not_longer ends told given rest a b is
first_end ends told given a b (inr (rest, is)) = sym (not_longer ends given told rest b a is)

-- Looks

abbrev made_look : ℕ → Bool → Option Seen → Look
made_look e b p = record { element = e; bit = b; probed = p }

same_look : (x y : Look) → x.element ≡ y.element → x.bit ≡ y.bit → x.probed ≡ y.probed → x ≡ y
same_look x y e b p = ap (λ n. made_look n x.bit x.probed) e ∙ ap (λ c. made_look y.element c x.probed) b ∙ ap (made_look y.element y.bit) p

abbrev look_elements : List Look → List ℕ
look_elements looks = map (λ look. look.element) looks

abbrev WasProbed : Look → Type 0
WasProbed look = is_some look.probed ≡ not look.bit

one_start_looks : (es : List ℕ) (told given : List Look) (more given_more : List Seen)
    → look_elements told ≡ take (length told) es → look_elements given ≡ take (length given) es
    → All WasProbed told → All WasProbed given
    → ByPlace false (look_bits told) (look_bits given) → ByPlace (Held 0) (look_seens told ++ more) (look_seens given ++ given_more)
    → IsOneStart told given
one_start_looks es [] given more given_more a b c d bits seens = inl (given, refl)
one_start_looks es (x ∷ told) [] more given_more a b c d bits seens = inr (x ∷ told, refl)
one_start_looks [] (x ∷ told) (y ∷ given) more given_more a b c d bits seens = grind (arith, a)
one_start_looks (e ∷ es) (x ∷ told) (y ∷ given) more given_more a b c d bits seens =
    go (one_start_looks es told given more given_more (rest_of a) (rest_of b) (All-tail WasProbed x told c) (All-tail WasProbed y given d) bits.1) x.probed y.probed refl refl seens
  where
    same_e : y.element ≡ x.element
    same_e = first_of b ∙ sym (first_of a)

    probed : is_some y.probed ≡ is_some x.probed
    probed = All-head WasProbed y given d ∙ ap not bits.0 ∙ sym (All-head WasProbed x told c)

    go : (ByPlace (Held 0) (look_seens told ++ more) (look_seens given ++ given_more) → IsOneStart told given)
        → (p q : Option Seen) → x.probed ≡ p → y.probed ≡ q
        → ByPlace (Held 0) (look_seens (made_look x.element x.bit p ∷ told) ++ more) (look_seens (made_look y.element y.bit q ∷ given) ++ given_more)
        → IsOneStart (x ∷ told) (y ∷ given)
    go on None None is_p is_q now = one_more x y told given (same_look y x same_e bits.0 (is_q ∙ sym is_p)) (on now)
    go on (Some s) (Some t) is_p is_q now = one_more x y told given (same_look y x same_e bits.0 (is_q ∙ ap (λ z. Some z) now.0 ∙ sym is_p)) (on now.1)
    go on None (Some t) is_p is_q now = let no : true ≡ false = ap is_some (sym is_q) ∙ probed ∙ ap is_some is_p in grind (arith, no)
    go on (Some s) None is_p is_q now = let no : false ≡ true = ap is_some (sym is_q) ∙ probed ∙ ap is_some is_p in grind (arith, no)

elements_taken : {A : Type 0} (element : A → ℕ) (xs : List A) (rows : List Row) → map element xs ≡ elements_of (take (length xs) rows) → map element xs ≡ take (length xs) (elements_of rows)
elements_taken element xs rows is = is ∙ sym (take-map (λ (row : Row). row.element) (length xs) rows)

-- the looks of a shrink are one list by the bits and the answers that are told
pub unique_looks : (scans target : ℕ) (set : Listed) (told given : List Look) (more given_more : List Seen)
    → AreLooks scans target set told → AreLooks scans target set given
    → ByPlace false (look_bits told) (look_bits given) → ByPlace (Held 0) (look_seens told ++ more) (look_seens given ++ given_more)
    → given ≡ told
unique_looks scans target set told given more given_more a b bits seens =
    first_end _ told given a.until b.until
    (one_start_looks (elements_of (reverse set.inactive)) told given more given_more
    (elements_taken (λ look. look.element) told (reverse set.inactive) a.from_tail) (elements_taken (λ look. look.element) given (reverse set.inactive) b.from_tail)
    a.probed b.probed bits seens)

-- Tries

abbrev made_try : ℕ → Seen → Try
made_try e p = record { element = e; probed = p }

same_try : (x y : Try) → x.element ≡ y.element → x.probed ≡ y.probed → x ≡ y
same_try x y e p = ap (λ n. made_try n x.probed) e ∙ ap (made_try y.element) p

one_start_tries : (es : List ℕ) (told given : List Try)
    → map (λ try. try.element) told ≡ take (length told) es → map (λ try. try.element) given ≡ take (length given) es
    → ByPlace (Held 0) (try_seens told) (try_seens given)
    → IsOneStart told given
one_start_tries es [] given a b seens = inl (given, refl)
one_start_tries es (x ∷ told) [] a b seens = inr (x ∷ told, refl)
one_start_tries [] (x ∷ told) (y ∷ given) a b seens = grind (arith, a)
one_start_tries (e ∷ es) (x ∷ told) (y ∷ given) a b seens =
    one_more x y told given (same_try y x (first_of b ∙ sym (first_of a)) seens.0) (one_start_tries es told given (rest_of a) (rest_of b) seens.1)

pub unique_tries : (set : Listed) (told given : List Try) → AreTries set told → AreTries set given → ByPlace (Held 0) (try_seens told) (try_seens given) → given ≡ told
unique_tries set told given a b seens =
    first_end _ told given a.until b.until
    (one_start_tries (elements_of (reverse (forced_rows set))) told given
    (elements_taken (λ try. try.element) told (reverse (forced_rows set)) a.from_tail) (elements_taken (λ try. try.element) given (reverse (forced_rows set)) b.from_tail) seens)

-- Shrinks

-- behind answers that are as told there are again answers by place
by_place_rest : {A : Type 0} (past : A) (xs more given_more : List A) → ByPlace past (xs ++ more) (xs ++ given_more) → ByPlace past more given_more
by_place_rest past [] more given_more by = by
by_place_rest past (x ∷ xs) more given_more by = by_place_rest past xs more given_more by.1

forced_same : (none : Bool) (set : Listed) (told given : List Try)
    → MatchBool none (AreTries set told) (told ≡ []) → MatchBool none (AreTries set given) (given ≡ [])
    → ByPlace (Held 0) (try_seens told) (try_seens given) → given ≡ told
forced_same true set told given a b seens = unique_tries set told given a b seens
forced_same false set told given a b seens = b ∙ sym a

-- A shrink of a set has one list of looks and one of tries by the bits and the answers that are told.
pub unique_shrink : (scans target : ℕ) (set : Listed) (looks given_looks : List Look) (forced given_forced : List Try)
    → IsShrink scans target set looks forced → IsShrink scans target set given_looks given_forced
    → ByPlace false (look_bits looks) (look_bits given_looks)
    → ByPlace (Held 0) (look_seens looks ++ try_seens forced) (look_seens given_looks ++ try_seens given_forced)
    → (given_looks ≡ looks) × (given_forced ≡ forced)
unique_shrink scans target set looks given_looks forced given_forced told given bits seens =
    let same = unique_looks scans target set looks given_looks (try_seens forced) (try_seens given_forced) told.looked given.looked bits seens in
    let tried = subst (λ (l : List Look). MatchBool (count_by look_removed l == 0) (AreTries (after_looks set l) given_forced) (given_forced ≡ [])) same given.tried in
    let answers = subst (λ (l : List Look). ByPlace (Held 0) (look_seens looks ++ try_seens forced) (look_seens l ++ try_seens given_forced)) same seens in (
      same,
      forced_same (count_by look_removed looks == 0) (after_looks set looks) forced given_forced told.tried tried
          (by_place_rest (Held 0) (look_seens looks) (try_seens forced) (try_seens given_forced) answers),
    )
