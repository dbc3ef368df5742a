-- The words of a table at first.
use Rattle.std.proofs.Common.{◌≡◌, ℕ, zero, suc, ◌+◌, ◌-◌, ◌*◌, ◌<◌, ◌≤◌, List, [], ◌∷◌, ◌++◌, length, get_or, map, replicate, refl, ap, ◌∙◌, sym, subst, cond, arith}
use Rattle.std.specs.List.{range_with_len}
use Rattle.std.proofs.lemmas.Bool.{lt-ltb}
use Rattle.std.proofs.lemmas.List.{length-append, length-replicate, length-map, get_or_append_left, get_or-append_right, get_or-map, map-append, append_assoc}
use Rattle.std.proofs.lemmas.List.FromFn.{length-map-range_with_len, get_or-map-range_with_len, map-range_with_len_more}
use Rattle.map_types.specs.declared.attr.Shape.{Shape}
use Rattle.map_types.specs.Shape.{HasBounds}
use Rattle.place_words.specs.declared.owner.Owner.{Owner}
use Rattle.place_words.specs.declared.owner.Owner.TheVariants as owners
use Rattle.place_words.specs.declared.home.Home.{Home}
use Rattle.place_words.specs.declared.home.Home.TheVariants as homes
use Rattle.place_words.specs.Codes.{owner_code, HasOwnerCode, home_code, HasHomeCode}
use Rattle.place_words.specs.Locks.{lock_count}
use Rattle.place_words.specs.Openings.{opening_owner}
use Rattle.place_words.specs.OpeningState.{AreOpeningOwners}
use Rattle.place_words.specs.Places.{MayOwn}
use Rattle.place_words.specs.OpeningState.{opening, opening_home}
use Rattle.place_words.proofs.OpeningLaws.{owner_exists, opening_placed}
use Rattle.place_words.proofs.StartLemmas.{owners_count}
use Rattle.place_table.specs.Words.{opening_codes, opening_home_codes, opening_words}
use Rattle.place_table.specs.Words.{word_count, owner_word, home_word}
use Rattle.place_table.proofs.CodeLemmas.{has_home_code}

-- what may own an element has a code
owner_has_code : (shape : Shape) (o : Owner) → HasBounds shape → MayOwn shape o → HasOwnerCode o
owner_has_code shape owners.Free bounds may = tt
owner_has_code shape (owners.Hand cpu) bounds may = let few = bounds.cpus_bounded in omega arith
owner_has_code shape (owners.Bucket bucket) bounds may = let few = bounds.buckets_bounded in omega arith

pub owners_have_codes : (shape : Shape) (held : List Owner) → HasBounds shape → AreOpeningOwners shape held → (k : ℕ) (d : Owner) → k < length held → HasOwnerCode (get_or held k d)
owners_have_codes shape held bounds are k d within =
    let real : k < shape.elements = omega (arith, owners_count shape held are) in
    let is : get_or held k d ≡ opening_owner shape shape.kind k = ap (λ (xs : List Owner). get_or xs k d) are ∙ get_or-map-range_with_len (opening_owner shape shape.kind) 0 shape.elements k k d real (omega arith) in
    subst HasOwnerCode (sym is) (owner_has_code shape (opening_owner shape shape.kind k) bounds (owner_exists shape shape.kind k))

-- the home of an element at first, which has a code
pub first_home : (shape : Shape) (e : ℕ) → e < shape.elements → (opening shape).home e ≡ opening_home shape e
unfolding opening
first_home shape e real = ap (λ b. cond b (opening_home shape e) homes.Unlisted) (lt-ltb e shape.elements real)

pub home_has_code : (shape : Shape) (e : ℕ) → HasBounds shape → e < shape.elements → HasHomeCode (opening_home shape e)
home_has_code shape e bounds real =
    let p = (opening_placed shape bounds).placed in
    let place = (opening_placed shape bounds).place in
    subst HasHomeCode (sym (p.homes e real) ∙ first_home shape e real) (has_home_code shape e ((opening shape).owner e) (place e) bounds (p.owners e real) (p.places e real))

-- the homes of the first n elements, as codes
abbrev codes_of_homes : Shape → ℕ → List ℕ
codes_of_homes shape n = map home_code (map (opening_home shape) (range_with_len 0 n))

-- one more
pub homes_next : (shape : Shape) (n code : ℕ) (home : Home) (first list now : List ℕ) → list ≡ first ++ codes_of_homes shape n → home ≡ opening_home shape n → code ≡ home_code home → now ≡ list ++ code ∷ [] → now ≡ first ++ codes_of_homes shape (n + 1)
homes_next shape n code home first list now list_is home_is code_is now_is =
    let one : codes_of_homes shape (n + 1) ≡ codes_of_homes shape n ++ home_code (opening_home shape n) ∷ [] =
    ap (map home_code) (map-range_with_len_more (opening_home shape) 0 n n (omega arith)) ∙ map-append home_code (map (opening_home shape) (range_with_len 0 n)) (opening_home shape n ∷ []) in
    now_is ∙ ((λ i. list_is i ++ (code_is ∙ ap home_code home_is) i ∷ []) ∙ (append_assoc first (codes_of_homes shape n) (home_code (opening_home shape n) ∷ []) ∙ ap (λ (xs : List ℕ). first ++ xs) (sym one)))

pub words_are : (shape : Shape) (held : List Owner) (first locks owned homed whole : List ℕ) (n m : ℕ) → AreOpeningOwners shape held → first ≡ [] → n ≡ lock_count shape → m ≡ shape.elements + 1
    → locks ≡ first ++ replicate n 0 → owned ≡ locks ++ map owner_code held → homed ≡ owned ++ opening_home_codes shape → whole ≡ homed ++ replicate m 0 → whole ≡ opening_words shape
unfolding opening_words
words_are shape held first locks owned homed whole n m are first_is n_is m_is locks_are owned_are homed_are whole_is =
    let lock_words : locks ≡ replicate (lock_count shape) 0 = locks_are ∙ (λ i. first_is i ++ replicate (n_is i) 0) in
    let owner_words : owned ≡ replicate (lock_count shape) 0 ++ opening_codes shape = owned_are ∙ (λ i. lock_words i ++ map owner_code (are i)) in
    let home_words : homed ≡ (replicate (lock_count shape) 0 ++ opening_codes shape) ++ opening_home_codes shape = homed_are ∙ (λ i. owner_words i ++ opening_home_codes shape) in
    whole_is ∙ (λ i. home_words i ++ replicate (m_is i) 0)

-- Reading

at_zeros : (n i : ℕ) → get_or (replicate {A = ℕ} n 0) i 0 ≡ 0
at_zeros zero i = refl
at_zeros (suc n) zero = refl
at_zeros (suc n) (suc i) = at_zeros n i

length_codes : (shape : Shape) → length (opening_codes shape) ≡ shape.elements
length_codes shape = length-map (map (opening_owner shape shape.kind) (range_with_len 0 shape.elements)) owner_code ∙ length-map-range_with_len (opening_owner shape shape.kind) 0 shape.elements

length_home_codes : (shape : Shape) → length (opening_home_codes shape) ≡ shape.elements
length_home_codes shape = length-map (map (opening_home shape) (range_with_len 0 shape.elements)) home_code ∙ length-map-range_with_len (opening_home shape) 0 shape.elements

-- the words of locks and owners, and with them those of homes
abbrev words_with_owners : Shape → List ℕ
words_with_owners shape = replicate (lock_count shape) 0 ++ opening_codes shape

abbrev words_with_homes : Shape → List ℕ
words_with_homes shape = words_with_owners shape ++ opening_home_codes shape

length_with_owners : (shape : Shape) → length (words_with_owners shape) ≡ lock_count shape + shape.elements
length_with_owners shape =
    let locks : length (replicate {A = ℕ} (lock_count shape) 0) ≡ lock_count shape = length-replicate (lock_count shape) 0 in
    let codes = length_codes shape in
    length-append (replicate {A = ℕ} (lock_count shape) 0) (opening_codes shape) ∙ omega arith

length_with_homes : (shape : Shape) → length (words_with_homes shape) ≡ lock_count shape + 2 * shape.elements
length_with_homes shape =
    let owned = length_with_owners shape in
    let codes = length_home_codes shape in
    length-append (words_with_owners shape) (opening_home_codes shape) ∙ omega arith

pub length_words : (shape : Shape) → length (opening_words shape) ≡ word_count shape
unfolding opening_words
length_words shape =
    let homed = length_with_homes shape in
    let rest : length (replicate {A = ℕ} (shape.elements + 1) 0) ≡ shape.elements + 1 = length-replicate (shape.elements + 1) 0 in
    length-append (words_with_homes shape) (replicate {A = ℕ} (shape.elements + 1) 0) ∙ omega arith

-- a word of a lock or an owner, and one of a home
at_owners : (shape : Shape) (i : ℕ) → i < lock_count shape + shape.elements → get_or (opening_words shape) i 0 ≡ get_or (words_with_owners shape) i 0
unfolding opening_words
at_owners shape i within =
    let owned = length_with_owners shape in
    let homed = length_with_homes shape in
    get_or_append_left (words_with_homes shape) (replicate {A = ℕ} (shape.elements + 1) 0) 0 i (omega arith)
    ∙ get_or_append_left (words_with_owners shape) (opening_home_codes shape) 0 i (omega arith)

pub first_lock_word : (shape : Shape) (k : ℕ) → k < lock_count shape → get_or (opening_words shape) k 0 ≡ 0
first_lock_word shape k within =
    let locks : length (replicate {A = ℕ} (lock_count shape) 0) ≡ lock_count shape = length-replicate (lock_count shape) 0 in
    at_owners shape k (omega arith) ∙ (get_or_append_left (replicate {A = ℕ} (lock_count shape) 0) (opening_codes shape) 0 k (omega arith) ∙ at_zeros (lock_count shape) k)

pub first_owner_word : (shape : Shape) (e : ℕ) → e < shape.elements → get_or (opening_words shape) (owner_word shape e) 0 ≡ owner_code (opening_owner shape shape.kind e)
first_owner_word shape e real =
    let locks : length (replicate {A = ℕ} (lock_count shape) 0) ≡ lock_count shape = length-replicate (lock_count shape) 0 in
    let back : lock_count shape + e - lock_count shape ≡ e = omega arith in
    let count : length (map (opening_owner shape shape.kind) (range_with_len 0 shape.elements)) ≡ shape.elements = length-map-range_with_len (opening_owner shape shape.kind) 0 shape.elements in
    at_owners shape (lock_count shape + e) (omega arith)
    ∙ (get_or-append_right (replicate {A = ℕ} (lock_count shape) 0) (opening_codes shape) (lock_count shape) (lock_count shape + e) 0 locks (omega arith)
    ∙ (ap (λ (i : ℕ). get_or (opening_codes shape) i 0) back
    ∙ (get_or-map owner_code (map (opening_owner shape shape.kind) (range_with_len 0 shape.elements)) e owners.Free 0 (omega arith)
    ∙ ap owner_code (get_or-map-range_with_len (opening_owner shape shape.kind) 0 shape.elements e e owners.Free real (omega arith)))))

pub first_home_word : (shape : Shape) (e : ℕ) → e < shape.elements → get_or (opening_words shape) (home_word shape e) 0 ≡ home_code (opening_home shape e)
unfolding opening_words
first_home_word shape e real =
    let homed = length_with_homes shape in
    let back : lock_count shape + shape.elements + e - (lock_count shape + shape.elements) ≡ e = omega arith in
    let count : length (map (opening_home shape) (range_with_len 0 shape.elements)) ≡ shape.elements = length-map-range_with_len (opening_home shape) 0 shape.elements in
    get_or_append_left (words_with_homes shape) (replicate {A = ℕ} (shape.elements + 1) 0) 0 (lock_count shape + shape.elements + e) (omega arith)
    ∙ (get_or-append_right (words_with_owners shape) (opening_home_codes shape) (lock_count shape + shape.elements) (lock_count shape + shape.elements + e) 0 (length_with_owners shape) (omega arith)
    ∙ (ap (λ (i : ℕ). get_or (opening_home_codes shape) i 0) back
    ∙ (get_or-map home_code (map (opening_home shape) (range_with_len 0 shape.elements)) e homes.Unlisted 0 (omega arith)
    ∙ ap home_code (get_or-map-range_with_len (opening_home shape) 0 shape.elements e e homes.Unlisted real (omega arith)))))

pub first_bit_word : (shape : Shape) (i : ℕ) → lock_count shape + 2 * shape.elements ≤ i → get_or (opening_words shape) i 0 ≡ 0
unfolding opening_words
first_bit_word shape i past =
    get_or-append_right (words_with_homes shape) (replicate {A = ℕ} (shape.elements + 1) 0) (lock_count shape + 2 * shape.elements) i 0 (length_with_homes shape) past ∙ at_zeros (shape.elements + 1) (i - (lock_count shape + 2 * shape.elements))
