-- What the test of a walk tells: that these are the looks, or the tries, of a theft.
use Rattle.std.proofs.Common.{◌≡◌, ℕ, zero, suc, ◌<◌, Bool, true, false, ◌&&◌, ◌||◌, cond, eqb, List, [], ◌∷◌, ◌++◌, map, reverse, length, take, refl, ap, sym, ◌∙◌, subst, arith}
use Rattle.std.specs.Prelude.{All, Option, slice_get, option_map, unwrap_or}
use Rattle.std.proofs.lemmas.Bool.{ne_eqb, eq-eqb, eqb-true}
use Rattle.std.proofs.lemmas.List.{nil_from_length, length-reverse}
use Rattle.std.proofs.lemmas.List.Elements.{All-cons, All-nil, All-rest, All-get_or}
use Rattle.std.proofs.lemmas.Option.{slice_get-get_or}
use Rattle.map_types.specs.declared.row.Row.{Row}
use Rattle.map_types.specs.Listed.{elements_of}
use Rattle.map_types.proofs.RowLemmas.{by_test}
use Rattle.place_words.specs.Shrinking.{IsFirstEnd}
use Rattle.local_replay.specs.Walks.{is_walk}
use Rattle.local_replay.proofs.ListLaws.{turned}

first_append : {A : Type 0} (xs ys : List A) → 0 < length xs → slice_get (xs ++ ys) 0 ≡ slice_get xs 0
first_append [] ys some = absurd (omega (arith, some))
first_append (x ∷ xs) ys some = slice_get-get_or (x ∷ (xs ++ ys)) 0 x (omega arith) ∙ sym (slice_get-get_or (x ∷ xs) 0 x (omega arith))

last_cons : {A : Type 0} (a b : A) (walk : List A) → slice_get (reverse (a ∷ b ∷ walk)) 0 ≡ slice_get (reverse (b ∷ walk)) 0
last_cons a b walk =
    let long = length-reverse (b ∷ walk) in
    ap (λ (l : List _). slice_get l 0) (turned a (b ∷ walk)) ∙ first_append (reverse (b ∷ walk)) (a ∷ []) (omega (arith, long))

eqb_suc : (x n : ℕ) → eqb (suc x) (suc n) ≡ eqb x n
eqb_suc x n = by_test x n (λ b. eqb (suc x) (suc n) ≡ b) (λ is. eq-eqb (suc x) (suc n) (ap suc is)) (λ is. ne_eqb (suc x) (suc n) (λ s. is (omega (arith, s))))

pub and_parts : (a b : Bool) → (a && b) ≡ true → (a ≡ true) × (b ≡ true)
and_parts true true is = (refl, refl)
and_parts true false is = absurd cc
and_parts false b is = absurd cc

-- whether a walk over so many rows ends here
abbrev pub ends_at : {A : Type 0} → (A → Bool) → ℕ → List A → Bool
ends_at ends n walk = unwrap_or (option_map ends (slice_get (reverse walk) 0)) false || eqb (length walk) n

module _ {A : Type 0} (element : A → ℕ) (fits ends : A → Bool) where
  ends_first : (a : A) (n : ℕ) → ends a ≡ true → ends_at ends n (a ∷ []) ≡ true
  ends_first a n ended =
      ap (λ (o : Option A). unwrap_or (option_map ends o) false || eqb 1 n) (slice_get-get_or (a ∷ []) 0 a (omega arith)) ∙ ap (λ (b : Bool). b || eqb 1 n) ended

  ends_cons : (a : A) (walk : List A) (n : ℕ) → ends a ≡ false → ends_at ends (suc n) (a ∷ walk) ≡ ends_at ends n walk
  ends_cons a [] n goes =
      ap (λ (o : Option A). unwrap_or (option_map ends o) false || eqb 1 (suc n)) (slice_get-get_or (a ∷ []) 0 a (omega arith)) ∙ ap (λ (b : Bool). b || eqb 1 (suc n)) goes ∙ eqb_suc 0 n
  ends_cons a (b ∷ walk) n goes =
      ap (λ (o : Option A). unwrap_or (option_map ends o) false || eqb (suc (length (b ∷ walk))) (suc n)) (last_cons a b walk)
      ∙ ap (λ (t : Bool). unwrap_or (option_map ends (slice_get (reverse (b ∷ walk)) 0)) false || t) (eqb_suc (length (b ∷ walk)) n)

  -- this is the walk over these rows
  pub record Means (rows : List Row) (walk : List A) : Type 0 where
    pub from_tail : map element walk ≡ elements_of (take (length walk) rows)
    pub fit : All (λ a. fits a ≡ true) walk
    pub until : IsFirstEnd (ends_at ends (length rows)) walk

  before_one : (n : ℕ) (a : A) (k : ℕ) → k < 1 → ends_at ends (suc n) (take k (a ∷ [])) ≡ false
  before_one n a zero within = ne_eqb 0 (suc n) (λ is. omega (arith, is))
  before_one n a (suc k) within = absurd (omega (arith, within))

  before_more : (n : ℕ) (a : A) (walk : List A) → ends a ≡ false → ((k : ℕ) → k < length walk → ends_at ends n (take k walk) ≡ false)
      → (k : ℕ) → k < length (a ∷ walk) → ends_at ends (suc n) (take k (a ∷ walk)) ≡ false
  before_more n a walk goes rest zero within = ne_eqb 0 (suc n) (λ is. omega (arith, is))
  before_more n a walk goes rest (suc k) within = ends_cons a (take k walk) n goes ∙ rest k (omega (arith, within))

  one_more : (row : Row) (rows : List Row) (a : A) (walk : List A) → element a ≡ row.element → fits a ≡ true
      → (is_walk element fits ends rows walk ≡ true → Means rows walk) → (b : Bool) → ends a ≡ b → cond b (eqb (length walk) 0) (is_walk element fits ends rows walk) ≡ true
      → Means (row ∷ rows) (a ∷ walk)
  one_more row rows a walk its fit goes true ended none =
      subst (λ (l : List A). Means (row ∷ rows) (a ∷ l)) (sym (nil_from_length walk (eqb-true (length walk) 0 none)))
      (record {
        from_tail = ap (λ (x : ℕ). x ∷ []) its;
        fit = All-cons (λ (x : A). fits x ≡ true) a [] fit (All-nil (λ (x : A). fits x ≡ true));
        until = record { here = ends_first a (suc (length rows)) ended; not_before = before_one (length rows) a };
      })
  one_more row rows a walk its fit goes false ended is =
      let rest = goes is in
      record {
        from_tail = ap (λ (x : ℕ). x ∷ map element walk) its ∙ ap (λ (l : List ℕ). row.element ∷ l) rest.from_tail;
        fit = All-cons (λ (x : A). fits x ≡ true) a walk fit rest.fit;
        until = record { here = ends_cons a walk (length rows) ended ∙ rest.until.here; not_before = before_more (length rows) a walk ended rest.until.not_before };
      }

  pub told : (rows : List Row) (walk : List A) → is_walk element fits ends rows walk ≡ true → Means rows walk
  unfolding is_walk
  told [] [] is = record { from_tail = refl; fit = All-nil (λ (x : A). fits x ≡ true); until = record { here = refl; not_before = λ k within. absurd (omega (arith, within)) } }
  told [] (a ∷ walk) is = absurd cc
  told (row ∷ rows) [] is = absurd cc
  told (row ∷ rows) (a ∷ walk) is =
      let both = and_parts (eqb (element a) row.element && fits a) (cond (ends a) (eqb (length walk) 0) (is_walk element fits ends rows walk)) is in
      let its = and_parts (eqb (element a) row.element) (fits a) both.0 in
      one_more row rows a walk (eqb-true (element a) row.element its.0) its.1 (told rows walk) (ends a) refl both.1

  rest_means : (row : Row) (rows : List Row) (a : A) (walk : List A) → ends a ≡ false → Means (row ∷ rows) (a ∷ walk) → Means rows walk
  rest_means row rows a walk goes means =
      let tail : (element a ∷ map element walk) ≡ (row.element ∷ elements_of (take (length walk) rows)) = means.from_tail in
      record {
        from_tail = cc;
        fit = All-rest (λ (x : A). fits x ≡ true) a walk (a ∷ walk) refl means.fit;
        until = record {
          here = sym (ends_cons a walk (length rows) goes) ∙ means.until.here;
          not_before = λ k within. sym (ends_cons a (take k walk) (length rows) goes) ∙ means.until.not_before (suc k) (omega (arith, within));
        };
      }

  apart : (b : Bool) → b ≡ true → b ≡ false → ⊥
  apart b hit miss = let is : true ≡ false = sym hit ∙ miss in cc

  what_follows : (row : Row) (rows : List Row) (a : A) (walk : List A) (b : Bool) → ends a ≡ b → Means (row ∷ rows) (a ∷ walk)
      → (Means rows walk → is_walk element fits ends rows walk ≡ true) → cond b (eqb (length walk) 0) (is_walk element fits ends rows walk) ≡ true
  what_follows row rows a [] true ended means goes = refl
  what_follows row rows a (x ∷ walk) true ended means goes =
      absurd (apart (ends_at ends (suc (length rows)) (a ∷ [])) (ends_first a (suc (length rows)) ended) (means.until.not_before 1 (omega arith)))
  what_follows row rows a walk false ended means goes = goes (rest_means row rows a walk ended means)

  pub tell : (rows : List Row) (walk : List A) → Means rows walk → is_walk element fits ends rows walk ≡ true
  unfolding is_walk
  tell [] [] means = refl
  tell [] (a ∷ walk) means = let is : true ≡ false = means.until.not_before 0 (omega arith) in absurd cc
  tell (row ∷ rows) [] means = let is = eqb-true 0 (suc (length rows)) means.until.here in absurd (omega (arith, is))
  tell (row ∷ rows) (a ∷ walk) means =
      let tail : (element a ∷ map element walk) ≡ (row.element ∷ elements_of (take (length walk) rows)) = means.from_tail in
      let its : element a ≡ row.element = cc in
      let fit : fits a ≡ true = All-get_or (λ (x : A). fits x ≡ true) (a ∷ walk) 0 a (omega arith) means.fit in
      ap (λ (b : Bool). (b && fits a) && cond (ends a) (eqb (length walk) 0) (is_walk element fits ends rows walk)) (eq-eqb (element a) row.element its)
      ∙ ap (λ (b : Bool). b && cond (ends a) (eqb (length walk) 0) (is_walk element fits ends rows walk)) fit
      ∙ what_follows row rows a walk (ends a) refl means (tell rows walk)
