-- A walk over rows, one row after another.
use Rattle.std.proofs.Common.{◌≡◌, ℕ, suc, ◌+◌, ◌-◌, ◌<◌, ◌≤◌, Bool, true, false, ◌&&◌, cond, eqb, List, [], ◌∷◌, length, drop, get_or, refl, ap, sym, ◌∙◌, arith}
use Rattle.std.proofs.lemmas.Bool.{ne_eqb, eq-eqb}
use Rattle.std.proofs.lemmas.List.{drop_more, drop_all, length-drop}
use Rattle.std.specs.Prelude.{None}
use Rattle.map_types.specs.declared.row.Row.{Row}
use Rattle.place_words.specs.declared.visits.Look.{Look}
use Rattle.place_words.specs.declared.visits.Try.{Try}
use Rattle.place_words.specs.declared.bucket_part.Seen.TheVariants.{Removed}
use Rattle.map_types.proofs.RowLemmas.{by_test}
use Rattle.local_replay.specs.Walks.{is_walk}

pub some_row : Row
some_row = record { element = 0; hash = 0 }

pub some_look : Look
some_look = record { element = 0; bit = false; probed = None }

pub some_try : Try
some_try = record { element = 0; probed = Removed }

pub and_true : (b : Bool) → b ≡ (b && true)
and_true true = refl
and_true false = refl

module _ {A : Type 0} (element : A → ℕ) (fits ends : A → Bool) (rows : List Row) (walk : List A) (i : ℕ) where
  -- what is left of the walk decides
  abbrev pub Left : Bool → Type 0
  Left all = is_walk element fits ends (drop i rows) (drop i walk) ≡ all

  step : (d : A) → i < length rows → i < length walk
      → is_walk element fits ends (drop i rows) (drop i walk)
      ≡ (((eqb (element (get_or walk i d)) (get_or rows i some_row).element) && fits (get_or walk i d))
      && cond (ends (get_or walk i d)) (eqb (length (drop (i + 1) walk)) 0) (is_walk element fits ends (drop (i + 1) rows) (drop (i + 1) walk)))
  unfolding is_walk
  step d r w =
      ap (λ (l : List Row). is_walk element fits ends l (drop i walk)) (drop_more rows i some_row r)
      ∙ ap (is_walk element fits ends (get_or rows i some_row ∷ drop (i + 1) rows)) (drop_more walk i d w)

  pub walk_past : (d : A) (all : Bool) → length rows ≤ i → i < length walk → Left all → false ≡ all
  unfolding is_walk
  walk_past d all past within left =
      sym (ap (λ (l : List Row). is_walk element fits ends l (drop i walk)) (drop_all i rows past) ∙ ap (is_walk element fits ends []) (drop_more walk i d within)) ∙ left

  pub walk_stop : (d : A) (b all : Bool) → i < length rows → i < length walk → b ≡ false
      → b ≡ ((eqb (element (get_or walk i d)) (get_or rows i some_row).element) && fits (get_or walk i d)) → Left all → false ≡ all
  walk_stop d b all r w miss told left =
      sym (step d r w ∙ ap (λ (x : Bool). x && cond (ends (get_or walk i d)) (eqb (length (drop (i + 1) walk)) 0) (is_walk element fits ends (drop (i + 1) rows) (drop (i + 1) walk))) (sym told ∙ miss)) ∙ left

  on : (d : A) (b : Bool) → i < length rows → i < length walk → b ≡ true
      → b ≡ ((eqb (element (get_or walk i d)) (get_or rows i some_row).element) && fits (get_or walk i d))
      → is_walk element fits ends (drop i rows) (drop i walk)
      ≡ cond (ends (get_or walk i d)) (eqb (length (drop (i + 1) walk)) 0) (is_walk element fits ends (drop (i + 1) rows) (drop (i + 1) walk))
  on d b r w hit told =
      step d r w ∙ ap (λ (x : Bool). x && cond (ends (get_or walk i d)) (eqb (length (drop (i + 1) walk)) 0) (is_walk element fits ends (drop (i + 1) rows) (drop (i + 1) walk))) (sym told ∙ hit)

  is_end : (n : ℕ) → i < n → eqb (i + 1) n ≡ eqb (n - (i + 1)) 0
  is_end n within =
      by_test (i + 1) n (λ b. b ≡ eqb (n - (i + 1)) 0) (λ is. sym (eq-eqb (n - (i + 1)) 0 (omega (arith, is)))) (λ is. sym (ne_eqb (n - (i + 1)) 0 (λ none. is (omega (arith, none, within)))))

  pub walk_ends : (d : A) (b e all : Bool) → i < length rows → i < length walk → b ≡ true
      → b ≡ ((eqb (element (get_or walk i d)) (get_or rows i some_row).element) && fits (get_or walk i d))
      → e ≡ true → e ≡ ends (get_or walk i d) → Left all → eqb (i + 1) (length walk) ≡ all
  walk_ends d b e all r w hit told ended is left =
      is_end (length walk) w ∙ ap (λ (n : ℕ). eqb n 0) (sym (length-drop (i + 1) walk))
      ∙ sym (on d b r w hit told ∙ ap (λ (x : Bool). cond x (eqb (length (drop (i + 1) walk)) 0) (is_walk element fits ends (drop (i + 1) rows) (drop (i + 1) walk))) (sym is ∙ ended)) ∙ left

  pub walk_next : (d : A) (b e all : Bool) → i < length rows → i < length walk → b ≡ true
      → b ≡ ((eqb (element (get_or walk i d)) (get_or rows i some_row).element) && fits (get_or walk i d))
      → e ≡ false → e ≡ ends (get_or walk i d) → Left all → is_walk element fits ends (drop (i + 1) rows) (drop (i + 1) walk) ≡ all
  walk_next d b e all r w hit told goes is left =
      sym (on d b r w hit told ∙ ap (λ (x : Bool). cond x (eqb (length (drop (i + 1) walk)) 0) (is_walk element fits ends (drop (i + 1) rows) (drop (i + 1) walk))) (sym is ∙ goes)) ∙ left

  none_left : (rest : List Row) → is_walk element fits ends rest [] ≡ eqb (length rest) 0
  unfolding is_walk
  none_left [] = refl
  none_left (row ∷ rest) = sym (ne_eqb (suc (length rest)) 0 (λ is. omega (arith, is)))

  all_left : (n m : ℕ) → n ≤ m → eqb (m - n) 0 ≡ eqb n m
  all_left n m within =
      by_test n m (λ b. eqb (m - n) 0 ≡ b) (λ is. eq-eqb (m - n) 0 (omega (arith, is))) (λ is. ne_eqb (m - n) 0 (λ none. is (omega (arith, none, within))))

  pub walk_whole : (all : Bool) → i ≤ length rows → i ≡ length walk → Left all → eqb (length walk) (length rows) ≡ all
  walk_whole all r is left =
      sym (ap (is_walk element fits ends (drop i rows)) (drop_all i walk (omega (arith, is))) ∙ none_left (drop i rows) ∙ ap (λ (n : ℕ). eqb n 0) (length-drop i rows)
      ∙ all_left i (length rows) r ∙ ap (λ (n : ℕ). eqb n (length rows)) is) ∙ left
