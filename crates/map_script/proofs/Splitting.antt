-- Cutting a text at its first separator, and going through what is left.
use Rattle.std.proofs.Common.{◌≡◌, ℕ, suc, ◌+◌, ◌<◌, Bool, true, false, cond, ◌==◌, not, List, [], ◌∷◌, ◌++◌, length, get_or, take, drop, filter, count_by, All, refl, sym, ap, ◌∙◌, take-append-drop, arith}
use Rattle.std.specs.List.{slice_split, onto_first}
use Rattle.std.proofs.lemmas.List.{drop_more, get_or-take, length-take}
use Rattle.std.proofs.lemmas.List.Elements.{All-from_get_or}
use Rattle.std.proofs.lemmas.List.Splits.{slice_split_at, slice_split_none, slice_split-cons_yes, length-slice_split}
use Rattle.memchr.specs.Find.{Nowhere, Passes}
use Rattle.map_script.specs.Lines.{Line, is_line_feed, is_blank, is_nothing, said_by, numbered, lines_from, tokens_of}

-- where no byte passes
pub none_passes : (p : ℕ → Bool) (xs : List ℕ) (n : ℕ) → Nowhere (Passes p xs) 0 n → (k : ℕ) → k < n → p (get_or xs k 0) ≡ false
none_passes p xs n nowhere k below = go (p (get_or xs k 0)) refl
  where
    go : (passes : Bool) → p (get_or xs k 0) ≡ passes → passes ≡ false
    go true is = absurd (nowhere k (omega arith) below is)
    go false is = refl

-- a list that is cut at its first separator
cut_at : (p : ℕ → Bool) (xs : List ℕ) (i : ℕ) → i < length xs → p (get_or xs i 0) ≡ true → ((k : ℕ) → k < i → p (get_or xs k 0) ≡ false) → slice_split p xs ≡ take i xs ∷ slice_split p (drop (i + 1) xs)
cut_at p xs i inside here before =
    let parts : xs ≡ take i xs ++ (get_or xs i 0 ∷ drop (i + 1) xs) = sym (take-append-drop i xs) ∙ ap (λ (l : List ℕ). take i xs ++ l) (drop_more xs i 0 inside) in
    let free : All (λ x. p x ≡ false) (take i xs) = All-from_get_or (λ x. p x ≡ false) (take i xs) 0 (λ k lt. let below : k < i = omega (arith, length-take i xs) in rw (get_or-take i xs k 0 below) (before k below)) in
    ap (slice_split p) parts ∙ slice_split_at p (take i xs) (get_or xs i 0) (drop (i + 1) xs) free here

-- a list without a separator
uncut : (p : ℕ → Bool) (xs : List ℕ) → ((k : ℕ) → k < length xs → p (get_or xs k 0) ≡ false) → slice_split p xs ≡ xs ∷ []
uncut p xs free = slice_split_none p xs (All-from_get_or (λ x. p x ≡ false) xs 0 free)

onto_append : (x n : ℕ) (parts more : List (List ℕ)) → length parts ≡ suc n → onto_first x (parts ++ more) ≡ onto_first x parts ++ more
onto_append x n [] more h = absurd (omega (arith, h))
onto_append x n (part ∷ parts) more h = refl

step_append : (cut : Bool) (x n : ℕ) (parts more : List (List ℕ)) → length parts ≡ suc n → cond cut ([] ∷ (parts ++ more)) (onto_first x (parts ++ more)) ≡ cond cut ([] ∷ parts) (onto_first x parts) ++ more
step_append true x n parts more h = refl
step_append false x n parts more h = onto_append x n parts more h

pub some_part : (p : ℕ → Bool) (xs : List ℕ) → length (slice_split p xs) ≡ suc (count_by p xs)
some_part p xs = omega (arith, length-slice_split p xs)

-- the parts before a separator, and those behind it
pub split_at : (p : ℕ → Bool) (xs : List ℕ) (y : ℕ) (ys : List ℕ) → p y ≡ true → slice_split p (xs ++ y ∷ ys) ≡ slice_split p xs ++ slice_split p ys
split_at p [] y ys h = slice_split-cons_yes p y ys h
split_at p (x ∷ xs) y ys h =
    ap (λ (parts : List (List ℕ)). cond (p x) ([] ∷ parts) (onto_first x parts)) (split_at p xs y ys h)
    ∙ step_append (p x) x (count_by p xs) (slice_split p xs) (slice_split p ys) (some_part p xs)

-- a choice on the other answer
choose : {A : Type 0} (b : Bool) (x y : A) → cond (not b) x y ≡ cond b y x
choose true x y = refl
choose false x y = refl

-- a line, where it says something, and the lines behind it
abbrev pub with_line : ℕ → List ℕ → List Line → List Line
with_line number line lines =
    cond (is_nothing (said_by line)) lines (record { number = number; says = said_by line } ∷ lines)

-- the lines that say something, of some parts of a text
abbrev lines_in : ℕ → List (List ℕ) → List Line
lines_in number parts = filter (λ line. not (is_nothing line.says)) (numbered number parts)

abbrev tokens_in : List (List ℕ) → List (List ℕ)
tokens_in parts = filter (λ token. not (length token == 0)) parts

pub line_at : (text : List ℕ) (i : ℕ) → i < length text → is_line_feed (get_or text i 0) ≡ true → ((k : ℕ) → k < i → is_line_feed (get_or text k 0) ≡ false) → (number : ℕ)
    → lines_from number text ≡ with_line number (take i text) (lines_from (number + 1) (drop (i + 1) text))
line_at text i inside here before number =
    let first : Line = record { number = number; says = said_by (take i text) } in
    let others = lines_from (number + 1) (drop (i + 1) text) in
    ap (lines_in number) (cut_at is_line_feed text i inside here before) ∙ choose (is_nothing (said_by (take i text))) (first ∷ others) others

pub last_line : (text : List ℕ) → ((k : ℕ) → k < length text → is_line_feed (get_or text k 0) ≡ false) → (number : ℕ)
    → lines_from number text ≡ with_line number text []
last_line text free number =
    let first : Line = record { number = number; says = said_by text } in
    ap (lines_in number) (uncut is_line_feed text free) ∙ choose (is_nothing (said_by text)) (first ∷ []) []

-- a line feed fewer is left
pub feed_at : (text : List ℕ) (i : ℕ) → i < length text → is_line_feed (get_or text i 0) ≡ true → ((k : ℕ) → k < i → is_line_feed (get_or text k 0) ≡ false)
    → count_by is_line_feed text ≡ count_by is_line_feed (drop (i + 1) text) + 1
feed_at text i inside here before =
    let cut = ap (λ (parts : List (List ℕ)). length parts) (cut_at is_line_feed text i inside here before) in
    omega (arith, cut, length-slice_split is_line_feed text, length-slice_split is_line_feed (drop (i + 1) text))

pub no_feed : (text : List ℕ) → ((k : ℕ) → k < length text → is_line_feed (get_or text k 0) ≡ false) → count_by is_line_feed text ≡ 0
no_feed text free =
    let uncut_length = ap (λ (parts : List (List ℕ)). length parts) (uncut is_line_feed text free) in
    omega (arith, uncut_length, length-slice_split is_line_feed text)

pub token_at : (line : List ℕ) (i : ℕ) → i < length line → is_blank (get_or line i 0) ≡ true → ((k : ℕ) → k < i → is_blank (get_or line k 0) ≡ false)
    → tokens_of line ≡ cond (length (take i line) == 0) (tokens_of (drop (i + 1) line)) (take i line ∷ tokens_of (drop (i + 1) line))
token_at line i inside here before =
    ap tokens_in (cut_at is_blank line i inside here before) ∙ choose (length (take i line) == 0) (take i line ∷ tokens_of (drop (i + 1) line)) (tokens_of (drop (i + 1) line))

pub last_token : (line : List ℕ) → ((k : ℕ) → k < length line → is_blank (get_or line k 0) ≡ false)
    → tokens_of line ≡ cond (length line == 0) [] (line ∷ [])
last_token line free = ap tokens_in (uncut is_blank line free) ∙ choose (length line == 0) (line ∷ []) []
