-- So many items, read one after another.
use Rattle.std.proofs.Common.{◌≡◌, ℕ, suc, List, [], ◌∷◌, ◌++◌, Option, Some, None, refl, sym, ap, ◌∙◌, append_assoc}
use Rattle.std.proofs.lemmas.List.{append-nil}
use Rattle.record_reading.specs.Readers.{Reader, ◌>>=◌, times}

-- what is left is read behind what was found
abbrev pub left_of : {A : Type 0} → Reader A → List A → ℕ → List ℕ → Option (List A × List ℕ)
left_of read found left rest = times left read rest >>= (λ more. Some (found ++ more.0, more.1))

pub record IsSoFar {A : Type 0} (read : Reader A) (count left : ℕ) (text rest : List ℕ) (found : List A) : Type 0 where
  pub so_far : times count read text ≡ left_of read found left rest

abbrev behind_one : {A : Type 0} → A → List A × List ℕ → Option (List A × List ℕ)
behind_one item more = Some (item ∷ more.0, more.1)

abbrev behind_these : {A : Type 0} → List A → List A × List ℕ → Option (List A × List ℕ)
behind_these found more = Some (found ++ more.0, more.1)

joined_more : {A : Type 0} (found : List A) (item : A) (o : Option (List A × List ℕ)) → ((o >>= behind_one item) >>= behind_these found) ≡ (o >>= behind_these (found ++ item ∷ []))
joined_more found item None = refl
joined_more found item (Some more) = ap (λ (l : List _). Some (l, more.1)) (sym (append_assoc found (item ∷ []) more.0))

all_found : {A : Type 0} (o : Option (List A × List ℕ)) → o ≡ (o >>= behind_these [])
all_found None = refl
all_found (Some more) = refl

pub times_more : {A : Type 0} (read : Reader A) (count full left : ℕ) (text rest : List ℕ) (found : List A) → IsSoFar read count full text rest found → full ≡ suc left → (item : A) (after : List ℕ) → read rest ≡ Some (item, after) → IsSoFar read count left text after (found ++ item ∷ [])
times_more read count full left text rest found so is item after h =
    record { so_far = so.so_far ∙ ap (λ n. left_of read found n rest) is ∙ rw h (joined_more found item (times left read after)) }

pub times_none : {A : Type 0} (read : Reader A) (count full left : ℕ) (text rest : List ℕ) (found : List A) → IsSoFar read count full text rest found → full ≡ suc left → read rest ≡ None → times count read text ≡ None
times_none read count full left text rest found so is h = so.so_far ∙ ap (λ n. left_of read found n rest) is ∙ rw h refl

pub times_done : {A : Type 0} (read : Reader A) (count full : ℕ) (text rest : List ℕ) (found : List A) → IsSoFar read count full text rest found → full ≡ 0 → times count read text ≡ Some (found, rest)
times_done read count full text rest found so is = so.so_far ∙ ap (λ n. left_of read found n rest) is ∙ ap (λ (l : List _). Some (l, rest)) (append-nil found)

pub times_start : {A : Type 0} (read : Reader A) (count full : ℕ) (text : List ℕ) (found : List A) → full ≡ count → found ≡ [] → IsSoFar read count full text text found
times_start read count full text found is none =
    record { so_far = all_found (times count read text) ∙ ap (λ n. left_of read [] n text) (sym is) ∙ ap (λ l. left_of read l full text) (sym none) }
