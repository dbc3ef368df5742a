-- Reading one after another, as a loop does.
use Rattle.std.proofs.Common.{◌≡◌, List, [], ◌∷◌, ◌++◌, Result, Ok, Err, refl, ap, append_assoc}
use Rattle.map_script.specs.Places.{◌>>=◌}

-- what was read before, and what is still read
abbrev pub with_front : {A E : Type 0} → List A → Result (List A) E → Result (List A) E
with_front front (Ok rest) = Ok (front ++ rest)
with_front front (Err wrong) = Err wrong

-- one more in front of what is still read
pub front_more : {A E : Type 0} (front : List A) (x : A) (read : Result (List A) E) → with_front (front ++ x ∷ []) read ≡ with_front front (with_front (x ∷ []) read)
front_more front x (Ok rest) = ap Ok (append_assoc front (x ∷ []) rest)
front_more front x (Err wrong) = refl

-- one, and then what is still read
pub fronted : {A E : Type 0} (x : A) (read : Result (List A) E) → (read >>= λ rest. Ok (x ∷ rest)) ≡ with_front (x ∷ []) read
fronted x (Ok rest) = refl
fronted x (Err wrong) = refl
