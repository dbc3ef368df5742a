-- Lines that are added one part after the other.
use Rattle.std.proofs.Common.{◌≡◌, ℕ, List, ◌∷◌, ◌++◌, Result, Ok, Err, sym, ap, ◌∙◌, append_assoc}
use Rattle.std.specs.Prelude.{OnOk}
use Rattle.std.specs.List.{flat_map}
use Rattle.std.proofs.lemmas.Grind.{flat_map-append}

-- a line, some lines, and others
pub three_parts : {A E : Type 0} (line : List ℕ → List A) (first : List ℕ) (some others : List (List ℕ)) (r : Result (Unit {0}) E) (before one two now : List A)
    → one ≡ before ++ line first → two ≡ one ++ flat_map line some → OnOk r (now ≡ two ++ flat_map line others)
    → OnOk r (now ≡ before ++ flat_map line (first ∷ some ++ others))
three_parts line first some others (Err e) before one two now one_is two_is now_is = tt
three_parts line first some others (Ok done) before one two now one_is two_is now_is =
    let rest = flat_map line some ++ flat_map line others in
    now_is ∙ ap (λ (two : List _). two ++ flat_map line others) (two_is ∙ ap (λ (one : List _). one ++ flat_map line some) one_is)
    ∙ append_assoc (before ++ line first) (flat_map line some) (flat_map line others)
    ∙ append_assoc before (line first) rest
    ∙ ap (λ (parts : List _). before ++ (line first ++ parts)) (sym (flat_map-append line some others))
