-- What a walk over all elements hands over has no key twice, and where it stops at a key that is there, that one is the last.
use Rattle.std.proofs.Common.{◌≡◌, ℕ, ◌≤◌, Bool, true, false, cond, List, [], ◌∷◌, ◌++◌, length, map, filter, Option, Some, None, refl, sym, ap, ◌∙◌, arith}
use Rattle.std.specs.Prelude.{◌||◌, bytes_eq, option_to_list}
use Rattle.std.specs.List.{list_any}
use Rattle.std.proofs.lemmas.Bool.{true≢false}
use Rattle.std.proofs.lemmas.Slice.Eq.{bytes_eq-Decides}
use Rattle.map_types.specs.Shape.{HasBounds}
use Rattle.map_types.specs.Stored.{Stored}
use Rattle.map_types.specs.declared.attr.Shape.{Shape}
use Rattle.place_words.specs.Bodies.{has_key, present}
use Rattle.place_words.specs.Handing.{is_stop, up_to_stop}
use Rattle.place_words.specs.Turns.{bucket_of_key}
use Rattle.map_report.specs.Serial.{in_order, program_pair}
use Rattle.serial_laws.specs.Entries.{EndsAt, HasNoKeyTwice}
use Rattle.serial_laws.proofs.WalkedKeys.{HaveOwnKeys, each_once_in_order}

-- of what is handed over no more passes a test than of all
up_to_fewer : (stop : Option (List ℕ)) (test : List ℕ × List ℕ → Bool) (pairs : List (List ℕ × List ℕ)) → length (filter test (up_to_stop stop pairs)) ≤ length (filter test pairs)
up_to_fewer stop test [] = omega arith
up_to_fewer stop test (pair ∷ pairs) =
    let rest : List (List ℕ × List ℕ) = cond (is_stop stop pair) [] (up_to_stop stop pairs) in
    let fewer : length (filter test rest) ≤ length (filter test pairs) =
    elim (is_stop stop pair) as (λ b. length (filter test (cond b [] (up_to_stop stop pairs))) ≤ length (filter test pairs)) [
      | true ↦ omega arith
      | false ↦ up_to_fewer stop test pairs
    ] in
    elim (test pair) as (λ b. length (cond b (pair ∷ filter test rest) (filter test rest)) ≤ length (cond b (pair ∷ filter test pairs) (filter test pairs))) [
      | true ↦ omega (arith, fewer)
      | false ↦ fewer
    ]

-- where a key stops the walk, its pair is the last
pub ends_at : (key : List ℕ) (pairs : List (List ℕ × List ℕ)) → list_any (is_stop (Some key)) pairs ≡ true → EndsAt key (up_to_stop (Some key) pairs)
ends_at key [] some = absurd (true≢false (sym some))
ends_at key (pair ∷ pairs) some =
    (elim (is_stop (Some key) pair) as (λ b. is_stop (Some key) pair ≡ b → b || list_any (is_stop (Some key)) pairs ≡ true → EndsAt key (pair ∷ cond b [] (up_to_stop (Some key) pairs))) [
      | true ↦ λ known here. ([], pair.1, ap (λ (k : List ℕ). (k, pair.1) ∷ []) ((bytes_eq-Decides pair.0 key).0 known))
      | false ↦ λ other later. let rest = ends_at key pairs later in (pair ∷ rest.0, rest.1, ap (λ (l : List (List ℕ × List ℕ)). pair ∷ l) rest.2)
    ]) refl some

-- as many pairs of a key as elements that hold it
pairs_of_key : (shape : Shape) (cpu : ℕ) (key : List ℕ) (bodies : List Stored) → length (filter (λ (pair : List ℕ × List ℕ). bytes_eq pair.0 key) (map (program_pair shape cpu) bodies)) ≡ length (filter (has_key key) bodies)
pairs_of_key shape cpu key [] = refl
pairs_of_key shape cpu key (body ∷ bodies) =
    let rest = pairs_of_key shape cpu key bodies in
    elim (bytes_eq body.key key) as (λ b. length (cond b (program_pair shape cpu body ∷ filter (λ (pair : List ℕ × List ℕ). bytes_eq pair.0 key) (map (program_pair shape cpu) bodies)) (filter (λ (pair : List ℕ × List ℕ). bytes_eq pair.0 key) (map (program_pair shape cpu) bodies))) ≡ length (cond b (body ∷ filter (has_key key) bodies) (filter (has_key key) bodies))) [
      | true ↦ omega (arith, rest)
      | false ↦ rest
    ]

at_most_one : {A : Type 0} (found : Option A) → length (option_to_list found) ≤ 1
at_most_one None = omega arith
at_most_one (Some x) = omega arith

-- no key is handed over twice
pub handed_once : (shape : Shape) → HasBounds shape → (lie : ℕ → List Stored) → HaveOwnKeys shape lie → (cpu : ℕ) (stop : Option (List ℕ)) → HasNoKeyTwice (up_to_stop stop (map (program_pair shape cpu) (in_order shape lie)))
handed_once shape bounds lie keys cpu stop = λ key.
    let pairs : List (List ℕ × List ℕ) = map (program_pair shape cpu) (in_order shape lie) in
    omega (arith, up_to_fewer stop (λ (pair : List ℕ × List ℕ). bytes_eq pair.0 key) pairs, pairs_of_key shape cpu key (in_order shape lie), ap length (each_once_in_order shape bounds lie keys key), at_most_one (present key (lie (bucket_of_key shape key))))
