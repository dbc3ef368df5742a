-- The words at the opening of a map.
use Rattle.std.proofs.Common.{◌≡◌, ℕ, ◌<◌, ◌≤◌, cond, ltb, List, [], length, get_or, ap, ◌∙◌, sym, subst, ⊎_elim, arith}
use Rattle.std.specs.Prelude.{map}
use Rattle.std.specs.List.{range_with_len}
use Rattle.std.proofs.lemmas.Bool.{cases_lt, lt-ltb, le-ltb}
use Rattle.std.proofs.lemmas.List.FromFn.{get_or-map-range_with_len, length-map-range_with_len}
use Rattle.std.proofs.lemmas.List.{get_or_past}
use Rattle.map_types.specs.declared.attr.Shape.{Shape}
use Rattle.map_types.specs.Creation.{IsShape}
use Rattle.place_words.specs.declared.owner.Owner.{Owner}
use Rattle.place_words.specs.declared.owner.Owner.TheVariants as owners
use Rattle.place_words.specs.declared.home.Home.{Home}
use Rattle.place_words.specs.declared.home.Home.TheVariants as homes
use Rattle.place_words.specs.Openings.{opening_owner}
use Rattle.place_words.specs.OpeningState.{opening_home, opening}
use Rattle.core_runs.specs.Words.{words_of}
use Rattle.step_check.specs.WordsView.{words_in, AreWords}

at_map : {A : Type 0} (f : ℕ → A) (n k : ℕ) (d : A) → get_or (map f (range_with_len 0 n)) k d ≡ cond (ltb k n) (f k) d
at_map f n k d =
    ⊎_elim
    (λ (within : k < n). get_or-map-range_with_len f 0 n k k d within (omega arith) ∙ sym (ap (λ b. cond b (f k) d) (lt-ltb k n within)))
    (λ (past : n ≤ k). get_or_past (map f (range_with_len 0 n)) k d (omega (arith, length-map-range_with_len f 0 n)) ∙ sym (ap (λ b. cond b (f k) d) (le-ltb k n past)))
    (cases_lt k n)

pub opening_words : (shape : Shape) (held : List (ℕ × ℕ)) (os : List Owner) (hs : List Home) → held ≡ [] → os ≡ map (opening_owner shape shape.kind) (range_with_len 0 shape.elements) → hs ≡ map (opening_home shape) (range_with_len 0 shape.elements)
    → words_in record { shape = shape; held = held; owners = os; homes = hs } ≡ words_of (opening shape)
unfolding opening
opening_words shape held os hs held_is os_are hs_are = λ i. record {
  holder = λ k. ap (λ (h : List (ℕ × ℕ)). (words_in record { shape = shape; held = h; owners = []; homes = [] }).holder k) held_is i;
  owner = λ e. (ap (λ (xs : List Owner). get_or xs e owners.Free) os_are ∙ at_map (opening_owner shape shape.kind) shape.elements e owners.Free) i;
  home = λ e. (ap (λ (xs : List Home). get_or xs e homes.Unlisted) hs_are ∙ at_map (opening_home shape) shape.elements e homes.Unlisted) i;
}

pub opening_are : (shape : Shape) (held : List (ℕ × ℕ)) (os : List Owner) (hs : List Home) → IsShape shape → held ≡ [] → os ≡ map (opening_owner shape shape.kind) (range_with_len 0 shape.elements) → hs ≡ map (opening_home shape) (range_with_len 0 shape.elements)
    → AreWords record { shape = shape; held = held; owners = os; homes = hs }
opening_are shape held os hs is held_is os_are hs_are =
    subst (λ (h : List (ℕ × ℕ)). AreWords record { shape = shape; held = h; owners = os; homes = hs }) (sym held_is) record {
      is_shape = is;
      owners = ap length os_are ∙ length-map-range_with_len (opening_owner shape shape.kind) 0 shape.elements;
      homes = ap length hs_are ∙ length-map-range_with_len (opening_home shape) 0 shape.elements;
      held = tt;
    }
