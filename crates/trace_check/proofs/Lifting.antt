-- From turns to turns that have what came before them.
use Rattle.std.proofs.Common.{◌≡◌, ℕ, Bool, false, List, [], ◌∷◌, ◌++◌, Option, refl, ap, ◌∙◌, sym, subst}
use Rattle.std.specs.Prelude.{if◌then◌else◌}
use Rattle.map_types.specs.declared.attr.Shape.{Shape}
use Rattle.map_types.specs.Kind.{is_lru}
use Rattle.place_words.specs.PlainTraces.{spare_after, spare_after_part}
use Rattle.place_words.specs.Turns.{Turn, TurnAt, turns_of}
use Rattle.place_words.specs.Walks.{spare_left}
use Rattle.trace_check.specs.Reading.{Reads, IsReader}
use Rattle.trace_check.specs.Laws.{IsReaderAt}

-- turns in two parts
pub turns_both : (one more : List TurnAt) → turns_of (one ++ more) ≡ turns_of one ++ turns_of more
turns_both [] more = refl
turns_both (at ∷ one) more = ap (λ (l : List Turn). at.turn ∷ l) (turns_both one more)

pub record InTwo (turns : List TurnAt) (xs ys : List Turn) : Type 0 where
  pub one : List TurnAt
  pub more : List TurnAt
  pub turns_are : turns ≡ one ++ more
  pub first : turns_of one ≡ xs
  pub second : turns_of more ≡ ys

rest_of : List Turn → List Turn
rest_of [] = []
rest_of (x ∷ xs) = xs

head_of : Turn → List Turn → Turn
head_of other [] = other
head_of other (x ∷ xs) = x

pub in_two : (turns : List TurnAt) (xs ys : List Turn) → turns_of turns ≡ xs ++ ys → InTwo turns xs ys
unfolding rest_of head_of
in_two turns [] ys is = record { one = []; more = turns; turns_are = refl; first = refl; second = is }
in_two [] (x ∷ xs) ys is = absurd cc
in_two (at ∷ turns) (x ∷ xs) ys is =
    let same : at.turn ≡ x = ap (head_of x) is in
    let rest : turns_of turns ≡ xs ++ ys = ap rest_of is in
    let more = in_two turns xs ys rest in
    record {
      one = at ∷ more.one;
      more = more.more;
      turns_are = ap (λ (l : List TurnAt). at ∷ l) more.turns_are;
      first = ap (λ (t : Turn). t ∷ turns_of more.one) same ∙ ap (λ (l : List Turn). x ∷ l) more.first;
      second = more.second;
    }

pub none_of : (turns : List TurnAt) → turns_of turns ≡ [] → turns ≡ []
none_of [] is = refl
none_of (at ∷ turns) is = absurd cc

-- a relation of turns that says what one of turns at their places says
pub lifted : {A : Type 0} (Rel : List TurnAt → A → Type 0) (Plain : List Turn → A → Type 0) (read : Reads A) → ((turns : List TurnAt) (a : A) → Rel turns a → Plain (turns_of turns) a) → ((turns : List TurnAt) (a : A) → Plain (turns_of turns) a → Rel turns a)
    → IsReader Plain read → IsReaderAt Rel read
lifted {A = A} Rel Plain read there back reads = record {
  sound = λ turns rest a is.
      let found = reads.sound (turns_of turns) rest a is in
      let two = in_two turns found.read rest found.turns_are in
      record { one = two.one; more = two.more; turns_are = two.turns_are; rest_is = two.second; is = back two.one a (subst (λ (l : List Turn). Plain l a) (sym two.first) found.is) };
  complete = λ turns rest a is. reads.complete (turns_of turns) rest a (there turns a is);
}

-- spares
pub spare_both : (spare : Option ℕ) (xs ys : List Turn) → spare_after spare (xs ++ ys) ≡ spare_after (spare_after spare xs) ys
spare_both spare [] ys = refl
spare_both spare (x ∷ xs) ys = spare_both (spare_after_part spare x.part) xs ys

pub spare_of_turns : (shape : Shape) (spare : Option ℕ) (turns : List TurnAt) → is_lru shape.kind ≡ false → spare_left shape spare turns ≡ spare_after spare (turns_of turns)
spare_of_turns shape spare turns plain = ap (λ (b : Bool). if b then spare else spare_after spare (turns_of turns)) plain
