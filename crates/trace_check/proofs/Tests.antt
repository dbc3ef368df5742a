-- What the tests of turns say, and the reader of a bucket's turn with those of freelists before it.
use Rattle.std.proofs.Common.{◌≡◌, ℕ, Bool, true, false, List, [], ◌∷◌, ◌++◌, Option, None, Some, refl, ap, ◌∙◌, sym}
use Rattle.std.specs.Prelude.{bytes_eq, if◌then◌else◌}
use Rattle.std.proofs.lemmas.Bool.{and_parts, and_from, eqb-true, eq-eqb}
use Rattle.std.proofs.lemmas.Option.{same_Some}
use Rattle.std.proofs.lemmas.Slice.Eq.{bytes_eq-Decides}
use Rattle.map_types.specs.declared.kind.DomainId.TheVariants.{Bucket}
use Rattle.map_types.specs.declared.kind.Side.{Side}
use Rattle.map_types.specs.declared.kind.Side.TheVariants.{Prog, Sys}
use Rattle.place_words.specs.declared.bucket_part.BucketPart.{BucketPart}
use Rattle.place_words.specs.declared.free_part.FreePart.{FreePart}
use Rattle.place_words.specs.declared.free_part.FreePart.TheVariants.{Pushed, Popped, FoundEmpty}
use Rattle.place_words.specs.declared.history.Part.{Part}
use Rattle.place_words.specs.declared.history.Part.TheVariants as parts
use Rattle.place_words.specs.Locks.{is_same_lock}
use Rattle.place_words.specs.PlainTraces.{found_empty, pushes}
use Rattle.place_words.specs.Turns.{Turn, on_lock}
use Rattle.place_words.proofs.LockLemmas.{same_lock, one_lock}
use Rattle.trace_check.specs.Reading.{IsReader, is_free, of_bucket, at_bucket, when, checked, read_at, same_side, same_free, same_part, same_turn, same_turns}
use Rattle.trace_check.proofs.Readers.{AreFree, IsGroup, group_reader, same_reader}

pub one_side : (s t : Side) → same_side s t ≡ true → s ≡ t
one_side Prog Prog is = refl
one_side Sys Sys is = refl
one_side Prog Sys is = absurd cc
one_side Sys Prog is = absurd cc

pub side_same : (s : Side) → same_side s s ≡ true
side_same Prog = refl
side_same Sys = refl

pub one_key : (key other : List ℕ) → bytes_eq key other ≡ true → key ≡ other
one_key key other is = (bytes_eq-Decides key other).0 is

pub key_same : (key : List ℕ) → bytes_eq key key ≡ true
key_same key = (bytes_eq-Decides key key).1 refl

one_free : (part other : FreePart) → same_free part other ≡ true → part ≡ other
one_free (Pushed e) (Pushed x) is = ap Pushed (eqb-true e x is)
one_free (Popped e) (Popped x) is = ap Popped (eqb-true e x is)
one_free FoundEmpty FoundEmpty is = refl
one_free (Pushed e) (Popped x) is = absurd cc
one_free (Pushed e) FoundEmpty is = absurd cc
one_free (Popped e) (Pushed x) is = absurd cc
one_free (Popped e) FoundEmpty is = absurd cc
one_free FoundEmpty (Pushed x) is = absurd cc
one_free FoundEmpty (Popped x) is = absurd cc

free_same : (part : FreePart) → same_free part part ≡ true
free_same (Pushed e) = eq-eqb e e refl
free_same (Popped e) = eq-eqb e e refl
free_same FoundEmpty = refl

one_part : (part other : Part) → same_part part other ≡ true → part ≡ other
one_part (parts.Free part) (parts.Free other) is = ap parts.Free (one_free part other is)
one_part (parts.Free part) (parts.Bucket other) is = absurd cc
one_part (parts.Free part) (parts.Local other) is = absurd cc
one_part (parts.Free part) (parts.Global other) is = absurd cc
one_part (parts.Free part) (parts.Own other) is = absurd cc
one_part (parts.Bucket part) other is = absurd cc
one_part (parts.Local part) other is = absurd cc
one_part (parts.Global part) other is = absurd cc
one_part (parts.Own part) other is = absurd cc

part_same : (part : Part) → is_free part ≡ true → same_part part part ≡ true
part_same (parts.Free part) free = free_same part
part_same (parts.Bucket part) free = absurd cc
part_same (parts.Local part) free = absurd cc
part_same (parts.Global part) free = absurd cc
part_same (parts.Own part) free = absurd cc

pub one_turn : (turn other : Turn) → same_turn turn other ≡ true → turn ≡ other
one_turn turn other is =
    let both = and_parts (is_same_lock turn.lock other.lock) (same_part turn.part other.part) is in
    let lock : turn.lock ≡ other.lock = one_lock turn.lock other.lock both.0 in
    let part : turn.part ≡ other.part = one_part turn.part other.part both.1 in
    ap (λ l. on_lock l turn.part) lock ∙ ap (λ p. on_lock other.lock p) part

turn_same : (turn : Turn) → is_free turn.part ≡ true → same_turn turn turn ≡ true
turn_same turn free = and_from (is_same_lock turn.lock turn.lock) (same_part turn.part turn.part) (same_lock turn.lock) (part_same turn.part free)

pub one_row : (turns others : List Turn) → same_turns turns others ≡ true → turns ≡ others
one_row [] [] is = refl
one_row [] (other ∷ others) is = absurd cc
one_row (turn ∷ turns) [] is = absurd cc
one_row (turn ∷ turns) (other ∷ others) is =
    let both = and_parts (same_turn turn other) (same_turns turns others) is in
    ap (λ (t : Turn). t ∷ turns) (one_turn turn other both.0) ∙ ap (λ (l : List Turn). other ∷ l) (one_row turns others both.1)

pub row_same : (turns : List Turn) → AreFree turns → same_turns turns turns ≡ true
row_same [] free = refl
row_same (turn ∷ turns) free = and_from (same_turn turn turn) (same_turns turns turns) (turn_same turn free.0) (row_same turns free.1)

-- rows of turns of freelists
pub free_pushes : (cpu : ℕ) (gone : Option ℕ) → AreFree (pushes cpu gone)
free_pushes cpu None = tt
free_pushes cpu (Some e) = (refl, tt)

pub free_empty : (cpus : List ℕ) → AreFree (found_empty cpus)
free_empty [] = tt
free_empty (cpu ∷ cpus) = (refl, free_empty cpus)

pub free_more : (xs ys : List Turn) → AreFree xs → AreFree ys → AreFree (xs ++ ys)
free_more [] ys first second = second
free_more (x ∷ xs) ys first second = (first.0, free_more xs ys first.1 second)

-- what a test lets through
pub when_told : {A : Type 0} (test : Bool) (a b : A) → when test a ≡ Some b → (test ≡ true) × (a ≡ b)
when_told true a b is = (refl, same_Some a b is)
when_told false a b is = absurd cc

pub when_so : {A : Type 0} (test : Bool) (a : A) → test ≡ true → when test a ≡ Some a
when_so test a is = ap (λ (b : Bool). when b a) is

checked_told : {A : Type 0} (test : A → Bool) (o : Option A) (a : A) → checked test o ≡ Some a → (o ≡ Some a) × (test a ≡ true)
checked_told test None a is = absurd cc
checked_told test (Some b) a is =
    let both = when_told (test b) b a is in
    (ap Some both.1, ap test (sym both.1) ∙ both.0)

-- A bucket's turn with those of freelists before it, as a relation.
pub record IsAt {A : Type 0} (bucket : ℕ) (part_of : A → BucketPart) (Looks : A → List Turn → Type 0) (xs : List Turn) (a : A) : Type 0 where
  pub before : List Turn
  pub looks : Looks a before
  pub xs_are : xs ≡ before ++ on_lock (Bucket bucket) (parts.Bucket (part_of a)) ∷ []

-- what a reader of bucket's turns and a test of what stands before them have to say of them
pub record Tells {A : Type 0} (part_of : A → BucketPart) (Looks : A → List Turn → Type 0) (says : BucketPart → Option A) (looks : A → List Turn → Bool) : Type 0 where
  pub says_it : (a : A) → says (part_of a) ≡ Some a
  pub says_only : (part : BucketPart) (a : A) → says part ≡ Some a → part ≡ part_of a
  pub looks_so : (a : A) (before : List Turn) → Looks a before → looks a before ≡ true
  pub looks_only : (a : A) (before : List Turn) → looks a before ≡ true → Looks a before
  pub are_free : (a : A) (before : List Turn) → Looks a before → AreFree before

module _ {A : Type 0} (bucket : ℕ) (part_of : A → BucketPart) (Looks : A → List Turn → Type 0) (says : BucketPart → Option A) (looks : A → List Turn → Bool) (tells : Tells part_of Looks says looks) where
  at_told : (turn : Turn) (a : A) → at_bucket bucket says turn ≡ Some a → turn ≡ on_lock (Bucket bucket) (parts.Bucket (part_of a))
  at_told turn a is = by (is_same_lock turn.lock (Bucket bucket)) refl is
    where
      of : (part : Part) → of_bucket says part ≡ Some a → part ≡ parts.Bucket (part_of a)
      of (parts.Bucket part) so = ap parts.Bucket (tells.says_only part a so)
      of (parts.Free part) so = absurd cc
      of (parts.Local part) so = absurd cc
      of (parts.Global part) so = absurd cc
      of (parts.Own part) so = absurd cc

      by : (b : Bool) → is_same_lock turn.lock (Bucket bucket) ≡ b → (if b then of_bucket says turn.part else None) ≡ Some a → turn ≡ on_lock (Bucket bucket) (parts.Bucket (part_of a))
      by true same so = ap (λ l. on_lock l turn.part) (one_lock turn.lock (Bucket bucket) same) ∙ ap (λ p. on_lock (Bucket bucket) p) (of turn.part so)
      by false same so = absurd cc

  at_so : (a : A) → at_bucket bucket says (on_lock (Bucket bucket) (parts.Bucket (part_of a))) ≡ Some a
  at_so a = ap (λ (b : Bool). if b then says (part_of a) else None) (same_lock (Bucket bucket)) ∙ tells.says_it a

  group_says : List Turn → Turn → Option A
  group_says before last = checked (λ a. looks a before) (at_bucket bucket says last)

  pub at_reader : IsReader (IsAt bucket part_of Looks) (read_at bucket says looks)
  unfolding group_says
  at_reader = same_reader (IsGroup group_says) (IsAt bucket part_of Looks) (read_at bucket says looks) there back (group_reader group_says)
    where
      there : (xs : List Turn) (a : A) → IsGroup group_says xs a → IsAt bucket part_of Looks xs a
      there xs a is =
          let both = checked_told (λ b. looks b is.before) (at_bucket bucket says is.last) a is.says_so in
          record { before = is.before; looks = tells.looks_only a is.before both.1; xs_are = is.xs_are ∙ ap (λ (t : Turn). is.before ++ t ∷ []) (at_told is.last a both.0) }

      back : (xs : List Turn) (a : A) → IsAt bucket part_of Looks xs a → IsGroup group_says xs a
      back xs a is =
          record {
            before = is.before;
            last = on_lock (Bucket bucket) (parts.Bucket (part_of a));
            xs_are = is.xs_are;
            are_free = tells.are_free a is.before is.looks;
            last_is = refl;
            says_so = ap (checked (λ b. looks b is.before)) (at_so a) ∙ when_so (looks a is.before) a (tells.looks_so a is.before is.looks);
          }
