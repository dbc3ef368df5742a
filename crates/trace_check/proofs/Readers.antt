-- Readers made of readers, and their laws.
use Rattle.std.proofs.Common.{◌≡◌, Bool, true, false, List, [], ◌∷◌, ◌++◌, Option, None, Some, refl, ap, ◌∙◌, sym}
use Rattle.std.proofs.lemmas.List.{append_assoc}
use Rattle.std.proofs.lemmas.Option.{same_Some}
use Rattle.std.specs.Prelude.{MatchBool, if◌then◌else◌}
use Rattle.place_words.specs.Turns.{Turn}
use Rattle.trace_check.specs.Reading.{Reads, Found, IsReader, read_nothing, told, read_as, then_read, read_then, is_free, with_rest, read_group}

-- nothing is read
abbrev pub IsNothing : {A : Type 0} → A → List Turn → A → Type 0
IsNothing b xs a = (xs ≡ []) × (a ≡ b)

pub nothing_reader : {A : Type 0} (b : A) → IsReader (IsNothing b) (read_nothing b)
nothing_reader {A = A} b = record {
  sound = λ ts rest a is.
      let pair : (b, ts) ≡ (a, rest) = same_Some (b, ts) (a, rest) is in
      record { read = []; turns_are = ap (λ (p : A × List Turn). p.1) pair; is = (refl, sym (ap (λ (p : A × List Turn). p.0) pair)) };
  complete = λ xs rest a is. ap (λ (l : List Turn). Some (b, l ++ rest)) is.0 ∙ ap (λ (c : A). Some (c, rest)) (sym is.1);
}

-- told in another way
abbrev pub IsAs : {A B : Type 0} → (A → B) → (List Turn → A → Type 0) → List Turn → B → Type 0
IsAs {A = A} f Rel xs b = (a : A) × (Rel xs a × (b ≡ f a))

pub as_reader : {A B : Type 0} (f : A → B) (Rel : List Turn → A → Type 0) (read : Reads A) → IsReader Rel read → IsReader (IsAs f Rel) (read_as f read)
as_reader {A = A} {B = B} f Rel read reads = record {
  sound = λ ts rest b is. from ts rest b (read ts) refl is;
  complete = λ xs rest b is. ap (told f) (reads.complete xs rest is.0 is.1.0) ∙ ap (λ (c : B). Some (c, rest)) (sym is.1.1);
}
  where
    from : (ts rest : List Turn) (b : B) (o : Option (A × List Turn)) → read ts ≡ o → told f o ≡ Some (b, rest) → Found (IsAs f Rel) ts rest b
    from ts rest b None is none = absurd cc
    from ts rest b (Some (a, left)) is some =
        let pair : (f a, left) ≡ (b, rest) = same_Some (f a, left) (b, rest) some in
        let one = reads.sound ts left a is in
        record { read = one.read; turns_are = one.turns_are ∙ ap (λ (p : B × List Turn). one.read ++ p.1) pair; is = (a, (one.is, sym (ap (λ (p : B × List Turn). p.0) pair))) }

-- a relation that says the same
pub same_reader : {A : Type 0} (Rel Other : List Turn → A → Type 0) (read : Reads A) → ((xs : List Turn) (a : A) → Rel xs a → Other xs a) → ((xs : List Turn) (a : A) → Other xs a → Rel xs a) → IsReader Rel read → IsReader Other read
same_reader Rel Other read there back reads = record {
  sound = λ ts rest a is. let found = reads.sound ts rest a is in record { read = found.read; turns_are = found.turns_are; is = there found.read a found.is };
  complete = λ xs rest a is. reads.complete xs rest a (back xs a is);
}

-- read in the one or the other way, by a test
pub if_reader : {A : Type 0} (b : Bool) (Rel : List Turn → A → Type 0) (r s : Reads A) → (b ≡ true → IsReader Rel r) → (b ≡ false → IsReader Rel s) → IsReader Rel (λ turns. if b then r turns else s turns)
if_reader true Rel r s first second = first refl
if_reader false Rel r s first second = second refl

pub match_reader : {A : Type 0} (b : Bool) (P Q : List Turn → A → Type 0) (r s : Reads A) → IsReader P r → IsReader Q s → IsReader (λ xs a. MatchBool b (P xs a) (Q xs a)) (λ turns. if b then r turns else s turns)
match_reader true P Q r s first second = first
match_reader false P Q r s first second = second

pub match_both : (b : Bool) {P Q R S : Type 0} → (P → R) → (Q → S) → MatchBool b P Q → MatchBool b R S
match_both true first second is = first is
match_both false first second is = second is

-- one after another
pub record IsThen {A B : Type 0} (First : List Turn → A → Type 0) (Second : A → List Turn → B → Type 0) (xs : List Turn) (b : B) : Type 0 where
  pub middle : A
  pub ys : List Turn
  pub zs : List Turn
  pub xs_are : xs ≡ ys ++ zs
  pub first : First ys middle
  pub second : Second middle zs b

pub then_reader : {A B : Type 0} (First : List Turn → A → Type 0) (Second : A → List Turn → B → Type 0) (one : Reads A) (next : A → Reads B) → IsReader First one → ((a : A) → IsReader (Second a) (next a)) → IsReader (IsThen First Second) (read_then one next)
then_reader {A = A} {B = B} First Second one next first second = record {
  sound = λ ts rest b is. from ts rest b (one ts) refl is;
  complete = λ xs rest b is.
      ap (λ (l : List Turn). then_read next (one l)) (ap (λ (l : List Turn). l ++ rest) is.xs_are ∙ append_assoc is.ys is.zs rest)
      ∙ ap (then_read next) (first.complete is.ys (is.zs ++ rest) is.middle is.first)
      ∙ (second is.middle).complete is.zs rest b is.second;
}
  where
    from : (ts rest : List Turn) (b : B) (o : Option (A × List Turn)) → one ts ≡ o → then_read next o ≡ Some (b, rest) → Found (IsThen First Second) ts rest b
    from ts rest b None is none = absurd cc
    from ts rest b (Some (a, left)) is some =
        let found = first.sound ts left a is in
        let more = (second a).sound left rest b some in
        record {
          read = found.read ++ more.read;
          turns_are = found.turns_are ∙ ap (λ (l : List Turn). found.read ++ l) more.turns_are ∙ sym (append_assoc found.read more.read rest);
          is = record { middle = a; ys = found.read; zs = more.read; xs_are = refl; first = found.is; second = more.is };
        }

-- turns of freelists, and the first turn that isn't one
abbrev pub AreFree : List Turn → Type 0
AreFree [] = Unit {0}
AreFree (t ∷ ts) = (is_free t.part ≡ true) × AreFree ts

pub record IsGroup {A : Type 0} (says : List Turn → Turn → Option A) (xs : List Turn) (a : A) : Type 0 where
  pub before : List Turn
  pub last : Turn
  pub xs_are : xs ≡ before ++ last ∷ []
  pub are_free : AreFree before
  pub last_is : is_free last.part ≡ false
  pub says_so : says before last ≡ Some a

module _ {A : Type 0} where
  group_sound : (ts rest : List Turn) (says : List Turn → Turn → Option A) (a : A) → read_group ts says ≡ Some (a, rest) → Found (IsGroup says) ts rest a
  group_sound [] rest says a read = absurd cc
  group_sound (t ∷ ts) rest says a read = by (is_free t.part) refl (λ is. group_sound ts rest (λ before. says (t ∷ before)) a is) read
    where
      one : (o : Option A) → is_free t.part ≡ false → says [] t ≡ o → with_rest ts o ≡ Some (a, rest) → Found (IsGroup says) (t ∷ ts) rest a
      one None is told none = absurd cc
      one (Some b) is told some =
          let pair : (b, ts) ≡ (a, rest) = same_Some (b, ts) (a, rest) some in
          record {
            read = t ∷ [];
            turns_are = ap (λ (p : A × List Turn). t ∷ p.1) pair;
            is = record { before = []; last = t; xs_are = refl; are_free = tt; last_is = is; says_so = told ∙ ap (λ (p : A × List Turn). Some p.0) pair };
          }

      by : (b : Bool) → is_free t.part ≡ b → (read_group ts (λ before. says (t ∷ before)) ≡ Some (a, rest) → Found (IsGroup (λ before. says (t ∷ before))) ts rest a)
          → (if b then read_group ts (λ before. says (t ∷ before)) else with_rest ts (says [] t)) ≡ Some (a, rest) → Found (IsGroup says) (t ∷ ts) rest a
      by true is later read =
          let found = later read in
          record {
            read = t ∷ found.read;
            turns_are = ap (λ (l : List Turn). t ∷ l) found.turns_are;
            is = record { before = t ∷ found.is.before; last = found.is.last; xs_are = ap (λ (l : List Turn). t ∷ l) found.is.xs_are; are_free = (is, found.is.are_free); last_is = found.is.last_is; says_so = found.is.says_so };
          }
      by false is later read = one (says [] t) is refl read

  group_complete : (before : List Turn) (last : Turn) (rest : List Turn) (says : List Turn → Turn → Option A) (a : A) → AreFree before → is_free last.part ≡ false → says before last ≡ Some a → read_group ((before ++ last ∷ []) ++ rest) says ≡ Some (a, rest)
  group_complete [] last rest says a are is told =
      ap (λ (b : Bool). if b then read_group rest (λ before. says (last ∷ before)) else with_rest rest (says [] last)) is ∙ ap (with_rest rest) told
  group_complete (t ∷ before) last rest says a are is told =
      ap (λ (b : Bool). if b then read_group ((before ++ last ∷ []) ++ rest) (λ more. says (t ∷ more)) else with_rest ((before ++ last ∷ []) ++ rest) (says [] t)) are.0
      ∙ group_complete before last rest (λ more. says (t ∷ more)) a are.1 is told

  pub group_reader : (says : List Turn → Turn → Option A) → IsReader (IsGroup says) (λ turns. read_group turns says)
  group_reader says = record {
    sound = λ ts rest a is. group_sound ts rest says a is;
    complete = λ xs rest a is. ap (λ (l : List Turn). read_group (l ++ rest) says) is.xs_are ∙ group_complete is.before is.last rest says a is.are_free is.last_is is.says_so;
  }
