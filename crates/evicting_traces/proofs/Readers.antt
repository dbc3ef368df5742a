-- Readers made of readers, and their laws.
use Rattle.std.proofs.Common.{◌≡◌, ℕ, suc, ◌+◌, ◌-◌, Bool, true, false, List, [], ◌∷◌, ◌++◌, length, drop, Option, None, Some, refl, ap, ◌∙◌, sym, subst, arith, length-append}
use Rattle.std.specs.Prelude.{◌⊎◌, MatchBool}
use Rattle.std.proofs.Common.{inl, inr}
use Rattle.std.proofs.lemmas.List.{append_assoc}
use Rattle.std.proofs.lemmas.Option.{same_Some}
use Rattle.map_types.specs.declared.attr.Shape.{Shape}
use Rattle.place_words.specs.Turns.{Turn, TurnAt, turns_of}
use Rattle.trace_check.specs.Reading.{IsReader}
use Rattle.trace_check.proofs.Lifting.{in_two}
use Rattle.evicting_traces.specs.Reading.{Seen, seen_at, all_seen, IsRefillLegal, AreRefillsLegal, Reads, FoundAt, IsReaderAt, read_nothing, read_never, told, read_as, then_read, read_then, or_else, read_or, read_if, with_rest, read_seen, passed, turns_in, read_turns}

-- what is seen of turns in two parts, and that those behind others are allowed too
pub all_both : (shape : Shape) (one more : List TurnAt) → all_seen shape (one ++ more) ≡ all_seen shape one ++ all_seen shape more
all_both shape [] more = refl
all_both shape (at ∷ one) more = ap (λ (l : List Seen). seen_at shape at ∷ l) (all_both shape one more)

legal_behind : (shape : Shape) (cpu : ℕ) (one more : List TurnAt) → AreRefillsLegal shape cpu (one ++ more) → AreRefillsLegal shape cpu more
legal_behind shape cpu [] more legal = legal
legal_behind shape cpu (at ∷ one) more legal = legal_behind shape cpu one more legal.1

pub legal_rest : (shape : Shape) (cpu : ℕ) (turns one more : List TurnAt) → turns ≡ one ++ more → AreRefillsLegal shape cpu turns → AreRefillsLegal shape cpu more
legal_rest shape cpu turns one more is legal = legal_behind shape cpu one more (subst (AreRefillsLegal shape cpu) is legal)

-- nothing is read
abbrev pub IsNothing : {A : Type 0} → A → List TurnAt → A → Type 0
IsNothing b turns a = (turns ≡ []) × (a ≡ b)

-- told in another way
abbrev pub IsAs : {A B : Type 0} → (A → B) → (List TurnAt → A → Type 0) → List TurnAt → B → Type 0
IsAs {A = A} f Rel turns b = (a : A) × (Rel turns a × (b ≡ f a))

-- one after another
pub record IsThen {A B : Type 0} (First : List TurnAt → A → Type 0) (Second : A → List TurnAt → B → Type 0) (turns : List TurnAt) (b : B) : Type 0 where
  pub middle : A
  pub front : List TurnAt
  pub behind : List TurnAt
  pub turns_are : turns ≡ front ++ behind
  pub first : First front middle
  pub second : Second middle behind b

-- one turn, of which this holds
pub record IsOne {A : Type 0} (Says : TurnAt → A → Type 0) (turns : List TurnAt) (a : A) : Type 0 where
  pub at : TurnAt
  pub turns_are : turns ≡ at ∷ []
  pub is : Says at a

-- turns that are read by what they are alone
seen_turns : (shape : Shape) (turns : List TurnAt) (rest : List Seen) → turns_in (all_seen shape turns ++ rest) ≡ turns_of turns ++ turns_in rest
seen_turns shape [] rest = refl
seen_turns shape (at ∷ turns) rest = ap (λ (l : List Turn). at.turn ∷ l) (seen_turns shape turns rest)

seen_turns_alone : (shape : Shape) (turns : List TurnAt) → turns_in (all_seen shape turns) ≡ turns_of turns
seen_turns_alone shape [] = refl
seen_turns_alone shape (at ∷ turns) = ap (λ (l : List Turn). at.turn ∷ l) (seen_turns_alone shape turns)

pub lengths : (seens : List Seen) → length (turns_in seens) ≡ length seens
lengths [] = refl
lengths (seen ∷ seens) = ap suc (lengths seens)

pub drop_front : (front rest : List Seen) → drop (length front) (front ++ rest) ≡ rest
drop_front [] rest = refl
drop_front (seen ∷ front) rest = drop_front front rest

fewer : (front rest left whole : ℕ) → whole ≡ front + rest → left ≡ rest → whole - left ≡ front
fewer front rest left whole is same = omega (arith, is, same)

left_is : (front rest : List Seen) (left : ℕ) → left ≡ length rest → drop (length (front ++ rest) - left) (front ++ rest) ≡ rest
left_is front rest left is =
    ap (λ n. drop n (front ++ rest)) (fewer (length front) (length rest) left (length (front ++ rest)) (length-append front rest) is) ∙ drop_front front rest

module _ {shape : Shape} {cpu : ℕ} where
  pub nothing_reader : {A : Type 0} (b : A) → IsReaderAt shape cpu (IsNothing b) (read_nothing b)
  nothing_reader {A = A} b = record {
    sound = λ turns rest a legal is.
        let pair : (b, all_seen shape turns) ≡ (a, rest) = same_Some (b, all_seen shape turns) (a, rest) is in
        record { one = []; more = turns; turns_are = refl; rest_is = ap (λ (p : A × List Seen). p.1) pair; is = (refl, sym (ap (λ (p : A × List Seen). p.0) pair)) };
    complete = λ turns rest a is. ap (λ (l : List TurnAt). Some (b, all_seen shape l ++ rest)) is.0 ∙ ap (λ (c : A). Some (c, rest)) (sym is.1);
  }

  pub never_reader : {A : Type 0} (Rel : List TurnAt → A → Type 0) → ((turns : List TurnAt) (a : A) → Rel turns a → ⊥) → IsReaderAt shape cpu Rel read_never
  never_reader Rel never = record { sound = λ turns rest a legal is. absurd cc; complete = λ turns rest a is. absurd (never turns a is) }

  pub as_reader : {A B : Type 0} (f : A → B) (Rel : List TurnAt → A → Type 0) (read : Reads A) → IsReaderAt shape cpu Rel read → IsReaderAt shape cpu (IsAs f Rel) (read_as f read)
  as_reader {A = A} {B = B} f Rel read reads = record {
    sound = λ turns rest b legal is. from turns rest b legal (read (all_seen shape turns)) refl is;
    complete = λ turns rest b is. ap (told f) (reads.complete turns rest is.0 is.1.0) ∙ ap (λ (c : B). Some (c, rest)) (sym is.1.1);
  }
    where
      from : (turns : List TurnAt) (rest : List Seen) (b : B) → AreRefillsLegal shape cpu turns → (o : Option (A × List Seen)) → read (all_seen shape turns) ≡ o → told f o ≡ Some (b, rest) → FoundAt shape (IsAs f Rel) turns rest b
      from turns rest b legal None is none = absurd cc
      from turns rest b legal (Some (a, left)) is some =
          let pair : (f a, left) ≡ (b, rest) = same_Some (f a, left) (b, rest) some in
          let one = reads.sound turns left a legal is in
          record {
            one = one.one;
            more = one.more;
            turns_are = one.turns_are;
            rest_is = one.rest_is ∙ ap (λ (p : B × List Seen). p.1) pair;
            is = (a, (one.is, sym (ap (λ (p : B × List Seen). p.0) pair)));
          }

  -- a relation that says the same
  pub same_reader : {A : Type 0} (Rel Other : List TurnAt → A → Type 0) (read : Reads A) → ((turns : List TurnAt) (a : A) → Rel turns a → Other turns a) → ((turns : List TurnAt) (a : A) → Other turns a → Rel turns a) → IsReaderAt shape cpu Rel read → IsReaderAt shape cpu Other read
  same_reader Rel Other read there back reads = record {
    sound = λ turns rest a legal is.
        let found = reads.sound turns rest a legal is in
        record { one = found.one; more = found.more; turns_are = found.turns_are; rest_is = found.rest_is; is = there found.one a found.is };
    complete = λ turns rest a is. reads.complete turns rest a (back turns a is);
  }

  -- read in the one or the other way, by a test
  pub match_reader : {A : Type 0} (b : Bool) (P Q : List TurnAt → A → Type 0) (r s : Reads A) → IsReaderAt shape cpu P r → IsReaderAt shape cpu Q s → IsReaderAt shape cpu (λ turns a. MatchBool b (P turns a) (Q turns a)) (read_if b r s)
  match_reader true P Q r s first second = first
  match_reader false P Q r s first second = second

  pub if_reader : {A : Type 0} (b : Bool) (Rel : List TurnAt → A → Type 0) (r s : Reads A) → (b ≡ true → IsReaderAt shape cpu Rel r) → (b ≡ false → IsReaderAt shape cpu Rel s) → IsReaderAt shape cpu Rel (read_if b r s)
  if_reader true Rel r s first second = first refl
  if_reader false Rel r s first second = second refl

  pub then_reader : {A B : Type 0} (First : List TurnAt → A → Type 0) (Second : A → List TurnAt → B → Type 0) (one : Reads A) (next : A → Reads B) → IsReaderAt shape cpu First one → ((a : A) → IsReaderAt shape cpu (Second a) (next a)) → IsReaderAt shape cpu (IsThen First Second) (read_then one next)
  then_reader {A = A} {B = B} First Second one next first second = record {
    sound = λ turns rest b legal is. from turns rest b legal (one (all_seen shape turns)) refl is;
    complete = λ turns rest b is.
        ap (λ (l : List Seen). then_read next (one l)) (ap (λ (l : List TurnAt). all_seen shape l ++ rest) is.turns_are ∙ ap (λ (l : List Seen). l ++ rest) (all_both shape is.front is.behind) ∙ append_assoc (all_seen shape is.front) (all_seen shape is.behind) rest)
        ∙ ap (then_read next) (first.complete is.front (all_seen shape is.behind ++ rest) is.middle is.first)
        ∙ (second is.middle).complete is.behind rest b is.second;
  }
    where
      from : (turns : List TurnAt) (rest : List Seen) (b : B) → AreRefillsLegal shape cpu turns → (o : Option (A × List Seen)) → one (all_seen shape turns) ≡ o → then_read next o ≡ Some (b, rest) → FoundAt shape (IsThen First Second) turns rest b
      from turns rest b legal None is none = absurd cc
      from turns rest b legal (Some (a, left)) is some =
          let found = first.sound turns left a legal is in
          let more = (second a).sound found.more rest b (legal_rest shape cpu turns found.one found.more found.turns_are legal) (ap (next a) found.rest_is ∙ some) in
          record {
            one = found.one ++ more.one;
            more = more.more;
            turns_are = found.turns_are ∙ ap (λ (l : List TurnAt). found.one ++ l) more.turns_are ∙ sym (append_assoc found.one more.one more.more);
            rest_is = more.rest_is;
            is = record { middle = a; front = found.one; behind = more.one; turns_are = refl; first = found.is; second = more.is };
          }

  -- the one, or where it isn't there the other
  pub or_reader : {A : Type 0} (P Q : List TurnAt → A → Type 0) (one other : Reads A) → IsReaderAt shape cpu P one → IsReaderAt shape cpu Q other
      → ((turns : List TurnAt) (rest : List Seen) (a : A) → Q turns a → one (all_seen shape turns ++ rest) ≡ None) → IsReaderAt shape cpu (λ turns a. P turns a ⊎ Q turns a) (read_or one other)
  or_reader {A = A} P Q one other first second apart = record {
    sound = λ turns rest a legal is. from turns rest a legal (one (all_seen shape turns)) refl is;
    complete = complete;
  }
    where
      complete : (turns : List TurnAt) (rest : List Seen) (a : A) → P turns a ⊎ Q turns a → or_else (one (all_seen shape turns ++ rest)) (other (all_seen shape turns ++ rest)) ≡ Some (a, rest)
      complete turns rest a (inl is) = ap (λ o. or_else o (other (all_seen shape turns ++ rest))) (first.complete turns rest a is)
      complete turns rest a (inr is) = ap (λ o. or_else o (other (all_seen shape turns ++ rest))) (apart turns rest a is) ∙ second.complete turns rest a is

      from : (turns : List TurnAt) (rest : List Seen) (a : A) → AreRefillsLegal shape cpu turns → (o : Option (A × List Seen)) → one (all_seen shape turns) ≡ o → or_else o (other (all_seen shape turns)) ≡ Some (a, rest) → FoundAt shape (λ l b. P l b ⊎ Q l b) turns rest a
      from turns rest a legal None is some =
          let found = second.sound turns rest a legal some in
          record { one = found.one; more = found.more; turns_are = found.turns_are; rest_is = found.rest_is; is = inr found.is }
      from turns rest a legal (Some p) is some =
          let found = first.sound turns rest a legal (is ∙ some) in
          record { one = found.one; more = found.more; turns_are = found.turns_are; rest_is = found.rest_is; is = inl found.is }

  pub one_reader : {A : Type 0} (Says : TurnAt → A → Type 0) (says : Seen → Option A) → ((at : TurnAt) (a : A) → Says at a → says (seen_at shape at) ≡ Some a) → ((at : TurnAt) (a : A) → IsRefillLegal shape cpu at → says (seen_at shape at) ≡ Some a → Says at a)
      → IsReaderAt shape cpu (IsOne Says) (read_seen says)
  one_reader {A = A} Says says so only = record {
    sound = sound;
    complete = λ turns rest a is. ap (λ (l : List TurnAt). read_seen says (all_seen shape l ++ rest)) is.turns_are ∙ ap (with_rest rest) (so is.at a is.is);
  }
    where
      from : (at : TurnAt) (turns : List TurnAt) (rest : List Seen) (a : A) → IsRefillLegal shape cpu at → (o : Option A) → says (seen_at shape at) ≡ o → with_rest (all_seen shape turns) o ≡ Some (a, rest) → FoundAt shape (IsOne Says) (at ∷ turns) rest a
      from at turns rest a legal None is none = absurd cc
      from at turns rest a legal (Some b) is some =
          let pair : (b, all_seen shape turns) ≡ (a, rest) = same_Some (b, all_seen shape turns) (a, rest) some in
          record {
            one = at ∷ [];
            more = turns;
            turns_are = refl;
            rest_is = ap (λ (p : A × List Seen). p.1) pair;
            is = record { at = at; turns_are = refl; is = only at a legal (is ∙ ap (λ (p : A × List Seen). Some p.0) pair) };
          }

      sound : (turns : List TurnAt) (rest : List Seen) (a : A) → AreRefillsLegal shape cpu turns → read_seen says (all_seen shape turns) ≡ Some (a, rest) → FoundAt shape (IsOne Says) turns rest a
      sound [] rest a legal is = absurd cc
      sound (at ∷ turns) rest a legal is = from at turns rest a legal.0 (says (seen_at shape at)) refl is

  pub turns_reader : {A : Type 0} (Rel : List Turn → A → Type 0) (read : List Turn → Option (A × List Turn)) → IsReader Rel read → IsReaderAt shape cpu (λ turns a. Rel (turns_of turns) a) (read_turns read)
  turns_reader {A = A} Rel read reads = record {
    sound = λ turns rest a legal is. from turns rest a (read (turns_in (all_seen shape turns))) refl is;
    complete = λ turns rest a is.
        ap (λ l. passed (all_seen shape turns ++ rest) (read l)) (seen_turns shape turns rest)
        ∙ ap (passed (all_seen shape turns ++ rest)) (reads.complete (turns_of turns) (turns_in rest) a is)
        ∙ ap (λ (l : List Seen). Some (a, l)) (left_is (all_seen shape turns) rest (length (turns_in rest)) (lengths rest));
  }
    where
      from : (turns : List TurnAt) (rest : List Seen) (a : A) (o : Option (A × List Turn)) → read (turns_in (all_seen shape turns)) ≡ o → passed (all_seen shape turns) o ≡ Some (a, rest) → FoundAt shape (λ l b. Rel (turns_of l) b) turns rest a
      from turns rest a None is none = absurd cc
      from turns rest a (Some (b, left)) is some =
          let found = reads.sound (turns_in (all_seen shape turns)) left b is in
          let two = in_two turns found.read left (sym (seen_turns_alone shape turns) ∙ found.turns_are) in
          let pair : (b, drop (length (all_seen shape turns) - length left) (all_seen shape turns)) ≡ (a, rest) = same_Some (b, drop (length (all_seen shape turns) - length left) (all_seen shape turns)) (a, rest) some in
          let many : length left ≡ length (all_seen shape two.more) = ap (λ (l : List Turn). length l) (sym (seen_turns_alone shape two.more ∙ two.second)) ∙ lengths (all_seen shape two.more) in
          let whole : all_seen shape turns ≡ all_seen shape two.one ++ all_seen shape two.more = ap (all_seen shape) two.turns_are ∙ all_both shape two.one two.more in
          let last : drop (length (all_seen shape turns) - length left) (all_seen shape turns) ≡ all_seen shape two.more =
          ap (λ (l : List Seen). drop (length l - length left) l) whole ∙ left_is (all_seen shape two.one) (all_seen shape two.more) (length left) many in
          record {
            one = two.one;
            more = two.more;
            turns_are = two.turns_are;
            rest_is = sym last ∙ ap (λ (p : A × List Seen). p.1) pair;
            is = subst (λ (c : A). Rel (turns_of two.one) c) (ap (λ (p : A × List Seen). p.0) pair) (subst (λ (l : List Turn). Rel l b) (sym two.first) found.is);
          }
