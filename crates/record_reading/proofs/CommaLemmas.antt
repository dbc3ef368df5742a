-- Numbers with commas between them, read one after another.
use Rattle.std.proofs.Common.{◌≡◌, ℕ, zero, suc, List, [], ◌∷◌, ◌++◌, Option, Some, None, refl, sym, ap, ◌∙◌, append_assoc}
use Rattle.std.specs.Prelude.{codes}
use Rattle.std.proofs.lemmas.List.{append-nil}
use Rattle.record_reading.specs.Readers.{Reader, ◌>>=◌, or_else, behind, after, both, made, number}
use Rattle.record_reading.specs.LineReaders.{behind_commas, joined_numbers}

-- ---- one number, and those behind it

abbrev Found : Type 0
Found = Option (List ℕ × List ℕ)

abbrev one_and : ℕ → Found → Found
one_and n more = more >>= (λ x. Some (n ∷ x.0, x.1))

-- a number, and what is read behind it
abbrev then_these : Reader (List ℕ) → Option (ℕ × List ℕ) → Found
then_these read None = None
then_these read (Some n) = one_and n.0 (read n.1)

joined_one : (n : ℕ) (more : Found) → ((more >>= (λ b. Some ((n, b.0), b.1))) >>= (λ (x : (ℕ × List ℕ) × List ℕ). Some (x.0.0 ∷ x.0.1, x.1))) ≡ one_and n more
joined_one n None = refl
joined_one n (Some more) = refl

abbrev pair_cons : ℕ × List ℕ → List ℕ
pair_cons x = x.0 ∷ x.1

made_both : (read : Reader ℕ) (more : Reader (List ℕ)) (text : List ℕ) → made pair_cons (both read (λ _. more)) text ≡ then_these more (read text)
made_both read more text = by (read text) refl
  where
    by : (o : Option (ℕ × List ℕ)) → read text ≡ o → made pair_cons (both read (λ _. more)) text ≡ then_these more o
    by None is = rw is refl
    by (Some n) is = rw is (joined_one n.0 (more n.1))

made_after : (word : List ℕ) (read : Reader ℕ) (more : Reader (List ℕ)) (text : List ℕ) → made pair_cons (after word (both read (λ _. more))) text ≡ then_these more (after word read text)
made_after word read more text = by (behind word text) refl
  where
    by : (o : Option (List ℕ)) → behind word text ≡ o → made pair_cons (after word (both read (λ _. more))) text ≡ then_these more (after word read text)
    by None is = rw is refl
    by (Some rest) is = rw is (made_both read more rest)

-- ---- those behind commas are always read

abbrev AreRead : Found → Type 0
AreRead found = (x : List ℕ × List ℕ) × (found ≡ Some x)

some_here : (n : ℕ) (more other : Found) → AreRead more → or_else (one_and n more) other ≡ one_and n more
unfolding or_else
some_here n more other is = rw (is.1) refl

one_is : (n : ℕ) (more : Found) → AreRead more → AreRead (one_and n more)
one_is n more is = ((n ∷ is.0.0, is.0.1), rw (is.1) refl)

commas_step : (below n : ℕ) (text : List ℕ) → behind_commas below (suc n) text ≡ or_else (then_these (behind_commas below n) (after (codes ",") (number below) text)) (Some ([], text))
commas_step below n text = ap (λ o. or_else o (Some ([], text))) (made_after (codes ",") (number below) (behind_commas below n) text)

first_or : (more : Reader (List ℕ)) (text : List ℕ) → ((rest : List ℕ) → AreRead (more rest)) → (o : Option (ℕ × List ℕ)) → AreRead (or_else (then_these more o) (Some ([], text)))
unfolding or_else
first_or more text reads None = (([], text), refl)
first_or more text reads (Some n) = let is = one_is n.0 (more n.1) (reads n.1) in (is.0, some_here n.0 (more n.1) (Some ([], text)) (reads n.1) ∙ is.1)

commas_read : (below n : ℕ) (text : List ℕ) → AreRead (behind_commas below n text)
commas_read below zero text = (([], text), refl)
commas_read below (suc n) text =
    let is = first_or (behind_commas below n) text (commas_read below n) (after (codes ",") (number below) text) in
    (is.0, commas_step below n text ∙ is.1)

commas_some : (below n : ℕ) (text : List ℕ) (found : ℕ × List ℕ) → after (codes ",") (number below) text ≡ Some found → behind_commas below (suc n) text ≡ one_and found.0 (behind_commas below n found.1)
commas_some below n text found h =
    commas_step below n text ∙ ap (λ o. or_else (then_these (behind_commas below n) o) (Some ([], text))) h
    ∙ some_here found.0 (behind_commas below n found.1) (Some ([], text)) (commas_read below n found.1)

commas_none : (below n : ℕ) (text : List ℕ) → after (codes ",") (number below) text ≡ None → behind_commas below n text ≡ Some ([], text)
unfolding or_else
commas_none below zero text h = refl
commas_none below (suc n) text h = commas_step below n text ∙ ap (λ o. or_else (then_these (behind_commas below n) o) (Some ([], text))) h

-- ---- what is left is read behind what was found

abbrev these_and : List ℕ → Found → Found
these_and found more = more >>= (λ x. Some (found ++ x.0, x.1))

pub record AreJoined (below left : ℕ) (text rest found : List ℕ) : Type 0 where
  pub so_far : joined_numbers below text ≡ these_and found (behind_commas below left rest)

first_is : (n : ℕ) (more : Found) → one_and n more ≡ these_and (n ∷ []) more
first_is n None = refl
first_is n (Some more) = refl

one_behind : (found : List ℕ) (n : ℕ) (more : Found) → these_and found (one_and n more) ≡ these_and (found ++ n ∷ []) more
one_behind found n None = refl
one_behind found n (Some more) = ap (λ (l : List ℕ). Some (l, more.1)) (sym (append_assoc found (n ∷ []) more.0))

joined_step : (below : ℕ) (text : List ℕ) → joined_numbers below text ≡ or_else (then_these (behind_commas below below) (number below text)) (Some ([], text))
unfolding joined_numbers
joined_step below text = ap (λ o. or_else o (Some ([], text))) (made_both (number below) (behind_commas below below) text)

pub joined_none : (below : ℕ) (text : List ℕ) → number below text ≡ None → joined_numbers below text ≡ Some ([], text)
unfolding or_else
joined_none below text h = joined_step below text ∙ ap (λ o. or_else (then_these (behind_commas below below) o) (Some ([], text))) h

pub joined_start : (below full : ℕ) (text rest found : List ℕ) (first : ℕ) → full ≡ below → found ≡ first ∷ [] → number below text ≡ Some (first, rest) → AreJoined below full text rest found
joined_start below full text rest found first all one h = record {
  so_far =
      joined_step below text ∙ ap (λ o. or_else (then_these (behind_commas below below) o) (Some ([], text))) h
      ∙ some_here first (behind_commas below below rest) (Some ([], text)) (commas_read below below rest) ∙ first_is first (behind_commas below below rest)
      ∙ ap (λ l. these_and l (behind_commas below below rest)) (sym one) ∙ ap (λ n. these_and found (behind_commas below n rest)) (sym all);
}

pub joined_more : (below full left : ℕ) (text rest found : List ℕ) → AreJoined below full text rest found → full ≡ suc left → (n : ℕ) (next : List ℕ) → after (codes ",") (number below) rest ≡ Some (n, next) → AreJoined below left text next (found ++ n ∷ [])
joined_more below full left text rest found so is n next h = record {
  so_far =
      so.so_far ∙ ap (λ k. these_and found (behind_commas below k rest)) is ∙ ap (these_and found) (commas_some below left rest (n, next) h)
      ∙ one_behind found n (behind_commas below left next);
}

pub joined_over : (below left : ℕ) (text rest found : List ℕ) → AreJoined below left text rest found → after (codes ",") (number below) rest ≡ None → joined_numbers below text ≡ Some (found, rest)
joined_over below left text rest found so h = so.so_far ∙ ap (these_and found) (commas_none below left rest h) ∙ ap (λ (l : List ℕ). Some (l, rest)) (append-nil found)

pub joined_full : (below left : ℕ) (text rest found : List ℕ) → AreJoined below left text rest found → left ≡ 0 → joined_numbers below text ≡ Some (found, rest)
joined_full below left text rest found so over =
    so.so_far ∙ ap (λ n. these_and found (behind_commas below n rest)) over ∙ ap (λ (l : List ℕ). Some (l, rest)) (append-nil found)
