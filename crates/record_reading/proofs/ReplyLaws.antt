-- The laws of replies' lines.
use Rattle.std.proofs.Common.{◌≡◌, ◌==◌, ℕ, zero, suc, ◌<◌, ◌^◌, inl, inr, not, ◌/◌, ◌%◌, Bool, true, false, List, [], ◌∷◌, ◌++◌, length, subst, Option, Some, None, refl, sym, ap, ◌∙◌, arith, append_assoc}
use Rattle.std.specs.Prelude.{codes, decimal}
use Rattle.std.specs.List.{flat_map, list_all, slice_index}
use Rattle.std.proofs.lemmas.List.{append-nil}
use Rattle.std.proofs.lemmas.Bool.{and_parts, cond-false, cond_both, eqb-true, ne_eqb}
use Rattle.hex.specs.Hex.{encode_lower, encode_with, lower_digits}
use Rattle.map_types.specs.declared.attr.Shape.{Shape}
use Rattle.map_types.specs.declared.kind.Side.{Side}
use Rattle.map_types.specs.declared.refusal.Errno.{Errno}
use Rattle.map_types.specs.declared.refusal.Errno.TheVariants.{Enoent, E2big, Enomem, Eexist, Einval, Enospc}
use Rattle.map_types.specs.declared.reply.Reply.{Reply}
use Rattle.map_types.specs.declared.reply.Reply.TheVariants.{Done, Value, Refused, Batch, Count}
use Rattle.map_report.specs.Text.{reply_line, reply_text, stop_name, pair_text}
use Rattle.map_report.specs.Words.{errno_name}
use Rattle.record_reading.specs.Readers.{Reader, or_else, behind, after, nothing, made, times, whole, AllFit}
use Rattle.record_reading.specs.ReplyReaders.{errno, stop_part, pair, TakenPart, batch, count_done, plain, value_behind, told_by, reply}
use Rattle.record_shape.specs.ShapedParts.{PairFits, ReplyFits}
use Rattle.record_reading.proofs.Laws.{Stops, Reads, Makes, makes, bound, found_first, if_some, from_some, behind_back, behind_right, either_right, or_here, or_next, after_reads, both_reads, number_reads, times_back, times_right, word_makes, exact_both, bytes_exact}
use Rattle.record_reading.proofs.BucketLaws.{Small, value_reads}
use Rattle.record_reading.proofs.SectionLaws.{ReadsLine}
use Rattle.record_reading.proofs.LineLaws.{length_zero}

not_true : (b : Bool) → not b ≡ true → b ≡ false
not_true true h = sym h
not_true false h = refl

group_pair : (b k e v : List ℕ) → b ++ k ++ e ++ v ≡ b ++ (k ++ (e ++ v))
group_pair b k e v = simp append_assoc

-- another way to print the same
made_same : {A : Type 0} {print : A → List ℕ} {Fits : A → Type 0} {read : Reader A} → Reads print Fits read → (other : A → List ℕ) → ((a : A) → other a ≡ print a) → Reads other Fits read
made_same {read = read} reads other same = record {
  back = λ a rest fits stops. ap (λ t. read (t ++ rest)) (same a) ∙ reads.back a rest fits stops;
  right = λ text a rest h. let law = reads.right text a rest h in (law.0 ∙ ap (λ t. t ++ rest) (sym (same a)), law.1);
}

-- ---- names of errors

errno_back : (e : Errno) (rest : List ℕ) → errno (errno_name e ++ rest) ≡ Some (e, rest)
unfolding errno behind or_else
errno_back Enoent rest = refl
errno_back E2big rest = refl
errno_back Enomem rest = refl
errno_back Eexist rest = refl
errno_back Einval rest = refl
errno_back Enospc rest = refl

abbrev Any : {A : Type 0} → A → Type 0
Any a = Unit {0}

errno_word : (word : List ℕ) (e : Errno) → errno_name e ≡ word → Makes (λ (_ : Unit {0}). e) errno_name Any (made (λ _. e) (after word nothing))
errno_word word e is = word_makes word e errno_name Any is tt

errno_reads : Reads errno_name Any errno
unfolding errno
errno_reads = record {
  back = λ e rest fits stops. errno_back e rest;
  right =
      either_right errno_name Any _ _ (errno_word (codes "enoent") Enoent refl).right (either_right errno_name Any _ _ (errno_word (codes "e2big") E2big refl).right
      (either_right errno_name Any _ _ (errno_word (codes "enomem") Enomem refl).right (either_right errno_name Any _ _ (errno_word (codes "eexist") Eexist refl).right
      (either_right errno_name Any _ _ (errno_word (codes "einval") Einval refl).right (errno_word (codes "enospc") Enospc refl).right))));
}

stop_some : Makes (λ (e : Errno). Some e) stop_name Any (made (λ e. Some e) errno)
stop_some = makes errno_reads (λ e. Some e) stop_name Any (λ e. refl) (λ e fits. tt) (λ e fits. tt)

stop_back : (o : Option Errno) (rest : List ℕ) → stop_part (stop_name o ++ rest) ≡ Some (o, rest)
unfolding stop_part behind or_else errno
stop_back None rest = refl
stop_back (Some Enoent) rest = refl
stop_back (Some E2big) rest = refl
stop_back (Some Enomem) rest = refl
stop_back (Some Eexist) rest = refl
stop_back (Some Einval) rest = refl
stop_back (Some Enospc) rest = refl

stop_right : (text : List ℕ) (o : Option Errno) (rest : List ℕ) → stop_part text ≡ Some (o, rest) → (text ≡ stop_name o ++ rest) × Any o
unfolding stop_part
stop_right = either_right stop_name Any _ _ (word_makes (codes "ok") None stop_name Any refl tt).right stop_some.right

-- ---- batches

module _ (shape : Shape) (small : Small shape) (side : Side) where
  pair_reads : Reads pair_text (PairFits shape side) (pair shape side)
  unfolding pair
  pair_reads = made_same (after_reads (exact_both (bytes_exact shape.key_size) (λ _. after_reads (value_reads shape small side) (codes "="))) (codes " ")) pair_text (λ x. group_pair (codes " ") (encode_lower x.0) (codes "=") (encode_lower x.1))

  times_reads : (n : ℕ) → Reads (flat_map pair_text) (λ pairs. AllFit (PairFits shape side) pairs × (length pairs ≡ n)) (times n (pair shape side))
  times_reads n = record {
    back = λ pairs rest fits stops. subst (λ k. times k (pair shape side) (flat_map pair_text pairs ++ rest) ≡ Some (pairs, rest)) fits.1 (times_back pair_reads (record { opens = λ a rest fits stops. refl }) pairs rest fits.0 stops);
    right = λ text pairs rest h. let law = times_right pair_reads (record { opens = λ a rest fits stops. refl }) n text pairs rest h in (law.0, (law.1, law.2));
  }

  batch_text : TakenPart → List ℕ
  batch_text x = codes " taken " ++ (decimal x.0 ++ ((codes " next " ++ decimal x.1.0) ++ flat_map pair_text x.1.1))

  abbrev BatchFits : TakenPart → Type 0
  BatchFits x = (x.0 < 2 ^ 64) × ((x.1.0 < 2 ^ 32) × (AllFit (PairFits shape side) x.1.1 × (length x.1.1 ≡ x.0)))

  pairs_open : (pairs : List (List ℕ × List ℕ)) (rest : List ℕ) → Stops rest → Stops (flat_map pair_text pairs ++ rest)
  pairs_open [] rest stops = stops
  pairs_open (p ∷ pairs) rest stops = refl

  batch_reads : Reads batch_text BatchFits (batch shape side)
  unfolding batch batch_text
  batch_reads =
      after_reads (both_reads (number_reads (2 ^ 64) (omega arith)) (λ n. both_reads (after_reads (number_reads (2 ^ 32) (omega arith)) (codes " next ")) (λ _. times_reads n) (λ _. record { opens = λ a rest fits stops. pairs_open a rest stops })) (λ n. record { opens = λ a rest fits stops. refl })) (codes " taken ")

  count_reads : Reads (λ n. codes " done " ++ decimal n) (λ n. n < 2 ^ 32) count_done
  unfolding count_done
  count_reads = after_reads (number_reads (2 ^ 32) (omega arith)) (codes " done ")

-- ---- what stands behind `ok` or the error's name

abbrev stop_of : Reply → Option Errno
stop_of Done = None
stop_of (Value found) = None
stop_of (Refused e) = Some e
stop_of (Batch stop taken next) = stop
stop_of (Count stop done) = stop

abbrev tail_of : Reply → List ℕ
tail_of Done = []
tail_of (Value found) = codes " " ++ encode_lower found
tail_of (Refused e) = []
tail_of (Batch stop taken next) = codes " taken " ++ (decimal (length taken) ++ ((codes " next " ++ decimal next) ++ flat_map pair_text taken))
tail_of (Count stop done) = codes " done " ++ decimal done

group_batch : (s t n x m p : List ℕ) → s ++ t ++ n ++ x ++ m ++ p ≡ s ++ (t ++ (n ++ ((x ++ m) ++ p)))
group_batch s t n x m p = simp append_assoc

split_reply : (r : Reply) → reply_text r ≡ stop_name (stop_of r) ++ tail_of r
split_reply Done = refl
split_reply (Value found) = refl
split_reply (Refused e) = sym (append-nil (errno_name e))
split_reply (Batch stop taken next) = group_batch (stop_name stop) (codes " taken ") (decimal (length taken)) (codes " next ") (decimal next) (flat_map pair_text taken)
split_reply (Count stop done) = append_assoc (stop_name stop) (codes " done ") (decimal done)

-- no hexadecimal digit
none_of : (c : ℕ) (xs : List ℕ) → (c == 0) ≡ false → list_all (λ x. not (c == x)) xs ≡ true → (k : ℕ) → (c == slice_index xs k) ≡ false
none_of c [] no_zero all k = no_zero
none_of c (x ∷ xs) no_zero all zero = not_true (c == x) (and_parts (not (c == x)) (list_all (λ x. not (c == x)) xs) all).0
none_of c (x ∷ xs) no_zero all (suc k) = none_of c xs no_zero (and_parts (not (c == x)) (list_all (λ x. not (c == x)) xs) all).1 k

no_taken : (found : List ℕ) → behind (codes " taken ") (codes " " ++ encode_lower found) ≡ None
unfolding behind encode_with
no_taken [] = refl
no_taken (b ∷ found) = cond-false (116 == slice_index lower_digits (b / 16)) _ _ (none_of 116 lower_digits refl refl (b / 16))

no_done : (found : List ℕ) → behind (codes " done ") (codes " " ++ encode_lower found) ≡ None
unfolding behind encode_with
no_done [] = refl
no_done (b ∷ found) =
    cond_both (100 == slice_index lower_digits (b / 16)) _ None (λ o. o ≡ None) (λ is. cond-false (111 == slice_index lower_digits (b % 16)) _ _ (none_of 111 lower_digits refl refl (b % 16))) (λ other. refl)

module _ (shape : Shape) (small : Small shape) (side : Side) (IsAnswer : List ℕ → Type 0) (answer : List ℕ → Option (List ℕ)) (answers : ReadsLine encode_lower IsAnswer answer) where
  -- readers that the word at the front tells apart
  made_not : {A : Type 0} (make : A → Reply) (read : Reader A) (text : List ℕ) → read text ≡ None → whole (made make read) text ≡ None
  made_not make read text h = rw h refl

  no_batch : (text : List ℕ) → behind (codes " taken ") text ≡ None → batch shape side text ≡ None
  unfolding batch
  no_batch text h = rw h refl

  no_count : (text : List ℕ) → behind (codes " done ") text ≡ None → count_done text ≡ None
  unfolding count_done
  no_count text h = rw h refl

  made_back_whole : {A : Type 0} (make : A → Reply) (read : Reader A) (text : List ℕ) (a : A) → read (text ++ []) ≡ Some (a, []) → whole (made make read) text ≡ Some (make a)
  made_back_whole make read text a h = let e : read text ≡ Some (a, []) = ap read (sym (append-nil text)) ∙ h in rw e refl

  some_text : (c : ℕ) (text : List ℕ) → (length (c ∷ text) == 0) ≡ false
  some_text c text = ne_eqb (length (c ∷ text)) 0 (λ e. omega arith)

  told_back : (r : Reply) → ReplyFits shape side IsAnswer r → told_by shape side answer (stop_of r) (tail_of r) ≡ Some r
  unfolding behind batch_text
  told_back Done fits = refl
  told_back (Refused e) fits = refl
  told_back (Value found) fits =
      cond-false (length (tail_of (Value found)) == 0) _ _ (some_text 32 (encode_lower found))
      ∙ or_next _ _ (made_not (λ (x : TakenPart). Batch None x.1.1 x.1.0) (batch shape side) (tail_of (Value found)) (no_batch (tail_of (Value found)) (no_taken found)))
      (or_next _ _ (made_not (Count None) count_done (tail_of (Value found)) (no_count (tail_of (Value found)) (no_done found)))
      (rw (answers.back found fits) refl))
  told_back (Batch stop taken next) fits =
      let x : TakenPart = (length taken, (next, taken)) in
      cond-false (length (tail_of (Batch stop taken next)) == 0) _ _ (some_text 32 (codes "taken " ++ (decimal (length taken) ++ ((codes " next " ++ decimal next) ++ flat_map pair_text taken))))
      ∙ or_here _ _ (made_back_whole (λ (x : TakenPart). Batch stop x.1.1 x.1.0) (batch shape side) (tail_of (Batch stop taken next)) x ((batch_reads shape small side).back x [] (fits.1.0, (fits.0, (fits.1.1, refl))) tt))
  told_back (Count stop done) fits =
      cond-false (length (tail_of (Count stop done)) == 0) _ _ (some_text 32 (codes "done " ++ decimal done))
      ∙ or_next _ _ (made_not (λ (x : TakenPart). Batch stop x.1.1 x.1.0) (batch shape side) (tail_of (Count stop done)) (no_batch (tail_of (Count stop done)) refl))
      (or_here _ _ (made_back_whole (Count stop) count_done (tail_of (Count stop done)) done ((count_reads shape small side).back done [] fits tt)))

  -- what is found tells the text
  abbrev Tells : Option Errno → List ℕ → Reply → Type 0
  Tells s text r = (stop_of r ≡ s) × (text ≡ tail_of r) × ReplyFits shape side IsAnswer r

  made_right_whole : {A : Type 0} (print : A → List ℕ) (FitsPart : A → Type 0) (read : Reader A) → Reads print FitsPart read → (make : A → Reply) (s : Option Errno) → ((a : A) → FitsPart a → Tells s (print a) (make a)) → (text : List ℕ) (r : Reply) → whole (made make read) text ≡ Some r → Tells s text r
  made_right_whole print FitsPart read reads make s tells text r h =
      let step = bound (made make read text) _ r h in
      let inner = bound (read text) (λ a. Some (make a.0, a.1)) step.0 step.1 in
      let a = inner.0 in
      let is = if_some (length step.0.1 == 0) step.0.0 r step.2 in
      let same = from_some (make a.0, a.1) step.0 inner.2 in
      let law = reads.right text a.0 a.1 inner.1 in
      let none : a.1 ≡ [] = ap (λ (p : Reply × List ℕ). p.1) same ∙ length_zero step.0.1 (eqb-true (length step.0.1) 0 is.0) in
      let e : text ≡ print a.0 = law.0 ∙ ap (λ t. print a.0 ++ t) none ∙ append-nil (print a.0) in
      let t = tells a.0 law.1 in
      let made_is : make a.0 ≡ r = ap (λ (p : Reply × List ℕ). p.0) same ∙ is.1 in
      subst (λ (x : Reply). Tells s text x) made_is (t.0, e ∙ t.1, t.2)

  told_right : (s : Option Errno) (text : List ℕ) (r : Reply) → told_by shape side answer s text ≡ Some r → Tells s text r
  unfolding batch_text
  told_right s text r h =
      cond_both (length text == 0) (Some (plain s)) _ (λ o. o ≡ Some r → Tells s text r)
      (λ is found. let e : text ≡ [] = length_zero text (eqb-true (length text) 0 is) in subst (λ (x : Reply). Tells s text x) (from_some (plain s) r found) (plain_tells s text e))
      (λ other found. elim (found_first (whole (made (λ (x : TakenPart). Batch s x.1.1 x.1.0) (batch shape side)) text) _ r found) [
        | inl is ↦ made_right_whole (batch_text shape small side) (BatchFits shape small side) (batch shape side) (batch_reads shape small side) (λ (x : TakenPart). Batch s x.1.1 x.1.0) s
            (λ x fits. (refl, ap (λ k. codes " taken " ++ (decimal k ++ ((codes " next " ++ decimal x.1.0) ++ flat_map pair_text x.1.1))) (sym fits.1.1.1), (fits.1.0, (subst (λ (k : ℕ). k < 2 ^ 64) (sym fits.1.1.1) fits.0, fits.1.1.0)))) text r is
        | inr is ↦ elim (found_first (whole (made (Count s) count_done) text) _ r is) [
          | inl counts ↦ made_right_whole (λ n. codes " done " ++ decimal n) (λ n. n < 2 ^ 32) count_done (count_reads shape small side) (Count s) s (λ n fits. (refl, refl, fits)) text r counts
          | inr values ↦ value_tells s text r values
        ]
      ]) h
    where
      plain_tells : (s : Option Errno) (text : List ℕ) → text ≡ [] → Tells s text (plain s)
      plain_tells None text e = (refl, e, tt)
      plain_tells (Some x) text e = (refl, e, tt)

      value_tells : (s : Option Errno) (text : List ℕ) (r : Reply) → value_behind answer s text ≡ Some r → Tells s text r
      value_tells None text r h =
          let rest = bound (behind (codes " ") text) _ r h in
          let found = bound (answer rest.0) _ r rest.2 in
          let law = answers.right rest.0 found.0 found.1 in
          subst (λ (x : Reply). Tells None text x) (from_some (Value found.0) r found.2) (refl, behind_right (codes " ") text rest.0 rest.1 ∙ ap (λ t. codes " " ++ t) law.0, law.1)
      value_tells (Some e) text r h = absurd (cc)

-- ---- the line of a reply

module _ (shape : Shape) (small : Small shape) (side : Side) (IsAnswer : List ℕ → Type 0) (answer : List ℕ → Option (List ℕ)) (answers : ReadsLine encode_lower IsAnswer answer) (k : ℕ) where
  reply_back : (r : Reply) → ReplyFits shape side IsAnswer r → reply shape side answer k (reply_line k r) ≡ Some r
  unfolding reply
  reply_back r fits =
      let one : behind (decimal k ++ codes " ") (reply_line k r) ≡ Some (stop_name (stop_of r) ++ tail_of r) =
      ap (λ t. behind (decimal k ++ codes " ") ((decimal k ++ codes " ") ++ t)) (split_reply r) ∙ behind_back (decimal k ++ codes " ") (stop_name (stop_of r) ++ tail_of r) in
      rw (one, stop_back (stop_of r) (tail_of r)) (told_back shape small side IsAnswer answer answers r fits)

  reply_right : (line : List ℕ) (r : Reply) → reply shape side answer k line ≡ Some r → (line ≡ reply_line k r) × ReplyFits shape side IsAnswer r
  unfolding reply
  reply_right line r h =
      let one = bound (behind (decimal k ++ codes " ") line) _ r h in
      let two = bound (stop_part one.0) _ r one.2 in
      let tells = told_right shape small side IsAnswer answer answers two.0.0 two.0.1 r two.2 in
      let begins = behind_right (decimal k ++ codes " ") line one.0 one.1 in
      let stops = stop_right one.0 two.0.0 two.0.1 two.1 in
      let text : one.0 ≡ stop_name (stop_of r) ++ tail_of r = stops.0 ∙ ap (λ s. stop_name s ++ two.0.1) (sym tells.0) ∙ ap (λ t. stop_name (stop_of r) ++ t) tells.1 in
      (begins ∙ ap (λ t. (decimal k ++ codes " ") ++ t) (text ∙ sym (split_reply r)), tells.2)

  pub reply_reads : ReadsLine (reply_line k) (ReplyFits shape side IsAnswer) (reply shape side answer k)
  reply_reads = record { back = reply_back; right = reply_right }
