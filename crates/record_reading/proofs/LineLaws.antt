-- The laws of the lines of a history.
use Rattle.std.proofs.Common.{◌≡◌, ℕ, zero, suc, ◌<◌, ◌≤◌, ◌^◌, ◌+◌, nat_le, List, [], ◌∷◌, ◌++◌, length, ◌==◌, subst, Some, None, refl, sym, ap, ◌∙◌, arith, append_assoc}
use Rattle.std.specs.Prelude.{codes, decimal}
use Rattle.std.specs.List.{flat_map}
use Rattle.std.proofs.lemmas.List.{append-nil}
use Rattle.std.proofs.lemmas.Bool.{eqb-true, leb-true, le-leb}
use Rattle.map_types.specs.declared.attr.Shape.{Shape}
use Rattle.map_types.specs.declared.kind.DomainId.{DomainId}
use Rattle.map_types.specs.declared.kind.DomainId.TheVariants.{Local, Global, CpuLru, Bucket, Freelist}
use Rattle.place_words.specs.declared.history.Part.{Part}
use Rattle.place_words.specs.declared.history.Part.TheVariants as parts
use Rattle.place_words.specs.Locks.{is_lock}
use Rattle.map_report.specs.Words.{lock_name, number_text}
use Rattle.map_report.specs.History.{entry_line, part_text, step_line}
use Rattle.record_reading.specs.Readers.{Reader, behind, after, both, made, number, whole, AllFit}
use Rattle.record_reading.specs.BucketReaders.{u32_text}
use Rattle.record_reading.specs.LineReaders.{name_part, lock_part, part_of, entry_of, entry, lock_head, step_of, step_part, behind_commas}
use Rattle.record_shape.specs.ShapedParts.{EntryFits, LockFits, PartFits, StepFits}
use Rattle.record_reading.proofs.Laws.{NoDigit, number_back, behind_back, Stops, Reads, Makes, makes, bound, if_some, either_right, or_here, or_next, after_reads, both_reads, number_reads, number_text_reads, tested_reads, word_makes, made_right}
use Rattle.record_reading.proofs.SectionLaws.{ReadsLine}
use Rattle.record_reading.proofs.BucketLaws.{NameFits, Small, u32_reads, bucket_reads, free_reads}
use Rattle.record_reading.proofs.ListLaws.{blank_opens, made_reads, local_reads, global_reads, own_reads}

pub length_zero : (text : List ℕ) → length text ≡ 0 → text ≡ []
length_zero [] h = refl
length_zero (c ∷ text) h = absurd (omega arith)

group_entry : (t c n b p : List ℕ) → t ++ c ++ n ++ b ++ p ≡ t ++ (c ++ (n ++ (b ++ p)))
group_entry t c n b p = simp append_assoc

group_commas : (c n m r : List ℕ) → ((c ++ n) ++ m) ++ r ≡ c ++ (n ++ (m ++ r))
group_commas c n m r = simp append_assoc

-- ---- locks

in_local : Makes Local lock_name NameFits (made Local (after (codes "local") u32_text))
in_local = makes (after_reads u32_reads (codes "local")) Local lock_name NameFits (λ x. refl) (λ x fits. fits) (λ x fits. fits)

in_set : Makes CpuLru lock_name NameFits (made CpuLru (after (codes "lru") u32_text))
in_set = makes (after_reads u32_reads (codes "lru")) CpuLru lock_name NameFits (λ x. refl) (λ x fits. fits) (λ x fits. fits)

in_bucket : Makes Bucket lock_name NameFits (made Bucket (after (codes "bucket") u32_text))
in_bucket = makes (after_reads u32_reads (codes "bucket")) Bucket lock_name NameFits (λ x. refl) (λ x fits. fits) (λ x fits. fits)

in_freelist : Makes Freelist lock_name NameFits (made Freelist (after (codes "freelist") u32_text))
in_freelist = makes (after_reads u32_reads (codes "freelist")) Freelist lock_name NameFits (λ x. refl) (λ x fits. fits) (λ x fits. fits)

name_back : (id : DomainId) (rest : List ℕ) → NameFits id → Stops rest → name_part (lock_name id ++ rest) ≡ Some (id, rest)
unfolding name_part behind
name_back (Local cpu) rest fits stops = or_here _ _ (in_local.back cpu rest fits stops)
name_back Global rest fits stops = or_next _ _ refl (or_here _ _ refl)
name_back (CpuLru cpu) rest fits stops = or_next _ _ refl (or_next _ _ refl (or_here _ _ (in_set.back cpu rest fits stops)))
name_back (Bucket bucket) rest fits stops = or_next _ _ refl (or_next _ _ refl (or_next _ _ refl (or_here _ _ (in_bucket.back bucket rest fits stops))))
name_back (Freelist cpu) rest fits stops = or_next _ _ refl (or_next _ _ refl (or_next _ _ refl (or_next _ _ refl (in_freelist.back cpu rest fits stops))))

pub name_reads : Reads lock_name NameFits name_part
unfolding name_part
name_reads = record {
  back = name_back;
  right =
      either_right lock_name NameFits _ _ in_local.right (either_right lock_name NameFits _ _ (word_makes (codes "global") Global lock_name NameFits refl tt).right
      (either_right lock_name NameFits _ _ in_set.right (either_right lock_name NameFits _ _ in_bucket.right in_freelist.right)));
}

pub lock_reads : (shape : Shape) → Small shape → Reads lock_name (LockFits shape) (lock_part shape)
unfolding lock_part
lock_reads shape small =
    let law = tested_reads name_reads (is_lock shape) in
    record { back = λ lock rest fits stops. law.back lock rest (small.names lock fits, fits) stops; right = λ text lock rest h. let told = law.right text lock rest h in (told.0, told.1.1) }

-- ---- entries

module _ (shape : Shape) (small : Small shape) where
  part_back : (id : DomainId) (part : Part) (rest : List ℕ) → PartFits shape id part → Stops rest → part_of shape id (part_text part ++ rest) ≡ Some (part, rest)
  unfolding part_of
  part_back (Bucket _) (parts.Bucket part) rest fits stops = rw ((bucket_reads shape small).back part rest fits stops) refl
  part_back (Freelist _) (parts.Free part) rest fits stops = rw ((free_reads shape small).back part rest fits stops) refl
  part_back (Local _) (parts.Local part) rest fits stops = rw ((local_reads shape small).back part rest fits stops) refl
  part_back Global (parts.Global part) rest fits stops = rw ((global_reads shape small).back part rest fits stops) refl
  part_back (CpuLru _) (parts.Own part) rest fits stops = rw ((own_reads shape small).back part rest fits stops) refl
  part_back _ _ rest fits stops = absurd fits

  part_right : (id : DomainId) (text : List ℕ) (part : Part) (rest : List ℕ) → part_of shape id text ≡ Some (part, rest) → (text ≡ part_text part ++ rest) × PartFits shape id part
  unfolding part_of
  part_right (Bucket b) = made_right (bucket_reads shape small) parts.Bucket part_text (PartFits shape (Bucket b)) (λ x fits. refl) (λ x fits. fits)
  part_right (Freelist b) = made_right (free_reads shape small) parts.Free part_text (PartFits shape (Freelist b)) (λ x fits. refl) (λ x fits. fits)
  part_right (Local b) = made_right (local_reads shape small) parts.Local part_text (PartFits shape (Local b)) (λ x fits. refl) (λ x fits. fits)
  part_right Global = made_right (global_reads shape small) parts.Global part_text (PartFits shape Global) (λ x fits. refl) (λ x fits. fits)
  part_right (CpuLru b) = made_right (own_reads shape small) parts.Own part_text (PartFits shape (CpuLru b)) (λ x fits. refl) (λ x fits. fits)

  part_reads : (id : DomainId) → Reads part_text (PartFits shape id) (part_of shape id)
  part_reads id = record { back = part_back id; right = part_right id }

  pub entry_reads : (calls : ℕ) (id : DomainId) → calls < 2 ^ 64 → Reads entry_line (EntryFits shape calls id) (entry shape calls id)
  unfolding entry
  entry_reads calls id few =
      made_reads
      (both_reads (number_reads (2 ^ 64) (omega arith)) (λ _. both_reads (number_text_reads shape.cpus small.cpus) (λ _. both_reads (tested_reads (number_text_reads (calls + 1) (omega arith)) (nat_le 1)) (λ _. after_reads (part_reads id) (codes " ")) (λ _. blank_opens (λ a rest. refl))) (λ _. blank_opens (λ a rest. refl))) (λ _. blank_opens (λ a rest. refl)))
      entry_of (λ e. (e.ticket, (e.cpu, (e.call, e.part)))) (λ e. refl) entry_line (EntryFits shape calls id) (λ x. group_entry (decimal x.0) (number_text x.1.0) (number_text x.1.1.0) (codes " ") (part_text x.1.1.1))
      (λ x fits. record { ticket = fits.0; cpu = fits.1.0; some_call = leb-true 1 x.1.1.0 fits.1.1.0.1; of_script = omega (arith, fits.1.1.0.0); part = fits.1.1.1 })
      (λ x fits. (fits.ticket, (fits.cpu, ((omega (arith, fits.of_script), le-leb 1 x.1.1.0 fits.some_call), fits.part))))

-- ---- the line above a lock's entries, and that of a step

abbrev pub lock_head_text : DomainId × ℕ → List ℕ
lock_head_text x = codes "lock " ++ (lock_name x.0 ++ number_text x.1)

pub lock_head_reads : (shape : Shape) → Small shape → Reads lock_head_text (λ x. LockFits shape x.0 × (x.1 < 2 ^ 64)) (lock_head shape)
unfolding lock_head
lock_head_reads shape small = after_reads (both_reads (lock_reads shape small) (λ _. number_text_reads 18446744073709551616 (omega arith)) (λ _. blank_opens (λ a rest. refl))) (codes "lock ")

pub step_reads : (shape : Shape) → Small shape → Reads step_line (StepFits shape) (step_part shape)
unfolding step_part
step_reads shape small =
    made_reads (after_reads (both_reads (lock_reads shape small) (λ _. number_text_reads 18446744073709551616 (omega arith)) (λ _. blank_opens (λ a rest. refl))) (codes "at "))
    step_of (λ s. (s.lock, s.index)) (λ s. refl) step_line (StepFits shape) (λ x. append_assoc (codes "at ") (lock_name x.0) (number_text x.1))
    (λ x fits. record { lock = fits.0; index = fits.1 }) (λ x fits. (fits.lock, fits.index))

-- ---- whole lines

pub whole_reads : {A : Type 0} {print : A → List ℕ} {Fits : A → Type 0} {read : Reader A} → Reads print Fits read → ReadsLine print Fits (whole read)
whole_reads {A} {print} {Fits} {read} reads = record { back = back; right = right }
  where
    back : (a : A) → Fits a → whole read (print a) ≡ Some a
    back a fits =
        let e : read (print a) ≡ Some (a, []) = ap read (sym (append-nil (print a))) ∙ reads.back a [] fits tt in
        rw e refl

    right : (text : List ℕ) (a : A) → whole read text ≡ Some a → (text ≡ print a) × Fits a
    right text a h =
        let step = bound (read text) _ a h in
        let is = if_some (length step.0.1 == 0) step.0.0 a step.2 in
        let none : step.0.1 ≡ [] = length_zero step.0.1 (eqb-true (length step.0.1) 0 is.0) in
        let one = reads.right text step.0.0 step.0.1 step.1 in
        let e : text ≡ print step.0.0 = one.0 ∙ ap (λ t. print step.0.0 ++ t) none ∙ append-nil (print step.0.0) in
        subst (λ (b : A). (text ≡ print b) × Fits b) is.1 (e, one.1)

-- ---- `strand CPUS N`

module _ (below : ℕ) (small : below ≤ 2 ^ 64) where
  unfoldable pub commas_text : List ℕ → List ℕ
  commas_text numbers = flat_map (λ other. codes "," ++ decimal other) numbers

  abbrev pub CommasFit : ℕ → List ℕ → Type 0
  CommasFit most numbers = AllFit (λ n. n < below) numbers × (length numbers ≤ most)

  -- behind a number comes a comma or a blank
  pub commas_no_digit : (numbers : List ℕ) (rest : List ℕ) → NoDigit rest → NoDigit (commas_text numbers ++ rest)
  unfolding commas_text
  commas_no_digit [] rest none = none
  commas_no_digit (n ∷ more) rest none = refl

  -- a text that begins with no comma either
  abbrev pub NoComma : List ℕ → Type 0
  NoComma rest = NoDigit rest × (behind (codes ",") rest ≡ None)

  pub commas_back : (most : ℕ) (numbers : List ℕ) (rest : List ℕ) → CommasFit most numbers → NoComma rest → behind_commas below most (commas_text numbers ++ rest) ≡ Some (numbers, rest)
  unfolding commas_text
  commas_back zero [] rest fits none = refl
  commas_back zero (n ∷ more) rest fits none = absurd (omega (arith, fits.1))
  commas_back (suc most) [] rest fits none = or_next _ _ (rw (none.1) refl) refl
  commas_back (suc most) (n ∷ more) rest fits none =
      let one = number_back below small n (commas_text more ++ rest) fits.0.0 (commas_no_digit more rest none.0) in
      let two = commas_back most more rest (fits.0.1, omega (arith, fits.1)) none in
      let split : commas_text (n ∷ more) ++ rest ≡ codes "," ++ (decimal n ++ (commas_text more ++ rest)) = group_commas (codes ",") (decimal n) (commas_text more) rest in
      or_here _ _ (ap (made (λ (x : ℕ × List ℕ). x.0 ∷ x.1) (after (codes ",") (both (number below) (λ _. behind_commas below most)))) split ∙ rw (behind_back (codes ","), one, two) refl)
