-- The laws of what one turn of the lock of an LRU list did.
use Rattle.std.proofs.Common.{◌≡◌, ℕ, ◌<◌, Bool, true, false, List, [], ◌∷◌, ◌++◌, ◌==◌, ◌||◌, subst, Option, Some, None, refl, sym, ap, ◌∙◌, append_assoc}
use Rattle.std.specs.Prelude.{codes, decimal}
use Rattle.std.specs.Char.{is_ascii_digit}
use Rattle.std.proofs.lemmas.Bool.{cond-false, eqb-true, false_from_ne_true}
use Rattle.map_types.specs.declared.attr.Shape.{Shape}
use Rattle.place_words.specs.declared.bucket_part.Seen.{Seen}
use Rattle.place_words.specs.declared.bucket_part.Seen.TheVariants.{Removed, Held}
use Rattle.place_words.specs.declared.list_part.GlobalPart.{GlobalPart}
use Rattle.place_words.specs.declared.list_part.GlobalPart.TheVariants as global
use Rattle.place_words.specs.declared.list_part.LocalPart.{LocalPart}
use Rattle.place_words.specs.declared.list_part.LocalPart.TheVariants as local
use Rattle.place_words.specs.declared.list_part.OwnPart.{OwnPart}
use Rattle.place_words.specs.declared.list_part.OwnPart.TheVariants as own
use Rattle.place_words.specs.declared.list_part.Stolen.{Stolen}
use Rattle.place_words.specs.declared.list_part.Stolen.TheVariants.{Free, Pending, Nothing}
use Rattle.place_words.specs.declared.visits.Flush.{Flush}
use Rattle.place_words.specs.declared.visits.Look.{Look}
use Rattle.place_words.specs.declared.visits.ShrinkNote.{ShrinkNote}
use Rattle.place_words.specs.declared.visits.Try.{Try}
use Rattle.place_words.specs.declared.visits.Visit.{Visit}
use Rattle.map_report.specs.ListParts.{visit_text, flush_text, probe_text, probed_text, look_text, try_text, shrink_text, stolen_text, done_text, rotation_text, local_part_text, global_part_text, own_part_text}
use Rattle.map_report.specs.Words as report
use Rattle.record_reading.specs.Readers.{Reader, behind, after, both, made, number, digits_of, hash, counted, option}
use Rattle.record_reading.specs.BucketReaders.{u32_text, element_text}
use Rattle.record_reading.specs.ListReaders.{visit_of, flush_of, look_of, try_of, note_of, visit, flush, probe, probed, look, attempt, shrink, stolen, done_part, local_part, global_part, own_part}
use Rattle.record_shape.specs.ShapedParts.{FlushFits, GlobalFits, IsElement, LocalFits, LookFits, CountedFit, OptionFits, OwnFits, ProbedFits, SeenFits, ShrinkFits, StolenFits, TryFits, VisitFits}
use Rattle.record_reading.proofs.Laws.{Stops, Reads, Opens, Makes, makes, either_right, or_here, or_next, after_reads, both_reads, number_reads, counted_reads, option_reads, bit_reads, word_makes, exact_both, exact_colon, hash_exact, bit_exact}
use Rattle.record_reading.proofs.BucketLaws.{Small, u32_reads, element_reads, element_colon_exact}

group_flush : (e c h d b : List ℕ) → e ++ c ++ h ++ d ++ b ≡ (e ++ c) ++ ((h ++ d) ++ b)
group_flush e c h d b = simp append_assoc

-- readers of what is made of another form, where that loses nothing
pub made_reads : {A B : Type 0} {print : A → List ℕ} {FitsPart : A → Type 0} {read : Reader A} → Reads print FitsPart read → (make : A → B) (parts : B → A) → ((b : B) → make (parts b) ≡ b) → (print_made : B → List ℕ) (Fits : B → Type 0)
    → ((a : A) → print_made (make a) ≡ print a) → ((a : A) → FitsPart a → Fits (make a)) → ((a : A) → Fits (make a) → FitsPart a) → Reads print_made Fits (made make read)
made_reads {read = read} reads make parts same print_made Fits prints to from =
    let law = makes reads make print_made Fits prints to from in
    record {
      back = λ b rest fits stops. subst (λ (b : _). made make read (print_made b ++ rest) ≡ Some (b, rest)) (same b) (law.back (parts b) rest (subst Fits (sym (same b)) fits) stops);
      right = law.right;
    }

group_note : (w t l f k : List ℕ) → w ++ t ++ l ++ f ++ k ≡ w ++ (t ++ (l ++ (f ++ k)))
group_note w t l f k = simp append_assoc

group_3 : (w a b c : List ℕ) → w ++ a ++ b ++ c ≡ w ++ (a ++ (b ++ c))
group_3 w a b c = simp append_assoc

group_4 : (w a b c d : List ℕ) → w ++ a ++ b ++ c ++ d ≡ w ++ (a ++ (b ++ (c ++ d)))
group_4 w a b c d = simp append_assoc

group_turn : (w f a v i u r s : List ℕ) → (w ++ f) ++ (a ++ v ++ i ++ u) ++ r ++ s ≡ w ++ (f ++ ((a ++ v) ++ ((i ++ u) ++ (r ++ s))))
group_turn w f a v i u r s = simp append_assoc

many_blank : {A : Type 0} (print : A → List ℕ) (items : List A) (more rest : List ℕ) → Stops ((report.counted print items ++ more) ++ rest)
unfolding report.counted
many_blank print items more rest = refl

colon_no_stop : (c : ℕ) → c ≡ 58 → Stops (c ∷ []) → ⊥
colon_no_stop c e stops = absurd (cc (subst (λ n. (is_ascii_digit n || n == 58) ≡ false) e stops))

-- what begins with a blank
abbrev Blank : {A : Type 0} → (A → List ℕ) → Type 0
Blank {A} print = (a : A) (rest : List ℕ) → Stops (print a ++ rest)

pub blank_opens : {A : Type 0} {print : A → List ℕ} {Fits : A → Type 0} → ((a : A) (rest : List ℕ) → Stops (print a ++ rest)) → Opens print Fits
blank_opens blank = record { opens = λ a rest fits stops. blank a rest }

module _ (shape : Shape) (small : Small shape) where
  pub visit_reads : Reads visit_text (VisitFits shape) (visit shape)
  unfolding visit
  visit_reads =
      made_reads (exact_both (element_colon_exact shape small) (λ _. bit_reads)) visit_of (λ v. (v.element, v.bit)) (λ v. refl) visit_text (VisitFits shape) (λ x. refl) (λ x fits. fits.0) (λ x fits. (fits, tt))

  pub flush_reads : Reads flush_text (FlushFits shape) (flush shape)
  unfolding flush
  flush_reads =
      made_reads (exact_both (element_colon_exact shape small) (λ _. exact_both (exact_colon hash_exact) (λ _. bit_reads))) flush_of (λ v. (v.element, (v.hash, v.bit))) (λ v. refl) flush_text (FlushFits shape)
      (λ x. group_flush (report.number_text x.0) (codes ":") (report.hash_digits x.1.0) (codes ":") (report.bit_text x.1.1)) (λ x fits. (fits.0, fits.1.0)) (λ x fits. (fits.0, (fits.1, tt)))

  -- what a probe found, with the colon before it
  behind_colon : Seen → List ℕ
  behind_colon Removed = codes "r"
  behind_colon (Held holder) = codes "h" ++ decimal holder

  probe_held : Makes Held behind_colon (SeenFits shape) (made Held (after (codes "h") (number shape.cpus)))
  unfolding behind_colon
  probe_held = makes (after_reads (number_reads shape.cpus small.cpus) (codes "h")) Held behind_colon (SeenFits shape) (λ x. refl) (λ x fits. fits) (λ x fits. fits)

  probe_back : (seen : Seen) (rest : List ℕ) → SeenFits shape seen → Stops rest → probe shape (behind_colon seen ++ rest) ≡ Some (seen, rest)
  unfolding probe behind behind_colon
  probe_back Removed rest fits stops = or_here _ _ refl
  probe_back (Held cpu) rest fits stops = or_next _ _ refl (probe_held.back cpu rest fits stops)

  probe_reads : Reads behind_colon (SeenFits shape) (probe shape)
  unfolding probe behind_colon
  probe_reads = record { back = probe_back; right = either_right behind_colon (SeenFits shape) _ _ (word_makes (codes "r") Removed behind_colon (SeenFits shape) refl tt).right probe_held.right }

  -- a probe with its colon
  probe_prints : (seen : Seen) → probe_text seen ≡ codes ":" ++ behind_colon seen
  unfolding behind_colon
  probe_prints Removed = refl
  probe_prints (Held cpu) = refl

  probed_some : Makes (λ (seen : Seen). Some seen) probed_text (ProbedFits shape) (made (λ seen. Some seen) (after (codes ":") (probe shape)))
  probed_some = makes (after_reads probe_reads (codes ":")) (λ seen. Some seen) probed_text (ProbedFits shape) probe_prints (λ x fits. fits) (λ x fits. fits)

  no_colon : (rest : List ℕ) → Stops rest → behind (codes ":") rest ≡ None
  unfolding behind
  no_colon [] stops = refl
  no_colon (c ∷ rest) stops = cond-false (58 == c) _ _ (false_from_ne_true (58 == c) (λ same. let e : 58 ≡ c = eqb-true 58 c same in absurd (colon_no_stop c (sym e) stops)))

  probed_back : (o : Option Seen) (rest : List ℕ) → ProbedFits shape o → Stops rest → probed shape (probed_text o ++ rest) ≡ Some (o, rest)
  unfolding probed
  probed_back None rest fits stops = or_next _ _ (rw (no_colon rest stops) refl) ((word_makes (codes "") None probed_text (ProbedFits shape) refl tt).back tt rest fits stops)
  probed_back (Some seen) rest fits stops = or_here _ _ (probed_some.back seen rest fits stops)

  probed_reads : Reads probed_text (ProbedFits shape) (probed shape)
  unfolding probed
  probed_reads = record { back = probed_back; right = either_right probed_text (ProbedFits shape) _ _ probed_some.right (word_makes (codes "") None probed_text (ProbedFits shape) refl tt).right }

  pub look_reads : Reads look_text (LookFits shape) (look shape)
  unfolding look
  look_reads =
      made_reads (exact_both (element_colon_exact shape small) (λ _. exact_both bit_exact (λ _. probed_reads))) look_of (λ v. (v.element, (v.bit, v.probed))) (λ v. refl) look_text (LookFits shape)
      (λ x. append_assoc (report.number_text x.0 ++ codes ":") (report.bit_text x.1.0) (probed_text x.1.1)) (λ x fits. (fits.0, fits.1.1)) (λ x fits. (fits.0, (tt, fits.1)))

  pub try_reads : Reads try_text (TryFits shape) (attempt shape)
  unfolding attempt
  try_reads =
      made_reads (exact_both (element_colon_exact shape small) (λ _. probe_reads)) try_of (λ v. (v.element, v.probed)) (λ v. refl) try_text (TryFits shape)
      (λ x. ap (λ t. report.number_text x.0 ++ t) (probe_prints x.1) ∙ sym (append_assoc (report.number_text x.0) (codes ":") (behind_colon x.1))) (λ x fits. fits) (λ x fits. fits)

  -- so many

  visits : Reads (report.counted visit_text) (CountedFit (VisitFits shape)) (counted (visit shape))
  visits = counted_reads visit_reads (blank_opens (λ a rest. refl))

  flushes : Reads (report.counted flush_text) (CountedFit (FlushFits shape)) (counted (flush shape))
  flushes = counted_reads flush_reads (blank_opens (λ a rest. refl))

  looks : Reads (report.counted look_text) (CountedFit (LookFits shape)) (counted (look shape))
  looks = counted_reads look_reads (blank_opens (λ a rest. refl))

  tries : Reads (report.counted try_text) (CountedFit (TryFits shape)) (counted (attempt shape))
  tries = counted_reads try_reads (blank_opens (λ a rest. refl))

  elements : Reads (report.counted report.number_text) (CountedFit (IsElement shape)) (counted (element_text shape))
  elements = counted_reads (element_reads shape small) (blank_opens (λ a rest. refl))

  -- ---- shrinks, thefts and pushes

  note_text : ShrinkNote → List ℕ
  note_text note = shrink_text (Some note)

  note_reads : Reads note_text (λ note. ShrinkFits shape (Some note)) (made note_of (after (codes " shrink") (both u32_text (λ _. both (counted (look shape)) (λ _. after (codes " forced") (counted (attempt shape)))))))
  unfolding note_text
  note_reads =
      made_reads
      (after_reads (both_reads u32_reads (λ _. both_reads looks (λ _. after_reads tries (codes " forced")) (λ _. blank_opens (λ a rest. refl))) (λ _. record { opens = λ a rest fits stops. many_blank look_text a.0 (codes " forced" ++ report.counted try_text a.1) rest })) (codes " shrink"))
      note_of (λ n. (n.target, (n.looks, n.forced))) (λ n. refl) note_text (λ note. ShrinkFits shape (Some note))
      (λ x. group_note (codes " shrink") (report.number_text x.0) (report.counted look_text x.1.0) (codes " forced") (report.counted try_text x.1.1)) (λ x fits. (fits.0, fits.1.0, fits.1.1)) (λ x fits. (fits.0, (fits.1, fits.2)))

  note_makes : Makes (λ (note : ShrinkNote). Some note) shrink_text (ShrinkFits shape) (made (λ (note : ShrinkNote). Some note) (made note_of (after (codes " shrink") (both u32_text (λ _. both (counted (look shape)) (λ _. after (codes " forced") (counted (attempt shape))))))))
  unfolding note_text
  note_makes = makes note_reads (λ note. Some note) shrink_text (ShrinkFits shape) (λ x. refl) (λ x fits. fits) (λ x fits. fits)

  shrink_back : (note : Option ShrinkNote) (rest : List ℕ) → ShrinkFits shape note → Stops rest → shrink shape (shrink_text note ++ rest) ≡ Some (note, rest)
  unfolding shrink behind u32_text number digits_of
  shrink_back None rest fits stops = or_next _ _ refl refl
  shrink_back (Some note) rest fits stops = or_here _ _ (note_makes.back note rest fits stops)

  pub shrink_reads : Reads shrink_text (ShrinkFits shape) (shrink shape)
  unfolding shrink
  shrink_reads = record { back = shrink_back; right = either_right shrink_text (ShrinkFits shape) _ _ note_makes.right (word_makes (codes " shrink no") None shrink_text (ShrinkFits shape) refl tt).right }

  shrink_blank : (note : Option ShrinkNote) (rest : List ℕ) → Stops (shrink_text note ++ rest)
  shrink_blank None rest = refl
  shrink_blank (Some note) rest = refl

  free : Makes Free stolen_text (StolenFits shape) (made Free (after (codes " free") (element_text shape)))
  free = makes (after_reads (element_reads shape small) (codes " free")) Free stolen_text (StolenFits shape) (λ x. refl) (λ x fits. fits) (λ x fits. fits)

  pending : Makes Pending stolen_text (StolenFits shape) (made Pending (after (codes " pending") (element_text shape)))
  pending = makes (after_reads (element_reads shape small) (codes " pending")) Pending stolen_text (StolenFits shape) (λ x. refl) (λ x fits. fits) (λ x fits. fits)

  stolen_back : (got : Stolen) (rest : List ℕ) → StolenFits shape got → Stops rest → stolen shape (stolen_text got ++ rest) ≡ Some (got, rest)
  unfolding stolen behind
  stolen_back (Free e) rest fits stops = or_here _ _ (free.back e rest fits stops)
  stolen_back (Pending e) rest fits stops = or_next _ _ refl (or_here _ _ (pending.back e rest fits stops))
  stolen_back Nothing rest fits stops = or_next _ _ refl (or_next _ _ refl refl)

  stolen_reads : Reads stolen_text (StolenFits shape) (stolen shape)
  unfolding stolen
  stolen_reads = record { back = stolen_back; right = either_right stolen_text (StolenFits shape) _ _ free.right (either_right stolen_text (StolenFits shape) _ _ pending.right (word_makes (codes " none") Nothing stolen_text (StolenFits shape) refl tt).right) }

  done_back : (b : Bool) (rest : List ℕ) → done_part (done_text b ++ rest) ≡ Some (b, rest)
  unfolding done_part behind
  done_back true rest = or_here _ _ refl
  done_back false rest = or_next _ _ refl refl

  done_reads : Reads done_text (λ _. Unit {0}) done_part
  unfolding done_part
  done_reads = record { back = λ b rest fits stops. done_back b rest; right = either_right done_text (λ _. Unit {0}) _ _ (word_makes (codes " done") true done_text (λ _. Unit {0}) refl tt).right (word_makes (codes " moved") false done_text (λ _. Unit {0}) refl tt).right }

  done_blank : (b : Bool) (rest : List ℕ) → Stops (done_text b ++ rest)
  done_blank true rest = refl
  done_blank false rest = refl

  -- ---- local lists

  element : Reads report.number_text (λ n. n < shape.elements) (element_text shape)
  element = element_reads shape small

  got_reads : Reads (λ o. codes " got" ++ report.option_text o) (OptionFits shape.elements) (after (codes " got") (option shape.elements))
  got_reads = after_reads (option_reads shape.elements small.elements) (codes " got")

  pop : Makes (λ (x : ℕ × ℕ). local.Pop x.0 x.1) local_part_text (LocalFits shape) (made (λ (x : ℕ × ℕ). local.Pop x.0 x.1) (after (codes "pop ") (both hash (λ _. element_text shape))))
  pop = makes (after_reads (exact_both hash_exact (λ _. element)) (codes "pop ")) _ local_part_text (LocalFits shape) (λ x. simp append_assoc) (λ x fits. fits) (λ x fits. fits)

  refill : Makes (λ (x : ℕ × (List Visit × (List ℕ × Option ℕ))). local.Refill x.0 x.1.0 x.1.1.0 x.1.1.1) local_part_text (LocalFits shape) (made (λ (x : ℕ × (List Visit × (List ℕ × Option ℕ))). local.Refill x.0 x.1.0 x.1.1.0 x.1.1.1)
      (after (codes "refill ") (both hash (λ _. both (after (codes " flush") (counted (visit shape))) (λ _. both (after (codes " gain") (counted (element_text shape))) (λ _. after (codes " got") (option shape.elements)))))))
  refill =
      makes (after_reads (exact_both hash_exact (λ _. both_reads (after_reads visits (codes " flush")) (λ _. both_reads (after_reads elements (codes " gain")) (λ _. got_reads) (λ _. blank_opens (λ a rest. refl))) (λ _. blank_opens (λ a rest. refl)))) (codes "refill ")) _ local_part_text (LocalFits shape)
      (λ x. group_4 (codes "refill ") (report.hash_digits x.0) (codes " flush" ++ report.counted visit_text x.1.0) (codes " gain" ++ report.counted report.number_text x.1.1.0) (codes " got" ++ report.option_text x.1.1.1)) (λ x fits. (fits.0, fits.1.0, fits.1.1.0, fits.1.1.1)) (λ x fits. (fits.0, (fits.1, (fits.2, fits.3))))

  steal : Makes (λ (x : Stolen × (List Look × List Try)). local.Steal x.0 x.1.0 x.1.1) local_part_text (LocalFits shape) (made (λ (x : Stolen × (List Look × List Try)). local.Steal x.0 x.1.0 x.1.1)
      (after (codes "steal") (both (stolen shape) (λ _. both (after (codes " first") (counted (look shape))) (λ _. after (codes " second") (counted (attempt shape)))))))
  steal =
      makes (after_reads (both_reads stolen_reads (λ _. both_reads (after_reads looks (codes " first")) (λ _. after_reads tries (codes " second")) (λ _. blank_opens (λ a rest. refl))) (λ _. blank_opens (λ a rest. refl))) (codes "steal")) _ local_part_text (LocalFits shape)
      (λ x. group_3 (codes "steal") (stolen_text x.0) (codes " first" ++ report.counted look_text x.1.0) (codes " second" ++ report.counted try_text x.1.1)) (λ x fits. (fits.0, fits.1.0, fits.1.1)) (λ x fits. (fits.0, (fits.1, fits.2)))

  add : Makes (λ (x : ℕ × (ℕ × ℕ)). local.Add x.0 x.1.0 x.1.1) local_part_text (LocalFits shape) (made (λ (x : ℕ × (ℕ × ℕ)). local.Add x.0 x.1.0 x.1.1)
      (after (codes "add ") (both hash (λ _. both (element_text shape) (λ _. after (codes " cursor") u32_text)))))
  add =
      makes (after_reads (exact_both hash_exact (λ _. both_reads element (λ _. after_reads u32_reads (codes " cursor")) (λ _. blank_opens (λ a rest. refl)))) (codes "add ")) _ local_part_text (LocalFits shape)
      (λ x. group_note (codes "add ") (report.hash_digits x.0) (report.number_text x.1.0) (codes " cursor") (report.number_text x.1.1)) (λ x fits. (fits.0, fits.1.0, fits.1.1)) (λ x fits. (fits.0, (fits.1, fits.2)))

  local_push : Makes (λ (x : ℕ × Bool). local.Push x.0 x.1) local_part_text (LocalFits shape) (made (λ (x : ℕ × Bool). local.Push x.0 x.1) (after (codes "push") (both (element_text shape) (λ _. done_part))))
  local_push = makes (after_reads (both_reads element (λ _. done_reads) (λ _. blank_opens done_blank)) (codes "push")) _ local_part_text (LocalFits shape) (λ x. simp append_assoc) (λ x fits. fits.0) (λ x fits. (fits, tt))

  local_back : (part : LocalPart) (rest : List ℕ) → LocalFits shape part → Stops rest → local_part shape (local_part_text part ++ rest) ≡ Some (part, rest)
  unfolding local_part behind
  local_back (local.Pop h e) rest fits stops = or_here _ _ (pop.back (h, e) rest fits stops)
  local_back (local.Refill h flushed gained got) rest fits stops = or_next _ _ refl (or_here _ _ (refill.back (h, (flushed, (gained, got))) rest fits stops))
  local_back (local.Steal got first second) rest fits stops = or_next _ _ refl (or_next _ _ refl (or_here _ _ (steal.back (got, (first, second)) rest fits stops)))
  local_back (local.Add h e cursor) rest fits stops = or_next _ _ refl (or_next _ _ refl (or_next _ _ refl (or_here _ _ (add.back (h, (e, cursor)) rest fits stops))))
  local_back (local.Push e is) rest fits stops = or_next _ _ refl (or_next _ _ refl (or_next _ _ refl (or_next _ _ refl (local_push.back (e, is) rest fits stops))))

  pub local_reads : Reads local_part_text (LocalFits shape) (local_part shape)
  unfolding local_part
  local_reads = record {
    back = local_back;
    right =
        either_right local_part_text (LocalFits shape) _ _ pop.right (either_right local_part_text (LocalFits shape) _ _ refill.right
        (either_right local_part_text (LocalFits shape) _ _ steal.right (either_right local_part_text (LocalFits shape) _ _ add.right local_push.right)));
  }

  -- ---- the global lists, and a CPU's own

  global_turn : Makes (λ (x : List Flush × (List Visit × (List Visit × (List ℕ × Option ShrinkNote)))). global.Turn x.0 x.1.0 x.1.1.0 x.1.1.1.0 x.1.1.1.1) global_part_text (GlobalFits shape)
      (made (λ (x : List Flush × (List Visit × (List Visit × (List ℕ × Option ShrinkNote)))). global.Turn x.0 x.1.0 x.1.1.0 x.1.1.1.0 x.1.1.1.1)
      (after (codes "turn flush") (both (counted (flush shape)) (λ _. both (after (codes " active") (counted (visit shape))) (λ _. both (after (codes " inactive") (counted (visit shape)))
      (λ _. both (after (codes " free") (counted (element_text shape))) (λ _. shrink shape)))))))
  unfolding rotation_text
  global_turn =
      makes (after_reads (both_reads flushes (λ _. both_reads (after_reads visits (codes " active")) (λ _. both_reads (after_reads visits (codes " inactive")) (λ _. both_reads (after_reads elements (codes " free")) (λ _. shrink_reads) (λ _. blank_opens shrink_blank)) (λ _. blank_opens (λ a rest. refl))) (λ _. blank_opens (λ a rest. refl))) (λ _. blank_opens (λ a rest. refl))) (codes "turn flush")) _ global_part_text (GlobalFits shape)
      (λ x. group_turn (codes "turn flush") (report.counted flush_text x.0) (codes " active") (report.counted visit_text x.1.0) (codes " inactive") (report.counted visit_text x.1.1.0) (codes " free" ++ report.counted report.number_text x.1.1.1.0) (shrink_text x.1.1.1.1)) (λ x fits. (fits.0, fits.1.0, fits.1.1.0, fits.1.1.1.0, fits.1.1.1.1)) (λ x fits. (fits.0, (fits.1, (fits.2, (fits.3, fits.4)))))

  global_push : Makes global.Push global_part_text (GlobalFits shape) (made global.Push (after (codes "push") (element_text shape)))
  global_push = makes (after_reads element (codes "push")) global.Push global_part_text (GlobalFits shape) (λ x. refl) (λ x fits. fits) (λ x fits. fits)

  global_back : (part : GlobalPart) (rest : List ℕ) → GlobalFits shape part → Stops rest → global_part shape (global_part_text part ++ rest) ≡ Some (part, rest)
  unfolding global_part behind
  global_back (global.Turn flushed active inactive free shrink) rest fits stops = or_here _ _ (global_turn.back (flushed, (active, (inactive, (free, shrink)))) rest fits stops)
  global_back (global.Push e) rest fits stops = or_next _ _ refl (global_push.back e rest fits stops)

  pub global_reads : Reads global_part_text (GlobalFits shape) (global_part shape)
  unfolding global_part
  global_reads = record { back = global_back; right = either_right global_part_text (GlobalFits shape) _ _ global_turn.right global_push.right }

  own_turn : Makes (λ (x : ℕ × (List Visit × (List Visit × (Option ShrinkNote × Option ℕ)))). own.Turn x.0 x.1.0 x.1.1.0 x.1.1.1.0 x.1.1.1.1) own_part_text (OwnFits shape)
      (made (λ (x : ℕ × (List Visit × (List Visit × (Option ShrinkNote × Option ℕ)))). own.Turn x.0 x.1.0 x.1.1.0 x.1.1.1.0 x.1.1.1.1)
      (after (codes "turn ") (both hash (λ _. both (after (codes " active") (counted (visit shape))) (λ _. both (after (codes " inactive") (counted (visit shape)))
      (λ _. both (shrink shape) (λ _. after (codes " got") (option shape.elements))))))))
  unfolding rotation_text
  own_turn =
      makes (after_reads (exact_both hash_exact (λ _. both_reads (after_reads visits (codes " active")) (λ _. both_reads (after_reads visits (codes " inactive")) (λ _. both_reads shrink_reads (λ _. got_reads) (λ _. blank_opens (λ a rest. refl))) (λ _. record { opens = λ a rest fits stops. shrink_more a.0 (codes " got" ++ report.option_text a.1) rest })) (λ _. blank_opens (λ a rest. refl)))) (codes "turn ")) _ own_part_text (OwnFits shape)
      (λ x. group_turn (codes "turn ") (report.hash_digits x.0) (codes " active") (report.counted visit_text x.1.0) (codes " inactive") (report.counted visit_text x.1.1.0) (shrink_text x.1.1.1.0) (codes " got" ++ report.option_text x.1.1.1.1)) (λ x fits. (fits.0, fits.1.0, fits.1.1.0, fits.1.1.1.0, fits.1.1.1.1)) (λ x fits. (fits.0, (fits.1, (fits.2, (fits.3, fits.4)))))
    where
      shrink_more : (note : Option ShrinkNote) (more rest : List ℕ) → Stops ((shrink_text note ++ more) ++ rest)
      shrink_more None more rest = refl
      shrink_more (Some note) more rest = refl

  own_push : Makes own.Push own_part_text (OwnFits shape) (made own.Push (after (codes "push") (element_text shape)))
  own_push = makes (after_reads element (codes "push")) own.Push own_part_text (OwnFits shape) (λ x. refl) (λ x fits. fits) (λ x fits. fits)

  own_back : (part : OwnPart) (rest : List ℕ) → OwnFits shape part → Stops rest → own_part shape (own_part_text part ++ rest) ≡ Some (part, rest)
  unfolding own_part behind
  own_back (own.Turn h active inactive shrink got) rest fits stops = or_here _ _ (own_turn.back (h, (active, (inactive, (shrink, got)))) rest fits stops)
  own_back (own.Push e) rest fits stops = or_next _ _ refl (own_push.back e rest fits stops)

  pub own_reads : Reads own_part_text (OwnFits shape) (own_part shape)
  unfolding own_part
  own_reads = record { back = own_back; right = either_right own_part_text (OwnFits shape) _ _ own_turn.right own_push.right }
