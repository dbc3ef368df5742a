-- The laws of all lists that a map holds.
use Rattle.std.proofs.Common.{◌≡◌, ℕ, ◌≤◌, ◌<◌, ◌^◌, ◌+◌, Bool, true, false, List, [], ◌∷◌, ◌++◌, length, None, subst, refl, sym, ap, ◌∙◌, arith, append_assoc}
use Rattle.std.specs.Prelude.{codes, MatchBool, if◌then◌else◌}
use Rattle.std.specs.List.{flat_map, range_with_len}
use Rattle.std.proofs.lemmas.List.{append-nil}
use Rattle.map_types.specs.declared.attr.Shape.{Shape}
use Rattle.map_types.specs.declared.kind.MapKind.{MapKind}
use Rattle.map_types.specs.declared.kind.MapKind.TheVariants.{Hash, PercpuHash, LruHash, LruPercpuHash}
use Rattle.map_types.specs.declared.kind.DomainId.TheVariants.{Local, Global, CpuLru, Freelist}
use Rattle.map_types.specs.Kind.{is_lru}
use Rattle.map_types.specs.Stored.{Stored}
use Rattle.place_words.specs.declared.finals.Finals.{Finals}
use Rattle.place_words.specs.declared.finals.SetFinal.{SetFinal}
use Rattle.map_report.specs.Dump.{stored_line, bucket_lines, list_line, freelist_lines, spare_line, set_lines, local_lines, marked_line, plain_lines, evicting_lines, dump_lines}
use Rattle.map_report.specs.Serial.{has_spares, spare_count}
use Rattle.map_report.specs.Words.{lock_name, numbered}
use Rattle.record_reading.specs.DumpReaders.{spare_part, set_section, local_section, freelist_section}
use Rattle.record_reading.specs.LineReaders.{marks}
use Rattle.record_reading.specs.Readers.{behind, word_then, ascends}
use Rattle.record_reading.specs.RecordReaders.{set_name, marked_section, finals_of, finals_section}
use Rattle.record_reading.specs.Sections.{Line, one_line, no_line, for_each}
use Rattle.record_shape.specs.WellShaped.{SoManyFit, freelist_count, set_count, local_count, MarkedFit, FinalsFit}
use Rattle.record_shape.specs.ShapedParts.{AreElements, LocalListsFit, MarksFit, SetFits}
use Rattle.record_reading.proofs.SectionLaws.{ReadsLine, Tells, NoStop, line_tells, no_line_tells, next_tells}
use Rattle.record_reading.proofs.MadeLaws.{told_tells}
use Rattle.record_reading.proofs.WholeLaws.{NoWord, numbered_plain}
use Rattle.record_reading.proofs.BucketLaws.{Small}
use Rattle.record_reading.proofs.DumpLaws.{freelist_tells, spare_reads, set_tells, local_tells}
use Rattle.record_reading.proofs.FinalsLaws.{BucketsStop, buckets_tell}
use Rattle.record_reading.proofs.ToEndLaws.{word_then_reads, passing_reads, same_reads, numbers_reads}

module _ (shape : Shape) where
  abbrev spare_lines : ℕ → ℕ → List Line
  spare_lines cpu element = spare_line cpu element ∷ []

  abbrev named_set : ℕ → SetFinal → List Line
  named_set number set = set_lines (set_name shape number) set

  abbrev marked_lines : Bool → List ℕ → List Line
  marked_lines evicts elements = if evicts then marked_line elements ∷ [] else []

  -- the lines behind those of buckets
  abbrev pub list_lines : Finals → List Line
  list_lines finals =
      numbered freelist_lines 0 finals.freelists ++ (numbered spare_lines 0 finals.spares ++ (numbered named_set 0 finals.sets ++ (numbered local_lines 0 finals.locals ++ marked_lines (is_lru shape.kind) finals.marked)))

  abbrev pub finals_lines : Finals → List Line
  finals_lines finals = numbered bucket_lines 0 finals.buckets ++ list_lines finals

  module _ (small : Small shape) (some_element : 1 ≤ shape.elements) (few_buckets : shape.buckets ≤ 2 ^ 64) where
    freelists_tell : Tells (numbered freelist_lines 0) (SoManyFit (freelist_count shape) (AreElements shape)) NoStop (for_each (freelist_section shape) (range_with_len 0 (freelist_count shape)))
    freelists_tell = numbered_plain freelist_lines (AreElements shape) (freelist_tells shape small) 0 (freelist_count shape)

    spares_tell : Tells (numbered spare_lines 0) (SoManyFit (spare_count shape) (λ element. element < shape.elements)) NoStop (for_each (λ cpu. one_line (spare_part shape cpu)) (range_with_len 0 (spare_count shape)))
    spares_tell = numbered_plain spare_lines (λ element. element < shape.elements) (λ cpu. line_tells (spare_reads shape small cpu) (0, omega arith)) 0 (spare_count shape)

    sets_tell : Tells (numbered named_set 0) (SoManyFit (set_count shape) (SetFits shape)) NoStop (for_each (λ number. set_section shape (set_name shape number)) (range_with_len 0 (set_count shape)))
    sets_tell = numbered_plain named_set (SetFits shape) (λ number. set_tells shape small (set_name shape number)) 0 (set_count shape)

    locals_tell : Tells (numbered local_lines 0) (SoManyFit (local_count shape) (LocalListsFit shape)) NoStop (for_each (local_section shape) (range_with_len 0 (local_count shape)))
    locals_tell = numbered_plain local_lines (LocalListsFit shape) (local_tells shape small) 0 (local_count shape)

    marked_reads : ReadsLine marked_line (MarksFit shape) (word_then (codes "marked") (marks shape))
    unfolding marks
    marked_reads =
        same_reads (word_then_reads (passing_reads (numbers_reads shape.elements small.elements) ascends) (codes "marked")) marked_line (MarksFit shape) (λ elements. refl)
        (λ elements fits. record { below = fits.0; ascending = fits.1 }) (λ elements fits. (fits.below, fits.ascending))

    marked_of : (evicts : Bool) → Tells (marked_lines evicts) (λ elements. MatchBool evicts (MarksFit shape elements) (elements ≡ [])) NoStop (if evicts then one_line (word_then (codes "marked") (marks shape)) else no_line [])
    marked_of true = line_tells marked_reads ([], record { below = tt; ascending = refl })
    marked_of false = no_line_tells (λ elements. []) [] refl

    marked_tell : Tells (marked_lines (is_lru shape.kind)) (MarkedFit shape) NoStop (marked_section shape)
    marked_tell = marked_of (is_lru shape.kind)

    abbrev pub FinalsStop : Finals → List Line → Type 0
    FinalsStop finals rest = BucketsStop shape small few_buckets 0 shape.buckets finals.buckets (list_lines finals ++ rest)

    pub finals_tell : Tells finals_lines (FinalsFit shape) FinalsStop (finals_section shape)
    finals_tell =
        told_tells
        (next_tells (buckets_tell shape small few_buckets 0 shape.buckets) (λ _ _. next_tells freelists_tell (λ _ _. next_tells spares_tell (λ _ _. next_tells sets_tell (λ _ _. next_tells locals_tell (λ _ _. marked_tell))))))
        finals_of finals_lines (FinalsFit shape) FinalsStop
        (λ finals fits. ((finals.buckets, (finals.freelists, (finals.spares, (finals.sets, (finals.locals, finals.marked))))), refl, (fits.buckets, (fits.freelists, (fits.spares, (fits.sets, (fits.locals, fits.marked)))))))
        (λ x fits. refl) (λ x fits. record { buckets = fits.0; freelists = fits.1.0; spares = fits.1.1.0; sets = fits.1.1.1.0; locals = fits.1.1.1.1.0; marked = fits.1.1.1.1.1 })
        (λ x rest fits stops. stops.0) (λ x rest fits stops. (stops, (tt, (tt, (tt, (tt, tt))))))

-- ---- what these lines begin with

-- a word with which no line of a list begins
pub record BeginsNoList (word : List ℕ) : Type 0 where
  pub freelist : (cpu : ℕ) (elements : List ℕ) → behind word (list_line (lock_name (Freelist cpu)) [] elements) ≡ None
  pub spare : (cpu element : ℕ) → behind word (spare_line cpu element) ≡ None
  pub global : (elements : List ℕ) → behind word (list_line (lock_name Global) (codes " active") elements) ≡ None
  pub own : (cpu : ℕ) (elements : List ℕ) → behind word (list_line (lock_name (CpuLru cpu)) (codes " active") elements) ≡ None
  pub local : (cpu : ℕ) (elements : List ℕ) → behind word (list_line (lock_name (Local cpu)) (codes " free") elements) ≡ None
  pub marked : (elements : List ℕ) → behind word (marked_line elements) ≡ None

pub numbered_no_word : {A : Type 0} (word : List ℕ) (print : ℕ → A → List Line) → ((n : ℕ) (a : A) (more : List Line) → NoWord word more → NoWord word (print n a ++ more)) → (first : ℕ) (items : List A) (rest : List Line) → NoWord word rest → NoWord word (numbered print first items ++ rest)
numbered_no_word word print each first [] rest none = none
numbered_no_word word print each first (a ∷ items) rest none =
    subst (NoWord word) (sym (append_assoc (print first a) (numbered print (first + 1) items) rest)) (each first a (numbered print (first + 1) items ++ rest) (numbered_no_word word print each (first + 1) items rest none))

module _ (shape : Shape) (word : List ℕ) (no_list : BeginsNoList word) where
  marked_no_word : (evicts : Bool) (elements : List ℕ) (rest : List Line) → NoWord word rest → NoWord word (marked_lines shape evicts elements ++ rest)
  marked_no_word true elements rest none = no_list.marked elements
  marked_no_word false elements rest none = none

  set_no_word : (common : Bool) (number : ℕ) (elements : List ℕ) → behind word (list_line (if common then lock_name Global else lock_name (CpuLru number)) (codes " active") elements) ≡ None
  set_no_word true number elements = no_list.global elements
  set_no_word false number elements = no_list.own number elements

  sets_no_word : (number : ℕ) (set : SetFinal) (more : List Line) → NoWord word more → NoWord word (named_set shape number set ++ more)
  unfolding set_lines
  sets_no_word number set more none = set_no_word shape.common number set.active

  group_lists : (a b c d e rest : List Line) → (a ++ (b ++ (c ++ (d ++ e)))) ++ rest ≡ a ++ (b ++ (c ++ (d ++ (e ++ rest))))
  group_lists a b c d e rest = simp append_assoc

  pub lists_no_word : (finals : Finals) (rest : List Line) → NoWord word rest → NoWord word (list_lines shape finals ++ rest)
  lists_no_word finals rest none =
      let e : List Line = marked_lines shape (is_lru shape.kind) finals.marked in
      subst (NoWord word) (sym (group_lists (numbered freelist_lines 0 finals.freelists) (numbered (spare_lines shape) 0 finals.spares) (numbered (named_set shape) 0 finals.sets) (numbered local_lines 0 finals.locals) (marked_lines shape (is_lru shape.kind) finals.marked) rest))
      (numbered_no_word word freelist_lines (λ cpu elements more _. no_list.freelist cpu elements) 0 finals.freelists _
      (numbered_no_word word (spare_lines shape) (λ cpu element more _. no_list.spare cpu element) 0 finals.spares _
      (numbered_no_word word (named_set shape) sets_no_word 0 finals.sets _
      (numbered_no_word word local_lines (λ cpu lists more _. no_list.local cpu lists.free) 0 finals.locals _
      (marked_no_word (is_lru shape.kind) finals.marked rest none)))))

  bucket_no_word : ((bucket : ℕ) (stored : Stored) → behind word (stored_line bucket stored) ≡ None) → (bucket : ℕ) (elements : List Stored) (more : List Line) → NoWord word more → NoWord word (bucket_lines bucket elements ++ more)
  bucket_no_word no_stored bucket [] more none = none
  bucket_no_word no_stored bucket (stored ∷ elements) more none = no_stored bucket stored

  pub finals_no_word : ((bucket : ℕ) (stored : Stored) → behind word (stored_line bucket stored) ≡ None) → (finals : Finals) (rest : List Line) → NoWord word rest → NoWord word (finals_lines shape finals ++ rest)
  finals_no_word no_stored finals rest none =
      subst (NoWord word) (sym (append_assoc (numbered bucket_lines 0 finals.buckets) (list_lines shape finals) rest))
      (numbered_no_word word bucket_lines (bucket_no_word no_stored) 0 finals.buckets (list_lines shape finals ++ rest) (lists_no_word finals rest none))

pub bucket_no_list : BeginsNoList (codes "bucket")
unfolding behind
bucket_no_list = record { freelist = λ c e. refl; spare = λ c e. refl; global = λ e. refl; own = λ c e. refl; local = λ c e. refl; marked = λ e. refl }

pub strand_no_list : BeginsNoList (codes "strand ")
unfolding behind
strand_no_list = record { freelist = λ c e. refl; spare = λ c e. refl; global = λ e. refl; own = λ c e. refl; local = λ c e. refl; marked = λ e. refl }

pub strand_no_bucket : (bucket : ℕ) (stored : Stored) → behind (codes "strand ") (stored_line bucket stored) ≡ None
unfolding behind
strand_no_bucket bucket stored = refl

pub lock_no_list : BeginsNoList (codes "lock ")
unfolding behind
lock_no_list = record { freelist = λ c e. refl; spare = λ c e. refl; global = λ e. refl; own = λ c e. refl; local = λ c e. refl; marked = λ e. refl }

pub lock_no_bucket : (bucket : ℕ) (stored : Stored) → behind (codes "lock ") (stored_line bucket stored) ≡ None
unfolding behind
lock_no_bucket bucket stored = refl

-- ---- the same lines as they are printed

module _ (shape : Shape) where
  no_item : {A : Type 0} (items : List A) → length items ≡ 0 → items ≡ []
  no_item [] is = refl
  no_item (a ∷ items) is = absurd (omega arith)

  numbered_flat : {A : Type 0} (print : A → List Line) (first : ℕ) (items : List A) → numbered (λ _ a. print a) first items ≡ flat_map print items
  numbered_flat print first [] = refl
  numbered_flat print first (a ∷ items) = ap (λ l. print a ++ l) (numbered_flat print (first + 1) items)

  no_spares : (kind : MapKind) → is_lru kind ≡ true → has_spares kind ≡ false
  no_spares Hash is = absurd (cc)
  no_spares PercpuHash is = absurd (cc)
  no_spares LruHash is = refl
  no_spares LruPercpuHash is = refl

  -- by whether a map evicts, and whether its CPUs share lists
  abbrev lists_by : Bool → Bool → Finals → List Line
  lists_by evicts common finals =
      numbered freelist_lines 0 finals.freelists ++ (numbered (λ cpu element. spare_line cpu element ∷ []) 0 finals.spares
      ++ (numbered (λ number set. set_lines (if common then lock_name Global else lock_name (CpuLru number)) set) 0 finals.sets ++ (numbered local_lines 0 finals.locals ++ (if evicts then marked_line finals.marked ∷ [] else []))))

  same_plain : (common : Bool) (finals : Finals) → finals.sets ≡ [] → finals.locals ≡ [] → lists_by false common finals ≡ plain_lines finals
  same_plain common finals no_sets no_locals = rw (no_sets, no_locals) (ap (λ (l : List Line). numbered freelist_lines 0 finals.freelists ++ l) (append-nil (numbered (λ cpu element. spare_line cpu element ∷ []) 0 finals.spares)))

  same_common : (finals : Finals) → finals.freelists ≡ [] → finals.spares ≡ [] → lists_by true true finals ≡ evicting_lines true finals
  same_common finals no_freelists no_spares =
      rw (no_freelists, no_spares) (ap (λ l. l ++ (numbered local_lines 0 finals.locals ++ marked_line finals.marked ∷ [])) (numbered_flat (set_lines (lock_name Global)) 0 finals.sets)
      ∙ sym (append_assoc (flat_map (set_lines (lock_name Global)) finals.sets) (numbered local_lines 0 finals.locals) (marked_line finals.marked ∷ [])))

  same_own : (finals : Finals) → finals.freelists ≡ [] → finals.spares ≡ [] → finals.locals ≡ [] → lists_by true false finals ≡ evicting_lines false finals
  same_own finals no_freelists no_spares no_locals = rw (no_freelists, no_spares, no_locals) refl

  same_lists : (evicts common : Bool) (finals : Finals) → (evicts ≡ true → finals.spares ≡ []) → length finals.freelists ≡ (if evicts then 0 else shape.cpus) → length finals.sets ≡ (if evicts then (if common then 1 else shape.cpus) else 0)
      → length finals.locals ≡ (if evicts then (if common then shape.cpus else 0) else 0) → (if evicts then evicting_lines common finals else plain_lines finals) ≡ lists_by evicts common finals
  same_lists false common finals spares freelists sets locals = sym (same_plain common finals (no_item finals.sets sets) (no_item finals.locals locals))
  same_lists true true finals spares freelists sets locals = sym (same_common finals (no_item finals.freelists freelists) (spares refl))
  same_lists true false finals spares freelists sets locals = sym (same_own finals (no_item finals.freelists freelists) (spares refl) (no_item finals.locals locals))

  pub same_dump : (finals : Finals) → FinalsFit shape finals → dump_lines shape finals ≡ finals_lines shape finals
  same_dump finals fits =
      ap (λ l. numbered bucket_lines 0 finals.buckets ++ l)
      (same_lists (is_lru shape.kind) shape.common finals (λ is. no_item finals.spares (fits.spares.1 ∙ ap (λ (b : Bool). if b then shape.cpus else 0) (no_spares shape.kind is))) fits.freelists.1 fits.sets.1 fits.locals.1)
