-- The laws of the histories of locks.
use Rattle.std.proofs.Common.{◌≡◌, ℕ, ◌≤◌, ◌<◌, ◌^◌, ◌&&◌, ◌==◌, nat_le, Bool, true, false, List, [], ◌∷◌, ◌++◌, length, map, Option, Some, None, subst, refl, sym, ap, ◌∙◌, arith, append_assoc}
use Rattle.std.specs.Prelude.{codes}
use Rattle.std.specs.List.{flat_map}
use Rattle.std.proofs.lemmas.Bool.{and_parts, and_from, cond-true, cond-false, leb-true, le-leb, ne_eqb}
use Rattle.map_types.specs.declared.attr.Shape.{Shape}
use Rattle.map_types.specs.declared.kind.DomainId.{DomainId}
use Rattle.map_types.specs.declared.kind.DomainId.TheVariants.{Local, Global, CpuLru, Bucket, Freelist}
use Rattle.place_words.specs.declared.bucket_part.BucketPart.TheVariants as bucket_parts
use Rattle.place_words.specs.declared.free_part.FreePart.TheVariants as free_parts
use Rattle.place_words.specs.declared.history.Entry.{Entry}
use Rattle.place_words.specs.declared.history.LockHistory.{LockHistory}
use Rattle.place_words.specs.declared.history.Part.{Part}
use Rattle.place_words.specs.declared.history.Part.TheVariants as parts
use Rattle.place_words.specs.declared.list_part.GlobalPart.TheVariants as global
use Rattle.place_words.specs.declared.list_part.LocalPart.TheVariants as local
use Rattle.place_words.specs.declared.list_part.OwnPart.TheVariants as own
use Rattle.place_words.specs.Locks.{is_same_lock}
use Rattle.place_words.proofs.LockLemmas.{one_lock, same_lock}
use Rattle.map_report.specs.History.{entry_line, lock_lines}
use Rattle.map_report.specs.Words.{lock_name, number_text}
use Rattle.record_reading.specs.LineReaders.{entry, lock_head}
use Rattle.record_reading.specs.Readers.{behind, whole, AllFit}
use Rattle.record_reading.specs.RecordReaders.{history_head, history_of, history_section}
use Rattle.record_reading.specs.Sections.{Line, one_line, for_each, so_many}
use Rattle.record_shape.specs.WellShaped.{HistoryFits, lock_of}
use Rattle.record_shape.specs.ShapedParts.{EntryFits, LockFits, PartFits}
use Rattle.record_reading.proofs.SectionLaws.{ReadsLine, Tells, NoStop, line_tells}
use Rattle.record_reading.proofs.MadeLaws.{told_tells, each_print, EachFits, EachStops, each_tells, many_tells, NoHead, there_print, ThereFits, ThereStops, there_tells}
use Rattle.record_reading.proofs.LocksLaws.{Distinct}
use Rattle.record_reading.proofs.WholeLaws.{same_tells, NoWord}
use Rattle.record_reading.proofs.BucketLaws.{Small}
use Rattle.record_reading.proofs.Laws.{bound, if_some}
use Rattle.record_reading.proofs.LineLaws.{lock_head_text, lock_head_reads, entry_reads, whole_reads}

-- a part that each lock of a kind may have
some_part : DomainId → Part
some_part (Local _) = parts.Local (local.Refill 0 [] [] None)
some_part Global = parts.Global (global.Turn [] [] [] [] None)
some_part (CpuLru _) = parts.Own (own.Turn 0 [] [] None None)
some_part (Bucket _) = parts.Bucket (bucket_parts.First None)
some_part (Freelist _) = parts.Free free_parts.FoundEmpty

some_part_fits : (shape : Shape) (lock : DomainId) → PartFits shape lock (some_part lock)
unfolding some_part
some_part_fits shape (Local _) = (omega arith, (omega arith, tt), (omega arith, tt), tt)
some_part_fits shape Global = ((omega arith, tt), (omega arith, tt), (omega arith, tt), (omega arith, tt), tt)
some_part_fits shape (CpuLru _) = (omega arith, (omega arith, tt), (omega arith, tt), tt, tt)
some_part_fits shape (Bucket _) = tt
some_part_fits shape (Freelist _) = tt

abbrev some_entry : DomainId → Entry
some_entry lock = record { ticket = 0; cpu = 0; call = 1; part = some_part lock }

and_three : (a b c : Bool) → (a && (b && c)) ≡ true → (a ≡ true) × (b ≡ true) × (c ≡ true)
and_three a b c h = let one = and_parts a (b && c) h in let two = and_parts b c one.1 in (one.0, two.0, two.1)

head_same : (lock : DomainId) (n : ℕ) → lock_head_text (lock, n) ≡ codes "lock " ++ lock_name lock ++ number_text n
head_same lock n = sym (append_assoc (codes "lock ") (lock_name lock) (number_text n))

module _ (shape : Shape) (small : Small shape) (some_cpu : 1 ≤ shape.cpus) (calls : ℕ) (few : calls < 2 ^ 64) where
  abbrev pub head_line : DomainId → ℕ → Line
  head_line lock n = codes "lock " ++ lock_name lock ++ number_text n

  -- how many entries a lock may have in a line: at least one, and only where the script has a call
  pub record CountFits (lock : DomainId) (n : ℕ) : Type 0 where
    pub lock_fits : LockFits shape lock
    pub some : 1 ≤ n
    pub short : n < 2 ^ 64
    pub some_call : 1 ≤ calls

  head_reads : (lock : DomainId) → ReadsLine (head_line lock) (CountFits lock) (history_head shape calls lock)
  unfolding history_head
  head_reads lock = record { back = back; right = right }
    where
      law : ReadsLine lock_head_text (λ x. LockFits shape x.0 × (x.1 < 2 ^ 64)) (whole (lock_head shape))
      law = whole_reads (lock_head_reads shape small)

      back : (n : ℕ) → CountFits lock n → history_head shape calls lock (head_line lock n) ≡ Some n
      back n fits =
          let read : whole (lock_head shape) (head_line lock n) ≡ Some (lock, n) = ap (whole (lock_head shape)) (sym (head_same lock n)) ∙ law.back (lock, n) (fits.lock_fits, fits.short) in
          rw read (cond-true (is_same_lock lock lock && (nat_le 1 n && nat_le 1 calls)) (Some n) None (and_from (is_same_lock lock lock) (nat_le 1 n && nat_le 1 calls) (same_lock lock) (and_from (nat_le 1 n) (nat_le 1 calls) (le-leb 1 n fits.some) (le-leb 1 calls fits.some_call))))

      right : (line : Line) (n : ℕ) → history_head shape calls lock line ≡ Some n → (line ≡ head_line lock n) × CountFits lock n
      right line n h =
          let found = bound (whole (lock_head shape) line) _ n h in
          let is = if_some (is_same_lock found.0.0 lock && (nat_le 1 found.0.1 && nat_le 1 calls)) found.0.1 n found.2 in
          let all = and_three (is_same_lock found.0.0 lock) (nat_le 1 found.0.1) (nat_le 1 calls) is.0 in
          let told = law.right line found.0 found.1 in
          let e : found.0 ≡ (lock, n) = same_pair found.0 (one_lock found.0.0 lock all.0) is.1 in
          let line_is : line ≡ lock_head_text (lock, n) = told.0 ∙ ap lock_head_text e in
          let fits : LockFits shape lock × (n < 2 ^ 64) = subst (λ (x : DomainId × ℕ). LockFits shape x.0 × (x.1 < 2 ^ 64)) e told.1 in
          (line_is ∙ head_same lock n, record { lock_fits = fits.0; some = subst (λ (k : ℕ). 1 ≤ k) is.1 (leb-true 1 found.0.1 all.1); short = fits.1; some_call = leb-true 1 calls all.2 })
        where
          same_pair : (x : DomainId × ℕ) → x.0 ≡ lock → x.1 ≡ n → x ≡ (lock, n)
          same_pair x one two = λ i. (one i, two i)

  entry_lines : Entry → List Line
  entry_lines e = entry_line e ∷ []

  abbrev EntriesFit : DomainId → ℕ → List Entry → Type 0
  EntriesFit lock n entries = AllFit (EntryFits shape calls lock) entries × (length entries ≡ n)

  some_entry_fits : (lock : DomainId) → 1 ≤ calls → EntryFits shape calls lock (some_entry lock)
  some_entry_fits lock some_call = record { ticket = omega arith; cpu = omega (arith, some_cpu); some_call = omega arith; of_script = some_call; part = some_part_fits shape lock }

  entries_tell : (lock : DomainId) (n : ℕ) → CountFits lock n → Tells (flat_map entry_lines) (EntriesFit lock n) NoStop (so_many n (one_line (whole (entry shape calls lock))))
  unfolding entry_lines
  entries_tell lock n fits = many_tells (line_tells (whole_reads (entry_reads shape small calls lock few)) (some_entry lock, some_entry_fits lock fits.some_call)) n

  as_lines : (entries : List Entry) → map entry_line entries ≡ flat_map entry_lines entries
  unfolding entry_lines
  as_lines [] = refl
  as_lines (e ∷ entries) = ap (λ (l : List Line). entry_line e ∷ l) (as_lines entries)

  -- ---- the history of a lock, which the map has where there are entries

  abbrev pub EntriesAre : DomainId → List Entry → Type 0
  EntriesAre lock [] = Unit {0}
  EntriesAre lock (e ∷ entries) = LockFits shape lock × AllFit (EntryFits shape calls lock) (e ∷ entries) × (length (e ∷ entries) < 2 ^ 64)

  abbrev pub HistoryIs : DomainId → LockHistory → Type 0
  HistoryIs lock history = (history.lock ≡ lock) × EntriesAre lock history.entries

  abbrev pub EntriesStop : DomainId → List Entry → List Line → Type 0
  EntriesStop lock [] rest = NoHead (history_head shape calls lock) rest
  EntriesStop lock (e ∷ entries) rest = Unit {0}

  abbrev pub HistoryStops : DomainId → LockHistory → List Line → Type 0
  HistoryStops lock history rest = EntriesStop lock history.entries rest

  abbrev Read : Type 0
  Read = Option (ℕ × List Entry)

  abbrev ReadFits : DomainId → Read → Type 0
  ReadFits lock x = ThereFits (head_reads lock) (entries_tell lock) x

  abbrev ReadStops : DomainId → Read → List Line → Type 0
  ReadStops lock x rest = ThereStops (head_reads lock) (entries_tell lock) x rest

  covers_of : (lock other : DomainId) (entries : List Entry) → other ≡ lock → EntriesAre lock entries → (x : Read) × (history_of lock x ≡ record { lock = other; entries = entries }) × ReadFits lock x
  covers_of lock other [] is fits = (None, ap (λ (l : DomainId). record { lock = l; entries = [] }) (sym is), tt)
  covers_of lock other (e ∷ entries) is fits =
      let entry_fits = fits.1.0 in (
        Some (length (e ∷ entries), e ∷ entries),
        ap (λ (l : DomainId). record { lock = l; entries = e ∷ entries }) (sym is),
        (record { lock_fits = fits.0; some = omega arith; short = fits.2; some_call = omega (arith, entry_fits.some_call, entry_fits.of_script) }, (fits.1, refl)),
      )

  covers : (lock : DomainId) (history : LockHistory) → HistoryIs lock history → (x : Read) × (history_of lock x ≡ history) × ReadFits lock x
  covers lock history fits = covers_of lock history.lock history.entries fits.0 fits.1

  some_there : (lock : DomainId) (n : ℕ) (entries : List Entry) → length entries ≡ n → 1 ≤ n → lock_lines (record { lock = lock; entries = entries }) ≡ head_line lock n ∷ flat_map entry_lines entries
  some_there lock n [] is some = absurd (omega (arith, is, some))
  some_there lock n (e ∷ entries) is some =
      let lines : List Line = map entry_line (e ∷ entries) in
      cond-false (length (e ∷ entries) == 0) [] (head_line lock (length (e ∷ entries)) ∷ lines) (ne_eqb (length (e ∷ entries)) 0 (λ same. omega arith))
      ∙ ap (λ (k : ℕ). head_line lock k ∷ lines) is ∙ ap (λ (l : List Line). head_line lock n ∷ l) (as_lines (e ∷ entries))

  history_prints : (lock : DomainId) (x : Read) → ReadFits lock x → lock_lines (history_of lock x) ≡ there_print (head_reads lock) (entries_tell lock) x
  history_prints lock None fits = refl
  history_prints lock (Some x) fits = some_there lock x.0 x.1 fits.1.1 fits.0.some

  entries_are : (lock : DomainId) (n : ℕ) (entries : List Entry) → CountFits lock n → EntriesFit lock n entries → EntriesAre lock entries
  entries_are lock n [] count fits = tt
  entries_are lock n (e ∷ entries) count fits = (count.lock_fits, fits.0, omega (arith, count.short, fits.1))

  history_is : (lock : DomainId) (x : Read) → ReadFits lock x → HistoryIs lock (history_of lock x)
  history_is lock None fits = (refl, tt)
  history_is lock (Some x) fits = (refl, entries_are lock x.0 x.1 fits.0 fits.1)

  some_stops : (lock : DomainId) (n : ℕ) (entries : List Entry) (rest : List Line) → length entries ≡ n → 1 ≤ n → EntriesStop lock entries rest
  some_stops lock n [] rest is some = absurd (omega (arith, is, some))
  some_stops lock n (e ∷ entries) rest is some = tt

  stops_made : (lock : DomainId) (x : Read) (rest : List Line) → ReadFits lock x → ReadStops lock x rest → HistoryStops lock (history_of lock x) rest
  stops_made lock None rest fits stops = stops
  stops_made lock (Some x) rest fits stops = some_stops lock x.0 x.1 rest fits.1.1 fits.0.some

  stops_part : (lock : DomainId) (x : Read) (rest : List Line) → ReadFits lock x → HistoryStops lock (history_of lock x) rest → ReadStops lock x rest
  stops_part lock None rest fits stops = stops
  stops_part lock (Some x) rest fits stops = tt

  pub history_tells : (lock : DomainId) → Tells lock_lines (HistoryIs lock) (HistoryStops lock) (history_section shape calls lock)
  history_tells lock =
      told_tells (there_tells (head_reads lock) (entries_tell lock)) (history_of lock) lock_lines (HistoryIs lock) (HistoryStops lock)
      (covers lock) (history_prints lock) (history_is lock) (stops_made lock) (stops_part lock)

  -- ---- all locks

  abbrev pub HistoriesAre : List DomainId → List LockHistory → Type 0
  HistoriesAre locks histories = EachFits (λ _. lock_lines) HistoryIs HistoryStops locks histories

  abbrev pub HistoriesStop : List DomainId → List LockHistory → List Line → Type 0
  HistoriesStop locks histories rest = EachStops (λ _. lock_lines) HistoryIs HistoryStops locks histories rest

  histories_print : (locks : List DomainId) (histories : List LockHistory) → HistoriesAre locks histories → flat_map lock_lines histories ≡ each_print (λ _. lock_lines) HistoryIs HistoryStops locks histories
  histories_print [] [] fits = refl
  histories_print [] (h ∷ histories) fits = absurd fits
  histories_print (lock ∷ locks) [] fits = absurd fits
  histories_print (lock ∷ locks) (h ∷ histories) fits = ap (λ l. lock_lines h ++ l) (histories_print locks histories fits.1)

  pub histories_tell : (locks : List DomainId) → Tells (flat_map lock_lines) (HistoriesAre locks) (HistoriesStop locks) (for_each (history_section shape calls) locks)
  histories_tell locks =
      same_tells (each_tells (λ _. lock_lines) HistoryIs HistoryStops history_tells locks) (flat_map lock_lines) (HistoriesAre locks) (HistoriesStop locks)
      (λ histories fits. fits) (λ histories fits. fits) (histories_print locks) (λ histories rest fits stops. stops) (λ histories rest fits stops. stops)

  -- what the definition says of them is the same, where each lock is one of the map's
  pub are_to : (locks : List DomainId) (histories : List LockHistory) → HistoriesAre locks histories → (map lock_of histories ≡ locks) × AllFit (HistoryFits shape calls) histories
  are_to [] [] fits = (refl, tt)
  are_to [] (h ∷ histories) fits = absurd fits
  are_to (lock ∷ locks) [] fits = absurd fits
  are_to (lock ∷ locks) (h ∷ histories) fits =
      let more = are_to locks histories fits.1 in
      ((λ i. fits.0.0 i ∷ more.0 i), (one_fits h.entries fits.0.0 fits.0.1, more.1))
    where
      one_fits : (entries : List Entry) → h.lock ≡ lock → EntriesAre lock entries → HistoryFits shape calls (record { lock = h.lock; entries = entries })
      one_fits [] is are = record { entries = tt; counted = omega arith }
      one_fits (e ∷ entries) is are = record { entries = subst (λ (l : DomainId). AllFit (EntryFits shape calls l) (e ∷ entries)) (sym is) are.1; counted = are.2 }

  pub are_from : (locks : List DomainId) (histories : List LockHistory) → AllFit (LockFits shape) locks → map lock_of histories ≡ locks → AllFit (HistoryFits shape calls) histories → HistoriesAre locks histories
  are_from [] [] names is fits = tt
  are_from [] (h ∷ histories) names is fits = absurd (cc)
  are_from (lock ∷ locks) [] names is fits = absurd (cc)
  are_from (lock ∷ locks) (h ∷ histories) names is fits =
      let same : h.lock ≡ lock = first_same h.lock lock (map lock_of histories) locks is in
      let more : map lock_of histories ≡ locks = more_same h.lock lock (map lock_of histories) locks is in
      ((same, one_is h.entries same fits.0), are_from locks histories names.1 more fits.1)
    where
      first_same : (a b : DomainId) (xs ys : List DomainId) → ◌≡◌ {A = List DomainId} (a ∷ xs) (b ∷ ys) → a ≡ b
      first_same a b xs ys e = cc

      more_same : (a b : DomainId) (xs ys : List DomainId) → ◌≡◌ {A = List DomainId} (a ∷ xs) (b ∷ ys) → xs ≡ ys
      more_same a b xs ys e = cc

      one_is : (entries : List Entry) → h.lock ≡ lock → HistoryFits shape calls (record { lock = h.lock; entries = entries }) → EntriesAre lock entries
      one_is [] is fits = tt
      one_is (e ∷ entries) is fits = (names.0, subst (λ (l : DomainId). AllFit (EntryFits shape calls l) (e ∷ entries)) is fits.entries, fits.counted)

  -- ---- what stands behind them

  no_word : (lock : DomainId) (line : Line) → behind (codes "lock ") line ≡ None → history_head shape calls lock line ≡ None
  unfolding history_head lock_head
  no_word lock line none = rw none refl

  no_lock : (lock : DomainId) (rest : List Line) → NoWord (codes "lock ") rest → NoHead (history_head shape calls lock) rest
  no_lock lock [] none = tt
  no_lock lock (line ∷ rest) none = no_word lock line none

  other_head : (lock other : DomainId) (n : ℕ) → is_same_lock other lock ≡ false → LockFits shape other → n < 2 ^ 64 → history_head shape calls lock (head_line other n) ≡ None
  unfolding history_head
  other_head lock other n apart fits short =
      let read : whole (lock_head shape) (head_line other n) ≡ Some (other, n) = ap (whole (lock_head shape)) (sym (head_same other n)) ∙ (whole_reads (lock_head_reads shape small)).back (other, n) (fits, short) in
      rw (read, apart) refl

  abbrev all_lines : List DomainId → List LockHistory → List Line
  all_lines locks histories = each_print (λ _. lock_lines) HistoryIs HistoryStops locks histories

  at_first : (lock other : DomainId) (locks : List DomainId) (histories : List LockHistory) (rest : List Line) (entries : List Entry) (l : DomainId) → is_same_lock other lock ≡ false → l ≡ other → EntriesAre other entries → NoHead (history_head shape calls lock) (all_lines locks histories ++ rest)
      → NoHead (history_head shape calls lock) ((lock_lines (record { lock = l; entries = entries }) ++ all_lines locks histories) ++ rest)
  at_first lock other locks histories rest [] l apart is are later = later
  at_first lock other locks histories rest (e ∷ entries) l apart is are later =
      let lines : lock_lines (record { lock = l; entries = e ∷ entries }) ≡ head_line l (length (e ∷ entries)) ∷ flat_map entry_lines (e ∷ entries) = some_there l (length (e ∷ entries)) (e ∷ entries) refl (omega arith) in
      subst (λ (k : List Line). NoHead (history_head shape calls lock) ((k ++ all_lines locks histories) ++ rest)) (sym lines)
      (ap (λ (k : DomainId). history_head shape calls lock (head_line k (length (e ∷ entries)))) is ∙ other_head lock other (length (e ∷ entries)) apart are.0 are.2)

  -- what comes behind a lock without entries is the line of another lock, or of none
  stops_before : (lock : DomainId) (locks : List DomainId) (histories : List LockHistory) (rest : List Line) → AllFit (λ other. is_same_lock other lock ≡ false) locks → HistoriesAre locks histories → NoWord (codes "lock ") rest
      → NoHead (history_head shape calls lock) (each_print (λ _. lock_lines) HistoryIs HistoryStops locks histories ++ rest)
  stops_before lock [] [] rest apart fits none = no_lock lock rest none
  stops_before lock [] (h ∷ histories) rest apart fits none = absurd fits
  stops_before lock (other ∷ locks) [] rest apart fits none = absurd fits
  stops_before lock (other ∷ locks) (h ∷ histories) rest apart fits none =
      at_first lock other locks histories rest h.entries h.lock apart.0 fits.0.0 fits.0.1 (stops_before lock locks histories rest apart.1 fits.1 none)

  pub histories_stop : (locks : List DomainId) (histories : List LockHistory) (rest : List Line) → Distinct locks → HistoriesAre locks histories → NoWord (codes "lock ") rest → HistoriesStop locks histories rest
  histories_stop [] histories rest distinct fits none = tt
  histories_stop (lock ∷ locks) [] rest distinct fits none = absurd fits
  histories_stop (lock ∷ locks) (h ∷ histories) rest distinct fits none = (by h.entries, histories_stop locks histories rest distinct.1 fits.1 none)
    where
      by : (entries : List Entry) → EntriesStop lock entries (each_print (λ _. lock_lines) HistoryIs HistoryStops locks histories ++ rest)
      by [] = stops_before lock locks histories rest distinct.0 fits.1 none
      by (e ∷ entries) = tt
