-- The laws of sections that are numbered, and of lines that one section reads to their end.
use Rattle.std.proofs.Common.{◌≡◌, ℕ, zero, suc, ◌+◌, List, [], ◌∷◌, ◌++◌, None, Ok, Err, subst, refl, sym, ap, ◌∙◌, arith}
use Rattle.std.specs.List.{range_with_len}
use Rattle.std.proofs.lemmas.List.{append-nil}
use Rattle.map_report.specs.Words.{numbered}
use Rattle.record_reading.specs.Readers.{behind}
use Rattle.record_reading.specs.Sections.{Line, Section, for_each}
use Rattle.record_shape.specs.WellShaped.{SoManyFit}
use Rattle.record_reading.proofs.SectionLaws.{Stuck, Tells, NoStop, from_ok}
use Rattle.record_reading.proofs.MadeLaws.{each_print, EachFits, EachStops, each_tells}

-- lines of which the first doesn't begin with a word
abbrev pub NoWord : List ℕ → List Line → Type 0
NoWord word [] = Unit {0}
NoWord word (line ∷ rest) = behind word line ≡ None

-- the same said in another way
module _ {A : Type 0} {print : A → List Line} {Fits : A → Type 0} {Stops : A → List Line → Type 0} {read : Section A} (tells : Tells print Fits Stops read)
    (print_other : A → List Line) (FitsOther : A → Type 0) (StopsOther : A → List Line → Type 0)
    (to : (a : A) → Fits a → FitsOther a) (from : (a : A) → FitsOther a → Fits a) (same : (a : A) → Fits a → print_other a ≡ print a)
    (stops_to : (a : A) (rest : List Line) → Fits a → Stops a rest → StopsOther a rest) (stops_from : (a : A) (rest : List Line) → Fits a → StopsOther a rest → Stops a rest) where
  same_stuck : (lines rest : List Line) → Stuck print Fits Stops lines rest → Stuck print_other FitsOther StopsOther lines rest
  same_stuck lines rest at = record {
    before = at.before;
    lines_are = at.lines_are;
    kept = at.kept;
    later = at.later;
    fits = to at.kept at.fits;
    begins = same at.kept at.fits ∙ at.begins;
    never = λ line left e a other behind fits stops is.
        at.never line left e a other behind (from a fits) (stops_from a other (from a fits) stops) (ap (λ l. l ++ other) (sym (same a (from a fits))) ∙ is);
  }

  pub same_tells : Tells print_other FitsOther StopsOther read
  same_tells = record {
    back = λ a rest fits stops. ap (λ l. read (l ++ rest)) (same a (from a fits)) ∙ tells.back a rest (from a fits) (stops_from a rest (from a fits) stops);
    right = λ lines a rest h. let law = tells.right lines a rest h in (law.0 ∙ ap (λ l. l ++ rest) (sym (same a law.1)), to a law.1, stops_to a rest law.1 law.2);
    stuck = λ lines rest h. same_stuck lines rest (tells.stuck lines rest h);
    heads = λ a line left other fits stops. stops_to a (line ∷ other) (from a fits) (tells.heads a line left other (from a fits) (stops_from a (line ∷ left) (from a fits) stops));
    some = (tells.some.0, to tells.some.0 tells.some.1);
  }

-- ---- numbered sections

module _ {A : Type 0} (print : ℕ → A → List Line) (Fits : A → Type 0) (Stops : ℕ → A → List Line → Type 0) where
  abbrev pub NumberedFits : ℕ → ℕ → List A → Type 0
  NumberedFits first count items = EachFits print (λ _. Fits) Stops (range_with_len first count) items

  abbrev pub NumberedStops : ℕ → ℕ → List A → List Line → Type 0
  NumberedStops first count items rest = EachStops print (λ _. Fits) Stops (range_with_len first count) items rest

  each_many : (first count : ℕ) (items : List A) → NumberedFits first count items → SoManyFit count Fits items
  each_many first zero [] fits = (tt, refl)
  each_many first zero (a ∷ items) fits = absurd fits
  each_many first (suc count) [] fits = absurd fits
  each_many first (suc count) (a ∷ items) fits = let more = each_many (first + 1) count items fits.1 in ((fits.0, more.0), omega (arith, more.1))

  many_each : (first count : ℕ) (items : List A) → SoManyFit count Fits items → NumberedFits first count items
  many_each first zero [] fits = tt
  many_each first zero (a ∷ items) fits = absurd (omega (arith, fits.1))
  many_each first (suc count) [] fits = absurd (omega (arith, fits.1))
  many_each first (suc count) (a ∷ items) fits = (fits.0.0, many_each (first + 1) count items (fits.0.1, omega (arith, fits.1)))

  numbered_is : (first count : ℕ) (items : List A) → NumberedFits first count items → numbered print first items ≡ each_print print (λ _. Fits) Stops (range_with_len first count) items
  numbered_is first zero [] fits = refl
  numbered_is first zero (a ∷ items) fits = absurd fits
  numbered_is first (suc count) [] fits = absurd fits
  numbered_is first (suc count) (a ∷ items) fits = ap (λ l. print first a ++ l) (numbered_is (first + 1) count items fits.1)

  pub numbered_tells : {read : ℕ → Section A} → ((n : ℕ) → Tells (print n) Fits (Stops n) (read n)) → (first count : ℕ) → Tells (numbered print first) (SoManyFit count Fits) (NumberedStops first count) (for_each read (range_with_len first count))
  numbered_tells tells first count =
      same_tells (each_tells print (λ _. Fits) Stops tells (range_with_len first count)) (numbered print first) (SoManyFit count Fits) (NumberedStops first count)
      (each_many first count) (many_each first count) (numbered_is first count) (λ items rest fits stops. stops) (λ items rest fits stops. stops)

-- ---- lines to their end

module _ {A : Type 0} {print : A → List Line} {Fits : A → Type 0} {Stops : A → List Line → Type 0} {read : Section A} (tells : Tells print Fits Stops read) (stop : (a : A) → Fits a → Stops a []) where
  pub reads_whole : (a : A) → Fits a → read (print a) ≡ Ok (a, [])
  reads_whole a fits = ap read (sym (append-nil (print a))) ∙ tells.back a [] fits (stop a fits)

  -- the lines before the one that fails begin some text, and with it none
  pub record FailsAt (lines rest : List Line) : Type 0 where
    pub before : List Line
    pub lines_are : lines ≡ before ++ rest
    pub kept : A
    pub later : List Line
    pub fits : Fits kept
    pub begins : print kept ≡ before ++ later
    pub never : (line : Line) (left : List Line) → rest ≡ line ∷ left → (a : A) (behind : List Line) → Fits a → print a ≡ before ++ line ∷ behind → ⊥

  pub fails_in : (lines rest : List Line) → read lines ≡ Err rest → FailsAt lines rest
  fails_in lines rest h =
      let at = tells.stuck lines rest h in
      record {
        before = at.before;
        lines_are = at.lines_are;
        kept = at.kept;
        later = at.later;
        fits = at.fits;
        begins = at.begins;
        never = λ line left e a behind fits is. at.never line left e a [] behind fits (stop a fits) (append-nil (print a) ∙ is);
      }

  -- a line behind the end
  pub fails_behind : (lines : List Line) (a : A) (line : Line) (rest : List Line) → read lines ≡ Ok (a, line ∷ rest) → FailsAt lines (line ∷ rest)
  fails_behind lines a line rest h =
      let law = tells.right lines a (line ∷ rest) h in
      record {
        before = print a;
        lines_are = law.0;
        kept = a;
        later = [];
        fits = law.1;
        begins = sym (append-nil (print a));
        never = λ next left e b behind fits is.
            let there : Stops a (next ∷ left) = subst (Stops a) e law.2 in
            let one = tells.back a (next ∷ behind) law.1 (tells.heads a next left behind law.1 there) in
            let two = reads_whole b fits in
            let same = from_ok (b, []) (a, next ∷ behind) (sym two ∙ ap read is ∙ one) in
            not_more next behind (ap (λ (p : A × List Line). p.1) same);
      }
    where
      not_more : (next : Line) (behind : List Line) → ◌≡◌ {A = List Line} [] (next ∷ behind) → ⊥
      not_more next behind e = absurd (cc)

-- ---- sections behind which anything may stand

no_stops : {A : Type 0} (print : ℕ → A → List Line) (Fits : A → Type 0) (first count : ℕ) (items : List A) (rest : List Line) → NumberedStops print Fits (λ _. NoStop) first count items rest
no_stops print Fits first zero items rest = tt
no_stops print Fits first (suc count) [] rest = tt
no_stops print Fits first (suc count) (a ∷ items) rest = (tt, no_stops print Fits (first + 1) count items rest)

pub numbered_plain : {A : Type 0} (print : ℕ → A → List Line) (Fits : A → Type 0) {read : ℕ → Section A} → ((n : ℕ) → Tells (print n) Fits NoStop (read n)) → (first count : ℕ) → Tells (numbered print first) (SoManyFit count Fits) NoStop (for_each read (range_with_len first count))
numbered_plain print Fits tells first count =
    same_tells (numbered_tells print Fits (λ _. NoStop) tells first count) (numbered print first) (SoManyFit count Fits) NoStop (λ items fits. fits) (λ items fits. fits) (λ items fits. refl)
    (λ items rest fits stops. tt) (λ items rest fits stops. no_stops print Fits first count items rest)
