-- The laws of what is made of sections, and of sections one for each, so many, and where they are there.
use Rattle.std.proofs.Common.{◌≡◌, ℕ, zero, suc, inl, inr, List, [], ◌∷◌, ◌++◌, length, Option, Some, None, Ok, Err, subst, refl, sym, ap, ◌∙◌, arith}
use Rattle.std.specs.List.{flat_map}
use Rattle.record_reading.specs.Readers.{AllFit}
use Rattle.record_reading.specs.Sections.{Line, Section, go_on, told, cons, for_each, so_many, known_by, if_there}
use Rattle.record_reading.proofs.SectionLaws.{Stuck, Tells, NoStop, from_ok, went_on, failed_at, first_line, lines_behind, ReadsLine, next_tells}

-- ---- what is made of a section

module _ {A B : Type 0} {print : A → List Line} {Fits : A → Type 0} {Stops : A → List Line → Type 0} {read : Section A} (tells : Tells print Fits Stops read)
    (make : A → B) (print_made : B → List Line) (FitsMade : B → Type 0) (StopsMade : B → List Line → Type 0)
    (covers : (b : B) → FitsMade b → (a : A) × (make a ≡ b) × Fits a)
    (same_print : (a : A) → Fits a → print_made (make a) ≡ print a)
    (fits_made : (a : A) → Fits a → FitsMade (make a))
    (stops_made : (a : A) (rest : List Line) → Fits a → Stops a rest → StopsMade (make a) rest)
    (stops_part : (a : A) (rest : List Line) → Fits a → StopsMade (make a) rest → Stops a rest) where
  told_of : (a : A) (rest : List Line) → Fits a → StopsMade (make a) rest → told make read (print_made (make a) ++ rest) ≡ Ok (make a, rest)
  unfolding go_on
  told_of a rest fits stops = rw (same_print a fits, tells.back a rest fits (stops_part a rest fits stops)) refl

  told_back : (b : B) (rest : List Line) → FitsMade b → StopsMade b rest → told make read (print_made b ++ rest) ≡ Ok (b, rest)
  told_back b rest fits =
      let from = covers b fits in
      subst (λ (c : B). StopsMade c rest → told make read (print_made c ++ rest) ≡ Ok (c, rest)) from.1 (λ stops. told_of from.0 rest from.2 stops)

  told_right : (lines : List Line) (b : B) (rest : List Line) → told make read lines ≡ Ok (b, rest) → (lines ≡ print_made b ++ rest) × FitsMade b × StopsMade b rest
  told_right lines b rest h =
      let one = went_on (read lines) _ (b, rest) h in
      let same = from_ok (make one.0.0, one.0.1) (b, rest) one.2 in
      let law = tells.right lines one.0.0 one.0.1 one.1 in
      subst (λ (p : B × List Line). (lines ≡ print_made p.0 ++ p.1) × FitsMade p.0 × StopsMade p.0 p.1) same
      (law.0 ∙ ap (λ l. l ++ one.0.1) (sym (same_print one.0.0 law.1)), fits_made one.0.0 law.1, stops_made one.0.0 one.0.1 law.1 law.2)

  made_stuck : (lines rest : List Line) → Stuck print Fits Stops lines rest → Stuck print_made FitsMade StopsMade lines rest
  made_stuck lines rest at = record {
    before = at.before;
    lines_are = at.lines_are;
    kept = make at.kept;
    later = at.later;
    fits = fits_made at.kept at.fits;
    begins = same_print at.kept at.fits ∙ at.begins;
    never = λ line left e b other behind fits.
        let from = covers b fits in
        subst (λ (c : B). StopsMade c other → print_made c ++ other ≡ at.before ++ line ∷ behind → ⊥) from.1
        (λ stops is. at.never line left e from.0 other behind from.2 (stops_part from.0 other from.2 stops) (ap (λ l. l ++ other) (sym (same_print from.0 from.2)) ∙ is));
  }

  told_stuck : (lines rest : List Line) → told make read lines ≡ Err rest → Stuck print_made FitsMade StopsMade lines rest
  told_stuck lines rest h =
      elim (failed_at (read lines) _ rest h) [
        | inl fails ↦ made_stuck lines rest (tells.stuck lines rest fails)
        | inr one ↦ absurd (cc (one.2))
      ]

  pub told_tells : Tells print_made FitsMade StopsMade (told make read)
  told_tells = record {
    back = told_back;
    right = told_right;
    stuck = told_stuck;
    heads = λ b line left other fits.
        let from = covers b fits in
        subst (λ (c : B). StopsMade c (line ∷ left) → StopsMade c (line ∷ other)) from.1 (λ stops. stops_made from.0 (line ∷ other) from.2 (tells.heads from.0 line left other from.2 (stops_part from.0 (line ∷ left) from.2 stops)));
    some = (make tells.some.0, fits_made tells.some.0 tells.some.1);
  }

-- ---- one for each

module _ {X A : Type 0} (print : X → A → List Line) (Fits : X → A → Type 0) (Stops : X → A → List Line → Type 0) where
  abbrev pub each_print : List X → List A → List Line
  each_print [] items = []
  each_print (x ∷ more) [] = []
  each_print (x ∷ more) (a ∷ items) = print x a ++ each_print more items

  abbrev pub EachFits : List X → List A → Type 0
  EachFits [] [] = Unit {0}
  EachFits [] (a ∷ items) = ⊥
  EachFits (x ∷ more) [] = ⊥
  EachFits (x ∷ more) (a ∷ items) = Fits x a × EachFits more items

  abbrev pub EachStops : List X → List A → List Line → Type 0
  EachStops [] items rest = Unit {0}
  EachStops (x ∷ more) [] rest = Unit {0}
  EachStops (x ∷ more) (a ∷ items) rest = Stops x a (each_print more items ++ rest) × EachStops more items rest

  module _ {read : X → Section A} (tells : (x : X) → Tells (print x) (Fits x) (Stops x) (read x)) where
    none_covers : (items : List A) → EachFits [] items → (a : List A) × (a ≡ items) × (a ≡ [])
    none_covers [] fits = ([], refl, refl)
    none_covers (a ∷ items) fits = absurd fits

    each_covers : (x : X) (more : List X) (items : List A) → EachFits (x ∷ more) items → (p : A × List A) × (cons p ≡ items) × (Fits x p.0 × EachFits more p.1)
    each_covers x more [] fits = absurd fits
    each_covers x more (a ∷ items) fits = ((a, items), refl, fits)

    none_fits : (items : List A) → items ≡ [] → EachFits [] items
    none_fits items is = subst (EachFits []) (sym is) tt

    pub each_tells : (xs : List X) → Tells (each_print xs) (EachFits xs) (EachStops xs) (for_each read xs)
    each_tells [] = record {
      back = λ items rest fits stops. let from = none_covers items fits in ap (λ (l : List A). Ok (l, rest)) (sym from.2 ∙ from.1);
      right = λ lines items rest h. let e = from_ok ([], lines) (items, rest) h in (ap (λ (p : List A × List Line). p.1) e, none_fits items (ap (λ (p : List A × List Line). p.0) (sym e)), tt);
      stuck = λ lines rest h. absurd (cc);
      heads = λ items line left other fits stops. tt;
      some = ([], tt);
    }
    each_tells (x ∷ more) =
        told_tells (next_tells (tells x) (λ _ _. each_tells more)) cons (each_print (x ∷ more)) (EachFits (x ∷ more)) (EachStops (x ∷ more)) (each_covers x more) (λ p fits. refl) (λ p fits. fits)
        (λ p rest fits stops. stops) (λ p rest fits stops. stops)

-- ---- so many

module _ {A : Type 0} {print : A → List Line} {Fits : A → Type 0} {read : Section A} (tells : Tells print Fits NoStop read) where
  abbrev pub ManyFit : ℕ → List A → Type 0
  ManyFit count items = AllFit Fits items × (length items ≡ count)

  many_covers : (count : ℕ) (items : List A) → ManyFit (suc count) items → (p : A × List A) × (cons p ≡ items) × (Fits p.0 × ManyFit count p.1)
  many_covers count [] fits = absurd (omega (arith, fits.1))
  many_covers count (a ∷ items) fits = ((a, items), refl, (fits.0.0, (fits.0.1, omega (arith, fits.1))))

  none_are : (items : List A) → length items ≡ 0 → [] ≡ items
  none_are [] is = refl
  none_are (a ∷ items) is = absurd (omega arith)

  pub many_tells : (count : ℕ) → Tells (flat_map print) (ManyFit count) NoStop (so_many count read)
  many_tells zero = record {
    back = λ items rest fits stops. subst (λ (l : List A). so_many zero read (flat_map print l ++ rest) ≡ Ok (l, rest)) (none_are items fits.1) refl;
    right = λ lines items rest h.
        let e = from_ok ([], lines) (items, rest) h in
        subst (λ (p : List A × List Line). (lines ≡ flat_map print p.0 ++ p.1) × ManyFit zero p.0 × NoStop p.0 p.1) e (refl, (tt, refl), tt);
    stuck = λ lines rest h. absurd (cc);
    heads = λ items line left other fits stops. tt;
    some = ([], (tt, refl));
  }
  many_tells (suc count) =
      told_tells (next_tells tells (λ _ _. many_tells count)) cons (flat_map print) (ManyFit (suc count)) NoStop (many_covers count) (λ p fits. refl) (λ p fits. ((fits.0, fits.1.0), omega (arith, fits.1.1)))
      (λ p rest fits stops. tt) (λ p rest fits stops. (tt, tt))

-- ---- where it is there

-- a first line that isn't such a head
abbrev pub NoHead : {H : Type 0} → (Line → Option H) → List Line → Type 0
NoHead head [] = Unit {0}
NoHead head (line ∷ rest) = head line ≡ None

module _ {H B : Type 0} {print_head : H → Line} {FitsHead : H → Type 0} {head : Line → Option H} (heads : ReadsLine print_head FitsHead head)
    {print_body : H → B → List Line} {FitsBody : H → B → Type 0} {body : H → Section B} (bodies : (h : H) → FitsHead h → Tells (print_body h) (FitsBody h) NoStop (body h)) where
  abbrev pub there_print : Option (H × B) → List Line
  there_print None = []
  there_print (Some x) = print_head x.0 ∷ print_body x.0 x.1

  abbrev pub ThereFits : Option (H × B) → Type 0
  ThereFits None = Unit {0}
  ThereFits (Some x) = FitsHead x.0 × FitsBody x.0 x.1

  abbrev pub ThereStops : Option (H × B) → List Line → Type 0
  ThereStops None rest = NoHead head rest
  ThereStops (Some x) rest = Unit {0}

  there_back : (found : Option (H × B)) (rest : List Line) → ThereFits found → ThereStops found rest → if_there head body (there_print found ++ rest) ≡ Ok (found, rest)
  unfolding known_by go_on
  there_back None [] fits stops = refl
  there_back None (line ∷ rest) fits stops = rw stops refl
  there_back (Some x) rest fits stops = rw (heads.back x.0 fits.0, (bodies x.0 fits.0).back x.1 rest fits.1 tt) refl

  abbrev Told : List Line → Option (H × B) → List Line → Type 0
  Told lines found rest = (lines ≡ there_print found ++ rest) × ThereFits found × ThereStops found rest

  known_right : (o : Option H) (line : Line) (lines : List Line) → head line ≡ o → (found : Option (H × B)) (rest : List Line) → known_by o body line lines ≡ Ok (found, rest) → Told (line ∷ lines) found rest
  unfolding known_by
  known_right None line lines is found rest h =
      subst (λ (p : Option (H × B) × List Line). Told (line ∷ lines) p.0 p.1) (from_ok (None, line ∷ lines) (found, rest) h) (refl, tt, is)
  known_right (Some x) line lines is found rest h =
      let one = went_on (body x lines) _ (found, rest) h in
      let law = heads.right line x is in
      let more = (bodies x law.1).right lines one.0.0 one.0.1 one.1 in
      let e : ◌≡◌ {A = List Line} (line ∷ lines) ((print_head x ∷ print_body x one.0.0) ++ one.0.1) = ap (λ (l : Line). l ∷ lines) law.0 ∙ ap (λ (l : List Line). print_head x ∷ l) more.0 in
      subst (λ (p : Option (H × B) × List Line). Told (line ∷ lines) p.0 p.1) (from_ok (Some (x, one.0.0), one.0.1) (found, rest) one.2) (e, (law.1, more.1), tt)

  there_right : (lines : List Line) (found : Option (H × B)) (rest : List Line) → if_there head body lines ≡ Ok (found, rest) → Told lines found rest
  there_right [] found rest h = subst (λ (p : Option (H × B) × List Line). Told [] p.0 p.1) (from_ok (None, []) (found, rest) h) (refl, tt, tt)
  there_right (line ∷ lines) found rest h = known_right (head line) line lines refl found rest h

  abbrev StuckThere : List Line → List Line → Type 0
  StuckThere lines rest = Stuck there_print ThereFits ThereStops lines rest

  in_body : (x : H) (line : Line) (lines rest : List Line) → head line ≡ Some x → Stuck (print_body x) (FitsBody x) NoStop lines rest → StuckThere (line ∷ lines) rest
  in_body x line lines rest is at =
      let law = heads.right line x is in
      record {
        before = line ∷ at.before;
        lines_are = ap (λ (l : List Line). line ∷ l) at.lines_are;
        kept = Some (x, at.kept);
        later = at.later;
        fits = (law.1, at.fits);
        begins = ap (λ (l : List Line). print_head x ∷ l) at.begins ∙ ap (λ (l : Line). l ∷ (at.before ++ at.later)) (sym law.0);
        never = λ next left e found other behind. not_there next left e found other behind at;
      }
    where
      same_head : (y : H) → head line ≡ Some y → y ≡ x
      same_head y h = cc

      in_it : (y : H) → y ≡ x → (b : B) → FitsBody y b → (other whole : List Line) → print_body y b ++ other ≡ whole → (at : Stuck (print_body x) (FitsBody x) NoStop lines rest) → (next : Line) (left behind : List Line) → rest ≡ next ∷ left → whole ≡ at.before ++ next ∷ behind → ⊥
      in_it y same b fits other whole is at next left behind e whole_is =
          at.never next left e b other behind (subst (λ (z : H). FitsBody z b) same fits) tt (ap (λ (z : H). print_body z b ++ other) (sym same) ∙ is ∙ whole_is)

      not_there : (next : Line) (left : List Line) → rest ≡ next ∷ left → (found : Option (H × B)) (other behind : List Line) (at : Stuck (print_body x) (FitsBody x) NoStop lines rest) → ThereFits found → ThereStops found other → there_print found ++ other ≡ line ∷ (at.before ++ next ∷ behind) → ⊥
      not_there next left e None [] behind at fits stops same = absurd (cc)
      not_there next left e None (one ∷ other) behind at fits stops same = absurd (cc (sym stops ∙ ap head (first_line one line other (at.before ++ next ∷ behind) same) ∙ is))
      not_there next left e (Some y) other behind at fits stops same =
          let first = first_line (print_head y.0) line (print_body y.0 y.1 ++ other) (at.before ++ next ∷ behind) same in
          let later = lines_behind (print_head y.0) line (print_body y.0 y.1 ++ other) (at.before ++ next ∷ behind) same in
          in_it y.0 (same_head y.0 (ap head (sym first) ∙ heads.back y.0 fits.0)) y.1 fits.1 other (at.before ++ next ∷ behind) later at next left behind e refl

  known_stuck : (o : Option H) (line : Line) (lines rest : List Line) → head line ≡ o → known_by o body line lines ≡ Err rest → StuckThere (line ∷ lines) rest
  unfolding known_by
  known_stuck None line lines rest is h = absurd (cc)
  known_stuck (Some x) line lines rest is h =
      elim (failed_at (body x lines) _ rest h) [
        | inl fails ↦ in_body x line lines rest is ((bodies x (heads.right line x is).1).stuck lines rest fails)
        | inr one ↦ absurd (cc (one.2))
      ]

  there_stuck : (lines rest : List Line) → if_there head body lines ≡ Err rest → StuckThere lines rest
  there_stuck [] rest h = absurd (cc)
  there_stuck (line ∷ lines) rest h = known_stuck (head line) line lines rest refl h

  there_heads : (found : Option (H × B)) (line : Line) (left other : List Line) → ThereFits found → ThereStops found (line ∷ left) → ThereStops found (line ∷ other)
  there_heads None line left other fits stops = stops
  there_heads (Some x) line left other fits stops = tt

  pub there_tells : Tells there_print ThereFits ThereStops (if_there head body)
  there_tells = record { back = there_back; right = there_right; stuck = there_stuck; heads = there_heads; some = (None, tt) }
