-- The laws of any number of sections, each known by its first line.
use Rattle.std.proofs.Common.{◌≡◌, ℕ, zero, suc, ◌≤◌, ◌+◌, List, [], ◌∷◌, ◌++◌, length, Option, Some, None, Ok, Err, subst, refl, sym, ap, ◌∙◌, arith, append_assoc, length-append}
use Rattle.record_reading.specs.Sections.{Line, Section, next_ones, joined_on, at_most, any_number}
use Rattle.record_reading.proofs.SectionLaws.{Stuck, Tells, NoStop, no_line_tells, ReadsLine, next_tells}
use Rattle.record_reading.proofs.MadeLaws.{told_tells, NoHead, ThereFits, ThereStops, there_tells}

module _ {S H B : Type 0} {print_head : S → H → Line} {FitsHead : S → H → Type 0} {head : S → Line → Option H} (heads : (s : S) → ReadsLine (print_head s) (FitsHead s) (head s))
    {print_body : H → B → List Line} {FitsBody : H → B → Type 0} {body : H → Section B} (bodies : (s : S) (h : H) → FitsHead s h → Tells (print_body h) (FitsBody h) NoStop (body h))
    (next : S → H → S) where
  abbrev Item : Type 0
  Item = H × B

  abbrev pub any_print : S → List Item → List Line
  any_print s [] = []
  any_print s (x ∷ items) = (print_head s x.0 ∷ print_body x.0 x.1) ++ any_print (next s x.0) items

  abbrev pub AnyFits : S → List Item → Type 0
  AnyFits s [] = Unit {0}
  AnyFits s (x ∷ items) = (FitsHead s x.0 × FitsBody x.0 x.1) × AnyFits (next s x.0) items

  abbrev pub AnyStops : S → List Item → List Line → Type 0
  AnyStops s [] rest = NoHead (head s) rest
  AnyStops s (x ∷ items) rest = AnyStops (next s x.0) items rest

  -- at most so many
  abbrev MostFit : ℕ → S → List Item → Type 0
  MostFit zero s [] = Unit {0}
  MostFit zero s (x ∷ items) = ⊥
  MostFit (suc most) s [] = Unit {0}
  MostFit (suc most) s (x ∷ items) = (FitsHead s x.0 × FitsBody x.0 x.1) × MostFit most (next s x.0) items

  abbrev MostStops : ℕ → S → List Item → List Line → Type 0
  MostStops zero s items rest = Unit {0}
  MostStops (suc most) s [] rest = NoHead (head s) rest
  MostStops (suc most) s (x ∷ items) rest = MostStops most (next s x.0) items rest

  -- ---- one, and then at most so many

  abbrev there : S → Option Item → List Line
  there s None = []
  there s (Some x) = print_head s x.0 ∷ print_body x.0 x.1

  abbrev state_behind : S → Option Item → S
  state_behind s None = s
  state_behind s (Some x) = next s x.0

  abbrev NextFits : ℕ → S → Option Item → List Item → Type 0
  NextFits most s None items = items ≡ []
  NextFits most s (Some x) items = MostFit most (next s x.0) items

  abbrev NextStops : ℕ → S → Option Item → List Item → List Line → Type 0
  NextStops most s None items rest = Unit {0}
  NextStops most s (Some x) items rest = MostStops most (next s x.0) items rest

  abbrev MostTells : ℕ → Type 0
  MostTells most = (s : S) → Tells (any_print s) (MostFit most s) (MostStops most s) (at_most most head body next s)

  nexts_tell : (most : ℕ) → MostTells most → (s : S) (found : Option Item) → Tells (any_print (state_behind s found)) (NextFits most s found) (NextStops most s found) (next_ones (at_most most head body next) next s found)
  nexts_tell most more s None = no_line_tells (any_print s) [] refl
  nexts_tell most more s (Some x) = more (next s x.0)

  zero_is : (s : S) (items : List Item) → MostFit zero s items → items ≡ []
  zero_is s [] fits = refl
  zero_is s (x ∷ items) fits = absurd fits

  zero_fits : (s : S) (items : List Item) → items ≡ [] → MostFit zero s items
  zero_fits s items is = subst (MostFit zero s) (sym is) tt

  zero_tells : MostTells zero
  zero_tells s =
      let law = no_line_tells (any_print s) [] refl in
      record {
        back = λ items rest fits stops. law.back items rest (zero_is s items fits) tt;
        right = λ lines items rest h. let told = law.right lines items rest h in (told.0, zero_fits s items told.1, tt);
        stuck = λ lines rest h. absurd (cc);
        heads = λ items line left other fits stops. tt;
        some = ([], tt);
      }

  module _ (most : ℕ) (s : S) where
    abbrev PairFits : Option Item × List Item → Type 0
    PairFits p = ThereFits (heads s) (bodies s) p.0 × NextFits most s p.0 p.1

    abbrev PairStops : Option Item × List Item → List Line → Type 0
    PairStops p rest = ThereStops (heads s) (bodies s) p.0 (any_print (state_behind s p.0) p.1 ++ rest) × NextStops most s p.0 p.1 rest

    pair_covers : (items : List Item) → MostFit (suc most) s items → (p : Option Item × List Item) × (joined_on p ≡ items) × PairFits p
    pair_covers [] fits = ((None, []), refl, (tt, refl))
    pair_covers (x ∷ items) fits = ((Some x, items), refl, fits)

    pair_print : (p : Option Item × List Item) → PairFits p → any_print s (joined_on p) ≡ there s p.0 ++ any_print (state_behind s p.0) p.1
    pair_print (None, more) fits = refl
    pair_print (Some x, more) fits = refl

    pair_fits : (p : Option Item × List Item) → PairFits p → MostFit (suc most) s (joined_on p)
    pair_fits (None, more) fits = subst (MostFit (suc most) s) (sym fits.1) tt
    pair_fits (Some x, more) fits = fits

    pair_stops : (p : Option Item × List Item) (rest : List Line) → PairFits p → PairStops p rest → MostStops (suc most) s (joined_on p) rest
    pair_stops (None, []) rest fits stops = stops.0
    pair_stops (None, x ∷ more) rest fits stops = absurd (cc (fits.1))
    pair_stops (Some x, more) rest fits stops = stops.1

    stops_pair : (p : Option Item × List Item) (rest : List Line) → PairFits p → MostStops (suc most) s (joined_on p) rest → PairStops p rest
    stops_pair (None, []) rest fits stops = (stops, tt)
    stops_pair (None, x ∷ more) rest fits stops = absurd (cc (fits.1))
    stops_pair (Some x, more) rest fits stops = (tt, stops)

  most_tells : (most : ℕ) → MostTells most
  most_tells zero = zero_tells
  most_tells (suc most) = λ s.
      told_tells (next_tells (there_tells (heads s) (bodies s)) (λ found _. nexts_tell most (most_tells most) s found)) joined_on (any_print s) (MostFit (suc most) s) (MostStops (suc most) s)
      (pair_covers most s) (pair_print most s) (pair_fits most s) (pair_stops most s) (stops_pair most s)

  -- ---- any number

  fit_any : (most : ℕ) (s : S) (items : List Item) → MostFit most s items → AnyFits s items
  fit_any zero s [] fits = tt
  fit_any zero s (x ∷ items) fits = absurd fits
  fit_any (suc most) s [] fits = tt
  fit_any (suc most) s (x ∷ items) fits = (fits.0, fit_any most (next s x.0) items fits.1)

  fit_most : (most : ℕ) (s : S) (items : List Item) → length items ≤ most → AnyFits s items → MostFit most s items
  fit_most zero s [] few fits = tt
  fit_most zero s (x ∷ items) few fits = absurd (omega arith)
  fit_most (suc most) s [] few fits = tt
  fit_most (suc most) s (x ∷ items) few fits = (fits.0, fit_most most (next s x.0) items (omega arith) fits.1)

  stops_most : (most : ℕ) (s : S) (items : List Item) (rest : List Line) → AnyStops s items rest → MostStops most s items rest
  stops_most zero s items rest stops = tt
  stops_most (suc most) s [] rest stops = stops
  stops_most (suc most) s (x ∷ items) rest stops = stops_most most (next s x.0) items rest stops

  few_items : (most : ℕ) (s : S) (items : List Item) → MostFit most s items → length items ≤ most
  few_items zero s [] fits = omega arith
  few_items zero s (x ∷ items) fits = absurd fits
  few_items (suc most) s [] fits = omega arith
  few_items (suc most) s (x ∷ items) fits = omega (arith, few_items most (next s x.0) items fits.1)

  few_lines : (s : S) (items : List Item) → length items ≤ length (any_print s items)
  few_lines s [] = omega arith
  few_lines s (x ∷ items) = omega (arith, few_lines (next s x.0) items, length-append (print_head s x.0 ∷ print_body x.0 x.1) (any_print (next s x.0) items))

  -- where there is room for one more, or no line is left
  stops_any : (most : ℕ) (s : S) (items : List Item) (rest : List Line) → length items + length rest ≤ most → MostStops most s items rest → AnyStops s items rest
  stops_any zero s [] [] few stops = tt
  stops_any zero s [] (line ∷ rest) few stops = absurd (omega arith)
  stops_any zero s (x ∷ items) rest few stops = absurd (omega arith)
  stops_any (suc most) s [] rest few stops = stops
  stops_any (suc most) s (x ∷ items) rest few stops = stops_any most (next s x.0) items rest (omega arith) stops

  -- the first ones of any number
  record Cut (most : ℕ) (s : S) (lines : List Line) : Type 0 where
    first : List Item
    left : List Line
    fits : MostFit most s first
    stops : MostStops most s first left
    are : lines ≡ any_print s first ++ left

  cut : (most : ℕ) (s : S) (items : List Item) (other : List Line) → AnyFits s items → AnyStops s items other → Cut most s (any_print s items ++ other)
  cut zero s items other fits stops = record { first = []; left = any_print s items ++ other; fits = tt; stops = tt; are = refl }
  cut (suc most) s [] other fits stops = record { first = []; left = other; fits = tt; stops = stops; are = refl }
  cut (suc most) s (x ∷ items) other fits stops =
      let more = cut most (next s x.0) items other fits.1 stops in
      let here = print_head s x.0 ∷ print_body x.0 x.1 in
      record {
        first = x ∷ more.first;
        left = more.left;
        fits = (fits.0, more.fits);
        stops = more.stops;
        are = append_assoc here (any_print (next s x.0) items) other ∙ ap (λ l. here ++ l) more.are ∙ sym (append_assoc here (any_print (next s x.0) more.first) more.left);
      }

  any_right : (s : S) (lines : List Line) (items : List Item) (rest : List Line) → any_number head body next s lines ≡ Ok (items, rest) → (lines ≡ any_print s items ++ rest) × AnyFits s items × AnyStops s items rest
  any_right s lines items rest h =
      let law = (most_tells (length lines) s).right lines items rest h in
      let long : length lines ≡ length (any_print s items) + length rest = ap length law.0 ∙ length-append (any_print s items) rest in
      (law.0, fit_any (length lines) s items law.1, stops_any (length lines) s items rest (omega (arith, long, few_lines s items)) law.2)

  any_stuck : (s : S) (lines rest : List Line) → any_number head body next s lines ≡ Err rest → Stuck (any_print s) (AnyFits s) (AnyStops s) lines rest
  any_stuck s lines rest h =
      let at = (most_tells (length lines) s).stuck lines rest h in
      record {
        before = at.before;
        lines_are = at.lines_are;
        kept = at.kept;
        later = at.later;
        fits = fit_any (length lines) s at.kept at.fits;
        begins = at.begins;
        never = λ line left e items other behind fits stops is.
            let part = cut (length lines) s items other fits stops in
            at.never line left e part.first part.left behind part.fits part.stops (sym part.are ∙ is);
      }

  any_heads : (s : S) (items : List Item) (line : Line) (left other : List Line) → AnyStops s items (line ∷ left) → AnyStops s items (line ∷ other)
  any_heads s [] line left other stops = stops
  any_heads s (x ∷ items) line left other stops = any_heads (next s x.0) items line left other stops

  pub any_tells : (s : S) → Tells (any_print s) (AnyFits s) (AnyStops s) (any_number head body next s)
  any_tells s = record {
    back = λ items rest fits stops.
        let most = length (any_print s items ++ rest) in
        (most_tells most s).back items rest (fit_most most s items (omega (arith, length-append (any_print s items) rest, few_lines s items)) fits) (stops_most most s items rest stops);
    right = any_right s;
    stuck = any_stuck s;
    heads = λ items line left other fits stops. any_heads s items line left other stops;
    some = ([], tt);
  }
