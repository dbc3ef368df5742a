-- The laws of sections: what is read was printed, what was printed is read, and where reading fails, the lines before are the
-- beginning of a text, and with the line that fails of none.
use Rattle.std.proofs.Common.{◌≡◌, List, [], ◌∷◌, ◌++◌, ◌⊎◌, inl, inr, Option, Some, None, Result, Ok, Err, subst, refl, sym, ap, ◌∙◌, append_assoc}
use Rattle.record_reading.specs.Sections.{Line, Section, go_on, no_line, line_says, one_line, with_next}

-- where reading stopped
pub record Stuck {A : Type 0} (print : A → List Line) (Fits : A → Type 0) (Stops : A → List Line → Type 0) (lines rest : List Line) : Type 0 where
  pub before : List Line
  pub lines_are : lines ≡ before ++ rest
  -- some text begins with the lines before
  pub kept : A
  pub later : List Line
  pub fits : Fits kept
  pub begins : print kept ≡ before ++ later
  -- and none goes on with the next line
  pub never : (line : Line) (left : List Line) → rest ≡ line ∷ left → (a : A) (other behind : List Line) → Fits a → Stops a other → print a ++ other ≡ before ++ line ∷ behind → ⊥

pub record Tells {A : Type 0} (print : A → List Line) (Fits : A → Type 0) (Stops : A → List Line → Type 0) (read : Section A) : Type 0 where
  pub back : (a : A) (rest : List Line) → Fits a → Stops a rest → read (print a ++ rest) ≡ Ok (a, rest)
  pub right : (lines : List Line) (a : A) (rest : List Line) → read lines ≡ Ok (a, rest) → (lines ≡ print a ++ rest) × Fits a × Stops a rest
  pub stuck : (lines rest : List Line) → read lines ≡ Err rest → Stuck print Fits Stops lines rest
  -- what may stand behind is known by its first line
  pub heads : (a : A) (line : Line) (left other : List Line) → Fits a → Stops a (line ∷ left) → Stops a (line ∷ other)
  pub some : (a : A) × Fits a

abbrev pub NoStop : {A : Type 0} → A → List Line → Type 0
NoStop a rest = Unit {0}

-- ---- steps

pub from_ok : {A B : Type 0} (x y : A) → ◌≡◌ {A = Result A B} (Ok x) (Ok y) → x ≡ y
from_ok x y h = cc

pub from_err : {A B : Type 0} (x y : B) → ◌≡◌ {A = Result A B} (Err x) (Err y) → x ≡ y
from_err x y h = cc

abbrev Outcome : Type 0 → Type 0
Outcome A = Result (A × List Line) (List Line)

pub went_on : {A B : Type 0} (m : Outcome A) (next : A → Section B) (b : B × List Line) → go_on m next ≡ Ok b → (a : A × List Line) × (m ≡ Ok a) × (next a.0 a.1 ≡ Ok b)
unfolding go_on
went_on (Ok a) next b h = (a, refl, h)
went_on (Err rest) next b h = absurd (cc)

abbrev Failed : {A B : Type 0} → Outcome A → (A → Section B) → List Line → Type 0
Failed {A} m next rest = (m ≡ Err rest) ⊎ ((a : A × List Line) × (m ≡ Ok a) × (next a.0 a.1 ≡ Err rest))

pub failed_at : {A B : Type 0} (m : Outcome A) (next : A → Section B) (rest : List Line) → go_on m next ≡ Err rest → Failed m next rest
unfolding go_on
failed_at (Ok a) next rest h = inr (a, refl, h)
failed_at (Err left) next rest h = inl (ap (λ (l : List Line). Err l) (from_err left rest h))

pub first_line : (one other : Line) (lines left : List Line) → ◌≡◌ {A = List Line} (one ∷ lines) (other ∷ left) → one ≡ other
first_line one other lines left h = cc

pub lines_behind : (one other : Line) (lines left : List Line) → ◌≡◌ {A = List Line} (one ∷ lines) (other ∷ left) → lines ≡ left
lines_behind one other lines left h = cc

-- ---- no line

pub no_line_tells : {A : Type 0} (print : A → List Line) (a : A) → print a ≡ [] → Tells print (λ x. x ≡ a) NoStop (no_line a)
no_line_tells {A} print a none = record {
  back = λ x rest fits stops. subst (λ (y : A). no_line a (print y ++ rest) ≡ Ok (y, rest)) (sym fits) (ap (λ (l : List Line). Ok (a, l ++ rest)) none);
  right = λ lines x rest h.
      subst (λ (p : A × List Line). (lines ≡ print p.0 ++ p.1) × (p.0 ≡ a) × NoStop p.0 p.1) (from_ok (a, lines) (x, rest) h) (ap (λ (l : List Line). l ++ lines) (sym none), refl, tt);
  stuck = λ lines rest h. absurd (cc);
  heads = λ x line left other fits stops. tt;
  some = (a, refl);
}

-- ---- one line

pub record ReadsLine {A : Type 0} (print : A → Line) (Fits : A → Type 0) (read : Line → Option A) : Type 0 where
  pub back : (a : A) → Fits a → read (print a) ≡ Some a
  pub right : (line : Line) (a : A) → read line ≡ Some a → (line ≡ print a) × Fits a

module _ {A : Type 0} {print : A → Line} {Fits : A → Type 0} {read : Line → Option A} (reads : ReadsLine print Fits read) (some : (a : A) × Fits a) where
  says_right : (o : Option A) (line : Line) (lines : List Line) (a : A) (rest : List Line) → line_says o line lines ≡ Ok (a, rest) → (o ≡ Some a) × (lines ≡ rest)
  unfolding line_says
  says_right (Some b) line lines a rest h = let e = from_ok (b, lines) (a, rest) h in (ap (λ (p : A × List Line). Some p.0) e, ap (λ (p : A × List Line). p.1) e)
  says_right None line lines a rest h = absurd (cc)

  says_stuck : (o : Option A) (line : Line) (lines rest : List Line) → line_says o line lines ≡ Err rest → (o ≡ None) × ◌≡◌ {A = List Line} (line ∷ lines) rest
  unfolding line_says
  says_stuck (Some b) line lines rest h = absurd (cc)
  says_stuck None line lines rest h = (refl, from_err (line ∷ lines) rest h)

  line_right : (lines : List Line) (a : A) (rest : List Line) → one_line read lines ≡ Ok (a, rest) → (lines ≡ (print a ∷ []) ++ rest) × Fits a × NoStop a rest
  line_right [] a rest h = absurd (cc)
  line_right (line ∷ lines) a rest h =
      let is = says_right (read line) line lines a rest h in
      let law = reads.right line a is.0 in
      (ap (λ (l : Line). l ∷ lines) law.0 ∙ ap (λ (l : List Line). print a ∷ l) is.1, law.1, tt)

  not_both : (line : Line) (a : A) → read line ≡ None → Fits a → print a ≡ line → ⊥
  not_both line a none fits is = absurd (cc (sym (reads.back a fits) ∙ ap read is ∙ none))

  line_stuck : (lines rest : List Line) → one_line read lines ≡ Err rest → Stuck (λ a. print a ∷ []) Fits NoStop lines rest
  line_stuck [] rest h = record {
    before = [];
    lines_are = from_err [] rest h;
    kept = some.0;
    later = print some.0 ∷ [];
    fits = some.1;
    begins = refl;
    never = λ line left e a other behind fits stops is. absurd (cc (from_err [] rest h ∙ e));
  }
  line_stuck (one ∷ lines) rest h =
      let is = says_stuck (read one) one lines rest h in
      record {
        before = [];
        lines_are = is.1;
        kept = some.0;
        later = print some.0 ∷ [];
        fits = some.1;
        begins = refl;
        never = λ line left e a other behind fits stops same. not_both one a is.0 fits (first_line (print a) line other behind same ∙ sym (first_line one line lines left (is.1 ∙ e)));
      }

  pub line_tells : Tells (λ a. print a ∷ []) Fits NoStop (one_line read)
  unfolding line_says
  line_tells = record {
    back = λ a rest fits stops. rw (reads.back a fits) refl;
    right = line_right;
    stuck = line_stuck;
    heads = λ a line left other fits stops. tt;
    some = some;
  }

-- ---- one section and another

-- what stands behind some lines, if not a line of theirs comes first
heads_on : (Stops : List Line → Type 0) → ((line : Line) (left other : List Line) → Stops (line ∷ left) → Stops (line ∷ other))
    → (lines : List Line) (line : Line) (left other : List Line) → Stops (lines ++ line ∷ left) → Stops (lines ++ line ∷ other)
heads_on Stops heads [] line left other stops = heads line left other stops
heads_on Stops heads (one ∷ lines) line left other stops = heads one (lines ++ line ∷ left) (lines ++ line ∷ other) stops

append_left : (xs ys zs : List Line) → xs ++ ys ≡ xs ++ zs → ys ≡ zs
append_left [] ys zs h = h
append_left (x ∷ xs) ys zs h = append_left xs ys zs (lines_behind x x (xs ++ ys) (xs ++ zs) h)

module _ {A B : Type 0} {print : A → List Line} {Fits : A → Type 0} {Stops : A → List Line → Type 0} {read : Section A} (tells : Tells print Fits Stops read)
    {print_next : A → B → List Line} {FitsNext : A → B → Type 0} {StopsNext : A → B → List Line → Type 0} {read_next : A → Section B} (nexts : (a : A) → Fits a → Tells (print_next a) (FitsNext a) (StopsNext a) (read_next a)) where
  abbrev pub prints : A × B → List Line
  prints x = print x.0 ++ print_next x.0 x.1

  abbrev pub FitBoth : A × B → Type 0
  FitBoth x = Fits x.0 × FitsNext x.0 x.1

  abbrev pub StopBoth : A × B → List Line → Type 0
  StopBoth x rest = Stops x.0 (print_next x.0 x.1 ++ rest) × StopsNext x.0 x.1 rest

  next_back : (x : A × B) (rest : List Line) → FitBoth x → StopBoth x rest → with_next read read_next (prints x ++ rest) ≡ Ok (x, rest)
  unfolding go_on
  next_back x rest fits stops =
      rw (append_assoc, tells.back x.0 (print_next x.0 x.1 ++ rest) fits.0 stops.0, (nexts x.0 fits.0).back x.1 rest fits.1 stops.1) refl

  next_right : (lines : List Line) (x : A × B) (rest : List Line) → with_next read read_next lines ≡ Ok (x, rest) → (lines ≡ prints x ++ rest) × FitBoth x × StopBoth x rest
  next_right lines x rest h =
      let one = went_on (read lines) _ (x, rest) h in
      let two = went_on (read_next one.0.0 one.0.1) _ (x, rest) one.2 in
      let same = from_ok ((one.0.0, two.0.0), two.0.1) (x, rest) two.2 in
      let first = tells.right lines one.0.0 one.0.1 one.1 in
      let second = (nexts one.0.0 first.1).right one.0.1 two.0.0 two.0.1 two.1 in
      let e : lines ≡ prints (one.0.0, two.0.0) ++ two.0.1 =
      first.0 ∙ ap (λ l. print one.0.0 ++ l) second.0 ∙ sym (append_assoc (print one.0.0) (print_next one.0.0 two.0.0) two.0.1) in
      let stops : Stops one.0.0 (print_next one.0.0 two.0.0 ++ two.0.1) = subst (Stops one.0.0) second.0 first.2 in
      subst (λ (p : (A × B) × List Line). (lines ≡ prints p.0 ++ p.1) × FitBoth p.0 × StopBoth p.0 p.1) same (e, (first.1, second.1), (stops, second.2))

  next_stuck : (lines rest : List Line) → with_next read read_next lines ≡ Err rest → Stuck prints FitBoth StopBoth lines rest
  next_stuck lines rest h =
      elim (failed_at (read lines) _ rest h) [
        | inl fails ↦ in_first (tells.stuck lines rest fails)
        | inr one ↦
            elim (failed_at (read_next one.0.0 one.0.1) _ rest one.2) [
              | inl fails ↦
                  let first = tells.right lines one.0.0 one.0.1 one.1 in
                  in_second one.0.0 one.0.1 first.0 first.1 first.2 ((nexts one.0.0 first.1).stuck one.0.1 rest fails)
              | inr two ↦ absurd (cc (two.2))
            ]
      ]
    where
      in_first : Stuck print Fits Stops lines rest → Stuck prints FitBoth StopBoth lines rest
      in_first at =
          let next = (nexts at.kept at.fits).some in
          record {
            before = at.before;
            lines_are = at.lines_are;
            kept = (at.kept, next.0);
            later = at.later ++ print_next at.kept next.0;
            fits = (at.fits, next.1);
            begins = ap (λ l. l ++ print_next at.kept next.0) at.begins ∙ append_assoc at.before at.later (print_next at.kept next.0);
            never = λ line left e a other behind fits stops is.
                at.never line left e a.0 (print_next a.0 a.1 ++ other) behind fits.0 stops.0 (sym (append_assoc (print a.0) (print_next a.0 a.1) other) ∙ is);
          }

      in_second : (a : A) (middle : List Line) → lines ≡ print a ++ middle → Fits a → Stops a middle → Stuck (print_next a) (FitsNext a) (StopsNext a) middle rest → Stuck prints FitBoth StopBoth lines rest
      in_second a middle lines_are fits_a stops_a at =
          record {
            before = print a ++ at.before;
            lines_are = lines_are ∙ ap (λ l. print a ++ l) at.lines_are ∙ sym (append_assoc (print a) at.before rest);
            kept = (a, at.kept);
            later = at.later;
            fits = (fits_a, at.fits);
            begins = ap (λ l. print a ++ l) at.begins ∙ sym (append_assoc (print a) at.before at.later);
            never = λ line left e x other behind fits stops is.
                let told_x = tells.back x.0 (print_next x.0 x.1 ++ other) fits.0 stops.0 in
                let there : Stops a (at.before ++ line ∷ left) = subst (Stops a) (at.lines_are ∙ ap (λ l. at.before ++ l) e) stops_a in
                let told_a = tells.back a (at.before ++ line ∷ behind) fits_a (heads_on (Stops a) (λ one these those. tells.heads a one these those fits_a) at.before line left behind there) in
                let same : print x.0 ++ (print_next x.0 x.1 ++ other) ≡ print a ++ (at.before ++ line ∷ behind) =
                sym (append_assoc (print x.0) (print_next x.0 x.1) other) ∙ is ∙ append_assoc (print a) at.before (line ∷ behind) in
                let pair = from_ok (x.0, print_next x.0 x.1 ++ other) (a, at.before ++ line ∷ behind) (sym told_x ∙ ap read same ∙ told_a) in
                goes_on x.0 a (ap (λ (p : A × List Line). p.0) pair) x.1 other (at.before ++ line ∷ behind) (ap (λ (p : A × List Line). p.1) pair) fits.1 stops.1 at line left behind e refl;
          }
        where
          goes_on : (x a : A) → x ≡ a → (b : B) (other whole : List Line) → print_next x b ++ other ≡ whole → FitsNext x b → StopsNext x b other → (at : Stuck (print_next a) (FitsNext a) (StopsNext a) middle rest)
              → (line : Line) (left behind : List Line) → rest ≡ line ∷ left → whole ≡ at.before ++ line ∷ behind → ⊥
          goes_on x a is b other whole same fits stops at line left behind e whole_is =
              at.never line left e b other behind (subst (λ (y : A). FitsNext y b) is fits) (subst (λ (y : A). StopsNext y b other) is stops) (ap (λ (y : A). print_next y b ++ other) (sym is) ∙ same ∙ whole_is)

  pub next_tells : Tells prints FitBoth StopBoth (with_next read read_next)
  next_tells = record {
    back = next_back;
    right = next_right;
    stuck = next_stuck;
    heads = λ x line left other fits stops. (
      heads_on (Stops x.0) (λ one these those. tells.heads x.0 one these those fits.0) (print_next x.0 x.1) line left other stops.0,
      (nexts x.0 fits.0).heads x.1 line left other fits.1 stops.1,
    );
    some = ((tells.some.0, (nexts tells.some.0 tells.some.1).some.0), (tells.some.1, (nexts tells.some.0 tells.some.1).some.1));
  }
