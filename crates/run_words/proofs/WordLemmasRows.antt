-- What is found in the rows of a walk.
use Rattle.std.proofs.Common.{◌≡◌, ◌∙◌, ◌++◌, ◌||◌, ⊎_elim, refl, sym, ap, ap₂, subst, Bool, true, false, cond, codes, is_some, List, [], ◌∷◌, Option, Some, None}
use Rattle.std.specs.Prelude.{if◌then◌else◌, find, option_map}
use Rattle.std.specs.Option.{option_or}
use Rattle.std.specs.Str.{bytes_eq}
use Rattle.std.proofs.lemmas.List.{append-nil}
use Rattle.std.proofs.lemmas.List.Folds.{find-append}
use Rattle.std.proofs.lemmas.Slice.Eq.{bytes_eq-Decides}
use Rattle.clap.specs.Walk.{Row, Text, at_row, default_rows, has_row, more_values, with_default, with_values, without}
use Rattle.clap.specs.declared.builder.value_parser.ValueParser.{ValueParser}
use Rattle.clap.specs.declared.builder.value_parser.Reading.{Reading}
use Rattle.clap.specs.declared.parser.matches.ValueSource.TheVariants.{CommandLine, DefaultValue}
use Rattle.run_words.specs.Words.{mode_word}
use Rattle.run_words.specs.declared.words.Mode.{Mode}
use Rattle.run_words.proofs.WordLemmasCommand.{Flag, history, dump, json, built_flag, built_mode, default_row, flag_is, flag_name, flag_row, flag_word, flags_apart, is_flag, mode_row}

abbrev pub found : Text → List Row → Option Row
found id rows = find (λ r. bytes_eq r.id id) rows

pub has_is_found : (id : Text) (rows : List Row) → has_row id rows ≡ is_some (found id rows)
has_is_found id [] = refl
has_is_found id (r ∷ rows) = go (bytes_eq r.id id) (has_is_found id rows)
  where
    go : (b : Bool) → has_row id rows ≡ is_some (found id rows) → (b || has_row id rows) ≡ is_some (cond b (Some r) (found id rows))
    go true below = refl
    go false below = below

pub has_none : (id : Text) (rows : List Row) → found id rows ≡ None → has_row id rows ≡ false
has_none id rows e = has_is_found id rows ∙ ap is_some e

pub has_some : (id : Text) (rows : List Row) (r : Row) → found id rows ≡ Some r → has_row id rows ≡ true
has_some id rows r e = has_is_found id rows ∙ ap is_some e

some≢none : {X : Type 0} (x : X) → Some x ≡ None → ⊥
some≢none x e = cc

at_row_absent : (id : Text) (change : Row → List Row) (missing rows : List Row) → found id rows ≡ None → at_row id change missing rows ≡ rows ++ missing
at_row_absent id change missing [] e = refl
at_row_absent id change missing (r ∷ rows) e = go (bytes_eq r.id id) e (at_row_absent id change missing rows)
  where
    go : (b : Bool) → cond b (Some r) (found id rows) ≡ None → (found id rows ≡ None → at_row id change missing rows ≡ rows ++ missing)
        → (if b then change r ++ rows else r ∷ at_row id change missing rows) ≡ r ∷ rows ++ missing
    go true e below = absurd (some≢none r e)
    go false e below = ap (λ rs. r ∷ rs) (below e)

-- a use of an argument that wasn't used
pub used_first : (id : Text) (how : Reading) (values : List Text) (rows : List Row) → found id rows ≡ None
    → with_values id how CommandLine values (without id rows) ≡ rows ++ record { id = id; values = values; count = None; source = Some CommandLine; reading = how } ∷ []
used_first id how values rows e =
    ap (with_values id how CommandLine values) (at_row_absent id (λ _. []) [] rows e ∙ append-nil rows) ∙ at_row_absent id (more_values CommandLine values) _ rows e

-- the row of an id, where one of this id is added
abbrev pub or_row : Option Row → Text → Row → Option Row
or_row o id r = option_or o (cond (bytes_eq r.id id) (Some r) None)

or_none : (o : Option Row) → option_or o None ≡ o
or_none None = refl
or_none (Some r) = refl

pub found-added : (id : Text) (rows : List Row) (r : Row) → found id (rows ++ r ∷ []) ≡ or_row (found id rows) id r
found-added id rows r = find-append (λ r. bytes_eq r.id id) rows (r ∷ [])

-- ---- the rows of these flags and of this mode

pub record AreRows (p : ValueParser) (rows : List Row) (seen : Flag → Bool) (mode : Option Mode) : Type 0 where
  pub flags : (f : Flag) → found (flag_name f) rows ≡ (if seen f then Some (flag_row f) else None)
  pub mode_is : found (codes "mode") rows ≡ option_map (λ m. mode_row p (mode_word m)) mode

abbrev pub with_flag : Flag → (Flag → Bool) → Flag → Bool
with_flag f seen g = is_flag g (flag_word f) || seen g

module _ {p : ValueParser} {rows : List Row} {seen : Flag → Bool} {mode : Option Mode} (are : AreRows p rows seen mode) (f : Flag) where
  pub not_found : seen f ≡ false → found (flag_name f) rows ≡ None
  not_found e = are.flags f ∙ ap (λ b. if b then Some (flag_row f) else None) e

  pub no_flag_row : seen f ≡ false → has_row (flag_name f) rows ≡ false
  no_flag_row e = has_none (flag_name f) rows (not_found e)

  pub flag_has_row : seen f ≡ true → has_row (flag_name f) rows ≡ true
  flag_has_row e = has_some (flag_name f) rows (flag_row f) (are.flags f ∙ ap (λ b. if b then Some (flag_row f) else None) e)

  no_mode_name : bytes_eq (flag_name f) (codes "mode") ≡ false
  no_mode_name = go f
    where
      go : (f : Flag) → bytes_eq (flag_name f) (codes "mode") ≡ false
      go history = refl
      go dump = refl
      go json = refl

  own_name : bytes_eq (flag_name f) (flag_name f) ≡ true
  own_name = (bytes_eq-Decides (flag_name f) (flag_name f)).1 refl

  -- the flag is used
  pub flag_added : seen f ≡ false → AreRows p (rows ++ flag_row f ∷ []) (with_flag f seen) mode
  flag_added e = record {
    flags = λ g. found-added (flag_name g) rows (flag_row f) ∙ ⊎_elim (same g) (apart g) (flags_apart f g);
    mode_is = found-added (codes "mode") rows (flag_row f) ∙ ap (λ b. option_or (found (codes "mode") rows) (cond b (Some (flag_row f)) None)) no_mode_name
        ∙ or_none (found (codes "mode") rows) ∙ are.mode_is;
  }
    where
      itself : or_row (found (flag_name f) rows) (flag_name f) (flag_row f) ≡ (if with_flag f seen f then Some (flag_row f) else None)
      itself = ap₂ (λ (o : Option Row) (b : Bool). option_or o (cond b (Some (flag_row f)) None)) (not_found e) own_name
          ∙ ap (λ b. if b || seen f then Some (flag_row f) else None) (sym (flag_is f))

      same : (g : Flag) → f ≡ g → or_row (found (flag_name g) rows) (flag_name g) (flag_row f) ≡ (if with_flag f seen g then Some (flag_row g) else None)
      same g is = subst (λ g. or_row (found (flag_name g) rows) (flag_name g) (flag_row f) ≡ (if with_flag f seen g then Some (flag_row g) else None)) is itself

      apart : (g : Flag) → (is_flag g (flag_word f) ≡ false) × (bytes_eq (flag_name f) (flag_name g) ≡ false)
          → or_row (found (flag_name g) rows) (flag_name g) (flag_row f) ≡ (if with_flag f seen g then Some (flag_row g) else None)
      apart g other = ap (λ b. option_or (found (flag_name g) rows) (cond b (Some (flag_row f)) None)) other.1 ∙ or_none (found (flag_name g) rows) ∙ are.flags g
          ∙ ap (λ b. if b || seen g then Some (flag_row g) else None) (sym other.0)

-- the mode is used
pub mode_added : {p : ValueParser} {rows : List Row} {seen : Flag → Bool} → AreRows p rows seen None → (m : Mode) → AreRows p (rows ++ mode_row p (mode_word m) ∷ []) seen (Some m)
mode_added {p} {rows} {seen} are m = record {
  flags = λ f. found-added (flag_name f) rows (mode_row p (mode_word m)) ∙ other_name f (found (flag_name f) rows) ∙ are.flags f;
  mode_is = found-added (codes "mode") rows (mode_row p (mode_word m)) ∙ ap (λ o. or_row o (codes "mode") (mode_row p (mode_word m))) are.mode_is;
}
  where
    other_name : (f : Flag) (o : Option Row) → or_row o (flag_name f) (mode_row p (mode_word m)) ≡ o
    other_name history o = or_none o
    other_name dump o = or_none o
    other_name json o = or_none o

-- ---- the defaults

pub defaulted : (id : Text) (rows : List Row) (f : Flag) → found id (with_default rows (built_flag f)) ≡ or_row (found id rows) id (default_row f)
defaulted id rows f = go (found (flag_name f) rows) refl
  where
    kept : (b : Bool) (r : Row) → bytes_eq (flag_name f) id ≡ b → found (flag_name f) rows ≡ Some r → found id rows ≡ option_or (found id rows) (cond b (Some (default_row f)) None)
    kept true r same is =
        let there : found id rows ≡ Some r = ap (λ i. found i rows) (sym ((bytes_eq-Decides (flag_name f) id).0 same)) ∙ is in
        rw there refl
    kept false r same is = sym (or_none (found id rows))

    go : (o : Option Row) → found (flag_name f) rows ≡ o → found id (with_default rows (built_flag f)) ≡ or_row (found id rows) id (default_row f)
    go None is = ap (λ b. found id (if b then rows else default_rows (flag_name f) (default_row f).reading (codes "false" ∷ []) rows)) (has_none (flag_name f) rows is)
        ∙ ap (found id) (at_row_absent (flag_name f) (more_values DefaultValue (codes "false" ∷ [])) (default_row f ∷ []) rows is) ∙ found-added id rows (default_row f)
    go (Some r) is = ap (λ b. found id (if b then rows else default_rows (flag_name f) (default_row f).reading (codes "false" ∷ []) rows)) (has_some (flag_name f) rows r is)
        ∙ kept (bytes_eq (flag_name f) id) r refl is

pub mode_has_no_default : (p : ValueParser) (rows : List Row) → with_default rows (built_mode p) ≡ rows
mode_has_no_default p rows = go (has_row (codes "mode") rows)
  where
    go : (b : Bool) → (if b then rows else rows) ≡ rows
    go true = refl
    go false = refl
