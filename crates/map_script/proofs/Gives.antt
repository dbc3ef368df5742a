-- What holds of each value that a reading gives, step by step.
use Rattle.std.proofs.Common.{◌≡◌, ℕ, cond, List, [], ◌∷◌, Option, Some, None, Result, Ok, Err, ◌⊎◌, inl, inr, refl}
use Rattle.std.specs.Prelude.{IfSome, IfOk, bytes_eq, codes}
use Rattle.std.specs.Option.{ok_or}
use Rattle.std.proofs.lemmas.Bool.{cond_both}
use Rattle.map_types.specs.declared.attr.Shape.{Shape}
use Rattle.map_types.specs.declared.refusal.CreateRefusal.{CreateRefusal}
use Rattle.map_script.specs.declared.refusal.Cause.{Cause}
use Rattle.map_script.specs.declared.refusal.Cause.TheVariants.{Version}
use Rattle.map_script.specs.declared.script.Form.{Form}
use Rattle.map_script.specs.declared.script.Form.TheVariants as forms
use Rattle.map_script.specs.Grammar.{version_named, version_line}
use Rattle.map_script.specs.Lines.{Line, tokens_said}
use Rattle.map_script.specs.Places.{◌>>=◌, Tokens, valued, at_end, word, instead}
use Rattle.map_script.specs.Reading.{at_line, or_fault, or_create}

-- ---- one step behind another

pub and_then : {A B E : Type 0} (P : A → Type 0) (Q : B → Type 0) (r : Result A E) (next : A → Result B E) → IfOk r P → ((a : A) → P a → IfOk (next a) Q) → IfOk (r >>= next) Q
and_then P Q (Ok a) next h k = k a h
and_then P Q (Err e) next h k = tt

-- where it is told of each value that is found
pub found_gives : {A E : Type 0} (P : A → Type 0) (r : Result A E) → ((a : A) → r ≡ Ok a → P a) → IfOk r P
found_gives P (Ok a) told = told a refl
found_gives P (Err e) told = tt

-- where nothing is told of the first step
pub and_any : {A B E : Type 0} (Q : B → Type 0) (r : Result A E) (next : A → Result B E) → ((a : A) → IfOk (next a) Q) → IfOk (r >>= next) Q
and_any Q (Ok a) next k = k a
and_any Q (Err e) next k = tt

-- what is known of the value that is found
abbrev pub Found : {A : Type 0} → (A → Type 0) → A × Tokens → Type 0
Found P found = P found.0

pub valued_gives : {A : Type 0} (cause : Cause) (value : List ℕ → Option A) (P : A → Type 0) → ((token : List ℕ) → IfSome (value token) P) → (tokens : Tokens) → IfOk (valued cause value tokens) (Found P)
valued_gives cause value P gives [] = tt
valued_gives {A} cause value P gives (first ∷ rest) = go (value first) (gives first)
  where
    go : (o : Option A) → IfSome o P → IfOk (ok_or o cause >>= (λ found. Ok (found, rest))) (Found P)
    go None h = tt
    go (Some a) h = h

pub end_gives : {A : Type 0} (P : A → Type 0) (value : A) (tokens : Tokens) → P value → IfOk (at_end value tokens) P
end_gives P value [] h = h
end_gives P value (first ∷ rest) h = tt

pub instead_gives : {A : Type 0} (P : A → Type 0) (cause : Cause) (r : Result A Cause) → IfOk r P → IfOk (instead cause r) P
instead_gives P cause (Ok a) h = h
instead_gives P cause (Err e) h = tt

fault_gives : {A : Type 0} (P : A → Type 0) (at : ℕ) (r : Result A Cause) → IfOk r P → IfOk (or_fault at r) P
fault_gives P at (Ok a) h = h
fault_gives P at (Err e) h = tt

pub at_line_gives : {A : Type 0} (P : A → Type 0) (line : Line) (reading : Tokens → Result A Cause) → ((tokens : Tokens) → IfOk (reading tokens) P) → IfOk (at_line line reading) P
at_line_gives P line reading gives = fault_gives P line.number _ (and_any P (tokens_said line.says) reading gives)

pub create_gives : (r : Result Shape CreateRefusal) → IfOk (or_create r) (λ shape. r ≡ Ok shape)
create_gives (Ok shape) = refl
create_gives (Err refusal) = tt

-- ---- the version

abbrev pub IsVersion : Form → ℕ → Type 0
IsVersion forms.Calls version = (version ≡ 1) ⊎ (version ≡ 2)
IsVersion forms.Generator version = version ≡ 1
IsVersion forms.Copy version = version ≡ 2

named_gives : (form : Form) (name : List ℕ) → IfSome (version_named form name) (IsVersion form)
named_gives forms.Calls name =
    cond_both (bytes_eq name (codes "1")) (Some 1) (cond (bytes_eq name (codes "2")) (Some 2) None) (λ o. IfSome o (IsVersion forms.Calls)) (λ first. inl refl)
    (λ other. cond_both (bytes_eq name (codes "2")) (Some 2) None (λ o. IfSome o (IsVersion forms.Calls)) (λ second. inr refl) (λ none. tt))
named_gives forms.Generator name =
    cond_both (bytes_eq name (codes "1")) (Some 1) None (λ o. IfSome o (IsVersion forms.Generator)) (λ first. refl) (λ none. tt)
named_gives forms.Copy name =
    cond_both (bytes_eq name (codes "2")) (Some 2) None (λ o. IfSome o (IsVersion forms.Copy)) (λ second. refl) (λ none. tt)

pub version_gives : (form : Form) (tokens : Tokens) → IfOk (version_line form tokens) (IsVersion form)
unfolding version_line
version_gives form tokens =
    instead_gives (IsVersion form) Version _ (
    and_any (IsVersion form) (word Version (codes "bpfmap") tokens) _ (λ name.
    and_then (Found (IsVersion form)) (IsVersion form) (valued Version (version_named form) name.1) _ (valued_gives Version (version_named form) (IsVersion form) (named_gives form) name.1) (λ version version_is.
    end_gives (IsVersion form) version.0 version.1 version_is)))
