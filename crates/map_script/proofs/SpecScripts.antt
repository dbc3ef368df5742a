-- What a script that form Generator gives is like: its numbers, and the ranges of its spec.
use Rattle.std.proofs.Common.{◌≡◌, ℕ, true, List, [], ◌∷◌, Some, None, Result, Ok, Err, inl, refl, sym, subst, arith}
use Rattle.std.specs.Prelude.{IfOk, codes}
use Rattle.std.proofs.lemmas.Bool.{cond_both}
use Rattle.map_types.specs.Creation.{creation}
use Rattle.map_types.specs.declared.attr.CreateAttr.{CreateAttr}
use Rattle.map_types.specs.declared.attr.Shape.{Shape}
use Rattle.map_script.specs.declared.refusal.Cause.TheVariants as causes
use Rattle.map_script.specs.declared.refusal.ScriptRefusal.{ScriptRefusal}
use Rattle.map_script.specs.declared.script.Form.TheVariants as forms
use Rattle.map_script.specs.declared.script.GenSpec.{GenSpec}
use Rattle.map_script.specs.declared.script.Script.{Script}
use Rattle.map_script.specs.Grammar.{version_line, map_line, is_spec, gen_spec, gen_line}
use Rattle.map_script.specs.Lines.{Line, lines_of, end_number}
use Rattle.map_script.specs.Places.{Tokens, at_end, word, labelled}
use Rattle.map_script.specs.Reading.{at_line, or_create, spec_of, body_of, map_of, version_of, read_as, script_of}
use Rattle.map_script.specs.WellFormed.{HasPhases}
use Rattle.map_script.proofs.TokenValues.{IsNumber}
use Rattle.map_script.proofs.CallScripts.{IsAttr, labelled_gives, map_gives}
use Rattle.map_script.proofs.Gives.{and_then, and_any, Found, end_gives, instead_gives, at_line_gives, create_gives, IsVersion, version_gives}

-- what is known of a spec that is read
pub record IsSpec (shape : Shape) (spec : GenSpec) : Type 0 where
  pub seed : IsNumber spec.seed
  pub calls : IsNumber spec.calls
  pub keys : IsNumber spec.keys
  pub mix : IsNumber spec.mix
  pub ranges : is_spec shape spec ≡ true

pub record IsSpecScript (script : Script) : Type 0 where
  pub numbers : IsAttr script.attr
  pub created : creation script.attr ≡ Ok script.shape
  pub first : script.version ≡ 1
  pub no_cuts : script.cuts ≡ []
  pub no_calls : script.calls ≡ []
  pub spec : GenSpec
  pub has_spec : script.spec ≡ Some spec
  pub no_target : script.target ≡ None
  pub is_spec : IsSpec script.shape spec

-- ---- the line

abbrev HasNumbers : GenSpec → Type 0
HasNumbers spec = IsNumber spec.seed × IsNumber spec.calls × IsNumber spec.keys × IsNumber spec.mix

line_gives : (shape : Shape) (tokens : Tokens) → IfOk (gen_line shape tokens) (IsSpec shape)
unfolding gen_line
line_gives shape tokens =
    instead_gives (IsSpec shape) causes.Gen _ (
    and_any (IsSpec shape) (word causes.Gen (codes "gen") tokens) _ (λ name.
    and_then (Found IsNumber) (IsSpec shape) (labelled (codes "seed") name.1) _ (labelled_gives (codes "seed") name.1) (λ seed seed_is.
    and_then (Found IsNumber) (IsSpec shape) (labelled (codes "calls") seed.1) _ (labelled_gives (codes "calls") seed.1) (λ calls calls_is.
    and_then (Found IsNumber) (IsSpec shape) (labelled (codes "keys") calls.1) _ (labelled_gives (codes "keys") calls.1) (λ keys keys_is.
    and_then (Found IsNumber) (IsSpec shape) (labelled (codes "mix") keys.1) _ (labelled_gives (codes "mix") keys.1) (λ mix mix_is.
    and_then HasNumbers (IsSpec shape) (at_end (gen_spec seed.0 calls.0 keys.0 mix.0) mix.1) _ (end_gives HasNumbers (gen_spec seed.0 calls.0 keys.0 mix.0) mix.1 (seed_is, calls_is, keys_is, mix_is)) (λ spec numbers.
    cond_both (is_spec shape spec) (Ok spec) (Err causes.Gen) (λ r. IfOk r (IsSpec shape))
    (λ within. record { seed = numbers.0; calls = numbers.1; keys = numbers.2; mix = numbers.3; ranges = within }) (λ beyond. tt))))))))

spec_of_gives : (shape : Shape) (end : ℕ) (lines : List Line) → IfOk (spec_of shape end lines) (IsSpec shape)
spec_of_gives shape end [] = tt
spec_of_gives shape end (line ∷ []) = at_line_gives (IsSpec shape) line (gen_line shape) (line_gives shape)
spec_of_gives shape end (line ∷ next ∷ lines) =
    and_any (IsSpec shape) (at_line line (gen_line shape)) _ (λ spec.
    at_line_gives (IsSpec shape) next (λ tokens. Err causes.Gen) (λ tokens. tt))

-- ---- the script

body_gives : (version : ℕ) (attr : CreateAttr) (shape : Shape) (end : ℕ) (lines : List Line) → version ≡ 1 → IsAttr attr → creation attr ≡ Ok shape → IfOk (body_of forms.Generator version attr shape end lines) IsSpecScript
unfolding body_of
body_gives version attr shape end lines first numbers created =
    and_then (IsSpec shape) IsSpecScript (spec_of shape end lines) (λ spec. Ok (script_of version attr shape [] [] (Some spec))) (spec_of_gives shape end lines) (λ spec spec_is.
    record { numbers = numbers; created = created; first = first; no_cuts = refl; no_calls = refl; spec = spec; has_spec = refl; no_target = refl; is_spec = spec_is })

map_of_gives : (version end : ℕ) (lines : List Line) → version ≡ 1 → IfOk (map_of forms.Generator version end lines) IsSpecScript
unfolding map_of
map_of_gives version end [] first = tt
map_of_gives version end (line ∷ lines) first =
    and_then IsAttr IsSpecScript (at_line line map_line) _ (at_line_gives IsAttr line map_line map_gives) (λ attr numbers.
    and_then (λ shape. creation attr ≡ Ok shape) IsSpecScript (or_create (creation attr)) _ (create_gives (creation attr)) (λ shape created.
    body_gives version attr shape end lines first numbers created))

version_of_gives : (end : ℕ) (lines : List Line) → IfOk (version_of forms.Generator end lines) IsSpecScript
unfolding version_of
version_of_gives end [] = tt
version_of_gives end (line ∷ lines) =
    let read = version_line forms.Generator in
    and_then (IsVersion forms.Generator) IsSpecScript (at_line line read) _ (at_line_gives (IsVersion forms.Generator) line read (version_gives forms.Generator)) (λ version first.
    map_of_gives version end lines first)

-- such a script is one phase, whatever calls it has
pub one_phase : (script : Script) (count : ℕ) → IsSpecScript script → HasPhases script.version count script.cuts
one_phase script count h =
    subst (HasPhases script.version count) (sym h.no_cuts) record { known = inl (h.first, refl); few = omega arith; rise = tt }

-- what is known of each script that form Generator gives
pub spec_script_gives : (given : List ℕ) (script : Script) → read_as forms.Generator given ≡ Ok script → IsSpecScript script
unfolding read_as
spec_script_gives given script read =
    let P : Result Script ScriptRefusal → Type 0 = λ r. IfOk r IsSpecScript in
    subst P read (version_of_gives (end_number given) (lines_of given))
