-- The lines of the canonical text of a script that has a spec are read as the script that form Generator gave.
use Rattle.std.proofs.Common.{◌≡◌, ℕ, ◌+◌, List, [], ◌∷◌, ◌++◌, Some, Ok, Err, refl, sym, ap, ◌∙◌, append-nil, append_assoc, arith}
use Rattle.std.specs.Prelude.{codes, decimal}
use Rattle.std.proofs.lemmas.Bool.{cond-true}
use Rattle.map_types.specs.declared.attr.CreateAttr.{CreateAttr}
use Rattle.map_types.specs.declared.attr.Shape.{Shape}
use Rattle.map_types.specs.declared.call.Call.{Call}
use Rattle.map_script.specs.declared.refusal.Cause.TheVariants as causes
use Rattle.map_script.specs.declared.script.Form.TheVariants as forms
use Rattle.map_script.specs.declared.script.GenSpec.{GenSpec}
use Rattle.map_script.specs.declared.script.Script.{Script}
use Rattle.map_script.specs.Canonical.{canonical, line_text, map_tokens, spec_tokens}
use Rattle.map_script.specs.Grammar.{is_spec, gen_line}
use Rattle.map_script.specs.Lines.{lines_of, end_number}
use Rattle.map_script.specs.Places.{instead}
use Rattle.map_script.specs.Reading.{or_fault, or_create, body_of, map_of, version_of, read_as, script_of}
use Rattle.map_script.specs.Plain.{AreTokens}
use Rattle.map_script.proofs.TokenLines.{AreLines, text_of_lines, saying_from, lines_of-text_of_lines}
use Rattle.map_script.proofs.TokenValues.{is_token-decimal}
use Rattle.map_script.proofs.CallScripts.{script_with}
use Rattle.map_script.proofs.SpecScripts.{IsSpec, IsSpecScript}
use Rattle.map_script.proofs.CanonicalTokens.{version_tokens, line_text-append, map_are_tokens}
use Rattle.map_script.proofs.LinesRead.{then, number_at, version_read, map_read}

abbrev gen_tokens : GenSpec → List (List ℕ)
gen_tokens spec = codes "gen" ∷ spec_tokens spec

-- the lines of a script that has a spec
abbrev spec_lines : ℕ → CreateAttr → GenSpec → List (List (List ℕ))
spec_lines version attr spec = version_tokens version ∷ (codes "map" ∷ map_tokens attr) ∷ gen_tokens spec ∷ []

spec_are_tokens : (shape : Shape) (spec : GenSpec) → IsSpec shape spec → AreTokens (spec_tokens spec)
spec_are_tokens shape spec h =
    (refl, (is_token-decimal spec.seed h.seed, (refl, (is_token-decimal spec.calls h.calls, (refl, (is_token-decimal spec.keys h.keys, (refl, (is_token-decimal spec.mix h.mix, tt))))))))

spec_are_lines : (script : Script) (h : IsSpecScript script) → AreLines (spec_lines script.version script.attr h.spec)
spec_are_lines script h =
    let one = h.first in
    ((refl, (is_token-decimal script.version (omega arith), tt)), ((refl, map_are_tokens script.attr h.numbers), ((refl, spec_are_tokens script.shape h.spec h.is_spec), tt)))

canonical-spec_lines : (version : ℕ) (attr : CreateAttr) (shape : Shape) (calls : List Call) (cuts : List ℕ) (spec : GenSpec) → canonical (script_of version attr shape calls cuts (Some spec)) ≡ text_of_lines (spec_lines version attr spec)
unfolding canonical
canonical-spec_lines version attr shape calls cuts spec =
    let version_line = line_text (codes "bpfmap") (decimal version ∷ []) in
    let map_line = line_text (codes "map") (map_tokens attr) in
    let gen_line = line_text (codes "gen") (spec_tokens spec) in
    ap (λ (text : List ℕ). text ++ gen_line) (append-nil (version_line ++ map_line))
    ∙ append_assoc version_line map_line gen_line
    ∙ ap (λ (text : List ℕ). version_line ++ (map_line ++ text)) (sym (append-nil gen_line) ∙ line_text-append (codes "gen") (spec_tokens spec) [])
    ∙ ap (λ (text : List ℕ). version_line ++ text) (line_text-append (codes "map") (map_tokens attr) (text_of_lines (gen_tokens spec ∷ [])))
    ∙ line_text-append (codes "bpfmap") (decimal version ∷ []) (text_of_lines ((codes "map" ∷ map_tokens attr) ∷ gen_tokens spec ∷ []))

gen_read : (shape : Shape) (spec : GenSpec) → IsSpec shape spec → gen_line shape (gen_tokens spec) ≡ Ok spec
unfolding gen_line
gen_read shape spec h =
    ap (instead causes.Gen)
    (then _ _ (spec.seed, _) _ (number_at spec.seed _ h.seed)
    (then _ _ (spec.calls, _) _ (number_at spec.calls _ h.calls)
    (then _ _ (spec.keys, _) _ (number_at spec.keys _ h.keys)
    (then _ _ (spec.mix, []) (Ok spec) (number_at spec.mix [] h.mix)
    (cond-true (is_spec shape spec) (Ok spec) (Err causes.Gen) h.ranges)))))

body_read : (script : Script) (end at : ℕ) (h : IsSpecScript script) → body_of forms.Generator script.version script.attr script.shape end (saying_from at (gen_tokens h.spec ∷ [])) ≡ Ok (script_of script.version script.attr script.shape [] [] (Some h.spec))
unfolding body_of
body_read script end at h =
    then _ _ h.spec _ (ap (or_fault at) (gen_read script.shape h.spec h.is_spec)) refl

map_of_read : (script : Script) (end at : ℕ) (h : IsSpecScript script) → map_of forms.Generator script.version end (saying_from at ((codes "map" ∷ map_tokens script.attr) ∷ gen_tokens h.spec ∷ [])) ≡ Ok (script_of script.version script.attr script.shape [] [] (Some h.spec))
unfolding map_of
map_of_read script end at h =
    then _ _ script.attr _ (ap (or_fault at) (map_read script.attr h.numbers))
    (then _ _ script.shape _ (ap or_create h.created) (body_read script end (at + 1) h))

version_of_read : (script : Script) (end at : ℕ) (h : IsSpecScript script) → version_of forms.Generator end (saying_from at (spec_lines script.version script.attr h.spec)) ≡ Ok (script_of script.version script.attr script.shape [] [] (Some h.spec))
unfolding version_of
version_of_read script end at h =
    then _ _ script.version _ (ap (or_fault at) (version_read forms.Generator script.version h.first)) (map_of_read script end (at + 1) h)

-- A script that form Generator gives is what form Generator reads from its canonical text, whatever calls are put into it.
pub spec_script_read : (script : Script) (calls : List Call) → IsSpecScript script → read_as forms.Generator (canonical (script_of script.version script.attr script.shape calls script.cuts script.spec)) ≡ Ok script
unfolding read_as
spec_script_read script calls h =
    let lines = spec_lines script.version script.attr h.spec in
    let listed = script_of script.version script.attr script.shape calls script.cuts script.spec in
    let text : canonical listed ≡ text_of_lines lines = ap (λ spec. canonical (script_of script.version script.attr script.shape calls script.cuts spec)) h.has_spec ∙ canonical-spec_lines script.version script.attr script.shape calls script.cuts h.spec in
    let end = end_number (canonical listed) in
    ap (version_of forms.Generator end) (ap lines_of text ∙ lines_of-text_of_lines lines (spec_are_lines script h))
    ∙ version_of_read script end 1 h
    ∙ (λ n. Ok (script_with script.version script.attr script.shape (sym h.no_calls n) (sym h.no_cuts n) (sym h.has_spec n) (sym h.no_target n)))
