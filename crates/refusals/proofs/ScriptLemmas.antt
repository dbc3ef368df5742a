-- Texts that are read by hand, and one that is written.
use Rattle.std.proofs.Common.{◌≡◌, ◌≢◌, ℕ, ◌≤◌, List, [], ◌∷◌, ◌++◌, reverse, length, None, refl, ap, sym, ◌∙◌, subst, arith}
use Rattle.std.specs.Prelude.{Result, Ok, Err, codes, decimal, IfOk}
use Rattle.std.proofs.lemmas.Fmt.{decimal_digit}
use Rattle.std.proofs.lemmas.List.{reverse-append}
use Rattle.hex.specs.Hex.{encode_with, decode_pairs}
use Rattle.map_types.specs.Creation.{creation, refusal_of, flags_refusal, contents_refusal, limit_passed, shape_of}
use Rattle.map_script.specs.declared.refusal.Cause.{Cause}
use Rattle.map_script.specs.declared.refusal.Cause.TheVariants.{Gen, Number, Copier}
use Rattle.map_script.specs.declared.refusal.ScriptRefusal.{ScriptRefusal}
use Rattle.map_script.specs.declared.refusal.ScriptRefusal.TheVariants.{Fault}
use Rattle.map_script.specs.declared.script.Form.TheVariants as forms
use Rattle.map_script.specs.declared.script.Script.{Script}
use Rattle.map_script.specs.Canonical.{canonical, body_text, line_text, map_tokens, target_text}
use Rattle.map_script.specs.Grammar.{version_line, map_line, gen_line, target_line, call_line, named_line, verb_line, next_places, update_places}
use Rattle.map_script.specs.Reading.{read_as, version_of, map_of, body_of, target_of, IsReading}
use Rattle.map_script.specs.WellFormed.{IsWellFormed}
use Rattle.refusals.specs.Script.{IsInThreePhases, update_any, delete}

abbrev pub faulty : List ℕ
faulty = codes "bpfmap 1\nmap hash key 1 value 1 max 1 cpus 1\ngen\n"

faulty_is : read_as forms.Generator faulty ≡ Err (Fault 3 Gen)
unfolding read_as version_of version_line map_of map_line body_of gen_line creation refusal_of flags_refusal contents_refusal limit_passed shape_of
faulty_is = refl

abbrev pub twice : List ℕ
twice = codes "bpfmap 1\nmap hash key 1 value 1 max 1 cpus 1\ngen seed 0 calls 1 keys 1 mix 0\ngen\n"

twice_is : read_as forms.Generator twice ≡ Err (Fault 4 Gen)
unfolding read_as version_of version_line map_of map_line body_of gen_line creation refusal_of flags_refusal contents_refusal limit_passed shape_of
twice_is = refl

abbrev pub copied : List ℕ
copied = codes "bpfmap 2\nmap hash key 1 value 1 max 1 cpus 1\ntarget hash max 1 count 1\n0 next\nfrob\n"

copied_is : read_as forms.Copy copied ≡ Err (Fault 4 Copier)
unfolding read_as version_of version_line map_of map_line body_of target_of target_line call_line named_line verb_line next_places creation refusal_of flags_refusal contents_refusal limit_passed shape_of
copied_is = refl

abbrev pub taken_back : List ℕ
taken_back = codes "bpfmap 2\nmap hash key 1 value 1 max 1 cpus 1\ntarget hash max 1 count 1\n0 next\nfrob\nphase x\n"

taken_back_is : read_as forms.Copy taken_back ≡ Err (Fault 5 Number)
unfolding read_as version_of version_line map_of map_line body_of target_of target_line call_line named_line verb_line next_places creation refusal_of flags_refusal contents_refusal limit_passed shape_of
taken_back_is = refl

abbrev pub updating : List ℕ
updating = codes "bpfmap 1\nmap hash key 1 value 1 max 1 cpus 1\n0 update any 01 02\n"

-- what is read there has this call
abbrev HasTheCall : Result Script ScriptRefusal → Type 0
HasTheCall (Ok script) = script.calls ≡ update_any ∷ []
HasTheCall (Err refusal) = ⊥

updating_is : HasTheCall (read_as forms.Calls updating)
unfolding read_as version_of version_line map_of map_line body_of call_line named_line verb_line update_places decode_pairs creation refusal_of flags_refusal contents_refusal limit_passed shape_of
updating_is = refl

-- a refusal, and a script that is read
abbrev refused : ScriptRefusal → Result Script ScriptRefusal
refused refusal = Err refusal

abbrev read : Script → Result Script ScriptRefusal
read script = Ok script

pub fault_there : (result : Result Script ScriptRefusal) → IsReading result (read_as forms.Generator faulty) → (line : ℕ) (cause : Cause) → result ≡ Err (Fault line cause) → line ≡ 3
fault_there result reading line cause is = same (sym faulty_is ∙ subst (λ (r : Result Script ScriptRefusal). IsReading r (read_as forms.Generator faulty)) is reading)
  where
    same : refused (Fault 3 Gen) ≡ refused (Fault line cause) → line ≡ 3
    same e = cc

-- a fault that is told is the one that is there
fault_of : (text : List ℕ) (at : ℕ) (why : Cause) → read_as forms.Copy text ≡ Err (Fault at why) → (result : Result Script ScriptRefusal) → IsReading result (read_as forms.Copy text)
    → (line : ℕ) (cause : Cause) → result ≡ Err (Fault line cause) → (line ≡ at) × (cause ≡ why)
fault_of text at why read result reading line cause is = same (sym read ∙ subst (λ (r : Result Script ScriptRefusal). IsReading r (read_as forms.Copy text)) is reading)
  where
    same : refused (Fault at why) ≡ refused (Fault line cause) → (line ≡ at) × (cause ≡ why)
    same e = (cc, cc)

pub copier_there : (result : Result Script ScriptRefusal) → IsReading result (read_as forms.Copy copied) → (line : ℕ) (cause : Cause) → result ≡ Err (Fault line cause) → (line ≡ 4) × (cause ≡ Copier)
copier_there = fault_of copied 4 Copier copied_is

pub number_there : (result : Result Script ScriptRefusal) → IsReading result (read_as forms.Copy taken_back) → (line : ℕ) (cause : Cause) → result ≡ Err (Fault line cause) → (line ≡ 5) × (cause ≡ Number)
number_there = fault_of taken_back 5 Number taken_back_is

pub none_read : (result : Result Script ScriptRefusal) → IsReading result (read_as forms.Generator twice) → IfOk result (λ script. ⊥)
none_read (Ok script) reading = apart (sym twice_is ∙ reading)
  where
    apart : refused (Fault 4 Gen) ≡ read script → ⊥
    apart e = absurd cc
none_read (Err refusal) reading = tt

pub any_read : (result : Result Script ScriptRefusal) → IsReading result (read_as forms.Calls updating) → IfOk result (λ script. script.calls ≡ update_any ∷ [])
any_read (Ok script) reading = subst HasTheCall reading updating_is
any_read (Err refusal) reading = tt

not_64 : (n : ℕ) → n ≤ 63 → n ≡ 64 → ⊥
not_64 n few is = omega (arith, few, is)

pub few_read : (result : Result Script ScriptRefusal) → IfOk result IsWellFormed → IfOk result (λ script. length script.cuts ≢ 64)
few_read (Ok script) well = not_64 (length script.cuts) well.phases.few
few_read (Err refusal) well = tt

abbrev written : List ℕ
written = codes "0 delete 01\nphase\n0 delete 02\nphase\n0 delete 03\n"

written_is : body_text None (1 ∷ 2 ∷ []) (delete 1 ∷ delete 2 ∷ delete 3 ∷ []) ≡ written
unfolding encode_with
written_is = let zero_is : decimal 0 ≡ 48 ∷ [] = decimal_digit 0 (omega arith) in rw zero_is refl

abbrev second : List ℕ → ℕ
second [] = 0
second (x ∷ []) = 0
second (x ∷ y ∷ rest) = y

-- no text that ends in these lines ends in a line `phase`
ends_in_call : (head before : List ℕ) → head ++ written ≡ before ++ codes "phase\n" → ⊥
ends_in_call head before same = apart (ap second (sym (reverse-append head written) ∙ (ap reverse same ∙ reverse-append before (codes "phase\n"))))
  where
    apart : ◌≡◌ {A = ℕ} 51 101 → ⊥
    apart e = omega (arith, e)

body_is : (script : Script) → IsInThreePhases script → body_text script.spec script.cuts script.calls ≡ written
body_is script all = same all.no_spec all.cuts all.calls
  where
    same : script.spec ≡ None → script.cuts ≡ 1 ∷ 2 ∷ [] → script.calls ≡ delete 1 ∷ delete 2 ∷ delete 3 ∷ [] → body_text script.spec script.cuts script.calls ≡ written
    same spec cuts calls = rw (spec, cuts, calls) written_is

pub phases_apart : (script : Script) (before : List ℕ) → IsInThreePhases script → canonical script ≡ before ++ codes "phase\n" → ⊥
unfolding canonical
phases_apart script before is same =
    let top : List ℕ = line_text (codes "bpfmap") (decimal script.version ∷ []) ++ line_text (codes "map") (map_tokens script.attr) ++ target_text script.target in
    ends_in_call top before (ap (λ (l : List ℕ). top ++ l) (sym (body_is script is)) ∙ same)

pub written_apart : {A E : Type 0} (items : A → List ℕ) (result : Result A E) (script : Script) → IsInThreePhases script → IfOk result (λ text. items text ≡ canonical script) → IfOk result (λ text. (before : List ℕ) → items text ≡ before ++ codes "phase\n" → ⊥)
written_apart items (Ok text) script is wrote = λ before same. phases_apart script before is (sym wrote ∙ same)
written_apart items (Err wrong) script is wrote = tt
