-- What is written of a run in mode `compare`.
use Rattle.std.proofs.Common.{◌≡◌, ◌∙◌, ◌&&◌, ◌||◌, not, sym, refl, ap, ap₂, Bool, true, false}
use Rattle.std.specs.Prelude.{if◌then◌else◌}
use Rattle.map_report.specs.Json.{json}
use Rattle.run_words.specs.declared.words.Mode.{Mode}
use Rattle.run_words.specs.Words.{are_read, may_stand, mode_of, options_of}
use Rattle.run_endings.specs.Finish.{lines_of}
use Rattle.run_endings.specs.Comparisons.{WritesComparison}

second : (a b : Bool) → (a && b) ≡ true → b ≡ true
second true b is = is
second false b is = absurd cc

no_last : (a b c : Bool) → not (a || b || c) ≡ true → c ≡ false
no_last a b false is = refl
no_last true b true is = absurd cc
no_last false true true is = absurd cc
no_last false false true is = absurd cc

pub writes_comparison : WritesComparison
writes_comparison words script kept copy good compare =
    let options = options_of words in
    let stands : may_stand (mode_of words) options ≡ true = second (are_read words) (may_stand (mode_of words) options) good in
    let no_json : options.json ≡ false = no_last options.history options.dump options.json (ap (λ (m : Mode). may_stand m options) (sym compare) ∙ stands) in
    ap₂ (λ (b : Bool) (m : Mode). if b then json script kept options else lines_of m script kept copy options) no_json compare
