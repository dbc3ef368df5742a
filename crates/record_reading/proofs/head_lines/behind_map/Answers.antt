use Rattle.std.proofs.Common.{◌≡◌, ◌++◌, List, ℕ, Option, Some, None, MatchOption, sym, subst}
use Rattle.std.specs.Prelude.{codes}
use Rattle.map_script.specs.Canonical.{kind_name}
use Rattle.map_report.specs.Words.{number_text}
use Rattle.record_reading.proofs.NameLemmas.{behind_neither, behind_then}
use Rattle.record_reading.proofs.head_lines.behind_map.Goals as goal

pub returns-in_default : goal.returns-in_default
returns-in_default c =
    let shape = c.args.shape.now in
    behind_neither (codes "map " ++ kind_name shape.kind ++ (codes " capacity" ++ number_text shape.capacity) ++ (codes " elements" ++ number_text shape.elements)) (codes " buckets" ++ number_text shape.buckets) c.args.text.now c.in_default.ensures

pub returns : goal.returns
returns c =
    let shape = c.args.shape.now in
    let told = behind_then (codes "map " ++ kind_name shape.kind ++ (codes " capacity" ++ number_text shape.capacity) ++ (codes " elements" ++ number_text shape.elements)) (codes " buckets" ++ number_text shape.buckets) c.args.text.now c.in-Some.rest.now c.in-Some.ensures in
    subst (λ (o : Option (List ℕ)). MatchOption c.behind_numbered.result (o ≡ None) (λ rest. o ≡ Some rest.now)) (sym told) c.behind_numbered.ensures
