-- The parts of the text of a copy, added one after the other.
use Rattle.std.proofs.Common.{◌≡◌, ℕ, List, [], ◌∷◌, ◌++◌, sym, ap, ◌∙◌}
use Rattle.std.proofs.lemmas.Grind.{flat_map-append}
use Rattle.std.specs.List.{flat_map}
use Rattle.std.specs.Prelude.{codes}
use Rattle.map_types.specs.declared.attr.Shape.{Shape}
use Rattle.map_types.specs.declared.reply.Reply.{Reply}
use Rattle.map_script.specs.declared.script.Script.{Script}
use Rattle.map_report.specs.declared.record.Options.{Options}
use Rattle.map_report.specs.declared.record.RunRecord.{RunRecord}
use Rattle.map_report.specs.Text.{ended, told_lines}
use Rattle.copy_report.specs.CopyText.{copy_text, outcome_lines, target_lines}

one_more : (first second : List (List ℕ)) (text now : List ℕ) → text ≡ flat_map ended first → now ≡ text ++ flat_map ended second → now ≡ flat_map ended (first ++ second)
one_more first second text now text_is now_is = now_is ∙ ap (λ (l : List ℕ). l ++ flat_map ended second) text_is ∙ sym (flat_map-append ended first second)

pub copy_is : {none told outcome target last items : List ℕ} {puts : List Reply} (script : Script) (kept : RunRecord) (shape : Shape) (other : RunRecord) (reads : List Reply) (options : Options) → puts ≡ other.replies → none ≡ []
    → told ≡ none ++ flat_map ended (told_lines script kept options) → outcome ≡ told ++ flat_map ended (outcome_lines shape reads puts) → target ≡ outcome ++ flat_map ended (target_lines shape other options) → last ≡ target ++ codes "end\n" → items ≡ last
    → items ≡ copy_text script kept shape other reads options
unfolding copy_text
copy_is {none} {told} {outcome} {target} {last} {items} {puts} script kept shape other reads options puts_are none_is told_is outcome_is target_is last_is items_are =
    let all : List (List ℕ) = told_lines script kept options in
    let came : List (List ℕ) = outcome_lines shape reads other.replies in
    let has : List (List ℕ) = target_lines shape other options in
    let first : told ≡ flat_map ended all = told_is ∙ ap (λ (l : List ℕ). l ++ flat_map ended all) none_is in
    let second : outcome ≡ flat_map ended (all ++ came) = one_more all came told outcome first (outcome_is ∙ ap (λ (replies : List Reply). told ++ flat_map ended (outcome_lines shape reads replies)) puts_are) in
    let third : target ≡ flat_map ended ((all ++ came) ++ has) = one_more (all ++ came) has outcome target second target_is in
    items_are ∙ one_more ((all ++ came) ++ has) (codes "end" ∷ []) target last third last_is
