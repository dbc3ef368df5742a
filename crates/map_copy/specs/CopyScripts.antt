-- The reads and the puts of a copy, as calls of scripts.
use Rattle.std.specs.Prelude.{ℕ, false, List, [], ◌∷◌, ◌++◌, map, None, Some}
use Rattle.std.specs.List.{filter_map, flat_map}
use Rattle.map_types.specs.declared.attr.CreateAttr.{CreateAttr}
use Rattle.map_types.specs.declared.attr.Shape.{Shape}
use Rattle.map_types.specs.declared.call.Call.{Call}
use Rattle.map_types.specs.declared.call.Verb.{Verb}
use Rattle.map_types.specs.declared.call.Verb.TheVariants.{BatchRead, BatchUpdate}
use Rattle.map_types.specs.declared.reply.Reply.{Reply}
use Rattle.map_script.specs.declared.script.Script.{Script}
use Rattle.map_script.specs.Grammar.{call_on}
use Rattle.map_script.specs.Reading.{script_of}
use Rattle.map_copy.specs.Copied.{Step, pairs_in}

-- A read is a batch lookup of CPU 0, with flags 0.
abbrev pub read_call : Step → Call
read_call step = call_on 0 (BatchRead false step.read.count (Some step.read.start) 0)

-- A put is a batch update of CPU 0, with flags 0, of the pairs of its page. A page of no pairs has none.
abbrev pub puts_of_pairs : List (List ℕ × List ℕ) → List Call
puts_of_pairs [] = []
puts_of_pairs (pair ∷ pairs) = call_on 0 (BatchUpdate 0 (pair ∷ pairs)) ∷ []

abbrev pub put_calls : Step → List Call
put_calls step = puts_of_pairs (pairs_in step.page)

-- The source's script with the reads at the end of its last phase, numbered after its calls.
abbrev pub extended : Script → List Step → Script
extended script steps = record script { calls = script.calls ++ map read_call steps }

-- The version 1 script of the target's map, whose calls are the puts.
abbrev pub target_script : CreateAttr → Shape → List Step → Script
target_script attr shape steps = script_of 1 attr shape (flat_map put_calls steps) [] None

-- the replies to these reads, and to these puts
abbrev pub read_replies : List Step → List Reply
read_replies steps = map (λ (step : Step). step.page) steps

abbrev pub put_replies : List Step → List Reply
put_replies steps = filter_map (λ (step : Step). step.put) steps

-- the pairs that a batch update puts
abbrev pub pairs_put : Verb → List (List ℕ × List ℕ)
pairs_put (BatchUpdate flags pairs) = pairs
pairs_put verb = []
