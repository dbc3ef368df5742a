-- A script whose calls are on its map, within the limits, is one that is run.
use Rattle.std.proofs.Common.{◌<◌, ◌^◌, List, [], ◌∷◌, Some, None, All}
use Rattle.std.proofs.lemmas.List.Elements.{All-nil, All-cons, All-head, All-tail, All-weaker}
use Rattle.map_types.specs.declared.attr.Shape.{Shape}
use Rattle.map_types.specs.declared.call.Call.{Call}
use Rattle.map_types.specs.declared.call.Verb.{Verb}
use Rattle.map_types.specs.declared.call.Verb.TheVariants.{Lookup, Update, Delete, Take, Next, BatchRead, BatchUpdate, BatchDelete, Each}
use Rattle.map_types.proofs.CreationLemmas.{bounds_of_shape}
use Rattle.map_script.specs.declared.script.Script.{Script}
use Rattle.map_script.specs.WellFormed.{HasSizes, IsCallOn, IsWellFormed}
use Rattle.serial_laws.specs.Served.{entry_count, HasFewEntries, IsCallFor, IsScript, IsServedVerb, IsServedCall, IsServed, SuitsItsMap}

verb_served : (shape : Shape) (verb : Verb) → HasSizes shape verb → entry_count verb < 2 ^ 32 → IsServedVerb shape verb
verb_served shape (Lookup side key) has few = has
verb_served shape (Update side flags key value) has few = has
verb_served shape (Delete key) has few = has
verb_served shape (Take key) has few = has
verb_served shape (Next None) has few = tt
verb_served shape (Next (Some key)) has few = has
verb_served shape (BatchRead remove count start flags) has few = tt
verb_served shape (BatchUpdate flags pairs) has few = (has, few)
verb_served shape (BatchDelete flags keys) has few = (has, few)
verb_served shape (Each flags None) has few = tt
verb_served shape (Each flags (Some key)) has few = has

calls_served : (shape : Shape) (calls : List Call) → All (IsCallOn shape) calls → All HasFewEntries calls → All (IsServedCall shape) calls
calls_served shape [] are few = All-nil (IsServedCall shape)
calls_served shape (call ∷ calls) are few =
    let is = All-head (IsCallOn shape) call calls are in
    All-cons (IsServedCall shape) call calls (record { cpu = is.cpu; verb = verb_served shape call.verb is.sizes (All-head HasFewEntries call calls few) })
    (calls_served shape calls (All-tail (IsCallOn shape) call calls are) (All-tail HasFewEntries call calls few))

-- what a call that is run gives has the map's sizes
sizes_served : (shape : Shape) (verb : Verb) → IsServedVerb shape verb → HasSizes shape verb
sizes_served shape (Lookup side key) is = is
sizes_served shape (Update side flags key value) is = is
sizes_served shape (Delete key) is = is
sizes_served shape (Take key) is = is
sizes_served shape (Next None) is = tt
sizes_served shape (Next (Some key)) is = is
sizes_served shape (BatchRead remove count start flags) is = tt
sizes_served shape (BatchUpdate flags pairs) is = is.0
sizes_served shape (BatchDelete flags keys) is = is.0
sizes_served shape (Each flags None) is = tt
sizes_served shape (Each flags (Some key)) is = is

-- Calls that are run are calls for their map, and so are those of a well-formed script.
pub served_suit : (shape : Shape) (calls : List Call) → All (IsServedCall shape) calls → All (IsCallFor shape) calls
served_suit shape calls are =
    All-weaker (IsServedCall shape) (IsCallFor shape) (λ call is. record { cpu = is.cpu; sizes = sizes_served shape call.verb is.verb }) calls are

pub well_formed_suits : (script : Script) → IsWellFormed script → SuitsItsMap script
well_formed_suits script is = record {
  shape = is.shape;
  calls = All-weaker (IsCallOn script.shape) (IsCallFor script.shape) (λ call on. record { cpu = on.cpu; sizes = on.sizes }) script.calls is.calls;
  phases = is.phases;
}

pub well_formed : (script : Script) → IsScript script → IsWellFormed script
well_formed script is = is.well_formed

pub IsServed-from_script : (script : Script) → IsScript script → IsServed script
IsServed-from_script script is = record {
  bounds = bounds_of_shape script.shape is.well_formed.shape;
  calls = calls_served script.shape script.calls is.well_formed.calls is.few_entries;
}
