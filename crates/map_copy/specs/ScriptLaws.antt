-- What holds of the scripts of a copy.
use Rattle.std.specs.Prelude.{◌≡◌, ℕ, ◌≤◌, All, List, length, Option, Some, Ok}
use Rattle.std.specs.List.{flat_map}
use Rattle.map_types.specs.declared.attr.CreateAttr.{CreateAttr}
use Rattle.map_types.specs.declared.attr.Shape.{Shape}
use Rattle.map_types.specs.declared.call.Call.{Call}
use Rattle.map_types.specs.declared.kind.Side.TheVariants.{Sys}
use Rattle.map_types.specs.Creation.{IsShape, creation}
use Rattle.map_types.specs.Pairs.{HaveSizes}
use Rattle.map_types.specs.ValueLen.{value_len_of}
use Rattle.map_script.specs.declared.script.Script.{Script}
use Rattle.map_script.specs.WellFormed.{HasPhases, IsCallOn, IsPairOfBytes, IsWellFormed}
use Rattle.map_copy.specs.Answers.{AreAnswered}
use Rattle.map_copy.specs.Copied.{Read, Step, Copies, first_read, pairs_in}
use Rattle.map_copy.specs.CopyScripts.{extended, target_script, put_replies, pairs_put}

-- The target's calls put the pairs of all pages, in order, and each has a reply.
abbrev pub PutsPages : Type 0
PutsPages = (attr : CreateAttr) (shape : Shape) (steps : List Step)
    → flat_map (λ (call : Call). pairs_put call.verb) (target_script attr shape steps).calls
    ≡ flat_map (λ (step : Step). pairs_in step.page) steps

abbrev pub AnswersPuts : Type 0
AnswersPuts = (attr : CreateAttr) (shape : Shape) (elements : ℕ) (from next : Option Read) (steps : List Step)
    → Copies elements from steps next
    → length (put_replies steps) ≡ length (target_script attr shape steps).calls

-- the keys and values of a page have the sizes of a map, and are bytes
pub record IsPageOf (shape : Shape) (step : Step) : Type 0 where
  pub sizes : HaveSizes shape.key_size (value_len_of shape Sys) (pairs_in step.page)
  pub bytes : All IsPairOfBytes (pairs_in step.page)

-- The target's script is well formed, of a copy that goes on or has ended.
abbrev pub HasTargetScript : Type 0
HasTargetScript = (attr : CreateAttr) (source target : Shape) (count : ℕ) (steps : List Step) (next : Option Read)
    → creation attr ≡ Ok target → IsShape source → 1 ≤ count
    → Copies source.elements (Some (first_read count)) steps next → AreAnswered source steps → All (IsPageOf target) steps
    → IsWellFormed (target_script attr target steps)

-- The source's script with the reads has calls on its map, in phases. It may have more calls than one that is read, and more room
-- for replies, since a copy's own reads count for neither.
pub record IsOnItsMap (script : Script) : Type 0 where
  pub created : creation script.attr ≡ Ok script.shape
  pub calls : All (IsCallOn script.shape) script.calls
  pub phases : HasPhases script.version (length script.calls) script.cuts

abbrev pub HasExtended : Type 0
HasExtended = (script : Script) (steps : List Step) → IsWellFormed script → IsOnItsMap (extended script steps)
