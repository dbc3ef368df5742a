-- A script that has a target: CPU 0 has no call of its last phase, and the target has keys and values of the source's sizes.
use Rattle.std.proofs.Common.{◌≡◌, ◌≢◌, ℕ, suc, ◌*◌, ◌-◌, cond, List, [], ◌∷◌, length, get_or, drop, Option, None, Some, Ok, refl, ap, sym, ◌∙◌, subst, arith}
use Rattle.std.specs.Prelude.{IfSome}
use Rattle.std.proofs.lemmas.List.Elements.{All-take}
use Rattle.map_types.specs.Creation.{creation, refusal_of, shape_of, shape_unless}
use Rattle.map_types.specs.Kind.{is_percpu}
use Rattle.map_types.specs.ValueLen.{round8}
use Rattle.map_types.specs.declared.attr.CreateAttr.{CreateAttr}
use Rattle.map_types.specs.declared.attr.Shape.{Shape}
use Rattle.map_types.specs.declared.call.Call.{Call}
use Rattle.map_types.specs.declared.refusal.CreateRefusal.{CreateRefusal}
use Rattle.map_script.specs.declared.script.Script.{Script}
use Rattle.map_script.specs.declared.script.Target.{Target}
use Rattle.map_script.specs.WellFormed.{AreOfOthers, IsCopy, IsTarget, last_from}
use Rattle.place_words.specs.Phases.{calls_before}
use Rattle.serial_laws.specs.Served.{IsScript}
use Rattle.map_run.specs.Copying.{FitsSource, LeavesOneFree}

-- The last phase

last_at : (first : ℕ) (cuts : List ℕ) (all : ℕ) → get_or (first ∷ cuts) (length cuts) all ≡ last_from first cuts
last_at first [] all = refl
last_at first (cut ∷ cuts) all = last_at cut cuts all

before_last : (cuts : List ℕ) (all : ℕ) → calls_before cuts all (length cuts) ≡ last_from 0 cuts
before_last [] all = refl
before_last (cut ∷ cuts) all = last_at cut cuts all

leaves_one_free : (script : Script) (target : Target) → IsCopy script target → LeavesOneFree script
leaves_one_free script target copy =
    let first : ℕ = calls_before script.cuts (length script.calls) (length script.cuts) in
    let others : AreOfOthers (drop first script.calls) = subst (λ (k : ℕ). AreOfOthers (drop k script.calls)) (sym (before_last script.cuts (length script.calls))) copy.last in
    All-take (λ (call : Call). call.cpu ≢ 0) (calls_before script.cuts (length script.calls) (suc (length script.cuts)) - first) (drop first script.calls) others

-- The target's sizes

made : (found : Option CreateRefusal) (shape made_shape : Shape) → shape_unless found shape ≡ Ok made_shape → shape ≡ made_shape
made None shape made_shape is = grind arith
made (Some refusal) shape made_shape is = cc

created : (attr : CreateAttr) (shape : Shape) → creation attr ≡ Ok shape → shape_of attr ≡ shape
unfolding creation
created attr shape is = made (refusal_of attr) (shape_of attr) shape is

-- what a created map has of its attributes
record HasOf (attr : CreateAttr) (shape : Shape) : Type 0 where
  kind : shape.kind ≡ attr.kind
  cpus : shape.cpus ≡ attr.cpus
  key_size : shape.key_size ≡ attr.key_size
  value_size : shape.value_size ≡ attr.value_size

first_has : (attr : CreateAttr) → HasOf attr (shape_of attr)
unfolding shape_of
first_has attr = record { kind = refl; cpus = refl; key_size = refl; value_size = refl }

has_of : (attr : CreateAttr) (shape : Shape) → creation attr ≡ Ok shape → HasOf attr shape
has_of attr shape is = subst (HasOf attr) (created attr shape is) (first_has attr)

fits_source : (script : Script) (target : Target) → creation script.attr ≡ Ok script.shape → IsTarget script.attr target → FitsSource script.shape target.shape
fits_source script target accepted is =
    let own = has_of script.attr script.shape accepted in
    let other = has_of target.attr target.shape is.created in
    let percpu : is_percpu target.shape.kind ≡ is_percpu script.shape.kind = ap is_percpu other.kind ∙ (is.values ∙ sym (ap is_percpu own.kind)) in
    let cpus : target.shape.cpus ≡ script.shape.cpus = other.cpus ∙ (is.cpus ∙ sym own.cpus) in
    let sizes : target.shape.value_size ≡ script.shape.value_size = other.value_size ∙ (is.value_size ∙ sym own.value_size) in
    record {
      keys = other.key_size ∙ (is.key_size ∙ sym own.key_size);
      values = λ i. cond (percpu i) (cpus i * round8 (sizes i)) (sizes i);
      percpu = percpu;
      size = sizes;
      cpus = cpus;
    }

-- The script

is_copy : (script : Script) (target : Target) → IsScript script → script.target ≡ Some target → IsCopy script target
is_copy script target is there = subst (λ (one : Option Target). IfSome one (IsCopy script)) there is.well_formed.target

pub free_last : (script : Script) (target : Target) → IsScript script → script.target ≡ Some target → LeavesOneFree script
free_last script target is there = leaves_one_free script target (is_copy script target is there)

pub target_is : (script : Script) (target : Target) → IsScript script → script.target ≡ Some target → IsTarget script.attr target
target_is script target is there = (is_copy script target is there).into

pub target_fits : (script : Script) (target : Target) → IsScript script → script.target ≡ Some target → FitsSource script.shape target.shape
target_fits script target is there = fits_source script target is.well_formed.created (target_is script target is there)
