-- What follows for a shape that the creation of a map answers.
use Rattle.std.proofs.Common.{◌≡◌, ◌≢◌, ℕ, ◌+◌, ◌%◌, ◌≤◌, Bool, true, false, not, ◌&&◌, ◌||◌, cond, ltb, eqb, Option, None, Some, Result, Ok, Err, MatchResult, IfOk, refl, ap, sym, subst, ⊎_elim, arith}
use Rattle.std.specs.Int.{IsPowerOfTwo}
use Rattle.std.specs.Option.{option_or, option_map}
use Rattle.std.proofs.lemmas.Bool.{cases_Bool, and_parts, ltb-false}
use Rattle.std.proofs.lemmas.Bool.Decides.{nat_tests}
use Rattle.map_types.specs.declared.attr.CreateAttr.{CreateAttr}
use Rattle.map_types.specs.declared.attr.Shape.{Shape}
use Rattle.map_types.specs.declared.kind.MapKind.{MapKind}
use Rattle.map_types.specs.declared.kind.MapKind.TheVariants.{Hash, PercpuHash, LruHash, LruPercpuHash}
use Rattle.map_types.specs.declared.refusal.CreateRefusal.{CreateRefusal}
use Rattle.map_types.specs.declared.refusal.CreateRefusal.TheVariants as refusals
use Rattle.map_types.specs.Creation.{wants_own_lists, has_zero_size, flags_refusal, contents_refusal, capacity_of, elements_of, shape_of, pool_of, limit_passed, refusal_of, shape_unless, creation, IsShape}
use Rattle.map_types.specs.Kind.{is_lru}
use Rattle.map_types.specs.Powers.{least_power_from}
use Rattle.map_types.specs.Shape.{HasBounds}
use Rattle.map_types.proofs.PowerLemmas.{least_power_next, power_below}
use Rattle.map_types.proofs.RoundLemmas.{multiple, rounded_up, rounded_below}

-- a chain of tests that finds nothing: its first test fails, and the rest finds nothing
passed : {A : Type 0} (b : Bool) (x : A) (rest : Option A) → cond b (Some x) rest ≡ None → (b ≡ false) × (rest ≡ None)
passed true x rest found = cc
passed false x rest found = (refl, found)

neither : {A : Type 0} (x y : Option A) → option_or x y ≡ None → (x ≡ None) × (y ≡ None)
neither None y found = (refl, found)
neither (Some x) y found = cc

unmapped : {A B : Type 0} (f : A → B) (x : Option A) → option_map f x ≡ None → x ≡ None
unmapped f None found = refl
unmapped f (Some x) found = cc

made : (found : Option CreateRefusal) (shape made_shape : Shape) → shape_unless found shape ≡ Ok made_shape → (found ≡ None) × (shape ≡ made_shape)
made None shape made_shape is = (refl, grind arith)
made (Some refusal) shape made_shape is = cc

-- there is something to hold
record IsFilled (attr : CreateAttr) : Type 0 where
  entries : 1 ≤ attr.max_entries
  key : 1 ≤ attr.key_size
  value : 1 ≤ attr.value_size

filled_from_tests : (attr : CreateAttr) → has_zero_size attr ≡ false → IsFilled attr
filled_from_tests attr filled =
    record { entries = grind (arith, nat_tests); key = grind (arith, nat_tests); value = grind (arith, nat_tests) }

contents_sound : (attr : CreateAttr) → contents_refusal attr ≡ None → IsFilled attr
unfolding contents_refusal
contents_sound attr none = filled_from_tests attr (passed _ _ _ none).0

-- no limit is passed
record IsWithin (attr : CreateAttr) : Type 0 where
  cpu : 1 ≤ attr.cpus
  cpus : attr.cpus ≤ 16
  max : attr.max_entries ≤ 65536
  key : attr.key_size ≤ 512
  value : attr.value_size ≤ 4096
  pool : pool_of (shape_of attr) ≤ 268435456

cpus_from_test : (cpus : ℕ) → (eqb cpus 0 || ltb 16 cpus) ≡ false → (1 ≤ cpus) × (cpus ≤ 16)
cpus_from_test cpus within = (grind (arith, nat_tests), grind (arith, nat_tests))

limits_sound : (attr : CreateAttr) → limit_passed attr ≡ None → IsWithin attr
unfolding limit_passed
limits_sound attr none =
    let cpus = passed _ _ _ none in
    let max = passed _ _ _ cpus.1 in
    let key = passed _ _ _ max.1 in
    let value = passed _ _ _ key.1 in
    let pool = passed _ _ _ value.1 in
    let few = cpus_from_test attr.cpus cpus.0 in
    record {
      cpu = few.0;
      cpus = few.1;
      max = ltb-false 65536 attr.max_entries max.0;
      key = ltb-false 512 attr.key_size key.0;
      value = ltb-false 4096 attr.value_size value.0;
      pool = ltb-false 268435456 (pool_of (shape_of attr)) pool.0;
    }

-- attributes against which there is no reason
record IsSound (attr : CreateAttr) : Type 0 where
  filled : IsFilled attr
  within : IsWithin attr

sound : (attr : CreateAttr) → refusal_of attr ≡ None → IsSound attr
unfolding refusal_of
sound attr none =
    let after_flags = (neither (flags_refusal attr) (option_or (contents_refusal attr) (option_map refusals.Limit (limit_passed attr))) none).1 in
    let rest = neither (contents_refusal attr) (option_map refusals.Limit (limit_passed attr)) after_flags in
    record {
      filled = contents_sound attr rest.0;
      within = limits_sound attr (unmapped refusals.Limit (limit_passed attr) rest.1);
    }

-- the bounds of a capacity
record HasRoom (attr : CreateAttr) (capacity : ℕ) : Type 0 where
  some : 1 ≤ capacity
  bounded : capacity ≤ 65550
  shares : wants_own_lists attr ≡ true → capacity % attr.cpus ≡ 0

room : (attr : CreateAttr) → IsSound attr → HasRoom attr (capacity_of attr)
room attr sound =
    let up = rounded_up attr.max_entries attr.cpus in
    let below = rounded_below attr.max_entries attr.cpus sound.within.cpu sound.within.cpus sound.within.max in
    let even = multiple attr.max_entries attr.cpus sound.within.cpu in
    ⊎_elim
    (λ (own : wants_own_lists attr ≡ true). record {
      some = rw own (omega (arith, sound.filled.entries));
      bounded = rw own below;
      shares = λ _. rw own even;
    })
    (λ (common : wants_own_lists attr ≡ false). record {
      some = rw common sound.filled.entries;
      bounded = rw common (omega (arith, sound.within.max));
      shares = λ own. absurd cc;
    })
    (cases_Bool (wants_own_lists attr))

-- elements against the capacity
record HasElements (kind : MapKind) (capacity cpus elements : ℕ) : Type 0 where
  enough : capacity ≤ elements
  bounded : elements ≤ capacity + cpus
  hash : kind ≡ Hash → elements ≡ capacity + cpus
  others : kind ≢ Hash → elements ≡ capacity

elements : (kind : MapKind) (capacity cpus : ℕ) → HasElements kind capacity cpus (elements_of kind capacity cpus)
elements Hash capacity cpus =
    record { enough = omega arith; bounded = omega arith; hash = λ _. refl; others = λ not_hash. absurd (not_hash refl) }
elements PercpuHash capacity cpus =
    record { enough = omega arith; bounded = omega arith; hash = λ is. cc; others = λ _. refl }
elements LruHash capacity cpus =
    record { enough = omega arith; bounded = omega arith; hash = λ is. cc; others = λ _. refl }
elements LruPercpuHash capacity cpus =
    record { enough = omega arith; bounded = omega arith; hash = λ is. cc; others = λ _. refl }

-- buckets for a capacity
record HasBuckets (capacity buckets : ℕ) : Type 0 where
  enough : capacity ≤ buckets
  bounded : buckets ≤ 131072
  power : IsPowerOfTwo buckets

buckets : (capacity : ℕ) → capacity ≤ 65550 → HasBuckets capacity (least_power_from capacity)
buckets capacity bounded =
    let next = least_power_next capacity in
    record {
      enough = next.1;
      bounded = power_below _ next.0 (omega (arith, next.2));
      power = next.0;
    }

-- whose lists are whose
common_only : (own lru : Bool) → (lru && not own) ≡ true → lru ≡ true
common_only own lru common = (and_parts lru (not own) common).0

own_lists : (own lru : Bool) → lru ≡ true → (lru && not own) ≡ false → own ≡ true
own_lists true lru evicts apart = refl
own_lists false true evicts apart = cc
own_lists false false evicts apart = cc

bounds : (attr : CreateAttr) → IsSound attr → HasBounds (shape_of attr)
unfolding shape_of
bounds attr sound =
    let capacity = capacity_of attr in
    let held = room attr sound in
    let numbered = elements attr.kind capacity attr.cpus in
    let spread = buckets capacity held.bounded in
    record {
      some_cpu = sound.within.cpu;
      cpus_bounded = sound.within.cpus;
      some_capacity = held.some;
      capacity_bounded = held.bounded;
      capacity_in_elements = numbered.enough;
      elements_bounded = omega (arith, numbered.bounded, held.bounded, sound.within.cpus);
      capacity_in_buckets = spread.enough;
      buckets_bounded = spread.bounded;
      buckets_power = spread.power;
      some_key = sound.filled.key;
      key_bounded = sound.within.key;
      some_value = sound.filled.value;
      value_bounded = sound.within.value;
      pool_bounded = sound.within.pool;
      spares_of_hash = numbered.hash;
      spares_of_others = numbered.others;
      common_evicts = common_only (wants_own_lists attr) (is_lru attr.kind);
      equal_shares = λ evicts apart. held.shares (own_lists (wants_own_lists attr) (is_lru attr.kind) evicts apart);
    }

-- each created map has the bounds
pub bounds_of_shape : (shape : Shape) → IsShape shape → HasBounds shape
unfolding creation
bounds_of_shape shape is =
    let parts = made _ _ _ is.accepted in
    subst HasBounds parts.1 (bounds is.attr (sound is.attr parts.0))

-- what the creation answers, by what each group of rules says
pub flags_refuse : (attr : CreateAttr) (refusal : CreateRefusal) → flags_refusal attr ≡ Some refusal → Err refusal ≡ creation attr
unfolding creation refusal_of
flags_refuse attr refusal flags = rw flags refl

pub contents_refuse : (attr : CreateAttr) (refusal : CreateRefusal) → flags_refusal attr ≡ None → contents_refusal attr ≡ Some refusal → Err refusal ≡ creation attr
unfolding creation refusal_of
contents_refuse attr refusal flags contents = rw (flags, contents) refl

pub limits_answer : (attr : CreateAttr) (answer : Result Shape CreateRefusal) → flags_refusal attr ≡ None → contents_refusal attr ≡ None → MatchResult answer (λ shape. (limit_passed attr ≡ None) × (shape ≡ shape_of attr)) (λ refusal. option_map refusals.Limit (limit_passed attr) ≡ Some refusal) → answer ≡ creation attr
unfolding creation refusal_of
limits_answer attr (Ok shape) flags contents made = rw (flags, contents, made.0) (ap Ok made.1)
limits_answer attr (Err refusal) flags contents limit = rw (flags, contents, limit) refl

-- what is accepted is a shape, with its bounds
pub shape_if_ok : (attr : CreateAttr) (answer : Result Shape CreateRefusal) → answer ≡ creation attr → IfOk answer IsShape
shape_if_ok attr (Ok shape) is = record { attr = attr; accepted = sym is }
shape_if_ok attr (Err refusal) is = tt

pub bounds_if_ok : (answer : Result Shape CreateRefusal) → IfOk answer IsShape → IfOk answer HasBounds
bounds_if_ok (Ok shape) is = bounds_of_shape shape is
bounds_if_ok (Err refusal) is = tt
