-- Owners and homes, and their codes.
use Rattle.std.proofs.Common.{◌≡◌, ℕ, Bool, true, false, not, ◌&&◌, cond, ltb, ◌<◌, refl, ap, ◌∙◌, sym, subst, arith}
use Rattle.std.proofs.lemmas.Bool.{and_parts, ltb-true}
use Rattle.map_types.specs.declared.attr.Shape.{Shape}
use Rattle.map_types.specs.declared.kind.DomainId.{DomainId}
use Rattle.map_types.specs.declared.kind.DomainId.TheVariants as locks
use Rattle.map_types.specs.Kind.{is_lru}
use Rattle.map_types.specs.Shape.{HasBounds}
use Rattle.map_types.specs.Creation.{IsShape}
use Rattle.map_types.proofs.CreationLemmas.{bounds_of_shape}
use Rattle.place_words.specs.declared.owner.Owner.{Owner}
use Rattle.place_words.specs.declared.owner.Owner.TheVariants.{Free, Bucket, Hand}
use Rattle.place_words.specs.declared.home.Home.{Home}
use Rattle.place_words.specs.declared.home.Home.TheVariants as homes
use Rattle.place_words.specs.Codes.{owner_code, home_code, HasOwnerCode, HasHomeCode}
use Rattle.place_words.specs.Locks.{lock_named}
use Rattle.place_words.specs.Places.{ElementPlace, under_lock, carried, home_of_place, MayOwn, MayLie, MayLieUnder}
use Rattle.place_table.specs.declared.view.View.{View}
use Rattle.place_table.specs.Plays.{MayGoHome}
use Rattle.place_table.proofs.Worlds.{true_false}

-- two owners with one code are one
pub one_owner : (owner other : Owner) → HasOwnerCode owner → HasOwnerCode other → owner_code owner ≡ owner_code other → owner ≡ other
one_owner Free Free has has_other same = refl
one_owner Free (Hand cpu) has has_other same = absurd (omega arith)
one_owner Free (Bucket bucket) has has_other same = absurd (omega arith)
one_owner (Hand cpu) Free has has_other same = absurd (omega arith)
one_owner (Hand cpu) (Hand c) has has_other same = ap Hand (omega arith)
one_owner (Hand cpu) (Bucket bucket) has has_other same = absurd (omega arith)
one_owner (Bucket bucket) Free has has_other same = absurd (omega arith)
one_owner (Bucket bucket) (Hand cpu) has has_other same = absurd (omega arith)
one_owner (Bucket bucket) (Bucket b) has has_other same = ap Bucket (omega arith)

-- and so are two homes
pub one_home : (home other : Home) → HasHomeCode home → HasHomeCode other → home_code home ≡ home_code other → home ≡ other
one_home home other has has_other same = grind arith

-- each bucket and each CPU of a map has a code
pub has_owner_code : (shape : Shape) (owner : Owner) → IsShape shape → MayOwn shape owner → HasOwnerCode owner
has_owner_code shape Free is may = tt
has_owner_code shape (Hand cpu) is may = let bounds = bounds_of_shape shape is in omega arith
has_owner_code shape (Bucket bucket) is may = let bounds = bounds_of_shape shape is in omega arith

-- and so has the home of each element
pub lies_has_code : (shape : Shape) (e : ℕ) (lru : Bool) (lock : DomainId) → HasBounds shape → is_lru shape.kind ≡ lru → MayLieUnder shape e lock → HasHomeCode (cond lru (homes.In lock) homes.Unlisted)
lies_has_code shape e false lock bounds evicts may = tt
lies_has_code shape e true (locks.Local cpu) bounds evicts may =
    let few = bounds.cpus_bounded in
    let less : cpu < shape.cpus = ltb-true cpu shape.cpus (and_parts shape.common (ltb cpu shape.cpus) may).1 in
    omega arith
lies_has_code shape e true locks.Global bounds evicts may = tt
lies_has_code shape e true (locks.CpuLru cpu) bounds evicts may =
    let few = bounds.cpus_bounded in
    let less : cpu < shape.cpus = ltb-true cpu shape.cpus (and_parts (is_lru shape.kind && not shape.common) (ltb cpu shape.cpus) may.0).1 in
    omega arith
lies_has_code shape e true (locks.Bucket bucket) bounds evicts may = absurd may
lies_has_code shape e true (locks.Freelist cpu) bounds evicts may =
    true_false (sym (and_parts (not (is_lru shape.kind)) (ltb cpu shape.cpus) may).0 ∙ ap not evicts)

carried_has_code : (shape : Shape) (owner : Owner) (cpu : ℕ) (lru : Bool) → HasBounds shape → MayOwn shape owner → owner ≡ Hand cpu → HasHomeCode (cond lru (homes.Hand cpu) homes.Unlisted)
carried_has_code shape owner cpu false bounds own is = tt
carried_has_code shape owner cpu true bounds own is =
    let few = bounds.cpus_bounded in
    let less : cpu < shape.cpus = subst (MayOwn shape) is own in
    omega arith

pub has_home_code : (shape : Shape) (e : ℕ) (owner : Owner) (place : ElementPlace) → HasBounds shape → MayOwn shape owner → MayLie shape e owner place → HasHomeCode (home_of_place shape place)
has_home_code shape e owner (under_lock k) bounds own may = lies_has_code shape e (is_lru shape.kind) (lock_named shape k) bounds refl may
has_home_code shape e owner (carried cpu) bounds own may = carried_has_code shape owner cpu (is_lru shape.kind) bounds own may.1

-- so has each home to which an element may go
pub goes_has_code : (shape : Shape) (v : View) (cpu e : ℕ) (to : Home) → IsShape shape → cpu < 16 → MayGoHome shape v cpu e to → HasHomeCode to
goes_has_code shape v cpu e homes.Unlisted is few may = tt
goes_has_code shape v cpu e (homes.In (locks.Local c)) is few may =
    let bounds = bounds_of_shape shape is in
    let less : c < shape.cpus = ltb-true c shape.cpus (and_parts shape.common (ltb c shape.cpus) may.0.there).1 in
    omega arith
goes_has_code shape v cpu e (homes.In locks.Global) is few may = tt
goes_has_code shape v cpu e (homes.In (locks.CpuLru c)) is few may = absurd may
goes_has_code shape v cpu e (homes.In (locks.Bucket bucket)) is few may = absurd may
goes_has_code shape v cpu e (homes.In (locks.Freelist c)) is few may = absurd may
goes_has_code shape v cpu e (homes.Hand c) is few may = let same = may.0 in omega arith
