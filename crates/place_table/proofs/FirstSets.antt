-- A list set as it is filled at first, and local lists, which are empty.
use Rattle.std.proofs.Common.{◌≡◌, ℕ, zero, suc, ◌+◌, ◌-◌, ◌<◌, ◌≤◌, true, cond, ltb, List, [], ◌∷◌, length, drop, get_or, All, Some, ap, ◌∙◌, sym, subst, ⊎_elim, ◌⊎◌, arith}
use Rattle.std.proofs.lemmas.Bool.{and_parts, ltb-true}
use Rattle.std.proofs.Math.Seq.{drop-cons}
use Rattle.std.proofs.lemmas.List.{length-map, length-drop}
use Rattle.std.proofs.lemmas.List.Elements.{All-nil, All-cons}
use Rattle.map_types.specs.declared.attr.Shape.{Shape}
use Rattle.map_types.specs.declared.kind.DomainId.{DomainId}
use Rattle.map_types.specs.declared.kind.DomainId.TheVariants.{Local, Global, CpuLru}
use Rattle.map_types.specs.ElementLists.{times, IsIn}
use Rattle.map_types.specs.Listed.{elements_of}
use Rattle.map_types.specs.Stored.{Stored, IsSized}
use Rattle.map_types.proofs.RowLemmas.{by_test}
use Rattle.place_words.specs.Bodies.{numbers}
use Rattle.place_words.specs.Histories.{in_locals, in_global, in_own}
use Rattle.place_words.specs.Locks.{is_lock}
use Rattle.place_words.specs.Openings.{opening_free}
use Rattle.place_words.specs.Sets.{ListSet, new_set}
use Rattle.local_lists.specs.LocalLists.{LocalView, IsLocal, local_told, empty_local}
use Rattle.lru_lists.specs.Sets.{SetView, IsSet, times_on, with_free}
use Rattle.place_words.proofs.ElementLemmas.{times_cons_same}
use Rattle.place_table.specs.declared.content.Content.TheVariants as lying
use Rattle.place_table.specs.Contents.{set_told, FitsSet}
use Rattle.place_table.specs.Opening.{IsFirstContent}
use Rattle.percpu_values.specs.BodyList.{pushed}

-- nothing is listed, and of these elements those from a place on are free
pub record IsFilled (shape : Shape) (elements : List ℕ) (from : ℕ) (set : SetView) : Type 0 where
  pub within : from ≤ length elements
  pub told : set_told set ≡ new_set (drop from elements)
  pub fits : FitsSet shape set

times_drop : (e n : ℕ) (xs : List ℕ) → times e (drop n xs) ≤ times e xs
times_drop e zero xs = omega arith
times_drop e (suc n) [] = omega arith
times_drop e (suc n) (x ∷ xs) =
    let rest = times_drop e n xs in
    by_test x e (λ b. times e (drop n xs) ≤ cond b (suc (times e xs)) (times e xs)) (λ _. omega arith) (λ _. rest)

-- the element before the place may be freed next
module _ (shape : Shape) (elements : List ℕ) (from now : ℕ) (set : SetView) (filled : IsFilled shape elements from set) (next : now + 1 ≡ from) where
  inside : now < length elements
  inside = let within = filled.within in omega arith

  from_now : drop now elements ≡ get_or elements now 0 ∷ drop from elements
  from_now = drop-cons elements now 0 inside ∙ ap (λ (n : ℕ). get_or elements now 0 ∷ drop n elements) (let more : suc now ≡ from = omega arith in more)

  its_times : times (get_or elements now 0) (drop now elements) ≡ suc (times (get_or elements now 0) (drop from elements))
  its_times = ap (times (get_or elements now 0)) from_now ∙ times_cons_same (get_or elements now 0) (drop from elements)

  pub has_room : length elements ≤ shape.elements → 1 ≤ set.free.spare
  has_room few =
      let free : length set.free.bodies ≡ length elements - from =
      sym (length-map set.free.bodies (λ (body : Stored). body.element)) ∙ (ap (λ (s : ListSet). length s.free) filled.told ∙ length-drop from elements) in
      let room = filled.fits.room in
      let within = inside in
      omega arith

  pub is_below : ((e : ℕ) → IsIn e elements → e < shape.elements) → get_or elements now 0 < set.elements
  is_below real =
      let here = its_times in
      let fewer = times_drop (get_or elements now 0) now elements in
      let less = real (get_or elements now 0) (omega arith) in
      let bound = filled.fits.bound in
      omega arith

  pub is_absent : ((e : ℕ) → times e elements ≤ 1) → times_on (get_or elements now 0) set ≡ 0
  is_absent once =
      let e : ℕ = get_or elements now 0 in
      let here = its_times in
      let fewer = times_drop e now elements in
      let at_most = once e in
      let active : times e (elements_of set.active) ≡ 0 = ap (λ (s : ListSet). times e (elements_of s.lists.active)) filled.told in
      let inactive : times e (elements_of set.inactive) ≡ 0 = ap (λ (s : ListSet). times e (elements_of s.lists.inactive)) filled.told in
      let free : times e (numbers set.free.bodies) ≡ times e (drop from elements) = ap (λ (s : ListSet). times e s.free) filled.told in
      omega arith

  pub filled_next : length elements ≤ shape.elements → (body : Stored) (after : SetView) → body.element ≡ get_or elements now 0 → IsSized shape body → after ≡ with_free (pushed body set.free) set → IsSet after → IsFilled shape elements now after
  filled_next few body after is sized after_is whole =
      let free : numbers (body ∷ set.free.bodies) ≡ drop now elements =
      (λ i. is i ∷ (filled.told i).free) ∙ sym from_now in
      let room = has_room few in
      let was = filled.fits.room in
      let within = inside in record {
        within = omega arith;
        told = ap set_told after_is ∙ (λ i. record { lists = (filled.told i).lists; free = free i });
        fits = record {
          sized = subst (λ (s : SetView). All (IsSized shape) s.free.bodies) (sym after_is) (All-cons (IsSized shape) body set.free.bodies sized filled.fits.sized);
          bound = ap (λ (s : SetView). s.elements) after_is ∙ filled.fits.bound;
          room = ap (λ (s : SetView). length s.free.bodies + s.free.spare) after_is ∙ omega arith;
          whole = whole;
        };
      }

-- a list set lies under the lock of a CPU's own set, or under the global lock
pub set_first : (shape : Shape) (lock : DomainId) (free : List ℕ) (set : SetView) → ((cpu : ℕ) × (lock ≡ CpuLru cpu)) ⊎ (lock ≡ Global)
    → free ≡ opening_free shape lock → set_told set ≡ new_set free → FitsSet shape set → IsFirstContent shape lock (Some (lying.Set set))
set_first shape lock free set among free_is told fits =
    ⊎_elim
    (λ (own : (cpu : ℕ) × (lock ≡ CpuLru cpu)). subst (λ (l : DomainId). IsFirstContent shape l (Some (lying.Set set))) (sym own.1) (ap in_own (filled own.1), fits))
    (λ (global : lock ≡ Global). subst (λ (l : DomainId). IsFirstContent shape l (Some (lying.Set set))) (sym global) (ap in_global (filled global), fits))
    among
  where
    filled : {other : DomainId} → lock ≡ other → set_told set ≡ new_set (opening_free shape other)
    filled same = told ∙ ap new_set (free_is ∙ ap (opening_free shape) same)

-- local lists are empty, and the first theft starts at their own CPU
pub locals_first : (shape : Shape) (lock : DomainId) (cpu : ℕ) (lists : LocalView) → lock ≡ Local cpu → is_lock shape lock ≡ true → lists ≡ empty_local shape.elements cpu → IsLocal lists
    → IsFirstContent shape lock (Some (lying.Local lists))
locals_first shape lock cpu lists lock_is there is whole =
    let few : cpu < shape.cpus = ltb-true cpu shape.cpus (and_parts shape.common (ltb cpu shape.cpus) (ap (is_lock shape) (sym lock_is) ∙ there)).1 in
    subst (λ (l : DomainId). IsFirstContent shape l (Some (lying.Local lists))) (sym lock_is) (
      ap (λ (now : LocalView). in_locals (local_told now)) is,
      record {
        sized = subst (λ (now : LocalView). All (IsSized shape) now.free.bodies) (sym is) (All-nil (IsSized shape));
        bound = ap (λ (now : LocalView). now.elements) is;
        room = ap (λ (now : LocalView). length now.free.bodies + now.free.spare) is ∙ omega arith;
        whole = whole;
        steal = subst (λ (now : LocalView). now.steal < shape.cpus) (sym is) few;
      },
    )
