-- The tests of finals against what is asked of them.
use Rattle.std.proofs.Common.{◌≡◌, ℕ, suc, ◌<◌, ◌≤◌, Bool, true, false, ◌&&◌, cond, eqb, ltb, List, [], ◌∷◌, ◌++◌, length, refl, ap, sym, ◌∙◌, ⊎_elim, arith}
use Rattle.std.specs.Prelude.{All, MatchBool}
use Rattle.std.proofs.lemmas.Bool.{and_from, and_parts, cases_lt, lt-ltb, le-ltb, eq-eqb, eqb-true}
use Rattle.std.proofs.lemmas.List.Elements.{All-nil, All-cons, All-head, All-tail, All-weaker}
use Rattle.map_types.specs.declared.attr.Shape.{Shape}
use Rattle.map_types.specs.declared.kind.MapKind.{MapKind}
use Rattle.map_types.specs.declared.kind.MapKind.TheVariants.{Hash, LruHash, LruPercpuHash, PercpuHash}
use Rattle.map_types.specs.Kind.{is_lru}
use Rattle.place_words.specs.declared.finals.Finals.{Finals}
use Rattle.place_words.proofs.PlainLaws.{chosen_second, second_chosen}
use Rattle.place_words.proofs.Supplies.{first_of_two}
use Rattle.map_report.specs.EachOnce.{elements_of, in_buckets}
use Rattle.map_report.specs.Record.{Ascend, HasElements, HasListedElements, HoldsElements, free_elements, on_lists}
use Rattle.map_report.specs.Serial.{has_spares, spare_count}
use Rattle.map_report.proofs.EachAtRest.{each_once_from}
use Rattle.record_shape.specs.WellShaped.{freelist_count, local_count, set_count}
use Rattle.finals_check.specs.Marking.{are_counted, are_once, are_placed, ascend_to}
use Rattle.finals_check.proofs.Tables.{once_permutes, permutes_once}

-- Marked elements

pub record Ascends (bound least : ℕ) (numbers : List ℕ) : Type 0 where
  pub below : All (λ (n : ℕ). n < bound) numbers
  pub from : All (λ (n : ℕ). least ≤ n) numbers
  pub ascend : Ascend numbers

all_ascend : (bound least x : ℕ) (more : List ℕ) → x < bound → least ≤ x → Ascends bound (suc x) more → Ascends bound least (x ∷ more)
all_ascend bound least x more below high there = record {
  below = All-cons (λ (n : ℕ). n < bound) x more below there.below;
  from = All-cons (λ (n : ℕ). least ≤ n) x more high (All-weaker (λ (n : ℕ). suc x ≤ n) (λ (n : ℕ). least ≤ n) (λ n up. omega (arith, up, high)) more there.from);
  ascend = (All-weaker (λ (n : ℕ). suc x ≤ n) (λ (n : ℕ). x < n) (λ n up. omega (arith, up)) more there.from, there.ascend);
}

ascending : (bound least : ℕ) (numbers : List ℕ) → ascend_to bound least numbers ≡ true → Ascends bound least numbers
ascending bound least [] is = record { below = All-nil (λ (n : ℕ). n < bound); from = All-nil (λ (n : ℕ). least ≤ n); ascend = tt }
ascending bound least (x ∷ more) is = ⊎_elim
    (λ (below : x < bound). ⊎_elim
    (λ (low : x < least).
    absurd (let no : false ≡ true = sym (ap (λ (b : Bool). cond b false (ascend_to bound (suc x) more)) (lt-ltb x least low)) ∙ (sym (ap (λ (b : Bool). cond b (cond (ltb x least) false (ascend_to bound (suc x) more)) false) (lt-ltb x bound below)) ∙ is) in cc))
    (λ (high : least ≤ x). all_ascend bound least x more below high (ascending bound (suc x) more
    (sym (ap (λ (b : Bool). cond b false (ascend_to bound (suc x) more)) (le-ltb x least high)) ∙ (sym (ap (λ (b : Bool). cond b (cond (ltb x least) false (ascend_to bound (suc x) more)) false) (lt-ltb x bound below)) ∙ is))))
    (cases_lt x least))
    (λ (past : bound ≤ x). absurd (let no : false ≡ true = sym (ap (λ (b : Bool). cond b (cond (ltb x least) false (ascend_to bound (suc x) more)) false) (le-ltb x bound past)) ∙ is in cc))
    (cases_lt x bound)

ascended : (bound least : ℕ) (numbers : List ℕ) → All (λ (n : ℕ). n < bound) numbers → All (λ (n : ℕ). least ≤ n) numbers → Ascend numbers → ascend_to bound least numbers ≡ true
ascended bound least [] below from ascend = refl
ascended bound least (x ∷ more) below from ascend =
    ap (λ (b : Bool). cond b (cond (ltb x least) false (ascend_to bound (suc x) more)) false) (lt-ltb x bound (All-head (λ (n : ℕ). n < bound) x more below))
    ∙ (ap (λ (b : Bool). cond b false (ascend_to bound (suc x) more)) (le-ltb x least (All-head (λ (n : ℕ). least ≤ n) x more from))
    ∙ ascended bound (suc x) more (All-tail (λ (n : ℕ). n < bound) x more below) (All-weaker (λ (n : ℕ). x < n) (λ (n : ℕ). suc x ≤ n) (λ n up. omega (arith, up)) more ascend.0) ascend.1)

-- Lists of a kind that a map doesn't have

lru_spares : (n : ℕ) (kind : MapKind) → is_lru kind ≡ true → cond (has_spares kind) n 0 ≡ 0
lru_spares n Hash lru = absurd cc
lru_spares n PercpuHash lru = absurd cc
lru_spares n LruHash lru = refl
lru_spares n LruPercpuHash lru = refl

no_items : {A : Type 0} (items : List A) → length items ≡ 0 → items ≡ []
no_items [] none = refl
no_items (item ∷ items) none = absurd (omega (arith, none))

first_chosen : (b : Bool) (A B : Type 0) → b ≡ true → MatchBool b A B → A
first_chosen true A B is both = both
first_chosen false A B is both = absurd cc

nothing_from : (from : List ℕ) → All (λ (n : ℕ). 0 ≤ n) from
nothing_from [] = All-nil (λ (n : ℕ). 0 ≤ n)
nothing_from (x ∷ more) = All-cons (λ (n : ℕ). 0 ≤ n) x more (omega arith) (nothing_from more)

record Counted (shape : Shape) (lists : Finals) : Type 0 where
  pub buckets : length lists.buckets ≡ shape.buckets
  pub freelists : length lists.freelists ≡ freelist_count shape
  pub spares : length lists.spares ≡ spare_count shape
  pub sets : length lists.sets ≡ set_count shape
  pub locals : length lists.locals ≡ local_count shape

module _ (shape : Shape) (lists : Finals) where
  counted : are_counted shape lists ≡ true → Counted shape lists
  counted is =
      let first = and_parts (eqb (length lists.buckets) shape.buckets) _ is in
      let second = and_parts (eqb (length lists.freelists) (freelist_count shape)) _ first.1 in
      let third = and_parts (eqb (length lists.spares) (spare_count shape)) _ second.1 in
      let fourth = and_parts (eqb (length lists.sets) (set_count shape)) (eqb (length lists.locals) (local_count shape)) third.1 in
      record {
        buckets = eqb-true (length lists.buckets) shape.buckets first.0;
        freelists = eqb-true (length lists.freelists) (freelist_count shape) second.0;
        spares = eqb-true (length lists.spares) (spare_count shape) third.0;
        sets = eqb-true (length lists.sets) (set_count shape) fourth.0;
        locals = eqb-true (length lists.locals) (local_count shape) fourth.1;
      }

  counted_back : Counted shape lists → are_counted shape lists ≡ true
  counted_back are =
      and_from (eqb (length lists.buckets) shape.buckets) _ (eq-eqb (length lists.buckets) shape.buckets are.buckets)
      (and_from (eqb (length lists.freelists) (freelist_count shape)) _ (eq-eqb (length lists.freelists) (freelist_count shape) are.freelists)
      (and_from (eqb (length lists.spares) (spare_count shape)) _ (eq-eqb (length lists.spares) (spare_count shape) are.spares)
      (and_from (eqb (length lists.sets) (set_count shape)) (eqb (length lists.locals) (local_count shape)) (eq-eqb (length lists.sets) (set_count shape) are.sets) (eq-eqb (length lists.locals) (local_count shape) are.locals))))

  -- a map that doesn't evict
  module _ (plain : is_lru shape.kind ≡ false) where
    holds_plain : Counted shape lists → Ascends shape.elements 0 lists.marked → are_placed shape lists ≡ true → HasElements shape lists
    holds_plain are marks placed = record {
      lengths = record { buckets = are.buckets; freelists = are.freelists ∙ ap (λ (b : Bool). cond b 0 shape.cpus) plain; spares = are.spares };
      each_once = each_once_from shape.elements lists (once_permutes shape.elements (elements_of lists)
          (sym (ap (λ (b : Bool). cond b (are_once shape.elements (in_buckets lists ++ free_elements lists) && are_once shape.elements (on_lists lists)) (are_once shape.elements (elements_of lists))) plain) ∙ placed));
      no_sets = no_items lists.sets (are.sets ∙ ap (λ (b : Bool). cond b (cond shape.common 1 shape.cpus) 0) plain);
      no_locals = no_items lists.locals (are.locals ∙ ap (λ (b : Bool). cond b (cond shape.common shape.cpus 0) 0) plain);
      marked = marks.below;
      in_order = marks.ascend;
    }

    counted_plain : HasElements shape lists → Counted shape lists
    counted_plain holds = record {
      buckets = holds.lengths.buckets;
      freelists = holds.lengths.freelists ∙ sym (ap (λ (b : Bool). cond b 0 shape.cpus) plain);
      spares = holds.lengths.spares;
      sets = ap length holds.no_sets ∙ sym (ap (λ (b : Bool). cond b (cond shape.common 1 shape.cpus) 0) plain);
      locals = ap length holds.no_locals ∙ sym (ap (λ (b : Bool). cond b (cond shape.common shape.cpus 0) 0) plain);
    }

    placed_plain : HasElements shape lists → are_placed shape lists ≡ true
    placed_plain holds =
        ap (λ (b : Bool). cond b (are_once shape.elements (in_buckets lists ++ free_elements lists) && are_once shape.elements (on_lists lists)) (are_once shape.elements (elements_of lists))) plain
        ∙ permutes_once shape.elements (elements_of lists) holds.each_once.each

  -- one that evicts
  module _ (lru : is_lru shape.kind ≡ true) where
    holds_listed : Counted shape lists → Ascends shape.elements 0 lists.marked → are_placed shape lists ≡ true → HasListedElements shape lists
    holds_listed are marks placed =
        let both = and_parts (are_once shape.elements (in_buckets lists ++ free_elements lists)) (are_once shape.elements (on_lists lists))
        (sym (ap (λ (b : Bool). cond b (are_once shape.elements (in_buckets lists ++ free_elements lists) && are_once shape.elements (on_lists lists)) (are_once shape.elements (elements_of lists))) lru) ∙ placed) in
        record {
          buckets = are.buckets;
          no_freelists = no_items lists.freelists (are.freelists ∙ ap (λ (b : Bool). cond b 0 shape.cpus) lru);
          no_spares = no_items lists.spares (are.spares ∙ lru_spares shape.cpus shape.kind lru);
          sets = are.sets ∙ ap (λ (b : Bool). cond b (cond shape.common 1 shape.cpus) 0) lru;
          locals = are.locals ∙ ap (λ (b : Bool). cond b (cond shape.common shape.cpus 0) 0) lru;
          each_once = once_permutes shape.elements (in_buckets lists ++ free_elements lists) both.0;
          each_listed = once_permutes shape.elements (on_lists lists) both.1;
          marked = marks.below;
          in_order = marks.ascend;
        }

    counted_listed : HasListedElements shape lists → Counted shape lists
    counted_listed holds = record {
      buckets = holds.buckets;
      freelists = ap length holds.no_freelists ∙ sym (ap (λ (b : Bool). cond b 0 shape.cpus) lru);
      spares = ap length holds.no_spares ∙ sym (lru_spares shape.cpus shape.kind lru);
      sets = holds.sets ∙ sym (ap (λ (b : Bool). cond b (cond shape.common 1 shape.cpus) 0) lru);
      locals = holds.locals ∙ sym (ap (λ (b : Bool). cond b (cond shape.common shape.cpus 0) 0) lru);
    }

    placed_listed : HasListedElements shape lists → are_placed shape lists ≡ true
    placed_listed holds =
        ap (λ (b : Bool). cond b (are_once shape.elements (in_buckets lists ++ free_elements lists) && are_once shape.elements (on_lists lists)) (are_once shape.elements (elements_of lists))) lru
        ∙ and_from (are_once shape.elements (in_buckets lists ++ free_elements lists)) (are_once shape.elements (on_lists lists))
        (permutes_once shape.elements (in_buckets lists ++ free_elements lists) holds.each_once) (permutes_once shape.elements (on_lists lists) holds.each_listed)

  -- The three tests together tell whether the finals hold each element once.
  holds_from : Counted shape lists → Ascends shape.elements 0 lists.marked → are_placed shape lists ≡ true → HoldsElements shape lists
  holds_from are marks placed = by (is_lru shape.kind) refl
    where
      by : (b : Bool) → is_lru shape.kind ≡ b → HoldsElements shape lists
      by true lru = first_of_two (is_lru shape.kind) (HasListedElements shape lists) (HasElements shape lists) lru (holds_listed lru are marks placed)
      by false plain = chosen_second (is_lru shape.kind) (HasListedElements shape lists) (HasElements shape lists) plain (holds_plain plain are marks placed)

  record Tested : Type 0 where
    pub counts : are_counted shape lists ≡ true
    pub marks : ascend_to shape.elements 0 lists.marked ≡ true
    pub places : are_placed shape lists ≡ true

  tested : HoldsElements shape lists → Tested
  tested holds = by (is_lru shape.kind) refl
    where
      by : (b : Bool) → is_lru shape.kind ≡ b → Tested
      by true lru =
          let has : HasListedElements shape lists = first_chosen (is_lru shape.kind) _ _ lru holds in
          record { counts = counted_back (counted_listed lru has); marks = ascended shape.elements 0 lists.marked has.marked (nothing_from lists.marked) has.in_order; places = placed_listed lru has }
      by false plain =
          let has : HasElements shape lists = second_chosen (is_lru shape.kind) _ _ plain holds in
          record { counts = counted_back (counted_plain plain has); marks = ascended shape.elements 0 lists.marked has.marked (nothing_from lists.marked) has.in_order; places = placed_plain plain has }

  pub placed_tells : are_counted shape lists ≡ true → ascend_to shape.elements 0 lists.marked ≡ true → (placed : Bool) → placed ≡ are_placed shape lists
      → MatchBool placed (HoldsElements shape lists) (HoldsElements shape lists → ⊥)
  placed_tells counts marks true is = holds_from (counted counts) (ascending shape.elements 0 lists.marked marks) (sym is)
  placed_tells counts marks false is = λ holds. let there = (tested holds).places in absurd (let no : false ≡ true = is ∙ there in cc)

  pub uncounted : are_counted shape lists ≡ false → HoldsElements shape lists → ⊥
  uncounted not_counted holds = let there = (tested holds).counts in absurd (let no : false ≡ true = sym not_counted ∙ there in cc)

  pub unordered : ascend_to shape.elements 0 lists.marked ≡ false → HoldsElements shape lists → ⊥
  unordered not_marks holds = let there = (tested holds).marks in absurd (let no : false ≡ true = sym not_marks ∙ there in cc)
