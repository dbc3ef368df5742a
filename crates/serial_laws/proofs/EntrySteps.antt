-- A call on one key does on the lists of a map what it does on its entries.
use Rattle.std.proofs.Common.{◌≡◌, ℕ, zero, suc, ◌+◌, ◌-◌, ◌<◌, ◌≤◌, Bool, true, false, not, cond, List, [], ◌∷◌, length, map, replicate, get_or, set, Option, Some, None, refl, ap, sym, ◌∙◌, subst, arith, length-append, nat_lt, ◌==◌, inl, inr}
use Rattle.std.specs.Prelude.{bytes_eq, find, option_map, is_some, slice_index}
use Rattle.std.specs.List.{concat, flat_map, range_with_len, before_first, after_first}
use Rattle.std.specs.Option.{option_or}
use Rattle.std.proofs.lemmas.Bool.{true≢false, cond_both, not-true, not-false, eq-eqb, ne_eqb, eqb-true, eqb-false, cases_lt}
use Rattle.std.proofs.lemmas.List.{get_or-set_same, length-map}
use Rattle.std.proofs.lemmas.List.Folds.{find-append}
use Rattle.std.proofs.lemmas.List.FromFn.{get_or-range_with_len, length-range_with_len}
use Rattle.std.proofs.lemmas.Slice.Eq.{bytes_eq-Decides}
use Rattle.place_words.specs.Bodies.{has_key}
use Rattle.key_hash.specs.Jhash.{hash}
use Rattle.key_hash.proofs.Buckets.{bucket_number-lt}
use Rattle.map_types.specs.Kind.{is_lru, is_percpu}
use Rattle.map_types.specs.Shape.{HasBounds}
use Rattle.map_types.specs.Sides.{value_read, values_written, new_values}
use Rattle.map_types.specs.Stored.{Stored}
use Rattle.map_types.specs.declared.attr.Shape.{Shape}
use Rattle.map_types.specs.declared.call.Verb.{Verb}
use Rattle.map_types.specs.declared.call.Verb.TheVariants.{Lookup, Update, Delete, Take, Next, BatchRead, BatchUpdate, BatchDelete, Each}
use Rattle.map_types.specs.declared.kind.MapKind.{MapKind}
use Rattle.map_types.specs.declared.kind.MapKind.TheVariants.{Hash, PercpuHash, LruHash, LruPercpuHash}
use Rattle.map_types.specs.declared.kind.Side.{Side}
use Rattle.map_types.specs.declared.kind.Side.TheVariants.{Sys}
use Rattle.map_types.specs.declared.refusal.Errno.{Errno}
use Rattle.map_types.specs.declared.refusal.Errno.TheVariants.{E2big, Einval}
use Rattle.map_types.specs.declared.reply.Reply.{Reply}
use Rattle.map_types.specs.declared.reply.Reply.TheVariants.{Done, Value, Refused}
use Rattle.place_words.specs.declared.finals.Finals.{Finals}
use Rattle.place_words.specs.Bodies.{present, without_key}
use Rattle.map_report.specs.Buckets.{bucket_of_key}
use Rattle.map_report.specs.EachOnce.{on_freelists, EachOnce}
use Rattle.serial_laws.specs.Entries.{Entry, entry_of, without, read, values_put, refusal, unless, taken_out, answered}
use Rattle.map_report.specs.Freelists.{stack_at, ring, first_not_empty, popped_at, popped}
use Rattle.map_report.specs.Serial.{has_spares, spare_count, opening, bucket_at, value_or_absent, new_stored, replaced, written, added, updated, deleted, after_call}
use Rattle.place_words.proofs.DoneLaws.{IsKeyVerb}
use Rattle.map_report.specs.Soundness.{HasLists}
use Rattle.key_lists.proofs.EntryLemmas.{hits, both, Turned, taken_first, taken_all, taken_none, put_in, Finds, finds}

-- the values that a key has in a bucket, and those that it has in entries
abbrev pub stored_hits : List ℕ → List Stored → List (List (List ℕ))
stored_hits key bucket = hits (λ (stored : Stored). stored.key) (λ (stored : Stored). stored.values) key bucket

abbrev pub entry_hits : List ℕ → List Entry → List (List (List ℕ))
entry_hits key entries = hits (λ (entry : Entry). entry.key) (λ (entry : Entry). entry.values) key entries

abbrev pub elements_in : List (List Stored) → List ℕ
elements_in buckets = flat_map (λ bucket. map (λ (stored : Stored). stored.element) bucket) buckets

-- each of them is one value
abbrev pub AreSingle : List (List (List ℕ)) → Type 0
AreSingle [] = Unit {0}
AreSingle (values ∷ held) = (length values ≡ 1) × AreSingle held

-- A key has in its bucket the values that it has in the entries, there is one entry for each stored element, and no key
-- has two. On a map whose CPUs share the values each has one.
pub record Agree (shape : Shape) (buckets : List (List Stored)) (entries : List Entry) : Type 0 where
  pub same : (key : List ℕ) → stored_hits key (get_or buckets (bucket_of_key shape key) []) ≡ entry_hits key entries
  pub once : (key : List ℕ) → length (entry_hits key entries) ≤ 1
  pub count : length entries ≡ length (elements_in buckets)
  pub single : is_percpu shape.kind ≡ false → (key : List ℕ) → AreSingle (entry_hits key entries)

abbrev pub Agrees : Shape → Finals → List Entry → Type 0
Agrees shape lists entries = Agree shape lists.buckets entries

-- one bucket is another
set_hits : (key : List ℕ) (buckets : List (List Stored)) (number at : ℕ) (new : List Stored) → stored_hits key new ≡ stored_hits key (get_or buckets number []) → stored_hits key (get_or (set buckets number new) at []) ≡ stored_hits key (get_or buckets at [])
set_hits key [] number at new same = refl
set_hits key (bucket ∷ buckets) zero zero new same = same
set_hits key (bucket ∷ buckets) zero (suc at) new same = refl
set_hits key (bucket ∷ buckets) (suc number) zero new same = refl
set_hits key (bucket ∷ buckets) (suc number) (suc at) new same = set_hits key buckets number at new same

elements_long : (bucket : List Stored) (buckets : List (List Stored)) → length (elements_in (bucket ∷ buckets)) ≡ length bucket + length (elements_in buckets)
elements_long bucket buckets = omega (arith, length-append (map (λ (stored : Stored). stored.element) bucket) (elements_in buckets), length-map bucket (λ (stored : Stored). stored.element))

set_count : (buckets : List (List Stored)) (number : ℕ) (new : List Stored) → number < length buckets → length (elements_in (set buckets number new)) + length (get_or buckets number []) ≡ length (elements_in buckets) + length new
set_count [] number new within = absurd (omega arith)
set_count (bucket ∷ buckets) zero new within = omega (arith, elements_long bucket buckets, elements_long new buckets)
set_count (bucket ∷ buckets) (suc number) new within =
    omega (arith, elements_long bucket buckets, elements_long bucket (set buckets number new), set_count buckets number new (omega arith))

bucket_within : (shape : Shape) (key : List ℕ) → HasBounds shape → bucket_of_key shape key < shape.buckets
bucket_within shape key bounds = bucket_number-lt (hash key shape.seed) shape.buckets bounds.buckets_power

-- what holds of a key and of each other key holds of all
of_each_key : (P : List ℕ → Type 0) (key : List ℕ) → P key → ((other : List ℕ) → bytes_eq key other ≡ false → P other) → (other : List ℕ) → P other
of_each_key P key here elsewhere other =
    elim (bytes_eq key other) as (λ b. bytes_eq key other ≡ b → P other) [
      | true ↦ λ is. let equal : key ≡ other = (bytes_eq-Decides key other).0 is in subst P equal here
      | false ↦ λ is. elsewhere other is
    ] refl

-- a change of a key, in its bucket and in the entries
pub changed : (shape : Shape) (buckets : List (List Stored)) (entries : List Entry) (key : List ℕ) (held : List (List (List ℕ))) (bucket : List Stored) (left : List Entry)
    → HasBounds shape → length buckets ≡ shape.buckets → Agree shape buckets entries → length held ≤ 1 → (is_percpu shape.kind ≡ false → AreSingle held)
    → Turned (λ (stored : Stored). stored.key) (λ (stored : Stored). stored.values) key held (get_or buckets (bucket_of_key shape key) []) bucket
    → Turned (λ (entry : Entry). entry.key) (λ (entry : Entry). entry.values) key held entries left
    → Agree shape (set buckets (bucket_of_key shape key) bucket) left
changed shape buckets entries key held bucket left bounds long agree few single stored entry =
    let within : bucket_of_key shape key < length buckets = omega (arith, bucket_within shape key bounds) in
    record {
      same =
          of_each_key (λ (other : List ℕ). stored_hits other (get_or (set buckets (bucket_of_key shape key) bucket) (bucket_of_key shape other) []) ≡ entry_hits other left) key
          (ap (stored_hits key) (get_or-set_same buckets (bucket_of_key shape key) bucket [] within) ∙ stored.here ∙ sym entry.here)
          (λ other differ. set_hits other buckets (bucket_of_key shape key) (bucket_of_key shape other) bucket (stored.elsewhere other differ) ∙ agree.same other ∙ sym (entry.elsewhere other differ));
      once =
          of_each_key (λ (other : List ℕ). length (entry_hits other left) ≤ 1) key (subst (λ (h : List (List (List ℕ))). length h ≤ 1) (sym entry.here) few)
          (λ other differ. subst (λ (h : List (List (List ℕ))). length h ≤ 1) (sym (entry.elsewhere other differ)) (agree.once other));
      count = omega (arith, set_count buckets (bucket_of_key shape key) bucket within, stored.count, entry.count, ap length (agree.same key), agree.count);
      single = λ shared.
          of_each_key (λ (other : List ℕ). AreSingle (entry_hits other left)) key (subst AreSingle (sym entry.here) (single shared))
          (λ other differ. subst AreSingle (sym (entry.elsewhere other differ)) (agree.single shared other));
    }

-- a new map has no entries
empty_at : (n at : ℕ) (key : List ℕ) → stored_hits key (get_or (replicate n []) at []) ≡ []
empty_at zero at key = refl
empty_at (suc n) zero key = refl
empty_at (suc n) (suc at) key = empty_at n at key

none_in_empty : (n : ℕ) → length (elements_in (replicate n [])) ≡ 0
none_in_empty zero = refl
none_in_empty (suc n) = none_in_empty n

pub agrees_opening : (shape : Shape) → Agrees shape (opening shape) []
unfolding opening
agrees_opening shape = record {
  same = λ key. empty_at shape.buckets (bucket_of_key shape key) key;
  once = λ key. omega arith;
  count = sym (none_in_empty shape.buckets);
  single = λ shared key. tt;
}

-- what is looked for and not found passes nowhere, and what is found passes
none_found : (test : ℕ → Bool) (xs : List ℕ) (k : ℕ) → find test xs ≡ None → k < length xs → test (get_or xs k 0) ≡ false
none_found test [] k none within = absurd (omega arith)
none_found test (x ∷ xs) zero none within =
    elim (test x) as (λ b. cond b (Some x) (find test xs) ≡ None → b ≡ false) [
      | true ↦ λ some. cc
      | false ↦ λ rest. refl
    ] none
none_found test (x ∷ xs) (suc k) none within =
    elim (test x) as (λ b. cond b (Some x) (find test xs) ≡ None → test (get_or xs k 0) ≡ false) [
      | true ↦ λ some. cc
      | false ↦ λ rest. none_found test xs k rest (omega arith)
    ] none

abbrev Passes : {X : Type 0} → (X → Bool) → Option X → Type 0
Passes test None = Unit {0}
Passes test (Some x) = test x ≡ true

found_passes : {X : Type 0} (test : X → Bool) (xs : List X) → Passes test (find test xs)
found_passes test [] = tt
found_passes test (x ∷ xs) = cond_both (test x) _ _ (Passes test) (λ here. here) (λ rest. found_passes test xs)

or_none : (first second : Option ℕ) → option_or first second ≡ None → (first ≡ None) × (second ≡ None)
or_none None second none = (refl, none)
or_none (Some x) second none = cc

-- no CPU's stack has an element where none is found from a CPU on
range_none : (test : ℕ → Bool) (first count at : ℕ) → find test (range_with_len first count) ≡ None → first ≤ at → at < first + count → test at ≡ false
range_none test first count at none low high =
    let there : get_or (range_with_len first count) (at - first) 0 ≡ first + (at - first) = get_or-range_with_len first count (at - first) 0 (omega arith) in
    let is : get_or (range_with_len first count) (at - first) 0 ≡ at = omega arith in
    ap test (sym is) ∙ none_found test (range_with_len first count) (at - first) none (omega (arith, length-range_with_len first count))

ring_none : (test : ℕ → Bool) (cpu cpus at : ℕ) → find test (ring cpu cpus) ≡ None → cpu < cpus → at < cpus → test at ≡ false
ring_none test cpu cpus at none low high =
    let parts = or_none (find test (range_with_len cpu (cpus - cpu))) (find test (range_with_len 0 cpu)) (sym (find-append test (range_with_len cpu (cpus - cpu)) (range_with_len 0 cpu)) ∙ none) in
    elim (cases_lt at cpu) [
      | inl below ↦ range_none test 0 cpu at parts.1 (omega arith) (omega arith)
      | inr above ↦ range_none test cpu (cpus - cpu) at parts.0 above (omega arith)
    ]

all_empty : (stacks : List (List ℕ)) → ((at : ℕ) → at < length stacks → length (stack_at stacks at) ≡ 0) → length (concat stacks) ≡ 0
all_empty [] empty = refl
all_empty (stack ∷ stacks) empty =
    let here : length stack ≡ 0 = empty 0 (omega arith) in
    let rest = all_empty stacks (λ at within. empty (suc at) (omega arith)) in
    omega (arith, length-append stack (concat stacks))

some_there : (stacks : List (List ℕ)) (at : ℕ) → length (stack_at stacks at) ≤ length (concat stacks)
some_there [] at = omega arith
some_there (stack ∷ stacks) zero = omega (arith, length-append stack (concat stacks))
some_there (stack ∷ stacks) (suc at) = omega (arith, some_there stacks at, length-append stack (concat stacks))

-- a pop finds an element exactly where one is free
abbrev pub Tops : {A : Type 0} → Option A → ℕ → Type 0
Tops None free = free ≡ 0
Tops (Some top) free = 1 ≤ free

first_tops : (cpu : ℕ) (stacks : List (List ℕ)) (first : Option ℕ) → first_not_empty cpu stacks ≡ first → cpu < length stacks → Tops (option_map (popped_at stacks) first) (length (concat stacks))
first_tops cpu stacks None is within =
    all_empty stacks (λ at low. eqb-true (length (stack_at stacks at)) 0 (not-false _ (ring_none (λ c. not (length (stack_at stacks c) == 0)) cpu (length stacks) at is within low)))
first_tops cpu stacks (Some at) is within =
    let passes : not (length (stack_at stacks at) == 0) ≡ true = subst (Passes (λ c. not (length (stack_at stacks c) == 0))) is (found_passes (λ c. not (length (stack_at stacks c) == 0)) (ring cpu (length stacks))) in
    let full = eqb-false (length (stack_at stacks at)) 0 (not-true _ passes) in
    omega (arith, full, some_there stacks at)

pub popped_tops : (cpu : ℕ) (stacks : List (List ℕ)) → cpu < length stacks → Tops (popped cpu stacks) (length (concat stacks))
popped_tops cpu stacks within = first_tops cpu stacks (first_not_empty cpu stacks) refl within

-- as many elements are free as there is room for keys
elements_by_kind : (shape : Shape) (kind : MapKind) → HasBounds shape → shape.kind ≡ kind → is_lru kind ≡ false → shape.elements ≡ shape.capacity + spare_count shape
elements_by_kind shape Hash bounds is built =
    let some : has_spares shape.kind ≡ true = ap has_spares is in
    bounds.spares_of_hash is ∙ rw some refl
elements_by_kind shape PercpuHash bounds is built =
    let none : has_spares shape.kind ≡ false = ap has_spares is in
    bounds.spares_of_others (λ hash. cc) ∙ rw none (omega arith)
elements_by_kind shape LruHash bounds is built = cc
elements_by_kind shape LruPercpuHash bounds is built = cc

pub room_left : (shape : Shape) (lists : Finals) (entries : List Entry) → HasBounds shape → is_lru shape.kind ≡ false → HasLists shape lists → EachOnce shape.elements lists → Agrees shape lists entries
    → length (on_freelists lists) + length entries ≡ shape.capacity
room_left shape lists entries bounds built has each agree =
    omega (arith, elements_by_kind shape shape.kind bounds refl built, has.spares, each.total, agree.count)

-- the same answer, and maps that agree
abbrev pub Follows : Shape → Finals × Reply → List Entry × Reply → Type 0
Follows shape first second = (first.1 ≡ second.1) × Agrees shape first.0 second.0

-- what a key has, in its bucket and in the entries
abbrev pub Have : Option Stored → Option Entry → List (List (List ℕ)) → Type 0
Have found entry held = Finds (λ (stored : Stored). stored.values) found held × Finds (λ (entry : Entry). entry.values) entry held

pub look_ups : (shape : Shape) (buckets : List (List Stored)) (entries : List Entry) (key : List ℕ) → Agree shape buckets entries
    → Have (present key (get_or buckets (bucket_of_key shape key) [])) (entry_of key entries) (entry_hits key entries)
look_ups shape buckets entries key agree =
    let few : length (stored_hits key (get_or buckets (bucket_of_key shape key) [])) ≤ 1 = omega (arith, agree.once key, ap length (agree.same key)) in
    (subst (Finds (λ (stored : Stored). stored.values) (present key (get_or buckets (bucket_of_key shape key) []))) (agree.same key) (finds (λ (stored : Stored). stored.key) (λ (stored : Stored). stored.values) key (get_or buckets (bucket_of_key shape key) []) few), finds (λ (entry : Entry). entry.key) (λ (entry : Entry). entry.values) key entries (agree.once key))

-- a look-up reads the same
reads : (shape : Shape) (side : Side) (cpu : ℕ) (found : Option Stored) (entry : Option Entry) (held : List (List (List ℕ))) → Have found entry held → value_or_absent shape side cpu found ≡ read shape side cpu entry
reads shape side cpu None None held have = refl
reads shape side cpu None (Some entry) held have = cc
reads shape side cpu (Some stored) None held have = cc
reads shape side cpu (Some stored) (Some entry) held have =
    let same : stored.values ≡ entry.values = cc in
    ap (λ values. Value (value_read shape side cpu values)) same

-- a bucket without the key's element
gone : (shape : Shape) (buckets : List (List Stored)) (entries : List Entry) (key : List ℕ) → Agree shape buckets entries
    → Turned (λ (stored : Stored). stored.key) (λ (stored : Stored). stored.values) key [] (get_or buckets (bucket_of_key shape key) []) (without_key key (get_or buckets (bucket_of_key shape key) []))
gone shape buckets entries key agree =
    taken_first (λ (stored : Stored). stored.key) (λ (stored : Stored). stored.values) key (get_or buckets (bucket_of_key shape key) []) (omega (arith, agree.once key, ap length (agree.same key)))

-- a key is taken out
deleted_follows : (shape : Shape) (cpu : ℕ) (key : List ℕ) (lists : Finals) (entries : List Entry) (reply again : Reply) (found : Option Stored) (entry : Option Entry)
    → HasBounds shape → HasLists shape lists → Agrees shape lists entries → reply ≡ again → Have found entry (entry_hits key entries)
    → Follows shape (deleted shape cpu key lists reply found) (taken_out key again entry entries)
deleted_follows shape cpu key lists entries reply again None None bounds has agree same have = (refl, agree)
deleted_follows shape cpu key lists entries reply again None (Some entry) bounds has agree same have = cc
deleted_follows shape cpu key lists entries reply again (Some stored) None bounds has agree same have = cc
deleted_follows shape cpu key lists entries reply again (Some stored) (Some entry) bounds has agree same have = (
  same,
  changed shape lists.buckets entries key [] _ _ bounds has.buckets agree (omega arith) (λ shared. tt) (gone shape lists.buckets entries key agree)
      (taken_all (λ (entry : Entry). entry.key) (λ (entry : Entry). entry.values) key entries),
)

-- a key is put in, with values that it has from now on
put_follows : (shape : Shape) (lists : Finals) (entries : List Entry) (key : List ℕ) (values : List (List ℕ)) (bucket : List Stored)
    → HasBounds shape → HasLists shape lists → Agrees shape lists entries → (is_percpu shape.kind ≡ false → length values ≡ 1)
    → Turned (λ (stored : Stored). stored.key) (λ (stored : Stored). stored.values) key (values ∷ []) (get_or lists.buckets (bucket_of_key shape key) []) bucket
    → Agree shape (set lists.buckets (bucket_of_key shape key) bucket) (record { key = key; values = values } ∷ without key entries)
put_follows shape lists entries key values bucket bounds has agree single stored =
    changed shape lists.buckets entries key (values ∷ []) bucket _ bounds has.buckets agree (omega arith) (λ shared. (single shared, tt)) stored
    (put_in (λ (entry : Entry). entry.key) (λ (entry : Entry). entry.values) key entries [] (without key entries) (record { key = key; values = values }) ((bytes_eq-Decides key key).1 refl)
    (taken_all (λ (entry : Entry). entry.key) (λ (entry : Entry). entry.values) key entries))

-- where the CPUs share the values of a key, it has one, before and after a write
single_new : (shape : Shape) (side : Side) (cpu : ℕ) (value : List ℕ) → is_percpu shape.kind ≡ false → new_values shape side cpu value ≡ value ∷ []
single_new shape side cpu value shared = rw shared refl

one_written : (old : List (List ℕ)) (value : List ℕ) → length old ≡ 1 → set old 0 value ≡ value ∷ []
one_written [] value one = cc
one_written (first ∷ []) value one = refl
one_written (first ∷ second ∷ old) value one = absurd (omega arith)

single_written : (shape : Shape) (side : Side) (cpu : ℕ) (old : List (List ℕ)) (value : List ℕ) → is_percpu shape.kind ≡ false → length old ≡ 1 → values_written shape side cpu old value ≡ value ∷ []
single_written shape side cpu old value shared one = rw shared (one_written old value one)

single_held : (held : List (List (List ℕ))) (values : List (List ℕ)) → AreSingle held → held ≡ values ∷ [] → length values ≡ 1
single_held held values single is = (subst AreSingle is single).0

-- an absent key is added, where there is room
added_follows : (shape : Shape) (side : Side) (cpu : ℕ) (key value : List ℕ) (lists : Finals) (entries : List Entry) (top : Option (ℕ × List (List ℕ)))
    → HasBounds shape → HasLists shape lists → Agrees shape lists entries → entry_hits key entries ≡ []
    → Tops top (length (on_freelists lists)) → length (on_freelists lists) + length entries ≡ shape.capacity
    → Follows shape (added shape side cpu key value lists top) (unless (cond (length entries == shape.capacity) (Some E2big) None) entries (record { key = key; values = new_values shape side cpu value } ∷ without key entries))
added_follows shape side cpu key value lists entries None bounds has agree absent none room =
    let full : (length entries == shape.capacity) ≡ true = eq-eqb (length entries) shape.capacity (omega arith) in
    rw full (refl, agree)
added_follows shape side cpu key value lists entries (Some top) bounds has agree absent some room =
    let free : (length entries == shape.capacity) ≡ false = ne_eqb (length entries) shape.capacity (λ same. omega arith) in
    rw free (
      refl,
      put_follows shape lists entries key (new_values shape side cpu value) _ bounds has agree (λ shared. ap length (single_new shape side cpu value shared))
          (put_in (λ (stored : Stored). stored.key) (λ (stored : Stored). stored.values) key (get_or lists.buckets (bucket_of_key shape key) []) [] (get_or lists.buckets (bucket_of_key shape key) []) (new_stored shape side cpu top.0 key value) ((bytes_eq-Decides key key).1 refl)
          (taken_none (λ (stored : Stored). stored.key) (λ (stored : Stored). stored.values) key (get_or lists.buckets (bucket_of_key shape key) []) (agree.same key ∙ absent))),
    )

-- a present key is replaced by an element of its own, or its values are written in place
kept_follows : (shape : Shape) (side : Side) (cpu : ℕ) (key value : List ℕ) (lists : Finals) (entries : List Entry) (old : Stored) (entry : Entry)
    → HasBounds shape → HasLists shape lists → Agrees shape lists entries → has_key key old ≡ true → Have (Some old) (Some entry) (entry_hits key entries)
    → Agrees shape (cond (is_percpu shape.kind) (written shape side cpu key value lists old) (replaced shape side cpu key value lists old))
    (record { key = key; values = values_written shape side cpu entry.values value } ∷ without key entries)
kept_follows shape side cpu key value lists entries old entry bounds has agree holds have =
    let same : old.values ≡ entry.values = cc in
    let again : values_written shape side cpu old.values value ≡ values_written shape side cpu entry.values value = ap (λ values. values_written shape side cpu values value) same in
    let one = λ (shared : is_percpu shape.kind ≡ false). single_written shape side cpu entry.values value shared (single_held (entry_hits key entries) entry.values (agree.single shared key) have.1) in
    let bucket = get_or lists.buckets (bucket_of_key shape key) [] in
    let left = gone shape lists.buckets entries key agree in
    cond_both (is_percpu shape.kind) _ _ (λ (now : Finals). Agrees shape now (record { key = key; values = values_written shape side cpu entry.values value } ∷ without key entries))
    (λ apart. subst (λ (values : List (List ℕ)). Agrees shape (written shape side cpu key value lists old) (record { key = key; values = values } ∷ without key entries)) again
    (put_follows shape lists entries key (values_written shape side cpu old.values value) _ bounds has agree (λ shared. absurd (true≢false (sym apart ∙ shared)))
    (put_in (λ (stored : Stored). stored.key) (λ (stored : Stored). stored.values) key bucket (before_first (has_key key) bucket) (after_first (has_key key) bucket) (record old { values = values_written shape side cpu old.values value }) holds left)))
    (λ shared. subst (λ (values : List (List ℕ)). Agrees shape (replaced shape side cpu key value lists old) (record { key = key; values = values } ∷ without key entries)) (single_new shape side cpu value shared ∙ sym (one shared))
    (put_follows shape lists entries key (new_values shape side cpu value) _ bounds has agree (λ _. ap length (single_new shape side cpu value shared))
    (put_in (λ (stored : Stored). stored.key) (λ (stored : Stored). stored.values) key bucket [] (without_key key bucket) (new_stored shape side cpu (slice_index lists.spares cpu) key value) ((bytes_eq-Decides key key).1 refl) left)))

-- an update, by its flags
updated_follows : (shape : Shape) (side : Side) (cpu flags : ℕ) (key value : List ℕ) (lists : Finals) (entries : List Entry) (found : Option Stored) (entry : Option Entry)
    → HasBounds shape → HasLists shape lists → Agrees shape lists entries → cpu < shape.cpus → length (on_freelists lists) + length entries ≡ shape.capacity
    → Passes (has_key key) found → Have found entry (entry_hits key entries)
    → Follows shape (cond (nat_lt 2 flags) (lists, Refused Einval) (updated shape side cpu flags key value lists found))
    (unless (refusal shape.capacity flags (is_some entry) (length entries)) entries (record { key = key; values = values_put shape side cpu value entry } ∷ without key entries))
updated_follows shape side cpu flags key value lists entries None None bounds has agree within room holds have =
    let after = record { key = key; values = new_values shape side cpu value } ∷ without key entries in
    let follows = λ (first : Finals × Reply) (refused : Option Errno). Follows shape first (unless refused entries after) in
    both follows (nat_lt 2 flags) _ _ _ _ (λ high. (refl, agree))
    (λ low. both follows (flags == 2) _ _ _ _ (λ two. (refl, agree))
    (λ other. added_follows shape side cpu key value lists entries (popped cpu lists.freelists) bounds has agree have.1 (popped_tops cpu lists.freelists (omega (arith, has.freelists))) room))
updated_follows shape side cpu flags key value lists entries None (Some entry) bounds has agree within room holds have = cc
updated_follows shape side cpu flags key value lists entries (Some old) None bounds has agree within room holds have = cc
updated_follows shape side cpu flags key value lists entries (Some old) (Some entry) bounds has agree within room holds have =
    let after = record { key = key; values = values_written shape side cpu entry.values value } ∷ without key entries in
    let follows = λ (first : Finals × Reply) (refused : Option Errno). Follows shape first (unless refused entries after) in
    both follows (nat_lt 2 flags) _ _ _ _ (λ high. (refl, agree))
    (λ low. both follows (flags == 1) _ _ _ _ (λ one. (refl, agree)) (λ other. (refl, kept_follows shape side cpu key value lists entries old entry bounds has agree holds have)))

-- a call on one key, whatever it told
pub key_follows : (shape : Shape) (cpu : ℕ) (verb : Verb) (told : Reply) (lists : Finals) (entries : List Entry)
    → HasBounds shape → is_lru shape.kind ≡ false → cpu < shape.cpus → IsKeyVerb verb → HasLists shape lists → EachOnce shape.elements lists → Agrees shape lists entries
    → Follows shape (after_call shape cpu verb lists) (answered shape cpu verb told entries)
unfolding after_call answered
key_follows shape cpu (Lookup side key) told lists entries bounds built within is has each agree =
    (reads shape side cpu _ _ _ (look_ups shape lists.buckets entries key agree), agree)
key_follows shape cpu (Update side flags key value) told lists entries bounds built within is has each agree =
    updated_follows shape side cpu flags key value lists entries (present key (bucket_at shape lists key)) (entry_of key entries) bounds has agree within (room_left shape lists entries bounds built has each agree)
    (found_passes (has_key key) (bucket_at shape lists key)) (look_ups shape lists.buckets entries key agree)
key_follows shape cpu (Delete key) told lists entries bounds built within is has each agree =
    deleted_follows shape cpu key lists entries Done Done (present key (bucket_at shape lists key)) (entry_of key entries) bounds has agree refl (look_ups shape lists.buckets entries key agree)
key_follows shape cpu (Take key) told lists entries bounds built within is has each agree =
    let both = look_ups shape lists.buckets entries key agree in
    deleted_follows shape cpu key lists entries _ _ (present key (bucket_at shape lists key)) (entry_of key entries) bounds has agree (reads shape Sys cpu _ _ _ both) both
key_follows shape cpu (Next key) told lists entries bounds built within is has each agree = absurd is
key_follows shape cpu (BatchRead remove count start flags) told lists entries bounds built within is has each agree = absurd is
key_follows shape cpu (BatchUpdate flags pairs) told lists entries bounds built within is has each agree = absurd is
key_follows shape cpu (BatchDelete flags keys) told lists entries bounds built within is has each agree = absurd is
key_follows shape cpu (Each flags stop) told lists entries bounds built within is has each agree = absurd is
