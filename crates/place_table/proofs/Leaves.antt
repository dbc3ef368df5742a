-- What is left of the slots of a closed table.
use Rattle.std.proofs.Common.{◌≡◌, ℕ, zero, suc, ◌+◌, ◌<◌, ◌≤◌, Bool, true, false, cond, List, [], ◌∷◌, ◌++◌, length, get_or, get_or-set_other, get_or-set_same, set, eqb, take, drop, map, nat_lt, ⊎_elim, sym, refl, ap, ◌∙◌, add-one, append-nil, subst, arith, ◌⊎◌, inr, ◌≢◌, ◌-◌, ltb, Option, Some, None, Global}
use mathlib.Core.Option.{some, some-injective, some-ne-none}
use lib.ListN.{get_elem?}
use Rattle.std.specs.Prelude.{IsTrue, IsOk, IfOk, OnOk, vec_capacity, Result, Ok, Err, not, filter, slice_get, ◌||◌, ◌&&◌, option_map, option_to_list, unwrap_or}
use Rattle.std.specs.List.{flat_map, range_with_len, list_any}
use Rattle.std.proofs.lemmas.Bool.{cases_Bool, cases_eq, cond_both, false≢true, ltb-true, ltb-false}
use Rattle.std.proofs.lemmas.Grind.{flat_map-append}
use Rattle.std.proofs.lemmas.List.{append_assoc, length-set, take_more, map-append, get_or_default, get_or-map, get_or-take, get_or-drop, get_or_append_left, get_or_push, length-map, length_push, length-take-le, length-drop, ext_get_or}
use Rattle.std.proofs.Math.Seq.{drop-append_seam, take-length}
use Rattle.std.proofs.lemmas.List.FromFn.{length-map-range_with_len, get_or-map-range_with_len}
use Rattle.std.proofs.lemmas.List.Elements.{filter-append}
use Rattle.std.proofs.lemmas.List.Folds.{list_any-append}
use Rattle.std.proofs.lemmas.Option.{get_or_from_slice_get, slice_get_within}
use Rattle.std.proofs.lemmas.Bool.Decides.{nat_tests}
use Rattle.std.proofs.lemmas.Result.{on_ok_weaker}
use Rattle.map_types.specs.declared.attr.Shape.{Shape}
use Rattle.map_types.specs.declared.kind.DomainId.{DomainId}
use Rattle.map_types.specs.declared.kind.DomainId.TheVariants as named
use Rattle.map_types.specs.Kind.{is_lru}
use Rattle.map_types.specs.Stored.{Stored}
use Rattle.map_types.proofs.RowLemmas.{by_test}
use Rattle.place_words.specs.declared.finals.Finals.{Finals}
use Rattle.place_words.specs.declared.finals.LocalFinal.{LocalFinal}
use Rattle.place_words.specs.declared.finals.SetFinal.{SetFinal}
use Rattle.place_words.specs.declared.history.Entry.{Entry}
use Rattle.place_words.specs.declared.history.LockHistory.{LockHistory}
use Rattle.place_words.specs.Histories as histories
use Rattle.place_words.specs.Histories.{content, bucket_in, freelist_in, global_in, own_in}
use Rattle.place_words.specs.Locks.{is_lock, lock_named, lock_number, lock_count, first_set, first_bucket, first_freelist}
use Rattle.place_words.specs.Logs.{bucket_at, freelist_at, locals_at, globals_at, own_at, final_set, final_local, where_lock, finals_of}
use Rattle.place_words.specs.Locals.{new_locals}
use Rattle.place_words.specs.Sets.{new_set}
use Rattle.place_words.specs.State.{is_bucket}
use Rattle.place_words.proofs.LockLemmas.{named_by_number, number_within}
use Rattle.place_words.proofs.RestCounts.{filter_range}
use Rattle.place_table.specs.declared.content.Behind.{Behind}
use Rattle.place_table.specs.declared.content.Content.{Content}
use Rattle.place_table.specs.declared.content.SlotTurns.{SlotTurns}
use Rattle.place_table.specs.declared.content.Content.TheVariants as lying
use Rattle.place_table.specs.Contents.{content_told, FitsLock}
use Rattle.place_table.specs.Closing.{AreSlots, has_lock, all_locks, history_of, state_left}
use Rattle.place_table.proofs.Worlds.{by_bool}
use Rattle.place_table.specs.declared.close.Emptied.{Emptied}
use Rattle.place_table.specs.declared.lists_left.ListsLeft.{ListsLeft}
use Rattle.place_table.specs.Leaving.{Logs, bodies_in, numbers_in, set_in, locals_in, freelists_in, sets_in, all_locals_in, spares_in, HasSizedBodies, IsCount, IsSlotHistory, HaveHistories, HaveTurnsFrom, IsEmptied, AreApart, AreContents, AreCounts, AreKept, AreTaken}

-- one body more of a copy
pub take_body : (bodies done now : List Stored) (place : ℕ) (body : Stored) → done ≡ take place bodies → slice_get bodies place ≡ Some body → now ≡ done ++ body ∷ [] → now ≡ take (place + 1) bodies
take_body bodies done now place body so_far there is =
    let front = ap (λ (list : List Stored). list ++ body ∷ []) so_far in
    let last = ap (λ (one : Stored). take place bodies ++ one ∷ []) (get_or_from_slice_get bodies place body body there) in
    is ∙ front ∙ sym (take_more bodies place body (slice_get_within bodies place body there) ∙ last)

-- ---- ranges

range_more : (a n : ℕ) → range_with_len a (suc n) ≡ range_with_len a n ++ (a + n) ∷ []
range_more a zero = ap (λ (k : ℕ). k ∷ []) (omega arith)
range_more a (suc n) =
    ap (λ (list : List ℕ). a ∷ list) (range_more (a + 1) n ∙ ap (λ (k : ℕ). range_with_len (a + 1) n ++ k ∷ []) (omega arith))

below_more : (n : ℕ) → range_with_len 0 (n + 1) ≡ range_with_len 0 n ++ n ∷ []
below_more n =
    ap (range_with_len 0) (add-one n) ∙ range_more 0 n ∙ ap (λ (k : ℕ). range_with_len 0 n ++ k ∷ []) (let e : 0 + n ≡ n = omega arith in e)

-- those below n + 1 that pass
pub filter_more : (test : ℕ → Bool) (n : ℕ) → filter test (range_with_len 0 (n + 1)) ≡ filter test (range_with_len 0 n) ++ cond (test n) (n ∷ []) []
filter_more test n = ap (filter test) (below_more n) ∙ filter-append test (range_with_len 0 n) (n ∷ [])

pub filter_passes : (test : ℕ → Bool) (n : ℕ) → test n ≡ true → filter test (range_with_len 0 (n + 1)) ≡ filter test (range_with_len 0 n) ++ n ∷ []
filter_passes test n passes = filter_more test n ∙ ap (λ (b : Bool). filter test (range_with_len 0 n) ++ cond b (n ∷ []) []) passes

pub filter_fails : (test : ℕ → Bool) (n : ℕ) → test n ≡ false → filter test (range_with_len 0 (n + 1)) ≡ filter test (range_with_len 0 n)
filter_fails test n fails =
    filter_more test n ∙ ap (λ (b : Bool). filter test (range_with_len 0 n) ++ cond b (n ∷ []) []) fails ∙ append-nil (filter test (range_with_len 0 n))

-- ---- histories

kept_last : (shape : Shape) (log : Logs) (lost : ℕ → Bool) (locks : List ℕ) (n : ℕ) → map (history_of shape log) (filter (λ k. not (lost k)) (locks ++ n ∷ []))
    ≡ map (history_of shape log) (filter (λ k. not (lost k)) locks) ++ map (history_of shape log) (cond (not (lost n)) (n ∷ []) [])
kept_last shape log lost locks n =
    ap (map (history_of shape log)) (filter-append (λ k. not (lost k)) locks (n ∷ []))
    ∙ map-append (history_of shape log) (filter (λ k. not (lost k)) locks) (cond (not (lost n)) (n ∷ []) [])

or_true : (b : Bool) → (b || true) ≡ true
or_true true = refl
or_true false = refl

or_false : (b : Bool) → (b || false) ≡ b
or_false true = refl
or_false false = refl

any_one : (lost : ℕ → Bool) (n : ℕ) (b : Bool) → lost n ≡ b → list_any lost (n ∷ []) ≡ b
any_one lost n b is = or_false (lost n) ∙ is

any_last : (lost : ℕ → Bool) (locks : List ℕ) (n : ℕ) (b : Bool) → lost n ≡ b → list_any lost (locks ++ n ∷ []) ≡ (list_any lost locks || b)
any_last lost locks n b is =
    list_any-append lost locks (n ∷ []) ∙ ap (λ (v : Bool). list_any lost locks || v) (any_one lost n b is)

-- a lock that the map doesn't have leaves none
pub no_lock : (shape : Shape) (log : Logs) (lost : ℕ → Bool) (n : ℕ) (kept : List LockHistory) (some_lost : Bool) → has_lock shape n ≡ false → AreKept shape log lost n kept some_lost → AreKept shape log lost (n + 1) kept some_lost
no_lock shape log lost n kept some_lost there is =
    let same = sym (filter_fails (has_lock shape) n there) in record {
      kept_are = is.kept_are ∙ ap (λ (ks : List ℕ). map (history_of shape log) (filter (λ k. not (lost k)) ks)) same;
      lost_is = is.lost_is ∙ ap (list_any lost) same;
    }

-- one whose record is lost leaves that
pub lost_one : (shape : Shape) (log : Logs) (lost : ℕ → Bool) (n : ℕ) (kept : List LockHistory) (some_lost : Bool) → has_lock shape n ≡ true → lost n ≡ true → AreKept shape log lost n kept some_lost → AreKept shape log lost (n + 1) kept true
lost_one shape log lost n kept some_lost there gone is =
    let locks = filter (has_lock shape) (range_with_len 0 n) in
    let more = filter_passes (has_lock shape) n there in record {
      kept_are = is.kept_are ∙ sym (
          ap (λ (ks : List ℕ). map (history_of shape log) (filter (λ k. not (lost k)) ks)) more
          ∙ kept_last shape log lost locks n
          ∙ ap (λ (b : Bool). map (history_of shape log) (filter (λ k. not (lost k)) locks) ++ map (history_of shape log) (cond (not b) (n ∷ []) [])) gone
          ∙ append-nil (map (history_of shape log) (filter (λ k. not (lost k)) locks)));
      lost_is = sym (ap (list_any lost) more ∙ any_last lost locks n true gone ∙ or_true (list_any lost locks));
    }

-- and any other its history
pub kept_one : (shape : Shape) (log : Logs) (lost : ℕ → Bool) (n : ℕ) (kept now : List LockHistory) (some_lost : Bool) (entries : List Entry) → has_lock shape n ≡ true → lost n ≡ false → entries ≡ log n
    → now ≡ kept ++ record { lock = lock_named shape n; entries = entries } ∷ [] → AreKept shape log lost n kept some_lost → AreKept shape log lost (n + 1) now some_lost
kept_one shape log lost n kept now some_lost entries there stays turns pushed is =
    let locks = filter (has_lock shape) (range_with_len 0 n) in
    let more = filter_passes (has_lock shape) n there in record {
      kept_are = pushed
          ∙ ap (λ (l : List LockHistory). l ++ record { lock = lock_named shape n; entries = entries } ∷ []) is.kept_are
          ∙ ap (λ (es : List Entry). map (history_of shape log) (filter (λ k. not (lost k)) locks) ++ record { lock = lock_named shape n; entries = es } ∷ []) turns
          ∙ sym (ap (λ (ks : List ℕ). map (history_of shape log) (filter (λ k. not (lost k)) ks)) more
          ∙ kept_last shape log lost locks n
          ∙ ap (λ (b : Bool). map (history_of shape log) (filter (λ k. not (lost k)) locks) ++ map (history_of shape log) (cond (not b) (n ∷ []) [])) stays);
      lost_is = is.lost_is ∙ sym (ap (list_any lost) more ∙ any_last lost locks n false stays ∙ or_false (list_any lost locks));
    }

-- a lock of the map whose record is lost is one of all
any_between : (test lost : ℕ → Bool) (k a n : ℕ) → a ≤ k → k < a + n → test k ≡ true → lost k ≡ true → list_any lost (filter test (range_with_len a n)) ≡ true
any_between test lost k a zero from_there under has is = absurd (omega arith)
any_between test lost k a (suc n) from_there under has is =
    by_test a k (λ _. list_any lost (filter test (range_with_len a (suc n))) ≡ true)
    (λ same. (λ i. list_any lost (cond ((ap test same ∙ has) i) (a ∷ filter test (range_with_len (a + 1) n)) (filter test (range_with_len (a + 1) n))))
    ∙ (λ i. (ap lost same ∙ is) i || list_any lost (filter test (range_with_len (a + 1) n))))
    (λ other. by_bool (test a) (λ b. list_any lost (cond b (a ∷ filter test (range_with_len (a + 1) n)) (filter test (range_with_len (a + 1) n))) ≡ true)
    (λ _. either_true (lost a) _ (any_between test lost k (a + 1) n (omega arith) (omega arith) has is))
    (λ _. any_between test lost k (a + 1) n (omega arith) (omega arith) has is))
  where
    either_true : (x y : Bool) → y ≡ true → (x || y) ≡ true
    either_true true y e = refl
    either_true false y e = e

pub any_of : (shape : Shape) (lost : ℕ → Bool) (k : ℕ) → k < lock_count shape → IsTrue (has_lock shape k) → lost k ≡ true → list_any lost (all_locks shape) ≡ true
any_of shape lost k below there_is is = any_between (has_lock shape) lost k 0 (lock_count shape) (omega arith) (omega arith) there_is is

-- ---- spares

abbrev pub number_of : Option Stored → List ℕ
number_of spare = option_to_list (option_map (λ (body : Stored). body.element) spare)

abbrev pub spares_below : List (Option Stored) → ℕ → List ℕ
spares_below spares n = flat_map (λ cpu. number_of (get_or spares cpu None)) (range_with_len 0 n)

-- one CPU more, with its spare or without one
spares_more : (spares : List (Option Stored)) (cpu : ℕ) (spare : Option Stored) → cpu < length spares → spare ≡ get_or spares cpu spare → spares_below spares (cpu + 1) ≡ spares_below spares cpu ++ number_of spare
spares_more spares cpu spare within at =
    ap (flat_map (λ c. number_of (get_or spares c None))) (below_more cpu)
    ∙ flat_map-append (λ c. number_of (get_or spares c None)) (range_with_len 0 cpu) (cpu ∷ [])
    ∙ ap (λ (last : List ℕ). spares_below spares cpu ++ last) (append-nil (number_of (get_or spares cpu None)))
    ∙ ap (λ (one : Option Stored). spares_below spares cpu ++ number_of one) (get_or_default spares cpu None spare within ∙ sym at)

pub spare_kept : (spares : List (Option Stored)) (cpu : ℕ) (spare : Option Stored) (body : Stored) (done now : List ℕ) (element : ℕ) → cpu < length spares → spare ≡ get_or spares cpu spare
    → spare ≡ Some body → element ≡ body.element → now ≡ done ++ element ∷ [] → done ≡ spares_below spares cpu → now ≡ spares_below spares (cpu + 1)
spare_kept spares cpu spare body done now element within at is number pushed so_far =
    pushed ∙ ap (λ (list : List ℕ). list ++ element ∷ []) so_far
    ∙ ap (λ (e : ℕ). spares_below spares cpu ++ e ∷ []) number
    ∙ ap (λ (one : Option Stored). spares_below spares cpu ++ number_of one) (sym is)
    ∙ sym (spares_more spares cpu spare within at)

pub no_spare : (spares : List (Option Stored)) (cpu : ℕ) (spare : Option Stored) (done : List ℕ) → cpu < length spares → spare ≡ get_or spares cpu spare → spare ≡ None → done ≡ spares_below spares cpu → done ≡ spares_below spares (cpu + 1)
no_spare spares cpu spare done within at none so_far =
    so_far ∙ sym (append-nil (spares_below spares cpu))
    ∙ ap (λ (one : Option Stored). spares_below spares cpu ++ number_of one) (sym none)
    ∙ sym (spares_more spares cpu spare within at)

-- ---- what the map holds

and_false : (b : Bool) → (b && false) ≡ false
and_false true = refl
and_false false = refl

-- CPUs that share lists have no list sets of their own
pub no_own_set : (shape : Shape) (cpu : ℕ) → shape.common ≡ true → is_lock shape (named.CpuLru cpu) ≡ false
no_own_set shape cpu common =
    ap (λ (b : Bool). (is_lru shape.kind && not b) && nat_lt cpu shape.cpus) common ∙ ap (λ (b : Bool). b && nat_lt cpu shape.cpus) (and_false (is_lru shape.kind))

pub passes_below : (k n : ℕ) → k < n → nat_lt k n ≡ true
passes_below k n less = grind (arith, nat_tests)

-- what lies under a lock of the map
at_lock : (shape : Shape) (log : Logs) (contents : List (Option Content)) (lock : DomainId) → is_lock shape lock ≡ true → AreContents shape log contents
    → (here : Content) × (get_or contents (lock_number shape lock) None ≡ Some here) × (content_told lock here ≡ content shape lock (log (lock_number shape lock))) × FitsLock shape lock here
at_lock shape log contents lock there lies =
    let k : ℕ = lock_number shape lock in
    let same : lock_named shape k ≡ lock = named_by_number shape lock there in
    let at = lies k (number_within shape lock there) (ap (is_lock shape) same ∙ there) in
    (at.0, at.1, subst (λ (l : DomainId). content_told l at.0 ≡ content shape l (log k)) same at.2, subst (λ (l : DomainId). FitsLock shape l at.0) same at.3)

bucket_told : (shape : Shape) (bucket : ℕ) (here : Content) → FitsLock shape (named.Bucket bucket) here → bodies_in (Some here) ≡ unwrap_or (bucket_in (content_told (named.Bucket bucket) here)) []
bucket_told shape bucket (lying.Bucket chain) fits = refl
bucket_told shape bucket (lying.Freelist freelist) fits = absurd fits
bucket_told shape bucket (lying.Local lists) fits = absurd fits
bucket_told shape bucket (lying.Set set) fits = absurd fits

freelist_told : (shape : Shape) (cpu : ℕ) (here : Content) → FitsLock shape (named.Freelist cpu) here → numbers_in (Some here) ≡ unwrap_or (freelist_in (content_told (named.Freelist cpu) here)) []
freelist_told shape cpu (lying.Bucket chain) fits = absurd fits
freelist_told shape cpu (lying.Freelist freelist) fits = refl
freelist_told shape cpu (lying.Local lists) fits = absurd fits
freelist_told shape cpu (lying.Set set) fits = absurd fits

own_is_told : (shape : Shape) (cpu : ℕ) (here : Content) → FitsLock shape (named.CpuLru cpu) here → set_in (Some here) ≡ final_set (unwrap_or (own_in (content_told (named.CpuLru cpu) here)) (new_set []))
own_is_told shape cpu (lying.Bucket chain) fits = absurd fits
own_is_told shape cpu (lying.Freelist freelist) fits = absurd fits
own_is_told shape cpu (lying.Local lists) fits = absurd fits
own_is_told shape cpu (lying.Set set) fits = refl

shared_is_told : (shape : Shape) (here : Content) → FitsLock shape named.Global here → set_in (Some here) ≡ final_set (unwrap_or (global_in (content_told named.Global here)) (new_set []))
shared_is_told shape (lying.Bucket chain) fits = absurd fits
shared_is_told shape (lying.Freelist freelist) fits = absurd fits
shared_is_told shape (lying.Local lists) fits = absurd fits
shared_is_told shape (lying.Set set) fits = refl

local_is_told : (shape : Shape) (cpu : ℕ) (here : Content) → FitsLock shape (named.Local cpu) here → locals_in (Some here) ≡ final_local (unwrap_or (histories.locals_in (content_told (named.Local cpu) here)) (new_locals cpu))
local_is_told shape cpu (lying.Bucket chain) fits = absurd fits
local_is_told shape cpu (lying.Freelist freelist) fits = absurd fits
local_is_told shape cpu (lying.Local lists) fits = refl
local_is_told shape cpu (lying.Set set) fits = absurd fits

-- what is told of the locks of one sort, where the map has all of them and where it has none
where_all : {A : Type 0} (shape : Shape) (lock : ℕ → DomainId) (tell : ℕ → A) (n : ℕ) (d : A) (items : List A) → ((k : ℕ) → k < n → is_lock shape (lock k) ≡ true) → length items ≡ n → ((k : ℕ) → k < n → get_or items k d ≡ tell k)
    → items ≡ where_lock shape lock tell (range_with_len 0 n)
where_all shape lock tell n d items there long each =
    ext_get_or d items (map tell (range_with_len 0 n)) (long ∙ sym (length-map-range_with_len tell 0 n))
    (λ k less. each k (omega arith) ∙ sym (get_or-map-range_with_len tell 0 n k k d (omega arith) (omega arith)))
    ∙ sym (ap (map tell) (filter_range (λ k. is_lock shape (lock k)) 0 n (λ k less. there k (omega arith))))

pub where_none : {A : Type 0} (shape : Shape) (lock : ℕ → DomainId) (tell : ℕ → A) (names : List ℕ) → ((k : ℕ) → is_lock shape (lock k) ≡ false) → where_lock shape lock tell names ≡ []
where_none shape lock tell [] none = refl
where_none shape lock tell (name ∷ names) none =
    let rest : List ℕ = filter (λ k. is_lock shape (lock k)) names in
    ap (λ (b : Bool). map tell (cond b (name ∷ rest) rest)) (none name) ∙ where_none shape lock tell names none

module _ (shape : Shape) (log : Logs) (bit : ℕ → Bool) (spares : List (Option Stored)) (contents : List (Option Content)) (lies : AreContents shape log contents) (counted : length contents ≡ lock_count shape) where
  -- the contents of the buckets' locks are their bodies
  buckets_told : (buckets : List (List Stored)) → buckets ≡ drop (first_bucket shape) (take (first_freelist shape) (map bodies_in contents))
      → buckets ≡ where_lock shape named.Bucket (bucket_at shape (state_left shape log bit spares)) (range_with_len 0 shape.buckets)
  buckets_told buckets are =
      let all : List (List Stored) = map bodies_in contents in
      let whole : length all ≡ length contents = length-map contents bodies_in in
      let front : length (take (first_freelist shape) all) ≡ first_freelist shape = length-take-le (first_freelist shape) all (omega arith) in
      let long : length (drop (first_bucket shape) (take (first_freelist shape) all)) ≡ shape.buckets = simp length-drop (omega arith) in
      where_all shape named.Bucket (bucket_at shape (state_left shape log bit spares)) shape.buckets [] buckets (λ bucket within. passes_below bucket shape.buckets within)
      (ap length are ∙ long)
      (λ bucket within.
      let at = at_lock shape log contents (named.Bucket bucket) (passes_below bucket shape.buckets within) lies in
      ap (λ (l : List (List Stored)). get_or l bucket []) are
      ∙ get_or-drop (first_bucket shape) (take (first_freelist shape) all) bucket []
      ∙ get_or-take (first_freelist shape) all (first_bucket shape + bucket) [] (omega arith)
      ∙ get_or-map bodies_in contents (first_bucket shape + bucket) None [] (omega arith)
      ∙ ap bodies_in at.1
      ∙ bucket_told shape bucket at.0 at.3
      ∙ ap (λ (c : histories.Content). unwrap_or (bucket_in c) []) at.2)

  -- those of the freelists' locks their elements, where the map doesn't evict
  freelists_told : (freelists : List (List ℕ)) → freelists ≡ freelists_in shape (drop (first_freelist shape) contents) → freelists ≡ where_lock shape named.Freelist (freelist_at shape (state_left shape log bit spares)) (range_with_len 0 shape.cpus)
  freelists_told freelists are =
      ⊎_elim
      (λ (evicts : is_lru shape.kind ≡ true).
      are ∙ ap (λ (b : Bool). cond {A = List (List ℕ)} b [] (map numbers_in (drop (first_freelist shape) contents))) evicts
      ∙ sym (where_none shape named.Freelist (freelist_at shape (state_left shape log bit spares)) (range_with_len 0 shape.cpus) (λ cpu. ap (λ (b : Bool). not b && nat_lt cpu shape.cpus) evicts)))
      (λ (plain : is_lru shape.kind ≡ false).
      let these : freelists ≡ map numbers_in (drop (first_freelist shape) contents) =
      are ∙ ap (λ (b : Bool). cond {A = List (List ℕ)} b [] (map numbers_in (drop (first_freelist shape) contents))) plain in
      let there : (cpu : ℕ) → cpu < shape.cpus → is_lock shape (named.Freelist cpu) ≡ true = λ cpu within. ap (λ (b : Bool). not b && nat_lt cpu shape.cpus) plain ∙ passes_below cpu shape.cpus within in
      where_all shape named.Freelist (freelist_at shape (state_left shape log bit spares)) shape.cpus [] freelists there
      (ap length these ∙ length-map (drop (first_freelist shape) contents) numbers_in ∙ simp length-drop (omega arith))
      (λ cpu within.
      let at = at_lock shape log contents (named.Freelist cpu) (there cpu within) lies in
      ap (λ (l : List (List ℕ)). get_or l cpu []) these
      ∙ get_or-map numbers_in (drop (first_freelist shape) contents) cpu None [] (simp length-drop (omega arith))
      ∙ ap numbers_in (get_or-drop (first_freelist shape) contents cpu None ∙ at.1)
      ∙ freelist_told shape cpu at.0 at.3
      ∙ ap (λ (c : histories.Content). unwrap_or (freelist_in c) []) at.2))
      (cases_Bool (is_lru shape.kind))

  -- those of the list sets' locks their elements and cursors, where each CPU has its own
  own_told : (sets : List SetFinal) → is_lru shape.kind ≡ true → shape.common ≡ false → sets ≡ map set_in (drop (first_set shape) (take (first_bucket shape) contents))
      → sets ≡ where_lock shape named.CpuLru (λ cpu. final_set (own_at shape (state_left shape log bit spares) cpu)) (range_with_len 0 shape.cpus)
  own_told sets evicts apart are =
      let run : List (Option Content) = drop (first_set shape) (take (first_bucket shape) contents) in
      let front : length (take (first_bucket shape) contents) ≡ first_bucket shape = length-take-le (first_bucket shape) contents (omega arith) in
      let long : length run ≡ shape.cpus = simp length-drop (omega arith) in
      let there : (cpu : ℕ) → cpu < shape.cpus → is_lock shape (named.CpuLru cpu) ≡ true = λ cpu within.
      ap (λ (b : Bool). (b && not shape.common) && nat_lt cpu shape.cpus) evicts ∙ ap (λ (b : Bool). not b && nat_lt cpu shape.cpus) apart ∙ passes_below cpu shape.cpus within in
      where_all shape named.CpuLru (λ cpu. final_set (own_at shape (state_left shape log bit spares) cpu)) shape.cpus (final_set (new_set [])) sets there (ap length are ∙ length-map run set_in ∙ long)
      (λ cpu within.
      let at = at_lock shape log contents (named.CpuLru cpu) (there cpu within) lies in
      ap (λ (l : List SetFinal). get_or l cpu (final_set (new_set []))) are
      ∙ get_or-map set_in run cpu None (final_set (new_set [])) (subst (λ (n : ℕ). cpu < n) (sym long) within)
      ∙ ap set_in (get_or-drop (first_set shape) (take (first_bucket shape) contents) cpu None ∙ get_or-take (first_bucket shape) contents (first_set shape + cpu) None (omega arith) ∙ at.1)
      ∙ own_is_told shape cpu at.0 at.3
      ∙ ap (λ (c : histories.Content). final_set (unwrap_or (own_in c) (new_set []))) at.2)

  -- and of the one that the CPUs share where there is one
  abbrev shared_now : List SetFinal
  shared_now = where_lock shape (λ one. named.Global) (λ one. final_set (globals_at shape (state_left shape log bit spares))) (range_with_len 0 1)

  shared_told : (sets : List SetFinal) → shape.common ≡ true → sets ≡ set_in (get_or (take (first_bucket shape) contents) (lock_number shape named.Global) None) ∷ [] → sets ≡ shared_now
  shared_told sets common are =
      where_all shape (λ one. named.Global) (λ one. final_set (globals_at shape (state_left shape log bit spares))) 1 (final_set (new_set [])) sets (λ one within. common) (ap length are)
      (λ one within.
      let at = at_lock shape log contents named.Global common lies in
      ap (λ (l : List SetFinal). get_or l one (final_set (new_set []))) are
      ∙ ap (λ (n : ℕ). get_or (set_in (get_or (take (first_bucket shape) contents) (lock_number shape named.Global) None) ∷ []) n (final_set (new_set []))) (let none : one ≡ 0 = omega arith in none)
      ∙ ap set_in (get_or-take (first_bucket shape) contents (lock_number shape named.Global) None (omega arith) ∙ at.1)
      ∙ shared_is_told shape at.0 at.3
      ∙ ap (λ (c : histories.Content). final_set (unwrap_or (global_in c) (new_set []))) at.2)

  sets_told : (sets : List SetFinal) → sets ≡ sets_in shape (take (first_bucket shape) contents) → sets ≡ shared_now ++ where_lock shape named.CpuLru (λ cpu. final_set (own_at shape (state_left shape log bit spares) cpu)) (range_with_len 0 shape.cpus)
  sets_told sets are =
      let own : List SetFinal = where_lock shape named.CpuLru (λ cpu. final_set (own_at shape (state_left shape log bit spares) cpu)) (range_with_len 0 shape.cpus) in
      let shared : List SetFinal = set_in (get_or (take (first_bucket shape) contents) (lock_number shape named.Global) None) ∷ [] in
      let run : List SetFinal = map set_in (drop (first_set shape) (take (first_bucket shape) contents)) in
      let no_own : ((cpu : ℕ) → is_lock shape (named.CpuLru cpu) ≡ false) → own ≡ [] = where_none shape named.CpuLru (λ cpu. final_set (own_at shape (state_left shape log bit spares) cpu)) (range_with_len 0 shape.cpus) in
      ⊎_elim
      (λ (common : shape.common ≡ true).
      shared_told sets common (are ∙ ap (λ (b : Bool). cond {A = List SetFinal} b shared (cond {A = List SetFinal} (is_lru shape.kind) run [])) common)
      ∙ sym (append-nil shared_now)
      ∙ ap (λ (none : List SetFinal). shared_now ++ none) (sym (no_own (λ cpu. no_own_set shape cpu common))))
      (λ (apart : shape.common ≡ false).
      let these : sets ≡ cond (is_lru shape.kind) run [] = are ∙ ap (λ (b : Bool). cond {A = List SetFinal} b shared (cond {A = List SetFinal} (is_lru shape.kind) run [])) apart in
      let no_shared : shared_now ≡ [] = where_none shape (λ one. named.Global) (λ one. final_set (globals_at shape (state_left shape log bit spares))) (range_with_len 0 1) (λ one. apart) in
      ⊎_elim
      (λ (evicts : is_lru shape.kind ≡ true). own_told sets evicts apart (these ∙ ap (λ (b : Bool). cond {A = List SetFinal} b run []) evicts))
      (λ (plain : is_lru shape.kind ≡ false). these ∙ ap (λ (b : Bool). cond {A = List SetFinal} b run []) plain ∙ sym (no_own (λ cpu. ap (λ (b : Bool). (b && not shape.common) && nat_lt cpu shape.cpus) plain)))
      (cases_Bool (is_lru shape.kind))
      ∙ ap (λ (none : List SetFinal). none ++ own) (sym no_shared))
      (cases_Bool shape.common)

  -- those of the local locks their elements and steal cursors
  locals_told : (locals : List LocalFinal) → locals ≡ all_locals_in shape (take (first_bucket shape) contents) → locals ≡ where_lock shape named.Local (λ cpu. final_local (locals_at shape (state_left shape log bit spares) cpu)) (range_with_len 0 shape.cpus)
  locals_told locals are =
      let tell : ℕ → LocalFinal = λ cpu. final_local (locals_at shape (state_left shape log bit spares) cpu) in
      let front : length (take (first_bucket shape) contents) ≡ first_bucket shape = length-take-le (first_bucket shape) contents (omega arith) in
      let run : List (Option Content) = take shape.cpus (take (first_bucket shape) contents) in
      ⊎_elim
      (λ (common : shape.common ≡ true).
      let these : locals ≡ map locals_in run = are ∙ ap (λ (b : Bool). cond {A = List LocalFinal} b (map locals_in run) []) common in
      let long : length run ≡ shape.cpus = length-take-le shape.cpus (take (first_bucket shape) contents) (omega arith) in
      let there : (cpu : ℕ) → cpu < shape.cpus → is_lock shape (named.Local cpu) ≡ true = λ cpu within. ap (λ (b : Bool). b && nat_lt cpu shape.cpus) common ∙ passes_below cpu shape.cpus within in
      where_all shape named.Local tell shape.cpus (final_local (new_locals 0)) locals there (ap length these ∙ length-map run locals_in ∙ long)
      (λ cpu within.
      let at = at_lock shape log contents (named.Local cpu) (there cpu within) lies in
      ap (λ (l : List LocalFinal). get_or l cpu (final_local (new_locals 0))) these
      ∙ get_or-map locals_in run cpu None (final_local (new_locals 0)) (subst (λ (n : ℕ). cpu < n) (sym long) within)
      ∙ ap locals_in (get_or-take shape.cpus (take (first_bucket shape) contents) cpu None within ∙ get_or-take (first_bucket shape) contents cpu None (omega arith) ∙ at.1)
      ∙ local_is_told shape cpu at.0 at.3
      ∙ ap (λ (c : histories.Content). final_local (unwrap_or (histories.locals_in c) (new_locals cpu))) at.2))
      (λ (apart : shape.common ≡ false).
      are ∙ ap (λ (b : Bool). cond {A = List LocalFinal} b (map locals_in run) []) apart
      ∙ sym (where_none shape named.Local tell (range_with_len 0 shape.cpus) (λ cpu. ap (λ (b : Bool). b && nat_lt cpu shape.cpus) apart)))
      (cases_Bool shape.common)

  -- all that is handed out of the map
  pub finals_left : (lists : ListsLeft) (freelists : List (Option Content)) (buckets : List (List Stored)) (finals : Finals) → AreApart shape contents lists freelists buckets
      → finals.buckets ≡ buckets → finals.freelists ≡ freelists_in shape freelists → finals.spares ≡ spares_in shape spares
      → finals.sets ≡ lists.sets.items → finals.locals ≡ lists.locals.items → finals.marked ≡ filter bit (range_with_len 0 shape.elements)
      → finals ≡ finals_of shape (state_left shape log bit spares)
  unfolding finals_of
  finals_left lists freelists buckets finals apart buckets_are freelists_are spares_are sets locals marked =
      let all_buckets = buckets_told finals.buckets (buckets_are ∙ apart.buckets_are) in
      let all_freelists = freelists_told finals.freelists (freelists_are ∙ ap (freelists_in shape) apart.freelists_are) in
      let all_sets = sets_told finals.sets (sets ∙ apart.sets_are) in
      let all_locals = locals_told finals.locals (locals ∙ apart.locals_are) in
      λ i. record { buckets = all_buckets i; freelists = all_freelists i; spares = spares_are i; sets = all_sets i; locals = all_locals i; marked = marked i }

bucket_sized : (shape : Shape) (bucket : ℕ) (here : Content) → FitsLock shape (named.Bucket bucket) here → HasSizedBodies shape (Some here)
bucket_sized shape bucket (lying.Bucket chain) fits = fits
bucket_sized shape bucket (lying.Freelist freelist) fits = absurd fits
bucket_sized shape bucket (lying.Local lists) fits = absurd fits
bucket_sized shape bucket (lying.Set set) fits = absurd fits

-- the bodies under the buckets' locks have the sizes of the map
pub buckets_sized : (shape : Shape) (log : Logs) (contents : List (Option Content)) → AreContents shape log contents → (bucket : ℕ) → bucket < shape.buckets → HasSizedBodies shape (get_or contents (first_bucket shape + bucket) None)
buckets_sized shape log contents lies bucket within =
    let at = at_lock shape log contents (named.Bucket bucket) (passes_below bucket shape.buckets within) lies in
    subst (HasSizedBodies shape) (sym at.1) (bucket_sized shape bucket at.0 at.3)

-- ---- the slots, contents and histories apart

pub part_at : {B : Type 0} (part : Behind → B) (slots : List Behind) (k : ℕ) (behind : Behind) (d : B) → get_elem? slots k ≡ some behind → get_or (map part slots) k d ≡ part behind
part_at part [] k behind d at = absurd (some-ne-none behind (sym at))
part_at part (x ∷ xs) zero behind d at = ap part (some-injective x behind at)
part_at part (x ∷ xs) (suc k) behind d at = part_at part xs k behind d at

pub contents_apart : (shape : Shape) (log : Logs) (lost : ℕ → Bool) (slots : List Behind) (contents : List (Option Content)) → AreSlots shape log lost slots → contents ≡ map (λ behind. behind.content) slots → AreContents shape log contents
contents_apart shape log lost slots contents are is = λ k below there.
    let at = are.each k below there in
    (at.2.here, ap (λ (l : List (Option Content)). get_or l k None) is ∙ part_at (λ behind. behind.content) slots k at.0 None at.1 ∙ at.2.content_is, at.2.told_is, at.2.fits)

pub histories_apart : (shape : Shape) (log : Logs) (lost : ℕ → Bool) (slots : List Behind) (histories : List (Option SlotTurns)) → AreSlots shape log lost slots → histories ≡ map (λ behind. behind.history) slots → HaveHistories shape log lost histories
histories_apart shape log lost slots histories are is = λ k below there.
    let at = are.each k below there in
    subst (IsSlotHistory (lock_named shape k) (lost k) (log k)) (sym (ap (λ (l : List (Option SlotTurns)). get_or l k None) is ∙ part_at (λ behind. behind.history) slots k at.0 None at.1)) at.2.kept

-- one part of the slots more
pub part_more : {B : Type 0} (part : Behind → B) (slots : List Behind) (i : ℕ) (behind : Behind) (first done now : List B) → i < length slots → get_elem? slots i ≡ some behind → take i (map part slots) ≡ first ++ done → now ≡ done ++ part behind ∷ []
    → take (i + 1) (map part slots) ≡ first ++ now
part_more {B} part slots i behind first done now within at so_far pushed =
    take_more (map part slots) i (part behind) (subst (λ (n : ℕ). i < n) (sym (length-map slots part)) within)
    ∙ (λ j. so_far j ++ part_at part slots i behind (part behind) at j ∷ [])
    ∙ append_assoc first done (part behind ∷ [])
    ∙ ap (λ (l : List B). first ++ l) (sym pushed)

-- one slot more is empty
pub taken_more : (filled : List Bool) (n : ℕ) → n < length filled → AreTaken n filled → AreTaken (n + 1) (set filled n false)
taken_more filled n within are = record {
  gone = λ k below. by_test k n (λ b. eqb k n ≡ b → get_or (set filled n false) k false ≡ false)
      (λ here _. ap (λ (z : ℕ). get_or (set filled n false) z false) here ∙ get_or-set_same filled n false false within)
      (λ other _. get_or-set_other filled n k false false (λ same. other same) ∙ are.gone k (omega arith)) refl;
  full = λ k past below. get_or-set_other filled n k false false (λ same. omega arith) ∙ are.full k (omega arith) (subst (λ (m : ℕ). k < m) (length-set filled n false) below);
}

-- at first all are full
pub first_taken : (filled : List Bool) → ((k : ℕ) → k < length filled → get_or filled k false ≡ true) → AreTaken 0 filled
first_taken filled full = record { gone = λ k below. absurd (omega (arith, below)); full = λ k _ below. full k below }

-- what comes out of the slots, where it was taken in order
rest_of : {A : Type 0} (xs rest : List A) (n m : ℕ) → n ≤ length xs → take m xs ≡ take n xs ++ rest → rest ≡ drop n (take m xs)
rest_of xs rest n m short is =
    sym (ap (drop n) is ∙ ap (λ (k : ℕ). drop k (take n xs ++ rest)) (sym (length-take-le n xs short)) ∙ drop-append_seam (take n xs) rest)

bodies_apart : (slots : List Behind) → map (λ (behind : Behind). bodies_in behind.content) slots ≡ map bodies_in (map (λ (behind : Behind). behind.content) slots)
bodies_apart [] = refl
bodies_apart (slot ∷ slots) = ap (λ (l : List (List Stored)). bodies_in slot.content ∷ l) (bodies_apart slots)

pub all_apart : (shape : Shape) (slots : List Behind) (lists freelists : List (Option Content)) (left : ListsLeft) (buckets : List (List Stored)) → length slots ≡ lock_count shape
    → take (first_bucket shape) (map (λ (behind : Behind). behind.content) slots) ≡ take 0 (map (λ (behind : Behind). behind.content) slots) ++ lists
    → take (first_freelist shape) (map (λ (behind : Behind). bodies_in behind.content) slots) ≡ take (first_bucket shape) (map (λ (behind : Behind). bodies_in behind.content) slots) ++ buckets
    → take (lock_count shape) (map (λ (behind : Behind). behind.content) slots) ≡ take (first_freelist shape) (map (λ (behind : Behind). behind.content) slots) ++ freelists
    → left.sets.items ≡ sets_in shape lists → left.locals.items ≡ all_locals_in shape lists
    → AreApart shape (map (λ (behind : Behind). behind.content) slots) left freelists buckets
all_apart shape slots lists freelists left buckets counted front middle back sets locals =
    let contents : List (Option Content) = map (λ (behind : Behind). behind.content) slots in
    let bodies : List (List Stored) = map (λ (behind : Behind). bodies_in behind.content) slots in
    let long : length contents ≡ lock_count shape = length-map slots (λ (behind : Behind). behind.content) ∙ counted in
    let many : length bodies ≡ lock_count shape = length-map slots (λ (behind : Behind). bodies_in behind.content) ∙ counted in record {
      sets_are = sets ∙ ap (sets_in shape) (rest_of contents lists 0 (first_bucket shape) (omega arith) front);
      locals_are = locals ∙ ap (all_locals_in shape) (rest_of contents lists 0 (first_bucket shape) (omega arith) front);
      buckets_are = rest_of bodies buckets (first_bucket shape) (first_freelist shape) (omega arith) middle ∙ ap (λ (l : List (List Stored)). drop (first_bucket shape) (take (first_freelist shape) l)) (bodies_apart slots);
      freelists_are = rest_of contents freelists (first_freelist shape) (lock_count shape) (omega arith) back
          ∙ ap (drop (first_freelist shape)) (ap (λ (n : ℕ). take n contents) (sym long) ∙ take-length contents);
    }

-- what is kept of the turns of the locks behind the buckets, as it was taken in order
pub turns_apart : (shape : Shape) (slots : List Behind) (turns : List (Option SlotTurns)) → length slots ≡ lock_count shape
    → take (lock_count shape) (map (λ (behind : Behind). behind.history) slots) ≡ take (first_freelist shape) (map (λ (behind : Behind). behind.history) slots) ++ turns
    → turns ≡ drop (first_freelist shape) (map (λ (behind : Behind). behind.history) slots)
turns_apart shape slots turns counted back =
    let all : List (Option SlotTurns) = map (λ (behind : Behind). behind.history) slots in
    let long : length all ≡ lock_count shape = length-map slots (λ (behind : Behind). behind.history) ∙ counted in
    rest_of all turns (first_freelist shape) (lock_count shape) (omega arith) back
    ∙ ap (drop (first_freelist shape)) (ap (λ (n : ℕ). take n all) (sym long) ∙ take-length all)

-- the history of a slot, and a bucket's place among the locks
pub history_in : (shape : Shape) (log : Logs) (lost : ℕ → Bool) (slots : List Behind) (k : ℕ) (behind : Behind) → HaveHistories shape log lost (map (λ (b : Behind). b.history) slots) → k < lock_count shape → get_elem? slots k ≡ some behind → has_lock shape k ≡ true → IsSlotHistory (lock_named shape k) (lost k) (log k) behind.history
history_in shape log lost slots k behind told within at there =
    subst (IsSlotHistory (lock_named shape k) (lost k) (log k)) (part_at (λ (b : Behind). b.history) slots k behind None at) (told k within there)

-- of the locks before the buckets and behind them none is a bucket's
pub no_bucket_at : (shape : Shape) (k : ℕ) → (k < first_bucket shape) ⊎ (first_freelist shape ≤ k) → is_bucket (lock_named shape k) ≡ false
unfolding lock_named
no_bucket_at shape k outside =
    cond_both (ltb k shape.cpus) (named.Local k) _ (λ (l : DomainId). is_bucket l ≡ false) (λ _. refl)
    (λ _. cond_both (eqb k shape.cpus) named.Global _ (λ (l : DomainId). is_bucket l ≡ false) (λ _. refl)
    (λ _. cond_both (ltb k (first_bucket shape)) (named.CpuLru (k - first_set shape)) _ (λ (l : DomainId). is_bucket l ≡ false) (λ _. refl)
    (λ no_set. cond_both (ltb k (first_freelist shape)) (named.Bucket (k - first_bucket shape)) (named.Freelist (k - first_freelist shape)) (λ (l : DomainId). is_bucket l ≡ false)
    (λ bucket.
    let from_there = ltb-false k (first_bucket shape) no_set in
    let below = ltb-true k (first_freelist shape) bucket in
    ⊎_elim (λ (less : k < first_bucket shape). absurd (omega arith)) (λ (past : first_freelist shape ≤ k). absurd (omega arith)) outside)
    (λ _. refl))))

-- so what is kept of the locks behind the buckets is of no bucket
pub turns_behind : (shape : Shape) (log : Logs) (lost : ℕ → Bool) (histories turns : List (Option SlotTurns)) → turns ≡ drop (first_freelist shape) histories
    → first_freelist shape + length turns ≡ lock_count shape → HaveHistories shape log lost histories → HaveTurnsFrom shape log lost (first_freelist shape) turns
turns_behind shape log lost histories turns is counted told = λ k within there.
    let n : ℕ = first_freelist shape + k in (
      no_bucket_at shape n (inr (omega arith)),
      subst (IsSlotHistory (lock_named shape n) (lost n) (log n)) (sym (ap (λ (l : List (Option SlotTurns)). get_or l k None) is ∙ get_or-drop (first_freelist shape) histories k None)) (told n (omega arith) there),
    )

-- what came out of all slots, as it was taken in order
pub emptied_by : (shape : Shape) (slots : List Behind) (emptied : Emptied) → length slots ≡ lock_count shape
    → length emptied.counts.items ≡ shape.buckets → first_freelist shape + length emptied.turns.items ≡ lock_count shape
    → length emptied.histories.kept.items ≤ first_bucket shape → lock_count shape ≤ vec_capacity emptied.histories.kept
    → ((log : Logs) (lost : ℕ → Bool) → HaveHistories shape log lost (map (λ (behind : Behind). behind.history) slots) → AreCounts shape log lost shape.buckets emptied.counts.items)
    → take (lock_count shape) (map (λ (behind : Behind). behind.history) slots) ≡ take (first_freelist shape) (map (λ (behind : Behind). behind.history) slots) ++ emptied.turns.items
    → ((log : Logs) (lost : ℕ → Bool) → HaveHistories shape log lost (map (λ (behind : Behind). behind.history) slots) → AreKept shape log lost (first_bucket shape) emptied.histories.kept.items emptied.histories.lost)
    → IsEmptied shape (map (λ (behind : Behind). behind.history) slots) emptied
emptied_by shape slots emptied long counted many few room counts turns kept = record {
  counted = counted;
  many = omega arith;
  few = few;
  room = room;
  counts = counts;
  turns = λ log lost told. turns_behind shape log lost (map (λ (behind : Behind). behind.history) slots) emptied.turns.items (turns_apart shape slots emptied.turns.items long turns) many told;
  kept = kept;
}

pub bucket_named : (shape : Shape) (bucket : ℕ) → bucket < shape.buckets → lock_named shape (first_bucket shape + bucket) ≡ named.Bucket bucket
bucket_named shape bucket within = named_by_number shape (named.Bucket bucket) (passes_below bucket shape.buckets within)

pub has_bucket : (shape : Shape) (bucket : ℕ) → bucket < shape.buckets → has_lock shape (first_bucket shape + bucket) ≡ true
has_bucket shape bucket within = ap (is_lock shape) (bucket_named shape bucket within) ∙ passes_below bucket shape.buckets within

-- one bucket more, with how many turns it has
pub counts_more : (shape : Shape) (log : Logs) (lost : ℕ → Bool) (n : ℕ) (counts now : List (Option ℕ)) (count : Option ℕ) → IsCount (lost (first_bucket shape + n)) (log (first_bucket shape + n)) count
    → now ≡ counts ++ count ∷ [] → AreCounts shape log lost n counts → AreCounts shape log lost (n + 1) now
counts_more shape log lost n counts now count is pushed are =
    let long : length now ≡ n + 1 = ap length pushed ∙ length_push counts count ∙ ap (λ (m : ℕ). m + 1) are.counted in
    let Counted : ℕ → Option ℕ → Type 0 = λ bucket found. IsCount (lost (first_bucket shape + bucket)) (log (first_bucket shape + bucket)) found in record {
      counted = long;
      each = λ bucket below. ⊎_elim {C = Counted bucket (get_or now bucket None)}
          (λ (same : bucket ≡ n).
          let last : get_or now bucket None ≡ count = ap (λ (l : List (Option ℕ)). get_or l bucket None) pushed ∙ get_or_push counts count None bucket (are.counted ∙ sym same) in
          subst (λ (z : ℕ × Option ℕ). Counted z.0 z.1) (λ i. (sym same i, sym last i)) is)
          (λ (other : bucket ≢ n).
          let front : get_or now bucket None ≡ get_or counts bucket None = ap (λ (l : List (Option ℕ)). get_or l bucket None) pushed ∙ get_or_append_left counts (count ∷ []) None bucket (omega (arith, are.counted)) in
          subst (Counted bucket) (sym front) (are.each bucket (omega arith)))
          (cases_eq bucket n);
    }

pub of_ok : {T E P : Type 0} (r : Result T E) → IsOk r → OnOk r P → P
of_ok (Ok x) is p = p
of_ok (Err e) is p = absurd (false≢true is)

-- what holds where two calls in order gave values, and where one did
pub both_ok : {T E P Q R : Type 0} (was now : Result T E) → OnOk now (IsOk was × P) → OnOk was Q → (Q → P → R) → OnOk now R
both_ok {T} {E} {P} {Q} {R} was now added so_far more = on_ok_weaker {P = IsOk was × P} now (λ (both : IsOk was × P). more (of_ok was both.0 so_far) both.1) added

pub on_ok_always : {T E P : Type 0} (r : Result T E) → P → OnOk r P
on_ok_always (Ok x) p = p
on_ok_always (Err e) p = tt

pub if_ok_both : {T E : Type 0} (P Q R : T → Type 0) (r : Result T E) → ((x : T) → P x → Q x → R x) → IfOk r P → IfOk r Q → IfOk r R
if_ok_both P Q R (Ok x) both p q = both x p q
if_ok_both P Q R (Err e) both p q = tt
