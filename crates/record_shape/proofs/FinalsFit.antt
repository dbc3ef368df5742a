-- What a map holds at the end fits.
use Rattle.std.proofs.Common.{◌≡◌, ℕ, suc, ◌+◌, ◌<◌, ◌≤◌, Bool, true, false, not, cond, ltb, ◌&&◌, List, [], ◌∷◌, ◌++◌, length, get_or, append-nil, refl, ap, ◌∙◌, sym, subst, ⊎_elim, arith}
use Rattle.std.specs.Prelude.{All, IfSome, IsTrue, MatchBool, MatchOption, None, Option, Some, slice_get}
use Rattle.std.specs.List.{range_with_len}
use Rattle.std.proofs.lemmas.Bool.{and_from, cases_lt, le-ltb, lt-ltb}
use Rattle.std.proofs.lemmas.List.Elements.{All-from_get_or, All-head, All-tail, All-weaker}
use Rattle.std.proofs.lemmas.List.Sorted.{All-permutation}
use Rattle.std.proofs.lemmas.Option.{same_Some}
use Rattle.map_types.specs.declared.attr.Shape.{Shape}
use Rattle.map_types.specs.declared.kind.DomainId.{DomainId}
use Rattle.map_types.specs.declared.kind.DomainId.TheVariants.{Bucket, CpuLru, Freelist, Global, Local}
use Rattle.map_types.specs.declared.kind.MapKind.{MapKind}
use Rattle.map_types.specs.declared.kind.MapKind.TheVariants.{Hash, LruHash, LruPercpuHash, PercpuHash}
use Rattle.map_types.specs.ElementLists.{IsIn, one, times}
use Rattle.map_types.specs.Kind.{is_lru}
use Rattle.map_types.specs.Listed.{elements_of}
use Rattle.map_types.specs.Stored.{Stored}
use Rattle.map_types.proofs.RowLemmas.{by_test, times_append}
use Rattle.place_words.specs.declared.finals.Finals.{Finals}
use Rattle.place_words.specs.declared.finals.LocalFinal.{LocalFinal}
use Rattle.place_words.specs.declared.finals.SetFinal.{SetFinal}
use Rattle.place_words.specs.declared.history.Entry.{Entry}
use Rattle.place_words.specs.Bodies.{numbers}
use Rattle.place_words.specs.Cursors.{HasCursorWithin, IsCursorWithin}
use Rattle.place_words.specs.Histories.{Content, content, content_after, global_in, in_bucket, in_global, in_locals, in_own, locals_in, on_freelist, opening_content, own_in, replayed}
use Rattle.place_words.specs.Locals.{LocalLists}
use Rattle.place_words.specs.Locks.{is_lock}
use Rattle.place_words.specs.Logs.{final_local, final_set}
use Rattle.place_words.specs.Named.{entries_of}
use Rattle.place_words.specs.Sets.{ListSet}
use Rattle.place_words.proofs.BucketLaws.{times_more}
use Rattle.place_words.proofs.ChaseDone.{times_one}
use Rattle.place_words.proofs.Cursors.{cursor_stays}
use Rattle.place_words.proofs.PlainLaws.{chosen_second, second_chosen}
use Rattle.place_words.proofs.Supplies.{first_of_two}
use Rattle.map_script.specs.declared.script.Script.{Script}
use Rattle.map_script.specs.WellFormed.{IsWellFormed}
use Rattle.map_report.specs.declared.record.RunRecord.{RunRecord}
use Rattle.map_report.specs.EachOnce.{elements_of as all_elements, in_buckets, on_freelists}
use Rattle.map_report.specs.Record.{Ascend, HasElements, HasListedElements, IsRecord}
use Rattle.map_report.specs.Serial.{has_spares}
use Rattle.map_report.proofs.ListedAtRest.{all_to}
use Rattle.record_shape.specs.Fits.{AllFit, ascends, ascends_above}
use Rattle.place_words.specs.Real.{IsReal}
use Rattle.record_shape.specs.OfTable.{IsOfTable}
use Rattle.record_shape.specs.ShapedParts.{AreElements, IsElement, IsU32, LocalListsFit, MarksFit, OptionFits, SetFits, StoredFits}
use Rattle.record_shape.specs.WellShaped.{FinalsFit, SoManyFit}
use Rattle.record_shape.proofs.Premises.{BodyFits, ContentFits}

-- ---- lists of which each fits

pub fit_from_all : {A : Type 0} (Fits : A → Type 0) (items : List A) → All Fits items → AllFit Fits items
fit_from_all Fits [] all = tt
fit_from_all Fits (item ∷ items) all = (All-head Fits item items all, fit_from_all Fits items (All-tail Fits item items all))

fit_back : {A : Type 0} (Fits : A → Type 0) (front back : List A) → AllFit Fits (front ++ back) → AllFit Fits back
fit_back Fits [] back fit = fit
fit_back Fits (item ∷ front) back fit = fit_back Fits front back fit.1

-- one that stands in such a list fits
fit_inside : (Fits : ℕ → Type 0) (e : ℕ) (elements : List ℕ) → AllFit Fits elements → IsIn e elements → Fits e
fit_inside Fits e [] fit inside = absurd (omega (arith, inside))
fit_inside Fits e (x ∷ elements) fit inside =
    by_test x e (λ b. 0 < cond b (suc (times e elements)) (times e elements) → Fits e)
    (λ is _. subst Fits is fit.0)
    (λ other more. fit_inside Fits e elements fit.1 more)
    inside

-- what is told of a place of a list, and fits
abbrev ToldAt : {A : Type 0} → (A → Type 0) → List A → ℕ → Type 0
ToldAt {A} Fits items k = (item : A) × (slice_get items k ≡ Some item) × Fits item

fit_told : {A : Type 0} (Fits : A → Type 0) (items : List A) → ((k : ℕ) → k < length items → ToldAt Fits items k) → AllFit Fits items
fit_told Fits [] each = tt
fit_told Fits (item ∷ items) each =
    let here : ToldAt Fits (item ∷ items) 0 = each 0 (omega arith) in
    (subst Fits (sym (same_Some item here.0 here.1)) here.2, fit_told Fits items (λ k below. each (suc k) (omega (arith, below))))

-- elements that stand in a list once at most, and only where they are below a bound
fit_below : (bound : ℕ) (elements : List ℕ) → ((e : ℕ) → times e elements ≤ one (ltb e bound)) → AllFit (λ (e : ℕ). e < bound) elements
fit_below bound [] real = tt
fit_below bound (e ∷ elements) real = (here, fit_below bound elements (λ x. omega (arith, times_more x e elements, real x)))
  where
    here : e < bound
    here =
        ⊎_elim (λ (below : e < bound). below)
        (λ (past : bound ≤ e). let none : one (ltb e bound) ≡ 0 = ap one (le-ltb e bound past) in absurd (omega (arith, real e, times_more e e elements, times_one e, none)))
        (cases_lt e bound)

-- numbers that ascend
above_all : (least : ℕ) (elements : List ℕ) → All (λ (e : ℕ). least < e) elements → Ascend elements → ascends_above least elements ≡ true
above_all least [] above ascend = refl
above_all least (e ∷ elements) above ascend =
    and_from (ltb least e) (ascends_above e elements) (lt-ltb least e (All-head (λ (x : ℕ). least < x) e elements above)) (above_all e elements ascend.0 ascend.1)

pub all_ascend : (elements : List ℕ) → Ascend elements → ascends elements ≡ true
all_ascend [] ascend = refl
all_ascend (e ∷ elements) ascend = above_all e elements ascend.0 ascend.1

pub marks_fit : (shape : Shape) (elements : List ℕ) → All (λ (e : ℕ). e < shape.elements) elements → Ascend elements → MarksFit shape elements
marks_fit shape elements below ascend = record {
  below = fit_from_all (IsElement shape) elements below;
  ascending = all_ascend elements ascend;
}

-- ---- what lies under a lock

bodies_fit : (shape : Shape) (bodies : List Stored) → AllFit (IsElement shape) (numbers bodies) → AllFit (BodyFits shape) bodies → AllFit (StoredFits shape) bodies
bodies_fit shape [] elements fit = tt
bodies_fit shape (body ∷ bodies) elements fit =
    (record { element = elements.0; key = fit.0.key; parts = fit.0.parts; values = fit.0.values }, bodies_fit shape bodies elements.1 fit.1)

cursor_fits : (bound : ℕ) (cursor : Option ℕ) (elements : List ℕ) → AllFit (λ (e : ℕ). e < bound) elements → IfSome cursor (λ (e : ℕ). IsIn e elements) → OptionFits bound cursor
cursor_fits bound None elements fit within = tt
cursor_fits bound (Some e) elements fit within = fit_inside (λ (x : ℕ). x < bound) e elements fit within

set_fits : (shape : Shape) (set : ListSet) → IsReal shape (in_own set) → IsCursorWithin set → SetFits shape (final_set set)
set_fits shape set real within =
    let active : List ℕ = elements_of set.lists.active in
    let inactive : List ℕ = elements_of set.lists.inactive in
    let counts : (e : ℕ) → times e set.free + (times e active + times e inactive) ≤ one (ltb e shape.elements) =
    λ e. omega (arith, real e, times_append e set.free (active ++ inactive), times_append e active inactive) in
    let inactive_fit : AreElements shape inactive = fit_below shape.elements inactive (λ e. omega (arith, counts e)) in
    record {
      active = fit_below shape.elements active (λ e. omega (arith, counts e));
      inactive = inactive_fit;
      free = fit_below shape.elements set.free (λ e. omega (arith, counts e));
      cursor = cursor_fits shape.elements set.lists.cursor inactive inactive_fit within;
    }

locals_fit : (shape : Shape) (lists : LocalLists) → IsReal shape (in_locals lists) → IsU32 lists.steal → LocalListsFit shape (final_local lists)
locals_fit shape lists real steal =
    let pending : List ℕ = elements_of lists.pending in
    let counts : (e : ℕ) → times e lists.free + times e pending ≤ one (ltb e shape.elements) = λ e. omega (arith, real e, times_append e lists.free pending) in
    record {
      free = fit_below shape.elements lists.free (λ e. omega (arith, counts e));
      pending = fit_below shape.elements pending (λ e. omega (arith, counts e));
      steal = steal;
    }

-- what is told of each sort of list, whatever lies there
own_told : (shape : Shape) (sets : List SetFinal) (k : ℕ) (here : Content) → IsReal shape here → HasCursorWithin here
    → MatchOption (own_in here) ⊥ (λ (set : ListSet). slice_get sets k ≡ Some (final_set set)) → ToldAt (SetFits shape) sets k
own_told shape sets k (in_bucket bodies) real within told = absurd told
own_told shape sets k (on_freelist stack) real within told = absurd told
own_told shape sets k (in_locals lists) real within told = absurd told
own_told shape sets k (in_global set) real within told = absurd told
own_told shape sets k (in_own set) real within told = (final_set set, told, set_fits shape set real within.1)

global_told : (shape : Shape) (sets : List SetFinal) (here : Content) → IsReal shape here → HasCursorWithin here
    → MatchOption (global_in here) ⊥ (λ (set : ListSet). slice_get sets 0 ≡ Some (final_set set)) → ToldAt (SetFits shape) sets 0
global_told shape sets (in_bucket bodies) real within told = absurd told
global_told shape sets (on_freelist stack) real within told = absurd told
global_told shape sets (in_locals lists) real within told = absurd told
global_told shape sets (in_global set) real within told = (final_set set, told, set_fits shape set real within.0)
global_told shape sets (in_own set) real within told = absurd told

local_told : (shape : Shape) (locals : List LocalFinal) (k : ℕ) (here : Content) → IsReal shape here → ContentFits shape here
    → MatchOption (locals_in here) ⊥ (λ (lists : LocalLists). slice_get locals k ≡ Some (final_local lists)) → ToldAt (LocalListsFit shape) locals k
local_told shape locals k (in_bucket bodies) real fits told = absurd told
local_told shape locals k (on_freelist stack) real fits told = absurd told
local_told shape locals k (in_locals lists) real fits told = (final_local lists, told, locals_fit shape lists real fits.1)
local_told shape locals k (in_global set) real fits told = absurd told
local_told shape locals k (in_own set) real fits told = absurd told

-- cursors stay on inactive elements
cursor_replayed : (shape : Shape) (before : Content) (entries : List Entry) → HasCursorWithin before → HasCursorWithin (replayed shape before entries)
unfolding replayed
cursor_replayed shape before [] within = within
cursor_replayed shape before (entry ∷ entries) within =
    cursor_replayed shape (content_after shape entry.cpu entry.part before) entries (cursor_stays shape entry.cpu entry.part before within)

opening_cursor : (shape : Shape) (lock : DomainId) → HasCursorWithin (opening_content shape lock)
opening_cursor shape (Local cpu) = (tt, tt)
opening_cursor shape Global = (tt, tt)
opening_cursor shape (CpuLru cpu) = (tt, tt)
opening_cursor shape (Bucket bucket) = (tt, tt)
opening_cursor shape (Freelist cpu) = (tt, tt)

pub cursor_within : (shape : Shape) (lock : DomainId) (entries : List Entry) → HasCursorWithin (content shape lock entries)
cursor_within shape lock entries = cursor_replayed shape (opening_content shape lock) entries (opening_cursor shape lock)

-- ---- what the map holds

first_chosen : (b : Bool) (A B : Type 0) → b ≡ true → MatchBool b A B → A
first_chosen true A B is it = it
first_chosen false A B is it = absurd cc

-- only a map that doesn't evict has spares
lru_spares : (n : ℕ) (kind : MapKind) → is_lru kind ≡ true → cond (has_spares kind) n 0 ≡ 0
lru_spares n Hash lru = absurd cc
lru_spares n PercpuHash lru = absurd cc
lru_spares n LruHash lru = refl
lru_spares n LruPercpuHash lru = refl

-- none fit, and none are wanted
no_items : {A : Type 0} (Fits : A → Type 0) (count : ℕ) (items : List A) → items ≡ [] → count ≡ 0 → SoManyFit count Fits items
no_items Fits count [] none zero_wanted = (tt, sym zero_wanted)
no_items Fits count (item ∷ items) none zero_wanted = absurd cc

module _ (script : Script) (kept : RunRecord) (is_record : IsRecord script kept) (of_table : IsOfTable script kept)
    (lies : (lock : DomainId) → IsTrue (is_lock script.shape lock) → ContentFits script.shape (content script.shape lock (entries_of kept.histories lock))) where
  -- at the end it is real
  real_here : (lock : DomainId) → IsTrue (is_lock script.shape lock) → IsReal script.shape (content script.shape lock (entries_of kept.histories lock))
  real_here lock is = of_table.real lock is (entries_of kept.histories lock) [] (sym (append-nil (entries_of kept.histories lock)))

  cursor_here : (lock : DomainId) → HasCursorWithin (content script.shape lock (entries_of kept.histories lock))
  cursor_here lock = cursor_within script.shape lock (entries_of kept.histories lock)

  bucket_fits : (k : ℕ) → k < script.shape.buckets → AllFit (StoredFits script.shape) (get_or kept.finals.buckets k [])
  bucket_fits k below =
      let shape : Shape = script.shape in
      let bodies : List Stored = get_or kept.finals.buckets k [] in
      let is : IsTrue (is_lock shape (Bucket k)) = lt-ltb k shape.buckets below in
      let told : in_bucket bodies ≡ content shape (Bucket k) (entries_of kept.histories (Bucket k)) = is_record.contents (Bucket k) is in
      let real : IsReal shape (in_bucket bodies) = subst (IsReal shape) (sym told) (real_here (Bucket k) is) in
      let fits : ContentFits shape (in_bucket bodies) = subst (ContentFits shape) (sym told) (lies (Bucket k) is) in
      bodies_fit shape bodies (fit_below shape.elements (numbers bodies) real) fits

  buckets_fit : length kept.finals.buckets ≡ script.shape.buckets → SoManyFit script.shape.buckets (AllFit (StoredFits script.shape)) kept.finals.buckets
  buckets_fit counted =
      (fit_from_all (AllFit (StoredFits script.shape)) kept.finals.buckets (All-from_get_or (AllFit (StoredFits script.shape)) kept.finals.buckets [] (λ k below. bucket_fits k (omega (arith, below, counted)))), counted)

  freelist_fits : is_lru script.shape.kind ≡ false → (k : ℕ) → k < script.shape.cpus → AreElements script.shape (get_or kept.finals.freelists k [])
  freelist_fits plain k below =
      let shape : Shape = script.shape in
      let stack : List ℕ = get_or kept.finals.freelists k [] in
      let is : IsTrue (is_lock shape (Freelist k)) = and_from (not (is_lru shape.kind)) (ltb k shape.cpus) (ap not plain) (lt-ltb k shape.cpus below) in
      let told : on_freelist stack ≡ content shape (Freelist k) (entries_of kept.histories (Freelist k)) = is_record.contents (Freelist k) is in
      let real : IsReal shape (on_freelist stack) = subst (IsReal shape) (sym told) (real_here (Freelist k) is) in
      fit_below shape.elements stack real

  -- a map that doesn't evict
  plain_finals : is_lru script.shape.kind ≡ false → HasElements script.shape kept.finals → FinalsFit script.shape kept.finals
  plain_finals plain holds =
      let shape : Shape = script.shape in
      let lists : Finals = kept.finals in
      record {
        buckets = buckets_fit holds.lengths.buckets;
        freelists = (
          fit_from_all (AreElements shape) lists.freelists (All-from_get_or (AreElements shape) lists.freelists [] (λ k below. freelist_fits plain k (omega (arith, below, holds.lengths.freelists)))),
          holds.lengths.freelists ∙ sym (ap (λ (b : Bool). cond b 0 shape.cpus) plain),
        );
        spares = (
          fit_back (IsElement shape) (in_buckets lists ++ on_freelists lists) lists.spares
              (fit_from_all (IsElement shape) (all_elements lists) (All-weaker (λ (e : ℕ). e < 0 + shape.elements) (IsElement shape) (λ e less. omega (arith, less)) (all_elements lists)
              (All-permutation (λ (e : ℕ). e < 0 + shape.elements) (range_with_len 0 shape.elements) (all_elements lists) holds.each_once.each (all_to 0 shape.elements)))),
          holds.lengths.spares,
        );
        sets = no_items (SetFits shape) _ lists.sets holds.no_sets (ap (λ (b : Bool). cond b (cond shape.common 1 shape.cpus) 0) plain);
        locals = no_items (LocalListsFit shape) _ lists.locals holds.no_locals (ap (λ (b : Bool). cond b (cond shape.common shape.cpus 0) 0) plain);
        marked = chosen_second (is_lru shape.kind) (MarksFit shape lists.marked) (lists.marked ≡ []) plain (of_table.unmarked plain);
      }

  sets_fit : is_lru script.shape.kind ≡ true → (common : Bool) → script.shape.common ≡ common → length kept.finals.sets ≡ cond common 1 script.shape.cpus → AllFit (SetFits script.shape) kept.finals.sets
  sets_fit lru true shared counted =
      let told : ToldAt (SetFits script.shape) kept.finals.sets 0 = global_told script.shape kept.finals.sets _ (real_here Global shared) (cursor_here Global) (is_record.contents Global shared) in
      fit_told (SetFits script.shape) kept.finals.sets (λ k below. subst (ToldAt (SetFits script.shape) kept.finals.sets) (let first : 0 ≡ k = omega (arith, below, counted) in first) told)
  sets_fit lru false apart counted =
      fit_told (SetFits script.shape) kept.finals.sets (λ k below.
      let is : IsTrue (is_lock script.shape (CpuLru k)) =
      and_from (is_lru script.shape.kind && not script.shape.common) (ltb k script.shape.cpus) (and_from (is_lru script.shape.kind) (not script.shape.common) lru (ap not apart)) (lt-ltb k script.shape.cpus (omega (arith, below, counted))) in
      own_told script.shape kept.finals.sets k _ (real_here (CpuLru k) is) (cursor_here (CpuLru k)) (is_record.contents (CpuLru k) is))

  all_locals_fit : (common : Bool) → script.shape.common ≡ common → length kept.finals.locals ≡ cond common script.shape.cpus 0 → AllFit (LocalListsFit script.shape) kept.finals.locals
  all_locals_fit true shared counted =
      fit_told (LocalListsFit script.shape) kept.finals.locals (λ k below.
      let is : IsTrue (is_lock script.shape (Local k)) = and_from script.shape.common (ltb k script.shape.cpus) shared (lt-ltb k script.shape.cpus (omega (arith, below, counted))) in
      local_told script.shape kept.finals.locals k _ (real_here (Local k) is) (lies (Local k) is) (is_record.contents (Local k) is))
  all_locals_fit false apart counted =
      fit_told (LocalListsFit script.shape) kept.finals.locals (λ k below. absurd (omega (arith, below, counted)))

  -- one that evicts
  lru_finals : is_lru script.shape.kind ≡ true → HasListedElements script.shape kept.finals → FinalsFit script.shape kept.finals
  lru_finals lru holds =
      let shape : Shape = script.shape in
      let lists : Finals = kept.finals in
      record {
        buckets = buckets_fit holds.buckets;
        freelists = no_items (AreElements shape) _ lists.freelists holds.no_freelists (ap (λ (b : Bool). cond b 0 shape.cpus) lru);
        spares = no_items (IsElement shape) _ lists.spares holds.no_spares (lru_spares shape.cpus shape.kind lru);
        sets = (sets_fit lru shape.common refl holds.sets, holds.sets ∙ sym (ap (λ (b : Bool). cond b (cond shape.common 1 shape.cpus) 0) lru));
        locals = (all_locals_fit shape.common refl holds.locals, holds.locals ∙ sym (ap (λ (b : Bool). cond b (cond shape.common shape.cpus 0) 0) lru));
        marked = first_of_two (is_lru shape.kind) (MarksFit shape lists.marked) (lists.marked ≡ []) lru (marks_fit shape lists.marked holds.marked holds.in_order);
      }

  finals_of_either : FinalsFit script.shape kept.finals
  finals_of_either = by (is_lru script.shape.kind) refl
    where
      by : (lru : Bool) → is_lru script.shape.kind ≡ lru → FinalsFit script.shape kept.finals
      by true lru = lru_finals lru (first_chosen (is_lru script.shape.kind) _ _ lru is_record.finals)
      by false plain = plain_finals plain (second_chosen (is_lru script.shape.kind) _ _ plain is_record.finals)

pub finals_fit : (script : Script) (kept : RunRecord) → IsWellFormed script → IsRecord script kept → IsOfTable script kept
    → ((lock : DomainId) → IsTrue (is_lock script.shape lock) → ContentFits script.shape (content script.shape lock (entries_of kept.histories lock))) → FinalsFit script.shape kept.finals
finals_fit script kept formed is_record of_table lies = finals_of_either script kept is_record of_table lies
