-- A map whose CPUs have list sets of their own gives elements out and takes them back by its rules in serial order.
use Rattle.std.proofs.Common.{◌≡◌, ◌⊎◌, ℕ, zero, suc, ◌+◌, ◌<◌, ◌≤◌, Bool, true, false, cond, ◌&&◌, ◌||◌, eqb, List, [], ◌∷◌, ◌++◌, refl, ap, ◌∙◌, sym, subst, inl, inr, arith}
use Rattle.std.specs.Prelude.{Option, MatchOption, option_to_list, slice_get, unwrap_or}
use Rattle.std.proofs.lemmas.Bool.{cond-false, cases_lt, eq-eqb}
use Rattle.map_types.specs.declared.attr.Shape.{Shape}
use Rattle.map_types.specs.declared.kind.DomainId.{DomainId}
use Rattle.map_types.specs.declared.kind.DomainId.TheVariants.{Local, Global, CpuLru}
use Rattle.map_types.specs.declared.row.Row.{Row}
use Rattle.map_types.specs.ElementLists.{times}
use Rattle.map_types.specs.Listed.{Listed}
use Rattle.map_types.proofs.RowLemmas.{by_test}
use Rattle.key_hash.specs.Bucket.{bucket_number}
use Rattle.place_words.specs.declared.history.Part.{Part}
use Rattle.place_words.specs.declared.history.Part.TheVariants as parts
use Rattle.place_words.specs.declared.list_part.OwnPart.TheVariants as own
use Rattle.place_words.specs.declared.visits.ShrinkNote.{ShrinkNote}
use Rattle.place_words.specs.declared.visits.Visit.{Visit}
use Rattle.place_words.specs.Choices.{active_visits, inactive_visits, bits_rotated, own_shrink, own_turn}
use Rattle.place_words.specs.Histories.{Content, Allows, content_after, in_bucket, on_freelist, in_locals, in_global, in_own, own_in}
use Rattle.place_words.specs.Logs.{State, Taking, lies_in, own_at, taken_own, acquired, freeing}
use Rattle.place_words.specs.Moves.{elements_of_set}
use Rattle.place_words.specs.RowMoves.{rows_of}
use Rattle.place_words.specs.Sets.{ListSet, new_set, has_row, is_listed, own_scans, rotated_set, shrunk_into_free, AllowsOnOwn}
use Rattle.place_words.specs.Takings.{listed_rows, shrink_probes, freed_by, set_of}
use Rattle.place_words.specs.Turns.{Turn, on_lock, after_turn, after_turns, AreAllowed}
use Rattle.place_words.proofs.BucketLaws.{times_more}
use Rattle.place_words.proofs.ChaseDone.{names_of, chasing, CanChase, IsChasing, chased, times_one}
use Rattle.place_words.proofs.DoneLaws.{allowed_both}
use Rattle.place_words.proofs.KeepLaws.{keeps_elements, own_loses}
use Rattle.place_words.proofs.ListSums.{list_locks, how_often, locks_below, sum_over, own_once}
use Rattle.place_words.proofs.ListTurns.{rows_fewer, rows_fewest, IsNoBucket, part_of, turn_gives, push_frees}
use Rattle.place_words.proofs.OwnLaws.{own_turn_allowed, own_probed}
use Rattle.place_words.proofs.PlacedContents.{after_both}
use Rattle.place_words.proofs.PlainLaws.{chosen_second}
use Rattle.place_words.proofs.ProbeLaws.{IsRemoving, removing_of}
use Rattle.place_words.proofs.RowCounts.{any, rows_append}
use Rattle.place_words.proofs.Settled.{is_of, elements_on, rows_on, listed, held, IsFit, IsSettled, once_on}
use Rattle.place_words.proofs.Supplies.{IsTaken, IsFreed, Supplies, row_held, is_chased}

pub one_set : (content : Content) (Fact : ListSet → Type 0) → MatchOption (own_in content) ⊥ Fact → (set : ListSet) × (content ≡ in_own set) × Fact set
one_set (in_bucket bodies) Fact is = absurd is
one_set (on_freelist stack) Fact is = absurd is
one_set (in_locals lists) Fact is = absurd is
one_set (in_global set) Fact is = absurd is
one_set (in_own set) Fact is = (set, refl, is)

no_bucket_lock : (cpu : ℕ) → IsNoBucket (CpuLru cpu)
no_bucket_lock cpu bucket = (refl, refl)

-- A turn of a CPU's own set, whose probes remove what it frees

module _ (shape : Shape) (cpu : ℕ) (contents : DomainId → Content) (hash : ℕ) (active inactive : List Visit) (shrink : Option ShrinkNote) (got : Option ℕ) (set : ListSet) (apart : shape.common ≡ false) (within : cpu < shape.cpus) (lies : contents (CpuLru cpu) ≡ in_own set) (may : AllowsOnOwn (own.Turn hash active inactive shrink got) set) (removing : IsRemoving (shrink_probes shrink) (freed_by shrink)) (settled : IsSettled shape contents (bucket_number hash shape.buckets) []) where
  abbrev part : Part
  part = parts.Own (own.Turn hash active inactive shrink got)

  stands : how_often (CpuLru cpu) (list_locks shape) ≡ 1
  stands = own_once shape cpu apart within

  own_fits : MatchOption (own_in (contents (CpuLru cpu))) ⊥ (λ (s : ListSet). (e : ℕ) → 1 ≤ times e (elements_of_set s) → set_of shape e ≡ cpu)
  own_fits = settled.fit (CpuLru cpu)

  its_own : (e : ℕ) → 1 ≤ times e (elements_of_set set) → set_of shape e ≡ cpu
  its_own = subst (λ (content : Content). MatchOption (own_in content) ⊥ (λ (s : ListSet). (e : ℕ) → 1 ≤ times e (elements_of_set s) → set_of shape e ≡ cpu)) lies own_fits

  once_set : (e : ℕ) → times e (elements_of_set set) ≤ 1
  once_set e =
      let here : elements_on e (contents (CpuLru cpu)) ≡ times e (elements_of_set set) = ap (elements_on e) lies in
      omega (arith, here, part_of shape cpu contents (CpuLru cpu) part stands (elements_on e), once_on settled e)

  rows : List Row
  rows = listed_rows (contents (CpuLru cpu))

  rows_are : (e : ℕ) (of : ℕ → Bool) → rows_of e of (listed_rows (contents (CpuLru cpu))) ≡ rows_of e of set.lists.active + rows_of e of set.lists.inactive
  rows_are e of = ap (rows_on e of) lies ∙ rows_append e of set.lists.active set.lists.inactive

  probes_named : (e : ℕ) → times e (names_of (shrink_probes shrink)) ≡ times e (freed_by shrink)
  probes_named e = ap (times e) removing.names

  can : CanChase shape cpu (listed_rows (contents (CpuLru cpu))) contents (shrink_probes shrink)
  can = record {
    fits = settled.fit;
    removed = removing.removed;
    few = λ e. omega (arith, probes_named e, rows_are e any, (own_loses hash active inactive shrink got set once_set may).was e);
    there = λ e bucket among. omega (arith, settled.placed e bucket, none_held (eqb (bucket_number hash shape.buckets) bucket), part_of shape cpu contents (CpuLru cpu) part stands (rows_on e (is_of shape bucket)));
  }
    where
      none_held : (b : Bool) → cond b 0 0 ≡ zero
      none_held true = refl
      none_held false = refl

  rows_once : (e : ℕ) → rows_of e any (listed_rows (contents (CpuLru cpu))) ≤ 1
  rows_once e = omega (arith, rows_fewer e any (contents (CpuLru cpu)), part_of shape cpu contents (CpuLru cpu) part stands (elements_on e), once_on settled e)

  pub own_chases : IsChasing shape cpu (listed_rows (contents (CpuLru cpu))) contents (shrink_probes shrink) (chasing shape (listed_rows (contents (CpuLru cpu))) (shrink_probes shrink))
  own_chases = chased shape cpu (listed_rows (contents (CpuLru cpu))) rows_once (shrink_probes shrink) contents can

  allowed_there : Allows shape cpu part (contents (CpuLru cpu))
  allowed_there = subst (Allows shape cpu part) (sym lies) may

  fit_then : IsFit shape (CpuLru cpu) (content_after shape cpu part (contents (CpuLru cpu)))
  fit_then =
      subst (λ (content : Content). IsFit shape (CpuLru cpu) (content_after shape cpu part content)) (sym lies)
      (λ e some. its_own e (omega (arith, some, keeps_elements shape cpu part (in_own set) may once_set e)))

  pub own_gives : IsSettled shape (after_turn shape cpu (after_turns shape cpu contents (chasing shape (listed_rows (contents (CpuLru cpu))) (shrink_probes shrink))) (on_lock (CpuLru cpu) part)) (bucket_number hash shape.buckets) (option_to_list got)
  own_gives =
      turn_gives shape cpu contents (bucket_number hash shape.buckets) (CpuLru cpu) part stands (no_bucket_lock cpu) allowed_there (refl, refl) (shrink_probes shrink)
      (chasing shape (listed_rows (contents (CpuLru cpu))) (shrink_probes shrink)) (option_to_list got) settled own_chases
      (λ e of. refl) (λ e. sym (probes_named e)) (λ e bucket. row_held shape hash got e bucket) fit_then

  -- the turns in their order are allowed
  pub own_allowed : AreAllowed shape cpu contents (chasing shape (listed_rows (contents (CpuLru cpu))) (shrink_probes shrink) ++ on_lock (CpuLru cpu) part ∷ [])
  own_allowed =
      allowed_both shape cpu contents (chasing shape (listed_rows (contents (CpuLru cpu))) (shrink_probes shrink)) (on_lock (CpuLru cpu) part ∷ []) own_chases.allowed
      (subst (Allows shape cpu part) (sym (own_chases.elsewhere (CpuLru cpu) (λ bucket. refl))) allowed_there, tt)

-- An element is taken from the own set

module _ (shape : Shape) (cpu number key_hash : ℕ) (state : State) (apart : shape.common ≡ false) (within : cpu < shape.cpus) (settled : IsSettled shape (lies_in shape state) (bucket_number key_hash shape.buckets) []) where
  pub own_lies : lies_in shape state (CpuLru cpu) ≡ in_own (own_at shape state cpu)
  own_lies = let found = one_set (lies_in shape state (CpuLru cpu)) _ (settled.fit (CpuLru cpu)) in found.1 ∙ ap (λ (content : Content). in_own (set_of_content content)) (sym found.1)
    where
      set_of_content : Content → ListSet
      set_of_content content = unwrap_or (own_in content) (new_set [])

  pub takes_own : IsTaken shape cpu number key_hash state (taken_own shape cpu key_hash state)
  unfolding taken_own own_turn
  takes_own =
      let set : ListSet = own_at shape state cpu in
      let active : List Visit = active_visits own_scans state.bits set.lists in
      let inactive : List Visit = inactive_visits own_scans state.bits set.lists in
      let after : ListSet = rotated_set own_scans active inactive set in
      let shrink : Option ShrinkNote = own_shrink (bits_rotated own_scans state.bits set.lists) after in
      let got : Option ℕ = slice_get (shrunk_into_free shrink after).free 0 in
      let may : AllowsOnOwn (own.Turn key_hash active inactive shrink got) set = own_turn_allowed key_hash state.bits set in
      let removing : IsRemoving (shrink_probes shrink) (freed_by shrink) = removing_of (shrink_probes shrink) (freed_by shrink) (own_probed key_hash state.bits set) in
      let chases = own_chases shape cpu (lies_in shape state) key_hash active inactive shrink got set apart within own_lies may removing settled in
      let turns : List Turn = chasing shape (listed_rows (lies_in shape state (CpuLru cpu))) (shrink_probes shrink) in
      let part : Part = parts.Own (own.Turn key_hash active inactive shrink got) in
      record {
        takes = chosen_second shape.common _ _ apart (record {
          active = active;
          inactive = inactive;
          shrink = shrink;
          chased = is_chased shape cpu number state (CpuLru cpu) part turns (chases.elsewhere (CpuLru cpu) (λ bucket. refl)) chases.chase;
        });
        allowed = own_allowed shape cpu (lies_in shape state) key_hash active inactive shrink got set apart within own_lies may removing settled;
        settled = subst (λ (contents : DomainId → Content). IsSettled shape contents (bucket_number key_hash shape.buckets) (option_to_list got))
            (sym (after_both shape cpu (lies_in shape state) turns (on_lock (CpuLru cpu) part ∷ [])))
            (own_gives shape cpu (lies_in shape state) key_hash active inactive shrink got set apart within own_lies may removing settled);
      }

-- An element that was in hand is freed on the set where it lives

-- what has a row is listed
pub has_listed : (e : ℕ) (of : ℕ → Bool) (rows : List Row) → 1 ≤ rows_of e of rows → has_row e rows ≡ true
has_listed e of [] some = absurd (omega (arith, some))
has_listed e of (row ∷ rows) some =
    by_test row.element e (λ b. 1 ≤ cond (b && of row.hash) (suc (rows_of e of rows)) (rows_of e of rows) → (b || has_row e rows) ≡ true)
    (λ same is. refl)
    (λ other is. has_listed e of rows is)
    some

pub either_true : (a b : Bool) → (a ≡ true) ⊎ (b ≡ true) → (a || b) ≡ true
either_true true b is = refl
either_true false b (inl is) = absurd cc
either_true false b (inr is) = is

pub set_listed : (e : ℕ) (of : ℕ → Bool) (lists : Listed) → 1 ≤ rows_of e of (lists.active ++ lists.inactive) → is_listed e lists ≡ true
set_listed e of lists some = either_true (has_row e lists.active) (has_row e lists.inactive) (by (cases_lt 0 (rows_of e of lists.active)))
  where
    by : (0 < rows_of e of lists.active) ⊎ (rows_of e of lists.active ≤ 0) → (has_row e lists.active ≡ true) ⊎ (has_row e lists.inactive ≡ true)
    by (inl here) = inl (has_listed e of lists.active here)
    by (inr none) = inr (has_listed e of lists.inactive (omega (arith, none, some, rows_append e of lists.active lists.inactive)))

some_step : (f : Content → ℕ) (contents : DomainId → Content) (lock : ℕ → DomainId) (n : ℕ) → 1 ≤ f (contents (lock n)) + sum_over f contents (locks_below lock n)
    → (1 ≤ sum_over f contents (locks_below lock n) → (c : ℕ) × (c < n) × (1 ≤ f (contents (lock c)))) → (0 < f (contents (lock n))) ⊎ (f (contents (lock n)) ≤ 0) → (c : ℕ) × (c < suc n) × (1 ≤ f (contents (lock c)))
some_step f contents lock n some rest (inl here) = (n, omega arith, here)
some_step f contents lock n some rest (inr none) = let found = rest (omega (arith, none, some)) in (found.0, omega (arith, found.1), found.2)

-- one of the CPUs has it
pub some_below : (f : Content → ℕ) (contents : DomainId → Content) (lock : ℕ → DomainId) (n : ℕ) → 1 ≤ sum_over f contents (locks_below lock n) → (c : ℕ) × (c < n) × (1 ≤ f (contents (lock c)))
some_below f contents lock zero some = absurd (omega (arith, some))
some_below f contents lock (suc n) some = some_step f contents lock n some (λ later. some_below f contents lock n later) (cases_lt 0 (f (contents (lock n))))

-- what is in hand is listed with a hash of its bucket
pub hand_listed : {shape : Shape} {contents : DomainId → Content} {home e : ℕ} {hand : List ℕ} → IsSettled shape contents home (e ∷ hand) → 1 ≤ listed shape contents e (is_of shape home)
hand_listed {shape = shape} {contents = contents} {home = home} {e = e} {hand = hand} settled =
    let there : held home (e ∷ hand) e home ≡ times e (e ∷ hand) = ap (λ (b : Bool). cond b (times e (e ∷ hand)) 0) (eq-eqb home home refl) in
    omega (arith, settled.placed e home, there, times_more e e hand, times_one e)

own_sum : (shape : Shape) (contents : DomainId → Content) (f : Content → ℕ) → shape.common ≡ false → sum_over f contents (list_locks shape) ≡ sum_over f contents (locks_below CpuLru shape.cpus)
own_sum shape contents f apart = by shape.common apart
  where
    by : (b : Bool) → b ≡ false → sum_over f contents (cond b (Global ∷ locks_below Local shape.cpus) (locks_below CpuLru shape.cpus)) ≡ sum_over f contents (locks_below CpuLru shape.cpus)
    by true is = absurd cc
    by false is = refl

module _ (shape : Shape) (cpu number : ℕ) (state : State) (home e : ℕ) (hand : List ℕ) (apart : shape.common ≡ false) (settled : IsSettled shape (lies_in shape state) home (e ∷ hand)) where
  -- it is in the set where it lives
  lives_there : (set_of shape e < shape.cpus) × (1 ≤ rows_on e any (lies_in shape state (CpuLru (set_of shape e))))
  lives_there =
      let some = hand_listed settled in
      let found = some_below (rows_on e (is_of shape home)) (lies_in shape state) CpuLru shape.cpus (omega (arith, some, own_sum shape (lies_in shape state) (rows_on e (is_of shape home)) apart)) in
      let set = one_set (lies_in shape state (CpuLru found.0)) _ (settled.fit (CpuLru found.0)) in
      let lies : elements_on e (lies_in shape state (CpuLru found.0)) ≡ times e (elements_of_set set.0) = ap (elements_on e) set.1 in
      let home_is : set_of shape e ≡ found.0 = set.2 e (omega (arith, found.2, rows_fewer e (is_of shape home) (lies_in shape state (CpuLru found.0)), lies)) in
      subst (λ c. (c < shape.cpus) × (1 ≤ rows_on e any (lies_in shape state (CpuLru c)))) (sym home_is)
      (found.1, omega (arith, found.2, rows_fewest e (is_of shape home) (lies_in shape state (CpuLru found.0))))

  own_push : IsFreed shape cpu number state home e hand (on_lock (CpuLru (set_of shape e)) (parts.Own (own.Push e)))
  own_push =
      let there = lives_there in
      let lock : DomainId = CpuLru (set_of shape e) in
      let set = one_set (lies_in shape state lock) _ (settled.fit lock) in
      let stands = own_once shape (set_of shape e) apart there.0 in
      let rows : rows_on e any (lies_in shape state lock) ≡ rows_of e any (set.0.lists.active ++ set.0.lists.inactive) = ap (rows_on e any) set.1 in
      let may : AllowsOnOwn (own.Push e) set.0 = set_listed e any set.0.lists (omega (arith, rows, there.1)) in
      let once : (x : ℕ) → times x (elements_of_set set.0) ≤ 1 = λ x.
      let here : elements_on x (lies_in shape state lock) ≡ times x (elements_of_set set.0) = ap (elements_on x) set.1 in
      omega (arith, here, part_of shape cpu (lies_in shape state) lock (parts.Own (own.Push e)) stands (elements_on x), once_on settled x) in
      let allowed : Allows shape cpu (parts.Own (own.Push e)) (lies_in shape state lock) = subst (Allows shape cpu (parts.Own (own.Push e))) (sym set.1) may in
      record {
        frees = chosen_second shape.common _ _ apart refl;
        allowed = allowed;
        settled = push_frees shape cpu (lies_in shape state) home lock (parts.Own (own.Push e)) stands (no_bucket_lock (set_of shape e)) allowed (refl, refl) e hand settled
            (λ x. refl) (λ x of. refl) (λ x of. refl) there.1
            (subst (λ (content : Content). IsFit shape lock (content_after shape cpu (parts.Own (own.Push e)) content)) (sym set.1)
            (λ x some. set.2 x (omega (arith, some, keeps_elements shape cpu (parts.Own (own.Push e)) (in_own set.0) may once x))));
      }

  pub frees_own : IsFreed shape cpu number state home e hand (freeing shape state e)
  unfolding freeing
  frees_own = subst (λ (turn : Turn). IsFreed shape cpu number state home e hand turn) (sym (cond-false shape.common _ _ apart)) own_push

-- Each CPU gives out of its own set, and what is freed goes back where it lives.
pub own_supplies : (shape : Shape) (cpu : ℕ) → shape.common ≡ false → cpu < shape.cpus → Supplies shape cpu
unfolding acquired
own_supplies shape cpu apart within = record {
  takes = λ number key_hash state settled.
      subst (λ (taking : Taking). IsTaken shape cpu number key_hash state taking) (sym (cond-false shape.common _ _ apart)) (takes_own shape cpu number key_hash state apart within settled);
  frees = λ number state home e hand settled. frees_own shape cpu number state home e hand apart settled;
}
