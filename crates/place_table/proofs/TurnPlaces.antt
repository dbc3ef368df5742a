-- The turns of each bucket are found in the logs by their places.
use Rattle.std.proofs.Common.{◌≡◌, ◌≢◌, ◌⊎◌, inl, inr, ℕ, ◌+◌, ◌<◌, ◌≤◌, Bool, true, false, cond, List, length, get_or, get_or-set_other, get_or-set_same, set, take, drop, map, ⊎_elim, sym, refl, ap, ◌∙◌, subst, arith, Option, Some, None, Vec, Global}
use Rattle.std.specs.Prelude.{slice_get, nat_lt, option_map, unwrap_or}
use Rattle.std.specs.List.{sum_by}
use Rattle.std.proofs.lemmas.Bool.{cases_Bool, cases_eq, cases_lt, cases_order, cond_both, ltb-true, ltb-false}
use Rattle.std.proofs.lemmas.List.{ext_get_or, get_or_past, get_or-map, get_or-take, get_or-drop, length-map, length-take-le, length-drop, length-set, take-take}
use Rattle.std.proofs.lemmas.List.Sums.{sum_by_more, sum_by_more_le}
use Rattle.std.proofs.lemmas.Option.{get_or_from_slice_get, same_Some, slice_get_within}
use Rattle.map_types.specs.declared.attr.Shape.{Shape}
use Rattle.place_words.specs.declared.history.Entry.{Entry}
use Rattle.place_words.specs.declared.turn_logs.LoggedTurn.{LoggedTurn}
use Rattle.place_words.specs.declared.turn_logs.TurnLogs.{TurnLogs}
use Rattle.place_words.specs.declared.turn_logs.TurnPlace.{TurnPlace}
use Rattle.place_words.specs.Locks.{first_bucket}
use Rattle.place_words.specs.TurnLogs.{no_turn, turn_at, turn_in, turn_logged, turns_at}
use Rattle.place_table.specs.Leaving.{Logs, AreCounts, IsCount, IsHistory, StandsInLogs, TellTurns}
use Rattle.place_table.specs.TurnPlaces.{ArePlaced, IsPlaceOf, turns_before, turns_in, with_place}

-- ---- the places of each bucket

-- they end before those of a later one begin
before_past : (counts : List (Option ℕ)) (a b : ℕ) → a < b → b ≤ length counts → turns_before counts a + turns_in counts a ≤ turns_before counts b
before_past counts a b less within =
    let count : Option ℕ → ℕ = λ count. unwrap_or count 0 in
    let long : length (take b counts) ≡ b = length-take-le b counts within in
    let sums = sum_by_more_le count (take b counts) a None (omega arith) in
    let front = ap (λ (l : List (Option ℕ)). sum_by count l) (take-take a b counts (omega arith)) in
    let last = ap count (get_or-take b counts a None less) in
    omega (arith, sums, front, last)

-- a bucket that has turns is one of those that are counted
counted : (counts : List (Option ℕ)) (bucket index : ℕ) → index < turns_in counts bucket → bucket < length counts
counted counts bucket index within =
    ⊎_elim
    (λ (less : bucket < length counts). less)
    (λ (past : length counts ≤ bucket). let none : turns_in counts bucket ≡ 0 = ap (λ (o : Option ℕ). unwrap_or o 0) (get_or_past counts bucket None past) in absurd (omega arith))
    (cases_lt bucket (length counts))

-- the places of the next bucket begin behind a bucket's
pub next_start : (counts : List (Option ℕ)) (bucket : ℕ) → bucket < length counts → turns_before counts (bucket + 1) ≡ turns_before counts bucket + turns_in counts bucket
next_start counts bucket within = sum_by_more (λ count. unwrap_or count 0) counts bucket None within

-- a bucket that isn't counted has none
pub none_past : (counts : List (Option ℕ)) (bucket : ℕ) → length counts ≤ bucket → turns_in counts bucket ≡ 0
none_past counts bucket past = ap (λ (o : Option ℕ). unwrap_or o 0) (get_or_past counts bucket None past)

-- a turn that is counted has its place before those of the next bucket, and before the end
place_within : (counts : List (Option ℕ)) (bucket index : ℕ) → index < turns_in counts bucket → turns_before counts bucket + index < turns_before counts (length counts)
place_within counts bucket index within =
    let less = counted counts bucket index within in
    omega (arith, before_past counts bucket (length counts) less (omega arith))

-- two turns that are counted have one place only if they are one
one_place : (counts : List (Option ℕ)) (a b i j : ℕ) → i < turns_in counts a → j < turns_in counts b → turns_before counts a + i ≡ turns_before counts b + j → (a ≡ b) × (i ≡ j)
one_place counts a b i j i_within j_within same =
    let a_less = counted counts a i i_within in
    let b_less = counted counts b j j_within in
    ⊎_elim
    (λ (one : a ≡ b). let starts : turns_before counts a ≡ turns_before counts b = ap (turns_before counts) one in (one, omega arith))
    (⊎_elim
    (λ (less : a < b). absurd (omega (arith, before_past counts a b less (omega arith))))
    (λ (less : b < a). absurd (omega (arith, before_past counts b a less (omega arith)))))
    (cases_order a b)

-- ---- the turns so far have their places

-- at first there are none
pub none_placed : (counts : List (Option ℕ)) (logs : List (Vec LoggedTurn Global)) (places : List TurnPlace) → ArePlaced counts logs 0 0 places
none_placed counts logs places bucket index stands within =
    ⊎_elim (λ (less : stands.at.log < 0). absurd (omega arith)) (λ (here : (stands.at.log ≡ 0) × (stands.at.turn < 0)). absurd (omega (arith, here.1))) stands.before

-- a whole log more
pub log_placed : (counts : List (Option ℕ)) (logs : List (Vec LoggedTurn Global)) (log : ℕ) (here : Vec LoggedTurn Global) (places : List TurnPlace) → slice_get logs log ≡ Some here
    → ArePlaced counts logs log (length here.items) places → ArePlaced counts logs (log + 1) 0 places
log_placed counts logs log here places is placed bucket index stands within =
    let at = stands.at in
    placed bucket index (record {
      at = at;
      before = ⊎_elim
          (λ (less : at.log < log + 1).
          ⊎_elim {C = (at.log < log) ⊎ ((at.log ≡ log) × (at.turn < length here.items))}
          (λ (same : at.log ≡ log).
          let one : at.turns ≡ here = same_Some at.turns here (sym at.log_is ∙ ap (slice_get logs) same ∙ is) in
          inr (same, subst (λ (v : Vec LoggedTurn Global). at.turn < length v.items) one (slice_get_within at.turns.items at.turn at.logged at.turn_is)))
          (λ (other : at.log ≢ log). inl (omega arith))
          (cases_eq at.log log))
          (λ (none : (at.log ≡ log + 1) × (at.turn < 0)). absurd (omega (arith, none.1)))
          stands.before;
    }) within

pub with_place_long : (counts : List (Option ℕ)) (logged : LoggedTurn) (place : TurnPlace) (places : List TurnPlace) → length (with_place counts logged place places) ≡ length places
with_place_long counts logged place places =
    let own : ℕ = turns_before counts logged.bucket + logged.index in
    cond_both (nat_lt logged.index (turns_in counts logged.bucket)) (set places own place) places (λ (l : List TurnPlace). length l ≡ length places) (λ _. length-set places own place) (λ _. refl)

-- a turn of one log more
pub turn_placed : (counts : List (Option ℕ)) (logs : List (Vec LoggedTurn Global)) (log turn : ℕ) (here : Vec LoggedTurn Global) (logged : LoggedTurn) (places : List TurnPlace)
    → slice_get logs log ≡ Some here → slice_get here.items turn ≡ Some logged → length places ≡ turns_before counts (length counts)
    → ArePlaced counts logs log turn places → ArePlaced counts logs log (turn + 1) (with_place counts logged (record { log = log; turn = turn }) places)
turn_placed counts logs log turn here logged places is turn_is many placed bucket index stands within =
    let none : TurnPlace = record { log = 0; turn = 0 } in
    let place : TurnPlace = record { log = log; turn = turn } in
    let at = stands.at in
    let k : ℕ = turns_before counts bucket + index in
    let own : ℕ = turns_before counts logged.bucket + logged.index in
    let before : (IsPlaceOf logs bucket index (get_or places k none)) ⊎ ((logged.bucket ≡ bucket) × (logged.index ≡ index)) = earlier at stands.before in
    ⊎_elim
    (λ (is_counted : nat_lt logged.index (turns_in counts logged.bucket) ≡ true).
    let logged_within : logged.index < turns_in counts logged.bucket = ltb-true logged.index (turns_in counts logged.bucket) is_counted in
    subst (λ (b : Bool). IsPlaceOf logs bucket index (get_or (cond b (set places own place) places) k none)) (sym is_counted)
    (⊎_elim {C = IsPlaceOf logs bucket index (get_or (set places own place) k none)}
    (λ (same : k ≡ own).
    let one = one_place counts bucket logged.bucket index logged.index within logged_within same in
    let written : get_or (set places own place) k none ≡ place = ap (λ (n : ℕ). get_or (set places own place) n none) same ∙ get_or-set_same places own place none (omega (arith, place_within counts logged.bucket logged.index logged_within)) in
    record { at = record { log = log; turns = here; turn = turn; logged = logged; log_is = is; turn_is = turn_is; bucket_is = sym one.0; index_is = sym one.1 }; place_is = written })
    (λ (other : k ≢ own).
    subst (IsPlaceOf logs bucket index) (sym (get_or-set_other places own k place none other))
    (⊎_elim
    (λ (was : IsPlaceOf logs bucket index (get_or places k none)). was)
    (λ (same : (logged.bucket ≡ bucket) × (logged.index ≡ index)). absurd (other (λ i. turns_before counts (sym same.0 i) + sym same.1 i)))
    before))
    (cases_eq k own)))
    (λ (not_counted : nat_lt logged.index (turns_in counts logged.bucket) ≡ false).
    subst (λ (b : Bool). IsPlaceOf logs bucket index (get_or (cond b (set places own place) places) k none)) (sym not_counted)
    (⊎_elim
    (λ (was : IsPlaceOf logs bucket index (get_or places k none)). was)
    (λ (same : (logged.bucket ≡ bucket) × (logged.index ≡ index)).
    let past = ltb-false logged.index (turns_in counts logged.bucket) not_counted in
    let counts_same : turns_in counts logged.bucket ≡ turns_in counts bucket = ap (turns_in counts) same.0 in
    absurd (omega (arith, same.1)))
    before))
    (cases_Bool (nat_lt logged.index (turns_in counts logged.bucket)))
  where
    earlier : (at : StandsInLogs logs bucket index) → (at.log < log) ⊎ ((at.log ≡ log) × (at.turn < turn + 1))
        → (IsPlaceOf logs bucket index (get_or places (turns_before counts bucket + index) (record { log = 0; turn = 0 }))) ⊎ ((logged.bucket ≡ bucket) × (logged.index ≡ index))
    earlier at (inl less) = inl (placed bucket index (record { at = at; before = inl less }) within)
    earlier at (inr here_too) =
        ⊎_elim
        (λ (same : at.turn ≡ turn).
        let one : at.turns ≡ here = same_Some at.turns here (sym at.log_is ∙ ap (slice_get logs) here_too.0 ∙ is) in
        let it : at.logged ≡ logged = same_Some at.logged logged (sym at.turn_is ∙ (λ i. slice_get (one i).items (same i)) ∙ turn_is) in
        inr (ap (λ (t : LoggedTurn). t.bucket) (sym it) ∙ at.bucket_is, ap (λ (t : LoggedTurn). t.index) (sym it) ∙ at.index_is))
        (λ (other : at.turn ≢ turn). inl (placed bucket index (record { at = at; before = inr (here_too.0, omega (arith, here_too.1)) }) within))
        (cases_eq at.turn turn)

-- ---- what the places tell

-- what stands at the place of a turn
turn_there : (logs : List (Vec LoggedTurn Global)) (bucket index : ℕ) (place : TurnPlace) (is : IsPlaceOf logs bucket index place) → turn_at logs place ≡ turn_logged is.at.logged
turn_there logs bucket index place is =
    ap (turn_at logs) is.place_is
    ∙ ap (λ (o : Option (Vec LoggedTurn Global)). unwrap_or (option_map (λ turns. turn_in turns.items is.at.turn) o) no_turn) is.at.log_is
    ∙ ap (λ (o : Option LoggedTurn). unwrap_or (option_map turn_logged o) no_turn) is.at.turn_is

-- and the turn at one of many places side by side
read_there : (logs : List (Vec LoggedTurn Global)) (places : List TurnPlace) (start count index : ℕ) → index < count → index < length (take count (drop start places))
    → get_or (map (turn_at logs) (take count (drop start places))) index no_turn ≡ turn_at logs (get_or places (start + index) (record { log = 0; turn = 0 }))
read_there logs places start count index less within =
    let none : TurnPlace = record { log = 0; turn = 0 } in
    get_or-map (turn_at logs) (take count (drop start places)) index none no_turn within
    ∙ ap (turn_at logs) (get_or-take count (drop start places) index none less ∙ get_or-drop start places index none)

-- a turn of a bucket, by where a log tells it
told_at : (turns : ℕ → List Entry) (bucket index : ℕ) (turn : LoggedTurn) → turn.bucket ≡ bucket → turn.index ≡ index → slice_get (turns turn.bucket) turn.index ≡ Some (turn_logged turn) → turn_logged turn ≡ get_or (turns bucket) index no_turn
told_at turns bucket index turn one two is =
    sym (get_or_from_slice_get (turns bucket) index (turn_logged turn) no_turn ((λ i. slice_get (turns (sym one i)) (sym two i)) ∙ is))

told_there : (shape : Shape) (log : Logs) (lost : ℕ → Bool) (logs : List (Vec LoggedTurn Global)) → TellTurns shape log lost logs → (bucket index : ℕ) (place : TurnPlace) → IsPlaceOf logs bucket index place
    → turn_at logs place ≡ get_or (log (first_bucket shape + bucket)) index no_turn
told_there shape log lost logs told bucket index place is =
    let at = is.at in
    turn_there logs bucket index place is
    ∙ told_at (λ b. log (first_bucket shape + b)) bucket index at.logged at.bucket_is at.index_is (told.sound at.log at.turn at.turns at.logged at.log_is at.turn_is)

module _ (shape : Shape) (log : Logs) (lost : ℕ → Bool) (logs : Vec (Vec LoggedTurn Global) Global) (places : Vec TurnPlace Global) (counts : List (Option ℕ)) (told : TellTurns shape log lost logs.items)
    (are : AreCounts shape log lost shape.buckets counts) (many : length places.items ≡ turns_before counts (length counts)) (placed : ArePlaced counts logs.items (length logs.items) 0 places.items) where
  -- the turns of a bucket whose record isn't lost
  turns_there : (bucket count : ℕ) → bucket < shape.buckets → get_or counts bucket None ≡ Some count → lost (first_bucket shape + bucket) ≡ false → count ≡ length (log (first_bucket shape + bucket))
      → turns_at (record { logs = logs; places = places }) (turns_before counts bucket) count ≡ log (first_bucket shape + bucket)
  turns_there bucket count within is kept counts_all =
      let turns : List Entry = log (first_bucket shape + bucket) in
      let start : ℕ = turns_before counts bucket in
      let none : TurnPlace = record { log = 0; turn = 0 } in
      let here : turns_in counts bucket ≡ count = ap (λ (o : Option ℕ). unwrap_or o 0) is in
      let room = before_past counts bucket (length counts) (omega (arith, are.counted)) (omega arith) in
      let run : List TurnPlace = take count (drop start places.items) in
      let long : length run ≡ count = length-take-le count (drop start places.items) (omega (arith, length-drop start places.items)) in
      let as_long : length (map (turn_at logs.items) run) ≡ length turns = length-map run (turn_at logs.items) ∙ long ∙ counts_all in
      ext_get_or no_turn (map (turn_at logs.items) run) turns as_long
      (λ index below.
      let less : index < count = omega (arith, as_long) in
      let below_run : index < length run = omega (arith, long) in
      let at = told.whole bucket index within kept (omega (arith, as_long)) in
      let it = placed bucket index (record { at = at; before = inl (slice_get_within logs.items at.log at.turns at.log_is) }) (omega arith) in
      read_there logs.items places.items start count index less below_run ∙ told_there shape log lost logs.items told bucket index (get_or places.items (start + index) none) it)

  -- the history of a bucket, or that it is lost
  history_there : (bucket : ℕ) → bucket < shape.buckets
      → IsHistory (lost (first_bucket shape + bucket)) (log (first_bucket shape + bucket)) (option_map (turns_at (record { logs = logs; places = places }) (turns_before counts bucket)) (get_or counts bucket None))
  history_there bucket within = go (get_or counts bucket None) refl (are.each bucket within)
    where
      go : (count : Option ℕ) → get_or counts bucket None ≡ count → IsCount (lost (first_bucket shape + bucket)) (log (first_bucket shape + bucket)) count
          → IsHistory (lost (first_bucket shape + bucket)) (log (first_bucket shape + bucket)) (option_map (turns_at (record { logs = logs; places = places }) (turns_before counts bucket)) count)
      go None is gone = gone
      go (Some count) is kept = (kept.0, turns_there bucket count within is kept.0 kept.1)

  -- as it was put together
  pub history_made : (bucket start : ℕ) (turn_logs : TurnLogs) (history : Option (List Entry)) → bucket < shape.buckets → start ≡ turns_before counts bucket → turn_logs ≡ record { logs = logs; places = places }
      → history ≡ option_map (turns_at turn_logs start) (get_or counts bucket None) → IsHistory (lost (first_bucket shape + bucket)) (log (first_bucket shape + bucket)) history
  history_made bucket start turn_logs history within starts made is =
      subst (IsHistory (lost (first_bucket shape + bucket)) (log (first_bucket shape + bucket)))
      (sym (is ∙ (λ i. option_map (turns_at (made i) (starts i)) (get_or counts bucket None)))) (history_there bucket within)
