-- The logs of strands, put together, and the turns of buckets that they tell.
use Rattle.std.proofs.Common.{◌≡◌, ◌≢◌, ◌⊎◌, inl, inr, ⊎_elim, ℕ, zero, suc, ◌+◌, ◌<◌, ◌≤◌, cond, Bool, true, false, List, [], ◌∷◌, ◌++◌, length, map, sym, refl, ap, ◌∙◌, subst, arith, Option, Some, Vec, Global}
use Rattle.std.specs.Prelude.{IsTrue, All, filter, slice_get}
use Rattle.std.proofs.lemmas.Bool.{lt-ltb}
use Rattle.std.proofs.lemmas.Option.{slice_get_within, get_or_from_slice_get}
use Rattle.map_types.specs.declared.attr.Shape.{Shape}
use Rattle.map_types.specs.declared.kind.DomainId.{DomainId}
use Rattle.map_types.specs.declared.kind.DomainId.TheVariants.{Local, Global as Shared, CpuLru, Bucket, Freelist}
use Rattle.map_types.specs.ElementLists.{times, IsIn}
use Rattle.map_types.proofs.RowLemmas.{by_test}
use Rattle.place_words.specs.declared.history.Entry.{Entry}
use Rattle.place_words.specs.declared.history.StrandStep.{StrandStep}
use Rattle.place_words.specs.declared.turn_logs.LoggedTurn.{LoggedTurn}
use Rattle.place_words.specs.Locks.{is_lock, lock_named, lock_number, lock_count, first_bucket, is_same_lock}
use Rattle.place_words.specs.State.{is_bucket}
use Rattle.place_words.specs.Strands.{places_on}
use Rattle.place_words.specs.TurnLogs.{turn_logged}
use Rattle.place_words.proofs.LockLemmas.{named_by_number, number_of_named}
use Rattle.place_table.specs.declared.view.Ended.{Ended}
use Rattle.place_table.specs.declared.view.Turned.{Turned}
use Rattle.place_table.specs.Closing.{has_lock}
use Rattle.place_table.specs.Leaving.{TellTurns}
use Rattle.place_table.specs.Logged.{step_logged, IsTurnOf, IsLogOf, AreLogsOf, HaveLogs}
use Rattle.place_table.specs.Rules.{turns_on, indexes, StandsIn, StandIn}
use Rattle.place_table.specs.StrandTurns.{numbered, turns_by, AreTurnsOf}
use Rattle.place_table.specs.Views.{place_of}
use Rattle.place_table.proofs.SharedOut.{item_there}
use Rattle.place_table.proofs.Stands.{entry_is}
use Rattle.place_table.proofs.Worlds.{by_bool, some_is, none_some}

-- ---- logs put together

logs_joined : (shape : Shape) (xs ys : List Ended) (ls ms : List (Vec LoggedTurn Global)) → AreLogsOf shape xs ls → AreLogsOf shape ys ms → AreLogsOf shape (xs ++ ys) (ls ++ ms)
logs_joined shape [] ys [] ms are more = more
logs_joined shape [] ys (l ∷ ls) ms are more = absurd are
logs_joined shape (x ∷ xs) ys [] ms are more = absurd are
logs_joined shape (x ∷ xs) ys (l ∷ ls) ms are more = (are.0, logs_joined shape xs ys ls ms are.1 more)

pub both_logs : (shape : Shape) (first second : List Ended) (ours theirs : Option (Vec (Vec LoggedTurn Global) Global)) (mine others : Vec (Vec LoggedTurn Global) Global) (all : List (Vec LoggedTurn Global))
    → ours ≡ Some mine → theirs ≡ Some others → all ≡ mine.items ++ others.items → HaveLogs shape first ours → HaveLogs shape second theirs → AreLogsOf shape (first ++ second) all
both_logs shape first second ours theirs mine others all is_ours is_theirs put have more =
    subst (AreLogsOf shape (first ++ second)) (sym put)
    (logs_joined shape first second mine.items others.items (subst (HaveLogs shape first) is_ours have) (subst (HaveLogs shape second) is_theirs more))

pub one_log_more : (shape : Shape) (strands : List Ended) (last : Ended) (logs : Option (Vec (Vec LoggedTurn Global) Global)) (mine : Vec (Vec LoggedTurn Global) Global) (log : Vec LoggedTurn Global) (all : List (Vec LoggedTurn Global))
    → logs ≡ Some mine → all ≡ mine.items ++ log ∷ [] → HaveLogs shape strands logs → IsLogOf shape last.steps last.kept log.items → AreLogsOf shape (strands ++ last ∷ []) all
one_log_more shape strands last logs mine log all is_logs put have is_log =
    subst (AreLogsOf shape (strands ++ last ∷ [])) (sym put)
    (logs_joined shape strands (last ∷ []) mine.items (log ∷ []) (subst (HaveLogs shape strands) is_logs have) (is_log, tt))

-- ---- the strand of a log, and the log of a strand

strand_of_log : (shape : Shape) (strands : List Ended) (logs : List (Vec LoggedTurn Global)) (n : ℕ) (turns : Vec LoggedTurn Global) → AreLogsOf shape strands logs → slice_get logs n ≡ Some turns
    → (strand : Ended) × (slice_get strands n ≡ Some strand) × IsLogOf shape strand.steps strand.kept turns.items
strand_of_log shape [] [] n turns are at = absurd (none_some at)
strand_of_log shape [] (log ∷ logs) n turns are at = absurd are
strand_of_log shape (x ∷ xs) [] n turns are at = absurd are
strand_of_log shape (x ∷ xs) (log ∷ logs) zero turns are at = (x, refl, subst (λ (v : Vec LoggedTurn Global). IsLogOf shape x.steps x.kept v.items) (some_is at) are.0)
strand_of_log shape (x ∷ xs) (log ∷ logs) (suc n) turns are at = strand_of_log shape xs logs n turns are.1 at

log_of_strand : (shape : Shape) (strands : List Ended) (logs : List (Vec LoggedTurn Global)) (n : ℕ) (strand : Ended) → AreLogsOf shape strands logs → slice_get strands n ≡ Some strand
    → (turns : Vec LoggedTurn Global) × (slice_get logs n ≡ Some turns) × IsLogOf shape strand.steps strand.kept turns.items
log_of_strand shape [] [] n strand are at = absurd (none_some at)
log_of_strand shape [] (log ∷ logs) n strand are at = absurd are
log_of_strand shape (x ∷ xs) [] n strand are at = absurd are
log_of_strand shape (x ∷ xs) (log ∷ logs) zero strand are at = (log, refl, subst (λ (e : Ended). IsLogOf shape e.steps e.kept log.items) (some_is at) are.0)
log_of_strand shape (x ∷ xs) (log ∷ logs) (suc n) strand are at = log_of_strand shape xs logs n strand are.1 at

-- ---- a turn of a log stands in the history of its bucket

all_at : {A : Type 0} (P : A → Type 0) (xs : List A) (n : ℕ) (x : A) → All P xs → slice_get xs n ≡ Some x → P x
all_at P xs n x all at = subst P (get_or_from_slice_get xs n x x at) (all n x (slice_get_within xs n x at))

step_stands : (log : ℕ → List Entry) (steps : List Turned) (n : ℕ) (step : Turned) → StandIn log steps → slice_get steps n ≡ Some step → StandsIn (log step.lock) step
step_stands log [] n step stand at = absurd (none_some at)
step_stands log (x ∷ xs) zero step stand at = subst (λ (s : Turned). StandsIn (log s.lock) s) (some_is at) stand.0
step_stands log (x ∷ xs) (suc n) step stand at = step_stands log xs n step stand.1 at

turn_stands : (shape : Shape) (log : ℕ → List Entry) (steps : List Turned) (turn : LoggedTurn) → StandIn log steps → IsTurnOf shape steps turn → slice_get (log (first_bucket shape + turn.bucket)) turn.index ≡ Some (turn_logged turn)
turn_stands shape log steps turn stand is =
    let lock_is : is.step.lock ≡ first_bucket shape + turn.bucket = sym (number_of_named shape is.step.lock) ∙ ap (lock_number shape) is.lock_is in
    let there : slice_get (log is.step.lock) (place_of is.step) ≡ Some is.step.entry = entry_is (log is.step.lock) is.step (step_stands log steps is.number is.step stand is.there) in
    ap (λ (k : ℕ). slice_get (log k) turn.index) (sym lock_is)
    ∙ (ap (slice_get (log is.step.lock)) (sym is.place_is) ∙ (there ∙ ap Some is.entry_is))

-- ---- each turn of a bucket stands in the log of its strand

in_either : (e x : ℕ) (xs : List ℕ) → IsIn e (x ∷ xs) → (x ≡ e) ⊎ IsIn e xs
in_either e x xs inside =
    by_test x e (λ b. 0 < cond b (suc (times e xs)) (times e xs) → (x ≡ e) ⊎ IsIn e xs) (λ same _. inl same) (λ _ later. inr later) inside

-- the place of a turn is among those of its strand
place_told : (strand_at : ℕ → ℕ) (place from : ℕ) (entries : List Entry) → from ≤ place → place < from + length entries → IsIn place (indexes (turns_by strand_at (strand_at place) (numbered from entries)))
place_told strand_at place from [] low less = absurd (omega arith)
place_told strand_at place from (x ∷ xs) low less =
    let behind : List (ℕ × Entry) = turns_by strand_at (strand_at place) (numbered (suc from) xs) in
    by_test (strand_at from) (strand_at place) (λ b. IsIn place (indexes (cond b ((from, x) ∷ behind) behind)))
    (λ _. by_test from place (λ b. 0 < cond b (suc (times place (indexes behind))) (times place (indexes behind)))
    (λ _. omega arith) (λ other. place_told strand_at place (suc from) xs (omega arith) (omega arith)))
    (λ differ. let other : from ≢ place = λ same. differ (ap strand_at same) in place_told strand_at place (suc from) xs (omega arith) (omega arith))

no_bucket : (lock : DomainId) (bucket : ℕ) → is_bucket lock ≡ false → is_same_lock lock (Bucket bucket) ≡ false
no_bucket (Local cpu) bucket is = refl
no_bucket Shared bucket is = refl
no_bucket (CpuLru cpu) bucket is = refl
no_bucket (Bucket other) bucket is = cc
no_bucket (Freelist cpu) bucket is = refl

-- the places on a bucket are those of the steps on buckets
on_buckets : (bucket : ℕ) (kept : List StrandStep) → places_on (Bucket bucket) kept ≡ places_on (Bucket bucket) (filter (λ (step : StrandStep). is_bucket step.lock) kept)
on_buckets bucket [] = refl
on_buckets bucket (step ∷ kept) =
    let rest = on_buckets bucket kept in
    by_bool (is_bucket step.lock) (λ b. places_on (Bucket bucket) (step ∷ kept) ≡ places_on (Bucket bucket) (cond b (step ∷ filter (λ (s : StrandStep). is_bucket s.lock) kept) (filter (λ (s : StrandStep). is_bucket s.lock) kept)))
    (λ _. ap (λ (l : List ℕ). cond (is_same_lock step.lock (Bucket bucket)) (step.index ∷ l) l) rest)
    (λ other. ap (λ (b : Bool). cond b (step.index ∷ places_on (Bucket bucket) kept) (places_on (Bucket bucket) kept)) (no_bucket step.lock bucket other) ∙ rest)

record LoggedAt (log : List LoggedTurn) (bucket index : ℕ) : Type 0 where
  place : ℕ
  turn : LoggedTurn
  there : slice_get log place ≡ Some turn
  bucket_is : turn.bucket ≡ bucket
  index_is : turn.index ≡ index

logged_later : (first : LoggedTurn) (log : List LoggedTurn) (bucket index : ℕ) → LoggedAt log bucket index → LoggedAt (first ∷ log) bucket index
logged_later first log bucket index at = record { place = suc at.place; turn = at.turn; there = at.there; bucket_is = at.bucket_is; index_is = at.index_is }

logged_at : (log : List LoggedTurn) (bucket index : ℕ) → IsIn index (places_on (Bucket bucket) (map step_logged log)) → LoggedAt log bucket index
logged_at [] bucket index inside = absurd (omega arith)
logged_at (x ∷ xs) bucket index inside =
    let behind : List ℕ = places_on (Bucket bucket) (map step_logged xs) in
    by_test x.bucket bucket (λ b. IsIn index (cond b (x.index ∷ behind) behind) → LoggedAt (x ∷ xs) bucket index)
    (λ same here. ⊎_elim
    (λ (first : x.index ≡ index). record { place = 0; turn = x; there = refl; bucket_is = same; index_is = first })
    (λ (later : IsIn index behind). logged_later x xs bucket index (logged_at xs bucket index later))
    (in_either index x.index behind here))
    (λ _ later. logged_later x xs bucket index (logged_at xs bucket index later))
    inside

-- ---- logs of all strands tell the turns of buckets

pub logs_tell : (shape : Shape) (strands : List Ended) (logs : List (Vec LoggedTurn Global)) (log : ℕ → List Entry) (lost : ℕ → Bool)
    → AreLogsOf shape strands logs
    → ((n : ℕ) (strand : Ended) → slice_get strands n ≡ Some strand → StandIn log strand.steps)
    → ((k : ℕ) → AreTurnsOf k strands (log k))
    → ((n : ℕ) (strand : Ended) → slice_get strands n ≡ Some strand → (k : ℕ) → k < lock_count shape → IsTrue (has_lock shape k) → lost k ≡ false → places_on (lock_named shape k) strand.kept ≡ indexes (turns_on k strand.steps))
    → TellTurns shape log lost logs
logs_tell shape strands logs log lost are stand turns recorded = record {
  sound = λ l n logged turn at_log at_turn.
      let s = strand_of_log shape strands logs l logged are at_log in
      turn_stands shape log s.0.steps turn (stand l s.0 s.1) (all_at (IsTurnOf shape s.0.steps) logged.items n turn s.2.turns at_turn);
  whole = λ bucket index below kept less.
      let k : ℕ = first_bucket shape + bucket in
      let there : is_lock shape (Bucket bucket) ≡ true = lt-ltb bucket shape.buckets below in
      let named : lock_named shape k ≡ Bucket bucket = named_by_number shape (Bucket bucket) there in
      let t = turns k in
      let n : ℕ = t.strand_at index in
      let s = item_there strands n (t.within index less) in
      let v = log_of_strand shape strands logs n s.0 are s.1 in
      let told : IsIn index (indexes (turns_on k s.0.steps)) =
      subst (λ (l : List (ℕ × Entry)). IsIn index (indexes l)) (sym (t.turns n s.0 s.1)) (place_told t.strand_at index 0 (log k) (omega arith) (omega arith)) in
      let steps_are : indexes (turns_on k s.0.steps) ≡ places_on (Bucket bucket) (map step_logged v.0.items) =
      sym (recorded n s.0 s.1 k (omega arith) (ap (is_lock shape) named ∙ there) kept)
      ∙ (ap (λ (lock : DomainId). places_on lock s.0.kept) named
      ∙ (on_buckets bucket s.0.kept ∙ ap (places_on (Bucket bucket)) (sym v.2.steps_are))) in
      let at = logged_at v.0.items bucket index (subst (IsIn index) steps_are told) in
      record { log = n; turns = v.0; turn = at.place; logged = at.turn; log_is = v.1; turn_is = at.there; bucket_is = at.bucket_is; index_is = at.index_is };
}
