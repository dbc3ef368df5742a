-- At each moment of a run in serial order, of a map of any kind, each key lies in its own bucket, and none twice.
use Rattle.std.proofs.Common.{◌≡◌, ℕ, suc, ◌+◌, ◌<◌, Bool, true, false, cond, List, [], ◌∷◌, ◌++◌, Some, None, All, refl, ap, sym, ◌∙◌, subst}
use Rattle.std.specs.Prelude.{unwrap_or}
use Rattle.std.specs.List.{AllByRecursion, before_first, after_first, position_or_len}
use Rattle.std.proofs.lemmas.Bool.{eqb-true, eq-eqb}
use Rattle.std.proofs.lemmas.List.Elements.{All-nil, All-cons, All-append, All-take, All-drop, All-map, All-weaker, recursion_from_All}
use Rattle.map_types.specs.Creation.{IsShape}
use Rattle.map_types.specs.Sides.{values_written}
use Rattle.map_types.specs.Stored.{Stored}
use Rattle.map_types.specs.declared.attr.Shape.{Shape}
use Rattle.map_types.specs.declared.call.Call.{Call}
use Rattle.map_types.specs.declared.kind.DomainId.{DomainId}
use Rattle.map_types.specs.declared.kind.DomainId.TheVariants.{Bucket}
use Rattle.map_types.specs.declared.kind.Side.{Side}
use Rattle.place_words.specs.declared.bucket_part.BucketPart.{BucketPart}
use Rattle.place_words.specs.declared.bucket_part.BucketPart.TheVariants.{Lookup, Update, Delete, Take, Next, First, Walk, Evict}
use Rattle.place_words.specs.declared.bucket_part.Put.{Put}
use Rattle.place_words.specs.declared.bucket_part.Put.TheVariants as puts
use Rattle.place_words.specs.declared.bucket_part.Seen.TheVariants.{Removed, Held}
use Rattle.place_words.specs.declared.bucket_part.Walked.TheVariants.{Over, Taken}
use Rattle.place_words.specs.declared.history.Entry.{Entry}
use Rattle.place_words.specs.declared.history.Part.{Part}
use Rattle.place_words.specs.declared.history.Part.TheVariants as parts
use Rattle.place_words.specs.Bodies.{has_key, has_number, without_key, HasDistinctKeys}
use Rattle.place_words.specs.Buckets.{new_stored, written_over, bucket_after_put, bucket_after}
use Rattle.place_words.specs.Histories.{Content, AllAllowed, Allows, bucket_in, content, content_after, in_bucket, on_freelist, in_locals, in_global, in_own, replayed}
use Rattle.place_words.specs.Locks.{is_same_lock}
use Rattle.place_words.specs.Logs.{State, turned, all_turned, bucket_at, does, acquired, freeing, new_state, after_one, run}
use Rattle.place_words.specs.Turns.{Turn, bucket_of_key}
use Rattle.place_words.proofs.BodiesKept.{Writes, AllWrite, acquired_writes, freeing_writes}
use Rattle.place_words.proofs.BucketLaws.{keys_stay_distinct}
use Rattle.place_words.proofs.DoneLaws.{lies_a_bucket}
use Rattle.place_words.proofs.EachTurn.{IsOfCall, IsOfWalk, TurnLaw, does_right, verb_passes}
use Rattle.place_words.proofs.AnyStart.{every_run}
use Rattle.place_words.proofs.HistoryLemmas.{content_more}
use Rattle.serial_laws.proofs.WalkedKeys.{HaveOwnKeys}

-- Own buckets

-- a turn that writes a key is one of its bucket
abbrev pub WritesOwn : Shape → DomainId → BucketPart → Type 0
WritesOwn shape lock (Lookup side key got) = Unit {0}
WritesOwn shape lock (Update side flags key value offer put) = lock ≡ Bucket (bucket_of_key shape key)
WritesOwn shape lock (Delete key removed) = Unit {0}
WritesOwn shape lock (Take key removed) = Unit {0}
WritesOwn shape lock (Next key found) = Unit {0}
WritesOwn shape lock (First key) = Unit {0}
WritesOwn shape lock (Walk remove room result) = Unit {0}
WritesOwn shape lock (Evict e probed) = Unit {0}

abbrev pub IsOwn : Shape → DomainId → Part → Type 0
IsOwn shape lock (parts.Bucket part) = WritesOwn shape lock part
IsOwn shape lock (parts.Free part) = Unit {0}
IsOwn shape lock (parts.Local part) = Unit {0}
IsOwn shape lock (parts.Global part) = Unit {0}
IsOwn shape lock (parts.Own part) = Unit {0}

abbrev AllOwn : Shape → List Turn → Type 0
AllOwn shape [] = Unit {0}
AllOwn shape (turn ∷ turns) = IsOwn shape turn.lock turn.part × AllOwn shape turns

-- nothing is written
abbrev Nothing : Side → List ℕ → List ℕ → Type 0
Nothing side key value = ⊥

module _ (shape : Shape) where
  own_both : (xs ys : List Turn) → AllOwn shape xs → AllOwn shape ys → AllOwn shape (xs ++ ys)
  own_both [] ys first second = second
  own_both (turn ∷ xs) ys first second = (first.0, own_both xs ys first.1 second)

  own_bucket : (lock : DomainId) (part : BucketPart) → Writes Nothing (parts.Bucket part) → WritesOwn shape lock part
  own_bucket lock (Lookup side key got) none = tt
  own_bucket lock (Update side flags key value offer put) none = absurd none
  own_bucket lock (Delete key removed) none = tt
  own_bucket lock (Take key removed) none = tt
  own_bucket lock (Next key found) none = tt
  own_bucket lock (First key) none = tt
  own_bucket lock (Walk remove room result) none = tt
  own_bucket lock (Evict e probed) none = tt

  own_none : (lock : DomainId) (part : Part) → Writes Nothing part → IsOwn shape lock part
  own_none lock (parts.Bucket part) none = own_bucket lock part none
  own_none lock (parts.Free part) none = tt
  own_none lock (parts.Local part) none = tt
  own_none lock (parts.Global part) none = tt
  own_none lock (parts.Own part) none = tt

  own_all : (turns : List Turn) → AllWrite Nothing turns → AllOwn shape turns
  own_all [] none = tt
  own_all (turn ∷ turns) none = (own_none turn.lock turn.part none.0, own_all turns none.1)

  own_call : (of : List ℕ) (part : BucketPart) → IsOfCall (λ side key value. Unit {0}) of part → WritesOwn shape (Bucket (bucket_of_key shape of)) part
  own_call of (Lookup side key got) is = tt
  own_call of (Update side flags key value offer put) is = ap (λ (k : List ℕ). Bucket (bucket_of_key shape k)) (sym is.0)
  own_call of (Delete key removed) is = tt
  own_call of (Take key removed) is = tt
  own_call of (Next key found) is = tt
  own_call of (First key) is = tt
  own_call of (Walk remove room result) is = tt
  own_call of (Evict e probed) is = absurd is

  own_walk : (lock : DomainId) (part : BucketPart) → IsOfWalk part → WritesOwn shape lock part
  own_walk lock (Lookup side key got) is = absurd is
  own_walk lock (Update side flags key value offer put) is = absurd is
  own_walk lock (Delete key removed) is = absurd is
  own_walk lock (Take key removed) is = absurd is
  own_walk lock (Next key found) is = absurd is
  own_walk lock (First key) is = tt
  own_walk lock (Walk remove room result) is = tt
  own_walk lock (Evict e probed) is = absurd is

  -- every call's turns are so
  own_law : (cpu number : ℕ) → TurnLaw shape cpu number (λ side key value. Unit {0}) (λ state. Unit {0}) (λ turns. AllOwn shape turns) (Unit {0})
  own_law cpu number = record {
    none = tt;
    both = own_both;
    keeps = λ turns fits state kept. tt;
    in_key = λ key part is. (own_call key part is, tt);
    in_bucket = λ bucket below part is. (own_walk (Bucket bucket) part is, tt);
    pushes = λ plain e. (tt, tt);
    looks = λ plain from there part. (tt, tt);
    frees = λ lru state e. (own_none (freeing shape state e).lock (freeing shape state e).part (freeing_writes shape Nothing state e), tt);
    takes = λ lru key_hash state kept. own_all (acquired shape cpu number key_hash state).turns (acquired_writes shape Nothing cpu number key_hash state);
    lacks = λ lru key_hash state kept none. tt;
  }

  -- Bodies in a bucket

  abbrev pub OwnOf : ℕ → Stored → Type 0
  OwnOf bucket body = bucket_of_key shape body.key ≡ bucket

  around : (bucket : ℕ) (test : Stored → Bool) (bodies : List Stored) → All (OwnOf bucket) bodies → All (OwnOf bucket) (before_first test bodies ++ after_first test bodies)
  around bucket test bodies all = All-append (OwnOf bucket) (before_first test bodies) (after_first test bodies) (All-take (OwnOf bucket) (position_or_len test bodies) bodies all) (All-drop (OwnOf bucket) (position_or_len test bodies + 1) bodies all)

  over : (bucket : ℕ) (side : Side) (cpu : ℕ) (key value : List ℕ) (body : Stored) → OwnOf bucket body → OwnOf bucket (written_over shape side cpu key value body)
  over bucket side cpu key value body is = by (has_key key body)
    where
      by : (b : Bool) → OwnOf bucket (cond b (record body { values = values_written shape side cpu body.values value }) body)
      by true = is
      by false = is

  put_keeps : (bucket : ℕ) (side : Side) (cpu : ℕ) (key value : List ℕ) → bucket_of_key shape key ≡ bucket → (put : Put) (bodies : List Stored) → All (OwnOf bucket) bodies → All (OwnOf bucket) (bucket_after_put shape side cpu key value put bodies)
  put_keeps bucket side cpu key value own (puts.Added e) bodies all = All-cons (OwnOf bucket) (new_stored shape side cpu e key value) bodies own all
  put_keeps bucket side cpu key value own (puts.Replaced fresh old) bodies all = All-cons (OwnOf bucket) (new_stored shape side cpu fresh key value) (without_key key bodies) own (around bucket (has_key key) bodies all)
  put_keeps bucket side cpu key value own (puts.Written e) bodies all =
      All-map (OwnOf bucket) (written_over shape side cpu key value) bodies
      (All-weaker (OwnOf bucket) (λ (body : Stored). OwnOf bucket (written_over shape side cpu key value body)) (λ body is. over bucket side cpu key value body is) bodies all)
  put_keeps bucket side cpu key value own puts.Exists bodies all = all
  put_keeps bucket side cpu key value own puts.Absent bodies all = all
  put_keeps bucket side cpu key value own puts.Full bodies all = all

  here_is : (lock : DomainId) (bucket : ℕ) (key : List ℕ) → is_same_lock lock (Bucket bucket) ≡ true → lock ≡ Bucket (bucket_of_key shape key) → bucket_of_key shape key ≡ bucket
  here_is lock bucket key same own = eqb-true (bucket_of_key shape key) bucket (subst (λ (l : DomainId). is_same_lock l (Bucket bucket) ≡ true) own same)

  part_keeps : (cpu : ℕ) (lock : DomainId) (bucket : ℕ) → is_same_lock lock (Bucket bucket) ≡ true → (part : BucketPart) → WritesOwn shape lock part → (bodies : List Stored) → All (OwnOf bucket) bodies → All (OwnOf bucket) (bucket_after shape cpu part bodies)
  unfolding bucket_after
  part_keeps cpu lock bucket same (Lookup side key got) own bodies all = all
  part_keeps cpu lock bucket same (Update side flags key value offer put) own bodies all = put_keeps bucket side cpu key value (here_is lock bucket key same own) put bodies all
  part_keeps cpu lock bucket same (Delete key None) own bodies all = all
  part_keeps cpu lock bucket same (Delete key (Some e)) own bodies all = around bucket (has_key key) bodies all
  part_keeps cpu lock bucket same (Take key None) own bodies all = all
  part_keeps cpu lock bucket same (Take key (Some got)) own bodies all = around bucket (has_key key) bodies all
  part_keeps cpu lock bucket same (Next key found) own bodies all = all
  part_keeps cpu lock bucket same (First key) own bodies all = all
  part_keeps cpu lock bucket same (Walk remove room (Over n)) own bodies all = all
  part_keeps cpu lock bucket same (Walk true room (Taken gone)) own bodies all = All-nil (OwnOf bucket)
  part_keeps cpu lock bucket same (Walk false room (Taken gone)) own bodies all = all
  part_keeps cpu lock bucket same (Evict e Removed) own bodies all = around bucket (has_number e) bodies all
  part_keeps cpu lock bucket same (Evict e (Held holder)) own bodies all = all

  content_keeps : (cpu : ℕ) (lock : DomainId) (bucket : ℕ) → is_same_lock lock (Bucket bucket) ≡ true → (part : Part) → IsOwn shape lock part → (bodies : List Stored) → All (OwnOf bucket) bodies
      → All (OwnOf bucket) (unwrap_or (bucket_in (content_after shape cpu part (in_bucket bodies))) [])
  content_keeps cpu lock bucket same (parts.Bucket part) own bodies all = part_keeps cpu lock bucket same part own bodies all
  content_keeps cpu lock bucket same (parts.Free part) own bodies all = all
  content_keeps cpu lock bucket same (parts.Local part) own bodies all = all
  content_keeps cpu lock bucket same (parts.Global part) own bodies all = all
  content_keeps cpu lock bucket same (parts.Own part) own bodies all = all

  abbrev AreOwned : State → Type 0
  AreOwned state = (bucket : ℕ) → All (OwnOf bucket) (bucket_at shape state bucket)

  turned_keeps : (cpu number : ℕ) (turn : Turn) (state : State) → IsOwn shape turn.lock turn.part → AreOwned state → AreOwned (turned shape cpu number turn state)
  turned_keeps cpu number turn state own are bucket =
      elim (is_same_lock turn.lock (Bucket bucket)) as (λ b. is_same_lock turn.lock (Bucket bucket) ≡ b
      → All (OwnOf bucket) (unwrap_or (bucket_in (content shape (Bucket bucket) (cond b (state.logs (Bucket bucket) ++ (record { ticket = state.next_ticket; cpu = cpu; call = number; part = turn.part }) ∷ []) (state.logs (Bucket bucket))))) [])) [
        | true ↦ λ same.
            let lies = content_more shape (Bucket bucket) (state.logs (Bucket bucket)) (record { ticket = state.next_ticket; cpu = cpu; call = number; part = turn.part }) ∙ ap (content_after shape cpu turn.part) (lies_a_bucket shape state bucket) in
            subst (λ (here : Content). All (OwnOf bucket) (unwrap_or (bucket_in here) [])) (sym lies) (content_keeps cpu turn.lock bucket same turn.part own (bucket_at shape state bucket) (are bucket))
        | false ↦ λ other. are bucket
      ] refl

  all_keep : (cpu number : ℕ) (turns : List Turn) → AllOwn shape turns → (state : State) → AreOwned state → AreOwned (all_turned shape cpu number turns state)
  all_keep cpu number [] own state are = are
  all_keep cpu number (turn ∷ turns) own state are = all_keep cpu number turns own.1 (turned shape cpu number turn state) (turned_keeps cpu number turn state own.0 are)

  -- a bucket whose turns write keys of its own has no others
  pub replay_owned : (bucket : ℕ) (bodies : List Stored) (entries : List Entry) → AllAllowed shape (in_bucket bodies) entries → AllByRecursion (λ (entry : Entry). IsOwn shape (Bucket bucket) entry.part) entries → All (OwnOf bucket) bodies
      → All (OwnOf bucket) (unwrap_or (bucket_in (replayed shape (in_bucket bodies) entries)) [])
  unfolding replayed AllAllowed
  replay_owned bucket bodies [] allowed own all = all
  replay_owned bucket bodies (entry ∷ entries) allowed own all = by entry.part allowed own.0 (λ now may left. replay_owned bucket now entries may own.1 left)
    where
      by : (part : Part) → Allows shape entry.cpu part (in_bucket bodies) × AllAllowed shape (content_after shape entry.cpu part (in_bucket bodies)) entries → IsOwn shape (Bucket bucket) part
          → ((now : List Stored) → AllAllowed shape (in_bucket now) entries → All (OwnOf bucket) now → All (OwnOf bucket) (unwrap_or (bucket_in (replayed shape (in_bucket now) entries)) []))
          → All (OwnOf bucket) (unwrap_or (bucket_in (replayed shape (content_after shape entry.cpu part (in_bucket bodies)) entries)) [])
      by (parts.Bucket part) may own_part later =
          later (bucket_after shape entry.cpu part bodies) may.1 (part_keeps entry.cpu (Bucket bucket) bucket (eq-eqb bucket bucket refl) part own_part bodies all)
      by (parts.Free part) may own_part later = absurd may.0
      by (parts.Local part) may own_part later = absurd may.0
      by (parts.Global part) may own_part later = absurd may.0
      by (parts.Own part) may own_part later = absurd may.0

  run_keeps : (number : ℕ) (calls : List Call) (state : State) → AreOwned state → AreOwned (run shape number calls state)
  run_keeps number [] state are = are
  run_keeps number (call ∷ calls) state are =
      let right = does_right (own_law call.cpu number) state tt call.verb (verb_passes call.verb) in
      run_keeps (suc number) calls (after_one shape number call state) (all_keep call.cpu number (does shape call.cpu number state call.verb).turns right.fits state are)

  first_owned : AreOwned (new_state shape)
  unfolding replayed
  first_owned bucket = All-nil (OwnOf bucket)

  -- Distinct keys

  -- what lies under a lock of a bucket has none twice
  abbrev pub IsDistinct : Content → Type 0
  IsDistinct (in_bucket bodies) = HasDistinctKeys bodies
  IsDistinct (on_freelist stack) = Unit {0}
  IsDistinct (in_locals lists) = Unit {0}
  IsDistinct (in_global set) = Unit {0}
  IsDistinct (in_own set) = Unit {0}

  stays_distinct : (cpu : ℕ) (part : Part) (here : Content) → Allows shape cpu part here → IsDistinct here → IsDistinct (content_after shape cpu part here)
  stays_distinct cpu (parts.Bucket part) (in_bucket bodies) allowed distinct = keys_stay_distinct shape cpu part bodies allowed distinct
  stays_distinct cpu (parts.Bucket part) (on_freelist stack) allowed distinct = absurd allowed
  stays_distinct cpu (parts.Bucket part) (in_locals lists) allowed distinct = absurd allowed
  stays_distinct cpu (parts.Bucket part) (in_global set) allowed distinct = absurd allowed
  stays_distinct cpu (parts.Bucket part) (in_own set) allowed distinct = absurd allowed
  stays_distinct cpu (parts.Free part) (in_bucket bodies) allowed distinct = absurd allowed
  stays_distinct cpu (parts.Free part) (on_freelist stack) allowed distinct = tt
  stays_distinct cpu (parts.Free part) (in_locals lists) allowed distinct = absurd allowed
  stays_distinct cpu (parts.Free part) (in_global set) allowed distinct = absurd allowed
  stays_distinct cpu (parts.Free part) (in_own set) allowed distinct = absurd allowed
  stays_distinct cpu (parts.Local part) (in_bucket bodies) allowed distinct = absurd allowed
  stays_distinct cpu (parts.Local part) (on_freelist stack) allowed distinct = absurd allowed
  stays_distinct cpu (parts.Local part) (in_locals lists) allowed distinct = tt
  stays_distinct cpu (parts.Local part) (in_global set) allowed distinct = absurd allowed
  stays_distinct cpu (parts.Local part) (in_own set) allowed distinct = absurd allowed
  stays_distinct cpu (parts.Global part) (in_bucket bodies) allowed distinct = absurd allowed
  stays_distinct cpu (parts.Global part) (on_freelist stack) allowed distinct = absurd allowed
  stays_distinct cpu (parts.Global part) (in_locals lists) allowed distinct = absurd allowed
  stays_distinct cpu (parts.Global part) (in_global set) allowed distinct = tt
  stays_distinct cpu (parts.Global part) (in_own set) allowed distinct = absurd allowed
  stays_distinct cpu (parts.Own part) (in_bucket bodies) allowed distinct = absurd allowed
  stays_distinct cpu (parts.Own part) (on_freelist stack) allowed distinct = absurd allowed
  stays_distinct cpu (parts.Own part) (in_locals lists) allowed distinct = absurd allowed
  stays_distinct cpu (parts.Own part) (in_global set) allowed distinct = absurd allowed
  stays_distinct cpu (parts.Own part) (in_own set) allowed distinct = tt

  pub replay_distinct : (here : Content) (entries : List Entry) → AllAllowed shape here entries → IsDistinct here → IsDistinct (replayed shape here entries)
  unfolding replayed AllAllowed
  replay_distinct here [] allowed distinct = distinct
  replay_distinct here (entry ∷ entries) allowed distinct =
      replay_distinct (content_after shape entry.cpu entry.part here) entries allowed.1 (stays_distinct entry.cpu entry.part here allowed.0 distinct)

-- At each moment of a run.
pub own_keys : (shape : Shape) → IsShape shape → (number : ℕ) (calls : List Call) → All (λ (call : Call). call.cpu < shape.cpus) calls → HaveOwnKeys shape (bucket_at shape (run shape number calls (new_state shape)))
own_keys shape created number calls served =
    let state : State = run shape number calls (new_state shape) in
    let orderly = (every_run shape created number calls served).1 in
    record {
      own = λ bucket below. recursion_from_All (OwnOf shape bucket) (bucket_at shape state bucket) (run_keeps shape number calls (new_state shape) (first_owned shape) bucket);
      distinct = λ bucket below.
          subst (IsDistinct shape) (lies_a_bucket shape state bucket) (replay_distinct shape (in_bucket []) (state.logs (Bucket bucket)) (orderly.legal (Bucket bucket)) tt);
    }
