-- What the turns of a batch write add up to.
use Rattle.std.proofs.Common.{◌≡◌, ℕ, suc, ◌+◌, ⊎_elim, List, [], ◌∷◌, ◌++◌, length, refl, ap, sym, ◌∙◌, subst, arith, append_assoc, Option, None, Some, MatchOption}
use Rattle.std.specs.Prelude.{◌<◌, ◌==◌, ◌&&◌, slice_index_or}
use Rattle.std.proofs.lemmas.List.{map-append}
use Rattle.std.proofs.lemmas.List.Sums.{sum_by-append, sum_by-cons}
use Rattle.map_types.specs.declared.attr.Shape.{Shape}
use Rattle.map_types.specs.declared.call.Verb.{Verb}
use Rattle.map_types.specs.declared.call.Verb.TheVariants as verbs
use Rattle.map_types.specs.declared.kind.Side.{Side}
use Rattle.map_types.specs.declared.kind.Side.TheVariants.{Sys}
use Rattle.map_types.specs.declared.refusal.Errno.{Errno}
use Rattle.map_types.specs.declared.refusal.Errno.TheVariants.{Enoent, Enomem, Einval}
use Rattle.map_types.specs.declared.reply.Reply.{Reply}
use Rattle.map_types.specs.declared.reply.Reply.TheVariants.{Refused, Count}
use Rattle.map_types.specs.Kind.{is_lru, is_percpu}
use Rattle.key_hash.specs.Jhash.{hash}
use Rattle.place_words.specs.declared.bucket_part.BucketPart.TheVariants.{Update, Delete}
use Rattle.place_words.specs.declared.bucket_part.Put.{Put}
use Rattle.place_words.specs.declared.bucket_part.Put.TheVariants as puts
use Rattle.place_words.specs.declared.history.Part.{Part}
use Rattle.place_words.specs.declared.history.Part.TheVariants as parts
use Rattle.place_words.specs.Evicting.{IsWriteTrace, IsOfferTrace, OffersOne, IsEvictingDelete, FreesOne, left_over}
use Rattle.place_words.specs.PlainTraces.{IsPutTrace, IsDeleteTrace, LooksFor, pushes, reply_of_put, reply_of_gone}
use Rattle.place_words.specs.Turns.{Turn, TurnAt, turns_of, ring, on_bucket_of}
use Rattle.place_words.specs.Walks.{IsKeyTrace, Writes, refused_with, spare_left, updates_of, deletes_of}
use Rattle.refusals.specs.Batch.{puts_value, finds_key, misses_key, done_in, missed_in, count}
use Rattle.refusals.proofs.Counts.{IsOfKeys, acquires_none, frees_one_none, pushes_none, empties_none, pops_none}
use Rattle.refusals.proofs.KeyTraces.{by_kind}

pub done_of_keys : IsOfKeys done_in
done_of_keys = record { evict = λ e seen. refl; free = λ part. refl; local = λ part. refl; global = λ part. refl; own = λ part. refl }

pub missed_of_keys : IsOfKeys missed_in
missed_of_keys = record { evict = λ e seen. refl; free = λ part. refl; local = λ part. refl; global = λ part. refl; own = λ part. refl }

module _ (f : Part → ℕ) (of_keys : IsOfKeys f) where
  count_first : (turn : Turn) (turns : List Turn) → count f turns ≡ 0 → count f (turn ∷ turns) ≡ f turn.part
  count_first turn turns rest = sum_by-cons (λ (x : Turn). f x.part) turn turns ∙ omega (arith, rest)

  count_last : (turns : List Turn) (turn : Turn) → count f turns ≡ 0 → count f (turns ++ turn ∷ []) ≡ f turn.part
  count_last turns turn front = sum_by-append (λ (x : Turn). f x.part) turns (turn ∷ []) ∙ omega (arith, front, count_first turn [] refl)

  count_middle : (xs : List TurnAt) (y : TurnAt) (zs : List TurnAt) → count f (turns_of xs) ≡ 0 → count f (turns_of zs) ≡ 0 → count f (turns_of (xs ++ y ∷ zs)) ≡ f y.turn.part
  count_middle xs y zs front back =
      ap (count f) (map-append (λ (at : TurnAt). at.turn) xs (y ∷ zs))
      ∙ sum_by-append (λ (x : Turn). f x.part) (turns_of xs) (turns_of (y ∷ zs)) ∙ omega (arith, front, count_first y.turn (turns_of zs) back)

-- an update on one key
looks_none : (f : Part → ℕ) → IsOfKeys f → (shape : Shape) (cpu : ℕ) (spare : Option ℕ) (put : Put) (looks : List Turn) → LooksFor shape cpu spare put looks → count f looks ≡ 0
looks_none f of_keys shape cpu spare (puts.Added e) looks for = pops_none f of_keys shape cpu e looks for
looks_none f of_keys shape cpu spare (puts.Replaced new old) looks for = subst (λ (l : List Turn). count f l ≡ 0) (sym for.0) refl
looks_none f of_keys shape cpu spare (puts.Written e) looks for = subst (λ (l : List Turn). count f l ≡ 0) (sym for) refl
looks_none f of_keys shape cpu spare puts.Exists looks for = subst (λ (l : List Turn). count f l ≡ 0) (sym for) refl
looks_none f of_keys shape cpu spare puts.Absent looks for = subst (λ (l : List Turn). count f l ≡ 0) (sym for) refl
looks_none f of_keys shape cpu spare puts.Full looks for = subst (λ (l : List Turn). count f l ≡ 0) (sym for) (empties_none f of_keys (ring cpu shape.cpus))

-- how many entries a call on one key did: one where it isn't refused
abbrev did_entries : Option Errno → ℕ
did_entries None = 1
did_entries (Some errno) = 0

put_counts : (put : Put) → puts_value put ≡ did_entries (refused_with (reply_of_put put))
put_counts (puts.Added e) = refl
put_counts (puts.Replaced new old) = refl
put_counts (puts.Written e) = refl
put_counts puts.Exists = refl
put_counts puts.Absent = refl
put_counts puts.Full = refl

module _ (shape : Shape) (cpu : ℕ) (spare : Option ℕ) (side : Side) (flags : ℕ) (key value : List ℕ) where
  abbrev Counts : List Turn → Reply → Type 0
  Counts turns reply = count done_in turns ≡ did_entries (refused_with reply)

  counts_as : (turns : List Turn) (put : Put) (reply : Reply) → count done_in turns ≡ puts_value put → reply ≡ reply_of_put put → Counts turns reply
  counts_as turns put reply counted is = counted ∙ put_counts put ∙ ap (λ (r : Reply). did_entries (refused_with r)) (sym is)

  counts_none : (turns : List TurnAt) (reply : Reply) → turns ≡ [] → reply ≡ Refused Einval → Counts (turns_of turns) reply
  counts_none turns reply none is = ap (λ (l : List TurnAt). count done_in (turns_of l)) none ∙ ap (λ (r : Reply). did_entries (refused_with r)) (sym is)

  counts_plain : (turns : List Turn) (reply : Reply) → IsPutTrace shape cpu spare side flags key value turns reply → Counts turns reply
  counts_plain turns reply trace =
      counts_as turns trace.put reply
      (ap (count done_in) trace.turns_are ∙ count_last done_in done_of_keys trace.looks (on_bucket_of shape key (Update side flags key value None trace.put)) (looks_none done_in done_of_keys shape cpu spare trace.put trace.looks trace.looks_are))
      trace.reply_is

  counts_written : (turns : List TurnAt) (reply : Reply) → IsWriteTrace shape side flags key value turns reply → Counts (turns_of turns) reply
  counts_written turns reply trace =
      counts_as (turns_of turns) trace.put reply
      (ap (count done_in) trace.turns_are ∙ count_first done_in done_of_keys (on_bucket_of shape key (Update side flags key value None trace.put)) [] refl)
      trace.reply_is

  counts_offer : (got : Option ℕ) (taking rest : List TurnAt) (reply : Reply) → count done_in (turns_of taking) ≡ 0
      → MatchOption got ((rest ≡ []) × (reply ≡ Refused Enomem)) (λ e. OffersOne shape side flags key value e rest reply) → Counts (turns_of (taking ++ rest)) reply
  counts_offer None taking rest reply none offers =
      ap (λ (l : List TurnAt). count done_in (turns_of (taking ++ l))) offers.0
      ∙ ap (count done_in) (map-append (λ (at : TurnAt). at.turn) taking [])
      ∙ sum_by-append (λ (x : Turn). done_in x.part) (turns_of taking) [] ∙ omega (arith, none) ∙ ap (λ (r : Reply). did_entries (refused_with r)) (sym offers.1)
  counts_offer (Some e) taking rest reply none offers =
      counts_as (turns_of (taking ++ rest)) offers.put reply
      (ap (λ (l : List TurnAt). count done_in (turns_of (taking ++ l))) offers.turns_are
      ∙ count_middle done_in done_of_keys taking offers.at_bucket offers.freeing none (frees_one_none done_in done_of_keys shape (left_over e offers.put) offers.freeing offers.frees)
      ∙ ap (λ (x : Turn). done_in x.part) offers.bucket_is)
      offers.reply_is

  counts_offered : (turns : List TurnAt) (reply : Reply) → IsOfferTrace shape cpu side flags key value turns reply → Counts (turns_of turns) reply
  counts_offered turns reply trace =
      subst (λ (l : List TurnAt). Counts (turns_of l) reply) (sym trace.turns_are)
      (counts_offer trace.got trace.taking trace.rest reply (acquires_none done_in done_of_keys shape cpu (hash key shape.seed) trace.got trace.taking trace.takes) trace.offers)

  pub update_counts : (turns : List TurnAt) (reply : Reply) → IsKeyTrace shape cpu spare (verbs.Update side flags key value) turns reply → Counts (turns_of turns) reply
  update_counts turns reply trace =
      by_kind (is_lru shape.kind) trace
      (λ lru evicting. ⊎_elim (λ unknown. counts_none turns reply unknown.1 unknown.2)
      (λ known. by_kind (is_percpu shape.kind && (flags == 2)) known.1 (λ _ alone. counts_written turns reply alone) (λ _ offer. counts_offered turns reply offer)) evicting)
      (λ plain is. ⊎_elim (λ unknown. ap (count done_in) unknown.1 ∙ ap (λ (r : Reply). did_entries (refused_with r)) (sym unknown.2)) (λ known. counts_plain (turns_of turns) reply known.1) is)

-- a delete on one key: the turn of its bucket, and what else it adds to a count
pub record DeleteTurn (shape : Shape) (key : List ℕ) (turns : List Turn) (reply : Reply) : Type 0 where
  pub gone : Option ℕ
  pub reply_is : reply ≡ reply_of_gone gone
  pub counted : (f : Part → ℕ) → IsOfKeys f → count f turns ≡ f (parts.Bucket (Delete key gone))
  pub alone : gone ≡ None → turns ≡ on_bucket_of shape key (Delete key None) ∷ []

module _ (shape : Shape) (cpu : ℕ) (spare : Option ℕ) (key : List ℕ) where
  plain_delete : (turns : List Turn) (reply : Reply) → IsDeleteTrace shape cpu key turns reply → DeleteTurn shape key turns reply
  plain_delete turns reply trace = record {
    gone = trace.gone;
    reply_is = trace.reply_is;
    counted = λ f of_keys. ap (count f) trace.turns_are ∙ count_last f of_keys (pushes cpu trace.gone) (on_bucket_of shape key (Delete key trace.gone)) (pushes_none f of_keys cpu trace.gone);
    alone = λ none. trace.turns_are ∙ ap (λ (g : Option ℕ). pushes cpu g ++ on_bucket_of shape key (Delete key g) ∷ []) none;
  }

  evicting_delete : (turns : List TurnAt) (reply : Reply) → IsEvictingDelete shape key turns reply → DeleteTurn shape key (turns_of turns) reply
  evicting_delete turns reply trace = record {
    gone = trace.gone;
    reply_is = trace.reply_is;
    counted = λ f of_keys. ap (λ (l : List TurnAt). count f (turns_of l)) trace.turns_are
        ∙ count_first f of_keys trace.at_bucket.turn (turns_of trace.freeing) (frees_one_none f of_keys shape trace.gone trace.freeing trace.frees)
        ∙ ap (λ (x : Turn). f x.part) trace.bucket_is;
    alone = λ none. ap turns_of trace.turns_are
        ∙ ap (λ (l : List TurnAt). turns_of (trace.at_bucket ∷ l)) (subst (λ (g : Option ℕ). FreesOne shape g trace.freeing) none trace.frees)
        ∙ ap (λ (x : Turn). x ∷ []) (trace.bucket_is ∙ ap (λ (g : Option ℕ). on_bucket_of shape key (Delete key g)) none);
  }

  pub delete_turn : (turns : List TurnAt) (reply : Reply) → IsKeyTrace shape cpu spare (verbs.Delete key) turns reply → DeleteTurn shape key (turns_of turns) reply
  delete_turn turns reply trace = by_kind (is_lru shape.kind) trace (λ lru evicting. evicting_delete turns reply evicting) (λ plain is. plain_delete (turns_of turns) reply is)

gone_counts : (gone : Option ℕ) → finds_key gone ≡ did_entries (refused_with (reply_of_gone gone))
gone_counts None = refl
gone_counts (Some e) = refl

-- Batches

count_joined : (f : Part → ℕ) (one rest : List TurnAt) → count f (turns_of (one ++ rest)) ≡ count f (turns_of one) + count f (turns_of rest)
count_joined f one rest = ap (count f) (map-append (λ (at : TurnAt). at.turn) one rest) ∙ sum_by-append (λ (x : Turn). f x.part) (turns_of one) (turns_of rest)

same_stop : (a b : Option Errno) (n m : ℕ) → Count a n ≡ Count b m → a ≡ b
same_stop a b n m is = cc

same_errno : (a b : Errno) → Some a ≡ Some b → a ≡ b
same_errno a b is = cc

same_done : (a b : Option Errno) (n m : ℕ) → Count a n ≡ Count b m → n ≡ m
same_done a b n m is = cc

-- how many entries are done, of some and those before them: each, or fewer where one was refused
abbrev pub DoesEach : Option Errno → ℕ → ℕ → ℕ → Type 0
DoesEach stop done before entries = MatchOption stop (done ≡ before + entries) (λ errno. done < before + entries)

module _ (shape : Shape) (cpu : ℕ) where
  -- entries that each count as one where they aren't refused
  abbrev pub CountsOne : Verb → Type 0
  CountsOne entry = (spare : Option ℕ) (turns : List TurnAt) (reply : Reply) → IsKeyTrace shape cpu spare entry turns reply → count done_in (turns_of turns) ≡ did_entries (refused_with reply)

  abbrev pub CountOne : List Verb → Type 0
  CountOne [] = Unit {0}
  CountOne (entry ∷ entries) = CountsOne entry × CountOne entries

  pub updates_count : (pairs : List (List ℕ × List ℕ)) → CountOne (updates_of pairs)
  updates_count [] = tt
  updates_count (pair ∷ pairs) = (λ spare turns reply trace. update_counts shape cpu spare Sys 0 pair.0 pair.1 turns reply trace, updates_count pairs)

  delete_counts : (key : List ℕ) → CountsOne (verbs.Delete key)
  delete_counts key spare turns reply trace = one (delete_turn shape cpu spare key turns reply trace)
    where
      one : DeleteTurn shape key (turns_of turns) reply → count done_in (turns_of turns) ≡ did_entries (refused_with reply)
      one turn = turn.counted done_in done_of_keys ∙ gone_counts turn.gone ∙ ap (λ (r : Reply). did_entries (refused_with r)) (sym turn.reply_is)

  pub deletes_count : (keys : List (List ℕ)) → CountOne (deletes_of keys)
  deletes_count [] = tt
  deletes_count (key ∷ keys) = (delete_counts key, deletes_count keys)

  pub writes_count : (spare : Option ℕ) (entries : List Verb) (before : ℕ) (turns : List TurnAt) (stop : Option Errno) (done : ℕ) → CountOne entries
      → Writes shape cpu spare entries before turns (Count stop done) → before + count done_in (turns_of turns) ≡ done
  writes_count spare [] before turns stop done counts writes =
      let none : count done_in (turns_of turns) ≡ 0 = ap (λ (l : List TurnAt). count done_in (turns_of l)) writes.0 in
      omega (arith, none, same_done stop None done before writes.1)
  writes_count spare (entry ∷ entries) before turns stop done counts (answer, one, rest, (are, trace, goes)) =
      let here : count done_in (turns_of one) ≡ did_entries (refused_with answer) = counts.0 spare one answer trace in
      let all : count done_in (turns_of turns) ≡ count done_in (turns_of one) + count done_in (turns_of rest) = ap (λ (l : List TurnAt). count done_in (turns_of l)) are ∙ count_joined done_in one rest in
      on (λ more. writes_count (spare_left shape spare one) entries (suc before) rest stop done counts.1 more) (refused_with answer) here all goes
    where
      on : (Writes shape cpu (spare_left shape spare one) entries (suc before) rest (Count stop done) → suc before + count done_in (turns_of rest) ≡ done)
          → (refused : Option Errno) → count done_in (turns_of one) ≡ did_entries refused → count done_in (turns_of turns) ≡ count done_in (turns_of one) + count done_in (turns_of rest)
          → MatchOption refused (Writes shape cpu (spare_left shape spare one) entries (suc before) rest (Count stop done)) (λ errno. (rest ≡ []) × (Count stop done ≡ Count (Some errno) before))
          → before + count done_in (turns_of turns) ≡ done
      on next None here all more = omega (arith, here, all, next more)
      on next (Some errno) here all ends =
          let none : count done_in (turns_of rest) ≡ 0 = ap (λ (l : List TurnAt). count done_in (turns_of l)) ends.0 in
          omega (arith, here, all, none, same_done stop (Some errno) done before ends.1)

  pub does_each : (spare : Option ℕ) (entries : List Verb) (before : ℕ) (turns : List TurnAt) (stop : Option Errno) (done : ℕ)
      → Writes shape cpu spare entries before turns (Count stop done) → DoesEach stop done before (length entries)
  does_each spare [] before turns stop done writes = at_end stop (same_stop stop None done before writes.1) (same_done stop None done before writes.1)
    where
      at_end : (s : Option Errno) → s ≡ None → done ≡ before → DoesEach s done before 0
      at_end None none is = omega (arith, is)
      at_end (Some errno) none is = absurd cc
  does_each spare (entry ∷ entries) before turns stop done (answer, one, rest, (are, trace, goes)) =
      on (λ more. does_each (spare_left shape spare one) entries (suc before) rest stop done more) (refused_with answer) goes
    where
      later : (s : Option Errno) → DoesEach s done (suc before) (length entries) → DoesEach s done before (suc (length entries))
      later None each = omega (arith, each)
      later (Some errno) each = omega (arith, each)

      here : (errno : Errno) (s : Option Errno) → s ≡ Some errno → done ≡ before → DoesEach s done before (suc (length entries))
      here errno None some is = absurd cc
      here errno (Some told) some is = omega (arith, is)

      on : (Writes shape cpu (spare_left shape spare one) entries (suc before) rest (Count stop done) → DoesEach stop done (suc before) (length entries))
          → (refused : Option Errno) → MatchOption refused (Writes shape cpu (spare_left shape spare one) entries (suc before) rest (Count stop done)) (λ errno. (rest ≡ []) × (Count stop done ≡ Count (Some errno) before))
          → DoesEach stop done before (suc (length entries))
      on next None more = later stop (next more)
      on next (Some errno) ends = here errno stop (same_stop stop (Some errno) done before ends.1) (same_done stop (Some errno) done before ends.1)

  -- no key that is missed
  pub none_missed : (spare : Option ℕ) (keys : List (List ℕ)) (before : ℕ) (turns : List TurnAt) (done : ℕ)
      → Writes shape cpu spare (deletes_of keys) before turns (Count None done) → count missed_in (turns_of turns) ≡ 0
  none_missed spare [] before turns done writes = ap (λ (l : List TurnAt). count missed_in (turns_of l)) writes.0
  none_missed spare (key ∷ keys) before turns done (answer, one, rest, (are, trace, goes)) =
      ap (λ (l : List TurnAt). count missed_in (turns_of l)) are ∙ count_joined missed_in one rest
      ∙ on (λ more. none_missed (spare_left shape spare one) keys (suc before) rest done more) (delete_turn shape cpu spare key one answer trace)
    where
      by : (gone : Option ℕ) → count missed_in (turns_of one) ≡ misses_key gone
          → (Writes shape cpu (spare_left shape spare one) (deletes_of keys) (suc before) rest (Count None done) → count missed_in (turns_of rest) ≡ 0)
          → MatchOption (refused_with (reply_of_gone gone)) (Writes shape cpu (spare_left shape spare one) (deletes_of keys) (suc before) rest (Count None done)) (λ errno. (rest ≡ []) × (Count None done ≡ Count (Some errno) before))
          → count missed_in (turns_of one) + count missed_in (turns_of rest) ≡ 0
      by None counted next ends = let other : None ≡ Some Enoent = same_stop None (Some Enoent) done before ends.1 in absurd cc
      by (Some e) counted next more = omega (arith, counted, next more)

      on : (Writes shape cpu (spare_left shape spare one) (deletes_of keys) (suc before) rest (Count None done) → count missed_in (turns_of rest) ≡ 0)
          → DeleteTurn shape key (turns_of one) answer → count missed_in (turns_of one) + count missed_in (turns_of rest) ≡ 0
      on next turn = by turn.gone (turn.counted missed_in missed_of_keys) next (subst (λ (r : Reply). MatchOption (refused_with r) (Writes shape cpu (spare_left shape spare one) (deletes_of keys) (suc before) rest (Count None done)) (λ errno. (rest ≡ []) × (Count None done ≡ Count (Some errno) before))) turn.reply_is goes)

  -- the last turn is that of the key at this place, which isn't there, and none was missed before it
  pub record LastMissed (keys : List (List ℕ)) (turns : List Turn) (k : ℕ) : Type 0 where
    pub others : List Turn
    pub turns_are : turns ≡ others ++ on_bucket_of shape (slice_index_or keys k []) (Delete (slice_index_or keys k []) None) ∷ []
    pub found_all : count missed_in others ≡ 0

  abbrev StopsIn : List (List ℕ) → ℕ → List TurnAt → Errno → ℕ → Type 0
  StopsIn keys before turns errno done = (errno ≡ Enoent) × (k : ℕ) × (done ≡ before + k) × LastMissed keys (turns_of turns) k

  pub last_missed : (spare : Option ℕ) (keys : List (List ℕ)) (before : ℕ) (turns : List TurnAt) (errno : Errno) (done : ℕ)
      → Writes shape cpu spare (deletes_of keys) before turns (Count (Some errno) done) → StopsIn keys before turns errno done
  last_missed spare [] before turns errno done writes = let other : Some errno ≡ None = same_stop (Some errno) None done before writes.1 in absurd cc
  last_missed spare (key ∷ keys) before turns errno done (answer, one, rest, (are, trace, goes)) =
      on (λ more. last_missed (spare_left shape spare one) keys (suc before) rest errno done more) (delete_turn shape cpu spare key one answer trace)
    where
      by : (gone : Option ℕ) → count missed_in (turns_of one) ≡ misses_key gone → (gone ≡ None → turns_of one ≡ on_bucket_of shape key (Delete key None) ∷ [])
          → (Writes shape cpu (spare_left shape spare one) (deletes_of keys) (suc before) rest (Count (Some errno) done) → StopsIn keys (suc before) rest errno done)
          → MatchOption (refused_with (reply_of_gone gone)) (Writes shape cpu (spare_left shape spare one) (deletes_of keys) (suc before) rest (Count (Some errno) done)) (λ errno_2. (rest ≡ []) × (Count (Some errno) done ≡ Count (Some errno_2) before))
          → StopsIn (key ∷ keys) before turns errno done
      by None counted alone next ends = (
        same_errno errno Enoent (same_stop (Some errno) (Some Enoent) done before ends.1),
        0,
        omega (arith, same_done (Some errno) (Some Enoent) done before ends.1),
        record {
          others = [];
          turns_are = ap turns_of are ∙ ap (λ (l : List TurnAt). turns_of (one ++ l)) ends.0 ∙ map-append (λ (at : TurnAt). at.turn) one [] ∙ ap (λ (l : List Turn). l ++ []) (alone refl);
          found_all = refl;
        },
      )
      by (Some e) counted alone next goes_on =
          let more = next goes_on in (
            more.0,
            suc more.1,
            omega (arith, more.2),
            record {
              others = turns_of one ++ more.3.others;
              turns_are = ap turns_of are ∙ map-append (λ (at : TurnAt). at.turn) one rest ∙ ap (λ (l : List Turn). turns_of one ++ l) more.3.turns_are ∙ sym (append_assoc (turns_of one) more.3.others _);
              found_all = sum_by-append (λ (x : Turn). missed_in x.part) (turns_of one) more.3.others ∙ omega (arith, counted, more.3.found_all);
            },
          )

      on : (Writes shape cpu (spare_left shape spare one) (deletes_of keys) (suc before) rest (Count (Some errno) done) → StopsIn keys (suc before) rest errno done)
          → DeleteTurn shape key (turns_of one) answer → StopsIn (key ∷ keys) before turns errno done
      on next turn = by turn.gone (turn.counted missed_in missed_of_keys) turn.alone next
          (subst (λ (r : Reply). MatchOption (refused_with r) (Writes shape cpu (spare_left shape spare one) (deletes_of keys) (suc before) rest (Count (Some errno) done)) (λ errno_2. (rest ≡ []) × (Count (Some errno) done ≡ Count (Some errno_2) before))) turn.reply_is goes)
