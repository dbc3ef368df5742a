-- The turns of a call on a map that doesn't evict leave as many elements as there were: what they take from buckets and freelists
-- they bring to others, or it becomes the spare of the CPU.
use Rattle.std.proofs.Common.{◌≡◌, ℕ, suc, ◌+◌, ◌-◌, Bool, true, false, eqb, ltb, List, [], ◌∷◌, ◌++◌, map, length, refl, ap, ◌∙◌, sym, subst, inl, inr, arith}
use Rattle.std.specs.Prelude.{Option, None, Some, MatchBool, MatchOption, option_to_list, min, unwrap_or}
use Rattle.std.proofs.lemmas.List.{map-append}
use Rattle.map_types.specs.declared.attr.Shape.{Shape}
use Rattle.map_types.specs.declared.call.Verb.{Verb}
use Rattle.map_types.specs.declared.call.Verb.TheVariants as verbs
use Rattle.map_types.specs.declared.kind.DomainId.TheVariants.{Bucket}
use Rattle.map_types.specs.declared.kind.Side.{Side}
use Rattle.map_types.specs.declared.refusal.Errno.{Errno}
use Rattle.map_types.specs.declared.refusal.Errno.TheVariants.{Enoent, Einval}
use Rattle.map_types.specs.declared.reply.Reply.{Reply}
use Rattle.map_types.specs.declared.reply.Reply.TheVariants.{Done, Value, Refused}
use Rattle.map_types.specs.ElementLists.{times}
use Rattle.map_types.specs.Kind.{is_lru}
use Rattle.place_words.specs.declared.bucket_part.BucketPart.TheVariants.{Update, Delete, Take, First, Walk}
use Rattle.place_words.specs.declared.bucket_part.NextFound.{NextFound}
use Rattle.place_words.specs.declared.bucket_part.NextFound.TheVariants as nexts
use Rattle.place_words.specs.declared.bucket_part.Put.{Put}
use Rattle.place_words.specs.declared.bucket_part.Put.TheVariants as puts
use Rattle.place_words.specs.declared.bucket_part.Walked.{Walked}
use Rattle.place_words.specs.declared.bucket_part.Walked.TheVariants.{Over, Taken}
use Rattle.place_words.specs.declared.free_part.FreePart.TheVariants.{Pushed, Popped}
use Rattle.place_words.specs.declared.history.Part.TheVariants as parts
use Rattle.place_words.specs.Moves.{brought, taken, taken_from_bucket}
use Rattle.place_words.specs.PlainTraces.{found_empty, pushes, LooksFor, IsUpdateTrace, element_gone, IsPlainTrace, spare_after}
use Rattle.place_words.specs.Traces.{IsTrace}
use Rattle.place_words.specs.Turns.{Turn, TurnAt, turns_of, ring, on_lock, bucket_of_key, on_bucket_of, on_freelist_of}
use Rattle.place_words.specs.Handing.{Callback, AfterHanding, HandsOverBuckets, IsHandingTrace, StopsAt}
use Rattle.place_words.specs.Walks.{buckets_from, Firsts, GoesOn, IsNextTrace, walked_out, pair_of, AfterWalk, Walks, IsReadTrace, IsKeyTrace, spare_left, refused_with, Writes, IsWriteBatch, updates_of, deletes_of}
use Rattle.place_words.proofs.BucketLaws.{times_more}
use Rattle.place_words.proofs.PlainLaws.{second_chosen, plain_spare, trace_plain}

-- how often turns bring an element, and take it
abbrev pub all_brought : ℕ → List Turn → ℕ
all_brought e [] = 0
all_brought e (turn ∷ turns) = times e (brought turn.part) + all_brought e turns

abbrev pub all_taken : ℕ → List Turn → ℕ
all_taken e [] = 0
all_taken e (turn ∷ turns) = times e (taken turn.part) + all_taken e turns

brought_append : (e : ℕ) (xs ys : List Turn) → all_brought e (xs ++ ys) ≡ all_brought e xs + all_brought e ys
brought_append e [] ys = omega arith
brought_append e (turn ∷ xs) ys = omega (arith, brought_append e xs ys)

taken_append : (e : ℕ) (xs ys : List Turn) → all_taken e (xs ++ ys) ≡ all_taken e xs + all_taken e ys
taken_append e [] ys = omega arith
taken_append e (turn ∷ xs) ys = omega (arith, taken_append e xs ys)

spare_append : (spare : Option ℕ) (xs ys : List Turn) → spare_after spare (xs ++ ys) ≡ spare_after (spare_after spare xs) ys
spare_append spare [] ys = refl
spare_append spare (turn ∷ xs) ys = spare_append _ xs ys

-- Turns of a CPU with this spare: the elements are as many with the spare that they leave. One that has none gets none.
pub record Balances (spare : Option ℕ) (turns : List Turn) : Type 0 where
  pub even : (e : ℕ) → all_brought e turns + times e (option_to_list (spare_after spare turns)) ≡ all_taken e turns + times e (option_to_list spare)
  pub none : spare ≡ None → spare_after spare turns ≡ None

balances_none : (spare : Option ℕ) → Balances spare []
balances_none spare = record { even = λ e. refl; none = λ is. is }

balances_both : (spare : Option ℕ) (xs ys : List Turn) → Balances spare xs → Balances (spare_after spare xs) ys → Balances spare (xs ++ ys)
balances_both spare xs ys first second = record {
  even = λ e.
      let same : times e (option_to_list (spare_after spare (xs ++ ys))) ≡ times e (option_to_list (spare_after (spare_after spare xs) ys)) = ap (λ (s : Option ℕ). times e (option_to_list s)) (spare_append spare xs ys) in
      omega (arith, first.even e, second.even e, brought_append e xs ys, taken_append e xs ys, same);
  none = λ is. spare_append spare xs ys ∙ second.none (first.none is);
}

-- Updates

empties_spare : (spare : Option ℕ) (cpus : List ℕ) → spare_after spare (found_empty cpus) ≡ spare
empties_spare spare [] = refl
empties_spare spare (cpu ∷ cpus) = empties_spare spare cpus

empties_balance : (spare : Option ℕ) (cpus : List ℕ) → Balances spare (found_empty cpus)
empties_balance spare [] = balances_none spare
empties_balance spare (cpu ∷ cpus) = let rest = empties_balance spare cpus in record { even = λ e. omega (arith, rest.even e); none = rest.none }

after_empties : (spare : Option ℕ) (cpus : List ℕ) (turns : List Turn) → Balances spare turns → Balances spare (found_empty cpus ++ turns)
after_empties spare cpus turns rest =
    balances_both spare (found_empty cpus) turns (empties_balance spare cpus) (subst (λ (s : Option ℕ). Balances s turns) (sym (empties_spare spare cpus)) rest)

join : (xs : List Turn) (y z : Turn) → (xs ++ y ∷ []) ++ z ∷ [] ≡ xs ++ y ∷ z ∷ []
join [] y z = refl
join (x ∷ xs) y z = ap (λ (rest : List Turn). x ∷ rest) (join xs y z)

module _ (shape : Shape) (cpu : ℕ) (spare : Option ℕ) where
  put_balances : (side : Side) (flags : ℕ) (key value : List ℕ) (put : Put) (looks : List Turn) → LooksFor shape cpu spare put looks → Balances spare (looks ++ on_bucket_of shape key (Update side flags key value None put) ∷ [])
  put_balances side flags key value (puts.Added x) looks pops =
      let update : Turn = on_bucket_of shape key (Update side flags key value None (puts.Added x)) in
      subst (Balances spare) (sym (ap (λ (turns : List Turn). turns ++ update ∷ []) pops.turns_are ∙ join (found_empty pops.passed) (on_freelist_of pops.giver (Popped x)) update))
      (after_empties spare pops.passed _ (record { even = λ e. omega arith; none = λ is. is }))
  put_balances side flags key value (puts.Replaced new old) looks looked =
      let update : Turn = on_bucket_of shape key (Update side flags key value None (puts.Replaced new old)) in
      subst (Balances spare) (sym (ap (λ (turns : List Turn). turns ++ update ∷ []) looked.0)) record {
        even = λ e. let same : times e (option_to_list spare) ≡ times e (new ∷ []) = ap (λ (s : Option ℕ). times e (option_to_list s)) looked.1 in omega (arith, same);
        none = λ is. absurd (Rattle.std.proofs.lemmas.Option.none-some new (sym is ∙ looked.1));
      }
  put_balances side flags key value (puts.Written x) looks looked =
      subst (Balances spare) (sym (ap (λ (turns : List Turn). turns ++ on_bucket_of shape key (Update side flags key value None (puts.Written x)) ∷ []) looked)) (record { even = λ e. refl; none = λ is. is })
  put_balances side flags key value puts.Exists looks looked =
      subst (Balances spare) (sym (ap (λ (turns : List Turn). turns ++ on_bucket_of shape key (Update side flags key value None puts.Exists) ∷ []) looked)) (record { even = λ e. refl; none = λ is. is })
  put_balances side flags key value puts.Absent looks looked =
      subst (Balances spare) (sym (ap (λ (turns : List Turn). turns ++ on_bucket_of shape key (Update side flags key value None puts.Absent) ∷ []) looked)) (record { even = λ e. refl; none = λ is. is })
  put_balances side flags key value puts.Full looks looked =
      subst (Balances spare) (sym (ap (λ (turns : List Turn). turns ++ on_bucket_of shape key (Update side flags key value None puts.Full) ∷ []) looked))
      (after_empties spare (ring cpu shape.cpus) _ (record { even = λ e. refl; none = λ is. is }))

  -- Calls on one key

  delete_balances : (key : List ℕ) (gone : Option ℕ) → Balances spare (pushes cpu gone ++ on_bucket_of shape key (Delete key gone) ∷ [])
  delete_balances key None = record { even = λ e. refl; none = λ is. is }
  delete_balances key (Some x) = record { even = λ e. omega arith; none = λ is. is }

  take_balances : (key : List ℕ) (gone : Option (ℕ × List ℕ)) → Balances spare (pushes cpu (element_gone gone) ++ on_bucket_of shape key (Take key gone) ∷ [])
  take_balances key None = record { even = λ e. refl; none = λ is. is }
  take_balances key (Some gone) = record { even = λ e. omega arith; none = λ is. is }

  update_balances : (side : Side) (flags : ℕ) (key value : List ℕ) (turns : List Turn) (reply : Reply) → IsUpdateTrace shape cpu spare side flags key value turns reply → Balances spare turns
  update_balances side flags key value turns reply (inl refused) = subst (Balances spare) (sym refused.1) (balances_none spare)
  update_balances side flags key value turns reply (inr done) =
      let trace = done.1 in subst (Balances spare) (sym trace.turns_are) (put_balances side flags key value trace.put trace.looks trace.looks_are)

  plain_balances : (verb : Verb) (turns : List Turn) (reply : Reply) → IsPlainTrace shape cpu spare verb turns reply → Balances spare turns
  plain_balances (verbs.Lookup side key) turns reply trace = subst (Balances spare) (sym trace.turns_are) (record { even = λ e. refl; none = λ is. is })
  plain_balances (verbs.Update side flags key value) turns reply trace = update_balances side flags key value turns reply trace
  plain_balances (verbs.Delete key) turns reply trace = subst (Balances spare) (sym trace.turns_are) (delete_balances key trace.gone)
  plain_balances (verbs.Take key) turns reply trace = subst (Balances spare) (sym trace.turns_are) (take_balances key trace.gone)
  plain_balances (verbs.Next key) turns reply trace = absurd trace
  plain_balances (verbs.BatchRead remove count start flags) turns reply trace = absurd trace
  plain_balances (verbs.BatchUpdate flags pairs) turns reply trace = absurd trace
  plain_balances (verbs.BatchDelete flags keys) turns reply trace = absurd trace
  plain_balances (verbs.Each flags stop) turns reply trace = absurd trace

  -- Next key

  firsts_step : (bucket : ℕ) (buckets : List ℕ) (key : Option (List ℕ)) (rest : List Turn) (reply : Reply) → ((turns : List Turn) → Firsts buckets turns reply → Balances spare turns)
      → MatchOption key (Firsts buckets rest reply) (λ first. (rest ≡ []) × (reply ≡ Value first)) → Balances spare (on_lock (Bucket bucket) (parts.Bucket (First key)) ∷ rest)
  firsts_step bucket buckets None rest reply more goes = let later = more rest goes in record { even = λ e. omega (arith, later.even e); none = later.none }
  firsts_step bucket buckets (Some key) rest reply more goes =
      subst (λ (r : List Turn). Balances spare (on_lock (Bucket bucket) (parts.Bucket (First (Some key))) ∷ r)) (sym goes.0) (record { even = λ e. refl; none = λ is. is })

  firsts_balance : (buckets : List ℕ) (turns : List Turn) (reply : Reply) → Firsts buckets turns reply → Balances spare turns
  firsts_balance [] turns reply trace = subst (Balances spare) (sym trace.0) (balances_none spare)
  firsts_balance (bucket ∷ buckets) turns reply (key, rest, turns_are, goes) =
      subst (Balances spare) (sym turns_are) (firsts_step bucket buckets key rest reply (λ ts. firsts_balance buckets ts reply) goes)

  goes_balance : (key : List ℕ) (found : NextFound) (turns : List Turn) (reply : Reply) → GoesOn shape key found turns reply → Balances spare turns
  goes_balance key nexts.Absent turns reply goes = firsts_balance (buckets_from shape 0) turns reply goes
  goes_balance key nexts.Last turns reply goes = firsts_balance (buckets_from shape (bucket_of_key shape key + 1)) turns reply goes
  goes_balance key (nexts.Key next) turns reply goes = subst (Balances spare) (sym goes.0) (balances_none spare)

  next_balances : (key : Option (List ℕ)) (turns : List Turn) (reply : Reply) → IsNextTrace shape key turns reply → Balances spare turns
  next_balances None turns reply trace = firsts_balance (buckets_from shape 0) turns reply trace
  next_balances (Some key) turns reply trace =
      let later = goes_balance key trace.found trace.rest reply trace.goes_on in
      subst (Balances spare) (sym trace.turns_are) (record { even = λ e. omega (arith, later.even e); none = later.none })

  -- Walks over all elements

  -- a turn that takes nothing out of its bucket
  kept_first : (bucket room : ℕ) (result : Walked) (rest : List Turn) → Balances spare rest → Balances spare (on_lock (Bucket bucket) (parts.Bucket (Walk false room result)) ∷ rest)
  kept_first bucket room (Over n) rest later = record { even = λ e. omega (arith, later.even e); none = later.none }
  kept_first bucket room (Taken all) rest later = record { even = λ e. omega (arith, later.even e); none = later.none }

  handing_rest : (Says : Callback) (bucket : ℕ) (before : List (List ℕ × List ℕ)) (rest : List Turn) (reply : Reply) (result : Walked) (More : List (List ℕ × List ℕ) → Type 0)
      → AfterHanding shape cpu Says bucket before rest reply result More → ((now : List (List ℕ × List ℕ)) → More now → Balances spare rest) → Balances spare rest
  handing_rest Says bucket before rest reply (Over n) More goes more = subst (Balances spare) (sym goes.0) (balances_none spare)
  handing_rest Says bucket before rest reply (Taken all) More (over, true, (hands, ends)) more = subst (Balances spare) (sym ends.0) (balances_none spare)
  handing_rest Says bucket before rest reply (Taken all) More (over, false, (hands, goes)) more = more (before ++ over) goes

  hands_balance : (Says : Callback) (buckets : List ℕ) (before : List (List ℕ × List ℕ)) (turns : List Turn) (reply : Reply) → HandsOverBuckets shape cpu Says buckets before turns reply → Balances spare turns
  hands_balance Says [] before turns reply trace = subst (Balances spare) (sym trace.0) (balances_none spare)
  hands_balance Says (bucket ∷ buckets) before turns reply (result, rest, (turns_are, goes)) =
      subst (Balances spare) (sym turns_are)
      (kept_first bucket (shape.elements - length before) result rest (handing_rest Says bucket before rest reply result _ goes (λ now more. hands_balance Says buckets now rest reply more)))

  each_balances : (Says : Callback) (flags : ℕ) (turns : List Turn) (reply : Reply) → IsHandingTrace shape cpu Says flags turns reply → Balances spare turns
  each_balances Says flags turns reply trace = by (eqb flags 0) trace
    where
      by : (plainly : Bool) → MatchBool plainly (HandsOverBuckets shape cpu Says (buckets_from shape 0) [] turns reply) ((turns ≡ []) × (reply ≡ Refused Einval)) → Balances spare turns
      by true told = hands_balance Says (buckets_from shape 0) [] turns reply told
      by false told = subst (Balances spare) (sym told.0) (balances_none spare)

  -- Batch reads

  pushed_brought : (e : ℕ) (gone : List ℕ) → all_brought e (map (λ x. on_freelist_of cpu (Pushed x)) gone) ≡ times e gone
  pushed_brought e [] = refl
  pushed_brought e (x ∷ gone) = omega (arith, pushed_brought e gone, times_more e x gone)

  pushed_taken : (e : ℕ) (gone : List ℕ) → all_taken e (map (λ x. on_freelist_of cpu (Pushed x)) gone) ≡ 0
  pushed_taken e [] = refl
  pushed_taken e (x ∷ gone) = omega (arith, pushed_taken e gone)

  pushed_spare : (gone : List ℕ) → spare_after spare (map (λ x. on_freelist_of cpu (Pushed x)) gone) ≡ spare
  pushed_spare [] = refl
  pushed_spare (x ∷ gone) = pushed_spare gone

  walked_is : (remove : Bool) (room : ℕ) (result : Walked) → taken_from_bucket (Walk remove room result) ≡ walked_out remove result
  walked_is remove room (Over n) = refl
  walked_is remove room (Taken all) = refl

  abbrev walk_turns : ℕ → Bool → ℕ → Walked → List Turn
  walk_turns bucket remove room result = map (λ x. on_freelist_of cpu (Pushed x)) (walked_out remove result) ++ on_lock (Bucket bucket) (parts.Bucket (Walk remove room result)) ∷ []

  walk_spare : (bucket : ℕ) (remove : Bool) (room : ℕ) (result : Walked) → spare_after spare (walk_turns bucket remove room result) ≡ spare
  walk_spare bucket remove room result =
      spare_append spare (map (λ x. on_freelist_of cpu (Pushed x)) (walked_out remove result)) (on_lock (Bucket bucket) (parts.Bucket (Walk remove room result)) ∷ []) ∙ pushed_spare (walked_out remove result)

  walk_balances : (bucket : ℕ) (remove : Bool) (room : ℕ) (result : Walked) → Balances spare (walk_turns bucket remove room result)
  walk_balances bucket remove room result = record {
    even = λ e.
        let pushed : List Turn = map (λ x. on_freelist_of cpu (Pushed x)) (walked_out remove result) in
        let last : List Turn = on_lock (Bucket bucket) (parts.Bucket (Walk remove room result)) ∷ [] in
        let out : times e (taken_from_bucket (Walk remove room result)) ≡ times e (walked_out remove result) = ap (times e) (walked_is remove room result) in
        let same : times e (option_to_list (spare_after spare (walk_turns bucket remove room result))) ≡ times e (option_to_list spare) = ap (λ (s : Option ℕ). times e (option_to_list s)) (walk_spare bucket remove room result) in
        omega (arith, out, same, brought_append e pushed last, taken_append e pushed last, pushed_brought e (walked_out remove result), pushed_taken e (walked_out remove result));
    none = λ is. walk_spare bucket remove room result ∙ is;
  }

turns_append : (xs ys : List TurnAt) → turns_of (xs ++ ys) ≡ turns_of xs ++ turns_of ys
turns_append xs ys = map-append (λ (at : TurnAt). at.turn) xs ys

module _ (shape : Shape) (cpu : ℕ) (plain : is_lru shape.kind ≡ false) where
  none_at : (spare : Option ℕ) (turns : List TurnAt) → turns ≡ [] → Balances spare (turns_of turns)
  none_at spare turns none = subst (λ (ts : List TurnAt). Balances spare (turns_of ts)) (sym none) (balances_none spare)

  after_step : (spare : Option ℕ) (bucket : ℕ) (before : List (List ℕ × List ℕ)) (rest : List TurnAt) (reply : Reply) (result : Walked) (More : List (List ℕ × List ℕ) → Type 0)
      → AfterWalk bucket before rest reply result More → ((now : List (List ℕ × List ℕ)) → More now → Balances spare (turns_of rest)) → Balances spare (turns_of rest)
  after_step spare bucket before rest reply (Over n) More goes more = none_at spare rest goes.0
  after_step spare bucket before rest reply (Taken all) More goes more = more (before ++ map pair_of all) goes

  walks_balance : (spare : Option ℕ) (remove : Bool) (limit : ℕ) (buckets : List ℕ) (before : List (List ℕ × List ℕ)) (turns : List TurnAt) (reply : Reply) → Walks shape cpu remove limit buckets before turns reply → Balances spare (turns_of turns)
  walks_balance spare remove limit [] before turns reply trace = none_at spare turns trace.0
  walks_balance spare remove limit (bucket ∷ buckets) before turns reply (result, one, rest, (turns_are, takes, goes)) =
      let room : ℕ = limit - length before in
      let first : turns_of one ≡ walk_turns shape cpu spare bucket remove room result = second_chosen (is_lru shape.kind) _ _ plain takes in
      let later : Balances spare (turns_of rest) = after_step spare bucket before rest reply result _ goes (λ now more. walks_balance spare remove limit buckets now rest reply more) in
      subst (Balances spare) (sym (ap turns_of turns_are ∙ turns_append one rest ∙ ap (λ (ts : List Turn). ts ++ turns_of rest) first))
      (balances_both spare (walk_turns shape cpu spare bucket remove room result) (turns_of rest) (walk_balances shape cpu spare bucket remove room result)
      (subst (λ (s : Option ℕ). Balances s (turns_of rest)) (sym (walk_spare shape cpu spare bucket remove room result)) later))

  read_balances : (spare : Option ℕ) (remove : Bool) (count : ℕ) (start : Option ℕ) (flags : ℕ) (turns : List TurnAt) (reply : Reply) → IsReadTrace shape cpu remove count start flags turns reply → Balances spare (turns_of turns)
  read_balances spare remove count start flags turns reply trace = by (eqb flags 0) (eqb count 0) (ltb (unwrap_or start 0) shape.buckets) trace
    where
      by : (plainly nothing there : Bool)
          → MatchBool plainly (MatchBool nothing ((turns ≡ []) × (reply ≡ Done))
          (MatchBool there (Walks shape cpu remove (min count shape.elements) (buckets_from shape (unwrap_or start 0)) [] turns reply) ((turns ≡ []) × (reply ≡ Refused Enoent))))
          ((turns ≡ []) × (reply ≡ Refused Einval)) → Balances spare (turns_of turns)
      by true true there told = none_at spare turns told.0
      by true false true told = walks_balance spare remove (min count shape.elements) (buckets_from shape (unwrap_or start 0)) [] turns reply told
      by true false false told = none_at spare turns told.0
      by false nothing there told = none_at spare turns told.0

  -- Batch writes

  key_balances : (spare : Option ℕ) (verb : Verb) (turns : List TurnAt) (reply : Reply) → IsKeyTrace shape cpu spare verb turns reply → Balances spare (turns_of turns)
  key_balances spare verb turns reply trace = plain_balances shape cpu spare verb (turns_of turns) reply (trace_plain shape cpu spare turns reply plain verb trace)

  write_step : (spare : Option ℕ) (rest : List TurnAt) (told : Option Errno) (Goes : Type 0) (Stops : Errno → Type 0) → MatchOption told Goes Stops → (Goes → Balances spare (turns_of rest)) → ((errno : Errno) → Stops errno → rest ≡ []) → Balances spare (turns_of rest)
  write_step spare rest None Goes Stops trace goes stops = goes trace
  write_step spare rest (Some errno) Goes Stops trace goes stops = none_at spare rest (stops errno trace)

  writes_balance : (entries : List Verb) (spare : Option ℕ) (done : ℕ) (turns : List TurnAt) (reply : Reply) → Writes shape cpu spare entries done turns reply → Balances spare (turns_of turns)
  writes_balance [] spare done turns reply trace = none_at spare turns trace.0
  writes_balance (entry ∷ entries) spare done turns reply (answer, one, rest, (turns_are, trace, goes)) =
      let left : spare_left shape spare one ≡ spare_after spare (turns_of one) = plain_spare shape spare one plain in
      let later : Balances (spare_left shape spare one) (turns_of rest) = write_step (spare_left shape spare one) rest (refused_with answer) _ _ goes (λ more. writes_balance entries (spare_left shape spare one) (suc done) rest reply more) (λ errno stops. stops.0) in
      subst (Balances spare) (sym (ap turns_of turns_are ∙ turns_append one rest))
      (balances_both spare (turns_of one) (turns_of rest) (key_balances spare entry one answer trace) (subst (λ (s : Option ℕ). Balances s (turns_of rest)) left later))

  write_balances : (spare : Option ℕ) (flags : ℕ) (entries : List Verb) (turns : List TurnAt) (reply : Reply) → IsWriteBatch shape cpu spare flags entries turns reply → Balances spare (turns_of turns)
  write_balances spare flags entries turns reply trace = by (eqb flags 0) trace
    where
      by : (plainly : Bool) → MatchBool plainly (Writes shape cpu spare entries 0 turns reply) ((turns ≡ []) × (reply ≡ Refused Einval)) → Balances spare (turns_of turns)
      by true told = writes_balance entries spare 0 turns reply told
      by false told = none_at spare turns told.0

  -- every call
  pub trace_balances : (spare : Option ℕ) (verb : Verb) (turns : List TurnAt) (reply : Reply) → IsTrace shape cpu spare verb turns reply → Balances spare (turns_of turns)
  trace_balances spare (verbs.Lookup side key) turns reply trace = key_balances spare (verbs.Lookup side key) turns reply trace
  trace_balances spare (verbs.Update side flags key value) turns reply trace = key_balances spare (verbs.Update side flags key value) turns reply trace
  trace_balances spare (verbs.Delete key) turns reply trace = key_balances spare (verbs.Delete key) turns reply trace
  trace_balances spare (verbs.Take key) turns reply trace = key_balances spare (verbs.Take key) turns reply trace
  trace_balances spare (verbs.Next key) turns reply trace = next_balances shape cpu spare key (turns_of turns) reply trace
  trace_balances spare (verbs.BatchRead remove count start flags) turns reply trace = read_balances spare remove count start flags turns reply trace
  trace_balances spare (verbs.BatchUpdate flags pairs) turns reply trace = write_balances spare flags (updates_of pairs) turns reply trace
  trace_balances spare (verbs.BatchDelete flags keys) turns reply trace = write_balances spare flags (deletes_of keys) turns reply trace
  trace_balances spare (verbs.Each flags stop) turns reply trace = each_balances shape cpu spare (StopsAt stop) flags (turns_of turns) reply trace
