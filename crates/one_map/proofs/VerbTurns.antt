-- The turns on keys in a call's trace are such as its verb makes.
use Rattle.std.proofs.Common.{◌≡◌, ℕ, suc, ◌+◌, ◌-◌, inl, inr, Bool, true, false, eqb, ltb, List, [], ◌∷◌, ◌++◌, map, length, Option, None, Some, refl, ap, sym, ◌∙◌, subst}
use Rattle.std.specs.Prelude.{◌&&◌, MatchBool, MatchOption, reverse, unwrap_or}
use Rattle.std.specs.List.{Contains}
use Rattle.std.proofs.lemmas.List.{map-append}
use Rattle.map_types.specs.declared.attr.Shape.{Shape}
use Rattle.map_types.specs.declared.call.Verb.{Verb}
use Rattle.map_types.specs.declared.call.Verb.TheVariants as verbs
use Rattle.map_types.specs.declared.kind.DomainId.TheVariants.{Bucket}
use Rattle.map_types.specs.declared.kind.Side.{Side}
use Rattle.map_types.specs.declared.refusal.Errno.{Errno}
use Rattle.map_types.specs.declared.refusal.Errno.TheVariants.{Enomem}
use Rattle.map_types.specs.declared.reply.Reply.{Reply}
use Rattle.map_types.specs.declared.reply.Reply.TheVariants.{Refused, Value, Count}
use Rattle.map_types.specs.Kind.{is_lru, is_percpu}
use Rattle.place_words.specs.declared.bucket_part.BucketPart.TheVariants.{Lookup, Update, Delete, Take, Next, Walk}
use Rattle.place_words.specs.declared.bucket_part.NextFound.{NextFound}
use Rattle.place_words.specs.declared.bucket_part.NextFound.TheVariants as nexts
use Rattle.place_words.specs.declared.bucket_part.Walked.{Walked}
use Rattle.place_words.specs.declared.bucket_part.Walked.TheVariants.{Over, Taken}
use Rattle.place_words.specs.declared.free_part.FreePart.TheVariants.{Pushed}
use Rattle.place_words.specs.declared.history.Part.{Part}
use Rattle.place_words.specs.declared.history.Part.TheVariants as parts
use Rattle.place_words.specs.Evicting.{OffersOne, IsEvictingUpdate, IsEvictingTrace}
use Rattle.place_words.specs.Handing.{Callback, HandsOverBuckets, AfterHanding, IsHandingTrace, StopsAt}
use Rattle.place_words.specs.PlainTraces.{pushes, element_gone, IsPlainTrace}
use Rattle.place_words.specs.Traces.{IsTrace}
use Rattle.place_words.specs.Turns.{Turn, TurnAt, turns_of, on_lock, on_bucket_of, on_freelist_of, bucket_of_key}
use Rattle.place_words.specs.Walks.{buckets_from, Firsts, GoesOn, IsNextTrace, FreesAll, TakesOut, walked_out, AfterWalk, Walks, IsReadTrace, IsKeyTrace, refused_with, spare_left, Writes, IsWriteBatch, updates_of, deletes_of}
use Rattle.turn_order.proofs.Members.{IsAmong, among_contains}
use Rattle.one_map.specs.CallTurns.{is_on_keys, IsTurnOnKey, IsHead, IsWalk, IsTurnOf}
use Rattle.one_map.proofs.Asides.{AreAside, clash, looks_aside, pushes_aside, acquires_aside, frees_aside, frees_one_aside}

-- of turns, that those on keys have such parts
abbrev pub AreSuch : (Part → Type 0) → List Turn → Type 0
AreSuch Such [] = Unit {0}
AreSuch Such (turn ∷ turns) = (is_on_keys turn.part ≡ true → Such turn.part) × AreSuch Such turns

pub each_such : (Such : Part → Type 0) (turns : List Turn) → AreSuch Such turns → (turn : Turn) → IsAmong turn turns → is_on_keys turn.part ≡ true → Such turn.part
each_such Such [] are turn there on = absurd there
each_such Such (first ∷ turns) are turn (inl same) on = subst (λ (t : Turn). is_on_keys t.part ≡ true → Such t.part) same are.0 on
each_such Such (first ∷ turns) are turn (inr later) on = each_such Such turns are.1 turn later on

weaker : (Such More : Part → Type 0) → ((part : Part) → Such part → More part) → (turns : List Turn) → AreSuch Such turns → AreSuch More turns
weaker Such More so [] are = tt
weaker Such More so (turn ∷ turns) are = ((λ on. so turn.part (are.0 on)), weaker Such More so turns are.1)

either : (b : Bool) {P Q R : Type 0} → MatchBool b P Q → (P → R) → (Q → R) → R
either true may hit miss = hit may
either false may hit miss = miss may

module _ (Such : Part → Type 0) where
  aside_such : (turns : List Turn) → AreAside turns → AreSuch Such turns
  aside_such [] aside = tt
  aside_such (turn ∷ turns) aside = ((λ on. clash (is_on_keys turn.part) on aside.0), aside_such turns aside.1)

  both : (one rest : List Turn) → AreSuch Such one → AreSuch Such rest → AreSuch Such (one ++ rest)
  both [] rest first more = more
  both (turn ∷ one) rest first more = (first.0, both one rest first.1 more)

  none_such : (turns : List Turn) → turns ≡ [] → AreSuch Such turns
  none_such turns none = subst (λ (l : List Turn). AreSuch Such l) (sym none) tt

  none_at : (turns : List TurnAt) → turns ≡ [] → AreSuch Such (turns_of turns)
  none_at turns none = subst (λ (l : List TurnAt). AreSuch Such (turns_of l)) (sym none) tt

  both_at : (one rest turns : List TurnAt) → turns ≡ one ++ rest → AreSuch Such (turns_of one) → AreSuch Such (turns_of rest) → AreSuch Such (turns_of turns)
  both_at one rest turns is first more =
      subst (λ (l : List Turn). AreSuch Such l) (sym (ap (λ (l : List TurnAt). turns_of l) is ∙ map-append (λ (at : TurnAt). at.turn) one rest)) (both (turns_of one) (turns_of rest) first more)

  -- one such turn behind others, or before them
  last_such : (before : List Turn) (turn : Turn) (turns : List Turn) → turns ≡ before ++ turn ∷ [] → AreAside before → Such turn.part → AreSuch Such turns
  last_such before turn turns is first its = subst (λ (l : List Turn). AreSuch Such l) (sym is) (both before (turn ∷ []) (aside_such before first) ((λ on. its), tt))

  then_such : (turn : Turn) (rest turns : List Turn) → turns ≡ turn ∷ rest → Such turn.part → AreSuch Such rest → AreSuch Such turns
  then_such turn rest turns is its more = subst (λ (l : List Turn). AreSuch Such l) (sym is) ((λ on. its), more)

  first_such : (at : TurnAt) (turn : Turn) (rest turns : List TurnAt) → turns ≡ at ∷ rest → at.turn ≡ turn → Such turn.part → AreAside (turns_of rest) → AreSuch Such (turns_of turns)
  first_such at turn rest turns is at_is its more =
      subst (λ (l : List TurnAt). AreSuch Such (turns_of l)) (sym is) ((λ on. subst (λ (t : Turn). Such t.part) (sym at_is) its), aside_such (turns_of rest) more)

module _ (shape : Shape) where
  -- Calls on one key
  plain_such : (cpu : ℕ) (spare : Option ℕ) (verb : Verb) (turns : List Turn) (reply : Reply) → IsPlainTrace shape cpu spare verb turns reply → AreSuch (IsTurnOnKey verb) turns
  plain_such cpu spare (verbs.Lookup side key) turns reply trace = last_such (IsTurnOnKey (verbs.Lookup side key)) [] (on_bucket_of shape key (Lookup side key trace.got)) turns trace.turns_are tt (trace.got, refl)
  plain_such cpu spare (verbs.Update side flags key value) turns reply (inl refused) = none_such (IsTurnOnKey (verbs.Update side flags key value)) turns refused.1
  plain_such cpu spare (verbs.Update side flags key value) turns reply (inr made) =
      let trace = made.1 in
      last_such (IsTurnOnKey (verbs.Update side flags key value)) trace.looks (on_bucket_of shape key (Update side flags key value None trace.put)) turns trace.turns_are
      (looks_aside shape cpu spare trace.put trace.looks trace.looks_are) (None, trace.put, refl)
  plain_such cpu spare (verbs.Delete key) turns reply trace =
      last_such (IsTurnOnKey (verbs.Delete key)) (pushes cpu trace.gone) (on_bucket_of shape key (Delete key trace.gone)) turns trace.turns_are (pushes_aside shape cpu trace.gone) (trace.gone, refl)
  plain_such cpu spare (verbs.Take key) turns reply trace =
      last_such (IsTurnOnKey (verbs.Take key)) (pushes cpu (element_gone trace.gone)) (on_bucket_of shape key (Take key trace.gone)) turns trace.turns_are (pushes_aside shape cpu (element_gone trace.gone)) (trace.gone, refl)
  plain_such cpu spare (verbs.Next key) turns reply trace = absurd trace
  plain_such cpu spare (verbs.BatchRead remove count start flags) turns reply trace = absurd trace
  plain_such cpu spare (verbs.BatchUpdate flags pairs) turns reply trace = absurd trace
  plain_such cpu spare (verbs.BatchDelete flags keys) turns reply trace = absurd trace
  plain_such cpu spare (verbs.Each flags stop) turns reply trace = absurd trace

  evicting_update_such : (cpu : ℕ) (side : Side) (flags : ℕ) (key value : List ℕ) (turns : List TurnAt) (reply : Reply) → IsEvictingUpdate shape cpu side flags key value turns reply
      → AreSuch (IsTurnOnKey (verbs.Update side flags key value)) (turns_of turns)
  evicting_update_such cpu side flags key value turns reply (inl refused) = none_at (IsTurnOnKey (verbs.Update side flags key value)) turns refused.1
  evicting_update_such cpu side flags key value turns reply (inr made) =
      either (is_percpu shape.kind && eqb flags 2) made.1
      (λ writes. last_such (IsTurnOnKey (verbs.Update side flags key value)) [] (on_bucket_of shape key (Update side flags key value None writes.put)) (turns_of turns) writes.turns_are tt (None, writes.put, refl))
      (λ offer. both_at (IsTurnOnKey (verbs.Update side flags key value)) offer.taking offer.rest turns offer.turns_are (aside_such (IsTurnOnKey (verbs.Update side flags key value)) (turns_of offer.taking) (acquires_aside shape cpu _ offer.got offer.taking offer.takes)) (by offer.rest offer.got offer.offers))
    where
      by : (rest : List TurnAt) (got : Option ℕ) → MatchOption got ((rest ≡ []) × (reply ≡ Refused Enomem)) (λ e. OffersOne shape side flags key value e rest reply) → AreSuch (IsTurnOnKey (verbs.Update side flags key value)) (turns_of rest)
      by rest None none = none_at (IsTurnOnKey (verbs.Update side flags key value)) rest none.0
      by rest (Some e) offers =
          first_such (IsTurnOnKey (verbs.Update side flags key value)) offers.at_bucket (on_bucket_of shape key (Update side flags key value (Some e) offers.put)) offers.freeing rest offers.turns_are offers.bucket_is (Some e, offers.put, refl)
          (frees_one_aside shape _ offers.freeing offers.frees)

  evicting_such : (cpu : ℕ) (verb : Verb) (turns : List TurnAt) (reply : Reply) → IsEvictingTrace shape cpu verb turns reply → AreSuch (IsTurnOnKey verb) (turns_of turns)
  evicting_such cpu (verbs.Lookup side key) turns reply trace =
      last_such (IsTurnOnKey (verbs.Lookup side key)) [] (on_bucket_of shape key (Lookup side key trace.got)) (turns_of turns) trace.turns_are tt (trace.got, refl)
  evicting_such cpu (verbs.Update side flags key value) turns reply trace = evicting_update_such cpu side flags key value turns reply trace
  evicting_such cpu (verbs.Delete key) turns reply trace =
      first_such (IsTurnOnKey (verbs.Delete key)) trace.at_bucket (on_bucket_of shape key (Delete key trace.gone)) trace.freeing turns trace.turns_are trace.bucket_is (trace.gone, refl) (frees_one_aside shape trace.gone trace.freeing trace.frees)
  evicting_such cpu (verbs.Take key) turns reply trace =
      first_such (IsTurnOnKey (verbs.Take key)) trace.at_bucket (on_bucket_of shape key (Take key trace.gone)) trace.freeing turns trace.turns_are trace.bucket_is (trace.gone, refl) (frees_one_aside shape _ trace.freeing trace.frees)
  evicting_such cpu (verbs.Next key) turns reply trace = absurd trace
  evicting_such cpu (verbs.BatchRead remove count start flags) turns reply trace = absurd trace
  evicting_such cpu (verbs.BatchUpdate flags pairs) turns reply trace = absurd trace
  evicting_such cpu (verbs.BatchDelete flags keys) turns reply trace = absurd trace
  evicting_such cpu (verbs.Each flags stop) turns reply trace = absurd trace

  key_such : (cpu : ℕ) (spare : Option ℕ) (verb : Verb) (turns : List TurnAt) (reply : Reply) → IsKeyTrace shape cpu spare verb turns reply → AreSuch (IsTurnOnKey verb) (turns_of turns)
  key_such cpu spare verb turns reply trace =
      either (is_lru shape.kind) trace
      (λ evicting. evicting_such cpu verb turns reply evicting)
      (λ plain. plain_such cpu spare verb (turns_of turns) reply plain)

  -- Next key
  firsts_such : (Such : Part → Type 0) → ((part : Part) → IsHead part → Such part) → (buckets : List ℕ) (turns : List Turn) (reply : Reply) → Firsts buckets turns reply → AreSuch Such turns
  firsts_such Such so [] turns reply firsts = none_such Such turns firsts.0
  firsts_such Such so (bucket ∷ buckets) turns reply firsts =
      then_such Such _ firsts.1 turns firsts.2 (so _ (firsts.0, refl)) (by firsts.1 (λ more. firsts_such Such so buckets firsts.1 reply more) firsts.0 firsts.3)
    where
      by : (rest : List Turn) {P : Type 0} → (P → AreSuch Such rest) → (key : Option (List ℕ)) → MatchOption key P (λ first. (rest ≡ []) × (reply ≡ Value first)) → AreSuch Such rest
      by rest go None may = go may
      by rest go (Some first) may = none_such Such rest may.0

  next_such : (key : Option (List ℕ)) (turns : List Turn) (reply : Reply) → IsNextTrace shape key turns reply → AreSuch (IsTurnOf (verbs.Next key)) turns
  next_such None turns reply trace = firsts_such (IsTurnOf (verbs.Next None)) (λ part head. head) (buckets_from shape 0) turns reply trace
  next_such (Some key) turns reply trace =
      then_such (IsTurnOf (verbs.Next (Some key))) (on_bucket_of shape key (Next key trace.found)) trace.rest turns trace.turns_are (inl (trace.found, refl)) (goes_on trace.found trace.rest trace.goes_on)
    where
      goes_on : (found : NextFound) (rest : List Turn) → GoesOn shape key found rest reply → AreSuch (IsTurnOf (verbs.Next (Some key))) rest
      goes_on nexts.Absent rest goes = firsts_such (IsTurnOf (verbs.Next (Some key))) (λ part head. inr head) (buckets_from shape 0) rest reply goes
      goes_on nexts.Last rest goes = firsts_such (IsTurnOf (verbs.Next (Some key))) (λ part head. inr head) (buckets_from shape (bucket_of_key shape key + 1)) rest reply goes
      goes_on (nexts.Key next) rest goes = none_such (IsTurnOf (verbs.Next (Some key))) rest goes.0

  -- Walks
  pushed_aside : (cpu : ℕ) (gone : List ℕ) → AreAside (map (λ e. on_freelist_of cpu (Pushed e)) gone)
  pushed_aside cpu [] = tt
  pushed_aside cpu (e ∷ gone) = (refl, pushed_aside cpu gone)

  frees_all_such : (Such : Part → Type 0) (es : List ℕ) (turns : List TurnAt) → FreesAll shape es turns → AreSuch Such (turns_of turns)
  frees_all_such Such [] turns frees = none_at Such turns frees
  frees_all_such Such (e ∷ es) turns frees = both_at Such frees.0 frees.1 turns frees.2.0 (aside_such Such (turns_of frees.0) (frees_aside shape e frees.0 frees.2.1)) (frees_all_such Such es frees.1 frees.2.2)

  takes_such : (Such : Part → Type 0) (cpu : ℕ) (turn : Turn) (gone : List ℕ) (turns : List TurnAt) → Such turn.part → TakesOut shape cpu turn gone turns → AreSuch Such (turns_of turns)
  takes_such Such cpu turn gone turns its takes =
      either (is_lru shape.kind) takes
      (λ freed.
      subst (λ (l : List TurnAt). AreSuch Such (turns_of l)) (sym freed.turns_are)
      ((λ on. subst (λ (t : Turn). Such t.part) (sym freed.bucket_is) its), frees_all_such Such (reverse gone) freed.freeing freed.frees))
      (λ pushed. last_such Such (map (λ e. on_freelist_of cpu (Pushed e)) gone) turn (turns_of turns) pushed (pushed_aside cpu gone) its)

  walks_such : (cpu : ℕ) (remove : Bool) (limit : ℕ) (buckets : List ℕ) (taken : List (List ℕ × List ℕ)) (turns : List TurnAt) (reply : Reply) → Walks shape cpu remove limit buckets taken turns reply
      → AreSuch (IsWalk remove) (turns_of turns)
  walks_such cpu remove limit [] taken turns reply walks = none_at (IsWalk remove) turns walks.0
  walks_such cpu remove limit (bucket ∷ buckets) taken turns reply walks =
      both_at (IsWalk remove) walks.1 walks.2 turns walks.3.0
      (takes_such (IsWalk remove) cpu (on_lock (Bucket bucket) (parts.Bucket (Walk remove (limit - length taken) walks.0))) (walked_out remove walks.0) walks.1 (limit - length taken, walks.0, refl) walks.3.1)
      (by walks.2 walks.0 (λ now more. walks_such cpu remove limit buckets now walks.2 reply more) walks.3.2)
    where
      by : (rest : List TurnAt) (result : Walked) {P : List (List ℕ × List ℕ) → Type 0} → ((now : List (List ℕ × List ℕ)) → P now → AreSuch (IsWalk remove) (turns_of rest))
          → AfterWalk bucket taken rest reply result P → AreSuch (IsWalk remove) (turns_of rest)
      by rest (Over n) go after = none_at (IsWalk remove) rest after.0
      by rest (Taken all) go after = go _ after

  read_such : (cpu : ℕ) (remove : Bool) (count : ℕ) (start : Option ℕ) (flags : ℕ) (turns : List TurnAt) (reply : Reply) → IsReadTrace shape cpu remove count start flags turns reply → AreSuch (IsWalk remove) (turns_of turns)
  read_such cpu remove count start flags turns reply trace =
      either (eqb flags 0) trace
      (λ asked. either (eqb count 0) asked
      (λ none. none_at (IsWalk remove) turns none.0)
      (λ some. either (ltb (unwrap_or start 0) shape.buckets) some
      (λ walks. walks_such cpu remove _ _ [] turns reply walks)
      (λ none. none_at (IsWalk remove) turns none.0)))
      (λ refused. none_at (IsWalk remove) turns refused.0)

  hands_such : (cpu : ℕ) (Says : Callback) (buckets : List ℕ) (before : List (List ℕ × List ℕ)) (turns : List Turn) (reply : Reply) → HandsOverBuckets shape cpu Says buckets before turns reply → AreSuch (IsWalk false) turns
  hands_such cpu Says [] before turns reply hands = none_such (IsWalk false) turns hands.0
  hands_such cpu Says (bucket ∷ buckets) before turns reply hands =
      then_such (IsWalk false) _ hands.1 turns hands.2.0 (shape.elements - length before, hands.0, refl) (by hands.1 hands.0 (λ now more. hands_such cpu Says buckets now hands.1 reply more) hands.2.1)
    where
      by : (rest : List Turn) (result : Walked) → ((now : List (List ℕ × List ℕ)) → HandsOverBuckets shape cpu Says buckets now rest reply → AreSuch (IsWalk false) rest)
          → AfterHanding shape cpu Says bucket before rest reply result (λ now. HandsOverBuckets shape cpu Says buckets now rest reply) → AreSuch (IsWalk false) rest
      by rest (Over n) go after = none_such (IsWalk false) rest after.0
      by rest (Taken all) go after = either after.1 after.2.1 (λ stopped. none_such (IsWalk false) rest stopped.0) (λ more. go _ more)

  handing_such : (cpu : ℕ) (Says : Callback) (flags : ℕ) (turns : List Turn) (reply : Reply) → IsHandingTrace shape cpu Says flags turns reply → AreSuch (IsWalk false) turns
  handing_such cpu Says flags turns reply trace = either (eqb flags 0) trace (λ hands. hands_such cpu Says _ [] turns reply hands) (λ refused. none_such (IsWalk false) turns refused.0)

  -- Batch writes
  abbrev OfEntry : List Verb → Part → Type 0
  OfEntry entries part = (entry : Verb) × Contains entries entry × IsTurnOnKey entry part

  writes_such : (Such : Part → Type 0) (cpu : ℕ) (spare : Option ℕ) (entries : List Verb) → ((entry : Verb) → IsAmong entry entries → (part : Part) → IsTurnOnKey entry part → Such part)
      → (done : ℕ) (turns : List TurnAt) (reply : Reply) → Writes shape cpu spare entries done turns reply → AreSuch Such (turns_of turns)
  writes_such Such cpu spare [] so done turns reply writes = none_at Such turns writes.0
  writes_such Such cpu spare (entry ∷ entries) so done turns reply writes =
      both_at Such writes.1 writes.2 turns writes.3.0
      (weaker (IsTurnOnKey entry) Such (λ part its. so entry (inl refl) part its) (turns_of writes.1) (key_such cpu spare entry writes.1 writes.0 writes.3.1))
      (by writes.2 (refused_with writes.0) (λ more. writes_such Such cpu (spare_left shape spare writes.1) entries (λ other there. so other (inr there)) (suc done) writes.2 reply more) writes.3.2)
    where
      by : (rest : List TurnAt) (refused : Option Errno) {P : Type 0} → (P → AreSuch Such (turns_of rest)) → MatchOption refused P (λ errno. (rest ≡ []) × (reply ≡ Count (Some errno) done)) → AreSuch Such (turns_of rest)
      by rest None go may = go may
      by rest (Some errno) go may = none_at Such rest may.0

  batch_such : (cpu : ℕ) (spare : Option ℕ) (flags : ℕ) (entries : List Verb) (turns : List TurnAt) (reply : Reply) → IsWriteBatch shape cpu spare flags entries turns reply → AreSuch (OfEntry entries) (turns_of turns)
  batch_such cpu spare flags entries turns reply trace =
      either (eqb flags 0) trace
      (λ writes. writes_such (OfEntry entries) cpu spare entries (λ entry there part its. (entry, among_contains entry entries there, its)) 0 turns reply writes)
      (λ refused. none_at (OfEntry entries) turns refused.0)

  pub trace_such : (cpu : ℕ) (spare : Option ℕ) (verb : Verb) (turns : List TurnAt) (reply : Reply) → IsTrace shape cpu spare verb turns reply → AreSuch (IsTurnOf verb) (turns_of turns)
  trace_such cpu spare (verbs.Lookup side key) turns reply trace = key_such cpu spare (verbs.Lookup side key) turns reply trace
  trace_such cpu spare (verbs.Update side flags key value) turns reply trace = key_such cpu spare (verbs.Update side flags key value) turns reply trace
  trace_such cpu spare (verbs.Delete key) turns reply trace = key_such cpu spare (verbs.Delete key) turns reply trace
  trace_such cpu spare (verbs.Take key) turns reply trace = key_such cpu spare (verbs.Take key) turns reply trace
  trace_such cpu spare (verbs.Next key) turns reply trace = next_such key (turns_of turns) reply trace
  trace_such cpu spare (verbs.BatchRead remove count start flags) turns reply trace = read_such cpu remove count start flags turns reply trace
  trace_such cpu spare (verbs.BatchUpdate flags pairs) turns reply trace = batch_such cpu spare flags (updates_of pairs) turns reply trace
  trace_such cpu spare (verbs.BatchDelete flags keys) turns reply trace = batch_such cpu spare flags (deletes_of keys) turns reply trace
  trace_such cpu spare (verbs.Each flags stop) turns reply trace = handing_such cpu (StopsAt stop) flags (turns_of turns) reply trace
