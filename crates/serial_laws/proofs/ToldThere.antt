-- What walks over the lists of a map tell is there, in the entries that its user sees.
use Rattle.std.proofs.Common.{◌≡◌, ℕ, zero, suc, ◌+◌, ◌-◌, ◌<◌, ◌≤◌, Bool, true, false, cond, nat_lt, ◌==◌, List, [], ◌∷◌, ◌++◌, length, map, drop, get_or, Option, Some, None, All, is_some, take, slice_get, refl, ap, sym, ◌∙◌, subst, arith, append_assoc, length-append}
use Rattle.std.specs.Prelude.{bytes_eq, MatchOption, min, unwrap_or}
use Rattle.std.specs.List.{AllByRecursion, flat_map, list_any, after_first, position_or_len}
use Rattle.std.proofs.lemmas.Bool.{cond_both, eqb-true, eqb-false, ltb-true, ltb-false, true≢false}
use Rattle.std.proofs.lemmas.List.{length-map}
use Rattle.std.proofs.lemmas.Option.{none-some, same_Some}
use Rattle.std.proofs.lemmas.Slice.Eq.{bytes_eq-Decides}
use Rattle.map_types.specs.Kind.{is_lru}
use Rattle.map_types.specs.Shape.{HasBounds}
use Rattle.map_types.specs.Sides.{value_read}
use Rattle.map_types.specs.Stored.{Stored}
use Rattle.map_types.specs.declared.attr.Shape.{Shape}
use Rattle.map_types.specs.declared.call.Call.{Call}
use Rattle.map_types.specs.declared.call.Verb.{Verb}
use Rattle.map_types.specs.declared.call.Verb.TheVariants.{Lookup, Update, Delete, Take, Next, BatchRead, BatchUpdate, BatchDelete, Each}
use Rattle.map_types.specs.declared.kind.Side.{Side}
use Rattle.map_types.specs.declared.kind.Side.TheVariants.{Prog, Sys}
use Rattle.map_types.specs.declared.reply.Reply.{Reply}
use Rattle.serial_laws.specs.Served.{IsCallFor}
use Rattle.map_script.specs.declared.script.Script.{Script}
use Rattle.place_words.specs.declared.finals.Finals.{Finals}
use Rattle.place_words.specs.Bodies.{has_key, present, first_key, next_key}
use Rattle.place_words.specs.Handing.{is_stop, up_to_stop}
use Rattle.place_words.specs.Turns.{bucket_of_key}
use Rattle.place_words.specs.Walks.{buckets_from}
use Rattle.map_report.specs.Serial.{opening, in_bucket_at, in_order, key_after, key_or_absent, pair_read, if_emptied, read_on, program_pair, handing_reply, after_call}
use Rattle.map_report.specs.Soundness.{IsSound}
use Rattle.serial_laws.specs.Entries.{Entry, entry_of, entries_after, IsThere, IsThereFor, EndsAt, HasNoKeyTwice, HandsAll, WalkMayEnd, TellsKey, TellsPairs, TellsHanded, TellsThere}
use Rattle.serial_laws.specs.Laws.{lists_before}
use Rattle.serial_laws.proofs.AnswerLaws.{reply_here}
use Rattle.serial_laws.proofs.BucketLaws.{each_set}
use Rattle.key_lists.proofs.EntryLemmas.{hit, hits-append, Finds, finds}
use Rattle.serial_laws.proofs.EntryRun.{list_replies, agrees_run}
use Rattle.serial_laws.proofs.EntrySteps.{stored_hits, entry_hits, Agrees}
use Rattle.serial_laws.proofs.NextKey.{AreOwn}
use Rattle.serial_laws.proofs.HandedOnce.{ends_at, handed_once}
use Rattle.serial_laws.proofs.NoKeys.{entry_there, lies_there, none_seen}
use Rattle.serial_laws.proofs.SameEach.{order_long, key_stops, none_stops}
use Rattle.serial_laws.proofs.SoundRun.{sound_run}
use Rattle.serial_laws.proofs.TurnLocks.{all_append}
use Rattle.serial_laws.proofs.UpToStop.{up_to_all, up_to_keeps}

-- Elements and their entries

-- one of at most one
alone : (first second : List (List (List ℕ))) (values : List (List ℕ)) → length (first ++ values ∷ second) ≤ 1 → first ++ values ∷ second ≡ values ∷ []
alone [] [] values few = refl
alone [] (x ∷ second) values few = absurd (omega arith)
alone (x ∷ first) second values few = absurd (omega (arith, length-append first (values ∷ second)))

-- the values of the element in the middle
hits_one : (front back : List Stored) (body : Stored) → length (stored_hits body.key (front ++ body ∷ back)) ≤ 1 → stored_hits body.key (front ++ body ∷ back) ≡ body.values ∷ []
hits_one front back body few =
    let parts : stored_hits body.key (front ++ body ∷ back) ≡ stored_hits body.key front ++ body.values ∷ stored_hits body.key back =
    hits-append (λ (stored : Stored). stored.key) (λ (stored : Stored). stored.values) body.key front (body ∷ back)
    ∙ ap (λ held. stored_hits body.key front ++ held) (hit (λ (stored : Stored). stored.key) (λ (stored : Stored). stored.values) body.key body back ((bytes_eq-Decides body.key body.key).1 refl)) in
    parts ∙ alone (stored_hits body.key front) (stored_hits body.key back) body.values (subst (λ (held : List (List (List ℕ))). length held ≤ 1) parts few)

-- the element's key has an entry, of which a side reads on a CPU what it reads of the element
abbrev HasEntry : Shape → Side → ℕ → List Entry → Stored → Type 0
HasEntry shape side cpu entries body = MatchOption (entry_of body.key entries) ⊥ (λ (e : Entry). value_read shape side cpu body.values ≡ value_read shape side cpu e.values)

module _ (shape : Shape) (side : Side) (cpu : ℕ) where
  entry_with : (values : List (List ℕ)) (held : List (List (List ℕ))) (entry : Option Entry) → Finds (λ (e : Entry). e.values) entry held → held ≡ values ∷ []
      → MatchOption entry ⊥ (λ (e : Entry). value_read shape side cpu values ≡ value_read shape side cpu e.values)
  entry_with values held None found is = cc
  entry_with values held (Some e) found is =
      let same : values ≡ e.values = cc in
      ap (value_read shape side cpu) same

  -- each element of a bucket is there
  each_there : (lists : Finals) (entries : List Entry) → Agrees shape lists entries → (bucket : ℕ) (front back : List Stored) → in_bucket_at lists bucket ≡ front ++ back → AreOwn shape bucket back
      → AllByRecursion (HasEntry shape side cpu entries) back
  each_there lists entries agree bucket front [] is own = tt
  each_there lists entries agree bucket front (body ∷ back) is own =
      let here : get_or lists.buckets (bucket_of_key shape body.key) [] ≡ front ++ body ∷ back = ap (λ k. get_or lists.buckets k []) own.0 ∙ is in
      let same : entry_hits body.key entries ≡ stored_hits body.key (front ++ body ∷ back) = sym (agree.same body.key) ∙ ap (stored_hits body.key) here in
      let few : length (stored_hits body.key (front ++ body ∷ back)) ≤ 1 = subst (λ (held : List (List (List ℕ))). length held ≤ 1) same (agree.once body.key) in (
        entry_with body.values (entry_hits body.key entries) (entry_of body.key entries) (finds (λ (entry : Entry). entry.key) (λ (entry : Entry). entry.values) body.key entries (agree.once body.key)) (same ∙ hits_one front back body few),
        each_there lists entries agree bucket (front ++ body ∷ []) back (is ∙ sym (append_assoc front (body ∷ []) back)) own.1,
      )

module _ (shape : Shape) where
  -- Batch reads

  module _ (entries : List Entry) where
    abbrev BodiesThere : List Stored → Type 0
    BodiesThere bodies = AllByRecursion (HasEntry shape Sys 0 entries) bodies

    abbrev AllThere : Finals → Type 0
    AllThere lists = (bucket : ℕ) → BodiesThere (in_bucket_at lists bucket)

    pairs_there : (cpu : ℕ) (bodies : List Stored) → BodiesThere bodies → AllByRecursion (IsThere shape entries) (map (pair_read shape cpu) bodies)
    pairs_there cpu [] there = tt
    pairs_there cpu (body ∷ bodies) there = (there.0, pairs_there cpu bodies there.1)

    left_there : (remove : Bool) (cpu bucket : ℕ) (lists : Finals) → AllThere lists → AllThere (if_emptied remove cpu bucket lists)
    left_there true cpu bucket lists there = each_set (λ number bodies. BodiesThere bodies) lists.buckets bucket [] there tt
    left_there false cpu bucket lists there = there

    read_there : (start : ℕ) → start < shape.buckets → (cpu : ℕ) (remove : Bool) (limit : ℕ) (buckets : List ℕ) (taken : List (List ℕ × List ℕ)) (lists : Finals) → AllThere lists → AllByRecursion (IsThere shape entries) taken
        → TellsPairs shape start entries (read_on shape cpu remove limit buckets taken lists).1
    read_there start real cpu remove limit [] taken lists there before = (real, before)
    read_there start real cpu remove limit (bucket ∷ buckets) taken lists there before =
        let bodies : List Stored = in_bucket_at lists bucket in
        cond_both (nat_lt (limit - length taken) (length bodies)) _ _ (λ (after : Finals × Reply). TellsPairs shape start entries after.1) (λ over. (real, before))
        (λ fits. read_there start real cpu remove limit buckets (taken ++ map (pair_read shape cpu) bodies) (if_emptied remove cpu bucket lists) (left_there remove cpu bucket lists there)
        (all_append (IsThere shape entries) taken (map (pair_read shape cpu) bodies) before (pairs_there cpu bodies (there bucket))))

-- Walks over all elements

-- what holds of each element of each bucket holds of all in the order of buckets
all_in_order : (P : Stored → Type 0) (lie : ℕ → List Stored) → ((bucket : ℕ) → AllByRecursion P (lie bucket)) → (buckets : List ℕ) → AllByRecursion P (flat_map lie buckets)
all_in_order P lie each [] = tt
all_in_order P lie each (bucket ∷ buckets) = all_append P (lie bucket) (flat_map lie buckets) (each bucket) (all_in_order P lie each buckets)

handed_there : (shape : Shape) (entries : List Entry) (cpu : ℕ) (bodies : List Stored) → AllByRecursion (HasEntry shape Prog cpu entries) bodies → AllByRecursion (IsThereFor shape cpu entries) (map (program_pair shape cpu) bodies)
handed_there shape entries cpu [] there = tt
handed_there shape entries cpu (body ∷ bodies) there = (there.0, handed_there shape entries cpu bodies there.1)

-- Next key

first_there : (bodies : List Stored) (key : List ℕ) → first_key bodies ≡ Some key → is_some (present key bodies) ≡ true
first_there [] key is = absurd (none-some key is)
first_there (body ∷ bodies) key is = ap (λ b. is_some (cond b (Some body) (present key bodies))) ((bytes_eq-Decides body.key key).1 (same_Some body.key key is))

later_there : (key : List ℕ) (n : ℕ) (bodies : List Stored) → is_some (present key (drop n bodies)) ≡ true → is_some (present key bodies) ≡ true
later_there key zero bodies there = there
later_there key (suc n) [] there = there
later_there key (suc n) (body ∷ bodies) there = by (bytes_eq body.key key) (later_there key n bodies there)
  where
    by : (b : Bool) → is_some (present key bodies) ≡ true → is_some (cond b (Some body) (present key bodies)) ≡ true
    by true rest = refl
    by false rest = rest

key_there : (from : Option (List ℕ)) (bodies : List Stored) (key : List ℕ) → key_after from bodies ≡ Some key → is_some (present key bodies) ≡ true
key_there None bodies key is = first_there bodies key is
key_there (Some from) bodies key is =
    cond_both (is_some (present from bodies)) _ _ (λ (next : Option (List ℕ)). next ≡ Some key → is_some (present key bodies) ≡ true)
    (λ there next. later_there key (position_or_len (has_key from) bodies + 1) bodies (first_there (after_first (has_key from) bodies) key next))
    (λ absent first. first_there bodies key first) is

no_first : (bodies : List Stored) → first_key bodies ≡ None → bodies ≡ []
no_first [] none = refl
no_first (body ∷ bodies) none = absurd (none-some body.key (sym none))

module _ (shape : Shape) (bounds : HasBounds shape) (lists : Finals) (entries : List Entry) (sound : IsSound shape lists) (agree : Agrees shape lists entries) where
  abbrev order : List Stored
  order = in_order shape (in_bucket_at lists)

  not_there : (key : List ℕ) → entry_of key entries ≡ None → is_some (present key order) ≡ false
  not_there key absent = by (is_some (present key order)) refl
    where
      by : (b : Bool) → is_some (present key order) ≡ b → b ≡ false
      by true there = absurd (true≢false (sym (entry_there shape bounds lists sound entries agree key there) ∙ ap is_some absent))
      by false gone = refl

  may_end : (from : Option (List ℕ)) → key_after from order ≡ None → WalkMayEnd from entries
  may_end None none = none_seen shape bounds lists sound entries agree (no_first order none)
  may_end (Some key) none = λ absent.
      none_seen shape bounds lists sound entries agree (no_first order (ap (λ (b : Bool). cond b (next_key key order) (first_key order)) (sym (not_there key absent)) ∙ none))

  next_tells : (from : Option (List ℕ)) → TellsKey from entries (key_or_absent (key_after from order))
  next_tells from = by (key_after from order) refl
    where
      by : (next : Option (List ℕ)) → key_after from order ≡ next → TellsKey from entries (key_or_absent next)
      by None none = (refl, may_end from none)
      by (Some key) some = entry_there shape bounds lists sound entries agree key (key_there from order key some)

  -- Where no key stops the walk, as many pairs are handed over as there are entries.
  all_handed : (cpu : ℕ) (stop : Option (List ℕ)) → list_any (is_stop stop) (map (program_pair shape cpu) order) ≡ false → length (up_to_stop stop (map (program_pair shape cpu) order)) ≡ length entries
  all_handed cpu stop none = ap length (up_to_all stop (map (program_pair shape cpu) order) none) ∙ length-map order (program_pair shape cpu) ∙ order_long shape lists sound ∙ sym agree.count

  hands_all : (cpu : ℕ) (stop : Option (List ℕ)) → HandsAll stop entries (up_to_stop stop (map (program_pair shape cpu) order))
  hands_all cpu None = all_handed cpu None (none_stops (map (program_pair shape cpu) order))
  hands_all cpu (Some key) = by (entry_of key entries) refl
    where
      by : (found : Option Entry) → entry_of key entries ≡ found
          → MatchOption found (length (up_to_stop (Some key) (map (program_pair shape cpu) order)) ≡ length entries) (λ (entry : Entry). EndsAt key (up_to_stop (Some key) (map (program_pair shape cpu) order)))
      by None absent = all_handed cpu (Some key) (key_stops shape cpu key order ∙ not_there key absent)
      by (Some entry) there = ends_at key (map (program_pair shape cpu) order) (key_stops shape cpu key order ∙ lies_there shape bounds lists sound entries agree key (ap is_some there))

  -- No key is handed over twice.
  handed_apart : (cpu : ℕ) (stop : Option (List ℕ)) → HasNoKeyTwice (up_to_stop stop (map (program_pair shape cpu) order))
  handed_apart cpu stop =
      handed_once shape bounds (in_bucket_at lists) (record { own = λ bucket below. (sound.each_bucket bucket).own; distinct = λ bucket below. (sound.each_bucket bucket).distinct }) cpu stop

  -- What a walk over all elements hands over is there.
  handed_tells : (cpu : ℕ) (stop : Option (List ℕ)) → TellsHanded shape cpu stop entries (handing_reply shape cpu stop order)
  handed_tells cpu stop =
      let there : AllByRecursion (HasEntry shape Prog cpu entries) order =
      all_in_order (HasEntry shape Prog cpu entries) (in_bucket_at lists) (λ bucket. each_there shape Prog cpu lists entries agree bucket [] (in_bucket_at lists bucket) refl (sound.each_bucket bucket).own) (buckets_from shape 0) in
      (refl, up_to_keeps stop (IsThereFor shape cpu entries) (map (program_pair shape cpu) order) (handed_there shape entries cpu order there), handed_apart cpu stop, hands_all cpu stop)

  -- What a call tells is there.
  call_tells : (cpu : ℕ) (verb : Verb) → TellsThere shape cpu entries verb (after_call shape cpu verb lists).1
  unfolding after_call
  call_tells cpu (Lookup side key) = tt
  call_tells cpu (Update side flags key value) = tt
  call_tells cpu (Delete key) = tt
  call_tells cpu (Take key) = tt
  call_tells cpu (Next key) = next_tells key
  call_tells cpu (BatchRead remove count start flags) = λ plain some.
      let from : ℕ = unwrap_or start 0 in
      let P : Finals × Reply → Type 0 = λ after. TellsPairs shape from entries after.1 in
      cond_both (flags == 0) _ _ P
      (λ known. cond_both (count == 0) _ _ P (λ none. absurd (omega (arith, some, eqb-true count 0 none)))
      (λ more. cond_both (nat_lt from shape.buckets) _ _ P
      (λ within. read_there shape entries from (ltb-true from shape.buckets within) cpu remove (min count shape.elements) (buckets_from shape from) [] lists
      (λ bucket. each_there shape Sys 0 lists entries agree bucket [] (in_bucket_at lists bucket) refl (sound.each_bucket bucket).own) tt)
      (λ past. (refl, ltb-false from shape.buckets past))))
      (λ other. absurd (eqb-false flags 0 other plain))
  call_tells cpu (BatchUpdate flags pairs) = tt
  call_tells cpu (BatchDelete flags keys) = tt
  call_tells cpu (Each flags stop) = λ plain. cond_both (flags == 0) _ _ (λ (after : Finals × Reply). TellsHanded shape cpu stop entries after.1) (λ known. handed_tells cpu stop) (λ other. absurd (eqb-false flags 0 other plain))

pub tells_there : (script : Script) → HasBounds script.shape → All (IsCallFor script.shape) script.calls → is_lru script.shape.kind ≡ false → (n : ℕ) (call : Call) (reply : Reply) → slice_get script.calls n ≡ Some call
    → slice_get (list_replies script) n ≡ Some reply → TellsThere script.shape call.cpu (entries_after script.shape [] (take n script.calls) (list_replies script)) call.verb reply
tells_there script bounds are plain n call reply is told =
    let shape : Shape = script.shape in
    let entries : List Entry = entries_after shape [] (take n script.calls) (list_replies script) in
    let here = same_Some _ _ (sym (reply_here shape script.calls n call (opening shape) is) ∙ told) in
    subst (TellsThere shape call.cpu entries call.verb) here (call_tells shape bounds (lists_before script n) entries (sound_run script bounds are plain n) (agrees_run script bounds are plain n) call.cpu call.verb)
