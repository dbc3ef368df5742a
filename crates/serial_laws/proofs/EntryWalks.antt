-- Batches do on the lists of a map what they do on its entries: one that writes, entry by entry, and one that reads, which takes out
-- the keys that it tells.
use Rattle.std.proofs.Common.{◌≡◌, ℕ, zero, suc, ◌+◌, ◌-◌, ◌<◌, ◌≤◌, Bool, true, false, not, cond, nat_lt, ◌==◌, List, [], ◌∷◌, ◌++◌, length, map, take, drop, get_or, set, Option, Some, None, refl, ap, sym, ◌∙◌, subst, arith}
use Rattle.std.specs.Prelude.{min, unwrap_or}
use Rattle.std.specs.List.{AllByRecursion, before_first, after_first, position_or_len}
use Rattle.std.proofs.lemmas.Bool.{cond_both}
use Rattle.std.proofs.lemmas.List.{get_or-set_same, set-get_or, length-set}
use Rattle.std.proofs.lemmas.Slice.Eq.{bytes_eq-Decides}
use Rattle.map_types.specs.Kind.{is_lru}
use Rattle.map_types.specs.Shape.{HasBounds}
use Rattle.map_types.specs.Stored.{Stored}
use Rattle.map_types.specs.declared.attr.Shape.{Shape}
use Rattle.map_types.specs.declared.call.Call.{Call}
use Rattle.map_types.specs.declared.call.Verb.{Verb}
use Rattle.map_types.specs.declared.call.Verb.TheVariants.{Lookup, Update, Delete, Take, Next, BatchRead, BatchUpdate, BatchDelete, Each}
use Rattle.map_types.specs.declared.kind.Side.TheVariants.{Sys}
use Rattle.map_types.specs.declared.refusal.Errno.{Errno}
use Rattle.map_types.specs.declared.refusal.Errno.TheVariants.{Enoent, Einval}
use Rattle.map_types.specs.declared.reply.Reply.{Reply}
use Rattle.map_types.specs.declared.reply.Reply.TheVariants.{Done, Refused}
use Rattle.map_script.specs.WellFormed.{HasSizes}
use Rattle.serial_laws.specs.Served.{IsCallFor}
use Rattle.place_words.specs.declared.finals.Finals.{Finals}
use Rattle.place_words.specs.Bodies.{has_key}
use Rattle.place_words.specs.Walks.{buckets_from, refused_with}
use Rattle.place_words.proofs.DoneLaws.{IsKeyVerb}
use Rattle.place_words.proofs.EachTurn.{AreWithin, first_within, others_within, buckets_within}
use Rattle.map_report.specs.Buckets.{bucket_of_key}
use Rattle.map_report.specs.Serial.{in_bucket_at, in_order, key_after, key_or_absent, pair_read, emptied, read_on, unless_stopped, each_done, unless_flags, handing_reply, after_update, after_delete, after_call}
use Rattle.map_report.specs.Soundness.{IsSound}
use Rattle.serial_laws.specs.Entries.{Entry, without, put_in, took_out, without_all, without_told, told_next, answered}
use Rattle.serial_laws.proofs.EachCall.{updates_fit, deletes_fit}
use Rattle.serial_laws.proofs.Emptied.{sound_emptied}
use Rattle.key_lists.proofs.EntryLemmas.{both, Turned, taken_first, taken_all}
use Rattle.serial_laws.proofs.EntrySteps.{stored_hits, Agree, Agrees, changed, Follows, key_follows}
use Rattle.serial_laws.proofs.NextKey.{AreOwn}
use Rattle.serial_laws.proofs.NoKeys.{none_lie}
use Rattle.serial_laws.proofs.SoundRun.{sound_key}
use Rattle.serial_laws.proofs.StayLaws.{read_stays}

-- Entries of a batch that writes

module _ (shape : Shape) where
  stop_follows : (told again : Option Errno) → told ≡ again → (done : ℕ) (lists : Finals) (entries : List Entry) (after : Finals × Reply) (later : List Entry × Reply) → Agrees shape lists entries → Follows shape after later
      → Follows shape (unless_stopped told done lists after) (unless_stopped again done entries later)
  stop_follows told again same done lists entries after later agree rest =
      subst (λ (other : Option Errno). Follows shape (unless_stopped told done lists after) (unless_stopped other done entries later)) same (by told)
    where
      by : (errno : Option Errno) → Follows shape (unless_stopped errno done lists after) (unless_stopped errno done entries later)
      by None = rest
      by (Some errno) = (refl, agree)

  each_follows : {A : Type 0} (one : A → Finals → Finals × Reply) (again : A → List Entry → List Entry × Reply) (Fits : A → Type 0)
      → ((a : A) → Fits a → (lists : Finals) (entries : List Entry) → IsSound shape lists → Agrees shape lists entries → Follows shape (one a lists) (again a entries))
      → ((a : A) → Fits a → (lists : Finals) → IsSound shape lists → IsSound shape (one a lists).0)
      → (all : List A) → AllByRecursion Fits all → (done : ℕ) (lists : Finals) (entries : List Entry) → IsSound shape lists → Agrees shape lists entries → Follows shape (each_done one all done lists) (each_done again all done entries)
  each_follows one again Fits step keeps [] fit done lists entries sound agree = (refl, agree)
  each_follows one again Fits step keeps (a ∷ all) fit done lists entries sound agree =
      let same = step a fit.0 lists entries sound agree in
      let rest = each_follows one again Fits step keeps all fit.1 (suc done) (one a lists).0 (again a entries).0 (keeps a fit.0 lists sound) same.1 in
      stop_follows (refused_with (one a lists).1) (refused_with (again a entries).1) (ap refused_with same.0) done (one a lists).0 (again a entries).0
      (each_done one all (suc done) (one a lists).0) (each_done again all (suc done) (again a entries).0) same.1 rest

-- Buckets that a batch empties

set_again : (buckets : List (List Stored)) (i : ℕ) (a b : List Stored) → set (set buckets i a) i b ≡ set buckets i b
set_again [] i a b = refl
set_again (x ∷ buckets) zero a b = refl
set_again (x ∷ buckets) (suc i) a b = ap (λ rest. x ∷ rest) (set_again buckets i a b)

-- a list without its first, where that passes
first_out : (test : Stored → Bool) (x : Stored) (xs : List Stored) → test x ≡ true → before_first test (x ∷ xs) ++ after_first test (x ∷ xs) ≡ xs
first_out test x xs passes =
    elim (test x) as (λ b. b ≡ true → take (cond (not b) (1 + position_or_len test xs) 0) (x ∷ xs) ++ drop (cond (not b) (1 + position_or_len test xs) 0 + 1) (x ∷ xs) ≡ xs) [
      | true ↦ λ is. refl
      | false ↦ λ is. absurd cc
    ] passes

module _ (shape : Shape) (bounds : HasBounds shape) (cpu : ℕ) (bucket : ℕ) (below : bucket < shape.buckets) where
  -- an element after the other, each with its key
  drained : (bodies : List Stored) (buckets : List (List Stored)) (entries : List Entry) → length buckets ≡ shape.buckets → get_or buckets bucket [] ≡ bodies → AreOwn shape bucket bodies → Agree shape buckets entries
      → Agree shape (set buckets bucket []) (without_all (map (pair_read shape cpu) bodies) entries)
  drained [] buckets entries long lies own agree =
      subst (λ (bs : List (List Stored)). Agree shape bs entries) (sym (set-get_or buckets bucket []) ∙ ap (set buckets bucket) lies) agree
  drained (body ∷ bodies) buckets entries long lies own agree =
      let key : List ℕ = body.key in
      let here : get_or buckets (bucket_of_key shape key) [] ≡ body ∷ bodies = ap (λ k. get_or buckets k []) own.0 ∙ lies in
      let few : length (stored_hits key (body ∷ bodies)) ≤ 1 = subst (λ n. n ≤ 1) (ap length (sym (agree.same key)) ∙ ap (λ (b : List Stored). length (stored_hits key b)) here) (agree.once key) in
      let out = subst (λ (left : List Stored). Turned (λ (stored : Stored). stored.key) (λ (stored : Stored). stored.values) key [] (body ∷ bodies) left) (first_out (has_key key) body bodies ((bytes_eq-Decides key key).1 refl))
      (taken_first (λ (stored : Stored). stored.key) (λ (stored : Stored). stored.values) key (body ∷ bodies) few) in
      let turned = subst (λ (old : List Stored). Turned (λ (stored : Stored). stored.key) (λ (stored : Stored). stored.values) key [] old bodies) (sym here) out in
      let one = changed shape buckets entries key [] bodies (without key entries) bounds long agree (omega arith) (λ shared. tt) turned (taken_all (λ (entry : Entry). entry.key) (λ (entry : Entry). entry.values) key entries) in
      let moved = subst (λ (k : ℕ). Agree shape (set buckets k bodies) (without key entries)) own.0 one in
      let within : bucket < length buckets = omega (arith, long, below) in
      subst (λ (bs : List (List Stored)). Agree shape bs (without_all (map (pair_read shape cpu) bodies) (without key entries))) (set_again buckets bucket bodies [])
      (drained bodies (set buckets bucket bodies) (without key entries) (length-set buckets bucket bodies ∙ long) (get_or-set_same buckets bucket bodies [] within) own.1 moved)

without_more : (first second : List (List ℕ × List ℕ)) (entries : List Entry) → without_all (first ++ second) entries ≡ without_all second (without_all first entries)
without_more [] second entries = refl
without_more (pair ∷ first) second entries = without_more first second (without pair.0 entries)

module _ (shape : Shape) (bounds : HasBounds shape) (cpu : ℕ) (few : cpu < shape.cpus) where
  -- the entries that a batch leaves that has taken these out
  read_follows : (limit : ℕ) (buckets : List ℕ) → AreWithin (λ bucket. bucket < shape.buckets) buckets → (taken : List (List ℕ × List ℕ)) (lists : Finals) (entries : List Entry) → IsSound shape lists → Agrees shape lists (without_all taken entries)
      → Agrees shape (read_on shape cpu true limit buckets taken lists).0 (without_told (read_on shape cpu true limit buckets taken lists).1 entries)
  read_follows limit [] within taken lists entries sound agree = agree
  read_follows limit (bucket ∷ buckets) within taken lists entries sound agree =
      let bodies : List Stored = in_bucket_at lists bucket in
      let below : bucket < shape.buckets = first_within (λ b. b < shape.buckets) bucket buckets within in
      cond_both (nat_lt (limit - length taken) (length bodies)) _ _ (λ (after : Finals × Reply). Agrees shape after.0 (without_told after.1 entries)) (λ over. agree)
      (λ fits. read_follows limit buckets (others_within (λ b. b < shape.buckets) bucket buckets within) (taken ++ map (pair_read shape cpu) bodies) (emptied cpu bucket lists) entries (sound_emptied shape cpu bucket lists few below sound)
      (subst (Agree shape (set lists.buckets bucket [])) (sym (without_more taken (map (pair_read shape cpu) bodies) entries))
      (drained shape bounds cpu bucket below bodies lists.buckets (without_all taken entries) sound.lengths.buckets refl (sound.each_bucket bucket).own agree)))

  any_read_follows : (remove : Bool) (limit : ℕ) (buckets : List ℕ) → AreWithin (λ bucket. bucket < shape.buckets) buckets → (lists : Finals) (entries : List Entry) → IsSound shape lists → Agrees shape lists entries
      → Agrees shape (read_on shape cpu remove limit buckets [] lists).0 (cond remove (without_told (read_on shape cpu remove limit buckets [] lists).1 entries) entries)
  any_read_follows true limit buckets within lists entries sound agree = read_follows limit buckets within [] lists entries sound agree
  any_read_follows false limit buckets within lists entries sound agree = subst (λ (now : Finals). Agrees shape now entries) (sym (read_stays shape cpu false refl limit buckets [] lists)) agree

  -- Every call

  module _ (plain : is_lru shape.kind ≡ false) where
    -- what a call makes of the lists and of the entries, where it told what it told on the lists
    abbrev CallFollows : Verb → Finals → List Entry → Type 0
    CallFollows verb lists entries = Follows shape (after_call shape cpu verb lists) (answered shape cpu verb (after_call shape cpu verb lists).1 entries)

    one_follows : (verb : Verb) → IsKeyVerb verb → (told : Reply) (lists : Finals) (entries : List Entry) → IsSound shape lists → Agrees shape lists entries → Follows shape (after_call shape cpu verb lists) (answered shape cpu verb told entries)
    one_follows verb is told lists entries sound agree = key_follows shape cpu verb told lists entries bounds plain few is sound.lengths sound.each_once agree

    unchanged : (remove : Bool) (lists : Finals) (entries : List Entry) → Agrees shape lists entries → Agrees shape lists (cond remove entries entries)
    unchanged true lists entries agree = agree
    unchanged false lists entries agree = agree

    flags_follow : (flags : ℕ) (lists : Finals) (entries : List Entry) (after : Finals × Reply) (later : List Entry × Reply) → Agrees shape lists entries → Follows shape after later
        → Follows shape (unless_flags flags lists after) (unless_flags flags entries later)
    flags_follow flags lists entries after later agree same =
        both (λ (first : Finals × Reply) (second : List Entry × Reply). Follows shape first second) (flags == 0) _ _ _ _ (λ known. same) (λ other. (refl, agree))

    -- next key answers ENOENT where there is no key
    next_follows : (key : Option (List ℕ)) (lists : Finals) (entries : List Entry) → IsSound shape lists → Agrees shape lists entries
        → key_or_absent (key_after key (in_order shape (in_bucket_at lists))) ≡ told_next (key_or_absent (key_after key (in_order shape (in_bucket_at lists)))) entries
    next_follows key lists [] sound agree = ap (λ (bodies : List Stored). key_or_absent (key_after key bodies)) (none_lie shape bounds lists sound agree) ∙ by key
      where
        by : (from : Option (List ℕ)) → key_or_absent (key_after from []) ≡ Refused Enoent
        by None = refl
        by (Some k) = refl
    next_follows key lists (entry ∷ entries) sound agree = refl

    -- a batch read under known flags or others, with a count of 0 or more, that starts at a bucket or past the last
    reads_follow : (remove : Bool) (count : ℕ) (start : Option ℕ) (lists : Finals) (entries : List Entry) → IsSound shape lists → Agrees shape lists entries → (known none there : Bool)
        → let after : Finals × Reply = cond known (cond none (lists, Done) (cond there (read_on shape cpu remove (min count shape.elements) (buckets_from shape (unwrap_or start 0)) [] lists) (lists, Refused Enoent))) (lists, Refused Einval) in
        Follows shape after (cond known (cond none (entries, Done) (cond remove (without_told after.1 entries) entries, after.1)) (entries, Refused Einval))
    reads_follow remove count start lists entries sound agree true true there = (refl, agree)
    reads_follow remove count start lists entries sound agree true false true =
        (refl, any_read_follows remove (min count shape.elements) (buckets_from shape (unwrap_or start 0)) (buckets_within shape (unwrap_or start 0)) lists entries sound agree)
    reads_follow remove count start lists entries sound agree true false false = (refl, unchanged remove lists entries agree)
    reads_follow remove count start lists entries sound agree false none there = (refl, agree)

    -- a walk over all elements under known flags or others
    handed_follow : (reply : Reply) (lists : Finals) (entries : List Entry) → Agrees shape lists entries → (known : Bool)
        → let after : Finals × Reply = cond known (lists, reply) (lists, Refused Einval) in Follows shape after (cond known (entries, after.1) (entries, Refused Einval))
    handed_follow reply lists entries agree true = (refl, agree)
    handed_follow reply lists entries agree false = (refl, agree)

    call_follows : (verb : Verb) → HasSizes shape verb → (lists : Finals) (entries : List Entry) → IsSound shape lists → Agrees shape lists entries → CallFollows verb lists entries
    unfolding after_call answered
    call_follows (Lookup side key) sizes lists entries sound agree = one_follows (Lookup side key) tt Done lists entries sound agree
    call_follows (Update side flags key value) sizes lists entries sound agree = one_follows (Update side flags key value) tt Done lists entries sound agree
    call_follows (Delete key) sizes lists entries sound agree = one_follows (Delete key) tt Done lists entries sound agree
    call_follows (Take key) sizes lists entries sound agree = one_follows (Take key) tt Done lists entries sound agree
    call_follows (Next key) sizes lists entries sound agree = (next_follows key lists entries sound agree, agree)
    call_follows (BatchRead remove count start flags) sizes lists entries sound agree = reads_follow remove count start lists entries sound agree (flags == 0) (count == 0) (nat_lt (unwrap_or start 0) shape.buckets)
    call_follows (BatchUpdate flags pairs) sizes lists entries sound agree =
        flags_follow flags lists entries _ _ agree
        (each_follows shape (λ (pair : List ℕ × List ℕ). after_update shape Sys cpu 0 pair.0 pair.1) (λ (pair : List ℕ × List ℕ). put_in shape Sys cpu 0 pair.0 pair.1) (λ (pair : List ℕ × List ℕ). HasSizes shape (Update Sys 0 pair.0 pair.1))
        (λ pair fits now held whole same. one_follows (Update Sys 0 pair.0 pair.1) tt Done now held whole same)
        (λ pair fits now whole. sound_key shape cpu (Update Sys 0 pair.0 pair.1) now bounds plain few tt fits whole)
        pairs (updates_fit shape pairs sizes) 0 lists entries sound agree)
    call_follows (BatchDelete flags keys) sizes lists entries sound agree =
        flags_follow flags lists entries _ _ agree
        (each_follows shape (after_delete shape cpu) took_out (λ (key : List ℕ). HasSizes shape (Delete key))
        (λ key fits now held whole same. one_follows (Delete key) tt Done now held whole same)
        (λ key fits now whole. sound_key shape cpu (Delete key) now bounds plain few tt fits whole)
        keys (deletes_fit shape keys sizes) 0 lists entries sound agree)
    call_follows (Each flags stop) sizes lists entries sound agree = handed_follow (handing_reply shape cpu stop (in_order shape (in_bucket_at lists))) lists entries agree (flags == 0)

-- A call on the lists answers what it answers on the entries, and they agree after it.
pub agrees_step : (shape : Shape) (call : Call) (lists : Finals) (entries : List Entry)
    → HasBounds shape → is_lru shape.kind ≡ false → IsCallFor shape call → IsSound shape lists → Agrees shape lists entries
    → ((after_call shape call.cpu call.verb lists).1 ≡ (answered shape call.cpu call.verb (after_call shape call.cpu call.verb lists).1 entries).1)
    × Agrees shape (after_call shape call.cpu call.verb lists).0 (answered shape call.cpu call.verb (after_call shape call.cpu call.verb lists).1 entries).0
agrees_step shape call lists entries bounds plain is sound agree = call_follows shape bounds call.cpu is.cpu plain call.verb is.sizes lists entries sound agree
