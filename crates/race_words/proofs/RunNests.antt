-- In the record of a run of the core nests stand apart, and what probes saw in hands was there: the lock of a turn that has begun is held until
-- the turn comes, and so no other turn of the lock comes before it.
use Rattle.std.proofs.Common.{◌≡◌, ◌⊎◌, inl, inr, ℕ, ◌<◌, ◌≤◌, true, List, [], ◌∷◌, ◌++◌, map, length, Option, refl, ap, ◌∙◌, sym, subst, ⊎_elim, arith}
use Rattle.map_types.specs.declared.attr.Shape.{Shape}
use Rattle.map_types.specs.declared.kind.DomainId.{DomainId}
use Rattle.place_words.specs.declared.bucket_part.BucketPart.TheVariants.{Evict}
use Rattle.place_words.specs.declared.bucket_part.Seen.TheVariants as seen
use Rattle.place_words.specs.declared.history.Entry.{Entry}
use Rattle.place_words.specs.declared.history.LockHistory.{LockHistory}
use Rattle.place_words.specs.declared.history.Part.{Part}
use Rattle.place_words.specs.declared.history.Part.TheVariants as parts
use Rattle.place_words.specs.declared.owner.Owner.{Owner}
use Rattle.place_words.specs.declared.owner.Owner.TheVariants as owners
use Rattle.place_words.specs.declared.step.Lists.{Lists}
use Rattle.place_words.specs.declared.step.Step.TheVariants as steps
use Rattle.place_words.specs.Choices.{among}
use Rattle.place_words.specs.Histories.{Content, opening_content}
use Rattle.place_words.specs.Interleaving.{Drawn, turn_of, Event, does, seen_by, enclosing, bucket_around, lists_in, part_steps, takes, not_begun, turn_events, interleaved}
use Rattle.place_words.specs.Locks.{rank_of}
use Rattle.place_words.specs.Named.{entries_of}
use Rattle.place_words.specs.OpeningState.{opening}
use Rattle.place_words.specs.Turns.{after_turn}
use Rattle.place_words.proofs.OpeningLaws.{opening_placed}
use Rattle.turn_order.specs.Ordered.{interleaved_to, ordered}
use Rattle.turn_order.proofs.LockOrder.{in_order}
use Rattle.turn_order.proofs.Members.{IsAmong, all_among}
use Rattle.core_runs.specs.Words.{Words, RunsByWords, words_after, words_of}
use Rattle.core_runs.proofs.Chases.{head_is, tail_is}
use Rattle.core_runs.proofs.Nests.{goes_on}
use Rattle.core_runs.proofs.Words.{runs_words}
use Rattle.step_check.specs.Ran.{words_over}
use Rattle.step_check.proofs.Begun.{Stands, HaveOwnTickets, Held, Made, begun_after, block_made, alone_before, before_begun, around_begun, held_first, over_both, stands_around}
use Rattle.step_check.proofs.InRecords.{run_enabled}
use Rattle.step_check.proofs.Judging.{words_apart}
use Rattle.step_check.proofs.SharedGoing.{stands_middle}
use Rattle.step_check.proofs.RecordLocks.{record_once, record_apart}
use Rattle.turn_order.specs.Nests.{EarlierBelow, NestsApart}
use Rattle.race_words.specs.RaceLaws.{RunsNest}
use Rattle.race_words.proofs.Inner.{Apart, Ascend, ascend_own}
use Rattle.race_words.proofs.ListTogether.{among_stands}
use Rattle.race_words.proofs.Open.{Around, around_each}
use Rattle.race_words.proofs.PlainLaw.{turns_ascend}
use Rattle.race_words.proofs.PlainRuns.{turn_block}

module _ (shape : Shape) where
  abbrev pub block_of : (DomainId → Content) → List ℕ → Drawn → List Drawn → List Event
  block_of contents begun x later = turn_events shape (enclosing x later) begun (lists_in (after_turn shape x.entry.cpu contents (turn_of x) x.lock)) x

  abbrev rest_of : (DomainId → Content) → List ℕ → Drawn → List Drawn → List Event
  rest_of contents begun x later = interleaved shape (after_turn shape x.entry.cpu contents (turn_of x)) (begun_after x later begun) later

  -- the words after a turn
  made_of : (x : Drawn) (later : List Drawn) (contents : DomainId → Content) (begun : List ℕ) (w : Words) → HaveOwnTickets (x ∷ later) → Held shape w begun (x ∷ later) → RunsByWords shape w (interleaved shape contents begun (x ∷ later))
      → Made shape w (lists_in (after_turn shape x.entry.cpu contents (turn_of x) x.lock)) x later begun (rest_of contents begun x later)
  unfolding interleaved
  made_of x later contents begun w tickets held words = block_made begun w (lists_in (after_turn shape x.entry.cpu contents (turn_of x) x.lock)) x later (rest_of contents begun x later) tickets held words

  -- No turn comes on the lock of one that has begun before it.
  none_before : (turns : List Drawn) (contents : DomainId → Content) (begun : List ℕ) (w : Words) → Ascend turns → Held shape w begun turns → RunsByWords shape w (interleaved shape contents begun turns)
      → (y z : Drawn) → Stands y turns → among begun y.entry.ticket ≡ true → Stands z turns → z.lock ≡ y.lock → y.entry.ticket ≤ z.entry.ticket
  none_before [] contents begun w ascend held words y z at has there same = absurd at
  none_before (x ∷ later) contents begun w ascend held words y z (inl is) has (inl also) same = omega (arith, ap (λ (d : Drawn). d.entry.ticket) is, ap (λ (d : Drawn). d.entry.ticket) also)
  none_before (x ∷ later) contents begun w ascend held words y z (inl is) has (inr there) same = omega (arith, ap (λ (d : Drawn). d.entry.ticket) is, ascend.0 z there)
  none_before (x ∷ later) contents begun w ascend held words y z (inr at) has (inl also) same =
      let made = made_of x later contents begun w (ascend_own (x ∷ later) ascend) held words in
      absurd (alone_before (ascend_own (x ∷ later) ascend) made y at has (sym same ∙ sym (ap (λ (d : Drawn). d.lock) also)))
  none_before (x ∷ later) contents begun w ascend held words y z (inr at) has (inr there) same =
      let made = made_of x later contents begun w (ascend_own (x ∷ later) ascend) held words in
      none_before later (after_turn shape x.entry.cpu contents (turn_of x)) (begun_after x later begun) made.now ascend.1 made.after_it made.goes_on y z at (before_begun x later begun y.entry.ticket has) there same

  words_stand_apart : (turns : List Drawn) (contents : DomainId → Content) (begun : List ℕ) (w : Words) → Ascend turns → Held shape w begun turns → RunsByWords shape w (interleaved shape contents begun turns) → Apart turns
  words_stand_apart [] contents begun w ascend held words = tt
  words_stand_apart (x ∷ later) contents begun w ascend held words =
      let made = made_of x later contents begun w (ascend_own (x ∷ later) ascend) held words in
      let now : DomainId → Content = after_turn shape x.entry.cpu contents (turn_of x) in (
        λ t at z there same. none_before later now (begun_after x later begun) made.now ascend.1 made.after_it made.goes_on t z (stands_around x t later at) (around_begun x later begun t at) there same,
        words_stand_apart later now (begun_after x later begun) made.now ascend.1 made.after_it made.goes_on,
      )

  -- What a probe sees

  pub takes_owner : (turns : List Drawn) (w : Words) → (words_over shape w (map takes turns)).owner ≡ w.owner
  unfolding words_over words_after
  takes_owner [] w = refl
  takes_owner (x ∷ turns) w = takes_owner turns (words_after shape w (steps.Take x.entry.cpu x.lock))

  probe_sees : (cpu : ℕ) (lock : DomainId) (outer : Option ℕ) (part : Part) (lists : Lists) (w : Words) (e holder : ℕ) → part ≡ parts.Bucket (Evict e (seen.Held holder))
      → RunsByWords shape w (map does (part_steps shape cpu lock outer part) ++ (seen_by part ++ does (steps.Give cpu lock lists) ∷ [])) → w.owner e ≡ owners.Hand holder
  unfolding RunsByWords
  probe_sees cpu lock outer part lists w e holder is words =
      let sees_it : RunsByWords shape w (map does (part_steps shape cpu lock outer (parts.Bucket (Evict e (seen.Held holder)))) ++ (seen_by (parts.Bucket (Evict e (seen.Held holder))) ++ does (steps.Give cpu lock lists) ∷ [])) =
      subst (λ (p : Part). RunsByWords shape w (map does (part_steps shape cpu lock outer p) ++ (seen_by p ++ does (steps.Give cpu lock lists) ∷ []))) is words in
      sees_it.0

  seen_there : (before : List Drawn) (x : Drawn) (later turns : List Drawn) (contents : DomainId → Content) (begun : List ℕ) (w : Words) → turns ≡ before ++ x ∷ later → RunsByWords shape w (interleaved shape contents begun turns)
      → (e holder : ℕ) → x.entry.part ≡ parts.Bucket (Evict e (seen.Held holder)) → (words_over shape w (interleaved_to (length before) shape contents begun turns)).owner e ≡ owners.Hand holder
  unfolding interleaved interleaved_to words_over
  seen_there before x later [] contents begun w is words e holder part_is = absurd (none before is)
    where
      none : (before : List Drawn) → [] ≡ before ++ x ∷ later → ⊥
      none [] same = cc
      none (y ∷ before) same = cc
  seen_there [] x later (y ∷ rest) contents begun w is words e holder part_is =
      let same : y ≡ x = head_is y x rest later is in
      let block = (words_apart shape (block_of contents begun y rest) (rest_of contents begun y rest) w words).0 in
      let ts : List Event = map takes (not_begun begun (enclosing y rest ++ y ∷ [])) in
      let after = (words_apart shape ts (goes_on shape contents (enclosing y rest) y []) w (subst (RunsByWords shape w) (turn_block shape contents begun y rest) block)).1 in
      sym (ap (λ (f : ℕ → Owner). f e) (takes_owner (not_begun begun (enclosing y rest ++ y ∷ [])) w))
      ∙ probe_sees y.entry.cpu y.lock (bucket_around (enclosing y rest)) y.entry.part (lists_in (after_turn shape y.entry.cpu contents (turn_of y) y.lock)) (words_over shape w ts) e holder (ap (λ (d : Drawn). d.entry.part) same ∙ part_is) after
  seen_there (u ∷ before) x later (y ∷ rest) contents begun w is words e holder part_is =
      let now : DomainId → Content = after_turn shape y.entry.cpu contents (turn_of y) in
      let block : List Event = block_of contents begun y rest in
      ap (λ (v : Words). v.owner e) (over_both shape block (interleaved_to (length before) shape now (begun_after y rest begun) rest) w)
      ∙ seen_there before x later rest now (begun_after y rest begun) (words_over shape w block) (tail_is y u rest (before ++ x ∷ later) is) (words_apart shape block (rest_of contents begun y rest) w words).1 e holder part_is

-- From the order of turns to histories
apart_behind : (before turns all : List Drawn) → all ≡ before ++ turns → Apart all → Apart turns
apart_behind [] turns all is apart = subst Apart is apart
apart_behind (u ∷ before) turns [] is apart = absurd cc
apart_behind (u ∷ before) turns (y ∷ all) is apart = apart_behind before turns all (tail_is y u all (before ++ turns) is) apart.1

ascend_to : (before : List Drawn) (x : Drawn) (later all : List Drawn) → all ≡ before ++ x ∷ later → Ascend all → (z : Drawn) → Stands z all → (z.entry.ticket < x.entry.ticket) ⊎ ((x ≡ z) ⊎ Stands z later)
ascend_to before x later [] is ascend z at = absurd at
ascend_to [] x later (y ∷ all) is ascend z at = inr (subst (λ (l : List Drawn). Stands z l) is at)
ascend_to (u ∷ before) x later (y ∷ all) is ascend z (inl same) =
    let more : all ≡ before ++ x ∷ later = tail_is y u all (before ++ x ∷ later) is in
    inl (subst (λ (d : Drawn). d.entry.ticket < x.entry.ticket) same (ascend.0 x (subst (Stands x) (sym more) (stands_middle before x later))))
ascend_to (u ∷ before) x later (y ∷ all) is ascend z (inr at) = ascend_to before x later all (tail_is y u all (before ++ x ∷ later) is) ascend.1 z at

nests_of : (histories : List LockHistory) → Ascend (ordered histories) → Apart (ordered histories) → ((z : Drawn) → IsAmong z.entry (entries_of histories z.lock) → IsAmong z (ordered histories)) → NestsApart histories
nests_of histories ascend apart inside before inner later is =
    all_among (λ (outer : Drawn). EarlierBelow histories outer inner.entry.ticket) (enclosing inner later) (λ outer there.
    all_among (λ (entry : Entry). entry.ticket < outer.entry.ticket → entry.ticket < inner.entry.ticket) (entries_of histories outer.lock) (λ entry stands less.
    let z : Drawn = record { lock = outer.lock; entry = entry } in
    let at : Stands z (ordered histories) = among_stands z (ordered histories) (inside z stands) in
    let outer_at : Stands outer (enclosing inner later) = among_stands outer (enclosing inner later) there in
    ⊎_elim
    (λ (low : entry.ticket < inner.entry.ticket). low)
    (λ (behind : (inner ≡ z) ⊎ Stands z later). ⊎_elim
    (λ (same : inner ≡ z).
    let around : Around outer inner = around_each inner later outer outer_at in
    absurd (omega (arith, around.lower, ap (λ (d : Drawn). rank_of d.lock) same)))
    (λ (later_ : Stands z later).
    let above : outer.entry.ticket ≤ z.entry.ticket = (apart_behind before (inner ∷ later) (ordered histories) is apart).0 outer outer_at z later_ refl in
    absurd (omega (arith, above, less)))
    behind)
    (ascend_to before inner later (ordered histories) is ascend z at)))

pub runs_nest : RunsNest
unfolding opening
runs_nest script kept bounds record_is run =
    let turns : List Drawn = ordered kept.histories in
    let ascend : Ascend turns = turns_ascend script kept record_is in
    let words : RunsByWords script.shape (words_of (opening script.shape)) (interleaved script.shape (opening_content script.shape) [] turns) =
    runs_words bounds (interleaved script.shape (opening_content script.shape) [] turns) (opening script.shape) (opening_placed script.shape bounds) (run_enabled script kept record_is run) in (
      nests_of kept.histories ascend (words_stand_apart script.shape turns (opening_content script.shape) [] (words_of (opening script.shape)) ascend (held_first script.shape (words_of (opening script.shape)) turns) words)
          (λ z there. in_order kept.histories (record_once script kept record_is) (record_apart script kept record_is) z there),
      λ before probe later is e holder part_is. seen_there script.shape before probe later turns (opening_content script.shape) [] (words_of (opening script.shape)) is words e holder part_is,
    )
