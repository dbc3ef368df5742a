-- What owners tell of the turns of a map that evicts is what the words say after them, and so what probes saw in hands was there.
use Rattle.std.proofs.Common.{◌≡◌, ◌≢◌, inl, inr, ℕ, suc, ◌+◌, Bool, true, false, not, cond, ltb, List, [], ◌∷◌, ◌++◌, map, length, Option, None, Some, refl, ap, ◌∙◌, sym, subst, arith}
use Rattle.std.specs.Prelude.{IsTrue, slice_get}
use Rattle.std.proofs.lemmas.Bool.{and_parts, true≢false}
use Rattle.map_types.specs.declared.attr.Shape.{Shape}
use Rattle.map_types.specs.declared.kind.DomainId.{DomainId}
use Rattle.map_types.specs.declared.kind.DomainId.TheVariants.{Local, Global, CpuLru, Bucket, Freelist}
use Rattle.map_types.specs.ElementLists.{put}
use Rattle.map_types.specs.Kind.{is_lru}
use Rattle.map_types.proofs.RowLemmas.{eqb_turned}
use Rattle.map_script.specs.declared.script.Script.{Script}
use Rattle.place_words.specs.declared.history.Part.{Part}
use Rattle.place_words.specs.declared.history.Part.TheVariants as parts
use Rattle.place_words.specs.declared.owner.Owner.{Owner}
use Rattle.place_words.specs.declared.owner.Owner.TheVariants as owners
use Rattle.place_words.specs.declared.step.Lists.{Lists}
use Rattle.place_words.specs.declared.step.Step.{Step}
use Rattle.place_words.specs.declared.step.Step.TheVariants.{Take, Give, Claim, Settle, Attach, Detach, Rehome, Mark, Clear, Glance}
use Rattle.place_words.specs.Histories.{Content, opening_content}
use Rattle.place_words.specs.Interleaving.{Drawn, turn_of, Event, does, seen_by, enclosing, bucket_around, lists_in, part_steps, takes, not_begun, CoreRun}
use Rattle.place_words.specs.Locks.{is_lock}
use Rattle.place_words.specs.Named.{entries_of}
use Rattle.place_words.specs.OpeningState.{opening}
use Rattle.place_words.specs.Turns.{after_turn}
use Rattle.owner_words.specs.Owners.{OwnersTold, owner_after, owner_by, owner_told}
use Rattle.map_report.specs.declared.record.RunRecord.{RunRecord}
use Rattle.map_report.specs.Record.{IsRecord}
use Rattle.turn_order.specs.Ordered.{interleaved_to, ordered}
use Rattle.turn_order.proofs.LockOrder.{in_history, its_lock}
use Rattle.turn_order.proofs.Members.{IsAmong, among_at}
use Rattle.turn_order.proofs.TicketOrder.{ticket_is_place}
use Rattle.core_runs.specs.Words.{Words, words_after, words_of}
use Rattle.core_runs.proofs.Chases.{head_is, tail_is}
use Rattle.core_runs.proofs.RaceLinks.{AllowAlong, AreOnLocks}
use Rattle.step_check.specs.Ran.{words_over}
use Rattle.step_check.proofs.Begun.{begun_after, over_both}
use Rattle.step_check.proofs.InRecords.{allow_along, on_locks}
use Rattle.step_check.proofs.LockSorts.{AreOfTheirSorts, sorts_after, sorts_first, part_sort, sort_of_lock, sort_of_part}
use Rattle.step_check.proofs.RecordLocks.{record_once, record_apart, record_lock}
use Rattle.step_check.proofs.SharedGoing.{stands_middle}
use Rattle.race_words.specs.Nests.{LooksRight}
use Rattle.race_words.specs.RaceLaws.{OwnersLookRight, ToldRacesRun}
use Rattle.race_words.proofs.AnyLaw.{races_run}
use Rattle.race_words.proofs.Phases.{stands_among}
use Rattle.race_words.proofs.PlainLaw.{plain_races_run}
use Rattle.race_words.proofs.PlainRuns.{turn_block}
use Rattle.race_words.proofs.RunNests.{block_of, takes_owner}
use Rattle.race_words.proofs.SharedWords.{seen_words}

-- only the steps of a turn of a freelist depend on the turns around it
around_alike : (shape : Shape) (cpu : ℕ) (lock : DomainId) (around : Option ℕ) (part : Part) → sort_of_part part ≢ 4 → part_steps shape cpu lock around part ≡ part_steps shape cpu lock None part
around_alike shape cpu lock around (parts.Bucket part) other = refl
around_alike shape cpu lock around (parts.Free part) other = absurd (other refl)
around_alike shape cpu lock around (parts.Local part) other = refl
around_alike shape cpu lock around (parts.Global part) other = refl
around_alike shape cpu lock around (parts.Own part) other = refl

-- and a map that evicts has no freelists
no_freelist : (shape : Shape) → is_lru shape.kind ≡ true → (lock : DomainId) → IsTrue (is_lock shape lock) → sort_of_lock lock ≢ 4
no_freelist shape lru (Local c) on same = omega (arith, same)
no_freelist shape lru Global on same = omega (arith, same)
no_freelist shape lru (CpuLru c) on same = omega (arith, same)
no_freelist shape lru (Bucket b) on same = omega (arith, same)
no_freelist shape lru (Freelist c) on same = true≢false (sym (and_parts (not (is_lru shape.kind)) (ltb c shape.cpus) on).0 ∙ ap not lru)

module _ (shape : Shape) where
  step_owner : (step : Step) (w : Words) (e : ℕ) → (words_after shape w step).owner e ≡ owner_after step e (w.owner e)
  unfolding words_after put
  step_owner (Take cpu lock) w e = refl
  step_owner (Give cpu lock lists) w e = refl
  step_owner (Claim cpu x lock) w e = ap (λ (b : Bool). cond b (owners.Hand cpu) (w.owner e)) (eqb_turned e x)
  step_owner (Settle cpu x lock) w e = ap (λ (b : Bool). cond b owners.Free (w.owner e)) (eqb_turned e x)
  step_owner (Attach cpu x bucket) w e = ap (λ (b : Bool). cond b (owners.Bucket bucket) (w.owner e)) (eqb_turned e x)
  step_owner (Detach cpu x bucket) w e = ap (λ (b : Bool). cond b (owners.Hand cpu) (w.owner e)) (eqb_turned e x)
  step_owner (Rehome cpu x to) w e = refl
  step_owner (Mark cpu x bucket) w e = refl
  step_owner (Clear cpu x) w e = refl
  step_owner (Glance cpu x) w e = refl

  steps_owner : (xs : List Step) (w : Words) (e : ℕ) → (words_over shape w (map does xs)).owner e ≡ owner_by xs e (w.owner e)
  unfolding words_over
  steps_owner [] w e = refl
  steps_owner (x ∷ xs) w e = steps_owner xs (words_after shape w x) e ∙ ap (owner_by xs e) (step_owner x w e)

  -- what is seen and what is given back change no owner
  given_owner : (cpu : ℕ) (lock : DomainId) (lists : Lists) (part : Part) (w : Words) (e : ℕ) → (words_over shape w (seen_by part ++ does (Give cpu lock lists) ∷ [])).owner e ≡ w.owner e
  unfolding words_over words_after
  given_owner cpu lock lists (parts.Bucket part) w e = ap (λ (v : Words). v.owner e) (seen_words shape part w (does (Give cpu lock lists) ∷ []))
  given_owner cpu lock lists (parts.Free part) w e = refl
  given_owner cpu lock lists (parts.Local part) w e = refl
  given_owner cpu lock lists (parts.Global part) w e = refl
  given_owner cpu lock lists (parts.Own part) w e = refl

  turn_owner : (contents : DomainId → Content) (begun : List ℕ) (x : Drawn) (later : List Drawn) (w : Words) (e : ℕ) → sort_of_part x.entry.part ≢ 4
      → (words_over shape w (block_of shape contents begun x later)).owner e ≡ owner_told shape x.lock x.entry.cpu x.entry.part e (w.owner e)
  turn_owner contents begun x later w e other =
      let around : List Drawn = enclosing x later in
      let lists : Lists = lists_in (after_turn shape x.entry.cpu contents (turn_of x) x.lock) in
      let ts : List Event = map takes (not_begun begun (around ++ x ∷ [])) in
      let xs : List Step = part_steps shape x.entry.cpu x.lock (bucket_around around) x.entry.part in
      let more : List Event = seen_by x.entry.part ++ does (Give x.entry.cpu x.lock lists) ∷ [] in
      let taken : Words = words_over shape w ts in
      ap (λ (l : List Event). (words_over shape w l).owner e) (turn_block shape contents begun x later)
      ∙ ap (λ (v : Words). v.owner e) (over_both shape ts (map does xs ++ more) w ∙ over_both shape (map does xs) more taken)
      ∙ given_owner x.entry.cpu x.lock lists x.entry.part (words_over shape taken (map does xs)) e
      ∙ steps_owner xs taken e
      ∙ ap (λ (f : ℕ → Owner). owner_by xs e (f e)) (takes_owner shape (not_begun begun (around ++ x ∷ [])) w)
      ∙ ap (λ (l : List Step). owner_by l e (w.owner e)) (around_alike shape x.entry.cpu x.lock (bucket_around around) x.entry.part other)

  module _ (owner : ℕ → ℕ → Owner) where
    -- a turn has this ticket, is of no freelist, and leads from the owners before it to those after it
    record IsTold (n : ℕ) (x : Drawn) : Type 0 where
      pub ticket : x.entry.ticket ≡ n
      pub other : sort_of_part x.entry.part ≢ 4
      pub leads : (e : ℕ) → owner (suc x.entry.ticket) e ≡ owner_told shape x.lock x.entry.cpu x.entry.part e (owner x.entry.ticket e)

    abbrev AreTold : ℕ → List Drawn → Type 0
    AreTold n [] = Unit {0}
    AreTold n (x ∷ later) = IsTold n x × AreTold (suc n) later

    -- the words after the turns before one have the owners that its ticket has
    owners_along : (before : List Drawn) (x : Drawn) (later turns : List Drawn) (contents : DomainId → Content) (begun : List ℕ) (w : Words) (n : ℕ) → AreTold n turns → ((e : ℕ) → w.owner e ≡ owner n e) → turns ≡ before ++ x ∷ later
        → (e : ℕ) → (words_over shape w (interleaved_to (length before) shape contents begun turns)).owner e ≡ owner x.entry.ticket e
    unfolding interleaved_to words_over
    owners_along before x later [] contents begun w n told are is e = absurd (none before is)
      where
        none : (before : List Drawn) → [] ≡ before ++ x ∷ later → ⊥
        none [] same = cc
        none (y ∷ before) same = cc
    owners_along [] x later (y ∷ rest) contents begun w n told are is e = are e ∙ ap (λ (k : ℕ). owner k e) (sym told.0.ticket ∙ ap (λ (d : Drawn). d.entry.ticket) (head_is y x rest later is))
    owners_along (u ∷ before) x later (y ∷ rest) contents begun w n told are is e =
        let now : DomainId → Content = after_turn shape y.entry.cpu contents (turn_of y) in
        let block : List Event = block_of shape contents begun y rest in
        ap (λ (v : Words). v.owner e) (over_both shape block (interleaved_to (length before) shape now (begun_after y rest begun) rest) w)
        ∙ owners_along before x later rest now (begun_after y rest begun) (words_over shape w block) (suc n) told.1
        (λ f.
        turn_owner contents begun y rest w f told.0.other ∙ ap (owner_told shape y.lock y.entry.cpu y.entry.part f) (are f)
        ∙ sym (subst (λ (k : ℕ). owner (suc k) f ≡ owner_told shape y.lock y.entry.cpu y.entry.part f (owner k f)) told.0.ticket (told.0.leads f)))
        (tail_is y u rest (before ++ x ∷ later) is) e

    are_told : is_lru shape.kind ≡ true → (n : ℕ) (turns : List Drawn) (contents : DomainId → Content) → ((t : ℕ) (x : Drawn) → slice_get turns t ≡ Some x → x.entry.ticket ≡ n + t)
        → ((x : Drawn) → IsAmong x turns → (e : ℕ) → owner (suc x.entry.ticket) e ≡ owner_told shape x.lock x.entry.cpu x.entry.part e (owner x.entry.ticket e))
        → AreOfTheirSorts contents → AreOnLocks shape turns → AllowAlong shape contents turns → AreTold n turns
    are_told lru n [] contents tickets leads sorts on allow = tt
    are_told lru n (x ∷ later) contents tickets leads sorts on allow = (
      record {
        ticket = let first = tickets 0 x refl in omega (arith, first);
        other = λ same. no_freelist shape lru x.lock on.0 (sym (part_sort shape x.entry.cpu x.entry.part x.lock contents sorts allow.0) ∙ same);
        leads = leads x (inl refl);
      },
      are_told lru (suc n) later (after_turn shape x.entry.cpu contents (turn_of x)) (λ t y at. let there = tickets (suc t) y at in omega (arith, there)) (λ y there. leads y (inr there)) (sorts_after shape x.entry.cpu contents (turn_of x) sorts)
          on.1 allow.1,
    )

module _ (script : Script) (kept : RunRecord) (record_is : IsRecord script kept) (lru : is_lru script.shape.kind ≡ true) (told : OwnersTold script.shape (entries_of kept.histories)) where
  abbrev turns : List Drawn
  turns = ordered kept.histories

  its_place : (x : Drawn) → IsAmong x turns → (place : ℕ) × (slice_get (entries_of kept.histories x.lock) place ≡ Some x.entry)
  its_place x there = among_at x.entry (entries_of kept.histories x.lock) (in_history kept.histories (record_once script kept record_is) (record_apart script kept record_is) x there)

  on_lock : (x : Drawn) → IsAmong x turns → IsTrue (is_lock script.shape x.lock)
  on_lock x there = record_lock script kept record_is x.lock (its_lock kept.histories (record_once script kept record_is) (record_apart script kept record_is) x there)

  turns_told : AreTold script.shape told.owner 0 turns
  turns_told =
      are_told script.shape told.owner lru 0 turns (opening_content script.shape) (λ t x at. let place = ticket_is_place kept.histories (record_once script kept record_is) t x at in omega (arith, place))
      (λ x there. told.told x.lock (its_place x there).0 x.entry (on_lock x there) (its_place x there).1)
      (sorts_first script.shape) (on_locks script kept record_is) (allow_along script kept record_is)

  pub look_right : LooksRight script.shape kept.histories
  look_right before probe later is e holder part_is =
      let there : IsAmong probe turns = subst (IsAmong probe) (sym is) (stands_among probe (before ++ probe ∷ later) (stands_middle before probe later)) in
      owners_along script.shape told.owner before probe later turns (opening_content script.shape) [] (words_of (opening script.shape)) 0 turns_told (λ f. sym (told.first f)) is e
      ∙ told.seen probe.lock (its_place probe there).0 probe.entry (on_lock probe there) (its_place probe there).1 e holder part_is

pub owners_look_right : OwnersLookRight
owners_look_right script kept bounds lru record_is told = look_right script kept record_is lru told

pub told_races_run : ToldRacesRun
told_races_run script kept bounds record_is rise nests told = by (is_lru script.shape.kind) refl
  where
    by : (lru : Bool) → is_lru script.shape.kind ≡ lru → CoreRun script.shape kept.histories
    by false plain = plain_races_run script kept bounds plain record_is rise nests
    by true lru = races_run script kept bounds record_is rise nests (look_right script kept record_is lru (told lru))
