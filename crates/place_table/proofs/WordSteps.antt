-- The steps on bits, and looks at a bit, an owner and a home.
use Rattle.std.proofs.Common.{◌≡◌, ◌≢◌, ℕ, ◌<◌, ◌≤◌, ◌⊎◌, inl, inr, ⊎_elim, cond, Bool, true, false, List, [], ◌∷◌, ◌++◌, length, get_or, set, sym, refl, ap, ◌∙◌, subst, arith, Some, length-set, get_or-set_other, get_or-set_same, None, Option}
use Rattle.std.specs.Prelude.{IsTrue}
use Rattle.std.proofs.lemmas.Bool.Decides.{nat_tests}
use mathlib.Core.Option.{some}
use lib.ListN.{get_elem?}
use Rattle.atomic_table.specs.Table.{State, Allows, keeps, stepped}
use Rattle.atomic_table.proofs.Lists.{at_set, set_again}
use Rattle.map_types.specs.declared.attr.Shape.{Shape}
use Rattle.map_types.specs.declared.kind.DomainId.TheVariants.{Bucket}
use Rattle.map_types.proofs.CreationLemmas.{bounds_of_shape}
use Rattle.place_words.specs.declared.owner.Owner.{Owner}
use Rattle.place_words.specs.declared.owner.Owner.TheVariants as owners
use Rattle.place_words.specs.Codes.{owner_code}
use Rattle.map_types.specs.ElementLists.{put, one, IsIn}
use Rattle.map_types.proofs.RowLemmas.{times_append, by_test}
use Rattle.place_words.specs.Histories.{content}
use Rattle.place_words.specs.Locks.{is_lock, lock_count, lock_named, lock_number}
use Rattle.place_words.specs.declared.step.Step.TheVariants.{Mark, Clear, Glance}
use Rattle.place_words.specs.State.{rows, is_bucket}
use Rattle.place_words.specs.State as cores
use Rattle.place_words.specs.Places.{Placed, MayOwn}
use Rattle.place_words.specs.Ranks.{Ranked}
use Rattle.place_words.specs.Steps.{IsInHeldBucket, CanClear, IsHeldHome}
use Rattle.place_words.proofs.ElementLemmas.{put_here, put_else}
use Rattle.place_words.proofs.StepLaws.{step_keeps_places, step_keeps_ranks}
use Rattle.place_table.specs.declared.view.HomeRead.{HomeRead}
use Rattle.place_table.specs.declared.content.Behind.{Behind}
use Rattle.place_table.specs.declared.view.View.{View}
use Rattle.place_table.specs.declared.view.Hold.{Hold}
use Rattle.place_table.specs.declared.view.Notes.{Notes}
use Rattle.place_table.specs.declared.view.BitSeen.{BitSeen}
use Rattle.place_table.specs.Laws.{StepsAs, goes_by}
use Rattle.place_table.specs.Views.{is_among, hold_at, bit_seen, has_all, noted, with_mark, with_clear, with_bit_read, with_owner_read, bits_with, touching, home_known, came_at, with_homes_read}
use Rattle.place_table.specs.StoredHashes.{stored_in}
use Rattle.place_table.specs.Tickets.{Tickets}
use Rattle.place_table.proofs.TicketLemmas.{tickets_stay}
use Rattle.place_table.specs.Rules.{World, Rule, PassKnows, AreRowed, IsFresh, IsSeen, LeadTo, IsReading, HasRow, IsBrought, AreNoted, logs_of, AreReadingsCounted, marks_under}
use Rattle.place_table.specs.Words.{owner_word, home_word, bit_word, ticket_word, opening_words}
use Rattle.place_table.specs.Plays.{Seated, Marks, Clears, SeesBit, SeesOwner, OwnerFits}
use Rattle.place_table.proofs.Came.{came_marked, came_cleared, came_bit_read, came_owner_read}
use Rattle.place_table.proofs.Locks.{allows_of, found_at, elements_there, there}
use Rattle.place_table.proofs.Worlds.{by_bool, true_false, some_is, none_some, hold_of_is, has_mine, all_here, here_all, others, hashed_stands, lock_still_lost, past_stays, tagged_stays, SameStrands, knows_none, hash_stands}
use Rattle.place_table.proofs.OwnersSeen.{owner_fits}
use Rattle.place_table.specs.declared.view.Ticket.TheVariants.{Unread}
use Rattle.place_table.specs.Owners.{Owners}
use Rattle.place_table.proofs.OwnersNoted.{kept_mark, kept_clear, kept_bit_read}
use Rattle.place_table.proofs.OwnersOrder.{KeepsKnown, keeps_known, keeps_read, owners_noted}
use Rattle.place_table.specs.declared.view.HomeIn.{HomeIn}
use Rattle.place_table.specs.declared.view.WordStep.{WordStep}
use Rattle.place_table.proofs.StepLog.{made, time_more, givers_other, touches_with, lead_with, of_strands_with, strand_with, past_same, other_same, reads_more}
use Rattle.place_table.proofs.NotesDone.{word_off, noted_mark, noted_clear, noted_bit, noted_owner}
use Rattle.place_table.proofs.Counted.{counted_more, reading_more, homes_more}
use Rattle.place_table.proofs.MarksNoted.{marked_on, marked_now, on_same, marks_marked, marks_here, marks_cleared, marks_bit_read, marks_owner_read}

-- with other notes a pass knows the same, and what it keeps of bits has to be so
abbrev AreSo : World → List BitSeen → Type 0
AreSo w bits = (e : ℕ) (bit : Bool) → bit_seen e bits ≡ Some bit → w.core.bit e ≡ bit

-- the core with other bits
abbrev core_with : cores.State → (ℕ → Bool) → cores.State
core_with core f = record { holder = core.holder; lists = core.lists; owner = core.owner; home = core.home; bit = f }

-- other bits, and one step more
abbrev bitted : World → ℕ → (ℕ → Bool) → WordStep → World
bitted w pass f x = record {
  core = core_with w.core f;
  log = w.log;
  lost = w.lost;
  pass_of_cpu = w.pass_of_cpu;
  pass_of_strand = w.pass_of_strand;
  cpus_of_strand = w.cpus_of_strand;
  current = w.current;
  past = w.past;
  next = w.next;
  hash = w.hash;
  touches = touches_with w pass x;
}

-- one step more
abbrev looked : World → ℕ → WordStep → World
looked w pass x = record {
  core = w.core;
  log = w.log;
  lost = w.lost;
  pass_of_cpu = w.pass_of_cpu;
  pass_of_strand = w.pass_of_strand;
  cpus_of_strand = w.cpus_of_strand;
  current = w.current;
  past = w.past;
  next = w.next;
  hash = w.hash;
  touches = touches_with w pass x;
}

-- what a pass keeps of bits after one is known, and that only a pass with all CPUs keeps any
learnt : (shape : Shape) (w : World) (pass : ℕ) (v : View) (f : ℕ → Bool) (e : ℕ) (b : Bool) → PassKnows shape w pass v → f e ≡ b → ((x : ℕ) → x ≢ e → f x ≡ w.core.bit x)
    → (x : ℕ) (bit : Bool) → bit_seen x (bits_with e b v) ≡ Some bit → f x ≡ bit
learnt shape w pass v f e b kn here else_same x bit =
    by_bool (has_all v) (λ t. bit_seen x (cond t (record { element = e; bit = b } ∷ v.bits) v.bits) ≡ Some bit → f x ≡ bit)
    (λ _. by_test e x (λ t. cond t (Some b) (bit_seen x v.bits) ≡ Some bit → f x ≡ bit)
    (λ same found. ap f (sym same) ∙ (here ∙ some_is found))
    (λ other found. else_same x (λ is. other (sym is)) ∙ kn.bits x bit found))
    (λ few found. ⊎_elim
    (λ empty. absurd (none_some (sym (ap (bit_seen x) empty.1) ∙ found)))
    (λ all. true_false (sym (all_here v.shape.cpus v.cpus (λ c less. all c (subst (λ z. c < z.cpus) kn.shape_is less))) ∙ few))
    kn.only)

only_all : (shape : Shape) (w : World) (pass : ℕ) (v : View) (e : ℕ) (b : Bool) → PassKnows shape w pass v → ((v.known ≡ []) × (bits_with e b v ≡ [])) ⊎ ((c : ℕ) → c < shape.cpus → is_among c v.cpus ≡ true)
only_all shape w pass v e b kn =
    by_bool (has_all v) (λ t. ((v.known ≡ []) × (cond t (record { element = e; bit = b } ∷ v.bits) v.bits ≡ [])) ⊎ ((c : ℕ) → c < shape.cpus → is_among c v.cpus ≡ true))
    (λ all. inr (λ c less. here_all v.shape.cpus v.cpus all c (subst (λ z. c < z.cpus) (sym kn.shape_is) less)))
    (λ _. kn.only)

-- what is listed under locks that are held has its row, or came, where other notes are made
pub rowed_still : (shape : Shape) (hash : ℕ → ℕ) (held : List Hold) (notes notes' : List Notes) → ((k : ℕ) → came_at k held notes' ≡ came_at k held notes) → AreRowed shape hash held notes → AreRowed shape hash held notes'
rowed_still shape hash held notes notes' same are k e hold found no_bucket inside =
    ⊎_elim
    (λ (had : stored_in (content shape (lock_named shape k) hold.log) e ≡ Some (hash e)). inl had)
    (λ (come : is_among e (came_at k held notes) ≡ true). inr (ap (is_among e) (same k) ∙ come))
    (are k e hold found no_bucket inside)

module _ (shape : Shape) (s : State Behind View) (r : Rule shape s) (pass : ℕ) (v : View) (at_pass : get_elem? s.views pass ≡ some v) (notes : List Notes) (same_came : (k : ℕ) → came_at k v.held notes ≡ came_at k v.held v.notes)
    (more_marks : (x : ℕ) → IsIn x (marks_under v.held v.notes) → IsIn x (marks_under v.held notes)) (knows_still : KeepsKnown shape r.world.core.owner r.world.core.home r.world.hash v notes) where
  -- what other passes know of bits where this one has a CPU
  no_others : (c : ℕ) → is_among c v.cpus ≡ true → (f : ℕ → Bool) (j : ℕ) (u : View) → get_elem? s.views j ≡ some u → j ≢ pass → (y : ℕ) (bit : Bool) → bit_seen y u.bits ≡ Some bit → f y ≡ bit
  no_others c cpu f j u at other y bit found =
      let w = r.world in let kn = r.knows pass v at_pass in
      let no_more = knows_none shape w pass j u c (r.knows j u at) (kn.within c cpu) (has_mine shape w pass v c kn cpu) other in
      absurd (none_some (sym (ap (bit_seen y) no_more.1) ∙ found))

  -- a step on the bit of e, which is b from then on
  bit_rule : (e n : ℕ) (b : Bool) (f : ℕ → Bool) (seen : Option ℕ) (cs : List (ℕ × Behind)) → e < shape.elements → n ≡ one b → f e ≡ b → ((y : ℕ) → y ≢ e → f y ≡ r.world.core.bit y) → IsSeen seen (one (r.world.core.bit e)) → (v.cpus ≡ [] → seen ≡ Some (one b)) → AreNoted shape (touching (made r.world) (bit_word shape e) seen (one b) v) v.held notes
      → ((j : ℕ) (u : View) → get_elem? s.views j ≡ some u → j ≢ pass → (y : ℕ) (bit : Bool) → bit_seen y u.bits ≡ Some bit → f y ≡ bit)
      → ((y : ℕ) → f y ≡ true → (r.world.core.bit y ≡ true) ⊎ IsIn y (marks_under v.held notes))
      → Placed shape (core_with r.world.core f) → Ranked shape (core_with r.world.core f)
      → Rule shape (stepped s (bit_word shape e) n pass cs (noted notes (bits_with e b v) (touching (made r.world) (bit_word shape e) seen (one b) v) v.readings v) keeps)
  bit_rule e n b f seen cs real n_is here_is else_is seen_is only_read are_noted others_know sets placed ranked =
      let i : ℕ = bit_word shape e in
      let w = r.world in
      let x : WordStep = record { at = made w; word = i; seen = seen; left = one b } in
      let w' : World = bitted w pass f x in
      let kn = r.knows pass v at_pass in
      let nv : View = noted notes (bits_with e b v) (touching (made w) i seen (one b) v) v.readings v in
      let same : SameStrands w w' = record { pass_of_strand = λ _. refl; cpus_of_strand = λ _. refl; next = refl; current = λ _. refl; past = λ _. refl; pass_of_cpu = λ _. refl; still = λ _ z. z } in
      record {
        world = w';
        is_shape = r.is_shape;
        words = length-set s.words i n ∙ r.words;
        slots = r.slots;
        lock_words = λ m h. get_or-set_other s.words i m n 0 (λ y. omega arith) ∙ r.lock_words m h;
        owner_words = λ y h. get_or-set_other s.words i (owner_word shape y) n 0 (λ z. omega arith) ∙ r.owner_words y h;
        home_words = λ y h. get_or-set_other s.words i (home_word shape y) n 0 (λ z. omega arith) ∙ r.home_words y h;
        bit_words = λ y h. by_test y e (λ _. get_or (set s.words i n) (bit_word shape y) 0 ≡ one (f y))
            (λ is_same. subst (λ (z : ℕ). get_or (set s.words i n) (bit_word shape z) 0 ≡ one (f z)) (sym is_same) (get_or-set_same s.words i n 0 (omega (arith, r.words)) ∙ (n_is ∙ ap one (sym here_is))))
            (λ ne. get_or-set_other s.words i (bit_word shape y) n 0 (λ z. ne (omega arith)) ∙ (r.bit_words y h ∙ ap one (sym (else_is y ne))));
        placed = placed;
        ranked = ranked;
        hashes = λ lru. let right = r.hashes lru in record {
          in_bucket = right.in_bucket;
          have = λ k y no_bucket inside. ⊎_elim
              (λ (had : HasRow shape w.log w.hash k y). inl record { stored = had.stored })
              (⊎_elim
              (λ (fresh : IsFresh w.core.holder w.core.owner k y). inr (inl record { cpu = fresh.cpu; held = fresh.held; in_hand = fresh.in_hand }))
              (λ (br : IsBrought shape w.core.holder w.log w.hash k y). inr (inr record { cpu = br.cpu; from = br.from; held = br.held; holds = br.holds; low = br.low; row = record { stored = br.row.stored } })))
              (right.have k y no_bucket inside);
        };
        legal = r.legal;
        real = r.real;
        unmarked = λ plain y is_set. ⊎_elim
            (λ (was : w.core.bit y ≡ true). marked_on s.views pass v nv at_pass more_marks y (r.unmarked plain y was))
            (λ (here : IsIn y (marks_under v.held notes)). marked_now s.views pass v nv at_pass y here)
            (sets y is_set);
        homes = r.homes;
        seated = λ c h. subst (λ (z : ℕ). w.pass_of_cpu c < z) (sym (length-set s.views pass nv)) (r.seated c h);
        tagged = λ k. tagged_stays w w' (length s.views) (length (set s.views pass nv)) (w.log k) (sym (length-set s.views pass nv)) same (r.tagged k);
        in_time = time_more w.touches (w.current pass, x) r.in_time refl;
        tickets = subst (λ (z : ℕ). Tickets shape z (logs_of w) w.lost w.pass_of_cpu (set s.views pass nv)) (sym (get_or-set_other s.words i (ticket_word shape) n 0 (λ y. omega arith)))
            (tickets_stay shape (get_or s.words (ticket_word shape) 0) (logs_of w) w.lost w.pass_of_cpu s.views pass v nv at_pass record { reached = refl; refused = refl; steps = refl; ended = refl; ticket = inl (refl, refl) } r.tickets);
        gave_back = λ m below. givers_other m w.touches (w.current pass, x) (λ at _. omega arith) ∙ r.gave_back m below;
        lead = λ m below. subst (λ (z : ℕ). LeadTo m (get_or (opening_words shape) m 0) (touches_with w pass x) (get_or (set s.words i z) m 0)) (sym n_is)
            (lead_with shape s r (w.current pass) x (omega (arith, r.words)) (subst (IsSeen seen) (sym (r.bit_words e real)) seen_is) m below);
        owners = λ lru none. subst (λ (z : ℕ). Owners shape z w.core.owner w.core.home w.hash (logs_of w) (set s.views pass nv)) (sym (get_or-set_other s.words i (ticket_word shape) n 0 (λ y. omega arith)))
            (owners_noted shape (get_or s.words (ticket_word shape) 0) w.core.owner w.core.home w.hash (logs_of w) s.views pass v nv notes at_pass knows_still record { cpus = refl; held = refl; changed = refl; read = refl; ticket = inl refl } (r.owners lru none));
        of_strands = of_strands_with shape w pass v kn x w' (length s.views) (length (set s.views pass nv)) (there s.views pass v at_pass) (sym (length-set s.views pass nv)) same r.of_strands;
        knows = λ j u h. ⊎_elim
            (λ t. subst (λ (z : ℕ × View). PassKnows shape w' z.0 z.1) (λ i. (sym t.0 i, t.1 i)) record {
              shape_is = kn.shape_is;
              cpus = kn.cpus;
              within = kn.within;
              held = kn.held;
              ascends = kn.ascends;
              hands = kn.hands;
              carried = kn.carried;
              hashed = λ lru y d lock real within in_hand at. let k : ℕ = lock_number shape lock in
                  hashed_stands shape w.core.holder w'.core.holder w.log w'.log w.hash w'.hash v.hashes v.hashes (came_at k v.held v.notes) (came_at k v.held notes) k y d
                  (λ m held. (held, refl)) (λ held. held) refl refl (λ inside. ap (is_among y) (same_came k) ∙ inside) (kn.hashed lru y d lock real within in_hand at);
              rowed = λ lru. rowed_still shape w.hash v.held v.notes notes same_came (kn.rowed lru);
              hashes = λ y d noted within found. hash_stands shape w.hash w'.hash v.hand y d noted.bucket (kn.hashes y d noted within found) (λ _. refl);
              homes_read = homes_more shape w.touches (w.current pass, x) v.homes_read kn.homes_read;
              readings = λ y d read within found. reading_more shape w.core.holder w.log w.core.home w.touches (w.current pass, x) v.hand y d read (kn.readings y d read within found);
              known = kn.known;
              bits = learnt shape w pass v f e b kn here_is else_is;
              only = only_all shape w pass v e b kn;
              losses = λ k among. lock_still_lost shape w w' k (λ lo. lo) (kn.losses k among);
              noted = are_noted;
              strand = strand_with shape w pass v kn x w' same (λ _. refl) (λ _ z. z) refl;
              past = past_stays shape w w' pass (w.past pass) v.ended same (λ _ _ _ _. refl) (λ _ z. z) (λ t among _. past_same shape w pass v kn x t among) kn.past;
              apart = kn.apart;
              idle = λ empty. let was = kn.idle empty in ((was.0.0, reads_more v.touched x was.0.1 (only_read empty)), was.1);
            })
            (λ t. others shape w w' j u same (r.knows j u t.1) (λ _. refl) (λ _ _ _. refl) (λ _ _ _. refl) (λ _ _ _. refl) (λ _ z. z) (r.knows j u t.1).known (others_know j u t.1 t.0) (λ _ _ _ _. refl) (λ _ _ _ _ _ _ at. inl at) (λ _ _ _ _ _ _. refl)
            (λ tag own. other_same shape w pass v kn x j tag t.0 own) (λ read. counted_more shape w.touches (w.current pass, x) read.at read.turns read.home) (λ _ _ _ _ _ _ _ still. still))
            (at_set s.views pass j nv u h);
      }

  -- a look at the word i, which is n, by which the pass comes to know no bit or one
  unfoldable pub look_rule : (i n : ℕ) (cs : List (ℕ × Behind)) (bits : List BitSeen) (homes_read : List HomeRead) → AreReadingsCounted shape r.world.touches homes_read → (readings : List HomeIn) → ((x c : ℕ) (read : HomeIn) → c < shape.cpus → home_known x c readings ≡ Some read → IsReading shape r.world.core.holder r.world.log r.world.core.home r.world.touches v.hand x c read) → i < length s.words → get_or s.words i 0 ≡ n → lock_count shape ≤ i → AreNoted shape (touching (made r.world) i (Some n) n v) v.held notes → AreSo r.world bits → ((v.known ≡ []) × (bits ≡ [])) ⊎ ((c : ℕ) → c < shape.cpus → is_among c v.cpus ≡ true)
      → (e : ℕ) → e < shape.elements
      → (after : Rule shape (stepped s i (get_or s.words i 0) pass cs (with_homes_read homes_read (noted notes bits (touching (made r.world) i (Some n) n v) readings v)) keeps)) × goes_by shape (Glance 0 e) 0 r.world.core after.world.core
  look_rule i n cs bits homes_read are_counted readings are_read inside found_is behind are_noted so only e real =
      let w = r.world in
      let x : WordStep = record { at = made w; word = i; seen = Some n; left = n } in
      let w' : World = looked w pass x in
      let kn = r.knows pass v at_pass in
      let nv : View = with_homes_read homes_read (noted notes bits (touching (made w) i (Some n) n v) readings v) in
      let same : SameStrands w w' = record { pass_of_strand = λ _. refl; cpus_of_strand = λ _. refl; next = refl; current = λ _. refl; past = λ _. refl; pass_of_cpu = λ _. refl; still = λ _ z. z } in
      let back : set s.words i (get_or s.words i 0) ≡ s.words = set_again s.words i (get_or s.words i 0) (found_at s.words i inside) in
      let bounds = bounds_of_shape shape r.is_shape in (
        record {
          world = w';
          is_shape = r.is_shape;
          words = length-set s.words i (get_or s.words i 0) ∙ r.words;
          slots = r.slots;
          lock_words = λ m h. ap (λ (l : List ℕ). get_or l m 0) back ∙ r.lock_words m h;
          owner_words = λ y h. ap (λ (l : List ℕ). get_or l (owner_word shape y) 0) back ∙ r.owner_words y h;
          home_words = λ y h. ap (λ (l : List ℕ). get_or l (home_word shape y) 0) back ∙ r.home_words y h;
          bit_words = λ y h. ap (λ (l : List ℕ). get_or l (bit_word shape y) 0) back ∙ r.bit_words y h;
          placed = r.placed;
          ranked = r.ranked;
          hashes = r.hashes;
          legal = r.legal;
          real = r.real;
          unmarked = λ plain y is_set. marked_on s.views pass v nv at_pass more_marks y (r.unmarked plain y is_set);
          homes = r.homes;
          seated = λ y h. subst (λ (z : ℕ). w.pass_of_cpu y < z) (sym (length-set s.views pass nv)) (r.seated y h);
          tagged = λ k. tagged_stays w w' (length s.views) (length (set s.views pass nv)) (w.log k) (sym (length-set s.views pass nv)) same (r.tagged k);
          in_time = time_more w.touches (w.current pass, x) r.in_time refl;
          tickets = subst (λ (l : List ℕ). Tickets shape (get_or l (ticket_word shape) 0) (logs_of w) w.lost w.pass_of_cpu (set s.views pass nv)) (sym back)
              (tickets_stay shape (get_or s.words (ticket_word shape) 0) (logs_of w) w.lost w.pass_of_cpu s.views pass v nv at_pass record { reached = refl; refused = refl; steps = refl; ended = refl; ticket = inl (refl, refl) } r.tickets);
          gave_back = λ m below. givers_other m w.touches (w.current pass, x) (λ at _. omega arith) ∙ r.gave_back m below;
          lead = λ m below. subst (λ (z : ℕ). LeadTo m (get_or (opening_words shape) m 0) (touches_with w pass x) (get_or (set s.words i z) m 0)) (sym found_is)
              (lead_with shape s r (w.current pass) x inside (sym found_is) m below);
          owners = λ lru none. subst (λ (l : List ℕ). Owners shape (get_or l (ticket_word shape) 0) w.core.owner w.core.home w.hash (logs_of w) (set s.views pass nv)) (sym back)
              (owners_noted shape (get_or s.words (ticket_word shape) 0) w.core.owner w.core.home w.hash (logs_of w) s.views pass v nv notes at_pass knows_still record { cpus = refl; held = refl; changed = refl; read = refl; ticket = inl refl } (r.owners lru none));
          of_strands = of_strands_with shape w pass v kn x w' (length s.views) (length (set s.views pass nv)) (there s.views pass v at_pass) (sym (length-set s.views pass nv)) same r.of_strands;
          knows = λ j u h. ⊎_elim
              (λ t. subst (λ (z : ℕ × View). PassKnows shape w' z.0 z.1) (λ i. (sym t.0 i, t.1 i)) record {
                shape_is = kn.shape_is;
                cpus = kn.cpus;
                within = kn.within;
                held = kn.held;
                ascends = kn.ascends;
                hands = kn.hands;
                carried = kn.carried;
                hashed = λ lru y d lock real within in_hand at. let k : ℕ = lock_number shape lock in
                    hashed_stands shape w.core.holder w'.core.holder w.log w'.log w.hash w'.hash v.hashes v.hashes (came_at k v.held v.notes) (came_at k v.held notes) k y d
                    (λ m held. (held, refl)) (λ held. held) refl refl (λ inside. ap (is_among y) (same_came k) ∙ inside) (kn.hashed lru y d lock real within in_hand at);
                rowed = λ lru. rowed_still shape w.hash v.held v.notes notes same_came (kn.rowed lru);
                hashes = λ y d noted within found. hash_stands shape w.hash w'.hash v.hand y d noted.bucket (kn.hashes y d noted within found) (λ _. refl);
                homes_read = homes_more shape w.touches (w.current pass, x) homes_read are_counted;
                readings = λ y d read within found. reading_more shape w.core.holder w.log w.core.home w.touches (w.current pass, x) v.hand y d read (are_read y d read within found);
                known = kn.known;
                bits = so;
                only = only;
                losses = λ k among. lock_still_lost shape w w' k (λ lo. lo) (kn.losses k among);
                noted = are_noted;
                strand = strand_with shape w pass v kn x w' same (λ _. refl) (λ _ z. z) refl;
                past = past_stays shape w w' pass (w.past pass) v.ended same (λ _ _ _ _. refl) (λ _ z. z) (λ t among _. past_same shape w pass v kn x t among) kn.past;
                apart = kn.apart;
                idle = λ empty. let was = kn.idle empty in ((was.0.0, reads_more v.touched x was.0.1 refl), was.1);
              })
              (λ t. others shape w w' j u same (r.knows j u t.1) (λ _. refl) (λ _ _ _. refl) (λ _ _ _. refl) (λ _ _ _. refl) (λ _ z. z) (r.knows j u t.1).known (r.knows j u t.1).bits (λ _ _ _ _. refl) (λ _ _ _ _ _ _ at. inl at) (λ _ _ _ _ _ _. refl)
              (λ tag own. other_same shape w pass v kn x j tag t.0 own) (λ read. counted_more shape w.touches (w.current pass, x) read.at read.turns read.home) (λ _ _ _ _ _ _ _ still. still))
              (at_set s.views pass j nv u h);
        },
        record { enabled = (bounds.some_cpu, real); changed = refl },
      )

-- Marks

pub in_held_bucket : (shape : Shape) (s : State Behind View) (r : Rule shape s) (pass : ℕ) (v : View) (e bucket : ℕ) (hold : Hold) → get_elem? s.views pass ≡ some v → bucket < shape.buckets
    → hold_at (lock_number shape (Bucket bucket)) v.held ≡ Some hold → IsIn e hold.now.first → IsInHeldBucket shape r.world.core hold.cpu e bucket × (is_among hold.cpu v.cpus ≡ true)
in_held_bucket shape s r pass v e bucket hold at_pass there found inside =
    let k : ℕ = lock_number shape (Bucket bucket) in
    let w = r.world in let kn = r.knows pass v at_pass in
    let at = hold_of_is w.pass_of_cpu pass k (w.core.holder k) (w.log k) (w.core.lists k) (w.lost k) hold (sym (kn.held k) ∙ found) in
    let cpu = r.ranked.within hold.cpu k at.holder_is in
    let is : IsTrue (is_lock shape (Bucket bucket)) = grind (arith, nat_tests) in
    let inside_there : IsIn e (w.core.lists k).first = subst (λ (z : Hold). IsIn e z.now.first) at.hold_is inside in
    let elements = elements_there shape s r k in
    let among : IsIn e (rows (w.core.lists k)) = in_rows e (w.core.lists k).first (w.core.lists k).second inside_there in (
      record {
        holds = record { is_cpu = cpu; is_lock = is; held = at.holder_is };
        real = elements.rows_real e among;
        inside = inside_there;
      },
      kn.cpus hold.cpu cpu ∙ by_test (w.pass_of_cpu hold.cpu) pass (λ t. t ≡ true) (λ _. refl) (λ n. absurd (n at.mine)),
    )
  where
    in_rows : (e : ℕ) (xs ys : List ℕ) → IsIn e xs → IsIn e (xs ++ ys)
    in_rows e xs ys inside = let both = times_append e xs ys in omega arith

pub marks_step : (shape : Shape) (slots pass : ℕ) (me : Seated) (e bucket : ℕ) (hold : Hold) → bucket < shape.buckets → hold_at (lock_number shape (Bucket bucket)) me.0.held ≡ Some hold → IsIn e hold.now.first
    → StepsAs shape slots pass me (bit_word shape e) (λ _. 1) (goes_by shape (Mark hold.cpu e bucket)) (λ _. Marks e me)
unfolding bit_rule
marks_step shape slots pass me e bucket hold there found inside s r wide at_pass _ =
    let can = in_held_bucket shape s r pass me.0 e bucket hold at_pass there found inside in
    let w = r.world in let kn = r.knows pass me.0 at_pass in
    let x : WordStep = record { at = made w; word = bit_word shape e; seen = None; left = 1 } in
    let bounds = bounds_of_shape shape r.is_shape in (
      noted (with_mark e me.0.notes) (bits_with e true me.0) (touching (made r.world) (bit_word shape e) None 1 me.0) me.0.readings me.0,
      keeps,
      tt,
      (
        bit_rule shape s r pass me.0 at_pass (with_mark e me.0.notes) (λ k. came_marked e k me.0.held me.0.notes) (marks_marked e me.0.held me.0.notes) (keeps_known shape r.world.core.owner r.world.core.home r.world.hash me.0 _ (kept_mark e me.0.notes)) e 1 true (put w.core.bit e true) None me.1 can.0.real refl
            (put_here w.core.bit e true) (λ y ne. put_else w.core.bit e true y ne) tt (λ empty. true_false (sym can.1 ∙ ap (is_among hold.cpu) empty))
            (noted_mark shape me.0.touched (x ∷ []) me.0.held me.0.notes e kn.noted (word_off shape me.0.touched x me.0.held me.0.notes kn.noted (omega arith)) (inl refl))
            (no_others shape s r pass me.0 at_pass (with_mark e me.0.notes) (λ k. came_marked e k me.0.held me.0.notes) (marks_marked e me.0.held me.0.notes) (keeps_known shape r.world.core.owner r.world.core.home r.world.hash me.0 _ (kept_mark e me.0.notes)) hold.cpu can.1 (put w.core.bit e true))
            (λ y is_set. by_test y e (λ _. (w.core.bit y ≡ true) ⊎ IsIn y (marks_under me.0.held (with_mark e me.0.notes)))
            (λ same. inr (subst (λ (z : ℕ). IsIn z (marks_under me.0.held (with_mark e me.0.notes))) (sym same) (marks_here shape me.0.touched e (lock_number shape (Bucket bucket)) hold me.0.held me.0.notes kn.noted found)))
            (λ ne. inl (sym (put_else w.core.bit e true y ne) ∙ is_set)))
            (step_keeps_places shape r.world.core (Mark hold.cpu e bucket) bounds can.0 r.placed)
            (step_keeps_ranks shape r.world.core (Mark hold.cpu e bucket) can.0 r.ranked),
        record { enabled = can.0; changed = refl },
      ),
      (made w, (λ i. (noted (with_mark e me.0.notes) (bits_with e true me.0) (touching (made w) (bit_word (sym kn.shape_is i) e) None 1 me.0) me.0.readings me.0, me.1))),
    )

pub marks : (shape : Shape) (slots pass : ℕ) (me : Seated) (e bucket i : ℕ) (hold : Hold) → i ≡ bit_word shape e → bucket < shape.buckets → hold_at (lock_number shape (Bucket bucket)) me.0.held ≡ Some hold → IsIn e hold.now.first
    → Allows (Rule shape) slots pass me i (λ _. 1) (λ _. Marks e me)
marks shape slots pass me e bucket i hold is there found inside =
    subst (λ (z : ℕ). Allows (Rule shape) slots pass me z (λ _. 1) (λ _. Marks e me)) (sym is)
    (allows_of shape slots pass me (bit_word shape e) (λ _. 1) (goes_by shape (Mark hold.cpu e bucket)) (λ _. Marks e me) (marks_step shape slots pass me e bucket hold there found inside))

-- Clears

-- of an element in the CPU's hand, or on the lists of a lock that it holds
pub clears_by : (shape : Shape) (slots pass : ℕ) (me : Seated) (e c : ℕ) → e < shape.elements → is_among c me.0.cpus ≡ true
    → ((s : State Behind View) (r : Rule shape s) → get_elem? s.views pass ≡ some me.0 → IsHeldHome shape r.world.core c (r.world.core.home e) ⊎ (r.world.core.owner e ≡ owners.Hand c))
    → StepsAs shape slots pass me (bit_word shape e) (λ _. 0) (goes_by shape (Clear c e)) (Clears e me)
unfolding bit_rule
clears_by shape slots pass me e c real cpu allowed s r wide at_pass _ =
    let kn = r.knows pass me.0 at_pass in
    let bit : Bool = r.world.core.bit e in
    let x : WordStep = record { at = made r.world; word = bit_word shape e; seen = Some (one bit); left = 0 } in
    let bounds = bounds_of_shape shape r.is_shape in
    let can : CanClear shape r.world.core c e = record { is_cpu = kn.within c cpu; real = real; allowed = allowed s r at_pass } in (
      noted (with_clear e bit me.0.notes) (bits_with e false me.0) (touching (made r.world) (bit_word shape e) (Some (one bit)) 0 me.0) me.0.readings me.0,
      keeps,
      tt,
      (
        bit_rule shape s r pass me.0 at_pass (with_clear e bit me.0.notes) (λ k. came_cleared e bit k me.0.held me.0.notes) (on_same _ _ (marks_cleared e bit me.0.held me.0.notes)) (keeps_known shape r.world.core.owner r.world.core.home r.world.hash me.0 _ (kept_clear e bit me.0.notes)) e 0 false (put r.world.core.bit e false) (Some (one bit)) me.1 real refl
            (put_here r.world.core.bit e false) (λ y ne. put_else r.world.core.bit e false y ne) refl (λ empty. true_false (sym cpu ∙ ap (is_among c) empty))
            (noted_clear shape me.0.touched (x ∷ []) me.0.held me.0.notes e bit kn.noted (word_off shape me.0.touched x me.0.held me.0.notes kn.noted (omega arith)) (inl refl))
            (no_others shape s r pass me.0 at_pass (with_clear e bit me.0.notes) (λ k. came_cleared e bit k me.0.held me.0.notes) (on_same _ _ (marks_cleared e bit me.0.held me.0.notes)) (keeps_known shape r.world.core.owner r.world.core.home r.world.hash me.0 _ (kept_clear e bit me.0.notes)) c cpu (put r.world.core.bit e false))
            (λ y is_set. by_test y e (λ _. (r.world.core.bit y ≡ true) ⊎ IsIn y (marks_under me.0.held (with_clear e bit me.0.notes)))
            (λ same. true_false (sym is_set ∙ (ap (put r.world.core.bit e false) same ∙ put_here r.world.core.bit e false)))
            (λ ne. inl (sym (put_else r.world.core.bit e false y ne) ∙ is_set)))
            (step_keeps_places shape r.world.core (Clear c e) bounds can r.placed)
            (step_keeps_ranks shape r.world.core (Clear c e) can r.ranked),
        record { enabled = can; changed = refl },
      ),
      record {
        bit = bit;
        found_is = r.bit_words e real;
        known = λ known f. kn.bits e known f;
        at = made r.world;
        after_is = λ i. (noted (with_clear e bit me.0.notes) (bits_with e false me.0) (touching (made r.world) (bit_word (sym kn.shape_is i) e) (Some (one bit)) 0 me.0) me.0.readings me.0, me.1);
      },
    )

-- Looks

pub sees_bit_step : (shape : Shape) (slots pass : ℕ) (me : Seated) (e : ℕ) → e < shape.elements → StepsAs shape slots pass me (bit_word shape e) (λ n. n) (goes_by shape (Glance 0 e)) (SeesBit e me)
unfolding bit_rule
sees_bit_step shape slots pass me e real s r wide at_pass _ =
    let kn = r.knows pass me.0 at_pass in
    let w = r.world in
    let bit : Bool = w.core.bit e in
    let x : WordStep = record { at = made w; word = bit_word shape e; seen = Some (one bit); left = one bit } in
    let bounds = bounds_of_shape shape r.is_shape in (
      noted (with_bit_read e bit me.0.notes) (bits_with e bit me.0) (touching (made w) (bit_word shape e) (Some (one bit)) (one bit) me.0) me.0.readings me.0,
      keeps,
      tt,
      (
        bit_rule shape s r pass me.0 at_pass (with_bit_read e bit me.0.notes) (λ k. came_bit_read e bit k me.0.held me.0.notes) (on_same _ _ (marks_bit_read e bit me.0.held me.0.notes)) (keeps_known shape r.world.core.owner r.world.core.home r.world.hash me.0 _ (kept_bit_read e bit me.0.notes)) e (get_or s.words (bit_word shape e) 0) bit w.core.bit (Some (one bit)) me.1 real (r.bit_words e real)
            refl (λ _ _. refl) refl (λ _. refl)
            (noted_bit shape me.0.touched (x ∷ []) me.0.held me.0.notes e bit kn.noted (word_off shape me.0.touched x me.0.held me.0.notes kn.noted (omega arith)) (inl refl))
            (λ j u at _ y known found. (r.knows j u at).bits y known found) (λ y is_set. inl is_set) r.placed r.ranked,
        record { enabled = (bounds.some_cpu, real); changed = refl },
      ),
      record {
        bit = bit;
        found_is = r.bit_words e real;
        known = λ known f. kn.bits e known f;
        at = made w;
        after_is = λ i. (noted (with_bit_read e bit me.0.notes) (bits_with e bit me.0) (touching (made w) (bit_word (sym kn.shape_is i) e) (Some (one bit)) (one bit) me.0) me.0.readings me.0, me.1);
      },
    )

pub sees_bit : (shape : Shape) (slots pass : ℕ) (me : Seated) (e i : ℕ) → i ≡ bit_word shape e → e < shape.elements → Allows (Rule shape) slots pass me i (λ n. n) (SeesBit e me)
sees_bit shape slots pass me e i is real =
    subst (λ (z : ℕ). Allows (Rule shape) slots pass me z (λ n. n) (SeesBit e me)) (sym is)
    (allows_of shape slots pass me (bit_word shape e) (λ n. n) (goes_by shape (Glance 0 e)) (SeesBit e me) (sees_bit_step shape slots pass me e real))

pub sees_owner_step : (shape : Shape) (slots pass : ℕ) (me : Seated) (e : ℕ) → e < shape.elements → me.0.ticket ≡ Unread → StepsAs shape slots pass me (owner_word shape e) (λ n. n) (goes_by shape (Glance 0 e)) (SeesOwner e me)
unfolding look_rule
sees_owner_step shape slots pass me e real unread s r wide at_pass _ =
    let kn = r.knows pass me.0 at_pass in
    let w = r.world in
    let owner : Owner = w.core.owner e in
    let x : WordStep = record { at = made w; word = owner_word shape e; seen = Some (owner_code owner); left = owner_code owner } in (
      noted (with_owner_read e owner me.0.notes) me.0.bits (touching (made w) (owner_word shape e) (Some (owner_code owner)) (owner_code owner) me.0) me.0.readings me.0,
      keeps,
      tt,
      look_rule shape s r pass me.0 at_pass (with_owner_read e owner me.0.notes) (λ k. came_owner_read e owner k me.0.held me.0.notes) (on_same _ _ (marks_owner_read e owner me.0.held me.0.notes)) (keeps_read shape w.core.owner w.core.home w.hash me.0 e unread) (owner_word shape e) (owner_code owner) me.1 me.0.bits me.0.homes_read kn.homes_read me.0.readings kn.readings (omega (arith, r.words)) (r.owner_words e real)
          (omega arith)
          (noted_owner shape me.0.touched (x ∷ []) me.0.held me.0.notes e owner kn.noted (word_off shape me.0.touched x me.0.held me.0.notes kn.noted (omega arith)) (inl refl)) kn.bits kn.only e real,
      record {
        owner = owner;
        found_is = r.owner_words e real;
        exists_there = subst (λ z. MayOwn z owner) (sym kn.shape_is) (r.placed.placed.owners e real);
        fits = subst (λ z. OwnerFits z me.0 e owner) (sym kn.shape_is) (owner_fits shape s r pass me.0 e at_pass real);
        at = made w;
        after_is = λ i. (noted (with_owner_read e owner me.0.notes) me.0.bits (touching (made w) (owner_word (sym kn.shape_is i) e) (Some (owner_code owner)) (owner_code owner) me.0) me.0.readings me.0, me.1);
      },
    )

pub sees_owner : (shape : Shape) (slots pass : ℕ) (me : Seated) (e i : ℕ) → i ≡ owner_word shape e → e < shape.elements → me.0.ticket ≡ Unread → Allows (Rule shape) slots pass me i (λ n. n) (SeesOwner e me)
sees_owner shape slots pass me e i is real unread =
    subst (λ (z : ℕ). Allows (Rule shape) slots pass me z (λ n. n) (SeesOwner e me)) (sym is)
    (allows_of shape slots pass me (owner_word shape e) (λ n. n) (goes_by shape (Glance 0 e)) (SeesOwner e me) (sees_owner_step shape slots pass me e real unread))
