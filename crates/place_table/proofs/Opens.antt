-- A table at its opening keeps the rule, and its first pass is in no call.
use Rattle.std.proofs.Common.{◌≡◌, ℕ, zero, suc, ◌<◌, ◌/◌, Bool, true, false, ◌&&◌, cond, eqb, ltb, List, [], ◌∷◌, map, Option, None, Some, refl, ap, ◌∙◌, sym, subst, inr, arith, get_or, inl}
use Rattle.std.specs.Prelude.{position, IsTrue}
use Rattle.std.proofs.lemmas.Bool.{lt-ltb}
use Rattle.std.proofs.lemmas.List.{length-map}
use mathlib.Core.Option.{some, some-ne-none, some-injective}
use lib.ListN.{get_elem?}
use Rattle.atomic_table.specs.Table as table
use Rattle.atomic_table.proofs.Lists.{at_map}
use Rattle.map_types.specs.declared.attr.Shape.{Shape}
use Rattle.map_types.specs.declared.kind.DomainId.{DomainId}
use Rattle.map_types.specs.declared.kind.DomainId.TheVariants.{Local, Global, CpuLru, Bucket, Freelist}
use Rattle.map_types.specs.declared.kind.MapKind.{MapKind}
use Rattle.map_types.specs.declared.kind.MapKind.TheVariants.{Hash, PercpuHash, LruHash, LruPercpuHash}
use Rattle.map_types.specs.Creation.{IsShape}
use Rattle.map_types.specs.Shape.{HasBounds}
use Rattle.map_types.specs.Kind.{is_lru}
use Rattle.map_types.proofs.CreationLemmas.{bounds_of_shape}
use Rattle.map_types.proofs.RowLemmas.{by_test}
use Rattle.place_words.specs.declared.history.Entry.{Entry}
use Rattle.place_words.specs.declared.home.Home.TheVariants as homes
use Rattle.place_words.specs.declared.owner.Owner.TheVariants as owners
use Rattle.place_words.specs.Codes.{owner_code, home_code}
use Rattle.place_words.specs.Histories.{opening_content, replayed, AllAllowed, content}
use Rattle.place_words.specs.Locks.{is_lock, lock_named, lock_count}
use Rattle.place_words.specs.Openings.{spare_owner, opening_owner, opening_spares, opening_free}
use Rattle.place_words.specs.declared.step.Lists.{Lists}
use Rattle.place_words.specs.OpeningState.{opening, opening_home, opening_lists}
use Rattle.place_words.proofs.OpeningLaws.{opening_placed, opening_ranked}
use Rattle.place_words.proofs.StartLemmas.{free_local, free_bucket}
use Rattle.place_table.specs.declared.content.Behind.{Behind}
use Rattle.place_table.specs.declared.content.Content.{Content}
use Rattle.place_table.specs.declared.view.View.{View}
use Rattle.place_table.specs.Contents.{lists_of}
use Rattle.place_table.proofs.Worlds.{none_some, true_false}
use Rattle.place_table.specs.Views.{is_among, is_in_hand_of, first_hand, known_log, bit_seen, numbers_below, no_turns, no_bits, first_view}
use Rattle.place_table.specs.Rules.{World, Rule, PassKnows, IsSlotAfter, AtHome, Tagged, HashesRight, is_hand_of, is_home_of}
use Rattle.place_table.specs.Words.{bit_word, ticket_word}
use Rattle.place_table.specs.Owners.{Owners}
use Rattle.place_table.proofs.OwnersOrder.{owners_first}
use Rattle.place_table.specs.Tickets.{Tickets, KnowsTickets, count_drawing, with_cpu}
use Rattle.place_table.specs.Opening.{IsFirstContent, IsFirstSlot, AreFirstSlots}
use Rattle.place_table.specs.Words.{opening_words}
use Rattle.place_table.proofs.RealContents.{real_there, real_at_first}
use Rattle.place_table.proofs.FirstSpares.{hand_at_first}
use Rattle.place_table.proofs.FirstWords.{length_words, first_home, first_lock_word, first_owner_word, first_home_word, first_bit_word}

-- What the first pass knows

pub among : (c n : ℕ) → c < n → is_among c (numbers_below n) ≡ true
among c zero few = absurd (omega arith)
among c (suc n) few =
    by_test n c (λ b. cond b true (is_among c (numbers_below n)) ≡ true) (λ _. refl) (λ other. among c n (omega arith))

pub among_below : (c n : ℕ) → is_among c (numbers_below n) ≡ true → c < n
among_below c zero is = absurd cc
among_below c (suc n) is =
    by_test n c (λ b. cond b true (is_among c (numbers_below n)) ≡ true → c < suc n)
    (λ same _. omega arith)
    (λ _ later. let below = among_below c n later in omega arith)
    is

known_first : (k n : ℕ) (log : List Entry) → known_log k (no_turns n) ≡ Some log → [] ≡ log
known_first k zero log is = absurd cc
known_first k (suc n) log is =
    by_test n k (λ b. cond b (Some []) (known_log k (no_turns n)) ≡ Some log → [] ≡ log)
    (λ _ found. cc)
    (λ _ later. known_first k n log later)
    is

bit_first : (e n : ℕ) (bit : Bool) → bit_seen e (no_bits n) ≡ Some bit → false ≡ bit
bit_first e zero bit is = absurd cc
bit_first e (suc n) bit is =
    by_test n e (λ b. cond b (Some false) (bit_seen e (no_bits n)) ≡ Some bit → false ≡ bit)
    (λ _ found. cc)
    (λ _ later. bit_first e n bit later)
    is

-- What lies under the locks

reads_first : (shape : Shape) (k : ℕ) (behind : Behind) → IsFirstSlot shape k behind → is_lock shape (lock_named shape k) ≡ true → IsSlotAfter shape k [] false behind
unfolding replayed
reads_first shape k behind slot there = go behind.content refl slot.content
  where
    go : (found : Option Content) → behind.content ≡ found → IsFirstContent shape (lock_named shape k) found → IsSlotAfter shape k [] false behind
    go None is none = absurd cc
    go (Some here) is first = record { here = here; content_is = is; told_is = first.0; fits = first.1; kept = slot.kept }

abbrev free_only : List ℕ → Lists
free_only xs = record { free = xs; first = []; second = []; cursor = None }

lists_first : (shape : Shape) (lock : DomainId) → free_only (opening_free shape lock) ≡ lists_of (opening_content shape lock)
lists_first shape (Local cpu) = ap free_only (sym (free_local shape (Local cpu) cpu refl))
lists_first shape Global = refl
lists_first shape (CpuLru cpu) = refl
lists_first shape (Bucket bucket) = ap free_only (sym (free_bucket shape (Bucket bucket) bucket refl))
lists_first shape (Freelist cpu) = refl

slot_first : (shape : Shape) (slots : List Behind) → AreFirstSlots shape (lock_count shape) slots → (k : ℕ) → k < lock_count shape → is_lock shape (lock_named shape k) ≡ true
    → AtHome shape k None [] (opening_lists shape k) false (get_elem? (map some slots) k)
unfolding replayed opening_lists
slot_first shape slots are k within there =
    let found = are.each k within in
    ((found.0, at_map some slots k found.0 found.1, reads_first shape k found.0 found.2 there), lists_first shape (lock_named shape k))

-- Elements

owner_first : (shape : Shape) (e : ℕ) → e < shape.elements → (opening shape).owner e ≡ opening_owner shape shape.kind e
unfolding opening
owner_first shape e real = ap (λ b. cond b (opening_owner shape shape.kind e) owners.Free) (lt-ltb e shape.elements real)

-- no element is carried
not_carried_first : (shape : Shape) (e c : ℕ) → false ≡ (is_home_of c ((opening shape).home e) && true)
unfolding opening opening_home
not_carried_first shape e c = either (ltb e shape.elements) shape.common (is_lru shape.kind)
  where
    either : (b common lru : Bool) → false ≡ (is_home_of c (cond b (cond common (homes.In Global) (cond lru (homes.In (CpuLru (e / (shape.elements / shape.cpus)))) homes.Unlisted)) homes.Unlisted) && true)
    either true true lru = refl
    either true false true = refl
    either true false false = refl
    either false common lru = refl

-- no element is in a bucket
in_no_bucket : (shape : Shape) (e b : ℕ) → (opening shape).owner e ≡ owners.Bucket b → ⊥
unfolding opening opening_owner
in_no_bucket shape e b is = at (ltb e shape.elements) shape.kind is
  where
    of_spare : (found : Option ℕ) → spare_owner found ≡ owners.Bucket b → ⊥
    of_spare None same = cc
    of_spare (Some cpu) same = cc

    at : (real : Bool) (kind : MapKind) → cond real (opening_owner shape kind e) owners.Free ≡ owners.Bucket b → ⊥
    at false kind same = cc
    at true Hash same = of_spare (position (λ spare. eqb spare e) (opening_spares shape)) same
    at true PercpuHash same = cc
    at true LruHash same = cc
    at true LruPercpuHash same = cc

-- and none is listed
hashes_first : (shape : Shape) (log : ℕ → List Tagged) (hash : ℕ → ℕ) → HashesRight shape (opening shape).holder (opening shape).lists (opening shape).owner log hash
unfolding opening opening_lists
hashes_first shape log hash = record {
  in_bucket = λ e b is. absurd (in_no_bucket shape e b is);
  have = λ k e no_bucket inside. absurd (let none : 0 < 0 = inside in omega arith);
}

-- The rule

abbrev first_world : Shape → World
first_world shape = record {
  core = opening shape;
  log = λ k. [];
  lost = λ k. false;
  pass_of_cpu = λ c. 0;
  pass_of_strand = λ strand. 0;
  cpus_of_strand = λ strand. numbers_below shape.cpus;
  current = λ pass. 0;
  past = λ pass. [];
  next = 1;
  hash = λ e. 0;
  touches = [];
}

and_true : (a : Bool) → a ≡ (a && true)
and_true true = refl
and_true false = refl

-- on a map that evicts nothing is in hand at first
none_in_hand : (shape : Shape) (kind : MapKind) (e c : ℕ) → IsTrue (is_lru kind) → is_in_hand_of e c (first_hand kind shape) ≡ false
none_in_hand shape Hash e c lru = true_false (sym lru)
none_in_hand shape PercpuHash e c lru = true_false (sym lru)
none_in_hand shape LruHash e c lru = refl
none_in_hand shape LruPercpuHash e c lru = refl

first_knows : (shape : Shape) → HasBounds shape → PassKnows shape (first_world shape) 0 (first_view shape)
unfolding opening
first_knows shape bounds = record {
  shape_is = refl;
  cpus = λ c few. among c shape.cpus few;
  within = λ c mine. among_below c shape.cpus mine;
  held = λ k. refl;
  ascends = tt;
  noted = tt;
  hands = λ e c few. hand_at_first shape bounds e c ∙ and_true (is_hand_of c ((opening shape).owner e));
  carried = λ e c few. not_carried_first shape e c;
  hashes = λ e c noted within found. absurd (none_some found);
  hashed = λ lru e c lock real within in_hand at. true_false (sym in_hand ∙ none_in_hand shape shape.kind e c lru);
  rowed = λ lru k e hold found. absurd (none_some found);
  homes_read = tt;
  readings = λ e c read within found. absurd (none_some found);
  known = λ k log is. known_first k (lock_count shape) log is;
  bits = λ e bit is. bit_first e shape.elements bit is;
  only = inr (λ c few. among c shape.cpus few);
  losses = λ k among. absurd cc;
  strand = record { pass_of_strand = refl; numbered = omega arith; cpus_of_strand = refl; steps_are = λ k. refl; stand = tt; kept_are = λ k within there kept. refl; touched_are = refl };
  past = tt;
  apart = refl;
  idle = λ _. ((refl, tt), tt);
}

first_ticket_word : (shape : Shape) → get_or (opening_words shape) (ticket_word shape) 0 ≡ 0
first_ticket_word shape = first_bit_word shape (ticket_word shape) (omega arith)

-- no ticket was drawn
first_tickets : (shape : Shape) → HasBounds shape → Tickets shape 0 (λ k. []) (λ k. false) (λ c. 0) (first_view shape ∷ [])
first_tickets shape bounds = record {
  drawing = λ c. false;
  stand = λ t. with_cpu 0;
  bounded = let none = none_near shape.cpus in omega arith;
  stands = λ k place entry kept got. absurd (none_some got);
  ascend = λ k kept. omega arith;
  filled = λ none t less. absurd (omega arith);
  known = known;
  newest = record { cpu = 0; within = bounds.some_cpu; view = first_view shape; seat = refl; reached = refl };
}
  where
    none_near : (n : ℕ) → count_drawing (λ c. false) n ≡ 0
    none_near zero = refl
    none_near (suc n) = let rest = none_near n in omega arith

    known : (pass : ℕ) (v : View) → get_elem? (first_view shape ∷ []) pass ≡ some v → KnowsTickets shape 0 (λ k. false) (λ c. false) (λ t. with_cpu 0) v
    known zero v at = subst (KnowsTickets shape 0 (λ k. false) (λ c. false) (λ t. with_cpu 0)) (some-injective (first_view shape) v at) record { reached = omega arith; refused = inl refl; all_drawn = λ _. refl; strand = omega arith; ended = tt; ticket = tt; below = λ read. absurd read; nested = tt; ended_nested = tt }
    known (suc pass) v at = absurd (some-ne-none v (sym at))

opens_at : (shape : Shape) (slots : List Behind) → IsShape shape → AreFirstSlots shape (lock_count shape) slots → Rule shape (table.opening (opening_words shape) slots (first_view shape))
unfolding opening AllAllowed
opens_at shape slots is_one are =
    let bounds = bounds_of_shape shape is_one in
    record {
      world = first_world shape;
      is_shape = is_one;
      words = length_words shape;
      slots = length-map slots some ∙ are.count;
      lock_words = λ k within. first_lock_word shape k within;
      owner_words = λ e real. first_owner_word shape e real ∙ ap owner_code (sym (owner_first shape e real));
      home_words = λ e real. first_home_word shape e real ∙ ap home_code (sym (first_home shape e real));
      bit_words = λ e real. first_bit_word shape (bit_word shape e) (omega arith);
      placed = opening_placed shape bounds;
      ranked = opening_ranked shape;
      hashes = λ lru. hashes_first shape (λ k. []) (λ e. 0);
      legal = λ k. tt;
      real = λ k within there. real_at_first shape (lock_named shape k) (real_there shape (opening shape) (opening_placed shape bounds) k (content shape (lock_named shape k) []) (slot_first shape slots are k within there).1);
      unmarked = λ plain e is_set. absurd (let none : false ≡ true = is_set in cc);
      homes = λ k within there. slot_first shape slots are k within there;
      seated = λ c few. omega arith;
      tagged = λ k. tt;
      in_time = tt;
      lead = λ i below. refl;
      tickets = subst (λ (z : ℕ). Tickets shape z (λ k. []) (λ k. false) (λ c. 0) (first_view shape ∷ [])) (sym (first_ticket_word shape)) (first_tickets shape bounds);
      owners = λ lru none. subst (λ (z : ℕ). Owners shape z (opening shape).owner (opening shape).home (λ e. 0) (λ k. []) (first_view shape ∷ [])) (sym (first_ticket_word shape)) (owners_first shape (opening shape).home (λ e. 0));
      of_strands = tt;
      gave_back = λ k below. refl;
      knows = λ pass v at. first_seat bounds pass v at;
    }
  where
    first_seat : HasBounds shape → (pass : ℕ) (v : View) → get_elem? (first_view shape ∷ []) pass ≡ some v → PassKnows shape (first_world shape) pass v
    first_seat bounds zero v at = subst (PassKnows shape (first_world shape) 0) (some-injective (first_view shape) v at) (first_knows shape bounds)
    first_seat bounds (suc pass) v at = absurd (some-ne-none v (sym at))

pub opens : (shape : Shape) (words : List ℕ) (slots : List Behind) → IsShape shape → words ≡ opening_words shape → AreFirstSlots shape (lock_count shape) slots → Rule shape (table.opening words slots (first_view shape))
opens shape words slots is_one words_are are =
    subst (λ (ws : List ℕ). Rule shape (table.opening ws slots (first_view shape))) (sym words_are) (opens_at shape slots is_one are)
