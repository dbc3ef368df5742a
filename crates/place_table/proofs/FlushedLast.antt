-- An element that was flushed by the rows of local lists, before each turn and after it, was flushed by what the parts tell.
use Rattle.std.proofs.Common.{◌≡◌, ℕ, zero, suc, ◌≤◌, drop, ◌⊎◌, inl, inr, ⊎_elim, eqb, cond, Bool, true, false, List, [], ◌∷◌, sym, refl, ◌∙◌, subst, arith, Option, Some, None, take}
use Rattle.std.specs.Prelude.{◌||◌}
use Rattle.map_types.specs.declared.attr.Shape.{Shape}
use Rattle.map_types.specs.declared.kind.DomainId.TheVariants.{Local}
use Rattle.map_types.specs.declared.row.Row.{Row}
use Rattle.map_types.specs.ElementLists.{times}
use Rattle.map_types.specs.Listed.{elements_of}
use Rattle.map_types.proofs.RowLemmas.{by_test}
use Rattle.place_words.specs.declared.history.Entry.{Entry}
use Rattle.place_words.specs.declared.history.Part.{Part}
use Rattle.place_words.specs.declared.history.Part.TheVariants as parts
use Rattle.place_words.specs.declared.list_part.LocalPart.{LocalPart}
use Rattle.place_words.specs.declared.list_part.LocalPart.TheVariants as local
use Rattle.place_words.specs.declared.list_part.Stolen.TheVariants.{Free, Pending, Nothing}
use Rattle.place_words.specs.declared.visits.Visit.{Visit}
use Rattle.place_words.specs.Histories.{Content, replayed, Allows, AllAllowed, IsLegal, content_after, in_locals}
use Rattle.place_words.specs.Locals.{LocalLists, new_locals, AllowsOnLocal, local_after}
use Rattle.place_words.specs.RowMoves.{rows_of}
use Rattle.place_words.specs.Sets.{row_with}
use Rattle.place_words.specs.Takings.{stored_hash, is_one, has_visit, flushed_by_local, flushed_by, ends_flushed}
use Rattle.place_words.proofs.KeepLaws.{has_one, stolen_there}
use Rattle.place_words.proofs.RowCounts.{any, rows_any}
use Rattle.place_words.proofs.ShrinkProbes.{stored_there}
use Rattle.place_table.specs.Flushes.{is_visited, local_flushes, flushes, flushed_then, flushed_from, flushed_since}
use Rattle.place_table.specs.StoredHashes.{stored_in}
use Rattle.place_table.proofs.Worlds.{by_bool, true_false, none_some}

visited_same : (e : ℕ) (visits : List Visit) → is_visited e visits ≡ has_visit e visits
visited_same e [] = refl
visited_same e (x ∷ xs) = by (eqb x.element e) (visited_same e xs)
  where
    by : (b : Bool) → is_visited e xs ≡ has_visit e xs → cond b true (is_visited e xs) ≡ (b || has_visit e xs)
    by true same = refl
    by false same = same

-- what is told to be flushed has no row, and either it had none before and was flushed then, or this part flushes it
then_told : (was by_it : Bool) (before after : Option ℕ) → flushed_then was by_it before after ≡ true → (after ≡ None) × (((before ≡ None) × (was ≡ true)) ⊎ (by_it ≡ true))
then_told was by_it before (Some h) is = true_false (sym is)
then_told was by_it (Some h) None is = (refl, inr is)
then_told was by_it None None is = (refl, inl (refl, is))

none_there : (e : ℕ) (rows : List Row) → stored_hash e rows ≡ None → times e (elements_of rows) ≡ 0
none_there e rows none =
    by_test (times e (elements_of rows)) 0 (λ _. times e (elements_of rows) ≡ 0) (λ is. is) (λ some_there. let row = stored_there e rows (omega arith) in absurd (none_some (sym none ∙ row.1)))

-- One turn: where its part is told to flush the element by rows, it does so by what it tells, from an answer before that follows.
module _ (shape : Shape) (e : ℕ) (was then : Bool) (goes : was ≡ true → then ≡ true) (lists : LocalLists) where
  -- what comes to pending is another element, and so is what leaves it where this one isn't pending
  comes : (x : ℕ) (others : List ℕ) → times e (x ∷ others) ≡ 0 → then ≡ true → cond (eqb x e) false then ≡ true
  comes x others none is =
      by_test x e (λ b. cond b (suc (times e others)) (times e others) ≡ 0 → cond b false then ≡ true) (λ _ here. absurd (omega (arith, here))) (λ _ _. is) none

  leaves : (x : ℕ) → 1 ≤ rows_of x any lists.pending → times e (elements_of lists.pending) ≡ 0 → then ≡ true → cond (eqb x e) false then ≡ true
  leaves x there none is =
      by_test x e (λ b. cond b false then ≡ true)
      (λ same. let here : 1 ≤ rows_of e any lists.pending = subst (λ (y : ℕ). 1 ≤ rows_of y any lists.pending) same there in let counted = rows_any e lists.pending in absurd (omega (arith, here, counted, none)))
      (λ _. is)

  got_other : (hash : ℕ) (got : Option ℕ) → times e (elements_of (row_with hash got)) ≡ 0 → then ≡ true → cond (is_one e got) false then ≡ true
  got_other hash None none is = is
  got_other hash (Some x) none is = comes x [] none is

  -- it wasn't pending before the turn and was flushed then
  abbrev WasOff : Type 0
  WasOff = (times e (elements_of lists.pending) ≡ 0) × (then ≡ true)

  was_off : WasOff ⊎ (false ≡ true) → WasOff
  was_off before = ⊎_elim (λ (off : WasOff). off) (λ (never : false ≡ true). true_false (sym never)) before

  by_part : (part : LocalPart) → AllowsOnLocal shape part lists → times e (elements_of (local_after part lists).pending) ≡ 0 → WasOff ⊎ (local_flushes e part ≡ true) → flushed_by_local e part then ≡ true
  unfolding local_after
  by_part (local.Pop hash x) allowed none before = comes x (elements_of lists.pending) none (was_off before).1
  by_part (local.Refill hash flushed gained got) allowed none before =
      by_bool (has_visit e flushed) (λ b. cond b true (cond (is_one e got) false then) ≡ true) (λ _. refl)
      (λ not_visited. ⊎_elim
      (λ (off : WasOff). got_other hash got none off.1)
      (λ (by_it : is_visited e flushed ≡ true). true_false (sym by_it ∙ (visited_same e flushed ∙ not_visited)))
      before)
  by_part (local.Steal (Free x) first second) allowed none before = (was_off before).1
  by_part (local.Steal (Pending x) first second) allowed none before =
      let off = was_off before in leaves x (stolen_there x lists first second allowed.0 allowed.1) off.0 off.1
  by_part (local.Steal Nothing first second) allowed none before = (was_off before).1
  by_part (local.Add hash x cursor) allowed none before = comes x (elements_of lists.pending) none (was_off before).1
  by_part (local.Push x true) allowed none before = let off = was_off before in leaves x (has_one x lists.pending allowed) off.0 off.1
  by_part (local.Push x false) allowed none before = (was_off before).1

  pub part_told : (part : LocalPart) → AllowsOnLocal shape part lists → flushed_then was (local_flushes e part) (stored_hash e lists.pending) (stored_hash e (local_after part lists).pending) ≡ true → flushed_by_local e part then ≡ true
  part_told part allowed is =
      let told = then_told was (local_flushes e part) (stored_hash e lists.pending) (stored_hash e (local_after part lists).pending) is in
      by_part part allowed (none_there e (local_after part lists).pending told.0)
      (⊎_elim
      (λ (off : (stored_hash e lists.pending ≡ None) × (was ≡ true)). inl (none_there e lists.pending off.0, goes off.1))
      (λ (by_it : local_flushes e part ≡ true). inr by_it)
      told.1)

-- all turns in order, from some local lists on
abbrev AreTold : Shape → ℕ → List Entry → Type 0
AreTold shape e entries =
    (was then : Bool) (lists : LocalLists) → (was ≡ true → then ≡ true) → AllAllowed shape (in_locals lists) entries → flushed_from shape e was (in_locals lists) entries ≡ true → ends_flushed e then entries ≡ true

turn_told : (shape : Shape) (e cpu : ℕ) (part : Part) (entries : List Entry) → AreTold shape e entries → (was then : Bool) (lists : LocalLists) → (was ≡ true → then ≡ true) → Allows shape cpu part (in_locals lists) → AllAllowed shape (content_after shape cpu part (in_locals lists)) entries
    → flushed_from shape e (flushed_then was (flushes e part) (stored_in (in_locals lists) e) (stored_in (content_after shape cpu part (in_locals lists)) e)) (content_after shape cpu part (in_locals lists)) entries ≡ true → ends_flushed e (flushed_by e part then) entries ≡ true
unfolding stored_in
turn_told shape e cpu (parts.Bucket part) entries others was then lists goes allowed legal is = absurd allowed
turn_told shape e cpu (parts.Free part) entries others was then lists goes allowed legal is = absurd allowed
turn_told shape e cpu (parts.Local part) entries others was then lists goes allowed legal is =
    others (flushed_then was (local_flushes e part) (stored_hash e lists.pending) (stored_hash e (local_after part lists).pending)) (flushed_by_local e part then) (local_after part lists) (part_told shape e was then goes lists part allowed) legal is
turn_told shape e cpu (parts.Global part) entries others was then lists goes allowed legal is = absurd allowed
turn_told shape e cpu (parts.Own part) entries others was then lists goes allowed legal is = absurd allowed

are_told : (shape : Shape) (e : ℕ) (entries : List Entry) → AreTold shape e entries
unfolding AllAllowed flushed_from
are_told shape e [] was then lists goes allowed is = goes is
are_told shape e (entry ∷ entries) was then lists goes allowed is = turn_told shape e entry.cpu entry.part entries (are_told shape e entries) was then lists goes allowed.0 allowed.1 is

-- The turns behind the first ones alone

abbrev pub flushed_behind : Shape → ℕ → ℕ → Content → List Entry → Bool
flushed_behind shape n e before entries = flushed_from shape e false (replayed shape before (take n entries)) (drop n entries)

abbrev AreToldBehind : Shape → ℕ → ℕ → List Entry → Type 0
AreToldBehind shape n e entries =
    (lists : LocalLists) → AllAllowed shape (in_locals lists) entries → flushed_behind shape n e (in_locals lists) entries ≡ true → ends_flushed e false (drop n entries) ≡ true

turn_behind : (shape : Shape) (n e cpu : ℕ) (part : Part) (entries : List Entry) → AreToldBehind shape n e entries → (lists : LocalLists) → Allows shape cpu part (in_locals lists) → AllAllowed shape (content_after shape cpu part (in_locals lists)) entries
    → flushed_behind shape n e (content_after shape cpu part (in_locals lists)) entries ≡ true → ends_flushed e false (drop n entries) ≡ true
turn_behind shape n e cpu (parts.Bucket part) entries others lists allowed legal is = absurd allowed
turn_behind shape n e cpu (parts.Free part) entries others lists allowed legal is = absurd allowed
turn_behind shape n e cpu (parts.Local part) entries others lists allowed legal is = others (local_after part lists) legal is
turn_behind shape n e cpu (parts.Global part) entries others lists allowed legal is = absurd allowed
turn_behind shape n e cpu (parts.Own part) entries others lists allowed legal is = absurd allowed

since_told : (shape : Shape) (n e : ℕ) (entries : List Entry) → AreToldBehind shape n e entries
unfolding flushed_from replayed AllAllowed
since_told shape zero e entries lists legal is = are_told shape e entries false false lists (λ flushed. flushed) legal is
since_told shape (suc n) e [] lists legal is = true_false (sym is)
since_told shape (suc n) e (entry ∷ entries) lists legal is = turn_behind shape n e entry.cpu entry.part entries (since_told shape n e entries) lists legal.0 legal.1 is

-- what the turns behind the first ones flushed last, all of them did
then_goes : (was now by_it : Bool) (before after : Option ℕ) → (was ≡ true → now ≡ true) → flushed_then was by_it before after ≡ true → flushed_then now by_it before after ≡ true
then_goes was now by_it before (Some h) goes is = true_false (sym is)
then_goes was now by_it (Some h) None goes is = is
then_goes was now by_it None None goes is = goes is

from_goes : (shape : Shape) (e : ℕ) (was now : Bool) (before : Content) (entries : List Entry) → (was ≡ true → now ≡ true) → flushed_from shape e was before entries ≡ true → flushed_from shape e now before entries ≡ true
unfolding flushed_from
from_goes shape e was now before [] goes is = goes is
from_goes shape e was now before (entry ∷ entries) goes is =
    let after : Content = content_after shape entry.cpu entry.part before in
    from_goes shape e (flushed_then was (flushes e entry.part) (stored_in before e) (stored_in after e)) (flushed_then now (flushes e entry.part) (stored_in before e) (stored_in after e)) after entries
    (then_goes was now (flushes e entry.part) (stored_in before e) (stored_in after e) goes) is

since_all : (shape : Shape) (n e : ℕ) (was : Bool) (before : Content) (entries : List Entry) → flushed_behind shape n e before entries ≡ true → flushed_from shape e was before entries ≡ true
unfolding flushed_from replayed
since_all shape zero e was before entries is = from_goes shape e false was before entries (λ never. true_false (sym never)) is
since_all shape (suc n) e was before [] is = true_false (sym is)
since_all shape (suc n) e was before (entry ∷ entries) is =
    let after : Content = content_after shape entry.cpu entry.part before in
    since_all shape n e (flushed_then was (flushes e entry.part) (stored_in before e) (stored_in after e)) after entries is

-- The last of the turns behind the first ones that put an element on pending or took it off flushed it, as a push tells that finds it
-- there no more; and so did the last of all turns.
pub flushed_told : (shape : Shape) (c n e : ℕ) (entries : List Entry) → IsLegal shape (Local c) entries → flushed_since shape (Local c) n e entries ≡ true → (ends_flushed e false (drop n entries) ≡ true) × (ends_flushed e false entries ≡ true)
flushed_told shape c n e entries legal is = (
  since_told shape n e entries (new_locals c) legal is,
  are_told shape e entries false false (new_locals c) (λ flushed. flushed) legal (since_all shape n e false (in_locals (new_locals c)) entries is),
)
