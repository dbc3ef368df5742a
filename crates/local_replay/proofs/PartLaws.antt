-- What each part leaves, of lists that lie with their heads at the end.
use Rattle.std.proofs.Common.{◌≡◌, ℕ, List, [], ◌∷◌, ◌++◌, reverse, drop, Bool, true, false, not, Option, Some, None, refl, ap, sym, ◌∙◌, eqb}
use Rattle.std.specs.Prelude.{MatchBool, nat_lt}
use Rattle.std.specs.List.{list_any}
use Rattle.std.proofs.lemmas.Bool.{eqb-true, ltb-true, ltb-false, eq-eqb}
use Rattle.std.proofs.Common.{arith}
use Rattle.map_types.specs.declared.attr.Shape.{Shape}
use Rattle.map_types.specs.ElementLists.{times}
use Rattle.place_words.specs.declared.visits.Visit.{Visit}
use Rattle.place_words.specs.declared.visits.Look.{Look}
use Rattle.place_words.specs.declared.visits.Try.{Try}
use Rattle.place_words.specs.declared.list_part.Stolen.TheVariants.{Free, Pending, Nothing}
use Rattle.place_words.specs.Sets.{has_row, row_with}
use Rattle.local_replay.specs.Replays.{CanAdd, CanRefill}
use Rattle.local_replay.specs.Walks.{visits_are}
use Rattle.local_replay.proofs.WalkLaws.{visits_told, visits_tell}
use Rattle.std.proofs.lemmas.List.{reverse-append}
use Rattle.map_types.specs.declared.row.Row.{Row}
use Rattle.map_types.specs.Listed.{without_those}
use Rattle.place_words.specs.declared.list_part.LocalPart.TheVariants as local
use Rattle.place_words.specs.Locals.{LocalLists, AllowsPush, last_of, local_after}
use Rattle.local_replay.proofs.ListLaws.{filter_reverse, any_reverse, absent_is, elements_turned}

-- the lists as they are seen
abbrev pub seen : List ℕ → List Row → ℕ → LocalLists
seen free pending steal = record { free = reverse free; pending = reverse pending; steal = steal }

pub popped : (free after : List ℕ) (pending pushed : List Row) (steal hash e : ℕ) → drop 1 (reverse free) ≡ reverse after
    → pushed ≡ pending ++ (record { element = e; hash = hash }) ∷ [] → seen after pushed steal ≡ local_after (local.Pop hash e) (seen free pending steal)
unfolding local_after
popped free after pending pushed steal hash e off is = rw (is, reverse-append pending ((record { element = e; hash = hash }) ∷ []), off) refl

pub added : (free : List ℕ) (pending pushed : List Row) (steal hash e cursor : ℕ)
    → pushed ≡ pending ++ (record { element = e; hash = hash }) ∷ [] → seen free pushed cursor ≡ local_after (local.Add hash e cursor) (seen free pending steal)
unfolding local_after
added free pending pushed steal hash e cursor is = rw (is, reverse-append pending ((record { element = e; hash = hash }) ∷ [])) refl

pub pushed_done : (free freed : List ℕ) (pending kept : List Row) (steal e : ℕ) → kept ≡ without_those (λ x. eqb x e) pending
    → freed ≡ free ++ e ∷ [] → seen freed kept steal ≡ local_after (local.Push e true) (seen free pending steal)
unfolding local_after
pushed_done free freed pending kept steal e is more = rw (is, more, reverse-append free (e ∷ []), filter_reverse (λ (row : Row). not (eqb row.element e)) pending) refl

pub not_pushed : (lists : LocalLists) (e : ℕ) → lists ≡ local_after (local.Push e false) lists
unfolding local_after
not_pushed lists e = refl

pub refilled : (free kept gained : List ℕ) (pending rows : List Row) (steal hash : ℕ) (got : Option ℕ) (flushed : List Visit)
    → reverse kept ≡ drop 1 (reverse gained) → rows ≡ row_with hash got
    → seen kept rows steal ≡ local_after (local.Refill hash flushed gained got) (seen free pending steal)
unfolding local_after
refilled free kept gained pending rows steal hash None flushed is rows_are = rw (is, rows_are) refl
refilled free kept gained pending rows steal hash (Some e) flushed is rows_are = rw (is, rows_are) refl

-- a test that tells whether something holds
pub by_cases : (b : Bool) (P : Type 0) → (b ≡ true → P) → (b ≡ false → P → ⊥) → MatchBool b P (¬ P)
by_cases true P holds fails = holds refl
by_cases false P holds fails = fails refl

pub unlike : {b : Bool} → b ≡ true → b ≡ false → ⊥
unlike hit miss = let is : true ≡ false = sym hit ∙ miss in cc

row_turned : (e : ℕ) (pending : List Row) → has_row e (reverse pending) ≡ has_row e pending
row_turned e pending = any_reverse (λ (row : Row). eqb row.element e) pending

free_turned : (e : ℕ) (free : List ℕ) → eqb (times e (reverse free)) 0 ≡ not (list_any (λ x. eqb x e) free)
free_turned e free = sym (absent_is e (reverse free)) ∙ ap not (any_reverse (λ (x : ℕ). eqb x e) free)

pub row_refuses : (shape : Shape) (free : List ℕ) (pending : List Row) (steal e cursor : ℕ) → has_row e pending ≡ true → CanAdd shape e cursor (seen free pending steal) → ⊥
row_refuses shape free pending steal e cursor is can = unlike (row_turned e pending ∙ is) can.0

pub free_refuses : (shape : Shape) (free : List ℕ) (pending : List Row) (steal e cursor : ℕ) → not (list_any (λ x. eqb x e) free) ≡ false → CanAdd shape e cursor (seen free pending steal) → ⊥
free_refuses shape free pending steal e cursor is can = unlike (eq-eqb (times e (reverse free)) 0 can.1) (free_turned e free ∙ is)

pub add_told : (shape : Shape) (free : List ℕ) (pending : List Row) (steal e cursor : ℕ) → has_row e pending ≡ false → not (list_any (λ x. eqb x e) free) ≡ true
    → MatchBool (nat_lt cursor shape.cpus) (CanAdd shape e cursor (seen free pending steal)) (¬ CanAdd shape e cursor (seen free pending steal))
add_told shape free pending steal e cursor no_row not_free =
    by_cases (nat_lt cursor shape.cpus) (CanAdd shape e cursor (seen free pending steal))
    (λ below. (row_turned e pending ∙ no_row, eqb-true (times e (reverse free)) 0 (free_turned e free ∙ not_free), ltb-true cursor shape.cpus below))
    (λ above can. let past = ltb-false cursor shape.cpus above in let below = can.2 in absurd (omega (arith, past, below)))

pub push_told : (free : List ℕ) (pending : List Row) (steal e : ℕ) (b : Bool) → b ≡ has_row e pending
    → MatchBool b (AllowsPush e true (seen free pending steal)) (¬ AllowsPush e true (seen free pending steal))
push_told free pending steal e b is =
    by_cases b (AllowsPush e true (seen free pending steal)) (λ hit. row_turned e pending ∙ sym is ∙ hit) (λ miss there. unlike there (row_turned e pending ∙ sym is ∙ miss))

pub flushed_told : (free : List ℕ) (pending : List Row) (steal e : ℕ) (b : Bool) → b ≡ has_row e pending
    → MatchBool (not b) (AllowsPush e false (seen free pending steal)) (¬ AllowsPush e false (seen free pending steal))
flushed_told free pending steal e true is = λ there. unlike (row_turned e pending ∙ sym is) there
flushed_told free pending steal e false is = row_turned e pending ∙ sym is

pub visits_refuse : (free gained : List ℕ) (pending : List Row) (flushed : List Visit) (steal : ℕ) (got : Option ℕ)
    → visits_are pending flushed ≡ false → CanRefill flushed gained got (seen free pending steal) → ⊥
visits_refuse free gained pending flushed steal got miss can = unlike (visits_tell pending flushed (can.1 ∙ elements_turned pending)) miss

pub refill_told : (free gained : List ℕ) (pending : List Row) (flushed : List Visit) (steal : ℕ) (got : Option ℕ) (b : Bool)
    → free ≡ [] → visits_are pending flushed ≡ true → MatchBool b (got ≡ last_of gained) (¬ (got ≡ last_of gained))
    → MatchBool b (CanRefill flushed gained got (seen free pending steal)) (¬ CanRefill flushed gained got (seen free pending steal))
refill_told free gained pending flushed steal got true none all last = (ap reverse none, visits_told pending flushed all ∙ sym (elements_turned pending), last)
refill_told free gained pending flushed steal got false none all last = λ can. last can.2

pub stolen_free : (free after : List ℕ) (pending : List Row) (steal e : ℕ) (first : List Look) (second : List Try) → drop 1 (reverse free) ≡ reverse after
    → seen after pending steal ≡ local_after (local.Steal (Free e) first second) (seen free pending steal)
unfolding local_after
stolen_free free after pending steal e first second off = rw off refl

pub stolen_pending : (free : List ℕ) (pending kept : List Row) (steal e : ℕ) (first : List Look) (second : List Try) → kept ≡ without_those (λ x. eqb x e) pending
    → seen free kept steal ≡ local_after (local.Steal (Pending e) first second) (seen free pending steal)
unfolding local_after
stolen_pending free pending kept steal e first second is = rw (is, filter_reverse (λ (row : Row). not (eqb row.element e)) pending) refl

pub stolen_nothing : (lists : LocalLists) (first : List Look) (second : List Try) → lists ≡ local_after (local.Steal Nothing first second) lists
unfolding local_after
stolen_nothing lists first second = refl
