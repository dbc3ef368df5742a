-- Rows, counts and notes as an element is flushed from pending.
use Rattle.std.proofs.Common.{◌≡◌, ◌≢◌, ℕ, ◌<◌, cond, true, false, Bool, List, [], ◌∷◌, ◌++◌, sym, refl, ap, ◌∙◌, Option, Some, None, append_assoc, suc, arith}
use Rattle.std.specs.Prelude.{◌==◌, not, filter, find, option_map, reverse}
use Rattle.std.proofs.lemmas.List.{map-append, reverse-append, reverse-reverse}
use Rattle.map_types.specs.declared.row.Row.{Row}
use Rattle.map_types.specs.ElementLists.{times}
use Rattle.map_types.specs.Listed.{elements_of}
use Rattle.map_types.proofs.RowLemmas.{times_append, by_test}
use Rattle.place_words.specs.declared.owner.Owner.{Owner}
use Rattle.place_words.specs.declared.owner.Owner.TheVariants as owners
use Rattle.place_words.specs.declared.visits.Flush.{Flush}
use Rattle.place_words.specs.Globals.{flush_row, flushed_rows, with_flushed}
use Rattle.place_words.specs.Openings.{is_free}
use Rattle.place_words.specs.Sets.{ListSet}
use Rattle.place_words.specs.Takings.{stored_hash}
use Rattle.place_words.proofs.ElementLemmas.{times_cons_same}
use Rattle.place_table.specs.declared.view.Hold.{Hold}
use Rattle.place_table.specs.declared.view.Notes.{Notes}
use Rattle.place_table.specs.Contents.{set_told}
use Rattle.place_table.specs.Views.{with_came, with_off}
use Rattle.place_table.proofs.Entries.{append_nil}
use Rattle.place_table.proofs.Worlds.{some_is, none_some}
use Rattle.row_list.specs.RowWords.{head_row, tail_row, without_row}
use Rattle.row_list.proofs.RowLemmas.{elements_append, without_split}
use Rattle.lru_lists.specs.Sets.{SetView, moved_in}
use Rattle.lru_ops.specs.Filling.{flushed_to}

-- The tail of a list of rows

head_split : (rows : List Row) (row : Row) → Some row ≡ head_row rows → (rest : List Row) × (rows ≡ row ∷ rest)
head_split [] row is = absurd (none_some (sym is))
head_split (x ∷ rest) row is = (rest, ap (λ (r : Row). r ∷ rest) (sym (some_is is)))

pub tail_split : (rows : List Row) (row : Row) → Some row ≡ tail_row rows → (front : List Row) × (rows ≡ front ++ row ∷ [])
tail_split rows row is =
    let split = head_split (reverse rows) row is in
    (reverse split.0, sym (reverse-reverse rows) ∙ (ap reverse split.1 ∙ reverse-append (row ∷ []) split.0))

pub no_tail : (rows : List Row) → None ≡ tail_row rows → rows ≡ []
no_tail rows is = sym (reverse-reverse rows) ∙ ap reverse (empty (reverse rows) is)
  where
    empty : (rows : List Row) → None ≡ head_row rows → rows ≡ []
    empty [] is = refl
    empty (x ∷ rest) is = absurd (none_some is)

-- Where it stood once, the rest is what stood before it.
pub without_tail : (e : ℕ) (front : List Row) (row : Row) → row.element ≡ e → times e (elements_of front) ≡ 0 → without_row e (front ++ row ∷ []) ≡ front
without_tail e front row is none = without_split e front row [] none is refl ∙ append_nil front

pub before_tail : (front : List Row) (row : Row) → times row.element (elements_of (front ++ row ∷ [])) < 2 → times row.element (elements_of front) ≡ 0
before_tail front row once =
    let all : times row.element (elements_of (front ++ row ∷ [])) ≡ times row.element (elements_of front ++ row.element ∷ []) = ap (times row.element) (elements_append front (row ∷ [])) in
    let parts = times_append row.element (elements_of front) (row.element ∷ []) in
    let here = times_cons_same row.element [] in
    omega (arith, once, all, parts, here)

-- what is found behind it
pub found_front : (x h : ℕ) (front : List Row) (row : Row) → times row.element (elements_of front) ≡ 0 → stored_hash x front ≡ Some h → stored_hash x (front ++ row ∷ []) ≡ Some h
found_front x h front row none is = go front is
  where
    step : (b : Bool) (r : Row) (found others : Option Row) → (option_map (λ (z : Row). z.hash) found ≡ Some h → option_map (λ (z : Row). z.hash) others ≡ Some h) → option_map (λ (z : Row). z.hash) (cond b (Some r) found) ≡ Some h → option_map (λ (z : Row). z.hash) (cond b (Some r) others) ≡ Some h
    step true r found others on is = is
    step false r found others on is = on is

    go : (rows : List Row) → stored_hash x rows ≡ Some h → stored_hash x (rows ++ row ∷ []) ≡ Some h
    go [] is = absurd (none_some is)
    go (r ∷ rows) is = step (r.element == x) r (find (λ (z : Row). z.element == x) rows) (find (λ (z : Row). z.element == x) (rows ++ row ∷ [])) (go rows) is

pub found_tail : (front : List Row) (row : Row) → times row.element (elements_of front) ≡ 0 → stored_hash row.element (front ++ row ∷ []) ≡ Some row.hash
found_tail [] row none = by_test row.element row.element (λ b. option_map (λ (r : Row). r.hash) (cond b (Some row) None) ≡ Some row.hash) (λ _. refl) (λ other. absurd (other refl))
found_tail (x ∷ front) row none =
    by_test x.element row.element (λ b. cond b (suc (times row.element (elements_of front))) (times row.element (elements_of front)) ≡ 0 → option_map (λ (r : Row). r.hash) (cond b (Some x) (find (λ (r : Row). r.element == row.element) (front ++ row ∷ []))) ≡ Some row.hash)
    (λ _ is. absurd (omega (arith, is))) (λ _ is. found_tail front row is) none

-- Owners

pub not_free : (owner : Owner) → (owner ≡ owners.Free → ⊥) → is_free owner ≡ false
not_free owners.Free other = absurd (other refl)
not_free (owners.Bucket bucket) other = refl
not_free (owners.Hand cpu) other = refl

-- Notes

pub came_top : (k e : ℕ) (hold : Hold) (outer : List Hold) (n : Notes) (below : List Notes) → k ≡ hold.lock → with_came k e (hold ∷ outer) (n ∷ below) ≡ record n { came = e ∷ n.came } ∷ below
came_top k e hold outer n below is =
    by_test hold.lock k (λ b. cond b (record n { came = e ∷ n.came } ∷ below) (n ∷ with_came k e outer below) ≡ record n { came = e ∷ n.came } ∷ below) (λ _. refl) (λ other. absurd (other (sym is)))

pub off_second : (k e : ℕ) (hold local : Hold) (outer : List Hold) (n m : Notes) (below : List Notes) → k ≢ hold.lock → k ≡ local.lock → with_off k e (hold ∷ local ∷ outer) (n ∷ m ∷ below) ≡ n ∷ record m { off = e ∷ m.off } ∷ below
off_second k e hold local outer n m below other is =
    by_test hold.lock k (λ b. cond b (record n { off = e ∷ n.off } ∷ m ∷ below) (n ∷ with_off k e (local ∷ outer) (m ∷ below)) ≡ n ∷ record m { off = e ∷ m.off } ∷ below)
    (λ same. absurd (other (sym same)))
    (λ _. by_test local.lock k (λ b. n ∷ cond b (record m { off = e ∷ m.off } ∷ below) (m ∷ with_off k e outer below) ≡ n ∷ record m { off = e ∷ m.off } ∷ below) (λ _. refl) (λ no. absurd (no (sym is))))

-- The set with one flush more

kept_row : (b : Bool) (flush : Flush) (front : List Row) → reverse (flushed_rows (cond b (flush ∷ []) [])) ++ front ≡ cond b (flush_row flush ∷ front) front
kept_row true flush front = refl
kept_row false flush front = refl

filter_append : (test : Flush → Bool) (xs ys : List Flush) → filter test (xs ++ ys) ≡ filter test xs ++ filter test ys
filter_append test [] ys = refl
filter_append test (x ∷ xs) ys = step (test x) (filter_append test xs ys)
  where
    step : (b : Bool) → filter test (xs ++ ys) ≡ filter test xs ++ filter test ys → cond b (x ∷ filter test (xs ++ ys)) (filter test (xs ++ ys)) ≡ cond b (x ∷ filter test xs) (filter test xs) ++ filter test ys
    step true is = ap (λ (l : List Flush). x ∷ l) is
    step false is = is

one_more : (test : Flush → Bool) (flushed : List Flush) (flush : Flush) (front : List Row) → reverse (flushed_rows (filter test (flushed ++ flush ∷ []))) ++ front ≡ cond (test flush) (flush_row flush ∷ (reverse (flushed_rows (filter test flushed)) ++ front)) (reverse (flushed_rows (filter test flushed)) ++ front)
one_more test flushed flush front =
    let first : List Row = flushed_rows (filter test flushed) in
    let last : List Row = flushed_rows (filter test (flush ∷ [])) in
    (λ i. reverse ((ap flushed_rows (filter_append test flushed (flush ∷ [])) ∙ map-append flush_row (filter test flushed) (filter test (flush ∷ []))) i) ++ front)
    ∙ (ap (λ (l : List Row). l ++ front) (reverse-append first last)
    ∙ (append_assoc (reverse last) (reverse first) front
    ∙ kept_row (test flush) flush (reverse first ++ front)))

pub flushed_more : (set set_after : SetView) (first : ListSet) (flushed : List Flush) (row : Row) (flush : Flush) → flush_row flush ≡ row → set_told set ≡ with_flushed flushed first → set_after ≡ moved_in row (flushed_to flush.bit) set → set_told set_after ≡ with_flushed (flushed ++ flush ∷ []) first
unfolding with_flushed
flushed_more set set_after first flushed row flush row_is told after =
    ap set_told (after ∙ ap (λ (r : Row). moved_in r (flushed_to flush.bit) set) (sym row_is))
    ∙ (into flush.bit
    ∙ (ap (λ (z : ListSet). record z { lists = record z.lists { active = cond flush.bit (flush_row flush ∷ z.lists.active) z.lists.active; inactive = cond (not flush.bit) (flush_row flush ∷ z.lists.inactive) z.lists.inactive } }) told
    ∙ (λ i. record first {
      lists = record first.lists {
        active = sym (one_more (λ (f : Flush). f.bit) flushed flush first.lists.active) i;
        inactive = sym (one_more (λ (f : Flush). not f.bit) flushed flush first.lists.inactive) i;
      };
    })))
  where
    into : (b : Bool) → set_told (moved_in (flush_row flush) (flushed_to b) set) ≡ record (set_told set) { lists = record (set_told set).lists { active = cond b (flush_row flush ∷ set.active) set.active; inactive = cond (not b) (flush_row flush ∷ set.inactive) set.inactive } }
    into true = refl
    into false = refl
