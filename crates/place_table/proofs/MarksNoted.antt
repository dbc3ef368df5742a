-- On a map that doesn't evict an element whose bit is set was marked in a turn under way. How that stays so from step to step.
use Rattle.std.proofs.Common.{◌≡◌, ℕ, suc, ◌<◌, Bool, false, cond, List, [], ◌∷◌, ◌++◌, set, Some, sym, refl, ap, ◌∙◌, subst, arith}
use mathlib.Core.Option.{some, some-injective}
use lib.ListN.{get_elem?}
use Rattle.atomic_table.proofs.Lists.{set_here, set_else, at_longer}
use Rattle.map_types.specs.declared.attr.Shape.{Shape}
use Rattle.map_types.specs.declared.kind.DomainId.TheVariants.{Local, Global, CpuLru, Bucket, Freelist}
use Rattle.map_types.specs.ElementLists.{times, IsIn}
use Rattle.map_types.specs.Kind.{is_lru}
use Rattle.map_types.proofs.RowLemmas.{by_test}
use Rattle.place_words.specs.declared.history.Part.{Part}
use Rattle.place_words.specs.declared.history.Part.TheVariants as parts
use Rattle.place_words.specs.declared.home.Home.{Home}
use Rattle.place_words.specs.declared.home.Home.TheVariants as homes
use Rattle.place_words.specs.declared.list_part.GlobalPart.TheVariants as global
use Rattle.place_words.specs.declared.owner.Owner.{Owner}
use Rattle.place_words.specs.declared.step.Lists.{Lists}
use Rattle.place_words.specs.declared.visits.Flush.{Flush}
use Rattle.place_words.specs.Codes.{home_code}
use Rattle.place_words.specs.Buckets.{bucket_marks}
use Rattle.place_words.specs.Histories.{marks}
use Rattle.place_words.specs.Locks.{lock_number}
use Rattle.place_table.specs.declared.view.Hold.{Hold}
use Rattle.place_table.specs.declared.view.Notes.{Notes}
use Rattle.place_table.specs.declared.view.OwnerSeen.{OwnerSeen}
use Rattle.place_table.specs.declared.view.View.{View}
use Rattle.place_table.specs.declared.view.WordStep.{WordStep}
use Rattle.place_table.specs.Rules.{AreNoted, marks_under, IsMarked}
use Rattle.place_table.specs.TurnNotes.{InnermostFits}
use Rattle.place_table.specs.Views.{hold_at, with_mark, with_clear, with_bit_read, with_owner_read, with_home_read, with_flushed, with_came, with_come_home, with_off, has_left, with_carried_off, left_local, with_left_home, with_now, with_owners_read, owners_last, passed_on, notes_below, held_with, held_without}
use Rattle.place_table.proofs.TicketLemmas.{seat_below}
use Rattle.place_table.proofs.Worlds.{by_bool, none_some}

-- Passes

-- A pass that goes on with its marks, or with more, leaves marked what was.
pub marked_on : (views : List View) (pass : ℕ) (v now : View) → get_elem? views pass ≡ some v → ((x : ℕ) → IsIn x (marks_under v.held v.notes) → IsIn x (marks_under now.held now.notes)) → (e : ℕ) → IsMarked views e → IsMarked (set views pass now) e
marked_on views pass v now at_pass on e m =
    by_test m.pass pass (λ _. IsMarked (set views pass now) e)
    (λ same.
    let is : m.view ≡ v = some-injective m.view v (sym m.seat ∙ (ap (get_elem? views) same ∙ at_pass)) in
    record { pass = pass; view = now; seat = set_here views pass now (seat_below views pass v at_pass); noted = on e (subst (λ (z : View). IsIn e (marks_under z.held z.notes)) is m.noted) })
    (λ other. record { pass = m.pass; view = m.view; seat = set_else views pass m.pass now other ∙ m.seat; noted = m.noted })

-- and so does one that marks the element
pub marked_now : (views : List View) (pass : ℕ) (v now : View) → get_elem? views pass ≡ some v → (e : ℕ) → IsIn e (marks_under now.held now.notes) → IsMarked (set views pass now) e
marked_now views pass v now at_pass e inside = record { pass = pass; view = now; seat = set_here views pass now (seat_below views pass v at_pass); noted = inside }

pub marked_longer : (views more : List View) (e : ℕ) → IsMarked views e → IsMarked (views ++ more) e
marked_longer views more e m = record { pass = m.pass; view = m.view; seat = at_longer views more m.pass m.view m.seat; noted = m.noted }

-- no mark is noted where no lock is held
pub none_marked : (held : List Hold) (notes more : List Notes) → held ≡ [] → (x : ℕ) → IsIn x (marks_under held notes) → IsIn x (marks_under [] more)
none_marked held notes more idle x inside = subst (λ (l : List Hold). IsIn x (marks_under l notes)) idle inside

pub on_same : (before now : List ℕ) → now ≡ before → (x : ℕ) → IsIn x before → IsIn x now
on_same before now same x inside = subst (IsIn x) (sym same) inside

-- Other notes

pub marks_marked : (e : ℕ) (held : List Hold) (notes : List Notes) (x : ℕ) → IsIn x (marks_under held notes) → IsIn x (marks_under held (with_mark e notes))
marks_marked e held [] x inside = inside
marks_marked e [] (n ∷ ns) x inside = inside
marks_marked e (h ∷ hs) (n ∷ ns) x inside =
    by_test e x (λ b. 0 < cond b (suc (times x (n.marks ++ marks_under hs ns))) (times x (n.marks ++ marks_under hs ns))) (λ _. omega arith) (λ _. inside)

-- where a lock is held the mark is noted
pub marks_here : (shape : Shape) (steps : List WordStep) (e k : ℕ) (x : Hold) (held : List Hold) (notes : List Notes) → AreNoted shape steps held notes → hold_at k held ≡ Some x → IsIn e (marks_under held (with_mark e notes))
marks_here shape steps e k x [] notes noted found = absurd (none_some found)
marks_here shape steps e k x (h ∷ hs) [] noted found = absurd noted
marks_here shape steps e k x (h ∷ hs) (n ∷ ns) noted found =
    by_test e e (λ b. 0 < cond b (suc (times e (n.marks ++ marks_under hs ns))) (times e (n.marks ++ marks_under hs ns))) (λ _. omega arith) (λ other. absurd (other refl))

pub marks_cleared : (e : ℕ) (bit : Bool) (held : List Hold) (notes : List Notes) → marks_under held (with_clear e bit notes) ≡ marks_under held notes
marks_cleared e bit held [] = refl
marks_cleared e bit [] (n ∷ ns) = refl
marks_cleared e bit (h ∷ hs) (n ∷ ns) = refl

pub marks_bit_read : (e : ℕ) (bit : Bool) (held : List Hold) (notes : List Notes) → marks_under held (with_bit_read e bit notes) ≡ marks_under held notes
marks_bit_read e bit held [] = refl
marks_bit_read e bit [] (n ∷ ns) = refl
marks_bit_read e bit (h ∷ hs) (n ∷ ns) = refl

pub marks_owner_read : (e : ℕ) (owner : Owner) (held : List Hold) (notes : List Notes) → marks_under held (with_owner_read e owner notes) ≡ marks_under held notes
marks_owner_read e owner held [] = refl
marks_owner_read e owner [] (n ∷ ns) = refl
marks_owner_read e owner (h ∷ hs) (n ∷ ns) = refl

pub marks_home_read : (e : ℕ) (home : Home) (held : List Hold) (notes : List Notes) → marks_under held (with_home_read e home held notes) ≡ marks_under held notes
marks_home_read e home [] notes = refl
marks_home_read e home (h ∷ hs) [] = refl
marks_home_read e home (h ∷ hs) (n ∷ ns) = refl

marks_flushed : (flushed : List Flush) (held : List Hold) (notes : List Notes) → marks_under held (with_flushed flushed notes) ≡ marks_under held notes
marks_flushed flushed held [] = refl
marks_flushed flushed [] (n ∷ ns) = refl
marks_flushed flushed (h ∷ hs) (n ∷ ns) = refl

-- A lock is given back

marks_owners_read : (xs : List OwnerSeen) (held : List Hold) (notes : List Notes) → marks_under held (with_owners_read xs notes) ≡ marks_under held notes
marks_owners_read [] held notes = refl
marks_owners_read (x ∷ xs) held notes = marks_owner_read x.element x.owner held (with_owners_read xs notes) ∙ marks_owners_read xs held notes

marks_passed : (part : Part) (held : List Hold) (notes : List Notes) → marks_under held (passed_on part notes) ≡ marks_under held (notes_below notes)
marks_passed (parts.Bucket part) held notes = marks_owners_read (owners_last notes) held (notes_below notes)
marks_passed (parts.Free part) held notes = refl
marks_passed (parts.Local part) held notes = refl
marks_passed (parts.Global (global.Turn flushed active inactive free shrink)) held notes = marks_flushed flushed held (notes_below notes)
marks_passed (parts.Global (global.Push e)) held notes = refl
marks_passed (parts.Own part) held notes = refl

-- a part marks nothing on a map that doesn't evict
plain_marks : (shape : Shape) (part : Part) → is_lru shape.kind ≡ false → marks shape part ≡ []
plain_marks shape (parts.Bucket part) plain = ap (λ (b : Bool). cond b (bucket_marks part) []) plain
plain_marks shape (parts.Free part) plain = refl
plain_marks shape (parts.Local part) plain = refl
plain_marks shape (parts.Global part) plain = refl
plain_marks shape (parts.Own part) plain = refl

-- so what is marked there when a lock is given back was marked under another one
pub marks_gave : (shape : Shape) (v : View) (h : Hold) (part : Part) (below : List Hold) (notes : List Notes) → is_lru shape.kind ≡ false → InnermostFits shape v h part notes
    → (x : ℕ) → IsIn x (marks_under (h ∷ below) notes) → IsIn x (marks_under below (passed_on part notes))
marks_gave shape v h part below [] plain fits x inside = absurd fits
marks_gave shape v h part below (n ∷ ns) plain fits x inside =
    on_same (marks_under below ns) (marks_under below (passed_on part (n ∷ ns))) (marks_passed part below (n ∷ ns)) x
    (subst (λ (l : List ℕ). IsIn x (l ++ marks_under below ns)) (fits.marks_are ∙ plain_marks shape part plain) inside)

-- Elements

pub marks_now : (k : ℕ) (now : Lists) (held : List Hold) (notes : List Notes) → marks_under (with_now k now held) notes ≡ marks_under held notes
marks_now k now [] notes = refl
marks_now k now (h ∷ hs) [] =
    by_test h.lock k (λ b. marks_under (cond b (record { lock = h.lock; cpu = h.cpu; log = h.log; now = now; lost = h.lost } ∷ hs) (h ∷ with_now k now hs)) [] ≡ []) (λ _. refl) (λ _. refl)
marks_now k now (h ∷ hs) (n ∷ ns) =
    by_test h.lock k (λ b. marks_under (cond b (record { lock = h.lock; cpu = h.cpu; log = h.log; now = now; lost = h.lost } ∷ hs) (h ∷ with_now k now hs)) (n ∷ ns) ≡ marks_under (h ∷ hs) (n ∷ ns))
    (λ _. refl) (λ _. ap (λ (l : List ℕ). n.marks ++ l) (marks_now k now hs ns))

pub marks_came : (k e : ℕ) (held : List Hold) (notes : List Notes) → marks_under held (with_came k e held notes) ≡ marks_under held notes
marks_came k e [] notes = refl
marks_came k e (h ∷ hs) [] = refl
marks_came k e (h ∷ hs) (n ∷ ns) =
    by_test h.lock k (λ b. marks_under (h ∷ hs) (cond b (record n { came = e ∷ n.came } ∷ ns) (n ∷ with_came k e hs ns)) ≡ marks_under (h ∷ hs) (n ∷ ns))
    (λ _. refl) (λ _. ap (λ (l : List ℕ). n.marks ++ l) (marks_came k e hs ns))

pub marks_without : (shape : Shape) (home : Home) (owner : Owner) (e : ℕ) (held : List Hold) (notes : List Notes) → marks_under (held_without shape home owner e held) notes ≡ marks_under held notes
marks_without shape homes.Unlisted owner e held notes = refl
marks_without shape (homes.In lock) owner e held notes = marks_now (lock_number shape lock) _ held notes
marks_without shape (homes.Hand c) owner e held notes = refl

pub marks_with : (shape : Shape) (home : Home) (owner : Owner) (e : ℕ) (held : List Hold) (notes : List Notes) → marks_under (held_with shape home owner e held) notes ≡ marks_under held notes
marks_with shape homes.Unlisted owner e held notes = refl
marks_with shape (homes.In lock) owner e held notes = marks_now (lock_number shape lock) _ held notes
marks_with shape (homes.Hand c) owner e held notes = refl

pub marks_come_home : (shape : Shape) (from to : Home) (e : ℕ) (held : List Hold) (notes : List Notes) → marks_under held (with_come_home shape from to e held notes) ≡ marks_under held notes
marks_come_home shape from homes.Unlisted e held notes = refl
marks_come_home shape from (homes.In lock) e held notes =
    by_test (home_code from) (home_code (homes.In lock)) (λ b. marks_under held (cond b notes (with_came (lock_number shape lock) e held notes)) ≡ marks_under held notes)
    (λ _. refl) (λ _. marks_came (lock_number shape lock) e held notes)
marks_come_home shape from (homes.Hand c) e held notes = refl

marks_off : (k e : ℕ) (held : List Hold) (notes : List Notes) → marks_under held (with_off k e held notes) ≡ marks_under held notes
marks_off k e [] notes = refl
marks_off k e (h ∷ hs) [] = refl
marks_off k e (h ∷ hs) (n ∷ ns) =
    by_test h.lock k (λ b. marks_under (h ∷ hs) (cond b (record n { off = e ∷ n.off } ∷ ns) (n ∷ with_off k e hs ns)) ≡ marks_under (h ∷ hs) (n ∷ ns))
    (λ _. refl) (λ _. ap (λ (l : List ℕ). n.marks ++ l) (marks_off k e hs ns))

marks_carried_off : (shape : Shape) (e : ℕ) (held : List Hold) (notes : List Notes) → marks_under held (with_carried_off shape e held notes) ≡ marks_under held notes
marks_carried_off shape e [] notes = refl
marks_carried_off shape e (h ∷ hs) [] = refl
marks_carried_off shape e (h ∷ hs) (n ∷ ns) =
    by_bool (has_left shape e h n.came) (λ b. (cond b (record n { off = e ∷ n.off }) n).marks ++ marks_under hs (with_carried_off shape e hs ns) ≡ n.marks ++ marks_under hs ns)
    (λ _. ap (λ (l : List ℕ). n.marks ++ l) (marks_carried_off shape e hs ns)) (λ _. ap (λ (l : List ℕ). n.marks ++ l) (marks_carried_off shape e hs ns))

marks_left_local : (shape : Shape) (from : Home) (e : ℕ) (held : List Hold) (notes : List Notes) → marks_under held (left_local shape from e held notes) ≡ marks_under held notes
marks_left_local shape homes.Unlisted e held notes = refl
marks_left_local shape (homes.In (Local c)) e held notes = marks_off (lock_number shape (Local c)) e held notes
marks_left_local shape (homes.In Global) e held notes = refl
marks_left_local shape (homes.In (CpuLru c)) e held notes = refl
marks_left_local shape (homes.In (Bucket b)) e held notes = refl
marks_left_local shape (homes.In (Freelist c)) e held notes = refl
marks_left_local shape (homes.Hand c) e held notes = marks_carried_off shape e held notes

pub marks_left_home : (shape : Shape) (from to : Home) (e : ℕ) (held : List Hold) (notes : List Notes) → marks_under held (with_left_home shape from to e held notes) ≡ marks_under held notes
marks_left_home shape from homes.Unlisted e held notes = refl
marks_left_home shape from (homes.In (Local c)) e held notes = refl
marks_left_home shape from (homes.In Global) e held notes = marks_left_local shape from e held notes
marks_left_home shape from (homes.In (CpuLru c)) e held notes = refl
marks_left_home shape from (homes.In (Bucket b)) e held notes = refl
marks_left_home shape from (homes.In (Freelist c)) e held notes = refl
marks_left_home shape from (homes.Hand c) e held notes = refl
