-- What changed in the turns of locks that are held: how what keeps others from it goes over from one view to the next.
use Rattle.std.proofs.Common.{◌≡◌, ◌⊎◌, inl, inr, ⊎_elim, ℕ, suc, cond, Bool, true, false, List, [], ◌∷◌, sym, refl, ap, ◌∙◌, subst, Option, Some, None}
use Rattle.std.specs.Prelude.{is_some, IsTrue, ◌==◌, nat_lt}
use Rattle.map_types.specs.declared.attr.Shape.{Shape}
use Rattle.map_types.proofs.RowLemmas.{by_test}
use Rattle.place_words.specs.declared.home.Home.{Home}
use Rattle.place_words.specs.declared.home.Home.TheVariants as homes
use Rattle.place_words.specs.declared.owner.Owner.{Owner}
use Rattle.place_words.specs.declared.owner.Owner.TheVariants as owners
use Rattle.place_words.specs.declared.step.Lists.{Lists}
use Rattle.place_words.specs.State.{no_lists}
use Rattle.place_words.specs.Locks.{lock_number}
use Rattle.place_table.specs.declared.view.View.{View}
use Rattle.place_table.specs.declared.view.Hold.{Hold}
use Rattle.place_table.specs.declared.view.Notes.{Notes}
use Rattle.place_table.specs.declared.view.OwnerSeen.{OwnerSeen}
use Rattle.place_table.specs.declared.view.Ticket.{Ticket}
use Rattle.place_table.specs.declared.view.Ticket.TheVariants.{Unread, Drawing, Drawn, Refused}
use Rattle.place_table.specs.Owners.{changed_to, owner_left, first_of, change_in, IsFreeAround, behind_first, undrawn, changing, is_held, IsHomeHere, IsBucketHere, IsKept, IsGuarded, AreGuarded, IsDrawnFor, IsInHandHere, IsBucketLast, IsProtected, owner_before, KnowsOwners}
use Rattle.place_table.specs.TurnNotes.{WasReadInHand}
use Rattle.place_table.specs.Views.{is_among, hold_at, no_notes, holds_below, notes_below, owners_last, found_below}
use Rattle.place_table.proofs.Nesting.{without_lists}
use Rattle.place_table.specs.Words.{ticket_bound}
use Rattle.place_table.proofs.Worlds.{none_some, some_is, true_false, by_bool}

-- Locks that are held, and what keeps others from an element

-- each lock that is held there is held here
abbrev pub AreHeldIn : List Hold → List Hold → Type 0
AreHeldIn holds others = (k : ℕ) → is_held k holds ≡ true → is_held k others ≡ true

pub held_plain : (k : ℕ) (holds : List Hold) → is_held k (without_lists holds) ≡ is_held k holds
unfolding without_lists
held_plain k [] = refl
held_plain k (h ∷ hs) =
    by_test h.lock k (λ b. is_some (cond b (Some record { lock = h.lock; cpu = h.cpu; log = h.log; now = no_lists; lost = h.lost }) (hold_at k (without_lists hs))) ≡ is_some (cond b (Some h) (hold_at k hs)))
    (λ _. refl) (λ _. held_plain k hs)

pub held_same : (holds others : List Hold) → without_lists others ≡ without_lists holds → AreHeldIn holds others
held_same holds others same k held = sym (held_plain k others) ∙ (ap (is_held k) same ∙ (held_plain k holds ∙ held))

pub held_deeper : (h : Hold) (holds : List Hold) → AreHeldIn holds (h ∷ holds)
held_deeper h holds k held = by_test h.lock k (λ b. is_some (cond b (Some h) (hold_at k holds)) ≡ true) (λ _. refl) (λ _. held)

pub held_found : (k : ℕ) (holds : List Hold) (h : Hold) → hold_at k holds ≡ Some h → is_held k holds ≡ true
held_found k holds h found = ap is_some found

pub home_by : (shape : Shape) (cpus : List ℕ) (holds others : List Hold) (home : Home) → AreHeldIn holds others → IsHomeHere shape cpus holds home → IsHomeHere shape cpus others home
home_by shape cpus holds others homes.Unlisted more here = here
home_by shape cpus holds others (homes.In lock) more here = more (lock_number shape lock) here
home_by shape cpus holds others (homes.Hand c) more here = here

pub kept_by : (shape : Shape) (cpus : List ℕ) (holds others : List Hold) (home : Home) (hash : ℕ) (to : Owner) → AreHeldIn holds others → IsKept shape cpus holds home hash to → IsKept shape cpus others home hash to
kept_by shape cpus holds others home hash owners.Free more kept = home_by shape cpus holds others home more kept
kept_by shape cpus holds others home hash (owners.Bucket b) more kept = more _ kept
kept_by shape cpus holds others home hash (owners.Hand c) more kept = (
  kept.0,
  ⊎_elim
      (λ (here : IsHomeHere shape cpus holds home). inl (home_by shape cpus holds others home more here))
      (λ (bucket : IsBucketHere shape holds hash). inr (more _ bucket))
      kept.1,
)

pub guarded_by : (shape : Shape) (owner : ℕ → Owner) (home : ℕ → Home) (hash : ℕ → ℕ) (cpus : List ℕ) (holds others : List Hold) (e : ℕ) (to : Owner) → AreHeldIn holds others → IsGuarded shape owner home hash cpus holds e to → IsGuarded shape owner home hash cpus others e to
guarded_by shape owner home hash cpus holds others e to more is = record { owner_is = is.owner_is; kept = kept_by shape cpus holds others (home e) (hash e) to more is.kept }

-- Notes

-- of notes only what was changed
unfoldable pub only_changes : List Notes → List Notes
only_changes [] = []
only_changes (n ∷ ns) = record no_notes { changed = n.changed } ∷ only_changes ns

pub change_plain : (e : ℕ) (held : List Hold) (notes : List Notes) → change_in e (without_lists held) (only_changes notes) ≡ change_in e held notes
unfolding without_lists only_changes
change_plain e [] notes = refl
change_plain e (h ∷ hs) [] = refl
change_plain e (h ∷ hs) (n ∷ ns) = ap (first_of (changed_to e n.changed)) (change_plain e hs ns)

pub guarded_plain : (shape : Shape) (owner : ℕ → Owner) (home : ℕ → Home) (hash : ℕ → ℕ) (cpus : List ℕ) (held : List Hold) (notes : List Notes) → AreGuarded shape owner home hash cpus held notes → AreGuarded shape owner home hash cpus (without_lists held) (only_changes notes)
unfolding without_lists only_changes
guarded_plain shape owner home hash cpus [] notes are = tt
guarded_plain shape owner home hash cpus (h ∷ hs) [] are = tt
guarded_plain shape owner home hash cpus (h ∷ hs) (n ∷ ns) are = (
  (λ e to changed. guarded_by shape owner home hash cpus (h ∷ hs) (without_lists (h ∷ hs)) e to (λ k held. held_plain k (h ∷ hs) ∙ held) (are.0 e to changed)),
  guarded_plain shape owner home hash cpus hs ns are.1,
)

pub guarded_back : (shape : Shape) (owner : ℕ → Owner) (home : ℕ → Home) (hash : ℕ → ℕ) (cpus : List ℕ) (held : List Hold) (notes : List Notes) → AreGuarded shape owner home hash cpus (without_lists held) (only_changes notes) → AreGuarded shape owner home hash cpus held notes
unfolding without_lists only_changes
guarded_back shape owner home hash cpus [] notes are = tt
guarded_back shape owner home hash cpus (h ∷ hs) [] are = tt
guarded_back shape owner home hash cpus (h ∷ hs) (n ∷ ns) are = (
  (λ e to changed. guarded_by shape owner home hash cpus (without_lists (h ∷ hs)) (h ∷ hs) e to (λ k held. sym (held_plain k (h ∷ hs)) ∙ held) (are.0 e to changed)),
  guarded_back shape owner home hash cpus hs ns are.1,
)

-- what is guarded by each lock from on which it was changed is guarded by other owners, homes and hashes
pub guarded_each : (shape : Shape) (owner owner' : ℕ → Owner) (home home' : ℕ → Home) (hash hash' : ℕ → ℕ) (cpus : List ℕ) (held : List Hold) (notes : List Notes)
    → ((holds : List Hold) (e : ℕ) (to : Owner) → AreHeldIn holds held → IsTrue (is_some (change_in e held notes)) → IsGuarded shape owner home hash cpus holds e to → IsGuarded shape owner' home' hash' cpus holds e to)
    → AreGuarded shape owner home hash cpus held notes → AreGuarded shape owner' home' hash' cpus held notes
guarded_each shape owner owner' home home' hash hash' cpus [] notes f are = tt
guarded_each shape owner owner' home home' hash hash' cpus (h ∷ hs) [] f are = tt
guarded_each shape owner owner' home home' hash hash' cpus (h ∷ hs) (n ∷ ns) f are = (
  (λ e to changed. f (h ∷ hs) e to (λ k held. held) (ap (λ (o : Option Owner). is_some (first_of o (change_in e hs ns))) changed) (are.0 e to changed)),
  guarded_each shape owner owner' home home' hash hash' cpus hs ns (λ holds e to within changed. f holds e to (λ k held. held_deeper h hs k (within k held)) (later (changed_to e n.changed) (change_in e hs ns) changed)) are.1,
)
  where
    later : (a b : Option Owner) → IsTrue (is_some b) → IsTrue (is_some (first_of a b))
    later None b some_there = some_there
    later (Some o) b some_there = refl

-- what was changed has the owner that it got, and is kept by the locks held
pub guarded_at : (shape : Shape) (owner : ℕ → Owner) (home : ℕ → Home) (hash : ℕ → ℕ) (cpus : List ℕ) (held : List Hold) (notes : List Notes) (e : ℕ) (to : Owner) → change_in e held notes ≡ Some to → AreGuarded shape owner home hash cpus held notes → IsGuarded shape owner home hash cpus held e to
guarded_at shape owner home hash cpus [] notes e to changed are = absurd (none_some changed)
guarded_at shape owner home hash cpus (h ∷ hs) [] e to changed are = absurd (none_some changed)
guarded_at shape owner home hash cpus (h ∷ hs) (n ∷ ns) e to changed are = go (λ later. guarded_at shape owner home hash cpus hs ns e to later are.1) (changed_to e n.changed) refl changed
  where
    go : (change_in e hs ns ≡ Some to → IsGuarded shape owner home hash cpus hs e to) → (o : Option Owner) → changed_to e n.changed ≡ o → first_of o (change_in e hs ns) ≡ Some to → IsGuarded shape owner home hash cpus (h ∷ hs) e to
    go deeper None is later = guarded_by shape owner home hash cpus hs (h ∷ hs) e to (held_deeper h hs) (deeper later)
    go deeper (Some o) is same = are.0 e to (is ∙ same)

-- Tickets

pub is_drawn : Ticket → Bool
is_drawn Unread = false
is_drawn Drawing = false
is_drawn (Drawn t) = true
is_drawn Refused = false

pub undrawn_all : {A : Type 0} (t : Ticket) (xs : List A) → is_drawn t ≡ false → undrawn t xs ≡ xs
unfolding is_drawn
undrawn_all Unread xs none = refl
undrawn_all Drawing xs none = refl
undrawn_all (Drawn t) xs none = true_false none
undrawn_all Refused xs none = refl

-- a turn is as far with its ticket as it was, or has drawn none
abbrev pub AreAlike : Ticket → Ticket → Type 0
AreAlike t u = (u ≡ t) ⊎ ((is_drawn t ≡ false) × (is_drawn u ≡ false))

-- the ticket word was read
pub alike_found : (n : ℕ) (t : Ticket) → t ≡ Unread → AreAlike t (found_below n)
unfolding is_drawn
alike_found n t unread = inr (ap is_drawn unread, by_bool (nat_lt n ticket_bound) (λ b. is_drawn (cond b Drawing Refused) ≡ false) (λ _. refl) (λ _. refl))

undrawn_alike : {A : Type 0} (t u : Ticket) (xs : List A) → AreAlike t u → undrawn u xs ≡ undrawn t xs
undrawn_alike {A} t u xs alike = ⊎_elim
    (λ (same : u ≡ t). ap (λ (z : Ticket). undrawn z xs) same)
    (λ (none : (is_drawn t ≡ false) × (is_drawn u ≡ false)). undrawn_all u xs none.1 ∙ sym (undrawn_all t xs none.0))
    alike

undrawn_holds : (t : Ticket) (xs : List Hold) → undrawn t (without_lists xs) ≡ without_lists (undrawn t xs)
unfolding without_lists
undrawn_holds Unread xs = refl
undrawn_holds Drawing xs = refl
undrawn_holds (Drawn t) [] = refl
undrawn_holds (Drawn t) (x ∷ xs) = refl
undrawn_holds Refused xs = refl

undrawn_notes : (t : Ticket) (xs : List Notes) → undrawn t (only_changes xs) ≡ only_changes (undrawn t xs)
unfolding only_changes
undrawn_notes Unread xs = refl
undrawn_notes Drawing xs = refl
undrawn_notes (Drawn t) [] = refl
undrawn_notes (Drawn t) (x ∷ xs) = refl
undrawn_notes Refused xs = refl

pub drawn_none : (canon : ℕ → ℕ → Owner) (t : Ticket) (notes : List Notes) → is_drawn t ≡ false → IsDrawnFor canon t notes
unfolding is_drawn
drawn_none canon Unread notes none = tt
drawn_none canon Drawing notes none = tt
drawn_none canon (Drawn t) notes none = true_false none
drawn_none canon Refused notes none = tt

drawn_plain : (canon : ℕ → ℕ → Owner) (t : Ticket) (notes : List Notes) → IsDrawnFor canon t notes → IsDrawnFor canon t (only_changes notes)
unfolding only_changes
drawn_plain canon Unread notes is = tt
drawn_plain canon Drawing notes is = tt
drawn_plain canon (Drawn t) [] is = tt
drawn_plain canon (Drawn t) (n ∷ ns) is = is
drawn_plain canon Refused notes is = tt

drawn_back : (canon : ℕ → ℕ → Owner) (t : Ticket) (notes : List Notes) → IsDrawnFor canon t (only_changes notes) → IsDrawnFor canon t notes
unfolding only_changes
drawn_back canon Unread notes is = tt
drawn_back canon Drawing notes is = tt
drawn_back canon (Drawn t) [] is = tt
drawn_back canon (Drawn t) (n ∷ ns) is = is
drawn_back canon Refused notes is = tt

pub before_now : (canon : ℕ → ℕ → Owner) (owner : ℕ → Owner) (t : Ticket) (e : ℕ) → is_drawn t ≡ false → owner_before canon owner t e ≡ owner e
unfolding is_drawn
before_now canon owner Unread e none = refl
before_now canon owner Drawing e none = refl
before_now canon owner (Drawn t) e none = true_false none
before_now canon owner Refused e none = refl

-- Views

-- nothing that counts for owners changes
pub record SameOwned (v u : View) : Type 0 where
  pub cpus : u.cpus ≡ v.cpus
  pub held : without_lists u.held ≡ without_lists v.held
  pub changed : only_changes u.notes ≡ only_changes v.notes
  pub read : owners_last u.notes ≡ owners_last v.notes
  pub ticket : AreAlike v.ticket u.ticket

pub change_same : (v u : View) (e : ℕ) → SameOwned v u → change_in e u.held u.notes ≡ change_in e v.held v.notes
change_same v u e same = sym (change_plain e u.held u.notes) ∙ ((λ i. change_in e (same.held i) (same.changed i)) ∙ change_plain e v.held v.notes)

pub changing_alike : (v u : View) (e : ℕ) → without_lists u.held ≡ without_lists v.held → only_changes u.notes ≡ only_changes v.notes → AreAlike v.ticket u.ticket → changing e u ≡ changing e v
changing_alike v u e held changed alike =
    sym (plain u.ticket u.held u.notes) ∙ ((λ i. change_in e (undrawn u.ticket (held i)) (undrawn u.ticket (changed i)))
    ∙ ((λ i. change_in e (undrawn_alike v.ticket u.ticket (without_lists v.held) alike i) (undrawn_alike v.ticket u.ticket (only_changes v.notes) alike i)) ∙ plain v.ticket v.held v.notes))
  where
    plain : (t : Ticket) (held : List Hold) (notes : List Notes) → change_in e (undrawn t (without_lists held)) (undrawn t (only_changes notes)) ≡ change_in e (undrawn t held) (undrawn t notes)
    plain t held notes = (λ i. change_in e (undrawn_holds t held i) (undrawn_notes t notes i)) ∙ change_plain e (undrawn t held) (undrawn t notes)

last_plain : (shape : Shape) (holds : List Hold) → IsBucketLast shape (without_lists holds) ≡ IsBucketLast shape holds
unfolding without_lists
last_plain shape [] = refl
last_plain shape (h ∷ hs) = refl

protected_by : (shape : Shape) (owner : ℕ → Owner) (home : ℕ → Home) (hash : ℕ → ℕ) (v u : View) (e : ℕ) → u.cpus ≡ v.cpus → without_lists u.held ≡ without_lists v.held → IsProtected shape owner home hash u e → IsProtected shape owner home hash v e
protected_by shape owner home hash v u e cpus same is = let held : AreHeldIn u.held v.held = held_same u.held v.held (sym same) in record {
  last = subst (λ (A : Type 0). A) (last_plain shape v.held) (subst (IsBucketLast shape) same (subst (λ (A : Type 0). A) (sym (last_plain shape u.held)) is.last));
  at_home = home_by shape v.cpus u.held v.held (home e) held (subst (λ (l : List ℕ). IsHomeHere shape l u.held (home e)) cpus is.at_home);
  kept = ⊎_elim
      (λ (mine : IsInHandHere u.cpus (owner e)). inl (subst (λ (l : List ℕ). IsInHandHere l (owner e)) cpus mine))
      (λ (bucket : IsBucketHere shape u.held (hash e)). inr (held _ bucket))
      is.kept;
}

pub changing_same : (v u : View) (e : ℕ) → SameOwned v u → changing e u ≡ changing e v
changing_same v u e same = changing_alike v u e same.held same.changed same.ticket

pub knows_same : (shape : Shape) (canon : ℕ → ℕ → Owner) (owner : ℕ → Owner) (home : ℕ → Home) (hash : ℕ → ℕ) (v u : View) → SameOwned v u → KnowsOwners shape canon owner home hash v → KnowsOwners shape canon owner home hash u
knows_same shape canon owner home hash v u same kn = record {
  guarded =
      guarded_back shape owner home hash u.cpus (undrawn u.ticket u.held) (undrawn u.ticket u.notes)
      (subst (λ (z : List Hold × List Notes). AreGuarded shape owner home hash u.cpus z.0 z.1) (λ i. (plain_held i, plain_notes i))
      (subst (λ (l : List ℕ). AreGuarded shape owner home hash l (without_lists (undrawn v.ticket v.held)) (only_changes (undrawn v.ticket v.notes))) (sym same.cpus)
      (guarded_plain shape owner home hash v.cpus (undrawn v.ticket v.held) (undrawn v.ticket v.notes) kn.guarded)));
  drawn = ⊎_elim
      (λ (alike : u.ticket ≡ v.ticket). drawn_back canon u.ticket u.notes (subst (λ (z : Ticket × List Notes). IsDrawnFor canon z.0 z.1) (λ i. (sym alike i, sym same.changed i)) (drawn_plain canon v.ticket v.notes kn.drawn)))
      (λ (none : (is_drawn v.ticket ≡ false) × (is_drawn u.ticket ≡ false)). drawn_none canon u.ticket u.notes none.1)
      same.ticket;
  looked = λ e holder read is. ⊎_elim
      (λ (changed : IsTrue (is_some (change_in e v.held v.notes))). inl (subst (λ (o : Option Owner). IsTrue (is_some o)) (sym (change_same v u e same)) changed))
      (λ (so : owner_before canon owner v.ticket e ≡ owners.Hand holder). inr (before e ∙ so))
      (kn.looked e holder (subst (WasReadInHand e holder) same.read read) (protected_by shape owner home hash v u e same.cpus same.held is));
}
  where
    plain_held : without_lists (undrawn v.ticket v.held) ≡ without_lists (undrawn u.ticket u.held)
    plain_held = sym (undrawn_holds v.ticket v.held) ∙ (sym (undrawn_alike v.ticket u.ticket (without_lists v.held) same.ticket) ∙ (ap (undrawn u.ticket) (sym same.held) ∙ undrawn_holds u.ticket u.held))

    plain_notes : only_changes (undrawn v.ticket v.notes) ≡ only_changes (undrawn u.ticket u.notes)
    plain_notes = sym (undrawn_notes v.ticket v.notes) ∙ (sym (undrawn_alike v.ticket u.ticket (only_changes v.notes) same.ticket) ∙ (ap (undrawn u.ticket) (sym same.changed) ∙ undrawn_notes u.ticket u.notes))

    before : (e : ℕ) → owner_before canon owner u.ticket e ≡ owner_before canon owner v.ticket e
    before e = ⊎_elim
        (λ (alike : u.ticket ≡ v.ticket). ap (λ (z : Ticket). owner_before canon owner z e) alike)
        (λ (none : (is_drawn v.ticket ≡ false) × (is_drawn u.ticket ≡ false)). before_now canon owner u.ticket e none.1 ∙ sym (before_now canon owner v.ticket e none.0))
        same.ticket

-- an element that isn't free was changed in no turn around, where it could have been set free only
pub none_around : (shape : Shape) (owner : ℕ → Owner) (home : ℕ → Home) (hash : ℕ → ℕ) (v : View) (e : ℕ) → AreGuarded shape owner home hash v.cpus (holds_below v.held) (notes_below v.notes) → IsFreeAround v e → (owner e ≡ owners.Free → ⊥) → change_in e (holds_below v.held) (notes_below v.notes) ≡ None
none_around shape owner home hash v e are free not_free = go (change_in e (holds_below v.held) (notes_below v.notes)) refl
  where
    go : (o : Option Owner) → change_in e (holds_below v.held) (notes_below v.notes) ≡ o → o ≡ None
    go None is = refl
    go (Some to) is = absurd (not_free ((guarded_at shape owner home hash v.cpus (holds_below v.held) (notes_below v.notes) e to is are).owner_is ∙ free to is))
