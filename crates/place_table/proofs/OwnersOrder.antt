-- Owners in the order of tickets: how what the rule says of them goes over from one step to the next.
use Rattle.std.proofs.Common.{◌≡◌, ◌≢◌, ◌⊎◌, inl, inr, ⊎_elim, ℕ, zero, suc, ◌<◌, ◌≤◌, cond, Bool, true, false, List, [], ◌∷◌, ◌++◌, length, set, sym, refl, ap, ◌∙◌, subst, arith, Option, Some, None}
use Rattle.std.specs.Prelude.{is_some, IsTrue, ◌==◌, slice_get}
use mathlib.Core.Option.{some, some-injective, some-ne-none}
use lib.ListN.{get_elem?}
use Rattle.atomic_table.proofs.Lists.{at_set, set_here, set_else}
use Rattle.key_hash.specs.Bucket.{bucket_number}
use Rattle.map_types.specs.declared.attr.Shape.{Shape}
use Rattle.map_types.specs.declared.kind.DomainId.{DomainId}
use Rattle.map_types.specs.declared.kind.DomainId.TheVariants.{Bucket}
use Rattle.map_types.specs.ElementLists.{put}
use Rattle.map_types.proofs.RowLemmas.{by_test}
use Rattle.owner_words.specs.Owners.{OwnersTold, owner_told}
use Rattle.place_words.specs.declared.bucket_part.BucketPart.TheVariants.{Evict}
use Rattle.place_words.specs.declared.bucket_part.Seen.TheVariants.{Held}
use Rattle.place_words.specs.declared.history.Entry.{Entry}
use Rattle.place_words.specs.declared.history.Part.TheVariants as parts
use Rattle.place_words.specs.declared.home.Home.{Home}
use Rattle.place_words.specs.declared.home.Home.TheVariants as homes
use Rattle.place_words.specs.declared.owner.Owner.{Owner}
use Rattle.place_words.specs.declared.owner.Owner.TheVariants as owners
use Rattle.place_words.specs.Locks.{is_lock, lock_named, lock_number}
use Rattle.place_words.specs.OpeningState.{opening}
use Rattle.place_words.proofs.ElementLemmas.{put_here, put_else}
use Rattle.place_words.proofs.LockLemmas.{named_by_number}
use Rattle.place_table.specs.declared.view.View.{View}
use Rattle.place_table.specs.declared.view.Hold.{Hold}
use Rattle.place_table.specs.declared.view.Notes.{Notes}
use Rattle.place_table.specs.declared.view.OwnerSeen.{OwnerSeen}
use Rattle.place_table.specs.declared.view.Ticket.{Ticket}
use Rattle.place_table.specs.declared.view.Ticket.TheVariants.{Unread, Drawing, Drawn, Refused}
use Rattle.place_table.specs.Owners.{changed_to, owner_left, first_of, change_in, IsUnchangedAround, IsFreeAround, undrawn, changing, is_held, IsHomeHere, IsBucketHere, IsKept, IsGuarded, AreGuarded, IsDrawnFor, IsInHandHere, IsBucketLast, IsProtected, owner_before, KnowsOwners, IsUnchanging, Owners}
use Rattle.place_table.specs.Rules.{World, PassKnows}
use Rattle.place_table.specs.TurnNotes.{WasReadInHand}
use Rattle.place_table.specs.declared.view.WordStep.{WordStep}
use Rattle.place_table.specs.Views.{is_among, hold_at, holds_below, notes_below, owners_last, with_changed, with_owner_read, no_notes, ticketed, first_view}
use Rattle.place_table.proofs.Nesting.{without_lists}
use Rattle.place_table.proofs.OwnersKept.{AreHeldIn, held_deeper, home_by, guarded_each, guarded_at, is_drawn, undrawn_all, drawn_none, before_now, SameOwned, changing_same, changing_alike, knows_same, none_around, guarded_plain, guarded_back, only_changes, change_plain}
use Rattle.place_table.proofs.OwnersNoted.{KeepsOwners, owners_last_changed, changes_owner_read}
use Rattle.place_table.proofs.Worlds.{none_some, some_is, true_false, has_mine, hold_of_is}
use Rattle.place_table.proofs.StrandMoves.{at_more}
use Rattle.place_table.proofs.TicketLemmas.{got_either, seat_below}

-- Two passes

-- no CPU is in both passes, and no lock is held by both
pub record AreApart (v u : View) : Type 0 where
  pub cpu : (c : ℕ) → is_among c v.cpus ≡ true → is_among c u.cpus ≡ true → ⊥
  pub lock : (k : ℕ) → is_held k v.held ≡ true → is_held k u.held ≡ true → ⊥

-- these views of others are apart from a pass's
abbrev pub AreOthersApart : List View → ℕ → View → Type 0
AreOthersApart views pass v = (j : ℕ) (u : View) → get_elem? views j ≡ some u → j ≢ pass → AreApart v u

pub apart_there : (shape : Shape) (w : World) (views : List View) (pass : ℕ) (v : View) → ((j : ℕ) (u : View) → get_elem? views j ≡ some u → PassKnows shape w j u) → get_elem? views pass ≡ some v → AreOthersApart views pass v
apart_there shape w views pass v knows at_pass j u at other =
    let kn = knows pass v at_pass in let ku = knows j u at in record {
      cpu = λ c ours theirs. other (sym (has_mine shape w j u c ku theirs) ∙ has_mine shape w pass v c kn ours);
      lock = λ k ours theirs.
          let a = there k (hold_at k v.held) refl ours in
          let b = there k (hold_at k u.held) refl theirs in
          let x = hold_of_is w.pass_of_cpu pass k (w.core.holder k) (w.log k) (w.core.lists k) (w.lost k) a.0 (sym (kn.held k) ∙ a.1) in
          let y = hold_of_is w.pass_of_cpu j k (w.core.holder k) (w.log k) (w.core.lists k) (w.lost k) b.0 (sym (ku.held k) ∙ b.1) in
          other (sym y.mine ∙ (ap w.pass_of_cpu (some_is (sym y.holder_is ∙ x.holder_is)) ∙ x.mine));
    }
  where
    there : (k : ℕ) {x : Option Hold} (o : Option Hold) → x ≡ o → is_some x ≡ true → (h : Hold) × (x ≡ Some h)
    there k {x} None is some_there = true_false (sym some_there ∙ ap is_some is)
    there k {x} (Some h) is some_there = (h, is)

pub home_apart : (shape : Shape) (v u : View) (home : Home) → AreApart v u → IsHomeHere shape v.cpus v.held home → IsHomeHere shape u.cpus u.held home → ⊥
home_apart shape v u homes.Unlisted apart ours theirs = ours
home_apart shape v u (homes.In lock) apart ours theirs = apart.lock (lock_number shape lock) ours theirs
home_apart shape v u (homes.Hand c) apart ours theirs = apart.cpu c ours theirs

undrawn_within : (t : Ticket) (holds : List Hold) → AreHeldIn (undrawn t holds) holds
undrawn_within Unread holds k held = held
undrawn_within Drawing holds k held = held
undrawn_within (Drawn t) [] k held = held
undrawn_within (Drawn t) (h ∷ hs) k held = held_deeper h hs k held
undrawn_within Refused holds k held = held

-- A pass has an element with this owner: no other pass has what would keep the element from it.
abbrev pub IsHad : Shape → View → Home → Owner → Type 0
IsHad shape v home owners.Free = IsHomeHere shape v.cpus v.held home
IsHad shape v home (owners.Bucket b) = is_held (lock_number shape (Bucket b)) v.held ≡ true
IsHad shape v home (owners.Hand c) = is_among c v.cpus ≡ true

not_guarded : (shape : Shape) (owner : ℕ → Owner) (home : ℕ → Home) (hash : ℕ → ℕ) (v u : View) (holds : List Hold) (e : ℕ) (to : Owner) → AreApart v u → AreHeldIn holds u.held → IsHad shape v (home e) (owner e) → IsGuarded shape owner home hash u.cpus holds e to → ⊥
not_guarded shape owner home hash v u holds e to apart within had is = go to (subst (IsHad shape v (home e)) is.owner_is had) is.kept
  where
    go : (to : Owner) → IsHad shape v (home e) to → IsKept shape u.cpus holds (home e) (hash e) to → ⊥
    go owners.Free had kept = home_apart shape v u (home e) apart had (home_by shape u.cpus holds u.held (home e) within kept)
    go (owners.Bucket b) had kept = apart.lock _ had (within _ kept)
    go (owners.Hand c) had kept = apart.cpu c had kept.0

-- Steps

changing_unread : (v : View) (e : ℕ) → v.ticket ≡ Unread → changing e v ≡ change_in e v.held v.notes
changing_unread v e unread = λ i. change_in e (undrawn (unread i) v.held) (undrawn (unread i) v.notes)

-- One pass has another view: what the step shows of the pass, and of the others, is enough.
pub owners_moved : (shape : Shape) (word : ℕ) (owner owner' : ℕ → Owner) (home home' : ℕ → Home) (hash hash' : ℕ → ℕ) (log : ℕ → List Entry) (views : List View) (pass : ℕ) (v nv : View) → get_elem? views pass ≡ some v
    → ((e : ℕ) → changing e nv ≡ None → (changing e v ≡ None) × (owner' e ≡ owner e))
    → ((canon : ℕ → ℕ → Owner) → KnowsOwners shape canon owner home hash v → KnowsOwners shape canon owner' home' hash' nv)
    → ((canon : ℕ → ℕ → Owner) (j : ℕ) (u : View) → get_elem? views j ≡ some u → j ≢ pass → KnowsOwners shape canon owner home hash u → KnowsOwners shape canon owner' home' hash' u)
    → Owners shape word owner home hash log views → Owners shape word owner' home' hash' log (set views pass nv)
owners_moved shape word owner owner' home home' hash hash' log views pass v nv at_pass still own others o = record {
  told = o.told;
  now = λ e none.
      let step = still e (none pass nv (set_here views pass nv (seat_below views pass v at_pass))) in
      o.now e (λ j u at. by_test j pass (λ _. changing e u ≡ None)
      (λ same. ap (changing e) (some-injective u v (sym at ∙ (ap (get_elem? views) same ∙ at_pass))) ∙ step.0)
      (λ other. none j u (set_else views pass j nv other ∙ at))) ∙ sym step.1;
  known = λ j u at. ⊎_elim
      (λ t. subst (KnowsOwners shape o.told.owner owner' home' hash') t.1 (own o.told.owner (o.known pass v at_pass)))
      (λ t. others o.told.owner j u t.1 t.0 (o.known j u t.1))
      (at_set views pass j nv u at);
}

-- nothing that counts for owners changes
pub owners_stay : (shape : Shape) (word : ℕ) (owner : ℕ → Owner) (home : ℕ → Home) (hash : ℕ → ℕ) (log : ℕ → List Entry) (views : List View) (pass : ℕ) (v nv : View) → get_elem? views pass ≡ some v → SameOwned v nv
    → Owners shape word owner home hash log views → Owners shape word owner home hash log (set views pass nv)
owners_stay shape word owner home hash log views pass v nv at_pass same =
    owners_moved shape word owner owner home home hash hash log views pass v nv at_pass (λ e none. (sym (changing_same v nv e same) ∙ none, refl))
    (λ canon. knows_same shape canon owner home hash v nv same) (λ _ _ _ _ _ kn. kn)

-- A pass makes other notes, with which it knows the same of owners.
pub record KeepsKnown (shape : Shape) (owner : ℕ → Owner) (home : ℕ → Home) (hash : ℕ → ℕ) (v : View) (notes : List Notes) : Type 0 where
  pub changed : only_changes notes ≡ only_changes v.notes
  pub known : (canon : ℕ → ℕ → Owner) → KnowsOwners shape canon owner home hash v → KnowsOwners shape canon owner home hash (record v { notes = notes })

pub keeps_known : (shape : Shape) (owner : ℕ → Owner) (home : ℕ → Home) (hash : ℕ → ℕ) (v : View) (notes : List Notes) → KeepsOwners v.notes notes → KeepsKnown shape owner home hash v notes
keeps_known shape owner home hash v notes kept = record {
  changed = kept.0;
  known = λ canon. knows_same shape canon owner home hash v (record v { notes = notes }) record { cpus = refl; held = refl; changed = kept.0; read = kept.1; ticket = inl refl };
}

pub owners_noted : (shape : Shape) (word : ℕ) (owner : ℕ → Owner) (home : ℕ → Home) (hash : ℕ → ℕ) (log : ℕ → List Entry) (views : List View) (pass : ℕ) (v nv : View) (notes : List Notes) → get_elem? views pass ≡ some v → KeepsKnown shape owner home hash v notes → SameOwned (record v { notes = notes }) nv
    → Owners shape word owner home hash log views → Owners shape word owner home hash log (set views pass nv)
owners_noted shape word owner home hash log views pass v nv notes at_pass keeps same =
    owners_moved shape word owner owner home home hash hash log views pass v nv at_pass
    (λ e none. (sym (changing_same (record v { notes = notes }) nv e same ∙ changing_alike v (record v { notes = notes }) e refl keeps.changed (inl refl)) ∙ none, refl))
    (λ canon kn. knows_same shape canon owner home hash (record v { notes = notes }) nv same (keeps.known canon kn)) (λ _ _ _ _ _ kn. kn)

-- a lock is taken
pub owners_taken : (shape : Shape) (word : ℕ) (owner : ℕ → Owner) (home : ℕ → Home) (hash : ℕ → ℕ) (log : ℕ → List Entry) (views : List View) (pass : ℕ) (v nv : View) (h : Hold) → get_elem? views pass ≡ some v
    → v.ticket ≡ Unread → nv.ticket ≡ Unread → nv.cpus ≡ v.cpus → nv.held ≡ h ∷ v.held → nv.notes ≡ no_notes ∷ v.notes
    → Owners shape word owner home hash log views → Owners shape word owner home hash log (set views pass nv)
owners_taken shape word owner home hash log views pass v nv h at_pass unread unread_then cpus held notes =
    owners_moved shape word owner owner home home hash hash log views pass v nv at_pass
    (λ e none. (changing_unread v e unread ∙ ((λ i. change_in e (sym held i) (sym notes i)) ∙ (sym (changing_unread nv e unread_then) ∙ none)), refl))
    (λ canon kn. record {
      guarded = subst (λ (z : (List ℕ × Ticket) × (List Hold × List Notes)). AreGuarded shape owner home hash z.0.0 (undrawn z.0.1 z.1.0) (undrawn z.0.1 z.1.1)) (λ i. ((sym cpus i, sym unread_then i), (sym held i, sym notes i)))
          ((λ e to changed. absurd (none_some changed)), subst (λ (t : Ticket). AreGuarded shape owner home hash v.cpus (undrawn t v.held) (undrawn t v.notes)) unread kn.guarded);
      drawn = subst (λ (t : Ticket). IsDrawnFor canon t nv.notes) (sym unread_then) tt;
      looked = λ e holder read _. absurd (subst (λ (l : List Notes). WasReadInHand e holder (owners_last l)) notes read);
    })
    (λ _ _ _ _ _ kn. kn)

-- An element gets another owner

-- A pass may change the owner of an element, and keeps others from it then.
pub record MayChange (shape : Shape) (owner : ℕ → Owner) (home : ℕ → Home) (hash : ℕ → ℕ) (v : View) (e : ℕ) (to : Owner) : Type 0 where
  pub had : IsHad shape v (home e) (owner e)
  pub shut : IsHomeHere shape v.cpus v.held (home e) ⊎ IsBucketHere shape v.held (hash e)
  pub kept : IsKept shape v.cpus v.held (home e) (hash e) to
  pub unread : v.ticket ≡ Unread
  pub around : IsUnchangedAround v e ⊎ (IsFreeAround v e × (owner e ≡ owners.Free → ⊥))
  pub hold : Hold
  pub below : List Hold
  pub held_are : v.held ≡ hold ∷ below
  pub notes : Notes
  pub others : List Notes
  pub notes_are : v.notes ≡ notes ∷ others

-- the view with that noted
abbrev pub changed_view : ℕ → Owner → View → View
changed_view e to v = record v { notes = with_changed e to v.notes }

module _ (shape : Shape) (canon : ℕ → ℕ → Owner) (owner : ℕ → Owner) (home : ℕ → Home) (hash : ℕ → ℕ) (v : View) (e : ℕ) (to : Owner) (may : MayChange shape owner home hash v e to) where
  -- what another pass knows
  not_protected : (u : View) → AreApart v u → IsProtected shape (put owner e to) home hash u e → ⊥
  not_protected u apart is = ⊎_elim
      (λ (here : IsHomeHere shape v.cpus v.held (home e)). home_apart shape v u (home e) apart here is.at_home)
      (λ (bucket : IsBucketHere shape v.held (hash e)). ⊎_elim
      (λ (mine : IsInHandHere u.cpus (put owner e to e)). in_no_hand to may.kept (subst (IsInHandHere u.cpus) (put_here owner e to) mine))
      (λ (theirs : IsBucketHere shape u.held (hash e)). apart.lock _ bucket theirs)
      is.kept)
      may.shut
    where
      in_no_hand : (to : Owner) → IsKept shape v.cpus v.held (home e) (hash e) to → IsInHandHere u.cpus to → ⊥
      in_no_hand owners.Free kept mine = mine
      in_no_hand (owners.Bucket b) kept mine = mine
      in_no_hand (owners.Hand c) kept mine = apart.cpu c kept.0 mine

  before_put : (t : Ticket) (x : ℕ) → x ≢ e → owner_before canon (put owner e to) t x ≡ owner_before canon owner t x
  before_put Unread x other = put_else owner e to x other
  before_put Drawing x other = put_else owner e to x other
  before_put (Drawn t) x other = refl
  before_put Refused x other = put_else owner e to x other

  guarded_else : (cpus : List ℕ) (holds : List Hold) (x : ℕ) (t : Owner) → x ≢ e → IsGuarded shape owner home hash cpus holds x t → IsGuarded shape (put owner e to) home hash cpus holds x t
  guarded_else cpus holds x t other is = record { owner_is = put_else owner e to x other ∙ is.owner_is; kept = is.kept }

  protected_else : (u : View) (x : ℕ) → x ≢ e → IsProtected shape (put owner e to) home hash u x → IsProtected shape owner home hash u x
  protected_else u x other is = record { last = is.last; at_home = is.at_home; kept = subst (λ (o : Owner). IsInHandHere u.cpus o ⊎ IsBucketHere shape u.held (hash x)) (put_else owner e to x other) is.kept }

  knows_apart : (u : View) → AreApart v u → KnowsOwners shape canon owner home hash u → KnowsOwners shape canon (put owner e to) home hash u
  knows_apart u apart kn = record {
    guarded = guarded_each shape owner (put owner e to) home home hash hash u.cpus (undrawn u.ticket u.held) (undrawn u.ticket u.notes)
        (λ holds x t within _ is. by_test x e (λ _. IsGuarded shape (put owner e to) home hash u.cpus holds x t)
        (λ same. absurd (not_guarded shape owner home hash v u holds e t apart (λ k held. undrawn_within u.ticket u.held k (within k held)) may.had (subst (λ (y : ℕ). IsGuarded shape owner home hash u.cpus holds y t) same is)))
        (λ other. guarded_else u.cpus holds x t other is))
        kn.guarded;
    drawn = kn.drawn;
    looked = λ x holder read is. by_test x e (λ _. IsTrue (is_some (change_in x u.held u.notes)) ⊎ (owner_before canon (put owner e to) u.ticket x ≡ owners.Hand holder))
        (λ same. absurd (not_protected u apart (subst (IsProtected shape (put owner e to) home hash u) same is)))
        (λ other. ⊎_elim
        (λ (changed : IsTrue (is_some (change_in x u.held u.notes))). inl changed)
        (λ (so : owner_before canon owner u.ticket x ≡ owners.Hand holder). inr (before_put u.ticket x other ∙ so))
        (kn.looked x holder read (protected_else u x other is)));
  }

  -- what the pass itself knows
  change_here : (h : Hold) (hs : List Hold) (n : Notes) (ns : List Notes) → change_in e (h ∷ hs) (with_changed e to (n ∷ ns)) ≡ Some to
  change_here h hs n ns = by_test e e (λ b. first_of (cond b (Some to) (changed_to e n.changed)) (change_in e hs ns) ≡ Some to) (λ _. refl) (λ ne. absurd (ne refl))

  change_else : (x : ℕ) (h : Hold) (hs : List Hold) (n : Notes) (ns : List Notes) → x ≢ e → change_in x (h ∷ hs) (with_changed e to (n ∷ ns)) ≡ change_in x (h ∷ hs) (n ∷ ns)
  change_else x h hs n ns other =
      by_test e x (λ b. first_of (cond b (Some to) (changed_to x n.changed)) (change_in x hs ns) ≡ first_of (changed_to x n.changed) (change_in x hs ns)) (λ same. absurd (other (sym same))) (λ _. refl)

  change_there : change_in e v.held (with_changed e to v.notes) ≡ Some to
  change_there = (λ i. change_in e (may.held_are i) (with_changed e to (may.notes_are i))) ∙ change_here may.hold may.below may.notes may.others

  change_stays : (x : ℕ) → x ≢ e → change_in x v.held (with_changed e to v.notes) ≡ change_in x v.held v.notes
  change_stays x other =
      (λ i. change_in x (may.held_are i) (with_changed e to (may.notes_are i))) ∙ (change_else x may.hold may.below may.notes may.others other ∙ (λ i. change_in x (sym may.held_are i) (sym may.notes_are i)))

  guarded_first : (h : Hold) (hs : List Hold) (n : Notes) (ns : List Notes) → IsKept shape v.cpus (h ∷ hs) (home e) (hash e) to → change_in e hs ns ≡ None
      → AreGuarded shape owner home hash v.cpus (h ∷ hs) (n ∷ ns) → AreGuarded shape (put owner e to) home hash v.cpus (h ∷ hs) (with_changed e to (n ∷ ns))
  guarded_first h hs n ns kept none are = (
    (λ x t changed. by_test e x (λ b. cond b (Some to) (changed_to x n.changed) ≡ Some t → IsGuarded shape (put owner e to) home hash v.cpus (h ∷ hs) x t)
        (λ same is. subst (λ (z : ℕ × Owner). IsGuarded shape (put owner e to) home hash v.cpus (h ∷ hs) z.0 z.1) (λ i. (same i, some_is is i)) record { owner_is = put_here owner e to; kept = kept })
        (λ other later. guarded_else v.cpus (h ∷ hs) x t (λ y. other (sym y)) (are.0 x t later))
        changed),
    guarded_each shape owner (put owner e to) home home hash hash v.cpus hs ns
        (λ holds x t _ some_there is. by_test x e (λ _. IsGuarded shape (put owner e to) home hash v.cpus holds x t)
        (λ same. true_false (sym some_there ∙ (ap (λ (y : ℕ). is_some (change_in y hs ns)) same ∙ ap is_some none)))
        (λ other. guarded_else v.cpus holds x t other is))
        are.1,
  )

  knows_changed : KnowsOwners shape canon owner home hash v → KnowsOwners shape canon (put owner e to) home hash (changed_view e to v)
  knows_changed kn =
      let are : AreGuarded shape owner home hash v.cpus (may.hold ∷ may.below) (may.notes ∷ may.others) =
      subst (λ (z : Ticket × (List Hold × List Notes)). AreGuarded shape owner home hash v.cpus (undrawn z.0 z.1.0) (undrawn z.0 z.1.1)) (λ i. (may.unread i, (may.held_are i, may.notes_are i))) kn.guarded in
      let tail : AreGuarded shape owner home hash v.cpus (holds_below v.held) (notes_below v.notes) =
      subst (λ (z : List Hold × List Notes). AreGuarded shape owner home hash v.cpus (holds_below z.0) (notes_below z.1)) (λ i. (sym may.held_are i, sym may.notes_are i)) are.1 in
      let none : change_in e may.below may.others ≡ None =
      (λ i. change_in e (holds_below (sym may.held_are i)) (notes_below (sym may.notes_are i))) ∙ ⊎_elim
      (λ (un : IsUnchangedAround v e). un)
      (λ (free : IsFreeAround v e × (owner e ≡ owners.Free → ⊥)). none_around shape owner home hash v e tail free.0 free.1)
      may.around in
      let kept : IsKept shape v.cpus (may.hold ∷ may.below) (home e) (hash e) to = subst (λ (l : List Hold). IsKept shape v.cpus l (home e) (hash e) to) may.held_are may.kept in record {
        guarded = subst (λ (z : Ticket × (List Hold × List Notes)). AreGuarded shape (put owner e to) home hash v.cpus (undrawn z.0 z.1.0) (undrawn z.0 (with_changed e to z.1.1))) (λ i. (sym may.unread i, (sym may.held_are i, sym may.notes_are i)))
            (guarded_first may.hold may.below may.notes may.others kept none are);
        drawn = subst (λ (t : Ticket). IsDrawnFor canon t (with_changed e to v.notes)) (sym may.unread) tt;
        looked = λ x holder read is. by_test x e (λ _. IsTrue (is_some (change_in x v.held (with_changed e to v.notes))) ⊎ (owner_before canon (put owner e to) v.ticket x ≡ owners.Hand holder))
            (λ same. inl (ap (λ (y : ℕ). is_some (change_in y v.held (with_changed e to v.notes))) same ∙ ap is_some change_there))
            (λ other. ⊎_elim
            (λ (changed : IsTrue (is_some (change_in x v.held v.notes))). inl (ap is_some (change_stays x other) ∙ changed))
            (λ (so : owner_before canon owner v.ticket x ≡ owners.Hand holder). inr (before_put v.ticket x other ∙ so))
            (kn.looked x holder (subst (WasReadInHand x holder) (owners_last_changed e to v.notes) read) (protected_else v x other record { last = is.last; at_home = is.at_home; kept = is.kept })));
      }

  still_changed : (x : ℕ) → changing x (changed_view e to v) ≡ None → (changing x v ≡ None) × (put owner e to x ≡ owner x)
  still_changed x none =
      let as_read : change_in x v.held (with_changed e to v.notes) ≡ None = sym (changing_unread (changed_view e to v) x may.unread) ∙ none in
      by_test x e (λ _. (changing x v ≡ None) × (put owner e to x ≡ owner x))
      (λ same. absurd (none_some (sym as_read ∙ (ap (λ (y : ℕ). change_in y v.held (with_changed e to v.notes)) same ∙ change_there))))
      (λ other. (changing_unread v x may.unread ∙ (sym (change_stays x other) ∙ as_read), put_else owner e to x other))

pub owners_changed : (shape : Shape) (word : ℕ) (owner : ℕ → Owner) (home : ℕ → Home) (hash : ℕ → ℕ) (log : ℕ → List Entry) (views : List View) (pass : ℕ) (v nv : View) (e : ℕ) (to : Owner) → get_elem? views pass ≡ some v → AreOthersApart views pass v
    → MayChange shape owner home hash v e to → SameOwned (changed_view e to v) nv
    → Owners shape word owner home hash log views → Owners shape word (put owner e to) home hash log (set views pass nv)
owners_changed shape word owner home hash log views pass v nv e to at_pass apart may same =
    owners_moved shape word owner (put owner e to) home home hash hash log views pass v nv at_pass
    (λ x none. still_changed shape (λ _. owner) owner home hash v e to may x (sym (changing_same (changed_view e to v) nv x same) ∙ none))
    (λ canon kn. knows_same shape canon (put owner e to) home hash (changed_view e to v) nv same (knows_changed shape canon owner home hash v e to may kn))
    (λ canon j u at other. knows_apart shape canon owner home hash v e to may u (apart j u at other))

-- An element goes to another home

module _ (shape : Shape) (canon : ℕ → ℕ → Owner) (owner : ℕ → Owner) (home : ℕ → Home) (hash : ℕ → ℕ) (v : View) (e : ℕ) (to : Home) (from_here : IsHomeHere shape v.cpus v.held (home e)) (to_here : IsHomeHere shape v.cpus v.held to) where
  kept_else : (cpus : List ℕ) (holds : List Hold) (x : ℕ) (t : Owner) → x ≢ e → IsGuarded shape owner home hash cpus holds x t → IsGuarded shape owner (put home e to) hash cpus holds x t
  kept_else cpus holds x t other is = record { owner_is = is.owner_is; kept = subst (λ (h : Home). IsKept shape cpus holds h (hash x) t) (sym (put_else home e to x other)) is.kept }

  protected_home : (u : View) (x : ℕ) → x ≢ e → IsProtected shape owner (put home e to) hash u x → IsProtected shape owner home hash u x
  protected_home u x other is = record { last = is.last; at_home = subst (IsHomeHere shape u.cpus u.held) (put_else home e to x other) is.at_home; kept = is.kept }

  knows_home_apart : (u : View) → AreApart v u → KnowsOwners shape canon owner home hash u → KnowsOwners shape canon owner (put home e to) hash u
  knows_home_apart u apart kn = record {
    guarded = guarded_each shape owner owner home (put home e to) hash hash u.cpus (undrawn u.ticket u.held) (undrawn u.ticket u.notes)
        (λ holds x t within _ is. by_test x e (λ _. IsGuarded shape owner (put home e to) hash u.cpus holds x t)
        (λ same. subst (λ (y : ℕ). IsGuarded shape owner (put home e to) hash u.cpus holds y t) (sym same) (moves holds t (λ k held. undrawn_within u.ticket u.held k (within k held)) (subst (λ (y : ℕ). IsGuarded shape owner home hash u.cpus holds y t) same is)))
        (λ other. kept_else u.cpus holds x t other is))
        kn.guarded;
    drawn = kn.drawn;
    looked = λ x holder read is. by_test x e (λ _. IsTrue (is_some (change_in x u.held u.notes)) ⊎ (owner_before canon owner u.ticket x ≡ owners.Hand holder))
        (λ same. absurd (home_apart shape v u to apart to_here (subst (IsHomeHere shape u.cpus u.held) (ap (put home e to) same ∙ put_here home e to) is.at_home)))
        (λ other. kn.looked x holder read (protected_home u x other is));
  }
    where
      go : (holds : List Hold) (t : Owner) → AreHeldIn holds u.held → IsKept shape u.cpus holds (home e) (hash e) t → IsKept shape u.cpus holds (put home e to e) (hash e) t
      go holds owners.Free within kept = absurd (home_apart shape v u (home e) apart from_here (home_by shape u.cpus holds u.held (home e) within kept))
      go holds (owners.Bucket b) within kept = kept
      go holds (owners.Hand c) within kept = (
        kept.0,
        ⊎_elim
            (λ (here : IsHomeHere shape u.cpus holds (home e)). absurd (home_apart shape v u (home e) apart from_here (home_by shape u.cpus holds u.held (home e) within here)))
            (λ (bucket : IsBucketHere shape holds (hash e)). inr bucket)
            kept.1,
      )

      moves : (holds : List Hold) (t : Owner) → AreHeldIn holds u.held → IsGuarded shape owner home hash u.cpus holds e t → IsGuarded shape owner (put home e to) hash u.cpus holds e t
      moves holds t within is = record { owner_is = is.owner_is; kept = go holds t within is.kept }

  goes_home : (holds : List Hold) (h : Home) → IsHomeHere shape v.cpus holds h → (x : ℕ) (t : Owner) → IsKept shape v.cpus holds (home x) (hash x) t → IsKept shape v.cpus holds h (hash x) t
  goes_home holds h here x owners.Free kept = here
  goes_home holds h here x (owners.Bucket b) kept = kept
  goes_home holds h here x (owners.Hand c) kept = (kept.0, inl here)

  guarded_rehomed : (held : List Hold) (notes : List Notes) → IsHomeHere shape v.cpus held to → change_in e (holds_below held) (notes_below notes) ≡ None → AreGuarded shape owner home hash v.cpus held notes → AreGuarded shape owner (put home e to) hash v.cpus held notes
  guarded_rehomed [] notes here none are = tt
  guarded_rehomed (h ∷ hs) [] here none are = tt
  guarded_rehomed (h ∷ hs) (n ∷ ns) here none are = (
    (λ x t changed. let was = are.0 x t changed in record {
      owner_is = was.owner_is;
      kept = by_test x e (λ _. IsKept shape v.cpus (h ∷ hs) (put home e to x) (hash x) t)
          (λ same. goes_home (h ∷ hs) (put home e to x) (subst (IsHomeHere shape v.cpus (h ∷ hs)) (sym (ap (put home e to) same ∙ put_here home e to)) here) x t was.kept)
          (λ other. subst (λ (z : Home). IsKept shape v.cpus (h ∷ hs) z (hash x) t) (sym (put_else home e to x other)) was.kept);
    }),
    guarded_each shape owner owner home (put home e to) hash hash v.cpus hs ns
        (λ holds x t _ some_there is. by_test x e (λ _. IsGuarded shape owner (put home e to) hash v.cpus holds x t)
        (λ same. true_false (sym some_there ∙ (ap (λ (y : ℕ). is_some (change_in y hs ns)) same ∙ ap is_some none)))
        (λ other. kept_else v.cpus holds x t other is))
        are.1,
  )

  knows_rehomed : v.ticket ≡ Unread → IsUnchangedAround v e → KnowsOwners shape canon owner home hash v → KnowsOwners shape canon owner (put home e to) hash v
  knows_rehomed unread around kn = record {
    guarded = subst (λ (t : Ticket). AreGuarded shape owner (put home e to) hash v.cpus (undrawn t v.held) (undrawn t v.notes)) (sym unread)
        (guarded_rehomed v.held v.notes to_here around (subst (λ (t : Ticket). AreGuarded shape owner home hash v.cpus (undrawn t v.held) (undrawn t v.notes)) unread kn.guarded));
    drawn = kn.drawn;
    looked = λ x holder read is. by_test x e (λ _. IsTrue (is_some (change_in x v.held v.notes)) ⊎ (owner_before canon owner v.ticket x ≡ owners.Hand holder))
        (λ same. kn.looked x holder read record { last = is.last; at_home = subst (λ (y : ℕ). IsHomeHere shape v.cpus v.held (home y)) (sym same) from_here; kept = is.kept })
        (λ other. kn.looked x holder read (protected_home v x other is));
  }

pub owners_rehomed : (shape : Shape) (word : ℕ) (owner : ℕ → Owner) (home : ℕ → Home) (hash : ℕ → ℕ) (log : ℕ → List Entry) (views : List View) (pass : ℕ) (v nv : View) (e : ℕ) (to : Home) → get_elem? views pass ≡ some v → AreOthersApart views pass v
    → IsHomeHere shape v.cpus v.held (home e) → IsHomeHere shape v.cpus v.held to → v.ticket ≡ Unread → IsUnchangedAround v e → SameOwned v nv
    → Owners shape word owner home hash log views → Owners shape word owner (put home e to) hash log (set views pass nv)
owners_rehomed shape word owner home hash log views pass v nv e to at_pass apart from_here to_here unread around same =
    owners_moved shape word owner owner home (put home e to) hash hash log views pass v nv at_pass (λ x none. (sym (changing_same v nv x same) ∙ none, refl))
    (λ canon kn. knows_same shape canon owner (put home e to) hash v nv same (knows_rehomed shape canon owner home hash v e to from_here to_here unread around kn))
    (λ canon j u at other. knows_home_apart shape canon owner home hash v e to from_here to_here u (apart j u at other))

-- An owner is read

change_read : (e x : ℕ) (owner : Owner) (held : List Hold) (notes : List Notes) → change_in x held (with_owner_read e owner notes) ≡ change_in x held notes
change_read e x owner [] notes = refl
change_read e x owner (h ∷ hs) [] = refl
change_read e x owner (h ∷ hs) (n ∷ ns) = refl

guarded_read : (shape : Shape) (owner : ℕ → Owner) (home : ℕ → Home) (hash : ℕ → ℕ) (cpus : List ℕ) (e : ℕ) (read : Owner) (held : List Hold) (notes : List Notes) → AreGuarded shape owner home hash cpus held notes → AreGuarded shape owner home hash cpus held (with_owner_read e read notes)
guarded_read shape owner home hash cpus e read [] notes are = tt
guarded_read shape owner home hash cpus e read (h ∷ hs) [] are = tt
guarded_read shape owner home hash cpus e read (h ∷ hs) (n ∷ ns) are = are

read_either : (e x holder : ℕ) (read : Owner) (notes : List Notes) → WasReadInHand x holder (owners_last (with_owner_read e read notes)) → WasReadInHand x holder (owners_last notes) ⊎ ((e ≡ x) × (read ≡ owners.Hand holder))
read_either e x holder read [] was = inl was
read_either e x holder read (n ∷ ns) was = ⊎_elim (λ (here : (e ≡ x) × (read ≡ owners.Hand holder)). inr here) (λ (before : WasReadInHand x holder n.owners). inl before) was

knows_read : (shape : Shape) (canon : ℕ → ℕ → Owner) (owner : ℕ → Owner) (home : ℕ → Home) (hash : ℕ → ℕ) (v : View) (e : ℕ) → v.ticket ≡ Unread → KnowsOwners shape canon owner home hash v
    → KnowsOwners shape canon owner home hash (record v { notes = with_owner_read e (owner e) v.notes })
knows_read shape canon owner home hash v e unread kn = record {
  guarded = subst (λ (t : Ticket). AreGuarded shape owner home hash v.cpus (undrawn t v.held) (undrawn t (with_owner_read e (owner e) v.notes))) (sym unread)
      (guarded_read shape owner home hash v.cpus e (owner e) v.held v.notes (subst (λ (t : Ticket). AreGuarded shape owner home hash v.cpus (undrawn t v.held) (undrawn t v.notes)) unread kn.guarded));
  drawn = subst (λ (t : Ticket). IsDrawnFor canon t (with_owner_read e (owner e) v.notes)) (sym unread) tt;
  looked = λ x holder read is. ⊎_elim
      (λ (before : WasReadInHand x holder (owners_last v.notes)). ⊎_elim
      (λ (changed : IsTrue (is_some (change_in x v.held v.notes))). inl (ap is_some (change_read e x (owner e) v.held v.notes) ∙ changed))
      (λ (so : owner_before canon owner v.ticket x ≡ owners.Hand holder). inr so)
      (kn.looked x holder before record { last = is.last; at_home = is.at_home; kept = is.kept }))
      (λ (here : (e ≡ x) × (owner e ≡ owners.Hand holder)). inr ((λ i. owner_before canon owner (unread i) x) ∙ (ap owner (sym here.0) ∙ here.1)))
      (read_either e x holder (owner e) v.notes read);
}

pub keeps_read : (shape : Shape) (owner : ℕ → Owner) (home : ℕ → Home) (hash : ℕ → ℕ) (v : View) (e : ℕ) → v.ticket ≡ Unread → KeepsKnown shape owner home hash v (with_owner_read e (owner e) v.notes)
keeps_read shape owner home hash v e unread = record { changed = changes_owner_read e (owner e) v.notes; known = λ canon. knows_read shape canon owner home hash v e unread }

-- A ticket is drawn

pub left_some : (xs : List OwnerSeen) (e : ℕ) (owner to : Owner) → changed_to e xs ≡ Some to → owner_left xs e owner ≡ to
left_some [] e owner to changed = absurd (none_some changed)
left_some (x ∷ xs) e owner to changed =
    by_test x.element e (λ b. cond b (Some x.owner) (changed_to e xs) ≡ Some to → cond b x.owner (owner_left xs e owner) ≡ to) (λ _ is. some_is is) (λ _ later. left_some xs e owner to later) changed

left_none : (xs : List OwnerSeen) (e : ℕ) (owner : Owner) → changed_to e xs ≡ None → owner_left xs e owner ≡ owner
left_none [] e owner none = refl
left_none (x ∷ xs) e owner none =
    by_test x.element e (λ b. cond b (Some x.owner) (changed_to e xs) ≡ None → cond b x.owner (owner_left xs e owner) ≡ owner) (λ _ is. absurd (none_some (sym is))) (λ _ later. left_none xs e owner later) none

module _ (shape : Shape) (word : ℕ) (owner : ℕ → Owner) (home : ℕ → Home) (hash : ℕ → ℕ) (log : ℕ → List Entry) (views : List View) (pass : ℕ) (v : View) (reached : ℕ) (touched : List WordStep) (at_pass : get_elem? views pass ≡ some v) (apart : AreOthersApart views pass v)
    (drawing : v.ticket ≡ Drawing) (hold : Hold) (below : List Hold) (held_are : v.held ≡ hold ∷ below) (notes : Notes) (others : List Notes) (notes_are : v.notes ≡ notes ∷ others)
    (low : (lock : DomainId) (place : ℕ) (entry : Entry) → IsTrue (is_lock shape lock) → slice_get (log (lock_number shape lock)) place ≡ Some entry → entry.ticket < word)
    (lower : (j : ℕ) (u : View) (t : ℕ) → get_elem? views j ≡ some u → u.ticket ≡ Drawn t → t < word) (o : Owners shape word owner home hash log views) where
  -- the owners after the turn with this ticket
  then : ℕ → ℕ → Owner
  then = put o.told.owner (suc word) (λ e. owner_left notes.changed e (o.told.owner word e))

  then_else : (n e : ℕ) → n ≤ word → then n e ≡ o.told.owner n e
  unfolding then
  then_else n e within = λ i. put_else o.told.owner (suc word) (λ x. owner_left notes.changed x (o.told.owner word x)) n (λ same. omega (arith, within, same)) i e

  then_here : (e : ℕ) → then (suc word) e ≡ owner_left notes.changed e (o.told.owner word e)
  unfolding then
  then_here e = λ i. put_here o.told.owner (suc word) (λ x. owner_left notes.changed x (o.told.owner word x)) i e

  told_then : OwnersTold shape (λ lock. log (lock_number shape lock))
  told_then = record {
    owner = then;
    first = λ e. then_else 0 e (omega arith) ∙ o.told.first e;
    told = λ lock place entry is at e. let less = low lock place entry is at in
        then_else (suc entry.ticket) e (omega (arith, less)) ∙ (o.told.told lock place entry is at e ∙ ap (owner_told shape lock entry.cpu entry.part e) (sym (then_else entry.ticket e (omega (arith, less)))));
    seen = λ lock place entry is at e holder part. let less = low lock place entry is at in
        then_else entry.ticket e (omega (arith, less)) ∙ o.told.seen lock place entry is at e holder part;
  }

  drawn_view : View
  drawn_view = ticketed (Drawn word) reached touched v

  are_there : AreGuarded shape owner home hash v.cpus (hold ∷ below) (notes ∷ others)
  are_there = subst (λ (z : Ticket × (List Hold × List Notes)). AreGuarded shape owner home hash v.cpus (undrawn z.0 z.1.0) (undrawn z.0 z.1.1)) (λ i. (drawing i, (held_are i, notes_are i))) (o.known pass v at_pass).guarded

  -- what is still unchanged then was unchanged before, where this turn doesn't change it
  unchanging_before : (e : ℕ) → IsUnchanging (set views pass drawn_view) e → changed_to e notes.changed ≡ None → IsUnchanging views e
  unfolding drawn_view
  unchanging_before e none not_here j u at =
      by_test j pass (λ _. changing e u ≡ None)
      (λ same. ap (changing e) (some-injective u v (sym at ∙ (ap (get_elem? views) same ∙ at_pass)))
      ∙ ((λ i. change_in e (undrawn (drawing i) (held_are i)) (undrawn (drawing i) (notes_are i)))
      ∙ (ap (λ (c : Option Owner). first_of c (change_in e below others)) not_here
      ∙ ((λ i. change_in e (undrawn (Drawn word) (sym held_are i)) (undrawn (Drawn word) (sym notes_are i))) ∙ none pass drawn_view (set_here views pass drawn_view (seat_below views pass v at_pass))))))
      (λ other. none j u (set_else views pass j drawn_view other ∙ at))

  now_then : (e : ℕ) → IsUnchanging (set views pass drawn_view) e → then (suc word) e ≡ owner e
  now_then e none = then_here e ∙ go (changed_to e notes.changed) refl
    where
      go : (c : Option Owner) → changed_to e notes.changed ≡ c → owner_left notes.changed e (o.told.owner word e) ≡ owner e
      go (Some to) is = left_some notes.changed e (o.told.owner word e) to is ∙ sym (are_there.0 e to is).owner_is
      go None is = left_none notes.changed e (o.told.owner word e) is ∙ o.now e (unchanging_before e none is)

  -- what was read of an element that the pass protects and has not changed is so before the turn
  so_before : (e holder : ℕ) → IsProtected shape owner home hash v e → change_in e v.held v.notes ≡ None → owner e ≡ owners.Hand holder → o.told.owner word e ≡ owners.Hand holder
  so_before e holder is unchanged so = o.now e unchanging ∙ so
    where
      not_theirs : (u : View) → AreApart v u → (to : Owner) → to ≡ owners.Hand holder → IsKept shape u.cpus (undrawn u.ticket u.held) (home e) (hash e) to → ⊥
      not_theirs u between to to_is kept =
          let hand : IsKept shape u.cpus (undrawn u.ticket u.held) (home e) (hash e) (owners.Hand holder) = subst (IsKept shape u.cpus (undrawn u.ticket u.held) (home e) (hash e)) to_is kept in ⊎_elim
          (λ (here : IsHomeHere shape u.cpus (undrawn u.ticket u.held) (home e)). home_apart shape v u (home e) between is.at_home (home_by shape u.cpus (undrawn u.ticket u.held) u.held (home e) (undrawn_within u.ticket u.held) here))
          (λ (bucket : IsBucketHere shape (undrawn u.ticket u.held) (hash e)). ⊎_elim
          (λ (mine : IsInHandHere v.cpus (owner e)). between.cpu holder (subst (IsInHandHere v.cpus) so mine) hand.0)
          (λ (ours : IsBucketHere shape v.held (hash e)). between.lock _ ours (undrawn_within u.ticket u.held _ bucket))
          is.kept)
          hand.1

      theirs : (j : ℕ) (u : View) → get_elem? views j ≡ some u → j ≢ pass → (c : Option Owner) → changing e u ≡ c → c ≡ None
      theirs j u at other None changed = refl
      theirs j u at other (Some to) changed =
          let it = guarded_at shape owner home hash u.cpus (undrawn u.ticket u.held) (undrawn u.ticket u.notes) e to changed (o.known j u at).guarded in
          absurd (not_theirs u (apart j u at other) to (sym it.owner_is ∙ so) it.kept)

      unchanging : IsUnchanging views e
      unchanging j u at =
          by_test j pass (λ _. changing e u ≡ None)
          (λ same. ap (changing e) (some-injective u v (sym at ∙ (ap (get_elem? views) same ∙ at_pass)))
          ∙ ((λ i. change_in e (undrawn (drawing i) v.held) (undrawn (drawing i) v.notes)) ∙ unchanged))
          (λ other. theirs j u at other (changing e u) refl)

  knows_drawn : KnowsOwners shape then owner home hash drawn_view
  unfolding drawn_view
  knows_drawn = let kn = o.known pass v at_pass in record {
    guarded = subst (λ (z : List Hold × List Notes). AreGuarded shape owner home hash v.cpus (undrawn (Drawn word) z.0) (undrawn (Drawn word) z.1)) (λ i. (sym held_are i, sym notes_are i)) are_there.1;
    drawn = subst (IsDrawnFor then (Drawn word)) (sym notes_are) (λ e. then_here e ∙ ap (owner_left notes.changed e) (sym (then_else word e (omega arith))));
    looked = λ e holder read is. let was : IsProtected shape owner home hash v e = record { last = is.last; at_home = is.at_home; kept = is.kept } in ⊎_elim
        (λ (changed : IsTrue (is_some (change_in e v.held v.notes))). inl changed)
        (λ (so : owner_before o.told.owner owner v.ticket e ≡ owners.Hand holder). go e holder was ((λ i. owner_before o.told.owner owner (sym drawing i) e) ∙ so) (change_in e v.held v.notes) refl)
        (kn.looked e holder read was);
  }
    where
      go : (e holder : ℕ) → IsProtected shape owner home hash v e → owner e ≡ owners.Hand holder → (c : Option Owner) → change_in e v.held v.notes ≡ c → IsTrue (is_some (change_in e v.held v.notes)) ⊎ (then word e ≡ owners.Hand holder)
      go e holder was so (Some to) changed = inl (ap is_some changed)
      go e holder was so None unchanged = inr (then_else word e (omega arith) ∙ so_before e holder was unchanged so)

  knows_others : (j : ℕ) (u : View) → get_elem? views j ≡ some u → KnowsOwners shape then owner home hash u
  knows_others j u at = let kn = o.known j u at in record {
    guarded = kn.guarded;
    drawn = drawn_on u.ticket u.notes refl kn.drawn;
    looked = λ e holder read is. ⊎_elim
        (λ (changed : IsTrue (is_some (change_in e u.held u.notes))). inl changed)
        (λ (so : owner_before o.told.owner owner u.ticket e ≡ owners.Hand holder). inr (before_on e u.ticket refl ∙ so))
        (kn.looked e holder read is);
  }
    where
      drawn_on : (t : Ticket) (ns : List Notes) → u.ticket ≡ t → IsDrawnFor o.told.owner t ns → IsDrawnFor then t ns
      drawn_on Unread ns is d = tt
      drawn_on Drawing ns is d = tt
      drawn_on (Drawn t) [] is d = tt
      drawn_on (Drawn t) (n ∷ ns) is d = λ e. let less = lower j u t at is in then_else (suc t) e (omega (arith, less)) ∙ (d e ∙ ap (owner_left n.changed e) (sym (then_else t e (omega (arith, less)))))
      drawn_on Refused ns is d = tt

      before_on : (e : ℕ) (t : Ticket) → u.ticket ≡ t → owner_before then owner t e ≡ owner_before o.told.owner owner t e
      before_on e Unread is = refl
      before_on e Drawing is = refl
      before_on e (Drawn t) is = let less = lower j u t at is in then_else t e (omega (arith, less))
      before_on e Refused is = refl

  pub owners_drawn : Owners shape (suc word) owner home hash log (set views pass (ticketed (Drawn word) reached touched v))
  unfolding drawn_view told_then
  owners_drawn = record {
    told = told_then;
    now = now_then;
    known = λ j u at. ⊎_elim
        (λ t. subst (KnowsOwners shape then owner home hash) t.1 knows_drawn)
        (λ t. knows_others j u t.1)
        (at_set views pass j drawn_view u at);
  }

-- A lock is given back

-- the turn under way, as its part tells it
pub record IsToldOf (shape : Shape) (owner : ℕ → Owner) (home : ℕ → Home) (hash : ℕ → ℕ) (v : View) (k : ℕ) (entry : Entry) (notes : Notes) : Type 0 where
  pub changes : (e : ℕ) (owner : Owner) → owner_left notes.changed e owner ≡ owner_told shape (lock_named shape k) entry.cpu entry.part e owner
  pub probed : (e holder : ℕ) → entry.part ≡ parts.Bucket (Evict e (Held holder)) → WasReadInHand e holder notes.owners × (IsProtected shape owner home hash v e × (change_in e v.held v.notes ≡ None))

module _ (shape : Shape) (word : ℕ) (owner : ℕ → Owner) (home : ℕ → Home) (hash hash' : ℕ → ℕ) (log log' : ℕ → List Entry) (views : List View) (pass k : ℕ) (v nv : View) (entry : Entry) (at_pass : get_elem? views pass ≡ some v)
    (hold : Hold) (below : List Hold) (held_are : v.held ≡ hold ∷ below) (notes : Notes) (others : List Notes) (notes_are : v.notes ≡ notes ∷ others) (drawn : v.ticket ≡ Drawn entry.ticket)
    (no_bucket : (h : ℕ) → IsBucketHere shape below h → ⊥) (none_last : IsBucketLast shape below → ⊥) (told_of : IsToldOf shape owner home hash v k entry notes)
    (cpus_then : nv.cpus ≡ v.cpus) (held_then : nv.held ≡ below) (notes_then : only_changes nv.notes ≡ only_changes others) (unread_then : nv.ticket ≡ Unread)
    (more : log' k ≡ log k ++ entry ∷ []) (stays : (m : ℕ) → m ≢ k → log' m ≡ log m)
    (theirs : (canon : ℕ → ℕ → Owner) (j : ℕ) (u : View) → get_elem? views j ≡ some u → j ≢ pass → KnowsOwners shape canon owner home hash u → KnowsOwners shape canon owner home hash' u)
    (o : Owners shape word owner home hash log views) where
  guarded_below : AreGuarded shape owner home hash v.cpus below others
  guarded_below = subst (λ (z : Ticket × (List Hold × List Notes)). AreGuarded shape owner home hash v.cpus (undrawn z.0 z.1.0) (undrawn z.0 z.1.1)) (λ i. (drawn i, (held_are i, notes_are i))) (o.known pass v at_pass).guarded

  kept_on : (holds : List Hold) (e : ℕ) (to : Owner) → AreHeldIn holds below → IsKept shape v.cpus holds (home e) (hash e) to → IsKept shape v.cpus holds (home e) (hash' e) to
  kept_on holds e owners.Free within kept = kept
  kept_on holds e (owners.Bucket b) within kept = kept
  kept_on holds e (owners.Hand c) within kept = (
    kept.0,
    ⊎_elim
        (λ (here : IsHomeHere shape v.cpus holds (home e)). inl here)
        (λ (bucket : IsBucketHere shape holds (hash e)). absurd (no_bucket (hash e) (within _ bucket)))
        kept.1,
  )

  knows_given : (canon : ℕ → ℕ → Owner) → KnowsOwners shape canon owner home hash' nv
  knows_given canon =
      let are : AreGuarded shape owner home hash' v.cpus below others =
      guarded_each shape owner owner home home hash hash' v.cpus below others (λ holds e to within _ is. record { owner_is = is.owner_is; kept = kept_on holds e to within is.kept }) guarded_below in
      let are_then : AreGuarded shape owner home hash' v.cpus below nv.notes =
      guarded_back shape owner home hash' v.cpus below nv.notes (subst (AreGuarded shape owner home hash' v.cpus (without_lists below)) (sym notes_then) (guarded_plain shape owner home hash' v.cpus below others are)) in record {
        guarded = subst (λ (z : List ℕ × (Ticket × List Hold)). AreGuarded shape owner home hash' z.0 (undrawn z.1.0 z.1.1) (undrawn z.1.0 nv.notes)) (λ i. (sym cpus_then i, (sym unread_then i, sym held_then i))) are_then;
        drawn = subst (λ (t : Ticket). IsDrawnFor canon t nv.notes) (sym unread_then) tt;
        looked = λ e holder read is. absurd (none_last (subst (IsBucketLast shape) held_then is.last));
      }

  still_given : (e : ℕ) → changing e nv ≡ None → changing e v ≡ None
  still_given e none =
      (λ i. change_in e (undrawn (drawn i) (held_are i)) (undrawn (drawn i) (notes_are i)))
      ∙ (sym (change_plain e below others) ∙ (ap (change_in e (without_lists below)) (sym notes_then) ∙ (change_plain e below nv.notes ∙ ((λ i. change_in e (sym held_then i) nv.notes) ∙ (sym (changing_unread nv e unread_then) ∙ none)))))

  leads : (e : ℕ) → o.told.owner (suc entry.ticket) e ≡ owner_told shape (lock_named shape k) entry.cpu entry.part e (o.told.owner entry.ticket e)
  leads e = subst (λ (z : Ticket × List Notes). IsDrawnFor o.told.owner z.0 z.1) (λ i. (drawn i, notes_are i)) (o.known pass v at_pass).drawn e ∙ told_of.changes e (o.told.owner entry.ticket e)

  saw : (e holder : ℕ) → entry.part ≡ parts.Bucket (Evict e (Held holder)) → o.told.owner entry.ticket e ≡ owners.Hand holder
  saw e holder part = let it = told_of.probed e holder part in ⊎_elim
      (λ (changed : IsTrue (is_some (change_in e v.held v.notes))). true_false (sym changed ∙ ap is_some it.1.1))
      (λ (so : owner_before o.told.owner owner v.ticket e ≡ owners.Hand holder). (λ i. owner_before o.told.owner owner (sym drawn i) e) ∙ so)
      ((o.known pass v at_pass).looked e holder (subst (λ (l : List Notes). WasReadInHand e holder (owners_last l)) (sym notes_are) it.0) it.1.0)

  -- of a lock's turns each was there, or is this one
  was_or_is : (A : Entry → Type 0) (lock : DomainId) (place : ℕ) (x : Entry) → slice_get (log' (lock_number shape lock)) place ≡ Some x → (slice_get (log (lock_number shape lock)) place ≡ Some x → A x) → (lock_number shape lock ≡ k → A entry) → A x
  was_or_is A lock place x at was this =
      by_test (lock_number shape lock) k (λ _. A x)
      (λ same. ⊎_elim
      (λ (old : slice_get (log k) place ≡ Some x). was (ap (λ (m : ℕ). slice_get (log m) place) same ∙ old))
      (λ (last : (place ≡ length (log k)) × (x ≡ entry)). subst A (sym last.1) (this same))
      (got_either (log k) entry place x (sym (ap (λ (l : List Entry). slice_get l place) more) ∙ (ap (λ (m : ℕ). slice_get (log' m) place) (sym same) ∙ at))))
      (λ other. was (ap (λ (l : List Entry). slice_get l place) (sym (stays (lock_number shape lock) other)) ∙ at))

  told_given : OwnersTold shape (λ lock. log' (lock_number shape lock))
  told_given = record {
    owner = o.told.owner;
    first = o.told.first;
    told = λ lock place x is at e. was_or_is (λ (y : Entry). o.told.owner (suc y.ticket) e ≡ owner_told shape lock y.cpu y.part e (o.told.owner y.ticket e)) lock place x at
        (λ old. o.told.told lock place x is old e)
        (λ same. leads e ∙ ap (λ (d : DomainId). owner_told shape d entry.cpu entry.part e (o.told.owner entry.ticket e)) (sym (ap (lock_named shape) same) ∙ named_by_number shape lock is));
    seen = λ lock place x is at e holder. was_or_is (λ (y : Entry). y.part ≡ parts.Bucket (Evict e (Held holder)) → o.told.owner y.ticket e ≡ owners.Hand holder) lock place x at
        (λ old. o.told.seen lock place x is old e holder)
        (λ _. saw e holder);
  }

  pub owners_given : Owners shape word owner home hash' log' (set views pass nv)
  unfolding told_given
  owners_given = record {
    told = told_given;
    now = λ e none. o.now e (λ j u at. by_test j pass (λ _. changing e u ≡ None)
        (λ same. ap (changing e) (some-injective u v (sym at ∙ (ap (get_elem? views) same ∙ at_pass))) ∙ still_given e (none pass nv (set_here views pass nv (seat_below views pass v at_pass))))
        (λ other. none j u (set_else views pass j nv other ∙ at)));
    known = λ j u at. ⊎_elim
        (λ t. subst (KnowsOwners shape o.told.owner owner home hash') t.1 (knows_given o.told.owner))
        (λ t. theirs o.told.owner j u t.1 t.0 (o.known j u t.1))
        (at_set views pass j nv u at);
  }

-- Stored hashes change: what another pass knows stays, where each that changes is of an element that it has neither in hand nor at home.
pub knows_hashed : (shape : Shape) (canon : ℕ → ℕ → Owner) (owner : ℕ → Owner) (home : ℕ → Home) (hash hash' : ℕ → ℕ) (u : View)
    → ((e : ℕ) → (hash' e ≡ hash e) ⊎ (((c : ℕ) → owner e ≡ owners.Hand c → is_among c u.cpus ≡ true → ⊥) × (IsHomeHere shape u.cpus u.held (home e) → ⊥)))
    → KnowsOwners shape canon owner home hash u → KnowsOwners shape canon owner home hash' u
knows_hashed shape canon owner home hash hash' u same kn = record {
  guarded = guarded_each shape owner owner home home hash hash' u.cpus (undrawn u.ticket u.held) (undrawn u.ticket u.notes)
      (λ holds e to _ _ is. record {
        owner_is = is.owner_is;
        kept = ⊎_elim
            (λ (stays : hash' e ≡ hash e). subst (λ (h : ℕ). IsKept shape u.cpus holds (home e) h to) (sym stays) is.kept)
            (λ (off : ((c : ℕ) → owner e ≡ owners.Hand c → is_among c u.cpus ≡ true → ⊥) × (IsHomeHere shape u.cpus u.held (home e) → ⊥)). kept_off holds e to is.owner_is off.0 is.kept)
            (same e);
      })
      kn.guarded;
  drawn = kn.drawn;
  looked = λ e holder read is. kn.looked e holder read (⊎_elim
      (λ (stays : hash' e ≡ hash e). record { last = is.last; at_home = is.at_home; kept = subst (λ (h : ℕ). IsInHandHere u.cpus (owner e) ⊎ IsBucketHere shape u.held h) stays is.kept })
      (λ (off : ((c : ℕ) → owner e ≡ owners.Hand c → is_among c u.cpus ≡ true → ⊥) × (IsHomeHere shape u.cpus u.held (home e) → ⊥)). absurd (off.1 is.at_home))
      (same e));
}
  where
    kept_off : (holds : List Hold) (e : ℕ) (to : Owner) → owner e ≡ to → ((c : ℕ) → owner e ≡ owners.Hand c → is_among c u.cpus ≡ true → ⊥) → IsKept shape u.cpus holds (home e) (hash e) to → IsKept shape u.cpus holds (home e) (hash' e) to
    kept_off holds e owners.Free is not_ours kept = kept
    kept_off holds e (owners.Bucket b) is not_ours kept = kept
    kept_off holds e (owners.Hand c) is not_ours kept = absurd (not_ours c is kept.0)

-- Passes that hold no lock

pub record IsIdle (v : View) : Type 0 where
  pub held : v.held ≡ []
  pub notes : v.notes ≡ []
  pub unread : v.ticket ≡ Unread

changing_idle : (v : View) (e : ℕ) → v.held ≡ [] → changing e v ≡ None
changing_idle v e none = (λ i. change_in e (undrawn v.ticket (none i)) (undrawn v.ticket v.notes)) ∙ go v.ticket
  where
    go : (t : Ticket) → change_in e (undrawn t []) (undrawn t v.notes) ≡ None
    go Unread = refl
    go Drawing = refl
    go (Drawn t) = refl
    go Refused = refl

knows_idle : (shape : Shape) (canon : ℕ → ℕ → Owner) (owner : ℕ → Owner) (home : ℕ → Home) (hash : ℕ → ℕ) (v : View) → IsIdle v → KnowsOwners shape canon owner home hash v
knows_idle shape canon owner home hash v idle = record {
  guarded = subst (λ (z : Ticket × List Hold). AreGuarded shape owner home hash v.cpus (undrawn z.0 z.1) (undrawn z.0 v.notes)) (λ i. (sym idle.unread i, sym idle.held i)) tt;
  drawn = subst (λ (t : Ticket). IsDrawnFor canon t v.notes) (sym idle.unread) tt;
  looked = λ e holder read is. absurd (subst (IsBucketLast shape) idle.held is.last);
}

pub owners_idle : (shape : Shape) (word : ℕ) (owner : ℕ → Owner) (home : ℕ → Home) (hash : ℕ → ℕ) (log : ℕ → List Entry) (views : List View) (pass : ℕ) (v nv : View) → get_elem? views pass ≡ some v → v.held ≡ [] → IsIdle nv
    → Owners shape word owner home hash log views → Owners shape word owner home hash log (set views pass nv)
owners_idle shape word owner home hash log views pass v nv at_pass none idle =
    owners_moved shape word owner owner home home hash hash log views pass v nv at_pass (λ e _. (changing_idle v e none, refl)) (λ canon _. knows_idle shape canon owner home hash nv idle) (λ _ _ _ _ _ kn. kn)

at_before : (views : List View) (b u : View) (j : ℕ) → get_elem? views j ≡ some u → get_elem? (views ++ b ∷ []) j ≡ some u
at_before [] b u j at = absurd (some-ne-none u (sym at))
at_before (x ∷ xs) b u zero at = at
at_before (x ∷ xs) b u (suc j) at = at_before xs b u j at

-- one pass more
pub owners_more : (shape : Shape) (word : ℕ) (owner : ℕ → Owner) (home : ℕ → Home) (hash : ℕ → ℕ) (log : ℕ → List Entry) (views : List View) (b : View) → IsIdle b → Owners shape word owner home hash log views → Owners shape word owner home hash log (views ++ b ∷ [])
owners_more shape word owner home hash log views b idle o = record {
  told = o.told;
  now = λ e none. o.now e (λ j u at. none j u (at_before views b u j at));
  known = λ j u at. ⊎_elim
      (λ (old : get_elem? views j ≡ some u). o.known j u old)
      (λ (new : (j ≡ length views) × (b ≡ u)). subst (KnowsOwners shape o.told.owner owner home hash) new.1 (knows_idle shape o.told.owner owner home hash b idle))
      (at_more views b u j at);
}

-- the first pass
pub owners_first : (shape : Shape) (home : ℕ → Home) (hash : ℕ → ℕ) → Owners shape 0 (opening shape).owner home hash (λ k. []) (first_view shape ∷ [])
owners_first shape home hash = record {
  told = record {
    owner = λ n e. (opening shape).owner e;
    first = λ e. refl;
    told = λ lock place entry is at e. absurd (none_some at);
    seen = λ lock place entry is at e holder part. absurd (none_some at);
  };
  now = λ e none. refl;
  known = λ j u at. known j u at;
}
  where
    known : (j : ℕ) (u : View) → get_elem? (first_view shape ∷ []) j ≡ some u → KnowsOwners shape (λ n e. (opening shape).owner e) (opening shape).owner home hash u
    known zero u at = knows_idle shape (λ n e. (opening shape).owner e) (opening shape).owner home hash u (subst IsIdle (some-injective (first_view shape) u at) record { held = refl; notes = refl; unread = refl })
    known (suc j) u at = absurd (some-ne-none u (sym at))
