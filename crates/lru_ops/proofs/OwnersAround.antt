-- What was made of owners in the turns under way.
use Rattle.std.proofs.Common.{◌≡◌, ℕ, cond, true, false, Bool, List, [], ◌∷◌, sym, ap, ◌∙◌, subst, Option, Some, None}
use Rattle.std.specs.Prelude.{◌==◌}
use Rattle.map_types.specs.declared.kind.DomainId.{DomainId}
use Rattle.place_words.specs.declared.bucket_part.BucketPart.TheVariants.{Evict}
use Rattle.place_words.specs.declared.bucket_part.Seen.TheVariants.{Held}
use Rattle.place_words.specs.declared.history.Part.TheVariants as parts
use Rattle.place_words.specs.declared.list_part.GlobalPart.{GlobalPart}
use Rattle.place_words.specs.declared.list_part.LocalPart.{LocalPart}
use Rattle.place_words.specs.declared.list_part.OwnPart.{OwnPart}
use Rattle.place_words.specs.declared.owner.Owner.{Owner}
use Rattle.place_words.specs.declared.owner.Owner.TheVariants.{Free}
use Rattle.place_table.specs.declared.view.Hold.{Hold}
use Rattle.place_table.specs.declared.view.Notes.{Notes}
use Rattle.place_table.specs.declared.view.OwnerSeen.{OwnerSeen}
use Rattle.place_table.specs.declared.view.View.{View}
use Rattle.place_table.specs.Owners.{IsFreeAround, IsUnchangedAround, change_in, changed_to, first_of}
use Rattle.place_table.specs.Passes.{PassView, TableView}
use Rattle.place_table.specs.Views.{holds_below, notes_below}
use Rattle.place_table.proofs.Going.{same_head}
use Rattle.place_table.proofs.Worlds.{some_is, none_some}
use Rattle.lru_ops.specs.Evictions.{AreFreed, HoldsLists}

-- In the turn of the lock taken last

changed_cons : (b : Bool) (x owner : Owner) (rest : Option Owner) → x ≡ Free → (rest ≡ Some owner → owner ≡ Free) → cond b (Some x) rest ≡ Some owner → owner ≡ Free
changed_cons true x owner rest free later is = sym (some_is is) ∙ free
changed_cons false x owner rest free later is = later is

changed_free : (e : ℕ) (changed : List OwnerSeen) (owner : Owner) → AreFreed changed → changed_to e changed ≡ Some owner → owner ≡ Free
changed_free e [] owner freed is = absurd (none_some is)
changed_free e (x ∷ xs) owner freed is = changed_cons (x.element == e) x.owner owner (changed_to e xs) freed.0 (changed_free e xs owner freed.1) is

first_free : (first : Option Owner) (owner : Owner) → (first ≡ Some owner → owner ≡ Free) → first_of first None ≡ Some owner → owner ≡ Free
first_free None owner free is = absurd (none_some is)
first_free (Some x) owner free is = free is

-- what a pass changed that holds a lock of lists, it set free
pub free_here : {t : TableView} {lock : DomainId} {p : PassView} (h : HoldsLists t lock p) (e : ℕ) (owner : Owner) → change_in e (h.hold ∷ h.outer) p.view.notes ≡ Some owner → owner ≡ Free
free_here h e owner is =
    let first : Option Owner = changed_to e h.notes.changed in
    first_free first owner (changed_free e h.notes.changed owner h.freed)
    (sym (ap (change_in e (h.hold ∷ h.outer)) h.notes_are ∙ ap (first_of first) (h.unchanged e)) ∙ is)

-- In the turns around it

pub free_of_none : (v : View) (e : ℕ) → IsUnchangedAround v e → IsFreeAround v e
free_of_none v e none owner is = absurd (none_some (sym none ∙ is))

pub unchanged_around : {t : TableView} {lock : DomainId} {p : PassView} (h : HoldsLists t lock p) (e : ℕ) → IsUnchangedAround p.view e
unchanged_around h e = (λ i. change_in e (holds_below (h.held i)) (notes_below (h.notes_are i))) ∙ h.unchanged e

-- where one lock is held
pub unchanged_alone : (v : View) (hold : Hold) (e : ℕ) → v.held ≡ hold ∷ [] → IsUnchangedAround v e
unchanged_alone v hold e alone = ap (λ (l : List Hold). change_in e (holds_below l) (notes_below v.notes)) alone

-- of the notes of both turns, where they are named
pub freed_named : {t : TableView} {lock : DomainId} {p : PassView} (h : HoldsLists t lock p) (n : Notes) (below : List Notes) → p.view.notes ≡ n ∷ below → AreFreed n.changed
freed_named h n below noted = subst (λ (m : Notes). AreFreed m.changed) (same_head (sym h.notes_are ∙ noted)) h.freed

pub unchanged_named : {t : TableView} {lock : DomainId} {p : PassView} (h : HoldsLists t lock p) (hold local : Hold) (n around : Notes) (below : List Notes) → p.view.held ≡ hold ∷ local ∷ [] → p.view.notes ≡ n ∷ around ∷ below
    → (e : ℕ) → change_in e (local ∷ []) (around ∷ below) ≡ None
unchanged_named h hold local n around below held noted e =
    sym (λ i. change_in e (holds_below (held i)) (notes_below (noted i))) ∙ unchanged_around h e

-- Parts of lists are no probes

pub own_no_probe : (part : OwnPart) (e holder : ℕ) → parts.Own part ≡ parts.Bucket (Evict e (Held holder)) → ⊥
own_no_probe part e holder is = cc

pub global_no_probe : (part : GlobalPart) (e holder : ℕ) → parts.Global part ≡ parts.Bucket (Evict e (Held holder)) → ⊥
global_no_probe part e holder is = cc

pub local_no_probe : (part : LocalPart) (e holder : ℕ) → parts.Local part ≡ parts.Bucket (Evict e (Held holder)) → ⊥
local_no_probe part e holder is = cc
