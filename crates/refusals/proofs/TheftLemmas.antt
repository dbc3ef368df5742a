-- What is stolen is gone.
use Rattle.std.proofs.Common.{◌≡◌, ℕ, Bool, true, false, eqb, List, [], ◌∷◌, refl, ap, subst, ◌∙◌}
use Rattle.map_types.specs.declared.attr.Shape.{Shape}
use Rattle.map_types.specs.declared.call.Verb.TheVariants as verbs
use Rattle.map_types.specs.declared.row.Row.{Row}
use Rattle.map_types.specs.Listed.{without_those}
use Rattle.place_words.specs.declared.history.Part.{Part}
use Rattle.place_words.specs.declared.history.Part.TheVariants as parts
use Rattle.place_words.specs.declared.list_part.LocalPart.TheVariants as local
use Rattle.place_words.specs.declared.list_part.Stolen.TheVariants.{Pending}
use Rattle.place_words.specs.declared.visits.Look.{Look}
use Rattle.place_words.specs.declared.visits.Try.{Try}
use Rattle.place_words.specs.Histories.{Content, in_bucket, on_freelist, in_locals, in_global, in_own, content_after, Allows}
use Rattle.place_words.specs.Locals.{local_after}
use Rattle.place_words.specs.Sets.{has_row}
use Rattle.refusals.specs.Made.{lay}
use Rattle.refusals.specs.Evicting.{pending_in, StolenIsGone}
use Rattle.refusals.proofs.MadeLemmas.{called_may_be}

-- without an element
none_left : (e : ℕ) (rows : List Row) → has_row e (without_those (λ x. eqb x e) rows) ≡ false
none_left e [] = refl
none_left e (row ∷ rows) = by (eqb row.element e) refl (none_left e rows)
  where
    by : (b : Bool) → eqb row.element e ≡ b → has_row e (without_those (λ x. eqb x e) rows) ≡ false → has_row e (without_those (λ x. eqb x e) (row ∷ rows)) ≡ false
    by true is rest = rw is rest
    by false is rest = rw is (rw is rest)

module _ (shape : Shape) (cpu e : ℕ) (first : List Look) (second : List Try) where
  gone_there : (lies : Content) → Allows shape cpu (parts.Local (local.Steal (Pending e) first second)) lies → has_row e (pending_in (content_after shape cpu (parts.Local (local.Steal (Pending e) first second)) lies)) ≡ false
  unfolding local_after
  gone_there (in_bucket bodies) allowed = absurd allowed
  gone_there (on_freelist stack) allowed = absurd allowed
  gone_there (in_locals lists) allowed = none_left e lists.pending
  gone_there (in_global set) allowed = absurd allowed
  gone_there (in_own set) allowed = absurd allowed

pub stolen_is_gone : StolenIsGone
stolen_is_gone t before after side flags key value reply called front back told e first second are is =
    let steal : Part = parts.Local (local.Steal (Pending e) first second) in
    let allowed : Allows t.shape told.entry.cpu steal (lay t.shape told) =
    subst (λ (part : Part). Allows t.shape told.entry.cpu part (lay t.shape told)) is (called_may_be t before after (verbs.Update side flags key value) reply called front back told are) in
    ap (λ (part : Part). has_row e (pending_in (content_after t.shape told.entry.cpu part (lay t.shape told)))) is ∙ gone_there t.shape told.entry.cpu e first second (lay t.shape told) allowed
