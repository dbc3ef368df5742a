-- What steps on words and calls on a table do.
use Rattle.std.proofs.Common.{◌≡◌, ◌≢◌, ℕ, Bool, true, false, not, cond, ⊎_elim, List, [], ◌∷◌, ◌++◌, map, filter, get_or, set, sym, refl, ap, ◌∙◌, arith, append_assoc, None, Some, get_or-set_same}
use Rattle.std.proofs.lemmas.List.{append_cancel_left}
use Rattle.map_types.specs.declared.attr.Shape.{Shape}
use Rattle.map_types.specs.declared.kind.DomainId.TheVariants.{Bucket}
use Rattle.map_types.specs.declared.kind.Side.TheVariants.{Sys}
use Rattle.map_types.specs.declared.reply.Reply.{Reply}
use Rattle.map_types.specs.Kind.{is_lru}
use Rattle.map_types.specs.ElementLists.{one}
use Rattle.place_words.specs.declared.history.Part.{Part}
use Rattle.place_words.specs.declared.visits.Visit.{Visit}
use Rattle.place_words.specs.Codes.{home_code}
use Rattle.place_words.specs.Histories.{marks}
use Rattle.place_words.specs.Turns.{Turn}
use Rattle.place_table.specs.declared.view.Ended.{Ended}
use Rattle.place_table.specs.declared.view.Hold.{Hold}
use Rattle.place_table.specs.declared.view.Notes.{Notes}
use Rattle.place_table.specs.declared.view.Turned.{Turned}
use Rattle.place_table.specs.declared.view.View.{View}
use Rattle.place_table.specs.declared.view.WordStep.{WordStep}
use Rattle.place_table.specs.BucketTurns.{LooksUp}
use Rattle.place_table.specs.Calls.{CouldBe, IsTold}
use Rattle.place_table.specs.Closing.{ClosedView, IsClosed, all_locks, history_of, strand_told, strands_told}
use Rattle.place_table.specs.Passes.{PassView, TableView, Marked, ready}
use Rattle.place_table.specs.Views.{marked, cleared, rehomed, all_strands, is_among, is_recorded, ticket_of, with_mark}
use Rattle.place_table.specs.TurnNotes.{clears_noted}
use Rattle.place_table.specs.Words.{bit_word, home_word}
use Rattle.place_table.specs.Plays.{Seated}
use Rattle.place_table.proofs.CodeLemmas.{one_owner, has_owner_code}
use Rattle.place_table.proofs.Going.{given_turn, goes_gave, goes_gave_some, same_head}
use Rattle.place_table.proofs.Refused.{tells_true}
use Rattle.refusals.specs.Table.{MarkSetsTheBit, ClearTakesTheBit, RehomeStoresTheHome, TurnTellsItsPart, TurnTellsItsBits, SystemLookupMarksNone, OwnerIsTheOneRead, StrandsAreHandedOut}

abbrev word_in : ℕ → List ℕ → ℕ
word_in i words = get_or words i 0

pub mark_sets : MarkSetsTheBit
mark_sets shape slots pass e f me s r wide seated real small other allows =
    let i : ℕ = bit_word shape e in let n : ℕ = get_or s.words i 0 in let shape_is = (r.knows pass me.0 seated).shape_is in
    let got = allows s r wide seated small in
    let v_is : got.0 ≡ marked got.4.0 e me.0 = ap (λ (z : Seated). z.0) got.4.1 in
    let x : WordStep = record { at = got.4.0; word = bit_word me.0.shape e; seen = None; left = 1 } in
    let on : x.word ≡ i = ap (λ (z : Shape). bit_word z e) shape_is in
    let told = tells_true shape s pass i (f n) me.0 got.0 me.1 got.1 x r seated got.3 (omega (arith, on)) (ap (λ (z : View). z.touched) v_is) (ap (λ (z : View). z.ended) v_is) in
    let stays = get_or-set_same s.words i (f n) 0 (omega (arith, r.words)) in
    other (sym stays ∙ (ap (λ (j : ℕ). word_in j (set s.words i (f n))) (sym on) ∙ told.left))

pub clear_takes : ClearTakesTheBit
clear_takes shape slots pass e f me s r wide seated real small other allows =
    let i : ℕ = bit_word shape e in let n : ℕ = get_or s.words i 0 in let shape_is = (r.knows pass me.0 seated).shape_is in
    let got = allows s r wide seated small in
    let v_is : got.0 ≡ cleared got.4.at e got.4.bit me.0 = ap (λ (z : Seated). z.0) got.4.after_is in
    let x : WordStep = record { at = got.4.at; word = bit_word me.0.shape e; seen = Some (one got.4.bit); left = 0 } in
    let on : x.word ≡ i = ap (λ (z : Shape). bit_word z e) shape_is in
    let told = tells_true shape s pass i (f n) me.0 got.0 me.1 got.1 x r seated got.3 (omega (arith, on)) (ap (λ (z : View). z.touched) v_is) (ap (λ (z : View). z.ended) v_is) in
    let stays = get_or-set_same s.words i (f n) 0 (omega (arith, r.words)) in
    other (sym stays ∙ (ap (λ (j : ℕ). word_in j (set s.words i (f n))) (sym on) ∙ told.left))

pub rehome_stores : RehomeStoresTheHome
rehome_stores shape slots pass e stored to me s r wide seated real small other allows =
    let i : ℕ = home_word shape e in let shape_is = (r.knows pass me.0 seated).shape_is in
    let got = allows s r wide seated small in
    let v_is : got.0 ≡ rehomed got.4.at got.4.from to got.4.owner e me.0 = ap (λ (z : Seated). z.0) got.4.after_is in
    let x : WordStep = record { at = got.4.at; word = home_word me.0.shape e; seen = None; left = home_code to } in
    let on : x.word ≡ i = ap (λ (z : Shape). home_word z e) shape_is in
    let told = tells_true shape s pass i stored me.0 got.0 me.1 got.1 x r seated got.3 (omega (arith, on)) (ap (λ (z : View). z.touched) v_is) (ap (λ (z : View). z.ended) v_is) in
    let stays = get_or-set_same s.words i stored 0 (omega (arith, r.words)) in
    other (sym stays ∙ (ap (λ (n : ℕ). word_in n (set s.words i stored)) (sym on) ∙ told.left))

-- Of two lists with one more each, which are the same, the last is the same
last_same : {A : Type 0} (xs : List A) (x y : A) → xs ++ x ∷ [] ≡ xs ++ y ∷ [] → x ≡ y
last_same xs x y same = heads (append_cancel_left xs (x ∷ []) (y ∷ []) same)
  where
    heads : x ∷ [] ≡ y ∷ [] → x ≡ y
    heads is = cc

pub tells_its_part : TurnTellsItsPart
tells_its_part before after part other gave is_not told =
    is_not (ap (λ (t : Turned). t.entry.part) (last_same before.view.steps _ _ (ap (λ (p : PassView). p.view.steps) (sym told.after_is ∙ gave.after_is))))

pub tells_its_bits : TurnTellsItsBits
tells_its_bits shape lost step told noted below before found other more others notes_are cleared told_are is_not is =
    let tells = is.1 in
    let behind : List Visit = tells.first_clears.0 in
    let same : tells.notes ≡ noted = same_head (sym tells.notes_are ∙ notes_are) in
    let both : before ++ found ∷ more ≡ (before ++ other ∷ others) ++ behind =
    sym cleared ∙ (ap clears_noted (sym same) ∙ (tells.first_clears.1 ∙ ap (λ (l : List Visit). l ++ behind) told_are)) in
    is_not (sym (same_head (append_cancel_left before (found ∷ more) ((other ∷ others) ++ behind) (both ∙ append_assoc before (other ∷ others) behind))))

not_empty : (x : ℕ) (xs : List ℕ) → x ∷ xs ≡ [] → ⊥
not_empty x xs is = cc

-- an element that was marked is noted
noted_mark : (e : ℕ) (notes : List Notes) (first : Notes) (below : List Notes) → with_mark e notes ≡ first ∷ below → first.marks ≡ [] → ⊥
noted_mark e [] first below is none = absurd cc
noted_mark e (n ∷ others) first below is none = not_empty e n.marks (ap (λ (z : Notes). z.marks) (same_head is) ∙ none)

none_either : (b : Bool) → ◌≡◌ {A = List ℕ} (cond b [] []) []
none_either true = refl
none_either false = refl

module _ {t : TableView} {bucket : ℕ} (e : ℕ) {before middle after : PassView} {key : List ℕ} {reply : Reply} (is : Marked e before middle) (looks : LooksUp t bucket before after Sys key reply) where
  -- the turn that was made sets no bit, whether its record is lost or not
  made_none : marks t.shape looks.gives.step.entry.part ≡ []
  made_none =
      let g = looks.gives in
      let none : marks t.shape g.told.entry.part ≡ [] = ap (λ (turn : Turn). marks t.shape turn.part) g.turn ∙ none_either (is_lru t.shape.kind) in
      ⊎_elim
      (λ (same : g.told ≡ g.step). ap (λ (turn : Turned). marks t.shape turn.entry.part) (sym same) ∙ none)
      (λ (other : (is_among g.step.lock g.lost ≡ true) × CouldBe t.shape g.step g.told). sym other.1.same_marks ∙ none)
      g.is_told.0

  -- so no part that fits what is noted made it
  not_made : (n : ℕ) (hold : Hold) (part : Part) (notes : Notes) (below : List Notes) → middle.view.notes ≡ notes ∷ below → notes.marks ≡ marks t.shape part → after.view.steps ≡ middle.view.steps ++ given_turn middle n hold part ∷ [] → ⊥
  not_made n hold part notes below notes_are marks_are steps =
      let g = looks.gives in
      let same : g.step ≡ given_turn middle n hold part =
      last_same before.view.steps g.step (given_turn middle n hold part) (sym g.goes.steps ∙ (steps ∙ ap (λ (p : PassView). p.view.steps ++ given_turn middle n hold part ∷ []) is.1)) in
      noted_mark e before.view.notes notes below (sym (ap (λ (p : PassView). p.view.notes) is.1) ∙ notes_are) (marks_are ∙ (ap (λ (turn : Turned). marks t.shape turn.entry.part) (sym same) ∙ made_none))

pub system_marks_none : SystemLookupMarksNone
system_marks_none t bucket e before middle after key reply here None is can gave looks =
    not_made e is looks (ticket_of (ready middle.view gave.took)) gave.can.hold gave.part gave.can.notes gave.can.notes_below gave.can.notes_are gave.can.notes_fit.marks_are (goes_gave_some t (Bucket bucket) middle after here gave).steps
system_marks_none t bucket e before middle after key reply here (Some part) is can gave looks =
    not_made e is looks gave.ticket gave.hold part can.notes can.notes_below can.notes_are can.notes_fit.marks_are (goes_gave middle after part gave).steps

pub owner_is_the_one_read : OwnerIsTheOneRead
owner_is_the_one_read t e before after owner other is saw is_not told =
    is_not (one_owner other owner (has_owner_code t.shape other is told.exists_there) (has_owner_code t.shape owner is saw.exists_there)
    (ap (λ (x : WordStep). x.left) (last_same before.view.touched _ _ (ap (λ (p : PassView). p.view.touched) (sym told.after_is ∙ saw.after_is)))))

-- Where each of these is lost, none is left
none_left : (lost : ℕ → Bool) (ks : List ℕ) → ((k : ℕ) → lost k ≡ true) → filter (λ k. not (lost k)) ks ≡ []
none_left lost [] all = refl
none_left lost (k ∷ ks) all = let is = all k in rw is (none_left lost ks all)

module _ (shape : Shape) (pass : PassView) (closed : ClosedView) where
  -- strands that are told are all that are recorded
  told_are : (strands : List Ended) → strands_told shape strands ≡ [] → filter is_recorded strands ≡ []
  told_are strands is = none_of (filter is_recorded strands) is
    where
      none_of : (told : List Ended) → map (strand_told shape) told ≡ [] → told ≡ []
      none_of [] none = refl
      none_of (x ∷ xs) none = absurd cc

  by_lost : (c : IsClosed shape pass closed) (b : Bool) → c.strands_lost ≡ b → closed.histories ≢ [] → filter is_recorded (all_strands pass.view) ≢ [] → closed.strands ≡ [] → ⊥
  by_lost c true is there recorded none =
      there (c.left.histories_are ∙ ap (map (history_of shape c.log)) (none_left c.lost (all_locks shape) (c.all_lost is)))
  by_lost c false is there recorded none =
      recorded (told_are (all_strands pass.view) (ap (λ (b : Bool). cond b [] (strands_told shape (all_strands pass.view))) (sym is) ∙ (sym c.left.strands_are ∙ none)))

pub strands_are_handed_out : StrandsAreHandedOut
strands_are_handed_out shape pass closed there recorded none c = by_lost shape pass closed c c.strands_lost refl there recorded none
