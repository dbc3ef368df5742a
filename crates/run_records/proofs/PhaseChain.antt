-- The phases that a race has come through, one after another: each begins where the one before it ended.
use Rattle.std.proofs.Common.{◌≡◌, ◌≢◌, ◌⊎◌, ℕ, zero, suc, ◌+◌, ◌-◌, ◌<◌, List, [], ◌∷◌, ◌++◌, length, map, Option, Some, None, refl, ap, sym, ◌∙◌, subst, arith, inl, inr}
use Rattle.std.specs.Prelude.{MatchOption}
use Rattle.std.specs.List.{range_with_len}
use Rattle.std.proofs.lemmas.Bool.{cases_eq}
use Rattle.std.proofs.lemmas.List.{map-append, length-append}
use Rattle.std.proofs.lemmas.List.FromFn.{map-range_with_len_more}
use Rattle.map_types.specs.declared.attr.Shape.{Shape}
use Rattle.map_types.specs.declared.reply.Reply.{Reply}
use Rattle.map_script.specs.declared.script.Script.{Script}
use Rattle.place_words.proofs.ElementLemmas.{put_here}
use Rattle.place_table.specs.Passes.{PassView, TableView, IsFirstPass}
use Rattle.map_report.specs.declared.record.PhaseStart.{PhaseStart}
use Rattle.run_records.specs.declared.pieces.Piece.{Piece}
use Rattle.run_records.specs.Parts.{lone_cpu, pieces_by}
use Rattle.run_records.specs.Races.{calls_of, RanAlone, RanAtOnce, HaveComeTo}
use Rattle.run_records.proofs.PartLemmas.{piece_of}
use Rattle.run_records.proofs.PhaseParts.{Done, done_in, done_by, done_last, done_before, parts_of, parts_to, parts_more, kept_more}
use Rattle.run_records.proofs.PhaseFacts.{IsPhase, phase_by, pieces_told}
use Rattle.serial_laws.proofs.ListPlaces.{made_same}

-- no record of a lock was lost, and each turn got a ticket
pub record IsSound (v : PassView) : Type 0 where
  pub lost : v.view.lost ≡ []
  pub refused : v.view.refused ≡ 0

-- a phase before the last, or the last one
pub earlier_or_last : (q p : ℕ) → q < suc p → (q < p) ⊎ (q ≡ p)
earlier_or_last q p less = by (cases_eq q p)
  where
    by : (q ≡ p) ⊎ (q ≢ p) → (q < p) ⊎ (q ≡ p)
    by (inl same) = inr same
    by (inr other) = inl (omega (arith, other))

-- the replies of the phases before one
unfoldable pub told_to : (ℕ → Done) → ℕ → List Reply
told_to did zero = []
told_to did (suc p) = told_to did p ++ (did p).told

same_told : (p : ℕ) (did other : ℕ → Done) → ((q : ℕ) → q < p → did q ≡ other q) → told_to did p ≡ told_to other p
unfolding told_to
same_told zero did other same = refl
same_told (suc p) did other same = (λ i. same_told p did other (λ q less. same q (omega arith)) i ++ (same p (omega arith) i).told)

module _ (t : TableView) (script : Script) where
  abbrev shape : Shape
  shape = t.shape

  abbrev its : (p : ℕ) (now : PassView) (replies : List Reply) (starts : List PhaseStart) (pieces : List Piece) → HaveComeTo t script p now replies starts pieces → ℕ → Done
  its p now replies starts pieces come = done_in t script p now replies starts pieces come

  pub facts : (p : ℕ) (now : PassView) (replies : List Reply) (starts : List PhaseStart) (pieces : List Piece) (come : HaveComeTo t script p now replies starts pieces) (q : ℕ) → q < p → IsPhase t script q (its p now replies starts pieces come q)
  facts zero now replies starts pieces come q less = absurd (omega (arith, less))
  facts (suc p) now replies starts pieces come q less = by (earlier_or_last q p less) (facts p come.0 come.2 come.4 come.6 come.8 q)
    where
      at_last : IsPhase t script p (its (suc p) now replies starts pieces come p)
      at_last = subst (IsPhase t script p) (sym (done_last t script p now replies starts pieces come)) (phase_by t script p (lone_cpu (calls_of script p)) refl come.0 come.1 now come.5 come.3 come.7 come.9 come.10)

      before : (q < p) → IsPhase t script q (its p come.0 come.2 come.4 come.6 come.8 q) → IsPhase t script q (its (suc p) now replies starts pieces come q)
      before low was = subst (IsPhase t script q) (sym (done_before t script p now replies starts pieces come q low)) was

      by : (q < p) ⊎ (q ≡ p) → (q < p → IsPhase t script q (its p come.0 come.2 come.4 come.6 come.8 q)) → IsPhase t script q (its (suc p) now replies starts pieces come q)
      by (inl low) rest = before low (rest low)
      by (inr same) rest = subst (λ (r : ℕ). IsPhase t script r (its (suc p) now replies starts pieces come r)) (sym same) at_last

  pub last_is : (p : ℕ) (now : PassView) (replies : List Reply) (starts : List PhaseStart) (pieces : List Piece) (come : HaveComeTo t script (suc p) now replies starts pieces) → (its (suc p) now replies starts pieces come p).now ≡ now
  last_is p now replies starts pieces come = ap (λ (d : Done). d.now) (done_last t script p now replies starts pieces come)

  pub last_of : (q p : ℕ) (now : PassView) (replies : List Reply) (starts : List PhaseStart) (pieces : List Piece) (come : HaveComeTo t script p now replies starts pieces) → suc q ≡ p → now ≡ (its p now replies starts pieces come q).now
  last_of q zero now replies starts pieces come is = absurd (omega (arith, is))
  last_of q (suc p) now replies starts pieces come is =
      let same : q ≡ p = omega (arith, is) in
      sym (last_is p now replies starts pieces come) ∙ ap (λ (r : ℕ). (its (suc p) now replies starts pieces come r).now) (sym same)

  pub chain : (p : ℕ) (now : PassView) (replies : List Reply) (starts : List PhaseStart) (pieces : List Piece) (come : HaveComeTo t script p now replies starts pieces) (q : ℕ) → suc q < p
      → (its p now replies starts pieces come (suc q)).was ≡ (its p now replies starts pieces come q).now
  chain zero now replies starts pieces come q less = absurd (omega (arith, less))
  chain (suc p) now replies starts pieces come q less = by p come (earlier_or_last (suc q) p less) (chain p come.0 come.2 come.4 come.6 come.8 q) (last_of q p come.0 come.2 come.4 come.6 come.8)
    where
      by : (p : ℕ) (come : HaveComeTo t script (suc p) now replies starts pieces) → (suc q < p) ⊎ (suc q ≡ p) → (suc q < p → (its p come.0 come.2 come.4 come.6 come.8 (suc q)).was ≡ (its p come.0 come.2 come.4 come.6 come.8 q).now)
          → (suc q ≡ p → come.0 ≡ (its p come.0 come.2 come.4 come.6 come.8 q).now) → (its (suc p) now replies starts pieces come (suc q)).was ≡ (its (suc p) now replies starts pieces come q).now
      by p come (inl low) rest last =
          ap (λ (d : Done). d.was) (done_before t script p now replies starts pieces come (suc q) low) ∙ rest low ∙ ap (λ (d : Done). d.now) (sym (done_before t script p now replies starts pieces come q (omega (arith, low))))
      by p come (inr same) rest last =
          ap (λ (r : ℕ). (its (suc p) now replies starts pieces come r).was) same ∙ ap (λ (d : Done). d.was) (done_last t script p now replies starts pieces come)
          ∙ last same ∙ ap (λ (d : Done). d.now) (sym (done_before t script p now replies starts pieces come q (omega (arith, same))))

  pub first_is : (p : ℕ) (now : PassView) (replies : List Reply) (starts : List PhaseStart) (pieces : List Piece) (come : HaveComeTo t script (suc p) now replies starts pieces) → IsFirstPass t (its (suc p) now replies starts pieces come 0).was
  first_is zero now replies starts pieces come = subst (IsFirstPass t) (sym (ap (λ (d : Done). d.was) (done_last t script zero now replies starts pieces come))) come.8.0
  first_is (suc p) now replies starts pieces come =
      subst (IsFirstPass t) (sym (ap (λ (d : Done). d.was) (done_before t script (suc p) now replies starts pieces come 0 (omega arith)))) (first_is p come.0 come.2 come.4 come.6 come.8)

  -- Soundness goes back

  sound_before : (q : ℕ) (did : Done) → IsPhase t script q did → IsSound did.now → IsSound did.begun × IsSound did.was
  sound_before q did is sound =
      let begun : IsSound did.begun = record { lost = is.lost sound.lost; refused = (let most = is.refused in let none = sound.refused in omega (arith, most, none)) } in
      (begun, record { lost = sym is.started.stays.lost ∙ begun.lost; refused = sym is.started.stays.refused ∙ begun.refused })

  pub sound_at : (p : ℕ) (now : PassView) (replies : List Reply) (starts : List PhaseStart) (pieces : List Piece) (come : HaveComeTo t script p now replies starts pieces) → IsSound now → (q : ℕ) → q < p → IsSound (its p now replies starts pieces come q).now
  sound_at zero now replies starts pieces come sound q less = absurd (omega (arith, less))
  sound_at (suc p) now replies starts pieces come sound q less = by (earlier_or_last q p less) (λ was low. sound_at p come.0 come.2 come.4 come.6 come.8 was q low)
    where
      here : IsSound (its (suc p) now replies starts pieces come p).now
      here = subst IsSound (sym (last_is p now replies starts pieces come)) sound

      was : IsSound come.0
      was = subst IsSound (ap (λ (d : Done). d.was) (done_last t script p now replies starts pieces come)) (sound_before p (its (suc p) now replies starts pieces come p) (facts (suc p) now replies starts pieces come p (omega arith)) here).1

      by : (q < p) ⊎ (q ≡ p) → (IsSound come.0 → q < p → IsSound (its p come.0 come.2 come.4 come.6 come.8 q).now) → IsSound (its (suc p) now replies starts pieces come q).now
      by (inl low) rest = subst IsSound (ap (λ (d : Done). d.now) (sym (done_before t script p now replies starts pieces come q low))) (rest was low)
      by (inr same) rest = subst (λ (r : ℕ). IsSound (its (suc p) now replies starts pieces come r).now) (sym same) here

  pub sound_begun : (p : ℕ) (now : PassView) (replies : List Reply) (starts : List PhaseStart) (pieces : List Piece) (come : HaveComeTo t script p now replies starts pieces) → IsSound now → (q : ℕ) → q < p
      → IsSound (its p now replies starts pieces come q).begun × IsSound (its p now replies starts pieces come q).was
  sound_begun p now replies starts pieces come sound q less =
      sound_before q (its p now replies starts pieces come q) (facts p now replies starts pieces come q less) (sound_at p now replies starts pieces come sound q less)

  -- Replies, starts and pieces

  pub replies_are : (p : ℕ) (now : PassView) (replies : List Reply) (starts : List PhaseStart) (pieces : List Piece) (come : HaveComeTo t script p now replies starts pieces) → replies ≡ told_to (its p now replies starts pieces come) p
  unfolding told_to
  replies_are zero now replies starts pieces come = come.1
  replies_are (suc p) now replies starts pieces come =
      let rest = replies_are p come.0 come.2 come.4 come.6 come.8 in
      let same = same_told p (its p come.0 come.2 come.4 come.6 come.8) (its (suc p) now replies starts pieces come) (λ q less. sym (done_before t script p now replies starts pieces come q less)) in
      let last : come.3 ≡ (its (suc p) now replies starts pieces come p).told = ap (λ (d : Done). d.told) (sym (done_last t script p now replies starts pieces come)) in
      come.11 ∙ (λ i. (rest ∙ same) i ++ last i)

  pub starts_are : (p : ℕ) (now : PassView) (replies : List Reply) (starts : List PhaseStart) (pieces : List Piece) (come : HaveComeTo t script p now replies starts pieces) → starts ≡ map (λ q. (its p now replies starts pieces come q).start) (range_with_len 0 p)
  starts_are zero now replies starts pieces come = come.2
  starts_are (suc p) now replies starts pieces come =
      let rest = starts_are p come.0 come.2 come.4 come.6 come.8 in
      let same = made_same (λ q. (its p come.0 come.2 come.4 come.6 come.8 q).start) (λ q. (its (suc p) now replies starts pieces come q).start) 0 p (λ q low high. ap (λ (d : Done). d.start) (sym (done_before t script p now replies starts pieces come q (omega arith)))) in
      let last : come.5 ≡ (its (suc p) now replies starts pieces come p).start = ap (λ (d : Done). d.start) (sym (done_last t script p now replies starts pieces come)) in
      let next : suc p ≡ p + 1 = omega arith in
      come.12 ∙ (λ i. (rest ∙ same) i ++ last i ∷ []) ∙ sym (map-range_with_len_more (λ q. (its (suc p) now replies starts pieces come q).start) 0 p p (omega arith))
      ∙ ap (λ (n : ℕ). map (λ q. (its (suc p) now replies starts pieces come q).start) (range_with_len 0 n)) (sym next)

  pieces_of_phase : (p : ℕ) (lone : Option ℕ) (before start now : PassView) (first : PhaseStart) (told : List Reply) (pieces : List Piece) (ran : MatchOption lone (RanAtOnce t script p start now told pieces) (λ cpu. RanAlone t script p cpu start now told pieces))
      → pieces ≡ map piece_of (parts_of t script p lone (done_by t script p lone before start now first told pieces ran))
  pieces_of_phase p None before start now first told pieces ran =
      ran.pieces_are ∙ ap (pieces_by p 0) ran.raced.counts_are ∙ pieces_told p 0 ran.raced.turns ran.raced.kept shape.cpus
  pieces_of_phase p (Some cpu) before start now first told pieces ran =
      let more = kept_more shape ran.worked.made start.view.kept now.view.kept ran.worked.kept in
      let long : length now.view.kept ≡ length start.view.kept + length more.0 = ap length more.1 ∙ length-append start.view.kept more.0 in
      let count : length now.view.kept - length start.view.kept ≡ length more.0 = omega (arith, long) in
      ran.pieces_are ∙ ap (λ (n : ℕ). (record { phase = p; cpu = None; count = n }) ∷ []) (count ∙ ap length (sym (put_here (λ other. []) cpu more.0)))

  pub pieces_are : (p : ℕ) (now : PassView) (replies : List Reply) (starts : List PhaseStart) (pieces : List Piece) (come : HaveComeTo t script p now replies starts pieces) → pieces ≡ map piece_of (parts_to t script (its p now replies starts pieces come) p)
  unfolding parts_to
  pieces_are zero now replies starts pieces come = come.3
  pieces_are (suc p) now replies starts pieces come =
      let did : ℕ → Done = its p come.0 come.2 come.4 come.6 come.8 in
      let rest = pieces_are p come.0 come.2 come.4 come.6 come.8 in
      let here = pieces_of_phase p (lone_cpu (calls_of script p)) come.0 come.1 now come.5 come.3 come.7 come.10 in
      come.13 ∙ (λ i. rest i ++ here i) ∙ sym (map-append piece_of (parts_to t script did p) (parts_of t script p (lone_cpu (calls_of script p)) (done_by t script p (lone_cpu (calls_of script p)) come.0 come.1 now come.5 come.3 come.7 come.10)))
      ∙ ap (map piece_of) (sym (parts_more t script p now replies starts pieces come))
