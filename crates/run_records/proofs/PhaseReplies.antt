-- The replies of a race, phase after phase.
use Rattle.std.proofs.Common.{◌≡◌, ℕ, zero, suc, ◌+◌, ◌-◌, ◌<◌, ◌≤◌, List, [], ◌∷◌, ◌++◌, length, take, drop, refl, ap, sym, ◌∙◌, subst, arith, append_assoc, append-nil}
use Rattle.std.proofs.lemmas.List.{length-append, take_all}
use Rattle.std.proofs.Math.Seq.{drop-append_seam, take-append_seam}
use Rattle.map_types.specs.declared.attr.Shape.{Shape}
use Rattle.map_types.specs.declared.call.Call.{Call}
use Rattle.map_types.specs.declared.reply.Reply.{Reply}
use Rattle.map_script.specs.declared.script.Script.{Script}
use Rattle.place_words.specs.Phases.{phase_count, calls_before, of_phase}
use Rattle.map_report.specs.Record.{EachAnswered}
use Rattle.map_report.proofs.CutLemmas.{Rise, next_phase, last_end}
use Rattle.map_report.proofs.RunCuts.{take_more, phase_long}
use Rattle.run_records.specs.Races.{first_of, calls_of}
use Rattle.run_records.proofs.PhaseParts.{Done}
use Rattle.run_records.proofs.PhaseChain.{told_to}

answered_both : (shape : Shape) (calls more : List Call) (replies others : List Reply) → EachAnswered shape calls replies → EachAnswered shape more others → EachAnswered shape (calls ++ more) (replies ++ others)
answered_both shape [] more [] others first second = second
answered_both shape [] more (reply ∷ replies) others first second = absurd first
answered_both shape (call ∷ calls) more [] others first second = absurd first
answered_both shape (call ∷ calls) more (reply ∷ replies) others first second = (first.0, answered_both shape calls more replies others first.1 second)

none_taken : {A : Type 0} (xs : List A) → take 0 xs ≡ []
none_taken [] = refl
none_taken (x ∷ xs) = refl

module _ (script : Script) (cuts : Rise 0 script.cuts (length script.calls)) (did : ℕ → Done) (p : ℕ) (counts : (q : ℕ) → q < p → length (did q).told ≡ length (calls_of script q)) where
  abbrev at : ℕ → ℕ
  at q = first_of script q

  up : (q : ℕ) → at q ≤ at (suc q)
  up q = next_phase script.cuts (length script.calls) cuts q

  told_long : (q : ℕ) → q ≤ p → length (told_to did q) ≡ at q
  unfolding told_to
  told_long zero low = refl
  told_long (suc q) low =
      let before = told_long q (omega (arith, low)) in
      let here = counts q (omega (arith, low)) in
      let long = phase_long script cuts q in
      let more = up q in
      length-append (told_to did q) (did q).told ∙ omega (arith, before, here, long, more)

  told_from : (q d n : ℕ) → n ≡ d + q → (rest : List Reply) × (told_to did n ≡ told_to did q ++ rest)
  unfolding told_to
  told_from q zero n is = let same : n ≡ q = omega (arith, is) in ([], ap (told_to did) same ∙ sym (append-nil (told_to did q)))
  told_from q (suc d) zero is = absurd (omega (arith, is))
  told_from q (suc d) (suc n) is =
      let rest = told_from q d n (omega (arith, is)) in
      (rest.0 ++ (did n).told, ap (λ (l : List Reply). l ++ (did n).told) rest.1 ∙ append_assoc (told_to did q) rest.0 (did n).told)

  -- those of a phase are what it was told
  pub told_is : p ≡ phase_count script.cuts → (replies : List Reply) → replies ≡ told_to did p → (q : ℕ) → q < p → (did q).told ≡ of_phase script.cuts q replies
  unfolding told_to
  told_is last replies are q less =
      let rest = told_from (suc q) (p - suc q) p (omega (arith, less)) in
      let all : length replies ≡ length script.calls = ap length are ∙ told_long p (omega arith) ∙ ap at last ∙ last_end script.cuts (length script.calls) cuts in
      let before : length (told_to did q) ≡ at q = told_long q (omega (arith, less)) in
      let mine : length (did q).told ≡ at (suc q) - at q = counts q less ∙ phase_long script cuts q in
      let parts : replies ≡ told_to did q ++ ((did q).told ++ rest.0) = are ∙ rest.1 ∙ append_assoc (told_to did q) (did q).told rest.0 in
      sym (ap (λ (n : ℕ). take (calls_before script.cuts n (suc q) - calls_before script.cuts n q) (drop (calls_before script.cuts n q) replies)) all
      ∙ ap (λ (l : List Reply). take (at (suc q) - at q) (drop (at q) l)) parts
      ∙ ap (λ (n : ℕ). take (at (suc q) - at q) (drop n (told_to did q ++ ((did q).told ++ rest.0)))) (sym before)
      ∙ ap (take (at (suc q) - at q)) (drop-append_seam (told_to did q) ((did q).told ++ rest.0))
      ∙ ap (λ (n : ℕ). take n ((did q).told ++ rest.0)) (sym mine)
      ∙ take-append_seam (did q).told rest.0)

  -- each call is answered, where each of each phase is
  answered_to : ((q : ℕ) → q < p → EachAnswered script.shape (calls_of script q) (did q).told) → (q : ℕ) → q ≤ p → EachAnswered script.shape (take (at q) script.calls) (told_to did q)
  unfolding told_to
  answered_to each zero low = subst (λ (calls : List Call). EachAnswered script.shape calls []) (sym (none_taken script.calls)) tt
  answered_to each (suc q) low =
      subst (λ (calls : List Call). EachAnswered script.shape calls (told_to did q ++ (did q).told)) (sym (take_more (at q) (at (suc q)) script.calls (up q)))
      (answered_both script.shape (take (at q) script.calls) (calls_of script q) (told_to did q) (did q).told (answered_to each q (omega (arith, low))) (each q (omega (arith, low))))

  pub all_answered : p ≡ phase_count script.cuts → (replies : List Reply) → replies ≡ told_to did p → ((q : ℕ) → q < p → EachAnswered script.shape (calls_of script q) (did q).told) → EachAnswered script.shape script.calls replies
  all_answered last replies are each =
      subst (λ (z : List Call × List Reply). EachAnswered script.shape z.0 z.1)
      (λ i. ((ap (λ (n : ℕ). take n script.calls) (ap at last ∙ last_end script.cuts (length script.calls) cuts) ∙ take_all (length script.calls) script.calls (omega arith)) i, sym are i))
      (answered_to each p (omega arith))
