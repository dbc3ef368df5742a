-- Words that were read are taken where the options may stand in the mode.
use Rattle.std.proofs.Common.{◌≡◌, ◌∙◌, ◌&&◌, sym, ap, ap₂, ℕ, true, false, List, Result, Ok, Err, IfOk, IfErr}
use Rattle.std.specs.Prelude.{IsErrOf, IsTrue}
use Rattle.std.proofs.Math.Bool.{and-false}
use Rattle.run_words.specs.Words.{are_read, are_words, may_stand, mode_of, options_of}
use Rattle.run_words.specs.declared.words.Asked.{Asked}
use Rattle.run_words.specs.declared.words.WordsStop.{WordsStop}
use Rattle.run_words.specs.declared.words.WordsStop.TheVariants.{Other}

pub other_read : (words : List (List ℕ)) → are_read words ≡ false → are_words words ≡ false
other_read words bad = ap (λ b. b && may_stand (mode_of words) (options_of words)) bad

module _ (words : List (List ℕ)) (asked : Asked) (options : asked.options ≡ options_of words) (mode : asked.mode ≡ mode_of words) where
  same_test : may_stand (mode_of words) (options_of words) ≡ may_stand asked.mode asked.options
  same_test = ap₂ may_stand (sym mode) (sym options)

  pub taken_so : (r : Result Asked WordsStop) → are_read words ≡ true → IfOk r (λ taken. (taken ≡ asked) × IsTrue (may_stand asked.mode asked.options))
      → IfOk r (λ taken. IsTrue (are_words words) × (taken.options ≡ options_of words) × (taken.mode ≡ mode_of words))
  taken_so (Err stop) read is = tt
  taken_so (Ok taken) read is = (ap₂ ◌&&◌ read (same_test ∙ is.1), ap (λ a. a.options) is.0 ∙ options, ap (λ a. a.mode) is.0 ∙ mode)

  pub other_so : (r : Result Asked WordsStop) → IfErr r (λ stop. may_stand asked.mode asked.options ≡ false) → IsErrOf r Other → are_words words ≡ false
  other_so (Ok taken) not_taken is = absurd cc
  other_so (Err stop) not_taken is = ap (λ b. are_read words && b) (same_test ∙ not_taken) ∙ and-false (are_read words)
