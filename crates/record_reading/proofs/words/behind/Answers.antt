use Rattle.std.proofs.Common.{◌≡◌, ◌∙◌, sym, ap, not, take, length, List, ℕ, Some}
use Rattle.std.proofs.lemmas.Slice.Eq.{bytes_eq-Decides}
use Rattle.record_reading.proofs.LeafLemmas.{behind_is, behind_not, not_false}
use Rattle.record_reading.proofs.words.behind.Goals as goal

pub returns-then-ne : goal.returns-then-ne
returns-then-ne c =
    behind_not c.args.word.now c.args.text.now
    (λ e. let d = bytes_eq-Decides c.split_at.result.0.now c.args.word.now in absurd (cc (sym c.if-ne.true ∙ c.ne.ensures ∙ ap not (d.1 (c.split_at.ensures.front ∙ e)))))

pub returns : goal.returns
returns c =
    let d = bytes_eq-Decides c.split_at.result.0.now c.args.word.now in
    let e : take (length c.args.word.now) c.args.text.now ≡ c.args.word.now = sym c.split_at.ensures.front ∙ d.0 (not_false _ (sym c.ne.ensures ∙ c.if-ne.false)) in
    behind_is c.args.word.now c.args.text.now e ∙ ap (λ (r : List ℕ). Some r) (sym c.split_at.ensures.back)
