use Rattle.std.proofs.Common.{◌≡◌, ℕ, ◌<◌, List, [], get_or, eqb, ap, ◌∙◌, subst}
use Rattle.std.specs.Prelude.{filter}
use Rattle.call_check.specs.Spares.{AreSpares, changes_of}
use Rattle.call_check.specs.declared.changes.Change.{Change}
use Rattle.call_check.proofs.SparesAre.{own_low, own_rise, spares_are}
use Rattle.call_check.proofs.spares.spares_of.Goals as goal

pub returns : goal.returns
returns c =
    let sorted : List Change = c.in_ok-sorted.sorted.items in
    let slice : c.as_slice-2.result.now ≡ sorted = c.as_slice-2.ensures.value in
    let cuts : List ℕ = c.as_slice.result.now in
    let own : (cpu : ℕ) → cpu < c.args.script.now.shape.cpus → get_or c.in_ok-changes.changes.items cpu [] ≡ filter (λ (change : Change). eqb change.cpu cpu) sorted =
    λ cpu within. c.in_ok-changes.ensures.own cpu within ∙ ap (filter (λ (change : Change). eqb change.cpu cpu)) slice in
    subst (λ (l : List ℕ). AreSpares l c.args.script.now.shape c.args.histories.now c.in_ok-first.first.items c.in_ok-changes.changes.items) c.as_slice.ensures
    (record {
      first_is = c.in_ok-first.ensures;
      each = c.in_ok-changes.ensures.each;
      rise = own_rise sorted c.in_ok-changes.changes.items c.args.script.now.shape.cpus c.in_ok-changes.ensures.each c.in_ok-sorted.ensures.rise own;
      low = own_low sorted c.in_ok-changes.changes.items (changes_of cuts c.args.histories.now) c.args.script.now.shape.cpus c.in_ok-changes.ensures.each c.in_ok-sorted.ensures.low own;
      exact = spares_are cuts c.args.script.now.shape c.args.histories.now c.in_ok-first.first.items sorted c.in_ok-changes.changes.items c.in_ok-first.ensures c.in_ok-sorted.ensures.rise c.in_ok-sorted.ensures.same own;
    })
