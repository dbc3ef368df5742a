use Rattle.std.proofs.Common.{◌∙◌, None, Some, Option, ap, sym, subst, length}
use Rattle.std.specs.Prelude.{MatchOption}
use Rattle.std.proofs.lemmas.List.{take_at}
use Rattle.place_words.specs.declared.history.StrandStep.{StrandStep}
use Rattle.place_words.specs.Tickets.{AreTicketed}
use Rattle.record_order.specs.Tickets.{IsFirstFlaw}
use Rattle.record_order.proofs.Judged.{all_real, as_many_leasts, counted_by, few_enough, firsts_count, steps_numbered, told}
use Rattle.record_order.proofs.tickets.ticket_flaw.Goals as goal

pub first_numbers-requires-clause-locks : goal.first_numbers-requires-clause-locks
first_numbers-requires-clause-locks c = all_real c.args.shape.now c.args.histories.now c.args.strands.now c.requires.named

pub first_numbers-requires-clause-counted : goal.first_numbers-requires-clause-counted
first_numbers-requires-clause-counted c =
    counted_by c.args.shape.now c.args.histories.now c.args.strands.now c.requires.named c.in_ok-tickets.tickets.items c.in_ok-tickets.tickets.len c.len.result
    c.in_ok-tickets.ensures c.in_ok-tickets.tickets.ok.0 c.len.ensures

pub raise_for_all-requires-clause-firsts : goal.raise_for_all-requires-clause-firsts
raise_for_all-requires-clause-firsts c =
    ap length (c.as_slice-2.ensures.value ∙ c.in_ok-firsts.ensures) ∙ firsts_count c.args.shape.now c.args.histories.now

pub raise_for_all-requires-clause-long : goal.raise_for_all-requires-clause-long
raise_for_all-requires-clause-long c =
    as_many_leasts c.args.shape.now c.args.histories.now c.args.strands.now c.requires.named c.as_slice.result.now c.as_mut_slice.result.now
    (c.as_slice.ensures.value ∙ c.in_ok-tickets.ensures) (c.as_mut_slice.ensures.value ∙ c.in_ok-leasts.ensures)

pub raise_for_all-requires-clause-numbered : goal.raise_for_all-requires-clause-numbered
raise_for_all-requires-clause-numbered c =
    steps_numbered c.args.shape.now c.args.histories.now c.args.strands.now c.requires.named c.as_slice.result.now c.as_slice-2.result.now
    (c.as_slice.ensures.value ∙ c.in_ok-tickets.ensures) (c.as_slice-2.ensures.value ∙ c.in_ok-firsts.ensures)

pub first_wrong-requires : goal.first_wrong-requires
first_wrong-requires c = record {
  long = c.as_slice-4.ensures.len ∙ (sym c.as_mut_slice.ensures.len
      ∙ as_many_leasts c.args.shape.now c.args.histories.now c.args.strands.now c.requires.named c.as_slice-3.result.now c.as_mut_slice.result.now
      (c.as_slice-3.ensures.value ∙ c.in_ok-tickets.ensures) (c.as_mut_slice.ensures.value ∙ c.in_ok-leasts.ensures));
}

pub returns-in-None : goal.returns-in-None
returns-in-None c =
    let now = c.raise_for_all.new.leasts in
    let whole = take_at now _ c.in_ok-leasts.leasts.len (c.raise_for_all.auto.leasts ∙ c.as_mut_slice.ensures.len) in
    told c.args.shape.now c.args.histories.now c.args.strands.now c.requires.named c.as_slice.result.now c.as_slice-2.result.now c.as_mut_slice.result.now c.as_slice-3.result.now c.as_slice-4.result.now
    (c.as_slice.ensures.value ∙ c.in_ok-tickets.ensures) (c.as_slice-2.ensures.value ∙ c.in_ok-firsts.ensures) (c.as_mut_slice.ensures.value ∙ c.in_ok-leasts.ensures)
    (c.as_slice-3.ensures.value ∙ c.in_ok-tickets.ensures) (c.as_slice-4.ensures.value ∙ (whole ∙ c.raise_for_all.ensures))
    (few_enough c.as_slice-3.result.now c.in_ok-tickets.tickets.len c.in_ok-tickets.tickets.cap c.as_slice-3.ensures.len c.in_ok-tickets.tickets.ok.1 c.in_ok-tickets.tickets.small)
    None (sym c.in-None.is ∙ c.in_ok-first_wrong.ensures)

pub returns : goal.returns
returns c =
    let now = c.raise_for_all.new.leasts in
    let whole = take_at now _ c.in_ok-leasts.leasts.len (c.raise_for_all.auto.leasts ∙ c.as_mut_slice.ensures.len) in
    let hs = c.args.histories.now in
    let strands = c.args.strands.now in
    subst (λ (place : Option StrandStep). MatchOption place (AreTicketed hs strands) (λ p. IsFirstFlaw hs strands p × (AreTicketed hs strands → ⊥))) (sym c.place_of.ensures)
    (told c.args.shape.now hs strands c.requires.named c.as_slice.result.now c.as_slice-2.result.now c.as_mut_slice.result.now c.as_slice-3.result.now c.as_slice-4.result.now
    (c.as_slice.ensures.value ∙ c.in_ok-tickets.ensures) (c.as_slice-2.ensures.value ∙ c.in_ok-firsts.ensures) (c.as_mut_slice.ensures.value ∙ c.in_ok-leasts.ensures)
    (c.as_slice-3.ensures.value ∙ c.in_ok-tickets.ensures) (c.as_slice-4.ensures.value ∙ (whole ∙ c.raise_for_all.ensures))
    (few_enough c.as_slice-3.result.now c.in_ok-tickets.tickets.len c.in_ok-tickets.tickets.cap c.as_slice-3.ensures.len c.in_ok-tickets.tickets.ok.1 c.in_ok-tickets.tickets.small)
    (Some c.in-Some.number) (sym c.in-Some.is ∙ c.in_ok-first_wrong.ensures))
