use Rattle.std.proofs.Common.{◌<◌, ◌∙◌, ap, sym, length, arith}
use Rattle.place_words.specs.Interleaving.{bucket_around, bucket_of_lock}
use Rattle.step_check.specs.Begun.{turns_of}
use Rattle.step_check.proofs.Enclosing.{HasOuter}
use Rattle.step_check.proofs.LocksTaken.{lock_told, outer_told_none, outer_told_some, outer_within, place_told}
use Rattle.step_check.proofs.TurnRuns.{bucket_told}
use Rattle.step_check.proofs.flaw.bucket_around.Goals as goal

pub index-requires-in-Some : goal.index-requires-in-Some
index-requires-in-Some c =
    let has : HasOuter (turns_of c.args.histories.now c.args.turns.now) c.args.ticket c.in-Some.outer = outer_told_some c.args.histories.now c.args.turns.now c.args.ticket c.in-Some.outer c.index.result.now _ c.requires.turns c.requires.within c.index.ensures c.in-Some.is in
    let within : c.in-Some.outer < length c.args.turns.now.places.items = outer_within c.args.histories.now c.args.turns.now c.args.ticket c.in-Some.outer has in
    omega (arith, within, c.args.turns.now.places.ok.0)

pub lock_at-requires : goal.lock_at-requires
lock_at-requires c =
    let has : HasOuter (turns_of c.args.histories.now c.args.turns.now) c.args.ticket c.in-Some.outer = outer_told_some c.args.histories.now c.args.turns.now c.args.ticket c.in-Some.outer c.index.result.now _ c.requires.turns c.requires.within c.index.ensures c.in-Some.is in
    let within : c.in-Some.outer < length c.args.turns.now.places.items = outer_within c.args.histories.now c.args.turns.now c.args.ticket c.in-Some.outer has in
    place_told c.args.histories.now c.args.turns.now c.in-Some.outer c.index-in-Some.result.now _ c.requires.turns within c.index-in-Some.ensures

pub returns-in-Some : goal.returns-in-Some
returns-in-Some c =
    let has : HasOuter (turns_of c.args.histories.now c.args.turns.now) c.args.ticket c.in-Some.outer = outer_told_some c.args.histories.now c.args.turns.now c.args.ticket c.in-Some.outer c.index.result.now _ c.requires.turns c.requires.within c.index.ensures c.in-Some.is in
    let within : c.in-Some.outer < length c.args.turns.now.places.items = outer_within c.args.histories.now c.args.turns.now c.args.ticket c.in-Some.outer has in
    c.bucket_of.ensures ∙ (ap bucket_of_lock (lock_told c.args.histories.now c.args.turns.now c.in-Some.outer c.index-in-Some.result.now _ c.lock_at.result within c.index-in-Some.ensures c.lock_at.ensures)
    ∙ sym (bucket_told (turns_of c.args.histories.now c.args.turns.now) c.args.ticket c.in-Some.outer has))

pub returns-in-None : goal.returns-in-None
returns-in-None c =
    sym (ap bucket_around (outer_told_none c.args.histories.now c.args.turns.now c.args.ticket c.index.result.now _ c.requires.turns c.requires.within c.index.ensures c.in-None.is))
