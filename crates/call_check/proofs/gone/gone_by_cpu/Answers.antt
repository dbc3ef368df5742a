use Rattle.std.proofs.Common.{◌≡◌, ℕ, ◌<◌, ◌++◌, ◌∷◌, [], Bool, List, map, refl, ap, sym, ◌∙◌, arith}
use Rattle.std.specs.List.{range_with_len}
use Rattle.std.proofs.lemmas.List.FromFn.{map-range_with_len_more}
use Rattle.map_types.specs.declared.kind.DomainId.TheVariants.{Local}
use Rattle.place_words.specs.Named.{entries_of}
use Rattle.call_check.specs.GoneTables.{local_lists}
use Rattle.call_check.specs.Moved.{were_gone}
use Rattle.call_check.proofs.ListPlaces.{local_read, some_local}
use Rattle.call_check.proofs.gone.gone_by_cpu.Goals as goal

pub bounds-histories-cpu : goal.bounds-histories-cpu
bounds-histories-cpu c =
    let shape = c.args.shape.now in
    let less : c.loop-cpu.cpu < local_lists shape = omega (arith, c.local_lists-cpu-end.ensures) in
    let some = some_local shape shape.common c.loop-cpu.cpu refl less in
    (local_read shape c.args.histories.now c.requires.locks some.0 c.loop-cpu.cpu some.1 (record { lock = Local 0; entries = [] })).0

pub were_gone-requires : goal.were_gone-requires
were_gone-requires c =
    let shape = c.args.shape.now in
    let less : c.loop-cpu.cpu < local_lists shape = omega (arith, c.local_lists-cpu-end.ensures) in
    let some = some_local shape shape.common c.loop-cpu.cpu refl less in
    let within = (local_read shape c.args.histories.now c.requires.locks some.0 c.loop-cpu.cpu some.1 (record { lock = Local 0; entries = [] })).0 in
    c.requires.elements c.loop-cpu.cpu c.index-histories-cpu.result within

pub loop-cpu-preserved : goal.loop-cpu-preserved
loop-cpu-preserved c =
    let shape = c.args.shape.now in
    let histories = c.args.histories.now in
    let cpu : ℕ = c.loop-cpu.cpu in
    let less : cpu < local_lists shape = omega (arith, c.local_lists-cpu-end.ensures) in
    let some = some_local shape shape.common cpu refl less in
    let read = (local_read shape histories c.requires.locks some.0 cpu some.1 c.index-histories-cpu.result).1 in
    let gone : ℕ → List Bool = λ cpu. were_gone (entries_of histories (Local cpu)) in
    let same : c.in_ok-gone.gone.items ≡ gone cpu = c.in_ok-gone.ensures ∙ ap were_gone read in
    ◌∙◌ {A = List (List Bool)} c.in_ok-push.ensures.items
    (ap (λ (l : List (List Bool)). l ++ c.of.result ∷ []) c.loop-cpu.invariant
    ∙ (ap (λ (l : List Bool). map gone (range_with_len 0 cpu) ++ l ∷ []) (c.of.ensures ∙ same)
    ∙ sym (map-range_with_len_more gone 0 cpu cpu (omega arith))))
