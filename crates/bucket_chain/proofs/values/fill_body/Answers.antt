use Rattle.std.proofs.Common.{◌≡◌, subst, sym, rules}
use Rattle.map_types.specs.Stored.{Stored, IsSized}
use Rattle.place_words.specs.Buckets.{new_stored}
use Rattle.bucket_chain.proofs.SizeLaws.{new_sized}
use Rattle.bucket_chain.proofs.values.fill_body.Goals as goal

pub returns-clause-sized : goal.returns-clause-sized
returns-clause-sized c =
    let shape = c.args.shape.now in
    let new : Stored = new_stored shape c.args.side c.args.cpu c.args.body.now.element c.args.key.now c.args.value.now in
    let is : c.fill_values.new.body ≡ new = search rules in
    subst (λ (body : Stored). IsSized shape body) (sym is)
    (new_sized shape c.args.side c.args.cpu c.args.body.now.element c.args.key.now c.args.value.now c.requires.key c.requires.value)
