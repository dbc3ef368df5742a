use Rattle.std.proofs.Common.{◌≡◌, ◌∷◌, ◌<◌, ℕ, List, Some, length, ap, sym, ◌∙◌, arith}
use Rattle.std.specs.Prelude.{remove, slice_get}
use Rattle.map_types.specs.Stored.{Stored}
use Rattle.percpu_values.specs.BodyList.{BodyList}
use Rattle.place_words.specs.Bodies.{present, without_key}
use Rattle.bucket_chain.specs.Places.{key_at}
use Rattle.bucket_chain.proofs.ByKey.{holds_its_key, removed_its_key}
use Rattle.bucket_chain.proofs.Changes.{distinct_as, replaced_distinct, replaced_long, never_none}
use Rattle.bucket_chain.proofs.chain.Chain.replace_head.Goals as goal

pub unreachable-requires : goal.unreachable-requires
unreachable-requires c =
    let seen = ap (λ (list : BodyList). list.bodies) c.self.view_is in
    let within : c.args.place < length c.self.inside.cells = omega (arith, ap length seen, c.requires.at_body) in
    never_none c.self.inside.cells c.args.place within (sym c.replace.ensures.taken ∙ c.in-None.is)

pub invariant_of-self : goal.invariant_of-self
invariant_of-self c =
    let cells = c.self.inside.cells in
    let seen = ap (λ (list : BodyList). list.bodies) c.self.view_is in
    let within : c.args.place < length cells = omega (arith, ap length seen, c.requires.at_body) in
    let same : key_at c.args.place cells ≡ c.args.body.key = ap (key_at c.args.place) seen ∙ c.requires.same_key in
    let distinct = replaced_distinct cells c.replace.new.self c.args.place c.args.body c.replace.ensures.bodies c.self.invariant.0 within same in
    let long = replaced_long cells c.replace.new.self c.args.place c.args.body c.replace.ensures.bodies within in
    (distinct, omega (arith, long, c.self.invariant.1), c.self.invariant.2)

pub returns-clause-holder : goal.returns-clause-holder
returns-clause-holder c =
    let bodies = c.args.self.now.bodies in
    let seen = ap (λ (list : BodyList). list.bodies) c.self.view_is in
    let distinct = distinct_as c.self.inside.cells bodies (sym seen) c.self.invariant.0 in
    let taken : slice_get bodies c.args.place ≡ Some c.in-Some.old = ap (λ now. slice_get now c.args.place) (sym seen) ∙ sym c.replace.ensures.taken ∙ c.in-Some.is in
    ap (λ (key : List ℕ). present key bodies) (sym c.requires.same_key) ∙ sym (holds_its_key c.args.place bodies distinct c.requires.at_body) ∙ taken

pub returns-clause-of_key : goal.returns-clause-of_key
returns-clause-of_key c =
    let bodies = c.args.self.now.bodies in
    let seen = ap (λ (list : BodyList). list.bodies) c.self.view_is in
    let distinct = distinct_as c.self.inside.cells bodies (sym seen) c.self.invariant.0 in
    c.replace.ensures.bodies ∙ ap (λ (now : List Stored). c.args.body ∷ remove now c.args.place) seen
    ∙ ap (λ (rest : List Stored). c.args.body ∷ rest) (removed_its_key c.args.place bodies distinct c.requires.at_body)
    ∙ ap (λ (key : List ℕ). c.args.body ∷ without_key key bodies) c.requires.same_key
