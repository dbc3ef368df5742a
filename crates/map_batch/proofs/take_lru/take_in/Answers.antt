use Rattle.std.proofs.Common.{ap, sym, subst}
use Rattle.map_types.proofs.CreationLemmas.{bounds_of_shape}
use Rattle.map_types.specs.Creation.{IsShape}
use Rattle.map_types.specs.Shape.{HasBounds}
use Rattle.percpu_values.specs.BodyList.{BodyList}
use Rattle.place_table.specs.Passes.{TableView}
use Rattle.map_batch.specs.LruTakes.{TakesInto}
use Rattle.map_batch.proofs.LruWhole.{can_free_all, takes_in, empty_again}
use Rattle.map_batch.proofs.take_lru.take_in.Goals as goal

pub free_all-requires : goal.free_all-requires
free_all-requires g c =
    (c.type_bounds.sync-G, can_free_all c.requires.can (subst (λ (z : TableView). TakesInto z c.args.bucket c.args.pass.now c.take_out-whole.new.pass c.take_out-whole.result c.args.taking.now.out c.take_out-whole.new.taking.out c.take_out-whole.new.taking.gone.bodies) c.table.ensures.value c.take_out-whole.ensures.takes))

pub returns-clause-takes : goal.returns-clause-takes
returns-clause-takes g c =
    takes_in c.requires.can (subst (λ (z : TableView). TakesInto z c.args.bucket c.args.pass.now c.take_out-whole.new.pass c.take_out-whole.result c.args.taking.now.out c.take_out-whole.new.taking.out c.take_out-whole.new.taking.gone.bodies) c.table.ensures.value c.take_out-whole.ensures.takes)
    c.table.ensures.evicts c.free_all.ensures.freed

pub returns-clause-gone : goal.returns-clause-gone
returns-clause-gone g c = empty_again c.take_out-whole.new.taking.gone (ap (λ (s : BodyList). s.bodies) c.requires.gone) c.free_all.ensures.empty c.take_out-whole.ensures.room

pub take_out-whole-requires-clause-shape : goal.take_out-whole-requires-clause-shape
take_out-whole-requires-clause-shape g c κs within = subst (λ (z : TableView). IsShape z.shape) (sym c.table.ensures.value) c.table.ensures.shape

pub take_out-whole-requires-clause-bounds : goal.take_out-whole-requires-clause-bounds
take_out-whole-requires-clause-bounds g c κs within = subst (λ (z : TableView). HasBounds z.shape) (sym c.table.ensures.value) (bounds_of_shape c.args.map.now.shape c.table.ensures.shape)
