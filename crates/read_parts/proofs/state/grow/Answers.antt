-- `grow`: nothing; or a carriage return that waited stays, and then the bytes, but a carriage return at their end. Assumes nothing.
use Rattle.std.proofs.Common.{refl}
use Rattle.read_parts.specs.declared.state.Tail.TheVariants.{Fits, Waits}
use Rattle.read_parts.specs.State.{waiting}
use Rattle.read_parts.proofs.ReturnLaws.{returned, plain}
use Rattle.read_parts.proofs.StoreLaws.{stores_as, grows_none, stores_ready, stores_then}
use Rattle.read_parts.proofs.state.grow.Goals as goal

pub returns-in_default : goal.returns-in_default
returns-in_default c = grows_none _ _ _ c.requires.within c.in_default.ensures.cases

pub store-requires : goal.store-requires
store-requires c = stores_ready c.requires c.settle-settled.ensures

pub returns-then-last-eq13 : goal.returns-then-last-eq13
returns-then-last-eq13 c =
    let e = returned (waiting c.args.state.tail) _ _ c.in-Some.ensures.cases.0 c.if-last-eq13.true in
    stores_as e.0 e.1 (stores_then (λ u. c.in-Some.before.now) (λ u. Waits) refl c.requires c.settle-settled.ensures c.store.ensures)

pub store-requires-else-last-eq13 : goal.store-requires-else-last-eq13
store-requires-else-last-eq13 c = stores_ready c.requires c.settle-settled.ensures

pub returns-else-last-eq13 : goal.returns-else-last-eq13
returns-else-last-eq13 c =
    let e = plain (waiting c.args.state.tail) _ _ c.in-Some.ensures.cases.0 c.if-last-eq13.false in
    stores_as e.0 e.1
    (stores_then (λ u. c.args.bytes.now) (λ u. Fits) refl c.requires c.settle-settled.ensures c.store-else-last-eq13.ensures)
