-- The next batch is filled from the tokens that are left.
use Rattle.std.proofs.Common.{refl}
use Rattle.kfifo_pool.specs.Pooled.{in_list}
use Rattle.kfifo_pool.proofs.Lists.{fills_of}
use Rattle.kfifo_pool.proofs.pool.PooledQueue.lay_all.Goals as goal

pub lay-requires : goal.lay-requires
lay-requires g c =
    let i = c.loop-place.invariant in let f = c.fill_list.ensures in
    (fills_of c.args.self.now (in_list c.loop-place.list) (in_list c.fill_list.new.list) c.loop-place.tokens.items
    c.fill_list.new.tokens.items f.0 f.1 f.2 i.rest i.list).1

pub loop-place-preserved : goal.loop-place-preserved
loop-place-preserved g c =
    let i = c.loop-place.invariant in let f = c.fill_list.ensures in
    record {
      same = refl;
      rest = (fills_of c.args.self.now (in_list c.loop-place.list) (in_list c.fill_list.new.list)
          c.loop-place.tokens.items c.fill_list.new.tokens.items f.0 f.1 f.2 i.rest i.list).0;
      list = c.lay.ensures.of;
    }
