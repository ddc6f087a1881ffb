-- The token that was reserved is put, and one that comes back is reserved again.
use Rattle.std.proofs.Common.{None, Some, ap, refl, subst, sym, ◌∙◌}
use Rattle.kfifo_live.specs.declared.tokens.Put.TheVariants as P
use Rattle.kfifo_live.specs.Calls.{IsDisturbed}
use Rattle.kfifo_pool.specs.Cells.{with_reserved}
use Rattle.kfifo_pool.specs.Pooled.{Pooled, all_free, pass_of}
use Rattle.kfifo_pool.proofs.CellCalls.{published}
use Rattle.kfifo_pool.proofs.handle.PooledHandle.publish_cell.Goals as goal

pub returns-in-Done-clause-did : goal.returns-in-Done-clause-did
returns-in-Done-clause-did g c =
    let T = g.row.T.Denot in let f = c.self.inside in
    let inside : Pooled T = record { held = f.handle; free = all_free f.free; cells = f.cells } in
    let e = c.in-Done.ensures in
    published P.Done None c.in-Some.token inside c.args.self.now c.put.new.self c.take_reserved.new.self c.self.view_is
    (sym c.in-Some.ensures.0)
    (record { same = e.same; puts = e.puts; starts = e.starts; promise = e.promise }) c.in-Some.ensures.1

pub returns-in-Full-clause-did : goal.returns-in-Full-clause-did
returns-in-Full-clause-did g c =
    let T = g.row.T.Denot in let f = c.self.inside in
    let inside : Pooled T = record { held = f.handle; free = all_free f.free; cells = f.cells } in
    let e = c.in-Full.ensures in let back = c.in-Full.back in (
      back,
      published (P.Full back) (Some back) c.in-Some.token inside c.args.self.now c.put.new.self c.keep_reserved.new.self
          c.self.view_is (sym c.in-Some.ensures.0)
          (record { same = e.same; puts = e.puts; starts = e.starts; promise = e.promise })
          (c.keep_reserved.ensures ∙ ap (with_reserved (Some back)) c.in-Some.ensures.1),
    )

pub returns-in-Busy-clause-did : goal.returns-in-Busy-clause-did
returns-in-Busy-clause-did g c =
    let T = g.row.T.Denot in let f = c.self.inside in
    let inside : Pooled T = record { held = f.handle; free = all_free f.free; cells = f.cells } in
    let e = c.in-Busy.ensures in let back = c.in-Busy.back in (
      back,
      published (P.Busy back) (Some back) c.in-Some.token inside c.args.self.now c.put.new.self
          c.keep_reserved-in-Busy.new.self c.self.view_is (sym c.in-Some.ensures.0)
          (record { same = e.same; puts = e.puts; starts = e.starts; promise = e.promise })
          (c.keep_reserved-in-Busy.ensures ∙ ap (with_reserved (Some back)) c.in-Some.ensures.1),
      subst (λ (o : Pooled T). IsDisturbed (pass_of o.held) (pass_of c.put.new.self)) c.self.view_is (e.busy back refl),
    )

pub returns-in-Worn-clause-did : goal.returns-in-Worn-clause-did
returns-in-Worn-clause-did g c =
    let T = g.row.T.Denot in let f = c.self.inside in
    let inside : Pooled T = record { held = f.handle; free = all_free f.free; cells = f.cells } in
    let e = c.in-Worn.ensures in let back = c.in-Worn.back in (
      back,
      published (P.Worn back) (Some back) c.in-Some.token inside c.args.self.now c.put.new.self
          c.keep_reserved-in-Worn.new.self c.self.view_is (sym c.in-Some.ensures.0)
          (record { same = e.same; puts = e.puts; starts = e.starts; promise = e.promise })
          (c.keep_reserved-in-Worn.ensures ∙ ap (with_reserved (Some back)) c.in-Some.ensures.1),
    )
