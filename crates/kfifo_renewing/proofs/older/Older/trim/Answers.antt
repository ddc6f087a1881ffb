-- There is no cell in the last one, or there is no such part.
use Rattle.std.proofs.Common.{◌-◌, All, arith, subst, sym}
use Rattle.std.proofs.lemmas.List.{drop_all}
use Rattle.std.proofs.lemmas.List.Elements.{All-nil}
use Rattle.kfifo_renewing.specs.Joining.{HasNoCell}
use Rattle.kfifo_renewing.proofs.NoCells.{all-from-at}
use Rattle.kfifo_renewing.proofs.older.Older.trim.Goals.{else-last-len-via-then-last-len+else-has_cell}
use Rattle.kfifo_renewing.proofs.older.Older.trim.Goals.{else-last-len-via-else-last-len}
use Rattle.kfifo_renewing.proofs.older.Older.trim.Goals as goal

pub loop-self-preserved : goal.loop-self-preserved
loop-self-preserved g c =
    let s = c.loop-self.self-inside in
    let ps = s.parts.items in record {
      parts = c.loop-self.invariant.parts;
      none = elim c.else-last-len.branch [
        | else-last-len-via-then-last-len+else-has_cell w ↦
            all-from-at HasNoCell ps s.with_cells w.index.result.now w.index.result.now c.loop-self-test.true
            (omega (arith, w.if-last-len.true, c.len.ensures, s.parts.ok.0)) w.index.ensures
            (w.has_cell.ensures.0 w.if-has_cell.false)
            c.loop-self.invariant.none
        | else-last-len-via-else-last-len w ↦
            subst (All HasNoCell)
            (sym (drop_all (s.with_cells - 1) ps (omega (arith, w.if-last-len.false, c.len.ensures, s.parts.ok.0))))
            (All-nil HasNoCell)
      ];
    }
