use Rattle.std.proofs.Common.{◌≡◌, All, ◌+◌, length, map, reverse, ◌++◌, take, Some}
use Rattle.kfifo_c.specs.Fields.{AreNew}
use Rattle.kfifo_c.specs.Handles.{behind, fields_of}
use Rattle.kfifo_c.proofs.handles.put_all.Given as goal

abbrev pub invariant-loop-handle : goal.invariant-loop-handle
invariant-loop-handle g l = record {
  left : length l.seats.items + l.handle-index ≡ length l.handles;
  put : behind (take l.handle-index l.handles)
      ++ map (λ seat. Some (g.S.Seating.behind seat)) (reverse (map (λ seat. seat.value) l.seats.items))
      ≡ map (λ seat. Some (g.S.Seating.behind seat)) (reverse (map (λ seat. seat.value) l.fn.seats.items));
  fields : All (λ handle. AreNew l.address g.S.Seating.KIND l.size l.alignment (fields_of handle))
      (take l.handle-index l.handles);
}
