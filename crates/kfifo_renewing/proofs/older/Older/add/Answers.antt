-- The handle may have a cell in the part that is added, and in none of those behind it.
use Rattle.std.proofs.Common.{◌≡◌, ◌∷◌, [], ◌++◌, All, ap, arith, drop, length, refl, subst, sym, ◌∙◌, vec_capacity}
use Rattle.std.proofs.Common.{vec_len}
use Rattle.std.proofs.Math.Seq.{drop-append_seam}
use Rattle.kfifo_renewing.specs.Joining.{HasNoCell, OlderView}
use Rattle.kfifo_renewing.proofs.Joining.{all-moved}
use Rattle.kfifo_renewing.proofs.NoCells.{all-from-append}
use Rattle.std.proofs.lemmas.List.Elements.{All-cons, All-nil}
use Rattle.kfifo_renewing.proofs.older.Older.add.Goals.{then-has_cell, else-has_cell}
use Rattle.kfifo_renewing.proofs.older.Older.add.Goals as goal

pub invariant_of-self : goal.invariant_of-self
invariant_of-self g c =
    let T = g.row.T.Denot in
    let s = c.self.inside in
    let ps = s.parts.items in
    let between = c.args.between.now.items in
    let pushed = c.if-has_cell.self-inside.parts in
    let parts : pushed ≡ c.push_reserved.new.self = elim c.if-has_cell.branch [
      | then-has_cell w ↦ ap (λ x. x.parts) w.self-inside-is
      | else-has_cell w ↦ ap (λ x. x.parts) w.self-inside-is
    ] in
    let is : c.append.new.self.items ≡ (ps ++ c.args.part ∷ []) ++ between =
    all-moved c.append.result c.append.new.self.items pushed.items ps ps between c.args.part c.args.part
    c.append.ensures.items (c.append.ensures.succeeds (omega (
      arith,
      c.requires.room,
      ap (λ p. vec_len p) parts,
      ap (λ p. vec_capacity p) parts,
      c.push_reserved.ensures.len,
      c.push_reserved.ensures.capacity,
      ap (λ (v : OlderView T). length v.items) c.self.view_is,
      ap (λ (v : OlderView T). v.capacity) c.self.view_is,
      s.parts.ok.0,
      c.args.between.now.ok.0,
    )))
    (ap (λ p. p.items) parts ∙ c.push_reserved.ensures.items) refl refl in
    subst (λ l. All HasNoCell (drop c.if-has_cell.self-inside.with_cells l)) (sym is)
    (elim c.if-has_cell.branch [
      | then-has_cell w ↦
          let count : c.if-has_cell.self-inside.with_cells ≡ length (ps ++ c.args.part ∷ []) =
          ap (λ x. x.with_cells) w.self-inside-is
          ∙ omega (arith, w.len-self-inside.ensures, c.push_reserved.new.self.ok.0)
          ∙ ap length c.push_reserved.ensures.items in
          subst (λ n. All HasNoCell (drop n ((ps ++ c.args.part ∷ []) ++ between))) (sym count)
          (subst (All HasNoCell) (sym (drop-append_seam (ps ++ c.args.part ∷ []) between)) c.requires.none)
      | else-has_cell w ↦
          subst (λ n. All HasNoCell (drop n ((ps ++ c.args.part ∷ []) ++ between)))
          (sym (ap (λ x. x.with_cells) w.self-inside-is))
          (all-from-append HasNoCell (ps ++ c.args.part ∷ []) between s.with_cells
          (all-from-append HasNoCell ps (c.args.part ∷ []) s.with_cells c.self.invariant
          (All-cons HasNoCell c.args.part [] (c.has_cell-has_cell.ensures.0 w.if-has_cell.false) (All-nil HasNoCell)))
          c.requires.none)
    ])
