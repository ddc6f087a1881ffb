-- The cells that are left of a queue, from one on.
use Rattle.std.proofs.Common.{◌≡◌, ◌<◌, ◌≤◌, ◌+◌, ◌++◌, ◌∷◌, [], ℕ, List, length, drop, get_or, ap, sym, ◌∙◌, arith}
use Rattle.std.proofs.lemmas.List.{drop_all, drop_more, drop-append-le}
use Rattle.kfifo_c.specs.CellQueues.{all_cells}

-- those of a generation and of the later ones
split : (gs : List (List ℕ)) (g c : ℕ) → g < length gs → c ≤ length (get_or gs g [])
    → drop c (all_cells (drop g gs)) ≡ drop c (get_or gs g []) ++ all_cells (drop (g + 1) gs)
split gs g c below within =
    ap (λ l. drop c (all_cells l)) (drop_more gs g [] below)
    ∙ drop-append-le c (get_or gs g []) (all_cells (drop (g + 1) gs)) within

-- one of a generation is the next
pub next_cell : (gs : List (List ℕ)) (g c d : ℕ) → g < length gs → c < length (get_or gs g [])
    → drop c (all_cells (drop g gs)) ≡ get_or (get_or gs g []) c d ∷ drop (c + 1) (all_cells (drop g gs))
next_cell gs g c d below within =
    let cells = get_or gs g [] in let later = all_cells (drop (g + 1) gs) in
    split gs g c below (omega arith) ∙ ap (λ l. l ++ later) (drop_more cells c d within)
    ∙ ap (λ l. get_or cells c d ∷ l) (sym (split gs g (c + 1) below (omega arith)))

-- those of a generation were all handed out
pub next_generation : (gs : List (List ℕ)) (g c : ℕ) → g < length gs → c ≤ length (get_or gs g [])
    → length (get_or gs g []) ≤ c → drop c (all_cells (drop g gs)) ≡ all_cells (drop (g + 1) gs)
next_generation gs g c below within over =
    split gs g c below within ∙ ap (λ l. l ++ all_cells (drop (g + 1) gs)) (drop_all c (get_or gs g []) over)

-- and those of all
pub no_more : (gs : List (List ℕ)) (g c : ℕ) → length gs ≤ g → drop c (all_cells (drop g gs)) ≡ []
no_more gs g c over = ap (λ l. drop c (all_cells l)) (drop_all g gs over) ∙ drop_all c [] (omega arith)
