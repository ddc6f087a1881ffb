use Rattle.std.proofs.Common.{[], ◌∷◌, arith, refl, sym, inl, inr, append-nil}
use Rattle.std.proofs.lemmas.Str.Pattern.{split_parts}
use Rattle.kfifo_cli_texts.proofs.Calls.{no_start}
use Rattle.kfifo_cli_texts.proofs.words.read_start.Goals as goal

pub returns-in_err-read_within-in-Some : goal.returns-in_err-read_within-in-Some
returns-in_err-read_within-in-Some c =
    let parts = split_parts 58 c.args.word.now c.split_once.result c.split_once.ensures.cases (omega arith) in
    let here = rw c.in-Some.is at parts in
    rw c.from_residual.ensures (no_start c.args.k c.args.word.now c.in-Some.name.now c.in-Some.number.now
    (record { split = here.0; plain = here.1 })
    (λ n below. c.in_err-read_within-in-Some.ensures n (omega arith) (omega arith)))

pub returns-in_ok-read_within-in-Some : goal.returns-in_ok-read_within-in-Some
returns-in_ok-read_within-in-Some c =
    let parts = split_parts 58 c.args.word.now c.split_once.result c.split_once.ensures.cases (omega arith) in
    let here = rw c.in-Some.is at parts in
    let start = c.in_ok-read_within-in-Some.ensures in (
      58 ∷ c.in-Some.number.now,
      record { split = here.0; plain = here.1 },
      inr (c.in-Some.number.now, refl, start.0),
      omega (arith, start.2),
    )

pub returns-in-None : goal.returns-in-None
returns-in-None c =
    let parts = split_parts 58 c.args.word.now c.split_once.result c.split_once.ensures.cases (omega arith) in
    let here = rw c.in-None.is at parts in
    ([], record { split = sym (append-nil c.args.word.now); plain = here }, inl (refl, refl), omega arith)
